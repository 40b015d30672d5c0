-- The first record that has work to do, from an index.
use Rattle.std.proofs.Common.{◌≡◌, ◌≤◌, ◌<◌, ◌+◌, ℕ, Bool, true, false, ◌&&◌, cond, nat_lt, Some, None, List, length, get_or, refl, sym, ap, ◌∙◌, arith, inl, inr}
use Rattle.std.specs.List.{position, position_or_len, Contains}
use Rattle.std.specs.List.Sorted.{IsStrictlyIncreasing}
use Rattle.std.proofs.lemmas.Bool.{false≢true, cases_lt}
use Rattle.std.proofs.lemmas.Bool.Decides.{nat_tests}
use Rattle.std.proofs.lemmas.List.{get_or_default}
use Rattle.std.proofs.lemmas.List.Sums.{position_or_len_is}
use Rattle.std.proofs.lemmas.Map.Keys.{non_decreasing_from_sorted, sorted_from_strictly_increasing}
use Rattle.connection_record.specs.declared.record.Record.{Record}
use Rattle.connection_record.specs.Applied.{has_work}
use Rattle.provider_agent.specs.State.{no_record, record_at}
use Rattle.provider_agent.specs.Indexed.{NamesWork}

-- whether there is a record at a place, which has work to do
abbrev pub is_at_work : List Record → ℕ → Bool
is_at_work records n = nat_lt n (length records) && has_work (record_at n records)

pub unless : (b : Bool) → (b ≡ true → ⊥) → b ≡ false
unless true h = absurd (h refl)
unless false h = refl

at_work : (records : List Record) (n : ℕ) → n < length records → has_work (record_at n records) ≡ true → is_at_work records n ≡ true
at_work records n l w = grind (arith, nat_tests)

pub within_at_work : (records : List Record) (n : ℕ) → is_at_work records n ≡ true → n < length records
within_at_work records n h = grind (arith, nat_tests)

waits_at_work : (records : List Record) (n : ℕ) → is_at_work records n ≡ true → has_work (record_at n records) ≡ true
waits_at_work records n h = grind (arith, nat_tests)

-- the first names are of places that have no work
abbrev pub IsIdleBefore : List Record → List ℕ → ℕ → Type 0
IsIdleBefore records waiting i = (j : ℕ) → j < i → is_at_work records (get_or waiting j 0) ≡ false

pub idle_more : (records : List Record) (waiting : List ℕ) (i place : ℕ) → IsIdleBefore records waiting i → i < length waiting → place ≡ get_or waiting i place → is_at_work records place ≡ false → IsIdleBefore records waiting (i + 1)
idle_more records waiting i place idle l is none j m = elim (cases_lt j i) [
  | inl before ↦ idle j before
  | inr le ↦
      let same : j ≡ i = omega arith in
      ap (λ k. is_at_work records (get_or waiting k 0)) same ∙ (ap (is_at_work records) (get_or_default waiting i 0 place l ∙ sym is) ∙ none)
]

module _ (records : List Record) (waiting : List ℕ) (names : NamesWork records waiting) where
  -- a place that has work is named behind those that have none
  named_behind : (i k : ℕ) → IsIdleBefore records waiting i → k < length records → has_work (record_at k records) ≡ true → (j : ℕ) × (i ≤ j) × (j < length waiting) × (get_or waiting j 0 ≡ k)
  named_behind i k idle l w =
      let has : Contains waiting k = names k l w in
      let at : get_or waiting has.0 0 ≡ k = get_or_default waiting has.0 0 k has.1 ∙ has.2 in
      elim (cases_lt has.0 i) [
        | inl before ↦ absurd (false≢true (sym (idle has.0 before) ∙ (ap (is_at_work records) at ∙ at_work records k l w)))
        | inr le ↦ (has.0, le, has.1, at)
      ]

  pub first_named : (i : ℕ) → IsStrictlyIncreasing waiting → IsIdleBefore records waiting i → i < length waiting → is_at_work records (get_or waiting i 0) ≡ true → Some (get_or waiting i 0) ≡ position has_work records
  first_named i up idle l w = sym (ap (λ n. cond (nat_lt n (length records)) (Some n) None) first ∙ there)
    where
      place : ℕ
      place = get_or waiting i 0

      within : place < length records
      within = within_at_work records place w

      none_before : (k : ℕ) → k < place → has_work (record_at k records) ≡ false
      none_before k m = unless (has_work (record_at k records)) (λ h.
          let behind = named_behind i k idle (omega (arith, within)) h in
          omega (arith, behind.3, m, non_decreasing_from_sorted waiting (sorted_from_strictly_increasing waiting up) i behind.0 0 behind.1 behind.2))

      first : position_or_len has_work records ≡ place
      first = position_or_len_is has_work records place no_record (omega (arith, within)) none_before (λ _. waits_at_work records place w)

      there : cond (nat_lt place (length records)) (Some place) None ≡ Some place
      there = grind (arith, nat_tests, within)

  pub none_named : (i : ℕ) → IsIdleBefore records waiting i → length waiting ≤ i → None ≡ position has_work records
  none_named i idle le = sym (ap (λ n. cond (nat_lt n (length records)) (Some n) None) first ∙ there)
    where
      never : (k : ℕ) → k < length records → has_work (record_at k records) ≡ false
      never k m = unless (has_work (record_at k records)) (λ h. let behind = named_behind i k idle m h in omega (arith, behind.1, behind.2))

      first : position_or_len has_work records ≡ length records
      first = position_or_len_is has_work records (length records) no_record (omega arith) never (λ m. absurd (omega (arith, m)))

      there : cond (nat_lt (length records) (length records)) (Some (length records)) None ≡ None
      there = grind (arith, nat_tests)
