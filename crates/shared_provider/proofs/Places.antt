-- Where ids rise, a search finds the one record of an id.
use Rattle.std.proofs.Common.{◌≡◌, ◌≢◌, ◌∙◌, ◌⊎◌, inl, inr, ⊎_elim, ◌≤◌, ◌<◌, ℕ, Bool, true, false, [], cond, nat_lt, bytes_eq, List, length, get_or, Option, Some, None, Ok, Err, refl, sym, ap, arith, slice_get}
use Rattle.std.specs.Prelude.{position}
use Rattle.std.specs.List.{position_or_len}
use Rattle.std.specs.List.Sorted.{IsBinarySearchResult}
use Rattle.std.specs.Ordering.{nat_cmp}
use Rattle.std.proofs.lemmas.Bool.{cases_lt, lt-ltb, le-ltb}
use Rattle.std.proofs.lemmas.Bool.Decides.{nat_tests}
use Rattle.std.proofs.lemmas.List.Sums.{passes_at_first, fails_before_first}
use Rattle.std.proofs.lemmas.Slice.Eq.{bytes_eq-Decides}
use Rattle.std.proofs.lemmas.Option.{slice_get-get_or}
use Rattle.connection_record.specs.declared.record.Record.{Record}
use Rattle.connection_record.specs.Refusal.{place_of}
use Rattle.provider_agent.specs.State.{no_record}
use Rattle.provider_agent.specs.Good.{AreOrdered}
use Rattle.provider_agent.proofs.ByOwner.{found_of_owner, searched_at, searched_nowhere}
use Rattle.shared_provider.specs.Asked.{has_id}

has : (id : ℕ) (r : Record) → r.id ≡ id → has_id id r ≡ true
has id r is = grind (arith, nat_tests)

is_of : (id : ℕ) (r : Record) → has_id id r ≡ true → r.id ≡ id
is_of id r passes = grind (arith, nat_tests)

true_false : {A : Type 0} (b : Bool) → b ≡ true → b ≡ false → A
true_false b is isnt = cc

module _ (agent next id : ℕ) (records : List Record) (ordered : AreOrdered agent next records) where
  abbrev pub at : ℕ → Record
  at i = get_or records i no_record

  got : (i : ℕ) → i < length records → slice_get records i ≡ Some (at i)
  got i l = slice_get-get_or records i no_record l

  abbrev first : ℕ
  first = position_or_len (has_id id) records

  -- it is the first, since it is the only one
  first_is : (i : ℕ) → i < length records → (at i).id ≡ id → first ≡ i
  first_is i l is = ⊎_elim
      (λ early. absurd (omega (arith, is, is_of id (at first) (passes_at_first (has_id id) records no_record (omega (arith, early, l))), ordered.rise first i (at first) (at i) early (got first (omega (arith, early, l))) (got i l))))
      (λ late. ⊎_elim (λ after. true_false (has_id id (at i)) (has id (at i) is) (fails_before_first (has_id id) records i no_record after)) (λ no. omega (arith, late, no)) (cases_lt i first))
      (cases_lt first i)

  pub place_found : (i : ℕ) → i < length records → (at i).id ≡ id → position (has_id id) records ≡ Some i
  place_found i l is =
      ap (λ n. cond (nat_lt n (length records)) (Some n) None) (first_is i l is) ∙ ap (λ b. cond b (Some i) None) (lt-ltb i (length records) l)

  place_nowhere : ((i : ℕ) → i < length records → (at i).id ≢ id) → position (has_id id) records ≡ None
  place_nowhere never = ⊎_elim
      (λ early. absurd (never first early (is_of id (at first) (passes_at_first (has_id id) records no_record early))))
      (λ late. ap (λ b. cond b (Some first) None) (le-ltb first (length records) late))
      (cases_lt first (length records))

  pub place_searched : (i : ℕ) → i < length records → IsBinarySearchResult (λ (r : Record). nat_cmp r.id id) records (Ok i) → position (has_id id) records ≡ Some i
  place_searched i l searched = place_found i l (searched_at agent next id [] records ordered i searched no_record)

  pub place_unsearched : (k : ℕ) → k ≤ length records → IsBinarySearchResult (λ (r : Record). nat_cmp r.id id) records (Err k) → position (has_id id) records ≡ None
  place_unsearched k le parted = place_nowhere (λ i l is.
      let owner = (at i).owner in
      let here : place_of id owner records ≡ Some i = found_of_owner agent next id owner records ordered i (at i) (got i l) is ((bytes_eq-Decides owner owner).1 refl) in
      let nowhere : place_of id owner records ≡ None = searched_nowhere agent next id owner records ordered k le parted in
      apart i (place_of id owner records) here nowhere)
    where
      apart : (i : ℕ) (o : Option ℕ) → o ≡ Some i → o ≡ None → ⊥
      apart i o some none = cc
