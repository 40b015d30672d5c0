-- How the records that a tick has touched are made what they were.
use Rattle.std.proofs.Common.{◌≡◌, ◌≢◌, ◌<◌, ◌≤◌, ◌+◌, ◌⊎◌, inl, inr, ℕ, Bool, eqb, true, false, List, [], ◌∷◌, ◌++◌, length, set, get_or, drop, refl, sym, ap, subst, ◌∙◌, arith, Contains}
use Rattle.std.proofs.lemmas.List.{length-set, get_or-set_same, get_or-set_other, drop_more, drop_all, ext_get_or}
use Rattle.std.proofs.lemmas.List.Elements.{Contains-append_left, Contains-append_cases, Contains-push, Contains-push_cases}
use Rattle.std.proofs.lemmas.Bool.Decides.{nat_tests}
use Rattle.connection_record.specs.declared.record.Record.{Record}
use Rattle.connection_record.specs.Later.{IsLater}
use Rattle.connection_record.specs.Saved.{saved_of}
use Rattle.connection_record.proofs.Growing.{later_refl}
use Rattle.provider_agent.specs.State.{no_record, record_at}
use Rattle.provider_agent.specs.Ticks.{AreSaved, IsKeptAt, CanGoBack}
use Rattle.provider_agent.specs.declared.tick.Kept.{Kept}

---- A place and the others

set_here : (records : List Record) (n : ℕ) (r : Record) → n < length records → record_at n (set records n r) ≡ r
set_here records n r l = get_or-set_same records n r no_record l

set_elsewhere : (records : List Record) (n k : ℕ) (r : Record) → k ≢ n → record_at k (set records n r) ≡ record_at k records
set_elsewhere records n k r differ = get_or-set_other records n k r no_record differ

same_or_other : (k n : ℕ) → (k ≡ n) ⊎ (k ≢ n)
same_or_other k n = by_test (eqb k n) refl
  where
    by_test : (b : Bool) → eqb k n ≡ b → (k ≡ n) ⊎ (k ≢ n)
    by_test true e = inl (grind (arith, nat_tests))
    by_test false e = inr (λ s. grind (arith, nat_tests))

pub by_place : {A : Type 0} (k n : ℕ) → (k ≡ n → A) → (k ≢ n → A) → A
by_place {A} k n same differ = by_cases (same_or_other k n)
  where
    by_cases : (k ≡ n) ⊎ (k ≢ n) → A
    by_cases (inl e) = same e
    by_cases (inr d) = differ d

---- One record more is kept

pub saved_more : (rs now : List Record) (kept : List Kept) (k : Kept) → AreSaved rs kept → CanGoBack rs now kept → k.place < length now → k.saved ≡ saved_of (record_at k.place now) → record_at k.place now ≡ record_at k.place rs
    → AreSaved rs (kept ++ k ∷ [])
saved_more rs now kept k saved back l is same x has = elim (Contains-push_cases kept k x has) [
  | inl old ↦ saved x old
  | inr e ↦ subst (λ (y : Kept). (y.place < length rs) × (y.saved ≡ saved_of (record_at y.place rs))) e (omega (arith, back.long, l), is ∙ ap saved_of same)
]

kept_more : (kept : List Kept) (k : Kept) (n : ℕ) → IsKeptAt kept n → IsKeptAt (kept ++ k ∷ []) n
kept_more kept k n at = (at.0, Contains-append_left kept (k ∷ []) at.0 at.1, at.2)

pub back_more : (rs now : List Record) (kept : List Kept) (k : Kept) (own : Record) → CanGoBack rs now kept → k.place < length now → record_at k.place now ≡ record_at k.place rs → IsLater (record_at k.place now) own
    → CanGoBack rs (set now k.place own) (kept ++ k ∷ [])
back_more rs now kept k own back l same later = record {
  long = length-set now k.place own ∙ back.long;
  each = λ n m. by_place n k.place
      (λ e. inr ((k, Contains-push kept k, sym e), subst (λ i. IsLater (record_at i rs) (record_at i (set now k.place own))) (sym e) here))
      (λ d. elim (back.each n m) [
        | inl still ↦ inl (set_elsewhere now k.place n own d ∙ still)
        | inr moved ↦ inr (kept_more kept k n moved.0, subst (IsLater (record_at n rs)) (sym (set_elsewhere now k.place n own d)) moved.1)
      ]);
}
  where
    here : IsLater (record_at k.place rs) (record_at k.place (set now k.place own))
    here = subst (IsLater (record_at k.place rs)) (sym (set_here now k.place own l)) (subst (λ r. IsLater r own) same later)

---- One record is what it was

-- what is kept for other places is kept for them still
kept_less : (kept : List Kept) (i n : ℕ) (d : Kept) → i < length kept → n ≢ (get_or kept i d).place → IsKeptAt (drop i kept) n → IsKeptAt (drop (i + 1) kept) n
kept_less kept i n d l differ at = elim (Contains-append_cases (get_or kept i d ∷ []) (drop (i + 1) kept) at.0 (subst (λ xs. Contains xs at.0) (drop_more kept i d l) at.1)) [
  | inl first ↦ elim (Contains-push_cases [] (get_or kept i d) at.0 first) [
    | inl none ↦ absurd (omega (arith, none.1))
    | inr e ↦ absurd (differ (sym at.2 ∙ ap (λ (k : Kept). k.place) (sym e)))
  ]
  | inr rest ↦ (at.0, rest, at.2)
]

-- what stands at a place is a later form of what was there
pub later_at : (rs now : List Record) (kept : List Kept) (n : ℕ) → CanGoBack rs now kept → n < length rs → IsLater (record_at n rs) (record_at n now)
later_at rs now kept n back l = elim (back.each n l) [
  | inl still ↦ subst (IsLater (record_at n rs)) (sym still) (later_refl (record_at n rs))
  | inr moved ↦ moved.1
]

pub back_less : (rs now : List Record) (kept : List Kept) (i : ℕ) (d : Kept) → CanGoBack rs now (drop i kept) → i < length kept → (get_or kept i d).place < length rs
    → CanGoBack rs (set now (get_or kept i d).place (record_at (get_or kept i d).place rs)) (drop (i + 1) kept)
back_less rs now kept i d back l inside = record {
  long = length-set now place own ∙ back.long;
  each = λ n m. by_place n place
      (λ e. inl (ap (λ k. record_at k (set now place own)) e ∙ (set_here now place own (omega (arith, back.long, inside)) ∙ ap (λ k. record_at k rs) (sym e))))
      (λ differ. elim (back.each n m) [
        | inl still ↦ inl (set_elsewhere now place n own differ ∙ still)
        | inr moved ↦ inr (kept_less kept i n d l differ moved.0, subst (IsLater (record_at n rs)) (sym (set_elsewhere now place n own differ)) moved.1)
      ]);
}
  where
    place : ℕ
    place = (get_or kept i d).place

    own : Record
    own = record_at place rs

pub all_back : (rs now : List Record) (kept : List Kept) (i : ℕ) → length kept ≤ i → CanGoBack rs now (drop i kept) → now ≡ rs
all_back rs now kept i le back = ext_get_or no_record now rs back.long (λ n l. elim (back.each n (omega (arith, back.long, l))) [
  | inl still ↦ still
  | inr moved ↦ let has : Contains [] moved.0.0 = subst (λ xs. Contains xs moved.0.0) (drop_all i kept le) moved.0.1 in absurd (omega (arith, has.1))
])

---- Nothing is kept yet

pub none_saved : (rs : List Record) (kept : List Kept) → kept ≡ [] → AreSaved rs kept
none_saved rs kept none = subst (λ ks. AreSaved rs ks) (sym none) (λ k has. absurd (omega (arith, has.1)))

pub none_moved : (rs : List Record) (kept : List Kept) → CanGoBack rs rs kept
none_moved rs kept = record { long = refl; each = λ n l. inl refl }

pub saved_within : (rs now : List Record) (kept : List Kept) → AreSaved rs kept → length now ≡ length rs → (k : Kept) → Contains kept k → k.place < length now
saved_within rs now kept saved long k has = let inside = (saved k has).0 in omega (arith, inside, long)
