-- How connections that were touched are made what they were.
use Rattle.std.proofs.Common.{◌≡◌, ◌≢◌, ◌<◌, inl, inr, ℕ, Bool, eqb, true, false, Option, Some, None, List, [], ◌∷◌, ◌++◌, length, set, refl, sym, ap, subst, ◌∙◌, arith}
use Rattle.std.proofs.lemmas.List.{length-set, get_or-set_same, get_or-set_other, set-get_or, ext_get_or}
use Rattle.std.specs.Global.{Vec}
use Rattle.std.specs.List.{Contains}
use Rattle.std.proofs.lemmas.List.Elements.{Contains-append_left, Contains-push, Contains-push_cases}
use Rattle.record_index.proofs.Members.{nothing_in}
use Rattle.std.proofs.lemmas.Bool.Decides.{nat_tests}
use Rattle.connection_record.specs.Later.{IsLater}
use Rattle.connection_record.specs.Saved.{saved_of}
use Rattle.connection_record.proofs.Growing.{later_refl}
use Rattle.child_connection.specs.Views.{ChildConnection}
use Rattle.aggregator_agent.specs.declared.keeping.Kept.{Kept}
use Rattle.aggregator_agent.specs.Bonds.{Bond, no_bond, bond_at}
use Rattle.aggregator_agent.specs.Undo.{Keeps, IsFormer, CanUndo, views_back}

---- A place and the others

pub by_place : {A : Type 0} (k n : ℕ) → (k ≡ n → A) → (k ≢ n → A) → A
by_place {A} k n same differ = by_test (eqb k n) refl
  where
    by_test : (b : Bool) → eqb k n ≡ b → A
    by_test true e = same (grind (arith, nat_tests))
    by_test false e = differ (λ s. grind (arith, nat_tests))

pub set_here : (bs : List Bond) (n : ℕ) (b : Bond) → n < length bs → bond_at n (set bs n b) ≡ b
set_here bs n b l = get_or-set_same bs n b no_bond l

pub set_elsewhere : (bs : List Bond) (n k : ℕ) (b : Bond) → k ≢ n → bond_at k (set bs n b) ≡ bond_at k bs
set_elsewhere bs n k b differ = get_or-set_other bs n k b no_bond differ

---- One more is kept

-- what keeps a connection can put it back from any later form
pub former_by : (k : Kept) (was now : Bond) → Keeps k was → IsLater was.own now.own → IsFormer k was now
former_by k was now keeps later = record { own = keeps.own; later = later; children = keeps.children now.children }

pub former_own : (k : Kept) (was now : Bond) → k.own ≡ saved_of was.own → k.children ≡ None → IsLater was.own now.own → now.children ≡ was.children → IsFormer k was now
former_own k was now own none later same = record { own = own; later = later; children = ap (λ o. views_back o now.children) none ∙ same }

pub undo_none : (bs : List Bond) (ks : List Kept) → ks ≡ [] → CanUndo bs bs ks
undo_none bs ks e = rw e (record {
  long = refl;
  within = λ k has. absurd (nothing_in k has);
  each = λ k has. absurd (nothing_in k has);
  rest = λ n h. refl;
})

-- the one at a place is kept, and becomes another
pub undo_more : (old now : List Bond) (ks : List Kept) (k : Kept) (b : Bond) → k.place < length now → ((x : Kept) → Contains ks x → x.place ≢ k.place) → IsFormer k (bond_at k.place now) b → CanUndo old now ks
    → CanUndo old (set now k.place b) (ks ++ k ∷ [])
undo_more old now ks k b within new former undo = record {
  long = length-set now k.place b ∙ undo.long;
  within = λ x has. elim (Contains-push_cases ks k x has) [
    | inl there ↦ undo.within x there
    | inr e ↦ subst (λ (y : Kept). y.place < length old) e (omega (arith, within, undo.long))
  ];
  each = λ x has. elim (Contains-push_cases ks k x has) [
    | inl there ↦ subst (IsFormer x (bond_at x.place old)) (sym (set_elsewhere now k.place x.place b (new x there))) (undo.each x there)
    | inr e ↦ subst (λ (y : Kept). IsFormer y (bond_at y.place old) (bond_at y.place (set now k.place b))) e here
  ];
  rest = λ n h.
      let differ : n ≢ k.place = λ e. h k (Contains-push ks k) (sym e) in
      set_elsewhere now k.place n b differ ∙ undo.rest n (λ x has. h x (Contains-append_left ks (k ∷ []) x has));
}
  where
    was : bond_at k.place now ≡ bond_at k.place old
    was = undo.rest k.place new

    here : IsFormer k (bond_at k.place old) (bond_at k.place (set now k.place b))
    here = subst (IsFormer k (bond_at k.place old)) (sym (set_here now k.place b within)) (subst (λ x. IsFormer k x b) was former)

-- the same, where it stays
pub undo_kept : (old now : List Bond) (ks : List Kept) (k : Kept) → k.place < length now → ((x : Kept) → Contains ks x → x.place ≢ k.place) → IsFormer k (bond_at k.place now) (bond_at k.place now) → CanUndo old now ks
    → CanUndo old now (ks ++ k ∷ [])
undo_kept old now ks k within new former undo =
    subst (λ bs. CanUndo old bs (ks ++ k ∷ [])) (set-get_or now k.place no_bond) (undo_more old now ks k (bond_at k.place now) within new former undo)

---- One is put back

pub former_last : (old now : List Bond) (ks : List Kept) (k : Kept) → CanUndo old now (ks ++ k ∷ []) → IsFormer k (bond_at k.place old) (bond_at k.place now)
former_last old now ks k undo = undo.each k (Contains-push ks k)

views_same : (copies : Option (Vec ChildConnection)) (was now : List ChildConnection) → views_back copies now ≡ was → views_back copies was ≡ was
views_same None was now e = refl
views_same (Some v) was now e = e

-- what is put back can be put back again
former_again : (k : Kept) (was now : Bond) → IsFormer k was now → IsFormer k was was
former_again k was now f = record { own = f.own; later = later_refl was.own; children = views_same k.children was.children now.children f.children }

pub undo_less : (old now after : List Bond) (ks : List Kept) (k : Kept) → CanUndo old now (ks ++ k ∷ []) → after ≡ set now k.place (bond_at k.place old) → CanUndo old after ks
undo_less old now after ks k undo is = subst (λ z. CanUndo old z ks) (sym is) less
  where
    back : Bond
    back = bond_at k.place old

    inside : k.place < length now
    inside = let l = undo.within k (Contains-push ks k) in let long = undo.long in omega (arith, l, long)

    has_more : (x : Kept) → Contains ks x → Contains (ks ++ k ∷ []) x
    has_more x has = Contains-append_left ks (k ∷ []) x has

    less : CanUndo old (set now k.place back) ks
    less = record {
      long = length-set now k.place back ∙ undo.long;
      within = λ x has. undo.within x (has_more x has);
      each = λ x has. by_place x.place k.place
          (λ e.
          let was : back ≡ bond_at x.place old = ap (λ i. bond_at i old) (sym e) in
          let is_back : bond_at x.place (set now k.place back) ≡ bond_at x.place old = ap (λ i. bond_at i (set now k.place back)) e ∙ (set_here now k.place back inside ∙ was) in
          subst (IsFormer x (bond_at x.place old)) (sym is_back) (former_again x (bond_at x.place old) (bond_at x.place now) (undo.each x (has_more x has))))
          (λ d. subst (IsFormer x (bond_at x.place old)) (sym (set_elsewhere now k.place x.place back d)) (undo.each x (has_more x has)));
      rest = λ n h. by_place n k.place
          (λ e. ap (λ i. bond_at i (set now k.place back)) e ∙ (set_here now k.place back inside ∙ ap (λ i. bond_at i old) (sym e)))
          (λ d. set_elsewhere now k.place n back d ∙ undo.rest n (λ x has. elim (Contains-push_cases ks k x has) [
            | inl there ↦ h x there
            | inr e ↦ (λ s. d (sym s ∙ ap (λ (y : Kept). y.place) (sym e)))
          ]));
    }

pub all_back : (old now : List Bond) (ks : List Kept) → ks ≡ [] → CanUndo old now ks → now ≡ old
all_back old now ks e undo = ext_get_or no_bond now old undo.long (λ n l. undo.rest n (λ k has. absurd (nothing_in k (subst (λ xs. Contains xs k) e has))))
