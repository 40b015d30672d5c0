-- Deadlines that have come are taken out, the soonest first.
use Rattle.std.proofs.Common.{◌≡◌, ◌↔◌, ◌≤◌, ◌<◌, ◌⊎◌, inl, inr, ◌∙◌, refl, ℕ, Option, None, Some, List, [], ◌∷◌, arith, sym, ap, length, get_or, Contains, IsSome, IfSome}
use Rattle.std.specs.BinaryHeap.{IsUpperBound, PopsGreatest}
use Rattle.std.specs.declared.cmp.Reverse.{Reverse}
use Rattle.std.specs.List.Sorted.{IsPermutation}
use Rattle.std.proofs.lemmas.Bool.{false≢true}
use Rattle.std.proofs.lemmas.List.Sorted.{Contains-permutation, IsPermutation-map, IsPermutation-sym}
use Rattle.record_index.specs.declared.deadlines.Deadline.{Deadline}
use Rattle.record_index.specs.Heap.{deadline_cmp, deadlines_of, IsSoonestFirst}
use Rattle.record_index.proofs.Members.{contains_first, contains_more, nothing_in}
use Rattle.record_index.proofs.Order.{no_sooner_by}

---- Adding

pub one_more : (old new : List (Reverse Deadline)) (x : Reverse Deadline) → IsPermutation (x ∷ old) new → (d : Deadline) → Contains (deadlines_of new) d ↔ ((d ≡ x.0) ⊎ Contains (deadlines_of old) d)
one_more old new x same d =
    let moved = IsPermutation-map (λ (r : Reverse Deadline). r.0) (x ∷ old) new same in (
      λ has. contains_first x.0 d (deadlines_of old) (Contains-permutation (deadlines_of new) (x.0 ∷ deadlines_of old) d (IsPermutation-sym (x.0 ∷ deadlines_of old) (deadlines_of new) moved) has),
      λ h. Contains-permutation (x.0 ∷ deadlines_of old) (deadlines_of new) d moved (contains_more x.0 d (deadlines_of old) h),
    )

---- Forgetting

-- from the old deadlines none was taken that is yet to come, and none was put in
pub record IsLeft (second : ℕ) (old now : List Deadline) : Type 0 where
  pub kept : (d : Deadline) → second < d.second → Contains old d → Contains now d
  pub within : (d : Deadline) → Contains now d → Contains old d

pub left_without_first : (second : ℕ) (old : List Deadline) (now rest : List (Reverse Deadline)) (first : Reverse Deadline) → IsPermutation now (first ∷ rest) → first.0.second ≤ second → IsLeft second old (deadlines_of now) → IsLeft second old (deadlines_of rest)
left_without_first second old now rest first same come left =
    let more = one_more rest now first (IsPermutation-sym now (first ∷ rest) same) in
    record {
      kept = λ d later has. elim ((more d).0 (left.kept d later has)) [
        | inl is ↦ absurd (omega (arith, ap (λ (e : Deadline). e.second) is, later, come))
        | inr there ↦ there
      ];
      within = λ d has. left.within d ((more d).1 (inr has));
    }

-- the one that is taken out is the first, and the others are a heap again
pub popped : (second : ℕ) (old : List Deadline) (now rest : List (Reverse Deadline)) (first : Reverse Deadline) (count : ℕ) (taken : Option (Reverse Deadline)) → IsSome taken ↔ (0 < count) → 0 < count
    → first ≡ get_or now 0 first → IfSome taken (λ x. x ≡ get_or now 0 x) → IfSome taken (λ x. IsPermutation now (x ∷ rest))
    → IfSome taken (λ x. PopsGreatest (λ (a b : Reverse Deadline). deadline_cmp b.0 a.0) now x rest) → first.0.second ≤ second → IsSoonestFirst now
    → IsLeft second old (deadlines_of now) → IsSoonestFirst rest × IsLeft second old (deadlines_of rest)
popped second old now rest first count None some more top at same greatest come order left = absurd (false≢true (some.1 more))
popped second old [] rest first count (Some x) some more top at same greatest come order left = absurd (nothing_in x (Contains-permutation (x ∷ rest) [] x (IsPermutation-sym [] (x ∷ rest) same) (contains_more x x rest (inl refl))))
popped second old (y ∷ ys) rest first count (Some x) some more top at same greatest come order left =
    let is : x ≡ first = at ∙ sym top in
    ((greatest order).0, left_without_first second old (y ∷ ys) rest x same (omega (arith, ap (λ (r : Reverse Deadline). r.0.second) is, come)) left)

-- the rest is to come: there is none,
pub none_later : (second : ℕ) (rs : List (Reverse Deadline)) → length rs ≡ 0 → (d : Deadline) → Contains (deadlines_of rs) d → second < d.second
none_later second [] none d has = absurd (nothing_in d has)
none_later second (r ∷ rs) none d has = absurd (omega (arith, none))

-- or the soonest is
pub all_later : (second : ℕ) (first : Reverse Deadline) (rs : List (Reverse Deadline)) → second < first.0.second → IsUpperBound (λ (x y : Reverse Deadline). deadline_cmp y.0 x.0) first rs → (d : Deadline) → Contains (deadlines_of rs) d → second < d.second
all_later second first [] later bound d has = absurd (nothing_in d has)
all_later second first (r ∷ rs) later bound d has = elim (contains_first r.0 d (deadlines_of rs) has) [
  | inl is ↦ omega (arith, later, no_sooner_by first.0 r.0 bound.0, ap (λ (e : Deadline). e.second) is)
  | inr there ↦ all_later second first rs later bound.1 d there
]

pub left_all : (second : ℕ) (old now : List Deadline) → IsLeft second old now → ((d : Deadline) → Contains now d → second < d.second) → (d : Deadline) → Contains now d ↔ ((second < d.second) × Contains old d)
left_all second old now left later d = (λ has. (later d has, left.within d has), λ h. left.kept d h.0 h.1)
