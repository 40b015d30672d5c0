-- Deadlines in their heap: what stands under one is no sooner, and all stand under the top.
use Rattle.std.proofs.Common.{◌≡◌, ◌↔◌, ◌≤◌, ◌<◌, ◌+◌, ◌-◌, ◌*◌, ◌/◌, ◌⊎◌, inl, inr, ◌∙◌, refl, ℕ, zero, suc, List, [], ◌∷◌, ◌++◌, Some, Result, Ok, Err, OnOk, arith, sym, ap, subst, length, get_or, slice_get, Contains}
use Rattle.std.specs.BinaryHeap.{IsHeap}
use Rattle.std.specs.declared.cmp.Reverse.{Reverse}
use Rattle.std.proofs.lemmas.Bool.{cases_lt}
use Rattle.std.proofs.lemmas.List.{length-map, get_or-map}
use Rattle.std.proofs.lemmas.List.Elements.{Contains-append_left, Contains-push, Contains-push_cases}
use Rattle.std.proofs.lemmas.Option.{get_or_from_slice_get, slice_get-get_or, slice_get_within}
use Rattle.record_index.specs.declared.deadlines.Deadline.{Deadline}
use Rattle.record_index.specs.Due.{IsDueIn}
use Rattle.record_index.specs.Heap.{above, deadlines_of, IsDueUnder, IsSoonestFirst}
use Rattle.record_index.proofs.Members.{nothing_in}
use Rattle.record_index.proofs.Order.{no_sooner_by}

abbrev second_of : Reverse Deadline → ℕ
second_of r = r.0.second

abbrev place_of : Reverse Deadline → ℕ
place_of r = r.0.place

---- Above and under

above_least : (n k : ℕ) → above n k ≤ k
above_least zero k = omega arith
above_least (suc n) k =
    let less = above_least n k in
    omega (arith, less)

above_from_half : (n k : ℕ) → above (suc n) k ≡ above n (k / 2)
above_from_half zero k = refl
above_from_half (suc n) k = ap (λ (x : ℕ). x / 2) (above_from_half n k)

reaches_top : (fuel k : ℕ) → 0 < k → k ≤ fuel → (n : ℕ) × (above n k ≡ 1)
reaches_top zero k some le = absurd (omega (arith, some, le))
reaches_top (suc fuel) k some le = elim (cases_lt 1 k) [
  | inl more ↦
      let up = reaches_top fuel (k / 2) (omega (arith, more)) (omega (arith, more, le)) in
      (suc up.0, above_from_half up.0 k ∙ up.1)
  | inr one ↦ (0, omega (arith, some, one))
]

---- The order

one_below : (rs : List (Reverse Deadline)) → IsSoonestFirst rs → (p k : ℕ) → p * 2 + 1 ≤ k → k ≤ p * 2 + 2 → (x z : Reverse Deadline) → slice_get rs p ≡ Some x → slice_get rs k ≡ Some z → x.0.second ≤ z.0.second
unfolding IsHeap
one_below rs heap p k low high x z there here =
    let order = no_sooner_by (get_or rs p z).0 (get_or rs k z).0 (heap p k z (omega arith) low high (slice_get_within rs k z here)) in
    omega (arith, order, ap second_of (get_or_from_slice_get rs p x z there), ap second_of (get_or_from_slice_get rs k z z here))

same_entry : (rs : List (Reverse Deadline)) (i j : ℕ) → i ≡ j → (x y : Reverse Deadline) → slice_get rs i ≡ Some x → slice_get rs j ≡ Some y → x ≡ y
same_entry rs i j same x y there here = sym (get_or_from_slice_get rs i x y there) ∙ ap (λ k. get_or rs k y) same ∙ get_or_from_slice_get rs j y y here

no_sooner : (rs : List (Reverse Deadline)) → IsSoonestFirst rs → (n at top : ℕ) → above n (at + 1) ≡ top + 1 → (x y : Reverse Deadline) → slice_get rs top ≡ Some x → slice_get rs at ≡ Some y → x.0.second ≤ y.0.second
no_sooner rs heap zero at top under x y there here =
    let same : at + 1 ≡ top + 1 = under in
    omega (arith, ap second_of (same_entry rs top at (omega (arith, same)) x y there here))
no_sooner rs heap (suc n) at top under x y there here =
    let half : above n (at + 1) / 2 ≡ top + 1 = under in
    let child : ℕ = above n (at + 1) - 1 in
    let is : above n (at + 1) ≡ child + 1 = omega (arith, half) in
    let within : child < length rs = omega (arith, is, above_least n (at + 1), slice_get_within rs at y here) in
    let z = get_or rs child y in
    let here_too = slice_get-get_or rs child y within in
    let later = no_sooner rs heap n at child is z y here_too here in
    let first = one_below rs heap top child (omega (arith, half, is)) (omega (arith, half, is)) x z there here_too in
    omega (arith, later, first)

---- What is due

pub nothing_under : (rs : List (Reverse Deadline)) (top now p : ℕ) → length rs ≤ top → IsDueUnder rs top now p → ⊥
nothing_under rs top now p past due = omega (arith, past, due.is_under, above_least due.steps (due.at + 1), slice_get_within rs due.at due.entry due.is_at)

pub none_due_under : (rs : List (Reverse Deadline)) → IsSoonestFirst rs → (top now p : ℕ) (x : Reverse Deadline) → slice_get rs top ≡ Some x → now < x.0.second → IsDueUnder rs top now p → ⊥
none_due_under rs heap top now p x there later due = omega (arith, later, due.due, no_sooner rs heap due.steps due.at top due.is_under x due.entry there due.is_at)

-- none is noted
pub as_they_were : (D : ℕ → Type 0) (places : List ℕ) → ((p : ℕ) → D p → ⊥) → (p : ℕ) → Contains places p ↔ (Contains places p ⊎ D p)
as_they_were D places none p = (
  λ has. inl has,
  λ h. elim h [
    | inl has ↦ has
    | inr due ↦ absurd (none p due)
  ],
)

under_here : (rs : List (Reverse Deadline)) (top now p : ℕ) (x : Reverse Deadline) → slice_get rs top ≡ Some x → x.0.second ≤ now → x.0.place ≡ p → IsDueUnder rs top now p
under_here rs top now p x there come is = record { at = top; steps = 0; is_under = refl; entry = x; is_at = there; place_is = is; due = come }

under_child : (rs : List (Reverse Deadline)) (top child now p : ℕ) → (child + 1) / 2 ≡ top + 1 → IsDueUnder rs child now p → IsDueUnder rs top now p
under_child rs top child now p below due =
    record {
      at = due.at;
      steps = suc due.steps;
      is_under = ap (λ (k : ℕ). k / 2) due.is_under ∙ below;
      entry = due.entry;
      is_at = due.is_at;
      place_is = due.place_is;
      due = due.due;
    }

-- it is the one at the place itself, or stands under one of the two below it
by_steps : (rs : List (Reverse Deadline)) (top now p : ℕ) (x : Reverse Deadline) → slice_get rs top ≡ Some x → (n : ℕ) (due : IsDueUnder rs top now p) → above n (due.at + 1) ≡ top + 1
    → (x.0.place ≡ p) ⊎ (IsDueUnder rs (2 * top + 1) now p ⊎ IsDueUnder rs (2 * top + 2) now p)
by_steps rs top now p x there zero due under =
    let same : due.at + 1 ≡ top + 1 = under in
    inl (ap place_of (same_entry rs top due.at (omega (arith, same)) x due.entry there due.is_at) ∙ due.place_is)
by_steps rs top now p x there (suc n) due under =
    let half : above n (due.at + 1) / 2 ≡ top + 1 = under in
    elim (cases_lt (above n (due.at + 1)) (2 * top + 3)) [
      | inl first ↦
          inr (inl (record {
            at = due.at;
            steps = n;
            is_under = omega (arith, half, first);
            entry = due.entry;
            is_at = due.is_at;
            place_is = due.place_is;
            due = due.due;
          }))
      | inr second ↦
          inr (inr (record {
            at = due.at;
            steps = n;
            is_under = omega (arith, half, second);
            entry = due.entry;
            is_at = due.is_at;
            place_is = due.place_is;
            due = due.due;
          }))
    ]

-- the one at a place is noted, and then those under the two below it
pub noted : (rs : List (Reverse Deadline)) (top now : ℕ) (x : Reverse Deadline) → slice_get rs top ≡ Some x → x.0.second ≤ now → (old pushed left right : List ℕ) → pushed ≡ old ++ x.0.place ∷ []
    → ((p : ℕ) → Contains left p ↔ (Contains pushed p ⊎ IsDueUnder rs (2 * top + 1) now p))
    → ((p : ℕ) → Contains right p ↔ (Contains left p ⊎ IsDueUnder rs (2 * top + 2) now p))
    → (p : ℕ) → Contains right p ↔ (Contains old p ⊎ IsDueUnder rs top now p)
noted rs top now x there come old pushed left right is first second p = (to, from)
  where
    here : Contains pushed p → Contains old p ⊎ IsDueUnder rs top now p
    here has = elim (Contains-push_cases old x.0.place p (subst (λ xs. Contains xs p) is has)) [
      | inl before ↦ inl before
      | inr same ↦ inr (under_here rs top now p x there come same)
    ]

    early : Contains left p → Contains old p ⊎ IsDueUnder rs top now p
    early has = elim ((first p).0 has) [
      | inl was ↦ here was
      | inr under ↦ inr (under_child rs top (2 * top + 1) now p (omega arith) under)
    ]

    to : Contains right p → Contains old p ⊎ IsDueUnder rs top now p
    to has = elim ((second p).0 has) [
      | inl was ↦ early was
      | inr under ↦ inr (under_child rs top (2 * top + 2) now p (omega arith) under)
    ]

    stays : Contains (old ++ x.0.place ∷ []) p → Contains right p
    stays has = (second p).1 (inl ((first p).1 (inl (subst (λ xs. Contains xs p) (sym is) has))))

    from : Contains old p ⊎ IsDueUnder rs top now p → Contains right p
    from (inl was) = stays (Contains-append_left old (x.0.place ∷ []) p was)
    from (inr due) = elim (by_steps rs top now p x there due.steps due due.is_under) [
      | inl same ↦ stays (subst (Contains (old ++ x.0.place ∷ [])) same (Contains-push old x.0.place))
      | inr children ↦ elim children [
        | inl a ↦ (second p).1 (inl ((first p).1 (inr a)))
        | inr b ↦ (second p).1 (inr b)
      ]
    ]

-- what follows from a clause at Ok
pub on_ok : {X E P Q : Type 0} (r : Result X E) → (P → Q) → OnOk r P → OnOk r Q
on_ok (Ok x) f h = f h
on_ok (Err e) f h = h

---- All of them stand under the top

due_in : (rs : List (Reverse Deadline)) (now p : ℕ) → IsDueUnder rs 0 now p → IsDueIn (deadlines_of rs) now p
due_in rs now p due =
    let within = slice_get_within rs due.at due.entry due.is_at in
    let is = get_or-map (λ (r : Reverse Deadline). r.0) rs due.at due.entry due.entry.0 within ∙ ap (λ (r : Reverse Deadline). r.0) (get_or_from_slice_get rs due.at due.entry due.entry due.is_at) in
    (due.entry.0, (due.at, omega (arith, within, length-map rs (λ (r : Reverse Deadline). r.0)), is), due.place_is, due.due)

due_under : (rs : List (Reverse Deadline)) (now p : ℕ) → IsDueIn (deadlines_of rs) now p → IsDueUnder rs 0 now p
due_under rs now p (d, has, place, come) =
    let within : has.0 < length rs = omega (arith, has.1, length-map rs (λ (r : Reverse Deadline). r.0)) in
    let filler : Reverse Deadline = record { 0 = d } in
    let entry : Reverse Deadline = get_or rs has.0 filler in
    let is : entry.0 ≡ d = sym (get_or-map (λ (r : Reverse Deadline). r.0) rs has.0 filler d within) ∙ has.2 in
    let up = reaches_top (has.0 + 1) (has.0 + 1) (omega arith) (omega arith) in
    record {
      at = has.0;
      steps = up.0;
      is_under = up.1;
      entry = entry;
      is_at = slice_get-get_or rs has.0 filler within;
      place_is = ap (λ (x : Deadline). x.place) is ∙ place;
      due = omega (arith, ap (λ (x : Deadline). x.second) is, come);
    }

pub all_due : (rs : List (Reverse Deadline)) (now : ℕ) (places : List ℕ) → ((p : ℕ) → Contains places p ↔ (Contains [] p ⊎ IsDueUnder rs 0 now p)) → (p : ℕ) → Contains places p ↔ IsDueIn (deadlines_of rs) now p
all_due rs now places noted p = (
  λ has. elim ((noted p).0 has) [
    | inl none ↦ absurd (nothing_in p none)
    | inr due ↦ due_in rs now p due
  ],
  λ due. (noted p).1 (inr (due_under rs now p due)),
)
