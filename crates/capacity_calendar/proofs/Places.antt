-- The places that a connection books.
use Rattle.std.proofs.Common.{◌≡◌, ℕ, ◌⊎◌, inl, inr, List, [], ◌++◌, Bool, true, false, eqb, Option, Some, None, arith, refl, sym, ap, ◌∙◌, subst}
use Rattle.std.proofs.lemmas.Bool.Decides.{nat_tests}
use Rattle.std.proofs.lemmas.List.Elements.{Contains-append_left, Contains-append_right, Contains-append_cases, Contains-push, Contains-push_cases}
use Rattle.std.specs.List.{Contains}
use Rattle.nsi_base.specs.Flows.{books}
use Rattle.nsi_base.specs.declared.flow.Flow.{Flow}
use Rattle.nsi_base.specs.declared.flow.Flow.TheVariants.{Both, In, Out}
use Rattle.capacity_calendar.specs.declared.booking.Capacity.{Capacity}
use Rattle.capacity_calendar.specs.declared.booking.Place.{Place}
use Rattle.capacity_calendar.specs.Places.{capacity_at, place_if, booked_place, places_at, places}

-- what books is at one end
at_an_end : (flow : Flow) (both_ways s d : Bool) → books flow both_ways s d ≡ true → (s ≡ true) ⊎ (d ≡ true)
at_an_end flow both_ways true d h = inl refl
at_an_end flow both_ways false true h = inr refl
at_an_end Both both_ways false false h = inl h
at_an_end In true false false h = inl h
at_an_end In false false false h = inl h
at_an_end Out true false false h = inl h
at_an_end Out false false false h = inl h

same : (a b : ℕ) → eqb a b ≡ true → a ≡ b
same a b h = grind (arith, nat_tests)

-- the place of a flow that is booked
place_there : (o : Option ℕ) (stp : ℕ) (flow : Flow) (booked : Bool) (capacity : ℕ) → o ≡ Some capacity → booked ≡ true → Contains (place_if o stp flow booked) (record { stp = stp; flow = flow; capacity = capacity })
place_there o stp flow booked capacity e b =
    let p : Place = record { stp = stp; flow = flow; capacity = capacity } in
    subst (λ (x : List Place). Contains x p) (sym (ap (λ x. place_if x stp flow booked) e ∙ ap (place_if (Some capacity) stp flow) b)) (Contains-push [] p)

-- the place of a flow is one of those of its point
at_point : (capacities : List Capacity) (source dest : ℕ) (both_ways : Bool) (stp : ℕ) (flow : Flow) (p : Place)
    → Contains (booked_place capacities source dest both_ways stp flow) p → Contains (places_at capacities source dest both_ways stp) p
at_point capacities source dest both_ways stp flow p = by_flow flow
  where
    at : Flow → List Place
    at flow = booked_place capacities source dest both_ways stp flow

    by_flow : (flow : Flow) → Contains (at flow) p → Contains (at Both ++ (at In ++ at Out)) p
    by_flow Both h = Contains-append_left (at Both) (at In ++ at Out) p h
    by_flow In h = Contains-append_right (at Both) (at In ++ at Out) p (Contains-append_left (at In) (at Out) p h)
    by_flow Out h = Contains-append_right (at Both) (at In ++ at Out) p (Contains-append_right (at In) (at Out) p h)

-- A flow of a point that a connection books is among its places.
pub booked_among_places : (capacities : List Capacity) (source dest : ℕ) (both_ways : Bool) (flow : Flow) (stp capacity : ℕ) → capacity_at capacities stp flow ≡ Some capacity
    → books flow both_ways (eqb source stp) (eqb dest stp) ≡ true → Contains (places capacities source dest both_ways) (record { stp = stp; flow = flow; capacity = capacity })
unfolding places
booked_among_places capacities source dest both_ways flow stp capacity e b =
    let p : Place = record { stp = stp; flow = flow; capacity = capacity } in
    let at = places_at capacities source dest both_ways in
    let here : Contains (at stp) p = at_point capacities source dest both_ways stp flow p (place_there (capacity_at capacities stp flow) stp flow (books flow both_ways (eqb source stp) (eqb dest stp)) capacity e b) in
    let P : ℕ → Type 0 = λ x. Contains (at x) p in
    elim (at_an_end flow both_ways (eqb source stp) (eqb dest stp) b) [
      | inl s ↦ Contains-append_left (at source) (at dest) p (subst P (sym (same source stp s)) here)
      | inr d ↦ Contains-append_right (at source) (at dest) p (subst P (sym (same dest stp d)) here)
    ]

none_of : (p : Place) → Contains [] p → ⊥
none_of p h = let lt = h.1 in omega arith

-- a place that is there is that of the flow, with its capacity, and is booked
only_place : (o : Option ℕ) (stp : ℕ) (flow : Flow) (booked : Bool) (p : Place) → Contains (place_if o stp flow booked) p → (c : ℕ) × (o ≡ Some c) × (booked ≡ true) × (record { stp = stp; flow = flow; capacity = c } ≡ p)
only_place None stp flow booked p h = absurd (none_of p h)
only_place (Some c) stp flow false p h = absurd (none_of p h)
only_place (Some c) stp flow true p h = elim (Contains-push_cases [] (record { stp = stp; flow = flow; capacity = c }) p h) [
  | inl n ↦ absurd (none_of p n)
  | inr e ↦ (c, refl, refl, e)
]

-- The place is one of a flow that the connection books, with the capacity that the flow has.
abbrev pub IsBooked : List Capacity → (source dest : ℕ) → (both_ways : Bool) → Place → Type 0
IsBooked capacities source dest both_ways p = (capacity_at capacities p.stp p.flow ≡ Some p.capacity) × (books p.flow both_ways (eqb source p.stp) (eqb dest p.stp) ≡ true)

only_of_flow : (capacities : List Capacity) (source dest : ℕ) (both_ways : Bool) (stp : ℕ) (flow : Flow) (p : Place) → Contains (booked_place capacities source dest both_ways stp flow) p → IsBooked capacities source dest both_ways p
only_of_flow capacities source dest both_ways stp flow p h =
    let only = only_place (capacity_at capacities stp flow) stp flow (books flow both_ways (eqb source stp) (eqb dest stp)) p h in
    let P : Place → Type 0 = λ x. IsBooked capacities source dest both_ways x in
    subst P only.3 (only.1, only.2)

only_of_point : (capacities : List Capacity) (source dest : ℕ) (both_ways : Bool) (stp : ℕ) (p : Place) → Contains (places_at capacities source dest both_ways stp) p → IsBooked capacities source dest both_ways p
only_of_point capacities source dest both_ways stp p h = elim (Contains-append_cases (at Both) (at In ++ at Out) p h) [
  | inl a ↦ only_of_flow capacities source dest both_ways stp Both p a
  | inr r ↦ elim (Contains-append_cases (at In) (at Out) p r) [
    | inl a ↦ only_of_flow capacities source dest both_ways stp In p a
    | inr a ↦ only_of_flow capacities source dest both_ways stp Out p a
  ]
]
  where
    at : Flow → List Place
    at flow = booked_place capacities source dest both_ways stp flow

-- Each place of a connection is of a flow that it books.
pub places_are_booked : (capacities : List Capacity) (source dest : ℕ) (both_ways : Bool) (p : Place) → Contains (places capacities source dest both_ways) p → IsBooked capacities source dest both_ways p
unfolding places
places_are_booked capacities source dest both_ways p h = elim (Contains-append_cases (places_at capacities source dest both_ways source) (places_at capacities source dest both_ways dest) p h) [
  | inl a ↦ only_of_point capacities source dest both_ways source p a
  | inr a ↦ only_of_point capacities source dest both_ways dest p a
]
