-- The capacities of one point more.
use Rattle.std.proofs.Common.{◌≡◌, ◌≤◌, ◌<◌, ◌+◌, ℕ, zero, suc, add-one, Bool, true, false, ◌==◌, ◌&&◌, if◌then◌else◌, List, [], ◌∷◌, ◌++◌, length, Option, Some, None, inl, inr, refl, ap, sym, ◌∙◌, arith}
use Rattle.std.proofs.lemmas.Bool.{cases_eq, cases_lt}
use Rattle.std.proofs.lemmas.Bool.Decides.{nat_tests}
use Rattle.nsi_base.specs.Range.{within}
use Rattle.nsi_base.specs.declared.flow.Flow.{Flow}
use Rattle.stp_topology.specs.declared.network.Network.{Network}
use Rattle.stp_topology.specs.Network.{owner_of, capacity_of}
use Rattle.capacity_calendar.specs.declared.booking.Capacity.{Capacity}
use Rattle.capacity_calendar.specs.Places.{capacity_at, is_same_flow}
use Rattle.provider_agent.specs.Setting.{capacities_among, of_own, of_point, of_flow, setting_of}
use Rattle.provider_agent.specs.State.{State}
use Rattle.provider_agent.specs.Safety.{IsCapped}
use Rattle.provider_agent.specs.Points.{IsPointOf, IsWithinTopology}

-- what lies in a range is the number itself
pub within_is : (low high n m : ℕ) → within low high n ≡ Some m → m ≡ n
within_is low high n m h = grind (arith, nat_tests)

among_one : (t : Network) (provider n : ℕ) → capacities_among t provider n ++ of_own t provider n ≡ capacities_among t provider (suc n)
unfolding capacities_among
among_one t provider n = refl

pub among_more : (t : Network) (provider n stp : ℕ) (old new : List Capacity) → stp ≡ n → old ≡ capacities_among t provider n → new ≡ old ++ of_own t provider stp → new ≡ capacities_among t provider (n + 1)
among_more t provider n stp old new s o p =
    p ∙ (ap (λ x. x ++ of_own t provider stp) o ∙ (ap (λ x. capacities_among t provider n ++ of_own t provider x) s ∙ (among_one t provider n ∙ ap (capacities_among t provider) (sym (add-one n)))))

---- What is found among the capacities

-- the first of two, where it is there
abbrev first_some : Option ℕ → Option ℕ → Option ℕ
first_some None other = other
first_some (Some n) other = Some n

first_of_none : (o : Option ℕ) → first_some o None ≡ o
first_of_none None = refl
first_of_none (Some n) = refl

first_if : (b : Bool) (n : ℕ) (rest other : Option ℕ) → (if b then Some n else first_some rest other) ≡ first_some (if b then Some n else rest) other
first_if true n rest other = refl
first_if false n rest other = refl

at_both : (xs ys : List Capacity) (stp : ℕ) (flow : Flow) → capacity_at (xs ++ ys) stp flow ≡ first_some (capacity_at xs stp flow) (capacity_at ys stp flow)
at_both [] ys stp flow = refl
at_both (c ∷ cs) ys stp flow =
    ap (λ o. if (c.stp == stp) && is_same_flow c.flow flow then Some c.mbps else o) (at_both cs ys stp flow)
    ∙ first_if ((c.stp == stp) && is_same_flow c.flow flow) c.mbps (capacity_at cs stp flow) (capacity_at ys stp flow)

at_flow : (n : ℕ) (own : Flow) (mbps : Option ℕ) (stp : ℕ) (flow : Flow) → capacity_at (of_flow n own mbps) stp flow ≡ (if (n == stp) && is_same_flow own flow then mbps else None)
at_flow n own mbps stp flow = grind arith

-- a point's own capacities, which are the topology's
three_flows : (t : Network) (n : ℕ) (b : Bool) (flow : Flow)
    → first_some (if b && is_same_flow Flow.Both flow then capacity_of t n Flow.Both else None)
    (first_some (if b && is_same_flow Flow.In flow then capacity_of t n Flow.In else None) (if b && is_same_flow Flow.Out flow then capacity_of t n Flow.Out else None))
    ≡ (if b then capacity_of t n flow else None)
three_flows t n true Flow.Both = first_of_none (capacity_of t n Flow.Both)
three_flows t n true Flow.In = first_of_none (capacity_of t n Flow.In)
three_flows t n true Flow.Out = refl
three_flows t n false flow = refl

at_point : (t : Network) (n stp : ℕ) (flow : Flow) → capacity_at (of_point t n) stp flow ≡ (if n == stp then capacity_of t n flow else None)
at_point t n stp flow =
    let both = of_flow n Flow.Both (capacity_of t n Flow.Both) in
    let inward = of_flow n Flow.In (capacity_of t n Flow.In) in
    let outward = of_flow n Flow.Out (capacity_of t n Flow.Out) in
    at_both both (inward ++ outward) stp flow
    ∙ (ap (first_some (capacity_at both stp flow)) (at_both inward outward stp flow)
    ∙ (ap (λ o. first_some o (first_some (capacity_at inward stp flow) (capacity_at outward stp flow))) (at_flow n Flow.Both (capacity_of t n Flow.Both) stp flow)
    ∙ (ap (λ o. first_some (if (n == stp) && is_same_flow Flow.Both flow then capacity_of t n Flow.Both else None) (first_some o (capacity_at outward stp flow))) (at_flow n Flow.In (capacity_of t n Flow.In) stp flow)
    ∙ (ap (λ o. first_some (if (n == stp) && is_same_flow Flow.Both flow then capacity_of t n Flow.Both else None) (first_some (if (n == stp) && is_same_flow Flow.In flow then capacity_of t n Flow.In else None) o)) (at_flow n Flow.Out (capacity_of t n Flow.Out) stp flow)
    ∙ three_flows t n (n == stp) flow))))

-- where the point is the provider's
abbrev own_at : Network → (provider stp : ℕ) → Flow → Option ℕ
own_at t provider stp flow = if owner_of t stp == provider then capacity_of t stp flow else None

own_by : (b c : Bool) (t : Network) (n stp : ℕ) (flow : Flow) → (n == stp) ≡ c → capacity_at (if b then of_point t n else []) stp flow ≡ (if c then (if b then capacity_of t n flow else None) else None)
own_by true c t n stp flow e = at_point t n stp flow ∙ ap (λ x. if x then capacity_of t n flow else None) e
own_by false true t n stp flow e = refl
own_by false false t n stp flow e = refl

at_here : (t : Network) (provider stp : ℕ) (flow : Flow) → (stp == stp) ≡ true → capacity_at (of_own t provider stp) stp flow ≡ own_at t provider stp flow
at_here t provider stp flow e = own_by (owner_of t stp == provider) true t stp stp flow e

at_other : (t : Network) (provider n stp : ℕ) (flow : Flow) → (n == stp) ≡ false → capacity_at (of_own t provider n) stp flow ≡ None
at_other t provider n stp flow e = own_by (owner_of t n == provider) false t n stp flow e

same_place : (n : ℕ) → (n == n) ≡ true
same_place n = grind (arith, nat_tests)

other_place : (n m : ℕ) → (n ≡ m → ⊥) → (n == m) ≡ false
other_place n m d = grind (arith, nat_tests)

among_both : (t : Network) (provider n stp : ℕ) (flow : Flow)
    → capacity_at (capacities_among t provider (suc n)) stp flow ≡ first_some (capacity_at (capacities_among t provider n) stp flow) (capacity_at (of_own t provider n) stp flow)
unfolding capacities_among
among_both t provider n stp flow = at_both (capacities_among t provider n) (of_own t provider n) stp flow

none_before : (t : Network) (provider n stp : ℕ) (flow : Flow) → n ≤ stp → capacity_at (capacities_among t provider n) stp flow ≡ None
unfolding capacities_among
none_before t provider zero stp flow l = refl
none_before t provider (suc n) stp flow l =
    among_both t provider n stp flow
    ∙ (ap (λ o. first_some o (capacity_at (of_own t provider n) stp flow)) (none_before t provider n stp flow (omega arith))
    ∙ at_other t provider n stp flow (other_place n stp (λ e. absurd (omega arith))))

own_within : (t : Network) (provider n stp : ℕ) (flow : Flow) → stp < n → capacity_at (capacities_among t provider n) stp flow ≡ own_at t provider stp flow
own_within t provider zero stp flow l = absurd (omega arith)
own_within t provider (suc n) stp flow l = elim (cases_eq n stp) [
  | inl e ↦
      among_both t provider n stp flow
      ∙ (ap (λ o. first_some o (capacity_at (of_own t provider n) stp flow)) (none_before t provider n stp flow (omega arith))
      ∙ (ap (λ k. capacity_at (of_own t provider k) stp flow) e ∙ at_here t provider stp flow (same_place stp)))
  | inr d ↦
      among_both t provider n stp flow
      ∙ (ap (first_some (capacity_at (capacities_among t provider n) stp flow)) (at_other t provider n stp flow (other_place n stp d))
      ∙ (first_of_none (capacity_at (capacities_among t provider n) stp flow) ∙ own_within t provider n stp flow (omega arith)))
]

---- What the topology declares

-- The provider's points have the capacities that the topology declares.
pub own_capacity : (t : Network) (provider stp : ℕ) (flow : Flow) → IsPointOf t provider stp → capacity_at (setting_of t provider).capacities stp flow ≡ capacity_of t stp flow
own_capacity t provider stp flow own =
    own_within t provider (length t.stps) stp flow own.within
    ∙ ap (λ b. if b then capacity_of t stp flow else None) (ap (λ k. k == provider) own.owner ∙ same_place provider)

-- No other point has a capacity.
pub no_other : (t : Network) (provider stp : ℕ) (flow : Flow) → (IsPointOf t provider stp → ⊥) → capacity_at (setting_of t provider).capacities stp flow ≡ None
no_other t provider stp flow none = elim (cases_lt stp (length t.stps)) [
  | inr l ↦ none_before t provider (length t.stps) stp flow l
  | inl l ↦
      own_within t provider (length t.stps) stp flow l
      ∙ ap (λ b. if b then capacity_of t stp flow else None) (other_place (owner_of t stp) provider (λ e. none (record { within = l; owner = e })))
]

pub within_topology : (t : Network) (provider : ℕ) (s : State) → IsCapped (setting_of t provider) s → IsWithinTopology t provider s
within_topology t provider s capped stp own flow second capacity declared =
    capped flow stp second capacity (own_capacity t provider stp flow own ∙ declared)
