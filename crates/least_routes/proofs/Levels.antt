-- A table of the least steps is filled, level by level, until a level notes nothing.
use Rattle.std.proofs.Common.{◌≡◌, ℕ, zero, suc, ◌+◌, ◌<◌, ◌≤◌, ◌||◌, inl, inr, List, Bool, true, false, Option, None, replicate, length, refl, subst, arith}
use Rattle.std.proofs.Math.ListN.{length-replicate}
use Rattle.path_segments.specs.declared.search.Step.{Step}
use Rattle.path_segments.specs.Steps.{at, open_places, Hop, HoldsFor, Sound, Complete}
use Rattle.path_segments.specs.Searches.{Grows}
use Rattle.path_segments.proofs.Marks.{hop_kept, mark_holds, next_exit, pass_exit, next_level, all_levels, table_start, open_start}
use Rattle.path_segments.proofs.Searches.{grows_same, grows_join}
use Rattle.least_routes.proofs.Deciding.{Decided, decide_hop}
use Rattle.least_routes.proofs.Marking.{Marked, mark_all}

-- segments lead between so many points through so many children, and which there are can be decided
pub record IsFinite (segment : ℕ → ℕ → ℕ → Type 0) (points children : ℕ) : Type 0 where
  pub decide : (place p q : ℕ) → Decided (segment place p q)
  pub place : (place p q : ℕ) → segment place p q → place < children
  pub entry : (place p q : ℕ) → segment place p q → p < points
  pub exit : (place p q : ℕ) → segment place p q → q < points

-- a table after some turns: the steps before that one are noted
pub record Filled (pairs : ℕ → Option ℕ) (segment : ℕ → ℕ → ℕ → Type 0) (dest rest exit place : ℕ) (old : List (Option Step)) : Type 0 where
  pub steps : List (Option Step)
  pub grew : Bool
  pub grows : Grows grew old steps
  pub holds : HoldsFor pairs segment dest rest exit place (at steps)

-- while the children take their turns at one exit
record AtExit (pairs : ℕ → Option ℕ) (segment : ℕ → ℕ → ℕ → Type 0) (dest rest exit place : ℕ) (old : List (Option Step)) : Type 0 where
  filled : Filled pairs segment dest rest exit place old
  hop : Hop (at filled.steps) pairs dest rest exit

turn_of_child : (pairs : ℕ → Option ℕ) (segment : ℕ → ℕ → ℕ → Type 0) (points children : ℕ) → IsFinite segment points children → (dest rest exit place : ℕ) (old : List (Option Step)) → length old ≡ points
    → AtExit pairs segment dest rest exit place old → AtExit pairs segment dest rest exit (suc place) old
turn_of_child pairs segment points children finite dest rest exit place old long a =
    let step : Step = record { rest = rest; exit = exit; place = place } in
    let m : Marked (λ p. segment place p exit) step a.filled.steps = mark_all step a.filled.steps (λ p. segment place p exit) (λ p. finite.decide place p exit) in
    let next : place + 1 ≡ suc place = omega arith in
    let same = a.filled.grows.same_length in
    record {
      filled = record {
        steps = m.steps;
        grew = a.filled.grew || m.grew;
        grows = grows_join a.filled.grew m.grew old a.filled.steps m.steps a.filled.grows m.grows;
        holds = subst (λ z. HoldsFor pairs segment dest rest exit z (at m.steps)) next
            (mark_holds pairs segment dest step (at a.filled.steps) (at m.steps) m.changes
            (λ p s. let within = finite.entry place p exit s in m.noted p s (omega (arith, within, same, long))) a.hop a.filled.holds);
      };
      hop = hop_kept (λ p. segment place p exit) step (at a.filled.steps) (at m.steps) m.changes pairs dest rest exit a.hop;
    }

turns_of_children : (pairs : ℕ → Option ℕ) (segment : ℕ → ℕ → ℕ → Type 0) (points children : ℕ) → IsFinite segment points children → (dest rest exit place : ℕ) (old : List (Option Step)) → length old ≡ points
    → Hop (at old) pairs dest rest exit → HoldsFor pairs segment dest rest exit 0 (at old) → AtExit pairs segment dest rest exit place old
turns_of_children pairs segment points children finite dest rest exit zero old long hop holds = record { filled = record { steps = old; grew = false; grows = grows_same old; holds = holds }; hop = hop }
turns_of_children pairs segment points children finite dest rest exit (suc place) old long hop holds =
    turn_of_child pairs segment points children finite dest rest exit place old long (turns_of_children pairs segment points children finite dest rest exit place old long hop holds)

turn_of_exit : (pairs : ℕ → Option ℕ) (segment : ℕ → ℕ → ℕ → Type 0) (points children : ℕ) → IsFinite segment points children → (dest rest exit : ℕ) (old : List (Option Step)) → length old ≡ points
    → HoldsFor pairs segment dest rest exit 0 (at old) → Filled pairs segment dest rest (exit + 1) 0 old
turn_of_exit pairs segment points children finite dest rest exit old long holds = elim (decide_hop (at old) pairs dest rest exit) [
  | inl hop ↦ (let a = turns_of_children pairs segment points children finite dest rest exit children old long hop holds in record {
    steps = a.filled.steps;
    grew = a.filled.grew;
    grows = a.filled.grows;
    holds = next_exit pairs segment dest rest exit children (at a.filled.steps) finite.place a.filled.holds;
  })
  | inr away ↦ record { steps = old; grew = false; grows = grows_same old; holds = pass_exit pairs segment dest rest exit (at old) away holds }
]

then_filled : (pairs : ℕ → Option ℕ) (segment : ℕ → ℕ → ℕ → Type 0) (dest rest exit rest2 exit2 : ℕ) (old : List (Option Step)) (f : Filled pairs segment dest rest exit 0 old)
    → Filled pairs segment dest rest2 exit2 0 f.steps → Filled pairs segment dest rest2 exit2 0 old
then_filled pairs segment dest rest exit rest2 exit2 old f g = record { steps = g.steps; grew = f.grew || g.grew; grows = grows_join f.grew g.grew old f.steps g.steps f.grows g.grows; holds = g.holds }

turns_of_exits : (pairs : ℕ → Option ℕ) (segment : ℕ → ℕ → ℕ → Type 0) (points children : ℕ) → IsFinite segment points children → (dest rest exit : ℕ) (old : List (Option Step)) → length old ≡ points
    → HoldsFor pairs segment dest rest 0 0 (at old) → Filled pairs segment dest rest exit 0 old
turns_of_exits pairs segment points children finite dest rest zero old long holds = record { steps = old; grew = false; grows = grows_same old; holds = holds }
turns_of_exits pairs segment points children finite dest rest (suc exit) old long holds =
    let f = turns_of_exits pairs segment points children finite dest rest exit old long holds in
    let same = f.grows.same_length in
    let next : exit + 1 ≡ suc exit = omega arith in
    subst (λ z. Filled pairs segment dest rest z 0 old) next
    (then_filled pairs segment dest rest exit rest (exit + 1) old f (turn_of_exit pairs segment points children finite dest rest exit f.steps (omega (arith, same, long)) f.holds))

level : (pairs : ℕ → Option ℕ) (segment : ℕ → ℕ → ℕ → Type 0) (points children : ℕ) → IsFinite segment points children → (dest rest : ℕ) (old : List (Option Step)) → length old ≡ points
    → HoldsFor pairs segment dest rest 0 0 (at old) → Filled pairs segment dest (rest + 1) 0 0 old
level pairs segment points children finite dest rest old long holds =
    let f = turns_of_exits pairs segment points children finite dest rest points old long holds in
    record { steps = f.steps; grew = f.grew; grows = f.grows; holds = next_level pairs segment dest rest points (at f.steps) finite.exit f.holds }

-- the least step of each point from which there is a path
pub record Table (pairs : ℕ → Option ℕ) (segment : ℕ → ℕ → ℕ → Type 0) (dest : ℕ) : Type 0 where
  pub steps : List (Option Step)
  pub sound : Sound (at steps) pairs segment dest
  pub complete : Complete (at steps) pairs segment dest

-- a level that notes nothing is the last
by_growth : (pairs : ℕ → Option ℕ) (segment : ℕ → ℕ → ℕ → Type 0) (dest rest : ℕ) (old : List (Option Step)) → HoldsFor pairs segment dest rest 0 0 (at old) → (f : Filled pairs segment dest (rest + 1) 0 0 old)
    → (grew : Bool) → f.grew ≡ grew → (f.grew ≡ true → Table pairs segment dest) → Table pairs segment dest
by_growth pairs segment dest rest old holds f true is on = on is
by_growth pairs segment dest rest old holds f false is on = record {
  steps = old;
  sound = holds.sound;
  complete = all_levels pairs segment dest rest (at old) holds (subst (λ z. HoldsFor pairs segment dest (rest + 1) 0 0 (at z)) (f.grows.same is) f.holds);
}

fill : (pairs : ℕ → Option ℕ) (segment : ℕ → ℕ → ℕ → Type 0) (points children : ℕ) → IsFinite segment points children → (dest fuel rest : ℕ) (old : List (Option Step)) → open_places old ≤ fuel → length old ≡ points
    → HoldsFor pairs segment dest rest 0 0 (at old) → Table pairs segment dest
fill pairs segment points children finite dest zero rest old few long holds =
    let f = level pairs segment points children finite dest rest old long holds in
    by_growth pairs segment dest rest old holds f f.grew refl (λ is. let fewer = f.grows.fewer is in absurd (omega (arith, fewer, few)))
fill pairs segment points children finite dest (suc fuel) rest old few long holds =
    let f = level pairs segment points children finite dest rest old long holds in
    let same = f.grows.same_length in
    by_growth pairs segment dest rest old holds f f.grew refl
    (λ is. let fewer = f.grows.fewer is in fill pairs segment points children finite dest fuel (rest + 1) f.steps (omega (arith, fewer, few)) (omega (arith, same, long)) f.holds)

pub table : (pairs : ℕ → Option ℕ) (segment : ℕ → ℕ → ℕ → Type 0) (points children : ℕ) → IsFinite segment points children → (dest : ℕ) → Table pairs segment dest
table pairs segment points children finite dest =
    let none : List (Option Step) = replicate points None in
    let all_open = open_start points none refl in
    fill pairs segment points children finite dest points 0 none (omega (arith, all_open)) (length-replicate {A = Option Step} points None) (table_start pairs segment dest points none refl)
