-- What the law takes for granted is needed: two runs of one text that differ, where a label may have a line feed; and where asks have any numbers.
use Rattle.std.proofs.Common.{◌≡◌, ◌≢◌, ◌<◌, ◌^◌, ℕ, zero, suc, List, [], ◌∷◌, ◌++◌, Some, None, length, refl, ap, arith}
use Rattle.std.specs.Prelude.{codes}
use Rattle.std.specs.List.{All}
use Rattle.std.proofs.lemmas.List.Elements.{All-cons, All-nil}
use Rattle.nsi_primitive.specs.Ranges.{IsName, IsRangedEvent}
use Rattle.nsi_primitive.specs.declared.ask.AskAnswer.{AskAnswer}
use Rattle.nsi_primitive.specs.declared.ask.What.{What}
use Rattle.nsi_primitive.specs.declared.entry.Event.{Event}
use Rattle.nsi_primitive.specs.declared.entry.Happening.{Happening}
use Rattle.nsi_primitive.specs.declared.entry.Input.{Input}
use Rattle.stp_topology.specs.Network.{agent_of, name_of}
use Rattle.stp_topology.specs.declared.network.AgentKind.{AgentKind}
use Rattle.stp_topology.specs.declared.network.PointCapacity.TheVariants.{Shared}
use Rattle.stp_topology.specs.declared.network.Network.{Network}
use Rattle.ask_text.specs.Asks.{verb_of as ask_verb}
use Rattle.trace_text.specs.Lines.{answer_text, line_of, text_of}
use Rattle.trace_reader.specs.Laws.{HasNames}
use Rattle.requester_agent.specs.Steps.{asked, asked_of, asks_found, find_view, step as requester_step, after as requester_after}
use Rattle.nsi_agent.specs.Homes.{Routes, home_in}
use Rattle.nsi_agent.specs.Steps.{after_as}
use Rattle.nsi_agent.specs.Told.{goes_on}
use Rattle.nsi_world.specs.Worlds.{empty}
use Rattle.nsi_world.specs.Runs.{AreAllowed, IsRun, asks_of, numbered}

abbrev t1 : Network
t1 =
    record {
      agents = codes "p1" ∷ codes "r1" ∷ [];
      kinds = AgentKind.Provider 60 ∷ AgentKind.Requester 0 ∷ [];
      stps = codes "A" ∷ codes "B" ∷ [];
      owners = 0 ∷ 0 ∷ [];
      capacities = Shared 1000 ∷ Shared 1000 ∷ [];
      partners = None ∷ None ∷ [];
      children = [];
    }

pub names : HasNames t1
names = record { named = named; found = found }
  where
    named : (a : ℕ) → a < length t1.agents → IsName (name_of t1 a)
    named zero h = refl
    named (suc zero) h = refl
    named (suc (suc a)) h = absurd (omega (arith, h))

    found : (a : ℕ) → a < length t1.agents → agent_of t1 (name_of t1 a) ≡ Some a
    found zero h = refl
    found (suc zero) h = refl
    found (suc (suc a)) h = absurd (omega (arith, h))

-- the requester is asked to commit what it doesn't know
abbrev commit : ℕ → List ℕ → Event
commit number label = record {
  agent = 1;
  what = Happening.Entry (record { second = 0; input = Input.Ask number (record { label = Some label; what = What.Commit }) }) (Some AskAnswer.NoId);
}

abbrev two_lines : List ℕ
two_lines = codes "c" ++ 10 ∷ codes "ask r1 noid commit d"

---- A label with a line feed

abbrev two_events : List Event
two_events = commit 0 (codes "c") ∷ commit 1 (codes "d") ∷ []

abbrev one_event : List Event
one_event = commit 0 two_lines ∷ []

pub one_text : text_of t1 two_events ≡ text_of t1 one_event
unfolding line_of ask_verb answer_text
one_text = refl

allowed_two : (routes : Routes) → AreAllowed (home_in t1 routes) empty two_events
unfolding AreAllowed home_in after_as requester_after requester_step asked asked_of asks_found find_view goes_on
allowed_two routes = (
  (refl, (omega arith, record { printable = record { label = λ h. refl; apart = tt }; in_time = refl; comes = refl; answered = refl })),
  ((refl, (omega arith, record { printable = record { label = λ h. refl; apart = tt }; in_time = refl; comes = refl; answered = refl })), tt),
)

pub two_run : (routes : Routes) → IsRun (home_in t1 routes) two_events
unfolding asks_of numbered
two_run routes = record { allowed = allowed_two routes; wishes = (1, record { label = Some (codes "c"); what = What.Commit }) ∷ (1, record { label = Some (codes "d"); what = What.Commit }) ∷ []; asked = refl }

allowed_one : (routes : Routes) (number : ℕ) (label : List ℕ) → AreAllowed (home_in t1 routes) empty (commit number label ∷ [])
unfolding AreAllowed home_in after_as requester_after requester_step asked asked_of asks_found find_view goes_on
allowed_one routes number label = (
  (refl, (omega arith, record { printable = record { label = λ h. refl; apart = tt }; in_time = refl; comes = refl; answered = refl })),
  tt,
)

pub one_run : (routes : Routes) (label : List ℕ) → IsRun (home_in t1 routes) (commit 0 label ∷ [])
unfolding asks_of numbered
one_run routes label = record { allowed = allowed_one routes 0 label; wishes = (1, record { label = Some label; what = What.Commit }) ∷ []; asked = refl }

they_differ : two_events ≢ one_event
they_differ e = cc

ranged : (number : ℕ) (label : List ℕ) → number < 2 ^ 32 → IsName label → IsRangedEvent (commit number label)
ranged number label few name = record {
  agent = omega arith;
  what = (record { second = omega arith; input = (few, record { label = name; what = tt }) }, tt);
}

ranged_two : All IsRangedEvent two_events
ranged_two =
    All-cons IsRangedEvent (commit 0 (codes "c")) (commit 1 (codes "d") ∷ []) (ranged 0 (codes "c") (omega arith) refl)
    (All-cons IsRangedEvent (commit 1 (codes "d")) [] (ranged 1 (codes "d") (omega arith) refl) (All-nil IsRangedEvent))

-- so the law is false where one of the runs has numbers and texts out of their ranges
abbrev AreToldUnranged : Type 0
AreToldUnranged =
    (t : Network) (routes : Routes) (es fs : List Event) → HasNames t → IsRun (home_in t routes) es → IsRun (home_in t routes) fs
    → All IsRangedEvent es → text_of t es ≡ text_of t fs → es ≡ fs

pub ranges_are_needed : AreToldUnranged → ⊥
ranges_are_needed told = they_differ (told t1 (λ a p q. []) two_events one_event names (two_run (λ a p q. [])) (one_run (λ a p q. []) two_lines) ranged_two one_text)

---- Asks with any numbers

abbrev asked_as : ℕ → List Event
asked_as number = commit number (codes "c") ∷ []

ranged_one : (number : ℕ) → number < 2 ^ 32 → All IsRangedEvent (asked_as number)
ranged_one number few = All-cons IsRangedEvent (commit number (codes "c")) [] (ranged number (codes "c") few refl) (All-nil IsRangedEvent)

one_text_too : text_of t1 (asked_as 0) ≡ text_of t1 (asked_as 7)
unfolding line_of ask_verb answer_text
one_text_too = refl

abbrev number_of : Input → ℕ
number_of (Input.Ask number ask) = number
number_of _ = 0

abbrev number_in : Happening → ℕ
number_in (Happening.Entry entry answer) = number_of entry.input
number_in _ = 0

abbrev first_number : List Event → ℕ
first_number [] = 0
first_number (e ∷ es) = number_in e.what

apart : (m n : ℕ) → m < n → m ≡ n → ⊥
apart m n l e = absurd (omega (arith, l, e))

-- and where the asks of one aren't numbered from 0 on
abbrev AreToldUnnumbered : Type 0
AreToldUnnumbered =
    (t : Network) (routes : Routes) (es fs : List Event) → HasNames t → IsRun (home_in t routes) es → AreAllowed (home_in t routes) empty fs
    → All IsRangedEvent es → All IsRangedEvent fs → text_of t es ≡ text_of t fs → es ≡ fs

pub numbers_are_needed : AreToldUnnumbered → ⊥
numbers_are_needed told =
    let same : asked_as 0 ≡ asked_as 7 =
    told t1 (λ a p q. []) (asked_as 0) (asked_as 7) names (one_run (λ a p q. []) (codes "c")) (allowed_one (λ a p q. []) 7 (codes "c"))
    (ranged_one 0 (omega arith)) (ranged_one 7 (omega arith)) one_text_too
    in
    apart 0 7 (omega arith) (ap first_number same)
