-- What one line is found to be, and what is known of the lines before.
use Rattle.std.specs.Prelude.{◌≡◌, ◌≢◌, ◌≤◌, ◌⊎◌, ◌+◌, ℕ, Bool, true, false, List, [], ◌∷◌, ◌++◌, length}
use Rattle.nsi_primitive.specs.Ranges.{IsRangedEvent}
use Rattle.nsi_primitive.specs.declared.entry.Event.{Event}
use Rattle.stp_topology.specs.declared.network.Network.{Network}
use Rattle.nsi_agent.specs.Homes.{Routes, AreRoutes, home_in}
use Rattle.nsi_world.specs.Worlds.{Homes}
use Rattle.nsi_world.specs.Heard.{IsFair}
use Rattle.nsi_world.specs.Runs.{asks_of}
use Rattle.trace_verify.specs.Lines.{is_closing, settled_line}
use Rattle.trace_verify.specs.Traces.{GoesOnBy, IsLineOf, world_of}
use Rattle.trace_verify.specs.Standing.{Shows}
use Rattle.trace_verify.specs.Verdicts.{HasNoForm, IsNotAllowed, Splits}
use Rattle.trace_verify.specs.declared.follower.Follower.{Follower}
use Rattle.trace_verify.specs.declared.step.Step.{Step}
use Rattle.trace_verify.specs.declared.verdict.Verdict.{Verdict}
use Rattle.trace_verify.specs.declared.verdict.Why.{Why}

-- the line is that of this event, and of no other
pub record IsLineAlone (t : Network) (homes : Homes) (es : List Event) (line : List ℕ) (event : Event) : Type 0 where
  pub line_of : IsLineOf t homes es line event
  pub alone : (e : Event) → IsRangedEvent e → IsLineOf t homes es line e → e ≡ event

-- what the line of an event is, which may happen or not, behind which so many asks came
abbrev pub step_of : ℕ → Bool → Step
step_of asks true = Step.Event asks
step_of asks false = Step.Not Why.NotAllowed

-- no more asks came than that
abbrev pub HasFew : ℕ → Step → Type 0
HasFew most (Step.Event asks) = asks ≤ most
HasFew most _ = Unit {0}

-- the line is that of this event, and of no other; it has happened, and so many asks came then
pub record HasGoneOn (t : Network) (homes : Homes) (es : List Event) (line : List ℕ) (new : Follower) (asks : ℕ) : Type 0 where
  pub event : Event
  pub goes : GoesOnBy t homes es line event
  pub alone : (e : Event) → IsRangedEvent e → IsLineOf t homes es line e → e ≡ event
  pub shows : Shows new (world_of (es ++ event ∷ []))
  pub asked : asks ≡ length (asks_of (es ++ event ∷ []))

-- what a line behind these events is
abbrev pub IsStep : Network → Homes → List Event → List ℕ → Follower → Step → Type 0
IsStep t homes es line new (Step.Event asks) = HasGoneOn t homes es line new asks
IsStep t homes es line new Step.Closing = is_closing line ≡ true
IsStep t homes es line new (Step.Not Why.Form) = HasNoForm t homes es line
IsStep t homes es line new (Step.Not Why.NotAllowed) = IsNotAllowed t homes es line
IsStep t homes es line new (Step.Not Why.End) = ⊥

-- so it is by any legs that are those of the least paths, behind any events in the world of which they stand so and what was heard was sent
abbrev pub Behind : Network → Follower → ℕ → (Homes → List Event → Type 0) → Type 0
Behind t x asks P =
    (routes : Routes) → AreRoutes t routes → (es : List Event) → Shows x (world_of es) → IsFair (home_in t routes) (world_of es) → asks ≡ length (asks_of es)
    → P (home_in t routes) es

-- the first lines are the text of so many events, the agents stand as these leave them, and there are these asks among them
pub record IsSoFar (t : Network) (homes : Homes) (lines behind : List (List ℕ)) (x : Follower) (asks events : ℕ) : Type 0 where
  pub run : List Event
  pub splits : Splits t homes lines run behind
  pub shows : Shows x (world_of run)
  pub asked : asks ≡ length (asks_of run)
  pub many : events ≡ length run

abbrev pub AreSoFar : Network → (lines behind : List (List ℕ)) → Follower → (asks events : ℕ) → Type 0
AreSoFar t lines behind x asks events = (routes : Routes) → AreRoutes t routes → IsSoFar t (home_in t routes) lines behind x asks events

-- what is found of so many events where a line ends a trace, behind which stand those
abbrev pub Closes : List ℕ → List (List ℕ) → (line events : ℕ) → Verdict → Type 0
Closes bytes behind line events (Verdict.Run many) = (bytes ≡ settled_line events) × (behind ≡ []) × (many ≡ events)
Closes bytes behind line events (Verdict.Not at Why.End) =
    ((bytes ≢ settled_line events) × (at ≡ line)) ⊎ ((next : List ℕ) × (rest : List (List ℕ)) × (bytes ≡ settled_line events) × (behind ≡ next ∷ rest) × (at ≡ line + 1))
Closes bytes behind line events (Verdict.Not at why) = ⊥
