-- The laws of how many requests there are in runs.
use Rattle.std.specs.Prelude.{◌≡◌, ◌≤◌, ◌++◌, ℕ, List, sum_by}
use Rattle.nsi_primitive.specs.declared.entry.Event.{Event}
use Rattle.nsi_primitive.specs.declared.message.Message.{Message}
use Rattle.stp_topology.specs.Laws.{IsWellFormed}
use Rattle.stp_topology.specs.Sound.{IsSound}
use Rattle.stp_topology.specs.declared.network.Network.{Network}
use Rattle.nsi_agent.specs.Homes.{Routes, AreRoutes, home_in}
use Rattle.nsi_script.specs.Scripts.{acts_of}
use Rattle.nsi_script.specs.declared.script.Group.{Group}
use Rattle.agent_node.specs.Openings.{agents}
use Rattle.nsi_play.specs.Openings.{Plans}
use Rattle.nsi_world.specs.Worlds.{World, empty}
use Rattle.nsi_world.specs.Runs.{world_after, AreAllowed}
use Rattle.stopped_play.specs.Laws.{played}
use Rattle.stopped_play.specs.Tapes.{Stops}
use Rattle.due_events.specs.Counts.{act_worth}
use Rattle.run_changes.specs.Told.{requests_asked, requests_taken}
use Rattle.run_requests.specs.Requests.{by_label, IsWorthOf, worth_said, worth_taken, Worth, worth_of_asks, IsWorth, AreFeesIn}

-- Whatever each request may be worth: those that agents have taken are worth no more together than those that agents have said.
abbrev pub TakenWereSaid : Type 0
TakenWereSaid =
    (t : Network) (routes : Routes) (events : List Event) (fee : Message → ℕ) → IsWellFormed t → AreAllowed (home_in t routes) empty events →
    worth_taken fee (home_in t routes) (world_after empty events) (agents t) ≤ worth_said fee (home_in t routes) (world_after empty events) (agents t)

-- of requests that agents of a topology have asked, and of those that they have taken, there are no more than that
pub record AreFew (t : Network) (routes : Routes) (w : World) (most : ℕ) : Type 0 where
  pub asked : requests_asked (home_in t routes) w (agents t) ≤ most
  pub taken : requests_taken (home_in t routes) w (agents t) ≤ most

-- of a run in a topology that a text gives
abbrev pub InEachRun : (Network → Routes → World → Type 0) → Type 0
InEachRun Holds =
    (t : Network) (routes : Routes) (events : List Event) → IsSound t → IsWellFormed t → AreRoutes t routes → AreAllowed (home_in t routes) empty events → Holds t routes (world_after empty events)

-- Where it is known what each request is worth, there are no more than the asks of requesters are worth.
abbrev pub PaidRequestsAreFew : Type 0
PaidRequestsAreFew = InEachRun (λ t routes w. (worth : Worth) (fee : Message → ℕ) → AreFeesIn t routes w worth fee → AreFew t routes w (worth_of_asks worth w (agents t)))

-- That is known in each run.
abbrev pub FeesExist : Type 0
FeesExist = InEachRun (λ t routes w. (worth : Worth) → IsWorth t routes w worth → (fee : Message → ℕ) × AreFeesIn t routes w worth fee)

-- So in each run there are no more requests than the asks of requesters are worth.
abbrev pub RequestsAreFew : Type 0
RequestsAreFew = InEachRun (λ t routes w. (worth : Worth) → IsWorth t routes w worth → AreFew t routes w (worth_of_asks worth w (agents t)))

---- Plays

-- what is so of the asks of a script is so of those in each world that a front of its play makes, whichever disks stop
abbrev pub ScriptsAreWorth : Type 0
ScriptsAreWorth =
    (t : Network) (routes : Routes) (plans : Plans) (stops : Stops) (script : List Group) (worth : Worth) (front rest : List Event) → IsWellFormed t → IsWorthOf t routes script worth →
    (played t routes plans stops script).events ≡ front ++ rest → IsWorth t routes (world_after empty front) worth

-- So in each front of a play that is a run there are no more requests than the asks of the script are worth.
abbrev pub PlaysAskFew : Type 0
PlaysAskFew =
    (t : Network) (routes : Routes) (plans : Plans) (stops : Stops) (script : List Group) (worth : Worth) (front rest : List Event) → IsSound t → IsWellFormed t → AreRoutes t routes →
    IsWorthOf t routes script worth → (played t routes plans stops script).events ≡ front ++ rest → AreAllowed (home_in t routes) empty front →
    AreFew t routes (world_after empty front) (sum_by (act_worth (by_label worth)) (acts_of script))
