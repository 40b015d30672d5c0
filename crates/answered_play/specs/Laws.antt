-- The laws of requests and answers in runs and plays.
use Rattle.std.specs.Prelude.{ℕ, ◌≡◌, ◌≤◌, ◌<◌, List, true, length}
use Rattle.std.specs.List.{All}
use Rattle.nsi_primitive.specs.Messages.{is_request}
use Rattle.nsi_primitive.specs.declared.entry.Event.{Event}
use Rattle.nsi_primitive.specs.declared.message.Message.{Message}
use Rattle.stp_topology.specs.Laws.{IsWellFormed}
use Rattle.stp_topology.specs.Sound.{IsSound}
use Rattle.stp_topology.specs.declared.network.Network.{Network}
use Rattle.agent_state.specs.Entries.{most_entries}
use Rattle.nsi_agent.specs.Homes.{Routes, AreRoutes, home_in}
use Rattle.nsi_script.specs.Fits.{IsActOf, IsRising}
use Rattle.nsi_script.specs.Scripts.{acts_of, seconds_of}
use Rattle.nsi_script.specs.declared.script.Group.{Group}
use Rattle.nsi_play.specs.Openings.{Plans, opening}
use Rattle.nsi_play.specs.Play.{IsPlayFrom}
use Rattle.nsi_play.specs.Rounds.{Net}
use Rattle.nsi_world.specs.Rest.{IsAtRest}
use Rattle.nsi_world.specs.Runs.{world_after, AreAllowed}
use Rattle.nsi_world.specs.Worlds.{empty, IsGot}
use Rattle.settled_play.specs.Settled.{LoseNothing, GoesOn}
use Rattle.request_answers.specs.Taken.{HasTaken}
use Rattle.answered_play.specs.Answered.{AnswersOrWorks, AnswersAll, AnswersCome}

-- in every run an agent has taken each request that it got, the first time that it came
abbrev pub GotWasTaken : Type 0
GotWasTaken =
    (t : Network) (routes : Routes) (events : List Event) (a : ℕ) (request : Message) → AreAllowed (home_in t routes) empty events →
    IsGot request ((world_after empty events).journal a) → is_request request.body ≡ true → HasTaken (home_in t routes a) ((world_after empty events).journal a) request

-- so in each world of every run each request is answered, or worked on
abbrev pub RunsAnswer : Type 0
RunsAnswer = (t : Network) (routes : Routes) (events : List Event) → AreAllowed (home_in t routes) empty events → AnswersOrWorks t (home_in t routes) (world_after empty events)

-- Where all agents have come to rest in a run each is answered, or an answer of a child is missing: whoever begins again from what was synced.
abbrev pub AnswersAtRest : Type 0
AnswersAtRest =
    (t : Network) (routes : Routes) (events : List Event) → IsSound t → AreAllowed (home_in t routes) empty events →
    ((a : ℕ) → a < length t.agents → IsAtRest (home_in t routes) (world_after empty events) a) → AnswersAll t (home_in t routes) (world_after empty events)

-- At the end of a play each is answered, or an answer of a child is missing: whatever is lost and whatever comes twice.
abbrev pub PlayAnswers : Type 0
PlayAnswers =
    (t : Network) (routes : Routes) (plans : Plans) (groups : List Group) (events : List Event) (last : Net) → IsSound t → IsWellFormed t → IsRising (seconds_of groups) → All (IsActOf t) (acts_of groups) →
    IsPlayFrom groups (home_in t routes) (opening t plans) events last → length events ≤ most_entries → AnswersAll t (home_in t routes) (world_after empty events)

-- Where nothing is lost and no agent restarts, the answers of providers come to whom they are for.
abbrev pub PlayBringsAnswers : Type 0
PlayBringsAnswers =
    (t : Network) (routes : Routes) (plans : Plans) (groups : List Group) (events : List Event) (last : Net) → LoseNothing plans → IsSound t → IsWellFormed t → AreRoutes t routes →
    IsRising (seconds_of groups) → All (IsActOf t) (acts_of groups) → IsPlayFrom groups (home_in t routes) (opening t plans) events last → All GoesOn events → length events ≤ most_entries →
    AnswersCome t (home_in t routes) (world_after empty events)
