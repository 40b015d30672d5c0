-- The laws of what requests are worth.
use Rattle.std.specs.Prelude.{◌≡◌, ◌≤◌, ◌+◌, ℕ, List, Option, None, length, sum_by}
use Rattle.std.specs.List.{All}
use Rattle.nsi_primitive.specs.declared.entry.Entry.{Entry}
use Rattle.nsi_primitive.specs.declared.message.Body.{Body}
use Rattle.nsi_primitive.specs.declared.message.Message.{Message}
use Rattle.stp_topology.specs.Laws.{IsWellFormed}
use Rattle.stp_topology.specs.Network.{name_of}
use Rattle.stp_topology.specs.Sound.{IsSound, IsAggregator}
use Rattle.stp_topology.specs.declared.network.Network.{Network}
use Rattle.agent_state.specs.declared.parent.Leg.{Leg}
use Rattle.agent_state.specs.State.{AgentState, blank_agent}
use Rattle.requester_agent.specs.Setting.{Setting as RequesterSetting}
use Rattle.nsi_agent.specs.Homes.{Home, requests, Routes, AreRoutes, home_in}
use Rattle.nsi_agent.specs.Told.{told}
use Rattle.way_reach.specs.Reach.{reach}
use Rattle.request_worth.specs.Worth.{worth_of, requests_from, WasBrought, HaveOwnHeaders, headers_of, IsFee, InEachState, AreFees, owed_ends, asks_worth, IsWithinLabel, ViewWasReserved}

-- The requests that an agent of any kind takes, one after another, are those that it has seen; entries bring them, and none of them twice.
pub record AreTakenOnce (h : Home) (es : List Entry) : Type 0 where
  pub seen : headers_of (requests_from h blank_agent es) ≡ (told h es).state.base.seen
  pub brought : All (WasBrought es) (requests_from h blank_agent es)
  pub apart : HaveOwnHeaders (requests_from h blank_agent es)

abbrev pub RequestsAreTakenOnce : Type 0
RequestsAreTakenOnce = (h : Home) (es : List Entry) → AreTakenOnce h es

-- What an aggregator asks is worth less than the requests that it was asked, by one for each of them; and what it will still ask of connections
-- that end is paid besides.
abbrev pub AggregatorsAskNoMore : Type 0
AggregatorsAskNoMore =
    (t : Network) (routes : Routes) (a : ℕ) (fee : Message → ℕ) (es : List Entry) → IsSound t → IsWellFormed t → AreRoutes t routes → IsAggregator t a → IsFee (reach t routes) fee →
    InEachState (home_in t routes a) es (AreFees (reach t routes) fee (name_of t a)) →
    let s : AgentState = (told (home_in t routes a) es).state in
    worth_of fee (told (home_in t routes a) es).out + (length s.base.seen + owed_ends (reach t routes) s.base.records s.children)
    ≤ sum_by fee (requests_from (home_in t routes a) blank_agent es)

-- What a requester asks is worth no more than the asks that it has taken, where an ask is worth so much by its label.
abbrev pub RequestersAskNoMore : Type 0
RequestersAskNoMore =
    (h : Home) (setting : RequesterSetting) (price : Leg → ℕ) (fee : Message → ℕ) (worth : Option (List ℕ) → ℕ) (es : List Entry) → h.role ≡ requests setting → IsFee price fee →
    ((m : Message) → m.body ≡ Body.QuerySummary None → fee m ≤ worth None) → InEachState h es (λ s. All (IsWithinLabel price fee setting.name worth) s.views) →
    worth_of fee (told h es).out ≤ asks_worth worth es

-- each view of a requester is of the leg of a reserve that was asked under its label
abbrev pub ViewsWereReserved : Type 0
ViewsWereReserved = (h : Home) (setting : RequesterSetting) (es : List Entry) → h.role ≡ requests setting → All (ViewWasReserved setting.provider es) (told h es).state.views
