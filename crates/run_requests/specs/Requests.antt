-- The requests that agents have said and taken by all entries of their journals, and what these and their users' asks are worth.
use Rattle.std.specs.Prelude.{ℕ, ◌≡◌, ◌≤◌, List, Option, Some, None, sum_by}
use Rattle.std.specs.List.{All, Contains}
use Rattle.nsi_primitive.specs.declared.ask.Ask.{Ask}
use Rattle.nsi_primitive.specs.declared.ask.ReserveAsk.{ReserveAsk}
use Rattle.nsi_primitive.specs.declared.ask.What.{What}
use Rattle.nsi_primitive.specs.declared.message.Body.{Body}
use Rattle.nsi_primitive.specs.declared.message.Message.{Message}
use Rattle.stp_topology.specs.Network.{name_of}
use Rattle.stp_topology.specs.Sound.{IsAggregator}
use Rattle.stp_topology.specs.declared.network.Network.{Network}
use Rattle.agent_state.specs.State.{blank_agent}
use Rattle.agent_state.specs.declared.parent.Leg.{Leg}
use Rattle.requester_agent.specs.Setting.{Setting, setting_of}
use Rattle.nsi_agent.specs.Homes.{Routes, requests, home_in}
use Rattle.nsi_agent.specs.Told.{told}
use Rattle.nsi_script.specs.Scripts.{acts_of}
use Rattle.nsi_script.specs.declared.script.Act.{Act}
use Rattle.nsi_script.specs.declared.script.Group.{Group}
use Rattle.nsi_world.specs.Worlds.{Homes, IsAgent, World}
use Rattle.way_reach.specs.Reach.{reach}
use Rattle.due_events.specs.Counts.{asks_worth}
use Rattle.request_worth.specs.Worth.{requests_of, requests_from, IsFee, InEachState, AreFees, IsWithinLabel, WasReserved}

---- What is said and taken

-- the requests that an agent has said
abbrev pub said_by : Homes → World → ℕ → List Message
said_by homes w a = requests_of (told (homes a) (w.journal a)).out

-- those that it has taken
abbrev pub taken_by : Homes → World → ℕ → List Message
taken_by homes w a = requests_from (homes a) blank_agent (w.journal a)

abbrev pub worth_said : (Message → ℕ) → Homes → World → (agents : List ℕ) → ℕ
worth_said fee homes w agents = sum_by (λ a. sum_by fee (said_by homes w a)) agents

abbrev pub worth_taken : (Message → ℕ) → Homes → World → (agents : List ℕ) → ℕ
worth_taken fee homes w agents = sum_by (λ a. sum_by fee (taken_by homes w a)) agents

---- What asks are worth

-- so much is worth an ask of each requester under each label, and one under none
abbrev pub Worth : Type 0
Worth = ℕ → Option (List ℕ) → ℕ

abbrev pub by_label : Worth → ℕ → Ask → ℕ
by_label worth a ask = worth a ask.label

-- all asks that stand in the journals of these agents
abbrev pub worth_of_asks : Worth → World → (agents : List ℕ) → ℕ
worth_of_asks worth w agents = asks_worth (by_label worth) w agents

-- an ask under no label is worth something, and one under a label as much as each leg comes to for which a reserve was asked under it
pub record IsWorth (t : Network) (routes : Routes) (w : World) (worth : Worth) : Type 0 where
  pub something : (a : ℕ) → 1 ≤ worth a None
  pub reserves : (a : ℕ) (setting : Setting) (label : List ℕ) (leg : Leg) → IsAgent (home_in t routes) a → (home_in t routes a).role ≡ requests setting →
      WasReserved setting.provider (w.journal a) label leg → reach t routes leg ≤ worth a (Some label)

-- the same of the asks of a script
pub record IsWorthOf (t : Network) (routes : Routes) (script : List Group) (worth : Worth) : Type 0 where
  pub something : (a : ℕ) → 1 ≤ worth a None
  pub reserves : (a : ℕ) (ask : Ask) (label : List ℕ) (q : ReserveAsk) → Contains (acts_of script) (Act.Ask a ask) → ask.label ≡ Some label → ask.what ≡ What.Reserve q →
      reach t routes (record { child = (setting_of t a).provider; source = q.source; dest = q.dest }) ≤ worth a (Some label)

---- What requests are worth

-- Each request is worth something, and a first reserve as much as its leg comes to. In each state on an agent's way, what an aggregator asks about a
-- view's connection is worth no more than the view's leg, what it is asked about a record no less than the record's, and what a requester asks no more
-- than the asks of its label.
pub record AreFeesIn (t : Network) (routes : Routes) (w : World) (worth : Worth) (fee : Message → ℕ) : Type 0 where
  pub pays : IsFee (reach t routes) fee
  pub aggregators : (a : ℕ) → IsAggregator t a → InEachState (home_in t routes a) (w.journal a) (AreFees (reach t routes) fee (name_of t a))
  pub requesters : (a : ℕ) (setting : Setting) → IsAgent (home_in t routes) a → (home_in t routes a).role ≡ requests setting →
      InEachState (home_in t routes a) (w.journal a) (λ s. All (IsWithinLabel (reach t routes) fee setting.name (worth a)) s.views)
  pub summaries : (a : ℕ) (m : Message) → m.body ≡ Body.QuerySummary None → fee m ≤ worth a None
