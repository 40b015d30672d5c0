-- Scripts that can be run over a topology.
use Rattle.std.specs.Prelude.{◌≡◌, ℕ, ◌<◌, ◌≤◌, List, [], ◌∷◌, IsTrue, Some, length}
use Rattle.std.specs.List.{All}
use Rattle.nsi_primitive.specs.Printable.{IsPrintableAsk}
use Rattle.stp_topology.specs.declared.network.Network.{Network}
use Rattle.stp_topology.specs.declared.network.AgentKind.TheVariants.{Requester}
use Rattle.stp_topology.specs.Network.{kind_of}
use Rattle.stp_topology.specs.Sound.{IsProvider}
use Rattle.nsi_script.specs.declared.form.Sort.{Sort}
use Rattle.nsi_script.specs.declared.form.Sort.TheVariants as sorts
use Rattle.nsi_script.specs.declared.script.Act.{Act}
use Rattle.nsi_script.specs.declared.script.PlanLine.{PlanLine}
use Rattle.nsi_script.specs.declared.script.Script.{Script}
use Rattle.nsi_script.specs.declared.script.StopLine.{StopLine}
use Rattle.nsi_script.specs.Lines.{greatest_asks, is_linked}
use Rattle.nsi_script.specs.Scripts.{acts_of, asks_of, seconds_of}

-- the agent is a requester
abbrev pub IsRequester : Network → ℕ → Type 0
IsRequester t a = (provider : ℕ) × (kind_of t a ≡ Some (Requester provider))

-- the agent is of the sort
abbrev pub IsOfSort : Network → Sort → ℕ → Type 0
IsOfSort t sorts.OneRequester a = IsRequester t a
IsOfSort t sorts.OneProvider a = IsProvider t a
IsOfSort t sorts.Any a = Unit {0}

-- an act of an agent of its sort; an ask can be printed
abbrev pub IsActOf : Network → Act → Type 0
IsActOf t (Act.Ask agent ask) = (agent < length t.agents) × IsRequester t agent × IsPrintableAsk ask
IsActOf t (Act.Force agent number) = (agent < length t.agents) × IsProvider t agent
IsActOf t (Act.Restart agent) = agent < length t.agents

-- each second is at least the one before
abbrev pub IsRising : List ℕ → Type 0
IsRising [] = Unit {0}
IsRising (x ∷ []) = Unit {0}
IsRising (x ∷ (y ∷ ys)) = (x ≤ y) × IsRising (y ∷ ys)

-- a parcel of a link, counted from 1
pub record IsPlanOf (t : Network) (line : PlanLine) : Type 0 where
  pub linked : IsTrue (is_linked t line.from line.to)
  pub counted : 1 ≤ line.fault.nth

-- a call of an agent's disk, counted from 1
pub record IsStopOf (t : Network) (line : StopLine) : Type 0 where
  pub agent : line.agent < length t.agents
  pub counted : 1 ≤ line.stop.call

-- what a script says can be done in the network
pub record Fits (t : Network) (s : Script) : Type 0 where
  pub planned : All (IsPlanOf t) s.lose
  pub stopped : All (IsStopOf t) s.stops
  pub rising : IsRising (seconds_of s.groups)
  pub acts : All (IsActOf t) (acts_of s.groups)
  pub few_asks : asks_of s.groups ≤ greatest_asks
