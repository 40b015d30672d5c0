-- Scripts that can be raced.
use Rattle.std.specs.Prelude.{◌≡◌, ◌≤◌, ◌==◌, ℕ, true, List, [], ◌∷◌, ◌++◌, if◌then◌else◌, length, Option, Some, None}
use Rattle.std.specs.List.{All}
use Rattle.nsi_primitive.specs.Printable.{IsPrintableAsk}
use Rattle.nsi_primitive.specs.declared.ask.Ask.{Ask}
use Rattle.nsi_script.specs.declared.script.Act.{Act}
use Rattle.nsi_script.specs.declared.script.Group.{Group}
use Rattle.nsi_script.specs.declared.script.Script.{Script}
use Rattle.nsi_script.specs.Fits.{Fits}
use Rattle.nsi_script.specs.Scripts.{acts_of}
use Rattle.stp_topology.specs.declared.network.Network.{Network}
use Rattle.race_run.specs.Found.{is_caller}

-- a requester of the provider is asked
abbrev pub IsAskOf : Network → ℕ → Act → Type 0
IsAskOf t p (Act.Ask agent ask) = is_caller t p (Some agent) ≡ true
IsAskOf t p _ = ⊥

-- at most one second, at which requesters of the provider are asked
pub record IsRace (t : Network) (p : ℕ) (s : Script) : Type 0 where
  pub fits : Fits t s
  pub one : length s.groups ≤ 1
  pub asks : All (IsAskOf t p) (acts_of s.groups)

-- that second, where there is one
abbrev pub start_of : List Group → Option ℕ
start_of [] = None
start_of (g ∷ gs) = Some g.at

-- what a requester is asked, in order
abbrev pub ask_by : ℕ → Act → List Ask
ask_by a (Act.Ask agent ask) = if agent == a then ask ∷ [] else []
ask_by a _ = []

unfoldable pub asks_by : ℕ → List Act → List Ask
asks_by a [] = []
asks_by a (act ∷ acts) = ask_by a act ++ asks_by a acts

-- each ask can be printed
abbrev pub IsPrintableAct : Act → Type 0
IsPrintableAct (Act.Ask agent ask) = IsPrintableAsk ask
IsPrintableAct _ = Unit {0}

abbrev pub AreAsks : List Act → Type 0
AreAsks acts = All IsPrintableAct acts
