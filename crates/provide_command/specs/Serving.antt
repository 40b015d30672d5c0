-- A provider that serves the lines behind a topology.
use Rattle.std.specs.Prelude.{ℕ, ◌-◌, List, Option, length}
use Rattle.nsi_primitive.specs.declared.entry.Entry.{Entry}
use Rattle.stp_topology.specs.declared.network.Network.{Network}
use Rattle.provider_agent.specs.Setting.{setting_of, own_stp}
use Rattle.provider_agent.specs.State.{Standing}
use Rattle.provider_agent.specs.Replay.{replayed}
use Rattle.provide_command.specs.declared.service.Answer.{Answer}

-- The topology, the provider, how many events there were beside the entries that it has taken (syncs, and entries of its journal that it left
-- out), and how many there may be.
pub record Serving : Type 0 where
  pub network : Network
  pub standing : Standing
  pub others : ℕ
  pub most : ℕ

-- what the entries of its journal make of a provider of the topology
abbrev pub state_from : Network → ℕ → List Entry → Standing
state_from t provider es = record { setting = setting_of t provider; state = replayed (setting_of t provider) (own_stp t provider) es }

-- before any line
abbrev pub serving_of : Network → ℕ → List Entry → ℕ → Serving
serving_of t provider es most =
    record { network = t; standing = state_from t provider es; others = length es - (state_from t provider es).state.taken; most = most }

-- the provider's points by their names
abbrev pub points_at : Serving → List ℕ → Option ℕ
points_at s = own_stp s.network s.standing.setting.number

-- what a line makes: the provider then, the entries that its journal has to keep, and what is written for the line behind their sync
pub record Served : Type 0 where
  pub serving : Serving
  pub entries : List Entry
  pub text : List ℕ

abbrev pub with_answer : Serving → Answer → Served
with_answer s a = record { serving = s; entries = a.entries.items; text = a.text.items }
