-- What a draft stands for.
use Rattle.std.specs.Prelude.{◌≡◌, ℕ, List, Result, OnOk}
use Rattle.stp_topology.specs.declared.network.Network.{Network}
use Rattle.nsi_script.specs.declared.draft.Draft.{Draft}
use Rattle.nsi_script.specs.declared.script.Script.{Script}
use Rattle.nsi_script.specs.Fits.{Fits}
use Rattle.nsi_script.specs.Labels.{is_noted}
use Rattle.nsi_script.specs.Scripts.{is_reserved, asks_of}

-- the script that a draft has
abbrev pub script_in : Draft → Script
script_in d = record { lose = d.lose; stops = d.stops; groups = d.groups.items }

-- labels and asks of a draft are those of its groups
pub record AreIndexed (d : Draft) : Type 0 where
  pub labels : (agent : ℕ) (label : List ℕ) → is_noted d.labels agent label ≡ is_reserved d.groups.items agent label
  pub asks : d.asks ≡ asks_of d.groups.items

-- a script that can be run over the network can be run with what was taken too
abbrev pub StaysFit : {X E : Type 0} → Network → Draft → Draft → Result X E → Type 0
StaysFit t old new result = Fits t (script_in old) → OnOk result (Fits t (script_in new))
