-- A caller that has asked some of what it is to ask.
use Rattle.std.specs.Prelude.{◌≡◌, ℕ, true, List, length, take, drop, Option, Some}
use Rattle.stp_topology.specs.declared.network.Network.{Network}
use Rattle.shared_provider.specs.Book.{Book}
use Rattle.race_run.specs.declared.item.Item.{Item}
use Rattle.race_caller.specs.declared.asker.Asker.{Asker}
use Rattle.nsi_script.specs.declared.script.Act.{Act}
use Rattle.race_run.specs.Scripts.{asks_by}
use Rattle.race_caller.specs.Askers.{HasPlayed}
use Rattle.race_caller.specs.Alone.{IsAlone, EndsAlone, idle}

-- the caller asked what these acts ask of it, and goes on
pub record HasPlayedOn (t : Network) (acts : List Act) (n : ℕ) (old : Option Book) (x : Asker) (new : Option Book) (y : Asker) : Type 0 where
  pub played : HasPlayed t (asks_by x.call.agent (take n acts)) x y true
  pub alone : (first : List Item) (b : Book) → old ≡ Some b → IsAlone t first (idle (length (asks_by x.call.agent acts))) b x → EndsAlone t first (idle (length (asks_by x.call.agent (drop n acts)))) new y true
