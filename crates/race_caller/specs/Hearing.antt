-- A caller that has heard some of the messages of an answer.
use Rattle.std.specs.Prelude.{◌≡◌, ◌++◌, ℕ, true, List, length}
use Rattle.std.specs.List.{All}
use Rattle.nsi_primitive.specs.Printable.{IsPrintable}
use Rattle.nsi_primitive.specs.declared.message.Message.{Message}
use Rattle.stp_topology.specs.declared.network.Network.{Network}
use Rattle.race_caller.specs.declared.asker.Asker.{Asker}
use Rattle.race_caller.specs.Askers.{HasHeard}
use Rattle.race_caller.specs.Alone.{HasRoomFor, HasHeardThese}

-- it went on so far, and these are still to come
pub record HasHeardSome (t : Network) (place : ℕ) (all : List Message) (old new : Asker) (more : List Message) : Type 0 where
  pub heard : HasHeard t old new true
  pub printable : All IsPrintable more
  pub front : List Message
  pub parts : all ≡ front ++ more
  pub these : HasRoomFor (length all) old → HasHeardThese place front old new true
