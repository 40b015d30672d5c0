-- What the next line of `provide` is taken as, and what comes after a line.
use Rattle.std.specs.Prelude.{ℕ, List, Result, Bool, true, false}
use Rattle.nsi_primitive.specs.declared.entry.Entry.{Entry}
use Rattle.stp_topology.specs.declared.network.Network.{Network}
use Rattle.provide_command.specs.Serving.{Serving}
use Rattle.provide_command.specs.declared.status.Ending.{Ending}

-- what a journal reads as: its entries, or the place of the gate without a reading
abbrev pub Reading : Type 0
Reading = Result (List Entry) ℕ

-- the topology that lines have declared so far, and how many events may follow it
pub record Declares : Type 0 where
  pub topology : Network
  pub most : ℕ

-- a line of the topology, or one that the provider answers
pub data Phase : Type 0 where
  in_topology : Declares → Phase
  in_service : Serving → Phase

pub data Step : Type 0 where
  goes_to : Phase → Step
  ends_as : Ending → Step

abbrev pub is_more : Step → Bool
is_more (goes_to phase) = true
is_more (ends_as ending) = false
