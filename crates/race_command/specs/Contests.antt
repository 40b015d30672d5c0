-- What is raced for, as it was read.
use Rattle.std.specs.Prelude.{◌≡◌, ℕ, List, Ok}
use Rattle.stp_topology.specs.declared.network.Network.{Network}
use Rattle.race_run.specs.Scripts.{IsRace}
use Rattle.topology_input.specs.declared.Declared.{Declared}
use Rattle.topology_input.specs.Reading.{IsDeclared}
use Rattle.race_command.specs.declared.command.Contest.{Contest}
use Rattle.race_command.specs.Lines.{race_script_of}

-- bytes begin with a topology
pub record IsTopologyOf (bytes : List ℕ) (t : Network) : Type 0 where
  pub first : Declared
  pub is : IsDeclared bytes first
  pub same : first.topology ≡ t

-- a race of the provider, as a text has it whose first line has that number
pub record IsContest (t : Network) (p first_line : ℕ) (text : List ℕ) (c : Contest) : Type 0 where
  pub topology : c.topology ≡ t
  pub provider : c.provider ≡ p
  pub race : IsRace t p c.script
  pub reads : race_script_of t p first_line text ≡ Ok c.script
