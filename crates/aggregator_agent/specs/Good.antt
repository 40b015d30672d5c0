-- What is true of an aggregator in every state of every run.
use Rattle.std.specs.List.{All}
use Rattle.nsi_primitive.specs.Printable.{IsShort}
use Rattle.connection_record.specs.declared.record.Record.{Record}
use Rattle.agent_state.specs.State.{AgentState}

-- the texts of a record can be written
pub record IsWritable (r : Record) : Type 0 where
  pub description : IsShort 256 r.service.description
  pub global : IsShort 128 r.service.global

abbrev pub IsGood : AgentState → Type 0
IsGood s = All IsWritable s.base.records
