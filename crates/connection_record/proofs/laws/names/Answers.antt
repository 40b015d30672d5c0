use Rattle.connection_record.specs.Moves.{is_live}
use Rattle.connection_record.proofs.Naming.{moves_names, ticks_names, tells_names}
use Rattle.connection_record.proofs.laws.names.Goals as goal

pub returns : goal.returns
returns c = record {
  moves = moves_names;
  ticks = λ origin now r. ticks_names (is_live r.lsm) origin now r;
  telling = tells_names;
}
