use Rattle.connection_record.specs.Moves.{is_live}
use Rattle.connection_record.proofs.Beside.{silent}
use Rattle.connection_record.proofs.Saying.{moves_speaks, takes_speaks, works_speaks, ticks_speaks, tells_speaks}
use Rattle.connection_record.proofs.laws.speaks.Goals as goal

pub returns : goal.returns
returns c = record {
  moves = moves_speaks;
  requests = takes_speaks;
  works = works_speaks;
  ticks = λ origin now r. ticks_speaks (is_live r.lsm) origin now r;
  telling = tells_speaks;
  silent = silent;
}
