use Rattle.connection_record.specs.Moves.{is_live}
use Rattle.connection_record.proofs.Doing.{work_is_act, force_is_act, close_is_act, tick_is_act, telling_is_act}
use Rattle.connection_record.proofs.laws.acts.Goals as goal

pub returns : goal.returns
returns c = record {
  works = work_is_act;
  forces = force_is_act;
  closes = close_is_act;
  ticks = λ origin now r. tick_is_act (is_live r.lsm) origin now r;
  telling = telling_is_act;
}
