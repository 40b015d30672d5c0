use Rattle.connection_record.specs.Moves.{is_live}
use Rattle.connection_record.specs.Applied.{moves, ticked}
use Rattle.connection_record.proofs.InOrder.{fresh_in_order, moves_in_order, ticks_in_order, tells_in_order}
use Rattle.connection_record.proofs.Kept.{owed_kept}
use Rattle.connection_record.proofs.laws.order.Goals as goal

pub returns : goal.returns
returns c = record {
  fresh = fresh_in_order;
  moves = λ side move before c now r h. tells_in_order before c now (moves side move now r) (moves_in_order side move now r h);
  ticks = λ origin before c now r h. tells_in_order before c now (ticked origin now r) (ticks_in_order (is_live r.lsm) origin now r h);
  owed = owed_kept;
}
