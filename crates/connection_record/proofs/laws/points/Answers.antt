use Rattle.connection_record.specs.Moves.{is_live}
use Rattle.connection_record.specs.Applied.{moves, ticked, tells}
use Rattle.connection_record.proofs.Growing.{moves_later, ticks_later, tells_later}
use Rattle.connection_record.proofs.InOrder.{later_points}
use Rattle.connection_record.proofs.laws.points.Goals as goal

pub returns : goal.returns
returns c = record {
  moves = λ stp_of side move before c now r h.
      later_points stp_of r (tells before c now (moves side move now r)).rec (tells_later before c now r (moves side move now r) (moves_later side move now r)) h;
  ticks = λ stp_of origin before c now r h.
      later_points stp_of r (tells before c now (ticked origin now r)).rec (tells_later before c now r (ticked origin now r) (ticks_later (is_live r.lsm) origin now r)) h;
}
