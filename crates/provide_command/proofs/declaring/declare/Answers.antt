use Rattle.std.proofs.Common.{Err}
use Rattle.provide_command.proofs.TopologyLines.{line_along, line_refused, front_along}
use Rattle.provide_command.proofs.declaring.declare.Goals as goal

pub returns-in-Ok-Whole-clause-line : goal.returns-in-Ok-Whole-clause-line
returns-in-Ok-Whole-clause-line g c = λ read most. line_along read most c.args.number c.whole.result _ _ _ _ (rw c.in-Ok-Whole.field-0-is at c.in-Ok-Whole.ensures) (c.whole.ensures.whole read most)

pub returns-in-Err-Fault-clause-line : goal.returns-in-Err-Fault-clause-line
returns-in-Err-Fault-clause-line g c = λ read most. line_refused read most c.args.number c.refuse.result _ c.in-Err-Fault.fault _ _ (rw c.in-Err-Fault.field-0-is at c.in-Err-Fault.ensures) c.refuse.ensures.ended c.refuse.ensures.all

pub returns-in-Err-Fault-clause-front : goal.returns-in-Err-Fault-clause-front
returns-in-Err-Fault-clause-front g c = λ read most. front_along read most c.args.number c.refuse.result _ (Err c.in-Err-Fault.fault) _ _ (rw c.in-Err-Fault.field-0-is at c.in-Err-Fault.ensures) c.refuse.ensures.front
