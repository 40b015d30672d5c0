use Rattle.std.proofs.Common.{[], Ok, ap, refl, ◌∙◌, arith}
use Rattle.line_reader.specs.Held.{budget, rest_of, to_come}
use Rattle.provide_command.proofs.Answered.{up_to_start, up_to_next}
use Rattle.provide_command.proofs.Promised.{same_start, same_along}
use Rattle.provide_command.proofs.Begun.{declaring}
use Rattle.provide_command.proofs.TopologyLines.{begins}
use Rattle.provide_command.proofs.declaring.declare_all.Goals as goal

pub lines-init : goal.lines-init
lines-init g c = record {
  same = λ read. same_start read c.args.reader.now c.new-topology.result c.args.most _ _ c.requires c.new-topology.ensures;
  up_to = λ read. up_to_start read c.args.reader.now c.new-topology.result c.args.most _ _ c.requires c.new-topology.ensures;
  few = omega (arith, ap budget c.requires);
  reads = refl;
  writes = refl;
}

pub lines-preserved : goal.lines-preserved
lines-preserved g c =
    record {
      same = λ read. same_along _ _ _ (c.lines.invariant.same read) ((rw c.in-Ok-More.field-0-is at c.in-Ok-More.ensures.next) read c.args.most).0;
      up_to = λ read. up_to_next read c.args.most _ _ c.lines.number _ _ _ _ _ _ _ _ (c.lines.invariant.up_to read) ((rw c.in-Ok-More.field-0-is at c.in-Ok-More.ensures.next) read c.args.most).1;
      few = omega (arith, c.lines.invariant.few, (rw c.in-Ok-More.field-0-is at c.in-Ok-More.ensures.shrinks) refl);
      reads = c.in-Ok-More.ensures.counts.quiet_in ∙ c.lines.invariant.reads;
      writes = c.in-Ok-More.ensures.counts.quiet_out ∙ c.lines.invariant.writes;
    }

pub returns-in-Ok-Whole-clause-comes_to : goal.returns-in-Ok-Whole-clause-comes_to
returns-in-Ok-Whole-clause-comes_to g c =
    let t = (rw c.in-Ok-Whole.field-0-is at c.in-Ok-Whole.ensures.next) (Ok []) c.args.most in (
      t.4,
      refl,
      begins c.args.most (g.K.Sink.content c.args.out.now) (g.S.Source.left c.args.input.now) c.lines.number c.lines.topology c.in-Ok-Whole.topology c.in-Ok-Whole.provider (g.K.Sink.content c.lines.out) (g.K.Sink.content c.declare_next.new.out)
          (rest_of c.lines.reader (g.S.Source.left c.lines.input)) (rest_of c.declare_next.new.reader (g.S.Source.left c.declare_next.new.input)) (to_come c.lines.reader (g.S.Source.left c.lines.input))
          (to_come c.declare_next.new.reader (g.S.Source.left c.declare_next.new.input)) t.0 c.lines.invariant.same c.lines.invariant.up_to t.1 t.2 t.3 t.4 t.5,
    )

pub returns-in-Ok-End-clause-comes_to : goal.returns-in-Ok-End-clause-comes_to
returns-in-Ok-End-clause-comes_to g c = λ read. same_along _ _ _ (c.lines.invariant.same read) ((rw c.in-Ok-End.field-0-is at c.in-Ok-End.ensures.next) read c.args.most)

pub returns-in-Err-clause-halts : goal.returns-in-Err-clause-halts
returns-in-Err-clause-halts g c = λ read. record {
  number = c.lines.number;
  phase = declaring c.lines.topology c.args.most;
  content = g.K.Sink.content c.lines.out;
  rest = rest_of c.lines.reader (g.S.Source.left c.lines.input);
  given = to_come c.lines.reader (g.S.Source.left c.lines.input);
  up_to = c.lines.invariant.up_to read;
  halts = c.in-Err.ensures.halts read c.args.most;
}
