use Rattle.std.proofs.Common.{◌+◌, arith, refl, sym, ap, ◌∙◌, Ok}
use Rattle.nsi_script.specs.declared.script.Script.{Script}
use Rattle.nsi_script.specs.Drafts.{script_in}
use Rattle.nsi_script.proofs.TextLemmas.{goes_on, fails, at_end}
use Rattle.nsi_script.proofs.text.read_script.Goals as goal

pub returns-in-Err-Fault-clause-reads : goal.returns-in-Err-Fault-clause-reads
returns-in-Err-Fault-clause-reads c =
    let i = c.lines.invariant in
    let n = c.lines.number in
    rw c.in-Err-Fault.field-0-is (fails c.args.topology.now (script_in c.lines.draft) n (n + 1) c.lines.rest.now c.cut_line.result.0.now c.cut_line.result.1.now _ c.cut_line.ensures.lines refl i.same _ (rw c.in-Err-Fault.field-0-is at c.in-Err-Fault.ensures.leaves))

pub lines-preserved : goal.lines-preserved
lines-preserved c =
    let i = c.lines.invariant in
    let n = c.lines.number in
    record {
      same = goes_on c.args.topology.now (script_in c.lines.draft) n (n + 1) c.lines.rest.now c.cut_line.result.0.now c.cut_line.result.1.now _ c.cut_line.ensures.lines refl i.same (script_in c.take_line.new.self) c.in-Ok.ensures.leaves;
      few = omega (arith, i.few, c.cut_line.ensures.shorter);
      indexed = c.in-Ok.ensures.indexed;
      fits = c.in-Ok.ensures.fits i.fits;
    }

pub returns-clause-reads : goal.returns-clause-reads
returns-clause-reads c =
    let i = c.lines.invariant in
    at_end c.args.topology.now (script_in c.lines.draft) c.lines.number c.lines.rest.now _ (omega arith) i.same
    ∙ ap (λ (s : Script). Ok s) (sym c.into_script.ensures)
