use Rattle.std.proofs.Common.{◌+◌, arith, refl, ap, sym, ◌∙◌, Ok}
use Rattle.nsi_base.specs.Lines.{lines_of}
use Rattle.stp_topology.specs.declared.topology.Taken.{Taken}
use Rattle.stp_topology.specs.declared.network.Network.{Network}
use Rattle.stp_topology.specs.Text.{behind_lines, read_lines}
use Rattle.stp_topology.proofs.TextLemmas.{goes_on, is_whole, fails, without_end, behind_next}
use Rattle.topology_input.proofs.read_declared.Goals as goal

pub lines-init : goal.lines-init
unfolding behind_lines
lines-init c = record { same = ap (λ (t : Network). read_lines t 0 (lines_of c.args.text.now)) c.new-topology.ensures; place = refl; few = omega arith }

pub lines-preserved : goal.lines-preserved
lines-preserved c =
    let i = c.lines.invariant in
    let n = c.lines.before in
    record {
      same = goes_on c.lines.topology n (n + 1) c.lines.rest.now c.cut_line.result.0.now c.cut_line.result.1.now _ c.cut_line.ensures.lines refl i.same c.in-Ok-More.next (c.in-Ok-More.ensures ∙ ap (λ (x : Taken). Ok x) c.in-Ok-More.field-0-is);
      place = behind_next n (n + 1) c.args.text.now c.lines.rest.now c.cut_line.result.1.now refl i.place c.cut_line.ensures.behind;
      few = omega (arith, c.cut_line.ensures.shorter);
    }

pub returns-in-Ok-Whole-clause-reads : goal.returns-in-Ok-Whole-clause-reads
returns-in-Ok-Whole-clause-reads c =
    let i = c.lines.invariant in
    let n = c.lines.before in
    record {
      read = is_whole c.lines.topology n (n + 1) c.lines.rest.now c.cut_line.result.0.now c.cut_line.result.1.now _ c.cut_line.ensures.lines refl i.same c.in-Ok-Whole.whole (c.in-Ok-Whole.ensures ∙ ap (λ (x : Taken). Ok x) c.in-Ok-Whole.field-0-is);
      behind = sym (behind_next n (n + 1) c.args.text.now c.lines.rest.now c.cut_line.result.1.now refl i.place c.cut_line.ensures.behind);
    }

pub returns-in-Err-Fault-clause-reads : goal.returns-in-Err-Fault-clause-reads
returns-in-Err-Fault-clause-reads c =
    let i = c.lines.invariant in
    let n = c.lines.before in
    rw c.in-Err-Fault.field-0-is (fails c.lines.topology n (n + 1) c.lines.rest.now c.cut_line.result.0.now c.cut_line.result.1.now _ c.cut_line.ensures.lines refl i.same _ (rw c.in-Err-Fault.field-0-is at c.in-Err-Fault.ensures))

pub returns-clause-reads : goal.returns-clause-reads
returns-clause-reads c =
    let i = c.lines.invariant in
    without_end c.lines.topology c.lines.before c.lines.rest.now _ (omega arith) i.same
