use Rattle.std.proofs.Common.{ℕ, false, true, arith, ap, slice_set, replicate}
use Rattle.stp_topology.proofs.MarkLemmas.{down_none, down_more}
use Rattle.stp_topology.proofs.child_lines.leads_down.Goals as goal

pub loop-n-init : goal.loop-n-init
loop-n-init c = λ x.
    down_none c.args.pairs.now (slice_set (replicate 64 false) c.get.result true) c.args.to (omega (arith, c.get.ensures.in_range)) (ap (λ (n : ℕ). slice_set (replicate 64 false) n true) c.get.ensures.value) x

pub loop-n-preserved : goal.loop-n-preserved
loop-n-preserved c = λ x.
    let once = c.parents-marked.result in
    down_more c.args.pairs.now c.loop-n.marked once (slice_set once c.get-in-loop-n.result true) c.loop-n.n c.args.to c.loop-n.invariant c.parents-marked.ensures (omega (arith, c.parents-marked.type_inv, c.get-in-loop-n.ensures.in_range))
    (ap (λ (n : ℕ). slice_set once n true) c.get-in-loop-n.ensures.value) x
