use Rattle.std.proofs.Common.{◌≡◌, ◌∷◌, [], ap, ◌∙◌, sym, arith, Some, append_assoc}
use Rattle.stp_topology.specs.Network.{partner_of}
use Rattle.path_segments.specs.Steps.{at}
use Rattle.path_segments.proofs.Follow.{segment_of, follows_last, follows_more, hop_next}
use Rattle.path_segments.proofs.least_path.follow.Goals as goal

pub returns-then-step-eq0 : goal.returns-then-step-eq0
returns-then-step-eq0 c =
    let i = c.loop-segments.invariant in
    let s = c.requires.sound c.loop-segments.entry c.loop-segments.step i.here in
    rw c.in_ok-push.ensures.items (i.completes (segment_of c.loop-segments.entry c.loop-segments.step ∷ [])
    (follows_last (at c.args.steps.now) (partner_of c.args.topology.now) c.args.dest c.loop-segments.entry c.loop-segments.step i.here c.if-step-eq0.true s.1))

pub partner_at-requires : goal.partner_at-requires
partner_at-requires c =
    let s = c.requires.sound c.loop-segments.entry c.loop-segments.step c.loop-segments.invariant.here in
    s.0

pub unreachable-requires : goal.unreachable-requires
unreachable-requires c =
    let s = c.requires.sound c.loop-segments.entry c.loop-segments.step c.loop-segments.invariant.here in
    let g = hop_next (at c.args.steps.now) (partner_of c.args.topology.now) c.args.dest c.loop-segments.step.rest c.loop-segments.step.exit s.1 c.if-step-eq0.false in
    c.in_default.not-Some g.0 (c.partner_at.ensures ∙ g.2)

pub unreachable-requires-in_default-steps : goal.unreachable-requires-in_default-steps
unreachable-requires-in_default-steps c =
    let s = c.requires.sound c.loop-segments.entry c.loop-segments.step c.loop-segments.invariant.here in
    let g = hop_next (at c.args.steps.now) (partner_of c.args.topology.now) c.args.dest c.loop-segments.step.rest c.loop-segments.step.exit s.1 c.if-step-eq0.false in
    let here : partner_of c.args.topology.now c.loop-segments.step.exit ≡ Some c.in-Some.next = sym c.partner_at.ensures ∙ c.in-Some.is in
    let same : g.0 ≡ c.in-Some.next = cc (g.2, here) in
    c.in_default-steps.not-Some g.1 (ap (at c.args.steps.now) (sym same) ∙ g.3)

pub loop-segments-smaller : goal.loop-segments-smaller
loop-segments-smaller c =
    let s = c.requires.sound c.loop-segments.entry c.loop-segments.step c.loop-segments.invariant.here in
    let g = hop_next (at c.args.steps.now) (partner_of c.args.topology.now) c.args.dest c.loop-segments.step.rest c.loop-segments.step.exit s.1 c.if-step-eq0.false in
    let here : partner_of c.args.topology.now c.loop-segments.step.exit ≡ Some c.in-Some.next = sym c.partner_at.ensures ∙ c.in-Some.is in
    let same : g.0 ≡ c.in-Some.next = cc (g.2, here) in
    let step : g.1 ≡ c.in-Some-steps.onward = cc (g.3, ap (at c.args.steps.now) same, c.in-Some-steps.is) in
    omega (arith, g.4, ap (λ z. z.rest) step)

pub loop-segments-preserved : goal.loop-segments-preserved
loop-segments-preserved c =
    let s = c.requires.sound c.loop-segments.entry c.loop-segments.step c.loop-segments.invariant.here in
    let g = hop_next (at c.args.steps.now) (partner_of c.args.topology.now) c.args.dest c.loop-segments.step.rest c.loop-segments.step.exit s.1 c.if-step-eq0.false in
    let here : partner_of c.args.topology.now c.loop-segments.step.exit ≡ Some c.in-Some.next = sym c.partner_at.ensures ∙ c.in-Some.is in
    let same : g.0 ≡ c.in-Some.next = cc (g.2, here) in
    let step : g.1 ≡ c.in-Some-steps.onward = cc (g.3, ap (at c.args.steps.now) same, c.in-Some-steps.is) in
    record {
      here = c.in-Some-steps.is;
      completes = λ xs f. rw (c.in_ok-push.ensures.items, append_assoc) (c.loop-segments.invariant.completes (segment_of c.loop-segments.entry c.loop-segments.step ∷ xs)
          (follows_more (at c.args.steps.now) (partner_of c.args.topology.now) c.args.dest c.loop-segments.entry c.in-Some.next c.loop-segments.step c.in-Some-steps.onward
          c.loop-segments.invariant.here c.in-Some-steps.is here (omega (arith, g.4, ap (λ z. z.rest) step)) xs f));
    }
