use Rattle.std.proofs.Common.{arith, sym, ap, ◌∙◌, ◌+◌, List}
use Rattle.nsi_disk.specs.Plan.{planned_image}
use Rattle.nsi_disk.specs.declared.plan.Stop.{Stop}
use Rattle.nsi_disk.proofs.Coming.{no_more, one_less}
use Rattle.nsi_disk.proofs.plan.Plan.next.Goals as goal

pub invariant_of-self : goal.invariant_of-self
invariant_of-self c =
    let p = c.args.self.now in
    let f = p.faults_counted in
    let s = p.stops_counted in
    let few = p.few_stops in
    let more = no_more p.calls p.stops.items in
    record { faults_counted = omega (arith, f); stops_counted = omega (arith, s); few_stops = omega (arith, few, more) }

pub invariant_of-self-in_default : goal.invariant_of-self-in_default
invariant_of-self-in_default c =
    let p = c.args.self.now in
    let f = p.faults_counted in
    let s = p.stops_counted in
    let few = p.few_stops in
    let more = no_more p.calls p.stops.items in
    record { faults_counted = omega (arith, f); stops_counted = omega (arith, s); few_stops = omega (arith, few, more) }

pub invariant_of-self-2 : goal.invariant_of-self-2
invariant_of-self-2 c =
    let p = c.args.self.now in
    let f = p.faults_counted in
    let s = p.stops_counted in
    let few = p.few_stops in
    let less = one_less p.calls p.stops.items c.in-Some.image (ap (λ (stops : List Stop). planned_image (p.calls + 1) stops) (sym c.deref-2.ensures.value) ∙ (sym c.image_at.ensures ∙ c.in-Some.is)) in
    record { faults_counted = omega (arith, f); stops_counted = omega (arith, s); few_stops = omega (arith, few, less) }
