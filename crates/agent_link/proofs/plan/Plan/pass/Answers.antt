use Rattle.std.proofs.Common.{◌∙◌, sym, ap, arith}
use Rattle.agent_link.specs.Plans.{parcel_number}
use Rattle.agent_link.specs.Fates.{nearer}
use Rattle.agent_link.proofs.Nearing.{done_next, rest_next}
use Rattle.agent_link.proofs.plan.Plan.pass.Goals as goal

pub loop-fault-preserved : goal.loop-fault-preserved
loop-fault-preserved c =
    let l = c.loop-fault in
    record {
      done = λ p e. done_next (nearer p) c.args.self.now l.fault-items l.fault-index c.come_nearer.new.self _ (omega (arith, c.loop-fault-test.true, l.auto.fault-items)) (l.invariant.done p e) l.invariant.rest (c.come_nearer.ensures p (ap parcel_number e ∙ sym c.number-number.ensures));
      rest = rest_next c.args.self.now l.fault-items l.fault-index c.come_nearer.new.self l.invariant.rest;
    }
