use Rattle.std.proofs.Common.{refl}
use Rattle.std.specs.Map.{values_of}
use Rattle.aggregator_agent.proofs.Chaining.{err_step}
use Rattle.aggregator_agent.proofs.Stepping.{state_back, requested_made}
use Rattle.aggregator_agent.proofs.aggregator_core.Core.request_at.Goals as goal

pub returns-in_err-said-clause-step : goal.returns-in_err-said-clause-step
returns-in_err-said-clause-step c =
    let d = c.args.self.now in
    let back = c.in_err-said.ensures in
    err_step c.args.topology.now d _ c.from_residual.result _ c.from_residual.ensures.0 refl (state_back d.connections c.request_at.new.self d.outbox c.request_at.new.outbox (values_of d.queries) d.next d.now d.taken back.back back.unsaid back.undue)

pub returns-clause-step : goal.returns-clause-step
returns-clause-step c =
    let d = c.args.self.now in
    let m = c.args.message.now in
    let said = c.in_ok-said.said in
    let some = c.in_ok-said.ensures.some in
    record {
      by = λ route h. requested_made c.args.topology.now d.agent d.now m d.next route c.args.place d.connections c.request_at.new.self d.outbox c.request_at.new.outbox (values_of d.queries) said d.taken c.requires (c.in_ok-said.ensures.by route h);
      some = (some.0, requested_made c.args.topology.now d.agent d.now m d.next some.0 c.args.place d.connections c.request_at.new.self d.outbox c.request_at.new.outbox (values_of d.queries) said d.taken c.requires some.1);
      agent = refl;
      err = tt;
    }
