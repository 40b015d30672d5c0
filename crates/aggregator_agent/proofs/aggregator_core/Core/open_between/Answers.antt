use Rattle.std.proofs.Common.{◌≡◌, ◌∙◌, refl, ap}
use Rattle.std.specs.Map.{values_of}
use Rattle.agent_state.specs.State.{name_or}
use Rattle.connection_record.specs.declared.record.Record.{Record}
use Rattle.connection_record.specs.Moves.{fresh, service_of}
use Rattle.aggregator_agent.specs.Bonds.{bond}
use Rattle.aggregator_agent.proofs.Stepping.{opened_made, opened_bond, new_bond}
use Rattle.aggregator_agent.proofs.aggregator_core.Core.open_between.Goals as goal

pub open-requires : goal.open-requires
open-requires c = ap (λ (r : Record). r.committed) c.in_ok-connection.ensures.own

pub returns-clause-step : goal.returns-clause-step
returns-clause-step c =
    let d = c.args.self.now in
    let m = c.args.message.now in
    let q = c.args.reserve.now in
    let t = c.args.topology.now in
    let points = c.args.points in
    let x = c.in_ok-connection.connection in
    let b = new_bond d.agent m d.next q points in
    let own : x.own ≡ b.own = c.in_ok-connection.ensures.own ∙ ap (λ i. fresh i m.header.requester (service_of q (name_or q.source) (name_or q.dest)) points.0 points.1) c.in_ok-id.ensures.id in
    let is : bond x ≡ b = opened_bond x b own c.in_ok-connection.ensures.children in
    let said = c.in_ok-said.said in
    let some = c.in_ok-said.ensures.some in
    record {
      by = λ route h. opened_made t d.agent d.now m d.next route d.connections c.open.new.self (bond x) d.outbox c.open.new.outbox (values_of d.queries) said d.taken q points is (c.in_ok-said.ensures.by route h);
      some = (some.0, opened_made t d.agent d.now m d.next some.0 d.connections c.open.new.self (bond x) d.outbox c.open.new.outbox (values_of d.queries) said d.taken q points is some.1);
      agent = refl;
      err = tt;
    }
