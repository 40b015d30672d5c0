use Rattle.nsi_agent.proofs.KindSteps.{provider_stepped, provider_by_some, aggregator_stepped, aggregator_by_some, requester_stepped, requester_by_some}
use Rattle.nsi_agent.proofs.kind.Kind.next.Goals as goal

pub returns-in_ok-out-in-Provider-clause-by : goal.returns-in_ok-out-in-Provider-clause-by
returns-in_ok-out-in-Provider-clause-by c route h =
    let made = c.in_ok-out-in-Provider.ensures in
    provider_stepped c.args.topology.now c.args.self.now c.in-Provider.provider c.next.new.self c.in_ok-out-in-Provider.out c.args.entry.now c.in-Provider.is made.state made.out route

pub returns-in_ok-out-in-Provider-clause-some : goal.returns-in_ok-out-in-Provider-clause-some
returns-in_ok-out-in-Provider-clause-some c =
    let made = c.in_ok-out-in-Provider.ensures in
    provider_by_some c.args.topology.now c.args.self.now c.in-Provider.provider c.next.new.self c.in_ok-out-in-Provider.out c.args.entry.now c.in-Provider.is made.state made.out

pub returns-in_ok-out-in-Aggregator-clause-by : goal.returns-in_ok-out-in-Aggregator-clause-by
returns-in_ok-out-in-Aggregator-clause-by c =
    let made = c.in_ok-out-in-Aggregator.ensures in
    aggregator_stepped c.args.topology.now c.args.self.now c.in-Aggregator.aggregator c.next-in-Aggregator.new.self c.in_ok-out-in-Aggregator.out c.args.entry.now c.in-Aggregator.is made.answer made.state made.out

pub returns-in_ok-out-in-Aggregator-clause-some : goal.returns-in_ok-out-in-Aggregator-clause-some
returns-in_ok-out-in-Aggregator-clause-some c =
    let made = c.in_ok-out-in-Aggregator.ensures in
    aggregator_by_some c.args.topology.now c.args.self.now c.in-Aggregator.aggregator c.next-in-Aggregator.new.self c.in_ok-out-in-Aggregator.out c.args.entry.now c.in-Aggregator.is made.answer made.some

pub returns-in-Requester-clause-by : goal.returns-in-Requester-clause-by
returns-in-Requester-clause-by c route h =
    let made = c.next-in-Requester.ensures in
    requester_stepped c.args.topology.now c.args.self.now c.in-Requester.requester c.next-in-Requester.new.self c.args.entry.now c.in-Requester.is c.next-in-Requester.result route made.state made.answer made.out

pub returns-in-Requester-clause-some : goal.returns-in-Requester-clause-some
returns-in-Requester-clause-some c =
    let made = c.next-in-Requester.ensures in
    requester_by_some c.args.topology.now c.args.self.now c.in-Requester.requester c.next-in-Requester.new.self c.args.entry.now c.in-Requester.is c.next-in-Requester.result made.state made.answer made.out
