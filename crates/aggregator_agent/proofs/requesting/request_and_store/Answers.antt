use Rattle.std.proofs.Common.{subst}
use Rattle.aggregator_agent.specs.Bonds.{bond}
use Rattle.aggregator_agent.specs.Indexed.{IsEndNamedBut, schedule_end_of}
use Rattle.aggregator_agent.proofs.Requested.{asked_ok}
use Rattle.aggregator_agent.proofs.requesting.request_and_store.Goals as goal

pub returns-clause-some : goal.returns-clause-some
returns-clause-some c =
    let some = c.in_ok-find_children.ensures.some in
    let none = c.new-said.ensures in
    ((λ a b. some.0), asked_ok (bond c.args.connection.now) (bond c.find_children.new.self) (bond c.take_request.new.self) c.args.outbox.now c.store.new.self c.new-said.result c.take_request.new.said _ _ c.args.entering.now c.args.start (λ a b. some.0) c.find_children.ensures.own some.1 none.out none.dues none.next c.in_ok-take_request.ensures.done c.in_ok-store.ensures)

pub returns-clause-named : goal.returns-clause-named
returns-clause-named c = record {
  named = c.in_ok-name.ensures.named;
  end = subst (λ o. IsEndNamedBut o c.name.new.self.ends c.args.start.place (schedule_end_of (bond c.take_request.new.self))) c.end-before.ensures c.in_ok-name.ensures.end;
}

pub returns-clause-by : goal.returns-clause-by
returns-clause-by c route h =
    let none = c.new-said.ensures in
    asked_ok (bond c.args.connection.now) (bond c.find_children.new.self) (bond c.take_request.new.self) c.args.outbox.now c.store.new.self c.new-said.result c.take_request.new.said _ _ c.args.entering.now c.args.start route c.find_children.ensures.own (c.in_ok-find_children.ensures.children route h) none.out none.dues none.next c.in_ok-take_request.ensures.done c.in_ok-store.ensures
