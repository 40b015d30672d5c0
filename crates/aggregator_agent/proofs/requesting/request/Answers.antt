use Rattle.aggregator_agent.specs.Bonds.{bond}
use Rattle.aggregator_agent.proofs.Undo.{former_by}
use Rattle.aggregator_agent.proofs.requesting.request.Goals as goal

pub returns-in-Err-clause-back : goal.returns-in-Err-clause-back
returns-in-Err-clause-back c =
    c.go_back.ensures (bond c.args.connection.now) (former_by c.in_ok-kept.kept (bond c.args.connection.now) (bond c.request_and_store.new.connection) c.in_ok-kept.ensures.keeps c.request_and_store.ensures.later)
