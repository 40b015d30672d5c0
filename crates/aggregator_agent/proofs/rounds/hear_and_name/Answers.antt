use Rattle.aggregator_agent.specs.Bonds.{bond, answered}
use Rattle.aggregator_agent.proofs.Found.{done_on, named_again}
use Rattle.aggregator_agent.proofs.rounds.hear_and_name.Goals as goal

pub returns-clause-done : goal.returns-clause-done
returns-clause-done c =
    let e = c.args.entering.now in
    done_on c.args.said.now c.take_answer.new.said (bond c.take_answer.new.self) _ c.name.result (answered e.agent.now e.second e.message.now c.args.number c.args.said.now.next (bond c.args.connection.now)) c.in_ok-take_answer.ensures.done

pub returns-clause-named : goal.returns-clause-named
returns-clause-named c = named_again c.name.result c.end-before.result c.name.new.self c.args.place (bond c.args.connection.now) (bond c.take_answer.new.self) c.end-before.ensures c.name.ensures.named c.name.ensures.end
