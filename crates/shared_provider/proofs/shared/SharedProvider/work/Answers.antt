use Rattle.shared_provider.proofs.Works.{call_is_work}
use Rattle.shared_provider.proofs.shared.SharedProvider.work.Goals as goal

pub returns-clause-work : goal.returns-clause-work
returns-clause-work g c = call_is_work c.args.connection c.tell.result (c.tell.ensures.held _ c.do_work-answer.ensures.held)
