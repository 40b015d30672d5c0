use Rattle.nsi_agent.proofs.Works.{work_is_done, none_is_left}
use Rattle.nsi_agent.proofs.laws.works.Goals as goal

pub returns-clause-done : goal.returns-clause-done
returns-clause-done c = work_is_done

pub returns-clause-none : goal.returns-clause-none
returns-clause-none c = none_is_left
