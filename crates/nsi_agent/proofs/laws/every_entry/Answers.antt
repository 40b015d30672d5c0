use Rattle.nsi_agent.proofs.Staying.{entries_are_taken, others_are_left_out}
use Rattle.nsi_agent.proofs.laws.every_entry.Goals as goal

pub returns-clause-taken : goal.returns-clause-taken
returns-clause-taken c = entries_are_taken

pub returns-clause-left_out : goal.returns-clause-left_out
returns-clause-left_out c = others_are_left_out
