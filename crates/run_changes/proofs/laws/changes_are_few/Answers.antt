use Rattle.run_changes.proofs.Few.{requesters_tell_none, changes_are_few as few_told}
use Rattle.run_changes.proofs.laws.changes_are_few.Goals as goal

pub returns-clause-requesters : goal.returns-clause-requesters
returns-clause-requesters c = requesters_tell_none c.every_message.ensures.own c.sent.ensures.heard c.heard.ensures.heard

pub returns-clause-all : goal.returns-clause-all
returns-clause-all c = few_told c.every_message.ensures.own c.sent.ensures.heard c.heard.ensures.heard
