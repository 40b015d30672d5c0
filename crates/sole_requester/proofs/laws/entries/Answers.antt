use Rattle.sole_requester.proofs.Counted.{got_received, work_done, ask_sends, message_heard}
use Rattle.sole_requester.proofs.laws.entries.Goals as goal

pub returns-clause-requests : goal.returns-clause-requests
returns-clause-requests c = got_received

pub returns-clause-work : goal.returns-clause-work
returns-clause-work c = work_done

pub returns-clause-asks : goal.returns-clause-asks
returns-clause-asks c = ask_sends

pub returns-clause-messages : goal.returns-clause-messages
returns-clause-messages c = message_heard
