use Rattle.nsi_world.proofs.Printing.{caused_is_printable}
use Rattle.nsi_world.proofs.laws.agents.Goals as goal

pub returns-clause-own : goal.returns-clause-own
returns-clause-own c = c.every_message.ensures.own

pub returns-clause-once : goal.returns-clause-once
returns-clause-once c = c.every_request.ensures.apart

pub returns-clause-printable : goal.returns-clause-printable
returns-clause-printable c =
    caused_is_printable (record { aggregator = c.every_entry.ensures.printable; requester = c.every_entry-2.ensures.printable; blank = c.every_state.ensures.blank; good = c.every_state.ensures.good })
