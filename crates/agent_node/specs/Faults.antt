-- The fault of a turn whose journal failed.
use Rattle.journal_entry.specs.declared.journal.JournalFault.{JournalFault}
use Rattle.journal_entry.specs.declared.journal.JournalFault.TheVariants as journal
use Rattle.agent_node.specs.declared.fault.TurnFault.{TurnFault}

abbrev pub fault_by : JournalFault → TurnFault
fault_by journal.DiskFault = TurnFault.DiskFault
fault_by journal.Stopped = TurnFault.Stopped
fault_by journal.NoMemory = TurnFault.NoMemory
