use Rattle.nsi_base.specs.declared.flow.Flow.TheVariants.{Both, In, Out}
use Rattle.capacity_calendar.proofs.tables.Tables.turn.Goals as goal

pub turn-requires-clause-source : goal.turn-requires-clause-source
turn-requires-clause-source c = λ e. c.requires.source e Both

pub turn-requires-clause-dest : goal.turn-requires-clause-dest
turn-requires-clause-dest c = λ e. c.requires.dest e Both

pub turn-requires-2-clause-source : goal.turn-requires-2-clause-source
turn-requires-2-clause-source c = λ e. c.requires.source e In

pub turn-requires-2-clause-dest : goal.turn-requires-2-clause-dest
turn-requires-2-clause-dest c = λ e. c.requires.dest e In

pub turn-requires-3-clause-source : goal.turn-requires-3-clause-source
turn-requires-3-clause-source c = λ e. c.requires.source e Out

pub turn-requires-3-clause-dest : goal.turn-requires-3-clause-dest
turn-requires-3-clause-dest c = λ e. c.requires.dest e Out
