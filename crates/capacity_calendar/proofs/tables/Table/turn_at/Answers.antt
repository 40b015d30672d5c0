use Rattle.std.proofs.Common.{sym, ◌∙◌}
use Rattle.capacity_calendar.proofs.Turns.{index_beside}
use Rattle.capacity_calendar.proofs.tables.Table.turn_at.Goals as goal

pub returns-else-books-clause-index : goal.returns-else-books-clause-index
returns-else-books-clause-index c = λ n le e. index_beside c.args.flow c.args.stp c.args.change.now c.args.bookings.now _ (sym c.books.ensures ∙ c.if-books.false) (c.requires.index n le e)
