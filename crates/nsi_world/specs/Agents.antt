-- What agents of every kind say, besides the laws of one entry.
use Rattle.std.specs.Prelude.{List}
use Rattle.std.specs.List.{All}
use Rattle.nsi_primitive.specs.Printable.{IsPrintable, IsPrintableEntry}
use Rattle.nsi_primitive.specs.declared.entry.Entry.{Entry}
use Rattle.nsi_agent.specs.Homes.{Home}
use Rattle.nsi_agent.specs.Told.{told}

-- where entries can be written, so can what they cause
abbrev pub CausedIsPrintable : Type 0
CausedIsPrintable = (h : Home) (es : List Entry) → All IsPrintableEntry es → All IsPrintable (told h es).out
