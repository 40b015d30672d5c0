-- How a reader of lines keeps its bytes.
use Rattle.std.specs.Prelude.{◌≡◌, ◌≤◌, ◌-◌, take, drop, None, vec_len}
use Rattle.nsi_base.specs.Lines.{feed_at}
use Rattle.line_reader.specs.Held.{Held}
use Rattle.line_reader.specs.declared.reader.LineReader.TheInside.{Inside}

abbrev pub held : Inside → Held
held reader = record { bytes = drop reader.start reader.kept.items; room = reader.room }

-- The bytes that were looked at have no line feed.
pub record IsKept (reader : Inside) : Type 0 where
  pub started : reader.start ≤ reader.scanned
  pub within : reader.scanned ≤ vec_len reader.kept
  pub clear : feed_at (take (reader.scanned - reader.start) (drop reader.start reader.kept.items)) ≡ None
