-- What comes next.
use Rattle.std.specs.Prelude.{◌≡◌, [], Bool, true, false}
use Rattle.line_reader.specs.Held.{Held}
use Rattle.line_reader.specs.declared.reader.Next.{Next}

abbrev pub is_line : Next → Bool
is_line (Next.Line line) = true
is_line _ = false

-- all that is held is the last line, or nothing is held
abbrev pub TakesLast : Held → Held → Next → Type 0
TakesLast old new (Next.Line line) = (line.items ≡ old.bytes) × (new ≡ record { bytes = []; room = old.room }) × (old.bytes ≡ [] → ⊥)
TakesLast old new Next.End = old.bytes ≡ []
TakesLast old new Next.Long = ⊥
