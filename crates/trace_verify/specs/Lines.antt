-- The lines of a trace.
use Rattle.std.specs.Prelude.{ℕ, List, [], ◌∷◌, ◌++◌, Bool, true, ◌==◌, nat_eq, if◌then◌else◌, codes, decimal}
use Rattle.std.specs.List.{starts_with}
use Rattle.nsi_base.specs.Lines.{onto}

-- each ends with a line feed alone, and none is skipped; bytes behind the last line feed are a line too
unfoldable pub trace_lines : List ℕ → List (List ℕ)
trace_lines [] = []
trace_lines (b ∷ bs) = if b == 10 then [] ∷ trace_lines bs else onto true b (trace_lines bs)

-- a line with its line feed
abbrev pub ended : List ℕ → List ℕ
ended line = line ++ 10 ∷ []

-- the line that ends a trace of so many events
abbrev pub settled_line : ℕ → List ℕ
settled_line events = codes "settled " ++ decimal events

-- whether a line is one that ends a trace, whatever number it tells
abbrev pub is_closing : List ℕ → Bool
is_closing line = starts_with nat_eq line (codes "settled ")
