-- A script as a text.
use Rattle.std.specs.Prelude.{◌≡◌, ℕ, ◌+◌, List, [], ◌∷◌, Bool, ◌||◌, ◌==◌, if◌then◌else◌, length, Result, Ok, Err, get_or}
use Rattle.nsi_base.specs.Lines.{lines_of}
use Rattle.nsi_base.specs.Words.{words_of}
use Rattle.nsi_base.specs.declared.words.Blanks.TheVariants.{SpaceOrTab}
use Rattle.stp_topology.specs.declared.network.Network.{Network}
use Rattle.nsi_script.specs.declared.fault.ScriptFault.{ScriptFault}
use Rattle.nsi_script.specs.declared.fault.ScriptRefusal.{ScriptRefusal}
use Rattle.nsi_script.specs.declared.fault.ScriptRefusal.TheVariants.{Fault, NoMemory}
use Rattle.nsi_script.specs.declared.script.Script.{Script}
use Rattle.nsi_script.specs.Lines.{line_of}
use Rattle.nsi_script.specs.Scripts.{nothing}

-- an empty line or a comment
abbrev pub is_skipped : List ℕ → Bool
is_skipped line = length line == 0 || get_or line 0 0 == 35

-- the script after a line
unfoldable pub of_line : Network → Script → List ℕ → Result Script ScriptFault
of_line t s line = if is_skipped line then Ok s else line_of t s (words_of SpaceOrTab line)

-- what a line makes of the reading, which goes on where the line has no fault
abbrev pub onward : ℕ → Result Script ScriptFault → (Script → Result Script (ℕ × ScriptFault)) → Result Script (ℕ × ScriptFault)
onward number (Ok s) next = next s
onward number (Err fault) next = Err (number, fault)

-- the script after the lines, the first of which has that number, or the number of the first faulty one and its fault
unfoldable pub read_lines : Network → Script → ℕ → List (List ℕ) → Result Script (ℕ × ScriptFault)
read_lines t s number [] = Ok s
read_lines t s number (line ∷ lines) = onward number (of_line t s line) (λ new. read_lines t new (number + 1) lines)

-- the script that a text is, or the first faulty line; the text's first line has that number
abbrev pub script_of : Network → ℕ → List ℕ → Result Script (ℕ × ScriptFault)
script_of t first_line text = read_lines t nothing first_line (lines_of text)

-- what reading returned is what the text says, unless memory ran out
abbrev pub Reads : Result Script ScriptRefusal → Result Script (ℕ × ScriptFault) → Type 0
Reads (Ok s) read = read ≡ Ok s
Reads (Err (Fault line fault)) read = read ≡ Err (line, fault)
Reads (Err NoMemory) read = Unit {0}
