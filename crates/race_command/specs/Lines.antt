-- A script of a race as a text.
use Rattle.std.specs.Prelude.{ℕ, ◌+◌, ◌&&◌, ◌||◌, not, nat_le, Bool, false, List, [], ◌∷◌, if◌then◌else◌, codes, Option, Some, None, Result, Ok, Err}
use Rattle.std.specs.Str.{bytes_eq}
use Rattle.nsi_base.specs.Lines.{lines_of}
use Rattle.nsi_base.specs.Words.{words_of}
use Rattle.nsi_base.specs.declared.words.Blanks.TheVariants.{SpaceOrTab}
use Rattle.stp_topology.specs.declared.network.Network.{Network}
use Rattle.stp_topology.specs.Network.{agent_of}
use Rattle.nsi_script.specs.declared.fault.ScriptFault.{ScriptFault}
use Rattle.nsi_script.specs.declared.fault.ScriptFault.TheVariants.{Word}
use Rattle.nsi_script.specs.declared.script.Script.{Script}
use Rattle.nsi_script.specs.Text.{is_skipped, script_of}
use Rattle.race_run.specs.Found.{is_caller}

-- the first word is the name of a requester of the provider
abbrev pub names_caller : Network → ℕ → List (List ℕ) → Bool
names_caller t p [] = false
names_caller t p (name ∷ words) = is_caller t p (agent_of t name)

-- an ask of such a requester, or the first `at`
abbrev pub is_allowed : Network → ℕ → (begun : Bool) → List (List ℕ) → Bool
is_allowed t p begun [] = false
is_allowed t p begun (verb ∷ args) = if bytes_eq verb (codes "ask") then names_caller t p args else bytes_eq verb (codes "at") && not begun

abbrev pub is_at : List (List ℕ) → Bool
is_at [] = false
is_at (verb ∷ args) = bytes_eq verb (codes "at")

-- what may stand in a race
abbrev pub is_race_line : Network → ℕ → (begun : Bool) → List ℕ → Bool
is_race_line t p begun line = is_skipped line || is_allowed t p begun (words_of SpaceOrTab line)

abbrev pub begins : List ℕ → Bool
begins line = not (is_skipped line) && is_at (words_of SpaceOrTab line)

-- the number of the first line that may not; the first of the lines has that number, and in front of it stood an `at` or none
unfoldable pub first_strange : Network → ℕ → (begun : Bool) → ℕ → List (List ℕ) → Option ℕ
first_strange t p begun number [] = None
first_strange t p begun number (line ∷ lines) = if is_race_line t p begun line then first_strange t p (begun || begins line) (number + 1) lines else Some number

-- the line that may not stand there is refused as a word, before any other fault of that line and of later ones
abbrev pub refused_at : Option ℕ → Result Script (ℕ × ScriptFault) → Result Script (ℕ × ScriptFault)
refused_at None read = read
refused_at (Some number) (Ok s) = Err (number, Word)
refused_at (Some number) (Err x) = if nat_le number x.0 then Err (number, Word) else Err x

-- the script of a race that a text is, or the first faulty line
abbrev pub race_script_of : Network → ℕ → ℕ → List ℕ → Result Script (ℕ × ScriptFault)
race_script_of t p first_line text = refused_at (first_strange t p false first_line (lines_of text)) (script_of t first_line text)
