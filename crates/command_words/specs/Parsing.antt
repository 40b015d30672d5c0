-- What the parser is asked for, and what it gives.
use Rattle.std.specs.Prelude.{◌≡◌, List, [], Bool, true, false, codes, drop, map, string_bytes, String, Option, Some, None, Result, IfOk}
use Rattle.std.specs.List.{list_any}
use Rattle.clap.specs.Faults.{fault_of}
use Rattle.clap.specs.Matches.{found_of}
use Rattle.clap.specs.Simple.{App, matches_of, new_app, new_rule, on_top}
use Rattle.clap.specs.Walk.{Rule, Text, rows_of}
use Rattle.clap.specs.declared.builder.action.ArgAction.TheVariants.{Set, SetTrue}
use Rattle.clap.specs.declared.parser.matches.ArgMatches.{ArgMatches}
use Rattle.command_words.specs.Words.{is_end}

-- a command without a flag for help
abbrev pub plain_app : Text → App
plain_app name = on_top (λ s. record s { disable_help_flag = true }) (new_app name)

-- `--name value`
abbrev pub value_rule : Text → Rule
value_rule name = record (new_rule name) { long = Some name; action = Some Set }

abbrev pub needed_rule : Text → Rule
needed_rule name = record (value_rule name) { required = true }

-- `--name`
abbrev pub flag_rule : Text → Rule
flag_rule name = record (new_rule name) { long = Some name; action = Some SetTrue }

-- the parse took the words exactly where no kind of error comes of them, and the matches are what it makes of them
abbrev pub Parses : App → List Text → Option ArgMatches → Type 0
Parses app words None = fault_of app words ≡ [] → ⊥
Parses app words (Some matches) = (fault_of app words ≡ []) × (rows_of (found_of matches) ≡ matches_of app words)

-- the text that a flag reads as
abbrev pub flag_text : Bool → Text
flag_text true = codes "true"
flag_text false = codes "false"

-- a word is `--`
abbrev pub has_end : {Z : Type 0} → List (String Z) → Bool
has_end words = list_any (λ word. is_end (string_bytes word)) words

-- the command is what a reader makes of the words behind the first one, or memory is wanting
abbrev pub Names : {Z C E : Type 0} → (List Text → Option C) → List (String Z) → Result (Option C) E → Type 0
Names reads words result = IfOk result (λ command. command ≡ reads (drop 1 (map string_bytes words)))
