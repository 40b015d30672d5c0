-- Which ask a text is.
use Rattle.std.specs.Prelude.{ℕ, Bool, List, [], ◌∷◌, length, get_or, ◌==◌, codes, if◌then◌else◌, Option, Some, None, option_map}
use Rattle.std.specs.Str.{bytes_eq}
use Rattle.nsi_base.specs.Bytes.{is_name}
use Rattle.nsi_base.specs.Digits.{number_of}
use Rattle.nsi_base.specs.Options.{◌>>=◌}
use Rattle.nsi_base.specs.Range.{greatest_second, least_mbps, greatest_mbps, greatest_version}
use Rattle.nsi_base.specs.Words.{words_of}
use Rattle.nsi_base.specs.declared.words.Blanks.TheVariants.{Space}
use Rattle.nsi_primitive.specs.declared.ask.Ask.{Ask}
use Rattle.nsi_primitive.specs.declared.ask.What.{What}
use Rattle.nsi_primitive.specs.declared.ask.ReserveAsk.{ReserveAsk}
use Rattle.nsi_primitive.specs.declared.ask.NumbersAsked.{NumbersAsked}
use Rattle.nsi_primitive.specs.declared.kind.Directionality.{Directionality}
use Rattle.ask_text.specs.Asks.{ask_text}

abbrev pub word : List (List ℕ) → ℕ → List ℕ
word words i = get_or words i []

abbrev pub name_in : List ℕ → Option (List ℕ)
name_in word = if is_name word then Some word else None

-- a label and what is asked
unfoldable pub labelled_in : What → List (List ℕ) → Option Ask
labelled_in what args = do
  label ← name_in (word args 0)
  Some (record { label = Some label; what = what })

-- a label alone
abbrev pub plain_in : What → List (List ℕ) → Option Ask
plain_in what args = if length args == 1 then labelled_in what args else None

-- a label or none
unfoldable pub summary_in : List (List ℕ) → Option Ask
summary_in args = if length args == 0 then Some (record { label = None; what = What.Summary }) else plain_in What.Summary args

-- two numbers behind a label, or neither
unfoldable pub numbers_in : List (List ℕ) → Option (Option NumbersAsked)
numbers_in args =
    if length args == 1 then Some None
    else if length args == 3 then (do
      from ← number_of 0 18446744073709551615 (word args 1)
      to ← number_of 0 18446744073709551615 (word args 2)
      Some (Some (record { from = from; to = to })))
    else None

-- the word of a reserve whose traffic goes one way
abbrev pub is_one : List ℕ → Bool
is_one word = bytes_eq word (codes "one")

abbrev pub given_version : List ℕ → Option (Option ℕ)
given_version word = option_map (λ v. Some v) (number_of 0 greatest_version word)

-- a version behind the rest, or none; the word `one` may stand last
unfoldable pub version_in : List (List ℕ) → Option (Option ℕ)
version_in args =
    if length args == 6 then Some None
    else if length args == 7 then (if is_one (word args 6) then Some None else given_version (word args 6))
    else if length args == 8 then (if is_one (word args 7) then given_version (word args 6) else None)
    else None

-- both ways, where the word isn't there
abbrev pub way_by : List ℕ → Directionality
way_by word = if is_one word then Directionality.Unidirectional else Directionality.Bidirectional

-- by the last word, where there are more than six
unfoldable pub way_in : List (List ℕ) → Directionality
way_in args =
    if length args == 6 then Directionality.Bidirectional
    else if length args == 7 then way_by (word args 6)
    else way_by (word args 7)

-- the two points differ
abbrev pub with_points_apart : List ℕ → ReserveAsk → Option Ask
with_points_apart label r =
    if bytes_eq r.source r.dest then None
    else Some (record { label = Some label; what = What.Reserve r })

-- label, source, destination, capacity, start and end, behind them a version or none, and last the word `one` or nothing
unfoldable pub reserve_in : List (List ℕ) → Option Ask
reserve_in args = do
  version ← version_in args
  label ← name_in (word args 0)
  source ← name_in (word args 1)
  dest ← name_in (word args 2)
  capacity ← number_of least_mbps greatest_mbps (word args 3)
  start ← number_of 0 greatest_second (word args 4)
  end ← number_of 0 greatest_second (word args 5)
  with_points_apart label (record { source = source; dest = dest; capacity = capacity; start = start; end = end; version = version; directionality = way_in args })

-- the asks that have a label and nothing else
unfoldable pub plain_named : List ℕ → Option What
plain_named verb =
    if bytes_eq verb (codes "commit") then Some What.Commit
    else if bytes_eq verb (codes "abort") then Some What.Abort
    else if bytes_eq verb (codes "provision") then Some What.Provision
    else if bytes_eq verb (codes "release") then Some What.Release
    else if bytes_eq verb (codes "terminate") then Some What.Terminate
    else if bytes_eq verb (codes "recursive") then Some What.Recursive
    else None

abbrev pub of_plain : Option What → List (List ℕ) → Option Ask
of_plain None args = None
of_plain (Some what) args = plain_in what args

abbrev pub notifications_in : List (List ℕ) → Option Ask
notifications_in args = numbers_in args >>= λ numbers. labelled_in (What.Notifications numbers) args

abbrev pub results_in : List (List ℕ) → Option Ask
results_in args = numbers_in args >>= λ numbers. labelled_in (What.Results numbers) args

-- by the first word
unfoldable pub by_verb : List ℕ → List (List ℕ) → Option Ask
by_verb verb args =
    if bytes_eq verb (codes "reserve") then reserve_in args
    else if bytes_eq verb (codes "summary") then summary_in args
    else if bytes_eq verb (codes "notifications") then notifications_in args
    else if bytes_eq verb (codes "results") then results_in args
    else of_plain (plain_named verb) args

-- the ask that words are, leading zeros of numbers allowed
abbrev pub ask_in : List (List ℕ) → Option Ask
ask_in [] = None
ask_in (verb ∷ args) = by_verb verb args

-- the ask, where these bytes are its text
abbrev pub as_spelled : List ℕ → Ask → Option Ask
as_spelled text ask = if bytes_eq (ask_text ask) text then Some ask else None

-- the ask that a text is the one spelling of
unfoldable pub ask_of : List ℕ → Option Ask
ask_of text = ask_in (words_of Space text) >>= as_spelled text
