-- Which command the words name.
use Rattle.std.specs.Prelude.{ℕ, List, [], ◌∷◌, ◌++◌, ◌==◌, ◌&&◌, Bool, true, false, not, codes, drop, find, nat_eq, if◌then◌else◌, Option, Some, None, option_map, option_and_then}
use Rattle.std.specs.List.{starts_with, list_any, before_first, after_first}
use Rattle.std.specs.Str.{bytes_eq}
use Rattle.nsi_base.specs.Digits.{number_of}
use Rattle.command_limits.specs.Limits.{most_events, most_workers}
use Rattle.run_totals.specs.declared.report.Report.{Report}
use Rattle.command_words.specs.declared.command.Command.{Command}
use Rattle.command_words.specs.declared.command.Load.{Load}
use Rattle.command_words.specs.declared.command.Play.{Play}

---- The options that words are

-- an option that a command has: its name, and whether a value stands with it
pub record Known : Type 0 where
  pub name : List ℕ
  pub takes_value : Bool

-- an option as it is given: the value of one that takes none is empty
pub record Given : Type 0 where
  pub name : List ℕ
  pub value : List ℕ

-- `=`
abbrev pub is_equals : ℕ → Bool
is_equals b = b == 61

-- in `--name=value`
abbrev pub name_in : List ℕ → List ℕ
name_in word = before_first is_equals (drop 2 word)

abbrev pub has_value : List ℕ → Bool
has_value word = list_any is_equals (drop 2 word)

abbrev pub value_in : List ℕ → List ℕ
value_in word = after_first is_equals (drop 2 word)

-- the option that the word begins: its name stands behind `--`, up to a `=` or the end of the word
abbrev pub option_in : List Known → List ℕ → Option Known
option_in known word = if starts_with nat_eq word (codes "--") then find (λ k. bytes_eq k.name (name_in word)) known else None

-- an option in one word: `--name=value`, or `--name` where it takes no value
abbrev pub in_one_word : Option Known → List ℕ → Option Given
in_one_word None word = None
in_one_word (Some k) word =
    if has_value word then (if k.takes_value then Some (record { name = k.name; value = value_in word }) else None)
    else (if k.takes_value then None else Some (record { name = k.name; value = [] }))

-- the word is `--name`, and the value stands in the next one
abbrev pub wants_next : Option Known → List ℕ → Bool
wants_next None word = false
wants_next (Some k) word = k.takes_value && not (has_value word)

-- a word that begins with `-` and goes on is no value
abbrev pub is_dashed : List ℕ → Bool
is_dashed [] = false
is_dashed (b ∷ []) = false
is_dashed (b ∷ next ∷ bytes) = b == 45

-- an option in two words: `--name value`
abbrev pub in_two_words : Option Known → List ℕ → Option Given
in_two_words None value = None
in_two_words (Some k) value = if is_dashed value then None else Some (record { name = k.name; value = value })

abbrev pub is_given : List ℕ → List Given → Bool
is_given name given = list_any (λ g. bytes_eq g.name name) given

-- an option more, which may be given once
abbrev pub and_option : List Given → Option Given → Option (List Given)
and_option given None = None
and_option given (Some g) = if is_given g.name given then None else Some (given ++ g ∷ [])

-- the options that words are, one after another, behind those that were given
unfoldable pub options_from : List Known → List Given → List (List ℕ) → Option (List Given)
options_from known given [] = Some given
options_from known given (word ∷ []) = and_option given (in_one_word (option_in known word) word)
options_from known given (word ∷ next ∷ words) =
    if wants_next (option_in known word) word then option_and_then (λ g. options_from known g words) (and_option given (in_two_words (option_in known word) next))
    else option_and_then (λ g. options_from known g (next ∷ words)) (and_option given (in_one_word (option_in known word) word))

-- the value that an option was given
abbrev pub value_of : List ℕ → List Given → Option (List ℕ)
value_of name given = option_map (λ (g : Given). g.value) (find (λ g. bytes_eq g.name name) given)

---- Numbers

abbrev pub greatest_number : ℕ
greatest_number = 18446744073709551615

-- the most reserves that a load may have
abbrev pub most_reserves : ℕ
most_reserves = 5000

-- the number of events that an option asks for, and the most where it is not given
abbrev pub events_in : Option (List ℕ) → Option ℕ
events_in None = Some most_events
events_in (Some word) = number_of 1 most_events word

-- the number of workers, and one where it is not given
abbrev pub workers_in : Option (List ℕ) → Option ℕ
workers_in None = Some 1
workers_in (Some word) = number_of 1 most_workers word

-- the numbers of a load, which have to be given
abbrev pub from_in : Option (List ℕ) → Option ℕ
from_in word = option_and_then (number_of 0 greatest_number) word

abbrev pub size_in : Option (List ℕ) → Option ℕ
size_in word = option_and_then (number_of 0 most_reserves) word

abbrev pub report_in : Bool → Report
report_in is_summary = if is_summary then Report.Summary else Report.Trace

---- Commands

-- `--name value`
abbrev pub with_value : List ℕ → Known
with_value name = record { name = name; takes_value = true }

-- `--name`
abbrev pub flag : List ℕ → Known
flag name = record { name = name; takes_value = false }

abbrev pub events_options : List Known
events_options = with_value (codes "events") ∷ []

abbrev pub limit_of : List Given → Option ℕ
limit_of given = events_in (value_of (codes "events") given)

abbrev pub run_options : List Known
run_options = with_value (codes "events") ∷ with_value (codes "workers") ∷ flag (codes "summary") ∷ []

abbrev pub play_of : Option ℕ → Option ℕ → Report → Option Play
play_of (Some most) (Some workers) report = Some (record { most = most; workers = workers; report = report })
play_of _ _ report = None

abbrev pub run_with : (events workers : Option (List ℕ)) → (is_summary : Bool) → Option Command
run_with events workers is_summary = option_map Command.Run (play_of (events_in events) (workers_in workers) (report_in is_summary))

abbrev pub run_of : List Given → Option Command
run_of given = run_with (value_of (codes "events") given) (value_of (codes "workers") given) (is_given (codes "summary") given)

abbrev pub check_of : List Given → Option Command
check_of given = Some Command.Check

abbrev pub generate_options : List Known
generate_options = with_value (codes "from") ∷ with_value (codes "size") ∷ []

abbrev pub load_of : Option ℕ → Option ℕ → Option Load
load_of (Some from) (Some size) = Some (record { from = from; size = size })
load_of _ _ = None

abbrev pub generate_with : (from size : Option (List ℕ)) → Option Command
generate_with from size = option_map Command.Generate (load_of (from_in from) (size_in size))

abbrev pub generate_of : List Given → Option Command
generate_of given = generate_with (value_of (codes "from") given) (value_of (codes "size") given)

-- what the options make, where the words are such options
abbrev pub with_options : {C : Type 0} → List Known → (List Given → Option C) → List (List ℕ) → Option C
with_options known make words = option_and_then make (options_from known [] words)

-- how many events there may be, where the words are that option alone, or nothing
abbrev pub limit_in : List (List ℕ) → Option ℕ
limit_in words = with_options events_options limit_of words

-- the first word names the command, and its options stand behind it
abbrev pub named : List ℕ → List (List ℕ) → Option Command
named name words =
    if bytes_eq name (codes "provide") then option_map Command.Provide (limit_in words)
    else if bytes_eq name (codes "run") then with_options run_options run_of words
    else if bytes_eq name (codes "check") then with_options [] check_of words
    else if bytes_eq name (codes "verify") then option_map Command.Verify (limit_in words)
    else if bytes_eq name (codes "generate") then with_options generate_options generate_of words
    else None

abbrev pub is_end : List ℕ → Bool
is_end word = bytes_eq word (codes "--")

-- what the first word and those behind it say, and nothing where a word is `--`
abbrev pub by_first : {C : Type 0} → (List ℕ → List (List ℕ) → Option C) → List (List ℕ) → Option C
by_first says [] = None
by_first says (name ∷ words) = if list_any is_end (name ∷ words) then None else says name words

abbrev pub command_of : List (List ℕ) → Option Command
command_of words = by_first named words

-- In how many events at most requesters are to race, where the words say that. They name no command then.
abbrev pub race_named : List ℕ → List (List ℕ) → Option ℕ
race_named name words = if bytes_eq name (codes "race") then limit_in words else None

abbrev pub race_of : List (List ℕ) → Option ℕ
race_of words = by_first race_named words
