-- What a parse of a command's options gives, and what is read of its matches.
use Rattle.std.proofs.Common.{◌≡◌, ◌∙◌, ◌&&◌, ◌||◌, ℕ, Bool, true, false, not, cond, codes, List, [], ◌∷◌, ◌++◌, map, Option, Some, None, find, fold, refl, sym, ap, ap₂, subst, option_map, option_and_then, true≢false, drop, string_bytes, String, ◌⊎◌, inl, inr}
use Rattle.std.proofs.lemmas.Str.{IsUtf8-string_bytes}
use Rattle.std.specs.Prelude.{slice_get, is_some}
use Rattle.std.specs.List.{list_any}
use Rattle.std.specs.Option.{option_map_or}
use Rattle.std.specs.Str.{bytes_eq}
use Rattle.std.proofs.lemmas.Slice.Eq.{bytes_eq-Decides}
use Rattle.clap.specs.Facts.{explicit_source}
use Rattle.clap.specs.Faults.{built_fault, check_fault, default_fault, defaults_fault, entered_fault, level_fault, settle_fault, walk_fault}
use Rattle.clap.specs.Kinds.{Kinds, or_else}
use Rattle.clap.specs.Simple.{App, entered}
use Rattle.clap.specs.Takes.{is_given as is_used}
use Rattle.clap.specs.Values.{read_as, reading_of}
use Rattle.clap.specs.declared.builder.value_parser.ValueParser.TheVariants as vp
use Rattle.clap.specs.declared.parser.matches.ValueSource.TheVariants.{DefaultValue}
use Rattle.clap.specs.Walk.{Row, more_values, Rule, Text, default_rows, finished, first_of, has_row, nothing_held, one_of, row_text, rows_after, settled, walk, with_default}
use Rattle.clap.specs.declared.error.kind.ErrorKind.TheVariants.{MissingRequiredArgument}
use Rattle.clap.specs.Matches.{first_value, found_of, one_text}
use Rattle.clap.specs.declared.parser.matches.ArgMatches.{ArgMatches}
use Rattle.clap.specs.declared.parser.matches.Found.{Found}
use Rattle.clap.proofs.WalkLemmas.{list_any-map, first_value-rows, one_text-rows}
use Rattle.command_words.specs.Parsing.{flag_text, has_end, Parses}
use Rattle.command_words.specs.declared.command.Command.{Command}
use Rattle.command_words.specs.Words.{Known, Given, by_first, check_of, flag, events_in, events_options, from_in, generate_of, generate_options, generate_with, is_end, is_given, limit_in, limit_of, load_of, options_from, run_of, run_options, run_with, value_of, with_options, with_value}
use Rattle.command_words.proofs.Shapes.{app_for, check_app, generate_app, events_app, run_app, parser_at, values_for, row_for, rule_at, rule_for, rules_for, shape_for}
use Rattle.command_words.proofs.Walking.{Agrees, AreTexts, Refuses, end_rows, first_refuses, has_row_given, idle_at, in_turn, no_row_at, row_of, rows_of, total, walks}

abbrev with_defaults : List Rule → List Row → List Row
with_defaults rules rows = fold with_default rows rules

-- a required option is missing
abbrev lacks : List Rule → List Row → Bool
lacks rules rows = list_any (λ a. a.required && not (is_used a.id rows)) rules

---- The kinds of error

pub default_passes : (needed : Bool) (n : Text) (takes : Bool) (rows : List Row) → default_fault rows (rule_at needed n takes) ≡ []
default_passes needed n true rows = go (has_row n rows)
  where
    go : (b : Bool) → cond (b || true) [] (or_else [] []) ≡ []
    go true = refl
    go false = refl
default_passes needed n false rows = go (has_row n rows)
  where
    go : (b : Bool) → cond (b || false) [] (or_else [] (or_else [] [])) ≡ []
    go true = refl
    go false = refl

defaults_pass : (needed : Bool) (known : List Known) (rows : List Row) → defaults_fault rows (rules_for needed known) ≡ []
unfolding defaults_fault
defaults_pass needed [] rows = refl
defaults_pass needed (k ∷ known) rows =
    ap (λ x. or_else x (defaults_fault (with_default rows (rule_for needed k)) (rules_for needed known))) (default_passes needed k.name k.takes_value rows)
    ∙ defaults_pass needed known (with_default rows (rule_for needed k))

module _ (name : Text) (needed : Bool) (known : List Known) where
  abbrev rules : List Rule
  rules = rules_for needed known

  nothing_entered : (stop : Option (Text × List Text)) → (is_some (entered (app_for name needed known) stop) ≡ false) × (entered_fault (app_for name needed known) stop ≡ [])
  nothing_entered None = (refl, refl)
  nothing_entered (Some p) = (refl, refl)

  abbrev full : List Given → List Row
  full given = with_defaults (rules_for needed known) (rows_of known given)

  abbrev needs : Bool → Kinds
  needs b = cond b (MissingRequiredArgument ∷ []) []

  level_is : (words : List Text) → built_fault (app_for name needed known) nothing_held words
      ≡ or_else (total name needed known (idle_at [] None) words) (needs (lacks (rules_for needed known) (with_defaults (rules_for needed known) (end_rows name needed known (idle_at [] None) words))))
  level_is words =
      let stop = (walk rules [] nothing_held words).stopped in
      let end = (walk rules [] nothing_held words).held in
      let walking = walk_fault (shape_for name needed known) [] (idle_at [] None) words in
      let settling = settle_fault rules false end in
      let checking = check_fault (shape_for name needed known) (finished rules end) false in
      let none = nothing_entered stop in
      ap₂ (λ b below. level_fault (shape_for name needed known) [] nothing_held words b below) none.0 none.1
      ∙ (ap (λ d. or_else walking (or_else settling (or_else d checking))) (defaults_pass needed known (settled rules end).rows) ∙ sym (in_turn walking settling checking))

  -- what a parse gives, by the options that the words are
  abbrev pub Outcome : Kinds → List Row → Option (List Given) → Type 0
  Outcome kinds rows None = Refuses kinds
  Outcome kinds rows (Some given) = (kinds ≡ needs (lacks (rules_for needed known) (full given))) × (rows ≡ full given)

  pub outcome : (words : List Text) → AreTexts words → Outcome (built_fault (app_for name needed known) nothing_held words) (rows_after (rules_for needed known) [] words) (options_from known [] words)
  outcome words t = go (options_from known [] words) (walks name needed known words t [] None [] refl refl)
    where
      go : (o : Option (List Given)) → Agrees name needed known (total name needed known (idle_at [] None) words) (end_rows name needed known (idle_at [] None) words) o
          → Outcome (built_fault (app_for name needed known) nothing_held words) (rows_after (rules_for needed known) [] words) o
      go None r = subst Refuses (sym (level_is words)) (first_refuses _ _ r)
      go (Some given) h = (level_is words ∙ ap₂ (λ t r. or_else t (needs (lacks rules (with_defaults rules r)))) h.0 h.1, ap (with_defaults rules) h.1)

---- The values

-- an option with a value has no default
value_kept : (needed : Bool) (n : Text) (rows : List Row) → with_default rows (rule_at needed n true) ≡ rows
value_kept needed n rows = go (has_row n rows)
  where
    go : (b : Bool) → cond b rows rows ≡ rows
    go true = refl
    go false = refl

abbrev default_row : Text → Row
default_row n = record { id = n; values = codes "false" ∷ []; count = None; source = Some DefaultValue; reading = reading_of vp.Bool }

flag_default : (needed : Bool) (n : Text) (rows : List Row) (b : Bool) → has_row n rows ≡ b → with_default rows (rule_at needed n false) ≡ cond b rows (rows ++ default_row n ∷ [])
flag_default needed n rows true e = ap (λ b. cond b rows (default_rows n (reading_of vp.Bool) (codes "false" ∷ []) rows)) e
flag_default needed n rows false e =
    ap (λ b. cond b rows (default_rows n (reading_of vp.Bool) (codes "false" ∷ []) rows)) e ∙ no_row_at n (more_values DefaultValue (codes "false" ∷ [])) (default_row n ∷ []) rows e

abbrev finds : Text → Row → Bool
finds n r = bytes_eq r.id n

found_before : (n : Text) (r : Row) (rows : List Row) → bytes_eq r.id n ≡ false → find (finds n) (rows ++ r ∷ []) ≡ find (finds n) rows
found_before n r [] e = ap (λ b. cond b (Some r) None) e
found_before n r (x ∷ rows) e = ap (cond (bytes_eq x.id n) (Some x)) (found_before n r rows e)

found_last : (n : Text) (r : Row) (rows : List Row) → bytes_eq r.id n ≡ true → has_row n rows ≡ false → find (finds n) (rows ++ r ∷ []) ≡ Some r
found_last n r [] e none = ap (λ b. cond b (Some r) None) e
found_last n r (x ∷ rows) e none = go (bytes_eq x.id n) (found_last n r rows e) none
  where
    go : (b : Bool) → (has_row n rows ≡ false → find (finds n) (rows ++ r ∷ []) ≡ Some r) → (b || has_row n rows) ≡ false → cond b (Some x) (find (finds n) (rows ++ r ∷ [])) ≡ Some r
    go true rest h = absurd (true≢false h)
    go false rest h = rest h

-- the default of a flag of another name changes nothing
default_apart : (needed : Bool) (n m : Text) (rows : List Row) → bytes_eq m n ≡ false → first_of n (with_default rows (rule_at needed m false)) ≡ first_of n rows
default_apart needed n m rows e = go (has_row m rows) refl
  where
    go : (b : Bool) → has_row m rows ≡ b → first_of n (with_default rows (rule_at needed m false)) ≡ first_of n rows
    go true h = ap (first_of n) (flag_default needed m rows true h)
    go false h = ap (first_of n) (flag_default needed m rows false h) ∙ ap (option_and_then (λ (r : Row). slice_get r.values 0)) (found_before n (default_row m) rows e)

first_given : (known : List Known) (n : Text) (k : Known) → find (λ x. bytes_eq x.name n) known ≡ Some k → k.takes_value ≡ true → (given : List Given) → first_of n (rows_of known given) ≡ value_of n given
first_given known n k f t [] = refl
first_given known n k f t (g ∷ given) = go (bytes_eq g.name n) refl (first_given known n k f t given)
  where
    value : bytes_eq g.name n ≡ true → slice_get (values_for (find (λ x. bytes_eq x.name g.name) known) g.value) 0 ≡ Some g.value
    value e =
        ap (λ (m : Text). slice_get (values_for (find (λ x. bytes_eq x.name m) known) g.value) 0) ((bytes_eq-Decides g.name n).0 e)
        ∙ (ap (λ o. slice_get (values_for o g.value) 0) f ∙ ap (λ b. slice_get (cond b (g.value ∷ []) (codes "true" ∷ [])) 0) t)

    go : (b : Bool) → bytes_eq g.name n ≡ b → first_of n (rows_of known given) ≡ value_of n given
        → option_and_then (λ (r : Row). slice_get r.values 0) (cond b (Some (row_of known g)) (find (finds n) (rows_of known given))) ≡ option_map (λ (x : Given). x.value) (cond b (Some g) (find (λ x. bytes_eq x.name n) given))
    go true e rest = value e
    go false e rest = rest

flag_given : (known : List Known) (n : Text) (k : Known) → find (λ x. bytes_eq x.name n) known ≡ Some k → k.takes_value ≡ false → (given : List Given) → is_given n given ≡ true
    → one_of n (rows_of known given) ≡ Some (codes "true")
flag_given known n k f t [] is = absurd (true≢false (sym is))
flag_given known n k f t (g ∷ given) is = go (bytes_eq g.name n) refl (flag_given known n k f t given) is
  where
    value : bytes_eq g.name n ≡ true → row_text (row_of known g) ≡ Some (codes "true")
    value e =
        ap (λ (m : Text). row_text (row_for (find (λ x. bytes_eq x.name m) known) g)) ((bytes_eq-Decides g.name n).0 e)
        ∙ (ap (λ o. row_text (row_for o g)) f ∙ ap (λ b. option_map (read_as (reading_of (parser_at b))) (slice_get (cond b (g.value ∷ []) (codes "true" ∷ [])) 0)) t)

    go : (b : Bool) → bytes_eq g.name n ≡ b → (is_given n given ≡ true → one_of n (rows_of known given) ≡ Some (codes "true")) → (b || is_given n given) ≡ true
        → option_and_then row_text (cond b (Some (row_of known g)) (find (finds n) (rows_of known given))) ≡ Some (codes "true")
    go true e rest h = value e
    go false e rest h = rest h

used_given : (known : List Known) (n : Text) (given : List Given) → is_used n (rows_of known given) ≡ is_given n given
used_given known n [] = refl
used_given known n (g ∷ given) = go (bytes_eq g.name n) (used_given known n given)
  where
    go : (b : Bool) → is_used n (rows_of known given) ≡ is_given n given
        → option_map_or (λ (r : Row). explicit_source r.source) (cond b (Some (row_of known g)) (find (finds n) (rows_of known given))) false ≡ (b || is_given n given)
    go true e = refl
    go false e = e

no_value : (n : Text) (given : List Given) → is_given n given ≡ false → value_of n given ≡ None
no_value n [] e = refl
no_value n (g ∷ given) e = go (bytes_eq g.name n) (no_value n given) e
  where
    go : (b : Bool) → (is_given n given ≡ false → value_of n given ≡ None) → (b || is_given n given) ≡ false → option_map (λ (x : Given). x.value) (cond b (Some g) (find (λ x. bytes_eq x.name n) given)) ≡ None
    go true rest h = absurd (true≢false h)
    go false rest h = rest h

---- Commands without a required option

none_lacks : (known : List Known) (rows : List Row) → lacks (rules_for false known) rows ≡ false
none_lacks [] rows = refl
none_lacks (k ∷ known) rows = none_lacks known rows

abbrev kinds_of : Text → Bool → List Known → List Text → Kinds
kinds_of name needed known words = built_fault (app_for name needed known) nothing_held words

abbrev rows_by : Bool → List Known → List Text → List Row
rows_by needed known words = rows_after (rules_for needed known) [] words

-- words that are refused are no options
pub refused : {C : Type 0} (name : Text) (known : List Known) (make : List Given → Option C) (words : List Text) → AreTexts words → Refuses (kinds_of name false known words)
    → None ≡ with_options known make words
refused name known make words t r = go (options_from known [] words) (outcome name false known words t)
  where
    go : (o : Option (List Given)) → Outcome name false known (kinds_of name false known words) (rows_by false known words) o → None ≡ option_and_then make o
    go None h = refl
    go (Some given) h = absurd (r (h.0 ∙ ap (λ b. cond b (MissingRequiredArgument ∷ []) []) (none_lacks known (with_defaults (rules_for false known) (rows_of known given)))))

-- and words that are taken are options, whose rows are found
pub taken : {C : Type 0} (name : Text) (needed : Bool) (known : List Known) (make : List Given → Option C) (words : List Text) (result : Option C) → AreTexts words → kinds_of name needed known words ≡ []
    → ((given : List Given) → rows_by needed known words ≡ with_defaults (rules_for needed known) (rows_of known given) → result ≡ make given) → result ≡ with_options known make words
taken name needed known make words result t none read = go (options_from known [] words) (outcome name needed known words t)
  where
    go : (o : Option (List Given)) → Outcome name needed known (kinds_of name needed known words) (rows_by needed known words) o → result ≡ option_and_then make o
    go None h = absurd (h none)
    go (Some given) h = read given h.1

---- The words

parts_false : (a b : Bool) → (a || b) ≡ false → (a ≡ false) × (b ≡ false)
parts_false true b e = absurd (true≢false e)
parts_false false b e = (refl, e)

all_texts : {Z : Type 0} (words : List (String Z)) → has_end words ≡ false → AreTexts (map string_bytes words)
all_texts [] e = tt
all_texts (word ∷ words) e = let p = parts_false (is_end (string_bytes word)) (has_end words) e in (p.0, IsUtf8-string_bytes word, all_texts words p.1)

-- the words behind the command's name
pub are_texts : {Z : Type 0} (words : List (String Z)) → has_end words ≡ false → AreTexts (drop 1 (map string_bytes words))
are_texts [] e = tt
are_texts (word ∷ words) e = (all_texts (word ∷ words) e).2

---- Each command

parses_as : (app own : App) (words : List Text) (m m2 : Option ArgMatches) → app ≡ own → m ≡ m2 → Parses app words m → Parses own words m2
parses_as app own words m m2 e f p = subst (λ x. Parses own words x) f (subst (λ a. Parses a words m) e p)

pub events_refused : (name : Text) (app : App) (words : List Text) (m : Option ArgMatches) → app ≡ events_app name → AreTexts (drop 1 words) → Parses app words m → m ≡ None → None ≡ limit_in (drop 1 words)
events_refused name app words m e t p f = refused name events_options limit_of (drop 1 words) t (parses_as app (events_app name) words m None e f p)

pub events_taken : (name : Text) (app : App) (words : List Text) (m : Option ArgMatches) (x : ArgMatches) → app ≡ events_app name → AreTexts (drop 1 words) → Parses app words m → m ≡ Some x
    → events_in (first_value (found_of x) (codes "events")) ≡ limit_in (drop 1 words)
events_taken name app words m x e t p f =
    let q = parses_as app (events_app name) words m (Some x) e f p in
    taken name false events_options limit_of (drop 1 words) (events_in (first_value (found_of x) (codes "events"))) t q.0
    (λ given rows. ap events_in (first_value-rows (found_of x) (codes "events")
    ∙ (ap (first_of (codes "events")) (q.1 ∙ (rows ∙ value_kept false (codes "events") (rows_of events_options given)))
    ∙ first_given events_options (codes "events") (with_value (codes "events")) refl refl given)))

pub check_refused : (app : App) (words : List Text) (m : Option ArgMatches) → app ≡ check_app → AreTexts (drop 1 words) → Parses app words m → m ≡ None → None ≡ with_options [] check_of (drop 1 words)
check_refused app words m e t p f = refused (codes "check") [] check_of (drop 1 words) t (parses_as app check_app words m None e f p)

pub check_taken : (app : App) (words : List Text) (m : Option ArgMatches) (x : ArgMatches) → app ≡ check_app → AreTexts (drop 1 words) → Parses app words m → m ≡ Some x
    → Some Command.Check ≡ with_options [] check_of (drop 1 words)
check_taken app words m x e t p f =
    let q = parses_as app check_app words m (Some x) e f p in
    taken (codes "check") false [] check_of (drop 1 words) (Some Command.Check) t q.0 (λ given rows. refl)

abbrev summary : Rule
summary = rule_at false (codes "summary") false

run_rows : (rows : List Row) → with_defaults (rules_for false run_options) rows ≡ with_default rows summary
run_rows rows =
    ap (λ r. with_default (with_default r (rule_at false (codes "workers") true)) summary) (value_kept false (codes "events") rows)
    ∙ ap (λ r. with_default r summary) (value_kept false (codes "workers") rows)

summary_read : (given : List Given) → one_of (codes "summary") (with_default (rows_of run_options given) summary) ≡ Some (flag_text (is_given (codes "summary") given))
summary_read given = go (is_given (codes "summary") given) refl
  where
    rows : List Row
    rows = rows_of run_options given

    go : (b : Bool) → is_given (codes "summary") given ≡ b → one_of (codes "summary") (with_default (rows_of run_options given) summary) ≡ Some (flag_text b)
    go true e =
        ap (one_of (codes "summary")) (flag_default false (codes "summary") rows true (has_row_given run_options given (codes "summary") ∙ e))
        ∙ flag_given run_options (codes "summary") (flag (codes "summary")) refl refl given e
    go false e =
        let none = has_row_given run_options given (codes "summary") ∙ e in
        ap (one_of (codes "summary")) (flag_default false (codes "summary") rows false none)
        ∙ ap (option_and_then row_text) (found_last (codes "summary") (default_row (codes "summary")) rows refl none)

run_value : (n : Text) (given : List Given) → bytes_eq (codes "summary") n ≡ false → find (λ x. bytes_eq x.name n) run_options ≡ Some (with_value n)
    → first_of n (with_default (rows_of run_options given) summary) ≡ value_of n given
run_value n given apart f = default_apart false n (codes "summary") (rows_of run_options given) apart ∙ first_given run_options n (with_value n) f refl given

pub run_refused : (app : App) (words : List Text) (m : Option ArgMatches) → app ≡ run_app → AreTexts (drop 1 words) → Parses app words m → m ≡ None → None ≡ with_options run_options run_of (drop 1 words)
run_refused app words m e t p f = refused (codes "run") run_options run_of (drop 1 words) t (parses_as app run_app words m None e f p)

-- what is read of the matches of `run`
abbrev pub ReadsRun : Found → Option Command → Type 0
ReadsRun found result =
    (is_summary : Bool) → one_text found (codes "summary") ≡ Some (flag_text is_summary) → result ≡ run_with (first_value found (codes "events")) (first_value found (codes "workers")) is_summary

pub run_taken : (app : App) (words : List Text) (m : Option ArgMatches) (x : ArgMatches) (result : Option Command) → app ≡ run_app → AreTexts (drop 1 words) → Parses app words m → m ≡ Some x
    → ReadsRun (found_of x) result → result ≡ with_options run_options run_of (drop 1 words)
run_taken app words m x result e t p f read =
    let q = parses_as app run_app words m (Some x) e f p in
    taken (codes "run") false run_options run_of (drop 1 words) result t q.0
    (λ given rows. let found = q.1 ∙ (rows ∙ run_rows (rows_of run_options given)) in
    read (is_given (codes "summary") given) (one_text-rows (found_of x) (codes "summary") ∙ (ap (one_of (codes "summary")) found ∙ summary_read given))
    ∙ ap₂ (λ events workers. run_with events workers (is_given (codes "summary") given))
    (first_value-rows (found_of x) (codes "events") ∙ (ap (first_of (codes "events")) found ∙ run_value (codes "events") given refl refl))
    (first_value-rows (found_of x) (codes "workers") ∙ (ap (first_of (codes "workers")) found ∙ run_value (codes "workers") given refl refl)))

generate_rows : (rows : List Row) → with_defaults (rules_for true generate_options) rows ≡ rows
generate_rows rows = ap (λ r. with_default r (rule_at true (codes "size") true)) (value_kept true (codes "from") rows) ∙ value_kept true (codes "size") rows

-- a load without one of its numbers is none
no_load : (from size : Option (List ℕ)) → (from ≡ None) ⊎ (size ≡ None) → None ≡ generate_with from size
no_load from size (inl e) = ap (λ x. generate_with x size) (sym e)
no_load from size (inr e) = go (from_in from) ∙ ap (generate_with from) (sym e)
  where
    go : (o : Option ℕ) → None ≡ option_map Command.Generate (load_of o None)
    go None = refl
    go (Some n) = refl

generate_lacks : (given : List Given) → lacks (rules_for true generate_options) (with_defaults (rules_for true generate_options) (rows_of generate_options given))
    ≡ (not (is_given (codes "from") given) || (not (is_given (codes "size") given) || false))
generate_lacks given =
    ap (lacks (rules_for true generate_options)) (generate_rows (rows_of generate_options given))
    ∙ ap₂ (λ a b. not a || (not b || false)) (used_given generate_options (codes "from") given) (used_given generate_options (codes "size") given)

pub generate_refused : (app : App) (words : List Text) (m : Option ArgMatches) → app ≡ generate_app → AreTexts (drop 1 words) → Parses app words m → m ≡ None
    → None ≡ with_options generate_options generate_of (drop 1 words)
generate_refused app words m e t p f =
    go (options_from generate_options [] (drop 1 words)) (outcome (codes "generate") true generate_options (drop 1 words) t) (parses_as app generate_app words m None e f p)
  where
    missing : (given : List Given) (a b : Bool) → is_given (codes "from") given ≡ a → is_given (codes "size") given ≡ b
        → Refuses (cond (not a || (not b || false)) (MissingRequiredArgument ∷ []) []) → None ≡ generate_of given
    missing given false b x y r = no_load (value_of (codes "from") given) (value_of (codes "size") given) (inl (no_value (codes "from") given x))
    missing given true false x y r = no_load (value_of (codes "from") given) (value_of (codes "size") given) (inr (no_value (codes "size") given y))
    missing given true true x y r = absurd (r refl)

    go : (o : Option (List Given))
        → Outcome (codes "generate") true generate_options (kinds_of (codes "generate") true generate_options (drop 1 words)) (rows_by true generate_options (drop 1 words)) o
        → Refuses (kinds_of (codes "generate") true generate_options (drop 1 words)) → None ≡ option_and_then generate_of o
    go None h r = refl
    go (Some given) h r =
        missing given (is_given (codes "from") given) (is_given (codes "size") given) refl refl
        (subst Refuses (h.0 ∙ ap (λ b. cond b (MissingRequiredArgument ∷ []) []) (generate_lacks given)) r)

pub generate_taken : (app : App) (words : List Text) (m : Option ArgMatches) (x : ArgMatches) → app ≡ generate_app → AreTexts (drop 1 words) → Parses app words m → m ≡ Some x
    → generate_with (first_value (found_of x) (codes "from")) (first_value (found_of x) (codes "size")) ≡ with_options generate_options generate_of (drop 1 words)
generate_taken app words m x e t p f =
    let q = parses_as app generate_app words m (Some x) e f p in
    taken (codes "generate") true generate_options generate_of (drop 1 words) (generate_with (first_value (found_of x) (codes "from")) (first_value (found_of x) (codes "size"))) t q.0
    (λ given rows. let found = q.1 ∙ (rows ∙ generate_rows (rows_of generate_options given)) in
    ap₂ generate_with
    (first_value-rows (found_of x) (codes "from") ∙ (ap (first_of (codes "from")) found ∙ first_given generate_options (codes "from") (with_value (codes "from")) refl refl given))
    (first_value-rows (found_of x) (codes "size") ∙ (ap (first_of (codes "size")) found ∙ first_given generate_options (codes "size") (with_value (codes "size")) refl refl given)))

-- words of which one is `--` say nothing
pub none_said : {Z C : Type 0} (says : List ℕ → List (List ℕ) → Option C) (words : List (String Z)) → has_end words ≡ true → None ≡ by_first says (map string_bytes words)
none_said says [] e = refl
none_said says (word ∷ words) e =
    ap (λ b. cond b None (says (string_bytes word) (map string_bytes words))) (sym e ∙ list_any-map is_end string_bytes (word ∷ words))

-- others say what the first one says
pub first_says : {Z C : Type 0} (says : List ℕ → List (List ℕ) → Option C) (words : List (String Z)) (name : String Z) → slice_get words 0 ≡ Some name → has_end words ≡ false
    → says (string_bytes name) (drop 1 (map string_bytes words)) ≡ by_first says (map string_bytes words)
first_says says [] name e h = cc
first_says {Z} says (word ∷ words) name e h =
    ap (λ (w : String Z). says (string_bytes w) (map string_bytes words)) (sym (same word name e))
    ∙ ap (λ b. cond b None (says (string_bytes word) (map string_bytes words))) (sym h ∙ list_any-map is_end string_bytes (word ∷ words))
  where
    same : (a b : String Z) → Some a ≡ Some b → a ≡ b
    same a b h = cc
