-- A command as the parser builds it of options.
use Rattle.std.proofs.Common.{◌≡◌, ℕ, Bool, true, false, cond, codes, List, [], ◌∷◌, map, Option, Some, None, refl}
use Rattle.clap.specs.Simple.{App, Shape, built, is_simple, new_shape, with_rule}
use Rattle.clap.specs.Faults.{is_simple_and_free}
use Rattle.clap.specs.Values.{reading_of}
use Rattle.clap.specs.Walk.{Row, Rule, Text}
use Rattle.clap.specs.declared.builder.action.ArgAction.TheVariants.{Set, SetTrue}
use Rattle.clap.specs.declared.builder.value_parser.Reading.{Reading}
use Rattle.clap.specs.declared.builder.value_parser.ValueParser.{ValueParser}
use Rattle.clap.specs.declared.builder.value_parser.ValueParser.TheVariants as vp
use Rattle.clap.specs.declared.parser.matches.ValueSource.TheVariants.{CommandLine}
use Rattle.command_words.specs.Parsing.{flag_rule, needed_rule, plain_app, value_rule}
use Rattle.command_words.specs.Words.{Known, Given, events_options, generate_options, run_options}

abbrev pub parser_at : Bool → ValueParser
parser_at true = vp.String
parser_at false = vp.Bool

abbrev pub count_at : Bool → ℕ
count_at true = 1
count_at false = 0

-- an option as it is built
abbrev pub rule_at : Bool → Text → Bool → Rule
rule_at needed name takes = record {
  id = name;
  long = Some name;
  aliases = [];
  short = None;
  short_aliases = [];
  index = None;
  action = Some (cond takes Set SetTrue);
  range = Some (record { start_inclusive = count_at takes; end_inclusive = count_at takes });
  value_names = 0;
  defaults = cond takes [] (codes "false" ∷ []);
  missing = cond takes [] (codes "true" ∷ []);
  trailing_var_arg = false;
  parser = Some (parser_at takes);
  ignore_case = false;
  required = needed;
  is_simple = true;
  is_free = true;
}

abbrev pub rule_for : Bool → Known → Rule
rule_for needed k = rule_at needed k.name k.takes_value

abbrev pub rules_for : Bool → List Known → List Rule
rules_for needed known = map (rule_for needed) known

abbrev pub shape_for : Text → Bool → List Known → Shape
shape_for name needed known = record (new_shape name) {
  rules = rules_for needed known;
  disable_help_flag = true;
  disable_help_subcommand = true;
  is_built = true;
}

abbrev pub app_for : Text → Bool → List Known → App
app_for name needed known = record { top = shape_for name needed known; subs = [] }

abbrev pub events_app : Text → App
events_app name = with_rule (plain_app name) (value_rule (codes "events"))

abbrev pub run_app : App
run_app = with_rule (with_rule (with_rule (plain_app (codes "run")) (value_rule (codes "events"))) (value_rule (codes "workers"))) (flag_rule (codes "summary"))

abbrev pub check_app : App
check_app = plain_app (codes "check")

abbrev pub generate_app : App
generate_app = with_rule (with_rule (plain_app (codes "generate")) (needed_rule (codes "from"))) (needed_rule (codes "size"))

pub events_built : (name : Text) → built (events_app name) ≡ app_for name false events_options
events_built name = refl

pub run_built : built run_app ≡ app_for (codes "run") false run_options
run_built = refl

pub check_built : built check_app ≡ app_for (codes "check") false []
check_built = refl

pub generate_built : built generate_app ≡ app_for (codes "generate") true generate_options
generate_built = refl

pub events_simple : (name : Text) → is_simple (events_app name) ≡ true
events_simple name = refl

pub run_simple : is_simple run_app ≡ true
run_simple = refl

pub check_simple : is_simple check_app ≡ true
check_simple = refl

pub generate_simple : is_simple generate_app ≡ true
generate_simple = refl

pub events_free : (name : Text) → is_simple_and_free (events_app name) ≡ true
events_free name = refl

pub run_free : is_simple_and_free run_app ≡ true
run_free = refl

pub check_free : is_simple_and_free check_app ≡ true
check_free = refl

pub generate_free : is_simple_and_free generate_app ≡ true
generate_free = refl

---- The matches of the options that are given

abbrev pub values_for : Option Known → List ℕ → List Text
values_for None value = []
values_for (Some k) value = cond k.takes_value (value ∷ []) (codes "true" ∷ [])

abbrev pub reading_for : Option Known → Reading
reading_for None = reading_of vp.String
reading_for (Some k) = reading_of (parser_at k.takes_value)

abbrev pub row_for : Option Known → Given → Row
row_for o g = record { id = g.name; values = values_for o g.value; count = None; source = Some CommandLine; reading = reading_for o }
