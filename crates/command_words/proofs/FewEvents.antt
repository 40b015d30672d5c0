-- How many events the words may let be.
use Rattle.std.proofs.Common.{◌≡◌, ◌≤◌, ℕ, List, [], ◌∷◌, cond, Bool, true, false, Option, Some, None, refl, arith, option_map, option_and_then}
use Rattle.std.specs.Prelude.{codes}
use Rattle.std.specs.List.{list_any}
use Rattle.std.specs.Str.{bytes_eq}
use Rattle.std.proofs.lemmas.Bool.Decides.{nat_tests}
use Rattle.nsi_base.specs.Digits.{number_of, ranged, are_digits, value_from}
use Rattle.command_words.specs.declared.command.Command.{Command}
use Rattle.command_words.specs.declared.command.Load.{Load}
use Rattle.command_words.specs.declared.command.Play.{Play}
use Rattle.command_words.specs.Words.{Given, check_of, command_of, events_in, from_in, generate_of, generate_options, is_end, limit_in, limit_of, events_options, load_of, options_from, play_of, report_in, run_of, run_options, size_in, value_of, with_options, workers_in, is_given}

ranged_few : (low high : ℕ) (digits : Bool) (n most : ℕ) → ranged low high digits n ≡ Some most → most ≤ high
ranged_few low high digits n most e = grind (arith, nat_tests)

some_is : (a b : ℕ) → Some a ≡ Some b → a ≡ b
some_is a b h = cc

events_few : (word : Option (List ℕ)) (most : ℕ) → events_in word ≡ Some most → most ≤ 2000000
unfolding number_of
events_few None most e = omega (arith, some_is 2000000 most e)
events_few (Some word) most e = ranged_few 1 2000000 (are_digits word) (value_from 0 word) most e

-- the command `provide` with a number of events
abbrev provides : ℕ → Option Command
provides most = Some (Command.Provide most)

limit_within : (given : Option (List Given)) (most : ℕ) → option_and_then limit_of given ≡ Some most → most ≤ 2000000
limit_within None most e = cc
limit_within (Some given) most e = events_few (value_of (codes "events") given) most e

provide_few : (o : Option ℕ) (most : ℕ) → ((n : ℕ) → o ≡ Some n → n ≤ 2000000) → option_map Command.Provide o ≡ provides most → most ≤ 2000000
provide_few None most few e = cc
provide_few (Some n) most few e = let s = same n most e in omega (arith, few n refl)
  where
    same : (a b : ℕ) → provides a ≡ provides b → a ≡ b
    same a b h = cc

verify_apart : (o : Option ℕ) (most : ℕ) → option_map Command.Verify o ≡ provides most → most ≤ 2000000
verify_apart None most e = cc
verify_apart (Some n) most e = cc

run_apart : (given : Option (List Given)) (most : ℕ) → option_and_then run_of given ≡ provides most → most ≤ 2000000
run_apart None most e = cc
run_apart (Some given) most e =
    go (play_of (events_in (value_of (codes "events") given)) (workers_in (value_of (codes "workers") given)) (report_in (is_given (codes "summary") given))) e
  where
    go : (o : Option Play) → option_map Command.Run o ≡ provides most → most ≤ 2000000
    go None e = cc
    go (Some play) e = cc

check_apart : (given : Option (List Given)) (most : ℕ) → option_and_then check_of given ≡ provides most → most ≤ 2000000
check_apart None most e = cc
check_apart (Some given) most e = cc

generate_apart : (given : Option (List Given)) (most : ℕ) → option_and_then generate_of given ≡ provides most → most ≤ 2000000
generate_apart None most e = cc
generate_apart (Some given) most e = go (load_of (from_in (value_of (codes "from") given)) (size_in (value_of (codes "size") given))) e
  where
    go : (o : Option Load) → option_map Command.Generate o ≡ provides most → most ≤ 2000000
    go None e = cc
    go (Some load) e = cc

-- a limit that the words name is within the greatest
pub limit_few : (words : List (List ℕ)) (most : ℕ) → command_of words ≡ provides most → most ≤ 2000000
limit_few [] most e = cc
limit_few (name ∷ words) most e =
    go (list_any is_end (name ∷ words)) (bytes_eq name (codes "provide")) (bytes_eq name (codes "run")) (bytes_eq name (codes "check")) (bytes_eq name (codes "verify")) (bytes_eq name (codes "generate")) e
  where
    go : (a b r c v d : Bool)
        → cond a None (cond b (option_map Command.Provide (limit_in words)) (cond r (with_options run_options run_of words) (cond c (with_options [] check_of words)
        (cond v (option_map Command.Verify (limit_in words)) (cond d (with_options generate_options generate_of words) None))))) ≡ provides most → most ≤ 2000000
    go true b r c v d e = cc
    go false true r c v d e = provide_few (limit_in words) most (limit_within (options_from events_options [] words)) e
    go false false true c v d e = run_apart (options_from run_options [] words) most e
    go false false false true v d e = check_apart (options_from [] [] words) most e
    go false false false false true d e = verify_apart (limit_in words) most e
    go false false false false false true e = generate_apart (options_from generate_options [] words) most e
    go false false false false false false e = cc

-- and it is one
pub limit_is : (words : List (List ℕ)) (a b : ℕ) → command_of words ≡ provides a → command_of words ≡ provides b → a ≡ b
limit_is words a b p q = cc
