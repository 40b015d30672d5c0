use Rattle.std.proofs.Common.{◌≡◌, ◌∙◌, ap₂, codes, map, string_bytes, rules}
use Rattle.clap.specs.Simple.{app_of, with_rule}
use Rattle.command_words.specs.Parsing.{plain_app, value_rule}
use Rattle.command_words.proofs.Reading.{are_texts, run_refused, run_taken}
use Rattle.command_words.proofs.Shapes.{run_app}
use Rattle.command_words.proofs.words.run_in.Goals as goal

pub returns-in_default : goal.returns-in_default
returns-in_default c =
    let first : app_of c.in_ok-arg.field-0 ≡ with_rule (plain_app (codes "run")) (value_rule (codes "events")) =
    c.in_ok-arg.ensures.shape (search rules) ∙ ap₂ with_rule c.plain_command.ensures c.value.ensures.rule in
    let second = c.in_ok-arg-2.ensures.shape (search rules) ∙ ap₂ with_rule first c.value-2.ensures.rule in
    let built : app_of c.in_ok-command.command ≡ run_app = c.in_ok-command.ensures.shape (search rules) ∙ ap₂ with_rule second c.flag.ensures.rule in
    run_refused (app_of c.in_ok-command.command) (map string_bytes c.args.words.now) c.in_ok-matches.field-0 built (are_texts c.args.words.now c.requires) c.in_ok-matches.ensures c.in_default.is

pub returns : goal.returns
returns c =
    let first : app_of c.in_ok-arg.field-0 ≡ with_rule (plain_app (codes "run")) (value_rule (codes "events")) =
    c.in_ok-arg.ensures.shape (search rules) ∙ ap₂ with_rule c.plain_command.ensures c.value.ensures.rule in
    let second = c.in_ok-arg-2.ensures.shape (search rules) ∙ ap₂ with_rule first c.value-2.ensures.rule in
    let built : app_of c.in_ok-command.command ≡ run_app = c.in_ok-command.ensures.shape (search rules) ∙ ap₂ with_rule second c.flag.ensures.rule in
    run_taken (app_of c.in_ok-command.command) (map string_bytes c.args.words.now) c.in_ok-matches.field-0 c.in-Some.matches c.run_with.result built (are_texts c.args.words.now c.requires) c.in_ok-matches.ensures c.in-Some.is
    c.run_with.ensures
