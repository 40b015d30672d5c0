use Rattle.std.proofs.Common.{◌≡◌, ◌∙◌, map, string_bytes, rules}
use Rattle.clap.specs.Simple.{app_of}
use Rattle.command_words.proofs.Reading.{are_texts, events_refused, events_taken}
use Rattle.command_words.proofs.Shapes.{events_app}
use Rattle.command_words.proofs.words.limit_in.Goals as goal

pub returns-in_default : goal.returns-in_default
returns-in_default c =
    let built : app_of c.in_ok-command.command ≡ events_app c.args.name.now = search rules in
    events_refused c.args.name.now (app_of c.in_ok-command.command) (map string_bytes c.args.words.now) c.in_ok-matches.field-0 built (are_texts c.args.words.now c.requires) c.in_ok-matches.ensures c.in_default.is

pub returns : goal.returns
returns c =
    let built : app_of c.in_ok-command.command ≡ events_app c.args.name.now = search rules in
    c.limit_with.ensures
    ∙ events_taken c.args.name.now (app_of c.in_ok-command.command) (map string_bytes c.args.words.now) c.in_ok-matches.field-0 c.in-Some.matches built (are_texts c.args.words.now c.requires) c.in_ok-matches.ensures c.in-Some.is
