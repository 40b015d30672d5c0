use Rattle.std.proofs.Common.{◌≡◌, ◌∙◌, map, string_bytes, rules}
use Rattle.clap.specs.Simple.{app_of}
use Rattle.command_words.proofs.Reading.{are_texts, generate_refused, generate_taken}
use Rattle.command_words.proofs.Shapes.{generate_app}
use Rattle.command_words.proofs.words.generate_in.Goals as goal

pub returns-in_default : goal.returns-in_default
returns-in_default c =
    let built : app_of c.in_ok-command.command ≡ generate_app = search rules in
    generate_refused (app_of c.in_ok-command.command) (map string_bytes c.args.words.now) c.in_ok-matches.field-0 built (are_texts c.args.words.now c.requires) c.in_ok-matches.ensures c.in_default.is

pub returns : goal.returns
returns c =
    let built : app_of c.in_ok-command.command ≡ generate_app = search rules in
    c.generate_with.ensures
    ∙ generate_taken (app_of c.in_ok-command.command) (map string_bytes c.args.words.now) c.in_ok-matches.field-0 c.in-Some.matches built (are_texts c.args.words.now c.requires) c.in_ok-matches.ensures c.in-Some.is
