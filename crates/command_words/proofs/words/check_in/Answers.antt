use Rattle.std.proofs.Common.{map, string_bytes}
use Rattle.clap.specs.Simple.{app_of}
use Rattle.command_words.proofs.Reading.{are_texts, check_refused, check_taken}
use Rattle.command_words.proofs.words.check_in.Goals as goal

pub returns-in_default : goal.returns-in_default
returns-in_default c =
    check_refused (app_of c.plain_command.result) (map string_bytes c.args.words.now) c.in_ok-parsed.field-0 c.plain_command.ensures (are_texts c.args.words.now c.requires) c.in_ok-parsed.ensures c.in_default.is

pub returns : goal.returns
returns c =
    check_taken (app_of c.plain_command.result) (map string_bytes c.args.words.now) c.in_ok-parsed.field-0 c.in-Some.field-0 c.plain_command.ensures (are_texts c.args.words.now c.requires) c.in_ok-parsed.ensures c.in-Some.is
