use Rattle.std.proofs.Common.{rules, arith, subst, sym}
use Rattle.std.specs.Str.{IsUtf8}
use Rattle.std.proofs.lemmas.Grind.{common_steps}
use Rattle.date_time.proofs.Spelling.{spelled_text}
use Rattle.date_time.proofs.printing.joined.Goals as goal

pub returns-clause-value : goal.returns-clause-value
returns-clause-value c = first_of (search rules, grind (arith, common_steps))

pub returns-clause-text : goal.returns-clause-text
returns-clause-text c =
    subst IsUtf8 (sym (returns-clause-value c)) (spelled_text c.args.year c.args.month c.args.day c.args.hour c.args.minute c.args.second c.requires.year c.requires.month c.requires.day c.requires.hour c.requires.minute c.requires.second)
