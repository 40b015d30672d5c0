use Rattle.std.proofs.Common.{map, sym, ◌∙◌}
use Rattle.std.specs.Prelude.{string_bytes}
use Rattle.command_words.specs.Words.{race_of}
use Rattle.nsi_program.proofs.Plainly.{nothing_plain}
use Rattle.nsi_program.proofs.Races.{unraced, not_both, same_limit, at_limit}
use Rattle.nsi_program.proofs.racing.top_or_race.Goals as goal

pub returns-in_default-clause-plain : goal.returns-in_default-clause-plain
returns-in_default-clause-plain g c = λ _. nothing_plain c.begins_with_nothing.ensures (map string_bytes c.args.words.now) _

pub returns-in_default-clause-raced : goal.returns-in_default-clause-raced
returns-in_default-clause-raced g c = λ most _. unraced most _

pub returns-in-Some-clause-plain : goal.returns-in-Some-clause-plain
returns-in-Some-clause-plain g c = λ none. not_both c.in-Some.most (race_of (map string_bytes c.args.words.now)) (sym c.in-Ok.ensures ∙ c.in-Some.is) none

pub returns-in-Some-clause-raced : goal.returns-in-Some-clause-raced
returns-in-Some-clause-raced g c = λ most some. at_limit c.in-Some.most most _ _ _ (same_limit c.in-Some.most most (sym (sym c.in-Ok.ensures ∙ c.in-Some.is) ∙ some)) c.race.ensures.raced

pub returns-in-None-clause-plain : goal.returns-in-None-clause-plain
returns-in-None-clause-plain g c = λ _. c.top.ensures.plain

pub returns-in-None-clause-raced : goal.returns-in-None-clause-raced
returns-in-None-clause-raced g c = λ most some. not_both most (race_of (map string_bytes c.args.words.now)) some (sym c.in-Ok.ensures ∙ c.in-None.is)
