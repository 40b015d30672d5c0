use Rattle.std.proofs.Common.{◌≡◌, ◌++◌, map, length}
use Rattle.nsi_base.specs.Words.{words_of}
use Rattle.nsi_base.proofs.words.words.Given as goal

abbrev pub invariant-words : goal.invariant-words
invariant-words l = map (λ w. w.now) l.words.items ++ words_of l.blanks l.rest ≡ words_of l.blanks l.text

abbrev pub decreases-words : goal.decreases-words
decreases-words l = length l.rest
