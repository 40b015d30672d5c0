use Rattle.nsi_base.specs.Words.{HasNoBlank}
use Rattle.nsi_base.proofs.words.first_blank.Given as goal

abbrev pub invariant-loop-i : goal.invariant-loop-i
invariant-loop-i l = HasNoBlank l.blanks l.bytes l.i
