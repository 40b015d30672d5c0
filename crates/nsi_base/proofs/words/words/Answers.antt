use Rattle.nsi_base.proofs.WordLemmas.{cut, uncut, last_word, next_word}
use Rattle.nsi_base.proofs.words.words.Goals as goal

pub returns-in_default : goal.returns-in_default
returns-in_default c = last_word c.args.blanks c.words.words.items c.push.new.self.items c.words.rest _ c.in_ok-push.ensures.items c.words.invariant
    (uncut c.args.blanks c.words.rest.now c.in_default.ensures.none)

pub words-preserved : goal.words-preserved
words-preserved c =
    next_word c.args.blanks c.words.words.items c.push-in-words.new.self.items c.split_at.result.0 c.words.rest.now c.split_at.result.1.now c.split_at-in-words.result.1.now c.in-Some.k _
    c.in_ok-push-2.ensures.items c.split_at.ensures.front c.split_at.ensures.back c.split_at-in-words.ensures.back
    (let f = c.in-Some.ensures.found in cut c.args.blanks c.words.rest.now c.in-Some.k f.0 f.1 f.2) c.words.invariant
