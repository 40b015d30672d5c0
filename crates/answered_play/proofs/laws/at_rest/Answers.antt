use Rattle.answered_play.proofs.Plays.{answers_at_rest}
use Rattle.answered_play.proofs.Taking.{got_was_taken}
use Rattle.answered_play.proofs.laws.at_rest.Goals as goal

pub returns : goal.returns
returns c =
    answers_at_rest (got_was_taken c.sent.ensures.heard c.requests.ensures) (record { works = c.providers.ensures.or_works; idle = c.providers.ensures.idle; waits = c.aggregators.ensures })
