use Rattle.answered_play.proofs.Plays.{runs_answer}
use Rattle.answered_play.proofs.Taking.{got_was_taken}
use Rattle.answered_play.proofs.laws.every_run.Goals as goal

pub returns-clause-taken : goal.returns-clause-taken
returns-clause-taken c = got_was_taken c.sent.ensures.heard c.requests.ensures

pub returns-clause-answered : goal.returns-clause-answered
returns-clause-answered c =
    runs_answer (got_was_taken c.sent.ensures.heard c.requests.ensures) (record { works = c.providers.ensures.or_works; idle = c.providers.ensures.idle; waits = c.aggregators.ensures })
