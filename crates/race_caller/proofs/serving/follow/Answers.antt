use Rattle.std.proofs.Common.{rules}
use Rattle.race_caller.proofs.Going.{ended_early, hears_answer}
use Rattle.race_caller.proofs.serving.follow.Goals as goal

pub returns-in_default-clause-alone : goal.returns-in_default-clause-alone
returns-in_default-clause-alone g c = λ first j b told h new. ended_early c.args.topology.now first j b c.args.asker.now c.args.asker.now c.args.request.now _ c.in_ok-handed.handed h new (c.in_ok-handed.ensures.handed b told) c.in_default.is

pub returns-clause-alone : goal.returns-clause-alone
returns-clause-alone g c = λ first j b told h new.
    hears_answer c.args.topology.now first j b c.args.asker.now c.keep_request.new.self c.hear_through.new.asker c.args.request.now c.in-Some.answer c.in_ok-handed.handed c.connection_of-connection.result _ _ c.in_ok-on.on c.requires.printable h new
    (c.in_ok-handed.ensures.handed b told) c.in-Some.is (search rules) c.in_ok-keep_request.ensures.kept (λ d k is. c.in_ok-on.ensures.alone first j d k is)
