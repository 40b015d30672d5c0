use Rattle.race_caller.proofs.Playing.{asked_full, asked_nothing, asked_if}
use Rattle.race_caller.proofs.Going as going
use Rattle.race_caller.proofs.serving.ask_once.Goals as goal

pub returns-in-Full-clause-asked : goal.returns-in-Full-clause-asked
returns-in-Full-clause-asked g c =
    asked_full c.args.topology.now c.args.ask.now c.args.asker.now _ c.in_ok-sent.sent c.in_ok-sent.ensures

pub returns-in-Full-clause-alone : goal.returns-in-Full-clause-alone
returns-in-Full-clause-alone g c = λ first j b told h. going.asked_full c.args.topology.now first j b c.args.asker.now _ c.args.ask.now c.in_ok-sent.sent _ h c.in_ok-sent.ensures c.in-Full.is

pub returns-in-Nothing-clause-asked : goal.returns-in-Nothing-clause-asked
returns-in-Nothing-clause-asked g c =
    asked_nothing c.args.topology.now c.args.ask.now c.args.asker.now _ c.in_ok-sent.sent _ c.in_ok-sent.ensures c.in-Nothing.is

pub returns-in-Nothing-clause-alone : goal.returns-in-Nothing-clause-alone
returns-in-Nothing-clause-alone g c = λ first j b told h. going.asked_nothing c.args.topology.now first j b c.args.asker.now _ c.args.ask.now c.in_ok-sent.sent _ told h c.in_ok-sent.ensures c.in-Nothing.is

pub returns-in-Request-clause-asked : goal.returns-in-Request-clause-asked
returns-in-Request-clause-asked g c =
    asked_if c.args.topology.now c.args.ask.now c.args.asker.now c.send.new.self _ c.in-Request.request c.in_ok-sent.sent _ c.in_ok-sent.ensures c.in-Request.is c.follow-on.ensures.followed

pub returns-in-Request-clause-alone : goal.returns-in-Request-clause-alone
returns-in-Request-clause-alone g c = λ first j b told h.
    let k = going.asked_request c.args.topology.now first j b c.args.asker.now c.send.new.self c.args.ask.now c.in-Request.request c.in_ok-sent.sent h c.in_ok-sent.ensures c.in-Request.is in
    c.follow-on.ensures.alone first j b told k.0 k.1
