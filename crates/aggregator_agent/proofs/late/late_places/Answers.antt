use Rattle.std.specs.Map.Iter.{deref}
use Rattle.std.proofs.lemmas.Map.Iter.{rest_more, rest_all}
use Rattle.aggregator_agent.proofs.Overdue.{noted_next, noted_all}
use Rattle.aggregator_agent.proofs.late.late_places.Goals as goal

pub loop-message-preserved : goal.loop-message-preserved
loop-message-preserved c =
    let l = c.loop-message in
    let rest = rest_more deref l.message-iterator c.next.new.self c.next.result c.in-Some.message c.in-Some.is c.next.ensures.steps in
    noted_next c.args.now c.args.dues.now c.args.waiting l.message-iterator c.next.new.self c.in-Some.message.now l.places.items c.note_late.new.places.items rest c.in_ok-note_late.ensures l.invariant

pub returns : goal.returns
returns c =
    let l = c.loop-message in
    noted_all c.args.now c.args.dues.now c.args.waiting l.message-iterator l.places.items c.among.result (rest_all deref l.message-iterator c.next.new.self c.next.result c.in-None.is c.next.ensures.steps) c.among.ensures l.invariant
