use Rattle.std.proofs.Common.{◌<◌, ◌∙◌, ◌++◌, List, sym, ap, arith, length, take, get_or}
use Rattle.std.proofs.lemmas.List.{take_all}
use Rattle.nsi_primitive.specs.declared.entry.Event.{Event}
use Rattle.agent_node.specs.Restarts.{restart_events}
use Rattle.net_run.specs.Begun.{restarts_from}
use Rattle.net_run.proofs.Remaking.{one_more}
use Rattle.net_run.proofs.world.restarts_of.Goals as goal

pub loop-place-preserved : goal.loop-place-preserved
loop-place-preserved c =
    let tries = c.args.tries.now in
    let place = c.loop-place.place in
    let n = get_or tries place 0 in
    let within : place < length tries = omega (arith, c.loop-place-test.true, c.agents-place-end.ensures.count, c.requires) in
    c.in_ok-push_restarts.ensures
    ∙ (ap (λ (es : List Event). es ++ restart_events n c.agent_at.result 0) c.loop-place.invariant
    ∙ (ap (λ a. restarts_from 0 (take place tries) ++ restart_events n a 0) c.agent_at.ensures ∙ sym (one_more tries place 0 within)))

pub returns : goal.returns
returns c =
    let tries = c.args.tries.now in
    let place = c.loop-place.place in
    c.loop-place.invariant ∙ ap (restarts_from 0) (take_all place tries (omega (arith, c.loop-place-test.false, c.agents-place-end.ensures.count, c.requires)))
