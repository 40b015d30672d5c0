use Rattle.std.proofs.Common.{◌≡◌, ◌∙◌, ◌++◌, ◌∷◌, [], List, sym, ap, arith, append_assoc, add-one}
use Rattle.nsi_primitive.specs.declared.entry.Event.{Event}
use Rattle.agent_node.specs.Restarts.{restart_event, restart_events}
use Rattle.agent_node.proofs.Restarting.{more_restarts}
use Rattle.agent_node.proofs.lists.Events.push_restarts.Goals as goal

pub loop-preserved : goal.loop-preserved
loop-preserved c =
    let e : Event = restart_event c.args.agent c.args.count in
    let old = c.args.self.now in
    let n = c.loop.counter in
    c.in_ok-push_restart.ensures
    ∙ (ap (λ (es : List Event). es ++ e ∷ []) c.loop.invariant
    ∙ (append_assoc old (restart_events n c.args.agent c.args.count) (e ∷ [])
    ∙ ap (λ (es : List Event). old ++ es) (more_restarts n c.args.agent c.args.count ∙ sym (ap (λ m. restart_events m c.args.agent c.args.count) (add-one n)))))

pub returns : goal.returns
returns c =
    let e : Event = restart_event c.args.agent c.args.count in
    let old = c.args.self.now in
    let n = c.loop.counter in
    let all : n ≡ c.args.tries = omega (arith, c.loop-test.false, c.loop.auto.counter-end) in
    c.in_ok-push_restart-2.ensures
    ∙ (ap (λ (es : List Event). es ++ e ∷ []) c.loop.invariant
    ∙ (append_assoc old (restart_events n c.args.agent c.args.count) (e ∷ [])
    ∙ ap (λ (es : List Event). old ++ es) (more_restarts n c.args.agent c.args.count ∙ ap (λ m. e ∷ restart_events m c.args.agent c.args.count) all)))
