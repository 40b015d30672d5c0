use Rattle.std.proofs.Common.{rules, ◌≡◌, ◌∙◌, ◌++◌, ◌∷◌, [], List, sym, ap, arith, append_assoc, add-one}
use Rattle.nsi_primitive.specs.declared.entry.Event.{Event}
use Rattle.agent_node.specs.Restarts.{restart_event, restart_events}
use Rattle.agent_node.proofs.Restarting.{more_restarts}
use Rattle.net_run.proofs.world.push_restarts.Goals as goal

pub loop-preserved : goal.loop-preserved
loop-preserved c =
    let e : Event = restart_event c.args.agent 0 in
    let old = c.args.events.now.items in
    let n = c.loop.counter in
    let pushed : c.push.new.self.items ≡ c.loop.events.items ++ e ∷ [] = search rules in
    pushed
    ∙ (ap (λ (es : List Event). es ++ e ∷ []) c.loop.invariant
    ∙ (append_assoc old (restart_events n c.args.agent 0) (e ∷ [])
    ∙ ap (λ (es : List Event). old ++ es) (more_restarts n c.args.agent 0 ∙ sym (ap (λ m. restart_events m c.args.agent 0) (add-one n)))))

pub returns : goal.returns
returns c =
    let old = c.args.events.now.items in
    let n = c.loop.counter in
    let all : n ≡ c.args.times = omega (arith, c.loop-test.false, c.loop.auto.counter-end) in
    c.loop.invariant ∙ ap (λ m. old ++ restart_events m c.args.agent 0) all
