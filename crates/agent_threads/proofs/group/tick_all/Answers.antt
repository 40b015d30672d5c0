use Rattle.std.proofs.Common.{◌≡◌, ◌<◌, ◌≤◌, ◌∙◌, arith, length, List, subst, sym, ap, slice_set}
use Rattle.std.specs.Prelude.{None}
use Rattle.agent_node.specs.Kept.{Kept}
use Rattle.agent_threads.specs.Nets.{EachIs, IsUnstopped}
use Rattle.agent_threads.specs.Made.{Does, HasRoom, tick_to}
use Rattle.agent_threads.proofs.Places.{UpTo, up_to_none, up_to_next, up_to_end, here_is, len_set, up_to_map, up_to_failed, each_map}
use Rattle.agent_threads.proofs.Same.{unstopped_self, does_unstopped}
use Rattle.agent_threads.proofs.Turning.{usable_at, room_at, whole_again}
use Rattle.agent_threads.proofs.Going.{up_to_at}
use Rattle.agent_threads.proofs.group.tick_all.Goals as goal

pub loop-node-init : goal.loop-node-init
loop-node-init g c = subst (λ (ks : List Kept). UpTo (Does (tick_to c.args.to)) c.args.nodes.now.items ks 0) (sym c.deref_mut-node-items.ensures.value) (up_to_none (Does (tick_to c.args.to)) c.args.nodes.now.items)

pub tick_one-requires-clause-usable : goal.tick_one-requires-clause-usable
tick_one-requires-clause-usable g c =
    let l = c.loop-node in
    let here : l.node-index < length l.node-items = omega (arith, c.loop-node-test.true, l.auto.node-items) in
    let within : l.node-index < length c.args.nodes.now.items = omega (arith, here, l.invariant.len) in
    here_is (Does (tick_to c.args.to)) (λ (k : Kept). k.fault ≡ None) c.args.nodes.now.items l.node-items l.node-index c.node-item.result l.invariant (usable_at c.args.nodes.now.items l.node-index c.node-item.result within c.requires.usable)

pub tick_one-requires-clause-few : goal.tick_one-requires-clause-few
tick_one-requires-clause-few g c =
    let l = c.loop-node in
    let here : l.node-index < length l.node-items = omega (arith, c.loop-node-test.true, l.auto.node-items) in
    let within : l.node-index < length c.args.nodes.now.items = omega (arith, here, l.invariant.len) in
    here_is (Does (tick_to c.args.to)) (HasRoom 1) c.args.nodes.now.items l.node-items l.node-index c.node-item.result l.invariant (room_at 1 c.args.nodes.now.items l.node-index c.node-item.result within c.requires.few)

pub tick_one-requires-clause-later : goal.tick_one-requires-clause-later
tick_one-requires-clause-later g c =
    let l = c.loop-node in
    let here : l.node-index < length l.node-items = omega (arith, c.loop-node-test.true, l.auto.node-items) in
    let within : l.node-index < length c.args.nodes.now.items = omega (arith, here, l.invariant.len) in
    here_is (Does (tick_to c.args.to)) (λ (k : Kept). k.seat.state.base.now ≤ c.args.to) c.args.nodes.now.items l.node-items l.node-index c.node-item.result l.invariant (up_to_at c.args.to c.args.nodes.now.items l.node-index c.node-item.result within c.requires.later)

pub loop-node-preserved : goal.loop-node-preserved
loop-node-preserved g c =
    let l = c.loop-node in
    let here : l.node-index < length l.node-items = omega (arith, c.loop-node-test.true, l.auto.node-items) in
    up_to_next (Does (tick_to c.args.to)) c.args.nodes.now.items l.node-items l.node-index c.node-item.result c.tick_one.new.node l.invariant here c.in_ok-tick_one.ensures.done

pub returns-clause-done : goal.returns-clause-done
returns-clause-done g c =
    let l = c.loop-node in
    let e : length l.node-items ≡ length c.args.nodes.now.items = l.invariant.len in
    let all = up_to_end (Does (tick_to c.args.to)) c.args.nodes.now.items l.node-items l.node-index l.invariant (omega (arith, c.loop-node-test.false, l.auto.node-items, l.invariant.len)) in
    subst (λ (ks : List Kept). EachIs (Does (tick_to c.args.to)) c.args.nodes.now.items ks) (sym (whole_again l.node-items c.args.nodes.now.items c.args.nodes.now.len e (omega (arith, c.deref_mut-node-items.ensures.len, ap length c.deref_mut-node-items.ensures.value)))) all

pub returns-in_err-tick_one-clause-agents : goal.returns-in_err-tick_one-clause-agents
returns-in_err-tick_one-clause-agents g c =
    let l = c.loop-node in
    let here : l.node-index < length l.node-items = omega (arith, c.loop-node-test.true, l.auto.node-items) in
    let last = slice_set l.node-items l.node-index c.tick_one.new.node in
    let e : length last ≡ length c.args.nodes.now.items = len_set l.node-items l.node-index c.tick_one.new.node ∙ l.invariant.len in
    let all : EachIs IsUnstopped c.args.nodes.now.items last =
    up_to_failed IsUnstopped c.args.nodes.now.items l.node-items l.node-index c.node-item.result c.tick_one.new.node unstopped_self
    (up_to_map (Does (tick_to c.args.to)) IsUnstopped c.args.nodes.now.items l.node-items l.node-index (does_unstopped (tick_to c.args.to)) l.invariant) here c.in_err-tick_one.ensures.agent in
    subst (λ (ks : List Kept). EachIs IsUnstopped c.args.nodes.now.items ks) (sym (whole_again last c.args.nodes.now.items c.args.nodes.now.len e (omega (arith, c.deref_mut-node-items.ensures.len, ap length c.deref_mut-node-items.ensures.value)))) all

pub returns-clause-agents : goal.returns-clause-agents
returns-clause-agents g c =
    let l = c.loop-node in
    let e : length l.node-items ≡ length c.args.nodes.now.items = l.invariant.len in
    let all = up_to_end (Does (tick_to c.args.to)) c.args.nodes.now.items l.node-items l.node-index l.invariant (omega (arith, c.loop-node-test.false, l.auto.node-items, l.invariant.len)) in
    subst (λ (ks : List Kept). EachIs IsUnstopped c.args.nodes.now.items ks) (sym (whole_again l.node-items c.args.nodes.now.items c.args.nodes.now.len e (omega (arith, c.deref_mut-node-items.ensures.len, ap length c.deref_mut-node-items.ensures.value))))
    (each_map (Does (tick_to c.args.to)) IsUnstopped c.args.nodes.now.items l.node-items (does_unstopped (tick_to c.args.to)) all)
