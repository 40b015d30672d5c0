use Rattle.std.proofs.Common.{◌≡◌, ◌<◌, ◌∙◌, arith, length, List, subst, sym, ap, slice_set}
use Rattle.std.specs.Prelude.{None}
use Rattle.stp_topology.specs.declared.network.Network.{Network}
use Rattle.agent_node.specs.Kept.{Kept}
use Rattle.agent_threads.specs.Nets.{EachIs, IsUnstopped}
use Rattle.agent_threads.specs.Made.{Does, HasRoom, part_in}
use Rattle.agent_threads.specs.Promise.{CanBeDone}
use Rattle.agent_threads.proofs.Places.{UpTo, up_to_none, up_to_next, up_to_end, here_is, len_set, up_to_map, up_to_failed, each_map}
use Rattle.agent_threads.proofs.Same.{network_at, unstopped_self, does_unstopped}
use Rattle.agent_threads.proofs.Turning.{usable_at, room_at, whole_again}
use Rattle.agent_threads.proofs.act.act_each.Goals as goal

pub loop-node-init : goal.loop-node-init
loop-node-init g c = subst (λ (ks : List Kept). UpTo (Does (part_in c.args.act.now c.args.number)) c.args.nodes.now.items ks 0) (sym c.deref_mut-node-items.ensures.value) (up_to_none (Does (part_in c.args.act.now c.args.number)) c.args.nodes.now.items)

pub act_one-requires-clause-usable : goal.act_one-requires-clause-usable
act_one-requires-clause-usable g c =
    let l = c.loop-node in
    let here : l.node-index < length l.node-items = omega (arith, c.loop-node-test.true, l.auto.node-items) in
    let within : l.node-index < length c.args.nodes.now.items = omega (arith, here, l.invariant.len) in
    here_is (Does (part_in c.args.act.now c.args.number)) (λ (k : Kept). k.fault ≡ None) c.args.nodes.now.items l.node-items l.node-index c.node-item.result l.invariant
    (usable_at c.args.nodes.now.items l.node-index c.node-item.result within c.requires.usable)

pub act_one-requires-clause-few : goal.act_one-requires-clause-few
act_one-requires-clause-few g c =
    let l = c.loop-node in
    let here : l.node-index < length l.node-items = omega (arith, c.loop-node-test.true, l.auto.node-items) in
    let within : l.node-index < length c.args.nodes.now.items = omega (arith, here, l.invariant.len) in
    here_is (Does (part_in c.args.act.now c.args.number)) (HasRoom 1) c.args.nodes.now.items l.node-items l.node-index c.node-item.result l.invariant
    (room_at 1 c.args.nodes.now.items l.node-index c.node-item.result within c.requires.few)

pub act_one-requires-clause-can : goal.act_one-requires-clause-can
act_one-requires-clause-can g c =
    let l = c.loop-node in
    let here : l.node-index < length l.node-items = omega (arith, c.loop-node-test.true, l.auto.node-items) in
    let within : l.node-index < length c.args.nodes.now.items = omega (arith, here, l.invariant.len) in
    let can = c.requires.can in
    here_is (Does (part_in c.args.act.now c.args.number)) (λ (k : Kept). CanBeDone k.network c.args.act.now) c.args.nodes.now.items l.node-items l.node-index c.node-item.result l.invariant
    (subst (λ (t : Network). CanBeDone t c.args.act.now) (sym (network_at can.network c.args.nodes.now.items l.node-index c.node-item.result within can.of)) can.can)

pub loop-node-preserved : goal.loop-node-preserved
loop-node-preserved g c =
    let l = c.loop-node in
    let here : l.node-index < length l.node-items = omega (arith, c.loop-node-test.true, l.auto.node-items) in
    up_to_next (Does (part_in c.args.act.now c.args.number)) c.args.nodes.now.items l.node-items l.node-index c.node-item.result c.act_one.new.node l.invariant here c.in_ok-act_one.ensures.done

pub returns-clause-done : goal.returns-clause-done
returns-clause-done g c =
    let l = c.loop-node in
    let e : length l.node-items ≡ length c.args.nodes.now.items = l.invariant.len in
    let all = up_to_end (Does (part_in c.args.act.now c.args.number)) c.args.nodes.now.items l.node-items l.node-index l.invariant (omega (arith, c.loop-node-test.false, l.auto.node-items, l.invariant.len)) in
    subst (λ (ks : List Kept). EachIs (Does (part_in c.args.act.now c.args.number)) c.args.nodes.now.items ks) (sym (whole_again l.node-items c.args.nodes.now.items c.args.nodes.now.len e (omega (arith, c.deref_mut-node-items.ensures.len, ap length c.deref_mut-node-items.ensures.value)))) all

pub returns-in_err-act_one-clause-agents : goal.returns-in_err-act_one-clause-agents
returns-in_err-act_one-clause-agents g c =
    let l = c.loop-node in
    let here : l.node-index < length l.node-items = omega (arith, c.loop-node-test.true, l.auto.node-items) in
    let last = slice_set l.node-items l.node-index c.act_one.new.node in
    let e : length last ≡ length c.args.nodes.now.items = len_set l.node-items l.node-index c.act_one.new.node ∙ l.invariant.len in
    let all : EachIs IsUnstopped c.args.nodes.now.items last =
    up_to_failed IsUnstopped c.args.nodes.now.items l.node-items l.node-index c.node-item.result c.act_one.new.node unstopped_self
    (up_to_map (Does (part_in c.args.act.now c.args.number)) IsUnstopped c.args.nodes.now.items l.node-items l.node-index (does_unstopped (part_in c.args.act.now c.args.number)) l.invariant) here c.in_err-act_one.ensures.agent in
    subst (λ (ks : List Kept). EachIs IsUnstopped c.args.nodes.now.items ks) (sym (whole_again last c.args.nodes.now.items c.args.nodes.now.len e (omega (arith, c.deref_mut-node-items.ensures.len, ap length c.deref_mut-node-items.ensures.value)))) all

pub returns-clause-agents : goal.returns-clause-agents
returns-clause-agents g c =
    let l = c.loop-node in
    let e : length l.node-items ≡ length c.args.nodes.now.items = l.invariant.len in
    let all = up_to_end (Does (part_in c.args.act.now c.args.number)) c.args.nodes.now.items l.node-items l.node-index l.invariant (omega (arith, c.loop-node-test.false, l.auto.node-items, l.invariant.len)) in
    subst (λ (ks : List Kept). EachIs IsUnstopped c.args.nodes.now.items ks) (sym (whole_again l.node-items c.args.nodes.now.items c.args.nodes.now.len e (omega (arith, c.deref_mut-node-items.ensures.len, ap length c.deref_mut-node-items.ensures.value))))
    (each_map (Does (part_in c.args.act.now c.args.number)) IsUnstopped c.args.nodes.now.items l.node-items (does_unstopped (part_in c.args.act.now c.args.number)) all)
