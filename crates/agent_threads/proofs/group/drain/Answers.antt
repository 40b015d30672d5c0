use Rattle.std.proofs.Common.{◌≡◌, ◌<◌, ◌++◌, ◌∙◌, refl, ap, arith, length, List, subst, sym, slice_set}
use Rattle.agent_node.specs.Kept.{Kept}
use Rattle.agent_threads.specs.Nets.{EachIs, IsUnstopped}
use Rattle.agent_threads.specs.Stopping.{Emptied}
use Rattle.agent_threads.proofs.Places.{UpTo, up_to_none, up_to_next, up_to_end, len_set, up_to_map, up_to_failed, each_map}
use Rattle.agent_threads.proofs.Same.{unstopped_self}
use Rattle.agent_threads.proofs.Turning.{whole_again}
use Rattle.agent_threads.proofs.Draining.{told_next, told_end, emptied_unstopped}
use Rattle.agent_threads.proofs.group.drain.Goals as goal

pub loop-node-init : goal.loop-node-init
loop-node-init g c = record {
  up = subst (λ (ks : List Kept). UpTo Emptied c.args.nodes.now.items ks 0) (sym c.deref_mut-node-items.ensures.value) (up_to_none Emptied c.args.nodes.now.items);
  told = refl;
  printable = c.requires.printable;
}

pub drain_one-requires : goal.drain_one-requires
drain_one-requires g c = record { printable = c.loop-node.invariant.printable }

pub loop-node-preserved : goal.loop-node-preserved
loop-node-preserved g c =
    let l = c.loop-node in
    let here : l.node-index < length l.node-items = omega (arith, c.loop-node-test.true, l.auto.node-items) in
    let within : l.node-index < length c.args.nodes.now.items = omega (arith, here, l.invariant.up.len) in
    record {
      up = up_to_next Emptied c.args.nodes.now.items l.node-items l.node-index c.node-item.result c.drain_one.new.node l.invariant.up here c.in_ok-drain_one.ensures.made;
      told = told_next c.args.nodes.now.items l.node-index c.node-item.result l.events.items c.drain_one.new.events.items within
          (c.in_ok-drain_one.ensures.events ∙ ap (λ (k : Kept). l.events.items ++ k.seat.events) (l.invariant.up.rest l.node-index c.node-item.result (omega arith)))
          ∙ l.invariant.told;
      printable = c.in_ok-drain_one.ensures.printable;
    }

pub returns-clause-made : goal.returns-clause-made
returns-clause-made g c =
    let l = c.loop-node in
    let e : length l.node-items ≡ length c.args.nodes.now.items = l.invariant.up.len in
    let all = up_to_end Emptied c.args.nodes.now.items l.node-items l.node-index l.invariant.up (omega (arith, c.loop-node-test.false, l.auto.node-items, l.invariant.up.len)) in
    subst (λ (ks : List Kept). EachIs Emptied c.args.nodes.now.items ks) (sym (whole_again l.node-items c.args.nodes.now.items c.args.nodes.now.len e (omega (arith, c.deref_mut-node-items.ensures.len, ap length c.deref_mut-node-items.ensures.value)))) all

pub returns-clause-events : goal.returns-clause-events
returns-clause-events g c =
    let l = c.loop-node in
    told_end c.args.nodes.now.items l.node-index l.events.items (omega (arith, c.loop-node-test.false, l.auto.node-items, l.invariant.up.len)) ∙ l.invariant.told

pub returns-in_err-drain_one-clause-agents : goal.returns-in_err-drain_one-clause-agents
returns-in_err-drain_one-clause-agents g c =
    let l = c.loop-node in
    let here : l.node-index < length l.node-items = omega (arith, c.loop-node-test.true, l.auto.node-items) in
    let last = slice_set l.node-items l.node-index c.drain_one.new.node in
    let e : length last ≡ length c.args.nodes.now.items = len_set l.node-items l.node-index c.drain_one.new.node ∙ l.invariant.up.len in
    let all : EachIs IsUnstopped c.args.nodes.now.items last =
    up_to_failed IsUnstopped c.args.nodes.now.items l.node-items l.node-index c.node-item.result c.drain_one.new.node unstopped_self
    (up_to_map Emptied IsUnstopped c.args.nodes.now.items l.node-items l.node-index emptied_unstopped l.invariant.up) here c.in_err-drain_one.ensures.agent in
    subst (λ (ks : List Kept). EachIs IsUnstopped c.args.nodes.now.items ks) (sym (whole_again last c.args.nodes.now.items c.args.nodes.now.len e (omega (arith, c.deref_mut-node-items.ensures.len, ap length c.deref_mut-node-items.ensures.value)))) all

pub returns-clause-agents : goal.returns-clause-agents
returns-clause-agents g c =
    let l = c.loop-node in
    let e : length l.node-items ≡ length c.args.nodes.now.items = l.invariant.up.len in
    let all = up_to_end Emptied c.args.nodes.now.items l.node-items l.node-index l.invariant.up (omega (arith, c.loop-node-test.false, l.auto.node-items, l.invariant.up.len)) in
    subst (λ (ks : List Kept). EachIs IsUnstopped c.args.nodes.now.items ks) (sym (whole_again l.node-items c.args.nodes.now.items c.args.nodes.now.len e (omega (arith, c.deref_mut-node-items.ensures.len, ap length c.deref_mut-node-items.ensures.value))))
    (each_map Emptied IsUnstopped c.args.nodes.now.items l.node-items emptied_unstopped all)
