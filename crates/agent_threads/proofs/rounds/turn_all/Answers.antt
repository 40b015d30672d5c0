use Rattle.std.proofs.Common.{◌≡◌, ◌∙◌, ap, arith, length, List, subst, sym}
use Rattle.agent_node.specs.Kept.{Kept}
use Rattle.agent_node.specs.Made.{IsTurn}
use Rattle.agent_threads.specs.Nets.{EachIs, AreUsable}
use Rattle.agent_threads.specs.Made.{HaveRoom}
use Rattle.agent_threads.proofs.Places.{by_place}
use Rattle.agent_threads.proofs.Turning.{usable_at, room_at, whole_again}
use Rattle.agent_threads.proofs.rounds.turn_all.Goals as goal

pub turn_each-requires-clause-usable : goal.turn_each-requires-clause-usable
turn_each-requires-clause-usable g c κs within = λ k d h. usable_at c.deref_mut.result.now k d h (subst AreUsable (sym c.deref_mut.ensures.value) c.requires.usable)

pub turn_each-requires-clause-few : goal.turn_each-requires-clause-few
turn_each-requires-clause-few g c κs within = λ k d h. room_at c.args.room c.deref_mut.result.now k d h (subst (HaveRoom c.args.room) (sym c.deref_mut.ensures.value) c.requires.few)

pub returns : goal.returns
returns g c =
    let olds = c.args.nodes.now.items in
    let news = c.turn_each.new.nodes in
    let value = c.deref_mut.ensures.value in
    let len : length news ≡ length olds = c.turn_each.ensures.len ∙ ap length value in
    let each = by_place (IsTurn c.args.room) c.deref_mut.result.now news c.turn_each.ensures.len c.turn_each.ensures.each in
    subst (λ (ks : List Kept). EachIs (IsTurn c.args.room) olds ks)
    (sym (whole_again news olds c.args.nodes.now.len len (omega (arith, c.deref_mut.ensures.len, ap length value))))
    (subst (λ (ks : List Kept). EachIs (IsTurn c.args.room) ks news) value each)
