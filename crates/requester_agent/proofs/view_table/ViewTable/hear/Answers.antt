use Rattle.std.proofs.Common.{◌≡◌, ◌∙◌, Some, ap, arith, map, length, slice_get, Contains, sym, subst}
use Rattle.requester_agent.specs.Indexed.{IsIndexed}
use Rattle.requester_agent.specs.Steps.{view_hears}
use Rattle.requester_agent.proofs.HeardAt.{whole_again}
use Rattle.requester_agent.proofs.Indexed.{unreached, all_heard}
use Rattle.requester_agent.proofs.view_table.ViewTable.hear.Goals as goal

pub hear_at-requires-clause-others : goal.hear_at-requires-clause-others
hear_at-requires-clause-others c place v at lacks =
    unreached c.args.message.now c.self.inside.views.items c.self.inside.labels c.self.inside.ids c.in_ok-places.places c.self.invariant c.in_ok-places.ensures place v
    (subst (λ vs. slice_get vs place ≡ Some v) c.deref_mut.ensures.value at) (λ has. lacks (subst (λ ps. Contains ps place) (sym c.items-2.ensures.items) has))

pub invariant_of-self-2 : goal.invariant_of-self-2
invariant_of-self-2 c =
    let views = c.self.inside.views.items in
    let m = c.args.message.now in
    let heard = all_heard m views c.self.inside.labels c.self.inside.ids c.name_learnt.new.ids c.in_ok-places.places c.in_ok-places.ensures c.in_ok-name_learnt.ensures.kept
    (λ place id named has. c.in_ok-name_learnt.ensures.named place id named (subst (λ ps. Contains ps place) (sym c.items.ensures.items) has)) c.self.invariant in
    let all : c.hear_at.new.views ≡ map (view_hears m) views = c.hear_at.ensures ∙ ap (map (view_hears m)) c.deref_mut.ensures.value in
    let is = whole_again (view_hears m) c.hear_at.new.views views c.self.inside.views.len all (omega (arith, c.deref_mut.ensures.len, ap length c.deref_mut.ensures.value)) in
    subst (λ vs. IsIndexed vs c.self.inside.labels c.name_learnt.new.ids) (sym is) heard
