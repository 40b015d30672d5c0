use Rattle.std.proofs.Common.{rules, ◌≡◌, ◌∙◌, inr, ap, bytes_eq, position, length}
use Rattle.agent_state.specs.declared.parent.View.{View}
use Rattle.requester_agent.proofs.Indexed.{more_names, new_joined}
use Rattle.requester_agent.proofs.Labelled.{position_map}
use Rattle.requester_agent.proofs.Listens.{reserve_listens}
use Rattle.requester_agent.proofs.view_table.ViewTable.ask_new.Goals as goal

pub push-requires : goal.push-requires
push-requires c =
    let label = c.args.view.label in
    let test = λ (v : View). bytes_eq label v.label in
    ap (position (bytes_eq label)) c.self.invariant.by_label ∙ (position_map (bytes_eq label) (λ (v : View). v.label) c.self.inside.views.items ∙ (ap (position test) c.self.view_is ∙ c.requires.label))

pub invariant_of-self-in_err-push : goal.invariant_of-self-in_err-push
invariant_of-self-in_err-push c =
    rw (c.in_ok-reserve.ensures.items, c.in_err-push.ensures.err)
    (more_names c.self.inside.views.items c.self.inside.labels c.self.inside.ids c.add.new.self (λ e has. (c.in_ok-add.ensures.ok e).1 (inr has)) c.self.invariant)

pub invariant_of-self-in-Ok : goal.invariant_of-self-in-Ok
invariant_of-self-in-Ok c =
    let last : c.len.result ≡ length c.self.inside.views.items = c.len.ensures ∙ (search rules) in
    rw (c.push_in_room.ensures, c.in_ok-reserve.ensures.items, c.in_ok-push.ensures.ok)
    (new_joined c.self.inside.views.items c.self.inside.labels c.self.inside.ids c.add.new.self c.args.correlation c.len.result c.args.view c.ask_reserve.new.view _ last c.in-Ok.ensures.view c.requires.unasked
    (λ id e. reserve_listens c.args.parent.now c.args.correlation id c.args.q.now c.args.view.child e) c.in_ok-add.ensures.ok c.self.invariant)

pub invariant_of-self-in-Err-1 : goal.invariant_of-self-in-Err-1
invariant_of-self-in-Err-1 c =
    rw (c.in_ok-reserve.ensures.items, c.pop.ensures c.self.inside.labels c.args.view.label c.in_ok-push.ensures.ok)
    (more_names c.self.inside.views.items c.self.inside.labels c.self.inside.ids c.add.new.self (λ e has. (c.in_ok-add.ensures.ok e).1 (inr has)) c.self.invariant)
