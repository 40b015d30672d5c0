use Rattle.std.proofs.Common.{◌<◌, inl, refl, sym, subst, length}
use Rattle.std.proofs.lemmas.Option.{slice_get_read}
use Rattle.requester_agent.specs.Views.{asks_reserve}
use Rattle.requester_agent.proofs.Indexed.{asked_place, is_asked_at}
use Rattle.requester_agent.proofs.Listens.{reserve_listens}
use Rattle.requester_agent.proofs.view_table.ViewTable.ask_reserve.Goals as goal

pub invariant_of-self-in_err-asked : goal.invariant_of-self-in_err-asked
invariant_of-self-in_err-asked c =
    let views = c.self.inside.views.items in
    let v = c.index_mut-view.result.now in
    let at = slice_get_read views (length views) c.args.place v refl (subst (λ vs. c.args.place < length vs) (sym c.self.view_is) c.requires.within) c.index_mut-view.ensures.value in
    asked_place views c.self.inside.labels c.self.inside.ids c.add.new.self c.args.place c.args.correlation v c.ask_reserve.new.view v.child at c.in_err-asked.ensures.kept (λ id e. inl e) c.in_ok-add.ensures.ok c.self.invariant

pub invariant_of-self-2 : goal.invariant_of-self-2
invariant_of-self-2 c =
    let views = c.self.inside.views.items in
    let v = c.index_mut-view.result.now in
    let at = slice_get_read views (length views) c.args.place v refl (subst (λ vs. c.args.place < length vs) (sym c.self.view_is) c.requires.within) c.index_mut-view.ensures.value in
    asked_place views c.self.inside.labels c.self.inside.ids c.add.new.self c.args.place c.args.correlation v c.ask_reserve.new.view (asks_reserve c.args.parent.now c.args.correlation c.args.q.now v.child).child at c.in_ok-asked.ensures.view
    (λ id e. reserve_listens c.args.parent.now c.args.correlation id c.args.q.now v.child e) c.in_ok-add.ensures.ok c.self.invariant

pub returns : goal.returns
returns c =
    let views = c.self.inside.views.items in
    let v = c.index_mut-view.result.now in
    let at = slice_get_read views (length views) c.args.place v refl (subst (λ vs. c.args.place < length vs) (sym c.self.view_is) c.requires.within) c.index_mut-view.ensures.value in
    is_asked_at views c.args.self.now c.args.place v c.ask_reserve.new.view (asks_reserve c.args.parent.now c.args.correlation c.args.q.now) c.args.retry.now c.ask_reserve.new.retry c.in_ok-asked.asked c.self.view_is at
    c.in_ok-asked.ensures.view c.in_ok-asked.ensures.answer c.in_ok-asked.ensures.out c.in_ok-asked.ensures.waits
