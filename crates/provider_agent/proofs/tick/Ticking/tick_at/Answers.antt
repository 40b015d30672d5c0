use Rattle.std.proofs.Common.{◌≡◌, ◌∙◌, refl, length, set, sym, subst, ap}
use Rattle.std.proofs.lemmas.List.{get_or_read_under, set-get_or}
use Rattle.connection_record.specs.Later.{IsLater}
use Rattle.connection_record.specs.Saved.{saved_of}
use Rattle.provider_agent.specs.State.{no_record, record_at}
use Rattle.provider_agent.specs.Ticks.{CanUndo}
use Rattle.provider_agent.specs.declared.tick.Kept.{Kept}
use Rattle.provider_agent.proofs.TickUndo.{saved_more, back_more}
use Rattle.provider_agent.proofs.tick.Ticking.tick_at.Goals as goal

pub returns-in_err-push-clause-undo : goal.returns-in_err-push-clause-undo
returns-in_err-push-clause-undo c rs undo same =
    let now = c.args.records.now.items in
    let n = c.args.place in
    let own_is : c.index_mut-own.result.now ≡ record_at n now =
    get_or_read_under now n (length now) c.index_mut-own.result.now no_record c.index_mut-own.ensures.value c.requires.within refl in
    let still = ap (set now n) own_is ∙ set-get_or now n no_record in
    subst (CanUndo rs (set now n c.index_mut-own.result.now)) (sym c.in_err-push.ensures.items) (subst (λ xs. CanUndo rs xs c.args.self.now.kept.items) (sym still) undo)

pub returns-clause-undo : goal.returns-clause-undo
returns-clause-undo c rs undo same =
    let now = c.args.records.now.items in
    let own_is : c.index_mut-own.result.now ≡ record_at c.args.place now =
    get_or_read_under now c.args.place (length now) c.index_mut-own.result.now no_record c.index_mut-own.ensures.value c.requires.within refl in
    let one : Kept = record { place = c.args.place; saved = c.save-saved.result } in
    let own = c.tick_record.new.own in
    let later : IsLater (record_at c.args.place now) own = subst (λ r. IsLater r own) own_is c.tick_record.ensures.later in
    subst (CanUndo rs (set now c.args.place own)) (sym (c.tick_record.ensures.kept ∙ c.in_ok-push.ensures.items))
    (record {
      saved = saved_more rs now c.args.self.now.kept.items one undo.saved undo.back c.requires.within (c.save-saved.ensures ∙ ap saved_of own_is) same;
      back = back_more rs now c.args.self.now.kept.items one own undo.back c.requires.within same later;
    })
