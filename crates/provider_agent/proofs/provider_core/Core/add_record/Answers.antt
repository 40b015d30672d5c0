use Rattle.std.proofs.Common.{ℕ, ◌∙◌, refl, ap, sym, subst, ◌++◌, ◌∷◌, [], ◌+◌, Some}
use Rattle.connection_record.specs.declared.record.Record.{Record}
use Rattle.message_retry.specs.Retry.{Retry}
use Rattle.provider_agent.specs.State.{State}
use Rattle.provider_agent.specs.Core.{setting_at, state_at}
use Rattle.provider_agent.specs.Kept.{AreKept}
use Rattle.provider_agent.specs.Indexed.{AreIndexed}
use Rattle.provider_agent.specs.Steps.{messages_of, opens_between}
use Rattle.provider_agent.proofs.Indexing.{NamesNothing, indexed_pushed}
use Rattle.provider_agent.proofs.Opening.{made, made_by, made_turn, made_drawn, opened_state, opened_out, kept_opened, opened_nothing}
use Rattle.provider_agent.proofs.provider_core.Core.add_record.Goals as goal

pub returns-clause-step : goal.returns-clause-step
returns-clause-step c =
    let d = c.args.self.now in
    let m = c.args.message.now in
    let points : ℕ × ℕ = (c.args.source, c.args.dest) in
    let made_is = made_by (setting_at d) (state_at d) m c.args.request.now points c.new-own.result c.id_of-id.result c.in_ok-owner.owner c.in_ok-service.service c.new-own.ensures c.id_of-id.ensures c.in_ok-owner.ensures c.in_ok-service.ensures in
    let moved_is = c.in_ok-turn.ensures.turned.rec ∙ ap (λ (r : Record). (made_turn (setting_at d) (state_at d) m r).rec) made_is in
    let drawn_is = c.in_ok-turn.ensures.turned.drawn ∙ ap (made_drawn (state_at d) m) made_is in
    let turned_records = d.records.items ++ (made_turn (setting_at d) (state_at d) m (made (setting_at d) (state_at d) m c.args.request.now points)).rec ∷ [] in
    let pushed_is = c.in-Ok.ensures.items ∙ ap (λ rs. rs ++ c.take.new.own ∷ []) c.in_ok-reserve.ensures.items in
    let records_are = pushed_is ∙ ap (λ r. d.records.items ++ r ∷ []) moved_is in
    let out_is = c.in_ok-turn.ensures.turned.out ∙ (ap (λ (r : Record). messages_of (setting_at d) (made_turn (setting_at d) (state_at d) m r)) made_is ∙ opened_out (setting_at d) (state_at d) m c.args.request.now points) in
    record {
      state =
          ap (λ (r : Retry). record (state_at d) { records = c.push.new.self.items; seen = r.seen; heard = r.heard; waiting = r.waiting; next = d.next + 1 + c.in_ok-turn.turn.drawn }) c.in_ok-turn.ensures.stored.waits
          ∙ (ap (λ rs. record (state_at d) { records = rs; waiting = d.retry.waiting ++ c.in_ok-turn.turn.out.items; next = d.next + 1 + c.in_ok-turn.turn.drawn }) records_are
          ∙ (ap (λ k. record (state_at d) { records = turned_records; waiting = d.retry.waiting ++ c.in_ok-turn.turn.out.items; next = d.next + 1 + k }) drawn_is
          ∙ (ap (λ out. record (state_at d) { records = turned_records; waiting = d.retry.waiting ++ out; next = d.next + 1 + made_drawn (state_at d) m (made (setting_at d) (state_at d) m c.args.request.now points) }) out_is
          ∙ ap (λ (s : State). record s { waiting = d.retry.waiting ++ (opens_between (Some points) (setting_at d) (state_at d) m c.args.request.now).out }) (opened_state (setting_at d) (state_at d) m c.args.request.now points))));
      out = out_is;
      setting = refl;
      err = tt;
    }

pub returns-clause-consistent : goal.returns-clause-consistent
returns-clause-consistent c =
    let d = c.args.self.now in
    let m = c.args.message.now in
    let points : ℕ × ℕ = (c.args.source, c.args.dest) in
    let made_is = made_by (setting_at d) (state_at d) m c.args.request.now points c.new-own.result c.id_of-id.result c.in_ok-owner.owner c.in_ok-service.service c.new-own.ensures c.id_of-id.ensures c.in_ok-owner.ensures c.in_ok-service.ensures in
    let moved_is = c.in_ok-turn.ensures.turned.rec ∙ ap (λ (r : Record). (made_turn (setting_at d) (state_at d) m r).rec) made_is in
    let pushed_is = c.in-Ok.ensures.items ∙ ap (λ rs. rs ++ c.take.new.own ∷ []) c.in_ok-reserve.ensures.items in
    let records_are = pushed_is ∙ ap (λ r. d.records.items ++ r ∷ []) moved_is in
    let none = subst NamesNothing (sym moved_is) (opened_nothing (setting_at d) (state_at d) m c.args.request.now points) in
    record {
      kept = subst (λ rs. AreKept rs d.calendar.bookings) (sym records_are) (kept_opened (setting_at d) (state_at d) m c.args.request.now points d.calendar.bookings c.requires.ready.consistent.kept);
      indexed = subst (λ rs. AreIndexed d.now rs d.waiting d.deadlines) (sym pushed_is) (indexed_pushed d.now d.records.items d.waiting d.deadlines c.take.new.own c.requires.ready.consistent.indexed c.requires.named none);
    }
