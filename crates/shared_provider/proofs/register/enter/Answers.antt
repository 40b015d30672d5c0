use Rattle.std.proofs.Common.{rules, ◌≡◌, ◌∙◌, ◌++◌, [], ◌∷◌, Some, inr, refl, sym, ap, subst, arith}
use Rattle.provider_agent.specs.Setting.{Setting, setting_of, own_stp}
use Rattle.provider_agent.specs.State.{State}
use Rattle.provider_agent.specs.Steps.{after}
use Rattle.shared_provider.specs.declared.register.Register.{Register}
use Rattle.shared_provider.specs.declared.reply.BookFault.{BookFault}
use Rattle.shared_provider.specs.History.{journal_of}
use Rattle.shared_provider.specs.Book.{Book, counted, enter}
use Rattle.shared_provider.specs.Sound.{book_of, held, faults_by}
use Rattle.shared_provider.specs.Answers.{Fails}
use Rattle.shared_provider.proofs.Histories.{taken_more}
use Rattle.shared_provider.proofs.Sounds.{broken_sound, entered_sound, synced_entered}
use Rattle.shared_provider.proofs.Exits.{moved, next_is, broken_is, entered_is}
use Rattle.shared_provider.proofs.register.enter.Goals as goal

pub returns-in-Err-sync-clause-sound : goal.returns-in-Err-sync-clause-sound
returns-in-Err-sync-clause-sound g c =
    let old = c.args.register.now in
    let e = c.args.entry in
    let s = c.requires.sound in
    let cause = c.in-Err-sync.ensures.cause in
    let next = next_is old.topology old.agent old.provider c.next.new.self e s.setting c.in-Ok-next.ensures.state in
    let items = c.push_reserved.ensures.items ∙ (λ i. c.reserve.ensures.items i ++ c.entered.ensures i ∷ []) in
    let entries = (journal_of old.history.items).entries in
    let keeps = c.in_default-append.ensures.keeps entries (s.runs c.requires.open.running).keeps in
    let is = ap book_of c.refuse-in-Err-sync.ensures.register ∙ broken_is (book_of old) e c.next.new.self.state c.push_reserved.new.self.items _ next.1 items (ap (λ (f : BookFault). faults_by f old.faults) cause.0) in
    moved _ _ _ _ _ old.provider.setting _ _ _ _ (ap (λ (r : Register). r.provider.setting) c.refuse-in-Err-sync.ensures.register ∙ next.0) is
    (broken_sound _ _ _ _ _ _ (held old (g.J.Journal.meter c.args.journal.now)) s c.requires.open _ _ _ _ _ e c.requires.fits (omega (arith, cause.1)) (c.in-Err-sync.ensures.left entries (e ∷ []) keeps))

pub returns-in-Err-sync-clause-err : goal.returns-in-Err-sync-clause-err
returns-in-Err-sync-clause-err g c =
    let old = c.args.register.now in
    let e = c.args.entry in
    let cause = c.in-Err-sync.ensures.cause in
    let next = next_is old.topology old.agent old.provider c.next.new.self e c.requires.sound.setting c.in-Ok-next.ensures.state in
    let items = c.push_reserved.ensures.items ∙ (λ i. c.reserve.ensures.items i ++ c.entered.ensures i ∷ []) in
    let is = ap book_of c.refuse-in-Err-sync.ensures.register ∙ broken_is (book_of old) e c.next.new.self.state c.push_reserved.new.self.items _ next.1 items (ap (λ (f : BookFault). faults_by f old.faults) cause.0) in
    let appended = c.in_default-append.ensures.counts in
    subst (λ f. Fails (Some e) (held old (g.J.Journal.meter c.args.journal.now)) (held c.refuse-in-Err-sync.new.self (g.J.Journal.meter c.sync.new.journal)) f) (sym (c.refuse-in-Err-sync.ensures.fault ∙ cause.0))
    (record { was_open = c.requires.open; number = refl; counts = omega (arith, appended.faults, appended.stops, cause.1); book = inr is })

pub returns-clause-sound : goal.returns-clause-sound
returns-clause-sound g c =
    let old = c.args.register.now in
    let e = c.args.entry in
    let s = c.requires.sound in
    let next = next_is old.topology old.agent old.provider c.next.new.self e s.setting c.in-Ok-next.ensures.state in
    let items = c.push_reserved.ensures.items ∙ (λ i. c.reserve.ensures.items i ++ c.entered.ensures i ∷ []) in
    let both = c.push_reserved-2.ensures.items ∙ (λ i. items i ++ c.synced.ensures i ∷ []) in
    let entries = (journal_of old.history.items).entries in
    let keeps = c.in_default-append.ensures.keeps entries (s.runs c.requires.open.running).keeps in
    let is = entered_is (book_of old) e c.next.new.self.state c.push_reserved-2.new.self.items c.taken-durable.result old.faults c.requires.fits next.1 both c.taken-durable.ensures refl in
    let appended = c.in_default-append.ensures.counts in
    let ended = c.in_default-sync.ensures.counts in
    let calm : counted (g.J.Journal.meter c.sync.new.journal) ≡ 0 = omega (arith, appended.faults, appended.stops, ended.faults, ended.stops, (s.runs c.requires.open.running).calm) in
    moved _ _ _ _ _ old.provider.setting _ _ _ _ next.0 is
    (entered_sound _ _ _ _ _ _ (held old (g.J.Journal.meter c.args.journal.now)) s c.requires.open _ _ _ _ _ e c.requires.fits c.in_default-sync.ensures.ready c.in_default-sync.ensures.none calm (c.in_default-sync.ensures.keeps entries (e ∷ []) keeps))

pub returns-clause-ok : goal.returns-clause-ok
returns-clause-ok g c =
    let old = c.args.register.now in
    let e = c.args.entry in
    let s = c.requires.sound in
    let next = next_is old.topology old.agent old.provider c.next.new.self e s.setting c.in-Ok-next.ensures.state in
    let items = c.push_reserved.ensures.items ∙ (λ i. c.reserve.ensures.items i ++ c.entered.ensures i ∷ []) in
    let both = c.push_reserved-2.ensures.items ∙ (λ i. items i ++ c.synced.ensures i ∷ []) in
    let is = entered_is (book_of old) e c.next.new.self.state c.push_reserved-2.new.self.items c.taken-durable.result old.faults c.requires.fits next.1 both c.taken-durable.ensures refl in
    let taken = ap (λ (z : State). z.taken) next.1 ∙ taken_more (setting_of old.topology old.agent) (own_stp old.topology old.agent) old.provider.state e c.requires.fits.may_take in
    record {
      book = is;
      place = search rules;
      event = ap Some (c.entered-2.ensures ∙ ap (enter old.agent) c.in-Ok.ensures);
      durable = c.taken-durable.ensures ∙ (taken ∙ sym (ap (λ (b : Book). (journal_of b.events).synced) is ∙ synced_entered _ _ _ _ _ _ (held old (g.J.Journal.meter c.args.journal.now)) s c.requires.open (g.J.Journal.is_ready c.args.journal.now) (g.J.Journal.waits c.args.journal.now) (g.J.Journal.kept c.args.journal.now) (g.J.Journal.meter c.args.journal.now) (g.J.Journal.history c.args.journal.now) e c.requires.fits));
      messages = c.in-Ok-next.ensures.out ∙ ap (λ (y : Setting). (after y (own_stp old.topology y.number) old.provider.state e).out) s.setting;
    }
