use Rattle.std.proofs.Common.{◌≡◌, ◌<◌, ◌∙◌, ◌++◌, List, All, length, refl, sym, ap, subst}
use Rattle.std.specs.Map.{values_of}
use Rattle.std.proofs.lemmas.List.{append-nil}
use Rattle.agent_state.specs.declared.parent.Due.{Due}
use Rattle.aggregator_agent.specs.declared.outbox.Outbox.{Outbox}
use Rattle.aggregator_agent.specs.Clock.{is_late, told_dues}
use Rattle.aggregator_agent.specs.Dues.{AreToldAt}
use Rattle.aggregator_agent.specs.Setting.{setting_of}
use Rattle.aggregator_agent.proofs.AsRounds.{clock_asks_nothing}
use Rattle.aggregator_agent.proofs.Overdue.{places_within}
use Rattle.aggregator_agent.proofs.Stepping.{ticked_state, ticked_out}
use Rattle.aggregator_agent.proofs.ToldAt.{told_late}
use Rattle.aggregator_agent.proofs.aggregator_core.Core.tick.Goals as goal

pub tell_at-requires : goal.tell_at-requires
tell_at-requires c =
    let d = c.args.self.now in
    let dues = d.outbox.dues in
    let asked = clock_asks_nothing d.agent c.args.now c.deref.result.now 0 d.next d.connections in
    let kept : c.clock.new.outbox.dues ≡ dues = c.in_ok-said.ensures.done.dues ∙ (ap (λ ds. dues ++ ds) asked ∙ append-nil dues) in
    let places = c.in_ok-late.field-0.places in
    let within = places_within (is_late c.args.now d.outbox.retry.waiting) dues places c.in_ok-late.ensures.places in
    subst (λ (ds : List Due). All (λ p. p < length ds) c.items.result.now) (sym kept) (subst (All (λ p. p < length dues)) (sym c.items.ensures.items) within)

pub returns-clause-step : goal.returns-clause-step
returns-clause-step c =
    let d = c.args.self.now in
    let bs = d.connections in
    let dues = d.outbox.dues in
    let waiting = d.outbox.retry.waiting in
    let all = c.in_ok-said.ensures.done in
    let p : Outbox = record { retry = c.clock.new.outbox.retry; dues = c.tell_at.new.self } in
    let late = c.deref.result.now in
    let is = c.deref.ensures.value ∙ c.in_ok-late.ensures.late in
    let kept : c.clock.new.outbox.dues ≡ dues = all.dues ∙ (ap (λ ds. dues ++ ds) (clock_asks_nothing d.agent c.args.now late 0 d.next bs) ∙ append-nil dues) in
    let told : c.tell_at.new.self ≡ told_dues c.args.now waiting dues =
    told_late c.args.now waiting dues c.tell_at.new.self c.in_ok-late.field-0.places c.in_ok-late.ensures.places
    (subst (λ ps. AreToldAt ps dues c.tell_at.new.self) c.items.ensures.items (subst (λ (ds : List Due). AreToldAt c.items.result.now ds c.tell_at.new.self) kept c.tell_at.ensures)) in
    record {
      all = λ t route.
          record {
            state = ticked_state (setting_of t d.agent route) c.args.now late bs c.clock.new.self d.outbox p (values_of d.queries) d.next c.in_ok-said.said.next d.now d.taken is all.bonds all.waits told all.next;
            said = all.out ∙ sym (ticked_out (setting_of t d.agent route) c.args.now late bs d.outbox (values_of d.queries) d.next d.now d.taken is);
          };
      agent = refl;
      err = tt;
    }
