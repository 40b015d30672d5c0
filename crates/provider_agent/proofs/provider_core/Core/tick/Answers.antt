use Rattle.std.proofs.Common.{◌≡◌, ◌∙◌, List, length, rules, sym, ap, subst, arith}
use Rattle.capacity_calendar.specs.declared.booking.Capacity.{Capacity}
use Rattle.connection_record.specs.declared.record.Record.{Record}
use Rattle.provider_agent.specs.Indexed.{AreIndexed}
use Rattle.provider_agent.specs.Kept.{AreKept}
use Rattle.message_retry.specs.Retry.{Retry}
use Rattle.provider_agent.specs.Core.{setting_at, state_at}
use Rattle.provider_agent.specs.Step.{stored}
use Rattle.provider_agent.specs.Steps.{Ticked, ticks, ticks_all, with_ticks}
use Rattle.provider_agent.specs.Ticks.{AreDue, IsFreedBut}
use Rattle.provider_agent.proofs.TickDue.{due_from}
use Rattle.provider_agent.proofs.TickIndexed.{indexed_ticked, kept_ticked}
use Rattle.provider_agent.proofs.TickSeams.{length_ticked}
use Rattle.provider_agent.proofs.provider_core.Core.tick.Goals as goal

pub tick_all-requires : goal.tick_all-requires
tick_all-requires c =
    let d = c.args.self.now in
    record {
      due = subst (AreDue d.now c.args.now d.records.items) (sym c.items-due.ensures.items)
          (due_from d.now c.args.now d.records.items d.waiting d.deadlines c.in_ok-places.places c.requires.ready.consistent.indexed c.requires.on_time c.in_ok-places.ensures c.items-due.ensures.rising);
      none_kept = search rules;
      none_said = search rules;
      next = c.requires.ready.drawn;
      few = omega (arith, c.requires.ready.few);
    }

pub free_all-requires-clause-within : goal.free_all-requires-clause-within
free_all-requires-clause-within c n has =
    let d = c.args.self.now in
    let due = subst (AreDue d.now c.args.now d.records.items) (sym c.items-due.ensures.items)
    (due_from d.now c.args.now d.records.items d.waiting d.deadlines c.in_ok-places.places c.requires.ready.consistent.indexed c.requires.on_time c.in_ok-places.ensures c.items-due.ensures.rising) in
    let records_are : c.deref.result.now ≡ (ticks_all d.agent d.now c.args.now d.next d.records.items).records = c.deref.ensures.value ∙ ap (λ (x : Ticked). x.records) c.in_ok-tick_all.ensures.ticked in
    omega (arith, due.within n has, ap length records_are, length_ticked d.agent d.now c.args.now d.next d.records.items)

pub free_all-requires-clause-few : goal.free_all-requires-clause-few
free_all-requires-clause-few c =
    let d = c.args.self.now in
    let records_are : c.deref.result.now ≡ (ticks_all d.agent d.now c.args.now d.next d.records.items).records = c.deref.ensures.value ∙ ap (λ (x : Ticked). x.records) c.in_ok-tick_all.ensures.ticked in
    omega (arith, c.requires.ready.few, ap length records_are, length_ticked d.agent d.now c.args.now d.next d.records.items)

pub free_all-requires-clause-but : goal.free_all-requires-clause-but
free_all-requires-clause-but c =
    let d = c.args.self.now in
    let due = subst (AreDue d.now c.args.now d.records.items) (sym c.items-due.ensures.items)
    (due_from d.now c.args.now d.records.items d.waiting d.deadlines c.in_ok-places.places c.requires.ready.consistent.indexed c.requires.on_time c.in_ok-places.ensures c.items-due.ensures.rising) in
    let records_are : c.deref.result.now ≡ (ticks_all d.agent d.now c.args.now d.next d.records.items).records = c.deref.ensures.value ∙ ap (λ (x : Ticked). x.records) c.in_ok-tick_all.ensures.ticked in
    subst (λ (rs : List Record). IsFreedBut rs d.calendar.bookings c.items-due.result.now) (sym records_are)
    (kept_ticked d.agent d.now c.args.now d.next d.records.items d.calendar.bookings c.items-due.result.now c.requires.ready.consistent.kept due)

pub returns-clause-step : goal.returns-clause-step
unfolding ticks
returns-clause-step c =
    let d = c.args.self.now in
    record {
      state =
          ap (λ (r : Retry). record (state_at d) { records = c.tick_all.new.records.items; seen = r.seen; heard = r.heard; waiting = r.waiting; next = c.tick_all.new.self.next; now = c.args.now }) c.in_ok-tick_all.ensures.stored
          ∙ ap (λ (x : Ticked). stored (with_ticks c.args.now (state_at d) x)) c.in_ok-tick_all.ensures.ticked;
      out = ap (λ (x : Ticked). x.out) c.in_ok-tick_all.ensures.ticked;
      setting = ap (λ (cs : List Capacity). record (setting_at d) { capacities = cs }) c.free_all.ensures.capacities;
      err = tt;
    }

pub returns-clause-consistent : goal.returns-clause-consistent
returns-clause-consistent c =
    let d = c.args.self.now in
    record {
      kept =
          subst (λ (rs : List Record). AreKept rs c.free_all.new.calendar.bookings) c.deref.ensures.value c.free_all.ensures.kept;
      indexed =
          subst (λ (rs : List Record). AreIndexed c.args.now rs d.waiting c.pass.new.self) (sym (ap (λ (x : Ticked). x.records) c.in_ok-tick_all.ensures.ticked))
          (indexed_ticked d.agent d.now c.args.now d.next d.records.items d.waiting d.deadlines c.pass.new.self c.requires.ready.consistent.indexed c.requires.on_time c.pass.ensures);
    }
