use Rattle.std.proofs.Common.{cond, ap, sym, subst}
use Rattle.nsi_primitive.specs.declared.state.Side.{Side}
use Rattle.capacity_calendar.specs.Plan.{Plan, pending_set}
use Rattle.connection_record.specs.Demand.{holds_pending}
use Rattle.connection_record.specs.Applied.{moves, status_of}
use Rattle.provider_agent.specs.declared.provider_core.Core.{Core}
use Rattle.provider_agent.specs.State.{State, record_at}
use Rattle.provider_agent.specs.Kept.{AreKept}
use Rattle.provider_agent.specs.Indexed.{AreIndexed}
use Rattle.provider_agent.proofs.Indexing.{indexed_by, indexed_moved, plain_no_more, told_no_more}
use Rattle.provider_agent.proofs.Moved.{plain_move, plain_told}
use Rattle.provider_agent.proofs.Keeping.{kept_taken}
use Rattle.provider_agent.proofs.provider_core.Core.turn.Goals as goal

pub returns-clause-consistent : goal.returns-clause-consistent
returns-clause-consistent c =
    let d = c.args.self.now in
    let n = c.args.place in
    let own = record_at n d.records.items in
    let x = moves Side.Provider c.args.event d.now own in
    let records_are = ap (λ (s : State). s.records) c.in_ok-out.ensures.step.state in
    let new = c.move_record.new.self in
    record {
      kept =
          subst (λ (x : Core). AreKept x.records.items x.calendar.bookings) (sym c.free_if_dropped.ensures)
          (subst (λ (p : Plan). AreKept new.records.items (cond (holds_pending (record_at n new.records.items).rsm) p.bookings (pending_set n _ p.bookings))) (sym c.in_ok-out.ensures.calendar)
          (kept_taken d.records.items new.records.items d.calendar.bookings n _ c.requires.ready.consistent.kept c.requires.within (plain_told (status_of d.now own) _ d.now own x (plain_move Side.Provider c.args.event d.now own c.requires.plain)) records_are));
      indexed =
          subst (λ (x : Core). AreIndexed x.now x.records.items x.waiting x.deadlines) (sym c.free_if_dropped.ensures)
          (indexed_by d c.move_record.new.self _ c.in_ok-out.ensures.step.state c.in_ok-out.ensures.waiting c.in_ok-out.ensures.deadlines
          (indexed_moved d.now d.records.items d.waiting d.deadlines n _ c.requires.ready.consistent.indexed c.requires.within c.requires.named
          (told_no_more (status_of d.now own) _ d.now own x (plain_no_more Side.Provider c.args.event d.now own c.requires.plain))));
    }
