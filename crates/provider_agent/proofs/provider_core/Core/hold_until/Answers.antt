use Rattle.std.proofs.Common.{◌∙◌, ap, sym, subst, List, Some, None, option_map}
use Rattle.nsi_primitive.specs.declared.state.Rsm.{Rsm}
use Rattle.nsi_primitive.specs.declared.state.Side.{Side}
use Rattle.capacity_calendar.specs.Plan.{Plan, pending_set}
use Rattle.connection_record.specs.declared.moves.ReservationMove.{ReservationMove}
use Rattle.connection_record.specs.declared.record.Record.{Record}
use Rattle.connection_record.specs.declared.apply.Move.{Move}
use Rattle.connection_record.specs.Replies.{Moved}
use Rattle.connection_record.specs.Applied.{moves, status_of}
use Rattle.provider_agent.specs.State.{State, record_at}
use Rattle.provider_agent.specs.Kept.{AreKept, slot_of, with_slot}
use Rattle.provider_agent.proofs.Indexing.{AreNamed, indexed_by, indexed_set, told_named, fit_named, named_where_no_more, still_no_more, named_by_work}
use Rattle.provider_agent.proofs.Putting.{kept_fit, kept_taken_out, reserves_in}
use Rattle.provider_agent.proofs.provider_core.Core.hold_until.Goals as goal

pub returns-in-Ok-clause-consistent : goal.returns-in-Ok-clause-consistent
returns-in-Ok-clause-consistent c =
    let d = c.args.self.now in
    let n = c.args.place in
    let own = record_at n d.records.items in
    let bs = d.calendar.bookings in
    let booked = λ (rs : List Record). with_slot n (option_map (slot_of (record_at n rs)) (record_at n rs).pending) bs in
    let records_are = ap (λ (s : State). s.records) c.in-Ok.ensures.step.state in
    let bookings_are = ap (λ (p : Plan). p.bookings) c.in-Ok.ensures.calendar ∙ (ap (λ (p : Plan). p.bookings) c.in_ok-put.ensures.ok ∙ ap booked c.deref.ensures.value) in
    let old = named_where_no_more d.now d.records.items d.waiting d.deadlines n own c.requires.ready.consistent.indexed c.requires.within (still_no_more own) in
    let held = subst (λ (x : Moved). AreNamed d.now n x.rec d.deadlines) (sym (reserves_in Rsm.ReserveChecking (ReservationMove.Fit (Some c.args.deadline)) d.now own c.requires.checking)) (fit_named c.args.deadline d.now n own d.deadlines c.requires.checking c.requires.named old) in
    record {
      kept =
          subst (λ rs. AreKept rs c.move_record.new.self.calendar.bookings) (sym records_are)
          (subst (AreKept _) (sym bookings_are) (kept_fit d.records.items bs n (Some c.args.deadline) (status_of d.now own) _ d.now c.requires.ready.consistent.kept c.requires.within c.requires.checking c.requires.waits));
      indexed =
          indexed_by d c.move_record.new.self _ c.in-Ok.ensures.step.state c.in-Ok.ensures.waiting c.in-Ok.ensures.deadlines
          (indexed_set d.now d.records.items d.waiting d.deadlines n _ c.requires.ready.consistent.indexed c.requires.within (named_by_work d.now d.records.items d.waiting d.deadlines n _ c.requires.ready.consistent.indexed c.requires.within c.requires.waits)
          (told_named (status_of d.now own) _ d.now n (moves Side.Provider (Move.Reservation (ReservationMove.Fit (Some c.args.deadline))) d.now own) d.deadlines held));
    }

pub returns-in-Err-clause-consistent : goal.returns-in-Err-clause-consistent
returns-in-Err-clause-consistent c =
    let d = c.args.self.now in
    let n = c.args.place in
    let bs = d.calendar.bookings in
    let booked = λ (rs : List Record). with_slot n (option_map (slot_of (record_at n rs)) (record_at n rs).pending) bs in
    let records_are = ap (λ (s : State). s.records) c.in-Err.ensures.step.err in
    let moved_are = ap (λ (p : Plan). p.bookings) c.in-Err.ensures.calendar ∙ (ap (λ (p : Plan). p.bookings) c.in_ok-put.ensures.ok ∙ ap booked c.deref.ensures.value) in
    let bookings_are = ap (λ (p : Plan). p.bookings) c.take_pending.ensures.taken ∙ (ap (λ k. pending_set k None c.move_record.new.self.calendar.bookings) c.number_of.ensures ∙ ap (pending_set n None) moved_are) in
    record {
      kept =
          subst (λ rs. AreKept rs c.take_pending.new.self.bookings) (sym records_are)
          (subst (AreKept d.records.items) (sym bookings_are) (kept_taken_out d.records.items bs n _ c.requires.ready.consistent.kept c.requires.within c.requires.checking));
      indexed = indexed_by d c.move_record.new.self _ c.in-Err.ensures.step.err c.in-Err.ensures.waiting c.in-Err.ensures.deadlines c.requires.ready.consistent.indexed;
    }
