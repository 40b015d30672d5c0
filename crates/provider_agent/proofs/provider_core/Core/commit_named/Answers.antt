use Rattle.std.proofs.Common.{◌≡◌, ◌∙◌, cond, ap, sym, subst, is_some, IsSome, List}
use Rattle.nsi_primitive.specs.declared.state.Rsm.{Rsm}
use Rattle.nsi_primitive.specs.declared.state.Side.{Side}
use Rattle.capacity_calendar.specs.Plan.{Plan, pending_of, settled}
use Rattle.connection_record.specs.declared.moves.ReservationMove.{ReservationMove}
use Rattle.connection_record.specs.declared.record.Record.{Record}
use Rattle.connection_record.specs.declared.apply.Move.{Move}
use Rattle.connection_record.specs.Replies.{Moved}
use Rattle.connection_record.specs.Applied.{moves, status_of}
use Rattle.provider_agent.specs.State.{State, record_at}
use Rattle.provider_agent.specs.Kept.{AreKept}
use Rattle.provider_agent.proofs.Indexing.{AreNamed, indexed_by, indexed_set, told_named, done_named, named_where_no_more, still_no_more, named_by_work}
use Rattle.provider_agent.proofs.Putting.{kept_done, is_booked_pending, waits_live, reserves_in}
use Rattle.provider_agent.proofs.provider_core.Core.commit_named.Goals as goal

pub settle_if-requires-clause-pending : goal.settle_if-requires-clause-pending
settle_if-requires-clause-pending c = λ held.
    let d = c.args.self.now in
    let n = c.args.place in
    let is_held : is_some (record_at n d.records.items).pending ≡ _ = ap (λ (rs : List Record). is_some (record_at n rs).pending) (sym c.deref.ensures.value) ∙ (sym c.has_pending-is_held.ensures ∙ held) in
    subst (λ (p : Plan). IsSome (pending_of n p.bookings)) (sym c.in_ok-out.ensures.calendar)
    (is_booked_pending d.records.items d.calendar.bookings n c.requires.ready.consistent.kept c.requires.within c.requires.committing (waits_live (record_at n d.records.items) c.requires.waits) is_held)

pub returns-clause-consistent : goal.returns-clause-consistent
returns-clause-consistent c =
    let d = c.args.self.now in
    let n = c.args.place in
    let own = record_at n d.records.items in
    let bs = d.calendar.bookings in
    let records_are = ap (λ (s : State). s.records) c.in_ok-out.ensures.step.state in
    let held_is : c.has_pending-is_held.result ≡ is_some own.pending = c.has_pending-is_held.ensures ∙ ap (λ (rs : List Record). is_some (record_at n rs).pending) c.deref.ensures.value in
    let bookings_are = ap (λ (p : Plan). p.bookings) c.settle_if.ensures ∙ (ap (λ (p : Plan). cond c.has_pending-is_held.result (settled n p.bookings) p.bookings) c.in_ok-out.ensures.calendar ∙ ap (λ b. cond b (settled n bs) bs) held_is) in
    let old = named_where_no_more d.now d.records.items d.waiting d.deadlines n own c.requires.ready.consistent.indexed c.requires.within (still_no_more own) in
    let done = subst (λ (x : Moved). AreNamed d.now n x.rec d.deadlines) (sym (reserves_in Rsm.ReserveCommitting ReservationMove.Done d.now own c.requires.committing)) (done_named d.now n own d.deadlines c.requires.named old) in
    record {
      kept =
          subst (λ rs. AreKept rs c.settle_if.new.calendar.bookings) (sym records_are)
          (subst (AreKept _) (sym bookings_are) (kept_done d.records.items bs n (status_of d.now own) _ d.now c.requires.ready.consistent.kept c.requires.within c.requires.committing c.requires.waits));
      indexed =
          indexed_by d c.move_record.new.self _ c.in_ok-out.ensures.step.state c.in_ok-out.ensures.waiting c.in_ok-out.ensures.deadlines
          (indexed_set d.now d.records.items d.waiting d.deadlines n _ c.requires.ready.consistent.indexed c.requires.within (named_by_work d.now d.records.items d.waiting d.deadlines n _ c.requires.ready.consistent.indexed c.requires.within c.requires.waits)
          (told_named (status_of d.now own) _ d.now n (moves Side.Provider (Move.Reservation ReservationMove.Done) d.now own) d.deadlines done));
    }
