use Rattle.std.proofs.Common.{◌∙◌, ap, sym, subst}
use Rattle.nsi_primitive.specs.declared.state.Side.{Side}
use Rattle.capacity_calendar.specs.Load.{others}
use Rattle.capacity_calendar.specs.Plan.{Plan}
use Rattle.connection_record.specs.declared.apply.Move.{Move}
use Rattle.connection_record.specs.Applied.{moves, status_of}
use Rattle.provider_agent.specs.State.{State, record_at}
use Rattle.provider_agent.specs.Kept.{AreKept}
use Rattle.provider_agent.proofs.Indexing.{indexed_by, indexed_set, told_named, close_named, named_by_work}
use Rattle.provider_agent.proofs.Putting.{kept_close}
use Rattle.provider_agent.proofs.provider_core.Core.close.Goals as goal

pub returns-clause-consistent : goal.returns-clause-consistent
returns-clause-consistent c =
    let d = c.args.self.now in
    let n = c.args.place in
    let own = record_at n d.records.items in
    let records_are = ap (λ (s : State). s.records) c.in_ok-out.ensures.step.state in
    let bookings_are = ap (λ (p : Plan). p.bookings) c.take_all.ensures.taken ∙ (ap (λ k. others k c.move_record.new.self.calendar.bookings) c.number_of.ensures ∙ ap (λ (p : Plan). others n p.bookings) c.in_ok-out.ensures.calendar) in
    record {
      kept =
          subst (λ rs. AreKept rs c.take_all.new.self.bookings) (sym records_are)
          (subst (AreKept _) (sym bookings_are) (kept_close d.records.items d.calendar.bookings n c.in_ok-agent.agent (status_of d.now own) _ d.now c.requires.ready.consistent.kept c.requires.within c.requires.waits));
      indexed =
          indexed_by d c.move_record.new.self _ c.in_ok-out.ensures.step.state c.in_ok-out.ensures.waiting c.in_ok-out.ensures.deadlines
          (indexed_set d.now d.records.items d.waiting d.deadlines n _ c.requires.ready.consistent.indexed c.requires.within (named_by_work d.now d.records.items d.waiting d.deadlines n _ c.requires.ready.consistent.indexed c.requires.within c.requires.waits)
          (told_named (status_of d.now own) _ d.now n (moves Side.Provider (Move.Close c.in_ok-agent.agent) d.now own) d.deadlines (close_named c.in_ok-agent.agent d.now n own d.deadlines c.requires.waits)));
    }
