use Rattle.std.proofs.Common.{sym, subst}
use Rattle.nsi_primitive.specs.declared.state.Side.{Side}
use Rattle.connection_record.specs.Applied.{moves_if, requested, status_of}
use Rattle.provider_agent.specs.declared.provider_core.Core.{Core}
use Rattle.provider_agent.specs.State.{record_at}
use Rattle.provider_agent.specs.Kept.{AreKept}
use Rattle.provider_agent.specs.Indexed.{AreIndexed}
use Rattle.provider_agent.proofs.Indexing.{indexed_moved, request_no_more, told_no_more}
use Rattle.provider_agent.proofs.Moved.{plain_request, plain_told}
use Rattle.provider_agent.proofs.Keeping.{kept_taken}
use Rattle.provider_agent.proofs.provider_core.Core.move_at.Goals as goal

pub returns-clause-consistent : goal.returns-clause-consistent
returns-clause-consistent c =
    let d = c.args.self.now in
    let m = c.args.message.now in
    let own = record_at c.args.place d.records.items in
    let x = moves_if Side.Provider (requested d.now m.body m.header.correlation own) d.now own in
    record {
      kept =
          subst (λ (x : Core). AreKept x.records.items x.calendar.bookings) (sym c.free_if_dropped.ensures)
          (kept_taken d.records.items _ d.calendar.bookings c.args.place _ c.requires.ready.consistent.kept c.requires.within (plain_told (status_of d.now own) _ d.now own x (plain_request m.body m.header.correlation d.now own)) c.in_ok-turn.ensures.turned.rec);
      indexed =
          subst (λ (x : Core). AreIndexed x.now x.records.items x.waiting x.deadlines) (sym c.free_if_dropped.ensures)
          (subst (λ rs. AreIndexed d.now rs d.waiting d.deadlines) (sym c.in_ok-turn.ensures.turned.rec) (indexed_moved d.now d.records.items d.waiting d.deadlines c.args.place _ c.requires.ready.consistent.indexed c.requires.within c.requires.named
          (told_no_more (status_of d.now own) _ d.now own x (request_no_more m.body m.header.correlation d.now own))));
    }
