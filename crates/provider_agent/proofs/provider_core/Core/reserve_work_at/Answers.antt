use Rattle.std.proofs.Common.{◌≡◌, ◌≢◌, true, sym, subst, refl, length, arith}
use Rattle.std.proofs.lemmas.List.{get_or_read_under}
use Rattle.nsi_primitive.specs.declared.state.Machine.{Machine}
use Rattle.nsi_primitive.specs.declared.state.Rsm.{Rsm}
use Rattle.connection_record.specs.declared.record.Record.{Record}
use Rattle.connection_record.specs.Moves.{is_working}
use Rattle.connection_record.specs.Applied.{waits}
use Rattle.provider_agent.specs.State.{no_record, record_at}
use Rattle.provider_agent.proofs.Indexing.{named_by_work}
use Rattle.provider_agent.proofs.provider_core.Core.reserve_work_at.Goals as goal

pub turn-requires-clause-named : goal.turn-requires-clause-named
turn-requires-clause-named c =
    let d = c.args.self.now in
    named_by_work d.now d.records.items d.waiting d.deadlines c.args.place _ c.requires.ready.consistent.indexed c.requires.within c.requires.waits

-- what waits is in one of the three states
one_of_three : (r : Record) → waits Machine.Reserve r ≡ true → r.rsm ≢ Rsm.ReserveChecking → r.rsm ≢ Rsm.ReserveCommitting → r.rsm ≢ Rsm.ReserveAborting → ⊥
unfolding waits is_working
one_of_three r h a b d = grind arith

pub returns-in_default : goal.returns-in_default
returns-in_default c =
    let xs = c.args.self.now.records.items in
    let n = c.args.place in
    let own_is : c.index.result.now ≡ record_at n xs = get_or_read_under xs n (length xs) c.index.result.now no_record c.index.ensures c.requires.within refl in
    let waiting = subst (λ (r : Record). waits Machine.Reserve r ≡ true) (sym own_is) c.requires.waits in
    absurd (one_of_three c.index.result.now waiting c.in_default.not-ReserveChecking c.in_default.not-ReserveCommitting c.in_default.not-ReserveAborting)
