use Rattle.std.proofs.Common.{sym, subst}
use Rattle.provider_agent.specs.Ticks.{CanUndo}
use Rattle.provider_agent.proofs.TickUndo.{saved_within}
use Rattle.provider_agent.proofs.tick.Ticking.tick_all.Goals as goal

pub go_back-requires : goal.go_back-requires
go_back-requires c =
    let rs = c.args.records.now.items in
    let undo = subst (CanUndo rs c.tick_and_store.new.records.items) (sym c.deref.ensures.value) c.tick_and_store.ensures.undo in
    saved_within rs c.tick_and_store.new.records.items c.deref.result.now undo.saved undo.back.long

pub returns-in-Err-clause-err : goal.returns-in-Err-clause-err
returns-in-Err-clause-err c =
    let rs = c.args.records.now.items in
    c.go_back.ensures rs (subst (CanUndo rs c.tick_and_store.new.records.items) (sym c.deref.ensures.value) c.tick_and_store.ensures.undo)
