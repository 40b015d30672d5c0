use Rattle.std.proofs.Common.{arith}
use Rattle.std.proofs.lemmas.List.{length-map}
use Rattle.aggregator_agent.specs.Bonds.{bond}
use Rattle.aggregator_agent.proofs.rounds.clock_all.Goals as goal

pub go_back-requires : goal.go_back-requires
go_back-requires c k has =
    let undo = c.clock_and_store-clocked.ensures.undo in
    let within = undo.within k has in
    let long = undo.long in
    let new = length-map c.clock_and_store-clocked.new.connections.items bond in
    omega (arith, within, long, new)
