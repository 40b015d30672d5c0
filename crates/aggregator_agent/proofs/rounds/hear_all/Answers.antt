use Rattle.std.proofs.Common.{sym, subst, arith}
use Rattle.std.proofs.lemmas.List.{length-map}
use Rattle.aggregator_agent.specs.Bonds.{bond, bonds}
use Rattle.aggregator_agent.specs.Indexed.{AreFound}
use Rattle.aggregator_agent.proofs.Found.{all_grown}
use Rattle.aggregator_agent.proofs.rounds.hear_all.Goals as goal

pub go_back-requires : goal.go_back-requires
go_back-requires c k has =
    let undo = c.hear_and_store-heard.ensures.undo in
    let within = undo.within k has in
    let long = undo.long in
    let new = length-map c.hear_and_store-heard.new.connections.items bond in
    omega (arith, within, long, new)

pub returns-in-Err-clause-found : goal.returns-in-Err-clause-found
returns-in-Err-clause-found c =
    let old = bonds c.args.connections.now.items in
    subst (AreFound c.hear_and_store-heard.new.index) (sym (c.go_back.ensures old c.hear_and_store-heard.ensures.undo)) (all_grown c.args.index.now c.hear_and_store-heard.new.index old c.hear_and_store-heard.ensures.grows c.requires.found)
