use Rattle.std.proofs.Common.{get_or, refl, arith}
use Rattle.std.proofs.lemmas.List.{length-map}
use Rattle.aggregator_agent.specs.Bonds.{bond, bonds, clocked_bond, each_bond}
use Rattle.aggregator_agent.proofs.EachBond.{to_none, inside, is_new, to_more, to_all}
use Rattle.aggregator_agent.proofs.rounds.Round.clock_each.Goals as goal

pub loop-place-init : goal.loop-place-init
loop-place-init c =
    let a = c.args.self.now in
    let e = c.args.clocking.now in
    let bs = bonds c.args.connections.now.items in
    let round = to_none (clocked_bond e.agent.now e.second e.late.now) bs c.args.places.now a.kept.items a.said.out.items a.said.dues.items a.said.next c.requires.begun.kept c.requires.begun.out c.requires.begun.dues in
    round

pub clock_at-requires-clause-within : goal.clock_at-requires-clause-within
clock_at-requires-clause-within c =
    let a = c.args.self.now in
    let l = c.loop-place in
    let e = c.args.clocking.now in
    let does = clocked_bond e.agent.now e.second e.late.now in
    let ps = c.args.places.now in
    let i = l.place-index in
    let bs = bonds c.args.connections.now.items in
    let now = bonds l.connections.items in
    let all = each_bond does 0 a.said.next bs in
    let long = length-map l.connections.items bond in
    let within = inside does all bs ps c.requires.touched i (get_or ps i 0) now l.self.kept.items l.self.said.out.items l.self.said.dues.items l.self.said.next c.loop-place-test.true refl l.invariant in
    omega (arith, within, long)

pub clock_at-requires-clause-new : goal.clock_at-requires-clause-new
clock_at-requires-clause-new c k has =
    let a = c.args.self.now in
    let l = c.loop-place in
    let e = c.args.clocking.now in
    let does = clocked_bond e.agent.now e.second e.late.now in
    let ps = c.args.places.now in
    let i = l.place-index in
    let bs = bonds c.args.connections.now.items in
    let now = bonds l.connections.items in
    let all = each_bond does 0 a.said.next bs in
    is_new does all bs ps c.requires.touched i (get_or ps i 0) now l.self.kept.items l.self.said.out.items l.self.said.dues.items l.self.said.next c.loop-place-test.true refl l.invariant k has

pub loop-place-preserved : goal.loop-place-preserved
loop-place-preserved c =
    let a = c.args.self.now in
    let l = c.loop-place in
    let e = c.args.clocking.now in
    let does = clocked_bond e.agent.now e.second e.late.now in
    let ps = c.args.places.now in
    let i = l.place-index in
    let bs = bonds c.args.connections.now.items in
    let now = bonds l.connections.items in
    let all = each_bond does 0 a.said.next bs in
    let cs = bonds c.clock_at.new.connections.items in
    let undo = c.clock_at.ensures.undo bs l.invariant.undo in
    let round = to_more does all bs ps c.requires.touched i (get_or ps i 0) now cs l.self.kept.items c.clock_at.new.self.kept.items l.self.said c.clock_at.new.self.said _ c.loop-place-test.true refl c.in_ok-clock_at.ensures.done c.in_ok-clock_at.ensures.kept undo l.invariant in
    round

pub returns-in_err-clock_at-clause-undo : goal.returns-in_err-clock_at-clause-undo
returns-in_err-clock_at-clause-undo c = c.clock_at.ensures.undo (bonds c.args.connections.now.items) c.loop-place.invariant.undo

pub returns-clause-done : goal.returns-clause-done
returns-clause-done c =
    let a = c.args.self.now in
    let l = c.loop-place in
    let e = c.args.clocking.now in
    let does = clocked_bond e.agent.now e.second e.late.now in
    let ps = c.args.places.now in
    let i = l.place-index in
    let bs = bonds c.args.connections.now.items in
    let now = bonds l.connections.items in
    let all = each_bond does 0 a.said.next bs in
    to_all does all bs ps c.requires.touched i now l.self.kept.items l.self.said (omega arith) c.loop-place-test.false l.invariant
