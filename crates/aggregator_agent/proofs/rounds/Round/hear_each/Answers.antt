use Rattle.std.proofs.Common.{get_or, refl, arith}
use Rattle.std.proofs.lemmas.List.{length-map}
use Rattle.aggregator_agent.specs.Bonds.{bond, bonds, bond_at, answered, each_bond}
use Rattle.aggregator_agent.proofs.Found.{found_more}
use Rattle.aggregator_agent.proofs.EachBond.{to_none, inside, is_new, to_more, to_all}
use Rattle.aggregator_agent.proofs.rounds.Round.hear_each.Goals as goal

pub loop-place-init : goal.loop-place-init
loop-place-init c =
    let a = c.args.self.now in
    let e = c.args.entering.now in
    let bs = bonds c.args.connections.now.items in
    let round = to_none (answered e.agent.now e.second e.message.now) bs c.args.places.now a.kept.items a.said.out.items a.said.dues.items a.said.next c.requires.begun.kept c.requires.begun.out c.requires.begun.dues in
    record { round = round; grows = record { ids = λ x has. has; ends = λ x has. has }; found = c.requires.found }

pub hear_at-requires-clause-within : goal.hear_at-requires-clause-within
hear_at-requires-clause-within c =
    let a = c.args.self.now in
    let l = c.loop-place in
    let e = c.args.entering.now in
    let does = answered e.agent.now e.second e.message.now in
    let ps = c.args.places.now in
    let i = l.place-index in
    let bs = bonds c.args.connections.now.items in
    let now = bonds l.connections.items in
    let all = each_bond does 0 a.said.next bs in
    let long = length-map l.connections.items bond in
    let within = inside does all bs ps c.requires.touched i (get_or ps i 0) now l.self.kept.items l.self.said.out.items l.self.said.dues.items l.self.said.next c.loop-place-test.true refl l.invariant.round in
    omega (arith, within, long)

pub hear_at-requires-clause-new : goal.hear_at-requires-clause-new
hear_at-requires-clause-new c k has =
    let a = c.args.self.now in
    let l = c.loop-place in
    let e = c.args.entering.now in
    let does = answered e.agent.now e.second e.message.now in
    let ps = c.args.places.now in
    let i = l.place-index in
    let bs = bonds c.args.connections.now.items in
    let now = bonds l.connections.items in
    let all = each_bond does 0 a.said.next bs in
    is_new does all bs ps c.requires.touched i (get_or ps i 0) now l.self.kept.items l.self.said.out.items l.self.said.dues.items l.self.said.next c.loop-place-test.true refl l.invariant.round k has

pub loop-place-preserved : goal.loop-place-preserved
loop-place-preserved c =
    let a = c.args.self.now in
    let l = c.loop-place in
    let e = c.args.entering.now in
    let does = answered e.agent.now e.second e.message.now in
    let ps = c.args.places.now in
    let i = l.place-index in
    let bs = bonds c.args.connections.now.items in
    let now = bonds l.connections.items in
    let all = each_bond does 0 a.said.next bs in
    let cs = bonds c.hear_at.new.connections.items in
    let undo = c.hear_at.ensures.undo bs l.invariant.round.undo in
    let round = to_more does all bs ps c.requires.touched i (get_or ps i 0) now cs l.self.kept.items c.hear_at.new.self.kept.items l.self.said c.hear_at.new.self.said _ c.loop-place-test.true refl c.in_ok-hear_at.ensures.done c.in_ok-hear_at.ensures.kept undo l.invariant.round in
    let within = inside does all bs ps c.requires.touched i (get_or ps i 0) now l.self.kept.items l.self.said.out.items l.self.said.dues.items l.self.said.next c.loop-place-test.true refl l.invariant.round in
    let more = c.hear_at.ensures.grows in
    record {
      round = round;
      grows = record { ids = λ x has. more.ids x (l.invariant.grows.ids x has); ends = λ x has. more.ends x (l.invariant.grows.ends x has) };
      found = found_more l.index c.hear_at.new.index now cs (get_or ps i 0) (does (get_or ps i 0) l.self.said.next (bond_at (get_or ps i 0) now)).bond more l.invariant.found within c.in_ok-hear_at.ensures.done.bonds c.in_ok-hear_at.ensures.named;
    }

pub returns-in_err-hear_at-clause-grows : goal.returns-in_err-hear_at-clause-grows
returns-in_err-hear_at-clause-grows c =
    let l = c.loop-place in
    let more = c.hear_at.ensures.grows in
    record { ids = λ x has. more.ids x (l.invariant.grows.ids x has); ends = λ x has. more.ends x (l.invariant.grows.ends x has) }

pub returns-in_err-hear_at-clause-undo : goal.returns-in_err-hear_at-clause-undo
returns-in_err-hear_at-clause-undo c = c.hear_at.ensures.undo (bonds c.args.connections.now.items) c.loop-place.invariant.round.undo

pub returns-clause-done : goal.returns-clause-done
returns-clause-done c =
    let a = c.args.self.now in
    let l = c.loop-place in
    let e = c.args.entering.now in
    let does = answered e.agent.now e.second e.message.now in
    let ps = c.args.places.now in
    let i = l.place-index in
    let bs = bonds c.args.connections.now.items in
    let now = bonds l.connections.items in
    let all = each_bond does 0 a.said.next bs in
    to_all does all bs ps c.requires.touched i now l.self.kept.items l.self.said (omega arith) c.loop-place-test.false l.invariant.round
