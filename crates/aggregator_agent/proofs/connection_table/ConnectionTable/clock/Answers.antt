use Rattle.std.proofs.Common.{◌≡◌, ◌∙◌, length, sym, rules}
use Rattle.std.proofs.lemmas.List.{length-map}
use Rattle.aggregator_agent.specs.Bonds.{bond, bonds}
use Rattle.aggregator_agent.proofs.Found.{clocked_places, clocked_table}
use Rattle.aggregator_agent.proofs.connection_table.ConnectionTable.clock.Goals as goal

pub clock_all-requires : goal.clock_all-requires
clock_all-requires c =
    let e = c.args.clocking.now in
    let xs = c.self.inside.items.items in
    let counted : c.len-count.result ≡ length xs = search rules in
    clocked_places c.self.inside.index (bonds xs) e.agent.now e.second e.late.now c.in_ok-places.places c.items.result.now c.len-count.result c.items.ensures.items (counted ∙ sym (length-map xs bond)) c.self.invariant.0 c.items.ensures.rising c.in_ok-places.ensures

pub invariant_of-self : goal.invariant_of-self
invariant_of-self c =
    let e = c.args.clocking.now in
    let index = c.self.inside.index in
    clocked_table index.ids index.ends c.clock_all.new.ends e.agent.now e.second e.late.now c.args.next (bonds c.self.inside.items.items) (bonds c.clock_all.new.connections.items) c.args.outbox.now c.clock_all.new.outbox c.clock_all.result c.self.invariant
    c.clock_all.ensures.passed c.clock_all.ensures.left c.clock_all.ensures.done c.clock_all.ensures.back

pub returns-clause-done : goal.returns-clause-done
returns-clause-done c = rw (← c.self.view_is) c.clock_all.ensures.done

pub returns-clause-back : goal.returns-clause-back
returns-clause-back c = rw (← c.self.view_is) c.clock_all.ensures.back
