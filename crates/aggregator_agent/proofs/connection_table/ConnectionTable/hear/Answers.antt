use Rattle.std.proofs.Common.{◌≡◌, ◌∙◌, length, sym, rules}
use Rattle.std.proofs.lemmas.List.{length-map}
use Rattle.aggregator_agent.specs.Bonds.{bond, bonds}
use Rattle.aggregator_agent.proofs.Found.{heard_places, heard_settled}
use Rattle.aggregator_agent.proofs.connection_table.ConnectionTable.hear.Goals as goal

pub hear_all-requires-clause-touched : goal.hear_all-requires-clause-touched
hear_all-requires-clause-touched c =
    let e = c.args.entering.now in
    let xs = c.self.inside.items.items in
    let counted : c.len-count.result ≡ length xs = search rules in
    heard_places c.self.inside.index (bonds xs) e.agent.now e.second e.message.now c.in_ok-places.places c.items.result.now c.len-count.result c.items.ensures.items (counted ∙ sym (length-map xs bond)) c.self.invariant.0 c.self.invariant.1 c.items.ensures.rising c.in_ok-places.ensures

pub invariant_of-self : goal.invariant_of-self
invariant_of-self c =
    let e = c.args.entering.now in
    let xs = c.self.inside.items.items in (
      c.hear_all.ensures.found,
      heard_settled e.agent.now e.second e.message.now c.args.begun.next (bonds xs) (bonds c.hear_all.new.connections.items) c.args.outbox.now c.hear_all.new.outbox _ c.hear_all.result c.self.invariant.1 c.hear_all.ensures.done c.hear_all.ensures.back,
    )

pub returns-clause-done : goal.returns-clause-done
returns-clause-done c = rw (← c.self.view_is) c.hear_all.ensures.done

pub returns-clause-back : goal.returns-clause-back
returns-clause-back c = rw (← c.self.view_is) c.hear_all.ensures.back
