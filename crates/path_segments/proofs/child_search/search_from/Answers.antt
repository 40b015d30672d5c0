use Rattle.std.proofs.Common.{length}
use Rattle.path_segments.specs.Searches.{marked}
use Rattle.path_segments.proofs.Searches.{leads_below, last_at_hand}
use Rattle.path_segments.proofs.child_search.search_from.Goals as goal

pub enter-requires-clause-exit : goal.enter-requires-clause-exit
enter-requires-clause-exit c =
    leads_below c.args.area.now.topology.now (marked c.args.area.now.below.now) c.args.step.exit (length c.args.area.now.topology.now.owners) c.in-Some.exit c.requires.exit c.requires.paired c.requires.fit.within
    (c.exits.invariant.searching.leads c.in-Some.exit (last_at_hand c.in-Some.exit c.pop.new.self.items c.exits.exits.items c.in-Some.ensures.items))
