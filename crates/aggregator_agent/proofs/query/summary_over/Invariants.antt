use Rattle.std.proofs.Common.{◌≡◌, map, take}
use Rattle.nsi_query.specs.Summary.{summary}
use Rattle.aggregator_agent.specs.Bonds.{bonds, shown_of}
use Rattle.aggregator_agent.proofs.query.summary_over.Given as goal

abbrev pub invariant-loop-connection : goal.invariant-loop-connection
invariant-loop-connection l = l.found ≡ summary l.owner (map shown_of (bonds (take l.connection-index l.all)))
