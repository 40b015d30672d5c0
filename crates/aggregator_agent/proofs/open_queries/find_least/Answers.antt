use Rattle.std.proofs.Common.{get_or, refl}
use Rattle.aggregator_agent.specs.Bonds.{bonds, records_of}
use Rattle.aggregator_agent.proofs.OpenTold.{least_more}
use Rattle.aggregator_agent.proofs.open_queries.find_least.Goals as goal

pub loop-number-preserved : goal.loop-number-preserved
loop-number-preserved c =
    let l = c.loop-number in
    least_more c.args.correlation (records_of (bonds c.args.connections.now)) c.args.queries.now.entries l.least c.find_at-found.result c.lesser-least.result _ c.args.numbers.now l.number-index _ c.loop-number-test.true c.find_at-found.ensures c.lesser-least.ensures l.invariant
