use Rattle.std.proofs.Common.{◌≡◌, drop, None}
use Rattle.aggregator_agent.specs.Bonds.{bonds, records_of}
use Rattle.aggregator_agent.specs.OpenTable.{least_awaited}
use Rattle.aggregator_agent.proofs.open_queries.find_least.Given as goal

abbrev pub invariant-loop-number : goal.invariant-loop-number
invariant-loop-number l =
    let records = records_of (bonds l.connections) in
    let es = l.queries.entries in
    least_awaited l.correlation records es l.least (drop l.number-index l.numbers) ≡ least_awaited l.correlation records es None l.numbers
