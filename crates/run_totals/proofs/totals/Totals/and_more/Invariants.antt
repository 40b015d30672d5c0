use Rattle.std.proofs.Common.{◌≡◌, ◌+◌, drop}
use Rattle.run_totals.specs.Totals.{AreWithin, plus, totals_of}
use Rattle.run_totals.proofs.totals.Totals.and_more.Given as goal

abbrev pub invariant-loop-event : goal.invariant-loop-event
invariant-loop-event l = record {
  count : l.totals.events ≡ l.fn.self.events + l.event-index;
  within : AreWithin l.totals;
  totals : plus l.totals (totals_of l.topology (drop l.event-index l.events)) ≡ plus l.fn.self (totals_of l.topology l.events);
}
