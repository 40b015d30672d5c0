use Rattle.std.proofs.Common.{ℕ, true, ◌≡◌, ◌<◌, ◌≤◌, List, [], length, take, drop, get_or, ◌+◌}
use Rattle.nsi_script.specs.Scripts.{acts_of, asks_of}
use Rattle.nsi_script.specs.declared.script.Group.{Group}
use Rattle.agent_threads.specs.Bounds.{AreUnder, AreUpTo}
use Rattle.nsi_outside.specs.Stream.{WritesAll}
use Rattle.nsi_primitive.specs.declared.entry.Event.{Event}
use Rattle.run_totals.specs.Totals.{AreWithin, totals_of}
use Rattle.agent_threads.specs.Reports.{written}
use Rattle.agent_threads.specs.Nets.{seats, seats_by, AreNet, AreSame}
use Rattle.nsi_play.specs.Rounds.{events_of}
use Rattle.agent_threads.specs.Stopping.{more_stops, NoneStopped, ArePlayed}
use Rattle.agent_threads.specs.Leaving.{StayOwned}
use Rattle.agent_threads.specs.Promise.{AtShown}
use Rattle.quiet_rounds.specs.Bounded.{IsBounded}
use Rattle.agent_threads.proofs.run.play_all.Given as goal

abbrev pub invariant-loop-group : goal.invariant-loop-group
invariant-loop-group g l = record {
  way : (events : List Event) × AtShown l.fn.nodes.items (acts_of l.play.groups.now) (λ homes tells. ArePlayed homes tells (NoneStopped l.fn.nodes.items l.nodes.items [] events) (more_stops l.fn.nodes.items l.nodes.items) (take l.group-index l.play.groups.now) (seats_by tells l.fn.nodes.items) events l.progress.asks (seats_by tells l.nodes.items))
      × (l.progress.totals ≡ totals_of l.play.topology.now events) × WritesAll (g.K.Sink.content l.fn.out) (g.K.Sink.content l.out) (written l.play.options.report l.play.topology.now events);
  net : AreNet l.nodes.items;
  same : AreSame l.fn.nodes.items l.nodes.items;
  owned : StayOwned l.fn.nodes.items l.nodes.items;
  bounded : IsBounded (seats l.nodes.items);
  stays : (n : List ℕ) → g.B.Reopen.listed l.fn.shelf n ≡ true → g.B.Reopen.listed l.shelf n ≡ true;
  faults : g.B.Reopen.faults l.shelf ≡ g.B.Reopen.faults l.fn.shelf;
  stops : g.B.Reopen.stops l.shelf ≡ g.B.Reopen.stops l.fn.shelf;
  told : events_of (seats l.fn.nodes.items) ≡ [] → events_of (seats l.nodes.items) ≡ [];
  few : AreUnder l.progress.totals.events l.nodes.items;
  clocks : (d : Group) → l.group-index < length l.play.groups.now → AreUpTo (get_or l.play.groups.now l.group-index d).at l.nodes.items;
  asks : l.progress.asks + asks_of (drop l.group-index l.play.groups.now) ≡ asks_of l.play.groups.now;
  within : l.progress.totals.events ≤ l.play.options.limit;
  counts : AreWithin l.progress.totals;
  counted : g.K.Sink.faults l.out ≡ g.K.Sink.faults l.fn.out;
}
