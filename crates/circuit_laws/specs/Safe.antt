-- When a run is safe.
use Rattle.std.specs.Prelude.{List}
use Rattle.nsi_primitive.specs.declared.entry.Event.{Event}
use Rattle.stp_topology.specs.declared.network.Network.{Network}
use Rattle.nsi_agent.specs.Homes.{Routes, home_in}
use Rattle.nsi_world.specs.Runs.{IsRun}
use Rattle.run_growth.specs.Safe.{InEachWorld, IsSafeAtEachAgent}
use Rattle.circuit_laws.specs.Backed.{EachViewIsBacked, EachViewRises, EachCircuitStands, EachChildLives, NoRecordIsShared, EachCriteriaWasAskedFor}

-- Events that are a run, which is safe: at each agent; and, in each world that a front of them makes, whatever a crash leaves of an agent: what a
-- view has as committed rises and is backed by the agent that it is of, in a record that no other view has; what a record has as committed was asked
-- for by its owner; while a connection lives, so do those of its children; and what an aggregator's record has as committed stands in each network
-- on its way.
pub record IsSafeRun (t : Network) (routes : Routes) (events : List Event) : Type 0 where
  pub run : IsRun (home_in t routes) events
  pub safe : IsSafeAtEachAgent t routes events
  pub backed : InEachWorld events (EachViewIsBacked t (home_in t routes))
  pub rising : InEachWorld events (EachViewRises (home_in t routes))
  pub apart : InEachWorld events (NoRecordIsShared t (home_in t routes))
  pub asked : InEachWorld events (EachCriteriaWasAskedFor (home_in t routes))
  pub living : InEachWorld events (EachChildLives t (home_in t routes))
  pub circuits : InEachWorld events (EachCircuitStands t (home_in t routes))
