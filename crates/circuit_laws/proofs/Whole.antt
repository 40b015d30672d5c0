-- The laws of runs, together.
use Rattle.std.proofs.Common.{◌≡◌, List, [], ◌∷◌, ◌++◌, refl, subst}
use Rattle.nsi_primitive.specs.declared.entry.Event.{Event}
use Rattle.stp_topology.specs.declared.network.Network.{Network}
use Rattle.nsi_agent.specs.Homes.{Routes, home_in}
use Rattle.nsi_world.specs.Worlds.{World, empty}
use Rattle.nsi_world.specs.Runs.{world_after, AreAllowed, asks_of, numbered}
use Rattle.run_growth.proofs.Worlds.{allowed_front}
use Rattle.run_growth.specs.SafeLaws.{EveryRunIsSafe as EachAgentIsSafe}
use Rattle.run_growth.specs.Safe.{InEachWorld}
use Rattle.circuit_laws.specs.Backed.{EachViewIsBacked, EachViewRises, EachCircuitStands, EachChildLives, NoRecordIsShared, EachCriteriaWasAskedFor}
use Rattle.circuit_laws.specs.Laws.{RunsAreBacked, ViewsRise, RecordsAreApart, CriteriaWereAskedFor, ChildrenLive, CircuitsStand}
use Rattle.circuit_laws.proofs.Nothing.{nothing_is_unbacked, nothing_falls, no_circuit_lacks, no_child_ends, nothing_is_shared, nothing_lacks_an_ask}
use Rattle.circuit_laws.specs.SafeLaws.{EveryRunIsSafe, NothingIsSafe}

-- the laws of runs
pub record AreLaws : Type 0 where
  pub safe : EachAgentIsSafe
  pub backed : RunsAreBacked
  pub rising : ViewsRise
  pub apart : RecordsAreApart
  pub asked : CriteriaWereAskedFor
  pub living : ChildrenLive
  pub circuits : CircuitsStand

pub every_run_is_safe : AreLaws → EveryRunIsSafe
every_run_is_safe laws t routes events sound formed routed run =
    record {
      run = run;
      safe = laws.safe t routes events run.allowed;
      backed = λ earlier later e. laws.backed t routes earlier sound formed routed (front earlier later e);
      rising = λ earlier later e. laws.rising t routes earlier sound formed routed (front earlier later e);
      apart = λ earlier later e. laws.apart t routes earlier sound formed routed (front earlier later e);
      asked = λ earlier later e. laws.asked (home_in t routes) earlier (front earlier later e);
      living = λ earlier later e. laws.living t routes earlier sound formed routed (front earlier later e);
      circuits = λ earlier later e. laws.circuits t routes earlier sound formed routed (front earlier later e);
    }
  where
    -- each front of events that are allowed is allowed
    front : (earlier later : List Event) → events ≡ earlier ++ later → AreAllowed (home_in t routes) empty earlier
    front earlier later e = allowed_front (home_in t routes) empty earlier later (subst (AreAllowed (home_in t routes) empty) e run.allowed)

---- No events

nothing_allowed : (t : Network) (routes : Routes) → AreAllowed (home_in t routes) empty []
unfolding AreAllowed
nothing_allowed t routes = tt

nothing_asked : asks_of [] ≡ numbered 0 []
unfolding asks_of numbered
nothing_asked = refl

in_no_world : (Holds : World → Type 0) → Holds empty → InEachWorld [] Holds
unfolding world_after
in_no_world Holds h [] later e = h
in_no_world Holds h (x ∷ earlier) later e = absurd (cc)

pub nothing_is_safe : EachAgentIsSafe → NothingIsSafe
nothing_is_safe safe t routes =
    record {
      run = record { allowed = nothing_allowed t routes; wishes = []; asked = nothing_asked };
      safe = safe t routes [] (nothing_allowed t routes);
      backed = in_no_world (EachViewIsBacked t (home_in t routes)) (nothing_is_unbacked t (home_in t routes));
      rising = in_no_world (EachViewRises (home_in t routes)) (nothing_falls (home_in t routes));
      apart = in_no_world (NoRecordIsShared t (home_in t routes)) (nothing_is_shared t (home_in t routes));
      asked = in_no_world (EachCriteriaWasAskedFor (home_in t routes)) (nothing_lacks_an_ask (home_in t routes));
      living = in_no_world (EachChildLives t (home_in t routes)) (no_child_ends t (home_in t routes));
      circuits = in_no_world (EachCircuitStands t (home_in t routes)) (no_circuit_lacks t (home_in t routes));
    }
