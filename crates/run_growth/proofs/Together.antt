-- What each agent keeps, together.
use Rattle.std.proofs.Common.{◌≡◌, List, ◌++◌, subst}
use Rattle.nsi_primitive.specs.declared.entry.Event.{Event}
use Rattle.stp_topology.specs.declared.network.Network.{Network}
use Rattle.nsi_agent.specs.Homes.{Routes, home_in}
use Rattle.nsi_world.specs.Worlds.{empty}
use Rattle.nsi_world.specs.Runs.{AreAllowed}
use Rattle.run_growth.specs.Laws.{RunsAreCapped, RunsAreHonest, NothingElseRefuses, RunsAreRising, SyncedStays}
use Rattle.run_growth.proofs.Worlds.{allowed_front}
use Rattle.run_growth.specs.SafeLaws.{EveryRunIsSafe}

-- the laws of runs
pub record AreLaws : Type 0 where
  pub capped : RunsAreCapped
  pub checks : RunsAreHonest
  pub alone : NothingElseRefuses
  pub rise : RunsAreRising
  pub stay : SyncedStays

-- each front of events that are allowed is allowed
front_run : (t : Network) (routes : Routes) (events earlier later : List Event) → AreAllowed (home_in t routes) empty events → events ≡ earlier ++ later → AreAllowed (home_in t routes) empty earlier
front_run t routes events earlier later run e = allowed_front (home_in t routes) empty earlier later (subst (AreAllowed (home_in t routes) empty) e run)

pub every_run_is_safe : AreLaws → EveryRunIsSafe
every_run_is_safe laws t routes events run =
    record {
      capped = λ earlier later e. laws.capped t routes earlier (front_run t routes events earlier later run e);
      rising = λ earlier later e. laws.rise (home_in t routes) earlier (front_run t routes events earlier later run e);
      stays = λ earlier middle later e. laws.stay (home_in t routes) earlier middle (front_run t routes events (earlier ++ middle) later run e);
      honest = λ earlier later e. laws.checks t routes earlier (front_run t routes events earlier later run e);
      alone = λ earlier later e. laws.alone t routes earlier (front_run t routes events earlier later run e);
    }
