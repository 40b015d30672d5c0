-- What is committed stands from end to end in each world of a run, and where nothing has happened.
use Rattle.std.proofs.Common.{ℕ, zero, suc, ◌≡◌, List, [], ◌∷◌, ◌++◌, Some, slice_get, subst, arith}
use Rattle.nsi_primitive.specs.declared.entry.Event.{Event}
use Rattle.stp_topology.specs.declared.network.Network.{Network}
use Rattle.nsi_agent.specs.Homes.{home_in}
use Rattle.nsi_agent.specs.Told.{goes_on}
use Rattle.nsi_world.specs.Worlds.{Homes, World, empty}
use Rattle.nsi_world.specs.Runs.{world_after, AreAllowed}
use Rattle.run_growth.specs.Safe.{InEachWorld}
use Rattle.run_growth.proofs.Worlds.{allowed_front}
use Rattle.end_to_end.specs.Laws.{ConnectionsStand, VersionsAreKnown, EveryRunStands, NothingStands}
use Rattle.end_to_end.specs.Stands.{EachConnectionStands, EachVersionIsKnown}

pub every_run_stands : ConnectionsStand → VersionsAreKnown → EveryRunStands
every_run_stands connections versions t routes events sound formed routed run =
    record {
      connections = λ earlier later e. connections t routes earlier sound formed routed (front earlier later e);
      versions = λ earlier later e. versions t routes earlier sound formed routed (front earlier later e);
    }
  where
    -- each front of events that are allowed is allowed
    front : (earlier later : List Event) → events ≡ earlier ++ later → AreAllowed (home_in t routes) empty earlier
    front earlier later e = allowed_front (home_in t routes) empty earlier later (subst (AreAllowed (home_in t routes) empty) e run.allowed)

---- No events

none_there : {X : Type 0} (n : ℕ) (x : X) → slice_get [] n ≡ Some x → ⊥
none_there n x e = cc

no_connection : (t : Network) (homes : Homes) → EachConnectionStands t homes empty
unfolding goes_on
no_connection t homes a zero n setting own c agent role cut here there = absurd (none_there n own here)
no_connection t homes a (suc k) n setting own c agent role cut here there = absurd (let w = cut.within in omega (arith, w))

no_version : (t : Network) (homes : Homes) → EachVersionIsKnown t homes empty
unfolding goes_on
no_version t homes a zero i v setting x agent role cut here there = absurd (none_there i x here)
no_version t homes a (suc k) i v setting x agent role cut here there = absurd (let w = cut.within in omega (arith, w))

in_no_world : (Holds : World → Type 0) → Holds empty → InEachWorld [] Holds
unfolding world_after
in_no_world Holds h [] later e = h
in_no_world Holds h (x ∷ earlier) later e = absurd (cc)

pub nothing_stands : NothingStands
nothing_stands t routes =
    record {
      connections = in_no_world (EachConnectionStands t (home_in t routes)) (no_connection t (home_in t routes));
      versions = in_no_world (EachVersionIsKnown t (home_in t routes)) (no_version t (home_in t routes));
    }
