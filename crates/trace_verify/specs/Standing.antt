-- How agents that are followed stand in a world.
use Rattle.std.specs.Prelude.{◌≡◌, ◌≤◌, ◌<◌, ◌↔◌, ℕ, Bool, true, [], length, Some, slice_get}
use Rattle.std.specs.List.{All}
use Rattle.nsi_primitive.specs.declared.entry.Entry.{Entry}
use Rattle.nsi_primitive.specs.declared.entry.Happening.{Happening}
use Rattle.stp_topology.specs.declared.network.Network.{Network}
use Rattle.trace_reader.specs.Laws.{HasNames}
use Rattle.agent_state.specs.Entries.{most_entries}
use Rattle.nsi_agent.specs.Homes.{Routes, AreRoutes, home_in}
use Rattle.nsi_agent.specs.Told.{told}
use Rattle.followed_agent.specs.Kept.{IsKept}
use Rattle.followed_agent.specs.declared.agent.Followed.{Followed}
use Rattle.nsi_world.specs.Worlds.{Homes, World}
use Rattle.nsi_world.specs.Heard.{IsFair}
use Rattle.nsi_world.specs.Runs.{IsInTime, MayCome, MayHappen, happens_at}
use Rattle.trace_verify.specs.declared.follower.Follower.{Follower}

-- they are all agents of the topology, each at its place
pub record IsFollower (t : Network) (x : Follower) : Type 0 where
  pub many : length x.agents.items ≡ length t.agents
  pub kept : All IsKept x.agents.items
  pub network : (a : ℕ) (f : Followed) → slice_get x.agents.items a ≡ Some f → f.agent.network ≡ t
  pub number : (a : ℕ) (f : Followed) → slice_get x.agents.items a ≡ Some f → f.agent.number ≡ a
  pub names : HasNames t

-- each has the journal that it has in the world, of which as much is synced; and there are no others
pub record Shows (x : Follower) (w : World) : Type 0 where
  pub journal : (a : ℕ) (f : Followed) → slice_get x.agents.items a ≡ Some f → f.journal.items ≡ w.journal a
  pub synced : (a : ℕ) (f : Followed) → slice_get x.agents.items a ≡ Some f → f.synced ≡ w.synced a
  pub others : (a : ℕ) → length x.agents.items ≤ a → w.journal a ≡ []

-- so it is by any legs that are those of the least paths, and in any world in which they stand so and what was heard was sent
abbrev pub Throughout : Network → Follower → (Homes → World → Type 0) → Type 0
Throughout t x P = (routes : Routes) → AreRoutes t routes → (w : World) → Shows x w → IsFair (home_in t routes) w → P (home_in t routes) w

-- there is room for an entry, it is in time, and may come
pub record MayTake (homes : Homes) (w : World) (a : ℕ) (e : Entry) : Type 0 where
  pub room : length (w.journal a) < most_entries
  pub in_time : IsInTime e.input e.second (told (homes a) (w.journal a)).state.base.now
  pub comes : MayCome homes w a e.input

-- it was told whether it may happen, and where it may, it has happened
pub record HasHappened (homes : Homes) (w : World) (a : ℕ) (what : Happening) (new : Follower) (is : Bool) : Type 0 where
  pub tells : (is ≡ true) ↔ MayHappen homes w a what
  pub shows : is ≡ true → Shows new (happens_at w a what)
