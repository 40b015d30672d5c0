-- What a step of a net leaves.
use Rattle.std.specs.Prelude.{ℕ, ◌≡◌, List, []}
use Rattle.std.specs.List.{All}
use Rattle.nsi_primitive.specs.Printable.{IsPrintableEvent}
use Rattle.nsi_primitive.specs.declared.entry.Event.{Event}
use Rattle.stp_topology.specs.declared.network.Network.{Network}
use Rattle.nsi_agent.specs.Homes.{Routes, AreRoutes, home_in}
use Rattle.agent_node.specs.Kept.{Kept}
use Rattle.nsi_play.specs.Rounds.{events_of}
use Rattle.quiet_rounds.specs.Bounded.{IsBounded}
use Rattle.agent_threads.specs.Nets.{seats, AreOf, AreNet, AreOwned, AreSame}
use Rattle.agent_threads.specs.Bounds.{GoOn}

-- where journals told what made their agents, they tell it still
abbrev pub StayOwned : List Kept → List Kept → Type 0
StayOwned olds news = (t : Network) → AreOf t olds → (routes : Routes) → AreRoutes t routes → AreOwned (home_in t routes) olds → AreOwned (home_in t routes) news

-- The same agents can make a round, and have nothing untold. More events are told, which can be printed, and no clock is further than it
-- was, or than the second. Links that held no more than a round lets through hold no more.
pub record LeavesNet (to : ℕ) (olds news : List Kept) (before events : List Event) : Type 0 where
  pub net : AreNet news
  pub same : AreSame olds news
  pub told : events_of (seats news) ≡ []
  pub printable : All IsPrintableEvent events
  pub further : GoOn to olds news before events
  pub bounded : IsBounded (seats olds) → IsBounded (seats news)
  pub owned : StayOwned olds news
