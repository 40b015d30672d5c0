-- The laws of confirmed commits, in every run.
use Rattle.std.specs.Prelude.{ℕ, List}
use Rattle.nsi_primitive.specs.declared.entry.Event.{Event}
use Rattle.nsi_primitive.specs.declared.message.Message.{Message}
use Rattle.stp_topology.specs.Laws.{IsWellFormed}
use Rattle.stp_topology.specs.Sound.{IsSound}
use Rattle.stp_topology.specs.declared.network.Network.{Network}
use Rattle.nsi_agent.specs.Homes.{AreRoutes, Routes, home_in}
use Rattle.nsi_world.specs.Worlds.{empty}
use Rattle.nsi_world.specs.Runs.{AreAllowed, world_after}
use Rattle.circuit_laws.specs.Laws.{InEveryRun}
use Rattle.known_commits.specs.Awaited.{EachConfirmationIsAwaited, EachConfirmationIsKnown, IsFirstConfirmation}

-- in each world of every run, the first confirmation of a commit that a requester gets is awaited by just one of its views
abbrev pub ConfirmationsAreAwaited : Type 0
ConfirmationsAreAwaited = InEveryRun EachConfirmationIsAwaited

-- so what is printed as got is what is known: it puts a version, the one that was pending, behind those that one of its views has as committed
abbrev pub ConfirmationsAreKnown : Type 0
ConfirmationsAreKnown = InEveryRun EachConfirmationIsKnown

---- There are first confirmations

-- a run of a topology that a text gives, over the legs of its least paths, behind which a requester may get one
pub record IsConfirmingRun (t : Network) (routes : Routes) (events : List Event) : Type 0 where
  pub sound : IsSound t
  pub formed : IsWellFormed t
  pub routed : AreRoutes t routes
  pub allowed : AreAllowed (home_in t routes) empty events
  pub agent : ℕ
  pub second : ℕ
  pub message : Message
  pub confirmation : IsFirstConfirmation (home_in t routes) (world_after empty events) agent second message

abbrev pub ConfirmationsAreReached : Type 0
ConfirmationsAreReached = (t : Network) × (routes : Routes) × (events : List Event) × IsConfirmingRun t routes events
