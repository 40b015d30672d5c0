-- The laws of what the views of a requester stand for.
use Rattle.std.specs.Prelude.{ℕ, ◌≡◌, Some, Contains}
use Rattle.stp_topology.specs.declared.network.Network.{Network}
use Rattle.agent_state.specs.State.{record_at}
use Rattle.agent_state.specs.declared.parent.View.{View}
use Rattle.connection_record.specs.Refusal.{place_of}
use Rattle.requester_agent.specs.Setting.{Setting}
use Rattle.nsi_agent.specs.Homes.{requests}
use Rattle.nsi_world.specs.Worlds.{Homes, IsAgent, World}
use Rattle.run_growth.specs.Cuts.{IsCutOf, state_of_cut}
use Rattle.circuit_laws.specs.Backed.{IsChildOf, IsBetween}
use Rattle.circuit_laws.specs.Laws.{InEveryRun}

-- Whatever a crash leaves of a requester and of the agent that it asks: that agent's record of a view that knows its connection is between the
-- view's two points.
abbrev pub EachViewIsBetween : Network → Homes → World → Type 0
EachViewIsBetween t homes w =
    (a b k j id place : ℕ) (setting : Setting) (v : View) → IsAgent homes a → (homes a).role ≡ requests setting → IsCutOf w a k →
    Contains (state_of_cut homes w a k).views v → IsChildOf t homes a v.child.child b → IsCutOf w b j → v.child.connection ≡ Some id →
    place_of id (homes a).name (state_of_cut homes w b j).base.records ≡ Some place → IsBetween v.child (record_at place (state_of_cut homes w b j).base.records)

abbrev pub ViewsAreBetween : Type 0
ViewsAreBetween = InEveryRun EachViewIsBetween
