-- The laws of how many changes of the data plane, and how many messages, are told in runs.
use Rattle.std.specs.Prelude.{ℕ, true, ◌≡◌, ◌≤◌, ◌+◌, ◌*◌}
use Rattle.aggregator_agent.specs.Setting.{Setting}
use Rattle.nsi_agent.specs.Homes.{aggregates}
use Rattle.agent_node.specs.Openings.{agents}
use Rattle.nsi_world.specs.Worlds.{IsAgent}
use Rattle.nsi_world.specs.Runs.{is_requester}
use Rattle.circuit_laws.specs.Laws.{InEveryRun}
use Rattle.run_changes.specs.Told.{AreHeardOnce, changes_by, changes_told, provider_changes_told, messages_told, requests_asked, requests_taken}

-- what an aggregator has heard of changes its children have told it, each counted once
abbrev pub ChangesAreHeardOnce : Type 0
ChangesAreHeardOnce = InEveryRun (λ t homes w. (a : ℕ) (setting : Setting) → IsAgent homes a → (homes a).role ≡ aggregates setting → AreHeardOnce t homes w a)

-- a requester tells none
abbrev pub RequestersTellNone : Type 0
RequestersTellNone = InEveryRun (λ t homes w. (a : ℕ) → IsAgent homes a → is_requester (homes a).role ≡ true → changes_by homes w a ≡ 0)

-- all agents together tell no more than five times as many changes as the providers
abbrev pub ChangesAreFew : Type 0
ChangesAreFew = InEveryRun (λ t homes w. changes_told homes w (agents t) ≤ 5 * provider_changes_told homes w (agents t))

-- all agents together tell no more messages than thirty for each request that one of them has taken, and two for each that one has asked: the
-- request, and that it is late
abbrev pub MessagesAreFew : Type 0
MessagesAreFew = InEveryRun (λ t homes w. messages_told homes w (agents t) ≤ 30 * requests_taken homes w (agents t) + 2 * requests_asked homes w (agents t))
