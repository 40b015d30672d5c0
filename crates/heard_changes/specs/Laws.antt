-- The laws of changes of the data plane that aggregators tell in runs.
use Rattle.std.specs.Prelude.{ℕ, ◌≡◌, ◌≤◌}
use Rattle.connection_record.specs.Speaking.{tally}
use Rattle.aggregator_agent.specs.Setting.{Setting}
use Rattle.nsi_agent.specs.Homes.{aggregates}
use Rattle.nsi_world.specs.Worlds.{Homes, IsAgent, World}
use Rattle.run_growth.specs.WorldCuts.{told_to}
use Rattle.circuit_laws.specs.Laws.{InEveryRun}
use Rattle.speech_cost.specs.Changes.{says_change, is_of_change, KnowTheirOwn}

-- by whatever front of its journal: no two views that an aggregator has of one child know one connection
abbrev pub EachFrontIsApart : Homes → World → Type 0
EachFrontIsApart homes w = (a k : ℕ) (setting : Setting) → IsAgent homes a → (homes a).role ≡ aggregates setting → KnowTheirOwn (told_to homes w a k).state

-- and it tells no more changes than it has heard
abbrev pub EachChangeIsHeard : Homes → World → Type 0
EachChangeIsHeard homes w =
    (a k : ℕ) (setting : Setting) → IsAgent homes a → (homes a).role ≡ aggregates setting →
    tally says_change (told_to homes w a k).out ≤ tally is_of_change (told_to homes w a k).state.base.heard

abbrev pub ViewsAreApart : Type 0
ViewsAreApart = InEveryRun (λ t homes w. EachFrontIsApart homes w)

abbrev pub ChangesAreHeard : Type 0
ChangesAreHeard = InEveryRun (λ t homes w. EachChangeIsHeard homes w)
