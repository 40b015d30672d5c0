-- What the bridge is given: the topology's names, and the laws of the agents.
use Rattle.std.proofs.Common.{ℕ, ◌≡◌, List, Some}
use Rattle.nsi_agent.specs.Said.{name_in}
use Rattle.nsi_agent.specs.Laws.{WhatIsSaidIsItsOwn, RequestsAreDrawnOnce}
use Rattle.nsi_world.specs.Agents.{CausedIsPrintable}
use Rattle.nsi_world.specs.Worlds.{Homes}

-- the laws of the agents
pub record AreLaws : Type 0 where
  pub own : WhatIsSaidIsItsOwn
  pub once : RequestsAreDrawnOnce
  pub printable : CausedIsPrintable

-- names lead to numbers and back, and each agent speaks under its own
pub record Given (homes : Homes) : Type 0 where
  pub leads : (a b : ℕ) → (homes a).agent_of ≡ (homes b).agent_of
  pub back : (a b : ℕ) (name : List ℕ) → (homes a).agent_of name ≡ Some b → (homes b).name ≡ name
  pub named : (a : ℕ) → name_in (homes a).role ≡ (homes a).name
  pub laws : AreLaws
