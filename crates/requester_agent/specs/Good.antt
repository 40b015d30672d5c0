-- What is true of a requester in every state of every run.
use Rattle.std.specs.Prelude.{◌≡◌, ◌≤◌, ◌+◌, false}
use Rattle.std.specs.List.{All}
use Rattle.std.specs.Str.{bytes_eq}
use Rattle.agent_state.specs.declared.parent.View.{View}
use Rattle.agent_state.specs.State.{AgentState}

-- the points of a view differ
abbrev pub IsApart : View → Type 0
IsApart v = bytes_eq v.child.source v.child.dest ≡ false

-- it has taken no more entries than an agent takes, one id at most was drawn for each, and the points of its views differ
pub record IsGood (s : AgentState) : Type 0 where
  pub most : s.base.taken ≤ 4194304
  pub drawn : s.base.next ≤ s.base.taken + 1
  pub apart : All IsApart s.views
