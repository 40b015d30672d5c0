-- What stays of what an agent has.
use Rattle.std.specs.Prelude.{◌≡◌, ℕ, List, Some, length, take, slice_get}
use Rattle.connection_record.specs.Later.{IsLater}
use Rattle.child_connection.specs.Places.{IsSamePlace}
use Rattle.child_connection.specs.Views.{ChildConnection}
use Rattle.agent_state.specs.declared.parent.View.{View}
use Rattle.agent_state.specs.State.{AgentState}

-- each of the old list is still at its place in the new one, as something that it has become
abbrev pub Stay : {X : Type 0} → (X → X → Type 0) → List X → List X → Type 0
Stay {X} Becomes old new = (n : ℕ) (x : X) → slice_get old n ≡ Some x → (later : X) × (slice_get new n ≡ Some later) × Becomes x later

-- a later form of a view: of the same child, between the same points, with more committed behind what was
pub record IsLaterView (old new : ChildConnection) : Type 0 where
  pub place : IsSamePlace old new
  pub committed : take (length old.committed) new.committed ≡ old.committed

-- a later form of the view of a label
pub record IsLaterOfLabel (old new : View) : Type 0 where
  pub label : new.label ≡ old.label
  pub child : IsLaterView old.child new.child

-- Each record is still at its place, as a later form: its id, its owner and its service are the same, and more is committed behind what
-- was. So is the view of each label, and each view of a record's children.
pub record HasGrown (old new : AgentState) : Type 0 where
  pub records : Stay IsLater old.base.records new.base.records
  pub views : Stay IsLaterOfLabel old.views new.views
  pub children : Stay (Stay IsLaterView) old.children new.children
