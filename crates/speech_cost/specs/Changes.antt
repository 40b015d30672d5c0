-- Changes of the data plane: whether a message tells one, and which of an aggregator's views hear of it.
use Rattle.std.specs.Prelude.{◌≡◌, ◌≤◌, ◌+◌, ◌++◌, ℕ, Bool, true, false, ◌&&◌, List, [], ◌∷◌, Some, sum_by, slice_get}
use Rattle.std.specs.Str.{bytes_eq}
use Rattle.nsi_primitive.specs.declared.entry.Entry.{Entry}
use Rattle.nsi_primitive.specs.declared.entry.Input.{Input}
use Rattle.nsi_primitive.specs.declared.kind.Kind.{Kind}
use Rattle.nsi_primitive.specs.declared.message.Body.{Body}
use Rattle.nsi_primitive.specs.declared.message.Identity.{Identity}
use Rattle.nsi_primitive.specs.declared.message.Message.{Message}
use Rattle.connection_record.specs.Speaking.{tally}
use Rattle.child_connection.specs.Views.{ChildConnection, is_id}
use Rattle.agent_state.specs.State.{AgentState, blank_agent}
use Rattle.aggregator_agent.specs.Steps.{is_seen}
use Rattle.nsi_agent.specs.Homes.{Home}
use Rattle.nsi_agent.specs.Steps.{after}
use Rattle.nsi_agent.specs.Told.{told}

---- What is said

-- that a data plane has changed
abbrev pub is_change : Body → Bool
is_change (Body.DataPlaneStateChange change) = true
is_change body = false

abbrev pub says_change : Message → Bool
says_change m = is_change m.body

abbrev pub is_change_kind : Kind → Bool
is_change_kind Kind.DataPlaneStateChange = true
is_change_kind kind = false

-- whether a message of this identity tells a change
abbrev pub is_of_change : Identity → Bool
is_of_change i = is_change_kind i.kind

---- Who hears of it

-- that the data plane of the connection has changed which the view knows
abbrev pub names_plane : ChildConnection → Body → Bool
names_plane x (Body.DataPlaneStateChange n) = is_id x.connection n.connection
names_plane x body = false

-- the view's child tells that
abbrev pub hears_change : Message → ChildConnection → Bool
hears_change m x = bytes_eq m.header.provider x.child && names_plane x m.body

-- how many of the views of an agent's connections hear of a change by a message that is taken for the first time
abbrev pub hearers_if : (is_old : Bool) → Message → List (List ChildConnection) → ℕ
hearers_if true m all = 0
hearers_if false m all = sum_by (tally (hears_change m)) all

-- the same by an entry
abbrev pub hearers : AgentState → Input → ℕ
hearers s (Input.Got m) = hearers_if (is_seen s m) m s.children
hearers s input = 0

-- the same by entries one after another, each time of the views as they stand when it comes
unfoldable pub hearers_from : Home → AgentState → List Entry → ℕ
hearers_from h s [] = 0
hearers_from h s (e ∷ es) = hearers s e.input + hearers_from h (after h s e).state es

abbrev pub all_hearers : Home → List Entry → ℕ
all_hearers h es = hearers_from h blank_agent es

---- Views of their own

-- a view of an agent's connections, by the places of the connection and of the segment
pub record IsViewAt (s : AgentState) (n i : ℕ) (x : ChildConnection) : Type 0 where
  pub views : List ChildConnection
  pub there : slice_get s.children n ≡ Some views
  pub view : slice_get views i ≡ Some x

-- no two views of one child know one connection
abbrev pub KnowTheirOwn : AgentState → Type 0
KnowTheirOwn s =
    (n i m j id : ℕ) (x y : ChildConnection) → IsViewAt s n i x → IsViewAt s m j y → y.child ≡ x.child → x.connection ≡ Some id → y.connection ≡ Some id →
    (n ≡ m) × (i ≡ j)

-- whatever front of the entries the agent has taken
abbrev pub AlwaysKnowTheirOwn : Home → List Entry → Type 0
AlwaysKnowTheirOwn h es = (fs gs : List Entry) → es ≡ fs ++ gs → KnowTheirOwn (told h fs).state

-- each change that is told was heard, and is told once
pub record IsToldByHearing (old new : AgentState) (out : List Message) : Type 0 where
  pub told : tally says_change out + tally is_of_change old.base.heard ≤ tally is_of_change new.base.heard
