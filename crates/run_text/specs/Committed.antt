-- What a requester knows once it gets the confirmation of a commit.
use Rattle.std.specs.Prelude.{◌≡◌, ℕ, [], ◌∷◌, ◌++◌, Some, None, slice_get}
use Rattle.nsi_primitive.specs.declared.entry.Event.{Event}
use Rattle.nsi_primitive.specs.declared.entry.Happening.{Happening}
use Rattle.nsi_primitive.specs.declared.entry.Input.{Input}
use Rattle.nsi_primitive.specs.declared.kind.Kind.{Kind}
use Rattle.nsi_primitive.specs.declared.message.Body.{Body}
use Rattle.nsi_primitive.specs.declared.message.Header.{Header}
use Rattle.nsi_primitive.specs.declared.message.Message.{Message}
use Rattle.child_connection.specs.Views.{ChildConnection, sent}
use Rattle.agent_state.specs.State.{AgentState}
use Rattle.agent_state.specs.declared.parent.View.{View}
use Rattle.requester_agent.specs.Setting.{Setting as RequesterSetting}
use Rattle.nsi_agent.specs.Homes.{requests}
use Rattle.nsi_agent.specs.Told.{told, WasGot}
use Rattle.nsi_world.specs.Worlds.{Homes, World}
use Rattle.nsi_world.specs.Runs.{IsAllowed, happens}

-- the agent as its journal makes it
abbrev pub state_in : Homes → World → ℕ → AgentState
state_in homes w a = (told (homes a) (w.journal a)).state

-- an agent gets a message
abbrev pub gets : (a second : ℕ) → Message → Event
gets a second m = record { agent = a; what = Happening.Entry (record { second = second; input = Input.Got m }) None }

-- the view has a commit under this header that isn't answered, of the version that is held
pub record AwaitsCommit (h : Header) (x : ChildConnection) (version : ℕ) : Type 0 where
  pub child : x.child ≡ h.provider
  pub asked : x.reserve_request ≡ Some (sent h.correlation Kind.ReserveCommit)
  pub pending : x.pending ≡ Some version

-- the version joins those that the view had as committed, and nothing is asked any more
pub record Commits (x y : ChildConnection) (version : ℕ) : Type 0 where
  pub committed : y.committed ≡ x.committed ++ version ∷ []
  pub pending : y.pending ≡ None
  pub asked : y.reserve_request ≡ None

-- Where a requester gets the confirmation of a commit that it hadn't got before, the view that awaits it has the version as its last
-- committed one then.
abbrev pub ConfirmedIsCommitted : Type 0
ConfirmedIsCommitted =
    (homes : Homes) (w : World) (a second id place version : ℕ) (m : Message) (setting : RequesterSetting) (x : View) → IsAllowed homes w (gets a second m)
    → (homes a).role ≡ requests setting → m.body ≡ Body.ReserveCommitConfirmed id → (WasGot m (w.journal a) → ⊥)
    → slice_get (state_in homes w a).views place ≡ Some x → AwaitsCommit m.header x.child version
    → (y : View) × (slice_get (state_in homes (happens w (gets a second m)) a).views place ≡ Some y) × (y.label ≡ x.label) × Commits x.child y.child version
