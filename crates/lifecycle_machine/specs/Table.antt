-- The lifecycle machine as a table.
use Rattle.std.specs.Prelude.{Bool, true, false, ◌&&◌, List, [], ◌∷◌, find, Option, Some, None, option_map}
use Rattle.nsi_primitive.specs.declared.kind.Kind.{Kind}
use Rattle.nsi_primitive.specs.declared.state.Lsm.{Lsm}
use Rattle.lifecycle_machine.specs.declared.table.LsmEvent.{LsmEvent}

-- a state and an event, the state that follows, and the message that the move causes, if any
pub record Row : Type 0 where
  pub state : Lsm
  pub event : LsmEvent
  pub next : Lsm
  pub message : Option Kind

abbrev pub row : Lsm → LsmEvent → Lsm → Option Kind → Row
row state event next message = record { state = state; event = event; next = next; message = message }

-- all rows; there is none for any other state and event
abbrev pub table : List Row
table =
    row Lsm.Created LsmEvent.Force Lsm.Failed (Some Kind.ErrorEvent)
    ∷ row Lsm.Created LsmEvent.EndTime Lsm.PassedEndTime None
    ∷ row Lsm.Created LsmEvent.Terminate Lsm.Terminating None
    ∷ row Lsm.Failed LsmEvent.Terminate Lsm.Terminating None
    ∷ row Lsm.PassedEndTime LsmEvent.Terminate Lsm.Terminating None
    ∷ row Lsm.Terminating LsmEvent.Done Lsm.Terminated (Some Kind.TerminateConfirmed)
    ∷ []

-- whether the two are the same state
abbrev pub is_same_state : Lsm → Lsm → Bool
is_same_state Lsm.Created Lsm.Created = true
is_same_state Lsm.Failed Lsm.Failed = true
is_same_state Lsm.PassedEndTime Lsm.PassedEndTime = true
is_same_state Lsm.Terminating Lsm.Terminating = true
is_same_state Lsm.Terminated Lsm.Terminated = true
is_same_state _ _ = false

-- whether the two are the same event
abbrev pub is_same_event : LsmEvent → LsmEvent → Bool
is_same_event LsmEvent.Force LsmEvent.Force = true
is_same_event LsmEvent.EndTime LsmEvent.EndTime = true
is_same_event LsmEvent.Terminate LsmEvent.Terminate = true
is_same_event LsmEvent.Done LsmEvent.Done = true
is_same_event _ _ = false

abbrev pub is_for : Lsm → LsmEvent → Row → Bool
is_for state event r = is_same_state state r.state && is_same_event event r.event

-- the row for a state and an event, where the table has one: what follows, and what is said
unfoldable pub step : Lsm → LsmEvent → Option (Lsm × Option Kind)
step state event = option_map (λ r. (r.next, r.message)) (find (is_for state event) table)
