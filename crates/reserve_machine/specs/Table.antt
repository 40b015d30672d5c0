-- The reservation machine as a table.
use Rattle.std.specs.Prelude.{Bool, true, false, ◌&&◌, List, [], ◌∷◌, find, Option, Some, None, option_map}
use Rattle.nsi_primitive.specs.declared.kind.Kind.{Kind}
use Rattle.nsi_primitive.specs.declared.state.Rsm.{Rsm}
use Rattle.reserve_machine.specs.declared.table.RsmEvent.{RsmEvent}

-- a state and an event, the state that follows, and the message that the move causes, if any
pub record Row : Type 0 where
  pub state : Rsm
  pub event : RsmEvent
  pub next : Rsm
  pub message : Option Kind

abbrev pub row : Rsm → RsmEvent → Rsm → Option Kind → Row
row state event next message = record { state = state; event = event; next = next; message = message }

-- all rows; there is none for any other state and event
abbrev pub table : List Row
table =
    row Rsm.ReserveStart RsmEvent.Reserve Rsm.ReserveChecking (Some Kind.ReserveResponse)
    ∷ row Rsm.ReserveChecking RsmEvent.Fit Rsm.ReserveHeld (Some Kind.ReserveConfirmed)
    ∷ row Rsm.ReserveChecking RsmEvent.Lack Rsm.ReserveFailed (Some Kind.ReserveFailed)
    ∷ row Rsm.ReserveHeld RsmEvent.Commit Rsm.ReserveCommitting None
    ∷ row Rsm.ReserveHeld RsmEvent.Abort Rsm.ReserveAborting None
    ∷ row Rsm.ReserveHeld RsmEvent.HoldEnd Rsm.ReserveTimeout (Some Kind.ReserveTimeout)
    ∷ row Rsm.ReserveFailed RsmEvent.Abort Rsm.ReserveAborting None
    ∷ row Rsm.ReserveTimeout RsmEvent.Abort Rsm.ReserveAborting None
    ∷ row Rsm.ReserveCommitting RsmEvent.Done Rsm.ReserveStart (Some Kind.ReserveCommitConfirmed)
    ∷ row Rsm.ReserveCommitting RsmEvent.Spoiled Rsm.ReserveStart (Some Kind.ReserveCommitFailed)
    ∷ row Rsm.ReserveAborting RsmEvent.Freed Rsm.ReserveStart (Some Kind.ReserveAbortConfirmed)
    ∷ []

-- whether the two are the same state
abbrev pub is_same_state : Rsm → Rsm → Bool
is_same_state Rsm.ReserveStart Rsm.ReserveStart = true
is_same_state Rsm.ReserveChecking Rsm.ReserveChecking = true
is_same_state Rsm.ReserveFailed Rsm.ReserveFailed = true
is_same_state Rsm.ReserveHeld Rsm.ReserveHeld = true
is_same_state Rsm.ReserveCommitting Rsm.ReserveCommitting = true
is_same_state Rsm.ReserveTimeout Rsm.ReserveTimeout = true
is_same_state Rsm.ReserveAborting Rsm.ReserveAborting = true
is_same_state _ _ = false

-- whether the two are the same event
abbrev pub is_same_event : RsmEvent → RsmEvent → Bool
is_same_event RsmEvent.Reserve RsmEvent.Reserve = true
is_same_event RsmEvent.Fit RsmEvent.Fit = true
is_same_event RsmEvent.Lack RsmEvent.Lack = true
is_same_event RsmEvent.Commit RsmEvent.Commit = true
is_same_event RsmEvent.Abort RsmEvent.Abort = true
is_same_event RsmEvent.HoldEnd RsmEvent.HoldEnd = true
is_same_event RsmEvent.Done RsmEvent.Done = true
is_same_event RsmEvent.Spoiled RsmEvent.Spoiled = true
is_same_event RsmEvent.Freed RsmEvent.Freed = true
is_same_event _ _ = false

abbrev pub is_for : Rsm → RsmEvent → Row → Bool
is_for state event r = is_same_state state r.state && is_same_event event r.event

-- the row for a state and an event, where the table has one: what follows, and what is said
unfoldable pub step : Rsm → RsmEvent → Option (Rsm × Option Kind)
step state event = option_map (λ r. (r.next, r.message)) (find (is_for state event) table)
