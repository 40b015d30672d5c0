-- The provision machine as a table.
use Rattle.std.specs.Prelude.{Bool, true, false, ◌&&◌, List, [], ◌∷◌, find, Option, Some, None, option_map}
use Rattle.nsi_primitive.specs.declared.kind.Kind.{Kind}
use Rattle.nsi_primitive.specs.declared.state.Psm.{Psm}
use Rattle.nsi_primitive.specs.declared.state.Side.{Side}
use Rattle.provision_machine.specs.declared.table.PsmEvent.{PsmEvent}

-- the side that has the row, where it isn't a row of both; a state and an event, the state that follows, and the message that the move causes, if any
pub record Row : Type 0 where
  pub only : Option Side
  pub state : Psm
  pub event : PsmEvent
  pub next : Psm
  pub message : Option Kind

-- a row of both sides
abbrev pub row : Psm → PsmEvent → Psm → Option Kind → Row
row state event next message = record { only = None; state = state; event = event; next = next; message = message }

-- a row of one side only
abbrev pub row_of : Side → Psm → PsmEvent → Psm → Option Kind → Row
row_of side state event next message = record { only = Some side; state = state; event = event; next = next; message = message }

-- all rows; there is none for any other state and event of a side
abbrev pub table : List Row
table =
    row Psm.Released PsmEvent.Provision Psm.Provisioning None
    ∷ row Psm.Provisioning PsmEvent.Done Psm.Provisioned (Some Kind.ProvisionConfirmed)
    ∷ row Psm.Provisioned PsmEvent.Release Psm.Releasing None
    ∷ row Psm.Releasing PsmEvent.Done Psm.Released (Some Kind.ReleaseConfirmed)
    ∷ row Psm.Provisioning PsmEvent.Spoiled Psm.Released (Some Kind.Error)
    ∷ row Psm.Releasing PsmEvent.Spoiled Psm.Released (Some Kind.Error)
    ∷ row_of Side.Provider Psm.Provisioned PsmEvent.Provision Psm.Provisioned (Some Kind.ProvisionConfirmed)
    ∷ row_of Side.Provider Psm.Released PsmEvent.Release Psm.Released (Some Kind.ReleaseConfirmed)
    ∷ row_of Side.Aggregator Psm.Provisioned PsmEvent.Provision Psm.Provisioning None
    ∷ row_of Side.Aggregator Psm.Released PsmEvent.Release Psm.Releasing None
    ∷ []

-- whether the two are the same side
abbrev pub is_same_side : Side → Side → Bool
is_same_side Side.Provider Side.Provider = true
is_same_side Side.Aggregator Side.Aggregator = true
is_same_side _ _ = false

-- whether the two are the same state
abbrev pub is_same_state : Psm → Psm → Bool
is_same_state Psm.Released Psm.Released = true
is_same_state Psm.Provisioning Psm.Provisioning = true
is_same_state Psm.Provisioned Psm.Provisioned = true
is_same_state Psm.Releasing Psm.Releasing = true
is_same_state _ _ = false

-- whether the two are the same event
abbrev pub is_same_event : PsmEvent → PsmEvent → Bool
is_same_event PsmEvent.Provision PsmEvent.Provision = true
is_same_event PsmEvent.Release PsmEvent.Release = true
is_same_event PsmEvent.Done PsmEvent.Done = true
is_same_event PsmEvent.Spoiled PsmEvent.Spoiled = true
is_same_event _ _ = false

-- whether a row that is of one side only, if it is, is of this side
abbrev pub is_of : Side → Option Side → Bool
is_of side None = true
is_of side (Some only) = is_same_side side only

abbrev pub is_for : Side → Psm → PsmEvent → Row → Bool
is_for side state event r = is_of side r.only && (is_same_state state r.state && is_same_event event r.event)

-- the row of a side for a state and an event, where the table has one: what follows, and what is said
unfoldable pub step : Side → Psm → PsmEvent → Option (Psm × Option Kind)
step side state event = option_map (λ r. (r.next, r.message)) (find (is_for side state event) table)
