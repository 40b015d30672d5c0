-- What a record says against what it owes: the measure by which nothing is said twice.
use Rattle.std.specs.Prelude.{ℕ, ◌≡◌, ◌≤◌, ◌+◌, Bool, true, false, not, List, [], ◌∷◌, Option, Some, None, ◌==◌, ◌&&◌, ◌||◌}
use Rattle.nsi_primitive.specs.Kinds.{is_request_kind, kind_number}
use Rattle.nsi_primitive.specs.Messages.{kind_of, named_connection}
use Rattle.nsi_primitive.specs.declared.kind.Kind.{Kind}
use Rattle.nsi_primitive.specs.declared.state.Rsm.{Rsm}
use Rattle.nsi_primitive.specs.declared.state.Psm.{Psm}
use Rattle.nsi_primitive.specs.declared.state.Lsm.{Lsm}
use Rattle.nsi_primitive.specs.declared.message.Body.{Body}
use Rattle.connection_record.specs.declared.record.Record.{Record}
use Rattle.connection_record.specs.declared.moves.Reply.{Reply}
use Rattle.connection_record.specs.declared.moves.ReservationMove.{ReservationMove}
use Rattle.connection_record.specs.declared.provisioning.ProvisionMove.{ProvisionMove}
use Rattle.connection_record.specs.declared.life.LifecycleMove.{LifecycleMove}
use Rattle.connection_record.specs.declared.apply.Move.{Move}
use Rattle.connection_record.specs.Replies.{Moved, id_or}
use Rattle.connection_record.specs.Ids.{is_id}

---- Counts

abbrev pub one : Bool → ℕ
one true = 1
one false = 0

-- how many of a list pass a test
unfoldable pub tally : {X : Type 0} → (X → Bool) → List X → ℕ
tally p [] = 0
tally p (x ∷ xs) = one (p x) + tally p xs

---- What is said

-- the number of a body's kind
unfoldable pub number_of : Body → ℕ
number_of body = kind_number (kind_of body)

abbrev pub is_of : Kind → ℕ → Bool
is_of kind n = n == kind_number kind

-- notifications under an id of their own
abbrev pub is_notice_kind : Kind → Bool
is_notice_kind Kind.ErrorEvent = true
is_notice_kind Kind.DataPlaneStateChange = true
is_notice_kind Kind.MessageDeliveryTimeout = true
is_notice_kind _ = false

unfoldable pub is_asking : Body → Bool
is_asking body = is_request_kind (kind_of body)

unfoldable pub is_noting : Body → Bool
is_noting body = is_notice_kind (kind_of body)

-- all else answers a request, under its correlation
unfoldable pub is_answering : Body → Bool
is_answering body = not (is_asking body || is_noting body)

-- an answer under a correlation, of the kind with a number
abbrev pub answers_as : ℕ → ℕ → Reply → Bool
answers_as c n x = is_answering x.body && ((c == x.correlation) && (n == number_of x.body))

-- a notification under an id
abbrev pub notes_as : ℕ → Reply → Bool
notes_as c x = is_noting x.body && (c == x.correlation)

abbrev pub asks_for : Reply → Bool
asks_for x = is_asking x.body

-- what doesn't name this connection
abbrev pub misnames : ℕ → Reply → Bool
misnames id x = not (is_id (named_connection x.body) id)

---- What is owed

-- the answers that the reservation machine may still give under a correlation: of each kind at most one
unfoldable pub owed_reserve : Rsm → ℕ → ℕ → Record → ℕ
owed_reserve Rsm.ReserveChecking c n r =
    one ((c == id_or r.reserve_request) && (is_of Kind.ReserveConfirmed n || is_of Kind.ReserveFailed n)) + one ((c == id_or r.attempt) && is_of Kind.ReserveTimeout n)
owed_reserve Rsm.ReserveHeld c n r = one ((c == id_or r.attempt) && is_of Kind.ReserveTimeout n)
owed_reserve Rsm.ReserveCommitting c n r = one ((c == id_or r.reserve_request) && (is_of Kind.ReserveCommitConfirmed n || is_of Kind.ReserveCommitFailed n))
owed_reserve Rsm.ReserveAborting c n r = one ((c == id_or r.reserve_request) && is_of Kind.ReserveAbortConfirmed n)
owed_reserve _ c n r = 0

unfoldable pub owed_provision : Psm → ℕ → ℕ → Record → ℕ
owed_provision Psm.Provisioning c n r = one ((c == id_or r.provision_request) && (is_of Kind.ProvisionConfirmed n || is_of Kind.Error n))
owed_provision Psm.Releasing c n r = one ((c == id_or r.provision_request) && (is_of Kind.ReleaseConfirmed n || is_of Kind.Error n))
owed_provision _ c n r = 0

unfoldable pub owed_life : Lsm → ℕ → ℕ → Record → ℕ
owed_life Lsm.Terminating c n r = one ((c == id_or r.lifecycle_request) && is_of Kind.TerminateConfirmed n)
owed_life _ c n r = 0

-- the answers that a record may still give
unfoldable pub owed : ℕ → ℕ → Record → ℕ
owed c n r = owed_reserve r.rsm c n r + (owed_provision r.psm c n r + owed_life r.lsm c n r)

---- What a move begins

-- the request that a move begins
abbrev pub reservation_begins : ReservationMove → Option ℕ
reservation_begins (ReservationMove.Reserve c _) = Some c
reservation_begins (ReservationMove.Commit c) = Some c
reservation_begins (ReservationMove.Abort c) = Some c
reservation_begins _ = None

abbrev pub provision_begins : ProvisionMove → Option ℕ
provision_begins (ProvisionMove.Provision c) = Some c
provision_begins (ProvisionMove.Release c) = Some c
provision_begins _ = None

abbrev pub lifecycle_begins : LifecycleMove → Option ℕ
lifecycle_begins (LifecycleMove.Terminate c) = Some c
lifecycle_begins _ = None

abbrev pub begun_of : Move → Option ℕ
begun_of (Move.Reservation m) = reservation_begins m
begun_of (Move.Provision m) = provision_begins m
begun_of (Move.Lifecycle m) = lifecycle_begins m
begun_of (Move.Close agent) = None

-- how often a move draws an id, for a notification
abbrev pub lifecycle_draws : LifecycleMove → ℕ → ℕ
lifecycle_draws (LifecycleMove.Force d origin) c = one (c == d)
lifecycle_draws _ c = 0

abbrev pub drawn_of : Move → ℕ → ℕ
drawn_of (Move.Lifecycle m) c = lifecycle_draws m c
drawn_of _ c = 0

abbrev pub no_ids : ℕ → ℕ
no_ids c = 0

-- the id under which a change of the data plane is told
abbrev pub drawn_if : Bool → ℕ → ℕ → ℕ
drawn_if told d c = one (told && (c == d))

---- Steps

-- what is said and still owed was owed, or is begun; notifications are said under ids that were drawn for them; a record asks nobody
pub record Speaks (begun : Option ℕ) (drawn : ℕ → ℕ) (r : Record) (x : Moved) : Type 0 where
  pub owner : x.rec.owner ≡ r.owner
  pub answers : (c n : ℕ) → tally (answers_as c n) x.out + owed c n x.rec ≤ owed c n r + one (is_id begun c)
  pub notes : (c : ℕ) → tally (notes_as c) x.out ≤ drawn c
  pub asks : tally asks_for x.out ≡ 0

-- all that is said names the record's connection
pub record Names (r : Record) (x : Moved) : Type 0 where
  pub id : x.rec.id ≡ r.id
  pub names : tally (misnames r.id) x.out ≡ 0
