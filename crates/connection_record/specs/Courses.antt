-- What a record does by itself, move after move, and what is true of it then.
use Rattle.std.specs.Prelude.{ℕ, ◌≡◌, ◌≤◌, ◌+◌, Bool, true, false, List, [], ◌∷◌, Contains, Option, Some, None, ◌⊎◌, ◌==◌, ◌&&◌, if◌then◌else◌}
use Rattle.nsi_primitive.specs.declared.message.Body.{Body}
use Rattle.connection_record.specs.declared.record.Record.{Record}
use Rattle.connection_record.specs.declared.moves.Reply.{Reply}
use Rattle.connection_record.specs.declared.moves.ReservationMove.{ReservationMove}
use Rattle.connection_record.specs.declared.provisioning.ProvisionMove.{ProvisionMove}
use Rattle.connection_record.specs.Replies.{Moved}
use Rattle.connection_record.specs.Rising.{AreRising, IsAboveLast}
use Rattle.connection_record.specs.Moves.{reserves_if}
use Rattle.connection_record.specs.Later.{IsLater}
use Rattle.connection_record.specs.Order.{IsInOrder}
use Rattle.connection_record.specs.Speaking.{tally, is_answering, answers_as, misnames, owed, owed_provision, owed_life, reservation_begins, provision_begins, Speaks, Names}
use Rattle.connection_record.specs.Ids.{is_id}

-- a move that an agent makes by itself begins no request
abbrev pub IsOwn : Option ReservationMove → Type 0
IsOwn None = Unit {0}
IsOwn (Some move) = reservation_begins move ≡ None

abbrev pub IsOwnProvision : Option ProvisionMove → Type 0
IsOwnProvision None = Unit {0}
IsOwnProvision (Some move) = provision_begins move ≡ None

-- two records of which the reservation machine has the same
pub record IsReservationSame (r q : Record) : Type 0 where
  pub rsm : q.rsm ≡ r.rsm
  pub request : q.reserve_request ≡ r.reserve_request
  pub attempt : q.attempt ≡ r.attempt
  pub pending : q.pending ≡ r.pending
  pub committed : q.committed ≡ r.committed

-- the answers among replies, under a correlation
unfoldable pub answering : ℕ → List Reply → List Body
answering c [] = []
answering c (y ∷ ys) = if is_answering y.body && (c == y.correlation) then y.body ∷ answering c ys else answering c ys

-- no machine of the record but that of the reservation owes an answer under the correlation
pub record IsAlone (c : ℕ) (r : Record) : Type 0 where
  pub provision : (n : ℕ) → owed_provision r.psm c n r ≡ 0
  pub life : (n : ℕ) → owed_life r.lsm c n r ≡ 0

-- a move of the reservation machine that begins nothing, or none; what is done besides answers nothing under a correlation that the other machines don't owe
pub record Acts (r : Record) (y : Moved) : Type 0 where
  pub move : Option ReservationMove
  pub now : ℕ
  pub own : IsOwn move
  pub same : IsReservationSame (reserves_if move now r).rec y.rec
  pub says : (c : ℕ) → IsAlone c r → answering c y.out ≡ answering c (reserves_if move now r).out
  pub alone : (c : ℕ) → IsAlone c r → IsAlone c y.rec

-- what the reservation machine takes
unfoldable pub is_reservation_request : Body → Bool
is_reservation_request (Body.Reserve _) = true
is_reservation_request (Body.ReserveCommit _) = true
is_reservation_request (Body.ReserveAbort _) = true
is_reservation_request _ = false

-- what another machine takes under a correlation: the reservation stays, and nothing is said or owed under another correlation that wasn't owed
pub record IsBeside (c : ℕ) (r : Record) (y : Moved) : Type 0 where
  pub same : IsReservationSame r y.rec
  pub says : (b : ℕ) → is_id (Some c) b ≡ false → IsAlone b r → answering b y.out ≡ []
  pub alone : (b : ℕ) → is_id (Some c) b ≡ false → IsAlone b r → IsAlone b y.rec

-- one thing that a record does by itself: it begins no request
pub record IsAct (r : Record) (y : Moved) : Type 0 where
  pub drawn : ℕ → ℕ
  pub acts : Acts r y
  pub speaks : Speaks None drawn r y
  pub names : Names r y
  pub later : IsLater r y.rec
  pub order : IsInOrder r → IsInOrder y.rec

-- the replies of two lists in one, in any order
pub record Merges (xs ys zs : List Reply) : Type 0 where
  pub count : (p : Reply → Bool) → tally p zs ≡ tally p xs + tally p ys
  pub into : (y : Reply) → Contains zs y → Contains xs y ⊎ Contains ys y
  pub left : (y : Reply) → Contains xs y → Contains zs y
  pub right : (y : Reply) → Contains ys y → Contains zs y

-- what a record does by itself, one thing after another, and what it says meanwhile
pub data Course : Record → Record → List Reply → Type 0 where
  rests : (r : Record) → Course r r []
  does : (r : Record) (y : Moved) → IsAct r y → Course r y.rec y.out
  goes_on : (r q p : Record) (xs ys zs : List Reply) → Course r q xs → Course q p ys → Merges xs ys zs → Course r p zs

-- the committed versions rise, and the pending one is above them
pub record Rises (r : Record) : Type 0 where
  pub rising : AreRising r.committed
  pub above : IsAboveLast r.pending r.committed

-- what is true then: what is said and still owed was owed, the versions still rise, and more is committed behind what was
pub record IsAfter (r q : Record) (out : List Reply) : Type 0 where
  pub owes : (c n : ℕ) → tally (answers_as c n) out + owed c n q ≤ owed c n r
  pub names : tally (misnames r.id) out ≡ 0
  pub alone : (c : ℕ) → IsAlone c r → IsAlone c q
  pub rises : Rises r → Rises q
  pub later : IsLater r q
  pub order : IsInOrder r → IsInOrder q
