-- What is known of a request that isn't refused.
use Rattle.std.specs.Prelude.{ℕ, ◌≡◌, true, List, Some, None, slice_get}
use Rattle.nsi_primitive.specs.declared.message.Body.{Body}
use Rattle.nsi_primitive.specs.declared.message.Message.{Message}
use Rattle.connection_record.specs.declared.record.Record.{Record}
use Rattle.connection_record.specs.Moves.{is_live}
use Rattle.connection_record.specs.Refusal.{is_in_place, has_row, modification_refusal, record_refusal, place_of}

-- the connection lives, the request has a place in its life and a row, and what it changes may be changed
pub record IsFitFor (now : ℕ) (body : Body) (r : Record) : Type 0 where
  pub live : is_live r.lsm ≡ true
  pub in_place : is_in_place body r ≡ true
  pub row : has_row body r ≡ true
  pub modification : modification_refusal now body r ≡ None

-- a record with that id, of the sender, which doesn't refuse the request
pub record IsTakenAt (now : ℕ) (m : Message) (records : List Record) (id : ℕ) : Type 0 where
  pub place : ℕ
  pub own : Record
  pub found : place_of id m.header.requester records ≡ Some place
  pub there : slice_get records place ≡ Some own
  pub named : own.id ≡ id
  pub owner : own.owner ≡ m.header.requester
  pub unrefused : record_refusal now m.body own ≡ None
