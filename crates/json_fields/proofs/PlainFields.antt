-- Objects that are made of fields are plain.
use Rattle.std.proofs.Common.{◌≡◌, ◌≤◌, ◌<◌, ◌^◌, ℕ, List, [], ◌∷◌, false, true, Option, Some, None, IfSome, refl, arith}
use Rattle.std.specs.List.{AllByRecursion}
use Rattle.std.specs.Str.{IsUtf8}
use Rattle.json.proofs.Printed.Utf8.{are_ascii, IsUtf8-are_ascii}
use Rattle.serde_json.specs.Data.{Data, array, object, Members, no_members, depth}
use Rattle.serde_json.specs.View.{items_of}
use Rattle.serde_json.specs.Written.{has_float, compact_text}
use Rattle.json_fields.specs.Fields.{json_of}
use Rattle.json_fields.specs.Keys.{name_of}
use Rattle.json_fields.specs.Objects.{Scalar, digits, words, flag, scalar_data, Field, with_value, with_fields}
use Rattle.json_fields.specs.Written.{with_rows}
use Rattle.json_fields.specs.declared.key.Key.{Key}
use Rattle.json_fields.proofs.RowLists.{IsFlatRow, IsWithin, within_put, rows_shallow, rows_exact}
use Rattle.json_fields.proofs.Spelled.{IsPlain, ArePlainItems, ArePlain, AreInOrder, order_put, plain_put, spelled_again}

ascii_name : (key : Key) → are_ascii (name_of key) ≡ true
unfolding name_of
ascii_name Key.Active = refl
ascii_name Key.Capacity = refl
ascii_name Key.Child = refl
ascii_name Key.ChildErrorId = refl
ascii_name Key.ConnectionId = refl
ascii_name Key.CorrelationId = refl
ascii_name Key.DeliveryCorrelationId = refl
ascii_name Key.Depth = refl
ascii_name Key.Description = refl
ascii_name Key.DestStp = refl
ascii_name Key.Direction = refl
ascii_name Key.Directionality = refl
ascii_name Key.EndNotificationId = refl
ascii_name Key.EndResultId = refl
ascii_name Key.EndTime = refl
ascii_name Key.Ero = refl
ascii_name Key.ErrorId = refl
ascii_name Key.Event = refl
ascii_name Key.Fault = refl
ascii_name Key.GlobalReservationId = refl
ascii_name Key.Key = refl
ascii_name Key.Kind = refl
ascii_name Key.LifecycleState = refl
ascii_name Key.Line = refl
ascii_name Key.Load = refl
ascii_name Key.More = refl
ascii_name Key.NotificationId = refl
ascii_name Key.Notifications = refl
ascii_name Key.NsaId = refl
ascii_name Key.Of = refl
ascii_name Key.OriginatingConnectionId = refl
ascii_name Key.OriginatingNsa = refl
ascii_name Key.ProviderNsa = refl
ascii_name Key.ProvisionState = refl
ascii_name Key.RequesterNsa = refl
ascii_name Key.ReservationState = refl
ascii_name Key.Reservations = refl
ascii_name Key.ResultId = refl
ascii_name Key.Results = refl
ascii_name Key.Second = refl
ascii_name Key.SourceStp = refl
ascii_name Key.StartNotificationId = refl
ascii_name Key.StartResultId = refl
ascii_name Key.StartTime = refl
ascii_name Key.Stp = refl
ascii_name Key.SymmetricPath = refl
ascii_name Key.TimeStamp = refl
ascii_name Key.TimeoutValue = refl
ascii_name Key.Version = refl
ascii_name Key.VersionConsistent = refl

pub name_text : (key : Key) → IsUtf8 (name_of key)
name_text key = IsUtf8-are_ascii (name_of key) (ascii_name key)

-- numbers of 64 bits, and texts in UTF-8
abbrev pub IsPlainScalar : Scalar → Type 0
IsPlainScalar (digits n) = n < 2 ^ 64
IsPlainScalar (words text) = IsUtf8 text
IsPlainScalar (flag b) = Unit {0}

abbrev pub IsPlainField : Field → Type 0
IsPlainField f = IfSome f.1 IsPlainScalar

plain_scalar : (s : Scalar) → IsPlainScalar s → IsPlain (scalar_data s)
plain_scalar (digits n) h = h
plain_scalar (words text) h = h
plain_scalar (flag b) h = tt

low_scalar : (s : Scalar) → depth (scalar_data s) ≤ 0
low_scalar (digits n) = omega arith
low_scalar (words text) = omega arith
low_scalar (flag b) = omega arith

exact_scalar : (s : Scalar) → has_float (scalar_data s) ≡ false
exact_scalar (digits n) = refl
exact_scalar (words text) = refl
exact_scalar (flag b) = refl

-- plain members in order, not deeper than this
pub record ArePlainWithin (most : ℕ) (ms : Members) : Type 0 where
  pub plain : ArePlain ms
  pub order : AreInOrder ms
  pub within : IsWithin most ms

pub plain_value : (key : Key) (o : Option Scalar) (ms : Members) → IfSome o IsPlainScalar → ArePlainWithin 0 ms → ArePlainWithin 0 (with_value key o ms)
plain_value key None ms h p = p
plain_value key (Some s) ms h p = record {
  plain = plain_put (name_of key) (scalar_data s) ms (name_text key) (plain_scalar s h) p.plain;
  order = order_put (name_of key) (scalar_data s) ms p.order;
  within = within_put 0 (name_of key) (scalar_data s) ms (low_scalar s) (exact_scalar s) p.within;
}

with_plain : (fs : List Field) (ms : Members) → AllByRecursion IsPlainField fs → ArePlainWithin 0 ms → ArePlainWithin 0 (with_fields ms fs)
unfolding with_fields
with_plain [] ms h p = p
with_plain (f ∷ fs) ms h p = with_plain fs (with_value f.0 f.1 ms) h.1 (plain_value f.0 f.1 ms h.0 p)

pub none_plain : ArePlainWithin 0 no_members
none_plain = record { plain = tt; order = tt; within = record { shallow = omega arith; exact = refl } }

pub plain_fields : (fs : List Field) → AllByRecursion IsPlainField fs → ArePlainWithin 0 (with_fields no_members fs)
plain_fields fs h = with_plain fs no_members h none_plain

---- Rows

pub record IsPlainRow (d : Data) : Type 0 where
  pub plain : IsPlain d
  pub flat : IsFlatRow d

pub plain_row : (fs : List Field) → AllByRecursion IsPlainField fs → IsPlainRow (object (with_fields no_members fs))
plain_row fs h =
    let p = plain_fields fs h in
    let low = p.within.shallow in
    record { plain = (p.plain, p.order); flat = record { shallow = omega (arith, low); exact = p.within.exact } }

plain_items : (rows : List Data) → AllByRecursion IsPlainRow rows → ArePlainItems (items_of rows)
plain_items [] h = tt
plain_items (d ∷ ds) h = (h.0.plain, plain_items ds h.1)

flat_rows : (rows : List Data) → AllByRecursion IsPlainRow rows → AllByRecursion IsFlatRow rows
flat_rows [] h = tt
flat_rows (d ∷ ds) h = (h.0.flat, flat_rows ds h.1)

pub wider : (ms : Members) → ArePlainWithin 0 ms → ArePlainWithin 2 ms
wider ms p = let low = p.within.shallow in record { plain = p.plain; order = p.order; within = record { shallow = omega (arith, low); exact = p.within.exact } }

pub plain_rows : (key : Key) (rows : List Data) (ms : Members) → AllByRecursion IsPlainRow rows → ArePlainWithin 0 ms → ArePlainWithin 2 (with_rows key rows ms)
plain_rows key rows ms each p =
    let flat = flat_rows rows each in
    let low = rows_shallow rows flat in
    record {
      plain = plain_put (name_of key) (array (items_of rows)) ms (name_text key) (plain_items rows each) p.plain;
      order = order_put (name_of key) (array (items_of rows)) ms p.order;
      within = within_put 2 (name_of key) (array (items_of rows)) ms (omega (arith, low)) (rows_exact rows flat) (wider ms p).within;
    }

-- the text of such an object reads as it
pub object_spelled : (ms : Members) → ArePlainWithin 2 ms → json_of (compact_text (object ms)) ≡ Some (object ms)
object_spelled ms p = let low = p.within.shallow in spelled_again (object ms) (p.plain, p.order) (omega (arith, low))
