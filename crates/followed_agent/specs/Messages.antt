-- Messages that are kept, and how one is found by its text.
use Rattle.std.specs.Prelude.{◌≡◌, ◌<◌, ℕ, if◌then◌else◌, List, length, Option, Some, None, Ok, slice_get}
use Rattle.std.specs.List.{All, Contains}
use Rattle.nsi_primitive.specs.Messages.{identity}
use Rattle.nsi_primitive.specs.Printable.{IsPrintable}
use Rattle.nsi_primitive.specs.declared.message.Identity.{Identity}
use Rattle.nsi_primitive.specs.declared.message.Message.{Message}
use Rattle.nsi_primitive.specs.declared.message.Parcel.{Parcel}
use Rattle.json_primitives.specs.Lines.{object_of}
use Rattle.json_primitives.specs.Spelling.{spelling}
use Rattle.message_retry.specs.Retry.{is_same_identity}
use Rattle.id_index.specs.declared.IdPlace.{IdPlace}
use Rattle.followed_agent.specs.declared.messages.Messages.{Messages}

-- each of the first so many messages is found by its correlationId
abbrev pub AreFound : List IdPlace → ℕ → List Message → Type 0
AreFound places n ms = (p : ℕ) (m : Message) → p < n → slice_get ms p ≡ Some m → Contains places (record { id = m.header.correlation; place = p })

-- the messages can be printed, and each is found
pub record IsIndexed (x : Messages) : Type 0 where
  pub printable : All IsPrintable x.messages.items
  pub found : AreFound x.places (length x.messages.items) x.messages.items

-- the message is what its line says
abbrev pub IsReadAgain : Message → Type 0
IsReadAgain m = object_of (spelling m) ≡ Ok (Parcel.Message m)

-- one of the messages, of that text
pub record IsFoundIn (ms : List Message) (text : List ℕ) (m : Message) : Type 0 where
  pub there : Contains ms m
  pub printable : IsPrintable m
  pub spelled : spelling m ≡ text
  pub again : object_of text ≡ Ok (Parcel.Message m)

-- one of that identity and that text stands at the place
pub record StandsAt (ms : List Message) (i : Identity) (text : List ℕ) (place : ℕ) : Type 0 where
  pub message : Message
  pub stands : slice_get ms place ≡ Some message
  pub same : identity message ≡ i
  pub spelled : spelling message ≡ text

-- the one at the place, where there is one, is what its line says
abbrev pub IsReadAgainAt : List Message → ℕ → Type 0
IsReadAgainAt ms place = (m : Message) → slice_get ms place ≡ Some m → IsReadAgain m

-- a message, where it is of that identity
abbrev pub if_of : Option Message → Identity → Option Message
if_of (Some m) i = if is_same_identity i (identity m) then Some m else None
if_of None i = None

abbrev pub message_at : List Message → ℕ → Identity → Option Message
message_at ms place i = if_of (slice_get ms place) i

-- where no place is told, none of them is such
abbrev pub IsNowhere : List Message → Identity → List ℕ → Option ℕ → Type 0
IsNowhere ms i text (Some place) = Unit {0}
IsNowhere ms i text None = (m : Message) → Contains ms m → identity m ≡ i → spelling m ≡ text → ⊥
