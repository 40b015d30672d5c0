-- What a call of a shared provider answers.
use Rattle.std.specs.Prelude.{◌≡◌, ℕ, Bool, true, false, List, map, Option, Result, Ok, Err}
use Rattle.std.specs.Global.{Vec}
use Rattle.nsi_primitive.specs.Messages.{is_request}
use Rattle.nsi_primitive.specs.declared.entry.Entry.{Entry}
use Rattle.nsi_primitive.specs.declared.message.Message.{Message}
use Rattle.nsi_primitive.specs.declared.message.Parcel.{Parcel}
use Rattle.json_fields.specs.declared.fault.LineFault.{LineFault}
use Rattle.json_primitives.specs.Spelling.{spelling}
use Rattle.provider_agent.specs.State.{State}
use Rattle.shared_provider.specs.declared.reply.Reply.{Reply}
use Rattle.shared_provider.specs.declared.reply.BookFault.{BookFault}
use Rattle.shared_provider.specs.declared.call.CallReply.{CallReply}
use Rattle.shared_provider.specs.declared.call.CallFault.{CallFault}
use Rattle.shared_provider.specs.declared.call.CallFault.TheVariants.{Line, NotARequest, Full, DiskFault, Closed, NoMemory}
use Rattle.shared_provider.specs.Asked.{took_entry}
use Rattle.shared_provider.specs.Holds.{HasHeld}

abbrev pub bytes_of : Vec ℕ → List ℕ
bytes_of line = line.items

-- the reply of a book, its messages as lines
pub record IsPrinted (reply : Reply) (r : CallReply) : Type 0 where
  pub place : r.place ≡ reply.place
  pub event : r.event ≡ reply.event
  pub durable : r.durable ≡ reply.durable
  pub lines : map bytes_of r.lines.items ≡ map spelling reply.messages.items

-- a reply that one hold of some book gives
pub record IsHeldReply (asked : State → Option Entry) (r : CallReply) : Type 0 where
  pub reply : Reply
  pub held : HasHeld asked (Ok reply)
  pub printed : IsPrinted reply r

-- a fault that one hold of some book gives, unless memory ran out
abbrev pub IsHeldFault : (State → Option Entry) → CallFault → Type 0
IsHeldFault asked (Line fault) = ⊥
IsHeldFault asked NotARequest = ⊥
IsHeldFault asked Full = HasHeld asked (Err BookFault.Full)
IsHeldFault asked (DiskFault n) = HasHeld asked (Err (BookFault.DiskFault n))
IsHeldFault asked (Closed n) = HasHeld asked (Err (BookFault.Closed n))
IsHeldFault asked NoMemory = Unit {0}

abbrev pub IsHeld : (State → Option Entry) → Result CallReply CallFault → Type 0
IsHeld asked (Ok r) = IsHeldReply asked r
IsHeld asked (Err fault) = IsHeldFault asked fault

---- Lines

-- whether a parcel asks for something
abbrev pub is_asking : Parcel → Bool
is_asking (Parcel.Message m) = is_request m.body
is_asking (Parcel.Ack identity) = false

-- the line is read as this request
pub record IsRequestLine (read : Result Parcel LineFault) (m : Message) : Type 0 where
  pub message : read ≡ Ok (Parcel.Message m)
  pub request : is_request m.body ≡ true

-- what a line is that is no request, unless memory ran out
abbrev pub HasRefused : Result Parcel LineFault → CallFault → Type 0
HasRefused read (Line fault) = read ≡ Err fault
HasRefused read NotARequest = (parcel : Parcel) × (read ≡ Ok parcel) × (is_asking parcel ≡ false)
HasRefused read NoMemory = Unit {0}
HasRefused read _ = ⊥

-- one hold of some book took the request of the line
pub record HasTaken (read : Result Parcel LineFault) (result : Result CallReply CallFault) : Type 0 where
  pub message : Message
  pub line : IsRequestLine read message
  pub held : IsHeld (λ s. took_entry s message) result

-- A line that is no request is refused by what it is, without a hold; a request is taken by one hold.
abbrev pub HasCalled : Result Parcel LineFault → Result CallReply CallFault → Type 0
HasCalled read (Ok r) = HasTaken read (Ok r)
HasCalled read (Err (Line fault)) = HasRefused read (Line fault)
HasCalled read (Err NotARequest) = HasRefused read NotARequest
HasCalled read (Err NoMemory) = Unit {0}
HasCalled read (Err fault) = HasTaken read (Err fault)
