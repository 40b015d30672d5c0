-- What a call of a shared provider answers, by the hold that it made.
use Rattle.std.proofs.Common.{Result, Ok, Err}
use Rattle.nsi_primitive.specs.declared.message.Message.{Message}
use Rattle.nsi_primitive.specs.declared.message.Parcel.{Parcel}
use Rattle.json_fields.specs.declared.fault.LineFault.{LineFault}
use Rattle.shared_provider.specs.declared.call.CallReply.{CallReply}
use Rattle.shared_provider.specs.declared.call.CallFault.{CallFault}
use Rattle.shared_provider.specs.declared.call.CallFault.TheVariants.{Line, NotARequest, Full, DiskFault, Closed, NoMemory}
use Rattle.shared_provider.specs.Asked.{took_entry}
use Rattle.shared_provider.specs.Calls.{IsRequestLine, IsHeld, HasCalled}

pub called_of : (read : Result Parcel LineFault) (m : Message) (result : Result CallReply CallFault) → IsRequestLine read m → IsHeld (λ s. took_entry s m) result → HasCalled read result
called_of read m (Ok r) line h = record { message = m; line = line; held = h }
called_of read m (Err (Line fault)) line h = absurd h
called_of read m (Err NotARequest) line h = absurd h
called_of read m (Err Full) line h = record { message = m; line = line; held = h }
called_of read m (Err (DiskFault n)) line h = record { message = m; line = line; held = h }
called_of read m (Err (Closed n)) line h = record { message = m; line = line; held = h }
called_of read m (Err NoMemory) line h = tt
