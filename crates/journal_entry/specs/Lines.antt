-- The lines of messages and acknowledgements, in the one spelling of a form.
use Rattle.std.specs.Prelude.{ℕ, List, if◌then◌else◌, Option, Some, None, Result, Ok, Err}
use Rattle.std.specs.Str.{bytes_eq}
use Rattle.nsi_primitive.specs.declared.message.Identity.{Identity}
use Rattle.nsi_primitive.specs.declared.message.Message.{Message}
use Rattle.nsi_primitive.specs.declared.message.Parcel.{Parcel}
use Rattle.json_fields.specs.declared.fault.LineFault.{LineFault}
use Rattle.json_primitives.specs.Lines.{object_of}
use Rattle.json_primitives.specs.Spelling.{parcel_spelling_in}
use Rattle.nsi_base.specs.Options.{◌>>=◌}
use Rattle.journal_entry.specs.Forms.{times_of, holds_message}
use Rattle.journal_entry.specs.declared.form.Form.{Form}

abbrev pub what_is_read : Result Parcel LineFault → Option Parcel
what_is_read (Ok parcel) = Some parcel
what_is_read (Err fault) = None

-- the parcel, where these bytes are its spelling
abbrev pub as_spelled : Form → List ℕ → Parcel → Option Parcel
as_spelled form text parcel = if bytes_eq (parcel_spelling_in (times_of form) parcel) text then Some parcel else None

-- the parcel that a line is the one spelling of
unfoldable pub parcel_in : Form → List ℕ → Option Parcel
parcel_in form text = what_is_read (object_of text) >>= as_spelled form text

abbrev pub if_message : Parcel → Option Message
if_message (Parcel.Message message) = Some message
if_message (Parcel.Ack identity) = None

abbrev pub if_ack : Parcel → Option Identity
if_ack (Parcel.Message message) = None
if_ack (Parcel.Ack identity) = Some identity

abbrev pub if_held : Form → Message → Option Message
if_held form m = if holds_message form m then Some m else None

-- the message, or the message that is acknowledged
unfoldable pub message_in : Form → List ℕ → Option Message
message_in form text = do
  parcel ← parcel_in form text
  message ← if_message parcel
  if_held form message

unfoldable pub ack_in : Form → List ℕ → Option Identity
ack_in form text = parcel_in form text >>= if_ack
