-- Entries as bytes.
use Rattle.std.specs.Prelude.{ℕ, List, [], ◌∷◌, ◌==◌, if◌then◌else◌, Option, Some, None, option_map}
use Rattle.std.specs.Int.{w32, w64}
use Rattle.nsi_base.specs.Options.{◌>>=◌}
use Rattle.nsi_base.specs.Range.{greatest_second, greatest_record}
use Rattle.nsi_primitive.specs.declared.ask.Ask.{Ask}
use Rattle.nsi_primitive.specs.declared.entry.Entry.{Entry}
use Rattle.nsi_primitive.specs.declared.entry.Input.{Input}
use Rattle.nsi_primitive.specs.declared.state.Machine.{Machine}
use Rattle.ask_text.specs.Reading.{ask_of}
use Rattle.journal_entry.specs.declared.form.Form.{Form}
use Rattle.journal_entry.specs.Fields.{number_at, bounded_at, text_at}
use Rattle.journal_entry.specs.Forms.{holds_ask}
use Rattle.journal_entry.specs.Lines.{message_in, ack_in}

abbrev pub machine_of : ℕ → Option Machine
machine_of b =
    if b == 0 then Some Machine.Reserve
    else if b == 1 then Some Machine.Provision
    else if b == 2 then Some Machine.Lifecycle
    else None

-- the ask that a text is the one spelling of, where the form has one for it
abbrev pub if_held : Form → Ask → Option Ask
if_held form a = if holds_ask form a then Some a else None

unfoldable pub held_ask_in : Form → List ℕ → Option Ask
held_ask_in form text = ask_of text >>= if_held form

-- each input from the bytes behind the second, and the bytes behind it
unfoldable pub ask_at : Form → List ℕ → Option (Input × List ℕ)
ask_at form bytes = do
  number ← number_at w32 bytes
  text ← text_at number.1
  ask ← held_ask_in form text.0
  Some (Input.Ask number.0 ask, text.1)

unfoldable pub got_at : Form → List ℕ → Option (Input × List ℕ)
got_at form bytes = do
  text ← text_at bytes
  message ← message_in form text.0
  Some (Input.Got message, text.1)

unfoldable pub machine_at : List ℕ → Option (Machine × List ℕ)
machine_at [] = None
machine_at (b ∷ bytes) = option_map (λ machine. (machine, bytes)) (machine_of b)

unfoldable pub work_at : List ℕ → Option (Input × List ℕ)
work_at bytes = do
  number ← bounded_at w32 greatest_record bytes
  machine ← machine_at number.1
  Some (Input.Work number.0 machine.0, machine.1)

unfoldable pub force_at : List ℕ → Option (Input × List ℕ)
force_at bytes = do
  number ← bounded_at w32 greatest_record bytes
  Some (Input.Force number.0, number.1)

unfoldable pub acked_at : Form → List ℕ → Option (Input × List ℕ)
acked_at form bytes = do
  text ← text_at bytes
  identity ← ack_in form text.0
  Some (Input.Acked identity, text.1)

-- by the tag
unfoldable pub input_at : Form → ℕ → List ℕ → Option (Input × List ℕ)
input_at form tag bytes =
    if tag == 1 then ask_at form bytes
    else if tag == 2 then got_at form bytes
    else if tag == 3 then work_at bytes
    else if tag == 4 then Some (Input.Tick, bytes)
    else if tag == 5 then force_at bytes
    else if tag == 6 then acked_at form bytes
    else None

-- the entry at the front, and the bytes behind it
unfoldable pub entry_at : Form → List ℕ → Option (Entry × List ℕ)
entry_at form [] = None
entry_at form (tag ∷ bytes) = do
  second ← bounded_at w64 greatest_second bytes
  input ← input_at form tag second.1
  Some (record { second = second.0; input = input.0 }, input.1)
