-- The forms of payloads, which differ in how the times of messages are spelled, and in what they can hold.
use Rattle.std.specs.Prelude.{ℕ, Bool, true, false, ◌==◌, if◌then◌else◌, is_some, Option, Some, None}
use Rattle.nsi_primitive.specs.declared.ask.Ask.{Ask}
use Rattle.nsi_primitive.specs.declared.ask.What.{What}
use Rattle.nsi_primitive.specs.declared.entry.Input.{Input}
use Rattle.nsi_primitive.specs.declared.kind.Directionality.{Directionality}
use Rattle.nsi_primitive.specs.declared.message.Body.{Body}
use Rattle.nsi_primitive.specs.declared.message.Message.{Message}
use Rattle.json_fields.specs.declared.time_form.TimeForm.{TimeForm}
use Rattle.journal_entry.specs.declared.form.Form.{Form}

-- numbers in the first form, date-times in the second
abbrev pub times_of : Form → TimeForm
times_of Form.One = TimeForm.Number
times_of Form.Two = TimeForm.DateTime

-- a reserve of the first form has a start
abbrev pub has_start : Body → Bool
has_start (Body.Reserve r) = is_some r.start
has_start _ = true

abbrev pub holds_message : Form → Message → Bool
holds_message Form.One m = has_start m.body
holds_message Form.Two m = true

abbrev pub goes_both_ways : Directionality → Bool
goes_both_ways Directionality.Bidirectional = true
goes_both_ways Directionality.Unidirectional = false

-- an ask of the first form is for both ways
abbrev pub asks_both_ways : What → Bool
asks_both_ways (What.Reserve r) = goes_both_ways r.directionality
asks_both_ways _ = true

abbrev pub holds_ask : Form → Ask → Bool
holds_ask Form.One a = asks_both_ways a.what
holds_ask Form.Two a = true

-- whether a form has a spelling for an input
abbrev pub holds : Form → Input → Bool
holds form (Input.Ask number ask) = holds_ask form ask
holds form (Input.Got m) = holds_message form m
holds form _ = true

-- the byte before the entries
abbrev pub form_byte : Form → ℕ
form_byte Form.One = 1
form_byte Form.Two = 2

-- and the form that it says
abbrev pub form_of : ℕ → Option Form
form_of b =
    if b == 1 then Some Form.One
    else if b == 2 then Some Form.Two
    else None
