-- Names, numbers and what else the words of a line are.
use Rattle.std.specs.Prelude.{ℕ, List, if◌then◌else◌, Result, Ok, Err, codes, option_map}
use Rattle.std.specs.Str.{bytes_eq}
use Rattle.nsi_base.specs.Bytes.{is_name}
use Rattle.nsi_base.specs.Digits.{number_of}
use Rattle.nsi_primitive.specs.Kinds.{kind_named}
use Rattle.nsi_primitive.specs.declared.ask.Ask.{Ask}
use Rattle.nsi_primitive.specs.declared.kind.Kind.{Kind}
use Rattle.nsi_disk.specs.declared.plan.Image.{Image}
use Rattle.nsi_disk.specs.declared.plan.Image.TheVariants.{Old, New, Torn}
use Rattle.agent_link.specs.declared.plan.ParcelKind.{ParcelKind}
use Rattle.agent_link.specs.declared.plan.ParcelKind.TheVariants.{Message, Ack}
use Rattle.ask_text.specs.Reading.{ask_in}
use Rattle.nsi_script.specs.declared.fault.ScriptFault.{ScriptFault}
use Rattle.nsi_script.specs.declared.fault.ScriptFault.TheVariants.{Word}
use Rattle.nsi_script.specs.Faults.{value_or}

-- a word that is to be a name
abbrev pub name_form : List ℕ → Result (List ℕ) ScriptFault
name_form word = if is_name word then Ok word else Err Word

-- a word that is to be a number of the range
abbrev pub number_form : ℕ → ℕ → List ℕ → Result ℕ ScriptFault
number_form low high word = value_or Word (number_of low high word)

-- words that are to be an ask
abbrev pub ask_form : List (List ℕ) → Result Ask ScriptFault
ask_form words = value_or Word (ask_in words)

abbrev pub message_of : Kind → ParcelKind
message_of kind = Message kind

-- a word that is to be a kind of message, or `ack`
abbrev pub parcel_form : List ℕ → Result ParcelKind ScriptFault
parcel_form word =
    if bytes_eq word (codes "ack") then Ok Ack
    else value_or Word (option_map message_of (kind_named word))

-- a word that is to say what a stop leaves
abbrev pub image_form : List ℕ → Result Image ScriptFault
image_form word =
    if bytes_eq word (codes "old") then Ok Old
    else if bytes_eq word (codes "new") then Ok New
    else if bytes_eq word (codes "torn") then Ok Torn
    else Err Word
