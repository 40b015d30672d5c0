-- The forms of values that rows have, and the rows of a list.
use Rattle.std.specs.Prelude.{ℕ, List, [], ◌∷◌, Option, Some, None, option_map, option_and_then, Result, Ok, Err}
use Rattle.serde_json.specs.Data.{Data, Items, no_items, item}
use Rattle.serde_json.specs.Find.{as_str}
use Rattle.nsi_primitive.specs.States.{rsm_named, psm_named, lsm_named}
use Rattle.nsi_primitive.specs.declared.state.Rsm.{Rsm}
use Rattle.nsi_primitive.specs.declared.state.Psm.{Psm}
use Rattle.nsi_primitive.specs.declared.state.Lsm.{Lsm}
use Rattle.json_fields.specs.Fields.{number_from}
use Rattle.json_fields.specs.declared.key.Key.{Key}
use Rattle.json_fields.specs.declared.fault.LineFault.{LineFault}

-- a text that names a state of a machine
abbrev pub rsm_from : Data → Option Rsm
rsm_from d = option_and_then rsm_named (as_str d)

abbrev pub psm_from : Data → Option Psm
psm_from d = option_and_then psm_named (as_str d)

abbrev pub lsm_from : Data → Option Lsm
lsm_from d = option_and_then lsm_named (as_str d)

-- how far below the agent that answers
abbrev pub depth_from : Data → Option ℕ
depth_from d = number_from 0 255 d

-- a row, where it has no fault
abbrev pub row_of : {A : Type 0} → Result A LineFault → Option A
row_of (Ok row) = Some row
row_of (Err fault) = None

-- the rows of a list, where each of its items is one
unfoldable pub each_from : {A : Type 0} → (Data → Result A LineFault) → Items → Option (List A)
each_from form no_items = Some []
each_from form (item d ds) = option_and_then (λ row. option_map (λ rows. row ∷ rows) (each_from form ds)) (row_of (form d))

-- the fault of the list, where one of its rows has this one
abbrev pub list_fault : Key → LineFault → LineFault
list_fault key LineFault.NoMemory = LineFault.NoMemory
list_fault key _ = LineFault.Bad key
