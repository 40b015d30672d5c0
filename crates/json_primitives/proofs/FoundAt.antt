-- What stands at a key of what is written.
use Rattle.std.proofs.Common.{◌≡◌, List, None, option_map, true, refl, ap, ◌∙◌}
use Rattle.serde_json.specs.Data.{Data, no_members, object}
use Rattle.serde_json.specs.Find.{get}
use Rattle.nsi_primitive.specs.declared.message.Message.{Message}
use Rattle.json_fields.specs.Keys.{name_of}
use Rattle.json_fields.specs.Objects.{Field, scalar_data, with_fields}
use Rattle.json_fields.specs.declared.key.Key.{Key}
use Rattle.json_fields.specs.declared.time_form.TimeForm.{TimeForm}
use Rattle.json_fields.proofs.Members.{field_at, are_apart, get_member-with_fields}
use Rattle.json_primitives.specs.Rows.{rows_in}
use Rattle.json_primitives.specs.Spelling.{fields_of, with_rows_in, data_of}

abbrev pub data_with : List Field → Data
data_with fs = object (with_fields no_members fs)

pub found_with : (fs : List Field) (key : Key) → are_apart fs ≡ true → get (name_of key) (data_with fs) ≡ option_map scalar_data (field_at (name_of key) fs)
found_with fs key apart = get_member-with_fields (name_of key) fs no_members apart refl

pub found_at : (form : TimeForm) (m : Message) (key : Key) → rows_in form m.body ≡ None → are_apart (fields_of form m) ≡ true → get (name_of key) (data_of form m) ≡ option_map scalar_data (field_at (name_of key) (fields_of form m))
unfolding data_of
found_at form m key none apart =
    ap (λ o. get (name_of key) (object (with_rows_in o (with_fields no_members (fields_of form m))))) none
    ∙ found_with (fields_of form m) key apart
