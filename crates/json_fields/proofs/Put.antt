-- What is put is plain.
use Rattle.std.proofs.Common.{◌≡◌, ◌≤◌, ℕ, true, inl, refl, ap, ◌∙◌}
use Rattle.std.specs.Str.{IsUtf8, is_utf8}
use Rattle.std.proofs.lemmas.Str.{IsUtf8-from_ascii, is_utf8-from_IsUtf8}
use Rattle.uuid.specs.Text.{lower}
use Rattle.uuid.proofs.TextLemmas.{urn_ascii}
use Rattle.nsi_base.specs.Range.{greatest_second}
use Rattle.nsi_primitive.specs.Ids.{bytes_of, id_text}
use Rattle.date_time.specs.Text.{text_of}
use Rattle.date_time.proofs.Again.{in_within}
use Rattle.std.specs.Prelude.{option_map, unwrap_or}
use Rattle.json_fields.specs.Objects.{digits, words, scalar_data, time_value}
use Rattle.json_fields.specs.Members.{time_scalar}
use Rattle.json_fields.specs.Plain.{is_plain_value}
use Rattle.json_fields.specs.declared.time_form.TimeForm.{TimeForm}
use Rattle.json_fields.proofs.Times.{time_plain}

pub id_is_text : (id : ℕ) → IsUtf8 (id_text id)
unfolding id_text
id_is_text id = IsUtf8-from_ascii _ (urn_ascii lower (bytes_of id) (inl refl))

pub id_is_plain : (id : ℕ) → is_utf8 (id_text id) ≡ true
id_is_plain id = is_utf8-from_IsUtf8 (id_text id) (id_is_text id)

pub time_is : (second : ℕ) → second ≤ greatest_second → time_scalar second ≡ time_value TimeForm.DateTime second
unfolding time_scalar time_value
time_is second low = ap (λ o. unwrap_or (option_map (λ s. words (text_of s)) o) (digits second)) (in_within greatest_second second low)

date_time_plain : (second : ℕ) → second ≤ greatest_second → is_plain_value (scalar_data (time_value TimeForm.DateTime second)) ≡ true
unfolding time_value
date_time_plain second low = is_utf8-from_IsUtf8 (text_of second) (time_plain TimeForm.DateTime second low)

pub time_is_plain : (second : ℕ) → second ≤ greatest_second → is_plain_value (scalar_data (time_scalar second)) ≡ true
time_is_plain second low = ap (λ s. is_plain_value (scalar_data s)) (time_is second low) ∙ date_time_plain second low
