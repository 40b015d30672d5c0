use Rattle.std.proofs.Common.{◌≡◌, ◌++◌, Option, Some, None, Ok, sym, ap, ◌∙◌}
use Rattle.std.proofs.lemmas.Result.{on_ok_weaker}
use Rattle.serde_json.specs.Data.{Data, no_members, object}
use Rattle.serde_json.specs.Written.{compact_text}
use Rattle.nsi_primitive.specs.Printable.{IsPrintable}
use Rattle.nsi_primitive.specs.declared.message.Message.{Message}
use Rattle.nsi_primitive.specs.declared.message.Parcel.{Parcel}
use Rattle.json_fields.specs.Fields.{json_of}
use Rattle.json_fields.specs.Objects.{with_fields}
use Rattle.json_fields.specs.Written.{with_rows, rows_of}
use Rattle.json_fields.specs.declared.time_form.TimeForm.{TimeForm}
use Rattle.json_primitives.specs.Lines.{object_of, parcel_of_json}
use Rattle.json_primitives.specs.Rows.{rows_in}
use Rattle.json_primitives.specs.Spelling.{data_of, fields_of, with_rows_in}
use Rattle.json_primitives.specs.Valid.{IsValid}
use Rattle.json_primitives.specs.ValidRows.{IsValidRows}
use Rattle.json_primitives.proofs.Again.{message_again}
use Rattle.json_primitives.proofs.printing.push_message_in.Goals as goal

again : (form : TimeForm) (m : Message) (d : Data) → d ≡ data_of form m → IsValid m → IsValidRows m.body → IsPrintable m → json_of (compact_text d) ≡ Some d → object_of (compact_text (data_of form m)) ≡ Ok (Parcel.Message m)
unfolding object_of
again form m d same v rows_valid p reads = ap (λ x. object_of (compact_text x)) (sym same) ∙ ap parcel_of_json (reads ∙ ap (λ x. Some x) same) ∙ message_again form m v rows_valid p

-- the fields of a message with its rows are its object
with_these : (form : TimeForm) (m : Message) (o : Option _) → o ≡ rows_in form m.body → object (with_rows_in o (with_fields no_members (fields_of form m))) ≡ data_of form m
unfolding data_of
with_these form m o e = ap (λ x. object (with_rows_in x (with_fields no_members (fields_of form m)))) e

pub returns-in-None-clause-put : goal.returns-in-None-clause-put
returns-in-None-clause-put c =
    let m = c.args.message.now in
    let same = ap object c.in_ok-object.ensures.fields ∙ with_these c.args.form m None (rw c.in-None.is at c.in_ok-rows_in.ensures.rows) in
    on_ok_weaker c.spell.result (λ h. h ∙ ap (λ d. c.args.text.now.items ++ compact_text d) same) c.spell.ensures.put

pub returns-in-None-clause-again : goal.returns-in-None-clause-again
returns-in-None-clause-again c =
    let m = c.args.message.now in
    let same = ap object c.in_ok-object.ensures.fields ∙ with_these c.args.form m None (rw c.in-None.is at c.in_ok-rows_in.ensures.rows) in
    on_ok_weaker c.spell.result (again c.args.form m _ same c.in_ok-object.ensures.valid c.in_ok-rows_in.ensures.valid c.requires) c.spell.ensures.again

pub returns-clause-put : goal.returns-clause-put
returns-clause-put c =
    let m = c.args.message.now in
    let rows = rows_of c.in-Some.rows in
    let same = ap (λ ms. object (with_rows c.in-Some.key rows ms)) c.in_ok-object.ensures.fields ∙ with_these c.args.form m (Some (c.in-Some.key, rows)) (rw c.in-Some.is at c.in_ok-rows_in.ensures.rows) in
    on_ok_weaker c.spell_with.result (λ h. h ∙ ap (λ d. c.args.text.now.items ++ compact_text d) same) c.spell_with.ensures.put

pub returns-clause-again : goal.returns-clause-again
returns-clause-again c =
    let m = c.args.message.now in
    let rows = rows_of c.in-Some.rows in
    let same = ap (λ ms. object (with_rows c.in-Some.key rows ms)) c.in_ok-object.ensures.fields ∙ with_these c.args.form m (Some (c.in-Some.key, rows)) (rw c.in-Some.is at c.in_ok-rows_in.ensures.rows) in
    on_ok_weaker c.spell_with.result (again c.args.form m _ same c.in_ok-object.ensures.valid c.in_ok-rows_in.ensures.valid c.requires) c.spell_with.ensures.again
