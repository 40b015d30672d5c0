use Rattle.std.proofs.Common.{◌≡◌, List, ℕ, Some, Ok, ap, ◌∙◌}
use Rattle.std.proofs.lemmas.Result.{IfOk-weaker}
use Rattle.serde_json.specs.Data.{Data, object}
use Rattle.serde_json.specs.Written.{compact_text}
use Rattle.nsi_primitive.specs.declared.message.Identity.{Identity}
use Rattle.nsi_primitive.specs.declared.message.Parcel.{Parcel}
use Rattle.json_fields.specs.Fields.{json_of}
use Rattle.json_primitives.specs.Lines.{object_of, parcel_of_json}
use Rattle.json_primitives.specs.Spelling.{ack_data}
use Rattle.json_primitives.specs.Valid.{IsValidIdentity}
use Rattle.json_primitives.proofs.Again.{ack_again}
use Rattle.json_primitives.proofs.printing.print_ack.Goals as goal

again : (i : Identity) (d : Data) (bytes : List ℕ) → d ≡ ack_data i → IsValidIdentity i → json_of bytes ≡ Some d → object_of bytes ≡ Ok (Parcel.Ack i)
unfolding object_of
again i d bytes same v reads = ap parcel_of_json (reads ∙ ap (λ x. Some x) same) ∙ ack_again i v

pub returns-clause-spelled : goal.returns-clause-spelled
unfolding ack_data
returns-clause-spelled c = IfOk-weaker c.print.result _ _ (λ b h. h ∙ ap (λ ms. compact_text (object ms)) c.in_ok-object.ensures.fields) c.print.ensures.spelled

pub returns-clause-again : goal.returns-clause-again
unfolding ack_data
returns-clause-again c = IfOk-weaker c.print.result _ _ (λ b h. again c.args.identity.now _ b.items (ap object c.in_ok-object.ensures.fields) c.in_ok-object.ensures.valid h) c.print.ensures.again
