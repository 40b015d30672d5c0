use Rattle.std.proofs.Common.{◌≡◌, ◌∙◌, Ok, ap}
use Rattle.nsi_primitive.specs.Ranges.{IsSpellable, IsRangedIdentity}
use Rattle.nsi_primitive.specs.declared.message.Identity.{Identity}
use Rattle.nsi_primitive.specs.declared.message.Message.{Message}
use Rattle.nsi_primitive.specs.declared.message.Parcel.{Parcel}
use Rattle.json_fields.specs.declared.time_form.TimeForm.{TimeForm}
use Rattle.json_primitives.specs.Lines.{object_of, parcel_of_json}
use Rattle.json_primitives.specs.Spelling.{spelling_in, parcel_spelling}
use Rattle.json_primitives.proofs.Again.{message_again, ack_again}
use Rattle.json_primitives.proofs.PlainMessages.{message_spelled, ack_spelled}
use Rattle.json_primitives.proofs.Ranged.{message_back, rows_back, identity_back}
use Rattle.json_primitives.proofs.laws.lines_are_read_again.Goals as goal

message_read : (form : TimeForm) (m : Message) → IsSpellable m → object_of (spelling_in form m) ≡ Ok (Parcel.Message m)
unfolding object_of
message_read form m s = ap parcel_of_json (message_spelled form m s.ranged) ∙ message_again form m (message_back m s.ranged) (rows_back m.body s.ranged.body) s.printable

ack_read : (i : Identity) → IsRangedIdentity i → object_of (parcel_spelling (Parcel.Ack i)) ≡ Ok (Parcel.Ack i)
unfolding object_of
ack_read i r = ap parcel_of_json (ack_spelled i r) ∙ ack_again i (identity_back i r)

pub returns-clause-messages : goal.returns-clause-messages
returns-clause-messages c m s = message_read TimeForm.DateTime m s

pub returns-clause-in_each_form : goal.returns-clause-in_each_form
returns-clause-in_each_form c form m s = message_read form m s

pub returns-clause-acks : goal.returns-clause-acks
returns-clause-acks c i r = ack_read i r
