use Rattle.std.proofs.Common.{◌∙◌, ap, sym}
use Rattle.serde_json.specs.Data.{no_members}
use Rattle.nsi_primitive.specs.Messages.{kind_of}
use Rattle.json_fields.specs.Objects.{with_fields}
use Rattle.json_fields.specs.Written.{members_of}
use Rattle.json_fields.proofs.Members.{with_fields-append}
use Rattle.json_primitives.specs.Spelling.{header_fields, body_fields}
use Rattle.json_primitives.proofs.printing.object_of.Goals as goal

pub returns-clause-fields : goal.returns-clause-fields
returns-clause-fields c =
    let m = c.args.message.now in
    c.in_ok-put_body.ensures.put
    ∙ (ap (λ ms. with_fields ms (body_fields c.args.form m.body)) (c.in_ok-put_header.ensures.put
    ∙ (ap (λ k. with_fields (members_of c.in_ok-object.object) (header_fields k m.header)) c.kind.ensures
    ∙ ap (λ ms. with_fields ms (header_fields (kind_of m.body) m.header)) c.in_ok-object.ensures))
    ∙ sym (with_fields-append no_members (header_fields (kind_of m.body) m.header) (body_fields c.args.form m.body)))
