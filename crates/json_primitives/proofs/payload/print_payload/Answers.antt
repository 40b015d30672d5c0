use Rattle.std.proofs.Common.{◌≡◌, ◌∙◌, ℕ, List, codes, Option, Some, None, refl, ap}
use Rattle.std.proofs.lemmas.Result.{IfOk-weaker}
use Rattle.serde_json.specs.Data.{no_members, member, put, string, number, unsigned, object}
use Rattle.serde_json.specs.Written.{compact_text}
use Rattle.nsi_primitive.specs.Kinds.{kind_name, error_text}
use Rattle.nsi_primitive.specs.declared.kind.Kind.{Kind}
use Rattle.nsi_primitive.specs.declared.kind.ErrorName.{ErrorName}
use Rattle.json_fields.specs.Keys.{name_of}
use Rattle.json_fields.specs.declared.key.Key.{Key}
use Rattle.json_fields.specs.Written.{members_of}
use Rattle.json_primitives.specs.Payload.{put_key, with_key}
use Rattle.json_primitives.proofs.payload.print_payload.Goals as goal

-- what is put one after the other stands in order
in_order : (error fault kind : List ℕ) (key : Option Key) (line : ℕ)
    → put (codes "line") (number (unsigned line)) (put (codes "kind") (string kind) (put_key key (put (codes "fault") (string fault) (put (codes "errorId") (string error) no_members))))
    ≡ member (codes "errorId") (string error) (member (codes "fault") (string fault) (with_key key (member (codes "kind") (string kind) (member (codes "line") (number (unsigned line)) no_members))))
in_order error fault kind None line = refl
in_order error fault kind (Some key) line = refl

pub returns : goal.returns
unfolding name_of
returns c =
    let fault = c.args.fault.now in
    let key = c.args.key in
    let line = c.args.line in
    let written : members_of c.put_number.new.self ≡ put (codes "line") (number (unsigned line)) (put (codes "kind") (string (kind_name Kind.Error)) (put_key key (put (codes "fault") (string fault) (put (codes "errorId") (string (error_text ErrorName.Payload)) no_members)))) =
    rw (c.in_ok-put_number.ensures.put, c.in_ok-put_text-3.ensures.put, c.in_ok-put_key.ensures, c.in_ok-put_text-2.ensures.put, c.in_ok-put_text.ensures.put, c.in_ok-object.ensures, c.text.ensures, c.name.ensures) in
    IfOk-weaker c.print.result _ _ (λ b h. h ∙ ap (λ ms. compact_text (object ms)) (written ∙ in_order (error_text ErrorName.Payload) fault (kind_name Kind.Error) key line)) c.print.ensures.spelled
