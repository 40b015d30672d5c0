use Rattle.std.proofs.Common.{◌∙◌, ap, sym, option_map, Some}
use Rattle.uuid.specs.Text.{parsed, urn_text, lower}
use Rattle.nsi_primitive.specs.Ids.{from_bytes, id_from_text, id_text}
use Rattle.nsi_primitive.proofs.id.print_id.Goals as goal

pub returns-in-Ok-clause-spelled : goal.returns-in-Ok-clause-spelled
unfolding id_text
returns-in-Ok-clause-spelled c =
    c.in-Ok.ensures.ok ∙ (c.as_bytes.ensures.value ∙ (c.encode_lower-text.ensures.text ∙ ap (urn_text lower) (c.urn.ensures ∙ c.uuid_of-uuid.ensures.bytes)))

pub returns-in-Ok-clause-again : goal.returns-in-Ok-clause-again
unfolding id_from_text
returns-in-Ok-clause-again c =
    ap (λ t. option_map from_bytes (parsed t)) (c.in-Ok.ensures.ok ∙ c.as_bytes.ensures.value)
    ∙ (ap (option_map from_bytes) (sym c.encode_lower-text.ensures.parsed)
    ∙ ap (λ n. Some n) (ap from_bytes c.urn.ensures ∙ c.uuid_of-uuid.ensures.again))
