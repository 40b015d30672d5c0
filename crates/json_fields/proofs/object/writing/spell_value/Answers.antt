use Rattle.std.proofs.Common.{◌∙◌, ◌++◌, sym, ap}
use Rattle.std.proofs.lemmas.Result.{on_ok_weaker}
use Rattle.uuid.specs.Text.{urn_text, lower}
use Rattle.json.specs.Print.{quoted}
use Rattle.serde_json.specs.Written.{compact_text}
use Rattle.nsi_primitive.specs.Ids.{id_text, bytes_of}
use Rattle.json_fields.specs.Members.{value_data}
use Rattle.json_fields.proofs.object.writing.spell_value.Goals as goal

pub returns-in-Id : goal.returns-in-Id
unfolding id_text bytes_of
returns-in-Id c = record {
  put = on_ok_weaker c.spell_text-in-Id.result
      (λ e. e ∙ (ap (λ t. c.args.text.now.items ++ quoted t) (c.encode_lower.ensures.text ∙ ap (urn_text lower) (c.urn.ensures ∙ c.from_u128.ensures))
      ∙ ap (λ v. c.args.text.now.items ++ compact_text (value_data v)) (sym c.in-Id.is))) c.spell_text-in-Id.ensures.put;
}
