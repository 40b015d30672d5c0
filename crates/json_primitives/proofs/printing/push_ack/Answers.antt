use Rattle.std.proofs.Common.{◌∙◌, ◌++◌, ap}
use Rattle.std.proofs.lemmas.Result.{on_ok_weaker}
use Rattle.serde_json.specs.Data.{object}
use Rattle.serde_json.specs.Written.{compact_text}
use Rattle.json_primitives.specs.Spelling.{ack_data}
use Rattle.json_primitives.proofs.printing.push_ack.Goals as goal

pub returns : goal.returns
unfolding ack_data
returns c = record { put = on_ok_weaker c.spell.result (λ h. h ∙ ap (λ ms. c.args.text.now.items ++ compact_text (object ms)) c.in_ok-object.ensures.fields) c.spell.ensures.put }
