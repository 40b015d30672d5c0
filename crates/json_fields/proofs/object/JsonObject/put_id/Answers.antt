use Rattle.std.proofs.Common.{◌<◌, ◌^◌, subst}
use Rattle.std.proofs.lemmas.Result.{on_ok_weaker}
use Rattle.nsi_primitive.proofs.IdTexts.{id_text_again}
use Rattle.json_fields.proofs.Put.{id_is_plain}
use Rattle.json_fields.proofs.object.JsonObject.put_id.Goals as goal

pub put-requires : goal.put-requires
put-requires c = id_is_plain c.number.result

pub returns-clause-again : goal.returns-clause-again
returns-clause-again c = on_ok_weaker c.put.result (λ _. id_text_again c.args.id (subst (λ n. n < 2 ^ 128) c.number.ensures c.number.type_inv)) c.put.ensures.put
