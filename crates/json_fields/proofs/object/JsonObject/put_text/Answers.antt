use Rattle.std.proofs.lemmas.Str.{is_utf8-from_IsUtf8}
use Rattle.json_fields.proofs.object.JsonObject.put_text.Goals as goal

pub put-requires : goal.put-requires
put-requires c = is_utf8-from_IsUtf8 c.args.text.now c.utf8.text
