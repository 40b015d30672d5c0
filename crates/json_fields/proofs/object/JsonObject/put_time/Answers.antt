use Rattle.std.proofs.Common.{◌∙◌, ◌≤◌, sym, ap, subst}
use Rattle.std.proofs.lemmas.Result.{on_ok_weaker}
use Rattle.serde_json.specs.Data.{put}
use Rattle.nsi_base.specs.Range.{greatest_second}
use Rattle.json_fields.specs.Keys.{name_of}
use Rattle.json_fields.specs.Members.{time_scalar}
use Rattle.json_fields.specs.Objects.{scalar_data, time_value}
use Rattle.json_fields.specs.Written.{members_of}
use Rattle.json_fields.proofs.Put.{time_is, time_is_plain}
use Rattle.json_fields.proofs.object.JsonObject.put_time.Goals as goal

pub put-requires : goal.put-requires
put-requires c = time_is_plain c.get-in-DateTime.result (subst (λ n. n ≤ greatest_second) (sym c.get-in-DateTime.ensures.value) c.get-in-DateTime.ensures.in_range)

pub returns-in-DateTime-clause-put : goal.returns-in-DateTime-clause-put
returns-in-DateTime-clause-put c = on_ok_weaker c.put.result
    (λ e. e ∙ ap (λ s. put (name_of c.args.key) (scalar_data s) (members_of c.args.self.now)) (ap time_scalar c.get-in-DateTime.ensures.value ∙ (time_is c.args.time c.get-in-DateTime.ensures.in_range ∙ ap (λ form. time_value form c.args.time) (sym c.in-DateTime.is)))) c.put.ensures.put
