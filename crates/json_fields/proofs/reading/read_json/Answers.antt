use Rattle.std.proofs.Common.{◌≡◌, IfOk, Some, refl, sym, ap, ◌∙◌}
use Rattle.std.proofs.lemmas.Result.{IfOk-weaker, IfErr-weaker}
use Rattle.serde_json.specs.Read.{read}
use Rattle.json_fields.proofs.Texts.{json_of_read, json_of_refused}
use Rattle.json_fields.proofs.reading.read_json.Goals as goal

pub returns-in-Ok-clause-read : goal.returns-in-Ok-clause-read
returns-in-Ok-clause-read c =
    let same = c.in-Ok.ensures.0 in
    let text = c.in-Ok.ensures.1 in
    IfOk-weaker c.parse.result _ _ (λ v e. json_of_read _ _ text (ap read (sym same) ∙ e)) c.parse.ensures.read

pub returns-in-Ok-clause-refused : goal.returns-in-Ok-clause-refused
returns-in-Ok-clause-refused c =
    let same = c.in-Ok.ensures.0 in
    IfErr-weaker c.parse.result _ _ (λ fault h told. let both = h told in (both.0, json_of_refused _ (λ text. ap read (sym same) ∙ both.1))) c.parse.ensures.refused

pub returns-in-Err-clause-refused : goal.returns-in-Err-clause-refused
returns-in-Err-clause-refused c told = (refl, json_of_refused _ (λ text. absurd (c.in-Err.ensures text)))
