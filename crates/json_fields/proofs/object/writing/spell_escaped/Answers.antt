use Rattle.std.proofs.Common.{◌≡◌, ◌∙◌, ◌++◌, ◌∷◌, [], ap, ap₂, arith}
use Rattle.json.specs.Token.{Token}
use Rattle.json.specs.Print.{print}
use Rattle.serde_json.specs.Data.{string}
use Rattle.serde_json.proofs.Texts.{print-outline}
use Rattle.json_fields.proofs.object.writing.spell_escaped.Goals as goal

pub returns : goal.returns
returns c =
    let tokens = c.in_ok-string.ensures.ok ∙ ap (λ ts. ts ++ Token.string c.args.words.now ∷ []) c.new-writer.ensures.tokens in
    let kept : c.string.new.self.before ≡ c.new-writer.result.before = grind arith in
    let before = kept ∙ c.new-writer.ensures.before ∙ ap (λ v. v.items) c.replace.ensures.value in
    record { put = c.into_inner.ensures.items ∙ ap₂ (λ b ts. b ++ print ts) before tokens ∙ ap (λ t. c.args.text.now.items ++ t) (print-outline (string c.args.words.now)) }
