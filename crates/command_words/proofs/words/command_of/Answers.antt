use Rattle.std.proofs.Common.{◌≡◌, ◌∙◌, Some, sym, ap, drop, map, string_bytes, slice_get, rules}
use Rattle.std.proofs.lemmas.Result.{IfOk-weaker}
use Rattle.command_words.specs.Words.{named}
use Rattle.command_words.proofs.Reading.{first_says, none_said}
use Rattle.command_words.proofs.words.command_of.Goals as goal

pub returns-then-has_end : goal.returns-then-has_end
returns-then-has_end c = none_said named c.args.words.now (sym c.has_end.ensures ∙ c.if-has_end.true)

pub returns : goal.returns
returns c =
    let words = c.args.words.now in
    let name : slice_get words 0 ≡ Some c.in-Some.name.now = search rules in
    let is = first_says named words c.in-Some.name.now name (sym c.has_end.ensures ∙ c.if-has_end.false) in
    IfOk-weaker c.named.result _ _ (λ command e. e ∙ (ap (λ n. named n (drop 1 (map string_bytes words))) c.as_str.ensures.value ∙ is)) c.named.ensures
