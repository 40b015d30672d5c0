use Rattle.std.proofs.Common.{◌∙◌, sym, ap}
use Rattle.std.specs.Option.{option_copied}
use Rattle.json_fields.proofs.Placed.{without_first, without_other, without_none, not_equal}
use Rattle.json_fields.proofs.object.writing.behind.Goals as goal

pub returns-in-Some : goal.returns-in-Some
returns-in-Some c = without_first c.args.key c.args.members.now c.in-Some.first.now (sym c.first.ensures.value ∙ ap option_copied c.in-Some.is) (sym c.rank.ensures ∙ (c.if-rank.true ∙ c.rank-rank.ensures))

pub returns-in_default : goal.returns-in_default
returns-in_default c = without_other c.args.key c.args.members.now c.in-Some.first.now (sym c.first.ensures.value ∙ ap option_copied c.in-Some.is)
    (not_equal _ _ (λ e. c.if-rank.false (c.rank.ensures ∙ (e ∙ sym c.rank-rank.ensures))))

pub returns-in_default-2 : goal.returns-in_default-2
returns-in_default-2 c = without_none c.args.key c.args.members.now (sym c.first.ensures.value ∙ ap option_copied c.in_default.is)
