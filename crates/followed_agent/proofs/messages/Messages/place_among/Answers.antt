use Rattle.std.proofs.Common.{sym, subst, ◌∙◌}
use Rattle.std.specs.List.{All}
use Rattle.std.proofs.lemmas.Bool.{false≢true}
use Rattle.std.proofs.lemmas.List.{take_all}
use Rattle.std.proofs.lemmas.List.Elements.{All-more}
use Rattle.followed_agent.specs.Messages.{StandsAt}
use Rattle.followed_agent.proofs.messages.Messages.place_among.Goals as goal

pub loop-place-preserved : goal.loop-place-preserved
loop-place-preserved c =
    let l = c.loop-place in
    All-more (λ p. StandsAt c.args.self.now.messages.items c.args.identity.now c.args.text.now p → ⊥) c.args.places.now l.place-index _ c.loop-place-test.true l.invariant (λ s. false≢true (sym c.if-branch.false ∙ c.in_ok-is_at.ensures.stands.1 s))

pub returns-clause-none : goal.returns-clause-none
returns-clause-none c =
    let l = c.loop-place in
    subst (All (λ p. StandsAt c.args.self.now.messages.items c.args.identity.now c.args.text.now p → ⊥)) (take_all l.place-index c.args.places.now c.loop-place-test.false) l.invariant
