use Rattle.std.proofs.Common.{◌<◌, ◌∙◌, All, length, map, sym, ap, subst}
use Rattle.aggregator_agent.specs.Clock.{is_late}
use Rattle.aggregator_agent.specs.Dues.{due_at, ArePlacesOf}
use Rattle.aggregator_agent.proofs.Overdue.{places_within, chosen}
use Rattle.aggregator_agent.proofs.late.find_late.Goals as goal

pub at-requires : goal.at-requires
at-requires c =
    let dues = c.args.outbox.now.dues in
    subst (All (λ p. p < length dues)) (sym c.items.ensures.items) (places_within (is_late c.args.now c.waiting.result) dues c.in_ok-places.places c.in_ok-places.ensures)

pub returns-clause-late : goal.returns-clause-late
returns-clause-late c =
    let o = c.args.outbox.now in
    let are = subst (λ w. ArePlacesOf (is_late c.args.now w) o.dues c.in_ok-places.places) c.waiting.ensures.rest c.in_ok-places.ensures in
    c.in_ok-late.ensures ∙ (ap (map (λ p. due_at p o.dues)) c.items.ensures.items ∙ chosen (is_late c.args.now o.retry.waiting) o.dues c.in_ok-places.places c.items.ensures.rising are)
