use Rattle.std.proofs.Common.{inl, inr, subst, Contains}
use Rattle.requester_agent.proofs.hearing.places_told.Goals as goal

pub returns : goal.returns
returns c place id reached has = (c.among.ensures place).1 (elim reached [
  | inl is ↦ c.in_ok-note_named.ensures.kept place ((c.in_ok-note_places.ensures place).1 (inr (subst (λ n. Contains c.args.ids.now (record { id = n; place = place })) is has)))
  | inr named ↦ c.in_ok-note_named.ensures.named place id named has
])
