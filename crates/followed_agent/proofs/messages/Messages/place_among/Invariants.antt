use Rattle.std.proofs.Common.{take}
use Rattle.std.specs.List.{All}
use Rattle.followed_agent.specs.Messages.{StandsAt}
use Rattle.followed_agent.proofs.messages.Messages.place_among.Given as goal

abbrev pub invariant-loop-place : goal.invariant-loop-place
invariant-loop-place l = All (λ p. StandsAt l.self.messages.items l.identity l.text p → ⊥) (take l.place-index l.places)
