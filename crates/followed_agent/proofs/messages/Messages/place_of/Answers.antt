use Rattle.std.proofs.Common.{inr}
use Rattle.followed_agent.proofs.Keeping.{nowhere}
use Rattle.followed_agent.proofs.messages.Messages.place_of.Goals as goal

pub returns-clause-nowhere : goal.returns-clause-nowhere
returns-clause-nowhere c =
    nowhere c.args.self.now c.args.identity.now c.args.text.now c.deref.result.now c.note_places.new.places.items c.in_ok-place.place c.requires.indexed c.deref.ensures.value (λ p its. (c.in_ok-note_places.ensures p).1 (inr its))
    c.in_ok-place.ensures.none
