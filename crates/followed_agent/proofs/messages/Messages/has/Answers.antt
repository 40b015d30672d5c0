use Rattle.std.proofs.Common.{◌∙◌, ap}
use Rattle.json_primitives.specs.Lines.{object_of}
use Rattle.followed_agent.proofs.Keeping.{has_it}
use Rattle.followed_agent.proofs.messages.Messages.has.Goals as goal

pub returns : goal.returns
returns c =
    let text = c.in_ok-text.ensures in
    let place = c.in_ok-place.ensures in
    has_it c.args.self.now.messages.items c.in_ok-identity.identity c.args.message.now c.deref.result.now c.in_ok-place.place c.is_some.result c.in_ok-identity.ensures (c.deref.ensures.value ∙ text.spelled)
    (ap object_of c.deref.ensures.value ∙ text.again) place.found place.again place.nowhere c.is_some.ensures
