use Rattle.std.proofs.Common.{option_map, ap}
use Rattle.followed_agent.proofs.Keeping.{is_at_place, not_at_place, read_at_place}
use Rattle.followed_agent.proofs.messages.Messages.is_at.Goals as goal

pub returns-in_ok-is_spelled-in-Some-clause-stands : goal.returns-in_ok-is_spelled-in-Some-clause-stands
returns-in_ok-is_spelled-in-Some-clause-stands c =
    is_at_place c.args.self.now.messages.items c.deref.result.now c.args.identity.now c.args.text.now c.args.place _ c.in-Some.message.now c.in_ok-is_spelled-in-Some.is_spelled c.deref.ensures.value c.message_at.ensures.value
    (ap (option_map (λ m. m.now)) c.in-Some.is) c.in_ok-is_spelled-in-Some.ensures.spelled

pub returns-in_ok-is_spelled-in-Some-clause-again : goal.returns-in_ok-is_spelled-in-Some-clause-again
returns-in_ok-is_spelled-in-Some-clause-again c = λ is.
    read_at_place c.args.self.now.messages.items c.deref.result.now c.args.identity.now c.args.place _ c.in-Some.message.now c.deref.ensures.value c.message_at.ensures.value (ap (option_map (λ m. m.now)) c.in-Some.is)
    c.in_ok-is_spelled-in-Some.ensures.again

pub returns-in-None-clause-stands : goal.returns-in-None-clause-stands
returns-in-None-clause-stands c =
    not_at_place c.args.self.now.messages.items c.deref.result.now c.args.identity.now c.args.text.now c.args.place _ c.deref.ensures.value c.message_at.ensures.value (ap (option_map (λ m. m.now)) c.in-None.is)
