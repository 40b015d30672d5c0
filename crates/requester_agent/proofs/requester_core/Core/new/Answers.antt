use Rattle.std.proofs.Common.{arith}
use Rattle.requester_agent.proofs.requester_core.Core.new.Goals as goal

pub name-requires-2 : goal.name-requires-2
name-requires-2 c = let below = (c.facts.ensures.asked c.args.agent c.in-Requester.provider c.in-Requester.ensures).0 in omega (arith, below, c.requires.within)
