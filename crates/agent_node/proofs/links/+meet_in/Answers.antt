use Rattle.std.proofs.Common.{rules}
use Rattle.agent_node.proofs.Joints.{no_plug}
use Rattle.agent_node.proofs.links.+meet_in.Goals as goal

pub returns-in_default-clause-door : goal.returns-in_default-clause-door
returns-in_default-clause-door t c = absurd (no_plug c.args.number c.args.theirs.now _ (search rules) c.requires)

pub returns-in_default-clause-doors : goal.returns-in_default-clause-doors
returns-in_default-clause-doors t c = absurd (no_plug c.args.number c.args.theirs.now _ (search rules) c.requires)
