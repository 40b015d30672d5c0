use Rattle.agent_link.proofs.Lines.{in_order}
use Rattle.agent_link.proofs.laws.in_order.Goals as goal

pub returns : goal.returns
returns c = in_order
