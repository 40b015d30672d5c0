use Rattle.run_changes.proofs.Children.{changes_are_heard_once}
use Rattle.run_changes.proofs.laws.heard_from_children.Goals as goal

pub returns : goal.returns
returns c = changes_are_heard_once c.every_message.ensures.own c.sent.ensures.heard
