use Rattle.std.proofs.Common.{rules, ◌≡◌, box_value}
use Rattle.agent_node.specs.Meetings.{met}
use Rattle.agent_node.proofs.Stopping.{held_met}
use Rattle.agent_node.proofs.node.Node.meet.Goals as goal

pub invariant_of-self : goal.invariant_of-self
invariant_of-self g c =
    let i = c.self.inside in
    let o = (box_value c.other.inside.core).seat in
    let s = (box_value i.core).seat in
    let is : c.meet.new.self.seat ≡ met o s = search rules in
    held_met g.J.Journal.reading (g.J.Journal.is_ready i.journal) (g.J.Journal.waits i.journal) (g.J.Journal.kept i.journal) (g.J.Journal.history i.journal) o s c.meet.new.self.seat i.fault is c.self.invariant

pub invariant_of-other : goal.invariant_of-other
invariant_of-other g c =
    let i = c.other.inside in
    let o = (box_value c.self.inside.core).seat in
    let s = (box_value i.core).seat in
    let is : c.meet.new.other.seat ≡ met o s = search rules in
    held_met g.J.Journal.reading (g.J.Journal.is_ready i.journal) (g.J.Journal.waits i.journal) (g.J.Journal.kept i.journal) (g.J.Journal.history i.journal) o s c.meet.new.other.seat i.fault is c.other.invariant
