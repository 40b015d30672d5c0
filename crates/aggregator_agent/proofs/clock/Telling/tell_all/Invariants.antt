use Rattle.std.proofs.Common.{◌≡◌, drop}
use Rattle.connection_record.specs.Later.{IsLater}
use Rattle.aggregator_agent.specs.Bonds.{tell_those}
use Rattle.aggregator_agent.proofs.Telling.{told_behind}
use Rattle.aggregator_agent.proofs.clock.Telling.tell_all.Given as goal

-- what is told, before what is still to be told, is all
abbrev pub invariant-loop-due : goal.invariant-loop-due
invariant-loop-due l =
    record {
      told : told_behind l.self.replies.items (tell_those (drop l.due-index l.clocking.late.now) l.clocking.agent.now l.clocking.second l.number l.own l.self.next)
          ≡ told_behind l.initial.self.replies.items (tell_those l.clocking.late.now l.clocking.agent.now l.clocking.second l.number l.initial.own l.initial.self.next);
      later : IsLater l.initial.own l.own;
    }
