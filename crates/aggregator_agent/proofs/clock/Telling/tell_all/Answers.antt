use Rattle.std.proofs.Common.{◌≡◌, ◌∙◌, sym, ap}
use Rattle.connection_record.proofs.Growing.{later_trans}
use Rattle.aggregator_agent.specs.Clock.{Told}
use Rattle.aggregator_agent.specs.Bonds.{tell_those}
use Rattle.aggregator_agent.proofs.Telling.{told_behind, told_more, told_end}
use Rattle.aggregator_agent.proofs.clock.Telling.tell_all.Goals as goal

pub loop-due-preserved : goal.loop-due-preserved
loop-due-preserved c =
    let l = c.loop-due in
    let e = c.args.clocking.now in
    record {
      told =
          told_more e.late.now l.due-index c.due-item.result e.agent.now e.second c.args.number l.self c.tell_if.new.self l.own c.tell_if.new.own _ c.loop-due-test.true (sym c.due-item.is) c.in_ok-tell_if.ensures.told
          ∙ l.invariant.told;
      later = later_trans c.args.own.now l.own c.tell_if.new.own l.invariant.later c.tell_if.ensures.later;
    }

pub returns-clause-told : goal.returns-clause-told
returns-clause-told c =
    let l = c.loop-due in
    let e = c.args.clocking.now in
    let a = c.args.self.now in
    let all = tell_those e.late.now e.agent.now e.second c.args.number c.args.own.now a.next in
    let done : record { own = l.own; out = l.self.replies.items; next = l.self.next } ≡ told_behind a.replies.items all =
    sym (told_end e.late.now l.due-index e.agent.now e.second c.args.number l.own l.self.next l.self.replies.items c.loop-due-test.false) ∙ l.invariant.told in
    record {
      rec = ap (λ (t : Told). t.own) done;
      out = ap (λ (t : Told). t.out) done;
      next = ap (λ (t : Told). t.next) done;
    }
