use Rattle.std.proofs.Common.{◌<◌, ◌+◌, ◌++◌, ◌∙◌, sym, refl, ap, arith, length, get_or, take, drop, slice_set}
use Rattle.agent_node.specs.Seat.{Seat}
use Rattle.nsi_play.specs.Rounds.{meets_each}
use Rattle.agent_threads.specs.Nets.{seats}
use Rattle.agent_threads.specs.Made.{Stays, met_by_each}
use Rattle.agent_threads.proofs.Places.{up_to_none, up_to_next, up_to_end}
use Rattle.agent_threads.proofs.Same.{same_self, same_trans}
use Rattle.agent_threads.proofs.OneMeets.{HasMetOne, meets_next, met_next, meets_end, met_end, links_none, links_next, links_all, links_plugs}
use Rattle.agent_threads.proofs.meeting.meet_rest.Goals as goal

pub loop-other-init : goal.loop-other-init
loop-other-init g c = record {
  first = refl;
  rest = refl;
  stays = record { same = same_self c.args.first.now; fault = refl; journal = record { meter = refl; kept = refl } };
  up = up_to_none Stays c.args.rest.now;
  links = links_none c.args.first.now c.args.rest.now c.requires.linked;
}

pub meet-requires : goal.meet-requires
meet-requires g c =
    let l = c.loop-other in
    let h : l.other-index < length l.rest = omega (arith, c.loop-other-test.true, l.auto.rest) in
    record { linked = l.invariant.links.linked l.other-index c.other-item.result h }

pub loop-other-preserved : goal.loop-other-preserved
loop-other-preserved g c =
    let l = c.loop-other in
    let more = slice_set l.rest l.other-index c.meet.new.other in
    let h : l.other-index < length l.rest = omega (arith, c.loop-other-test.true, l.auto.rest) in
    let here = c.meet.ensures.seat in
    let met : HasMetOne l.first (get_or l.rest l.other-index c.other-item.result) c.meet.new.self c.meet.new.other = record { linked = c.meet.ensures.linked; number = c.meet.ensures.same.number; here = c.meet.ensures.here; there = c.meet.ensures.there } in
    record {
      first = ap (λ (s : Seat). meets_each s (seats (drop (l.other-index + 1) more))) here
          ∙ (meets_next l.first.seat l.rest l.other-index c.other-item.result c.meet.new.other h ∙ l.invariant.first);
      rest = ap (λ (s : Seat). seats (take (l.other-index + 1) more) ++ met_by_each s (seats (drop (l.other-index + 1) more))) here
          ∙ (met_next l.first.seat l.rest l.other-index c.other-item.result c.meet.new.other h c.meet.ensures.other_seat ∙ l.invariant.rest);
      stays = record {
        same = same_trans c.args.first.now l.first c.meet.new.self l.invariant.stays.same c.meet.ensures.same;
        fault = c.meet.ensures.fault ∙ l.invariant.stays.fault;
        journal = record { meter = c.meet.ensures.journal.meter ∙ l.invariant.stays.journal.meter; kept = c.meet.ensures.journal.kept ∙ l.invariant.stays.journal.kept };
      };
      up = up_to_next Stays c.args.rest.now l.rest l.other-index c.other-item.result c.meet.new.other l.invariant.up h (record { same = c.meet.ensures.other_same; fault = c.meet.ensures.other_fault; journal = c.meet.ensures.other_journal });
      links = links_next c.args.first.now l.first c.meet.new.self c.meet.new.other c.args.rest.now l.rest l.other-index c.other-item.result l.invariant.up l.invariant.links h c.requires.apart l.invariant.stays.same.number met;
    }

pub returns-clause-first : goal.returns-clause-first
returns-clause-first g c = sym (meets_end c.loop-other.first.seat c.loop-other.rest c.loop-other.other-index c.loop-other.auto.rest c.loop-other-test.false) ∙ c.loop-other.invariant.first

pub returns-clause-rest : goal.returns-clause-rest
returns-clause-rest g c = sym (met_end c.loop-other.first.seat c.loop-other.rest c.loop-other.other-index c.loop-other.auto.rest c.loop-other-test.false) ∙ c.loop-other.invariant.rest

pub returns-clause-each : goal.returns-clause-each
returns-clause-each g c = up_to_end Stays c.args.rest.now c.loop-other.rest c.loop-other.other-index c.loop-other.invariant.up (omega (arith, c.loop-other-test.false, c.loop-other.auto.rest, c.loop-other.invariant.up.len))

pub returns-clause-linked : goal.returns-clause-linked
returns-clause-linked g c = links_all c.args.first.now c.loop-other.first c.args.rest.now c.loop-other.rest c.loop-other.invariant.links

pub returns-clause-here : goal.returns-clause-here
returns-clause-here g c = c.loop-other.invariant.links.here

pub returns-clause-there : goal.returns-clause-there
returns-clause-there g c = links_plugs c.args.first.now c.loop-other.first c.args.rest.now c.loop-other.rest c.loop-other.invariant.links c.loop-other.invariant.up.len
