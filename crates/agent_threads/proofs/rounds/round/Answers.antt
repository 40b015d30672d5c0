use Rattle.std.proofs.Common.{◌≡◌, ◌∙◌, sym, refl, ap, arith, length, Err}
use Rattle.std.specs.Prelude.{Some}
use Rattle.nsi_agent.specs.Homes.{home_in}
use Rattle.nsi_play.specs.Rounds.{met_all}
use Rattle.agent_threads.specs.declared.fault.RoundFault.{RoundFault}
use Rattle.agent_threads.specs.Nets.{seats_by}
use Rattle.agent_threads.specs.Made.{first_failure, first_stop, stops_in}
use Rattle.agent_threads.proofs.Same.{links_same, still_of, still_apart, still_wired, same_twice, stays_same, stays_usable, same_agents_twice, stays_agents}
use Rattle.agent_threads.proofs.Turning.{turns_agents, turns_long, turns_disk, turns_stopped, all_usable, failure_is_no_stop, is_a_stop, failures_met, stops_met, risen_met, failure_first, stop_first, same_err, events_round, met_round}
use Rattle.agent_threads.proofs.Stopping.{may_go, halts_links, halts_owned, halts_move, round_halts, met_may_go, met_were_owned}
use Rattle.agent_threads.proofs.Seen.{turns_seen, met_seen}
use Rattle.agent_threads.proofs.Owning.{turns_owned, met_owned}
use Rattle.agent_threads.proofs.Showing.{turns_count, meets_count, round_plain}
use Rattle.agent_threads.proofs.Going.{turns_move, met_move, move_twice}
use Rattle.agent_threads.proofs.rounds.round.Goals as goal

pub returns-in-Some-clause-long : goal.returns-in-Some-clause-long
returns-in-Some-clause-long g c = λ t o routes r b w h.
    let f : first_failure c.turn_all.new.nodes.items ≡ Some RoundFault.Long = ap first_failure (sym c.deref.ensures.value) ∙ (sym c.first_failure.ensures ∙ c.in-Some.is) ∙ same_err (Err c.in-Some.fault) refl h in
    let long = turns_long c.args.room c.args.nodes.now.items c.turn_all.new.nodes.items c.turn_all.ensures f t o routes r b w in
    omega (arith, long, ap length (events_round (home_in t routes) (seats_by b c.args.nodes.now.items)))

pub returns-in-Some-clause-disk : goal.returns-in-Some-clause-disk
returns-in-Some-clause-disk g c = λ a h. turns_disk c.args.room a c.args.nodes.now.items c.turn_all.new.nodes.items c.turn_all.ensures (ap first_failure (sym c.deref.ensures.value) ∙ (sym c.first_failure.ensures ∙ c.in-Some.is) ∙ same_err (Err c.in-Some.fault) refl h)

pub returns-in-Some-clause-stopped : goal.returns-in-Some-clause-stopped
returns-in-Some-clause-stopped g c = λ a h.
    let f : first_failure c.turn_all.new.nodes.items ≡ Some (RoundFault.Stopped a) = ap first_failure (sym c.deref.ensures.value) ∙ (sym c.first_failure.ensures ∙ c.in-Some.is) ∙ same_err (Err c.in-Some.fault) refl h in
    absurd (failure_is_no_stop c.turn_all.new.nodes.items (RoundFault.Stopped a) f tt)

pub returns-in-Some-clause-halts : goal.returns-in-Some-clause-halts
returns-in-Some-clause-halts g c = λ t o routes r w s. absurd (failure_is_no_stop c.turn_all.new.nodes.items c.in-Some.fault (ap first_failure (sym c.deref.ensures.value) ∙ (sym c.first_failure.ensures ∙ c.in-Some.is)) s)

pub returns-in-Some-clause-halted : goal.returns-in-Some-clause-halted
returns-in-Some-clause-halted g c = λ s. absurd (failure_is_no_stop c.turn_all.new.nodes.items c.in-Some.fault (ap first_failure (sym c.deref.ensures.value) ∙ (sym c.first_failure.ensures ∙ c.in-Some.is)) s)

pub returns-in-Some-clause-still : goal.returns-in-Some-clause-still
returns-in-Some-clause-still g c = λ s. absurd (failure_is_no_stop c.turn_all.new.nodes.items c.in-Some.fault (ap first_failure (sym c.deref.ensures.value) ∙ (sym c.first_failure.ensures ∙ c.in-Some.is)) s)

pub returns-in-Some-clause-were : goal.returns-in-Some-clause-were
returns-in-Some-clause-were g c = λ t o routes r w s. absurd (failure_is_no_stop c.turn_all.new.nodes.items c.in-Some.fault (ap first_failure (sym c.deref.ensures.value) ∙ (sym c.first_failure.ensures ∙ c.in-Some.is)) s)

pub returns-in-Some-clause-moved : goal.returns-in-Some-clause-moved
returns-in-Some-clause-moved g c = λ t o routes r b w s. absurd (failure_is_no_stop c.turn_all.new.nodes.items c.in-Some.fault (ap first_failure (sym c.deref.ensures.value) ∙ (sym c.first_failure.ensures ∙ c.in-Some.is)) s)

pub returns-in-Some-clause-first : goal.returns-in-Some-clause-first
returns-in-Some-clause-first g c = failure_first c.turn_all.new.nodes.items c.in-Some.fault (ap first_failure (sym c.deref.ensures.value) ∙ (sym c.first_failure.ensures ∙ c.in-Some.is))

pub returns-in-Some-clause-agents : goal.returns-in-Some-clause-agents
returns-in-Some-clause-agents g c = turns_agents c.args.room c.args.nodes.now.items c.turn_all.new.nodes.items c.turn_all.ensures

pub returns-in-Some-clause-plain : goal.returns-in-Some-clause-plain
returns-in-Some-clause-plain g c = λ t o routes r b w s. absurd (failure_is_no_stop c.turn_all.new.nodes.items c.in-Some.fault (ap first_failure (sym c.deref.ensures.value) ∙ (sym c.first_failure.ensures ∙ c.in-Some.is)) s)

pub returns-in-Some-clause-counts : goal.returns-in-Some-clause-counts
returns-in-Some-clause-counts g c = turns_count c.args.room c.args.nodes.now.items c.turn_all.new.nodes.items c.turn_all.ensures

pub meet_all-requires-clause-apart : goal.meet_all-requires-clause-apart
meet_all-requires-clause-apart g c =
    let links = halts_links c.args.room c.args.nodes.now.items c.turn_all.new.nodes.items c.turn_all.ensures (may_go c.turn_all.new.nodes.items (ap first_failure (sym c.deref.ensures.value) ∙ (sym c.first_failure.ensures ∙ c.in_default.is))) in
    still_apart c.args.nodes.now.items c.turn_all.new.nodes.items (links_same c.args.nodes.now.items c.turn_all.new.nodes.items links) c.requires.net.apart

pub meet_all-requires-clause-wired : goal.meet_all-requires-clause-wired
meet_all-requires-clause-wired g c = still_wired c.args.nodes.now.items c.turn_all.new.nodes.items (halts_links c.args.room c.args.nodes.now.items c.turn_all.new.nodes.items c.turn_all.ensures (may_go c.turn_all.new.nodes.items (ap first_failure (sym c.deref.ensures.value) ∙ (sym c.first_failure.ensures ∙ c.in_default.is)))) c.requires.net.wired

pub returns-in-Some-first_stop-clause-long : goal.returns-in-Some-first_stop-clause-long
returns-in-Some-first_stop-clause-long g c = λ t o routes r b w h. absurd (is_a_stop c.meet_all.new.nodes.items RoundFault.Long (ap first_stop (sym c.deref-2.ensures.value) ∙ (sym c.first_stop.ensures ∙ c.in-Some-first_stop.is) ∙ same_err (Err c.in-Some-first_stop.stop) refl h))

pub returns-in-Some-first_stop-clause-disk : goal.returns-in-Some-first_stop-clause-disk
returns-in-Some-first_stop-clause-disk g c = λ a h. absurd (is_a_stop c.meet_all.new.nodes.items (RoundFault.DiskFault a) (ap first_stop (sym c.deref-2.ensures.value) ∙ (sym c.first_stop.ensures ∙ c.in-Some-first_stop.is) ∙ same_err (Err c.in-Some-first_stop.stop) refl h))

pub returns-in-Some-first_stop-clause-stopped : goal.returns-in-Some-first_stop-clause-stopped
returns-in-Some-first_stop-clause-stopped g c = λ a h.
    let f : first_stop c.turn_all.new.nodes.items ≡ Some (RoundFault.Stopped a) = sym (stops_met c.turn_all.new.nodes.items c.meet_all.new.nodes.items c.meet_all.ensures.each) ∙ (ap first_stop (sym c.deref-2.ensures.value) ∙ (sym c.first_stop.ensures ∙ c.in-Some-first_stop.is) ∙ same_err (Err c.in-Some-first_stop.stop) refl h) in
    risen_met stops_in a c.args.nodes.now.items c.turn_all.new.nodes.items c.meet_all.new.nodes.items c.meet_all.ensures.each (turns_stopped c.args.room a c.args.nodes.now.items c.turn_all.new.nodes.items c.turn_all.ensures f)

pub returns-in-Some-first_stop-clause-halts : goal.returns-in-Some-first_stop-clause-halts
returns-in-Some-first_stop-clause-halts g c = λ t o routes r w s cuts agrees.
    round_halts c.args.room c.args.nodes.now.items c.turn_all.new.nodes.items c.meet_all.new.nodes.items c.turn_all.ensures (may_go c.turn_all.new.nodes.items (ap first_failure (sym c.deref.ensures.value) ∙ (sym c.first_failure.ensures ∙ c.in_default.is))) c.meet_all.ensures.each c.meet_all.ensures.all t o routes r w cuts agrees

pub returns-in-Some-first_stop-clause-halted : goal.returns-in-Some-first_stop-clause-halted
returns-in-Some-first_stop-clause-halted g c = λ s.
    let may = may_go c.turn_all.new.nodes.items (ap first_failure (sym c.deref.ensures.value) ∙ (sym c.first_failure.ensures ∙ c.in_default.is)) in
    let links = halts_links c.args.room c.args.nodes.now.items c.turn_all.new.nodes.items c.turn_all.ensures may in
    let apart = still_apart c.args.nodes.now.items c.turn_all.new.nodes.items (links_same c.args.nodes.now.items c.turn_all.new.nodes.items links) c.requires.net.apart in
    record {
      going = met_may_go c.turn_all.new.nodes.items c.meet_all.new.nodes.items c.meet_all.ensures.each may;
      apart = still_apart c.turn_all.new.nodes.items c.meet_all.new.nodes.items (stays_same c.turn_all.new.nodes.items c.meet_all.new.nodes.items c.meet_all.ensures.each) apart;
      wired = c.meet_all.ensures.wired;
    }

pub returns-in-Some-first_stop-clause-still : goal.returns-in-Some-first_stop-clause-still
returns-in-Some-first_stop-clause-still g c = λ s. same_twice c.args.nodes.now.items c.turn_all.new.nodes.items c.meet_all.new.nodes.items (links_same c.args.nodes.now.items c.turn_all.new.nodes.items (halts_links c.args.room c.args.nodes.now.items c.turn_all.new.nodes.items c.turn_all.ensures (may_go c.turn_all.new.nodes.items (ap first_failure (sym c.deref.ensures.value) ∙ (sym c.first_failure.ensures ∙ c.in_default.is))))) (stays_same c.turn_all.new.nodes.items c.meet_all.new.nodes.items c.meet_all.ensures.each)

pub returns-in-Some-first_stop-clause-were : goal.returns-in-Some-first_stop-clause-were
returns-in-Some-first_stop-clause-were g c = λ t o routes r w s.
    met_were_owned (home_in t routes) c.turn_all.new.nodes.items c.meet_all.new.nodes.items c.meet_all.ensures.each c.meet_all.ensures.all (halts_owned c.args.room c.args.nodes.now.items c.turn_all.new.nodes.items c.turn_all.ensures (may_go c.turn_all.new.nodes.items (ap first_failure (sym c.deref.ensures.value) ∙ (sym c.first_failure.ensures ∙ c.in_default.is))) t o routes r w)

pub returns-in-Some-first_stop-clause-moved : goal.returns-in-Some-first_stop-clause-moved
returns-in-Some-first_stop-clause-moved g c = λ t o routes r b w s.
    move_twice 0 c.args.nodes.now.items c.turn_all.new.nodes.items c.meet_all.new.nodes.items (halts_move c.args.room c.args.nodes.now.items c.turn_all.new.nodes.items c.turn_all.ensures (may_go c.turn_all.new.nodes.items (ap first_failure (sym c.deref.ensures.value) ∙ (sym c.first_failure.ensures ∙ c.in_default.is))) t o routes r) (met_move c.turn_all.new.nodes.items c.meet_all.new.nodes.items c.meet_all.ensures.each c.meet_all.ensures.all)

pub returns-in-Some-first_stop-clause-first : goal.returns-in-Some-first_stop-clause-first
returns-in-Some-first_stop-clause-first g c = stop_first c.meet_all.new.nodes.items c.in-Some-first_stop.stop (failures_met c.turn_all.new.nodes.items c.meet_all.new.nodes.items c.meet_all.ensures.each ∙ (ap first_failure (sym c.deref.ensures.value) ∙ (sym c.first_failure.ensures ∙ c.in_default.is))) (ap first_stop (sym c.deref-2.ensures.value) ∙ (sym c.first_stop.ensures ∙ c.in-Some-first_stop.is))

pub returns-in-Some-first_stop-clause-agents : goal.returns-in-Some-first_stop-clause-agents
returns-in-Some-first_stop-clause-agents g c = same_agents_twice c.args.nodes.now.items c.turn_all.new.nodes.items c.meet_all.new.nodes.items (turns_agents c.args.room c.args.nodes.now.items c.turn_all.new.nodes.items c.turn_all.ensures) (stays_agents c.turn_all.new.nodes.items c.meet_all.new.nodes.items c.meet_all.ensures.each)

pub returns-in-Some-first_stop-clause-plain : goal.returns-in-Some-first_stop-clause-plain
returns-in-Some-first_stop-clause-plain g c = λ t o routes r b w s cuts agrees.
    round_plain c.args.room c.args.nodes.now.items c.turn_all.new.nodes.items c.meet_all.new.nodes.items c.turn_all.ensures (may_go c.turn_all.new.nodes.items (ap first_failure (sym c.deref.ensures.value) ∙ (sym c.first_failure.ensures ∙ c.in_default.is))) c.meet_all.ensures.each c.meet_all.ensures.all t o routes r cuts agrees

pub returns-in-Some-first_stop-clause-counts : goal.returns-in-Some-first_stop-clause-counts
returns-in-Some-first_stop-clause-counts g c = meets_count c.args.nodes.now.items c.turn_all.new.nodes.items c.meet_all.new.nodes.items (turns_count c.args.room c.args.nodes.now.items c.turn_all.new.nodes.items c.turn_all.ensures) c.meet_all.ensures.each

pub returns-in-None-clause-counts : goal.returns-in-None-clause-counts
returns-in-None-clause-counts g c = meets_count c.args.nodes.now.items c.turn_all.new.nodes.items c.meet_all.new.nodes.items (turns_count c.args.room c.args.nodes.now.items c.turn_all.new.nodes.items c.turn_all.ensures) c.meet_all.ensures.each

pub returns-in-None-clause-ok : goal.returns-in-None-clause-ok
returns-in-None-clause-ok g c = λ t o routes r b w.
    let usable = all_usable c.turn_all.new.nodes.items (ap first_failure (sym c.deref.ensures.value) ∙ (sym c.first_failure.ensures ∙ c.in_default.is)) (sym (stops_met c.turn_all.new.nodes.items c.meet_all.new.nodes.items c.meet_all.ensures.each) ∙ (ap first_stop (sym c.deref-2.ensures.value) ∙ (sym c.first_stop.ensures ∙ c.in-None.is))) in
    met_seen b c.turn_all.new.nodes.items c.meet_all.new.nodes.items c.meet_all.ensures.each c.meet_all.ensures.all
    ∙ (ap met_all (turns_seen c.args.room b c.args.nodes.now.items c.turn_all.new.nodes.items c.turn_all.ensures usable t o routes r w) ∙ met_round (home_in t routes) (seats_by b c.args.nodes.now.items))

pub returns-in-None-clause-net : goal.returns-in-None-clause-net
returns-in-None-clause-net g c =
    let links = halts_links c.args.room c.args.nodes.now.items c.turn_all.new.nodes.items c.turn_all.ensures (may_go c.turn_all.new.nodes.items (ap first_failure (sym c.deref.ensures.value) ∙ (sym c.first_failure.ensures ∙ c.in_default.is))) in
    let apart = still_apart c.args.nodes.now.items c.turn_all.new.nodes.items (links_same c.args.nodes.now.items c.turn_all.new.nodes.items links) c.requires.net.apart in
    record {
      usable = stays_usable c.turn_all.new.nodes.items c.meet_all.new.nodes.items c.meet_all.ensures.each (all_usable c.turn_all.new.nodes.items (ap first_failure (sym c.deref.ensures.value) ∙ (sym c.first_failure.ensures ∙ c.in_default.is)) (sym (stops_met c.turn_all.new.nodes.items c.meet_all.new.nodes.items c.meet_all.ensures.each) ∙ (ap first_stop (sym c.deref-2.ensures.value) ∙ (sym c.first_stop.ensures ∙ c.in-None.is))));
      apart = still_apart c.turn_all.new.nodes.items c.meet_all.new.nodes.items (stays_same c.turn_all.new.nodes.items c.meet_all.new.nodes.items c.meet_all.ensures.each) apart;
      wired = c.meet_all.ensures.wired;
    }

pub returns-in-None-clause-same : goal.returns-in-None-clause-same
returns-in-None-clause-same g c = same_twice c.args.nodes.now.items c.turn_all.new.nodes.items c.meet_all.new.nodes.items (links_same c.args.nodes.now.items c.turn_all.new.nodes.items (halts_links c.args.room c.args.nodes.now.items c.turn_all.new.nodes.items c.turn_all.ensures (may_go c.turn_all.new.nodes.items (ap first_failure (sym c.deref.ensures.value) ∙ (sym c.first_failure.ensures ∙ c.in_default.is))))) (stays_same c.turn_all.new.nodes.items c.meet_all.new.nodes.items c.meet_all.ensures.each)

pub returns-in-None-clause-agents : goal.returns-in-None-clause-agents
returns-in-None-clause-agents g c = same_agents_twice c.args.nodes.now.items c.turn_all.new.nodes.items c.meet_all.new.nodes.items (turns_agents c.args.room c.args.nodes.now.items c.turn_all.new.nodes.items c.turn_all.ensures) (stays_agents c.turn_all.new.nodes.items c.meet_all.new.nodes.items c.meet_all.ensures.each)

pub returns-in-None-clause-owned : goal.returns-in-None-clause-owned
returns-in-None-clause-owned g c = λ t o routes r w.
    let usable = all_usable c.turn_all.new.nodes.items (ap first_failure (sym c.deref.ensures.value) ∙ (sym c.first_failure.ensures ∙ c.in_default.is)) (sym (stops_met c.turn_all.new.nodes.items c.meet_all.new.nodes.items c.meet_all.ensures.each) ∙ (ap first_stop (sym c.deref-2.ensures.value) ∙ (sym c.first_stop.ensures ∙ c.in-None.is))) in
    let links = halts_links c.args.room c.args.nodes.now.items c.turn_all.new.nodes.items c.turn_all.ensures (may_go c.turn_all.new.nodes.items (ap first_failure (sym c.deref.ensures.value) ∙ (sym c.first_failure.ensures ∙ c.in_default.is))) in
    met_owned c.turn_all.new.nodes.items c.meet_all.new.nodes.items c.meet_all.ensures.each c.meet_all.ensures.all t (still_of t c.args.nodes.now.items c.turn_all.new.nodes.items (links_same c.args.nodes.now.items c.turn_all.new.nodes.items links) o) routes r (turns_owned c.args.room c.args.nodes.now.items c.turn_all.new.nodes.items c.turn_all.ensures usable t o routes r w)

pub returns-in-None-clause-moves : goal.returns-in-None-clause-moves
returns-in-None-clause-moves g c = λ t o routes r b w.
    let usable = all_usable c.turn_all.new.nodes.items (ap first_failure (sym c.deref.ensures.value) ∙ (sym c.first_failure.ensures ∙ c.in_default.is)) (sym (stops_met c.turn_all.new.nodes.items c.meet_all.new.nodes.items c.meet_all.ensures.each) ∙ (ap first_stop (sym c.deref-2.ensures.value) ∙ (sym c.first_stop.ensures ∙ c.in-None.is))) in
    move_twice 0 c.args.nodes.now.items c.turn_all.new.nodes.items c.meet_all.new.nodes.items (turns_move c.args.room c.args.nodes.now.items c.turn_all.new.nodes.items c.turn_all.ensures usable t o routes r b w) (met_move c.turn_all.new.nodes.items c.meet_all.new.nodes.items c.meet_all.ensures.each c.meet_all.ensures.all)
