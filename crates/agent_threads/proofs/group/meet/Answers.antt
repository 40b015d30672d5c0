use Rattle.std.proofs.Common.{◌≡◌, ap, Err, true}
use Rattle.nsi_agent.specs.Homes.{home_in}
use Rattle.nsi_play.specs.Rounds.{round}
use Rattle.stopped_play.specs.Tapes.{Cuts}
use Rattle.stopped_play.specs.Rounds.{round_by}
use Rattle.agent_threads.specs.Nets.{seats, seats_by, AreNet}
use Rattle.agent_threads.specs.Leaving.{StayOwned}
use Rattle.agent_threads.specs.Stopping.{AgreesWith}
use Rattle.agent_threads.proofs.Stopping.{net_halted, round_calm, usable_were}
use Rattle.agent_threads.proofs.Showing.{on_stop, stop_not_calm, stop_then, stop_shown, was_long, met_cause}
use Rattle.agent_threads.proofs.group.meet.Goals as goal

pub returns-in-Ok-clause-halts : goal.returns-in-Ok-clause-halts
returns-in-Ok-clause-halts g c = λ t o routes r w cuts agrees.
    round_calm (home_in t routes) cuts c.args.nodes.now.items c.round.new.nodes.items c.in-Ok.ensures.same c.in-Ok.ensures.net.usable agrees (c.in-Ok.ensures.ok t o routes r true (λ _. w))

pub returns-in-Ok-clause-halted : goal.returns-in-Ok-clause-halted
returns-in-Ok-clause-halted g c = net_halted c.round.new.nodes.items c.in-Ok.ensures.net

pub returns-in-Ok-clause-were : goal.returns-in-Ok-clause-were
returns-in-Ok-clause-were g c = λ t o routes r w. usable_were (home_in t routes) c.round.new.nodes.items c.in-Ok.ensures.net.usable (c.in-Ok.ensures.owned t o routes r w)

pub returns-in-Err-clause-calm : goal.returns-in-Err-clause-calm
returns-in-Err-clause-calm g c = λ t o routes r b w. stop_not_calm (seats_by b c.round.new.nodes.items ≡ round (home_in t routes) (seats_by b c.args.nodes.now.items)) c.in-Err.fault c.behind_fault.result c.behind_fault.ensures

pub returns-in-Err-clause-net : goal.returns-in-Err-clause-net
returns-in-Err-clause-net g c = stop_not_calm (AreNet c.round.new.nodes.items) c.in-Err.fault c.behind_fault.result c.behind_fault.ensures

pub returns-in-Err-clause-owned : goal.returns-in-Err-clause-owned
returns-in-Err-clause-owned g c = stop_not_calm (StayOwned c.args.nodes.now.items c.round.new.nodes.items) c.in-Err.fault c.behind_fault.result c.behind_fault.ensures

pub returns-in-Err-clause-halts : goal.returns-in-Err-clause-halts
returns-in-Err-clause-halts g c = λ t o routes r w. on_stop c.in-Err.fault c.behind_fault.result c.behind_fault.ensures (c.in-Err.ensures.halts t o routes r w)

pub returns-in-Err-clause-halted : goal.returns-in-Err-clause-halted
returns-in-Err-clause-halted g c = on_stop c.in-Err.fault c.behind_fault.result c.behind_fault.ensures c.in-Err.ensures.halted

pub returns-in-Err-clause-still : goal.returns-in-Err-clause-still
returns-in-Err-clause-still g c = on_stop c.in-Err.fault c.behind_fault.result c.behind_fault.ensures c.in-Err.ensures.still

pub returns-in-Err-clause-were : goal.returns-in-Err-clause-were
returns-in-Err-clause-were g c = λ t o routes r w. on_stop c.in-Err.fault c.behind_fault.result c.behind_fault.ensures (c.in-Err.ensures.were t o routes r w)

pub returns-in-Err-clause-moved : goal.returns-in-Err-clause-moved
returns-in-Err-clause-moved g c = λ t o routes r b w. on_stop c.in-Err.fault c.behind_fault.result c.behind_fault.ensures (c.in-Err.ensures.moved t o routes r b w)

pub returns-in-Err-clause-long : goal.returns-in-Err-clause-long
returns-in-Err-clause-long g c = λ t o routes r b w h. c.in-Err.ensures.long t o routes r b w (ap (λ e. Err e) (was_long c.in-Err.fault c.behind_fault.result c.behind_fault.ensures h))

pub returns-in-Err-clause-cause : goal.returns-in-Err-clause-cause
returns-in-Err-clause-cause g c = met_cause c.in-Err.fault c.behind_fault.result c.args.nodes.now.items c.round.new.nodes.items c.behind_fault.ensures (λ a e. c.in-Err.ensures.disk a (ap (λ x. Err x) e))

pub returns-in-Err-clause-some : goal.returns-in-Err-clause-some
returns-in-Err-clause-some g c = stop_shown c.round.new.nodes.items c.in-Err.fault c.behind_fault.result c.behind_fault.ensures c.in-Err.ensures.first

pub returns-in-Err-clause-plain : goal.returns-in-Err-clause-plain
returns-in-Err-clause-plain g c = λ t o routes r b w.
    stop_then ((cuts : Cuts) → AgreesWith cuts c.round.new.nodes.items → seats c.round.new.nodes.items ≡ round_by cuts (home_in t routes) (seats c.args.nodes.now.items)) c.in-Err.fault c.behind_fault.result c.behind_fault.ensures (c.in-Err.ensures.plain t o routes r b w)
