use Rattle.std.proofs.Common.{sym, subst}
use Rattle.nsi_primitive.specs.declared.message.Parcel.{Parcel}
use Rattle.nsi_agent.specs.Homes.{home_in}
use Rattle.trace_reader.specs.Laws.{AreTextsReadAgain}
use Rattle.trace_verify.specs.Parcels.{taken_now}
use Rattle.trace_verify.specs.Standing.{HasHappened}
use Rattle.trace_verify.specs.Steps.{IsStep}
use Rattle.trace_verify.specs.Traces.{world_of}
use Rattle.trace_verify.proofs.Delivering.{delivery_alone, event_alone}
use Rattle.trace_verify.proofs.Offering.{delivered}
use Rattle.trace_verify.proofs.step.follow_delivery.Goals as goal

pub returns-in_ok-is_allowed-in-Message-clause-step : goal.returns-in_ok-is_allowed-in-Message-clause-step
returns-in_ok-is_allowed-in-Message-clause-step c = λ routes are es shows fair count.
    let t = c.args.topology.now in
    let homes = home_in t routes in
    let d = c.args.delivery in
    let line = c.args.line.now in
    let y = c.take_got.new.self in
    let is = c.in_ok-is_allowed-in-Message.is_allowed in
    let alone = delivery_alone (record { asks = c.asks_are_read_again.ensures; messages = c.lines_are_read_again.ensures.messages; acks = c.lines_are_read_again.ensures.acks }) t homes es line d c.requires.follower.names c.requires.line in
    let happened = subst (λ p. HasHappened homes (world_of es) d.agent (taken_now homes (world_of es) d.agent p) y is) (sym c.in-Message.is) (c.in_ok-is_allowed-in-Message.ensures.happened routes are (world_of es) shows fair) in
    subst (IsStep t homes es line y) (sym c.step_of.ensures) (delivered t routes es line d y c.args.asks is c.facts.ensures alone happened count)

pub returns-in_ok-step-in-Ack-clause-step : goal.returns-in_ok-step-in-Ack-clause-step
returns-in_ok-step-in-Ack-clause-step c = λ routes are es shows fair count.
    let t = c.args.topology.now in
    let homes = home_in t routes in
    let d = c.args.delivery in
    let texts : AreTextsReadAgain = record { asks = c.asks_are_read_again.ensures; messages = c.lines_are_read_again.ensures.messages; acks = c.lines_are_read_again.ensures.acks } in
    c.in_ok-step-in-Ack.ensures.step routes are es shows fair count
    (event_alone texts t homes es c.args.line.now d (Parcel.Ack c.in-Ack.identity) c.second.result c.acked-event.result c.requires.follower.names c.requires.line c.in-Ack.is (c.second.ensures routes are (world_of es) shows fair)
    c.acked-event.ensures)
