use Rattle.std.proofs.Common.{◌≡◌, true}
use Rattle.nsi_agent.specs.Homes.{home_in}
use Rattle.trace_verify.specs.Traces.{most_asks, world_of}
use Rattle.trace_verify.proofs.Offering.{gone_on, not_allowed}
use Rattle.trace_verify.proofs.step.offer.Goals.{else-is_ask-via-then-is_ask+else-asks-eq-MOST_ASKS, else-is_ask-via-else-is_ask}
use Rattle.trace_verify.proofs.step.offer.Goals as goal

pub returns-then-is_allowed-clause-step : goal.returns-then-is_allowed-clause-step
returns-then-is_allowed-clause-step c = λ routes are es shows fair count alone.
    let room : c.has_ask-is_ask.result ≡ true → c.args.asks ≡ most_asks → ⊥ =
    elim c.else-is_ask.branch [
      | else-is_ask-via-then-is_ask+else-asks-eq-MOST_ASKS w ↦ λ its full. w.if-asks-eq-MOST_ASKS.false full
      | else-is_ask-via-else-is_ask w ↦ λ its full. let none = w.if-is_ask.false in absurd (cc)
    ] in
    gone_on c.args.topology.now routes es c.args.line.now c.args.event c.take.new.self c.args.asks c.count_ask.result c.has_ask-is_ask.result c.in_ok-is_allowed.is_allowed c.facts.ensures alone
    (c.in_ok-is_allowed.ensures.happened routes are (world_of es) shows fair) c.if-is_allowed.true c.has_ask-is_ask.ensures room count c.count_ask.ensures

pub returns-else-is_allowed-clause-step : goal.returns-else-is_allowed-clause-step
returns-else-is_allowed-clause-step c = λ routes are es shows fair count alone.
    let room : c.has_ask-is_ask.result ≡ true → c.args.asks ≡ most_asks → ⊥ =
    elim c.else-is_ask.branch [
      | else-is_ask-via-then-is_ask+else-asks-eq-MOST_ASKS w ↦ λ its full. w.if-asks-eq-MOST_ASKS.false full
      | else-is_ask-via-else-is_ask w ↦ λ its full. let none = w.if-is_ask.false in absurd (cc)
    ] in
    not_allowed c.args.topology.now (home_in c.args.topology.now routes) es c.args.line.now c.args.event c.take.new.self c.args.asks c.has_ask-is_ask.result c.in_ok-is_allowed.is_allowed alone
    (c.in_ok-is_allowed.ensures.happened routes are (world_of es) shows fair) c.if-is_allowed.false c.has_ask-is_ask.ensures room count
