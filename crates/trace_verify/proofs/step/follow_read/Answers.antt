use Rattle.std.proofs.Common.{ℕ, ◌≡◌, ◌<◌, ◌∙◌, length, ap}
use Rattle.trace_reader.specs.Pasts.{seconds_of}
use Rattle.nsi_agent.specs.Homes.{home_in}
use Rattle.nsi_world.specs.Runs.{asks_of}
use Rattle.trace_verify.specs.Traces.{seconds_in, world_of}
use Rattle.trace_verify.proofs.Offering.{of_others, of_these}
use Rattle.trace_verify.proofs.step.follow_read.Goals as goal

pub returns-in-Ok-clause-step : goal.returns-in-Ok-clause-step
returns-in-Ok-clause-step c = λ routes are es shows fair count.
    let t = c.args.topology.now in
    let line = c.args.line.now in
    let asks = length (asks_of es) in
    let own = seconds_of c.deref.result.now in
    let there = seconds_in (home_in t routes) (world_of es) in
    let same : (a : ℕ) → a < length t.agents → own a ≡ there a =
    λ a within. ap (λ xs. seconds_of xs a) c.deref.ensures.value ∙ c.in_ok-seconds.ensures.value routes are (world_of es) shows fair a within in
    c.in_ok-step-in-Ok.ensures.step routes are es shows fair count
    (record {
      line_of = of_others t own there same c.args.asks asks line count c.in-Ok.event c.in-Ok.ensures.read;
      alone = λ e ranged its. c.in-Ok.ensures.only e ranged (of_these t own there same c.args.asks asks line count e its);
    })
