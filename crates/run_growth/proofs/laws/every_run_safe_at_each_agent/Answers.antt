use Rattle.run_growth.proofs.Together.{every_run_is_safe}
use Rattle.run_growth.proofs.laws.every_run_safe_at_each_agent.Goals as goal

pub returns : goal.returns
returns c =
    every_run_is_safe (record {
      capped = c.capped.ensures;
      checks = c.honest.ensures.checks;
      alone = c.honest.ensures.alone;
      rise = c.rising.ensures.rise;
      stay = c.rising.ensures.stay;
    })
