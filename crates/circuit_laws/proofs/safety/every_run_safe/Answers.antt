use Rattle.circuit_laws.proofs.Whole.{every_run_is_safe}
use Rattle.circuit_laws.proofs.safety.every_run_safe.Goals as goal

pub returns : goal.returns
returns c =
    every_run_is_safe (record {
      safe = c.every_run_safe_at_each_agent.ensures;
      backed = c.views.ensures.backed;
      rising = c.views.ensures.rise;
      apart = c.known.ensures.records;
      asked = c.asked_for.ensures;
      living = c.living.ensures;
      circuits = c.circuits.ensures;
    })
