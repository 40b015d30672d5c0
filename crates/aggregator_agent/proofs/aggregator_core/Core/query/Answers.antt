use Rattle.std.proofs.Common.{false}
use Rattle.aggregator_agent.specs.Core.{state_at}
use Rattle.aggregator_agent.specs.Setting.{setting_of}
use Rattle.aggregator_agent.specs.Steps.{queries}
use Rattle.aggregator_agent.proofs.Answering.{not_recursive, queries_at_once}
use Rattle.aggregator_agent.proofs.Chaining.{same_all}
use Rattle.aggregator_agent.proofs.aggregator_core.Core.query.Goals as goal

pub returns-in_default : goal.returns-in_default
returns-in_default c =
    let d = c.args.self.now in
    let m = c.args.message.now in
    record {
      step = same_all d c.reply.new.self c.reply.result (λ setting s. queries false setting s m) _
          (λ t route. queries_at_once m.body (setting_of t d.agent route) (state_at d) m (not_recursive m.body c.in_default.not-QueryRecursive)) c.reply.ensures.step;
      taken = c.reply.ensures.taken;
    }
