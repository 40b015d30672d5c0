use Rattle.std.proofs.Common.{ap, sym, subst, arith}
use Rattle.provider_agent.specs.Setting.{setting_of}
use Rattle.provider_agent.specs.State.{Standing}
use Rattle.provider_agent.specs.Good.{IsGood}
use Rattle.provider_agent.proofs.GoodAfter.{good_blank}
use Rattle.provider_agent.proofs.provider.Provider.new.Goals as goal

pub invariant_of-result : goal.invariant_of-result
invariant_of-result c =
    let is = c.in_ok-core.ensures.standing in
    record {
      most = omega (arith, ap (λ (x : Standing). x.state.taken) is);
      good = subst (λ (x : Standing). IsGood x.setting x.state) (sym is) (good_blank (setting_of c.args.topology.now c.args.agent));
      consistent = c.in_ok-core.ensures.consistent;
    }
