use Rattle.std.proofs.Common.{arith, length, subst, sym, ap}
use Rattle.provider_agent.specs.Indexed.{NamesWork}
use Rattle.provider_agent.proofs.provider.Provider.waiting_work.Goals as goal

pub waiting_work-requires-clause-few : goal.waiting_work-requires-clause-few
waiting_work-requires-clause-few c = omega (arith, c.self.invariant.most, c.self.invariant.good.few, ap length c.deref.ensures.value)

pub waiting_work-requires-clause-named : goal.waiting_work-requires-clause-named
waiting_work-requires-clause-named c = subst (λ rs. NamesWork rs c.self.inside.core.waiting) (sym c.deref.ensures.value) c.self.invariant.consistent.indexed.works
