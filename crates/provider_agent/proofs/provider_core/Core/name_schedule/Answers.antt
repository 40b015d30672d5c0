use Rattle.std.proofs.Common.{◌≡◌, ◌∙◌, ℕ, Some, Contains, sym, ap, subst}
use Rattle.std.proofs.lemmas.List.{get_or_read}
use Rattle.provider_agent.specs.State.{record_at, no_record}
use Rattle.provider_agent.specs.Indexed.{deadline_of}
use Rattle.provider_agent.proofs.provider_core.Core.name_schedule.Goals as goal

pub returns-clause-named : goal.returns-clause-named
returns-clause-named c =
    let at : record_at c.args.place c.args.self.now.records.items ≡ c.index.result.now =
    sym (get_or_read c.args.self.now.records.items c.args.place c.index.result.now c.requires.within c.index.ensures no_record) in
    let is : (record_at c.args.place c.args.self.now.records.items).pending ≡ Some c.in-Some.criteria = ap (λ r. r.pending) at ∙ c.in-Some.is in
    let start_is : c.get.result ≡ c.in-Some.criteria.interval.start = c.get.ensures.value ∙ c.start.ensures.start in
    let end_is : c.get-2.result ≡ c.in-Some.criteria.interval.end = c.get-2.ensures.value ∙ c.end.ensures.end in
    rw is (
      subst (λ (t : ℕ). Contains c.name_second-2.new.self.deadlines (deadline_of t c.args.place)) start_is
          (c.name_second-2.ensures.before (deadline_of c.get.result c.args.place) c.in_ok-name_second.ensures.named),
      subst (λ (t : ℕ). Contains c.name_second-2.new.self.deadlines (deadline_of t c.args.place)) end_is c.in_ok-name_second-2.ensures.named,
    )
