use Rattle.std.proofs.Common.{◌≡◌, ◌∙◌, ap, sym, refl, length, Some, None}
use Rattle.std.proofs.lemmas.List.{get_or_read_under}
use Rattle.nsi_primitive.specs.Kinds.{is_both_ways}
use Rattle.connection_record.specs.declared.record.Record.{Record}
use Rattle.provider_agent.specs.State.{no_record, record_at}
use Rattle.provider_agent.specs.Others.{cause_among}
use Rattle.provider_agent.specs.Kept.{plan_lack}
use Rattle.provider_agent.proofs.Loads.{same_lack}
use Rattle.provider_agent.proofs.Putting.{no_lack}
use Rattle.provider_agent.proofs.work.put.Goals as goal

pub put-requires-clause-fits : goal.put-requires-clause-fits
put-requires-clause-fits c =
    let plan = c.args.calendar.now in
    let records = c.args.records.now in
    let n = c.args.place in
    let own = c.index-records-place.result in
    let criteria = c.in-Some.criteria in
    let own_is : own ≡ record_at n records = get_or_read_under records n (length records) own no_record c.index-records-place.is c.requires.within refl in
    let pending_is : (record_at n records).pending ≡ Some criteria = ap (λ (r : Record). r.pending) (sym own_is) ∙ c.in-Some.is in
    let fits : cause_among plan.capacities records c.args.now n (Some criteria) ≡ None = ap (cause_among plan.capacities records c.args.now n) (sym pending_is) ∙ c.requires.fits in
    let lack = λ (r : Record). plan_lack plan n (is_both_ways r.service.directionality) r.source r.dest criteria in
    let found : lack own ≡ None = ap lack own_is ∙ (same_lack plan records n criteria c.requires.kept c.facts.ensures.one_each c.requires.within ∙ no_lack plan.capacities records c.args.now n criteria fits) in
    ap (λ k. plan_lack plan k c.is_both_ways.result own.source own.dest criteria) c.number_of.ensures ∙ (ap (λ b. plan_lack plan n b own.source own.dest criteria) c.is_both_ways.ensures ∙ found)
