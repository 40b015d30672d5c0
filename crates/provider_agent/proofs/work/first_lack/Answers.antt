use Rattle.std.proofs.Common.{◌∙◌, ap}
use Rattle.connection_record.specs.declared.record.Record.{Record}
use Rattle.nsi_primitive.specs.Kinds.{is_both_ways}
use Rattle.provider_agent.specs.Kept.{plan_lack}
use Rattle.provider_agent.proofs.Loads.{same_lack}
use Rattle.provider_agent.proofs.work.first_lack.Goals as goal

pub returns-clause-among : goal.returns-clause-among
returns-clause-among c =
    let plan = c.args.calendar.now in
    let own = c.args.own.now in
    let n = c.args.place in
    let lack = λ (r : Record). plan_lack plan n (is_both_ways r.service.directionality) r.source r.dest c.args.criteria in
    c.first_lack.ensures
    ∙ (ap (λ k. plan_lack plan k c.is_both_ways.result own.source own.dest c.args.criteria) c.number_of.ensures
    ∙ (ap (λ b. plan_lack plan n b own.source own.dest c.args.criteria) c.is_both_ways.ensures
    ∙ (ap lack c.requires.own ∙ same_lack plan c.args.records.now n c.args.criteria c.requires.kept c.facts.ensures.one_each c.requires.within)))
