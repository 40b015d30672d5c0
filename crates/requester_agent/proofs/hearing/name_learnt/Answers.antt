use Rattle.std.proofs.Common.{◌∙◌, sym, subst, Contains}
use Rattle.requester_agent.proofs.Indexed.{some_same}
use Rattle.requester_agent.proofs.hearing.name_learnt.Goals as goal

pub returns-in_ok-name_at-in-Some-clause-named : goal.returns-in_ok-name_at-in-Some-clause-named
returns-in_ok-name_at-in-Some-clause-named c place id named has =
    let same = some_same id c.in-Some.connection (sym (c.in-Some.ensures ∙ named)) in
    subst (λ n. Contains c.name_at.new.ids (record { id = n; place = place })) (sym same) (c.in_ok-name_at-in-Some.ensures.named place has)
