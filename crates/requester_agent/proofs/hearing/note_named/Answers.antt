use Rattle.std.proofs.Common.{◌∙◌, inl, inr, sym, subst, Contains}
use Rattle.requester_agent.proofs.Indexed.{some_same}
use Rattle.requester_agent.proofs.hearing.note_named.Goals as goal

pub returns-in_ok-note_places-in-Some-clause-kept : goal.returns-in_ok-note_places-in-Some-clause-kept
returns-in_ok-note_places-in-Some-clause-kept c place has = (c.in_ok-note_places-in-Some.ensures place).1 (inl has)

pub returns-in_ok-note_places-in-Some-clause-named : goal.returns-in_ok-note_places-in-Some-clause-named
returns-in_ok-note_places-in-Some-clause-named c place id named has =
    let same = some_same id c.in-Some.connection (sym (c.in-Some.ensures ∙ named)) in
    (c.in_ok-note_places-in-Some.ensures place).1 (inr (subst (λ n. Contains c.args.ids.now (record { id = n; place = place })) same has))
