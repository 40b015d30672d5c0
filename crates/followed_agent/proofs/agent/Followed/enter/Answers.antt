use Rattle.std.proofs.Common.{rules, refl, ◌≡◌, ◌∙◌, ◌++◌, ◌∷◌, [], sym, ap, subst}
use Rattle.std.proofs.lemmas.List.{places}
use Rattle.nsi_primitive.specs.Printable.{IsPrintableEntry}
use Rattle.followed_agent.proofs.Growing.{kept_entry}
use Rattle.followed_agent.proofs.agent.Followed.enter.Goals as goal

pub returns-clause-kept : goal.returns-clause-kept
returns-clause-kept c =
    let x = c.args.self.now in
    let e = c.index-entry.result.now in
    let same : e ≡ c.args.entry = search (rules, places) in
    let one = c.in_ok-answer.ensures in
    kept_entry x _ e c.requires.kept one.network one.number one.state one.out (c.in_ok-push.ensures.items ∙ ap (λ z. x.journal.items ++ z ∷ []) (sym same)) refl refl refl
    (subst IsPrintableEntry (sym same) c.requires.printable) one.printable
