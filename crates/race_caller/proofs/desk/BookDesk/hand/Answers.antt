use Rattle.std.proofs.Common.{rules, false, ◌≡◌, ◌∙◌, Some, None, sym, subst}
use Rattle.std.proofs.lemmas.Option.{same_Some}
use Rattle.shared_provider.specs.Book.{Book}
use Rattle.shared_provider.specs.Answers.{Answers}
use Rattle.shared_provider.specs.Asked.{took_entry}
use Rattle.nsi_primitive.specs.declared.message.Message.{Message}
use Rattle.race_caller.specs.Alone.{IsHanded, lacks_memory}
use Rattle.race_caller.proofs.Handing.{not_a_request, was_handed, not_handed}
use Rattle.race_caller.proofs.desk.BookDesk.hand.Goals as goal

pub returns-then-not-is_request-clause-handed : goal.returns-then-not-is_request-clause-handed
returns-then-not-is_request-clause-handed g c = λ b told.
    let old = c.args.self.now.book in
    subst (λ (d : Book). IsHanded d c.args.request.now (Some old) None) (same_Some old b told) (not_a_request old c.args.request.now (sym c.is_request.ensures ∙ c.if-not-is_request.true))

pub returns-in-Ok-clause-handed : goal.returns-in-Ok-clause-handed
returns-in-Ok-clause-handed g c = λ b told.
    let old = c.args.self.now.book in
    let new = c.took.new.self.book in
    let reply = c.in-Ok.reply in
    let answers = subst (λ (m : Message). Answers (took_entry old.state m) old new reply) c.in_ok-copy.ensures c.in-Ok.ensures.ok in
    subst (λ (d : Book). IsHanded d c.args.request.now (Some new) c.answer_of.result) (same_Some old b told) (was_handed old new c.args.request.now reply c.answer_of.result answers c.answer_of.ensures.parts c.answer_of.ensures.none)

pub returns-in_ok-refused-in-Err-clause-handed : goal.returns-in_ok-refused-in-Err-clause-handed
returns-in_ok-refused-in-Err-clause-handed g c = λ b told.
    let old = c.args.self.now in
    let new = c.took.new.self in
    let kept : lacks_memory c.in-Err.fault ≡ false = search rules in
    subst (λ (d : Book). IsHanded d c.args.request.now (Some new.book) None) (same_Some old.book b told) (not_handed old new c.args.request.now _ c.in-Err.fault c.facts.ensures kept c.in-Err.ensures.err)
