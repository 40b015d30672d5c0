use Rattle.std.proofs.Common.{rules, ◌≡◌, false, Some, subst}
use Rattle.std.proofs.lemmas.Option.{same_Some}
use Rattle.shared_provider.specs.Book.{Book}
use Rattle.race_caller.specs.declared.desk.Work.{Work}
use Rattle.race_caller.specs.Alone.{IsDone, lacks_memory}
use Rattle.race_caller.proofs.Handing.{was_done, not_done}
use Rattle.race_caller.proofs.desk.BookDesk.have_done.Goals as goal

pub returns-in-Ok-clause-done : goal.returns-in-Ok-clause-done
returns-in-Ok-clause-done g c = λ b told.
    let old = c.args.self.now.book in
    let new = c.work.new.self.book in
    subst (λ (d : Book). IsDone d c.args.connection (Some new) c.work_of.result) (same_Some old b told) (was_done old new c.args.connection c.in-Ok.reply c.work_of.result c.in-Ok.ensures.ok c.work_of.ensures.of)

pub returns-in_ok-refused-in-Err-clause-done : goal.returns-in_ok-refused-in-Err-clause-done
returns-in_ok-refused-in-Err-clause-done g c = λ b told.
    let old = c.args.self.now in
    let new = c.work.new.self in
    let kept : lacks_memory c.in-Err.fault ≡ false = search rules in
    subst (λ (d : Book). IsDone d c.args.connection (Some new.book) Work.Refused) (same_Some old.book b told) (not_done old new c.args.connection _ c.in-Err.fault c.facts.ensures kept c.in-Err.ensures.err)
