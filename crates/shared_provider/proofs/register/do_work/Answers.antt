use Rattle.std.proofs.Common.{sym, subst}
use Rattle.std.specs.Prelude.{IfSome}
use Rattle.shared_provider.specs.Asked.{MayBeAsked}
use Rattle.shared_provider.proofs.Asking.{work_fits}
use Rattle.shared_provider.proofs.register.do_work.Goals as goal

pub answer-requires-clause-fits : goal.answer-requires-clause-fits
answer-requires-clause-fits g c =
    let s = c.args.register.now.provider.state in
    subst (λ o. IfSome o (MayBeAsked s)) (sym c.work_entry-asked.ensures) (work_fits s c.args.connection c.in-Ok.ensures.ok.room)

pub returns-in-Err-clause-err : goal.returns-in-Err-clause-err
returns-in-Err-clause-err g c = c.in-Err.ensures.err _ _
