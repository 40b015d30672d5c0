use Rattle.std.proofs.Common.{◌≡◌, ◌∙◌, List, Result, sym, subst, arith}
use Rattle.std.specs.Global.{Vec}
use Rattle.std.specs.Prelude.{IfOk}
use Rattle.std.specs.declared.alloc.AllocError.{AllocError}
use Rattle.std.proofs.lemmas.Bool.{eqb-true}
use Rattle.race_judging.specs.declared.judging.Own.{Own}
use Rattle.race_threads.specs.Raced.{AllSame}
use Rattle.race_threads.proofs.racing.weigh.Goals as goal

pub compared-requires-clause-own : goal.compared-requires-clause-own
compared-requires-clause-own g c = eqb-true c.args.book.now.book.agent c.args.race.now.provider (sym c.is_of.ensures ∙ c.if-is_of.true)

pub compared-requires-clause-same : goal.compared-requires-clause-same
compared-requires-clause-same g c = λ one.
    let t = c.args.topology.now in
    let race = c.args.race.now in
    let book = c.args.book.now.book in
    let running : book.faults ≡ 0 = omega (arith, c.faults.ensures, c.if-faults-gt0.false) in
    let same = subst (λ (r : Result (Vec Own) AllocError). IfOk r (λ v. AllSame t race.provider race.start book.events v.items)) c.in-Ok.is (c.requires.same one running) in
    subst (λ (l : List Own). AllSame t race.provider race.start book.events l) (sym c.deref.ensures.value) same
