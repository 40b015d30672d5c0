use Rattle.std.proofs.Common.{rules, ◌≡◌, Some, refl}
use Rattle.std.specs.Prelude.{slice_get}
use Rattle.race_caller.proofs.Asking.{picked}
use Rattle.race_caller.proofs.asker.Asker.pick.Goals as goal

pub returns-in_ok-copy-in-Some-2 : goal.returns-in_ok-copy-in-Some-2
returns-in_ok-copy-in-Some-2 c =
    let at : slice_get c.args.out.now 0 ≡ Some c.in-Some.request.now = search rules in
    picked c.args.topology.now c.args.self.now _ c.args.out.now c.in-Some.request.now c.in_ok-copy-in-Some-2.field-0 c.in_ok-copy-in-Some.field-0 c.requires.is c.requires.printable at c.in_ok-copy-in-Some-2.ensures c.in_ok-copy-in-Some.ensures refl
