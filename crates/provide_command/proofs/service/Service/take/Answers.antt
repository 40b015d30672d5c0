use Rattle.std.proofs.Common.{arith, ap}
use Rattle.provide_command.specs.Serving.{Serving}
use Rattle.provide_command.proofs.Serves.{too_many}
use Rattle.provide_command.proofs.service.Service.take.Goals as goal

pub returns-then-taken-most : goal.returns-then-taken-most
returns-then-taken-most c =
    let v = c.self.view_is in
    record {
      entered = too_many c.args.self.now c.args.entry.now
          (omega (arith, c.if-taken-most.true, c.taken.ensures, c.get-most.ensures.value, ap (λ (s : Serving). s.standing.state.taken) v, ap (λ (s : Serving). s.others) v, ap (λ (s : Serving). s.most) v));
      printable = tt;
    }
