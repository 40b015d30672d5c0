use Rattle.std.proofs.Common.{subst, sym}
use Rattle.nsi_disk.specs.Images.{Made}
use Rattle.nsi_disk.proofs.tape.Tape.make_room.Goals as goal

pub invariant_of-self : goal.invariant_of-self
invariant_of-self c = record {
  made = subst Made (sym c.reserve.ensures.same.0) c.args.self.now.made;
  space = c.reserve.ensures.kept c.args.self.now.room.calls c.args.self.now.room.longest c.args.self.now.room.bytes c.args.self.now.space;
}
