use Rattle.std.proofs.Common.{rules, arith, ◌+◌}
use Rattle.nsi_disk.proofs.Space.{space_after, room_after, pause_kept}
use Rattle.nsi_disk.proofs.tape.Tape.pause.Goals as goal

pub invariant_of-self : goal.invariant_of-self
invariant_of-self c = record {
  made = pause_kept c.pause.result c.args.self.now.content _ c.args.self.now.made c.pause.ensures.done c.pause.ensures.leaves.same;
  space = space_after c.pause.result c.args.self.now.room.calls _ _ _ c.args.self.now.room.bytes _ (c.args.place + c.args.n) 0 c.args.self.now.content _ c.args.self.now.space c.take.ensures.longest (search rules) (search rules) (search rules) (λ k l m s r b. c.pause.ensures.leaves.room k l m s (omega arith) b) c.pause.ensures.leaves.kept;
}

pub returns-clause-room : goal.returns-clause-room
returns-clause-room c = room_after c.pause.result c.args.self.now.room.calls _ c.args.self.now.room.longest c.args.self.now.room.bytes _ (c.args.place + c.args.n) 0 c.args.self.now.content c.pause.new.self c.args.self.now.space (search rules) (search rules) (λ k l m s r b. c.pause.ensures.leaves.room k l m s (omega arith) b)
