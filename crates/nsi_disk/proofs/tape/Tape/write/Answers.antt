use Rattle.std.proofs.Common.{rules, ◌≤◌, List, ℕ, subst, ◌+◌, length}
use Rattle.nsi_disk.proofs.Space.{space_after, room_after, reads_told, write_kept}
use Rattle.nsi_disk.proofs.tape.Tape.write.Goals as goal

pub invariant_of-self : goal.invariant_of-self
invariant_of-self c = record {
  made = write_kept c.write.result c.args.place c.args.piece.now c.args.self.now.content _ c.requires c.args.self.now.made c.write.ensures.done c.write.ensures.leaves.same;
  space = space_after c.write.result c.args.self.now.room.calls _ _ _ c.args.self.now.room.bytes _ (c.args.place + length c.args.piece.now) (length c.args.piece.now) c.args.self.now.content _ c.args.self.now.space c.take.ensures.longest (search rules) (search rules) (search rules) c.write.ensures.leaves.room c.write.ensures.leaves.kept;
}

pub returns-clause-room : goal.returns-clause-room
returns-clause-room c = room_after c.write.result c.args.self.now.room.calls _ c.args.self.now.room.longest c.args.self.now.room.bytes _ (c.args.place + length c.args.piece.now) (length c.args.piece.now) c.args.self.now.content c.write.new.self c.args.self.now.space (search rules) (search rules) c.write.ensures.leaves.room

pub write-requires : goal.write-requires
write-requires c = subst (λ (l : List ℕ). c.args.place ≤ length l) (reads_told c.args.self.now.content) c.requires
