use Rattle.std.proofs.Common.{rules, arith, ap, ◌≤◌, List, ℕ, subst, ◌+◌, ◌-◌, length}
use Rattle.nsi_disk.proofs.Space.{space_after, cut_room_after, reads_told, cut_kept}
use Rattle.nsi_disk.proofs.tape.Tape.cut.Goals as goal

pub invariant_of-self : goal.invariant_of-self
invariant_of-self c = record {
  made = cut_kept c.cut.result c.args.len c.args.self.now.content _ c.requires c.args.self.now.made c.cut.ensures.done c.cut.ensures.leaves.same;
  space = space_after c.cut.result c.args.self.now.room.calls _ _ _ c.args.self.now.room.bytes _ (c.args.len + 0) (length c.args.self.now.content.bytes.items - c.args.len) c.args.self.now.content _ c.args.self.now.space c.take.ensures.longest (search rules) (search rules) (search rules) c.cut.ensures.leaves.room c.cut.ensures.leaves.kept;
}

pub returns-clause-room : goal.returns-clause-room
returns-clause-room c = cut_room_after c.cut.result c.args.self.now.room.calls _ c.args.self.now.room.longest c.args.self.now.room.bytes _ c.args.len c.args.self.now.content c.cut.new.self c.args.self.now.space (search rules) (search rules) c.cut.ensures.leaves.room

pub cut-requires : goal.cut-requires
cut-requires c = subst (λ (l : List ℕ). c.args.len ≤ length l) (reads_told c.args.self.now.content) c.requires

pub overflow_sub-length : goal.overflow_sub-length
overflow_sub-length c = omega (arith, ap length (reads_told c.args.self.now.content), c.requires)
