use Rattle.std.proofs.Common.{rules}
use Rattle.nsi_disk.proofs.Space.{space_after, room_after, sync_kept}
use Rattle.nsi_disk.proofs.tape.Tape.sync.Goals as goal

pub invariant_of-self : goal.invariant_of-self
invariant_of-self c = record {
  made = sync_kept c.sync.result c.args.self.now.content _ c.args.self.now.made c.sync.ensures.done c.sync.ensures.leaves.same;
  space = space_after c.sync.result c.args.self.now.room.calls _ _ _ c.args.self.now.room.bytes _ 0 0 c.args.self.now.content _ c.args.self.now.space c.take.ensures.longest (search rules) (search rules) (search rules) c.sync.ensures.leaves.room c.sync.ensures.leaves.kept;
}

pub returns-clause-room : goal.returns-clause-room
returns-clause-room c = room_after c.sync.result c.args.self.now.room.calls _ c.args.self.now.room.longest c.args.self.now.room.bytes _ 0 0 c.args.self.now.content c.sync.new.self c.args.self.now.space (search rules) (search rules) c.sync.ensures.leaves.room
