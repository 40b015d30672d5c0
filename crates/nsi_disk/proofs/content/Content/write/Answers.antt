use Rattle.std.proofs.Common.{rules, length, min, ◌-◌}
use Rattle.nsi_disk.proofs.Back.{write_done}
use Rattle.nsi_disk.proofs.content.Content.write.Goals as goal

pub returns-clause-done : goal.returns-clause-done
returns-clause-done c =
    let s = c.args.self.now in
    write_done s.log.items c.push_reserved.new.self.items s.saved.items c.extend_from_slice.new.self.items s.bytes.items c.overwrite.new.bytes.items
    c.split_at-2.result.0.now c.args.piece.now c.args.place (length c.args.piece.now) (min (length c.args.piece.now) (length s.bytes.items - c.args.place))
    (search rules) (search rules) (search rules) (search rules) (search rules) (search rules) (search rules)
