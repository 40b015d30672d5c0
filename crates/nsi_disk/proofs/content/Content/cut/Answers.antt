use Rattle.std.proofs.Common.{rules, length}
use Rattle.nsi_disk.proofs.Back.{cut_done}
use Rattle.nsi_disk.proofs.content.Content.cut.Goals as goal

pub returns-clause-done : goal.returns-clause-done
returns-clause-done c =
    cut_done c.args.self.now.log.items c.push_reserved.new.self.items c.args.self.now.saved.items c.extend_from_slice.new.self.items c.args.self.now.bytes.items c.truncate.new.self.items
    c.split_at.result.1.now c.args.len (length c.split_at.result.1.now) (search rules) (search rules) (search rules) (search rules) (search rules)
