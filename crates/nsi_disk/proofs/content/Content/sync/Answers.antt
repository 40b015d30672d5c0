use Rattle.std.proofs.Common.{rules}
use Rattle.nsi_disk.proofs.Back.{sync_done}
use Rattle.nsi_disk.proofs.content.Content.sync.Goals as goal

pub returns-clause-done : goal.returns-clause-done
returns-clause-done c = sync_done c.args.self.now.log.items c.push_reserved.new.self.items _ _ (search rules)
