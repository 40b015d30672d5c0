use Rattle.std.proofs.Common.{rules}
use Rattle.nsi_disk.proofs.Back.{pause_done}
use Rattle.nsi_disk.proofs.content.Content.pause.Goals as goal

pub returns-clause-done : goal.returns-clause-done
returns-clause-done c = pause_done c.args.self.now.log.items c.push_reserved.new.self.items _ _ (search rules)
