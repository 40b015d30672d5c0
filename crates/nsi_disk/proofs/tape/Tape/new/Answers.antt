use Rattle.std.proofs.Common.{subst, sym}
use Rattle.nsi_disk.specs.Images.{Made}
use Rattle.nsi_disk.proofs.Back.{told-none}
use Rattle.nsi_disk.proofs.tape.Tape.new.Goals as goal

pub returns-clause-fresh : goal.returns-clause-fresh
returns-clause-fresh c = told-none c.new-log.result.items c.new-saved.result.items c.args.bytes.items c.new-log.ensures.items

pub invariant_of-result-clause-made : goal.invariant_of-result-clause-made
invariant_of-result-clause-made c = subst Made (sym (told-none c.new-log.result.items c.new-saved.result.items c.args.bytes.items c.new-log.ensures.items)) tt
