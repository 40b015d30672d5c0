use Rattle.std.proofs.Common.{ap, ◌∙◌}
use Rattle.nsi_disk.specs.Shelf.{is_listed, content_of}
use Rattle.nsi_disk.specs.declared.memory_shelf.NamedDisk.{NamedDisk}
use Rattle.nsi_disk.proofs.Places.{push_listed, listed_push, content_push, equals}
use Rattle.nsi_disk.proofs.memory_shelf.MemoryShelf.list.Goals as goal

pub returns-clause-listed : goal.returns-clause-listed
returns-clause-listed c =
    let new : NamedDisk = record { name = c.in_ok-copy.field-0; bytes = c.new.result } in
    ap (is_listed c.args.name.now) c.in_ok-push.ensures.items ∙ push_listed c.args.name.now c.args.self.now.disks.items new (equals c.in_ok-copy.field-0 c.args.name.now c.in_ok-copy.ensures)

pub returns-clause-stays : goal.returns-clause-stays
returns-clause-stays c n is =
    let new : NamedDisk = record { name = c.in_ok-copy.field-0; bytes = c.new.result } in
    ap (is_listed n) c.in_ok-push.ensures.items ∙ listed_push n c.args.self.now.disks.items new is

pub returns-clause-same : goal.returns-clause-same
returns-clause-same c n =
    let new : NamedDisk = record { name = c.in_ok-copy.field-0; bytes = c.new.result } in
    ap (content_of n) c.in_ok-push.ensures.items ∙ content_push n c.args.self.now.disks.items new c.new.ensures.items
