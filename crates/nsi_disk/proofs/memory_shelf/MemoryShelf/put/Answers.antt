use Rattle.std.proofs.Common.{List, length, ap, sym, subst, ◌∙◌}
use Rattle.std.proofs.lemmas.Bool.{true≢false}
use Rattle.std.proofs.lemmas.List.{get_or_default}
use Rattle.nsi_disk.specs.Shelf.{FirstAt, NoneBefore}
use Rattle.nsi_disk.specs.declared.memory_shelf.NamedDisk.{NamedDisk}
use Rattle.nsi_disk.proofs.Places.{content_put, listed_put, none_listed}
use Rattle.nsi_disk.proofs.memory_shelf.MemoryShelf.put.Goals as goal

pub returns-in-Some-clause-held : goal.returns-in-Some-clause-held
returns-in-Some-clause-held c n =
    let first : FirstAt c.args.name.now c.args.self.now.disks.items c.in-Some.i = subst (λ (ds : List NamedDisk). FirstAt c.args.name.now ds c.in-Some.i) c.deref.ensures.value c.in-Some.ensures in
    content_put c.args.name.now n c.args.self.now.disks.items c.in-Some.i (record { name = c.index_mut.result.now.name; bytes = c.args.bytes }) first
    (ap (λ (d : NamedDisk). d.name) (c.index_mut.ensures.value ∙ get_or_default _ _ _ _ first.inside))

pub returns-in-Some-clause-stays : goal.returns-in-Some-clause-stays
returns-in-Some-clause-stays c n =
    let first : FirstAt c.args.name.now c.args.self.now.disks.items c.in-Some.i = subst (λ (ds : List NamedDisk). FirstAt c.args.name.now ds c.in-Some.i) c.deref.ensures.value c.in-Some.ensures in
    listed_put c.args.name.now n c.args.self.now.disks.items c.in-Some.i (record { name = c.index_mut.result.now.name; bytes = c.args.bytes }) first
    (ap (λ (d : NamedDisk). d.name) (c.index_mut.ensures.value ∙ get_or_default _ _ _ _ first.inside)) c.requires

pub returns-in_default-clause-held : goal.returns-in_default-clause-held
returns-in_default-clause-held c n =
    let none : NoneBefore c.args.name.now c.args.self.now.disks.items (length c.args.self.now.disks.items) =
    subst (λ (ds : List NamedDisk). NoneBefore c.args.name.now ds (length ds)) c.deref.ensures.value c.in_default.ensures in
    absurd (true≢false (sym c.requires ∙ none_listed c.args.name.now c.args.self.now.disks.items none))
