use Rattle.std.proofs.Common.{rules, arith, ◌≡◌, ◌-◌, ◌++◌, ◌∷◌, [], length, take, drop, refl, sym, subst}
use Rattle.std.proofs.lemmas.Grind.{common_steps}
use Rattle.nsi_disk.specs.Memory.{told, made_by}
use Rattle.nsi_disk.specs.declared.content.Past.{Past}
use Rattle.nsi_disk.specs.declared.content.Past.TheVariants.{Write, Cut}
use Rattle.nsi_disk.proofs.Back.{pop-write, pop-cut, told-sync, told-pause}
use Rattle.nsi_disk.proofs.reopen.undo.Goals as goal

pub returns-in_ok-before-in-Write : goal.returns-in_ok-before-in-Write
returns-in_ok-before-in-Write c log =
    let saved = c.args.saved.now.items in
    let past : Past = Write c.in-Write.place c.in-Write.count c.in-Write.over in
    let kept : c.truncate.new.self.items ≡ take (length c.args.saved.now.items - c.in-Write.over) c.args.saved.now.items = grind (arith, common_steps) in
    let over : c.split_at.result.1.now ≡ drop (length c.args.saved.now.items - c.in-Write.over) c.args.saved.now.items = grind (arith, common_steps) in
    subst (λ (p : Past). told (log ++ p ∷ []) saved c.args.bytes.items ≡ made_by p c.args.bytes.items (told log c.truncate.new.self.items c.in_ok-before-in-Write.before.items)) (sym c.in-Write.is)
    (pop-write (log ++ past ∷ []) log saved c.truncate.new.self.items c.split_at.result.1.now c.args.bytes.items c.in_ok-before-in-Write.before.items c.in-Write.place c.in-Write.count c.in-Write.over refl kept over (grind (arith, common_steps)))

pub returns-in_ok-extend_from_slice-in-Cut : goal.returns-in_ok-extend_from_slice-in-Cut
returns-in_ok-extend_from_slice-in-Cut c log =
    let saved = c.args.saved.now.items in
    let past : Past = Cut c.in-Cut.count c.in-Cut.over in
    let kept : c.truncate-in-Cut.new.self.items ≡ take (length c.args.saved.now.items - c.in-Cut.over) c.args.saved.now.items = grind (arith, common_steps) in
    let over : c.split_at-in-Cut.result.1.now ≡ drop (length c.args.saved.now.items - c.in-Cut.over) c.args.saved.now.items = grind (arith, common_steps) in
    subst (λ (p : Past). told (log ++ p ∷ []) saved c.args.bytes.items ≡ made_by p c.args.bytes.items (told log c.truncate-in-Cut.new.self.items c.extend_from_slice.new.self.items)) (sym c.in-Cut.is)
    (pop-cut (log ++ past ∷ []) log saved c.truncate-in-Cut.new.self.items c.split_at-in-Cut.result.1.now c.args.bytes.items c.extend_from_slice.new.self.items c.in-Cut.count c.in-Cut.over refl kept over (search rules))

pub returns-in-Sync : goal.returns-in-Sync
returns-in-Sync c log =
    subst (λ (p : Past). told (log ++ p ∷ []) c.args.saved.now.items c.args.bytes.items ≡ made_by p c.args.bytes.items (told log c.args.saved.now.items c.args.bytes.items)) (sym c.in-Sync.is) (told-sync log c.args.saved.now.items c.args.bytes.items)

pub returns-in-Pause : goal.returns-in-Pause
returns-in-Pause c log =
    subst (λ (p : Past). told (log ++ p ∷ []) c.args.saved.now.items c.args.bytes.items ≡ made_by p c.args.bytes.items (told log c.args.saved.now.items c.args.bytes.items)) (sym c.in-Pause.is) (told-pause log c.args.saved.now.items c.args.bytes.items)
