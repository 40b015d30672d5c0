-- The room of a disk in memory after a call.
use Rattle.std.proofs.Common.{inl, inr, ◌≡◌, ◌⊎◌, ℕ, ◌+◌, ◌-◌, ◌≤◌, List, length, take, Result, Ok, Err, OnOk, OnErr, refl, sym, ◌∙◌, ap, subst, arith}
use Rattle.nsi_disk.specs.Disk.{History, Wrote, CutTo, Synced, Broke, seen, written}
use Rattle.std.specs.Prelude.{Option, is_some, false}
use Rattle.nsi_disk.specs.declared.plan.Image.{Image}
use Rattle.nsi_disk.specs.Images.{Made, stopped_at}
use Rattle.nsi_disk.specs.Memory.{told_by, reads, HasSpace}
use Rattle.nsi_disk.specs.Plan.{Within}
use Rattle.nsi_disk.specs.Stopped.{write_made, cut_made, runs_on}
use Rattle.nsi_disk.specs.declared.content.Content.{Content}
use Rattle.nsi_disk.proofs.Back.{seen-told}

pub either_way : {T E : Type 0} (A B P : Type 0) (r : Result T E) → OnOk r A → OnErr r B → (A → P) → (B → P) → P
either_way A B P (Ok x) a b f g = f a
either_way A B P (Err e) a b f g = g b

pub reads_told : (c : Content) → seen (told_by c) ≡ reads c
reads_told c = seen-told c.log.items c.saved.items c.bytes.items

none_left : (calls longest more : ℕ) (c : Content) → HasSpace calls longest more c → HasSpace 0 longest 0 c
none_left calls longest more c s = record { bytes = s.bytes; log = omega (arith, s.log); saved = omega (arith, s.saved) }

-- the room of one call, taken out
one_out : (calls longest more reach spent length : ℕ) (c : Content) → HasSpace calls longest more c → Within calls longest more reach spent length → HasSpace ((calls - 1) + 1) longest ((more - spent) + spent) c
one_out calls longest more reach spent length c s within = record { bytes = s.bytes; log = omega (arith, s.log, within.some); saved = omega (arith, s.saved, within.few) }

pub space_after : {T E : Type 0} (r : Result T E) (calls calls' longest longest' more more' reach spent : ℕ) (old new : Content) → HasSpace calls longest more old → longest' ≡ longest
    → (Within calls longest more reach spent (length (reads old)) → calls' ≡ calls - 1)
    → (Within calls longest more reach spent (length (reads old)) → more' ≡ more - spent)
    → Within calls longest more reach spent (length (reads old)) ⊎ ((calls' ≡ 0) × (more' ≡ 0))
    → ((k l m : ℕ) → HasSpace (k + 1) l (m + spent) old → reach ≤ l → length (reads old) ≤ l → OnErr r ⊥ × HasSpace k l m new)
    → ((l : ℕ) → HasSpace 0 l 0 old → HasSpace 0 l 0 new)
    → HasSpace calls' longest' more' new
space_after r calls calls' longest longest' more more' reach spent old new s same fewer spends (inl within) room kept =
    let at = room (calls - 1) longest (more - spent) (one_out calls longest more reach spent (length (reads old)) old s within) within.reaches within.long in
    record {
      bytes = omega (arith, at.1.bytes, same);
      log = omega (arith, at.1.log, fewer within);
      saved = omega (arith, at.1.saved, spends within);
    }
space_after r calls calls' longest longest' more more' reach spent old new s same fewer spends (inr none) room kept =
    let at = kept longest (none_left calls longest more old s) in
    record {
      bytes = omega (arith, at.bytes, same);
      log = omega (arith, at.log, none.0);
      saved = omega (arith, at.saved, none.1);
    }

pub room_after : {T E : Type 0} (r : Result T E) (calls calls' longest more more' reach spent : ℕ) (old new : Content) → HasSpace calls longest more old
    → (Within calls longest more reach spent (length (reads old)) → calls' ≡ calls - 1)
    → (Within calls longest more reach spent (length (reads old)) → more' ≡ more - spent)
    → ((k l m : ℕ) → HasSpace (k + 1) l (m + spent) old → reach ≤ l → length (reads old) ≤ l → OnErr r ⊥ × HasSpace k l m new)
    → Within calls longest more reach spent (length (seen (told_by old))) → OnErr r ⊥ × (calls' ≡ calls - 1) × (more ≤ more' + spent)
room_after r calls calls' longest more more' reach spent old new s fewer spends room within =
    let w : Within calls longest more reach spent (length (reads old)) = subst (λ (l : List ℕ). Within calls longest more reach spent (length l)) (reads_told old) within in
    ((room (calls - 1) longest (more - spent) (one_out calls longest more reach spent (length (reads old)) old s w) w.reaches w.long).0, fewer w, omega (arith, spends w))

-- of a cut, what it spends is told by what was read
pub cut_room_after : {T E : Type 0} (r : Result T E) (calls calls' longest more more' len : ℕ) (old new : Content) → HasSpace calls longest more old
    → (Within calls longest more (len + 0) (length (reads old) - len) (length (reads old)) → calls' ≡ calls - 1)
    → (Within calls longest more (len + 0) (length (reads old) - len) (length (reads old)) → more' ≡ more - (length (reads old) - len))
    → ((k l m : ℕ) → HasSpace (k + 1) l (m + (length (reads old) - len)) old → len + 0 ≤ l → length (reads old) ≤ l → OnErr r ⊥ × HasSpace k l m new)
    → Within calls longest more (len + 0) (length (seen (told_by old)) - len) (length (seen (told_by old)))
    → OnErr r ⊥ × (calls' ≡ calls - 1) × (more ≤ more' + (length (seen (told_by old)) - len))
cut_room_after r calls calls' longest more more' len old new s fewer spends room =
    subst (λ (l : List ℕ). Within calls longest more (len + 0) (length l - len) (length l) → OnErr r ⊥ × (calls' ≡ calls - 1) × (more ≤ more' + (length l - len))) (sym (reads_told old))
    (λ w. ((room (calls - 1) longest (more - (length (reads old) - len)) (one_out calls longest more (len + 0) (length (reads old) - len) (length (reads old)) old s w) w.reaches w.long).0, fewer w, omega (arith, spends w)))

pub made_after : {T E : Type 0} (r : Result T E) (old new done : History) → Made done → OnOk r (new ≡ done) → OnErr r (new ≡ old) → Made old → Made new
made_after r old new done m ok err before = either_way (new ≡ done) (new ≡ old) (Made new) r ok err (λ is. subst Made (sym is) m) (λ is. subst Made (sym is) before)

pub write_kept : {T E : Type 0} (r : Result T E) (at : ℕ) (piece : List ℕ) (old : Content) (new : History) → at ≤ length (seen (told_by old)) → Made (told_by old)
    → OnOk r (new ≡ Wrote at (length piece) (written at piece (reads old)) (told_by old)) → OnErr r (new ≡ told_by old) → Made new
write_kept r at piece old new inside m ok err =
    made_after r (told_by old) new _ (subst (λ (l : List ℕ). Made (Wrote at (length piece) (written at piece l) (told_by old))) (reads_told old) (write_made at piece (told_by old) _ inside m refl)) ok err m

pub cut_kept : {T E : Type 0} (r : Result T E) (n : ℕ) (old : Content) (new : History) → n ≤ length (seen (told_by old)) → Made (told_by old)
    → OnOk r (new ≡ CutTo n (take n (reads old)) (told_by old)) → OnErr r (new ≡ told_by old) → Made new
cut_kept r n old new inside m ok err =
    made_after r (told_by old) new _ (subst (λ (l : List ℕ). Made (CutTo n (take n l) (told_by old))) (reads_told old) (cut_made n (told_by old) _ inside m refl)) ok err m

pub sync_kept : {T E : Type 0} (r : Result T E) (old : Content) (new : History) → Made (told_by old) → OnOk r (new ≡ Synced (told_by old)) → OnErr r (new ≡ told_by old) → Made new
sync_kept r old new m ok err = made_after r (told_by old) new (Synced (told_by old)) m ok err m

pub pause_kept : {T E : Type 0} (r : Result T E) (old : Content) (new : History) → Made (told_by old) → OnOk r (new ≡ Broke (reads old) (told_by old)) → OnErr r (new ≡ told_by old) → Made new
pause_kept r old new m ok err = made_after r (told_by old) new (Broke (reads old) (told_by old)) (sym (reads_told old), m) ok err m

-- what a disk that isn't stopped reads
pub reads_on : (shown : Option Image) (old new : Content) → is_some shown ≡ false → told_by new ≡ told_by old → seen (stopped_at shown (told_by old)) ≡ reads new
reads_on shown old new runs same = ap seen (runs_on shown (told_by old) runs) ∙ ap seen (sym same) ∙ reads_told new
