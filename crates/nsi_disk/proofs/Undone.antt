-- The calls of a disk in memory, taken back one by one.
use Rattle.std.proofs.Common.{◌≡◌, ℕ, true, false, List, [], ◌∷◌, ◌++◌, refl, sym, ◌∙◌, ap}
use Rattle.std.proofs.lemmas.Bool.{true≢false}
use Rattle.nsi_disk.specs.Again.{blot, blotted}
use Rattle.nsi_disk.specs.Disk.{History}
use Rattle.nsi_disk.specs.Images.{old_image, torn_image}
use Rattle.nsi_disk.specs.Memory.{told, is_sync, made_by}
use Rattle.nsi_disk.specs.declared.content.Past.{Past}
use Rattle.nsi_disk.specs.declared.content.Past.TheVariants.{Write, Cut, Sync, Pause}
use Rattle.nsi_disk.proofs.Back.{pop-sync, told-none, seen-told}

old_step : (p : Past) (now : List ℕ) (h : History) → is_sync p ≡ false → old_image (made_by p now h) ≡ old_image h
old_step (Write at n k) now h other = refl
old_step (Cut n k) now h other = refl
old_step Sync now h other = absurd (true≢false other)
old_step Pause now h other = refl

torn_step : (p : Past) (now : List ℕ) (h : History) → is_sync p ≡ false → torn_image (made_by p now h) ≡ blot p (torn_image h)
torn_step (Write at n k) now h other = refl
torn_step (Cut n k) now h other = refl
torn_step Sync now h other = absurd (true≢false other)
torn_step Pause now h other = refl

pub blotted_push : (calls : List Past) (p : Past) (b : List ℕ) → blotted (calls ++ p ∷ []) b ≡ blotted calls (blot p b)
blotted_push [] p b = refl
blotted_push (q ∷ calls) p b = ap (blot q) (blotted_push calls p b)

-- one call more is taken back, and kept for later
pub went_back : (log log' : List Past) (saved saved' now now' target : List ℕ) (p : Past) → log ≡ log' ++ p ∷ []
    → told (log' ++ p ∷ []) saved now ≡ made_by p now (told log' saved' now') → is_sync p ≡ false
    → old_image (told log saved now) ≡ target → old_image (told log' saved' now') ≡ target
went_back log log' saved saved' now now' target p l step other so_far =
    sym (old_step p now (told log' saved' now') other) ∙ ap old_image (sym step) ∙ ap (λ (x : List Past). old_image (told x saved now)) (sym l) ∙ so_far

pub went_back_torn : (log log' calls calls' : List Past) (saved saved' now now' target : List ℕ) (p : Past) → log ≡ log' ++ p ∷ [] → calls' ≡ calls ++ p ∷ []
    → told (log' ++ p ∷ []) saved now ≡ made_by p now (told log' saved' now') → is_sync p ≡ false
    → blotted calls (torn_image (told log saved now)) ≡ target → blotted calls' (torn_image (told log' saved' now')) ≡ target
went_back_torn log log' calls calls' saved saved' now now' target p l pushed step other so_far =
    ap (λ (x : List Past). blotted x (torn_image (told log' saved' now'))) pushed
    ∙ blotted_push calls p (torn_image (told log' saved' now'))
    ∙ ap (blotted calls) (sym (torn_step p now (told log' saved' now') other) ∙ ap torn_image (sym step) ∙ ap (λ (x : List Past). torn_image (told x saved now)) (sym l))
    ∙ so_far

is_its_sync : (log log' : List Past) (p : Past) → log ≡ log' ++ p ∷ [] → is_sync p ≡ true → log ≡ log' ++ Sync ∷ []
is_its_sync log log' (Write at n k) l is = absurd (true≢false (sym is))
is_its_sync log log' (Cut n k) l is = absurd (true≢false (sym is))
is_its_sync log log' Sync l is = l
is_its_sync log log' Pause l is = absurd (true≢false (sym is))

-- nothing was written since the last sync
pub old_at_sync : (log log' : List Past) (saved now : List ℕ) (p : Past) → log ≡ log' ++ p ∷ [] → is_sync p ≡ true → old_image (told log saved now) ≡ now
old_at_sync log log' saved now p l is = ap old_image (pop-sync log log' saved now (is_its_sync log log' p l is)) ∙ seen-told log' saved now

pub torn_at_sync : (log log' : List Past) (saved now : List ℕ) (p : Past) → log ≡ log' ++ p ∷ [] → is_sync p ≡ true → torn_image (told log saved now) ≡ now
torn_at_sync log log' saved now p l is = ap torn_image (pop-sync log log' saved now (is_its_sync log log' p l is)) ∙ seen-told log' saved now

pub old_at_start : (log : List Past) (saved now : List ℕ) → log ≡ [] → old_image (told log saved now) ≡ now
old_at_start log saved now l = ap old_image (told-none log saved now l)

pub torn_at_start : (log : List Past) (saved now : List ℕ) → log ≡ [] → torn_image (told log saved now) ≡ now
torn_at_start log saved now l = ap torn_image (told-none log saved now l)
