-- What a crash now leaves is among what one since a moment may have left.
use Rattle.std.proofs.Common.{◌≡◌, inl, inr, ℕ, List, ◌++◌, Option, Some, None, Result, IfSome, refl, sym, subst}
use Rattle.std.specs.Prelude.{is_some}
use Rattle.nsi_primitive.specs.declared.entry.Entry.{Entry}
use Rattle.journal_entry.specs.Journal.{Kept, KeepsOneOf, ReadsImage, ReadsKept, MayLeaveWith}
use Rattle.nsi_disk.specs.Disk.{History, Fresh, Wrote, CutTo, Synced, Broke, MayLeave, Since, age, seen, LeavesOnly}

pub since_may : (t : ℕ) (h : History) (c : List ℕ) → MayLeave h c → Since t h c
since_may t (Fresh bytes) c may = may
since_may t (Wrote at n now h) c may = inl may
since_may t (CutTo n now h) c may = inl may
since_may t (Synced h) c may = inl may
since_may t (Broke now h) c may = inl may

left_now : (o n : Option History) (P : List ℕ → Type 0) → (o ≡ None → n ≡ None) → LeavesOnly o n P → IfSome n (λ h. (c : List ℕ) → MayLeave h c → P c)
left_now None n P untold leaves = subst (λ (q : Option History). IfSome q (λ h. (c : List ℕ) → MayLeave h c → P c)) (sym (untold refl)) tt
left_now (Some h) n P untold leaves = subst (λ (q : Option History). IfSome q (λ k. (c : List ℕ) → MayLeave k c → P c)) (sym leaves.1) (λ c may. leaves.2.each c (since_may (age h) leaves.0 c may))

pub left_kept : (kept : Option Kept) (o n : Option History) (P : Kept → List ℕ → Type 0) → (o ≡ None → n ≡ None) → IfSome kept (λ k. LeavesOnly o n (P k)) → IfSome kept (λ k. IfSome n (λ h. (c : List ℕ) → MayLeave h c → P k c))
left_kept None o n P untold leaves = tt
left_kept (Some k) o n P untold leaves = left_now o n (P k) untold leaves

-- what is kept then
pub kept_after : (reading : List ℕ → Result (List Entry) ℕ) (entries : List Entry) (old new : Option Kept) (h : Option History)
    → MayLeaveWith reading entries old h → ReadsImage h → ((es : List Entry) → ReadsKept reading es h new) → is_some new ≡ is_some h → KeepsOneOf entries old new
kept_after reading entries None new h left image kept tells = tt
kept_after reading entries (Some k) None h left image kept tells = tt
kept_after reading entries (Some k) (Some n) None left image kept tells = absurd cc
kept_after reading entries (Some k) (Some n) (Some x) left image kept tells = elim (left (seen x) image) [ inl e ↦ inl (kept k.synced e) | inr e ↦ inr (kept (k.synced ++ entries) e) ]
