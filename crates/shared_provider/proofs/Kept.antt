-- What a journal keeps, and what its disk leaves, call by call.
use Rattle.std.proofs.Common.{◌≡◌, ◌∙◌, ℕ, Bool, true, false, List, [], ◌∷◌, ◌++◌, Option, Some, None, Result, Ok, refl, sym, ap, subst}
use Rattle.std.specs.Prelude.{IfSome, is_some}
use Rattle.nsi_primitive.specs.declared.entry.Entry.{Entry}
use Rattle.nsi_disk.specs.Disk.{History, MayLeave}
use Rattle.journal_entry.specs.Journal.{Kept, Waits, AddsWaiting, LeavesSynced, LeavesWaiting, MayLeaveSynced, ReadsOneOf}
use Rattle.journal_entry.proofs.Left.{left_kept}
use Rattle.shared_provider.specs.Sound.{Keeps, LeavesThese, LeavesOneOf}

abbrev these : (synced waiting : List Entry) → Kept
these synced waiting = record { synced = synced; waiting = waiting }

none_of : {A : Type 0} (o : Option A) → is_some o ≡ false → o ≡ None
none_of None empty = refl
none_of (Some x) empty = cc

all_of_none : {A : Type 0} (P : A → Type 0) (o : Option A) → o ≡ None → IfSome o P
all_of_none P o none = subst (λ o. IfSome o P) (sym none) tt

-- one call more
pub keeps_by : (f : Kept → Kept) (d e : Option History) (j k : Option Kept) (synced waiting synced' waiting' : List Entry) → is_some k ≡ is_some e → (d ≡ None → e ≡ None) → f (these synced waiting) ≡ these synced' waiting'
    → IfSome j (λ x. k ≡ Some (f x)) → Keeps d j synced waiting → Keeps e k synced' waiting'
keeps_by f d e None k synced waiting synced' waiting' told untold is goes h =
    let gone : e ≡ None = untold (none_of d (sym h.told)) in
    record { told = told; same = all_of_none (λ x. x ≡ these synced' waiting') k (none_of k (told ∙ ap is_some gone)) }
keeps_by f d e (Some x) k synced waiting synced' waiting' told untold is goes h =
    record { told = told; same = subst (λ (o : Option Kept). IfSome o (λ x. x ≡ these synced' waiting')) (sym goes) (ap f h.same ∙ is) }

pub keeps_appended : (d e : Option History) (j k : Option Kept) (synced more : List Entry) → is_some k ≡ is_some e → (d ≡ None → e ≡ None) → Waits more j k → Keeps d j synced [] → Keeps e k synced more
keeps_appended d e j k synced more told untold goes h = keeps_by (λ x. record x { waiting = more }) d e j k synced [] synced more told untold refl goes h

pub keeps_forgotten : (d e : Option History) (j k : Option Kept) (synced more : List Entry) → is_some k ≡ is_some e → e ≡ d → Waits [] j k → Keeps d j synced more → Keeps e k synced []
keeps_forgotten d e j k synced more told same goes h = keeps_by (λ x. record x { waiting = [] }) d e j k synced more synced [] told (λ none. same ∙ none) refl goes h

pub keeps_synced : (d e : Option History) (j k : Option Kept) (synced more : List Entry) → is_some k ≡ is_some e → (d ≡ None → e ≡ None) → AddsWaiting j k → Keeps d j synced more → Keeps e k (synced ++ more) []
keeps_synced d e j k synced more told untold goes h = keeps_by (λ x. these (x.synced ++ x.waiting) []) d e j k synced more (synced ++ more) [] told untold refl goes h

pub keeps_same : (d e : Option History) (j k : Option Kept) (synced waiting : List Entry) → e ≡ d → k ≡ j → Keeps d j synced waiting → Keeps e k synced waiting
keeps_same d e j k synced waiting same kept h = rw (same, kept) h

-- what its disk leaves, of what it is known to keep
left_of : (P : Kept → List ℕ → Type 0) (d e : Option History) (j : Option Kept) (synced waiting : List Entry) → (d ≡ None → e ≡ None) → IfSome j (λ x. IfSome e (λ h. (c : List ℕ) → MayLeave h c → P x c))
    → Keeps d j synced waiting → IfSome e (λ h. (c : List ℕ) → MayLeave h c → P (these synced waiting) c)
left_of P d e None synced waiting untold left h = all_of_none (λ h. (c : List ℕ) → MayLeave h c → P (these synced waiting) c) e (untold (none_of d (sym h.told)))
left_of P d e (Some x) synced waiting untold left h = subst (λ (x : Kept). IfSome e (λ h. (c : List ℕ) → MayLeave h c → P x c)) h.same left

module _ (reading : List ℕ → Result (List Entry) ℕ) where
  pub leaves_now : (d : Option History) (j : Option Kept) (synced waiting : List Entry) → MayLeaveSynced reading j d → Keeps d j synced waiting → LeavesThese reading d synced
  leaves_now d j synced waiting left h = left_of (λ x c. reading c ≡ Ok x.synced) d d j synced waiting (λ none. none) left h

  pub leaves_appended : (d e : Option History) (j : Option Kept) (synced waiting : List Entry) → (d ≡ None → e ≡ None) → LeavesSynced reading j d e → Keeps d j synced waiting → LeavesThese reading e synced
  leaves_appended d e j synced waiting untold left h =
      left_of (λ x c. reading c ≡ Ok x.synced) d e j synced waiting untold (left_kept j d e (λ x c. reading c ≡ Ok x.synced) untold left) h

  pub leaves_synced : (d e : Option History) (j : Option Kept) (synced waiting : List Entry) → (d ≡ None → e ≡ None) → LeavesWaiting reading j d e → Keeps d j synced waiting → LeavesOneOf reading e synced waiting
  leaves_synced d e j synced waiting untold left h =
      left_of (λ x. ReadsOneOf reading x.synced x.waiting) d e j synced waiting untold (left_kept j d e (λ x. ReadsOneOf reading x.synced x.waiting) untold left) h
