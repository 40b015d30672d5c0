-- What a journal keeps where its disk stops, and what a crash leaves then.
use Rattle.std.specs.Prelude.{is_some}
use Rattle.std.proofs.Common.{ℕ, ◌+◌, ◌≡◌, ◌⊎◌, inl, inr, ◌++◌, List, [], Bool, false, Option, Some, None, IfSome, OnOk, Result, Ok, Err, refl, sym, ap, ◌∙◌, subst, length, take, length-append, append-nil}
use Rattle.std.proofs.lemmas.List.{take_at}
use Rattle.nsi_primitive.specs.declared.entry.Entry.{Entry}
use Rattle.nsi_disk.specs.Disk.{History, LeavesOnly}
use Rattle.journal_entry.specs.Journal.{Kept as Journaled, Adds, KeepsOneOf, LeavesWith, MayLeaveWith, ReadsOneOf}
use Rattle.agent_node.specs.declared.fault.TurnFault.{TurnFault}
use Rattle.agent_node.specs.Seat.{Seat}
use Rattle.agent_node.specs.Meetings.{met}
use Rattle.agent_node.specs.Kept.{HasSynced, LeavesBatch, IsHeld, first_kept, fault_in, lack_of}

---- Journals that tell

-- a call leaves a journal told, or not, as it was
pub told_still : (P : Journaled → List ℕ → Type 0) (k j : Option Journaled) (o h : Option History) → is_some k ≡ is_some o → is_some j ≡ is_some h → (o ≡ None → h ≡ None) → IfSome k (λ x. LeavesOnly o h (P x)) → is_some j ≡ is_some k
told_still P k j None h p q untold leaves = q ∙ (ap (λ (z : Option History). is_some z) (untold refl) ∙ sym p)
told_still P None j (Some y) h p q untold leaves = absurd (cc)
told_still P (Some x) j (Some y) h p q untold leaves = q ∙ ap (λ (z : Option History). is_some z) leaves.1

---- Fronts

take_all : (xs : List Entry) (n : ℕ) → length xs ≡ n → take n xs ≡ xs
take_all xs n e = ap (take n) (sym (append-nil xs)) ∙ take_at xs [] n e

take_either : (xs es ys : List Entry) (n : ℕ) → length xs ≡ n → (ys ≡ xs) ⊎ (ys ≡ xs ++ es) → take n ys ≡ xs
take_either xs es ys n e (inl p) = ap (take n) p ∙ take_all xs n e
take_either xs es ys n e (inr p) = ap (take n) p ∙ take_at xs es n e

abbrev kept_by : List Entry → List Entry → Option Journaled
kept_by synced waiting = Some (record { synced = synced; waiting = waiting })

-- what was synced is the front of what is kept
pub front_is : (n : ℕ) (es : List Entry) (k j : Option Journaled) → HasSynced n k → IfSome k (λ x. x.waiting ≡ []) → is_some j ≡ is_some k → KeepsOneOf es k j → first_kept n j ≡ k
front_is n es None None counted none told either = refl
front_is n es None (Some y) counted none told either = absurd (cc)
front_is n es (Some x) None counted none told either = absurd (cc)
front_is n es (Some x) (Some y) counted none told either =
    ap (λ (xs : List Entry). kept_by xs []) (take_either x.synced es y.synced n counted either) ∙ ap (λ (ws : List Entry). kept_by x.synced ws) (sym none)

-- so a crash leaves it, or the batch with it
pub leaves_batch : (reading : List ℕ → Result (List Entry) ℕ) (s : Seat) (k j : Option Journaled) (h : Option History) → first_kept s.synced j ≡ k → MayLeaveWith reading s.fresh k h → LeavesBatch reading s j h
leaves_batch reading s k j h front left = subst (λ (o : Option Journaled). MayLeaveWith reading s.fresh o h) (sym front) left

-- what stands behind a call that keeps the fresh entries, on each exit of it
pub record IsCut (reading : List ℕ → Result (List Entry) ℕ) (s : Seat) (k j : Option Journaled) (h : Option History) : Type 0 where
  pub told : is_some j ≡ is_some k
  pub either : KeepsOneOf s.fresh k j
  pub front : first_kept s.synced j ≡ k
  pub left : LeavesBatch reading s j h

pub is_cut : (reading : List ℕ → Result (List Entry) ℕ) (s : Seat) (es : List Entry) (k j : Option Journaled) (o h : Option History) → es ≡ s.fresh → HasSynced s.synced k → IfSome k (λ x. x.waiting ≡ []) → is_some k ≡ is_some o → is_some j ≡ is_some h
    → (o ≡ None → h ≡ None) → LeavesWith reading es k o h → MayLeaveWith reading es k h → KeepsOneOf es k j → IsCut reading s k j h
is_cut reading s es k j o h e counted none was is untold leaves left either =
    let told = told_still (λ x. ReadsOneOf reading x.synced es) k j o h was is untold leaves in
    let these : KeepsOneOf s.fresh k j = subst (λ (xs : List Entry). KeepsOneOf xs k j) e either in
    let front = front_is s.synced s.fresh k j counted none told these in
    record {
      told = told;
      either = these;
      front = front;
      left = leaves_batch reading s k j h front (subst (λ (xs : List Entry). MayLeaveWith reading xs k h) e left);
    }

---- Counts

pub counted_more : (n : ℕ) (es : List Entry) (k j : Option Journaled) → HasSynced n k → is_some j ≡ is_some k → Adds es k j → HasSynced (n + length es) j
counted_more n es None None counted told adds = tt
counted_more n es None (Some y) counted told adds = absurd (cc)
counted_more n es (Some x) j counted told adds =
    subst (λ (o : Option Journaled). HasSynced (n + length es) o) (sym adds) (length-append x.synced es ∙ ap (λ (m : ℕ). m + length es) counted)

pub counted_as : (m n : ℕ) (k : Option Journaled) → m ≡ n → HasSynced n k → HasSynced m k
counted_as m n k e counted = subst (λ (i : ℕ). HasSynced i k) (sym e) counted

---- Nodes

met_synced : (o s : Seat) → (met o s).synced ≡ s.synced
unfolding met
met_synced o s = refl

met_fresh : (o s : Seat) → (met o s).fresh ≡ s.fresh
unfolding met
met_fresh o s = refl

module _ (reading : List ℕ → Result (List Entry) ℕ) (ready : Type 0) (waits : Bool) (k : Option Journaled) (h : Option History) where
  -- nothing that a crash leaves has changed
  pub held_as : (s t : Seat) (z : Option TurnFault) → t.synced ≡ s.synced → t.fresh ≡ s.fresh → IsHeld reading ready waits k h s z → IsHeld reading ready waits k h t z
  held_as s t z synced fresh held = (
    λ e. let usable = held.0 e in (usable.0, usable.1, counted_as t.synced s.synced k synced usable.2),
    λ e. subst (λ (xs : List Entry). MayLeaveWith reading xs (first_kept t.synced k) h) (sym fresh) (subst (λ (n : ℕ). MayLeaveWith reading s.fresh (first_kept n k) h) (sym synced) (held.1 e)),
  )

  -- what another one let through to it has come
  pub held_met : (o s t : Seat) (z : Option TurnFault) → t ≡ met o s → IsHeld reading ready waits k h s z → IsHeld reading ready waits k h t z
  held_met o s t z is held = held_as s t z (ap (λ (u : Seat). u.synced) is ∙ met_synced o s) (ap (λ (u : Seat). u.fresh) is ∙ met_fresh o s) held

  -- a call that fails only for want of memory, of a node that may be used
  pub held_by : {T E : Type 0} (s t : Seat) (z : Option TurnFault) (r : Result T E) → z ≡ None → t.synced ≡ s.synced → IsHeld reading ready waits k h s z → IsHeld reading ready waits k h t (lack_of r)
  held_by s t z (Ok x) none synced held = (
    λ e. let usable = held.0 none in (usable.0, usable.1, counted_as t.synced s.synced k synced usable.2),
    λ e. absurd (cc),
  )
  held_by s t z (Err x) none synced held = (λ e. absurd (cc), λ e. absurd (cc))

  -- it is begun, or made anew
  pub held_new : (s : Seat) → ready → waits ≡ false → HasSynced s.synced k → IsHeld reading ready waits k h s None
  held_new s is none counted = (λ e. (is, none, counted), λ e. absurd (cc))

  -- a turn, as its clauses have it
  pub held_turn : (s : Seat) (r : Result (Unit {0}) TurnFault) → OnOk r ready → OnOk r (waits ≡ false) → OnOk r (HasSynced s.synced k) → (fault_in r ≡ Some TurnFault.Stopped → LeavesBatch reading s k h) → IsHeld reading ready waits k h s (fault_in r)
  held_turn s (Ok x) is none counted left = (λ e. (is, none, counted), left)
  held_turn s (Err f) is none counted left = (λ e. absurd (cc), left)
