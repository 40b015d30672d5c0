-- How a run of disk calls goes on.
use Rattle.std.proofs.Common.{◌≡◌, ◌⊎◌, inl, inr, ⊎_elim, ℕ, ◌+◌, ◌≤◌, List, length, Option, Some, None, IfSome, [], Ok, Err, refl, sym, subst, arith}
use Rattle.nsi_disk.specs.Disk.{History, Fresh, Wrote, CutTo, Synced, Broke, seen, written, age, MayLeave, Since, Leaves, MayStep, Steps}
use Rattle.nsi_disk.specs.declared.disk.DiskError.{DiskError}

pub told : {A : Type 0} (P : A → Type 0) (o : Option A) → ((x : A) → o ≡ Some x → P x) → IfSome o P
told P None each = tt
told P (Some x) each = each x refl

pub at_told : {A : Type 0} (P : A → Type 0) (o : Option A) (x : A) → o ≡ Some x → IfSome o P → P x
at_told {A} P o x is holds = subst (λ (q : Option A). IfSome q P) is holds

pub sync_ok : (T : Type 0) (u : T) (o n : Option History) (h : History) → o ≡ Some h → Steps Broke Synced o n (Ok u) → n ≡ Some (Synced h)
sync_ok T u o n h is steps = subst (λ q. Steps Broke Synced q n (Ok u)) is steps

pub sync_err : (T : Type 0) (e : DiskError) (o n : Option History) (h : History) → o ≡ Some h → Steps {T = T} Broke Synced o n (Err e) → MayStep Broke h n
sync_err T e o n h is steps = subst (λ q. Steps {T = T} Broke Synced q n (Err e)) is steps

-- what a write of a piece does
abbrev pub does : ℕ → List ℕ → History → History
does at piece h = Wrote at (length piece) (written at piece (seen h)) h

pub write_ok : (T : Type 0) (u : T) (at : ℕ) (piece : List ℕ) (o n : Option History) (h : History) → o ≡ Some h → Steps (Wrote at (length piece)) (does at piece) o n (Ok u) → n ≡ Some (does at piece h)
write_ok T u at piece o n h is steps = subst (λ q. Steps (Wrote at (length piece)) (does at piece) q n (Ok u)) is steps

pub write_err : (T : Type 0) (e : DiskError) (at : ℕ) (piece : List ℕ) (o n : Option History) (h : History) → o ≡ Some h → Steps {T = T} (Wrote at (length piece)) (does at piece) o n (Err e) → MayStep (Wrote at (length piece)) h n
write_err T e at piece o n h is steps = subst (λ q. Steps {T = T} (Wrote at (length piece)) (does at piece) q n (Err e)) is steps

-- a fact on what it reads stays at a sync
pub reads_after_sync : (T : Type 0) (u : T) (P : List ℕ → Type 0) (o n : Option History) → IfSome o (λ h. P (seen h)) → Steps Broke Synced o n (Ok u) → IfSome n (λ h. P (seen h))
reads_after_sync T u P None n holds steps = subst (λ q. IfSome q (λ h. P (seen h))) (sym steps) tt
reads_after_sync T u P (Some h) n holds steps = subst (λ q. IfSome q (λ h. P (seen h))) (sym steps) holds

pub reads_after_write : (T : Type 0) (u : T) (P Q : List ℕ → Type 0) (at : ℕ) (piece : List ℕ) (o n : Option History) → ((d : List ℕ) → P d → Q (written at piece d)) → IfSome o (λ h. P (seen h)) → Steps (Wrote at (length piece)) (does at piece) o n (Ok u) → IfSome n (λ h. Q (seen h))
reads_after_write T u P Q at piece None n keeps holds steps = subst (λ q. IfSome q (λ h. Q (seen h))) (sym steps) tt
reads_after_write T u P Q at piece (Some h) n keeps holds steps = subst (λ q. IfSome q (λ h. Q (seen h))) (sym steps) (keeps (seen h) holds)

pub weaker : {A : Type 0} (P Q : A → Type 0) (o : Option A) → ((x : A) → P x → Q x) → IfSome o P → IfSome o Q
weaker P Q None each holds = tt
weaker P Q (Some x) each holds = each x holds

-- at one moment, what a crash may leave
pub since_now : (h : History) (c : List ℕ) → Since (age h) h c → MayLeave h c
since_now (Fresh bytes) c left = left
since_now (Wrote at n now h) c (inl here) = here
since_now (Wrote at n now h) c (inr past) = absurd (omega (arith, past.0))
since_now (CutTo n now h) c (inl here) = here
since_now (CutTo n now h) c (inr past) = absurd (omega (arith, past.0))
since_now (Synced h) c (inl here) = here
since_now (Synced h) c (inr past) = absurd (omega (arith, past.0))
since_now (Broke now h) c (inl here) = here
since_now (Broke now h) c (inr past) = absurd (omega (arith, past.0))

pub started : (h : History) (P : List ℕ → Type 0) → ((c : List ℕ) → MayLeave h c → P c) → Leaves h h P
started h P here = record { later = omega arith; each = λ c left. here c (since_now h c left); before = λ t c le left. inl left }

-- one call more; the last two premises are `refl` and `λ t c x. x` for each kind of call
pub goes_on : (old mid new : History) (P : List ℕ → Type 0) → Leaves old mid P → ((c : List ℕ) → MayLeave new c → P c)
    → age new ≡ age mid + 1 → ((t : ℕ) (c : List ℕ) → Since t new c → MayLeave new c ⊎ ((t ≤ age mid) × Since t mid c)) → Leaves old new P
goes_on old mid new P so_far here later splits = record {
  later = omega (arith, so_far.later, later);
  each = λ c left. ⊎_elim (λ now. here c now) (λ past. so_far.each c past.1) (splits (age old) c left);
  before = λ t c le left. ⊎_elim (λ now. inr (here c now)) (λ past. so_far.before t c le past.1) (splits t c left);
}

-- a call that failed
pub gave_up : (step : List ℕ → History → History) (old mid : History) (new : Option History) (P : List ℕ → Type 0) → Leaves old mid P → MayStep step mid new
    → ((b c : List ℕ) → MayLeave (step b mid) c → P c)
    → ((b : List ℕ) → age (step b mid) ≡ age mid + 1) → ((b : List ℕ) (t : ℕ) (c : List ℕ) → Since t (step b mid) c → MayLeave (step b mid) c ⊎ ((t ≤ age mid) × Since t mid c))
    → (k : History) × (new ≡ Some k) × Leaves old k P
gave_up step old mid new P so_far may here later splits = elim may [
  | inl same ↦ (mid, same, so_far)
  | inr did ↦ (step did.0 mid, did.1, goes_on old mid (step did.0 mid) P so_far (here did.0) (later did.0) (splits did.0))
]

pub sync_gave_up : (old mid : History) (new : Option History) (P : List ℕ → Type 0) → Leaves old mid P → MayStep Broke mid new → ((c : List ℕ) → MayLeave mid c → P c)
    → (k : History) × (new ≡ Some k) × Leaves old k P
sync_gave_up old mid new P so_far may here = gave_up Broke old mid new P so_far may (λ b c now. here c now) (λ b. refl) (λ b t c left. left)

pub write_gave_up : (at n : ℕ) (old mid : History) (new : Option History) (P : List ℕ → Type 0) → Leaves old mid P → MayStep (Wrote at n) mid new
    → ((c : List ℕ) → MayLeave (Wrote at n [] mid) c → P c) → (k : History) × (new ≡ Some k) × Leaves old k P
write_gave_up at n old mid new P so_far may here = gave_up (Wrote at n) old mid new P so_far may (λ b c now. here c now) (λ b. refl) (λ b t c left. left)

pub wrote : (at n : ℕ) (now : List ℕ) (old mid : History) (P : List ℕ → Type 0) → Leaves old mid P → ((c : List ℕ) → MayLeave (Wrote at n now mid) c → P c) → Leaves old (Wrote at n now mid) P
wrote at n now old mid P so_far here = goes_on old mid (Wrote at n now mid) P so_far here refl (λ t c left. left)

pub synced : (old mid : History) (P : List ℕ → Type 0) → Leaves old mid P → P (seen mid) → Leaves old (Synced mid) P
synced old mid P so_far here = goes_on old mid (Synced mid) P so_far (λ c is. subst P (sym is) here) refl (λ t c left. left)

-- two runs of calls, one after the other
pub then : (a b k : History) (P Q R : List ℕ → Type 0) → Leaves a b P → Leaves b k Q → ((c : List ℕ) → P c → R c) → ((c : List ℕ) → Q c → R c) → Leaves a k R
then a b k P Q R ab bk f g = record {
  later = omega (arith, ab.later, bk.later);
  each = λ c s. ⊎_elim (λ p. f c (ab.each c p)) (λ q. g c q) (bk.before (age a) c ab.later s);
  before = λ t c le s. ⊎_elim (λ p. ⊎_elim (λ x. inl x) (λ y. inr (f c y)) (ab.before t c le p)) (λ q. inr (g c q)) (bk.before t c (omega (arith, le, ab.later)) s);
}
