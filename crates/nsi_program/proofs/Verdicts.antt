-- What `verify` has written where it was cut short.
use Rattle.std.proofs.Common.{◌≡◌, ◌⊎◌, inl, inr, ℕ, List, Option, Some, None, refl, sym, ◌∙◌}
use Rattle.std.specs.Prelude.{IfSome}
use Rattle.provide_command.specs.declared.status.Status.{Status}
use Rattle.provide_command.specs.Writes.{WritesSomeFront}
use Rattle.verify_command.specs.declared.end.VerifyEnd.{VerifyEnd}
use Rattle.verify_command.specs.Ends.{Begins, WritesSomeFront as WritesFrontOf}
use Rattle.verify_command.specs.Verifies.{Verifies}
use Rattle.nsi_program.specs.VerifiesTo.{BeginsVerify, status_of_verify}

-- a status that is cut short is that of an end that is
pub is_short : (end : VerifyEnd) (status : Status) → status ≡ status_of_verify end → (status ≡ Status.WriteFault) ⊎ (status ≡ Status.NoMemory) → (end ≡ VerifyEnd.WriteFault) ⊎ (end ≡ VerifyEnd.NoMemory)
is_short VerifyEnd.WriteFault status e s = inl refl
is_short VerifyEnd.NoMemory status e s = inr refl
is_short VerifyEnd.Done status e s = absurd (no_done (along s))
  where
    along : (status ≡ Status.WriteFault) ⊎ (status ≡ Status.NoMemory) → (Status.Done ≡ Status.WriteFault) ⊎ (Status.Done ≡ Status.NoMemory)
    along (inl x) = inl (sym e ∙ x)
    along (inr x) = inr (sym e ∙ x)

    no_done : (Status.Done ≡ Status.WriteFault) ⊎ (Status.Done ≡ Status.NoMemory) → ⊥
    no_done (inl x) = cc
    no_done (inr x) = cc
is_short VerifyEnd.ReadFault status e s = absurd (no_read s)
  where
    no_read : (status ≡ Status.WriteFault) ⊎ (status ≡ Status.NoMemory) → ⊥
    no_read (inl x) = cc
    no_read (inr x) = cc
is_short VerifyEnd.BadTopology status e s = absurd (no_topology s)
  where
    no_topology : (status ≡ Status.WriteFault) ⊎ (status ≡ Status.NoMemory) → ⊥
    no_topology (inl x) = cc
    no_topology (inr x) = cc
is_short VerifyEnd.Long status e s = absurd (no_long s)
  where
    no_long : (status ≡ Status.WriteFault) ⊎ (status ≡ Status.NoMemory) → ⊥
    no_long (inl x) = cc
    no_long (inr x) = cc

begins : (most : ℕ) (bytes text : List ℕ) → Begins (Verifies most bytes) text → BeginsVerify most bytes text
begins most bytes text (inl none) = inl none
begins most bytes text (inr (end, its)) = inr (status_of_verify end, (end, refl, its))

front_begins : (most : ℕ) (bytes : List ℕ) (old new : Option (List ℕ)) → WritesFrontOf (Begins (Verifies most bytes)) old new → WritesSomeFront (BeginsVerify most bytes) old new
front_begins most bytes None new w = tt
front_begins most bytes (Some c) new w = (w.0, w.1, begins most bytes w.0 w.2, w.3)

pub verify_begins : (most : ℕ) (left old new : Option (List ℕ)) → IfSome left (λ bytes. WritesFrontOf (Begins (Verifies most bytes)) old new) → IfSome left (λ bytes. WritesSomeFront (BeginsVerify most bytes) old new)
verify_begins most None old new w = tt
verify_begins most (Some bytes) old new w = front_begins most bytes old new w

pub verify_short : {A B : Type 0} (most : ℕ) (left old new : Option (List ℕ)) → (A × IfSome left (λ bytes. WritesFrontOf (Begins (Verifies most bytes)) old new)) ⊎ B
    → (A × IfSome left (λ bytes. WritesSomeFront (BeginsVerify most bytes) old new)) ⊎ B
verify_short most left old new (inl w) = inl (w.0, verify_begins most left old new w.1)
verify_short most left old new (inr w) = inr w
