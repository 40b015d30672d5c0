-- How the command `verify` ends, as the program tells it.
use Rattle.std.specs.Prelude.{◌≡◌, ◌⊎◌, ℕ, List, []}
use Rattle.provide_command.specs.declared.status.Status.{Status}
use Rattle.verify_command.specs.declared.end.VerifyEnd.{VerifyEnd}
use Rattle.verify_command.specs.Verifies.{Verifies}

abbrev pub status_of_verify : VerifyEnd → Status
status_of_verify VerifyEnd.Done = Status.Done
status_of_verify VerifyEnd.BadTopology = Status.BadTopology
status_of_verify VerifyEnd.Long = Status.Long
status_of_verify VerifyEnd.NoMemory = Status.NoMemory
status_of_verify VerifyEnd.ReadFault = Status.ReadFault
status_of_verify VerifyEnd.WriteFault = Status.WriteFault

-- `verify` ends on these bytes with this status, and that is all that it writes
abbrev pub VerifiesTo : ℕ → List ℕ → Status → List ℕ → Type 0
VerifiesTo most bytes status text = (end : VerifyEnd) × (status ≡ status_of_verify end) × Verifies most bytes end text

-- nothing, or all that `verify` writes on these bytes
abbrev pub BeginsVerify : ℕ → List ℕ → List ℕ → Type 0
BeginsVerify most bytes text = (text ≡ []) ⊎ ((status : Status) × VerifiesTo most bytes status text)
