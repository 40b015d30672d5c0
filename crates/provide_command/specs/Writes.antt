-- Texts that a sink has taken, of which something is known.
use Rattle.std.specs.Prelude.{◌≡◌, ◌<◌, ℕ, List, ◌++◌, take, true, Option, Some, IfSome, Result, OnOk, IsErrOf}
use Rattle.provide_command.specs.declared.output.Fault.{Fault}
use Rattle.provide_command.specs.declared.status.Status.{Status}
use Rattle.provide_command.specs.Promise.{is_told}

-- where the sink tells, a text of which it holds was appended
abbrev pub WritesSome : (List ℕ → Type 0) → Option (List ℕ) → Option (List ℕ) → Type 0
WritesSome P old new = IfSome old (λ c. (text : List ℕ) × P text × (new ≡ Some (c ++ text)))

-- where the sink tells, a front of a text of which it holds was appended
abbrev pub WritesSomeFront : (List ℕ → Type 0) → Option (List ℕ) → Option (List ℕ) → Type 0
WritesSomeFront P old new = IfSome old (λ c. (text : List ℕ) × (k : ℕ) × P text × (new ≡ Some (c ++ take k text)))

---- The count of a sink's faults

-- it rises where writing failed; where all is written or memory is wanting it stays, and nothing is read
pub record CountsFaults {A : Type 0} (result : Result A Fault) (old new : ℕ) : Type 0 where
  pub write : IsErrOf result Fault.Write → old < new
  pub not_read : IsErrOf result Fault.Read → ⊥
  pub quiet : OnOk result (new ≡ old)
  pub memory : IsErrOf result Fault.NoMemory → new ≡ old

-- the same of the status of a command
pub record TellsFaults (status : Status) (old new : ℕ) : Type 0 where
  pub write : status ≡ Status.WriteFault → old < new
  pub not_read : status ≡ Status.ReadFault → ⊥
  pub not_disk : status ≡ Status.DiskFault → ⊥
  pub quiet : is_told status ≡ true → new ≡ old
  pub memory : status ≡ Status.NoMemory → new ≡ old
