-- What stands where the command has ended.
use Rattle.std.specs.Prelude.{◌≡◌, ◌<◌, ◌⊎◌, ℕ, Bool, true, false, List, [], ◌++◌, take, Option, Some, IfSome}
use Rattle.nsi_outside.specs.Stream.{WritesAll, WritesFront}
use Rattle.verify_command.specs.declared.end.VerifyEnd.{VerifyEnd}

abbrev pub code_of : VerifyEnd → ℕ
code_of VerifyEnd.Done = 0
code_of VerifyEnd.NoMemory = 1
code_of VerifyEnd.ReadFault = 2
code_of VerifyEnd.WriteFault = 3
code_of VerifyEnd.BadTopology = 5
code_of VerifyEnd.Long = 8

-- an end that is neither want of memory nor a fault of reading or writing
abbrev pub is_told : VerifyEnd → Bool
is_told VerifyEnd.NoMemory = false
is_told VerifyEnd.ReadFault = false
is_told VerifyEnd.WriteFault = false
is_told _ = true

-- where the sink tells, a text of which it holds was appended
abbrev pub WritesSome : (List ℕ → Type 0) → Option (List ℕ) → Option (List ℕ) → Type 0
WritesSome P old new = IfSome old (λ c. (text : List ℕ) × P text × (new ≡ Some (c ++ text)))

-- where the sink tells, a front of a text of which it holds was appended
abbrev pub WritesSomeFront : (List ℕ → Type 0) → Option (List ℕ) → Option (List ℕ) → Type 0
WritesSomeFront P old new = IfSome old (λ c. (text : List ℕ) × (k : ℕ) × P text × (new ≡ Some (c ++ take k text)))

-- nothing, or a text with which the command ends
abbrev pub Begins : (VerifyEnd → List ℕ → Type 0) → List ℕ → Type 0
Begins Texts text = (text ≡ []) ⊎ ((end : VerifyEnd) × Texts end text)

-- a text is written at last; or a front of it, where writing fails or memory is wanting
pub record Closes (text : List ℕ) (own end : VerifyEnd) (old new : Option (List ℕ)) (faults_before faults_after : ℕ) : Type 0 where
  pub kind : (end ≡ own) ⊎ ((end ≡ VerifyEnd.WriteFault) ⊎ (end ≡ VerifyEnd.NoMemory))
  pub told : end ≡ own → WritesAll old new text
  pub front : WritesFront old new text
  pub write : end ≡ VerifyEnd.WriteFault → faults_before < faults_after
  pub quiet : (end ≡ VerifyEnd.WriteFault → ⊥) → faults_after ≡ faults_before

-- an end that a line tells
pub record HasLine (end : VerifyEnd) : Type 0 where
  pub write : end ≡ VerifyEnd.WriteFault → ⊥
  pub memory : end ≡ VerifyEnd.NoMemory → ⊥

-- what stands once an input was read, of which these are the texts
pub record HasEnded (Texts : VerifyEnd → List ℕ → Type 0) (old new : Option (List ℕ)) (faults_before faults_after : ℕ) (end : VerifyEnd) : Type 0 where
  pub ends : is_told end ≡ true → WritesSome (Texts end) old new
  pub front : (end ≡ VerifyEnd.WriteFault) ⊎ (end ≡ VerifyEnd.NoMemory) → WritesSomeFront (Begins Texts) old new
  pub write : end ≡ VerifyEnd.WriteFault → faults_before < faults_after
  pub quiet : (end ≡ VerifyEnd.WriteFault → ⊥) → faults_after ≡ faults_before
  pub read : end ≡ VerifyEnd.ReadFault → ⊥
