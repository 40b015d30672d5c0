-- What a read and a write of std come to.
use Rattle.std.specs.Prelude.{ℕ, zero, suc, Result, Ok, Err}
use Rattle.nsi_outside.specs.declared.adapters.ReadOutcome.{ReadOutcome}
use Rattle.nsi_outside.specs.declared.adapters.WriteOutcome.{WriteOutcome}

-- no byte is the end
abbrev pub read_outcome : {E : Type 0} → Result ℕ E → ReadOutcome
read_outcome (Ok zero) = ReadOutcome.End
read_outcome (Ok (suc n)) = ReadOutcome.Bytes (suc n)
read_outcome (Err e) = ReadOutcome.Failed

-- a write that took nothing has failed
abbrev pub write_outcome : {E : Type 0} → Result ℕ E → WriteOutcome
write_outcome (Ok zero) = WriteOutcome.Failed
write_outcome (Ok (suc n)) = WriteOutcome.Bytes (suc n)
write_outcome (Err e) = WriteOutcome.Failed
