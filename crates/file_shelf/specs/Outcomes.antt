-- What the calls of std come to.
use Rattle.std.specs.Prelude.{ℕ, ◌-◌, ◌≤◌, nat_le, ⊤, Result, Ok, Err, if◌then◌else◌, ◌==◌}
use Rattle.std.specs.IoError.{error_kind}
use Rattle.std.specs.declared.fs.locks.TryLockError.{TryLockError}
use Rattle.std.specs.declared.io.Error.{Error}
use Rattle.std.specs.declared.io.ErrorKind.{ErrorKind}
use Rattle.nsi_disk.specs.declared.shelf.ShelfError.{ShelfError}
use Rattle.file_shelf.specs.declared.outcome.CallOutcome.{CallOutcome}
use Rattle.file_shelf.specs.declared.outcome.PieceOutcome.{PieceOutcome}

abbrev pub call_outcome : {T E : Type 0} → Result T E → CallOutcome
call_outcome (Ok x) = CallOutcome.Done
call_outcome (Err e) = CallOutcome.Failed

-- an interrupted call is tried again
abbrev pub piece_after : ℕ → ErrorKind → PieceOutcome
piece_after left ErrorKind.Interrupted = PieceOutcome.Left left
piece_after left _ = PieceOutcome.Failed

-- of so many bytes; a call that moves none where some are left has failed
abbrev pub piece_outcome : ℕ → Result ℕ Error → PieceOutcome
piece_outcome left (Ok n) =
    if nat_le left n then PieceOutcome.Whole else if n == 0 then PieceOutcome.Failed else PieceOutcome.Left (left - n)
piece_outcome left (Err e) = piece_after left (error_kind e)

-- no more bytes are left than were
abbrev pub GoesOnWithin : ℕ → PieceOutcome → Type 0
GoesOnWithin left (PieceOutcome.Left n) = n ≤ left
GoesOnWithin left PieceOutcome.Whole = ⊤
GoesOnWithin left PieceOutcome.Failed = ⊤

-- with the length in bytes
abbrev pub length_outcome : {E : Type 0} → Result ℕ E → CallOutcome × ℕ
length_outcome (Ok n) = (CallOutcome.Done, n)
length_outcome (Err e) = (CallOutcome.Failed, 0)

abbrev pub fetch_outcome : {T E : Type 0} → Result T E → Result T ShelfError
fetch_outcome (Ok x) = Ok x
fetch_outcome (Err e) = Err ShelfError.Failed

-- a file system that has no locks can't tell who else has the file
abbrev pub lock_after : ErrorKind → Result Unit ShelfError
lock_after ErrorKind.Unsupported = Ok tt
lock_after _ = Err ShelfError.Failed

abbrev pub lock_outcome : Result Unit TryLockError → Result Unit ShelfError
lock_outcome (Ok u) = Ok tt
lock_outcome (Err TryLockError.WouldBlock) = Err ShelfError.Failed
lock_outcome (Err (TryLockError.Error e)) = lock_after (error_kind e)
