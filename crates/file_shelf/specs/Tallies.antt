-- How a disk over a file counts, and what it answers.
use Rattle.std.specs.Prelude.{ℕ, ◌+◌, ◌-◌, nat_lt, false, Result, Ok, Err, if◌then◌else◌}
use Rattle.nsi_disk.specs.Disk.{Meter}
use Rattle.nsi_disk.specs.declared.disk.DiskError.{DiskError}
use Rattle.nsi_disk.specs.declared.shelf.ShelfError.{ShelfError}
use Rattle.file_shelf.specs.declared.outcome.CallOutcome.{CallOutcome}

-- how many faults can be counted
abbrev pub most_faults : ℕ
most_faults = 18446744073709551615

abbrev pub fresh_meter : Meter
fresh_meter = record { faults = 0; stops = 0; planned = 0; stopped = false; calls = 0; longest = 0; bytes = 0 }

-- a fault that can't be counted is told as want of memory
abbrev pub answer : Meter → CallOutcome → Result Unit DiskError
answer meter CallOutcome.Done = Ok tt
answer meter CallOutcome.Failed = if nat_lt meter.faults most_faults then Err DiskError.Failed else Err DiskError.NoMemory

-- a count that one more was added to
abbrev pub one_more : ℕ → ℕ
one_more faults = if nat_lt faults most_faults then faults + 1 else faults

abbrev pub one_call_less : Meter → Meter
one_call_less meter = record meter { calls = meter.calls - 1 }

abbrev pub settled : Meter → CallOutcome → Meter
settled meter CallOutcome.Done = one_call_less meter
settled meter CallOutcome.Failed = record (one_call_less meter) { faults = one_more meter.faults }

-- how a shelf tells that there is no disk, by the same rule
abbrev pub refusal : ℕ → ShelfError → ShelfError
refusal faults ShelfError.Failed = if nat_lt faults most_faults then ShelfError.Failed else ShelfError.NoMemory
refusal faults ShelfError.NoMemory = ShelfError.NoMemory

abbrev pub refused : ℕ → ShelfError → ℕ
refused faults ShelfError.Failed = one_more faults
refused faults ShelfError.NoMemory = faults
