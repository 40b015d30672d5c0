-- How much work a provider has to do.
use Rattle.std.specs.Prelude.{◌+◌, ℕ, if◌then◌else◌, sum_by, List}
use Rattle.nsi_primitive.specs.declared.state.Machine.{Machine}
use Rattle.connection_record.specs.declared.record.Record.{Record}
use Rattle.connection_record.specs.Applied.{waits}

-- 1 where a machine of the record has work to do
abbrev pub work_in : Machine → Record → ℕ
work_in machine r = if waits machine r then 1 else 0

-- how much work a record has to do
abbrev pub works_in : Record → ℕ
works_in r = work_in Machine.Reserve r + (work_in Machine.Provision r + work_in Machine.Lifecycle r)

abbrev pub works_among : List Record → ℕ
works_among records = sum_by works_in records
