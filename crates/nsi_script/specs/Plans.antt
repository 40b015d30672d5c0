-- What is planned for links and disks.
use Rattle.std.specs.Prelude.{ℕ, List, Bool, ◌&&◌, ◌==◌}
use Rattle.std.specs.List.{list_any}
use Rattle.nsi_primitive.specs.Kinds.{kind_number}
use Rattle.agent_link.specs.declared.plan.ParcelKind.{ParcelKind}
use Rattle.agent_link.specs.declared.plan.ParcelKind.TheVariants.{Message, Ack}
use Rattle.nsi_script.specs.declared.script.PlanLine.{PlanLine}
use Rattle.nsi_script.specs.declared.script.StopLine.{StopLine}

-- each kind of parcel has a number of its own
abbrev pub parcel_number : ParcelKind → ℕ
parcel_number (Message kind) = kind_number kind
parcel_number Ack = 28

-- two lines of one link, kind and number
abbrev pub is_same_parcel : PlanLine → PlanLine → Bool
is_same_parcel a b =
    (a.from == b.from) && ((a.to == b.to) && ((parcel_number a.fault.of == parcel_number b.fault.of) && (a.fault.nth == b.fault.nth)))

-- whether something is planned for that parcel
abbrev pub is_planned : List PlanLine → PlanLine → Bool
is_planned lines line = list_any (is_same_parcel line) lines

-- two lines of one agent and call
abbrev pub is_same_call : StopLine → StopLine → Bool
is_same_call a b = (a.agent == b.agent) && (a.stop.call == b.stop.call)

-- whether the disk stops at that call
abbrev pub is_stopped : List StopLine → StopLine → Bool
is_stopped lines line = list_any (is_same_call line) lines
