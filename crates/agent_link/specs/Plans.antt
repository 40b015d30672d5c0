-- Which parcels of a link are lost, and which come twice.
use Rattle.std.specs.Prelude.{ℕ, List}
use Rattle.nsi_primitive.specs.Kinds.{kind_number}
use Rattle.agent_link.specs.declared.plan.LinkFault.{LinkFault}
use Rattle.agent_link.specs.declared.plan.ParcelKind.{ParcelKind}

-- each kind of parcel has a number of its own
abbrev pub parcel_number : ParcelKind → ℕ
parcel_number (ParcelKind.Message kind) = kind_number kind
parcel_number ParcelKind.Ack = 28

---- Plans

-- A plan says of a link's parcels from now on, those of each kind counted from 1, which are lost and which come twice. What is counted 0 is past.
abbrev pub Plan : Type 0
Plan = List LinkFault
