-- By what a line of a plan is found.
use Rattle.nsi_script.specs.declared.plans.CallKey.{CallKey}
use Rattle.nsi_script.specs.declared.plans.ParcelKey.{ParcelKey}
use Rattle.nsi_script.specs.declared.script.PlanLine.{PlanLine}
use Rattle.nsi_script.specs.declared.script.StopLine.{StopLine}
use Rattle.nsi_script.specs.Plans.{parcel_number}

abbrev pub parcel_key : PlanLine → ParcelKey
parcel_key line = record { from = line.from; to = line.to; parcel = parcel_number line.fault.of; nth = line.fault.nth }

abbrev pub call_key : StopLine → CallKey
call_key line = record { agent = line.agent; call = line.stop.call }
