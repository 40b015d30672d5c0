use Rattle.std.proofs.Common.{◌≡◌, take, drop, map}
use Rattle.nsi_primitive.specs.declared.message.Parcel.{Parcel}
use Rattle.agent_link.specs.Fates.{parcel_kind, nearer}
use Rattle.agent_link.proofs.plan.Plan.pass.Given as goal

abbrev pub invariant-loop-fault : goal.invariant-loop-fault
invariant-loop-fault l = record {
  done : (p : Parcel) → parcel_kind p ≡ l.fn.kind → take l.fault-index l.fault-items ≡ map (nearer p) (take l.fault-index l.fn.self);
  rest : drop l.fault-index l.fault-items ≡ drop l.fault-index l.fn.self;
}
