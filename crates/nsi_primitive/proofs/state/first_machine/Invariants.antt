use Rattle.std.proofs.Common.{◌≡◌, drop}
use Rattle.nsi_primitive.specs.States.{first_state, machine_text}
use Rattle.nsi_primitive.proofs.state.first_machine.Given as goal

abbrev pub invariant-loop-machine : goal.invariant-loop-machine
invariant-loop-machine l = first_state machine_text l.name l.machines ≡ first_state machine_text l.name (drop l.machine-index l.machines)
