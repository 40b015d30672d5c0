use Rattle.std.proofs.Common.{◌≡◌, drop}
use Rattle.nsi_primitive.specs.States.{first_state, lsm_text}
use Rattle.nsi_primitive.proofs.state.first_lsm.Given as goal

abbrev pub invariant-loop-state : goal.invariant-loop-state
invariant-loop-state l = first_state lsm_text l.name l.states ≡ first_state lsm_text l.name (drop l.state-index l.states)
