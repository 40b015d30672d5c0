use Rattle.std.proofs.Common.{◌≡◌, drop}
use Rattle.nsi_primitive.specs.States.{first_state, psm_text}
use Rattle.nsi_primitive.proofs.state.first_psm.Given as goal

abbrev pub invariant-loop-state : goal.invariant-loop-state
invariant-loop-state l = first_state psm_text l.name l.states ≡ first_state psm_text l.name (drop l.state-index l.states)
