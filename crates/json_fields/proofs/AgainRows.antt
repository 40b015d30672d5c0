-- What is put at a row's key reads again.
use Rattle.std.proofs.Common.{◌≡◌, ◌≤◌, ℕ, ◌&&◌, true, nat_le, Some, None, refl, ap, cond, arith}
use Rattle.std.proofs.lemmas.Bool.Decides.{nat_tests}
use Rattle.nsi_primitive.specs.States.{rsm_text, psm_text, lsm_text, rsm_named, psm_named, lsm_named, first_state}
use Rattle.nsi_primitive.specs.declared.state.Rsm.{Rsm}
use Rattle.nsi_primitive.specs.declared.state.Psm.{Psm}
use Rattle.nsi_primitive.specs.declared.state.Lsm.{Lsm}
use Rattle.json_fields.specs.RowFields.{rsm_from, psm_from, lsm_from, depth_from}
use Rattle.json_fields.specs.Objects.{digits, words, IsReadBack}

-- a state is the one that its name names
pub rsm_again : (s : Rsm) → IsReadBack rsm_from (words (rsm_text s)) s
unfolding rsm_text rsm_named first_state
rsm_again Rsm.ReserveStart = refl
rsm_again Rsm.ReserveChecking = refl
rsm_again Rsm.ReserveFailed = refl
rsm_again Rsm.ReserveHeld = refl
rsm_again Rsm.ReserveCommitting = refl
rsm_again Rsm.ReserveTimeout = refl
rsm_again Rsm.ReserveAborting = refl

pub psm_again : (s : Psm) → IsReadBack psm_from (words (psm_text s)) s
unfolding psm_text psm_named first_state
psm_again Psm.Released = refl
psm_again Psm.Provisioning = refl
psm_again Psm.Provisioned = refl
psm_again Psm.Releasing = refl

pub lsm_again : (s : Lsm) → IsReadBack lsm_from (words (lsm_text s)) s
unfolding lsm_text lsm_named first_state
lsm_again Lsm.Created = refl
lsm_again Lsm.Failed = refl
lsm_again Lsm.PassedEndTime = refl
lsm_again Lsm.Terminating = refl
lsm_again Lsm.Terminated = refl

is_byte : (depth : ℕ) → depth ≤ 255 → (nat_le 0 depth && nat_le depth 255) ≡ true
is_byte depth low = grind (arith, nat_tests)

pub depth_again : (depth : ℕ) → depth ≤ 255 → IsReadBack depth_from (digits depth) depth
depth_again depth low = ap (λ b. cond b (Some depth) None) (is_byte depth low)
