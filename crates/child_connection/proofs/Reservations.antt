-- What concerns the reservation of a view, and what leaves it alone.
use Rattle.std.proofs.Common.{ℕ, ◌≡◌, Bool, true, false, Some, None, ◌⊎◌, inl, inr, refl, sym, ap, arith}
use Rattle.nsi_primitive.specs.declared.kind.ErrorName.{ErrorName}
use Rattle.nsi_primitive.specs.declared.message.Body.{Body}
use Rattle.child_connection.specs.declared.state.Phase.{Phase}
use Rattle.child_connection.specs.Views.{ChildConnection, is_open}
use Rattle.child_connection.specs.Hearing.{refused, hears}
use Rattle.child_connection.specs.Holding.{settles, is_timeout, is_response, IsSameReservation, IsAlike, IsApart}

pub apart_same : (b : Body) (d : ℕ) (x : ChildConnection) → IsApart b d x → IsSameReservation x (hears b d x).view
unfolding hears is_timeout
apart_same (Body.ReserveResponse id) d x h = grind arith
apart_same (Body.ReserveConfirmed f) d x h = grind arith
apart_same (Body.ReserveFailed id ex) d x h = grind arith
apart_same (Body.ReserveTimeout t) d x h = grind arith
apart_same (Body.ReserveCommitConfirmed id) d x h = grind arith
apart_same (Body.ReserveCommitFailed id ex) d x h = grind arith
apart_same (Body.ReserveAbortConfirmed id) d x h = grind arith
apart_same (Body.Error id ex) d x h = grind arith
apart_same (Body.ProvisionConfirmed id) d x h = grind arith
apart_same (Body.ReleaseConfirmed id) d x h = grind arith
apart_same (Body.TerminateConfirmed id) d x h = grind arith
apart_same (Body.ErrorEvent f) d x h = grind arith
apart_same (Body.DataPlaneStateChange n) d x h = grind arith
apart_same _ d x h = grind arith

pub settling_changes : (b : Body) (d : ℕ) (x : ChildConnection) → settles b ≡ false → IsSameReservation x (hears b d x).view
unfolding hears settles
settling_changes (Body.ReserveResponse id) d x h = grind (arith, h)
settling_changes (Body.ReserveConfirmed f) d x h = grind (arith, h)
settling_changes (Body.ReserveFailed id ex) d x h = grind (arith, h)
settling_changes (Body.ReserveTimeout t) d x h = grind (arith, h)
settling_changes (Body.ReserveCommitConfirmed id) d x h = grind (arith, h)
settling_changes (Body.ReserveCommitFailed id ex) d x h = grind (arith, h)
settling_changes (Body.ReserveAbortConfirmed id) d x h = grind (arith, h)
settling_changes (Body.Error id ex) d x h = grind (arith, h)
settling_changes (Body.ProvisionConfirmed id) d x h = grind (arith, h)
settling_changes (Body.ReleaseConfirmed id) d x h = grind (arith, h)
settling_changes (Body.TerminateConfirmed id) d x h = grind (arith, h)
settling_changes (Body.ErrorEvent f) d x h = grind (arith, h)
settling_changes (Body.DataPlaneStateChange n) d x h = grind (arith, h)
settling_changes _ d x h = grind (arith, h)

pub others_alike : (b : Body) (d : ℕ) (x : ChildConnection) → settles b ≡ false → is_response b ≡ false → IsAlike x (hears b d x).view
unfolding hears settles is_response
others_alike (Body.ReserveResponse id) d x h r = grind (arith, h, r)
others_alike (Body.ReserveConfirmed f) d x h r = grind (arith, h, r)
others_alike (Body.ReserveFailed id ex) d x h r = grind (arith, h, r)
others_alike (Body.ReserveTimeout t) d x h r = grind (arith, h, r)
others_alike (Body.ReserveCommitConfirmed id) d x h r = grind (arith, h, r)
others_alike (Body.ReserveCommitFailed id ex) d x h r = grind (arith, h, r)
others_alike (Body.ReserveAbortConfirmed id) d x h r = grind (arith, h, r)
others_alike (Body.Error id ex) d x h r = grind (arith, h, r)
others_alike (Body.ProvisionConfirmed id) d x h r = grind (arith, h, r)
others_alike (Body.ReleaseConfirmed id) d x h r = grind (arith, h, r)
others_alike (Body.TerminateConfirmed id) d x h r = grind (arith, h, r)
others_alike (Body.ErrorEvent f) d x h r = grind (arith, h, r)
others_alike (Body.DataPlaneStateChange n) d x h r = grind (arith, h, r)
others_alike _ d x h r = grind (arith, h, r)

---- Views with one reservation hear the same

refused-same : (a p l a' p' l' : Bool) (e : ErrorName) (x y : ChildConnection) → a ≡ a' → IsSameReservation x y → IsSameReservation (refused a p l e x).view (refused a' p' l' e y).view
refused-same true p l true p' l' e x y q s = grind arith
refused-same true p l false p' l' e x y q s = absurd (cc)
refused-same false p l true p' l' e x y q s = absurd (cc)
refused-same false true l false true l' e x y q s = grind arith
refused-same false true l false false true e x y q s = grind arith
refused-same false true l false false false e x y q s = grind arith
refused-same false false true false true l' e x y q s = grind arith
refused-same false false true false false true e x y q s = grind arith
refused-same false false true false false false e x y q s = grind arith
refused-same false false false false true l' e x y q s = grind arith
refused-same false false false false false true e x y q s = grind arith
refused-same false false false false false false e x y q s = s

open-same : (x y : ChildConnection) (d : ℕ) → IsSameReservation x y → is_open x.reserve_request d ≡ is_open y.reserve_request d
open-same x y d s = ap (λ z. is_open z d) (sym s.request)

pub same_hear : (b : Body) (d : ℕ) (x y : ChildConnection) → IsSameReservation x y → IsSameReservation (hears b d x).view (hears b d y).view
unfolding hears
same_hear (Body.ReserveResponse id) d x y s = grind arith
same_hear (Body.ReserveConfirmed f) d x y s = grind arith
same_hear (Body.ReserveFailed id ex) d x y s = grind arith
same_hear (Body.ReserveTimeout t) d x y s = grind arith
same_hear (Body.ReserveCommitConfirmed id) d x y s = grind arith
same_hear (Body.ReserveCommitFailed id ex) d x y s = grind arith
same_hear (Body.ReserveAbortConfirmed id) d x y s = grind arith
same_hear (Body.Error id ex) d x y s = refused-same _ _ _ _ _ _ _ x y (open-same x y d s) s
same_hear (Body.ProvisionConfirmed id) d x y s = grind arith
same_hear (Body.ReleaseConfirmed id) d x y s = grind arith
same_hear (Body.TerminateConfirmed id) d x y s = grind arith
same_hear (Body.ErrorEvent f) d x y s = grind arith
same_hear (Body.DataPlaneStateChange n) d x y s = grind arith
same_hear _ d x y s = grind arith

---- The request and the attempt

refused-request : (a p l : Bool) (e : ErrorName) (x : ChildConnection) → ((refused a p l e x).view.reserve_request ≡ x.reserve_request) ⊎ ((refused a p l e x).view.reserve_request ≡ None)
refused-request true p l e x = inr refl
refused-request false true l e x = inl refl
refused-request false false true e x = inl refl
refused-request false false false e x = inl refl

pub request_stays : (b : Body) (d : ℕ) (x : ChildConnection) → ((hears b d x).view.reserve_request ≡ x.reserve_request) ⊎ ((hears b d x).view.reserve_request ≡ None)
unfolding hears
request_stays (Body.ReserveResponse id) d x = grind arith
request_stays (Body.ReserveConfirmed f) d x = grind arith
request_stays (Body.ReserveFailed id ex) d x = grind arith
request_stays (Body.ReserveTimeout t) d x = grind arith
request_stays (Body.ReserveCommitConfirmed id) d x = grind arith
request_stays (Body.ReserveCommitFailed id ex) d x = grind arith
request_stays (Body.ReserveAbortConfirmed id) d x = grind arith
request_stays (Body.Error id ex) d x = refused-request _ _ _ _ x
request_stays (Body.ProvisionConfirmed id) d x = grind arith
request_stays (Body.ReleaseConfirmed id) d x = grind arith
request_stays (Body.TerminateConfirmed id) d x = grind arith
request_stays (Body.ErrorEvent f) d x = grind arith
request_stays (Body.DataPlaneStateChange n) d x = grind arith
request_stays _ d x = inl refl

refused-attempt : (a p l : Bool) (e : ErrorName) (x : ChildConnection) (c : ℕ) → (refused a p l e x).view.attempt ≡ Some c → x.attempt ≡ Some c
refused-attempt true p l e x c h = grind (arith, h)
refused-attempt false true l e x c h = h
refused-attempt false false true e x c h = h
refused-attempt false false false e x c h = h

pub attempt_asked : (b : Body) (d : ℕ) (x : ChildConnection) (c : ℕ) → (hears b d x).view.attempt ≡ Some c → x.attempt ≡ Some c
unfolding hears
attempt_asked (Body.ReserveResponse id) d x c h = grind (arith, h)
attempt_asked (Body.ReserveConfirmed f) d x c h = grind (arith, h)
attempt_asked (Body.ReserveFailed id ex) d x c h = grind (arith, h)
attempt_asked (Body.ReserveTimeout t) d x c h = grind (arith, h)
attempt_asked (Body.ReserveCommitConfirmed id) d x c h = grind (arith, h)
attempt_asked (Body.ReserveCommitFailed id ex) d x c h = grind (arith, h)
attempt_asked (Body.ReserveAbortConfirmed id) d x c h = grind (arith, h)
attempt_asked (Body.Error id ex) d x c h = refused-attempt _ _ _ _ x c h
attempt_asked (Body.ProvisionConfirmed id) d x c h = grind (arith, h)
attempt_asked (Body.ReleaseConfirmed id) d x c h = grind (arith, h)
attempt_asked (Body.TerminateConfirmed id) d x c h = grind (arith, h)
attempt_asked (Body.ErrorEvent f) d x c h = grind (arith, h)
attempt_asked (Body.DataPlaneStateChange n) d x c h = grind (arith, h)
attempt_asked _ d x c h = h

refused-attempt-held : (a p l : Bool) (e : ErrorName) (x : ChildConnection) → (refused a p l e x).view.phase ≡ Phase.Held → (refused a p l e x).view.attempt ≡ x.attempt
refused-attempt-held true p l e x h = grind (arith, h)
refused-attempt-held false true l e x h = refl
refused-attempt-held false false true e x h = refl
refused-attempt-held false false false e x h = refl

pub held_attempt : (b : Body) (d : ℕ) (x : ChildConnection) → (hears b d x).view.phase ≡ Phase.Held → (hears b d x).view.attempt ≡ x.attempt
unfolding hears
held_attempt (Body.ReserveResponse id) d x h = grind (arith, h)
held_attempt (Body.ReserveConfirmed f) d x h = grind (arith, h)
held_attempt (Body.ReserveFailed id ex) d x h = grind (arith, h)
held_attempt (Body.ReserveTimeout t) d x h = grind (arith, h)
held_attempt (Body.ReserveCommitConfirmed id) d x h = grind (arith, h)
held_attempt (Body.ReserveCommitFailed id ex) d x h = grind (arith, h)
held_attempt (Body.ReserveAbortConfirmed id) d x h = grind (arith, h)
held_attempt (Body.Error id ex) d x h = refused-attempt-held _ _ _ _ x h
held_attempt (Body.ProvisionConfirmed id) d x h = grind (arith, h)
held_attempt (Body.ReleaseConfirmed id) d x h = grind (arith, h)
held_attempt (Body.TerminateConfirmed id) d x h = grind (arith, h)
held_attempt (Body.ErrorEvent f) d x h = grind (arith, h)
held_attempt (Body.DataPlaneStateChange n) d x h = grind (arith, h)
held_attempt _ d x h = refl
