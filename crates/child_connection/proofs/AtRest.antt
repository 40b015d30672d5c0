-- A view at rest against its child's record: what is asked may go back, and each answer leaves it at rest.
use Rattle.std.proofs.Common.{ℕ, ◌≡◌, true, Option, Some, ◌⊎◌, arith}
use Rattle.nsi_primitive.specs.declared.kind.Kind.{Kind}
use Rattle.nsi_primitive.specs.declared.message.Body.{Body}
use Rattle.child_connection.specs.declared.state.Phase.{Phase}
use Rattle.child_connection.specs.Views.{ChildConnection, sent, is_kind}
use Rattle.child_connection.specs.Asks.{asks}
use Rattle.child_connection.specs.Hearing.{push_version, hears}
use Rattle.nsi_primitive.specs.declared.message.Exception.{Exception}
use Rattle.nsi_primitive.specs.declared.message.HoldTimeout.{HoldTimeout}
use Rattle.nsi_primitive.specs.declared.message.ReserveConfirmation.{ReserveConfirmation}
use Rattle.nsi_primitive.specs.declared.state.Rsm.{Rsm}
use Rattle.child_connection.specs.Holding.{is_reservation, IsSameReservation}
use Rattle.child_connection.specs.Standing.{Standing, IsQuiet, back}

pub asked_rests : (k : Kind) (c : ℕ) (x : ChildConnection) (s : Standing) → is_reservation k ≡ true → IsQuiet x s → IsQuiet (back (asks k c x)) s
unfolding asks is_reservation
asked_rests k c x s e h = grind arith

pub refused_rests : (k : Kind) (c : ℕ) (x : ChildConnection) (s : Standing) (id : Option ℕ) (e : Exception) → IsQuiet (back x) s → x.reserve_request ≡ Some (sent c k) → IsQuiet (hears (Body.Error id e) c x).view s
unfolding hears
refused_rests k c x s id e h a = grind arith

pub same_quiet : (x y : ChildConnection) (s : Standing) → IsSameReservation x y → IsQuiet x s → IsQuiet y s
same_quiet x y s e h = grind arith

pub confirmed_rests : (f : ReserveConfirmation) (c : ℕ) (x : ChildConnection) (s : Standing) → x.reserve_request ≡ Some (sent c Kind.Reserve) → s.rsm ≡ Rsm.ReserveHeld → s.pending ≡ Some f.version →
    x.committed ≡ s.committed → IsQuiet (hears (Body.ReserveConfirmed f) c x).view s
unfolding hears is_kind
confirmed_rests f c x s a r p m = grind arith

pub failed_rests : (id : ℕ) (e : Exception) (c : ℕ) (x : ChildConnection) (s : Standing) → x.reserve_request ≡ Some (sent c Kind.Reserve) → s.rsm ≡ Rsm.ReserveFailed → x.committed ≡ s.committed →
    IsQuiet (hears (Body.ReserveFailed id e) c x).view s
unfolding hears is_kind
failed_rests id e c x s a r m = grind arith

pub timed_out_rests : (t : HoldTimeout) (c : ℕ) (x : ChildConnection) (s : Standing) → x.attempt ≡ Some c → (x.phase ≡ Phase.Held) ⊎ (x.phase ≡ Phase.Reserving) → s.rsm ≡ Rsm.ReserveTimeout →
    x.committed ≡ s.committed → IsQuiet (hears (Body.ReserveTimeout t) c x).view s
unfolding hears
timed_out_rests t c x s a p r m = grind arith

pub commit_rests : (id c : ℕ) (x : ChildConnection) (s : Standing) → x.reserve_request ≡ Some (sent c Kind.ReserveCommit) → s.rsm ≡ Rsm.ReserveStart → s.committed ≡ push_version x.committed x.pending →
    IsQuiet (hears (Body.ReserveCommitConfirmed id) c x).view s
unfolding hears is_kind
commit_rests id c x s a r m = grind arith

pub failed_commit_rests : (id : ℕ) (e : Exception) (c : ℕ) (x : ChildConnection) (s : Standing) → x.reserve_request ≡ Some (sent c Kind.ReserveCommit) → s.rsm ≡ Rsm.ReserveStart → x.committed ≡ s.committed →
    IsQuiet (hears (Body.ReserveCommitFailed id e) c x).view s
unfolding hears is_kind
failed_commit_rests id e c x s a r m = grind arith

pub abort_rests : (id c : ℕ) (x : ChildConnection) (s : Standing) → x.reserve_request ≡ Some (sent c Kind.ReserveAbort) → s.rsm ≡ Rsm.ReserveStart → x.committed ≡ s.committed →
    IsQuiet (hears (Body.ReserveAbortConfirmed id) c x).view s
unfolding hears is_kind
abort_rests id c x s a r m = grind arith
