-- Which connection a message teaches, and which version it adds.
use Rattle.std.proofs.Common.{ℕ, ◌≡◌, Bool, true, false, Option, Some, None, inl, inr, ◌&&◌, refl, sym, ap, arith, is_none}
use Rattle.nsi_primitive.specs.declared.kind.ErrorName.{ErrorName}
use Rattle.nsi_primitive.specs.declared.kind.Kind.{Kind}
use Rattle.nsi_primitive.specs.declared.message.Body.{Body}
use Rattle.child_connection.specs.declared.state.Phase.{Phase}
use Rattle.child_connection.specs.declared.state.Sent.{Sent}
use Rattle.child_connection.specs.declared.state.Taken.{Taken}
use Rattle.child_connection.specs.Views.{ChildConnection, sent, is_id, is_open, is_open_of, is_kind}
use Rattle.child_connection.specs.Hearing.{heard_if, refused, is_reserving_or_held, push_version, hears}
use Rattle.std.proofs.Common.{eqb-true}
use Rattle.child_connection.specs.Holding.{teaches, IsHeeded, Learns, Commits}

---- The connection

learns-if : (t : Bool) (w : Taken) (b : Body) (d id : ℕ) (x y : ChildConnection) → teaches b ≡ Some id → y.connection ≡ Some id → (t ≡ true → IsHeeded x d) → Learns b d x (heard_if t w y x).view
learns-if true w b d id x y e f h = inr (id, e, f, h refl)
learns-if false w b d id x y e f h = inl refl

keeps-if : (t : Bool) (w : Taken) (b : Body) (d : ℕ) (x y : ChildConnection) → y.connection ≡ x.connection → Learns b d x (heard_if t w y x).view
keeps-if true w b d x y e = inl e
keeps-if false w b d x y e = inl refl

refused-keeps : (a p l : Bool) (e : ErrorName) (b : Body) (d : ℕ) (x : ChildConnection) → Learns b d x (refused a p l e x).view
refused-keeps true p l e b d x = inl refl
refused-keeps false true l e b d x = inl refl
refused-keeps false false true e b d x = inl refl
refused-keeps false false false e b d x = inl refl

fst-true : (a b : Bool) → (a && b) ≡ true → a ≡ true
fst-true true b h = refl
fst-true false b h = absurd (cc)

open-of : (o : Option Sent) (k : Kind) (d : ℕ) → is_open_of o k d ≡ true → is_open o d ≡ true
open-of None k d e = absurd (cc)
open-of (Some q) k d e = fst-true _ _ e

is-some : (o : Option ℕ) (d : ℕ) → is_id o d ≡ true → o ≡ Some d
is-some None d e = absurd (cc)
is-some (Some c) d e = ap Some (sym (eqb-true d c e))

pub messages_teach : (b : Body) (d : ℕ) (x : ChildConnection) → Learns b d x (hears b d x).view
unfolding hears teaches
messages_teach (Body.ReserveResponse id) d x =
    learns-if _ _ (Body.ReserveResponse id) d id x _ refl refl (λ t. inl (is-some x.attempt d (fst-true (is_id x.attempt d) (is_none x.connection) t)))
messages_teach (Body.ReserveConfirmed f) d x =
    learns-if _ _ (Body.ReserveConfirmed f) d f.connection x _ refl refl (λ t. inr (open-of x.reserve_request Kind.Reserve d t))
messages_teach (Body.ReserveFailed id ex) d x = learns-if _ _ (Body.ReserveFailed id ex) d id x _ refl refl (λ t. inr (open-of x.reserve_request Kind.Reserve d t))
messages_teach (Body.ReserveTimeout f) d x =
    learns-if _ _ (Body.ReserveTimeout f) d f.connection x _ refl refl (λ t. inl (is-some x.attempt d (fst-true (is_id x.attempt d) (is_reserving_or_held x.phase) t)))
messages_teach (Body.ReserveCommitConfirmed id) d x = keeps-if _ _ (Body.ReserveCommitConfirmed id) d x _ refl
messages_teach (Body.ReserveCommitFailed id ex) d x = keeps-if _ _ (Body.ReserveCommitFailed id ex) d x _ refl
messages_teach (Body.ReserveAbortConfirmed id) d x = keeps-if _ _ (Body.ReserveAbortConfirmed id) d x _ refl
messages_teach (Body.Error id ex) d x = refused-keeps _ _ _ _ (Body.Error id ex) d x
messages_teach (Body.ProvisionConfirmed id) d x = keeps-if _ _ (Body.ProvisionConfirmed id) d x _ refl
messages_teach (Body.ReleaseConfirmed id) d x = keeps-if _ _ (Body.ReleaseConfirmed id) d x _ refl
messages_teach (Body.TerminateConfirmed id) d x = keeps-if _ _ (Body.TerminateConfirmed id) d x _ refl
messages_teach (Body.ErrorEvent f) d x = keeps-if _ _ (Body.ErrorEvent f) d x _ refl
messages_teach (Body.DataPlaneStateChange n) d x = keeps-if _ _ (Body.DataPlaneStateChange n) d x _ refl
messages_teach _ d x = inl refl

pub first_answer_teaches : (b : Body) (c id : ℕ) (x : ChildConnection) → x.reserve_request ≡ Some (sent c Kind.Reserve) → x.attempt ≡ Some c → x.phase ≡ Phase.Reserving → x.connection ≡ None →
    teaches b ≡ Some id → (hears b c x).view.connection ≡ Some id
unfolding hears teaches is_kind
first_answer_teaches b c id x r a p n e = grind (arith, r, a, p, n, e)

---- The committed versions

refused-committed : (a p l : Bool) (e : ErrorName) (x : ChildConnection) → (refused a p l e x).view.committed ≡ x.committed
refused-committed true p l e x = refl
refused-committed false true l e x = refl
refused-committed false false true e x = refl
refused-committed false false false e x = refl

stays-if : (t : Bool) (w : Taken) (b : Body) (d : ℕ) (x y : ChildConnection) → y.committed ≡ x.committed → Commits b d x (heard_if t w y x).view
stays-if true w b d x y e = inl e
stays-if false w b d x y e = inl refl

commits-if : (t : Bool) (w : Taken) (id d : ℕ) (x y : ChildConnection) → is_open_of x.reserve_request Kind.ReserveCommit d ≡ t → y.committed ≡ push_version x.committed x.pending →
    Commits (Body.ReserveCommitConfirmed id) d x (heard_if t w y x).view
commits-if true w id d x y e f = inr (id, refl, e, f)
commits-if false w id d x y e f = inl refl

pub messages_commit : (b : Body) (d : ℕ) (x : ChildConnection) → Commits b d x (hears b d x).view
unfolding hears
messages_commit (Body.ReserveResponse id) d x = stays-if _ _ (Body.ReserveResponse id) d x _ refl
messages_commit (Body.ReserveConfirmed f) d x = stays-if _ _ (Body.ReserveConfirmed f) d x _ refl
messages_commit (Body.ReserveFailed id ex) d x = stays-if _ _ (Body.ReserveFailed id ex) d x _ refl
messages_commit (Body.ReserveTimeout f) d x = stays-if _ _ (Body.ReserveTimeout f) d x _ refl
messages_commit (Body.ReserveCommitConfirmed id) d x = commits-if _ _ id d x _ refl refl
messages_commit (Body.ReserveCommitFailed id ex) d x = stays-if _ _ (Body.ReserveCommitFailed id ex) d x _ refl
messages_commit (Body.ReserveAbortConfirmed id) d x = stays-if _ _ (Body.ReserveAbortConfirmed id) d x _ refl
messages_commit (Body.Error id ex) d x = inl (refused-committed _ _ _ _ x)
messages_commit (Body.ProvisionConfirmed id) d x = stays-if _ _ (Body.ProvisionConfirmed id) d x _ refl
messages_commit (Body.ReleaseConfirmed id) d x = stays-if _ _ (Body.ReleaseConfirmed id) d x _ refl
messages_commit (Body.TerminateConfirmed id) d x = stays-if _ _ (Body.TerminateConfirmed id) d x _ refl
messages_commit (Body.ErrorEvent f) d x = stays-if _ _ (Body.ErrorEvent f) d x _ refl
messages_commit (Body.DataPlaneStateChange n) d x = stays-if _ _ (Body.DataPlaneStateChange n) d x _ refl
messages_commit _ d x = inl refl
