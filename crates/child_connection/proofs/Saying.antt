-- What an ask says: its kind, the connection that it names, and that it can be written.
use Rattle.std.proofs.Common.{ℕ, ◌≡◌, true, false, List, Option, Some, None, refl, arith}
use Rattle.std.specs.Str.{bytes_eq}
use Rattle.nsi_primitive.specs.Messages.{kind_of, connection_of}
use Rattle.nsi_primitive.specs.Printable.{IsShort, IsPrintable}
use Rattle.nsi_primitive.specs.declared.kind.Kind.{Kind}
use Rattle.nsi_primitive.specs.declared.message.Body.{Body}
use Rattle.nsi_primitive.specs.declared.message.Service.{Service}
use Rattle.child_connection.specs.Views.{ChildConnection}
use Rattle.child_connection.specs.Asks.{request_about, reserve_for, to_child}
use Rattle.child_connection.specs.Refusals.{is_about}

pub about_names : (k : Kind) (id : ℕ) → is_about k ≡ true → (kind_of (request_about k id) ≡ k) × (connection_of (request_about k id) ≡ Some id)
unfolding request_about connection_of
about_names k id h = grind (arith, h)

pub first_names : (s : Service) (version : Option ℕ) (start end capacity : ℕ) (x : ChildConnection) → connection_of (Body.Reserve (reserve_for (Some s) version start end capacity x)) ≡ None
unfolding reserve_for connection_of
first_names s version start end capacity x = refl

pub modification_names : (version : Option ℕ) (start end capacity : ℕ) (x : ChildConnection) → connection_of (Body.Reserve (reserve_for None version start end capacity x)) ≡ x.connection
unfolding reserve_for connection_of
modification_names version start end capacity x = refl

pub about_printable : (parent : List ℕ) (c id : ℕ) (k : Kind) (x : ChildConnection) → IsPrintable (to_child parent c x (request_about k id))
unfolding request_about
about_printable parent c id Kind.ReserveCommit x = tt
about_printable parent c id Kind.ReserveAbort x = tt
about_printable parent c id Kind.Provision x = tt
about_printable parent c id Kind.Release x = tt
about_printable parent c id Kind.Terminate x = tt
about_printable parent c id _ x = tt

pub first_printable : (parent : List ℕ) (c : ℕ) (s : Service) (version : Option ℕ) (start end capacity : ℕ) (x : ChildConnection) → IsShort 256 s.description → IsShort 128 s.global →
    bytes_eq x.source x.dest ≡ false → IsPrintable (to_child parent c x (Body.Reserve (reserve_for (Some s) version start end capacity x)))
unfolding reserve_for
first_printable parent c s version start end capacity x d g e = record { description = d; global = g; apart = e; complete = (refl, refl) }

pub modification_printable : (parent : List ℕ) (c id : ℕ) (version : Option ℕ) (start end capacity : ℕ) (x : ChildConnection) → x.connection ≡ Some id →
    IsPrintable (to_child parent c x (Body.Reserve (reserve_for None version start end capacity x)))
unfolding reserve_for
modification_printable parent c id version start end capacity x e = grind (arith, e)
