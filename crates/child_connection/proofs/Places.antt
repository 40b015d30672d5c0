-- What an ask and a message leave of a view: its place, and all of it where the message is ignored.
use Rattle.std.proofs.Common.{ℕ, ◌≡◌, Bool, true, false, List, Option, Some, None, refl, arith}
use Rattle.std.specs.Str.{bytes_eq}
use Rattle.nsi_primitive.specs.declared.kind.ErrorName.{ErrorName}
use Rattle.nsi_primitive.specs.declared.kind.Kind.{Kind}
use Rattle.nsi_primitive.specs.declared.message.Body.{Body}
use Rattle.nsi_primitive.specs.declared.message.Message.{Message}
use Rattle.child_connection.specs.declared.state.Sent.{Sent}
use Rattle.child_connection.specs.declared.state.Taken.{Taken}
use Rattle.child_connection.specs.Views.{ChildConnection, new_view, is_open}
use Rattle.child_connection.specs.Asks.{asks}
use Rattle.child_connection.specs.Hearing.{answers, refused, hears, hear, hear_from}
use Rattle.child_connection.specs.Holding.{IsAlike}
use Rattle.child_connection.specs.Places.{IsSamePlace}

---- What is ignored

answers-some : (o : Option Sent) (c : ℕ) → is_open o c ≡ true → answers o ≡ Taken.Ignored → ⊥
answers-some None c i h = absurd (cc)
answers-some (Some q) c i h = absurd (cc)

refused-leaves : (a p l : Bool) (e : ErrorName) (c : ℕ) (x : ChildConnection) → is_open x.reserve_request c ≡ a → is_open x.provision_request c ≡ p → is_open x.lifecycle_request c ≡ l →
    (refused a p l e x).taken ≡ Taken.Ignored → (refused a p l e x).view ≡ x
refused-leaves true p l e c x i j k h = absurd (answers-some x.reserve_request c i h)
refused-leaves false true l e c x i j k h = absurd (answers-some x.provision_request c j h)
refused-leaves false false true e c x i j k h = absurd (answers-some x.lifecycle_request c k h)
refused-leaves false false false e c x i j k h = refl

ignored-leaves : (b : Body) (c : ℕ) (x : ChildConnection) → (hears b c x).taken ≡ Taken.Ignored → (hears b c x).view ≡ x
unfolding hears
ignored-leaves (Body.ReserveResponse id) c x h = grind (arith, h)
ignored-leaves (Body.ReserveConfirmed f) c x h = grind (arith, h)
ignored-leaves (Body.ReserveFailed id ex) c x h = grind (arith, h)
ignored-leaves (Body.ReserveTimeout t) c x h = grind (arith, h)
ignored-leaves (Body.ReserveCommitConfirmed id) c x h = grind (arith, h)
ignored-leaves (Body.ReserveCommitFailed id ex) c x h = grind (arith, h)
ignored-leaves (Body.ReserveAbortConfirmed id) c x h = grind (arith, h)
ignored-leaves (Body.Error id ex) c x h = refused-leaves _ _ _ _ c x refl refl refl h
ignored-leaves (Body.ProvisionConfirmed id) c x h = grind (arith, h)
ignored-leaves (Body.ReleaseConfirmed id) c x h = grind (arith, h)
ignored-leaves (Body.TerminateConfirmed id) c x h = grind (arith, h)
ignored-leaves (Body.ErrorEvent f) c x h = grind (arith, h)
ignored-leaves (Body.DataPlaneStateChange n) c x h = grind (arith, h)
ignored-leaves _ c x h = refl

pub ignored_leaves : (m : Message) (x : ChildConnection) → (hear m x).taken ≡ Taken.Ignored → (hear m x).view ≡ x
ignored_leaves m x = by-child (bytes_eq m.header.provider x.child)
  where
    by-child : (b : Bool) → (hear_from b m x).taken ≡ Taken.Ignored → (hear_from b m x).view ≡ x
    by-child true h = ignored-leaves m.body m.header.correlation x h
    by-child false h = refl

alike-self : (x : ChildConnection) → IsAlike x x
alike-self x = record { reservation = record { request = refl; phase = refl; before = refl; attempt = refl; pending = refl; committed = refl }; connection = refl; child = refl }

hears-nothing : (b : Body) (c : ℕ) (child source dest : List ℕ) → IsAlike (new_view child source dest) (hears b c (new_view child source dest)).view
unfolding hears
hears-nothing b c child source dest = grind arith

pub new_hears_nothing : (m : Message) (child source dest : List ℕ) → IsAlike (new_view child source dest) (hear m (new_view child source dest)).view
new_hears_nothing m child source dest = by-child (bytes_eq m.header.provider child)
  where
    by-child : (b : Bool) → IsAlike (new_view child source dest) (hear_from b m (new_view child source dest)).view
    by-child true = hears-nothing m.body m.header.correlation child source dest
    by-child false = alike-self (new_view child source dest)

---- The place

pub asks_place : (k : Kind) (c : ℕ) (x : ChildConnection) → IsSamePlace x (asks k c x)
unfolding asks
asks_place k c x = grind arith

refused-place : (a p l : Bool) (e : ErrorName) (x : ChildConnection) → IsSamePlace x (refused a p l e x).view
refused-place true p l e x = record { child = refl; source = refl; dest = refl }
refused-place false true l e x = record { child = refl; source = refl; dest = refl }
refused-place false false true e x = record { child = refl; source = refl; dest = refl }
refused-place false false false e x = record { child = refl; source = refl; dest = refl }

hears-place : (b : Body) (c : ℕ) (x : ChildConnection) → IsSamePlace x (hears b c x).view
unfolding hears
hears-place (Body.ReserveResponse id) c x = grind arith
hears-place (Body.ReserveConfirmed f) c x = grind arith
hears-place (Body.ReserveFailed id ex) c x = grind arith
hears-place (Body.ReserveTimeout t) c x = grind arith
hears-place (Body.ReserveCommitConfirmed id) c x = grind arith
hears-place (Body.ReserveCommitFailed id ex) c x = grind arith
hears-place (Body.ReserveAbortConfirmed id) c x = grind arith
hears-place (Body.Error id ex) c x = refused-place _ _ _ _ x
hears-place (Body.ProvisionConfirmed id) c x = grind arith
hears-place (Body.ReleaseConfirmed id) c x = grind arith
hears-place (Body.TerminateConfirmed id) c x = grind arith
hears-place (Body.ErrorEvent f) c x = grind arith
hears-place (Body.DataPlaneStateChange n) c x = grind arith
hears-place _ c x = grind arith

pub hear_place : (m : Message) (x : ChildConnection) → IsSamePlace x (hear m x).view
hear_place m x = by-child (bytes_eq m.header.provider x.child)
  where
    by-child : (b : Bool) → IsSamePlace x (hear_from b m x).view
    by-child true = hears-place m.body m.header.correlation x
    by-child false = record { child = refl; source = refl; dest = refl }

---- What is known of the connection

pub asks_known : (k : Kind) (c : ℕ) (x : ChildConnection) → ((asks k c x).connection ≡ x.connection) × ((asks k c x).committed ≡ x.committed) × ((asks k c x).pending ≡ x.pending)
unfolding asks
asks_known k c x = grind arith
