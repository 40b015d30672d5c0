-- Each ask, and each message that is heard, makes a later form of a view.
use Rattle.std.proofs.Common.{ℕ, ◌≡◌, ◌≤◌, ◌∙◌, Bool, true, false, List, length, take, min, max, Option, Some, None, refl, sym, ap, arith}
use Rattle.std.proofs.Math.Seq.{take-append_seam, take-take}
use Rattle.std.proofs.lemmas.List.{take_all, length-take}
use Rattle.std.specs.Str.{bytes_eq}
use Rattle.nsi_primitive.specs.declared.kind.ErrorName.{ErrorName}
use Rattle.nsi_primitive.specs.declared.kind.Kind.{Kind}
use Rattle.nsi_primitive.specs.declared.message.Body.{Body}
use Rattle.nsi_primitive.specs.declared.message.Message.{Message}
use Rattle.child_connection.specs.Views.{ChildConnection}
use Rattle.child_connection.specs.Asks.{asks}
use Rattle.child_connection.specs.Hearing.{refused, push_version, hears, hear, hear_from}
use Rattle.child_connection.specs.Later.{IsReady, IsLater}

take_self : {X : Type 0} (xs : List X) → take (length xs) xs ≡ xs
take_self xs = take_all (length xs) xs (omega arith)

-- a front of a front
front_trans : {X : Type 0} (a b c : List X) → take (length a) b ≡ a → take (length b) c ≡ b → take (length a) c ≡ a
front_trans a b c e f =
    let least : length a ≡ min (length a) (length b) = ap length (sym e) ∙ length-take (length a) b in
    let fewer : length a ≤ length b = omega arith in
    sym (take-take (length a) (length b) c fewer) ∙ ap (λ xs. take (length a) xs) f ∙ e

pub later_refl : (x : ChildConnection) → IsReady x → IsLater x x
later_refl x h = record { ready = h; child = refl; source = refl; dest = refl; committed = take_self x.committed; room = omega arith }

pub later_trans : (x y z : ChildConnection) → IsLater x y → IsLater y z → IsLater x z
later_trans x y z e f =
    record {
      ready = e.ready;
      child = f.child ∙ e.child;
      source = f.source ∙ e.source;
      dest = f.dest ∙ e.dest;
      committed = front_trans x.committed y.committed z.committed e.committed f.committed;
      room = omega (arith, e.room, f.room);
    }

at_least : (m n : ℕ) → m ≤ max m n
at_least m n = omega arith

pub asks_later : (k : Kind) (c : ℕ) (x : ChildConnection) → IsReady x → IsLater x (asks k c x)
unfolding asks
asks_later k c x h = grind (arith, at_least, take_self, h)

refused-later : (a p l : Bool) (e : ErrorName) (x : ChildConnection) → IsReady x → IsLater x (refused a p l e x).view
refused-later true p l e x h = record { ready = h; child = refl; source = refl; dest = refl; committed = take_self x.committed; room = omega arith }
refused-later false true l e x h = record { ready = h; child = refl; source = refl; dest = refl; committed = take_self x.committed; room = omega arith }
refused-later false false true e x h = record { ready = h; child = refl; source = refl; dest = refl; committed = take_self x.committed; room = omega arith }
refused-later false false false e x h = later_refl x h

pushed : (vs : List ℕ) (v : Option ℕ) → take (length vs) (push_version vs v) ≡ vs
pushed vs None = take_self vs
pushed vs (Some v) = take-append_seam vs _

pub hears_later : (b : Body) (c : ℕ) (x : ChildConnection) → IsReady x → IsLater x (hears b c x).view
unfolding hears
hears_later (Body.ReserveResponse id) c x h = grind (arith, take_self, h)
hears_later (Body.ReserveConfirmed f) c x h = grind (arith, take_self, h)
hears_later (Body.ReserveFailed id ex) c x h = grind (arith, take_self, h)
hears_later (Body.ReserveTimeout t) c x h = grind (arith, take_self, h)
hears_later (Body.ReserveCommitConfirmed id) c x h = grind (arith, take_self, pushed, h)
hears_later (Body.ReserveCommitFailed id ex) c x h = grind (arith, take_self, h)
hears_later (Body.ReserveAbortConfirmed id) c x h = grind (arith, take_self, h)
hears_later (Body.Error id ex) c x h = refused-later _ _ _ _ x h
hears_later (Body.ProvisionConfirmed id) c x h = grind (arith, take_self, h)
hears_later (Body.ReleaseConfirmed id) c x h = grind (arith, take_self, h)
hears_later (Body.TerminateConfirmed id) c x h = grind (arith, take_self, h)
hears_later (Body.ErrorEvent f) c x h = grind (arith, take_self, h)
hears_later (Body.DataPlaneStateChange n) c x h = grind (arith, take_self, h)
hears_later _ c x h = later_refl x h

pub hear_later : (m : Message) (x : ChildConnection) → IsReady x → IsLater x (hear m x).view
hear_later m x h = by-child (bytes_eq m.header.provider x.child)
  where
    by-child : (b : Bool) → IsLater x (hear_from b m x).view
    by-child true = hears_later m.body m.header.correlation x h
    by-child false = later_refl x h
