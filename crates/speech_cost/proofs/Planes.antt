-- A view's data plane changes only by a message of its child that says so.
use Rattle.std.proofs.Common.{ℕ, ◌≡◌, ◌+◌, ◌∙◌, ◌&&◌, Bool, true, false, List, [], ◌∷◌, Option, Some, None, refl, sym, ap, subst, arith, map, bytes_eq}
use Rattle.std.proofs.lemmas.Bool.Decides.{nat_tests}
use Rattle.nsi_primitive.specs.declared.kind.ErrorName.{ErrorName}
use Rattle.nsi_primitive.specs.declared.kind.Kind.{Kind}
use Rattle.nsi_primitive.specs.declared.message.Body.{Body}
use Rattle.nsi_primitive.specs.declared.message.Message.{Message}
use Rattle.nsi_primitive.specs.declared.plane.Plane.{Plane}
use Rattle.dataplane_state.specs.Plane.{announces, joined}
use Rattle.connection_record.specs.Speaking.{one, tally}
use Rattle.child_connection.specs.Views.{ChildConnection}
use Rattle.child_connection.specs.Asks.{asks}
use Rattle.child_connection.specs.Hearing.{refused, hears, hear, hear_from}
use Rattle.aggregator_agent.specs.Asking.{Asked, Asking, asked_view, each}
use Rattle.aggregator_agent.specs.Turns.{plane_of, joined_of}
use Rattle.speech_cost.specs.Changes.{names_plane, hears_change}

---- One view

asks_plane : (k : Kind) (c : ℕ) (x : ChildConnection) → (asks k c x).plane ≡ x.plane
unfolding asks
asks_plane k c x = grind arith

pub asked_plane : (o : Option Body) (k : Kind) (c : ℕ) (x : ChildConnection) → (asked_view o k c x).plane ≡ x.plane
unfolding asked_view
asked_plane None k c x = refl
asked_plane (Some b) k c x = asks_plane k c x

refused_plane : (a p l : Bool) (e : ErrorName) (x : ChildConnection) → (refused a p l e x).view.plane ≡ x.plane
refused_plane true p l e x = refl
refused_plane false true l e x = refl
refused_plane false false true e x = refl
refused_plane false false false e x = refl

hears_plane : (b : Body) (c : ℕ) (x : ChildConnection) → names_plane x b ≡ false → (hears b c x).view.plane ≡ x.plane
unfolding hears
hears_plane (Body.ReserveResponse id) c x h = grind arith
hears_plane (Body.ReserveConfirmed f) c x h = grind arith
hears_plane (Body.ReserveFailed id ex) c x h = grind arith
hears_plane (Body.ReserveTimeout t) c x h = grind arith
hears_plane (Body.ReserveCommitConfirmed id) c x h = grind arith
hears_plane (Body.ReserveCommitFailed id ex) c x h = grind arith
hears_plane (Body.ReserveAbortConfirmed id) c x h = grind arith
hears_plane (Body.Error id ex) c x h = refused_plane _ _ _ _ x
hears_plane (Body.ProvisionConfirmed id) c x h = grind arith
hears_plane (Body.ReleaseConfirmed id) c x h = grind arith
hears_plane (Body.TerminateConfirmed id) c x h = grind arith
hears_plane (Body.ErrorEvent f) c x h = grind arith
hears_plane (Body.DataPlaneStateChange n) c x h = grind (arith, h)
hears_plane _ c x h = refl

pub hear_plane : (m : Message) (x : ChildConnection) → hears_change m x ≡ false → (hear m x).view.plane ≡ x.plane
hear_plane m x h = by_child (bytes_eq m.header.provider x.child) h
  where
    by_child : (t : Bool) → (t && names_plane x m.body) ≡ false → (hear_from t m x).view.plane ≡ x.plane
    by_child true e = hears_plane m.body m.header.correlation x e
    by_child false e = refl

---- All views of a connection

none_of : (b : Bool) (n : ℕ) → one b + n ≡ 0 → b ≡ false
none_of true n e = absurd (omega (arith, e))
none_of false n e = refl

-- where a view's plane stays unless it passes a test, and none does
pub each_plane : (p : ChildConnection → Bool) (does : ℕ → ChildConnection → Asked) → ((n : ℕ) (x : ChildConnection) → p x ≡ false → (does n x).child.plane ≡ x.plane) →
    (next : ℕ) (xs : List ChildConnection) → tally p xs ≡ 0 → map plane_of (each does next xs).children ≡ map plane_of xs
unfolding each tally
each_plane p does stays next [] none = refl
each_plane p does stays next (x ∷ xs) none =
    let first : Asked = does next x in
    let rest : Asking = each does first.next xs in
    ap (λ q. q ∷ map plane_of rest.children) (stays next x (none_of (p x) (tally p xs) none)) ∙ ap (λ qs. x.plane ∷ qs) (each_plane p does stays first.next xs (omega (arith, none)))

announces_same : (p : Plane) → announces p p ≡ false
unfolding announces
announces_same p = grind (arith, nat_tests)

pub unannounced : (xs ys : List ChildConnection) → map plane_of ys ≡ map plane_of xs → announces (joined_of xs) (joined_of ys) ≡ false
unannounced xs ys e = subst (λ ps. announces (joined_of xs) (joined ps) ≡ false) (sym e) (announces_same (joined_of xs))
