-- To what a view listens, after an ask and after a message.
use Rattle.std.proofs.Common.{ℕ, ◌≡◌, ◌∙◌, Bool, true, false, List, Option, Some, None, ◌⊎◌, inl, inr, ◌||◌, ◌&&◌, ◌==◌, refl, sym, ap, subst, is_none, eqb-true}
use Rattle.std.proofs.lemmas.Bool.{false≢true}
use Rattle.std.specs.Str.{bytes_eq}
use Rattle.nsi_primitive.specs.Messages.{named_connection, error_of}
use Rattle.nsi_primitive.specs.declared.ask.ReserveAsk.{ReserveAsk}
use Rattle.nsi_primitive.specs.declared.kind.ErrorName.{ErrorName}
use Rattle.nsi_primitive.specs.declared.kind.Kind.{Kind}
use Rattle.nsi_primitive.specs.declared.message.Body.{Body}
use Rattle.nsi_primitive.specs.declared.message.Message.{Message}
use Rattle.child_connection.specs.declared.state.Phase.{Phase}
use Rattle.child_connection.specs.declared.state.Sent.{Sent}
use Rattle.child_connection.specs.declared.state.Taken.{Taken}
use Rattle.child_connection.specs.Asks.{asks, request_about}
use Rattle.child_connection.specs.Views.{ChildConnection, is_id, is_open, is_open_of, is_kind, open_request}
use Rattle.child_connection.specs.Hearing.{heard_if, refused, idle, push_version, attempt_after, is_reserving_or_held, hears, hear_from, hear}
use Rattle.requester_agent.specs.Views.{asks_if_free, asks_if_known, asks_about, asks_reserve, reserve_of}
use Rattle.requester_agent.specs.Indexed.{listens}

---- One of five

or_left : (a b : Bool) → a ≡ true → (a || b) ≡ true
or_left true b e = refl
or_left false b e = absurd (false≢true e)

or_right : (a b : Bool) → b ≡ true → (a || b) ≡ true
or_right true b e = refl
or_right false b e = e

or_cases : (a b : Bool) → (a || b) ≡ true → (a ≡ true) ⊎ (b ≡ true)
or_cases true b e = inl refl
or_cases false b e = inr e

none_left : (a b : Bool) → (a || b) ≡ false → a ≡ false
none_left true b e = e
none_left false b e = refl

none_right : (a b : Bool) → (a || b) ≡ false → b ≡ false
none_right true b e = absurd (false≢true (sym e))
none_right false b e = e

and_left : (a b : Bool) → (a && b) ≡ true → a ≡ true
and_left true b e = refl
and_left false b e = absurd (false≢true e)

and_none : (a b : Bool) → a ≡ false → (a && b) ≡ false
and_none true b e = absurd (false≢true (sym e))
and_none false b e = refl

module _ (id : ℕ) (x : ChildConnection) where
  abbrev lifecycle : Bool
  lifecycle = is_open x.lifecycle_request id

  abbrev provision : Bool
  provision = is_open x.provision_request id || lifecycle

  abbrev reserve : Bool
  reserve = is_open x.reserve_request id || provision

  abbrev connection : Bool
  connection = is_id x.connection id || reserve

  by_attempt : is_id x.attempt id ≡ true → listens id x ≡ true
  by_attempt e = or_left (is_id x.attempt id) connection e

  by_connection : is_id x.connection id ≡ true → listens id x ≡ true
  by_connection e = or_right (is_id x.attempt id) connection (or_left (is_id x.connection id) reserve e)

  by_reserve : is_open x.reserve_request id ≡ true → listens id x ≡ true
  by_reserve e = or_right (is_id x.attempt id) connection (or_right (is_id x.connection id) reserve (or_left (is_open x.reserve_request id) provision e))

  by_provision : is_open x.provision_request id ≡ true → listens id x ≡ true
  by_provision e =
      or_right (is_id x.attempt id) connection (or_right (is_id x.connection id) reserve (or_right (is_open x.reserve_request id) provision (or_left (is_open x.provision_request id) lifecycle e)))

  by_lifecycle : is_open x.lifecycle_request id ≡ true → listens id x ≡ true
  by_lifecycle e =
      or_right (is_id x.attempt id) connection (or_right (is_id x.connection id) reserve (or_right (is_open x.reserve_request id) provision (or_right (is_open x.provision_request id) lifecycle e)))

  -- what it doesn't listen to is none of the five
  record IsNone : Type 0 where
    attempt : is_id x.attempt id ≡ false
    known : is_id x.connection id ≡ false
    reserved : is_open x.reserve_request id ≡ false
    provided : is_open x.provision_request id ≡ false
    ended : is_open x.lifecycle_request id ≡ false

  none_of : listens id x ≡ false → IsNone
  none_of e =
      let behind = none_right (is_id x.attempt id) connection e in
      let requests = none_right (is_id x.connection id) reserve behind in
      let others = none_right (is_open x.reserve_request id) provision requests in
      record {
        attempt = none_left (is_id x.attempt id) connection e;
        known = none_left (is_id x.connection id) reserve behind;
        reserved = none_left (is_open x.reserve_request id) provision requests;
        provided = none_left (is_open x.provision_request id) lifecycle others;
        ended = none_right (is_open x.provision_request id) lifecycle others;
      }

-- what a view listens to is one of five, each of which it listened to before or is new for a reason
module _ (id : ℕ) (x y : ChildConnection) (New : Type 0) where
  from : (is_id y.attempt id ≡ true → (is_id x.attempt id ≡ true) ⊎ New) → (is_id y.connection id ≡ true → (is_id x.connection id ≡ true) ⊎ New)
      → (is_open y.reserve_request id ≡ true → (is_open x.reserve_request id ≡ true) ⊎ New) → (is_open y.provision_request id ≡ true → (is_open x.provision_request id ≡ true) ⊎ New)
      → (is_open y.lifecycle_request id ≡ true → (is_open x.lifecycle_request id ≡ true) ⊎ New) → listens id y ≡ true → (listens id x ≡ true) ⊎ New
  from a c r p l e = elim (or_cases (is_id y.attempt id) (connection id y) e) [
    | inl e1 ↦ put (a e1) (by_attempt id x)
    | inr e1 ↦ elim (or_cases (is_id y.connection id) (reserve id y) e1) [
      | inl e2 ↦ put (c e2) (by_connection id x)
      | inr e2 ↦ elim (or_cases (is_open y.reserve_request id) (provision id y) e2) [
        | inl e3 ↦ put (r e3) (by_reserve id x)
        | inr e3 ↦ elim (or_cases (is_open y.provision_request id) (lifecycle id y) e3) [
          | inl e4 ↦ put (p e4) (by_provision id x)
          | inr e4 ↦ put (l e4) (by_lifecycle id x)
        ]
      ]
    ]
  ]
    where
      put : {A : Type 0} → A ⊎ New → (A → listens id x ≡ true) → (listens id x ≡ true) ⊎ New
      put (inl h) f = inl (f h)
      put (inr h) f = inr h

stays : {New : Type 0} (b : Bool) → b ≡ true → (b ≡ true) ⊎ New
stays b e = inl e

ends : {New : Type 0} (b : Bool) → false ≡ true → (b ≡ true) ⊎ New
ends b e = absurd (false≢true e)

opened : (o : Option Sent) (k : Kind) (c : ℕ) → is_open_of o k c ≡ true → is_open o c ≡ true
opened None k c e = absurd (false≢true e)
opened (Some q) k c e = and_left (c == q.correlation) (is_kind k q.kind) e

unopened : (o : Option Sent) (k : Kind) (c : ℕ) → is_open o c ≡ false → is_open_of o k c ≡ false
unopened None k c e = refl
unopened (Some q) k c e = and_none (c == q.correlation) (is_kind k q.kind) e

---- Asks

-- a view that is asked listens to the correlation, and else to what it listened to
asks_listen : (k : Kind) (c id : ℕ) (x : ChildConnection) → listens id (asks k c x) ≡ true → (listens id x ≡ true) ⊎ (id ≡ c)
unfolding asks
asks_listen Kind.Reserve c id x e = from id x (asks Kind.Reserve c x) (id ≡ c) (λ h. inr (eqb-true id c h)) (stays (is_id x.connection id)) (λ h. inr (eqb-true id c h)) (stays (is_open x.provision_request id)) (stays (is_open x.lifecycle_request id)) e
asks_listen Kind.ReserveCommit c id x e = from id x (asks Kind.ReserveCommit c x) (id ≡ c) (stays (is_id x.attempt id)) (stays (is_id x.connection id)) (λ h. inr (eqb-true id c h)) (stays (is_open x.provision_request id)) (stays (is_open x.lifecycle_request id)) e
asks_listen Kind.ReserveAbort c id x e = from id x (asks Kind.ReserveAbort c x) (id ≡ c) (stays (is_id x.attempt id)) (stays (is_id x.connection id)) (λ h. inr (eqb-true id c h)) (stays (is_open x.provision_request id)) (stays (is_open x.lifecycle_request id)) e
asks_listen Kind.Provision c id x e = from id x (asks Kind.Provision c x) (id ≡ c) (stays (is_id x.attempt id)) (stays (is_id x.connection id)) (stays (is_open x.reserve_request id)) (λ h. inr (eqb-true id c h)) (stays (is_open x.lifecycle_request id)) e
asks_listen Kind.Release c id x e = from id x (asks Kind.Release c x) (id ≡ c) (stays (is_id x.attempt id)) (stays (is_id x.connection id)) (stays (is_open x.reserve_request id)) (λ h. inr (eqb-true id c h)) (stays (is_open x.lifecycle_request id)) e
asks_listen Kind.Terminate c id x e = from id x (asks Kind.Terminate c x) (id ≡ c) (stays (is_id x.attempt id)) (stays (is_id x.connection id)) (stays (is_open x.reserve_request id)) (stays (is_open x.provision_request id)) (λ h. inr (eqb-true id c h)) e
asks_listen _ c id x e = inl e

free_listen : (o : Option Sent) (parent : List ℕ) (c id : ℕ) (k : Kind) (body : Body) (x : ChildConnection) → listens id (asks_if_free o parent c k body x).child ≡ true → (listens id x ≡ true) ⊎ (id ≡ c)
unfolding asks_if_free
free_listen None parent c id k body x e = asks_listen k c id x e
free_listen (Some q) parent c id k body x e = inl e

pub about_listens : (parent : List ℕ) (c id : ℕ) (k : Kind) (x : ChildConnection) → listens id (asks_about parent c k x).child ≡ true → (listens id x ≡ true) ⊎ (id ≡ c)
unfolding asks_if_known
about_listens parent c id k x = by x.connection
  where
    by : (o : Option ℕ) → listens id (asks_if_known o parent c k x).child ≡ true → (listens id x ≡ true) ⊎ (id ≡ c)
    by None e = inl e
    by (Some n) e = free_listen (open_request k x) parent c id k (request_about k n) x e

pub reserve_listens : (parent : List ℕ) (c id : ℕ) (q : ReserveAsk) (x : ChildConnection) → listens id (asks_reserve parent c q x).child ≡ true → (listens id x ≡ true) ⊎ (id ≡ c)
reserve_listens parent c id q x e = free_listen (open_request Kind.Reserve x) parent c id Kind.Reserve (reserve_of q x) x e

---- Messages that don't reach a view

left_if : (t : Bool) (w : Taken) (x y : ChildConnection) → t ≡ false → (heard_if t w y x).view ≡ x
left_if true w x y e = absurd (false≢true (sym e))
left_if false w x y e = refl

left_refused : (r p l : Bool) (e : ErrorName) (x : ChildConnection) → r ≡ false → p ≡ false → l ≡ false → (refused r p l e x).view ≡ x
left_refused true p l e x a b c = absurd (false≢true (sym a))
left_refused false true l e x a b c = absurd (false≢true (sym b))
left_refused false false true e x a b c = absurd (false≢true (sym c))
left_refused false false false e x a b c = refl

unheard : (b : Body) (c : ℕ) (x : ChildConnection) → listens c x ≡ false → ((id : ℕ) → named_connection b ≡ Some id → listens id x ≡ false) → (hears b c x).view ≡ x
unfolding hears named_connection
unheard (Body.ReserveResponse id) c x e f = left_if _ _ x _ (and_none (is_id x.attempt c) (is_none x.connection) (none_of c x e).attempt)
unheard (Body.ReserveConfirmed g) c x e f = left_if _ _ x _ (unopened x.reserve_request Kind.Reserve c (none_of c x e).reserved)
unheard (Body.ReserveFailed id ex) c x e f = left_if _ _ x _ (unopened x.reserve_request Kind.Reserve c (none_of c x e).reserved)
unheard (Body.ReserveTimeout t) c x e f = left_if _ _ x _ (and_none (is_id x.attempt c) (is_reserving_or_held x.phase) (none_of c x e).attempt)
unheard (Body.ReserveCommitConfirmed id) c x e f = left_if _ _ x _ (unopened x.reserve_request Kind.ReserveCommit c (none_of c x e).reserved)
unheard (Body.ReserveCommitFailed id ex) c x e f = left_if _ _ x _ (unopened x.reserve_request Kind.ReserveCommit c (none_of c x e).reserved)
unheard (Body.ReserveAbortConfirmed id) c x e f = left_if _ _ x _ (unopened x.reserve_request Kind.ReserveAbort c (none_of c x e).reserved)
unheard (Body.Error id ex) c x e f = left_refused _ _ _ _ x (none_of c x e).reserved (none_of c x e).provided (none_of c x e).ended
unheard (Body.ProvisionConfirmed id) c x e f = left_if _ _ x _ (unopened x.provision_request Kind.Provision c (none_of c x e).provided)
unheard (Body.ReleaseConfirmed id) c x e f = left_if _ _ x _ (unopened x.provision_request Kind.Release c (none_of c x e).provided)
unheard (Body.TerminateConfirmed id) c x e f = left_if _ _ x _ (unopened x.lifecycle_request Kind.Terminate c (none_of c x e).ended)
unheard (Body.ErrorEvent n) c x e f = left_if _ _ x _ (none_of n.connection x (f n.connection refl)).known
unheard (Body.DataPlaneStateChange n) c x e f = left_if _ _ x _ (and_none (is_id x.connection n.connection) _ (none_of n.connection x (f n.connection refl)).known)
unheard _ c x e f = refl

-- a message under another correlation, about another connection, leaves a view alone
pub left_alone : (m : Message) (x : ChildConnection) → listens m.header.correlation x ≡ false → ((id : ℕ) → named_connection m.body ≡ Some id → listens id x ≡ false) → (hear m x).view ≡ x
left_alone m x e f = by (bytes_eq m.header.provider x.child)
  where
    by : (b : Bool) → (hear_from b m x).view ≡ x
    by true = unheard m.body m.header.correlation x e f
    by false = refl

---- What a view learns

-- a connection is learnt from a message under a correlation to which the view listens
abbrev pub IsLearnt : Body → ℕ → ℕ → ChildConnection → Type 0
IsLearnt b c id x = (named_connection b ≡ Some id) × (listens c x ≡ true)

from_if : (t : Bool) (w : Taken) (id : ℕ) (x y : ChildConnection) {New : Type 0} → (t ≡ true → listens id y ≡ true → (listens id x ≡ true) ⊎ New) → listens id (heard_if t w y x).view ≡ true → (listens id x ≡ true) ⊎ New
from_if true w id x y f e = f refl e
from_if false w id x y f e = inl e

after_attempt : (p : Phase) (o : Option ℕ) (id : ℕ) → is_id (attempt_after p o) id ≡ true → is_id o id ≡ true
after_attempt Phase.Held o id e = e
after_attempt _ o id e = absurd (false≢true e)

from_refused : (r p l : Bool) (er : ErrorName) (id : ℕ) (x : ChildConnection) {New : Type 0} → listens id (refused r p l er x).view ≡ true → (listens id x ≡ true) ⊎ New
from_refused true p l er id x {New} e =
    from id x (refused true p l er x).view New (λ h. inl (after_attempt x.before x.attempt id h)) (stays (is_id x.connection id)) (ends (is_open x.reserve_request id)) (stays (is_open x.provision_request id)) (stays (is_open x.lifecycle_request id)) e
from_refused false true l er id x {New} e =
    from id x (refused false true l er x).view New (stays (is_id x.attempt id)) (stays (is_id x.connection id)) (stays (is_open x.reserve_request id)) (ends (is_open x.provision_request id)) (stays (is_open x.lifecycle_request id)) e
from_refused false false true er id x {New} e =
    from id x (refused false false true er x).view New (stays (is_id x.attempt id)) (stays (is_id x.connection id)) (stays (is_open x.reserve_request id)) (stays (is_open x.provision_request id)) (ends (is_open x.lifecycle_request id)) e
from_refused false false false er id x e = inl e

module _ (c id : ℕ) (x : ChildConnection) where
  -- the connection that is named is learnt, and the request of the reservation machine ends or stays
  learnt : (b : Body) (n : ℕ) (y : ChildConnection) → named_connection b ≡ Some n → listens c x ≡ true → y.connection ≡ Some n → y.attempt ≡ x.attempt → (is_open y.reserve_request id ≡ true → is_open x.reserve_request id ≡ true)
      → y.provision_request ≡ x.provision_request → y.lifecycle_request ≡ x.lifecycle_request → listens id y ≡ true → (listens id x ≡ true) ⊎ IsLearnt b c id x
  learnt b n y named heard known attempt reserved provided ended e =
      from id x y (IsLearnt b c id x) (λ h. inl (subst (λ o. is_id o id ≡ true) attempt h))
      (λ h. inr (named ∙ ap Some (sym (eqb-true id n (subst (λ o. is_id o id ≡ true) known h))), heard)) (λ h. inl (reserved h))
      (λ h. inl (subst (λ o. is_open o id ≡ true) provided h)) (λ h. inl (subst (λ o. is_open o id ≡ true) ended h)) e

  learnt_if : (t : Bool) (w : Taken) (b : Body) (n : ℕ) (y : ChildConnection) → named_connection b ≡ Some n → (t ≡ true → listens c x ≡ true) → y.connection ≡ Some n → y.attempt ≡ x.attempt
      → (is_open y.reserve_request id ≡ true → is_open x.reserve_request id ≡ true) → y.provision_request ≡ x.provision_request → y.lifecycle_request ≡ x.lifecycle_request
      → listens id (heard_if t w y x).view ≡ true → (listens id x ≡ true) ⊎ IsLearnt b c id x
  learnt_if t w b n y named heard known attempt reserved provided ended = from_if t w id x y (λ e. learnt b n y named (heard e) known attempt reserved provided ended)

  -- nothing is learnt, and some requests end
  ends_if : (t : Bool) (w : Taken) (y : ChildConnection) {New : Type 0} → (is_id y.attempt id ≡ true → is_id x.attempt id ≡ true) → y.connection ≡ x.connection → (is_open y.reserve_request id ≡ true → is_open x.reserve_request id ≡ true)
      → (is_open y.provision_request id ≡ true → is_open x.provision_request id ≡ true) → (is_open y.lifecycle_request id ≡ true → is_open x.lifecycle_request id ≡ true)
      → listens id (heard_if t w y x).view ≡ true → (listens id x ≡ true) ⊎ New
  ends_if t w y {New} attempt known reserved provided ended =
      from_if t w id x y (λ e. from id x y New (λ h. inl (attempt h)) (λ h. inl (subst (λ o. is_id o id ≡ true) known h)) (λ h. inl (reserved h)) (λ h. inl (provided h)) (λ h. inl (ended h)))

  same : (b : Bool) → b ≡ true → b ≡ true
  same b e = e

  never : (b : Bool) → false ≡ true → b ≡ true
  never b e = absurd (false≢true e)

  hears_listen : (b : Body) → listens id (hears b c x).view ≡ true → (listens id x ≡ true) ⊎ IsLearnt b c id x
  unfolding hears named_connection
  hears_listen (Body.ReserveResponse n) =
      learnt_if _ _ (Body.ReserveResponse n) n _ refl (λ t. by_attempt c x (and_left (is_id x.attempt c) (is_none x.connection) t)) refl refl (same (is_open x.reserve_request id)) refl refl
  hears_listen (Body.ReserveConfirmed f) =
      learnt_if _ _ (Body.ReserveConfirmed f) f.connection _ refl (λ t. by_reserve c x (opened x.reserve_request Kind.Reserve c t)) refl refl (never (is_open x.reserve_request id)) refl refl
  hears_listen (Body.ReserveFailed n ex) = learnt_if _ _ (Body.ReserveFailed n ex) n _ refl (λ t. by_reserve c x (opened x.reserve_request Kind.Reserve c t)) refl refl (never (is_open x.reserve_request id)) refl refl
  hears_listen (Body.ReserveTimeout f) =
      learnt_if _ _ (Body.ReserveTimeout f) f.connection _ refl (λ t. by_attempt c x (and_left (is_id x.attempt c) (is_reserving_or_held x.phase) t)) refl refl (never (is_open x.reserve_request id)) refl refl
  hears_listen (Body.ReserveCommitConfirmed n) =
      ends_if (is_open_of x.reserve_request Kind.ReserveCommit c) (Taken.Answered Kind.ReserveCommit) (idle None (record x { committed = push_version x.committed x.pending })) (never (is_id x.attempt id)) refl (never (is_open x.reserve_request id)) (same (is_open x.provision_request id)) (same (is_open x.lifecycle_request id))
  hears_listen (Body.ReserveCommitFailed n ex) =
      ends_if (is_open_of x.reserve_request Kind.ReserveCommit c) (Taken.Answered Kind.ReserveCommit) (idle (Some (error_of ex.cause)) x) (never (is_id x.attempt id)) refl (never (is_open x.reserve_request id)) (same (is_open x.provision_request id)) (same (is_open x.lifecycle_request id))
  hears_listen (Body.ReserveAbortConfirmed n) =
      ends_if (is_open_of x.reserve_request Kind.ReserveAbort c) (Taken.Answered Kind.ReserveAbort) (idle None x) (never (is_id x.attempt id)) refl (never (is_open x.reserve_request id)) (same (is_open x.provision_request id)) (same (is_open x.lifecycle_request id))
  hears_listen (Body.Error n ex) = from_refused (is_open x.reserve_request c) (is_open x.provision_request c) (is_open x.lifecycle_request c) _ id x
  hears_listen (Body.ProvisionConfirmed n) = ends_if _ _ _ (same (is_id x.attempt id)) refl (same (is_open x.reserve_request id)) (never (is_open x.provision_request id)) (same (is_open x.lifecycle_request id))
  hears_listen (Body.ReleaseConfirmed n) = ends_if _ _ _ (same (is_id x.attempt id)) refl (same (is_open x.reserve_request id)) (never (is_open x.provision_request id)) (same (is_open x.lifecycle_request id))
  hears_listen (Body.TerminateConfirmed n) = ends_if _ _ _ (same (is_id x.attempt id)) refl (same (is_open x.reserve_request id)) (same (is_open x.provision_request id)) (never (is_open x.lifecycle_request id))
  hears_listen (Body.ErrorEvent n) = from_if (is_id x.connection n.connection) _ id x x (λ t e. inl e)
  hears_listen (Body.DataPlaneStateChange n) = from_if (is_id x.connection n.connection && _) _ id x _ (λ t e. inl e)
  hears_listen _ = λ e. inl e

pub heard_listens : (m : Message) (id : ℕ) (x : ChildConnection) → listens id (hear m x).view ≡ true → (listens id x ≡ true) ⊎ IsLearnt m.body m.header.correlation id x
heard_listens m id x = by (bytes_eq m.header.provider x.child)
  where
    by : (b : Bool) → listens id (hear_from b m x).view ≡ true → (listens id x ≡ true) ⊎ IsLearnt m.body m.header.correlation id x
    by true e = hears_listen m.header.correlation id x m.body e
    by false e = inl e
