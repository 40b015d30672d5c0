-- A view holds one request of the reservation machine at a time, until it is answered.
use Rattle.std.proofs.Common.{ℕ, ◌≡◌, Bool, true, false, List, Some, None, ◌==◌, ◌&&◌, refl, sym, ◌∙◌, arith}
use Rattle.std.specs.Str.{bytes_eq}
use Rattle.nsi_primitive.specs.declared.kind.ErrorName.{ErrorName}
use Rattle.nsi_primitive.specs.declared.kind.Kind.{Kind}
use Rattle.nsi_primitive.specs.declared.message.Body.{Body}
use Rattle.nsi_primitive.specs.declared.message.Message.{Message}
use Rattle.child_connection.specs.Views.{ChildConnection, new_view, sent, is_open, open_request}
use Rattle.child_connection.specs.Asks.{asks}
use Rattle.child_connection.specs.Hearing.{refused, hears, hear, hear_from}
use Rattle.std.proofs.lemmas.Slice.Eq.{bytes_eq-Decides}
use Rattle.child_connection.specs.Holding.{is_reservation, phase_of, holds, fits_phase, isnt_reserving, fits, settles}

pub asked_stands : (k : Kind) (c : ℕ) (x : ChildConnection) → is_reservation k ≡ true →
    ((asks k c x).reserve_request ≡ Some (sent c k)) × ((asks k c x).phase ≡ phase_of k) × (k ≡ Kind.Reserve → (asks k c x).attempt ≡ Some c)
unfolding asks is_reservation phase_of
asked_stands Kind.Reserve c x h = (refl, refl, λ e. refl)
asked_stands Kind.ReserveCommit c x h = (refl, refl, λ e. absurd (cc))
asked_stands Kind.ReserveAbort c x h = (refl, refl, λ e. absurd (cc))
asked_stands _ c x h = absurd (cc)

pub asked_held : (k : Kind) (c : ℕ) (x : ChildConnection) → is_reservation k ≡ true → holds x.child c (asks k c x) ≡ true
unfolding asks holds is_reservation
asked_held k c x h = let e : bytes_eq x.child x.child ≡ true = (bytes_eq-Decides x.child x.child).1 refl in grind (arith, h, e)

pub none_held : (k : Kind) (x : ChildConnection) (child : List ℕ) (c : ℕ) → is_reservation k ≡ true → open_request k x ≡ None → holds child c x ≡ false
unfolding holds is_reservation open_request
none_held k x child c h e = grind (arith, h, e)

pub others_hold : (k : Kind) (d : ℕ) (x : ChildConnection) (child : List ℕ) (c : ℕ) → is_reservation k ≡ false → holds child c (asks k d x) ≡ holds child c x
unfolding asks holds is_reservation
others_hold k d x child c h = grind (arith, h)

---- A message

refused-holds : (a p l : Bool) (e : ErrorName) (x : ChildConnection) (child : List ℕ) (c d : ℕ) → is_open x.reserve_request d ≡ a → (c == d) ≡ false → holds child c x ≡ true → holds child c (refused a p l e x).view ≡ true
unfolding holds
refused-holds true p l e x child c d o n h = grind (arith, o, n, h)
refused-holds false true l e x child c d o n h = h
refused-holds false false true e x child c d o n h = h
refused-holds false false false e x child c d o n h = h

hears-holds : (b : Body) (d : ℕ) (x : ChildConnection) (child : List ℕ) (c : ℕ) → fits x ≡ true → (settles b && (c == d)) ≡ false → holds child c x ≡ true → holds child c (hears b d x).view ≡ true
unfolding hears holds fits fits_phase isnt_reserving settles
hears-holds (Body.ReserveResponse id) d x child c w e h = grind (arith, w, e, h)
hears-holds (Body.ReserveConfirmed f) d x child c w e h = grind (arith, w, e, h)
hears-holds (Body.ReserveFailed id ex) d x child c w e h = grind (arith, w, e, h)
hears-holds (Body.ReserveTimeout t) d x child c w e h = grind (arith, w, e, h)
hears-holds (Body.ReserveCommitConfirmed id) d x child c w e h = grind (arith, w, e, h)
hears-holds (Body.ReserveCommitFailed id ex) d x child c w e h = grind (arith, w, e, h)
hears-holds (Body.ReserveAbortConfirmed id) d x child c w e h = grind (arith, w, e, h)
hears-holds (Body.Error id ex) d x child c w e h = refused-holds _ _ _ _ x child c d refl e h
hears-holds (Body.ProvisionConfirmed id) d x child c w e h = grind (arith, w, e, h)
hears-holds (Body.ReleaseConfirmed id) d x child c w e h = grind (arith, w, e, h)
hears-holds (Body.TerminateConfirmed id) d x child c w e h = grind (arith, w, e, h)
hears-holds (Body.ErrorEvent f) d x child c w e h = grind (arith, w, e, h)
hears-holds (Body.DataPlaneStateChange n) d x child c w e h = grind (arith, w, e, h)
hears-holds _ d x child c w e h = grind (arith, w, e, h)

same-child : (child : List ℕ) (c : ℕ) (x : ChildConnection) → holds child c x ≡ true → bytes_eq child x.child ≡ true
unfolding holds
same-child child c x h = grind (arith, h)

pub hear_holds : (m : Message) (x : ChildConnection) (child : List ℕ) (c : ℕ) → fits x ≡ true → (settles m.body && (bytes_eq child m.header.provider && (c == m.header.correlation))) ≡ false →
    holds child c x ≡ true → holds child c (hear m x).view ≡ true
hear_holds m x child c f e h = by-child (bytes_eq m.header.provider x.child) refl
  where
    own : bytes_eq child m.header.provider ≡ true → (settles m.body && (c == m.header.correlation)) ≡ false
    own q = grind (arith, e, q)

    by-child : (b : Bool) → bytes_eq m.header.provider x.child ≡ b → holds child c (hear_from b m x).view ≡ true
    by-child false q = h
    by-child true q =
        hears-holds m.body m.header.correlation x child c f
        (own ((bytes_eq-Decides child m.header.provider).1 ((bytes_eq-Decides child x.child).0 (same-child child c x h) ∙ sym ((bytes_eq-Decides m.header.provider x.child).0 q)))) h

---- What is true of each view

pub new_fits : (child source dest : List ℕ) → fits (new_view child source dest) ≡ true
unfolding fits fits_phase isnt_reserving
new_fits child source dest = refl

pub asks_fit : (k : Kind) (c : ℕ) (x : ChildConnection) → open_request k x ≡ None → fits x ≡ true → fits (asks k c x) ≡ true
unfolding asks fits fits_phase isnt_reserving open_request
asks_fit k c x e f = grind (arith, e, f)

refused-fits : (a p l : Bool) (e : ErrorName) (x : ChildConnection) → fits x ≡ true → fits (refused a p l e x).view ≡ true
unfolding fits fits_phase isnt_reserving
refused-fits true p l e x f = grind (arith, f)
refused-fits false true l e x f = f
refused-fits false false true e x f = f
refused-fits false false false e x f = f

hears-fits : (b : Body) (d : ℕ) (x : ChildConnection) → fits x ≡ true → fits (hears b d x).view ≡ true
unfolding hears fits fits_phase isnt_reserving
hears-fits (Body.ReserveResponse id) d x w = grind (arith, w)
hears-fits (Body.ReserveConfirmed f) d x w = grind (arith, w)
hears-fits (Body.ReserveFailed id ex) d x w = grind (arith, w)
hears-fits (Body.ReserveTimeout t) d x w = grind (arith, w)
hears-fits (Body.ReserveCommitConfirmed id) d x w = grind (arith, w)
hears-fits (Body.ReserveCommitFailed id ex) d x w = grind (arith, w)
hears-fits (Body.ReserveAbortConfirmed id) d x w = grind (arith, w)
hears-fits (Body.Error id ex) d x w = refused-fits _ _ _ _ x w
hears-fits (Body.ProvisionConfirmed id) d x w = grind (arith, w)
hears-fits (Body.ReleaseConfirmed id) d x w = grind (arith, w)
hears-fits (Body.TerminateConfirmed id) d x w = grind (arith, w)
hears-fits (Body.ErrorEvent f) d x w = grind (arith, w)
hears-fits (Body.DataPlaneStateChange n) d x w = grind (arith, w)
hears-fits _ d x w = grind (arith, w)

pub hear_fits : (m : Message) (x : ChildConnection) → fits x ≡ true → fits (hear m x).view ≡ true
hear_fits m x f = by-child (bytes_eq m.header.provider x.child)
  where
    by-child : (b : Bool) → fits (hear_from b m x).view ≡ true
    by-child true = hears-fits m.body m.header.correlation x f
    by-child false = f
