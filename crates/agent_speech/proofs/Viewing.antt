-- What asking and hearing make of one view, in numbers: what it holds as unanswered, and whether it fits.
use Rattle.std.proofs.Common.{ℕ, ◌+◌, ◌≤◌, ◌≡◌, Bool, true, false, not, List, Option, None, ◌⊎◌, inl, inr, ◌==◌, ◌&&◌, refl, ap, ◌∙◌, arith, bytes_eq}
use Rattle.nsi_primitive.specs.declared.kind.Kind.{Kind}
use Rattle.nsi_primitive.specs.declared.message.Body.{Body}
use Rattle.nsi_primitive.specs.declared.message.Message.{Message}
use Rattle.connection_record.specs.Speaking.{one, is_asking, is_noting, is_answering}
use Rattle.child_connection.specs.declared.state.Sent.{Sent}
use Rattle.child_connection.specs.Views.{ChildConnection, new_view, is_open, open_request}
use Rattle.child_connection.specs.Asks.{asks}
use Rattle.child_connection.specs.Hearing.{hear, hear_from}
use Rattle.child_connection.specs.Holding.{is_reservation, holds, fits, settles}
use Rattle.child_connection.proofs.Holds.{hear_holds, new_fits, asks_fit, hear_fits}
use Rattle.child_connection.proofs.Places.{hear_place}
use Rattle.child_connection.proofs.Reservations.{request_stays}
use Rattle.agent_speech.specs.Unanswered.{misfits, answers_at}

---- Asking

-- what may be asked of a view: its machine has nothing unanswered, or it isn't that of the reservation
abbrev pub MayAsk : Kind → ChildConnection → Type 0
MayAsk k x = (open_request k x ≡ None) ⊎ (is_reservation k ≡ false)

fit_less : (a b : Bool) → (a ≡ true → b ≡ true) → one (not b) ≤ one (not a)
fit_less true b h = let e : b ≡ true = h refl in omega (arith, ap (λ z. one (not z)) e)
fit_less false true h = omega arith
fit_less false false h = omega arith

other_fits : (k : Kind) (c : ℕ) (x : ChildConnection) → is_reservation k ≡ false → fits x ≡ true → fits (asks k c x) ≡ true
unfolding asks fits is_reservation
other_fits k c x e f = grind (arith, e, f)

pub asks_misfit : (k : Kind) (c : ℕ) (x : ChildConnection) → MayAsk k x → one (misfits (asks k c x)) ≤ one (misfits x)
asks_misfit k c x (inl e) = fit_less (fits x) (fits (asks k c x)) (asks_fit k c x e)
asks_misfit k c x (inr e) = fit_less (fits x) (fits (asks k c x)) (other_fits k c x e)

pub asks_hold : (k : Kind) (d : ℕ) (x : ChildConnection) (p : List ℕ) (c : ℕ) → MayAsk k x →
    one (is_reservation k && (bytes_eq p x.child && (c == d))) + one (holds p c x) ≤ one (holds p c (asks k d x))
unfolding asks holds is_reservation open_request
asks_hold k d x p c (inl e) = grind (arith, e)
asks_hold k d x p c (inr e) = grind (arith, e)

pub asks_few : (k : Kind) (d : ℕ) (x : ChildConnection) (p : List ℕ) (c : ℕ) → one (holds p c (asks k d x)) ≤ one (holds p c x) + one (is_reservation k && (bytes_eq p x.child && (c == d)))
unfolding asks holds is_reservation
asks_few k d x p c = grind arith

---- New views

pub new_misfits : (child source dest : List ℕ) → one (misfits (new_view child source dest)) ≡ 0
new_misfits child source dest = ap (λ z. one (not z)) (new_fits child source dest)

pub new_holds : (p : List ℕ) (c : ℕ) (child source dest : List ℕ) → one (holds p c (new_view child source dest)) ≡ 0
unfolding holds
new_holds p c child source dest = grind arith

---- Hearing

pub hear_misfit : (m : Message) (x : ChildConnection) → one (misfits (hear m x).view) ≤ one (misfits x)
hear_misfit m x = fit_less (fits x) (fits (hear m x).view) (hear_fits m x)

settling_answers : (b : Body) → settles b ≡ true → is_answering b ≡ true
unfolding settles is_answering is_asking is_noting
settling_answers b e = grind (arith, e)

not_settled : (p : List ℕ) (c : ℕ) (m : Message) → answers_at p c m ≡ false → (settles m.body && (bytes_eq p m.header.provider && (c == m.header.correlation))) ≡ false
not_settled p c m n = by (settles m.body) refl
  where
    by : (b : Bool) → settles m.body ≡ b → (b && (bytes_eq p m.header.provider && (c == m.header.correlation))) ≡ false
    by false e = refl
    by true e = let a : is_answering m.body ≡ true = settling_answers m.body e in grind (arith, n, a)

hold_less : (a b w : Bool) → (w ≡ true → a ≡ true → b ≡ true) → one a ≤ one b + one (not w)
hold_less false b w h = omega arith
hold_less true b false h = omega arith
hold_less true b true h = let e : b ≡ true = h refl refl in omega (arith, ap one e)

pub hear_hold : (m : Message) (x : ChildConnection) (p : List ℕ) (c : ℕ) → answers_at p c m ≡ false → one (holds p c x) ≤ one (holds p c (hear m x).view) + one (misfits x)
hear_hold m x p c n = hold_less (holds p c x) (holds p c (hear m x).view) (fits x) (λ w h. hear_holds m x p c w (not_settled p c m n) h)

-- the request stays, or there is none
request_heard : (m : Message) (x : ChildConnection) → ((hear m x).view.reserve_request ≡ x.reserve_request) ⊎ ((hear m x).view.reserve_request ≡ None)
request_heard m x = by (bytes_eq m.header.provider x.child)
  where
    by : (b : Bool) → ((hear_from b m x).view.reserve_request ≡ x.reserve_request) ⊎ ((hear_from b m x).view.reserve_request ≡ None)
    by true = request_stays m.body m.header.correlation x
    by false = inl refl

pub hear_few : (m : Message) (x : ChildConnection) (p : List ℕ) (c : ℕ) → one (holds p c (hear m x).view) ≤ one (holds p c x)
unfolding holds
hear_few m x p c = by (request_heard m x)
  where
    y : ChildConnection
    y = (hear m x).view

    same : (a : List ℕ) (o : Option Sent) → y.child ≡ a → y.reserve_request ≡ o → one (bytes_eq p y.child && is_open y.reserve_request c) ≡ one (bytes_eq p a && is_open o c)
    same a o e f = ap (λ z. one (bytes_eq p z && is_open y.reserve_request c)) e ∙ ap (λ z. one (bytes_eq p a && is_open z c)) f

    none : (b : Bool) → one (b && is_open None c) ≡ 0
    none b = grind arith

    by : (y.reserve_request ≡ x.reserve_request) ⊎ (y.reserve_request ≡ None) → one (bytes_eq p y.child && is_open y.reserve_request c) ≤ one (bytes_eq p x.child && is_open x.reserve_request c)
    by (inl e) = omega (arith, same x.child x.reserve_request (hear_place m x).child e)
    by (inr e) = omega (arith, same x.child None (hear_place m x).child e, none (bytes_eq p x.child))
