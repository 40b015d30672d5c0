-- What an agent does by itself: it ends no connection that lives, checks nothing new, and confirms what it has checked.
use Rattle.std.proofs.Common.{ℕ, ◌≡◌, ◌∙◌, Bool, true, false, List, [], ◌++◌, Contains, ◌⊎◌, inl, inr, Option, Some, None, option_map, refl, sym, ap, arith, if◌then◌else◌}
use Rattle.std.specs.List.{list_any}
use Rattle.std.proofs.lemmas.List.Elements.{Contains-append_cases}
use Rattle.record_index.proofs.Members.{nothing_in}
use Rattle.nsi_primitive.specs.declared.kind.ErrorName.{ErrorName}
use Rattle.nsi_primitive.specs.declared.kind.Kind.{Kind}
use Rattle.nsi_primitive.specs.declared.plane.Plane.{Plane}
use Rattle.nsi_primitive.specs.declared.state.Lsm.{Lsm}
use Rattle.nsi_primitive.specs.declared.state.Machine.{Machine}
use Rattle.nsi_primitive.specs.declared.state.Psm.{Psm}
use Rattle.nsi_primitive.specs.declared.state.Rsm.{Rsm}
use Rattle.nsi_primitive.specs.declared.state.Side.{Side}
use Rattle.nsi_primitive.specs.declared.message.Body.{Body}
use Rattle.nsi_primitive.specs.declared.message.Cause.{Cause}
use Rattle.nsi_primitive.specs.declared.message.Criteria.{Criteria}
use Rattle.nsi_primitive.specs.declared.message.Exception.{Exception}
use Rattle.nsi_primitive.specs.declared.message.ReserveConfirmation.{ReserveConfirmation}
use Rattle.lifecycle_machine.specs.Table.{step as lifecycle_step}
use Rattle.provision_machine.specs.Table.{step as provision_step}
use Rattle.reserve_machine.specs.Table.{step as reserve_step}
use Rattle.connection_record.specs.declared.record.Record.{Record}
use Rattle.connection_record.specs.declared.apply.Move.{Move}
use Rattle.connection_record.specs.declared.life.LifecycleMove.{LifecycleMove}
use Rattle.connection_record.specs.declared.moves.Origin.{Origin}
use Rattle.connection_record.specs.declared.moves.Reply.{Reply}
use Rattle.connection_record.specs.declared.moves.ReservationMove.{ReservationMove}
use Rattle.connection_record.specs.declared.provisioning.ProvisionMove.{ProvisionMove}
use Rattle.connection_record.specs.Applied.{reservation_closing, provision_closing, closes_reservation, closes_provision, closes, moves, moves_if, work_of, provided, ticks, schedule_end, tells_plane, tells, is_told, status_of}
use Rattle.connection_record.specs.Demand.{last}
use Rattle.connection_record.specs.Lives.{provision_event, provisions, provisions_if, lifecycle_event, lives, lives_if}
use Rattle.connection_record.specs.Moves.{event_of, fits, reserves, reserves_if, hold_end, worked, fit_or_lack, is_due, is_live}
use Rattle.connection_record.specs.Replies.{Moved, then_moves, id_or, plain}
use Rattle.connection_record.specs.Speaking.{tally, reservation_begins, lifecycle_begins}
use Rattle.connection_record.specs.Courses.{IsOwn}
use Rattle.child_connection.specs.Views.{ChildConnection}
use Rattle.aggregator_agent.specs.declared.agent.Agent.{Agent}
use Rattle.aggregator_agent.specs.Clock.{tells_late, ends}
use Rattle.aggregator_agent.specs.Settling.{is_quiet, is_there, reservation_due, provision_due, settles_reservation, settles_provision, closes_unless, settles}
use Rattle.aggregator_agent.specs.Turns.{hold_end_by, force_by}
use Rattle.circuit_link.specs.Sides.{version_of}
use Rattle.circuit_link.specs.Serving.{IsByItself}
use Rattle.circuit_link.proofs.Acting.{reservation_own, hold_end_own}
use Rattle.circuit_link.proofs.Answering.{only_one, tally_there}

---- Parts

pub itself_same : (r : Record) → IsByItself r r []
itself_same r = record { lives = λ h. h; checks = λ h. (h, refl, refl); confirms = λ y f i e. absurd (nothing_in y i) }

-- one thing, and then another; what is said comes of the two
pub itself_then : (r q p : Record) (xs ys zs : List Reply) → ((y : Reply) → Contains zs y → Contains xs y ⊎ Contains ys y) → IsByItself r q xs → IsByItself q p ys → IsByItself r p zs
itself_then r q p xs ys zs into a b =
    record {
      lives = λ h. b.lives (a.lives h);
      checks = λ h. let v = b.checks h in let w = a.checks v.0 in (w.0, v.1 ∙ w.1, v.2 ∙ w.2);
      confirms = λ y f i e. by_part y f e (into y i);
    }
  where
    by_part : (y : Reply) (f : ReserveConfirmation) → y.body ≡ Body.ReserveConfirmed f → Contains xs y ⊎ Contains ys y → (r.rsm ≡ Rsm.ReserveChecking) × (y.correlation ≡ id_or r.reserve_request) × (option_map version_of r.pending ≡ Some f.version)
    by_part y f e (inl i) = a.confirms y f i e
    by_part y f e (inr i) = let v = b.confirms y f i e in let w = a.checks v.0 in (w.0, v.1 ∙ ap id_or w.2, sym (ap (option_map version_of) w.1) ∙ v.2)

pub itself_append : (r q p : Record) (xs ys : List Reply) → IsByItself r q xs → IsByItself q p ys → IsByItself r p (xs ++ ys)
itself_append r q p xs ys a b = itself_then r q p xs ys (xs ++ ys) (λ y i. Contains-append_cases xs ys y i) a b

unfoldable pub is_confirmed : Body → Bool
is_confirmed (Body.ReserveConfirmed f) = true
is_confirmed _ = false

abbrev pub confirmed_in : Reply → Bool
confirmed_in y = is_confirmed y.body

-- what confirms nothing
pub unconfirmed : (out : List Reply) → tally confirmed_in out ≡ 0 → (y : Reply) (f : ReserveConfirmation) → Contains out y → y.body ≡ Body.ReserveConfirmed f → ⊥
unfolding is_confirmed
unconfirmed out e y f i b = omega (arith, e, tally_there confirmed_in y out i (ap is_confirmed b))

-- the reservation is left alone
itself_beside : (r : Record) (x : Moved) → (is_live r.lsm ≡ true → is_live x.rec.lsm ≡ true) → x.rec.rsm ≡ r.rsm → x.rec.pending ≡ r.pending → x.rec.reserve_request ≡ r.reserve_request → tally confirmed_in x.out ≡ 0 → IsByItself r x.rec x.out
itself_beside r x l s p q t = record { lives = l; checks = λ h. (sym s ∙ h, p, q); confirms = λ y f i e. absurd (unconfirmed x.out t y f i e) }

---- The reservation machine

pub reserves_life : (k : Rsm) (move : ReservationMove) (now : ℕ) (r : Record) → (reserves k move now r).rec.lsm ≡ r.lsm
unfolding reserves reserve_step event_of
reserves_life k move now r = grind arith

own_checks : (k : Rsm) (move : ReservationMove) (now : ℕ) (r : Record) → r.rsm ≡ k → reservation_begins move ≡ None → (reserves k move now r).rec.rsm ≡ Rsm.ReserveChecking → r.rsm ≡ Rsm.ReserveChecking
unfolding reserves reserve_step event_of
own_checks k move now r e b h = grind (arith, e, b, h)

own_pending : (k : Rsm) (move : ReservationMove) (now : ℕ) (r : Record) → r.rsm ≡ k → reservation_begins move ≡ None → (reserves k move now r).rec.rsm ≡ Rsm.ReserveChecking → (reserves k move now r).rec.pending ≡ r.pending
unfolding reserves reserve_step event_of
own_pending k move now r e b h = grind (arith, e, b, h)

own_request : (k : Rsm) (move : ReservationMove) (now : ℕ) (r : Record) → r.rsm ≡ k → reservation_begins move ≡ None → (reserves k move now r).rec.rsm ≡ Rsm.ReserveChecking → (reserves k move now r).rec.reserve_request ≡ r.reserve_request
unfolding reserves reserve_step event_of
own_request k move now r e b h = grind (arith, e, b, h)

unfoldable pub is_fit : ReservationMove → Bool
is_fit (ReservationMove.Fit _) = true
is_fit _ = false

pub none_confirmed : (k : Rsm) (move : ReservationMove) (now : ℕ) (r : Record) → is_fit move ≡ false → tally confirmed_in (reserves k move now r).out ≡ 0
unfolding reserves reserve_step event_of is_fit is_confirmed tally
none_confirmed k move now r e = grind (arith, e)

fit_elsewhere : (k : Rsm) (deadline : Option ℕ) (now : ℕ) (r : Record) → (k ≡ Rsm.ReserveChecking → ⊥) → tally confirmed_in (reserves k (ReservationMove.Fit deadline) now r).out ≡ 0
unfolding reserves reserve_step event_of tally
fit_elsewhere Rsm.ReserveChecking deadline now r n = absurd (n refl)
fit_elsewhere Rsm.ReserveStart deadline now r n = refl
fit_elsewhere Rsm.ReserveHeld deadline now r n = refl
fit_elsewhere Rsm.ReserveFailed deadline now r n = refl
fit_elsewhere Rsm.ReserveCommitting deadline now r n = refl
fit_elsewhere Rsm.ReserveTimeout deadline now r n = refl
fit_elsewhere Rsm.ReserveAborting deadline now r n = refl

abbrev Confirms : Record → List Reply → Type 0
Confirms r out = (y : Reply) (f : ReserveConfirmation) → Contains out y → y.body ≡ Body.ReserveConfirmed f → (r.rsm ≡ Rsm.ReserveChecking) × (y.correlation ≡ id_or r.reserve_request) × (option_map version_of r.pending ≡ Some f.version)

held_confirms : (o : Option Criteria) (deadline : Option ℕ) (now : ℕ) (r : Record) → r.rsm ≡ Rsm.ReserveChecking → r.pending ≡ o → Confirms r (fits o deadline Rsm.ReserveHeld now r).out
held_confirms None deadline now r s e = λ y f i b. absurd (nothing_in y i)
held_confirms (Some c) deadline now r s e = λ y f i b.
    let q = only_one _ y i in
    (s, ap (λ (z : Reply). z.correlation) q, ap (option_map version_of) e ∙ ap Some (sym (version_in f _ (sym b ∙ ap (λ (z : Reply). z.body) q))))
  where
    version_in : (f g : ReserveConfirmation) → Body.ReserveConfirmed f ≡ Body.ReserveConfirmed g → f.version ≡ g.version
    version_in f g e = let w : f ≡ g = cc in ap (λ (z : ReserveConfirmation). z.version) w

fit_confirms : (k : Rsm) (deadline : Option ℕ) (now : ℕ) (r : Record) → r.rsm ≡ k → Confirms r (reserves k (ReservationMove.Fit deadline) now r).out
unfolding reserves reserve_step event_of
fit_confirms Rsm.ReserveChecking deadline now r e = held_confirms r.pending deadline now r e refl
fit_confirms Rsm.ReserveStart deadline now r e = λ y f i b. absurd (nothing_in y i)
fit_confirms Rsm.ReserveHeld deadline now r e = λ y f i b. absurd (nothing_in y i)
fit_confirms Rsm.ReserveFailed deadline now r e = λ y f i b. absurd (nothing_in y i)
fit_confirms Rsm.ReserveCommitting deadline now r e = λ y f i b. absurd (nothing_in y i)
fit_confirms Rsm.ReserveTimeout deadline now r e = λ y f i b. absurd (nothing_in y i)
fit_confirms Rsm.ReserveAborting deadline now r e = λ y f i b. absurd (nothing_in y i)

own_confirms : (move : ReservationMove) (now : ℕ) (r : Record) → Confirms r (reserves r.rsm move now r).out
unfolding is_fit
own_confirms (ReservationMove.Fit deadline) now r = fit_confirms r.rsm deadline now r refl
own_confirms (ReservationMove.Reserve c q) now r = λ y f i b. absurd (unconfirmed (reserves r.rsm (ReservationMove.Reserve c q) now r).out (none_confirmed r.rsm (ReservationMove.Reserve c q) now r refl) y f i b)
own_confirms (ReservationMove.Lack e) now r = λ y f i b. absurd (unconfirmed (reserves r.rsm (ReservationMove.Lack e) now r).out (none_confirmed r.rsm (ReservationMove.Lack e) now r refl) y f i b)
own_confirms (ReservationMove.Commit c) now r = λ y f i b. absurd (unconfirmed (reserves r.rsm (ReservationMove.Commit c) now r).out (none_confirmed r.rsm (ReservationMove.Commit c) now r refl) y f i b)
own_confirms (ReservationMove.Abort c) now r = λ y f i b. absurd (unconfirmed (reserves r.rsm (ReservationMove.Abort c) now r).out (none_confirmed r.rsm (ReservationMove.Abort c) now r refl) y f i b)
own_confirms (ReservationMove.HoldEnd o) now r = λ y f i b. absurd (unconfirmed (reserves r.rsm (ReservationMove.HoldEnd o) now r).out (none_confirmed r.rsm (ReservationMove.HoldEnd o) now r refl) y f i b)
own_confirms ReservationMove.Done now r = λ y f i b. absurd (unconfirmed (reserves r.rsm ReservationMove.Done now r).out (none_confirmed r.rsm ReservationMove.Done now r refl) y f i b)
own_confirms (ReservationMove.Spoiled e m) now r = λ y f i b. absurd (unconfirmed (reserves r.rsm (ReservationMove.Spoiled e m) now r).out (none_confirmed r.rsm (ReservationMove.Spoiled e m) now r refl) y f i b)
own_confirms ReservationMove.Freed now r = λ y f i b. absurd (unconfirmed (reserves r.rsm ReservationMove.Freed now r).out (none_confirmed r.rsm ReservationMove.Freed now r refl) y f i b)

-- whatever begins nothing
pub reservation_itself : (o : Option ReservationMove) (now : ℕ) (r : Record) → IsOwn o → IsByItself r (reserves_if o now r).rec (reserves_if o now r).out
reservation_itself None now r b = itself_same r
reservation_itself (Some move) now r b =
    record {
      lives = λ h. ap is_live (reserves_life r.rsm move now r) ∙ h;
      checks = λ h. (own_checks r.rsm move now r refl b h, own_pending r.rsm move now r refl b h, own_request r.rsm move now r refl b h);
      confirms = own_confirms move now r;
    }

---- The other machines

pub provisions_life : (side : Side) (k : Psm) (move : ProvisionMove) (now : ℕ) (r : Record) → (provisions side k move now r).rec.lsm ≡ r.lsm
unfolding provisions provision_step provision_event
provisions_life side k move now r = grind arith

pub provisions_rsm : (side : Side) (k : Psm) (move : ProvisionMove) (now : ℕ) (r : Record) → (provisions side k move now r).rec.rsm ≡ r.rsm
unfolding provisions provision_step provision_event
provisions_rsm side k move now r = grind arith

pub provisions_pending : (side : Side) (k : Psm) (move : ProvisionMove) (now : ℕ) (r : Record) → (provisions side k move now r).rec.pending ≡ r.pending
unfolding provisions provision_step provision_event
provisions_pending side k move now r = grind arith

pub provisions_request : (side : Side) (k : Psm) (move : ProvisionMove) (now : ℕ) (r : Record) → (provisions side k move now r).rec.reserve_request ≡ r.reserve_request
unfolding provisions provision_step provision_event
provisions_request side k move now r = grind arith

pub provisions_confirmed : (side : Side) (k : Psm) (move : ProvisionMove) (now : ℕ) (r : Record) → tally confirmed_in (provisions side k move now r).out ≡ 0
unfolding provisions provision_step provision_event is_confirmed tally
provisions_confirmed side k move now r = grind arith

pub provisions_itself : (side : Side) (move : ProvisionMove) (now : ℕ) (r : Record) → IsByItself r (provisions side r.psm move now r).rec (provisions side r.psm move now r).out
provisions_itself side move now r =
    itself_beside r (provisions side r.psm move now r) (λ h. ap is_live (provisions_life side r.psm move now r) ∙ h) (provisions_rsm side r.psm move now r) (provisions_pending side r.psm move now r)
    (provisions_request side r.psm move now r) (provisions_confirmed side r.psm move now r)

pub provision_itself : (side : Side) (o : Option ProvisionMove) (now : ℕ) (r : Record) → IsByItself r (provisions_if side o now r).rec (provisions_if side o now r).out
provision_itself side None now r = itself_same r
provision_itself side (Some move) now r = provisions_itself side move now r

life_goes_on : (k : Lsm) (move : LifecycleMove) (now : ℕ) (r : Record) → lifecycle_begins move ≡ None → r.lsm ≡ k → is_live k ≡ true → is_live (lives k move now r).rec.lsm ≡ true
unfolding lives lifecycle_step lifecycle_event is_live
life_goes_on k move now r b e h = grind (arith, b, e, h)

pub lives_rsm : (k : Lsm) (move : LifecycleMove) (now : ℕ) (r : Record) → (lives k move now r).rec.rsm ≡ r.rsm
unfolding lives lifecycle_step lifecycle_event
lives_rsm k move now r = grind arith

pub lives_pending : (k : Lsm) (move : LifecycleMove) (now : ℕ) (r : Record) → (lives k move now r).rec.pending ≡ r.pending
unfolding lives lifecycle_step lifecycle_event
lives_pending k move now r = grind arith

pub lives_request : (k : Lsm) (move : LifecycleMove) (now : ℕ) (r : Record) → (lives k move now r).rec.reserve_request ≡ r.reserve_request
unfolding lives lifecycle_step lifecycle_event
lives_request k move now r = grind arith

pub lives_confirmed : (k : Lsm) (move : LifecycleMove) (now : ℕ) (r : Record) → tally confirmed_in (lives k move now r).out ≡ 0
unfolding lives lifecycle_step lifecycle_event is_confirmed tally
lives_confirmed k move now r = grind arith

pub life_itself : (move : LifecycleMove) (now : ℕ) (r : Record) → lifecycle_begins move ≡ None → IsByItself r (lives r.lsm move now r).rec (lives r.lsm move now r).out
life_itself move now r b =
    itself_beside r (lives r.lsm move now r) (λ h. life_goes_on r.lsm move now r b refl h) (lives_rsm r.lsm move now r) (lives_pending r.lsm move now r) (lives_request r.lsm move now r) (lives_confirmed r.lsm move now r)

pub life_if_itself : (o : Option LifecycleMove) (now : ℕ) (r : Record) → ((move : LifecycleMove) → o ≡ Some move → lifecycle_begins move ≡ None) → IsByItself r (lives_if o now r).rec (lives_if o now r).out
life_if_itself None now r b = itself_same r
life_if_itself (Some move) now r b = life_itself move now r (b move refl)

closing_own : (k : Rsm) (e : Exception) → IsOwn (reservation_closing k e)
unfolding reservation_closing
closing_own Rsm.ReserveChecking e = refl
closing_own Rsm.ReserveCommitting e = refl
closing_own Rsm.ReserveAborting e = refl
closing_own Rsm.ReserveStart e = tt
closing_own Rsm.ReserveHeld e = tt
closing_own Rsm.ReserveFailed e = tt
closing_own Rsm.ReserveTimeout e = tt

-- one move, and then another
pub moves_itself : (r : Record) (x : Moved) (f : Record → Moved) → IsByItself r x.rec x.out → IsByItself x.rec (f x.rec).rec (f x.rec).out → IsByItself r (then_moves x f).rec (then_moves x f).out
moves_itself r x f a b = itself_append r x.rec (f x.rec).rec x.out (f x.rec).out a b

pub closing_itself : (agent : List ℕ) (side : Side) (now : ℕ) (r : Record) → IsByItself r (closes agent side now r).rec (closes agent side now r).out
unfolding closes
closing_itself agent side now r =
    moves_itself r (then_moves x (λ z. closes_provision agent side now z)) (λ z. lives z.lsm LifecycleMove.Done now z)
    (moves_itself r x (λ z. closes_provision agent side now z) (reservation_itself (reservation_closing r.rsm (plain agent ErrorName.Gone)) now r (closing_own r.rsm (plain agent ErrorName.Gone)))
    (provision_itself side (provision_closing x.rec.psm (plain agent ErrorName.Gone)) now x.rec))
    (life_itself LifecycleMove.Done now (then_moves x (λ z. closes_provision agent side now z)).rec refl)
  where
    x : Moved
    x = closes_reservation agent now r

---- A provider

fit_own : (lack : Option Cause) (agent : List ℕ) (deadline : ℕ) → IsOwn (Some (fit_or_lack lack agent deadline))
fit_own None agent deadline = refl
fit_own (Some c) agent deadline = refl

worked_own : (k : Rsm) (lack : Option Cause) (agent : List ℕ) (deadline : ℕ) → IsOwn (worked k lack agent deadline)
unfolding worked
worked_own Rsm.ReserveChecking lack agent deadline = fit_own lack agent deadline
worked_own Rsm.ReserveCommitting lack agent deadline = refl
worked_own Rsm.ReserveAborting lack agent deadline = refl
worked_own Rsm.ReserveStart lack agent deadline = tt
worked_own Rsm.ReserveHeld lack agent deadline = tt
worked_own Rsm.ReserveFailed lack agent deadline = tt
worked_own Rsm.ReserveTimeout lack agent deadline = tt

pub work_itself : (side : Side) (machine : Machine) (lack : Option Cause) (agent : List ℕ) (deadline now : ℕ) (r : Record) →
    IsByItself r (moves_if side (work_of machine r lack agent deadline) now r).rec (moves_if side (work_of machine r lack agent deadline) now r).out
unfolding work_of moves
work_itself side Machine.Reserve lack agent deadline now r = by_move (worked r.rsm lack agent deadline) (worked_own r.rsm lack agent deadline)
  where
    by_move : (o : Option ReservationMove) → IsOwn o → IsByItself r (moves_if side (option_map Move.Reservation o) now r).rec (moves_if side (option_map Move.Reservation o) now r).out
    by_move None b = itself_same r
    by_move (Some move) b = reservation_itself (Some move) now r b
work_itself side Machine.Provision lack agent deadline now r = by_move (provided r.psm)
  where
    by_move : (o : Option ProvisionMove) → IsByItself r (moves_if side (option_map Move.Provision o) now r).rec (moves_if side (option_map Move.Provision o) now r).out
    by_move None = itself_same r
    by_move (Some move) = provisions_itself side move now r
work_itself side Machine.Lifecycle lack agent deadline now r = closing_itself agent side now r

pub force_itself : (side : Side) (c : ℕ) (origin : Origin) (now : ℕ) (r : Record) →
    IsByItself r (moves side (Move.Lifecycle (LifecycleMove.Force c origin)) now r).rec (moves side (Move.Lifecycle (LifecycleMove.Force c origin)) now r).out
unfolding moves
force_itself side c origin now r = life_itself (LifecycleMove.Force c origin) now r refl

end_begins : (t : Bool) (move : LifecycleMove) → (if t then Some LifecycleMove.EndTime else None) ≡ Some move → lifecycle_begins move ≡ None
end_begins true move e = let q : LifecycleMove.EndTime ≡ move = cc in ap lifecycle_begins (sym q)
end_begins false move e = absurd (cc)

hold_own : (k : Rsm) (deadline : Option ℕ) (now : ℕ) (origin : Origin) → IsOwn (hold_end k deadline now origin)
unfolding hold_end
hold_own Rsm.ReserveHeld deadline now origin = by_test (is_due deadline now)
  where
    by_test : (t : Bool) → IsOwn (if t then Some (ReservationMove.HoldEnd origin) else None)
    by_test true = refl
    by_test false = tt
hold_own Rsm.ReserveStart deadline now origin = tt
hold_own Rsm.ReserveChecking deadline now origin = tt
hold_own Rsm.ReserveFailed deadline now origin = tt
hold_own Rsm.ReserveCommitting deadline now origin = tt
hold_own Rsm.ReserveTimeout deadline now origin = tt
hold_own Rsm.ReserveAborting deadline now origin = tt

pub tick_itself : (live : Bool) (origin : Origin) (now : ℕ) (r : Record) → IsByItself r (ticks live origin now r).rec (ticks live origin now r).out
unfolding ticks
tick_itself false origin now r = itself_same r
tick_itself true origin now r =
    moves_itself r x (λ z. lives_if (schedule_end (last z.committed) now) now z) (reservation_itself (hold_end r.rsm r.deadline now origin) now r (hold_own r.rsm r.deadline now origin))
    (life_if_itself (schedule_end (last x.rec.committed) now) now x.rec (λ move e. end_begins _ move e))
  where
    x : Moved
    x = reserves_if (hold_end r.rsm r.deadline now origin) now r

pub plane_itself : (t : Bool) (p : Plane) (c now : ℕ) (r : Record) → IsByItself r (tells_plane t p c now r).rec (tells_plane t p c now r).out
unfolding tells_plane is_confirmed tally
plane_itself true p c now r = itself_beside r (tells_plane true p c now r) (λ h. h) refl refl refl refl
plane_itself false p c now r = itself_same r

pub telling_itself : (before : Plane) (c now : ℕ) (r : Record) (x : Moved) → IsByItself r x.rec x.out → IsByItself r (tells before c now x).rec (tells before c now x).out
unfolding tells
telling_itself before c now r x a = moves_itself r x (λ z. tells_plane (is_told before now z) (status_of now z) c now z) a (plane_itself (is_told before now x.rec) (status_of now x.rec) c now x.rec)

---- An aggregator

unless_itself : (b : Bool) (agent : Agent) (now : ℕ) (own : Record) → IsByItself own (closes_unless b agent now own).rec (closes_unless b agent now own).out
unfolding closes_unless
unless_itself true agent now own = itself_same own
unless_itself false agent now own = closing_itself agent.name Side.Aggregator now own

both_itself : (agent : Agent) (now : ℕ) (xs : List ChildConnection) (own : Record) →
    (let x : Moved = then_moves (settles_reservation agent now xs own) (λ z. settles_provision agent now xs z) in IsByItself own x.rec x.out)
unfolding settles_reservation settles_provision
both_itself agent now xs own =
    moves_itself own x (λ z. settles_provision agent now xs z)
    (reservation_itself (reservation_due (is_quiet Kind.Reserve xs) own.rsm agent.name xs) now own (reservation_own (is_quiet Kind.Reserve xs) own.rsm agent.name xs))
    (provision_itself Side.Aggregator (provision_due (is_quiet Kind.Provision xs) x.rec.psm agent.name xs) now x.rec)
  where
    x : Moved
    x = reserves_if (reservation_due (is_quiet Kind.Reserve xs) own.rsm agent.name xs) now own

pub settles_itself : (k : Lsm) (agent : Agent) (now : ℕ) (xs : List ChildConnection) (own : Record) → IsByItself own (settles k agent now xs own).rec (settles k agent now xs own).out
unfolding settles
settles_itself Lsm.Terminating agent now xs own = unless_itself (list_any is_there xs) agent now own
settles_itself Lsm.Terminated agent now xs own = itself_same own
settles_itself Lsm.Created agent now xs own = both_itself agent now xs own
settles_itself Lsm.Failed agent now xs own = both_itself agent now xs own
settles_itself Lsm.PassedEndTime agent now xs own = both_itself agent now xs own

pub hold_itself : (b : Bool) (body : Body) (now : ℕ) (own : Record) → IsByItself own (reserves_if (hold_end_by b body) now own).rec (reserves_if (hold_end_by b body) now own).out
hold_itself b body now own = reservation_itself (hold_end_by b body) now own (hold_end_own b body)

forced_begins : (b : Bool) (c : ℕ) (body : Body) (move : LifecycleMove) → force_by b c body ≡ Some move → lifecycle_begins move ≡ None
unfolding force_by
forced_begins b c body move e = grind (arith, e)

pub forced_itself : (b : Bool) (c : ℕ) (body : Body) (now : ℕ) (own : Record) → IsByItself own (lives_if (force_by b c body) now own).rec (lives_if (force_by b c body) now own).out
forced_itself b c body now own = life_if_itself (force_by b c body) now own (λ move e. forced_begins b c body move e)

pub ends_itself : (b : Bool) (now : ℕ) (own : Record) → IsByItself own (ends b now own).rec (ends b now own).out
unfolding ends
ends_itself true now own = life_if_itself (schedule_end (last own.committed) now) now own (λ move e. end_begins _ move e)
ends_itself false now own = itself_same own

pub late_itself : (d c now : ℕ) (own : Record) → IsByItself own (tells_late d c now own).rec (tells_late d c now own).out
unfolding tells_late is_confirmed tally
late_itself d c now own = itself_beside own (tells_late d c now own) (λ h. h) refl refl refl refl
