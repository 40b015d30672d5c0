-- What is due to a connection is done at once: behind each turn nothing is left to do, and what has nothing to do stays.
use Rattle.std.proofs.Common.{◌≡◌, ◌∙◌, ◌⊎◌, inl, inr, if◌then◌else◌, ℕ, Bool, true, false, List, [], ◌∷◌, Option, Some, None, refl, sym, ap, subst, arith}
use Rattle.std.specs.List.{find, list_any}
use Rattle.nsi_primitive.specs.declared.kind.Kind.{Kind}
use Rattle.nsi_primitive.specs.declared.plane.Plane.{Plane}
use Rattle.nsi_primitive.specs.declared.state.Side.{Side}
use Rattle.nsi_primitive.specs.declared.state.Rsm.{Rsm}
use Rattle.nsi_primitive.specs.declared.state.Psm.{Psm}
use Rattle.nsi_primitive.specs.declared.state.Lsm.{Lsm}
use Rattle.nsi_primitive.specs.declared.message.Criteria.{Criteria}
use Rattle.nsi_primitive.specs.declared.message.Exception.{Exception}
use Rattle.nsi_primitive.specs.declared.message.Notice.{Notice}
use Rattle.reserve_machine.specs.Table.{step as reserve_step}
use Rattle.provision_machine.specs.Table.{step as provision_step}
use Rattle.lifecycle_machine.specs.Table.{step as lifecycle_step}
use Rattle.connection_record.specs.declared.record.Record.{Record}
use Rattle.connection_record.specs.declared.life.LifecycleMove.{LifecycleMove}
use Rattle.connection_record.specs.declared.moves.ReservationMove.{ReservationMove}
use Rattle.connection_record.specs.declared.provisioning.ProvisionMove.{ProvisionMove}
use Rattle.connection_record.specs.Replies.{Moved, stays, then_moves, plain, noted}
use Rattle.connection_record.specs.Moves.{event_of, reserves, reserves_if, is_live, is_due}
use Rattle.connection_record.specs.Demand.{last}
use Rattle.connection_record.specs.Courses.{IsReservationSame}
use Rattle.connection_record.proofs.Frames.{provisions_core, lives_core}
use Rattle.connection_record.specs.Lives.{provision_event, lifecycle_event, provisions, provisions_if, lives, lives_if}
use Rattle.connection_record.specs.Applied.{closes, closes_reservation, closes_provision, reservation_closing, provision_closing, tells_plane, schedule_end, end_of}
use Rattle.child_connection.specs.Views.{ChildConnection}
use Rattle.aggregator_agent.specs.declared.agent.Agent.{Agent}
use Rattle.aggregator_agent.specs.Asking.{Turn}
use Rattle.aggregator_agent.specs.Settling.{checked, fit_or_lack, is_lacking, has_error, has_provision_error, done_or_mixed, done_or_spoiled, reservation_verdict, reservation_due, is_quiet, provision_verdict, provision_due, settles_reservation, settles_provision, is_there, closes_unless, settles, settle}
use Rattle.aggregator_agent.specs.Turns.{joined_of, tell_joined}
use Rattle.aggregator_agent.specs.Clock.{ends}
use Rattle.dataplane_state.specs.Plane.{announces}
use Rattle.nsi_primitive.specs.Ids.{id_of}
use Rattle.nsi_primitive.specs.declared.kind.ErrorName.{ErrorName}
use Rattle.aggregator_agent.specs.Settled.{rests, AreAtRest, IsSettledIn}

---- What has nothing to do stays

fit_stays : (k : Rsm) (deadline : Option ℕ) (now : ℕ) (r : Record) → r.pending ≡ None → reserves k (ReservationMove.Fit deadline) now r ≡ stays r
unfolding reserves reserve_step event_of
fit_stays k deadline now r e = grind arith

rest_stays : (move : Option ReservationMove) (pending : Option Criteria) (now : ℕ) (r : Record) → r.pending ≡ pending → rests move pending ≡ true → reserves_if move now r ≡ stays r
unfolding rests
rest_stays None pending now r e h = refl
rest_stays (Some (ReservationMove.Fit deadline)) None now r e h = fit_stays r.rsm deadline now r e
rest_stays (Some (ReservationMove.Fit deadline)) (Some c) now r e h = absurd (cc)
rest_stays (Some (ReservationMove.Reserve a b)) pending now r e h = absurd (cc)
rest_stays (Some (ReservationMove.Lack a)) pending now r e h = absurd (cc)
rest_stays (Some (ReservationMove.Commit a)) pending now r e h = absurd (cc)
rest_stays (Some (ReservationMove.Abort a)) pending now r e h = absurd (cc)
rest_stays (Some (ReservationMove.HoldEnd a)) pending now r e h = absurd (cc)
rest_stays (Some ReservationMove.Done) pending now r e h = absurd (cc)
rest_stays (Some (ReservationMove.Spoiled a b)) pending now r e h = absurd (cc)
rest_stays (Some ReservationMove.Freed) pending now r e h = absurd (cc)

reservation_stays : (agent : Agent) (now : ℕ) (children : List ChildConnection) (own : Record) → AreAtRest own children → settles_reservation agent now children own ≡ stays own
unfolding settles_reservation
reservation_stays agent now children own rest = rest_stays (reservation_due (is_quiet Kind.Reserve children) own.rsm agent.name children) own.pending now own refl (rest.reservation agent.name)

provision_stays : (agent : Agent) (now : ℕ) (children : List ChildConnection) (own : Record) → AreAtRest own children → settles_provision agent now children own ≡ stays own
unfolding settles_provision
provision_stays agent now children own rest = ap (λ o. provisions_if Side.Aggregator o now own) (rest.provision agent.name)

both_stay : (agent : Agent) (now : ℕ) (children : List ChildConnection) (own : Record) → AreAtRest own children → then_moves (settles_reservation agent now children own) (λ x. settles_provision agent now children x) ≡ stays own
both_stay agent now children own rest =
    ap (λ (x : Moved). then_moves x (λ r. settles_provision agent now children r)) (reservation_stays agent now children own rest) ∙ provision_stays agent now children own rest

pub settled_stays : (lsm : Lsm) (agent : Agent) (now : ℕ) (children : List ChildConnection) (own : Record) → IsSettledIn lsm own children → settles lsm agent now children own ≡ stays own
unfolding settles closes_unless IsSettledIn
settled_stays Lsm.Terminating agent now children own h = ap (λ b. closes_unless b agent now own) h
settled_stays Lsm.Terminated agent now children own h = refl
settled_stays Lsm.Created agent now children own h = both_stay agent now children own h
settled_stays Lsm.Failed agent now children own h = both_stay agent now children own h
settled_stays Lsm.PassedEndTime agent now children own h = both_stay agent now children own h

---- What is due is done

lacked : (k : Rsm) (e : Exception) (now : ℕ) (r : Record) → k ≡ Rsm.ReserveChecking → (reserves k (ReservationMove.Lack e) now r).rec.rsm ≡ Rsm.ReserveFailed
unfolding reserves reserve_step event_of
lacked k e now r is = grind arith

fitted : (k : Rsm) (deadline : Option ℕ) (c : Criteria) (now : ℕ) (r : Record) → k ≡ Rsm.ReserveChecking → r.pending ≡ Some c → (reserves k (ReservationMove.Fit deadline) now r).rec.rsm ≡ Rsm.ReserveHeld
unfolding reserves reserve_step event_of
fitted k deadline c now r is e = grind arith

committed : (k : Rsm) (now : ℕ) (r : Record) → k ≡ Rsm.ReserveCommitting → (reserves k ReservationMove.Done now r).rec.rsm ≡ Rsm.ReserveStart
unfolding reserves reserve_step event_of
committed k now r is = grind arith

spoiled : (k : Rsm) (e : Exception) (mixed : Bool) (now : ℕ) (r : Record) → k ≡ Rsm.ReserveCommitting → (reserves k (ReservationMove.Spoiled e mixed) now r).rec.rsm ≡ Rsm.ReserveStart
unfolding reserves reserve_step event_of
spoiled k e mixed now r is = grind arith

freed : (k : Rsm) (now : ℕ) (r : Record) → k ≡ Rsm.ReserveAborting → (reserves k ReservationMove.Freed now r).rec.rsm ≡ Rsm.ReserveStart
unfolding reserves reserve_step event_of
freed k now r is = grind arith

-- whether a reservation rests in a state, whoever the agent is
abbrev RestsIn : Bool → Rsm → List ChildConnection → Option Criteria → Type 0
RestsIn quiet state children pending = (agent : List ℕ) → rests (reservation_due quiet state agent children) pending ≡ true

started : (quiet : Bool) (k : Rsm) (children : List ChildConnection) (pending : Option Criteria) → k ≡ Rsm.ReserveStart → RestsIn quiet k children pending
unfolding rests reservation_due reservation_verdict
started true k children pending e agent = rw e refl
started false k children pending e agent = refl

held : (quiet : Bool) (k : Rsm) (children : List ChildConnection) (pending : Option Criteria) → k ≡ Rsm.ReserveHeld → RestsIn quiet k children pending
unfolding rests reservation_due reservation_verdict
held true k children pending e agent = rw e refl
held false k children pending e agent = refl

failed : (quiet : Bool) (k : Rsm) (children : List ChildConnection) (pending : Option Criteria) → k ≡ Rsm.ReserveFailed → RestsIn quiet k children pending
unfolding rests reservation_due reservation_verdict
failed true k children pending e agent = rw e refl
failed false k children pending e agent = refl

-- all hold whatever the agent's name
fits_still : (x : ChildConnection) (xs : List ChildConnection) (pending : Option Criteria) → find is_lacking (x ∷ xs) ≡ None → pending ≡ None → (agent : List ℕ) → rests (Some (checked agent (x ∷ xs))) pending ≡ true
unfolding rests checked
fits_still x xs pending e f agent = ap (λ o. rests (Some (fit_or_lack agent o)) pending) e ∙ ap (λ p. rests (Some (ReservationMove.Fit None)) p) f

fits_in : (x : ChildConnection) (xs : List ChildConnection) (pending : Option Criteria) (k : Rsm) → k ≡ Rsm.ReserveChecking → find is_lacking (x ∷ xs) ≡ None → pending ≡ None → RestsIn true k (x ∷ xs) pending
unfolding reservation_due reservation_verdict
fits_in x xs pending k e f g agent = ap (λ s. rests (reservation_due true s agent (x ∷ xs)) pending) e ∙ fits_still x xs pending f g agent

-- a reservation rests behind a move that is done
abbrev RestsBehind : Moved → List ChildConnection → Type 0
RestsBehind x children = RestsIn true x.rec.rsm children x.rec.pending

found : (agent : List ℕ) (now : ℕ) (x : ChildConnection) (xs : List ChildConnection) (own : Record) (found : Option ChildConnection) (pending : Option Criteria) → own.rsm ≡ Rsm.ReserveChecking → find is_lacking (x ∷ xs) ≡ found → own.pending ≡ pending
    → RestsBehind (reserves own.rsm (fit_or_lack agent found) now own) (x ∷ xs)
found agent now x xs own (Some y) pending e g h =
    let r = (reserves own.rsm (fit_or_lack agent (Some y)) now own).rec in
    failed true r.rsm (x ∷ xs) r.pending (lacked own.rsm _ now own e)
found agent now x xs own None (Some c) e g h =
    let r = (reserves own.rsm (ReservationMove.Fit None) now own).rec in
    held true r.rsm (x ∷ xs) r.pending (fitted own.rsm None c now own e h)
found agent now x xs own None None e g h =
    subst (λ y. RestsBehind y (x ∷ xs)) (sym (fit_stays own.rsm None now own h)) (fits_in x xs own.pending own.rsm e g h)

checking : (agent : List ℕ) (now : ℕ) (children : List ChildConnection) (own : Record) → own.rsm ≡ Rsm.ReserveChecking → RestsBehind (reserves own.rsm (checked agent children) now own) children
unfolding checked
checking agent now [] own e =
    let r = (reserves own.rsm (checked agent []) now own).rec in
    failed true r.rsm [] r.pending (lacked own.rsm _ now own e)
checking agent now (x ∷ xs) own e = found agent now x xs own (find is_lacking (x ∷ xs)) own.pending e refl refl

committing : (agent : List ℕ) (now : ℕ) (children : List ChildConnection) (own : Record) (failed : Option ChildConnection) → own.rsm ≡ Rsm.ReserveCommitting → RestsBehind (reserves own.rsm (done_or_mixed agent failed) now own) children
committing agent now children own None e =
    let r = (reserves own.rsm ReservationMove.Done now own).rec in
    started true r.rsm children r.pending (committed own.rsm now own e)
committing agent now children own (Some y) e =
    let r = (reserves own.rsm (done_or_mixed agent (Some y)) now own).rec in
    started true r.rsm children r.pending (spoiled own.rsm _ true now own e)

aborting : (now : ℕ) (children : List ChildConnection) (own : Record) → own.rsm ≡ Rsm.ReserveAborting → RestsBehind (reserves own.rsm ReservationMove.Freed now own) children
aborting now children own e =
    let r = (reserves own.rsm ReservationMove.Freed now own).rec in
    started true r.rsm children r.pending (freed own.rsm now own e)

timed_out : (quiet : Bool) (k : Rsm) (children : List ChildConnection) (pending : Option Criteria) → k ≡ Rsm.ReserveTimeout → RestsIn quiet k children pending
unfolding rests reservation_due reservation_verdict
timed_out true k children pending e agent = rw e refl
timed_out false k children pending e agent = refl

verdict_done : (k : Rsm) (agent : List ℕ) (now : ℕ) (children : List ChildConnection) (own : Record) → own.rsm ≡ k → RestsBehind (reserves_if (reservation_verdict k agent children) now own) children
unfolding reservation_verdict
verdict_done Rsm.ReserveChecking agent now children own e = checking agent now children own e
verdict_done Rsm.ReserveCommitting agent now children own e = committing agent now children own (find has_error children) e
verdict_done Rsm.ReserveAborting agent now children own e = aborting now children own e
verdict_done Rsm.ReserveStart agent now children own e = started true own.rsm children own.pending e
verdict_done Rsm.ReserveHeld agent now children own e = held true own.rsm children own.pending e
verdict_done Rsm.ReserveFailed agent now children own e = failed true own.rsm children own.pending e
verdict_done Rsm.ReserveTimeout agent now children own e = timed_out true own.rsm children own.pending e

waits_still : (k : Rsm) (children : List ChildConnection) (pending : Option Criteria) → RestsIn false k children pending
unfolding rests reservation_due
waits_still k children pending agent = refl

due_done : (quiet : Bool) (agent : List ℕ) (now : ℕ) (children : List ChildConnection) (own : Record) →
    let x = reserves_if (reservation_due quiet own.rsm agent children) now own in
    RestsIn quiet x.rec.rsm children x.rec.pending
unfolding reservation_due
due_done true agent now children own = verdict_done own.rsm agent now children own refl
due_done false agent now children own = let x = reserves_if (reservation_due false own.rsm agent children) now own in waits_still x.rec.rsm children x.rec.pending

---- The provision machine

abbrev StandsIn : Bool → Psm → List ChildConnection → Type 0
StandsIn quiet state children = (agent : List ℕ) → provision_due quiet state agent children ≡ None

provided : (k : Psm) (now : ℕ) (r : Record) → k ≡ Psm.Provisioning → (provisions Side.Aggregator k ProvisionMove.Done now r).rec.psm ≡ Psm.Provisioned
unfolding provisions provision_step provision_event
provided k now r is = grind arith

released : (k : Psm) (now : ℕ) (r : Record) → k ≡ Psm.Releasing → (provisions Side.Aggregator k ProvisionMove.Done now r).rec.psm ≡ Psm.Released
unfolding provisions provision_step provision_event
released k now r is = grind arith

unprovided : (k : Psm) (e : Exception) (now : ℕ) (r : Record) → k ≡ Psm.Provisioning → (provisions Side.Aggregator k (ProvisionMove.Spoiled e) now r).rec.psm ≡ Psm.Released
unfolding provisions provision_step provision_event
unprovided k e now r is = grind arith

unreleased : (k : Psm) (e : Exception) (now : ℕ) (r : Record) → k ≡ Psm.Releasing → (provisions Side.Aggregator k (ProvisionMove.Spoiled e) now r).rec.psm ≡ Psm.Released
unfolding provisions provision_step provision_event
unreleased k e now r is = grind arith

stands_released : (quiet : Bool) (k : Psm) (children : List ChildConnection) → k ≡ Psm.Released → StandsIn quiet k children
unfolding provision_due provision_verdict
stands_released true k children e agent = rw e refl
stands_released false k children e agent = refl

stands_provisioned : (quiet : Bool) (k : Psm) (children : List ChildConnection) → k ≡ Psm.Provisioned → StandsIn quiet k children
unfolding provision_due provision_verdict
stands_provisioned true k children e agent = rw e refl
stands_provisioned false k children e agent = refl

provisioning : (agent : List ℕ) (now : ℕ) (children : List ChildConnection) (own : Record) (failed : Option ChildConnection) → own.psm ≡ Psm.Provisioning →
    StandsIn true (provisions Side.Aggregator own.psm (done_or_spoiled agent failed) now own).rec.psm children
provisioning agent now children own None e = stands_provisioned true (provisions Side.Aggregator own.psm ProvisionMove.Done now own).rec.psm children (provided own.psm now own e)
provisioning agent now children own (Some y) e = stands_released true (provisions Side.Aggregator own.psm (done_or_spoiled agent (Some y)) now own).rec.psm children (unprovided own.psm _ now own e)

releasing : (agent : List ℕ) (now : ℕ) (children : List ChildConnection) (own : Record) (failed : Option ChildConnection) → own.psm ≡ Psm.Releasing →
    StandsIn true (provisions Side.Aggregator own.psm (done_or_spoiled agent failed) now own).rec.psm children
releasing agent now children own None e = stands_released true (provisions Side.Aggregator own.psm ProvisionMove.Done now own).rec.psm children (released own.psm now own e)
releasing agent now children own (Some y) e = stands_released true (provisions Side.Aggregator own.psm (done_or_spoiled agent (Some y)) now own).rec.psm children (unreleased own.psm _ now own e)

provision_verdict_done : (k : Psm) (agent : List ℕ) (now : ℕ) (children : List ChildConnection) (own : Record) → own.psm ≡ k →
    StandsIn true (provisions_if Side.Aggregator (provision_verdict k agent children) now own).rec.psm children
unfolding provision_verdict
provision_verdict_done Psm.Provisioning agent now children own e = provisioning agent now children own (find has_provision_error children) e
provision_verdict_done Psm.Releasing agent now children own e = releasing agent now children own (find has_provision_error children) e
provision_verdict_done Psm.Released agent now children own e = stands_released true own.psm children e
provision_verdict_done Psm.Provisioned agent now children own e = stands_provisioned true own.psm children e

stands_waiting : (k : Psm) (children : List ChildConnection) → StandsIn false k children
unfolding provision_due
stands_waiting k children agent = refl

provision_done : (quiet : Bool) (agent : List ℕ) (now : ℕ) (children : List ChildConnection) (own : Record) → StandsIn quiet (provisions_if Side.Aggregator (provision_due quiet own.psm agent children) now own).rec.psm children
unfolding provision_due
provision_done true agent now children own = provision_verdict_done own.psm agent now children own refl
provision_done false agent now children own = stands_waiting (provisions_if Side.Aggregator (provision_due false own.psm agent children) now own).rec.psm children

---- A connection

reserves_lsm : (k : Rsm) (move : ReservationMove) (now : ℕ) (r : Record) → (reserves k move now r).rec.lsm ≡ r.lsm
unfolding reserves reserve_step event_of
reserves_lsm k move now r = grind arith

provisions_lsm : (k : Psm) (move : ProvisionMove) (now : ℕ) (r : Record) → (provisions Side.Aggregator k move now r).rec.lsm ≡ r.lsm
unfolding provisions provision_step provision_event
provisions_lsm k move now r = grind arith

reserved_lsm : (move : Option ReservationMove) (now : ℕ) (r : Record) → (reserves_if move now r).rec.lsm ≡ r.lsm
reserved_lsm None now r = refl
reserved_lsm (Some move) now r = reserves_lsm r.rsm move now r

provisioned_lsm : (move : Option ProvisionMove) (now : ℕ) (r : Record) → (provisions_if Side.Aggregator move now r).rec.lsm ≡ r.lsm
provisioned_lsm None now r = refl
provisioned_lsm (Some move) now r = provisions_lsm r.psm move now r

provisioned_same : (move : Option ProvisionMove) (now : ℕ) (r : Record) → IsReservationSame r (provisions_if Side.Aggregator move now r).rec
provisioned_same None now r = record { rsm = refl; request = refl; attempt = refl; pending = refl; committed = refl }
provisioned_same (Some move) now r = provisions_core Side.Aggregator r.psm move now r

-- behind both machines
abbrev both : Agent → ℕ → List ChildConnection → Record → Record
both agent now children own = (settles_provision agent now children (settles_reservation agent now children own).rec).rec

both_rest : (agent : Agent) (now : ℕ) (children : List ChildConnection) (own : Record) → AreAtRest (both agent now children own) children
unfolding settles_reservation settles_provision
both_rest agent now children own =
    let r = (settles_reservation agent now children own).rec in
    let move = provision_due (is_quiet Kind.Provision children) r.psm agent.name children in
    let x = (provisions_if Side.Aggregator move now r).rec in
    let same = provisioned_same move now r in
    let quiet = is_quiet Kind.Reserve children in
    record {
      reservation = λ a. ap (λ k. rests (reservation_due quiet k a children) x.pending) same.rsm ∙ (ap (λ p. rests (reservation_due quiet r.rsm a children) p) same.pending ∙ due_done quiet agent.name now children own a);
      provision = λ a. provision_done (is_quiet Kind.Provision children) agent.name now children r a;
    }

both_lsm : (agent : Agent) (now : ℕ) (children : List ChildConnection) (own : Record) → (both agent now children own).lsm ≡ own.lsm
unfolding settles_reservation settles_provision
both_lsm agent now children own =
    let r = (settles_reservation agent now children own).rec in
    provisioned_lsm (provision_due (is_quiet Kind.Provision children) r.psm agent.name children) now r ∙ reserved_lsm (reservation_due (is_quiet Kind.Reserve children) own.rsm agent.name children) now own

lives_done : (k : Lsm) (now : ℕ) (r : Record) → k ≡ Lsm.Terminating → (lives k LifecycleMove.Done now r).rec.lsm ≡ Lsm.Terminated
unfolding lives lifecycle_step lifecycle_event
lives_done k now r e = grind arith

ended : (agent : List ℕ) (now : ℕ) (r : Record) → r.lsm ≡ Lsm.Terminating → (closes agent Side.Aggregator now r).rec.lsm ≡ Lsm.Terminated
unfolding closes
ended agent now r e =
    let reserved = (closes_reservation agent now r).rec in
    let x = (closes_provision agent Side.Aggregator now reserved).rec in
    lives_done x.lsm now x (provisioned_lsm (provision_closing reserved.psm (plain agent ErrorName.Gone)) now reserved ∙ (reserved_lsm (reservation_closing r.rsm (plain agent ErrorName.Gone)) now r ∙ e))

settled_ended : (lsm : Lsm) (own : Record) (children : List ChildConnection) → lsm ≡ Lsm.Terminated → IsSettledIn lsm own children
unfolding IsSettledIn
settled_ended lsm own children e = rw e refl

settled_waiting : (lsm : Lsm) (own : Record) (children : List ChildConnection) → lsm ≡ Lsm.Terminating → list_any is_there children ≡ true → IsSettledIn lsm own children
unfolding IsSettledIn
settled_waiting lsm own children e h = rw e h

settled_live : (lsm : Lsm) (own : Record) (children : List ChildConnection) → is_live lsm ≡ true → AreAtRest own children → IsSettledIn lsm own children
unfolding IsSettledIn is_live
settled_live Lsm.Created own children l h = h
settled_live Lsm.Failed own children l h = h
settled_live Lsm.PassedEndTime own children l h = h
settled_live Lsm.Terminating own children l h = absurd (cc)
settled_live Lsm.Terminated own children l h = absurd (cc)

rests_live : (lsm : Lsm) (own : Record) (children : List ChildConnection) → is_live lsm ≡ true → IsSettledIn lsm own children → AreAtRest own children
unfolding IsSettledIn is_live
rests_live Lsm.Created own children l h = h
rests_live Lsm.Failed own children l h = h
rests_live Lsm.PassedEndTime own children l h = h
rests_live Lsm.Terminating own children l h = absurd (cc)
rests_live Lsm.Terminated own children l h = absurd (cc)

closed_then : (there : Bool) (agent : Agent) (now : ℕ) (children : List ChildConnection) (own : Record) → own.lsm ≡ Lsm.Terminating → list_any is_there children ≡ there →
    let x = (closes_unless there agent now own).rec in
    IsSettledIn x.lsm x children
unfolding closes_unless
closed_then true agent now children own e f = settled_waiting own.lsm own children e f
closed_then false agent now children own e f = let x = (closes agent.name Side.Aggregator now own).rec in settled_ended x.lsm x children (ended agent.name now own e)

-- a notice more is nothing to it
pub noted_settled : (lsm : Lsm) (own : Record) (notices : List Notice) (children : List ChildConnection) → IsSettledIn lsm own children → IsSettledIn lsm (record own { notices = notices }) children
unfolding IsSettledIn
noted_settled Lsm.Terminating own notices children h = h
noted_settled Lsm.Terminated own notices children h = refl
noted_settled Lsm.Created own notices children h = record { reservation = h.reservation; provision = h.provision }
noted_settled Lsm.Failed own notices children h = record { reservation = h.reservation; provision = h.provision }
noted_settled Lsm.PassedEndTime own notices children h = record { reservation = h.reservation; provision = h.provision }

told_settled : (told : Bool) (p : Plane) (c now : ℕ) (own : Record) (children : List ChildConnection) → IsSettledIn own.lsm own children → let x = (tells_plane told p c now own).rec in IsSettledIn x.lsm x children
unfolding tells_plane
told_settled true p c now own children h = noted_settled own.lsm own (noted Kind.DataPlaneStateChange c now own.notices) children h
told_settled false p c now own children h = h

settled_both : (lsm : Lsm) (agent : Agent) (now : ℕ) (children : List ChildConnection) (own : Record) → is_live lsm ≡ true → own.lsm ≡ lsm → let x = both agent now children own in IsSettledIn x.lsm x children
settled_both lsm agent now children own l e =
    let x = both agent now children own in
    settled_live x.lsm x children (ap is_live (both_lsm agent now children own ∙ e) ∙ l) (both_rest agent now children own)

pub settled_then : (lsm : Lsm) (agent : Agent) (now : ℕ) (children : List ChildConnection) (own : Record) → own.lsm ≡ lsm →
    let x = (settles lsm agent now children own).rec in
    IsSettledIn x.lsm x children
unfolding settles is_live
settled_then Lsm.Terminating agent now children own e = closed_then (list_any is_there children) agent now children own e refl
settled_then Lsm.Terminated agent now children own e = settled_ended own.lsm own children e
settled_then Lsm.Created agent now children own e = settled_both Lsm.Created agent now children own refl e
settled_then Lsm.Failed agent now children own e = settled_both Lsm.Failed agent now children own refl e
settled_then Lsm.PassedEndTime agent now children own e = settled_both Lsm.PassedEndTime agent now children own refl e

pub settled_turn : (before : Plane) (agent : Agent) (now : ℕ) (t : Turn) → let x = tell_joined before agent now (settle agent now t) in IsSettledIn x.own.lsm x.own x.children
unfolding tell_joined settle
settled_turn before agent now t =
    let own = (settles t.own.lsm agent now t.children t.own).rec in
    told_settled (announces before (joined_of t.children)) (joined_of t.children) (id_of agent.number (settle agent now t).next) now own t.children (settled_then t.own.lsm agent now t.children t.own refl)

---- A tick

over_live : (k : Lsm) (now : ℕ) (r : Record) → is_live k ≡ true → r.lsm ≡ k → is_live (lives k LifecycleMove.EndTime now r).rec.lsm ≡ true
unfolding lives lifecycle_step lifecycle_event is_live
over_live k now r l e = grind arith

over_same : (k : Lsm) (now : ℕ) (r : Record) → IsReservationSame r (lives k LifecycleMove.EndTime now r).rec
over_same k now r = lives_core k LifecycleMove.EndTime now r

over_psm : (k : Lsm) (now : ℕ) (r : Record) → (lives k LifecycleMove.EndTime now r).rec.psm ≡ r.psm
unfolding lives lifecycle_step lifecycle_event
over_psm k now r = grind arith

moved_rest : (r q : Record) (children : List ChildConnection) → q.rsm ≡ r.rsm → q.pending ≡ r.pending → q.psm ≡ r.psm → AreAtRest r children → AreAtRest q children
moved_rest r q children e f g h = record {
  reservation = λ a. ap (λ k. rests (reservation_due (is_quiet Kind.Reserve children) k a children) q.pending) e ∙ (ap (λ p. rests (reservation_due (is_quiet Kind.Reserve children) r.rsm a children) p) f ∙ h.reservation a);
  provision = λ a. ap (λ k. provision_due (is_quiet Kind.Provision children) k a children) g ∙ h.provision a;
}

over_settled : (move : Option LifecycleMove) (now : ℕ) (own : Record) (children : List ChildConnection) → (move ≡ None) ⊎ (move ≡ Some LifecycleMove.EndTime) → is_live own.lsm ≡ true → IsSettledIn own.lsm own children →
    let x = (lives_if move now own).rec in
    IsSettledIn x.lsm x children
over_settled move now own children (inl e) l h = subst (λ m. let x = (lives_if m now own).rec in IsSettledIn x.lsm x children) (sym e) h
over_settled move now own children (inr e) l h =
    let x = (lives own.lsm LifecycleMove.EndTime now own).rec in
    let same = over_same own.lsm now own in
    subst (λ m. let y = (lives_if m now own).rec in IsSettledIn y.lsm y children) (sym e)
    (settled_live x.lsm x children (over_live own.lsm now own l refl) (moved_rest own x children same.rsm same.pending (over_psm own.lsm now own) (rests_live own.lsm own children l h)))

pub over_or_not : (c : Option Criteria) (now : ℕ) → (schedule_end c now ≡ None) ⊎ (schedule_end c now ≡ Some LifecycleMove.EndTime)
over_or_not c now = by_due (is_due (end_of c) now)
  where
    by_due : (b : Bool) → ((if b then Some LifecycleMove.EndTime else None) ≡ None) ⊎ ((if b then Some LifecycleMove.EndTime else None) ≡ Some LifecycleMove.EndTime)
    by_due true = inr refl
    by_due false = inl refl

pub settled_ends : (live : Bool) (now : ℕ) (own : Record) (children : List ChildConnection) → is_live own.lsm ≡ live → IsSettledIn own.lsm own children → let x = (ends live now own).rec in IsSettledIn x.lsm x children
unfolding ends
settled_ends true now own children l h = over_settled (schedule_end (last own.committed) now) now own children (over_or_not (last own.committed) now) l h
settled_ends false now own children l h = h
