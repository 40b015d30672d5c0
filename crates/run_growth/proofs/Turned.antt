-- What a turn of an aggregator's connection leaves: its record and the views of its children, in later forms.
use Rattle.std.proofs.Common.{ℕ, ◌≡◌, Bool, true, false, List, [], ◌∷◌, Option, Some, None, IfSome, ◌&&◌, refl, arith}
use Rattle.std.specs.List.{find, list_any}
use Rattle.nsi_primitive.specs.Ids.{id_of}
use Rattle.nsi_primitive.specs.Messages.{kind_of}
use Rattle.nsi_primitive.specs.declared.kind.Kind.{Kind}
use Rattle.nsi_primitive.specs.declared.plane.Plane.{Plane}
use Rattle.nsi_primitive.specs.declared.state.Lsm.{Lsm}
use Rattle.nsi_primitive.specs.declared.state.Rsm.{Rsm}
use Rattle.nsi_primitive.specs.declared.state.Side.{Side}
use Rattle.nsi_primitive.specs.declared.message.Body.{Body}
use Rattle.nsi_primitive.specs.declared.message.Message.{Message}
use Rattle.dataplane_state.specs.Plane.{announces}
use Rattle.connection_record.specs.declared.record.Record.{Record}
use Rattle.connection_record.specs.Applied.{is_terminating, requested}
use Rattle.connection_record.specs.Courses.{IsOwn, Rises}
use Rattle.connection_record.specs.Later.{IsLater}
use Rattle.connection_record.specs.Moves.{is_live}
use Rattle.connection_record.proofs.Growing.{later_trans, moves_if_later}
use Rattle.child_connection.specs.Hearing.{hear}
use Rattle.child_connection.specs.Views.{ChildConnection}
use Rattle.provider_agent.proofs.GoodMoves.{IsFitting}
use Rattle.aggregator_agent.specs.declared.agent.Agent.{Agent}
use Rattle.aggregator_agent.specs.Asking.{Turn, Asked, Asking, begin, replies_by, asked_view, each, asks_by, passed_on, pass_one, pass_each}
use Rattle.aggregator_agent.specs.Settling.{checked, fit_or_lack, done_or_mixed, is_lacking, has_error, reservation_verdict, reservation_due, is_quiet, provision_due, settles_reservation, settles_provision, is_there, closes_unless, settles, settle}
use Rattle.aggregator_agent.specs.Turns.{joined_of, tell_joined, pass_on, takes, turn_by_request, request_turn, loses, breaks, late_terminate, hear_one, hear_each, hold_end_by, force_by, hold_ends, force_ends, heard_by, turn_by_answer, answer_turn}
use Rattle.run_growth.specs.Growth.{IsLaterView}
use Rattle.run_growth.proofs.Staying.{stay_none, stay_more}
use Rattle.run_growth.proofs.Views.{ViewsStay, view_same, view_then, view_asked, view_heard, views_same, views_then}
use Rattle.run_growth.proofs.Records.{IsGrown, grown_same, grown_then, grown_reservation, grown_provision, grown_life, grown_close, grown_plane, fitting_rises}

---- The children

asked_later : (o : Option Body) (k : Kind) (c : ℕ) (x : ChildConnection) → IsLaterView x (asked_view o k c x)
unfolding asked_view
asked_later None k c x = view_same x
asked_later (Some body) k c x = view_asked k c x

each_stays : (does : ℕ → ChildConnection → Asked) → ((n : ℕ) (x : ChildConnection) → IsLaterView x (does n x).child) → (next : ℕ) (xs : List ChildConnection) → ViewsStay xs (each does next xs).children
unfolding each
each_stays does one next [] = stay_none IsLaterView []
each_stays does one next (x ∷ xs) = stay_more IsLaterView x (does next x).child xs (each does (does next x).next xs).children (one next x) (each_stays does one (does next x).next xs)

pass_stays : (m : Message) (agent : Agent) (own : Record) (next : ℕ) (xs : List ChildConnection) → ViewsStay xs (pass_each m agent own next xs).children
pass_stays m agent own next xs = each_stays (λ n x. pass_one m agent own n x) (λ n x. asked_later (passed_on m.body own x) (kind_of m.body) (id_of agent.number n) x) next xs

hear_later : (is_ending : Bool) (m : Message) (agent : Agent) (n : ℕ) (x : ChildConnection) → IsLaterView x (hear_one is_ending m agent n x).child
hear_later is_ending m agent n x =
    view_then x (hear m x).view (hear_one is_ending m agent n x).child (view_heard m x) (asked_later (late_terminate is_ending m x) Kind.Terminate (id_of agent.number n) (hear m x).view)

heard_stays : (is_ending : Bool) (m : Message) (agent : Agent) (next : ℕ) (xs : List ChildConnection) → ViewsStay xs (hear_each is_ending m agent next xs).children
heard_stays is_ending m agent next xs = each_stays (λ n x. hear_one is_ending m agent n x) (λ n x. hear_later is_ending m agent n x) next xs

---- What is due

checked_own : (agent : List ℕ) (xs : List ChildConnection) → IsOwn (Some (checked agent xs))
unfolding checked
checked_own agent [] = refl
checked_own agent (x ∷ xs) = by_found (find is_lacking (x ∷ xs))
  where
    by_found : (o : Option ChildConnection) → IsOwn (Some (fit_or_lack agent o))
    by_found None = refl
    by_found (Some y) = refl

mixed_own : (agent : List ℕ) (o : Option ChildConnection) → IsOwn (Some (done_or_mixed agent o))
mixed_own agent None = refl
mixed_own agent (Some x) = refl

verdict_own : (state : Rsm) (agent : List ℕ) (xs : List ChildConnection) → IsOwn (reservation_verdict state agent xs)
unfolding reservation_verdict
verdict_own Rsm.ReserveChecking agent xs = checked_own agent xs
verdict_own Rsm.ReserveCommitting agent xs = mixed_own agent (find has_error xs)
verdict_own Rsm.ReserveAborting agent xs = refl
verdict_own Rsm.ReserveStart agent xs = tt
verdict_own Rsm.ReserveHeld agent xs = tt
verdict_own Rsm.ReserveFailed agent xs = tt
verdict_own Rsm.ReserveTimeout agent xs = tt

due_own : (b : Bool) (state : Rsm) (agent : List ℕ) (xs : List ChildConnection) → IsOwn (reservation_due b state agent xs)
unfolding reservation_due
due_own true state agent xs = verdict_own state agent xs
due_own false state agent xs = tt

settled_reservation : (agent : Agent) (now : ℕ) (xs : List ChildConnection) (own : Record) → IsGrown own (settles_reservation agent now xs own).rec
unfolding settles_reservation
settled_reservation agent now xs own =
    grown_reservation (reservation_due (is_quiet Kind.Reserve xs) own.rsm agent.name xs) now own (due_own (is_quiet Kind.Reserve xs) own.rsm agent.name xs)

settled_provision : (agent : Agent) (now : ℕ) (xs : List ChildConnection) (own : Record) → IsGrown own (settles_provision agent now xs own).rec
unfolding settles_provision
settled_provision agent now xs own = grown_provision Side.Aggregator (provision_due (is_quiet Kind.Provision xs) own.psm agent.name xs) now own

settled_both : (agent : Agent) (now : ℕ) (xs : List ChildConnection) (own : Record) → IsGrown own (settles_provision agent now xs (settles_reservation agent now xs own).rec).rec
settled_both agent now xs own =
    let q : Record = (settles_reservation agent now xs own).rec in
    grown_then own q (settles_provision agent now xs q).rec (settled_reservation agent now xs own) (settled_provision agent now xs q)

closed_unless : (b : Bool) (agent : Agent) (now : ℕ) (own : Record) → IsGrown own (closes_unless b agent now own).rec
unfolding closes_unless
closed_unless true agent now own = grown_same own
closed_unless false agent now own = grown_close agent.name Side.Aggregator now own

settled : (state : Lsm) (agent : Agent) (now : ℕ) (xs : List ChildConnection) (own : Record) → IsGrown own (settles state agent now xs own).rec
unfolding settles
settled Lsm.Terminating agent now xs own = closed_unless (list_any is_there xs) agent now own
settled Lsm.Terminated agent now xs own = grown_same own
settled Lsm.Created agent now xs own = settled_both agent now xs own
settled Lsm.Failed agent now xs own = settled_both agent now xs own
settled Lsm.PassedEndTime agent now xs own = settled_both agent now xs own

ending_own : (b : Bool) (body : Body) → IsOwn (hold_end_by b body)
unfolding hold_end_by
ending_own b body = grind arith

---- Turns

-- a turn that goes on from a record and views
pub record IsTurned (r : Record) (xs : List ChildConnection) (t : Turn) : Type 0 where
  pub own : IsGrown r t.own
  pub children : ViewsStay xs t.children

begun : (r : Record) (xs : List ChildConnection) (next : ℕ) → IsTurned r xs (begin r xs next)
begun r xs next = record { own = grown_same r; children = views_same xs }

own_turned : (r : Record) (xs : List ChildConnection) (t u : Turn) → u.children ≡ t.children → IsGrown t.own u.own → IsTurned r xs t → IsTurned r xs u
own_turned r xs t u same g h = record { own = grown_then r t.own u.own h.own g; children = rw same h.children }

asks_turned : (r : Record) (xs : List ChildConnection) (t : Turn) (a : Asking) → ViewsStay t.children a.children → IsTurned r xs t → IsTurned r xs (asks_by t a)
asks_turned r xs t a s h = record { own = h.own; children = views_then xs t.children a.children h.children s }

settle_turned : (agent : Agent) (now : ℕ) (r : Record) (xs : List ChildConnection) (t : Turn) → IsTurned r xs t → IsTurned r xs (settle agent now t)
unfolding settle
settle_turned agent now r xs t h = own_turned r xs t (replies_by t (settles t.own.lsm agent now t.children t.own)) refl (settled t.own.lsm agent now t.children t.own) h

tell_turned : (before : Plane) (agent : Agent) (now : ℕ) (r : Record) (xs : List ChildConnection) (t : Turn) → IsTurned r xs t → IsTurned r xs (tell_joined before agent now t)
unfolding tell_joined
tell_turned before agent now r xs t h =
    own_turned r xs t (tell_joined before agent now t) refl (grown_plane (announces before (joined_of t.children)) (joined_of t.children) (id_of agent.number t.next) now t.own) h

pass_turned : (m : Message) (agent : Agent) (r : Record) (xs : List ChildConnection) (t : Turn) → IsTurned r xs t → IsTurned r xs (pass_on m agent t)
unfolding pass_on
pass_turned m agent r xs t h = asks_turned r xs t (pass_each m agent t.own t.next t.children) (pass_stays m agent t.own t.next t.children) h

heard_turned : (m : Message) (agent : Agent) (r : Record) (xs : List ChildConnection) (t : Turn) → IsTurned r xs t → IsTurned r xs (heard_by m agent t)
unfolding heard_by
heard_turned m agent r xs t h = asks_turned r xs t (hear_each (is_terminating t.own.lsm) m agent t.next t.children) (heard_stays (is_terminating t.own.lsm) m agent t.next t.children) h

hold_turned : (b : Bool) (m : Message) (now : ℕ) (r : Record) (xs : List ChildConnection) (t : Turn) → IsTurned r xs t → IsTurned r xs (hold_ends b m now t)
unfolding hold_ends
hold_turned b m now r xs t h =
    own_turned r xs t (hold_ends b m now t) refl (grown_reservation (hold_end_by (b && is_live t.own.lsm) m.body) now t.own (ending_own (b && is_live t.own.lsm) m.body)) h

force_turned : (b : Bool) (m : Message) (agent : Agent) (now : ℕ) (r : Record) (xs : List ChildConnection) (t : Turn) → IsTurned r xs t → IsTurned r xs (force_ends b m agent now t)
unfolding force_ends
force_turned b m agent now r xs t h = own_turned r xs t (force_ends b m agent now t) refl (grown_life (force_by b (id_of agent.number t.next) m.body) now t.own) h

-- a message of a child
pub answer_turned : (agent : Agent) (now : ℕ) (m : Message) (r : Record) (xs : List ChildConnection) (next : ℕ) → IsTurned r xs (answer_turn agent now m r xs next)
unfolding answer_turn turn_by_answer
answer_turned agent now m r xs next =
    let heard = heard_turned m agent r xs (begin r xs next) (begun r xs next) in
    let held = hold_turned (list_any (loses m) xs) m now r xs _ heard in
    tell_turned (joined_of xs) agent now r xs _ (settle_turned agent now r xs _ (force_turned (list_any (breaks m) xs) m agent now r xs _ held))

---- A request

taken_later : (m : Message) (now : ℕ) (r : Record) → IsLater r (takes m now r).rec
unfolding takes
taken_later m now r = moves_if_later Side.Aggregator (requested now m.body m.header.correlation r) now r

taken_rises : (m : Message) (now : ℕ) (r : Record) → IfSome (requested now m.body m.header.correlation r) (λ move. IsFitting move r) → Rises r → Rises (takes m now r).rec
unfolding takes
taken_rises m now r f h = fitting_rises Side.Aggregator (requested now m.body m.header.correlation r) now r f h

-- from the record that has taken the request
taken_turned : (agent : Agent) (now : ℕ) (m : Message) (r : Record) (xs : List ChildConnection) (next : ℕ) → IsTurned (takes m now r).rec xs (request_turn agent now m r xs next)
unfolding request_turn turn_by_request
taken_turned agent now m r xs next =
    let q : Record = (takes m now r).rec in
    let t : Turn = replies_by (begin r xs next) (takes m now r) in
    let taken : IsTurned q xs t = record { own = grown_same q; children = views_same xs } in
    tell_turned (joined_of xs) agent now q xs _ (settle_turned agent now q xs _ (pass_turned m agent q xs t taken))

pub request_later : (agent : Agent) (now : ℕ) (m : Message) (r : Record) (xs : List ChildConnection) (next : ℕ) → IsLater r (request_turn agent now m r xs next).own
request_later agent now m r xs next = later_trans r (takes m now r).rec (request_turn agent now m r xs next).own (taken_later m now r) (taken_turned agent now m r xs next).own.later

pub request_stays : (agent : Agent) (now : ℕ) (m : Message) (r : Record) (xs : List ChildConnection) (next : ℕ) → ViewsStay xs (request_turn agent now m r xs next).children
request_stays agent now m r xs next = (taken_turned agent now m r xs next).children

pub request_rises : (agent : Agent) (now : ℕ) (m : Message) (r : Record) (xs : List ChildConnection) (next : ℕ) → IfSome (requested now m.body m.header.correlation r) (λ move. IsFitting move r) → Rises r →
    Rises (request_turn agent now m r xs next).own
request_rises agent now m r xs next f h = (taken_turned agent now m r xs next).own.rises (taken_rises m now r f h)
