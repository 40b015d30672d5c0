-- What an aggregator does to its own records by itself.
use Rattle.std.proofs.Common.{ℕ, ◌≡◌, ◌≤◌, ◌+◌, Bool, true, false, List, [], ◌∷◌, ◌++◌, Option, Some, None, find, refl, ◌∙◌, subst, arith, ◌==◌, if◌then◌else◌, length, take}
use Rattle.std.proofs.Math.Seq.{take-append_seam}
use Rattle.std.proofs.lemmas.List.{take_all}
use Rattle.nsi_primitive.specs.Messages.{named_connection}
use Rattle.nsi_primitive.specs.declared.kind.Kind.{Kind}
use Rattle.nsi_primitive.specs.declared.message.Body.{Body}
use Rattle.nsi_primitive.specs.declared.message.Criteria.{Criteria}
use Rattle.nsi_primitive.specs.declared.plane.Plane.{Plane}
use Rattle.nsi_primitive.specs.declared.state.Lsm.{Lsm}
use Rattle.nsi_primitive.specs.declared.state.Psm.{Psm}
use Rattle.nsi_primitive.specs.declared.state.Rsm.{Rsm}
use Rattle.nsi_primitive.specs.declared.state.Side.{Side}
use Rattle.child_connection.specs.Views.{ChildConnection}
use Rattle.connection_record.specs.declared.record.Record.{Record}
use Rattle.connection_record.specs.declared.life.LifecycleMove.{LifecycleMove}
use Rattle.connection_record.specs.Applied.{tells_plane, schedule_end, end_of}
use Rattle.connection_record.specs.Courses.{IsOwn, IsOwnProvision, IsReservationSame, answering, IsAct, Course}
use Rattle.connection_record.specs.Demand.{last}
use Rattle.connection_record.specs.Later.{IsLater}
use Rattle.connection_record.specs.Lives.{lives, lives_if}
use Rattle.connection_record.specs.Moves.{reserves_if, is_due}
use Rattle.connection_record.specs.Order.{IsInOrder}
use Rattle.connection_record.specs.Replies.{Moved, then_moves}
use Rattle.connection_record.specs.Speaking.{one, tally, is_asking, is_noting, is_answering, answers_as, notes_as, asks_for, owed, owed_reserve, owed_provision, owed_life, lifecycle_begins, lifecycle_draws, drawn_if, Speaks, Names}
use Rattle.connection_record.proofs.Acts.{Besides, besides_acts, lives_besides, plane_besides}
use Rattle.connection_record.proofs.Courses.{merges_append}
use Rattle.connection_record.proofs.Doing.{reservation_is_act, provision_is_act, close_is_act}
use Rattle.connection_record.proofs.Growing.{lives_later, tells_plane_later}
use Rattle.connection_record.proofs.InOrder.{lives_in_order}
use Rattle.connection_record.proofs.Naming.{lives_names, plane_names}
use Rattle.connection_record.proofs.Saying.{lives_speaks, plane_speaks}
use Rattle.aggregator_agent.specs.declared.agent.Agent.{Agent}
use Rattle.aggregator_agent.specs.Clock.{tells_late, ends}
use Rattle.aggregator_agent.specs.Settling.{is_quiet, is_there, checked, fit_or_lack, done_or_mixed, done_or_spoiled, is_lacking, has_error, has_provision_error, reservation_verdict, reservation_due, provision_verdict, provision_due, settles_reservation, settles_provision, closes_unless, settles}
use Rattle.aggregator_agent.specs.Turns.{hold_end_by, force_by}
use Rattle.std.specs.List.{list_any}

---- The verdicts begin nothing

fit_own : (agent : List ℕ) (o : Option ChildConnection) → IsOwn (Some (fit_or_lack agent o))
fit_own agent None = refl
fit_own agent (Some x) = refl

checked_own : (agent : List ℕ) (xs : List ChildConnection) → IsOwn (Some (checked agent xs))
unfolding checked
checked_own agent [] = refl
checked_own agent (x ∷ xs) = fit_own agent (find is_lacking (x ∷ xs))

mixed_own : (agent : List ℕ) (o : Option ChildConnection) → IsOwn (Some (done_or_mixed agent o))
mixed_own agent None = refl
mixed_own agent (Some x) = refl

pub reservation_own : (b : Bool) (k : Rsm) (agent : List ℕ) (xs : List ChildConnection) → IsOwn (reservation_due b k agent xs)
unfolding reservation_due reservation_verdict
reservation_own false k agent xs = tt
reservation_own true Rsm.ReserveChecking agent xs = checked_own agent xs
reservation_own true Rsm.ReserveCommitting agent xs = mixed_own agent (find has_error xs)
reservation_own true Rsm.ReserveAborting agent xs = refl
reservation_own true _ agent xs = tt

spoiled_own : (agent : List ℕ) (o : Option ChildConnection) → IsOwnProvision (Some (done_or_spoiled agent o))
spoiled_own agent None = refl
spoiled_own agent (Some x) = refl

provision_own : (b : Bool) (k : Psm) (agent : List ℕ) (xs : List ChildConnection) → IsOwnProvision (provision_due b k agent xs)
unfolding provision_due provision_verdict
provision_own false k agent xs = tt
provision_own true Psm.Provisioning agent xs = spoiled_own agent (find has_provision_error xs)
provision_own true Psm.Releasing agent xs = spoiled_own agent (find has_provision_error xs)
provision_own true _ agent xs = tt

---- What is done as the children stand

both_course : (agent : Agent) (now : ℕ) (xs : List ChildConnection) (own : Record) → (let x : Moved = then_moves (settles_reservation agent now xs own) (λ y. settles_provision agent now xs y) in Course own x.rec x.out)
unfolding settles_reservation settles_provision
both_course agent now xs own =
    let x : Moved = settles_reservation agent now xs own in
    let y : Moved = settles_provision agent now xs x.rec in
    Course.goes_on own x.rec y.rec x.out y.out (x.out ++ y.out)
    (Course.does own x (reservation_is_act (reservation_due (is_quiet Kind.Reserve xs) own.rsm agent.name xs) now own (reservation_own (is_quiet Kind.Reserve xs) own.rsm agent.name xs)))
    (Course.does x.rec y (provision_is_act Side.Aggregator (provision_due (is_quiet Kind.Provision xs) x.rec.psm agent.name xs) now x.rec (provision_own (is_quiet Kind.Provision xs) x.rec.psm agent.name xs)))
    (merges_append x.out y.out)

closed_course : (b : Bool) (agent : Agent) (now : ℕ) (own : Record) → Course own (closes_unless b agent now own).rec (closes_unless b agent now own).out
unfolding closes_unless
closed_course true agent now own = Course.rests own
closed_course false agent now own = Course.does own _ (close_is_act agent.name Side.Aggregator now own)

pub settles_course : (k : Lsm) (agent : Agent) (now : ℕ) (xs : List ChildConnection) (own : Record) → Course own (settles k agent now xs own).rec (settles k agent now xs own).out
unfolding settles
settles_course Lsm.Terminating agent now xs own = closed_course (list_any is_there xs) agent now own
settles_course Lsm.Terminated agent now xs own = Course.rests own
settles_course Lsm.Created agent now xs own = both_course agent now xs own
settles_course Lsm.Failed agent now xs own = both_course agent now xs own
settles_course Lsm.PassedEndTime agent now xs own = both_course agent now xs own

---- A hold or a life ends

pub hold_end_own : (b : Bool) (body : Body) → IsOwn (hold_end_by b body)
unfolding hold_end_by
hold_end_own true (Body.ReserveTimeout t) = refl
hold_end_own true _ = tt
hold_end_own false body = tt

pub hold_course : (b : Bool) (body : Body) (now : ℕ) (own : Record) → Course own (reserves_if (hold_end_by b body) now own).rec (reserves_if (hold_end_by b body) now own).out
hold_course b body now own = Course.does own _ (reservation_is_act (hold_end_by b body) now own (hold_end_own b body))

pub life_is_act : (move : LifecycleMove) (now : ℕ) (r : Record) → lifecycle_begins move ≡ None → IsAct r (lives r.lsm move now r)
life_is_act move now r e =
    record {
      drawn = lifecycle_draws move;
      acts = besides_acts r (lives r.lsm move now r) (lives_besides move now r e);
      speaks = subst (λ o. Speaks o (lifecycle_draws move) r (lives r.lsm move now r)) e (lives_speaks move now r);
      names = lives_names move now r;
      later = lives_later r.lsm move now r;
      order = λ h. lives_in_order r.lsm move now r refl h;
    }

pub IsOwnLife : Option LifecycleMove → Type 0
IsOwnLife None = Unit {0}
IsOwnLife (Some move) = lifecycle_begins move ≡ None

pub life_if_course : (o : Option LifecycleMove) (now : ℕ) (r : Record) → IsOwnLife o → Course r (lives_if o now r).rec (lives_if o now r).out
unfolding IsOwnLife
life_if_course None now r h = Course.rests r
life_if_course (Some move) now r h = Course.does r _ (life_is_act move now r h)

force_own : (b : Bool) (c : ℕ) (body : Body) → IsOwnLife (force_by b c body)
unfolding force_by IsOwnLife
force_own true c (Body.ErrorEvent f) = refl
force_own true c _ = tt
force_own false c body = tt

pub force_course : (b : Bool) (c : ℕ) (body : Body) (now : ℕ) (own : Record) → Course own (lives_if (force_by b c body) now own).rec (lives_if (force_by b c body) now own).out
force_course b c body now own = life_if_course (force_by b c body) now own (force_own b c body)

end_own : (c : Option Criteria) (now : ℕ) → IsOwnLife (schedule_end c now)
unfolding IsOwnLife
end_own c now = by_due (is_due (end_of c) now)
  where
    by_due : (due : Bool) → IsOwnLife (if due then Some LifecycleMove.EndTime else None)
    by_due true = refl
    by_due false = tt

pub ends_course : (live : Bool) (now : ℕ) (r : Record) → Course r (ends live now r).rec (ends live now r).out
unfolding ends
ends_course false now r = Course.rests r
ends_course true now r = life_if_course (schedule_end (last r.committed) now) now r (end_own (last r.committed) now)

---- Notices

plane_in_order : (told : Bool) (p : Plane) (c now : ℕ) (r : Record) → IsInOrder r → IsInOrder (tells_plane told p c now r).rec
unfolding tells_plane
plane_in_order true p c now r h = record { reserve_request = h.reserve_request; provision_request = h.provision_request; lifecycle_request = h.lifecycle_request; pending = h.pending; attempt = h.attempt }
plane_in_order false p c now r h = h

pub plane_course : (told : Bool) (p : Plane) (c now : ℕ) (r : Record) → Course r (tells_plane told p c now r).rec (tells_plane told p c now r).out
plane_course told p c now r =
    Course.does r (tells_plane told p c now r)
    (record {
      drawn = drawn_if told c;
      acts = besides_acts r (tells_plane told p c now r) (plane_besides told p c now r);
      speaks = plane_speaks told p c now r;
      names = plane_names told p c now r;
      later = tells_plane_later told p c now r;
      order = λ h. plane_in_order told p c now r h;
    })

late_same : (delivery c now : ℕ) (r : Record) → IsReservationSame r (tells_late delivery c now r).rec
unfolding tells_late
late_same delivery c now r = record { rsm = refl; request = refl; attempt = refl; pending = refl; committed = refl }

late_silent : (delivery d now : ℕ) (r : Record) (c : ℕ) → answering c (tells_late delivery d now r).out ≡ []
unfolding tells_late answering is_answering is_asking is_noting
late_silent delivery d now r c = grind arith

late_owes : (delivery d now : ℕ) (r : Record) (c n : ℕ) →
    (owed_provision (tells_late delivery d now r).rec.psm c n (tells_late delivery d now r).rec ≡ owed_provision r.psm c n r) ×
    (owed_life (tells_late delivery d now r).rec.lsm c n (tells_late delivery d now r).rec ≡ owed_life r.lsm c n r)
unfolding tells_late owed_provision owed_life
late_owes delivery d now r c n = grind arith

late_besides : (delivery d now : ℕ) (r : Record) → Besides r (tells_late delivery d now r)
late_besides delivery d now r =
    record {
      same = late_same delivery d now r;
      says = λ c a. late_silent delivery d now r c;
      alone = λ c a. record { provision = λ n. (late_owes delivery d now r c n).0 ∙ a.provision n; life = λ n. (late_owes delivery d now r c n).1 ∙ a.life n };
    }

late_answers : (delivery d now : ℕ) (r : Record) (c n : ℕ) → tally (answers_as c n) (tells_late delivery d now r).out + owed c n (tells_late delivery d now r).rec ≤ owed c n r + 0
unfolding tells_late tally is_answering is_asking is_noting owed owed_reserve owed_provision owed_life
late_answers delivery d now r c n = grind arith

late_notes : (delivery d now : ℕ) (r : Record) (c : ℕ) → tally (notes_as c) (tells_late delivery d now r).out ≤ one (c == d)
unfolding tells_late tally is_noting
late_notes delivery d now r c = grind arith

late_asks : (delivery d now : ℕ) (r : Record) → tally asks_for (tells_late delivery d now r).out ≡ 0
unfolding tells_late tally is_asking
late_asks delivery d now r = grind arith

late_owner : (delivery d now : ℕ) (r : Record) → (tells_late delivery d now r).rec.owner ≡ r.owner
unfolding tells_late
late_owner delivery d now r = refl

late_speaks : (delivery d now : ℕ) (r : Record) → Speaks None (λ c. one (c == d)) r (tells_late delivery d now r)
late_speaks delivery d now r =
    record { owner = late_owner delivery d now r; answers = λ c n. late_answers delivery d now r c n; notes = λ c. late_notes delivery d now r c; asks = late_asks delivery d now r }

late_names : (delivery d now : ℕ) (r : Record) → Names r (tells_late delivery d now r)
unfolding tells_late tally named_connection
late_names delivery d now r = record { id = refl; names = let e : (r.id == r.id) ≡ true = grind arith in grind (arith, e) }

take_self : {X : Type 0} (xs : List X) → take (length xs) xs ≡ xs
take_self xs = take_all (length xs) xs (omega arith)

late_later : (delivery d now : ℕ) (r : Record) → IsLater r (tells_late delivery d now r).rec
unfolding tells_late
late_later delivery d now r = grind (arith, take-append_seam, take_self)

late_in_order : (delivery d now : ℕ) (r : Record) → IsInOrder r → IsInOrder (tells_late delivery d now r).rec
unfolding tells_late
late_in_order delivery d now r h =
    record { reserve_request = h.reserve_request; provision_request = h.provision_request; lifecycle_request = h.lifecycle_request; pending = h.pending; attempt = h.attempt }

pub late_course : (delivery d now : ℕ) (r : Record) → Course r (tells_late delivery d now r).rec (tells_late delivery d now r).out
late_course delivery d now r =
    Course.does r (tells_late delivery d now r)
    (record {
      drawn = λ c. one (c == d);
      acts = besides_acts r (tells_late delivery d now r) (late_besides delivery d now r);
      speaks = late_speaks delivery d now r;
      names = late_names delivery d now r;
      later = late_later delivery d now r;
      order = λ h. late_in_order delivery d now r h;
    })
