-- The indexes go on to name the records.
use Rattle.std.proofs.Common.{◌≡◌, ◌≢◌, ◌↔◌, ◌<◌, ◌⊎◌, inl, inr, ℕ, true, false, cond, Option, Some, None, IfSome, List, [], ◌∷◌, ◌++◌, length, set, refl, sym, ap, subst, ◌∙◌, arith, Contains}
use Rattle.std.proofs.lemmas.Bool.{false≢true}
use Rattle.std.proofs.lemmas.List.{length-set, length_push, get_or_append_left, get_or_push, append-nil}
use Rattle.nsi_primitive.specs.declared.message.Body.{Body}
use Rattle.nsi_primitive.specs.declared.message.Criteria.{Criteria}
use Rattle.nsi_primitive.specs.declared.plane.Plane.{Plane}
use Rattle.nsi_primitive.specs.declared.state.Lsm.{Lsm}
use Rattle.nsi_primitive.specs.declared.state.Machine.{Machine}
use Rattle.nsi_primitive.specs.declared.state.Psm.{Psm}
use Rattle.nsi_primitive.specs.declared.state.Rsm.{Rsm}
use Rattle.nsi_primitive.specs.declared.state.Side.{Side}
use Rattle.record_index.specs.declared.deadlines.Deadline.{Deadline}
use Rattle.reserve_machine.specs.Table.{step as reserve_step}
use Rattle.provision_machine.specs.Table.{step as provision_step}
use Rattle.lifecycle_machine.specs.Table.{step as lifecycle_step}
use Rattle.connection_record.specs.declared.record.Record.{Record}
use Rattle.connection_record.specs.declared.life.LifecycleMove.{LifecycleMove}
use Rattle.connection_record.specs.declared.moves.ReservationMove.{ReservationMove}
use Rattle.connection_record.specs.declared.provisioning.ProvisionMove.{ProvisionMove}
use Rattle.connection_record.specs.declared.apply.Move.{Move}
use Rattle.connection_record.specs.Demand.{last}
use Rattle.connection_record.specs.Refusal.{is_created}
use Rattle.connection_record.specs.Lives.{provision_event, lifecycle_event, provisions, lives}
use Rattle.connection_record.specs.Moves.{event_of, is_live, reserves, committed_with}
use Rattle.connection_record.specs.Replies.{Moved}
use Rattle.connection_record.specs.Applied.{first_machine, has_work, end_of, moves, moves_if, reservation_closing, provision_closing, closes, requested, tells, waits, is_terminating}
use Rattle.provider_agent.specs.State.{State, no_record, record_at}
use Rattle.provider_agent.specs.declared.provider_core.Core.{Core}
use Rattle.provider_agent.specs.Indexed.{deadline_of, held_until, ends_at, starts_at, start_of, NamesSeconds, NamesStarts, AreIndexed}
use Rattle.provider_agent.specs.Core.{state_at, IsReady}
use Rattle.provider_agent.specs.Kept.{is_plain, is_plain_reservation}
use Rattle.provider_agent.proofs.Moved.{requested_plain}
use Rattle.provider_agent.proofs.Turning.{told_but_notices}
use Rattle.provider_agent.proofs.RecordPlaces.{last_pushed}
use Rattle.provider_agent.proofs.Keeping.{at_set, at_other, by_number}

---- More names

-- A place more is named.
pub indexed_added : (now : ℕ) (records : List Record) (waiting more : List ℕ) (deadlines : List Deadline) (place : ℕ) → AreIndexed now records waiting deadlines → ((p : ℕ) → Contains more p ↔ ((p ≡ place) ⊎ Contains waiting p)) → AreIndexed now records more deadlines
indexed_added now records waiting more deadlines place ix is = record { works = λ n l h. (is n).1 (inr (ix.works n l h)); holds = ix.holds; ends = ix.ends; starts = ix.starts; within = ix.within }

pub named_added : (waiting more : List ℕ) (place : ℕ) → ((p : ℕ) → Contains more p ↔ ((p ≡ place) ⊎ Contains waiting p)) → Contains more place
named_added waiting more place is = (is place).1 (inl refl)

pub ready_added : (d : Core) (more : List ℕ) (place : ℕ) → IsReady d → ((p : ℕ) → Contains more p ↔ ((p ≡ place) ⊎ Contains d.waiting p)) → IsReady (record d { waiting = more })
ready_added d more place ready is =
    record { consistent = record { kept = ready.consistent.kept; indexed = indexed_added d.now d.records.items d.waiting more d.deadlines place ready.consistent.indexed is }; ordered = ready.ordered; few = ready.few; drawn = ready.drawn }

-- A second more is named.
pub ready_timed : (d : Core) (more : List Deadline) (second place : ℕ) → IsReady d → place < length d.records.items
    → ((x : Deadline) → Contains more x ↔ ((x ≡ deadline_of second place) ⊎ Contains d.deadlines x)) → IsReady (record d { deadlines = more })
ready_timed d more second place ready inside is = record { consistent = record { kept = ready.consistent.kept; indexed = indexed }; ordered = ready.ordered; few = ready.few; drawn = ready.drawn }
  where
    indexed : AreIndexed d.now d.records.items d.waiting more
    indexed = record {
      works = ready.consistent.indexed.works;
      holds = λ n t l h. (is (deadline_of t n)).1 (inr (ready.consistent.indexed.holds n t l h));
      ends = λ n t l h. (is (deadline_of t n)).1 (inr (ready.consistent.indexed.ends n t l h));
      starts = λ n t l h m. (is (deadline_of t n)).1 (inr (ready.consistent.indexed.starts n t l h m));
      within = λ x has. elim ((is x).0 has) [
        | inl e ↦ subst (λ (y : Deadline). y.place < length d.records.items) (sym e) inside
        | inr old ↦ ready.consistent.indexed.within x old
      ];
    }

pub timed_added : (deadlines more : List Deadline) (second place : ℕ) → ((x : Deadline) → Contains more x ↔ ((x ≡ deadline_of second place) ⊎ Contains deadlines x)) → Contains more (deadline_of second place)
timed_added deadlines more second place is = (is (deadline_of second place)).1 (inl refl)

-- what was named still is
pub still_named : (deadlines more : List Deadline) (second place : ℕ) (x : Deadline) → ((x : Deadline) → Contains more x ↔ ((x ≡ deadline_of second place) ⊎ Contains deadlines x)) → Contains deadlines x → Contains more x
still_named deadlines more second place x is has = (is x).1 (inr has)

---- Fewer names

-- A place whose record has no work to do is named no more.
pub indexed_removed : (now : ℕ) (records : List Record) (waiting less : List ℕ) (deadlines : List Deadline) (place : ℕ) → AreIndexed now records waiting deadlines → has_work (record_at place records) ≡ false
    → ((p : ℕ) → Contains less p ↔ ((p ≢ place) × Contains waiting p)) → AreIndexed now records less deadlines
indexed_removed now records waiting less deadlines place ix none is =
    record {
      works = λ n l h. (is n).1 (λ e. false≢true (sym none ∙ (ap (λ k. has_work (record_at k records)) (sym e) ∙ h)), ix.works n l h);
      holds = ix.holds;
      ends = ix.ends;
      starts = ix.starts;
      within = ix.within;
    }

---- Other records

-- what a moved record has to do at a second is named
pub record AreNamed (now n : ℕ) (moved : Record) (deadlines : List Deadline) : Type 0 where
  pub holds : (t : ℕ) → held_until moved ≡ Some t → Contains deadlines (deadline_of t n)
  pub ends : (t : ℕ) → ends_at moved ≡ Some t → Contains deadlines (deadline_of t n)
  pub starts : (t : ℕ) → starts_at moved ≡ Some t → now < t → Contains deadlines (deadline_of t n)

-- The record at a place that is named is moved, and what it has to do is named.
pub indexed_set : (now : ℕ) (records : List Record) (waiting : List ℕ) (deadlines : List Deadline) (n : ℕ) (moved : Record) → AreIndexed now records waiting deadlines → n < length records → Contains waiting n
    → AreNamed now n moved deadlines → AreIndexed now (set records n moved) waiting deadlines
indexed_set now records waiting deadlines n moved ix inside named seconds =
    record {
      works = works;
      holds = seconds_in held_until ix.holds seconds.holds;
      ends = seconds_in ends_at ix.ends seconds.ends;
      starts = starts;
      within = λ x has. subst (λ m. x.place < m) (sym (length-set records n moved)) (ix.within x has);
    }
  where
    shorter : (k : ℕ) → k < length (set records n moved) → k < length records
    shorter k l = subst (λ m. k < m) (length-set records n moved) l

    works : (k : ℕ) → k < length (set records n moved) → has_work (record_at k (set records n moved)) ≡ true → Contains waiting k
    works k l h = by_number k n (λ e. subst (Contains waiting) (sym e) named)
        (λ d. ix.works k (shorter k l) (ap has_work (sym (at_other records n k moved d)) ∙ h))

    here : (f : Record → Option ℕ) (k t : ℕ) → k ≡ n → f (record_at k (set records n moved)) ≡ Some t → f moved ≡ Some t
    here f k t e h = ap f (sym (ap (λ m. record_at m (set records n moved)) e ∙ at_set records n moved inside)) ∙ h

    seconds_in : (f : Record → Option ℕ) → NamesSeconds f records deadlines → ((t : ℕ) → f moved ≡ Some t → Contains deadlines (deadline_of t n)) → NamesSeconds f (set records n moved) deadlines
    seconds_in f old new k t l h = by_number k n (λ e. subst (λ m. Contains deadlines (deadline_of t m)) (sym e) (new t (here f k t e h)))
        (λ d. old k t (shorter k l) (ap f (sym (at_other records n k moved d)) ∙ h))

    starts : NamesStarts now (set records n moved) deadlines
    starts k t l h later = by_number k n (λ e. subst (λ m. Contains deadlines (deadline_of t m)) (sym e) (seconds.starts t (here starts_at k t e h) later))
        (λ d. ix.starts k t (shorter k l) (ap starts_at (sym (at_other records n k moved d)) ∙ h) later)

-- a moved record has nothing to do at a second at which it had nothing to do before
pub record NamesNoMore (r moved : Record) : Type 0 where
  pub holds : (t : ℕ) → held_until moved ≡ Some t → held_until r ≡ Some t
  pub ends : (t : ℕ) → ends_at moved ≡ Some t → ends_at r ≡ Some t
  pub starts : (t : ℕ) → starts_at moved ≡ Some t → starts_at r ≡ Some t

pub named_where_no_more : (now : ℕ) (records : List Record) (waiting : List ℕ) (deadlines : List Deadline) (n : ℕ) (moved : Record) → AreIndexed now records waiting deadlines → n < length records → NamesNoMore (record_at n records) moved
    → AreNamed now n moved deadlines
named_where_no_more now records waiting deadlines n moved ix inside same =
    record {
      holds = λ t h. ix.holds n t inside (same.holds t h);
      ends = λ t h. ix.ends n t inside (same.ends t h);
      starts = λ t h later. ix.starts n t inside (same.starts t h) later;
    }

pub indexed_moved : (now : ℕ) (records : List Record) (waiting : List ℕ) (deadlines : List Deadline) (n : ℕ) (moved : Record) → AreIndexed now records waiting deadlines → n < length records → Contains waiting n
    → NamesNoMore (record_at n records) moved → AreIndexed now (set records n moved) waiting deadlines
indexed_moved now records waiting deadlines n moved ix inside named same =
    indexed_set now records waiting deadlines n moved ix inside named (named_where_no_more now records waiting deadlines n moved ix inside same)

-- A record more, whose place is named, and which has nothing to do at any second.
pub record NamesNothing (r : Record) : Type 0 where
  pub holds : held_until r ≡ None
  pub ends : ends_at r ≡ None
  pub starts : starts_at r ≡ None

pub indexed_pushed : (now : ℕ) (records : List Record) (waiting : List ℕ) (deadlines : List Deadline) (r : Record) → AreIndexed now records waiting deadlines → Contains waiting (length records) → NamesNothing r
    → AreIndexed now (records ++ r ∷ []) waiting deadlines
indexed_pushed now records waiting deadlines r ix named none =
    record {
      works = works;
      holds = seconds_in held_until ix.holds none.holds;
      ends = seconds_in ends_at ix.ends none.ends;
      starts = starts;
      within = λ x has. let inside = ix.within x has in omega (arith, length_push records r, inside);
    }
  where
    before : (k : ℕ) → k < length (records ++ r ∷ []) → k ≢ length records → k < length records
    before k l d = grind (arith, length_push records r)

    as_before : (k : ℕ) → k < length records → record_at k records ≡ record_at k (records ++ r ∷ [])
    as_before k l = sym (get_or_append_left records (r ∷ []) no_record k l)

    works : (k : ℕ) → k < length (records ++ r ∷ []) → has_work (record_at k (records ++ r ∷ [])) ≡ true → Contains waiting k
    works k l h = by_number k (length records) (λ e. subst (Contains waiting) (sym e) named)
        (λ d. ix.works k (before k l d) (ap has_work (as_before k (before k l d)) ∙ h))

    never : (f : Record → Option ℕ) (k t : ℕ) → f r ≡ None → k ≡ length records → f (record_at k (records ++ r ∷ [])) ≡ Some t → ⊥
    never f k t nothing e h = let held : None ≡ Some t = sym nothing ∙ (ap f (sym (get_or_push records r no_record k (sym e))) ∙ h) in cc

    seconds_in : (f : Record → Option ℕ) → NamesSeconds f records deadlines → f r ≡ None → NamesSeconds f (records ++ r ∷ []) deadlines
    seconds_in f old nothing k t l h = by_number k (length records) (λ e. absurd (never f k t nothing e h)) (λ d. old k t (before k l d) (ap f (as_before k (before k l d)) ∙ h))

    starts : NamesStarts now (records ++ r ∷ []) deadlines
    starts k t l h later = by_number k (length records) (λ e. absurd (never starts_at k t none.starts e h)) (λ d. ix.starts k t (before k l d) (ap starts_at (as_before k (before k l d)) ∙ h) later)

---- A core

works_where_waits : (machine : Machine) (r : Record) → waits machine r ≡ true → has_work r ≡ true
unfolding first_machine
works_where_waits machine r h = grind arith

-- what has work to do is named
pub named_by_work : (now : ℕ) (records : List Record) (waiting : List ℕ) (deadlines : List Deadline) (n : ℕ) (machine : Machine) → AreIndexed now records waiting deadlines → n < length records → waits machine (record_at n records) ≡ true → Contains waiting n
named_by_work now records waiting deadlines n machine ix inside h = ix.works n inside (works_where_waits machine (record_at n records) h)

-- a core whose indexes are those of another, in a state that they fit
pub indexed_by : (d new : Core) (s : State) → state_at new ≡ s → new.waiting ≡ d.waiting → new.deadlines ≡ d.deadlines → AreIndexed s.now s.records d.waiting d.deadlines → AreIndexed new.now new.records.items new.waiting new.deadlines
indexed_by d new s is waiting deadlines ix =
    subst (λ ws. AreIndexed new.now new.records.items ws new.deadlines) (sym waiting)
    (subst (λ ds. AreIndexed new.now new.records.items d.waiting ds) (sym deadlines) (subst (λ (t : State). AreIndexed t.now t.records d.waiting d.deadlines) (sym is) ix))

---- One record

reservation_no_more : (k : Rsm) (move : ReservationMove) (now : ℕ) (r : Record) → r.rsm ≡ k → is_plain_reservation move ≡ true → NamesNoMore r (reserves k move now r).rec
unfolding reserves reserve_step event_of
reservation_no_more k move now r at plain = record { holds = λ t h. grind arith; ends = λ t h. grind arith; starts = λ t h. grind arith }

provision_no_more : (side : Side) (k : Psm) (move : ProvisionMove) (now : ℕ) (r : Record) → NamesNoMore r (provisions side k move now r).rec
unfolding provisions provision_step provision_event
provision_no_more side k move now r = record { holds = λ t h. grind arith; ends = λ t h. grind arith; starts = λ t h. grind arith }

life_no_more : (k : Lsm) (move : LifecycleMove) (now : ℕ) (r : Record) → r.lsm ≡ k → NamesNoMore r (lives k move now r).rec
unfolding lives lifecycle_step lifecycle_event is_live
life_no_more k move now r at = record { holds = λ t h. grind arith; ends = λ t h. grind arith; starts = λ t h. grind arith }

pub still_no_more : (r : Record) → NamesNoMore r r
still_no_more r = record { holds = λ t h. h; ends = λ t h. h; starts = λ t h. h }

-- only what fits is held, and only what is committed has a schedule
pub plain_no_more : (side : Side) (move : Move) (now : ℕ) (r : Record) → is_plain move ≡ true → NamesNoMore r (moves side move now r).rec
unfolding moves
plain_no_more side (Move.Reservation move) now r p = reservation_no_more r.rsm move now r refl p
plain_no_more side (Move.Provision move) now r p = provision_no_more side r.psm move now r
plain_no_more side (Move.Lifecycle move) now r p = life_no_more r.lsm move now r refl
plain_no_more side (Move.Close agent) now r p = cc

-- what is told of the data plane names nothing
pub told_no_more : (before : Plane) (c now : ℕ) (r : Record) (x : Moved) → NamesNoMore r x.rec → NamesNoMore r (tells before c now x).rec
told_no_more before c now r x p = subst (NamesNoMore r) (sym (told_but_notices before c now x)) (record { holds = p.holds; ends = p.ends; starts = p.starts })

pub told_named : (before : Plane) (c now : ℕ) (n : ℕ) (x : Moved) (deadlines : List Deadline) → AreNamed now n x.rec deadlines → AreNamed now n (tells before c now x).rec deadlines
told_named before c now n x deadlines p =
    subst (λ (r : Record). AreNamed now n r deadlines) (sym (told_but_notices before c now x)) (record { holds = p.holds; ends = p.ends; starts = p.starts })

pub request_no_more : (body : Body) (c now : ℕ) (r : Record) → NamesNoMore r (moves_if Side.Provider (requested now body c r) now r).rec
request_no_more body c now r = by_move (requested now body c r) refl
  where
    by_move : (o : Option Move) → requested now body c r ≡ o → NamesNoMore r (moves_if Side.Provider o now r).rec
    by_move None e = still_no_more r
    by_move (Some move) e = plain_no_more Side.Provider move now r (requested_plain now body c r move e)

-- what had nothing to do has nothing to do
pub nothing_where_no_more : (r moved : Record) → NamesNothing r → NamesNoMore r moved → NamesNothing moved
nothing_where_no_more r moved none same =
    record {
      holds = never held_until none.holds same.holds;
      ends = never ends_at none.ends same.ends;
      starts = never starts_at none.starts same.starts;
    }
  where
    never : (f : Record → Option ℕ) → f r ≡ None → ((t : ℕ) → f moved ≡ Some t → f r ≡ Some t) → f moved ≡ None
    never f nothing same = by_second (f moved) refl
      where
        by_second : (o : Option ℕ) → f moved ≡ o → o ≡ None
        by_second None e = refl
        by_second (Some t) e = let held : None ≡ Some t = sym nothing ∙ same t e in cc

---- What fits, what is committed, what has ended

abbrev fitted : ℕ → ℕ → Record → Record
fitted deadline now r = (reserves Rsm.ReserveChecking (ReservationMove.Fit (Some deadline)) now r).rec

fit_until : (deadline now : ℕ) (r : Record) (t : ℕ) → r.rsm ≡ Rsm.ReserveChecking → held_until (fitted deadline now r) ≡ Some t → deadline ≡ t
unfolding reserves reserve_step event_of
fit_until deadline now r t at h = grind arith

fit_ends : (deadline now : ℕ) (r : Record) (t : ℕ) → ends_at (fitted deadline now r) ≡ Some t → ends_at r ≡ Some t
unfolding reserves reserve_step event_of
fit_ends deadline now r t h = grind arith

fit_starts : (deadline now : ℕ) (r : Record) (t : ℕ) → starts_at (fitted deadline now r) ≡ Some t → starts_at r ≡ Some t
unfolding reserves reserve_step event_of
fit_starts deadline now r t h = grind arith

-- a hold is named with its end
pub fit_named : (deadline now n : ℕ) (r : Record) (deadlines : List Deadline) → r.rsm ≡ Rsm.ReserveChecking → Contains deadlines (deadline_of deadline n) → AreNamed now n r deadlines
    → AreNamed now n (reserves Rsm.ReserveChecking (ReservationMove.Fit (Some deadline)) now r).rec deadlines
fit_named deadline now n r deadlines at has old =
    record {
      holds = λ t h. subst (λ end. Contains deadlines (deadline_of end n)) (fit_until deadline now r t at h) has;
      ends = λ t h. old.ends t (fit_ends deadline now r t h);
      starts = λ t h later. old.starts t (fit_starts deadline now r t h) later;
    }

abbrev committed_rec : ℕ → Record → Record
committed_rec now r = (reserves Rsm.ReserveCommitting ReservationMove.Done now r).rec

done_until : (now : ℕ) (r : Record) (t : ℕ) → held_until (committed_rec now r) ≡ Some t → held_until r ≡ Some t
unfolding reserves reserve_step event_of
done_until now r t h = grind arith

done_lsm : (now : ℕ) (r : Record) → (committed_rec now r).lsm ≡ r.lsm
unfolding reserves reserve_step event_of
done_lsm now r = refl

done_last : (now : ℕ) (r : Record) → last (committed_rec now r).committed ≡ last (committed_with r.committed r.pending)
unfolding reserves reserve_step event_of
done_last now r = refl

-- what is committed is the pending criteria, or what was committed before
last_committed : (cs : List Criteria) (o : Option Criteria) (P : Option Criteria → Type 0) → P (last cs) → ((c : Criteria) → o ≡ Some c → P (Some c)) → P (last (committed_with cs o))
last_committed cs None P old new = subst (λ (xs : List Criteria). P (last xs)) (sym (append-nil cs)) old
last_committed cs (Some c) P old new = subst P (sym (last_pushed cs c)) (new c refl)

end_is : (lsm : Lsm) (c : Criteria) (t : ℕ) → cond (is_created lsm) (end_of (Some c)) None ≡ Some t → c.interval.end ≡ t
end_is lsm c t h = grind arith

start_is : (lsm : Lsm) (c : Criteria) (t : ℕ) → cond (is_created lsm) (start_of (Some c)) None ≡ Some t → c.interval.start ≡ t
start_is lsm c t h = grind arith

-- a schedule that is committed is named with its start and its end
pub done_named : (now n : ℕ) (r : Record) (deadlines : List Deadline) → IfSome r.pending (λ c. Contains deadlines (deadline_of c.interval.start n) × Contains deadlines (deadline_of c.interval.end n)) → AreNamed now n r deadlines
    → AreNamed now n (reserves Rsm.ReserveCommitting ReservationMove.Done now r).rec deadlines
unfolding reserves reserve_step event_of
done_named now n r deadlines named old =
    record {
      holds = λ t h. old.holds t (done_until now r t h);
      ends = last_committed r.committed r.pending (λ o. (t : ℕ) → cond (is_created r.lsm) (end_of o) None ≡ Some t → Contains deadlines (deadline_of t n)) old.ends
          (λ c e t h. subst (λ end. Contains deadlines (deadline_of end n)) (end_is r.lsm c t h) (pending_named r.pending c e named).1);
      starts = last_committed r.committed r.pending (λ o. (t : ℕ) → cond (is_created r.lsm) (start_of o) None ≡ Some t → now < t → Contains deadlines (deadline_of t n)) old.starts
          (λ c e t h later. subst (λ start. Contains deadlines (deadline_of start n)) (start_is r.lsm c t h) (pending_named r.pending c e named).0);
    }
  where
    pending_named : (o : Option Criteria) (c : Criteria) → o ≡ Some c → IfSome o (λ c. Contains deadlines (deadline_of c.interval.start n) × Contains deadlines (deadline_of c.interval.end n))
        → Contains deadlines (deadline_of c.interval.start n) × Contains deadlines (deadline_of c.interval.end n)
    pending_named o c e h = subst (λ x. IfSome x (λ c. Contains deadlines (deadline_of c.interval.start n) × Contains deadlines (deadline_of c.interval.end n))) e h

-- an ended connection has nothing to do at any second
pub closed_ended : (agent : List ℕ) (side : Side) (now : ℕ) (r : Record) → r.lsm ≡ Lsm.Terminating → (closes agent side now r).rec.lsm ≡ Lsm.Terminated
unfolding closes reservation_closing provision_closing reserves reserve_step event_of provisions provision_step provision_event lives lifecycle_step lifecycle_event
closed_ended agent side now r at = grind arith

pub waits_ending : (r : Record) → waits Machine.Lifecycle r ≡ true → r.lsm ≡ Lsm.Terminating
unfolding waits is_terminating
waits_ending r h = grind arith

ended_nothing : (r : Record) → r.lsm ≡ Lsm.Terminated → NamesNothing r
unfolding is_live
ended_nothing r at = record { holds = grind arith; ends = grind arith; starts = grind arith }

never : (o : Option ℕ) (t : ℕ) → o ≡ None → o ≡ Some t → ⊥
never o t a b = let clash : None ≡ Some t = sym a ∙ b in cc

nothing_named : (now n : ℕ) (deadlines : List Deadline) (x : Record) → NamesNothing x → AreNamed now n x deadlines
nothing_named now n deadlines x none =
    record {
      holds = λ t h. absurd (never (held_until x) t none.holds h);
      ends = λ t h. absurd (never (ends_at x) t none.ends h);
      starts = λ t h later. absurd (never (starts_at x) t none.starts h);
    }

pub close_named : (agent : List ℕ) (now n : ℕ) (r : Record) (deadlines : List Deadline) → waits Machine.Lifecycle r ≡ true → AreNamed now n (moves Side.Provider (Move.Close agent) now r).rec deadlines
unfolding moves
close_named agent now n r deadlines h =
    nothing_named now n deadlines (closes agent Side.Provider now r).rec (ended_nothing (closes agent Side.Provider now r).rec (closed_ended agent Side.Provider now r (waits_ending r h)))
