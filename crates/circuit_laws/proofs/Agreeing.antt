-- Whatever an aggregator does, the criteria of its own records stand so against those of its children's records.
use Rattle.std.proofs.Common.{ℕ, ◌≡◌, ◌∙◌, ◌<◌, ◌≤◌, ◌⊎◌, ◌||◌, inl, inr, Bool, true, false, List, [], ◌∷◌, ◌++◌, length, length-append, Contains, Option, Some, None, option_map, is_some, bytes_eq, refl, sym, ap, subst, arith}
use Rattle.std.proofs.lemmas.List.Elements.{All-contains}
use Rattle.nsi_primitive.specs.Messages.{kind_of}
use Rattle.nsi_primitive.specs.declared.kind.Kind.{Kind}
use Rattle.nsi_primitive.specs.declared.message.Body.{Body}
use Rattle.nsi_primitive.specs.declared.message.Criteria.{Criteria}
use Rattle.nsi_primitive.specs.declared.message.Message.{Message}
use Rattle.nsi_primitive.specs.declared.message.ReserveRequest.{ReserveRequest}
use Rattle.nsi_primitive.specs.declared.state.Rsm.{Rsm}
use Rattle.nsi_primitive.specs.declared.state.Side.{Side}
use Rattle.connection_record.specs.declared.record.Record.{Record}
use Rattle.connection_record.specs.Moves.{is_live}
use Rattle.connection_record.specs.Refusal.{has_row, record_refusal}
use Rattle.connection_record.proofs.Unrefused.{unrefused_fits, reserve_row, commit_row}
use Rattle.child_connection.specs.declared.state.Sent.{Sent}
use Rattle.child_connection.specs.Asks.{asks}
use Rattle.child_connection.specs.Hearing.{hears, hear, hear_from, push_version}
use Rattle.child_connection.specs.Holding.{Commits as CommitsByMessage}
use Rattle.child_connection.specs.Views.{ChildConnection, sent, open_request}
use Rattle.child_connection.proofs.Learning.{messages_commit}
use Rattle.child_connection.proofs.Places.{asks_known}
use Rattle.child_connection.proofs.Reservations.{request_stays}
use Rattle.agent_state.specs.State.{record_at}
use Rattle.aggregator_agent.specs.Asking.{asked_view, request_if, may_abort, passed_on}
use Rattle.aggregator_agent.specs.Settling.{is_held}
use Rattle.aggregator_agent.specs.Turns.{takes}
use Rattle.circuit_fit.specs.Fits.{pending_of, IsFitting, IsKnown, Fits}
use Rattle.circuit_link.specs.Children.{Child, IsFair}
use Rattle.circuit_link.specs.Mates.{IsMate}
use Rattle.circuit_link.specs.Sides.{version_of}
use Rattle.circuit_laws.proofs.Criteria.{AsksWhenTaken}
use Rattle.circuit_laws.proofs.Agreed.{IsRowOf, HasIt, Commits, IsAgreed, row_then, has_then, known_row, free_even, not_longer, free_error, done_commits}
use Rattle.circuit_laws.proofs.Attempts.{request_takes}
use Rattle.circuit_laws.proofs.Learnt.{asked_connection}
use Rattle.circuit_laws.proofs.Meant.{IsFree}
use Rattle.circuit_laws.proofs.Settled.{IsDone}
use Rattle.circuit_laws.proofs.Tried.{is_busy, taken_busy}

---- A view that hears

by_sender : (m : Message) (x : ChildConnection) (P : ChildConnection → Type 0) → P (hears m.body m.header.correlation x).view → P x → P (hear m x).view
by_sender m x P heard same = by (bytes_eq m.header.provider x.child)
  where
    by : (t : Bool) → P (hear_from t m x).view
    by true = heard
    by false = same

hear_error : (m : Message) (x : ChildConnection) → IsFree x → (hear m x).view.error ≡ None → x.error ≡ None
hear_error m x free = by_sender m x (λ z. z.error ≡ None → x.error ≡ None) (free_error m.body m.header.correlation x free) (λ e. e)

hear_free : (m : Message) (x : ChildConnection) → IsFree x → IsFree (hear m x).view
hear_free m x free = by_sender m x IsFree (by (request_stays m.body m.header.correlation x)) free
  where
    by : ((hears m.body m.header.correlation x).view.reserve_request ≡ x.reserve_request) ⊎ ((hears m.body m.header.correlation x).view.reserve_request ≡ None) → IsFree (hears m.body m.header.correlation x).view
    by (inl e) = e ∙ free
    by (inr e) = e

hear_commits : (m : Message) (d : ℕ) (x : ChildConnection) → x.reserve_request ≡ Some (sent d Kind.ReserveCommit) → IsDone (hear m x).view → (hear m x).view.committed ≡ push_version x.committed x.pending
hear_commits m d x asks =
    by_sender m x (λ z. IsDone z → z.committed ≡ push_version x.committed x.pending) (λ h. done_commits m.body m.header.correlation d x asks h.0 h.1)
    (λ h. absurd (let z : None ≡ Some (sent d Kind.ReserveCommit) = sym h.0 ∙ asks in cc))

pushed_longer : (vs : List ℕ) (o : Option ℕ) → length vs ≤ length (push_version vs o)
pushed_longer vs None = omega arith
pushed_longer vs (Some v) = omega (arith, length-append vs (v ∷ []))

hear_longer : (m : Message) (x : ChildConnection) → length x.committed ≤ length (hear m x).view.committed
hear_longer m x = by_sender m x (λ z. length x.committed ≤ length z.committed) (by (messages_commit m.body m.header.correlation x)) (omega arith)
  where
    by : CommitsByMessage m.body m.header.correlation x (hears m.body m.header.correlation x).view → length x.committed ≤ length (hears m.body m.header.correlation x).view.committed
    by (inl e) = omega (arith, ap length e)
    by (inr w) = omega (arith, ap length w.3, pushed_longer x.committed x.pending)

-- a request to terminate leaves the reservation
terminate_done : (o : Option Body) (c : ℕ) (x : ChildConnection) → ((asked_view o Kind.Terminate c x).reserve_request ≡ x.reserve_request) × ((asked_view o Kind.Terminate c x).error ≡ x.error)
unfolding asked_view asks
terminate_done None c x = (refl, refl)
terminate_done (Some b) c x = (refl, refl)

asked_committed : (o : Option Body) (k : Kind) (c : ℕ) (x : ChildConnection) → (asked_view o k c x).committed ≡ x.committed
unfolding asked_view
asked_committed None k c x = refl
asked_committed (Some b) k c x = (asks_known k c x).1

---- A view that is asked

commit_done : (o : Option Body) (c : ℕ) (x : ChildConnection) → IsDone (asked_view o Kind.ReserveCommit c x) → IsDone x
unfolding asked_view asks
commit_done None c x h = h
commit_done (Some b) c x h = absurd (let e = h.0 in cc)

abort_done : (o : Option Body) (c : ℕ) (x : ChildConnection) → IsDone (asked_view o Kind.ReserveAbort c x) → IsDone x
unfolding asked_view asks
abort_done None c x h = h
abort_done (Some b) c x h = absurd (let e = h.0 in cc)

provision_done : (o : Option Body) (c : ℕ) (x : ChildConnection) → IsDone (asked_view o Kind.Provision c x) → IsDone x
unfolding asked_view asks
provision_done None c x h = h
provision_done (Some b) c x h = h

release_done : (o : Option Body) (c : ℕ) (x : ChildConnection) → IsDone (asked_view o Kind.Release c x) → IsDone x
unfolding asked_view asks
release_done None c x h = h
release_done (Some b) c x h = h

end_done : (o : Option Body) (c : ℕ) (x : ChildConnection) → IsDone (asked_view o Kind.Terminate c x) → IsDone x
unfolding asked_view asks
end_done None c x h = h
end_done (Some b) c x h = h

passed_done : (b : Body) (r : Record) (c : ℕ) (x : ChildConnection) → ((q : ReserveRequest) → b ≡ Body.Reserve q → ⊥) → IsDone (asked_view (passed_on b r x) (kind_of b) c x) → IsDone x
unfolding passed_on asked_view
passed_done (Body.Reserve q) r c x never h = absurd (never q refl)
passed_done (Body.ReserveCommit id) r c x never h = commit_done (request_if true Kind.ReserveCommit x) c x h
passed_done (Body.ReserveAbort id) r c x never h = abort_done (request_if (may_abort x.phase) Kind.ReserveAbort x) c x h
passed_done (Body.Provision id) r c x never h = provision_done (request_if true Kind.Provision x) c x h
passed_done (Body.Release id) r c x never h = release_done (request_if true Kind.Release x) c x h
passed_done (Body.Terminate id) r c x never h = end_done (request_if true Kind.Terminate x) c x h
passed_done _ r c x never h = h

-- a commit goes to each child that holds
commit_asked : (n : ℕ) (r : Record) (c : ℕ) (x : ChildConnection) → IsFree x → is_some x.connection ≡ true → IsDone (asked_view (passed_on (Body.ReserveCommit n) r x) (kind_of (Body.ReserveCommit n)) c x) → ⊥
unfolding passed_on request_if open_request asked_view asks
commit_asked n r c x free known h = by x.connection refl
  where
    by : (o : Option ℕ) → x.connection ≡ o → ⊥
    by None e = absurd (let z : false ≡ true = sym (ap (λ (o : Option ℕ). is_some o) e) ∙ known in cc)
    by (Some id) e = absurd (let z : (asked_view (request_if true Kind.ReserveCommit x) Kind.ReserveCommit c x).reserve_request ≡ None = h.0 in by_request (rw (free, e) at z))
      where
        by_request : Some (sent c Kind.ReserveCommit) ≡ None → ⊥
        by_request z = cc

---- One view

either : (a b : Bool) → a ≡ true → (a || b) ≡ true
either true b h = refl
either false b h = absurd (cc)

not_mixed : (b : Bool) → (b ≡ true → ⊥) → b ≡ false
not_mixed true h = absurd (h refl)
not_mixed false h = refl

module _ (parent child : List ℕ) (asked : List Message) (d : Child) (fair : IsFair parent child d) (own : Record) (xs : List ChildConnection) (fit : Fits parent asked own xs) (x : ChildConnection) (there : Contains xs x) (place : Option ℕ)
    (mate : IsMate parent child x place d) (knows : (c : ℕ) → x.reserve_request ≡ Some (sent c Kind.ReserveCommit) → (id : ℕ) × (x.connection ≡ Some id)) (agreed : IsAgreed parent own x d.records) where
  fits_at : (k : Rsm) → (k ≡ Rsm.ReserveStart → ⊥) → own.rsm ≡ k → is_live own.lsm ≡ true → IsFitting parent asked k (pending_of own) x
  fits_at k other state live =
      let whole : own.mixed ≡ false = not_mixed own.mixed (λ e. other (sym state ∙ fit.mixed e)) in
      subst (λ (z : Rsm). IsFitting parent asked z (pending_of own) x) state (All-contains (IsFitting parent asked own.rsm (pending_of own)) xs x (fit.fits live whole) there)

  waits_commit : (k : Criteria) → Commits own k → (q : Sent) → x.reserve_request ≡ Some q → (x.reserve_request ≡ Some (sent q.correlation Kind.ReserveCommit)) × (x.pending ≡ Some k.version)
  waits_commit k c q e =
      let w = (fits_at Rsm.ReserveCommitting (λ z. cc) c.state c.live).waits q e in
      (e ∙ ap (λ (z : Kind). Some (sent q.correlation z)) w.0, w.1 ∙ ap (λ (o : Option Criteria). option_map version_of o) c.pending)

  -- it hears a message, and may be asked to terminate
  module _ (m : Message) (c : ℕ) (o : Option Body) (y : ChildConnection) (is : y ≡ asked_view o Kind.Terminate c (hear m x).view) (place' : Option ℕ) (mate' : IsMate parent child y place' d)
      (carries : (id : ℕ) → x.connection ≡ Some id → (hear m x).view.connection ≡ Some id) where
    abbrev z : ChildConnection
    z = (hear m x).view

    known_still : (id : ℕ) → x.connection ≡ Some id → y.connection ≡ Some id
    known_still id e = ap (λ (v : ChildConnection). v.connection) is ∙ (asked_connection o Kind.Terminate c z ∙ carries id e)

    same_committed : y.committed ≡ (hear m x).view.committed
    same_committed = ap (λ (v : ChildConnection). v.committed) is ∙ asked_committed o Kind.Terminate c z

    done_there : IsDone y → IsDone (hear m x).view
    done_there h =
        let w = terminate_done o c z in
        (sym w.0 ∙ (sym (ap (λ (v : ChildConnection). v.reserve_request) is) ∙ h.0), sym w.1 ∙ (sym (ap (λ (v : ChildConnection). v.error) is) ∙ h.1))

    free_there : IsFree x → IsFree y
    free_there free = ap (λ (v : ChildConnection). v.reserve_request) is ∙ ((terminate_done o c z).0 ∙ hear_free m x free)

    -- the row of y is that of x, where x knew it
    row_before : (n id : ℕ) → x.connection ≡ Some id → IsRowOf parent y d.records n → IsRowOf parent x d.records n
    row_before n id e row = record { within = row.within; owned = row.owned; known = e ∙ (sym (known_still id e) ∙ row.known) }

    heard_joined : (k : Criteria) → Commits own k → (n : ℕ) → IsRowOf parent y d.records n → length y.committed < length (record_at n d.records).committed → Contains (record_at n d.records).committed k
    heard_joined k works n row longer = by x.reserve_request refl
      where
        by : (r : Option Sent) → x.reserve_request ≡ r → Contains (record_at n d.records).committed k
        by None e = absurd (let w = free_even parent child d fair y place' mate' n row (free_there e) in omega (arith, longer, w))
        by (Some q) e =
            let w = waits_commit k works q e in
            let (id, f) = knows q.correlation w.0 in
            agreed.joined k works n (row_before n id f row) (omega (arith, longer, hear_longer m x, ap length same_committed))

    heard_done : (k : Criteria) → Commits own k → IsDone y → HasIt parent y d.records k
    heard_done k works h = by x.reserve_request refl
      where
        by : (r : Option Sent) → x.reserve_request ≡ r → HasIt parent y d.records k
        by None e = has_then parent x y d.records k known_still (agreed.done k works (e, hear_error m x e (done_there h).1))
        by (Some q) e =
            let w = waits_commit k works q e in
            let (id, f) = knows q.correlation w.0 in
            let (n, row) = known_row parent child d fair x place mate id f in
            let later : IsRowOf parent y d.records n = row_then parent x y d.records n known_still row in
            let grown : y.committed ≡ x.committed ++ k.version ∷ [] = same_committed ∙ (hear_commits m q.correlation x w.0 (done_there h) ∙ ap (push_version x.committed) w.1) in
            record {
              place = n;
              row = later;
              has =
                  agreed.joined k works n row
                  (omega (arith, not_longer parent child d fair y place' mate' n later, ap length grown, length-append x.committed (k.version ∷ [])));
            }

    pub heard_agreed : IsAgreed parent own y d.records
    heard_agreed = record { has = λ k i. has_then parent x y d.records k known_still (agreed.has k i); joined = heard_joined; done = heard_done }

  -- a request is passed on to it
  module _ (m : Message) (now c : ℕ) (fine : record_refusal now m.body own ≡ None) (y : ChildConnection) (is : y ≡ asked_view (passed_on m.body (takes m now own).rec x) (kind_of m.body) c x) where
    abbrev r : Record
    r = (takes m now own).rec

    same_connection : y.connection ≡ x.connection
    same_connection = ap (λ (v : ChildConnection). v.connection) is ∙ asked_connection (passed_on m.body r x) (kind_of m.body) c x

    stays_known : (id : ℕ) → x.connection ≡ Some id → y.connection ≡ Some id
    stays_known id e = same_connection ∙ e

    row_of : (n : ℕ) → IsRowOf parent y d.records n → IsRowOf parent x d.records n
    row_of n row = record { within = row.within; owned = row.owned; known = sym same_connection ∙ row.known }

    as_committed : y.committed ≡ x.committed
    as_committed = ap (λ (v : ChildConnection). v.committed) is ∙ asked_committed (passed_on m.body r x) (kind_of m.body) c x

    -- no reserve is taken where the own record doesn't begin
    no_reserve : is_busy own.rsm ≡ true → (q : ReserveRequest) → m.body ≡ Body.Reserve q → ⊥
    no_reserve busy q e =
        let start = reserve_row q own (subst (λ (b : Body). has_row b own ≡ true) e (unrefused_fits now m.body own fine).row) in
        let w : false ≡ true = sym (ap is_busy start) ∙ busy in cc

    commit_state : (id : ℕ) → m.body ≡ Body.ReserveCommit id → own.rsm ≡ Rsm.ReserveHeld
    commit_state id e = commit_row id own (subst (λ (b : Body). has_row b own ≡ true) e (unrefused_fits now m.body own fine).row)

    -- it committed before, or holds and is to commit now
    abbrev Before : Criteria → Type 0
    Before k = Commits own k ⊎ ((id : ℕ) × (m.body ≡ Body.ReserveCommit id))

    busy_own : (k : Criteria) → Commits (takes m now own).rec k → (is_busy own.rsm ≡ true) × ((own.rsm ≡ Rsm.ReserveCommitting) ⊎ ((id : ℕ) × (m.body ≡ Body.ReserveCommit id)))
    unfolding takes
    busy_own k works = by (taken_busy m.body Side.Aggregator m.header.correlation now own (ap is_busy works.state))
      where
        by : ((is_busy own.rsm ≡ true) × (r.attempt ≡ own.attempt) × (r.rsm ≡ Rsm.ReserveCommitting → (own.rsm ≡ Rsm.ReserveCommitting) ⊎ ((id : ℕ) × (m.body ≡ Body.ReserveCommit id)))) ⊎
            ((a : ReserveRequest) × (m.body ≡ Body.Reserve a) × (r.attempt ≡ Some m.header.correlation) × (r.rsm ≡ Rsm.ReserveCommitting → ⊥)) →
            (is_busy own.rsm ≡ true) × ((own.rsm ≡ Rsm.ReserveCommitting) ⊎ ((id : ℕ) × (m.body ≡ Body.ReserveCommit id)))
        by (inl (busy, same, commits)) = (busy, commits works.state)
        by (inr (a, e, at, never)) = absurd (never works.state)

    pending_own : (k : Criteria) → is_busy own.rsm ≡ true → (takes m now own).rec.pending ≡ Some k → own.pending ≡ Some k
    unfolding takes
    pending_own k busy e = by ((request_takes m.body Side.Aggregator m.header.correlation now own).pending k e)
      where
        by : ((r.attempt ≡ own.attempt) × (own.pending ≡ Some k)) ⊎ ((a : ReserveRequest) × (m.body ≡ Body.Reserve a) × AsksWhenTaken a k × (r.attempt ≡ Some m.header.correlation)) → own.pending ≡ Some k
        by (inl w) = w.1
        by (inr w) = absurd (no_reserve busy w.0 w.1)

    committed_own : (takes m now own).rec.committed ≡ own.committed
    unfolding takes
    committed_own = (request_takes m.body Side.Aggregator m.header.correlation now own).committed

    before : (k : Criteria) → Commits (takes m now own).rec k → Before k
    before k works = by (busy_own k works)
      where
        by : (is_busy own.rsm ≡ true) × ((own.rsm ≡ Rsm.ReserveCommitting) ⊎ ((id : ℕ) × (m.body ≡ Body.ReserveCommit id))) → Before k
        by (busy, inl state) = inl (record { live = (unrefused_fits now m.body own fine).live; state = state; pending = pending_own k busy works.pending })
        by (busy, inr w) = inr w

    -- where it is to commit now the view holds, and knows its connection
    held_now : (id : ℕ) → m.body ≡ Body.ReserveCommit id → IsFree x × (is_some x.connection ≡ true)
    held_now id e = (free, All-contains IsKnown xs x fit.known there (either (is_held x.phase) (is_held x.before) (f.rests free).0))
      where
        f : IsFitting parent asked Rsm.ReserveHeld (pending_of own) x
        f = fits_at Rsm.ReserveHeld (λ w. cc) (commit_state id e) (unrefused_fits now m.body own fine).live

        free : IsFree x
        free = by x.reserve_request refl
          where
            by : (q : Option Sent) → x.reserve_request ≡ q → q ≡ None
            by None g = refl
            by (Some q) g = absurd (f.waits q g)

    asked_joined : (k : Criteria) → Commits (takes m now own).rec k → (n : ℕ) → IsRowOf parent y d.records n → length y.committed < length (record_at n d.records).committed → Contains (record_at n d.records).committed k
    asked_joined k works n row longer = by (before k works)
      where
        by : Before k → Contains (record_at n d.records).committed k
        by (inl own_works) = agreed.joined k own_works n (row_of n row) (omega (arith, longer, ap length as_committed))
        by (inr (id, e)) = absurd (let w = free_even parent child d fair x place mate n (row_of n row) (held_now id e).0 in omega (arith, longer, ap length as_committed, w))

    asked_done : (k : Criteria) → Commits (takes m now own).rec k → IsDone y → HasIt parent y d.records k
    asked_done k works h = by (before k works)
      where
        at_view : IsDone (asked_view (passed_on m.body r x) (kind_of m.body) c x)
        at_view = subst IsDone is h

        by : Before k → HasIt parent y d.records k
        by (inl own_works) =
            has_then parent x y d.records k stays_known (agreed.done k own_works (passed_done m.body r c x (no_reserve (ap is_busy own_works.state)) at_view))
        by (inr (id, e)) =
            let w = held_now id e in
            absurd (commit_asked id r c x w.0 w.1 (subst (λ (b : Body). IsDone (asked_view (passed_on b r x) (kind_of b) c x)) e at_view))

    pub asked_agreed : IsAgreed parent (takes m now own).rec y d.records
    asked_agreed =
        record {
          has = λ k i. has_then parent x y d.records k stays_known (agreed.has k (subst (λ (ks : List Criteria). Contains ks k) committed_own i));
          joined = asked_joined;
          done = asked_done;
        }
