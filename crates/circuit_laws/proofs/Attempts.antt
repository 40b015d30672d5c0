-- What a record has as pending, its owner has asked for under the record's attempt.
use Rattle.std.proofs.Common.{ℕ, ◌≡◌, ◌∙◌, ◌⊎◌, inl, inr, false, List, [], ◌∷◌, ◌++◌, take, Option, Some, None, option_to_list, refl, sym, ap, subst, arith, append-nil}
use Rattle.std.proofs.lemmas.List.Elements.{All-contains, All-take}
use Rattle.std.proofs.lemmas.Option.{get_or_from_slice_get}
use Rattle.nsi_primitive.specs.declared.entry.Entry.{Entry}
use Rattle.nsi_primitive.specs.declared.entry.Input.{Input}
use Rattle.nsi_primitive.specs.declared.kind.Kind.{Kind}
use Rattle.nsi_primitive.specs.declared.message.Body.{Body}
use Rattle.nsi_primitive.specs.declared.message.Criteria.{Criteria}
use Rattle.nsi_primitive.specs.declared.message.Message.{Message}
use Rattle.nsi_primitive.specs.declared.message.ReserveRequest.{ReserveRequest}
use Rattle.nsi_primitive.specs.declared.state.Rsm.{Rsm}
use Rattle.nsi_primitive.specs.declared.state.Side.{Side}
use Rattle.reserve_machine.specs.Table.{step as reserve_step}
use Rattle.connection_record.specs.declared.moves.ReservationMove.{ReservationMove}
use Rattle.connection_record.specs.declared.moves.Reply.{Reply}
use Rattle.connection_record.specs.declared.record.Record.{Record}
use Rattle.connection_record.specs.Applied.{reserve_move, moves, moves_if, requested}
use Rattle.connection_record.specs.Courses.{IsOwn, IsReservationSame, IsAct, Course, is_reservation_request}
use Rattle.connection_record.specs.Moves.{event_of, reserves, reserves_if, reservation_does, asked_criteria}
use Rattle.connection_record.specs.Replies.{Moved, by_row}
use Rattle.connection_record.proofs.Beside.{request_beside}
use Rattle.connection_record.proofs.Courses.{course_after}
use Rattle.connection_record.proofs.Growing.{moves_if_later}
use Rattle.agent_state.specs.State.{no_record, record_at}
use Rattle.nsi_agent.specs.Homes.{Home}
use Rattle.nsi_agent.specs.Told.{told}
use Rattle.nsi_world.specs.Worlds.{World, empty}
use Rattle.nsi_world.specs.Runs.{is_requester, world_after}
use Rattle.nsi_world.specs.Heard.{WasSent, IsHeard}
use Rattle.nsi_world.specs.Laws.{HeardWasSent}
use Rattle.run_growth.specs.Cuts.{state_of_cut}
use Rattle.run_growth.specs.SentLaws.{EachReserveSaysItsStart}
use Rattle.circuit_link.specs.Serving.{taken_by}
use Rattle.circuit_laws.specs.Laws.{AttemptsWereAskedFor}
use Rattle.circuit_laws.proofs.Kept.{IsKept, told_kept}
use Rattle.circuit_laws.proofs.Criteria.{AsksWhenTaken, asks_for, sent_asks, Came, more_came, last_came}

---- A record by itself

-- The attempt stays, and what is pending was. What is committed is what was, or the pending criteria have joined it, which were being committed; and
-- what is being committed was.
pub record KeepsAttempt (r q : Record) : Type 0 where
  pub attempt : q.attempt ≡ r.attempt
  pub pending : (k : Criteria) → q.pending ≡ Some k → r.pending ≡ Some k
  pub committed : (q.committed ≡ r.committed) ⊎ ((k : Criteria) × (r.rsm ≡ Rsm.ReserveCommitting) × (r.pending ≡ Some k) × (q.committed ≡ r.committed ++ k ∷ []) × (q.pending ≡ None))
  pub commits : q.rsm ≡ Rsm.ReserveCommitting → r.rsm ≡ Rsm.ReserveCommitting

own_attempt : (k : Rsm) (move : ReservationMove) (now : ℕ) (r : Record) → IsOwn (Some move) → (reserves k move now r).rec.attempt ≡ r.attempt
unfolding reserves reserve_step event_of
own_attempt k move now r o = grind (arith, o)

own_pending : (k : Rsm) (move : ReservationMove) (now : ℕ) (r : Record) (c : Criteria) → IsOwn (Some move) → (reserves k move now r).rec.pending ≡ Some c → r.pending ≡ Some c
unfolding reserves reserve_step event_of
own_pending k move now r c o e = grind (arith, o, e)

own_commits : (move : ReservationMove) (now : ℕ) (r : Record) → IsOwn (Some move) → (reserves r.rsm move now r).rec.rsm ≡ Rsm.ReserveCommitting → r.rsm ≡ Rsm.ReserveCommitting
unfolding reserves reserve_step event_of
own_commits move now r o e = grind (arith, o, e)

own_committed : (move : ReservationMove) (now : ℕ) (r : Record) → IsOwn (Some move) → ((reserves r.rsm move now r).rec.committed ≡ r.committed) ⊎
    (((r.rsm ≡ Rsm.ReserveCommitting) × ((reserves r.rsm move now r).rec.pending ≡ None)) × ((reserves r.rsm move now r).rec.committed ≡ r.committed ++ option_to_list r.pending))
unfolding reserves reserve_step event_of
own_committed move now r o = grind (arith, o)

in_option : (o : Option Criteria) → ((k : Criteria) × (o ≡ Some k)) ⊎ (o ≡ None)
in_option None = inr refl
in_option (Some k) = inl (k, refl)

own_keeps : (move : ReservationMove) (now : ℕ) (r : Record) → IsOwn (Some move) → KeepsAttempt r (reserves r.rsm move now r).rec
own_keeps move now r o =
    record {
      attempt = own_attempt r.rsm move now r o;
      pending = λ k e. own_pending r.rsm move now r k o e;
      committed = by (own_committed move now r o) (in_option r.pending);
      commits = own_commits move now r o;
    }
  where
    q : Record
    q = (reserves r.rsm move now r).rec

    by : (q.committed ≡ r.committed) ⊎ (((r.rsm ≡ Rsm.ReserveCommitting) × (q.pending ≡ None)) × (q.committed ≡ r.committed ++ option_to_list r.pending)) → ((k : Criteria) × (r.pending ≡ Some k)) ⊎ (r.pending ≡ None) →
        (q.committed ≡ r.committed) ⊎ ((k : Criteria) × (r.rsm ≡ Rsm.ReserveCommitting) × (r.pending ≡ Some k) × (q.committed ≡ r.committed ++ k ∷ []) × (q.pending ≡ None))
    by (inl e) p = inl e
    by (inr ((state, gone), e)) (inl (k, p)) = inr (k, state, p, e ∙ ap (λ (o : Option Criteria). r.committed ++ option_to_list o) p, gone)
    by (inr (its, e)) (inr p) = inl (e ∙ (ap (λ (o : Option Criteria). r.committed ++ option_to_list o) p ∙ append-nil r.committed))

keeps_self : (r : Record) → KeepsAttempt r r
keeps_self r = record { attempt = refl; pending = λ k e. e; committed = inl refl; commits = λ e. e }

keeps_same : (r q p : Record) → KeepsAttempt r q → IsReservationSame q p → KeepsAttempt r p
keeps_same r q p a s =
    record {
      attempt = s.attempt ∙ a.attempt;
      pending = λ k e. a.pending k (sym s.pending ∙ e);
      committed = by a.committed;
      commits = λ e. a.commits (sym s.rsm ∙ e);
    }
  where
    by : (q.committed ≡ r.committed) ⊎ ((k : Criteria) × (r.rsm ≡ Rsm.ReserveCommitting) × (r.pending ≡ Some k) × (q.committed ≡ r.committed ++ k ∷ []) × (q.pending ≡ None)) →
        (p.committed ≡ r.committed) ⊎ ((k : Criteria) × (r.rsm ≡ Rsm.ReserveCommitting) × (r.pending ≡ Some k) × (p.committed ≡ r.committed ++ k ∷ []) × (p.pending ≡ None))
    by (inl e) = inl (s.committed ∙ e)
    by (inr (k, state, held, e, gone)) = inr (k, state, held, s.committed ∙ e, s.pending ∙ gone)

keeps_then : (r q p : Record) → KeepsAttempt r q → KeepsAttempt q p → KeepsAttempt r p
keeps_then r q p a b =
    record {
      attempt = b.attempt ∙ a.attempt;
      pending = λ k e. a.pending k (b.pending k e);
      committed = by a.committed b.committed;
      commits = λ e. a.commits (b.commits e);
    }
  where
    by : (q.committed ≡ r.committed) ⊎ ((k : Criteria) × (r.rsm ≡ Rsm.ReserveCommitting) × (r.pending ≡ Some k) × (q.committed ≡ r.committed ++ k ∷ []) × (q.pending ≡ None)) →
        (p.committed ≡ q.committed) ⊎ ((k : Criteria) × (q.rsm ≡ Rsm.ReserveCommitting) × (q.pending ≡ Some k) × (p.committed ≡ q.committed ++ k ∷ []) × (p.pending ≡ None)) →
        (p.committed ≡ r.committed) ⊎ ((k : Criteria) × (r.rsm ≡ Rsm.ReserveCommitting) × (r.pending ≡ Some k) × (p.committed ≡ r.committed ++ k ∷ []) × (p.pending ≡ None))
    by (inl e) (inl f) = inl (f ∙ e)
    by (inl e) (inr (k, state, held, f, gone)) = inr (k, a.commits state, a.pending k held, f ∙ ap (λ (ks : List Criteria). ks ++ k ∷ []) e, gone)
    by (inr (k, state, held, e, gone)) (inl f) = inr (k, state, held, f ∙ e, none p.pending refl)
      where
        none : (o : Option Criteria) → p.pending ≡ o → p.pending ≡ None
        none None g = g
        none (Some c) g = absurd (let z : None ≡ Some c = sym gone ∙ b.pending c g in cc)
    by (inr (k, state, held, e, gone)) (inr (c, also, more, f, over)) = absurd (let z : None ≡ Some c = sym gone ∙ more in cc)

act_keeps : (r : Record) (y : Moved) → IsAct r y → KeepsAttempt r y.rec
act_keeps r y a = keeps_same r (reserves_if a.acts.move a.acts.now r).rec y.rec (by a.acts.move a.acts.own) a.acts.same
  where
    by : (o : Option ReservationMove) → IsOwn o → KeepsAttempt r (reserves_if o a.acts.now r).rec
    by None own = keeps_self r
    by (Some move) own = own_keeps move a.acts.now r own

-- whatever a record does by itself
pub course_keeps : (r q : Record) (out : List Reply) → Course r q out → KeepsAttempt r q
course_keeps _ _ _ (Course.rests r) = keeps_self r
course_keeps _ _ _ (Course.does r y a) = act_keeps r y a
course_keeps _ _ _ (Course.goes_on r q p xs ys zs a b m) = keeps_then r q p (course_keeps r q xs a) (course_keeps q p ys b)

---- A request

-- What is pending once it has taken a request was pending under the same attempt; or the request is a reserve that asks for it, which is the attempt.
-- What is committed stays.
pub record TakesAttempt (r : Record) (b : Body) (c : ℕ) (q : Record) : Type 0 where
  pub pending : (k : Criteria) → q.pending ≡ Some k → ((q.attempt ≡ r.attempt) × (r.pending ≡ Some k)) ⊎ ((a : ReserveRequest) × (b ≡ Body.Reserve a) × AsksWhenTaken a k × (q.attempt ≡ Some c))
  pub committed : q.committed ≡ r.committed

stays_taken : (r : Record) (b : Body) (c : ℕ) (q : Record) → IsReservationSame r q → TakesAttempt r b c q
stays_taken r b c q s = record { pending = λ k e. inl (s.attempt, sym s.pending ∙ e); committed = s.committed }

same_itself : (r : Record) → IsReservationSame r r
same_itself r = record { rsm = refl; request = refl; attempt = refl; pending = refl; committed = refl }

reserve_taken : (a : ReserveRequest) (side : Side) (c now : ℕ) (r : Record) → TakesAttempt r (Body.Reserve a) c (moves_if side (reserve_move c (asked_criteria now a r.committed)) now r).rec
unfolding moves reserves
reserve_taken a side c now r = by (asked_criteria now a r.committed) refl
  where
    by : (o : Option Criteria) → asked_criteria now a r.committed ≡ o → TakesAttempt r (Body.Reserve a) c (moves_if side (reserve_move c o) now r).rec
    by None e = stays_taken r (Body.Reserve a) c r (same_itself r)
    by (Some p) e = by_found (reserve_step r.rsm (event_of (ReservationMove.Reserve c p)))
      where
        by_found : (o : Option (Rsm × Option Kind)) → TakesAttempt r (Body.Reserve a) c (by_row o (λ next said. reservation_does next (ReservationMove.Reserve c p) now r) r).rec
        by_found None = stays_taken r (Body.Reserve a) c r (same_itself r)
        by_found (Some row) = record { pending = λ k f. inr (a, refl, asks_for now a r.committed k (e ∙ f), refl); committed = refl }

commit_taken : (id c now : ℕ) (r : Record) → TakesAttempt r (Body.ReserveCommit id) c (reserves r.rsm (ReservationMove.Commit c) now r).rec
unfolding reserves
commit_taken id c now r = by_found (reserve_step r.rsm (event_of (ReservationMove.Commit c)))
  where
    by_found : (o : Option (Rsm × Option Kind)) → TakesAttempt r (Body.ReserveCommit id) c (by_row o (λ next said. reservation_does next (ReservationMove.Commit c) now r) r).rec
    by_found None = stays_taken r (Body.ReserveCommit id) c r (same_itself r)
    by_found (Some row) = record { pending = λ k e. inl (refl, e); committed = refl }

abort_taken : (id c now : ℕ) (r : Record) → TakesAttempt r (Body.ReserveAbort id) c (reserves r.rsm (ReservationMove.Abort c) now r).rec
unfolding reserves
abort_taken id c now r = by_found (reserve_step r.rsm (event_of (ReservationMove.Abort c)))
  where
    by_found : (o : Option (Rsm × Option Kind)) → TakesAttempt r (Body.ReserveAbort id) c (by_row o (λ next said. reservation_does next (ReservationMove.Abort c) now r) r).rec
    by_found None = stays_taken r (Body.ReserveAbort id) c r (same_itself r)
    by_found (Some row) = record { pending = λ k e. absurd (let z : None ≡ Some k = e in cc); committed = refl }

pub request_takes : (b : Body) (side : Side) (c now : ℕ) (r : Record) → TakesAttempt r b c (moves_if side (requested now b c r) now r).rec
unfolding requested moves is_reservation_request
request_takes (Body.Reserve a) side c now r = reserve_taken a side c now r
request_takes (Body.ReserveCommit id) side c now r = commit_taken id c now r
request_takes (Body.ReserveAbort id) side c now r = abort_taken id c now r
request_takes (Body.Provision id) side c now r = stays_taken r (Body.Provision id) c _ (request_beside side (Body.Provision id) c now r refl).same
request_takes (Body.Release id) side c now r = stays_taken r (Body.Release id) c _ (request_beside side (Body.Release id) c now r refl).same
request_takes (Body.Terminate id) side c now r = stays_taken r (Body.Terminate id) c _ (request_beside side (Body.Terminate id) c now r refl).same
request_takes b side c now r = stays_taken r b c r (same_itself r)

---- What is pending

-- one of the entries takes a reserve of the owner that asks for it, under the record's attempt
abbrev pub CameUnder : List Entry → Record → Criteria → Type 0
CameUnder es r k = (c : ℕ) × (r.attempt ≡ Some c) × (x : Came r.owner es k) × (x.message.header.correlation ≡ c)

abbrev pub PendingCame : List Entry → Record → Type 0
PendingCame es r = (k : Criteria) → r.pending ≡ Some k → CameUnder es r k

under_attempt : (es : List Entry) (r q : Record) (k : Criteria) → q.owner ≡ r.owner → q.attempt ≡ r.attempt → CameUnder es r k → CameUnder es q k
under_attempt es r q k o a (c, its, x, same) =
    (c, a ∙ its, record { entry = x.entry; there = x.there; message = x.message; got = x.got; from = x.from ∙ sym o; reserve = x.reserve; body = x.body; asks = x.asks }, same)

more_under : (es fs : List Entry) (r : Record) (k : Criteria) → CameUnder es r k → CameUnder (es ++ fs) r k
more_under es fs r k (c, its, x, same) = (c, its, more_came r.owner es fs k x, same)

pending_kept : IsKept PendingCame
pending_kept =
    record {
      more = λ es fs r h k e. more_under es fs r k (h k e);
      course = λ es r q out course h k e.
          let s : KeepsAttempt r q = course_keeps r q out course in
          under_attempt es r q k (course_after r q out course).later.owner s.attempt (h k (s.pending k e));
      taken = λ es e m side now r got owner h k p. by es e m side now r got owner h k ((request_takes m.body side m.header.correlation now r).pending k p);
      fresh = λ es id owner s source dest k e. absurd (let z : None ≡ Some k = e in cc);
      none = λ k e. absurd (let z : None ≡ Some k = e in cc);
    }
  where
    by : (es : List Entry) (e : Entry) (m : Message) (side : Side) (now : ℕ) (r : Record) → e.input ≡ Input.Got m → r.owner ≡ m.header.requester → PendingCame (es ++ e ∷ []) r → (k : Criteria) →
        (((taken_by side now m r).rec.attempt ≡ r.attempt) × (r.pending ≡ Some k)) ⊎ ((a : ReserveRequest) × (m.body ≡ Body.Reserve a) × AsksWhenTaken a k × ((taken_by side now m r).rec.attempt ≡ Some m.header.correlation)) →
        CameUnder (es ++ e ∷ []) (taken_by side now m r).rec k
    by es e m side now r got owner h k (inl (a, p)) = under_attempt (es ++ e ∷ []) r (taken_by side now m r).rec k (moves_if_later side (requested now m.body m.header.correlation r) now r).owner a (h k p)
    by es e m side now r got owner h k (inr (a, is, asks, under)) =
        let q : Record = (taken_by side now m r).rec in
        let from : m.header.requester ≡ q.owner = sym owner ∙ sym (moves_if_later side (requested now m.body m.header.correlation r) now r).owner in
        (m.header.correlation, under, last_came es e m q.owner a k got from is asks, refl)

pub told_pending : (h : Home) → is_requester h.role ≡ false → (es : List Entry) (n : ℕ) → PendingCame es (record_at n (told h es).state.base.records)
told_pending h asked es n = told_kept PendingCame pending_kept h asked es n

---- Runs

pub attempts_were_asked_for : HeardWasSent → EachReserveSaysItsStart → AttemptsWereAskedFor
attempts_were_asked_for heard starts homes events allowed b j n r k agent asked cut there its =
    let w : World = world_after empty events in
    let es : List Entry = take j (w.journal b) in
    let rs : List Record = (state_of_cut homes w b j).base.records in
    let same : record_at n rs ≡ r = get_or_from_slice_get rs n r no_record there in
    let (c, under, x, its_own) = subst (λ (z : Record). PendingCame es z) same (told_pending (homes b) asked es n) k its in
    let h : IsHeard homes w b x.entry = All-contains (IsHeard homes w b) es x.entry (All-take (IsHeard homes w b) j (w.journal b) ((heard homes events allowed).heard b)) x.there in
    let s = subst (λ (i : Input). WasSent homes w b i) x.got h.sent in
    (c, under, record { message = x.message; sent = s.0; to = s.1; from = x.from; reserve = x.reserve; body = x.body; asks = sent_asks starts homes w x.message x.reserve k s.0 x.body x.asks }, its_own)
