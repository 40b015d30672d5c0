-- What a record checks, holds or commits is the attempt of a view: whatever the child does keeps it so.
use Rattle.std.proofs.Common.{ℕ, zero, suc, ◌≡◌, ◌<◌, ◌≤◌, ◌∙◌, ◌⊎◌, inl, inr, Bool, true, false, List, [], ◌∷◌, ◌++◌, ◌==◌, length, length-append, Contains, eq-eqb, Option, Some, None, get_or-set_same, get_or-set_other, refl, sym, ap, subst, arith}
use Rattle.std.proofs.lemmas.Bool.{cases_eq}
use Rattle.nsi_primitive.specs.Kinds.{kind_number}
use Rattle.nsi_primitive.specs.Messages.{kind_of, connection_of, is_request}
use Rattle.nsi_primitive.specs.declared.entry.Input.{Input}
use Rattle.nsi_primitive.specs.declared.kind.Kind.{Kind}
use Rattle.nsi_primitive.specs.declared.message.Body.{Body}
use Rattle.nsi_primitive.specs.declared.message.Criteria.{Criteria}
use Rattle.nsi_primitive.specs.declared.message.Header.{Header}
use Rattle.nsi_primitive.specs.declared.message.Message.{Message}
use Rattle.nsi_primitive.specs.declared.message.ReserveRequest.{ReserveRequest}
use Rattle.nsi_primitive.specs.declared.state.Rsm.{Rsm}
use Rattle.nsi_primitive.specs.declared.state.Side.{Side}
use Rattle.message_retry.specs.Taken.{is_taken}
use Rattle.reserve_machine.specs.Table.{step as reserve_step}
use Rattle.connection_record.specs.declared.moves.ReservationMove.{ReservationMove}
use Rattle.connection_record.specs.declared.moves.Reply.{Reply}
use Rattle.connection_record.specs.declared.record.Record.{Record}
use Rattle.connection_record.specs.Applied.{reserve_move, moves, moves_if, requested}
use Rattle.connection_record.specs.Courses.{IsOwn, IsReservationSame, IsAct, Course, is_reservation_request}
use Rattle.connection_record.specs.Moves.{event_of, reserves, reserves_if, asked_criteria, fresh}
use Rattle.connection_record.specs.Replies.{Moved, id_or}
use Rattle.connection_record.specs.Speaking.{owed, owed_reserve}
use Rattle.connection_record.proofs.Beside.{request_beside}
use Rattle.connection_record.proofs.Courses.{course_after}
use Rattle.connection_record.proofs.Growing.{moves_if_later}
use Rattle.child_connection.specs.Holding.{is_reservation, IsHeeded}
use Rattle.child_connection.specs.Views.{ChildConnection, sent}
use Rattle.agent_state.specs.State.{no_record, record_at}
use Rattle.circuit_link.specs.Children.{Child, side_of, IsFair}
use Rattle.circuit_link.specs.Headers.{header_of}
use Rattle.circuit_link.specs.Links.{IsAttempt}
use Rattle.circuit_link.specs.Serving.{IsNew, Serves, taken_by}
use Rattle.circuit_link.proofs.Abouts.{headers_same}
use Rattle.circuit_link.proofs.Answering.{same_some}
use Rattle.circuit_link.proofs.Minding.{link_asked}
use Rattle.circuit_link.proofs.Opening.{last_here, last_there}
use Rattle.circuit_pairs.specs.Pairs.{IsAsked, IsSame, IsPair, IsOnce}
use Rattle.circuit_pairs.proofs.Refusing.{reserving_asks}
use Rattle.circuit_pairs.proofs.Serving.{request_kind}
use Rattle.circuit_laws.proofs.Attempts.{KeepsAttempt, course_keeps}

---- A record by itself

-- it checks, holds or commits what was asked of it
abbrev pub is_busy : Rsm → Bool
is_busy Rsm.ReserveChecking = true
is_busy Rsm.ReserveHeld = true
is_busy Rsm.ReserveCommitting = true
is_busy _ = false

own_busy : (move : ReservationMove) (now : ℕ) (r : Record) → IsOwn (Some move) → is_busy (reserves r.rsm move now r).rec.rsm ≡ true → is_busy r.rsm ≡ true
unfolding reserves reserve_step event_of
own_busy move now r o e = grind (arith, o, e)

act_busy : (r : Record) (y : Moved) → IsAct r y → is_busy y.rec.rsm ≡ true → is_busy r.rsm ≡ true
act_busy r y a e = by a.acts.move a.acts.own (sym (ap is_busy a.acts.same.rsm) ∙ e)
  where
    by : (o : Option ReservationMove) → IsOwn o → is_busy (reserves_if o a.acts.now r).rec.rsm ≡ true → is_busy r.rsm ≡ true
    by None own e = e
    by (Some move) own e = own_busy move a.acts.now r own e

pub course_busy : (r q : Record) (out : List Reply) → Course r q out → is_busy q.rsm ≡ true → is_busy r.rsm ≡ true
course_busy _ _ _ (Course.rests r) e = e
course_busy _ _ _ (Course.does r y a) e = act_busy r y a e
course_busy _ _ _ (Course.goes_on r q p xs ys zs a b m) e = course_busy r q xs a (course_busy q p ys b e)

---- A request

-- A record that is busy once it has taken a request was, with the same attempt, and commits what it committed or takes a commit; or the request is a
-- reserve, which is the attempt and isn't being committed.
abbrev pub Busy : Record → Body → ℕ → Record → Type 0
Busy r b c q =
    is_busy q.rsm ≡ true →
    ((is_busy r.rsm ≡ true) × (q.attempt ≡ r.attempt) × (q.rsm ≡ Rsm.ReserveCommitting → (r.rsm ≡ Rsm.ReserveCommitting) ⊎ ((id : ℕ) × (b ≡ Body.ReserveCommit id)))) ⊎
    ((a : ReserveRequest) × (b ≡ Body.Reserve a) × (q.attempt ≡ Some c) × (q.rsm ≡ Rsm.ReserveCommitting → ⊥))

same_busy : (r : Record) (b : Body) (c : ℕ) (q : Record) → IsReservationSame r q → Busy r b c q
same_busy r b c q s e = inl (sym (ap is_busy s.rsm) ∙ e, s.attempt, λ k. inl (sym s.rsm ∙ k))

busy_itself : (r : Record) (b : Body) (c : ℕ) → Busy r b c r
busy_itself r b c e = inl (e, refl, λ k. inl k)

reserve_busy : (k : Rsm) (a : ReserveRequest) (c now : ℕ) (p : Criteria) (r : Record) → r.rsm ≡ k → Busy r (Body.Reserve a) c (reserves k (ReservationMove.Reserve c p) now r).rec
unfolding reserves reserve_step event_of
reserve_busy Rsm.ReserveStart a c now p r s e = inr (a, refl, refl, λ k. cc)
reserve_busy Rsm.ReserveChecking a c now p r s e = busy_itself r (Body.Reserve a) c e
reserve_busy Rsm.ReserveHeld a c now p r s e = busy_itself r (Body.Reserve a) c e
reserve_busy Rsm.ReserveFailed a c now p r s e = busy_itself r (Body.Reserve a) c e
reserve_busy Rsm.ReserveCommitting a c now p r s e = busy_itself r (Body.Reserve a) c e
reserve_busy Rsm.ReserveTimeout a c now p r s e = busy_itself r (Body.Reserve a) c e
reserve_busy Rsm.ReserveAborting a c now p r s e = busy_itself r (Body.Reserve a) c e

commit_busy : (k : Rsm) (id c now : ℕ) (r : Record) → r.rsm ≡ k → Busy r (Body.ReserveCommit id) c (reserves k (ReservationMove.Commit c) now r).rec
unfolding reserves reserve_step event_of
commit_busy Rsm.ReserveHeld id c now r s e = inl (ap is_busy s, refl, λ k. inr (id, refl))
commit_busy Rsm.ReserveStart id c now r s e = busy_itself r (Body.ReserveCommit id) c e
commit_busy Rsm.ReserveChecking id c now r s e = busy_itself r (Body.ReserveCommit id) c e
commit_busy Rsm.ReserveFailed id c now r s e = busy_itself r (Body.ReserveCommit id) c e
commit_busy Rsm.ReserveCommitting id c now r s e = busy_itself r (Body.ReserveCommit id) c e
commit_busy Rsm.ReserveTimeout id c now r s e = busy_itself r (Body.ReserveCommit id) c e
commit_busy Rsm.ReserveAborting id c now r s e = busy_itself r (Body.ReserveCommit id) c e

abort_busy : (k : Rsm) (id c now : ℕ) (r : Record) → r.rsm ≡ k → Busy r (Body.ReserveAbort id) c (reserves k (ReservationMove.Abort c) now r).rec
unfolding reserves reserve_step event_of
abort_busy Rsm.ReserveHeld id c now r s e = absurd (cc)
abort_busy Rsm.ReserveFailed id c now r s e = absurd (cc)
abort_busy Rsm.ReserveTimeout id c now r s e = absurd (cc)
abort_busy Rsm.ReserveStart id c now r s e = busy_itself r (Body.ReserveAbort id) c e
abort_busy Rsm.ReserveChecking id c now r s e = busy_itself r (Body.ReserveAbort id) c e
abort_busy Rsm.ReserveCommitting id c now r s e = busy_itself r (Body.ReserveAbort id) c e
abort_busy Rsm.ReserveAborting id c now r s e = busy_itself r (Body.ReserveAbort id) c e

pub taken_busy : (b : Body) (side : Side) (c now : ℕ) (r : Record) → Busy r b c (moves_if side (requested now b c r) now r).rec
unfolding requested moves is_reservation_request
taken_busy (Body.Reserve a) side c now r = by (asked_criteria now a r.committed)
  where
    by : (o : Option Criteria) → Busy r (Body.Reserve a) c (moves_if side (reserve_move c o) now r).rec
    by None = busy_itself r (Body.Reserve a) c
    by (Some p) = reserve_busy r.rsm a c now p r refl
taken_busy (Body.ReserveCommit id) side c now r = commit_busy r.rsm id c now r refl
taken_busy (Body.ReserveAbort id) side c now r = abort_busy r.rsm id c now r refl
taken_busy (Body.Provision id) side c now r = same_busy r (Body.Provision id) c _ (request_beside side (Body.Provision id) c now r refl).same
taken_busy (Body.Release id) side c now r = same_busy r (Body.Release id) c _ (request_beside side (Body.Release id) c now r refl).same
taken_busy (Body.Terminate id) side c now r = same_busy r (Body.Terminate id) c _ (request_beside side (Body.Terminate id) c now r refl).same
taken_busy b side c now r = busy_itself r b c

---- A record and the views of its owner

-- its attempt is that of a view, which knows it where it commits
pub record IsTriedBy (I : Type 0) (xs : I → ChildConnection) (r : Record) : Type 0 where
  pub view : I
  pub attempt : ℕ
  pub its : r.attempt ≡ Some attempt
  pub views : (xs view).attempt ≡ Some attempt
  pub known : r.rsm ≡ Rsm.ReserveCommitting → (xs view).connection ≡ Some r.id

-- so is that of each record of the parent that is busy
abbrev pub AllTried : (I : Type 0) → List ℕ → (I → ChildConnection) → List Record → Type 0
AllTried I parent xs rs = (n : ℕ) → (record_at n rs).owner ≡ parent → is_busy (record_at n rs).rsm ≡ true → IsTriedBy I xs (record_at n rs)

pub busy_within : (rs : List Record) (n : ℕ) → is_busy (record_at n rs).rsm ≡ true → n < length rs
busy_within [] n e = absurd (cc)
busy_within (r ∷ rs) zero e = omega arith
busy_within (r ∷ rs) (suc n) e = omega (arith, busy_within rs n e)

-- what is checked or held may end under its attempt
busy_owes : (a : ℕ) (r : Record) → (r.rsm ≡ Rsm.ReserveChecking) ⊎ (r.rsm ≡ Rsm.ReserveHeld) → r.attempt ≡ Some a → 1 ≤ owed a (kind_number Kind.ReserveTimeout) r
unfolding owed owed_reserve kind_number
busy_owes a r (inl s) e = omega (arith, checking (r.rsm) s)
  where
    same : (a == id_or r.attempt) ≡ true
    same = ap (λ (o : Option ℕ). a == id_or o) e ∙ eq-eqb a a refl

    checking : (k : Rsm) → k ≡ Rsm.ReserveChecking → 1 ≤ owed_reserve k a (kind_number Kind.ReserveTimeout) r
    checking k s = subst (λ (z : Rsm). 1 ≤ owed_reserve z a (kind_number Kind.ReserveTimeout) r) (sym s) (grind (arith, same))
busy_owes a r (inr s) e = omega (arith, holding (r.rsm) s)
  where
    same : (a == id_or r.attempt) ≡ true
    same = ap (λ (o : Option ℕ). a == id_or o) e ∙ eq-eqb a a refl

    holding : (k : Rsm) → k ≡ Rsm.ReserveHeld → 1 ≤ owed_reserve k a (kind_number Kind.ReserveTimeout) r
    holding k s = subst (λ (z : Rsm). 1 ≤ owed_reserve z a (kind_number Kind.ReserveTimeout) r) (sym s) (grind (arith, same))

busy_state : (k : Rsm) → is_busy k ≡ true → ((k ≡ Rsm.ReserveChecking) ⊎ (k ≡ Rsm.ReserveHeld)) ⊎ (k ≡ Rsm.ReserveCommitting)
busy_state Rsm.ReserveChecking e = inl (inl refl)
busy_state Rsm.ReserveHeld e = inl (inr refl)
busy_state Rsm.ReserveCommitting e = inr refl
busy_state Rsm.ReserveStart e = absurd (cc)
busy_state Rsm.ReserveFailed e = absurd (cc)
busy_state Rsm.ReserveTimeout e = absurd (cc)
busy_state Rsm.ReserveAborting e = absurd (cc)

module _ (I : Type 0) (parent child : List ℕ) (xs : I → ChildConnection) (asked : List Message) (d : Child) (pair : IsPair I parent child xs asked d) (fair : IsFair parent child d) where
  -- a record that a view knows is at its place
  known_place : (i : I) (n : ℕ) → n < length d.records → (xs i).connection ≡ Some (record_at n d.records).id → pair.place i ≡ Some n
  known_place i n l e =
      let s = (pair.mates i).seated.known (record_at n d.records).id e in
      s.1 ∙ ap (λ (z : ℕ). Some z) (fair.ids s.0 n ((pair.mates i).seated.seated s.0 s.1).0 l s.2)

  -- so is one that is busy with its attempt
  pub its_place : (n : ℕ) → (record_at n d.records).owner ≡ parent → is_busy (record_at n d.records).rsm ≡ true → (t : IsTriedBy I xs (record_at n d.records)) → pair.place t.view ≡ Some n
  its_place n owned busy t = by (busy_state (record_at n d.records).rsm busy)
    where
      r : Record
      r = record_at n d.records

      heeded : IsHeeded (xs t.view) t.attempt
      heeded = inl t.views

      at_place : (o : Option ℕ) → pair.place t.view ≡ o → 1 ≤ owed t.attempt (kind_number Kind.ReserveTimeout) r → pair.place t.view ≡ Some n
      at_place None p l = absurd (omega (arith, l, (pair.mates t.view).seated.others n (λ q. let z : None ≡ Some n = sym p ∙ q in cc) owned t.attempt heeded (kind_number Kind.ReserveTimeout)))
      at_place (Some k) p l = by_number (cases_eq k n)
        where
          by_number : (k ≡ n) ⊎ (k ≡ n → ⊥) → pair.place t.view ≡ Some n
          by_number (inl q) = p ∙ ap (λ (z : ℕ). Some z) q
          by_number (inr q) =
              absurd (omega (arith, l, (pair.mates t.view).seated.others n (λ w. q (same_some k n (sym p ∙ w))) owned t.attempt heeded (kind_number Kind.ReserveTimeout)))

      by : ((r.rsm ≡ Rsm.ReserveChecking) ⊎ (r.rsm ≡ Rsm.ReserveHeld)) ⊎ (r.rsm ≡ Rsm.ReserveCommitting) → pair.place t.view ≡ Some n
      by (inl s) = at_place (pair.place t.view) refl (busy_owes t.attempt r s t.its)
      by (inr s) = known_place t.view n (busy_within d.records n busy) (t.known s)

  ---- The view's own request

  -- a request of the reservation that comes is a view's own
  pub record IsOwnOf (m : Message) : Type 0 where
    pub view : I
    pub waits : (xs view).reserve_request ≡ Some (sent m.header.correlation (kind_of m.body))
    pub connection : (xs view).connection ≡ connection_of m.body
    pub attempt : IsAttempt (kind_of m.body) m.header.correlation (xs view)

  own_request : IsOnce parent asked → (m : Message) → Contains asked m → is_request m.body ≡ true → m.header.requester ≡ parent → m.header.provider ≡ child → is_reservation (kind_of m.body) ≡ true → is_taken m.header d.seen ≡ false → IsOwnOf m
  own_request once m there asks from to kind new =
      let c : ℕ = m.header.correlation in
      let head : m.header ≡ header_of parent child c = headers_same c c m.header.requester parent m.header.provider child refl from to in
      let (i, k, waits) = pair.untaken m there kind to new in
      let s : IsAsked parent child c asked (IsSame k (xs i).connection) = pair.unseen i c k waits (ap (λ (h : Header). is_taken h d.seen) (sym head) ∙ new) in
      let of_kind : is_reservation k ≡ true = request_kind (xs i) (side_of parent child (pair.place i) d) c k (pair.mates i).linked waits in
      let one : m ≡ s.message =
      once.once m s.message there s.there asks (reserving_asks s.message (ap is_reservation s.is.0 ∙ of_kind)) (sym (ap (λ (h : Header). h.correlation) s.header))
      in
      let same : k ≡ kind_of m.body = sym s.is.0 ∙ sym (ap (λ (z : Message). kind_of z.body) one) in
      record {
        view = i;
        waits = waits ∙ ap (λ (z : Kind). Some (sent c z)) same;
        connection = sym s.is.1 ∙ sym (ap (λ (z : Message). connection_of z.body) one);
        attempt = subst (λ (z : Kind). IsAttempt z c (xs i)) same (link_asked parent child d (xs i) (side_of parent child (pair.place i) d) c k (pair.mates i).linked waits).1;
      }

  ---- What the child does

  module _ (once : IsOnce parent asked) where
    -- the record of a request that is taken
    taken_tried : (m : Message) (side : Side) (now : ℕ) (r : Record) → (is_reservation (kind_of m.body) ≡ true → IsOwnOf m) → (is_busy r.rsm ≡ true → IsTriedBy I xs r) →
        ((id : ℕ) → m.body ≡ Body.ReserveCommit id → is_busy r.rsm ≡ true → (t : IsTriedBy I xs r) → (xs t.view).connection ≡ Some r.id) → is_busy (taken_by side now m r).rec.rsm ≡ true → IsTriedBy I xs (taken_by side now m r).rec
    unfolding is_reservation
    taken_tried m side now r own had commit busy = by (taken_busy m.body side c now r busy)
      where
        c : ℕ
        c = m.header.correlation

        q : Record
        q = (taken_by side now m r).rec

        same_id : Some r.id ≡ Some q.id
        same_id = ap (λ (n : ℕ). Some n) (sym (moves_if_later side (requested now m.body c r) now r).id)

        reserving : (a : ReserveRequest) → m.body ≡ Body.Reserve a → (o : IsOwnOf m) → (xs o.view).attempt ≡ Some c
        reserving a is o = subst (λ (k : Kind). IsAttempt k c (xs o.view)) (ap kind_of is) o.attempt

        by : ((is_busy r.rsm ≡ true) × (q.attempt ≡ r.attempt) × (q.rsm ≡ Rsm.ReserveCommitting → (r.rsm ≡ Rsm.ReserveCommitting) ⊎ ((id : ℕ) × (m.body ≡ Body.ReserveCommit id)))) ⊎
            ((a : ReserveRequest) × (m.body ≡ Body.Reserve a) × (q.attempt ≡ Some c) × (q.rsm ≡ Rsm.ReserveCommitting → ⊥)) → IsTriedBy I xs q
        by (inl (b, same, commits)) = record { view = t.view; attempt = t.attempt; its = same ∙ t.its; views = t.views; known = λ k. known (commits k) ∙ same_id }
          where
            t : IsTriedBy I xs r
            t = had b

            known : (r.rsm ≡ Rsm.ReserveCommitting) ⊎ ((id : ℕ) × (m.body ≡ Body.ReserveCommit id)) → (xs t.view).connection ≡ Some r.id
            known (inl s) = t.known s
            known (inr (id, is)) = commit id is b t
        by (inr (a, is, at, never)) =
            let o : IsOwnOf m = own (ap (λ (b : Body). is_reservation (kind_of b)) is) in
            record { view = o.view; attempt = c; its = at; views = reserving a is o; known = λ k. absurd (never k) }

    -- what it does then by itself
    course_tried : (r q : Record) (out : List Reply) → Course r q out → (is_busy r.rsm ≡ true → IsTriedBy I xs r) → is_busy q.rsm ≡ true → IsTriedBy I xs q
    course_tried r q out course had busy =
        let t : IsTriedBy I xs r = had (course_busy r q out course busy) in
        let keeps : KeepsAttempt r q = course_keeps r q out course in
        record { view = t.view; attempt = t.attempt; its = keeps.attempt ∙ t.its; views = t.views; known = λ k. t.known (keeps.commits k) ∙ ap (λ (n : ℕ). Some n) (sym (course_after r q out course).later.id) }

    module _ (tried : AllTried I parent xs d.records) (input : Input) (records : List Record) (seen : List Header) (out : List Message)
        (were : (m : Message) → input ≡ Input.Got m → is_request m.body ≡ true → m.header.requester ≡ parent → Contains asked m) where
      own_of : (m : Message) → IsNew input m d seen → m.header.requester ≡ parent → m.header.provider ≡ child → is_reservation (kind_of m.body) ≡ true → IsOwnOf m
      own_of m new from to kind = own_request once m (were m new.got new.request from) new.request from to kind new.untaken

      pub served_tried : Serves child input d records seen out → AllTried I parent xs records
      unfolding is_reservation
      served_tried (Serves.acts same courses) = λ n owned busy.
          let r : Record = record_at n d.records in
          course_tried r (record_at n records) (courses.said n) (courses.each n) (tried n (sym (course_after r (record_at n records) (courses.said n) (courses.each n)).later.owner ∙ owned)) busy
      served_tried (Serves.leaves m new kind same silent) = subst (AllTried I parent xs) (sym same) tried
      served_tried (Serves.refuses m error now new refused same only) = subst (AllTried I parent xs) (sym same) tried
      served_tried (Serves.takes m n side now new about turn) = λ k owned busy. by k owned busy (cases_eq k n)
        where
          r : Record
          r = record_at n d.records

          q : Record
          q = (taken_by side now m r).rec

          at_place : record_at n records ≡ turn.after
          at_place = ap (record_at n) turn.records ∙ get_or-set_same d.records n turn.after no_record about.within

          its : turn.after.owner ≡ parent → is_busy turn.after.rsm ≡ true → IsTriedBy I xs turn.after
          its after_owned after_busy = course_tried q turn.after turn.said turn.course (taken_tried m side now r own (tried n r_owned) commit) after_busy
            where
              r_owned : r.owner ≡ parent
              r_owned = sym (moves_if_later side (requested now m.body m.header.correlation r) now r).owner ∙ (sym (course_after q turn.after turn.said turn.course).later.owner ∙ after_owned)

              own : is_reservation (kind_of m.body) ≡ true → IsOwnOf m
              own kind = own_of m new (sym about.owner ∙ r_owned) about.provider kind

              commit : (id : ℕ) → m.body ≡ Body.ReserveCommit id → is_busy r.rsm ≡ true → (t : IsTriedBy I xs r) → (xs t.view).connection ≡ Some r.id
              commit id is b t =
                  let o : IsOwnOf m = own (ap (λ (z : Body). is_reservation (kind_of z)) is) in
                  let knows : (xs o.view).connection ≡ Some r.id = o.connection ∙ (about.names ∙ ap (λ (z : ℕ). Some z) (sym about.its_id)) in
                  let one : o.view ≡ t.view = pair.apart o.view t.view n (known_place o.view n about.within knows) (its_place n r_owned b t) in
                  ap (λ (i : I). (xs i).connection) (sym one) ∙ knows

          by : (k : ℕ) → (record_at k records).owner ≡ parent → is_busy (record_at k records).rsm ≡ true → (k ≡ n) ⊎ (k ≡ n → ⊥) → IsTriedBy I xs (record_at k records)
          by k owned busy (inl e) =
              let here : record_at k records ≡ turn.after = ap (λ (z : ℕ). record_at z records) e ∙ at_place in
              subst (IsTriedBy I xs) (sym here) (its (sym (ap (λ (z : Record). z.owner) here) ∙ owned) (sym (ap (λ (z : Record). is_busy z.rsm) here) ∙ busy))
          by k owned busy (inr a) =
              let there : record_at k records ≡ record_at k d.records = ap (record_at k) turn.records ∙ get_or-set_other d.records n k turn.after no_record a in
              subst (IsTriedBy I xs) (sym there) (tried k (sym (ap (λ (z : Record). z.owner) there) ∙ owned) (sym (ap (λ (z : Record). is_busy z.rsm) there) ∙ busy))
      served_tried (Serves.opens m id service source dest side now new first turn) = λ k owned busy. by k owned busy (cases_eq k (length d.records))
        where
          f : Record
          f = fresh id m.header.requester service source dest

          rows : List Record
          rows = d.records ++ f ∷ []

          n : ℕ
          n = length d.records

          r : Record
          r = record_at n rows

          is_fresh : r ≡ f
          is_fresh = last_here d.records f no_record

          idle : is_busy r.rsm ≡ true → ⊥
          idle e = let z : false ≡ true = sym (ap (λ (y : Record). is_busy y.rsm) is_fresh) ∙ e in cc

          q : Record
          q = (taken_by side now m r).rec

          at_place : record_at n records ≡ turn.after
          at_place = ap (record_at n) turn.records ∙ get_or-set_same rows n turn.after no_record (omega (arith, length-append d.records (f ∷ [])))

          its : turn.after.owner ≡ parent → is_busy turn.after.rsm ≡ true → IsTriedBy I xs turn.after
          its after_owned after_busy = course_tried q turn.after turn.said turn.course (taken_tried m side now r own (λ b. absurd (idle b)) (λ i is b t. absurd (idle b))) after_busy
            where
              r_owned : r.owner ≡ parent
              r_owned = sym (moves_if_later side (requested now m.body m.header.correlation r) now r).owner ∙ (sym (course_after q turn.after turn.said turn.course).later.owner ∙ after_owned)

              own : is_reservation (kind_of m.body) ≡ true → IsOwnOf m
              own kind = own_of m new (sym (ap (λ (z : Record). z.owner) is_fresh) ∙ r_owned) first.provider kind

          by : (k : ℕ) → (record_at k records).owner ≡ parent → is_busy (record_at k records).rsm ≡ true → (k ≡ n) ⊎ (k ≡ n → ⊥) → IsTriedBy I xs (record_at k records)
          by k owned busy (inl e) =
              let here : record_at k records ≡ turn.after = ap (λ (z : ℕ). record_at z records) e ∙ at_place in
              subst (IsTriedBy I xs) (sym here) (its (sym (ap (λ (z : Record). z.owner) here) ∙ owned) (sym (ap (λ (z : Record). is_busy z.rsm) here) ∙ busy))
          by k owned busy (inr a) =
              let there : record_at k records ≡ record_at k d.records = ap (record_at k) turn.records ∙ (get_or-set_other rows n k turn.after no_record a ∙ last_there d.records f no_record k a) in
              subst (IsTriedBy I xs) (sym there) (tried k (sym (ap (λ (z : Record). z.owner) there) ∙ owned) (sym (ap (λ (z : Record). is_busy z.rsm) there) ∙ busy))
