-- What a record has as committed, or pending, its owner has asked for.
use Rattle.std.proofs.Common.{ℕ, ◌≡◌, ◌∙◌, ◌⊎◌, inl, inr, Bool, true, false, List, [], ◌∷◌, ◌++◌, take, Contains, Option, Some, None, unwrap_or, option_to_list, if◌then◌else◌, nat_lt, refl, sym, ap, subst, arith}
use Rattle.std.proofs.lemmas.List.Elements.{All-contains, All-take, Contains-append_left, Contains-append_right, Contains-append_cases}
use Rattle.std.proofs.lemmas.Option.{get_or_from_slice_get}
use Rattle.nsi_base.specs.Range.{Span, span_of}
use Rattle.nsi_primitive.specs.declared.entry.Entry.{Entry}
use Rattle.nsi_primitive.specs.declared.entry.Input.{Input}
use Rattle.nsi_primitive.specs.declared.kind.Kind.{Kind}
use Rattle.nsi_primitive.specs.declared.message.Body.{Body}
use Rattle.nsi_primitive.specs.declared.message.Criteria.{Criteria}
use Rattle.nsi_primitive.specs.declared.message.Message.{Message}
use Rattle.nsi_primitive.specs.Messages.{start_at}
use Rattle.nsi_primitive.specs.declared.message.ReserveRequest.{ReserveRequest}
use Rattle.nsi_primitive.specs.declared.message.Service.{Service}
use Rattle.nsi_primitive.specs.declared.state.Rsm.{Rsm}
use Rattle.nsi_primitive.specs.declared.state.Side.{Side}
use Rattle.reserve_machine.specs.Table.{step as reserve_step}
use Rattle.record_index.proofs.Members.{nothing_in}
use Rattle.connection_record.specs.declared.life.LifecycleMove.{LifecycleMove}
use Rattle.connection_record.specs.declared.moves.ReservationMove.{ReservationMove}
use Rattle.connection_record.specs.declared.moves.Reply.{Reply}
use Rattle.connection_record.specs.declared.provisioning.ProvisionMove.{ProvisionMove}
use Rattle.connection_record.specs.declared.record.Record.{Record}
use Rattle.connection_record.specs.Applied.{reserve_move, moves, moves_if, requested}
use Rattle.connection_record.specs.Courses.{IsOwn, IsAct, Course}
use Rattle.connection_record.specs.Demand.{last}
use Rattle.connection_record.specs.Lives.{provisions, lives}
use Rattle.connection_record.specs.Moves.{event_of, reserves, reserves_if, reservation_does, fits, asked_version, criteria_with, asked_criteria, fresh}
use Rattle.connection_record.specs.Replies.{Moved, by_row}
use Rattle.connection_record.proofs.Courses.{course_after}
use Rattle.connection_record.proofs.Growing.{moves_if_later}
use Rattle.agent_state.specs.State.{no_record, record_at}
use Rattle.nsi_world.specs.Worlds.{Homes, World, empty, IsSent}
use Rattle.nsi_world.specs.Runs.{world_after}
use Rattle.nsi_world.specs.Heard.{WasSent, IsHeard}
use Rattle.nsi_world.specs.Laws.{HeardWasSent}
use Rattle.run_growth.specs.Cuts.{state_of_cut}
use Rattle.run_growth.specs.SentLaws.{EachReserveSaysItsStart}
use Rattle.circuit_link.specs.Serving.{taken_by}
use Rattle.circuit_link.proofs.Answering.{only_one}
use Rattle.circuit_fit.proofs.Owning.{lives_as, provisions_as}
use Rattle.circuit_laws.specs.Backed.{AsksFor, WasAskedFor}
use Rattle.circuit_laws.specs.Laws.{CriteriaWereAskedFor}
use Rattle.circuit_laws.proofs.Kept.{IsKept, told_kept}

---- A record by itself

-- it has criteria as committed, or pending
abbrev Has : Record → Criteria → Type 0
Has r k = Contains r.committed k ⊎ (r.pending ≡ Some k)

-- what it has then it had before
abbrev HadAll : Record → Record → Type 0
HadAll r q = (k : Criteria) → Has q k → Has r k

kept : (r q : Record) → q.committed ≡ r.committed → q.pending ≡ r.pending → HadAll r q
kept r q c p k (inl i) = inl (subst (λ (ks : List Criteria). Contains ks k) c i)
kept r q c p k (inr e) = inr (sym p ∙ e)

dropped_pending : (r q : Record) → q.committed ≡ r.committed → q.pending ≡ None → HadAll r q
dropped_pending r q c p k (inl i) = inl (subst (λ (ks : List Criteria). Contains ks k) c i)
dropped_pending r q c p k (inr e) = absurd (let n : None ≡ Some k = sym p ∙ e in cc)

in_option : (o : Option Criteria) (k : Criteria) → Contains (option_to_list o) k → o ≡ Some k
in_option None k i = absurd (nothing_in k i)
in_option (Some c) k i = ap (λ (z : Criteria). Some z) (sym (only_one c k i))

fits_had : (o : Option Criteria) (deadline : Option ℕ) (next : Rsm) (now : ℕ) (r : Record) → HadAll r (fits o deadline next now r).rec
fits_had None deadline next now r = λ k h. h
fits_had (Some c) deadline next now r = λ k h. h

done_had : (next : Rsm) (now : ℕ) (r : Record) → HadAll r (reservation_does next ReservationMove.Done now r).rec
done_had next now r k (inl i) = elim (Contains-append_cases r.committed (option_to_list r.pending) k i) [ inl j ↦ inl j | inr j ↦ inr (in_option r.pending k j) ]
done_had next now r k (inr e) = absurd (cc)

does_had : (move : ReservationMove) (next : Rsm) (now : ℕ) (r : Record) → IsOwn (Some move) → HadAll r (reservation_does next move now r).rec
does_had (ReservationMove.Reserve c k) next now r own = absurd (cc)
does_had (ReservationMove.Commit c) next now r own = absurd (cc)
does_had (ReservationMove.Abort c) next now r own = absurd (cc)
does_had (ReservationMove.Fit deadline) next now r own = fits_had r.pending deadline next now r
does_had (ReservationMove.Lack e) next now r own = dropped_pending r (reservation_does next (ReservationMove.Lack e) now r).rec refl refl
does_had (ReservationMove.HoldEnd origin) next now r own = dropped_pending r (reservation_does next (ReservationMove.HoldEnd origin) now r).rec refl refl
does_had (ReservationMove.Spoiled e mixed) next now r own = dropped_pending r (reservation_does next (ReservationMove.Spoiled e mixed) now r).rec refl refl
does_had ReservationMove.Freed next now r own = kept r (reservation_does next ReservationMove.Freed now r).rec refl refl
does_had ReservationMove.Done next now r own = done_had next now r

reserves_had : (state : Rsm) (move : ReservationMove) (now : ℕ) (r : Record) → IsOwn (Some move) → HadAll r (reserves state move now r).rec
unfolding reserves
reserves_had state move now r own = by_found (reserve_step state (event_of move))
  where
    by_found : (o : Option (Rsm × Option Kind)) → HadAll r (by_row o (λ next said. reservation_does next move now r) r).rec
    by_found None = λ k h. h
    by_found (Some row) = does_had move row.0 now r own

reserves_if_had : (o : Option ReservationMove) (now : ℕ) (r : Record) → IsOwn o → HadAll r (reserves_if o now r).rec
reserves_if_had None now r own = λ k h. h
reserves_if_had (Some move) now r own = reserves_had r.rsm move now r own

act_had : (r : Record) (y : Moved) → IsAct r y → HadAll r y.rec
act_had r y a k h =
    reserves_if_had a.acts.move a.acts.now r a.acts.own k (kept (reserves_if a.acts.move a.acts.now r).rec y.rec a.acts.same.committed a.acts.same.pending k h)

course_had : (r q : Record) (out : List Reply) → Course r q out → HadAll r q
course_had _ _ _ (Course.rests r) k h = h
course_had _ _ _ (Course.does r y a) k h = act_had r y a k h
course_had _ _ _ (Course.goes_on r q p xs ys zs a b m) k h = course_had r q xs a k (course_had q p ys b k h)

---- A request

same_criteria : (x y : Criteria) → Some x ≡ Some y → x ≡ y
same_criteria x y e = cc

same_number : (n k : ℕ) → Some n ≡ Some k → n ≡ k
same_number n k e = cc

-- A reserve asks for criteria whenever it is taken: without a start at the second at which it is.
pub record AsksWhenTaken (q : ReserveRequest) (k : Criteria) : Type 0 where
  pub now : ℕ
  pub interval : span_of (start_at now q) q.end ≡ Some k.interval
  pub capacity : q.capacity ≡ k.capacity
  pub version : (v : ℕ) → q.version ≡ Some v → v ≡ k.version

pub asks_for : (now : ℕ) (q : ReserveRequest) (ks : List Criteria) (k : Criteria) → asked_criteria now q ks ≡ Some k → AsksWhenTaken q k
asks_for now q ks k e = by (span_of (start_at now q) q.end) (asked_version q.version (last ks)) refl refl e
  where
    by : (o : Option Span) (v : Option ℕ) → span_of (start_at now q) q.end ≡ o → asked_version q.version (last ks) ≡ v → criteria_with o v q.capacity ≡ Some k → AsksWhenTaken q k
    by None v s t f = absurd (cc)
    by (Some span) None s t f = absurd (cc)
    by (Some span) (Some version) s t f =
        let same : (let x : Criteria = record { version = version; interval = span; capacity = q.capacity } in x) ≡ k = same_criteria (record { version = version; interval = span; capacity = q.capacity }) k f in
        record {
          now = now;
          interval = s ∙ ap (λ (z : Criteria). Some z.interval) same;
          capacity = ap (λ (z : Criteria). z.capacity) same;
          version = λ n g. same_number n version (sym (ap (λ (o : Option ℕ). asked_version o (last ks)) g) ∙ t) ∙ ap (λ (z : Criteria). z.version) same;
        }

pub spans_same : (a : Span) (b : Span) → span_of a.start a.end ≡ Some b → b ≡ a
spans_same a b e = by (nat_lt a.start a.end) e
  where
    by : (t : Bool) → (if t then Some a else None) ≡ Some b → b ≡ a
    by true f = let z : a ≡ b = cc in sym z
    by false f = absurd (cc)

started : (q : ReserveRequest) (k : Criteria) (start : ℕ) → q.start ≡ Some start → AsksWhenTaken q k → AsksFor q k
started q k start says asks =
    let interval : span_of start q.end ≡ Some k.interval = ap (λ (z : Option ℕ). span_of (unwrap_or z asks.now) q.end) (sym says) ∙ asks.interval in
    let same : start ≡ k.interval.start = ap (λ (z : Span). z.start) (sym (spans_same (record { start = start; end = q.end }) k.interval interval)) in
    record { start = says ∙ ap (λ (z : ℕ). Some z) same; interval = ap (λ (z : ℕ). span_of z q.end) (sym same) ∙ interval; capacity = asks.capacity; version = asks.version }

-- one that was sent says its start
pub sent_asks : EachReserveSaysItsStart → (homes : Homes) (w : World) (m : Message) (q : ReserveRequest) (k : Criteria) → IsSent homes w m → m.body ≡ Body.Reserve q → AsksWhenTaken q k → AsksFor q k
sent_asks starts homes w m q k sent is asks = let (start, says) = starts homes w m sent q is in started q k start says asks

-- what it has once it has taken a request it had before, or the request asks for it
abbrev HadOrAsked : Record → Body → Record → Type 0
HadOrAsked r b q = (k : Criteria) → Has q k → Has r k ⊎ ((a : ReserveRequest) × (b ≡ Body.Reserve a) × AsksWhenTaken a k)

reserve_had : (a : ReserveRequest) (side : Side) (c now : ℕ) (r : Record) → HadOrAsked r (Body.Reserve a) (moves_if side (reserve_move c (asked_criteria now a r.committed)) now r).rec
unfolding moves reserves
reserve_had a side c now r = by (asked_criteria now a r.committed) refl
  where
    by : (o : Option Criteria) → asked_criteria now a r.committed ≡ o → HadOrAsked r (Body.Reserve a) (moves_if side (reserve_move c o) now r).rec
    by None e = λ k h. inl h
    by (Some p) e = by_found (reserve_step r.rsm (event_of (ReservationMove.Reserve c p)))
      where
        by_found : (o : Option (Rsm × Option Kind)) → HadOrAsked r (Body.Reserve a) (by_row o (λ next said. reservation_does next (ReservationMove.Reserve c p) now r) r).rec
        by_found None k h = inl h
        by_found (Some row) k (inl i) = inl (inl i)
        by_found (Some row) k (inr f) = inr (a, refl, asks_for now a r.committed k (e ∙ f))

commit_had : (c now : ℕ) (r : Record) → HadAll r (reserves r.rsm (ReservationMove.Commit c) now r).rec
unfolding reserves
commit_had c now r = by_found (reserve_step r.rsm (event_of (ReservationMove.Commit c)))
  where
    by_found : (o : Option (Rsm × Option Kind)) → HadAll r (by_row o (λ next said. reservation_does next (ReservationMove.Commit c) now r) r).rec
    by_found None = λ k h. h
    by_found (Some row) = λ k h. h

abort_had : (c now : ℕ) (r : Record) → HadAll r (reserves r.rsm (ReservationMove.Abort c) now r).rec
unfolding reserves
abort_had c now r = by_found (reserve_step r.rsm (event_of (ReservationMove.Abort c)))
  where
    by_found : (o : Option (Rsm × Option Kind)) → HadAll r (by_row o (λ next said. reservation_does next (ReservationMove.Abort c) now r) r).rec
    by_found None = λ k h. h
    by_found (Some row) = dropped_pending r (reservation_does row.0 (ReservationMove.Abort c) now r).rec refl refl

taken_had : (b : Body) (side : Side) (c now : ℕ) (r : Record) → HadOrAsked r b (moves_if side (requested now b c r) now r).rec
unfolding requested moves
taken_had (Body.Reserve a) side c now r = reserve_had a side c now r
taken_had (Body.ReserveCommit id) side c now r = λ k h. inl (commit_had c now r k h)
taken_had (Body.ReserveAbort id) side c now r = λ k h. inl (abort_had c now r k h)
taken_had (Body.Provision id) side c now r =
    λ k h. let s = provisions_as side r.psm (ProvisionMove.Provision c) now r in inl (kept r (provisions side r.psm (ProvisionMove.Provision c) now r).rec s.committed s.pending k h)
taken_had (Body.Release id) side c now r =
    λ k h. let s = provisions_as side r.psm (ProvisionMove.Release c) now r in inl (kept r (provisions side r.psm (ProvisionMove.Release c) now r).rec s.committed s.pending k h)
taken_had (Body.Terminate id) side c now r =
    λ k h. let s = lives_as (LifecycleMove.Terminate c) now r in inl (kept r (lives r.lsm (LifecycleMove.Terminate c) now r).rec s.committed s.pending k h)
taken_had _ side c now r = λ k h. inl h

---- Entries

-- one of the entries takes a reserve of that requester that asks for the criteria
pub record Came (owner : List ℕ) (es : List Entry) (k : Criteria) : Type 0 where
  pub entry : Entry
  pub there : Contains es entry
  pub message : Message
  pub got : entry.input ≡ Input.Got message
  pub from : message.header.requester ≡ owner
  pub reserve : ReserveRequest
  pub body : message.body ≡ Body.Reserve reserve
  pub asks : AsksWhenTaken reserve k

-- what a record has came so
abbrev pub AllCame : List Entry → Record → Type 0
AllCame es r = (k : Criteria) → Has r k → Came r.owner es k

abbrev pub more_came : (owner : List ℕ) (es fs : List Entry) (k : Criteria) → Came owner es k → Came owner (es ++ fs) k
more_came owner es fs k c =
    record { entry = c.entry; there = Contains-append_left es fs c.entry c.there; message = c.message; got = c.got; from = c.from; reserve = c.reserve; body = c.body; asks = c.asks }

of_owner : (es : List Entry) (r q : Record) → q.owner ≡ r.owner → HadAll r q → AllCame es r → AllCame es q
of_owner es r q o had came k h = subst (λ (z : List ℕ). Came z es k) (sym o) (came k (had k h))

abbrev pub last_came : (es : List Entry) (e : Entry) (m : Message) (owner : List ℕ) (a : ReserveRequest) (k : Criteria) → e.input ≡ Input.Got m → m.header.requester ≡ owner → m.body ≡ Body.Reserve a → AsksWhenTaken a k →
    Came owner (es ++ e ∷ []) k
last_came es e m owner a k got from is asks =
    record { entry = e; there = Contains-append_right es (e ∷ []) e (0, omega arith, refl); message = m; got = got; from = from; reserve = a; body = is; asks = asks }

-- a record that has taken a request
taken_came : (es : List Entry) (e : Entry) (m : Message) (side : Side) (now : ℕ) (r : Record) → e.input ≡ Input.Got m → r.owner ≡ m.header.requester → AllCame (es ++ e ∷ []) r → AllCame (es ++ e ∷ []) (taken_by side now m r).rec
taken_came es e m side now r got owner came k h = by (taken_had m.body side m.header.correlation now r k h)
  where
    q : Record
    q = (taken_by side now m r).rec

    same : q.owner ≡ r.owner
    same = (moves_if_later side (requested now m.body m.header.correlation r) now r).owner

    by : Has r k ⊎ ((a : ReserveRequest) × (m.body ≡ Body.Reserve a) × AsksWhenTaken a k) → Came q.owner (es ++ e ∷ []) k
    by (inl had) = subst (λ (z : List ℕ). Came z (es ++ e ∷ []) k) (sym same) (came k had)
    by (inr (a, is, asks)) = last_came es e m q.owner a k got (sym owner ∙ sym same) is asks

all_kept : IsKept AllCame
all_kept =
    record {
      more = λ es fs r came k h. more_came r.owner es fs k (came k h);
      course = λ es r q out course came. of_owner es r q (course_after r q out course).later.owner (course_had r q out course) came;
      taken = taken_came;
      fresh = λ es id owner s source dest. fresh_came es id owner s source dest;
      none = none_came;
    }
  where
    fresh_came : (es : List Entry) (id : ℕ) (owner : List ℕ) (s : Service) (source dest : ℕ) → AllCame es (fresh id owner s source dest)
    fresh_came es id owner s source dest k (inl i) = absurd (nothing_in k i)
    fresh_came es id owner s source dest k (inr e) = absurd (cc)

    none_came : AllCame [] no_record
    none_came k (inl i) = absurd (nothing_in k i)
    none_came k (inr e) = absurd (cc)

---- Runs

pub criteria_were_asked_for : HeardWasSent → EachReserveSaysItsStart → CriteriaWereAskedFor
criteria_were_asked_for heard starts homes events allowed b j n r k agent asked cut there its =
    let w : World = world_after empty events in
    let rs : List Record = (state_of_cut homes w b j).base.records in
    let same : record_at n rs ≡ r = get_or_from_slice_get rs n r no_record there in
    let c : Came r.owner (take j (w.journal b)) k =
    subst (λ (z : Record). AllCame (take j (w.journal b)) z) same (told_kept AllCame all_kept (homes b) asked (take j (w.journal b)) n) k (inl its)
    in
    let h : IsHeard homes w b c.entry = All-contains (IsHeard homes w b) (take j (w.journal b)) c.entry (All-take (IsHeard homes w b) j (w.journal b) ((heard homes events allowed).heard b)) c.there in
    sent_so homes w b r.owner k (take j (w.journal b)) c h
  where
    sent_so : (homes : Homes) (w : World) (b : ℕ) (owner : List ℕ) (k : Criteria) (es : List Entry) (c : Came owner es k) → IsHeard homes w b c.entry → WasAskedFor homes w b owner k
    sent_so homes w b owner k es c h =
        let s = subst (λ (i : Input). WasSent homes w b i) c.got h.sent in
        record { message = c.message; sent = s.0; to = s.1; from = c.from; reserve = c.reserve; body = c.body; asks = sent_asks starts homes w c.message c.reserve k s.0 c.body c.asks }
