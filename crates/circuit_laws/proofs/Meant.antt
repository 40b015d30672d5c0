-- What an aggregator's own record checks, holds or commits is what the attempts of its views ask for.
use Rattle.std.proofs.Common.{ℕ, ◌≡◌, ◌∙◌, ◌⊎◌, inl, inr, Bool, true, false, List, [], ◌∷◌, ◌++◌, Contains, Option, Some, None, option_to_list, bytes_eq, get_or, true≢false, refl, sym, ap, subst, arith}
use Rattle.std.specs.List.{All}
use Rattle.std.proofs.lemmas.List.Elements.{All-nil, All-weaker, All-map}
use Rattle.nsi_primitive.specs.Ids.{id_of}
use Rattle.nsi_primitive.specs.Messages.{kind_of}
use Rattle.nsi_primitive.specs.declared.entry.Input.{Input}
use Rattle.nsi_primitive.specs.declared.kind.Kind.{Kind}
use Rattle.nsi_primitive.specs.declared.message.Body.{Body}
use Rattle.nsi_primitive.specs.declared.message.Criteria.{Criteria}
use Rattle.nsi_primitive.specs.declared.message.Message.{Message}
use Rattle.nsi_primitive.specs.declared.message.ReserveRequest.{ReserveRequest}
use Rattle.nsi_primitive.specs.declared.message.Service.{Service}
use Rattle.nsi_primitive.specs.declared.state.Rsm.{Rsm}
use Rattle.nsi_primitive.specs.declared.state.Side.{Side}
use Rattle.connection_record.specs.declared.record.Record.{Record}
use Rattle.connection_record.specs.declared.moves.Reply.{Reply}
use Rattle.connection_record.specs.Applied.{is_terminating}
use Rattle.connection_record.specs.Courses.{Course}
use Rattle.connection_record.specs.Moves.{fresh, is_live, service_of}
use Rattle.connection_record.specs.Refusal.{is_in_place, has_row}
use Rattle.connection_record.proofs.Unrefused.{unrefused_fits, reserve_row}
use Rattle.child_connection.specs.declared.state.Sent.{Sent}
use Rattle.child_connection.specs.Asks.{asks, reserve_for, to_child}
use Rattle.child_connection.specs.Hearing.{hear, hear_from}
use Rattle.child_connection.specs.Places.{IsSamePlace}
use Rattle.child_connection.specs.Views.{ChildConnection, open_request}
use Rattle.child_connection.proofs.Places.{hear_place}
use Rattle.child_connection.proofs.Reservations.{attempt_asked}
use Rattle.agent_state.specs.declared.parent.Leg.{Leg}
use Rattle.agent_state.specs.State.{name_or}
use Rattle.aggregator_agent.specs.declared.agent.Agent.{Agent}
use Rattle.aggregator_agent.specs.Asking.{Turn, asked_view, request_of, each, service_for, reserve_if, request_if, may_abort, passed_on, pass_one, view_of, views_of, with_path}
use Rattle.aggregator_agent.specs.Turns.{takes, request_turn, late_terminate, hear_one, answer_turn}
use Rattle.circuit_fit.specs.Fits.{pending_of, IsFitting, Fits}
use Rattle.circuit_fit.proofs.Owning.{IsAsBefore}
use Rattle.circuit_fit.proofs.Passing.{each_all}
use Rattle.circuit_link.proofs.Aggregators.{From, request_from, answer_from}
use Rattle.circuit_laws.proofs.Criteria.{AsksWhenTaken}
use Rattle.circuit_laws.proofs.Attempts.{course_keeps, request_takes}
use Rattle.circuit_laws.proofs.Learnt.{IsReserved, reserved_more, asked_place, answer_views, request_views}
use Rattle.circuit_laws.proofs.Tried.{is_busy, course_busy, taken_busy}
use Rattle.circuit_laws.proofs.Trying.{view_attempt, unmixed}
use Rattle.circuit_laws.proofs.Turned.{Turned}

-- a reserve asks for these criteria
pub record Means (k : Criteria) (q : ReserveRequest) : Type 0 where
  pub start : q.start ≡ Some k.interval.start
  pub end : q.end ≡ k.interval.end
  pub capacity : q.capacity ≡ k.capacity
  pub version : q.version ≡ Some k.version

-- The attempt of a view, if it has one, asks for what the own record works on; and a view of one point has none.
pub record IsMeant (out : List Message) (own : Record) (x : ChildConnection) : Type 0 where
  pub apart : (c : ℕ) → x.attempt ≡ Some c → bytes_eq x.source x.dest ≡ false
  pub meant : (k : Criteria) (c : ℕ) → is_busy own.rsm ≡ true → own.pending ≡ Some k → x.attempt ≡ Some c → IsReserved out x.child c (Means k)

---- What stays

-- what the own record works on then it worked on before
abbrev pub WorkStays : Record → Record → Type 0
WorkStays r q = (k : Criteria) → is_busy q.rsm ≡ true → q.pending ≡ Some k → (is_busy r.rsm ≡ true) × (r.pending ≡ Some k)

course_work : (r q : Record) (out : List Reply) → Course r q out → WorkStays r q
course_work r q out course k busy e = (course_busy r q out course busy, (course_keeps r q out course).pending k e)

before_work : (r q : Record) → IsAsBefore r q → WorkStays r q
before_work r q a k busy e = (sym (ap is_busy a.rsm) ∙ busy, sym a.pending ∙ e)

meant_more : (out more : List Message) (own : Record) (x : ChildConnection) → ((m : Message) → Contains out m → Contains more m) → IsMeant out own x → IsMeant more own x
meant_more out more own x said h = record { apart = h.apart; meant = λ k c busy e f. reserved_more out more said x.child c (Means k) (h.meant k c busy e f) }

meant_then : (out : List Message) (own own' : Record) (x y : ChildConnection) → WorkStays own own' → IsSamePlace x y → ((c : ℕ) → y.attempt ≡ Some c → x.attempt ≡ Some c) → IsMeant out own x → IsMeant out own' y
meant_then out own own' x y work same attempt h =
    record {
      apart = λ c e. subst (λ (s : List ℕ). bytes_eq s y.dest ≡ false) (sym same.source) (subst (λ (s : List ℕ). bytes_eq x.source s ≡ false) (sym same.dest) (h.apart c (attempt c e)));
      meant = λ k c busy e f.
          let w = work k busy e in
          subst (λ (z : List ℕ). IsReserved out z c (Means k)) (sym same.child) (h.meant k c w.0 w.1 (attempt c f));
    }

at_place : (x : ChildConnection) → IsSamePlace x x
at_place x = record { child = refl; source = refl; dest = refl }

meant_own : (out : List Message) (own own' : Record) (x : ChildConnection) → WorkStays own own' → IsMeant out own x → IsMeant out own' x
meant_own out own own' x work h = meant_then out own own' x x work (at_place x) (λ c e. e) h

---- A view that hears

hear_attempt : (m : Message) (x : ChildConnection) (c : ℕ) → (hear m x).view.attempt ≡ Some c → x.attempt ≡ Some c
hear_attempt m x c e = by (bytes_eq m.header.provider x.child) e
  where
    by : (t : Bool) → (hear_from t m x).view.attempt ≡ Some c → x.attempt ≡ Some c
    by true f = attempt_asked m.body m.header.correlation x c f
    by false f = f

hear_meant : (out : List Message) (own : Record) (m : Message) (x : ChildConnection) → IsMeant out own x → IsMeant out own (hear m x).view
hear_meant out own m x h = meant_then out own own x (hear m x).view (λ k busy e. (busy, e)) (hear_place m x) (λ c e. hear_attempt m x c e) h

beside_meant : (out : List Message) (own : Record) (o : Option Body) (k : Kind) (c : ℕ) (x : ChildConnection) → (k ≡ Kind.Reserve → ⊥) → IsMeant out own x → IsMeant out own (asked_view o k c x)
beside_meant out own o k c x never h = meant_then out own own x (asked_view o k c x) (λ k busy e. (busy, e)) (asked_place o k c x) (λ d e. sym (view_attempt o k c x never) ∙ e) h

---- A view that is asked

means_it : (o : Option Service) (k : Criteria) (x : ChildConnection) → Means k (reserve_for o (Some k.version) k.interval.start k.interval.end k.capacity x)
unfolding reserve_for
means_it None k x = record { start = refl; end = refl; capacity = refl; version = refl }
means_it (Some s) k x = record { start = refl; end = refl; capacity = refl; version = refl }

-- the reserve of a view that has nothing unanswered
abbrev reserve_of : Criteria → Service → ChildConnection → ReserveRequest
reserve_of k s x = reserve_for (service_for x.connection s) (Some k.version) k.interval.start k.interval.end k.capacity x

apart_asked : (k : Criteria) (s : Service) (x : ChildConnection) → x.reserve_request ≡ None → bytes_eq x.source x.dest ≡ false → reserve_if (Some k) s x ≡ Some (Body.Reserve (reserve_of k s x))
unfolding reserve_if open_request
apart_asked k s x e f = rw (e, f) refl

one_point_unasked : (k : Criteria) (s : Service) (x : ChildConnection) → x.reserve_request ≡ None → bytes_eq x.source x.dest ≡ true → reserve_if (Some k) s x ≡ None
unfolding reserve_if open_request
one_point_unasked k s x e f = rw (e, f) refl

none_asked : (s : Service) (x : ChildConnection) → reserve_if None s x ≡ None
unfolding reserve_if
none_asked s x = refl

same_number : (n k : ℕ) → Some n ≡ Some k → n ≡ k
same_number n k e = cc

same_criteria : (n k : Criteria) → Some n ≡ Some k → n ≡ k
same_criteria n k e = cc

module _ (out : List Message) (parent : List ℕ) (r : Record) (c : ℕ) (x : ChildConnection) (alone : (d : ℕ) → x.attempt ≡ Some d → bytes_eq x.source x.dest ≡ false) where
  -- it isn't asked, and has no attempt
  left_meant : ((k : Criteria) → r.pending ≡ Some k → bytes_eq x.source x.dest ≡ true) → IsMeant out r x
  left_meant one = record { apart = alone; meant = λ k d busy e f. absurd (true≢false (sym (one k e) ∙ alone d f)) }

  asked_meant : (k : Criteria) (q : ReserveRequest) → r.pending ≡ Some k → Means k q → bytes_eq x.source x.dest ≡ false → Contains out (to_child parent c x (Body.Reserve q)) → IsMeant out r (asks Kind.Reserve c x)
  unfolding asks
  asked_meant k q p means far there =
      record {
        apart = λ d e. far;
        meant = λ h d busy e f.
            subst (λ (n : Criteria). IsReserved out x.child d (Means n)) (same_criteria k h (sym p ∙ e))
            (record { message = to_child parent c x (Body.Reserve q); there = there; to = refl; under = same_number c d f; reserve = q; body = refl; is = means });
      }

  reserve_meant : (o : Option Body) → reserve_if r.pending r.service x ≡ o → x.reserve_request ≡ None → ((m : Message) → Contains (option_to_list (request_of o parent c x)) m → Contains out m) → IsMeant out r (asked_view o Kind.Reserve c x)
  unfolding asked_view
  reserve_meant o e free said = by r.pending refl (bytes_eq x.source x.dest) refl
    where
      is_left : o ≡ None → ((k : Criteria) → r.pending ≡ Some k → bytes_eq x.source x.dest ≡ true) → IsMeant out r (asked_view o Kind.Reserve c x)
      is_left n one = subst (λ (z : Option Body). IsMeant out r (asked_view z Kind.Reserve c x)) (sym n) (left_meant one)

      by : (p : Option Criteria) → r.pending ≡ p → (t : Bool) → bytes_eq x.source x.dest ≡ t → IsMeant out r (asked_view o Kind.Reserve c x)
      by None p t far = is_left (sym e ∙ ap (λ (z : Option Criteria). reserve_if z r.service x) p ∙ none_asked r.service x) (λ k g. absurd (let z : None ≡ Some k = sym p ∙ g in cc))
      by (Some k) p true far = is_left (sym e ∙ ap (λ (z : Option Criteria). reserve_if z r.service x) p ∙ one_point_unasked k r.service x free far) (λ h g. far)
      by (Some k) p false far =
          let q : ReserveRequest = reserve_of k r.service x in
          let is : o ≡ Some (Body.Reserve q) = sym e ∙ ap (λ (z : Option Criteria). reserve_if z r.service x) p ∙ apart_asked k r.service x free far in
          subst (λ (z : Option Body). IsMeant out r (asked_view z Kind.Reserve c x)) (sym is)
          (asked_meant k q p (means_it (service_for x.connection r.service) k x) far
          (said (to_child parent c x (Body.Reserve q)) (subst (λ (z : Option Body). Contains (option_to_list (request_of z parent c x)) (to_child parent c x (Body.Reserve q))) (sym is) (0, omega arith, refl))))

---- A request

pub is_reserve : (b : Body) → ((q : ReserveRequest) × (b ≡ Body.Reserve q)) ⊎ ((q : ReserveRequest) → b ≡ Body.Reserve q → ⊥)
is_reserve (Body.Reserve q) = inl (q, refl)
is_reserve _ = inr (λ q e. cc)

passed_meant : (out : List Message) (b : Body) (own r : Record) (c : ℕ) (x : ChildConnection) → ((q : ReserveRequest) → b ≡ Body.Reserve q → ⊥) → IsMeant out r x → IsMeant out r (asked_view (passed_on b own x) (kind_of b) c x)
unfolding passed_on asked_view
passed_meant out (Body.Reserve q) own r c x never h = absurd (never q refl)
passed_meant out (Body.ReserveCommit id) own r c x never h = beside_meant out r (request_if true Kind.ReserveCommit x) Kind.ReserveCommit c x (λ e. cc) h
passed_meant out (Body.ReserveAbort id) own r c x never h = beside_meant out r (request_if (may_abort x.phase) Kind.ReserveAbort x) Kind.ReserveAbort c x (λ e. cc) h
passed_meant out (Body.Provision id) own r c x never h = beside_meant out r (request_if true Kind.Provision x) Kind.Provision c x (λ e. cc) h
passed_meant out (Body.Release id) own r c x never h = beside_meant out r (request_if true Kind.Release x) Kind.Release c x (λ e. cc) h
passed_meant out (Body.Terminate id) own r c x never h = beside_meant out r (request_if true Kind.Terminate x) Kind.Terminate c x (λ e. cc) h
passed_meant out _ own r c x never h = h

-- a reserve that is passed on
passed_reserve : (out : List Message) (parent : List ℕ) (b : Body) (q : ReserveRequest) (r : Record) (c : ℕ) (x : ChildConnection) → b ≡ Body.Reserve q → x.reserve_request ≡ None → ((d : ℕ) → x.attempt ≡ Some d → bytes_eq x.source x.dest ≡ false) →
    ((m : Message) → Contains (option_to_list (request_of (passed_on b r x) parent c x)) m → Contains out m) → IsMeant out r (asked_view (passed_on b r x) (kind_of b) c x)
unfolding passed_on
passed_reserve out parent (Body.Reserve a) q r c x is free alone said = reserve_meant out parent r c x alone (reserve_if r.pending r.service x) refl free said
passed_reserve out parent _ q r c x is free alone said = absurd (cc)

-- another request than a reserve leaves what the own record works on
taken_work : (m : Message) (now : ℕ) (own : Record) → ((q : ReserveRequest) → m.body ≡ Body.Reserve q → ⊥) → WorkStays own (takes m now own).rec
unfolding takes
taken_work m now own never k busy e = (by_busy (taken_busy m.body Side.Aggregator m.header.correlation now own busy), by_pending ((request_takes m.body Side.Aggregator m.header.correlation now own).pending k e))
  where
    q : Record
    q = (takes m now own).rec

    by_busy : ((is_busy own.rsm ≡ true) × (q.attempt ≡ own.attempt) × (q.rsm ≡ Rsm.ReserveCommitting → (own.rsm ≡ Rsm.ReserveCommitting) ⊎ ((id : ℕ) × (m.body ≡ Body.ReserveCommit id)))) ⊎
        ((a : ReserveRequest) × (m.body ≡ Body.Reserve a) × (q.attempt ≡ Some m.header.correlation) × (q.rsm ≡ Rsm.ReserveCommitting → ⊥)) → is_busy own.rsm ≡ true
    by_busy (inl w) = w.0
    by_busy (inr w) = absurd (never w.0 w.1)

    by_pending : ((q.attempt ≡ own.attempt) × (own.pending ≡ Some k)) ⊎ ((a : ReserveRequest) × (m.body ≡ Body.Reserve a) × AsksWhenTaken a k × (q.attempt ≡ Some m.header.correlation)) → own.pending ≡ Some k
    by_pending (inl w) = w.1
    by_pending (inr w) = absurd (never w.0 w.1)

-- a view whose child has nothing unanswered
abbrev pub IsFree : ChildConnection → Type 0
IsFree x = x.reserve_request ≡ None

module _ (agent : Agent) (m : Message) (now next : ℕ) (own : Record) (zs : List ChildConnection) (out : List Message) (said : (n : Message) → Contains (request_turn agent now m own zs next).asked n → Contains out n) where
  abbrev t : Turn
  t = request_turn agent now m own zs next

  abbrev r : Record
  r = (takes m now own).rec

  settled : All (IsMeant out (takes m now own).rec) (request_turn agent now m own zs next).children → All (IsMeant out (request_turn agent now m own zs next).own) (request_turn agent now m own zs next).children
  settled all =
      let f : From (takes m now own) t = request_from agent now m own zs next in
      All-weaker (IsMeant out r) (IsMeant out t.own) (λ x h. meant_own out r t.own x (course_work r t.own (f.rest ++ t.notices) f.course) h) t.children all

  asked_said : (n : Message) → Contains (each (λ n x. pass_one m agent r n x) next zs).asked n → Contains out n
  asked_said n i = said n (subst (λ (ms : List Message). Contains ms n) (sym (request_views agent now m own zs next).1) i)

  other_request : ((q : ReserveRequest) → m.body ≡ Body.Reserve q → ⊥) → All (IsMeant out own) zs → All (IsMeant out t.own) t.children
  other_request never all =
      settled (subst (All (IsMeant out r)) (sym (request_views agent now m own zs next).0)
      (each_all (λ n x. pass_one m agent r n x) (IsMeant out own) (IsMeant out r) out
      (λ n x h i. passed_meant out m.body r r (id_of agent.number n) x never (meant_own out own r x (taken_work m now own never) h)) next zs all asked_said))

  reserve_request : (q : ReserveRequest) → m.body ≡ Body.Reserve q → All (λ x. IsFree x × IsMeant out own x) zs → All (IsMeant out t.own) t.children
  reserve_request q is all =
      settled (subst (All (IsMeant out r)) (sym (request_views agent now m own zs next).0)
      (each_all (λ n x. pass_one m agent r n x) (λ x. IsFree x × IsMeant out own x) (IsMeant out r) out
      (λ n x h i. passed_reserve out agent.name m.body q r (id_of agent.number n) x is h.0 h.1.apart i) next zs all asked_said))

  pub request_meant : All (IsMeant out own) zs → ((q : ReserveRequest) → m.body ≡ Body.Reserve q → All IsFree zs) → All (IsMeant out t.own) t.children
  request_meant all free = by (is_reserve m.body)
    where
      by : ((q : ReserveRequest) × (m.body ≡ Body.Reserve q)) ⊎ ((q : ReserveRequest) → m.body ≡ Body.Reserve q → ⊥) → All (IsMeant out t.own) t.children
      by (inl (q, is)) = reserve_request q is (λ i d l. (free q is i d l, all i d l))
      by (inr never) = other_request never all

---- An entry

-- where the own record begins no view has anything unanswered
pub start_free : (parent : List ℕ) (asked : List Message) (own : Record) (xs : List ChildConnection) → Fits parent asked own xs → is_live own.lsm ≡ true → own.mixed ≡ false → own.rsm ≡ Rsm.ReserveStart → All IsFree xs
start_free parent asked own xs fit live whole start i d l = by (xs_at.reserve_request) refl
  where
    xs_at : ChildConnection
    xs_at = get_or xs i d

    by : (o : Option Sent) → xs_at.reserve_request ≡ o → o ≡ None
    by None e = refl
    by (Some q) e = absurd ((subst (λ (k : Rsm). IsFitting parent asked k (pending_of own) xs_at) start (fit.fits live whole i d l)).waits q e)

new_meant : (out : List Message) (own : Record) (leg : Leg) → IsMeant out own (view_of leg)
new_meant out own leg = record { apart = λ c e. absurd (cc); meant = λ k c busy p e. absurd (cc) }

path_meant : (out : List Message) (own : Record) (body : Body) (xs : List ChildConnection) (legs : List Leg) → All (IsMeant out own) xs → All (IsMeant out own) (with_path body xs legs)
unfolding with_path views_of
path_meant out own (Body.Reserve q) [] legs all = All-map (IsMeant out own) view_of legs (λ k d l. new_meant out own _)
path_meant out own (Body.Reserve q) (x ∷ xs) legs all = all
path_meant out own _ xs legs all = all

path_free : (body : Body) (xs : List ChildConnection) (legs : List Leg) → All IsFree xs → All IsFree (with_path body xs legs)
unfolding with_path views_of
path_free (Body.Reserve q) [] legs all = All-map IsFree view_of legs (λ k d l. refl)
path_free (Body.Reserve q) (x ∷ xs) legs all = all
path_free _ xs legs all = all

module _ (agent : Agent) (input : Input) (parent : List ℕ) (asked before out more : List Message) (older : (m : Message) → Contains before m → Contains out m) (newer : (m : Message) → Contains more m → Contains out m) where
  pub turned_meant : (own own' : Record) (xs ys : List ChildConnection) → Turned agent input own xs own' ys more → Fits parent asked own xs → All (IsMeant before own) xs → All (IsMeant out own') ys
  turned_meant own own' xs ys turn fit all = by turn
    where
      now_all : All (IsMeant out own) xs
      now_all = All-weaker (IsMeant before own) (IsMeant out own) (λ x h. meant_more before out own x older h) xs all

      by : Turned agent input own xs own' ys more → All (IsMeant out own') ys
      by (Turned.by_rest a same none) = subst (All (IsMeant out own')) (sym same) (All-weaker (IsMeant out own) (IsMeant out own') (λ x h. meant_own out own own' x (before_work own own' a) h) xs now_all)
      by (Turned.by_answer m now next got t) =
          let u : Turn = answer_turn agent now m own xs next in
          let f = answer_from agent now m own xs next in
          let w = answer_views agent now m own xs next in
          subst (λ (q : Record). All (IsMeant out q) ys) (sym t.own) (subst (All (IsMeant out u.own)) (sym (t.views ∙ w.0))
          (each_all (λ n x. hear_one (is_terminating own.lsm) m agent n x) (IsMeant out own) (IsMeant out u.own) out
          (λ n x h i.
          beside_meant out u.own (late_terminate (is_terminating own.lsm) m x) Kind.Terminate (id_of agent.number n) (hear m x).view (λ k. cc)
          (hear_meant out u.own m x (meant_own out own u.own x (course_work own u.own (f.rest ++ u.notices) f.course) h))) next xs now_all
          (λ n i. newer n (subst (λ (zs : List Message). Contains zs n) (sym (t.asked ∙ w.1)) i))))
      by (Turned.by_request m now next legs got fine t) =
          let zs : List ChildConnection = with_path m.body xs legs in
          let u : Turn = request_turn agent now m own zs next in
          let g = unrefused_fits now m.body own fine in
          subst (λ (q : Record). All (IsMeant out q) ys) (sym t.own) (subst (All (IsMeant out u.own)) (sym t.views)
          (request_meant agent m now next own zs out (λ n i. newer n (subst (λ (ms : List Message). Contains ms n) (sym t.asked) i)) (path_meant out own m.body xs legs now_all)
          (λ q is. path_free m.body xs legs (start_free parent asked own xs fit g.live
          (unmixed q own (subst (λ (b : Body). is_in_place b own ≡ true) is g.in_place)) (reserve_row q own (subst (λ (b : Body). has_row b own ≡ true) is g.row))))))
      by (Turned.by_opening m q now next id source dest legs got body same none t) =
          let r0 : Record = fresh id m.header.requester (service_of q (name_or q.source) (name_or q.dest)) source dest in
          let zs : List ChildConnection = with_path m.body [] legs in
          let u : Turn = request_turn agent now m r0 zs next in
          subst (λ (z : Record). All (IsMeant out z) ys) (sym t.own) (subst (All (IsMeant out u.own)) (sym t.views)
          (request_meant agent m now next r0 zs out (λ n i. newer n (subst (λ (ms : List Message). Contains ms n) (sym t.asked) i)) (path_meant out r0 m.body [] legs (All-nil (IsMeant out r0)))
          (λ a is. path_free m.body [] legs (All-nil IsFree))))
