-- How a view of an aggregator came to know its connection: by answers to reserves of its own, the first of which named none and had the view's points.
use Rattle.std.proofs.Common.{ℕ, ◌≡◌, ◌∙◌, ◌⊎◌, ◌&&◌, ◌==◌, inl, inr, Bool, true, false, List, [], ◌∷◌, ◌++◌, Contains, Option, Some, None, option_to_list, is_none, bytes_eq, eqb-true, refl, sym, ap, subst, arith}
use Rattle.std.specs.List.{All}
use Rattle.std.proofs.lemmas.List.Elements.{All-nil, All-weaker, All-map, Contains-append_left, Contains-append_right}
use Rattle.std.proofs.lemmas.Slice.Eq.{bytes_eq-Decides}
use Rattle.nsi_primitive.specs.Ids.{id_of}
use Rattle.nsi_primitive.specs.Messages.{kind_of}
use Rattle.nsi_primitive.specs.declared.entry.Entry.{Entry}
use Rattle.nsi_primitive.specs.declared.entry.Input.{Input}
use Rattle.nsi_primitive.specs.declared.kind.ErrorName.{ErrorName}
use Rattle.nsi_primitive.specs.declared.kind.Kind.{Kind}
use Rattle.nsi_primitive.specs.declared.message.Body.{Body}
use Rattle.nsi_primitive.specs.declared.message.Criteria.{Criteria}
use Rattle.nsi_primitive.specs.declared.message.Message.{Message}
use Rattle.nsi_primitive.specs.declared.message.ReserveRequest.{ReserveRequest}
use Rattle.nsi_primitive.specs.declared.message.Service.{Service}
use Rattle.connection_record.specs.declared.record.Record.{Record}
use Rattle.connection_record.specs.Applied.{is_terminating}
use Rattle.child_connection.specs.declared.state.Sent.{Sent}
use Rattle.child_connection.specs.declared.state.Taken.{Taken}
use Rattle.child_connection.specs.Asks.{asks, reserve_for, to_child}
use Rattle.child_connection.specs.Hearing.{heard_if, refused, is_reserving_or_held, hears, hear, hear_from}
use Rattle.child_connection.specs.Holding.{teaches}
use Rattle.child_connection.specs.Places.{IsSamePlace}
use Rattle.child_connection.specs.Views.{ChildConnection, sent, open_request, is_id, is_open_of, is_kind}
use Rattle.child_connection.proofs.Places.{asks_known, asks_place, hear_place}
use Rattle.child_connection.proofs.Reservations.{request_stays, attempt_asked}
use Rattle.agent_state.specs.declared.parent.Leg.{Leg}
use Rattle.agent_state.specs.State.{AgentState, record_at, children_at, blank_agent}
use Rattle.aggregator_agent.specs.declared.agent.Agent.{Agent}
use Rattle.aggregator_agent.specs.Asking.{asked_view, request_of, if_free, if_apart, service_for, reserve_if, request_if, may_abort, passed_on, pass_one, pass_each, view_of, views_of, with_path}
use Rattle.aggregator_agent.specs.Setting.{Setting}
use Rattle.aggregator_agent.specs.Settling.{settle}
use Rattle.aggregator_agent.specs.Turns.{takes, tell_joined, pass_on, turn_by_request, request_turn, late_terminate, hear_one, hear_each, hold_ends, force_ends, heard_by, turn_by_answer, answer_turn}
use Rattle.agent_speech.specs.Laws.{IsEven}
use Rattle.agent_speech.proofs.Every.{blank_is_even}
use Rattle.nsi_agent.specs.Homes.{Role, aggregates, Home}
use Rattle.nsi_agent.specs.Steps.{after, after_as}
use Rattle.nsi_agent.specs.Told.{Told, told}
use Rattle.circuit_fit.proofs.Passing.{each_all}
use Rattle.circuit_laws.proofs.Induct.{told_then, told_by}
use Rattle.circuit_laws.proofs.Pointed.{HasPoints}
use Rattle.circuit_laws.proofs.Roles.{even_from}
use Rattle.circuit_laws.proofs.Turned.{Turned, AreTurned, entered}

---- A view

-- one of the entries takes a message of that child under the correlation, which teaches the id
pub record IsTaught (es : List Entry) (child : List ℕ) (c id : ℕ) : Type 0 where
  pub entry : Entry
  pub there : Contains es entry
  pub message : Message
  pub got : entry.input ≡ Input.Got message
  pub from : message.header.provider ≡ child
  pub under : message.header.correlation ≡ c
  pub teaches : teaches message.body ≡ Some id

-- the child was asked a reserve under the correlation, of which P holds
pub record IsReserved (out : List Message) (child : List ℕ) (c : ℕ) (P : ReserveRequest → Type 0) : Type 0 where
  pub message : Message
  pub there : Contains out message
  pub to : message.header.provider ≡ child
  pub under : message.header.correlation ≡ c
  pub reserve : ReserveRequest
  pub body : message.body ≡ Body.Reserve reserve
  pub is : P reserve

-- it names no connection, and has these points
pub record IsFirstBetween (source dest : List ℕ) (q : ReserveRequest) : Type 0 where
  pub unnamed : q.connection ≡ None
  pub points : HasPoints source dest q

abbrev pub IsModification : ℕ → ReserveRequest → Type 0
IsModification id q = q.connection ≡ Some id

-- The id was learnt: under a first reserve between these points, or under a modification of a connection whose id was learnt so.
pub data IsLearnt (es : List Entry) (out : List Message) (child source dest : List ℕ) : ℕ → Type 0 where
  first : (c id : ℕ) → IsTaught es child c id → IsReserved out child c (IsFirstBetween source dest) → IsLearnt es out child source dest id
  again : (c id old : ℕ) → IsTaught es child c id → IsReserved out child c (IsModification old) → IsLearnt es out child source dest old → IsLearnt es out child source dest id

-- a correlation under which the view may learn a connection
abbrev pub Awaits : ChildConnection → ℕ → Type 0
Awaits x c = (x.attempt ≡ Some c) ⊎ (x.reserve_request ≡ Some (sent c Kind.Reserve))

-- what was asked under it
abbrev pub IsAttempted : List Entry → List Message → List ℕ → List ℕ → List ℕ → ℕ → Type 0
IsAttempted es out child source dest c =
    IsReserved out child c (IsFirstBetween source dest) ⊎ ((id : ℕ) × IsReserved out child c (IsModification id) × IsLearnt es out child source dest id)

pub record IsKnowing (es : List Entry) (out : List Message) (x : ChildConnection) : Type 0 where
  pub attempted : (c : ℕ) → Awaits x c → IsAttempted es out x.child x.source x.dest c
  pub known : (id : ℕ) → x.connection ≡ Some id → IsLearnt es out x.child x.source x.dest id

---- More entries

taught_more : (es fs : List Entry) (child : List ℕ) (c id : ℕ) → IsTaught es child c id → IsTaught (es ++ fs) child c id
taught_more es fs child c id t = record { entry = t.entry; there = Contains-append_left es fs t.entry t.there; message = t.message; got = t.got; from = t.from; under = t.under; teaches = t.teaches }

module _ (out more : List Message) (said : (m : Message) → Contains out m → Contains more m) where
  pub reserved_more : (child : List ℕ) (c : ℕ) (P : ReserveRequest → Type 0) → IsReserved out child c P → IsReserved more child c P
  reserved_more child c P r = record { message = r.message; there = said r.message r.there; to = r.to; under = r.under; reserve = r.reserve; body = r.body; is = r.is }

  learnt_more : (es fs : List Entry) (child source dest : List ℕ) (id : ℕ) → IsLearnt es out child source dest id → IsLearnt (es ++ fs) more child source dest id
  learnt_more es fs child source dest _ (IsLearnt.first c id t r) = IsLearnt.first c id (taught_more es fs child c id t) (reserved_more child c (IsFirstBetween source dest) r)
  learnt_more es fs child source dest _ (IsLearnt.again c id old t r l) = IsLearnt.again c id old (taught_more es fs child c id t) (reserved_more child c (IsModification old) r) (learnt_more es fs child source dest old l)

  attempted_more : (es fs : List Entry) (child source dest : List ℕ) (c : ℕ) → IsAttempted es out child source dest c → IsAttempted (es ++ fs) more child source dest c
  attempted_more es fs child source dest c (inl r) = inl (reserved_more child c (IsFirstBetween source dest) r)
  attempted_more es fs child source dest c (inr (id, r, l)) = inr (id, reserved_more child c (IsModification id) r, learnt_more es fs child source dest id l)

  pub knowing_more : (es fs : List Entry) (x : ChildConnection) → IsKnowing es out x → IsKnowing (es ++ fs) more x
  knowing_more es fs x k =
      record { attempted = λ c a. attempted_more es fs x.child x.source x.dest c (k.attempted c a); known = λ id e. learnt_more es fs x.child x.source x.dest id (k.known id e) }

-- a view at the same place
module _ (es : List Entry) (out : List Message) (x y : ChildConnection) (same : IsSamePlace x y) where
  pub attempted_same : (c : ℕ) → IsAttempted es out x.child x.source x.dest c → IsAttempted es out y.child y.source y.dest c
  attempted_same c a =
      subst (λ (z : List ℕ). IsAttempted es out z y.source y.dest c) (sym same.child)
      (subst (λ (z : List ℕ). IsAttempted es out x.child z y.dest c) (sym same.source) (subst (λ (z : List ℕ). IsAttempted es out x.child x.source z c) (sym same.dest) a))

  pub learnt_same : (id : ℕ) → IsLearnt es out x.child x.source x.dest id → IsLearnt es out y.child y.source y.dest id
  learnt_same id l =
      subst (λ (z : List ℕ). IsLearnt es out z y.source y.dest id) (sym same.child)
      (subst (λ (z : List ℕ). IsLearnt es out x.child z y.dest id) (sym same.source) (subst (λ (z : List ℕ). IsLearnt es out x.child x.source z id) (sym same.dest) l))

  knowing_same : ((c : ℕ) → Awaits y c → Awaits x c) → y.connection ≡ x.connection → IsKnowing es out x → IsKnowing es out y
  knowing_same awaits connection k = record { attempted = λ c a. attempted_same c (k.attempted c (awaits c a)); known = λ id e. learnt_same id (k.known id (sym connection ∙ e)) }

new_knowing : (es : List Entry) (out : List Message) (leg : Leg) → IsKnowing es out (view_of leg)
new_knowing es out leg = record { attempted = λ c a. absurd (none c a); known = λ id e. absurd (cc) }
  where
    none : (c : ℕ) → Awaits (view_of leg) c → ⊥
    none c (inl e) = cc
    none c (inr e) = cc

---- A view that asks

pub same_sent : (a b : Sent) → Some a ≡ Some b → a ≡ b
same_sent a b e = cc

pub same_number : (a b : ℕ) → Some a ≡ Some b → a ≡ b
same_number a b e = cc

same_body : (a b : Body) → Some a ≡ Some b → a ≡ b
same_body a b e = cc

-- a request of another kind
pub other_awaits : (k : Kind) (c d : ℕ) (x : ChildConnection) → (k ≡ Kind.Reserve → ⊥) → Awaits (asks k c x) d → Awaits x d
unfolding asks
other_awaits Kind.Reserve c d x never a = absurd (never refl)
other_awaits Kind.ReserveCommit c d x never (inl e) = inl e
other_awaits Kind.ReserveCommit c d x never (inr e) = absurd (let q : sent c Kind.ReserveCommit ≡ sent d Kind.Reserve = same_sent (sent c Kind.ReserveCommit) (sent d Kind.Reserve) e in let k : Kind.ReserveCommit ≡ Kind.Reserve = ap (λ (z : Sent). z.kind) q in cc)
other_awaits Kind.ReserveAbort c d x never (inl e) = inl e
other_awaits Kind.ReserveAbort c d x never (inr e) = absurd (let q : sent c Kind.ReserveAbort ≡ sent d Kind.Reserve = same_sent (sent c Kind.ReserveAbort) (sent d Kind.Reserve) e in let k : Kind.ReserveAbort ≡ Kind.Reserve = ap (λ (z : Sent). z.kind) q in cc)
other_awaits Kind.Provision c d x never a = a
other_awaits Kind.Release c d x never a = a
other_awaits Kind.Terminate c d x never a = a
other_awaits _ c d x never a = a

-- a reserve
pub reserve_awaits : (c d : ℕ) (x : ChildConnection) → Awaits (asks Kind.Reserve c x) d → c ≡ d
unfolding asks
reserve_awaits c d x (inl e) = same_number c d e
reserve_awaits c d x (inr e) = ap (λ (z : Sent). z.correlation) (same_sent (sent c Kind.Reserve) (sent d Kind.Reserve) e)

asked_awaits : (o : Option Body) (k : Kind) (c d : ℕ) (x : ChildConnection) → (k ≡ Kind.Reserve → ⊥) → Awaits (asked_view o k c x) d → Awaits x d
unfolding asked_view
asked_awaits None k c d x never a = a
asked_awaits (Some b) k c d x never a = other_awaits k c d x never a

pub asked_place : (o : Option Body) (k : Kind) (c : ℕ) (x : ChildConnection) → IsSamePlace x (asked_view o k c x)
unfolding asked_view
asked_place None k c x = record { child = refl; source = refl; dest = refl }
asked_place (Some b) k c x = asks_place k c x

pub asked_connection : (o : Option Body) (k : Kind) (c : ℕ) (x : ChildConnection) → (asked_view o k c x).connection ≡ x.connection
unfolding asked_view
asked_connection None k c x = refl
asked_connection (Some b) k c x = (asks_known k c x).0

beside_knowing : (es : List Entry) (out : List Message) (o : Option Body) (k : Kind) (c : ℕ) (x : ChildConnection) → (k ≡ Kind.Reserve → ⊥) → IsKnowing es out x → IsKnowing es out (asked_view o k c x)
beside_knowing es out o k c x never h = knowing_same es out x (asked_view o k c x) (asked_place o k c x) (λ d a. asked_awaits o k c d x never a) (asked_connection o k c x) h

-- the reserve itself: a first one between the view's points, or a modification of the connection that it knows
reserve_is : (o : Option Criteria) (s : Service) (x : ChildConnection) (b : Body) → reserve_if o s x ≡ Some b → (q : ReserveRequest) × (b ≡ Body.Reserve q) × (IsFirstBetween x.source x.dest q ⊎ ((id : ℕ) × (x.connection ≡ Some id) × IsModification id q))
unfolding reserve_if reserve_for
reserve_is None s x b e = absurd (cc)
reserve_is (Some c) s x b e = by (open_request Kind.Reserve x) (bytes_eq x.source x.dest) x.connection refl e
  where
    Is : Type 0
    Is = (q : ReserveRequest) × (b ≡ Body.Reserve q) × (IsFirstBetween x.source x.dest q ⊎ ((id : ℕ) × (x.connection ≡ Some id) × IsModification id q))

    by : (o : Option Sent) (t : Bool) (known : Option ℕ) → x.connection ≡ known →
        if_free o (if_apart t (Some (Body.Reserve (reserve_for (service_for known s) (Some c.version) c.interval.start c.interval.end c.capacity x)))) ≡ Some b →
        (q : ReserveRequest) × (b ≡ Body.Reserve q) × (IsFirstBetween x.source x.dest q ⊎ ((id : ℕ) × (x.connection ≡ Some id) × IsModification id q))
    by (Some r) t known k f = absurd (cc)
    by None true known k f = absurd (cc)
    by None false (Some id) k f =
        let q : ReserveRequest = reserve_for None (Some c.version) c.interval.start c.interval.end c.capacity x in
        (q, sym (same_body (Body.Reserve q) b f), inr (id, k, k))
    by None false None k f =
        let q : ReserveRequest = reserve_for (Some s) (Some c.version) c.interval.start c.interval.end c.capacity x in
        (q, sym (same_body (Body.Reserve q) b f), inl (record { unnamed = refl; points = record { source = refl; dest = refl } }))

reserve_knowing : (es : List Entry) (out : List Message) (parent : List ℕ) (criteria : Option Criteria) (s : Service) (c : ℕ) (x : ChildConnection) (o : Option Body) → reserve_if criteria s x ≡ o →
    ((m : Message) → Contains (option_to_list (request_of o parent c x)) m → Contains out m) → IsKnowing es out x → IsKnowing es out (asked_view o Kind.Reserve c x)
unfolding asked_view
reserve_knowing es out parent criteria s c x None e said h = h
reserve_knowing es out parent criteria s c x (Some b) e said h =
    record { attempted = λ d a. subst (IsAttempted es out y.child y.source y.dest) (reserve_awaits c d x a) (attempted_same es out x y same c here); known = λ id k. learnt_same es out x y same id (h.known id (sym (asks_known Kind.Reserve c x).0 ∙ k)) }
  where
    y : ChildConnection
    y = asks Kind.Reserve c x

    same : IsSamePlace x (asks Kind.Reserve c x)
    same = asks_place Kind.Reserve c x

    there : Contains out (to_child parent c x b)
    there = said (to_child parent c x b) (0, omega arith, refl)

    here : IsAttempted es out x.child x.source x.dest c
    here = by (reserve_is criteria s x b e)
      where
        by : (q : ReserveRequest) × (b ≡ Body.Reserve q) × (IsFirstBetween x.source x.dest q ⊎ ((id : ℕ) × (x.connection ≡ Some id) × IsModification id q)) → IsAttempted es out x.child x.source x.dest c
        by (q, is, inl new) = inl (record { message = to_child parent c x b; there = there; to = refl; under = refl; reserve = q; body = is; is = new })
        by (q, is, inr (id, known, named)) = inr (id, record { message = to_child parent c x b; there = there; to = refl; under = refl; reserve = q; body = is; is = named }, h.known id known)

passed_knowing : (es : List Entry) (out : List Message) (parent : List ℕ) (body : Body) (own : Record) (c : ℕ) (x : ChildConnection) →
    ((m : Message) → Contains (option_to_list (request_of (passed_on body own x) parent c x)) m → Contains out m) → IsKnowing es out x → IsKnowing es out (asked_view (passed_on body own x) (kind_of body) c x)
unfolding passed_on asked_view
passed_knowing es out parent (Body.Reserve q) own c x said h = reserve_knowing es out parent own.pending own.service c x (reserve_if own.pending own.service x) refl said h
passed_knowing es out parent (Body.ReserveCommit id) own c x said h = beside_knowing es out (request_if true Kind.ReserveCommit x) Kind.ReserveCommit c x (λ k. cc) h
passed_knowing es out parent (Body.ReserveAbort id) own c x said h = beside_knowing es out (request_if (may_abort x.phase) Kind.ReserveAbort x) Kind.ReserveAbort c x (λ k. cc) h
passed_knowing es out parent (Body.Provision id) own c x said h = beside_knowing es out (request_if true Kind.Provision x) Kind.Provision c x (λ k. cc) h
passed_knowing es out parent (Body.Release id) own c x said h = beside_knowing es out (request_if true Kind.Release x) Kind.Release c x (λ k. cc) h
passed_knowing es out parent (Body.Terminate id) own c x said h = beside_knowing es out (request_if true Kind.Terminate x) Kind.Terminate c x (λ k. cc) h
passed_knowing es out parent _ own c x said h = h

---- A view that hears

-- the connection stays, or is learnt under a correlation that the view awaits
abbrev Learns : Body → ℕ → ChildConnection → ChildConnection → Type 0
Learns b d x y = (y.connection ≡ x.connection) ⊎ ((id : ℕ) × (teaches b ≡ Some id) × (y.connection ≡ Some id) × Awaits x d)

learns_if : (t : Bool) (w : Taken) (b : Body) (d id : ℕ) (x y : ChildConnection) → teaches b ≡ Some id → y.connection ≡ Some id → (t ≡ true → Awaits x d) → Learns b d x (heard_if t w y x).view
learns_if true w b d id x y e f h = inr (id, e, f, h refl)
learns_if false w b d id x y e f h = inl refl

keeps_if : (t : Bool) (w : Taken) (b : Body) (d : ℕ) (x y : ChildConnection) → y.connection ≡ x.connection → Learns b d x (heard_if t w y x).view
keeps_if true w b d x y e = inl e
keeps_if false w b d x y e = inl refl

refused_keeps : (a p l : Bool) (e : ErrorName) (b : Body) (d : ℕ) (x : ChildConnection) → Learns b d x (refused a p l e x).view
refused_keeps true p l e b d x = inl refl
refused_keeps false true l e b d x = inl refl
refused_keeps false false true e b d x = inl refl
refused_keeps false false false e b d x = inl refl

first_true : (a b : Bool) → (a && b) ≡ true → a ≡ true
first_true true b h = refl
first_true false b h = absurd (cc)

second_true : (a b : Bool) → (a && b) ≡ true → b ≡ true
second_true true b h = h
second_true false b h = absurd (cc)

is_some : (o : Option ℕ) (d : ℕ) → is_id o d ≡ true → o ≡ Some d
is_some None d e = absurd (cc)
is_some (Some c) d e = ap Some (sym (eqb-true d c e))

made_sent : (c d : ℕ) (k l : Kind) → d ≡ c → l ≡ k → Some (sent d l) ≡ Some (sent c k)
made_sent c d k l e f = rw (e, f) refl

reserve_kind : (k : Kind) → is_kind Kind.Reserve k ≡ true → k ≡ Kind.Reserve
unfolding is_kind
reserve_kind k h = grind (arith, h)

open_is : (o : Option Sent) (c : ℕ) → is_open_of o Kind.Reserve c ≡ true → o ≡ Some (sent c Kind.Reserve)
open_is None c e = absurd (cc)
open_is (Some q) c e =
    made_sent c q.correlation Kind.Reserve q.kind (sym (eqb-true c q.correlation (first_true (c == q.correlation) (is_kind Kind.Reserve q.kind) e))) (reserve_kind q.kind (second_true (c == q.correlation) (is_kind Kind.Reserve q.kind) e))

learns : (b : Body) (d : ℕ) (x : ChildConnection) → Learns b d x (hears b d x).view
unfolding hears teaches
learns (Body.ReserveResponse id) d x =
    learns_if _ _ (Body.ReserveResponse id) d id x _ refl refl (λ t. inl (is_some x.attempt d (first_true (is_id x.attempt d) (is_none x.connection) t)))
learns (Body.ReserveConfirmed f) d x = learns_if _ _ (Body.ReserveConfirmed f) d f.connection x _ refl refl (λ t. inr (open_is x.reserve_request d t))
learns (Body.ReserveFailed id ex) d x = learns_if _ _ (Body.ReserveFailed id ex) d id x _ refl refl (λ t. inr (open_is x.reserve_request d t))
learns (Body.ReserveTimeout f) d x =
    learns_if _ _ (Body.ReserveTimeout f) d f.connection x _ refl refl (λ t. inl (is_some x.attempt d (first_true (is_id x.attempt d) (is_reserving_or_held x.phase) t)))
learns (Body.ReserveCommitConfirmed id) d x = keeps_if _ _ (Body.ReserveCommitConfirmed id) d x _ refl
learns (Body.ReserveCommitFailed id ex) d x = keeps_if _ _ (Body.ReserveCommitFailed id ex) d x _ refl
learns (Body.ReserveAbortConfirmed id) d x = keeps_if _ _ (Body.ReserveAbortConfirmed id) d x _ refl
learns (Body.Error id ex) d x = refused_keeps _ _ _ _ (Body.Error id ex) d x
learns (Body.ProvisionConfirmed id) d x = keeps_if _ _ (Body.ProvisionConfirmed id) d x _ refl
learns (Body.ReleaseConfirmed id) d x = keeps_if _ _ (Body.ReleaseConfirmed id) d x _ refl
learns (Body.TerminateConfirmed id) d x = keeps_if _ _ (Body.TerminateConfirmed id) d x _ refl
learns (Body.ErrorEvent f) d x = keeps_if _ _ (Body.ErrorEvent f) d x _ refl
learns (Body.DataPlaneStateChange n) d x = keeps_if _ _ (Body.DataPlaneStateChange n) d x _ refl
learns _ d x = inl refl

-- nothing new is awaited
hears_awaits : (b : Body) (d : ℕ) (x : ChildConnection) (c : ℕ) → Awaits (hears b d x).view c → Awaits x c
hears_awaits b d x c (inl e) = inl (attempt_asked b d x c e)
hears_awaits b d x c (inr e) = by (request_stays b d x)
  where
    by : ((hears b d x).view.reserve_request ≡ x.reserve_request) ⊎ ((hears b d x).view.reserve_request ≡ None) → Awaits x c
    by (inl w) = inr (sym w ∙ e)
    by (inr w) = absurd (let z : None ≡ Some (sent c Kind.Reserve) = sym w ∙ e in cc)

-- an entry takes a message, which the view hears
module _ (es : List Entry) (out : List Message) (e : Entry) (there : Contains es e) (m : Message) (got : e.input ≡ Input.Got m) (x : ChildConnection) (h : IsKnowing es out x) where
  heard_knowing : (t : Bool) → bytes_eq m.header.provider x.child ≡ t → IsSamePlace x (hear_from t m x).view → IsKnowing es out (hear_from t m x).view
  heard_knowing false q same = h
  heard_knowing true q same = record { attempted = λ c a. attempted_same es out x y same c (h.attempted c (hears_awaits m.body m.header.correlation x c a)); known = λ id k. learnt_same es out x y same id (by id k (learns m.body m.header.correlation x)) }
    where
      y : ChildConnection
      y = (hears m.body m.header.correlation x).view

      by : (id : ℕ) → y.connection ≡ Some id → Learns m.body m.header.correlation x y → IsLearnt es out x.child x.source x.dest id
      by id k (inl w) = h.known id (sym w ∙ k)
      by id k (inr (n, teach, new, awaits)) = by_attempt (h.attempted m.header.correlation awaits)
        where
          taught : IsTaught es x.child m.header.correlation id
          taught =
              record {
                entry = e;
                there = there;
                message = m;
                got = got;
                from = (bytes_eq-Decides m.header.provider x.child).0 q;
                under = refl;
                teaches = teach ∙ (sym new ∙ k);
              }

          by_attempt : IsAttempted es out x.child x.source x.dest m.header.correlation → IsLearnt es out x.child x.source x.dest id
          by_attempt (inl r) = IsLearnt.first m.header.correlation id taught r
          by_attempt (inr (old, r, l)) = IsLearnt.again m.header.correlation id old taught r l

  pub hear_knowing : IsKnowing es out (hear m x).view
  hear_knowing = heard_knowing (bytes_eq m.header.provider x.child) refl (hear_place m x)

---- A connection

pub answer_views : (agent : Agent) (now : ℕ) (m : Message) (own : Record) (xs : List ChildConnection) (next : ℕ) →
    ((answer_turn agent now m own xs next).children ≡ (hear_each (is_terminating own.lsm) m agent next xs).children) × ((answer_turn agent now m own xs next).asked ≡ (hear_each (is_terminating own.lsm) m agent next xs).asked)
unfolding answer_turn turn_by_answer tell_joined settle force_ends hold_ends heard_by
answer_views agent now m own xs next = (refl, refl)

pub request_views : (agent : Agent) (now : ℕ) (m : Message) (own : Record) (xs : List ChildConnection) (next : ℕ) →
    ((request_turn agent now m own xs next).children ≡ (pass_each m agent (takes m now own).rec next xs).children) × ((request_turn agent now m own xs next).asked ≡ (pass_each m agent (takes m now own).rec next xs).asked)
unfolding request_turn turn_by_request tell_joined settle pass_on
request_views agent now m own xs next = (refl, refl)

path_knowing : (es : List Entry) (out : List Message) (body : Body) (xs : List ChildConnection) (legs : List Leg) → All (IsKnowing es out) xs → All (IsKnowing es out) (with_path body xs legs)
unfolding with_path views_of
path_knowing es out (Body.Reserve q) [] legs all = All-map (IsKnowing es out) view_of legs (λ k d l. new_knowing es out _)
path_knowing es out (Body.Reserve q) (x ∷ xs) legs all = all
path_knowing es out _ xs legs all = all

module _ (agent : Agent) (es : List Entry) (e : Entry) (before out more : List Message) (older : (m : Message) → Contains before m → Contains out m) (newer : (m : Message) → Contains more m → Contains out m) where
  abbrev fs : List Entry
  fs = es ++ e ∷ []

  last : Contains (es ++ e ∷ []) e
  last = Contains-append_right es (e ∷ []) e (0, omega arith, refl)

  all_more : (xs : List ChildConnection) → All (IsKnowing es before) xs → All (IsKnowing fs out) xs
  all_more xs all = All-weaker (IsKnowing es before) (IsKnowing fs out) (λ x h. knowing_more before out older es (e ∷ []) x h) xs all

  request_knowing : (m : Message) (now next : ℕ) (own : Record) (xs : List ChildConnection) → ((n : Message) → Contains (request_turn agent now m own xs next).asked n → Contains out n) → All (IsKnowing fs out) xs →
      All (IsKnowing fs out) (request_turn agent now m own xs next).children
  request_knowing m now next own xs said all =
      let w = request_views agent now m own xs next in
      let r : Record = (takes m now own).rec in
      subst (All (IsKnowing fs out)) (sym w.0)
      (each_all (λ n x. pass_one m agent r n x) (IsKnowing fs out) (IsKnowing fs out) out (λ n x h i. passed_knowing fs out agent.name m.body r (id_of agent.number n) x i h) next xs all
      (λ n i. said n (subst (λ (zs : List Message). Contains zs n) (sym w.1) i)))

  turned_knowing : (own own' : Record) (xs ys : List ChildConnection) → Turned agent e.input own xs own' ys more → All (IsKnowing es before) xs → All (IsKnowing fs out) ys
  turned_knowing own own' xs ys (Turned.by_rest a same none) all = subst (All (IsKnowing fs out)) (sym same) (all_more xs all)
  turned_knowing own own' xs ys (Turned.by_answer m now next got turn) all =
      let w = answer_views agent now m own xs next in
      subst (All (IsKnowing fs out)) (sym (turn.views ∙ w.0))
      (each_all (λ n x. hear_one (is_terminating own.lsm) m agent n x) (IsKnowing fs out) (IsKnowing fs out) out
      (λ n x h i.
      beside_knowing fs out (late_terminate (is_terminating own.lsm) m x) Kind.Terminate (id_of agent.number n) (hear m x).view (λ k. cc) (hear_knowing fs out e last m got x h)) next xs (all_more xs all)
      (λ n i. newer n (subst (λ (zs : List Message). Contains zs n) (sym (turn.asked ∙ w.1)) i)))
  turned_knowing own own' xs ys (Turned.by_request m now next legs got fine turn) all =
      subst (All (IsKnowing fs out)) (sym turn.views)
      (request_knowing m now next own (with_path m.body xs legs) (λ n i. newer n (subst (λ (zs : List Message). Contains zs n) (sym turn.asked) i)) (path_knowing fs out m.body xs legs (all_more xs all)))
  turned_knowing own own' xs ys (Turned.by_opening m q now next id source dest legs got body same none turn) all =
      subst (All (IsKnowing fs out)) (sym turn.views)
      (request_knowing m now next _ (with_path m.body [] legs) (λ n i. newer n (subst (λ (zs : List Message). Contains zs n) (sym turn.asked) i)) (path_knowing fs out m.body [] legs (All-nil (IsKnowing fs out))))

---- Entries

-- an entry of an aggregator, by connection
abbrev pub TurnsAll : Role → Agent → Type 0
TurnsAll role agent =
    (s : AgentState) (e : Entry) → IsEven role s → AreTurned agent e.input s.base.records s.children (after_as role s e).state.base.records (after_as role s e).state.children (after_as role s e).out

aggregator_turns : (setting : Setting) → TurnsAll (aggregates setting) setting.agent
unfolding after_as
aggregator_turns setting s e even = entered setting s even e

pub role_turns : (role : Role) (setting : Setting) → role ≡ aggregates setting → TurnsAll role setting.agent
role_turns role setting is = subst (λ (r : Role). TurnsAll r setting.agent) (sym is) (aggregator_turns setting)

-- whatever entries an aggregator has taken
pub told_learnt : (h : Home) (setting : Setting) → h.role ≡ aggregates setting → (es : List Entry) (n : ℕ) → All (IsKnowing es (told h es).out) (children_at n (told h es).state.children)
told_learnt h setting role es = told_by h (λ fs x. (n : ℕ) → All (IsKnowing fs x.out) (children_at n x.state.children)) more (λ n. All-nil (IsKnowing [] [])) es
  where
    more : (fs : List Entry) (e : Entry) → ((n : ℕ) → All (IsKnowing fs (told h fs).out) (children_at n (told h fs).state.children)) →
        (let x : Told = told_then h (told h fs) e in (n : ℕ) → All (IsKnowing (fs ++ e ∷ []) x.out) (children_at n x.state.children))
    more fs e all n =
        let s : AgentState = (told h fs).state in
        let out : List Message = (told h fs).out in
        let t = role_turns h.role setting role s e (even_from h fs blank_agent (blank_is_even h)) in
        turned_knowing setting.agent fs e out (out ++ (after h s e).out) (t.more n) (λ m i. Contains-append_left out (after h s e).out m i)
        (λ m i. Contains-append_right out (after h s e).out m (t.said n m i)) (record_at n s.base.records) (record_at n (after h s e).state.base.records) (children_at n s.children)
        (children_at n (after h s e).state.children) (t.each n) (all n)
