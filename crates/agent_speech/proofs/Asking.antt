-- What the children of an aggregator's connection are asked: requests in its own name, each under an id of its own, which their views hold.
use Rattle.std.proofs.Common.{ℕ, ◌+◌, ◌≤◌, ◌≡◌, Bool, true, false, not, List, [], ◌∷◌, ◌++◌, Option, Some, None, inl, ◌&&◌, refl, ap, ◌∙◌, arith, bytes_eq, is_none}
use Rattle.std.specs.Option.{option_map}
use Rattle.nsi_primitive.specs.Ids.{id_of}
use Rattle.nsi_primitive.specs.Messages.{kind_of}
use Rattle.nsi_primitive.specs.declared.kind.Kind.{Kind}
use Rattle.nsi_primitive.specs.declared.message.Body.{Body}
use Rattle.nsi_primitive.specs.declared.message.Criteria.{Criteria}
use Rattle.nsi_primitive.specs.declared.message.Header.{Header}
use Rattle.nsi_primitive.specs.declared.message.Message.{Message}
use Rattle.nsi_primitive.specs.declared.message.ReserveRequest.{ReserveRequest}
use Rattle.nsi_primitive.specs.declared.message.Service.{Service}
use Rattle.connection_record.specs.declared.record.Record.{Record}
use Rattle.connection_record.specs.Speaking.{one, tally, is_asking, is_noting, is_answering}
use Rattle.connection_record.proofs.Saying.{tally_append}
use Rattle.child_connection.specs.declared.state.Sent.{Sent}
use Rattle.child_connection.specs.Asks.{asks, request_about, reserve_for, to_child}
use Rattle.child_connection.specs.Hearing.{hear}
use Rattle.child_connection.specs.Holding.{holds}
use Rattle.child_connection.specs.Views.{ChildConnection, open_request}
use Rattle.agent_state.specs.declared.parent.Leg.{Leg}
use Rattle.aggregator_agent.specs.declared.agent.Agent.{Agent}
use Rattle.aggregator_agent.specs.Asking.{Asked, Asking, each, ask_one, asked_view, next_behind, if_free, if_apart, request_if, may_abort, service_for, reserve_if, passed_on, pass_one, pass_each, views_of, with_path}
use Rattle.aggregator_agent.specs.Turns.{late_terminate, hear_one, hear_each}
use Rattle.agent_speech.specs.Owing.{answers_to, is_drawn, is_foreign, before}
use Rattle.agent_speech.specs.Unanswered.{reserves_at, answers_at, holding, misfits, misfitting}
use Rattle.agent_speech.proofs.Measures.{same_bytes, before_next, request_drawn}
use Rattle.agent_speech.proofs.Viewing.{MayAsk, asks_misfit, asks_hold, asks_few, new_misfits, new_holds, hear_misfit, hear_hold, hear_few}
use Rattle.agent_speech.proofs.Counting.{tally_none, tally_cons}
use Rattle.agent_speech.proofs.Holding.{asked_reserves}

---- Requests in the agent's own name

-- a message that is none
abbrev pub is_strange : List ℕ → Message → Bool
is_strange name m = not (is_asking m.body && bytes_eq name m.header.requester)

pub strange_answers : (h : Header) (n : ℕ) (name : List ℕ) (ms : List Message) → tally (answers_to h n) ms ≤ tally (is_strange name) ms
unfolding tally is_answering
strange_answers h n name [] = omega arith
strange_answers h n name (m ∷ ms) = grind (arith, strange_answers h n name ms)

apart : (body : Body) → (is_asking body && is_noting body) ≡ false
unfolding is_asking is_noting
apart body = grind arith

pub strange_foreign : (name : List ℕ) (ms : List Message) → tally (is_foreign name) ms ≤ tally (is_strange name) ms
unfolding tally
strange_foreign name [] = omega arith
strange_foreign name (m ∷ ms) = grind (arith, strange_foreign name ms, apart m.body)

asked_own : (name : List ℕ) (m : Message) (rest : List Message) → is_asking m.body ≡ true → m.header.requester ≡ name → tally (is_strange name) (m ∷ rest) ≡ tally (is_strange name) rest
unfolding tally
asked_own name m rest e f = grind (arith, e, f, same_bytes name)

---- Views that are asked

-- From some views on to others: each request has the next id and the agent's name; what is asked is held, and nothing that was held is
-- lost but what is answered, nor anything else held.
pub record IsAsking (Blind : List ℕ → ℕ → Type 0) (agent : Agent) (next : ℕ) (xs ys : List ChildConnection) (asked : List Message) (last : ℕ) : Type 0 where
  pub drawn : (c : ℕ) → tally (is_drawn c) asked + before agent.number next c ≤ before agent.number last c
  pub own : tally (is_strange agent.name) asked ≡ 0
  pub fit : misfitting ys ≤ misfitting xs
  pub holds_on : (p : List ℕ) (c : ℕ) → Blind p c → tally (reserves_at p c) asked + holding p c xs ≤ holding p c ys + misfitting xs
  pub few : (p : List ℕ) (c : ℕ) → holding p c ys ≤ holding p c xs + tally (reserves_at p c) asked

-- a body that may be asked of a view
abbrev pub MaySay : Kind → ChildConnection → Option Body → Type 0
MaySay k x None = Unit {0}
MaySay k x (Some body) = (kind_of body ≡ k) × (is_asking body ≡ true) × MayAsk k x

-- a view that was y before it heard something
pub record IsHeard (Blind : List ℕ → ℕ → Type 0) (y x : ChildConnection) : Type 0 where
  pub fit : one (misfits x) ≤ one (misfits y)
  pub holds_on : (p : List ℕ) (c : ℕ) → Blind p c → one (holds p c y) ≤ one (holds p c x) + one (misfits y)
  pub few : (p : List ℕ) (c : ℕ) → one (holds p c x) ≤ one (holds p c y)

pub as_it_is : (Blind : List ℕ → ℕ → Type 0) (x : ChildConnection) → IsHeard Blind x x
as_it_is Blind x = record { fit = omega arith; holds_on = λ p c b. omega arith; few = λ p c. omega arith }

one_asking : (Blind : List ℕ → ℕ → Type 0) (o : Option Body) (k : Kind) (agent : Agent) (next : ℕ) (y x : ChildConnection) → MaySay k x o → IsHeard Blind y x →
    let a : Asked = ask_one o k agent next x in IsAsking Blind agent next (y ∷ []) (a.child ∷ []) a.asked a.next
unfolding asked_view next_behind
one_asking Blind None k agent next y x may h =
    record {
      drawn = λ c. omega (arith, tally_none (is_drawn c));
      own = tally_none (is_strange agent.name);
      fit = omega (arith, h.fit, tally_cons misfits x [], tally_cons misfits y []);
      holds_on = λ p c b. omega (arith, h.holds_on p c b, tally_none (reserves_at p c), tally_cons misfits y [], tally_cons (holds p c) x [], tally_cons (holds p c) y []);
      few = λ p c. omega (arith, h.few p c, tally_none (reserves_at p c), tally_cons (holds p c) x [], tally_cons (holds p c) y []);
    }
one_asking Blind (Some body) k agent next y x may h =
    let id : ℕ = id_of agent.number next in
    let z : ChildConnection = asks k id x in
    let m : Message = to_child agent.name id x body in
    record {
      drawn = λ c. omega (arith, request_drawn c m [] may.1, tally_none (is_drawn c), before_next agent.number next c);
      own = asked_own agent.name m [] may.1 refl ∙ tally_none (is_strange agent.name);
      fit = omega (arith, h.fit, asks_misfit k id x may.2, tally_cons misfits z [], tally_cons misfits y [], tally_none misfits);
      holds_on = λ p c b.
          omega (
            arith,
            h.holds_on p c b,
            asks_hold k id x p c may.2,
            asked_reserves p c id agent.name x k body [] may.0,
            tally_none (reserves_at p c),
            tally_none (holds p c),
            tally_cons misfits y [],
            tally_cons (holds p c) z [],
            tally_cons (holds p c) y [],
          );
      few = λ p c.
          omega (
            arith,
            h.few p c,
            asks_few k id x p c,
            asked_reserves p c id agent.name x k body [] may.0,
            tally_none (reserves_at p c),
            tally_none (holds p c),
            tally_cons (holds p c) z [],
            tally_cons (holds p c) y [],
          );
    }

none_asking : (Blind : List ℕ → ℕ → Type 0) (agent : Agent) (next : ℕ) → IsAsking Blind agent next [] [] [] next
none_asking Blind agent next =
    record {
      drawn = λ c. omega (arith, tally_none (is_drawn c));
      own = tally_none (is_strange agent.name);
      fit = omega arith;
      holds_on = λ p c b. omega (arith, tally_none (reserves_at p c));
      few = λ p c. omega arith;
    }

more_asking : (Blind : List ℕ → ℕ → Type 0) (agent : Agent) (next : ℕ) (x : ChildConnection) (xs : List ChildConnection) (a : Asked) (rest : Asking) →
    IsAsking Blind agent next (x ∷ []) (a.child ∷ []) a.asked a.next → IsAsking Blind agent a.next xs rest.children rest.asked rest.next →
    IsAsking Blind agent next (x ∷ xs) (a.child ∷ rest.children) (a.asked ++ rest.asked) rest.next
more_asking Blind agent next x xs a rest f g =
    record {
      drawn = λ c. omega (arith, f.drawn c, g.drawn c, tally_append (is_drawn c) a.asked rest.asked);
      own = omega (arith, f.own, g.own, tally_append (is_strange agent.name) a.asked rest.asked);
      fit = omega (arith, f.fit, g.fit, tally_cons misfits x [], tally_cons misfits a.child [], tally_cons misfits x xs, tally_cons misfits a.child rest.children, tally_none misfits);
      holds_on = λ p c b.
          omega (
            arith,
            f.holds_on p c b,
            g.holds_on p c b,
            tally_append (reserves_at p c) a.asked rest.asked,
            tally_cons misfits x [],
            tally_cons misfits x xs,
            tally_none misfits,
            tally_cons (holds p c) x [],
            tally_cons (holds p c) a.child [],
            tally_cons (holds p c) x xs,
            tally_cons (holds p c) a.child rest.children,
            tally_none (holds p c),
          );
      few = λ p c.
          omega (
            arith,
            f.few p c,
            g.few p c,
            tally_append (reserves_at p c) a.asked rest.asked,
            tally_cons (holds p c) x [],
            tally_cons (holds p c) a.child [],
            tally_cons (holds p c) x xs,
            tally_cons (holds p c) a.child rest.children,
            tally_none (holds p c),
          );
    }

-- each in order
pub each_asking : (Blind : List ℕ → ℕ → Type 0) (agent : Agent) (does : ℕ → ChildConnection → Asked) →
    ((n : ℕ) (x : ChildConnection) → IsAsking Blind agent n (x ∷ []) ((does n x).child ∷ []) (does n x).asked (does n x).next) → (next : ℕ) (xs : List ChildConnection) →
    IsAsking Blind agent next xs (each does next xs).children (each does next xs).asked (each does next xs).next
unfolding each
each_asking Blind agent does one next [] = none_asking Blind agent next
each_asking Blind agent does one next (x ∷ xs) =
    more_asking Blind agent next x xs (does next x) (each does (does next x).next xs) (one next x) (each_asking Blind agent does one (does next x).next xs)

---- What a request passes on

free_may : (k : Kind) (x : ChildConnection) (o : Option Sent) (b : Option Body) → open_request k x ≡ o → ((body : Body) → b ≡ Some body → (kind_of body ≡ k) × (is_asking body ≡ true)) → MaySay k x (if_free o b)
free_may k x (Some q) b e h = tt
free_may k x None None e h = tt
free_may k x None (Some body) e h = let q = h body refl in (q.0, q.1, inl e)

-- a request about a connection is of its kind
abbrev IsOfKind : Kind → Type 0
IsOfKind k = (id : ℕ) → (kind_of (request_about k id) ≡ k) × (is_asking (request_about k id) ≡ true)

about_kind : (k : Kind) (o : Option ℕ) → IsOfKind k → (body : Body) → option_map (λ id. request_about k id) o ≡ Some body → (kind_of body ≡ k) × (is_asking body ≡ true)
about_kind k None e body h = absurd (cc)
about_kind k (Some id) e body h =
    let q : body ≡ request_about k id = cc in
    (ap kind_of q ∙ (e id).0, ap is_asking q ∙ (e id).1)

request_may : (b : Bool) (k : Kind) (x : ChildConnection) → IsOfKind k → MaySay k x (request_if b k x)
unfolding request_if
request_may true k x e = free_may k x (open_request k x) (option_map (λ id. request_about k id) x.connection) refl (about_kind k x.connection e)
request_may false k x e = tt

apart_some : (b : Bool) (o : Option Body) (body : Body) → if_apart b o ≡ Some body → o ≡ Some body
apart_some true o body h = absurd (cc)
apart_some false o body h = h

reserved : (q : ReserveRequest) (body : Body) → Some (Body.Reserve q) ≡ Some body → (kind_of body ≡ Kind.Reserve) × (is_asking body ≡ true)
unfolding is_asking
reserved q body h = let e : body ≡ Body.Reserve q = cc in (ap kind_of e, ap is_asking e)

reserve_may : (o : Option Criteria) (s : Service) (x : ChildConnection) → MaySay Kind.Reserve x (reserve_if o s x)
unfolding reserve_if is_asking
reserve_may None s x = tt
reserve_may (Some c) s x =
    let q : ReserveRequest = reserve_for (service_for x.connection s) (Some c.version) c.interval.start c.interval.end c.capacity x in
    free_may Kind.Reserve x (open_request Kind.Reserve x) (if_apart (bytes_eq x.source x.dest) (Some (Body.Reserve q))) refl
    (λ body h. reserved q body (apart_some (bytes_eq x.source x.dest) (Some (Body.Reserve q)) body h))

passed_may : (body : Body) (own : Record) (x : ChildConnection) → MaySay (kind_of body) x (passed_on body own x)
unfolding passed_on request_about is_asking
passed_may (Body.Reserve q) own x = reserve_may own.pending own.service x
passed_may (Body.ReserveCommit id) own x = request_may true Kind.ReserveCommit x (λ n. (refl, refl))
passed_may (Body.ReserveAbort id) own x = request_may (may_abort x.phase) Kind.ReserveAbort x (λ n. (refl, refl))
passed_may (Body.Provision id) own x = request_may true Kind.Provision x (λ n. (refl, refl))
passed_may (Body.Release id) own x = request_may true Kind.Release x (λ n. (refl, refl))
passed_may (Body.Terminate id) own x = request_may true Kind.Terminate x (λ n. (refl, refl))
passed_may _ own x = tt

-- where nothing is answered
abbrev pub Any : List ℕ → ℕ → Type 0
Any p c = Unit {0}

pub pass_asking : (m : Message) (agent : Agent) (own : Record) (next : ℕ) (xs : List ChildConnection) →
    let a : Asking = pass_each m agent own next xs in IsAsking Any agent next xs a.children a.asked a.next
pass_asking m agent own next xs =
    each_asking Any agent (λ n x. pass_one m agent own n x) (λ n x. one_asking Any (passed_on m.body own x) (kind_of m.body) agent n x x (passed_may m.body own x) (as_it_is Any x)) next xs

---- What is heard

-- where the message is no answer
abbrev pub Unless : Message → List ℕ → ℕ → Type 0
Unless m p c = answers_at p c m ≡ false

late_may : (b : Bool) (m : Message) (x : ChildConnection) → MaySay Kind.Terminate (hear m x).view (late_terminate b m x)
unfolding request_about is_asking
late_may b m x = request_may (b && is_none x.connection) Kind.Terminate (hear m x).view (λ n. (refl, refl))

heard_view : (m : Message) (x : ChildConnection) → IsHeard (Unless m) x (hear m x).view
heard_view m x = record { fit = hear_misfit m x; holds_on = λ p c b. hear_hold m x p c b; few = λ p c. hear_few m x p c }

pub hear_asking : (is_ending : Bool) (m : Message) (agent : Agent) (next : ℕ) (xs : List ChildConnection) →
    let a : Asking = hear_each is_ending m agent next xs in IsAsking (Unless m) agent next xs a.children a.asked a.next
hear_asking is_ending m agent next xs =
    each_asking (Unless m) agent (λ n x. hear_one is_ending m agent n x)
    (λ n x. one_asking (Unless m) (late_terminate is_ending m x) Kind.Terminate agent n x (hear m x).view (late_may is_ending m x) (heard_view m x)) next xs

---- New views

legs_hold : (p : List ℕ) (c : ℕ) (legs : List Leg) → holding p c (views_of legs) ≡ 0
unfolding views_of tally
legs_hold p c [] = refl
legs_hold p c (l ∷ ls) = omega (arith, new_holds p c l.child l.source l.dest, legs_hold p c ls)

legs_fit : (legs : List Leg) → misfitting (views_of legs) ≡ 0
unfolding views_of tally
legs_fit [] = refl
legs_fit (l ∷ ls) = omega (arith, new_misfits l.child l.source l.dest, legs_fit ls)

pub path_holds : (p : List ℕ) (c : ℕ) (body : Body) (xs : List ChildConnection) (legs : List Leg) → holding p c (with_path body xs legs) ≡ holding p c xs
unfolding with_path
path_holds p c (Body.Reserve q) [] legs = legs_hold p c legs ∙ none
  where
    none : 0 ≡ holding p c []
    none = omega (arith, tally_none (holds p c))
path_holds p c (Body.Reserve q) (x ∷ xs) legs = refl
path_holds p c body xs legs = refl

pub path_fits : (body : Body) (xs : List ChildConnection) (legs : List Leg) → misfitting (with_path body xs legs) ≡ misfitting xs
unfolding with_path
path_fits (Body.Reserve q) [] legs = legs_fit legs ∙ none
  where
    none : 0 ≡ misfitting []
    none = omega (arith, tally_none misfits)
path_fits (Body.Reserve q) (x ∷ xs) legs = refl
path_fits body xs legs = refl
