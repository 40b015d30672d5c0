-- An aggregator's views of one child, by connection and place; and how it asks the children of a connection in order.
use Rattle.std.proofs.Common.{ℕ, zero, suc, ◌≡◌, ◌<◌, ◌≤◌, ◌+◌, Bool, true, false, List, [], ◌∷◌, ◌++◌, length, get_or, Contains, Option, Some, None, ◌⊎◌, inl, inr, refl, sym, ap, ◌∙◌, subst, arith, bytes_eq, slice_set, option_map, append_assoc, append-nil, get_or-set_same, get_or-set_other, true≢false}
use Rattle.std.proofs.lemmas.Bool.{cases_eq}
use Rattle.std.proofs.lemmas.List.Elements.{Contains-append_cases}
use Rattle.std.proofs.lemmas.Slice.Eq.{bytes_eq-Decides}
use Rattle.nsi_primitive.specs.Ids.{id_of}
use Rattle.nsi_primitive.specs.Messages.{kind_of, connection_of, is_request}
use Rattle.nsi_primitive.specs.declared.ask.AskAnswer.{AskAnswer}
use Rattle.nsi_primitive.specs.declared.entry.Input.{Input}
use Rattle.nsi_primitive.specs.declared.kind.Kind.{Kind}
use Rattle.nsi_primitive.specs.declared.message.Body.{Body}
use Rattle.nsi_primitive.specs.declared.message.Criteria.{Criteria}
use Rattle.nsi_primitive.specs.declared.message.Message.{Message}
use Rattle.nsi_primitive.specs.declared.message.ReserveRequest.{ReserveRequest}
use Rattle.nsi_primitive.specs.declared.message.Service.{Service}
use Rattle.child_connection.specs.declared.state.Sent.{Sent}
use Rattle.child_connection.specs.Views.{ChildConnection, open_request}
use Rattle.child_connection.specs.Asks.{asks, request_about, reserve_for, to_child}
use Rattle.child_connection.specs.Refusals.{is_about}
use Rattle.child_connection.specs.Holding.{IsAlike}
use Rattle.child_connection.proofs.Places.{asks_place}
use Rattle.child_connection.proofs.Saying.{about_names, first_names, modification_names}
use Rattle.connection_record.specs.declared.record.Record.{Record}
use Rattle.aggregator_agent.specs.declared.agent.Agent.{Agent}
use Rattle.aggregator_agent.specs.Asking.{Asking, ask_one, asked_view, next_behind, each, if_free, if_apart, request_if, may_abort, service_for, reserve_if, passed_on}
use Rattle.requester_agent.specs.Views.{Asked as ViewAsked}
use Rattle.circuit_link.specs.Children.{Child, about, IsFair}
use Rattle.circuit_link.proofs.Answering.{only_one}
use Rattle.circuit_pairs.specs.Pairs.{IsPair, IsFresh}
use Rattle.circuit_pairs.specs.Minding.{ReservesNothing, Minds, no_child, mine_if, mine, slot}
use Rattle.circuit_pairs.proofs.Minding.{alike_same, quiet_pair}
use Rattle.circuit_pairs.proofs.Requesters.{IsAsk, ask_minds}

pair_of : (a b c d : ℕ) → a ≡ c → b ≡ d → (let p : ℕ × ℕ = (a, b) in p) ≡ (c, d)
pair_of a b c d e f = rw (e, f) refl

pub dec_pair : (i j : ℕ × ℕ) → (i ≡ j) ⊎ (i ≡ j → ⊥)
dec_pair (a, b) (c, d) = by_parts (cases_eq a c) (cases_eq b d)
  where
    by_parts : (a ≡ c) ⊎ (a ≡ c → ⊥) → (b ≡ d) ⊎ (b ≡ d → ⊥) → ((let p : ℕ × ℕ = (a, b) in p) ≡ (c, d)) ⊎ ((let p : ℕ × ℕ = (a, b) in p) ≡ (c, d) → ⊥)
    by_parts (inl e) (inl f) = inl (pair_of a b c d e f)
    by_parts (inr e) f = inr (λ q. e (ap (λ (z : ℕ × ℕ). z.0) q))
    by_parts (inl e) (inr f) = inr (λ q. f (ap (λ (z : ℕ × ℕ). z.1) q))

---- Views of this child

pub mine_own : (child : List ℕ) (x : ChildConnection) → bytes_eq child x.child ≡ true → mine child x ≡ x
unfolding mine_if
mine_own child x e = ap (λ b. mine_if b child x) e

pub mine_other : (child : List ℕ) (x : ChildConnection) → bytes_eq child x.child ≡ false → mine child x ≡ no_child child
unfolding mine_if
mine_other child x e = ap (λ b. mine_if b child x) e

---- What a child may be sent

-- a request of that kind that names the view's connection, where the machine has none unanswered
pub record MayPass (k : Kind) (x : ChildConnection) (b : Body) : Type 0 where
  pub kind : kind_of b ≡ k
  pub named : connection_of b ≡ x.connection
  pub free : open_request k x ≡ None

some_same : (a b : Body) → Some a ≡ Some b → a ≡ b
some_same a b e = cc

free_some : (o : Option Sent) (p : Option Body) (b : Body) → if_free o p ≡ Some b → (o ≡ None) × (p ≡ Some b)
free_some None p b e = (refl, e)
free_some (Some q) p b e = absurd (cc)

known_some : (k : Kind) (o : Option ℕ) (b : Body) → option_map (λ id. request_about k id) o ≡ Some b → (id : ℕ) × (o ≡ Some id) × (request_about k id ≡ b)
known_some k None b e = absurd (cc)
known_some k (Some id) b e = (id, refl, some_same (request_about k id) b e)

pub request_may : (t : Bool) (k : Kind) (x : ChildConnection) (b : Body) → is_about k ≡ true → request_if t k x ≡ Some b → MayPass k x b
unfolding request_if
request_may false k x b about e = absurd (cc)
request_may true k x b about e =
    let p = free_some (open_request k x) (option_map (λ id. request_about k id) x.connection) b e in
    let w = known_some k x.connection b p.1 in
    let names = about_names k w.0 about in
    record { kind = ap kind_of (sym w.2) ∙ names.0; named = ap connection_of (sym w.2) ∙ names.1 ∙ sym w.1; free = p.0 }

apart_some : (t : Bool) (q : ReserveRequest) (b : Body) → if_apart t (Some (Body.Reserve q)) ≡ Some b → Body.Reserve q ≡ b
apart_some true q b e = absurd (cc)
apart_some false q b e = some_same (Body.Reserve q) b e

reserve_named : (o : Option ℕ) (service : Service) (version : Option ℕ) (start end capacity : ℕ) (x : ChildConnection) → x.connection ≡ o → connection_of (Body.Reserve (reserve_for (service_for o service) version start end capacity x)) ≡ x.connection
reserve_named None service version start end capacity x e = first_names service version start end capacity x ∙ sym e
reserve_named (Some id) service version start end capacity x e = modification_names version start end capacity x

reserve_may : (o : Option Criteria) (service : Service) (x : ChildConnection) (b : Body) → reserve_if o service x ≡ Some b → MayPass Kind.Reserve x b
unfolding reserve_if
reserve_may None service x b e = absurd (cc)
reserve_may (Some c) service x b e =
    let p = free_some (open_request Kind.Reserve x) _ b e in
    let w = apart_some (bytes_eq x.source x.dest) _ b p.1 in
    record { kind = ap kind_of (sym w); named = ap connection_of (sym w) ∙ reserve_named x.connection service (Some c.version) c.interval.start c.interval.end c.capacity x refl; free = p.0 }

pub passed_may : (body : Body) (own : Record) (x : ChildConnection) (b : Body) → passed_on body own x ≡ Some b → MayPass (kind_of body) x b
unfolding passed_on
passed_may (Body.Reserve q) own x b e = reserve_may own.pending own.service x b e
passed_may (Body.ReserveCommit id) own x b e = request_may true Kind.ReserveCommit x b refl e
passed_may (Body.ReserveAbort id) own x b e = request_may (may_abort x.phase) Kind.ReserveAbort x b refl e
passed_may (Body.Provision id) own x b e = request_may true Kind.Provision x b refl e
passed_may (Body.Release id) own x b e = request_may true Kind.Release x b refl e
passed_may (Body.Terminate id) own x b e = request_may true Kind.Terminate x b refl e
passed_may _ own x b e = absurd (cc)

---- Asking in order

between_here : {X : Type 0} (pre : List X) (x : X) (rest : List X) (d : X) → get_or (pre ++ x ∷ rest) (length pre) d ≡ x
between_here [] x rest d = refl
between_here (y ∷ pre) x rest d = between_here pre x rest d

between_there : {X : Type 0} (pre : List X) (x y : X) (rest : List X) (d : X) (i : ℕ) → (i ≡ length pre → ⊥) → get_or (pre ++ x ∷ rest) i d ≡ get_or (pre ++ y ∷ rest) i d
between_there [] x y rest d zero n = absurd (n refl)
between_there [] x y rest d (suc i) n = refl
between_there (z ∷ pre) x y rest d zero n = refl
between_there (z ∷ pre) x y rest d (suc i) n = between_there pre x y rest d i (λ e. n (ap suc e))

ids_apart : (a n k : ℕ) → n < k → id_of a n ≡ id_of a k → ⊥
ids_apart a n k l e = omega (arith, l, e)

pub fresh_later : (parent child : List ℕ) (number : ℕ) (d : Child) (next later : ℕ) (asked : List Message) → next ≤ later → IsFresh parent child number d next asked → IsFresh parent child number d later asked
fresh_later parent child number d next later asked l f = record { unasked = λ k w. f.unasked k (omega (arith, l, w)); untaken = λ k w. f.untaken k (omega (arith, l, w)) }

module _ (agent : Agent) (child : List ℕ) (d : Child) (fair : IsFair agent.name child d) (css : List (List ChildConnection)) (n : ℕ) (l : n < length css) where
  abbrev parent : List ℕ
  parent = agent.name

  -- the views where the connection at the place has these children
  abbrev pub with : List ChildConnection → ℕ × ℕ → ChildConnection
  with zs = slot child (slice_set css n zs)

  abbrev pub Paired : List ChildConnection → List Message → Type 0
  Paired zs asked = IsPair (ℕ × ℕ) agent.name child (slot child (slice_set css n zs)) asked d

  at_place : (zs : List ChildConnection) (i : ℕ) → with zs (n, i) ≡ mine child (get_or zs i (no_child child))
  at_place zs i = ap (λ z. mine child (get_or z i (no_child child))) (get_or-set_same css n zs [] l)

  elsewhere : (ys zs : List ChildConnection) (k i : ℕ) → (k ≡ n → ⊥) → with ys (k, i) ≡ with zs (k, i)
  elsewhere ys zs k i q = ap (λ z. mine child (get_or z i (no_child child))) (get_or-set_other css n k ys [] q ∙ sym (get_or-set_other css n k zs [] q))

  fresh_next : (next : ℕ) (asked : List Message) (x : ChildConnection) (b : Body) → IsFresh parent child agent.number d next asked → IsFresh parent child agent.number d (next + 1) (asked ++ to_child parent (id_of agent.number next) x b ∷ [])
  fresh_next next asked x b f =
      record { unasked = λ k w m i a e. by_part k w m a e (Contains-append_cases asked (to_child parent (id_of agent.number next) x b ∷ []) m i); untaken = λ k w. f.untaken k (omega (arith, w)) }
    where
      by_part : (k : ℕ) → next + 1 ≤ k → (m : Message) → is_request m.body ≡ true → m.header.correlation ≡ id_of agent.number k → Contains asked m ⊎ Contains (to_child parent (id_of agent.number next) x b ∷ []) m → ⊥
      by_part k w m a e (inl i) = f.unasked k (omega (arith, w)) m i a e
      by_part k w m a e (inr i) = ids_apart agent.number next k (omega (arith, w)) (sym (ap (λ (z : Message). z.header.correlation) (only_one (to_child parent (id_of agent.number next) x b) m i)) ∙ e)

  -- one child is asked
  one_minds : (k : Kind) (next : ℕ) (pre : List ChildConnection) (x : ChildConnection) (rest : List ChildConnection) (b : Body) → MayPass k x b →
      Minds (ℕ × ℕ) agent.name child (id_of agent.number next) Input.Tick (with (pre ++ x ∷ rest)) (with (pre ++ asks k (id_of agent.number next) x ∷ rest)) (to_child agent.name (id_of agent.number next) x b ∷ [])
  one_minds k next pre x rest b may = by_child (bytes_eq child x.child) refl
    where
      c : ℕ
      c = id_of agent.number next

      y : ChildConnection
      y = asks k c x

      old : with (pre ++ x ∷ rest) (n, length pre) ≡ mine child x
      old = at_place (pre ++ x ∷ rest) (length pre) ∙ ap (mine child) (between_here pre x rest (no_child child))

      new : with (pre ++ y ∷ rest) (n, length pre) ≡ mine child y
      new = at_place (pre ++ y ∷ rest) (length pre) ∙ ap (mine child) (between_here pre y rest (no_child child))

      same_at : (i : ℕ × ℕ) → (i ≡ (n, length pre) → ⊥) → with (pre ++ y ∷ rest) i ≡ with (pre ++ x ∷ rest) i
      same_at (a, i) q = by_parts (cases_eq a n)
        where
          by_parts : (a ≡ n) ⊎ (a ≡ n → ⊥) → with (pre ++ y ∷ rest) (a, i) ≡ with (pre ++ x ∷ rest) (a, i)
          by_parts (inr e) = elsewhere (pre ++ y ∷ rest) (pre ++ x ∷ rest) a i e
          by_parts (inl e) =
              ap (λ z. with (pre ++ y ∷ rest) (z, i)) e ∙ at_place (pre ++ y ∷ rest) i ∙
              ap (mine child) (between_there pre y x rest (no_child child) i (λ w. q (pair_of a i n (length pre) e w))) ∙ sym (at_place (pre ++ x ∷ rest) i) ∙ sym (ap (λ z. with (pre ++ x ∷ rest) (z, i)) e)

      same_child : bytes_eq child y.child ≡ bytes_eq child x.child
      same_child = ap (bytes_eq child) (asks_place k c x).child

      asked : ViewAsked
      asked = record { child = y; out = to_child agent.name c x b ∷ []; answer = AskAnswer.Sent }

      by_child : (t : Bool) → bytes_eq child x.child ≡ t → Minds (ℕ × ℕ) agent.name child c Input.Tick (with (pre ++ x ∷ rest)) (with (pre ++ y ∷ rest)) (to_child agent.name c x b ∷ [])
      by_child true t =
          ask_minds (ℕ × ℕ) agent.name child c Input.Tick (with (pre ++ x ∷ rest)) (with (pre ++ y ∷ rest)) (n, length pre) x asked (λ j. dec_pair j (n, length pre)) (sym ((bytes_eq-Decides child x.child).0 t))
          (alike_same (with (pre ++ x ∷ rest) (n, length pre)) x (sym (old ∙ mine_own child x t))) (new ∙ mine_own child y (same_child ∙ t)) same_at (IsAsk.goes k b refl refl may.kind may.named may.free)
      by_child false t = Minds.rests (λ i. each i (dec_pair i (n, length pre))) other
        where
          both : with (pre ++ y ∷ rest) (n, length pre) ≡ with (pre ++ x ∷ rest) (n, length pre)
          both = new ∙ mine_other child y (same_child ∙ t) ∙ sym (mine_other child x t) ∙ sym old

          each : (i : ℕ × ℕ) → (i ≡ (n, length pre)) ⊎ (i ≡ (n, length pre) → ⊥) → IsAlike (with (pre ++ x ∷ rest) i) (with (pre ++ y ∷ rest) i)
          each i (inl e) = alike_same (with (pre ++ x ∷ rest) i) (with (pre ++ y ∷ rest) i) (ap (with (pre ++ y ∷ rest)) e ∙ both ∙ sym (ap (with (pre ++ x ∷ rest)) e))
          each i (inr e) = alike_same (with (pre ++ x ∷ rest) i) (with (pre ++ y ∷ rest) i) (same_at i e)

          other : ReservesNothing child (to_child agent.name c x b ∷ [])
          other m i r p = true≢false (sym ((bytes_eq-Decides child x.child).1 (sym (sym (ap (λ (z : Message). z.header.provider) (only_one (to_child agent.name c x b) m i)) ∙ p))) ∙ t)

  pub one_pair : (k : Kind) (next : ℕ) (pre : List ChildConnection) (x : ChildConnection) (rest : List ChildConnection) (b : Body) (asked : List Message) → MayPass k x b → IsFresh agent.name child agent.number d next asked → Paired (pre ++ x ∷ rest) asked →
      Paired (pre ++ asks k (id_of agent.number next) x ∷ rest) (asked ++ to_child agent.name (id_of agent.number next) x b ∷ [])
  one_pair k next pre x rest b asked may f pair =
      quiet_pair (ℕ × ℕ) dec_pair agent.name child asked d fair (id_of agent.number next) (f.untaken next (omega arith)) (λ m i a e. f.unasked next (omega arith) m i a e) (with (pre ++ x ∷ rest)) (with (pre ++ asks k (id_of agent.number next) x ∷ rest))
      (to_child agent.name (id_of agent.number next) x b ∷ []) Input.Tick (λ m e. absurd (cc)) (one_minds k next pre x rest b may) pair

  -- the children of a connection are asked in order
  pub each_pair : (body_for : ChildConnection → Option Body) (k : Kind) (next : ℕ) (pre cs : List ChildConnection) (asked : List Message) → ((x : ChildConnection) (b : Body) → body_for x ≡ Some b → MayPass k x b) →
      IsFresh agent.name child agent.number d next asked → Paired (pre ++ cs) asked → Paired (pre ++ (each (λ j x. ask_one (body_for x) k agent j x) next cs).children) (asked ++ (each (λ j x. ask_one (body_for x) k agent j x) next cs).asked)
  unfolding each asked_view next_behind
  each_pair body_for k next pre [] asked may f pair = subst (λ z. Paired (pre ++ []) z) (sym (append-nil asked)) pair
  each_pair body_for k next pre (x ∷ cs) asked may f pair = by_body (body_for x) refl (λ next pre asked f pair. each_pair body_for k next pre cs asked may f pair)
    where
      by_body : (o : Option Body) → body_for x ≡ o →
          ((next : ℕ) (pre : List ChildConnection) (asked : List Message) → IsFresh agent.name child agent.number d next asked → Paired (pre ++ cs) asked → Paired (pre ++ (each (λ j x. ask_one (body_for x) k agent j x) next cs).children) (asked ++ (each (λ j x. ask_one (body_for x) k agent j x) next cs).asked)) →
          Paired (pre ++ asked_view o k (id_of agent.number next) x ∷ (each (λ j x. ask_one (body_for x) k agent j x) (ask_one o k agent next x).next cs).children) (asked ++ ((ask_one o k agent next x).asked ++ (each (λ j x. ask_one (body_for x) k agent j x) (ask_one o k agent next x).next cs).asked))
      by_body None e g =
          let a : Asking = each (λ j x. ask_one (body_for x) k agent j x) next cs in
          subst (λ z. Paired z (asked ++ a.asked)) (append_assoc pre (x ∷ []) a.children) (g next (pre ++ x ∷ []) asked f (subst (λ z. Paired z asked) (sym (append_assoc pre (x ∷ []) cs)) pair))
      by_body (Some b) e g =
          let c : ℕ = id_of agent.number next in
          let y : ChildConnection = asks k c x in
          let m : Message = to_child agent.name c x b in
          let a : Asking = each (λ j x. ask_one (body_for x) k agent j x) (next + 1) cs in
          subst (λ z. Paired (pre ++ y ∷ a.children) z) (append_assoc asked (m ∷ []) a.asked)
          (subst (λ z. Paired z ((asked ++ m ∷ []) ++ a.asked)) (append_assoc pre (y ∷ []) a.children)
          (g (next + 1) (pre ++ y ∷ []) (asked ++ m ∷ []) (fresh_next next asked x b f) (subst (λ z. Paired z (asked ++ m ∷ [])) (sym (append_assoc pre (y ∷ []) cs)) (one_pair k next pre x cs b asked (may x b e) f pair))))
