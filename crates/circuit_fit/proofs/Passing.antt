-- What a request that the own record takes, and passes on, leaves of the fit.
use Rattle.std.proofs.Common.{ℕ, ◌≡◌, ◌∙◌, Bool, true, false, List, [], ◌∷◌, ◌||◌, inl, Contains, Option, Some, None, is_some, option_map, option_to_list, refl, sym, ap, subst, arith, true≢false, bytes_eq}
use Rattle.std.specs.List.{All}
use Rattle.std.proofs.lemmas.List.Elements.{All-nil, All-cons, All-head, All-tail, Contains-append_left, Contains-append_right}
use Rattle.nsi_primitive.specs.declared.kind.Kind.{Kind}
use Rattle.nsi_primitive.specs.declared.state.Rsm.{Rsm}
use Rattle.nsi_primitive.specs.declared.message.Body.{Body}
use Rattle.nsi_primitive.specs.declared.message.Criteria.{Criteria}
use Rattle.nsi_primitive.specs.declared.message.Message.{Message}
use Rattle.nsi_primitive.specs.declared.message.ReserveRequest.{ReserveRequest}
use Rattle.nsi_primitive.specs.declared.message.Service.{Service}
use Rattle.record_index.proofs.Members.{contains_more}
use Rattle.child_connection.specs.declared.state.Phase.{Phase}
use Rattle.child_connection.specs.declared.state.Sent.{Sent}
use Rattle.child_connection.specs.Views.{ChildConnection, sent, open_request}
use Rattle.child_connection.specs.Asks.{asks, request_about, reserve_for, to_child}
use Rattle.child_connection.specs.Holding.{is_reservation}
use Rattle.aggregator_agent.specs.Asking.{Asked, asked_view, request_of, each, if_free, if_apart, request_if, may_abort, service_for, reserve_if}
use Rattle.aggregator_agent.specs.Settling.{is_held}
use Rattle.circuit_fit.specs.Fits.{IsCommittedBelow, IsReserveFor, Waits, IsFitting, IsKnown}
use Rattle.circuit_fit.proofs.Hearing.{IsLike}

---- All children in order

module _ (does : ℕ → ChildConnection → Asked) where
  pub each_all : (P Q : ChildConnection → Type 0) (all : List Message) → ((n : ℕ) (x : ChildConnection) → P x → ((m : Message) → Contains (does n x).asked m → Contains all m) → Q (does n x).child) → (next : ℕ) (xs : List ChildConnection) →
      All P xs → ((m : Message) → Contains (each does next xs).asked m → Contains all m) → All Q (each does next xs).children
  unfolding each
  each_all P Q all f next [] h i = All-nil Q
  each_all P Q all f next (x ∷ xs) h i =
      let rest : List Message = (each does (does next x).next xs).asked in
      All-cons Q (does next x).child (each does (does next x).next xs).children (f next x (All-head P x xs h) (λ m j. i m (Contains-append_left (does next x).asked rest m j)))
      (each_all P Q all f (does next x).next xs (All-tail P x xs h) (λ m j. i m (Contains-append_right (does next x).asked rest m j)))

  pub each_some : (next : ℕ) (xs : List ChildConnection) → (xs ≡ [] → ⊥) → (each does next xs).children ≡ [] → ⊥
  unfolding each
  each_some next [] f e = f refl
  each_some next (x ∷ xs) f e = absurd (cc)

  pub each_committed : (v next : ℕ) (xs : List ChildConnection) → ((n : ℕ) (x : ChildConnection) → Contains x.committed v → Contains (does n x).child.committed v) → IsCommittedBelow v xs → IsCommittedBelow v (each does next xs).children
  each_committed v next xs f h =
      record {
        some = each_some next xs h.some;
        each = each_all (λ x. Contains x.committed v) (λ x. Contains x.committed v) (each does next xs).asked (λ n x p _. f n x p) next xs h.each (λ m j. j);
      }

---- A request to a child

some_body : (a b : Body) → Some a ≡ Some b → a ≡ b
some_body a b e = cc

some_sent : (a b : Sent) → Some a ≡ Some b → a ≡ b
some_sent a b e = cc

free_some : (o : Option Sent) (p : Option Body) (b : Body) → if_free o p ≡ Some b → (o ≡ None) × (p ≡ Some b)
free_some None p b e = (refl, e)
free_some (Some q) p b e = absurd (cc)

known_some : (k : Kind) (o : Option ℕ) (b : Body) → option_map (λ id. request_about k id) o ≡ Some b → (id : ℕ) × (o ≡ Some id) × (b ≡ request_about k id)
known_some k None b e = absurd (cc)
known_some k (Some id) b e = (id, refl, sym (some_body (request_about k id) b e))

apart_some : (t : Bool) (p : Option Body) (b : Body) → if_apart t p ≡ Some b → p ≡ Some b
apart_some true p b e = absurd (cc)
apart_some false p b e = e

pub request_some : (t : Bool) (k : Kind) (x : ChildConnection) (b : Body) → request_if t k x ≡ Some b → (t ≡ true) × (open_request k x ≡ None) × ((id : ℕ) × (x.connection ≡ Some id) × (b ≡ request_about k id))
unfolding request_if
request_some false k x b e = absurd (cc)
request_some true k x b e =
    let p = free_some (open_request k x) (option_map (λ id. request_about k id) x.connection) b e in
    (refl, p.0, known_some k x.connection b p.1)

request_none : (k : Kind) (x : ChildConnection) → open_request k x ≡ None → is_some x.connection ≡ true → request_if true k x ≡ None → ⊥
unfolding request_if
request_none k x o c e = by_parts (open_request k x) x.connection o c e
  where
    by_parts : (p : Option Sent) (q : Option ℕ) → p ≡ None → is_some q ≡ true → if_free p (option_map (λ id. request_about k id) q) ≡ None → ⊥
    by_parts None (Some id) o c e = absurd (cc)
    by_parts None None o c e = absurd (cc)
    by_parts (Some s) q o c e = absurd (cc)

reserve_version : (s : Option Service) (version : Option ℕ) (start end capacity : ℕ) (x : ChildConnection) → (reserve_for s version start end capacity x).version ≡ version
unfolding reserve_for
reserve_version None version start end capacity x = refl
reserve_version (Some s) version start end capacity x = refl

reserve_some : (c : Criteria) (s : Service) (x : ChildConnection) (b : Body) → reserve_if (Some c) s x ≡ Some b → (x.reserve_request ≡ None) × IsReserveFor (Some c.version) b
unfolding reserve_if open_request
reserve_some c s x b e =
    let q : ReserveRequest = reserve_for (service_for x.connection s) (Some c.version) c.interval.start c.interval.end c.capacity x in
    let p = free_some x.reserve_request (if_apart (bytes_eq x.source x.dest) (Some (Body.Reserve q))) b e in
    (p.0, (q, c.version, refl, sym (some_body (Body.Reserve q) b (apart_some (bytes_eq x.source x.dest) (Some (Body.Reserve q)) b p.1)), reserve_version (service_for x.connection s) (Some c.version) c.interval.start c.interval.end c.capacity x))

asked_there : (parent : List ℕ) (c : ℕ) (x : ChildConnection) (b : Body) (all : List Message) → ((m : Message) → Contains (option_to_list (request_of (Some b) parent c x)) m → Contains all m) → Contains all (to_child parent c x b)
asked_there parent c x b all f = f (to_child parent c x b) (contains_more (to_child parent c x b) (to_child parent c x b) [] (inl refl))

---- What is asked fits

module _ (parent : List ℕ) (asked all : List Message) (x : ChildConnection) (c : ℕ) where
  abbrev Said : Option Body → Type 0
  Said o = (m : Message) → Contains (option_to_list (request_of o parent c x)) m → Contains all m

  waits_fits : (k : Rsm) (v : Option ℕ) (y : ChildConnection) (l : Kind) → y.reserve_request ≡ Some (sent c l) → Waits parent all k v y (sent c l) → IsFitting parent all k v y
  waits_fits k v y l e h =
      record {
        rests = λ n. absurd (let w : Some (sent c l) ≡ None = sym e ∙ n in cc);
        waits = λ q n. subst (Waits parent all k v y) (some_sent (sent c l) q (sym e ∙ n)) h;
      }

  -- the own record checks what it asks of the child
  pub reserve_fits : (v : Option ℕ) (criteria : Criteria) (s : Service) (o : Option Body) → reserve_if (Some criteria) s x ≡ o → Said o → IsFitting parent asked Rsm.ReserveStart v x →
      IsFitting parent all Rsm.ReserveChecking (Some criteria.version) (asked_view o Kind.Reserve c x)
  unfolding asked_view asks
  reserve_fits v criteria s None e i f = record { rests = λ n. λ h. absurd (true≢false (sym h ∙ f.rests n)); waits = λ q n. absurd (f.waits q n) }
  reserve_fits v criteria s (Some b) e i f =
      let w = reserve_some criteria s x b e in
      waits_fits Rsm.ReserveChecking (Some criteria.version) (asks Kind.Reserve c x) Kind.Reserve refl
      (refl, f.rests w.0, record { message = to_child parent c x b; there = asked_there parent c x b all i; header = refl; is = w.1 })

  -- it commits what the child holds
  pub commit_fits : (v : Option ℕ) (o : Option Body) → request_if true Kind.ReserveCommit x ≡ o → IsKnown x → IsFitting parent asked Rsm.ReserveHeld v x → IsFitting parent all Rsm.ReserveCommitting v (asked_view o Kind.ReserveCommit c x)
  unfolding asked_view asks open_request
  commit_fits v o e k f = by_request x.reserve_request refl
    where
      either : (a b : Bool) → a ≡ true → (a || b) ≡ true
      either true b h = refl
      either false b h = absurd (cc)

      by_request : (r : Option Sent) → x.reserve_request ≡ r → IsFitting parent all Rsm.ReserveCommitting v (asked_view o Kind.ReserveCommit c x)
      by_request (Some q) r = absurd (f.waits q r)
      by_request None r = by_body o e
        where
          by_body : (p : Option Body) → request_if true Kind.ReserveCommit x ≡ p → IsFitting parent all Rsm.ReserveCommitting v (asked_view p Kind.ReserveCommit c x)
          by_body None e = absurd (request_none Kind.ReserveCommit x r (k (either (is_held x.phase) (is_held x.before) (f.rests r).0)) e)
          by_body (Some b) e = waits_fits Rsm.ReserveCommitting v (asks Kind.ReserveCommit c x) Kind.ReserveCommit refl (refl, (f.rests r).1)

  -- it takes back what the child has to give back
  pub abort_fits : (v : Option ℕ) (o : Option Body) → request_if (may_abort x.phase) Kind.ReserveAbort x ≡ o → Said o → IsKnown x → x.reserve_request ≡ None → IsFitting parent all Rsm.ReserveAborting v (asked_view o Kind.ReserveAbort c x)
  unfolding asked_view asks open_request request_about is_held may_abort
  abort_fits v (Some b) e i k r =
      let w = request_some (may_abort x.phase) Kind.ReserveAbort x b e in
      waits_fits Rsm.ReserveAborting v (asks Kind.ReserveAbort c x) Kind.ReserveAbort refl
      (refl, w.0, record { message = to_child parent c x b; there = asked_there parent c x b all i; header = refl; is = w.2 })
  abort_fits v None e i k r = record { rests = λ n. by_phase x.phase refl; waits = λ q n. absurd (let g : None ≡ Some q = sym r ∙ n in cc) }
    where
      held : x.phase ≡ Phase.Held → ⊥
      held p =
          request_none Kind.ReserveAbort x r (k (ap (λ z. is_held z || is_held x.before) p)) (ap (λ z. request_if (may_abort z) Kind.ReserveAbort x) (sym p) ∙ e)

      by_phase : (z : Phase) → x.phase ≡ z → is_held z ≡ false
      by_phase Phase.Held p = absurd (held p)
      by_phase _ p = refl

  -- nothing of its reservation is asked
  pub beside_like : (o : Option Body) (k : Kind) → is_reservation k ≡ false → IsLike x (asked_view o k c x)
  unfolding asked_view asks is_reservation
  beside_like None k e = record { request = refl; phase = refl; before = refl; pending = refl; committed = refl; child = refl; error = λ z. z; connection = λ id z. z }
  beside_like (Some b) k e = grind arith
