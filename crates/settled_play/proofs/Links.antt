-- What an agent says goes along a link of the topology.
use Rattle.std.proofs.Common.{ℕ, zero, suc, ◌+◌, ◌<◌, ◌≡◌, ◌==◌, ◌||◌, Bool, true, false, cond, List, [], ◌∷◌, Some, ◌⊎◌, inl, inr, refl, sym, ap, ◌∙◌, subst, arith, length, get_or, eq-eqb}
use Rattle.std.specs.Prelude.{slice_get}
use Rattle.std.specs.List.{All, Contains, list_any, filter}
use Rattle.std.proofs.lemmas.List.Elements.{All-contains, All-filter, All-contains_itself, filter_passes}
use Rattle.std.proofs.lemmas.List.FromFn.{length-range_with_len, get_or-range_with_len}
use Rattle.nsi_primitive.specs.Messages.{identity, addressee, is_request}
use Rattle.nsi_primitive.specs.declared.entry.Entry.{Entry}
use Rattle.nsi_primitive.specs.declared.entry.Input.{Input}
use Rattle.nsi_primitive.specs.declared.message.Message.{Message}
use Rattle.nsi_primitive.specs.declared.message.Parcel.{Parcel}
use Rattle.stp_topology.specs.Laws.{IsWellFormed}
use Rattle.stp_topology.specs.Network.{kind_of, name_of, agent_of, children_of}
use Rattle.stp_topology.specs.Sound.{IsSound, TakesRequests}
use Rattle.stp_topology.specs.declared.network.AgentKind.{AgentKind}
use Rattle.stp_topology.specs.declared.network.Network.{Network}
use Rattle.nsi_agent.specs.Homes.{Home, Routes, AreRoutes, home_in}
use Rattle.nsi_agent.specs.Told.{told}
use Rattle.nsi_agent.specs.Said.{name_in, AsksFor, HasAsked, Asks, IsSaidAs, IsSaid, IsFor, IsForIn}
use Rattle.nsi_agent.specs.Asked.{IsAskedBy}
use Rattle.nsi_agent.specs.Laws.{WhatIsSaidIsItsOwn}
use Rattle.nsi_agent.proofs.OwnMessages.{is_named_as_declared}
use Rattle.nsi_agent.proofs.LeastWays.{asks_go_along_links}
use Rattle.agent_node.specs.Openings.{is_provider_of, asks, are_linked, agents, others_of}
use Rattle.nsi_world.proofs.Names.{home_name}
use Rattle.settled_play.proofs.Finding.{none_there, first_there, later_there, first_or_later}

-- what is given: the laws of what agents say, and a topology that a text gives
pub record Given (t : Network) (routes : Routes) : Type 0 where
  pub own : WhatIsSaidIsItsOwn
  pub sound : IsSound t
  pub formed : IsWellFormed t
  pub routed : AreRoutes t routes

---- Links

or_left : (a b : Bool) → a ≡ true → (a || b) ≡ true
or_left a b e = ap (λ z. z || b) e

or_right : (a b : Bool) → b ≡ true → (a || b) ≡ true
or_right true b e = refl
or_right false b e = e

or_turned : (a b : Bool) → (a || b) ≡ (b || a)
or_turned true true = refl
or_turned true false = refl
or_turned false true = refl
or_turned false false = refl

filtered : (f : ℕ → Bool) (ns : List ℕ) (n : ℕ) → f n ≡ true → Contains ns n → Contains (filter f ns) n
filtered f [] n e c = absurd (none_there n c)
filtered f (m ∷ ms) n e c = by (f m) refl (first_or_later m ms n c) (filtered f ms n e)
  where
    never : (b : Bool) → b ≡ false → b ≡ true → ⊥
    never b p q = absurd (cc)

    by : (b : Bool) → f m ≡ b → (m ≡ n) ⊎ Contains ms n → (Contains ms n → Contains (filter f ms) n) → Contains (cond b (m ∷ filter f ms) (filter f ms)) n
    by true p (inl q) k = subst (λ z. Contains (m ∷ filter f ms) z) q (first_there m (filter f ms))
    by true p (inr r) k = later_there m (filter f ms) n (k r)
    by false p (inl q) k = absurd (never (f m) p (ap f q ∙ e))
    by false p (inr r) k = k r

pub agent_there : (t : Network) (b : ℕ) → b < length t.agents → Contains (agents t) b
agent_there t b lt = (b, omega (arith, lt, length-range_with_len 0 (length t.agents)), get_or-range_with_len 0 (length t.agents) b b lt ∙ omega arith)

pub agents_within : (t : Network) (b : ℕ) → Contains (agents t) b → b < length t.agents
agents_within t b c =
    let low : c.0 < length t.agents = let m = c.1 in omega (arith, m, length-range_with_len 0 (length t.agents)) in
    let e : 0 + c.0 ≡ b = sym (get_or-range_with_len 0 (length t.agents) c.0 b low) ∙ c.2 in
    omega (arith, low, e)

pub linked_there : (t : Network) (a b : ℕ) → b < length t.agents → are_linked t a b ≡ true → Contains (others_of t a) b
linked_there t a b lt e = filtered (are_linked t a) (agents t) b e (agent_there t b lt)

pub others_linked : (t : Network) (a b : ℕ) → Contains (others_of t a) b → are_linked t a b ≡ true
others_linked t a b c = All-contains (λ n. are_linked t a n ≡ true) (others_of t a) b (filter_passes (are_linked t a) (agents t)) c

pub others_within : (t : Network) (a b : ℕ) → Contains (others_of t a) b → b < length t.agents
others_within t a b c = agents_within t b (All-contains (Contains (agents t)) (others_of t a) b (All-filter (are_linked t a) (Contains (agents t)) (agents t) (All-contains_itself (agents t))) c)

-- links go both ways
pub linked_back : (t : Network) (a b : ℕ) → a < length t.agents → Contains (others_of t a) b → Contains (others_of t b) a
linked_back t a b lt c = linked_there t b a lt (or_turned (asks t b a) (asks t a b) ∙ others_linked t a b c)

---- Who asks whom

some_within : {X : Type 0} (xs : List X) (n : ℕ) (x : X) → slice_get xs n ≡ Some x → n < length xs
some_within [] n x e = absurd (cc)
some_within (y ∷ ys) zero x e = omega arith
some_within (y ∷ ys) (suc n) x e = let m = some_within ys n x e in omega (arith, m)

kind_within : (t : Network) → IsSound t → (b : ℕ) (k : AgentKind) → kind_of t b ≡ Some k → b < length t.agents
kind_within t sound b k e = let f = sound.fit.kinds in let m = some_within t.kinds b k e in omega (arith, f, m)

takes_within : (t : Network) → IsSound t → (b : ℕ) → TakesRequests t b → b < length t.agents
takes_within t sound b (inl p) = kind_within t sound b (AgentKind.Provider p.0) p.1
takes_within t sound b (inr p) = kind_within t sound b AgentKind.Aggregator p

any_there : (b : ℕ) (ns : List ℕ) → Contains ns b → list_any (λ c. c == b) ns ≡ true
any_there b [] c = absurd (none_there b c)
any_there b (n ∷ ns) c = elim (first_or_later n ns b c) [
  | inl e ↦ or_left (n == b) (list_any (λ c. c == b) ns) (eq-eqb n b e)
  | inr d ↦ or_right (n == b) (list_any (λ c. c == b) ns) (any_there b ns d)
]

got_at : (xs : List ℕ) (k : ℕ) (d x : ℕ) → k < length xs → get_or xs k d ≡ x → slice_get xs k ≡ Some x
got_at [] k d x lt e = absurd (omega (arith, lt))
got_at (y ∷ ys) zero d x lt e = ap (λ z. Some z) e
got_at (y ∷ ys) (suc k) d x lt e = got_at ys k d x (omega (arith, lt)) e

asked_within : (t : Network) (routes : Routes) → Given t routes → (a b : ℕ) → a < length t.agents → IsAskedBy t a b → b < length t.agents
asked_within t routes given a b lt (inl e) = let m = (given.formed.asked a b e).0 in omega (arith, lt, m)
asked_within t routes given a b lt (inr c) = takes_within t given.sound b (given.formed.child a b (given.formed.listed a c.0 b (got_at (children_of t a) c.0 b b c.1 c.2)))

asked_linked : (t : Network) (a b : ℕ) → IsAskedBy t a b → are_linked t a b ≡ true
asked_linked t a b (inl e) = or_left (asks t a b) (asks t b a) (or_left (is_provider_of b (kind_of t a)) (list_any (λ c. c == b) (children_of t a)) (ap (is_provider_of b) e ∙ eq-eqb b b refl))
asked_linked t a b (inr c) = or_left (asks t a b) (asks t b a) (or_right (is_provider_of b (kind_of t a)) (list_any (λ c. c == b) (children_of t a)) (any_there b (children_of t a) c))

---- What goes along a link

-- what may go from one agent to another: a message for the other one, and a request in the one's name
abbrev pub Goes : Network → (from to : ℕ) → Parcel → Type 0
Goes t from to (Parcel.Message m) = (agent_of t (addressee (identity m)) ≡ Some to) × (addressee (identity m) ≡ name_of t to) × (is_request m.body ≡ true → m.header.requester ≡ name_of t from)
Goes t from to (Parcel.Ack i) = Unit {0}

-- what an agent has taken is for it, and a request comes from one to whom it has a link
abbrev pub IsFromLink : Network → ℕ → Input → Type 0
IsFromLink t a (Input.Got m) = (addressee (identity m) ≡ name_of t a) × (is_request m.body ≡ true → (c : ℕ) × Contains (others_of t a) c × (m.header.requester ≡ name_of t c))
IsFromLink t a _ = Unit {0}

abbrev pub IsLinked : Network → ℕ → Entry → Type 0
IsLinked t a e = IsFromLink t a e.input

pub own_name : (t : Network) (routes : Routes) (a : ℕ) → name_in (home_in t routes a).role ≡ name_of t a
own_name t routes a = (is_named_as_declared t routes a).0 ∙ home_name t routes a

for_it : (t : Network) (routes : Routes) (a : ℕ) (i : Input) → IsFromLink t a i → IsFor (name_in (home_in t routes a).role) i
for_it t routes a (Input.Got m) h = h.0 ∙ sym (own_name t routes a)
for_it t routes a (Input.Work n machine) h = tt
for_it t routes a (Input.Force n) h = tt
for_it t routes a (Input.Acked i) h = tt
for_it t routes a Input.Tick h = tt
for_it t routes a (Input.Ask n ask) h = tt

asked_from : (t : Network) (a : ℕ) (name : List ℕ) (i : Input) → IsFromLink t a i → AsksFor name i → (c : ℕ) × Contains (others_of t a) c × (name ≡ name_of t c)
asked_from t a name (Input.Got m) h q = let x = h.1 q.0 in (x.0, x.1, sym q.1 ∙ x.2)
asked_from t a name (Input.Work n machine) h q = absurd q
asked_from t a name (Input.Force n) h q = absurd q
asked_from t a name (Input.Acked i) h q = absurd q
asked_from t a name Input.Tick h q = absurd q
asked_from t a name (Input.Ask n ask) h q = absurd q

-- where it goes
pub record Way (t : Network) (a : ℕ) (m : Message) : Type 0 where
  pub to : ℕ
  pub link : Contains (others_of t a) to
  pub goes : Goes t a to (Parcel.Message m)

-- what an agent says goes along a link
pub said_goes : (t : Network) (routes : Routes) → Given t routes → (a : ℕ) (es : List Entry) (m : Message) → a < length t.agents → All (IsLinked t a) es → Contains (told (home_in t routes a) es).out m → Way t a m
said_goes t routes given a es m lt heard c =
    let h : Home = home_in t routes a in
    let name : List ℕ = name_in h.role in
    let own_es : All (IsForIn name) es = λ k d within. for_it t routes a (get_or es k d).input (heard k d within) in
    let is_own : IsSaid name (Asks h.role) (HasAsked es) m = All-contains (IsSaid name (Asks h.role) (HasAsked es)) (told h es).out m (given.own h es own_es) c in
    by (is_request m.body) refl is_own
  where
    request_to : (m : Message) → is_request m.body ≡ true → addressee (identity m) ≡ m.header.provider
    request_to m e = ap (λ b. cond b m.header.provider m.header.requester) e

    answer_to : (m : Message) → is_request m.body ≡ false → addressee (identity m) ≡ m.header.requester
    answer_to m e = ap (λ b. cond b m.header.provider m.header.requester) e

    by : (b : Bool) → is_request m.body ≡ b → IsSaidAs b (name_in (home_in t routes a).role) (Asks (home_in t routes a).role) (HasAsked es) m → Way t a m
    by true e k =
        let x = asks_go_along_links t routes a m.header.provider given.routed k.1 in
        let near : x.0 < length t.agents = asked_within t routes given a x.0 lt x.1 in
        record {
          to = x.0;
          link = linked_there t a x.0 near (asked_linked t a x.0 x.1);
          goes = (ap (agent_of t) (request_to m e ∙ sym x.2) ∙ given.formed.agents x.0 near, request_to m e ∙ sym x.2, (λ q. k.0 ∙ own_name t routes a));
        }
    by false e k =
        let w = k.1 in
        let x = asked_from t a m.header.requester w.0.input (All-contains (IsLinked t a) es w.0 heard w.1) w.2 in
        record {
          to = x.0;
          link = x.1;
          goes = (ap (agent_of t) (answer_to m e ∙ x.2) ∙ given.formed.agents x.0 (others_within t a x.0 x.1), answer_to m e ∙ x.2, (λ q. absurd (never (is_request m.body) e q)));
        }
      where
        never : (b : Bool) → b ≡ false → b ≡ true → ⊥
        never b p q = absurd (cc)
