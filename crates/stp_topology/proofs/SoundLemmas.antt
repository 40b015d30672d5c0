-- Each line keeps what is true of every topology.
use Rattle.std.proofs.Common.{◌≡◌, ◌≢◌, ℕ, zero, suc, ◌+◌, ◌<◌, ◌≤◌, List, [], ◌∷◌, ◌++◌, Bool, true, false, ◌||◌, nat_le, cond, Option, Some, None, Result, Ok, Err, is_some, length, length-append, length-set, get_or, slice_get, slice_set, ◌⊎◌, inl, inr, sym, ◌∙◌, refl, ap, arith, IfSome, subst}
use Rattle.std.specs.List.{position_from}
use Rattle.std.proofs.lemmas.Bool.Decides.{nat_tests}
use Rattle.std.proofs.lemmas.Bool.{cases_eq}
use Rattle.std.proofs.lemmas.Option.{slice_get_within, slice_get-get_or}
use Rattle.stp_topology.specs.declared.fault.TopologyFault.{TopologyFault}
use Rattle.stp_topology.specs.declared.fault.TopologyFault.TheVariants.{Unknown, Twice, Cycle, TooDeep, Limit}
use Rattle.stp_topology.specs.declared.network.AgentKind.TheVariants.{Provider, Aggregator, Requester}
use Rattle.stp_topology.specs.declared.network.PointCapacity.{PointCapacity}
use Rattle.stp_topology.specs.declared.declare.Sort.{Sort}
use Rattle.stp_topology.specs.declared.declare.Sort.TheVariants as sorts
use Rattle.stp_topology.proofs.RankLemmas.{before, deep_same}
use Rattle.stp_topology.proofs.NameLemmas.{at_push, names_after}
use Rattle.stp_topology.specs.Faults.{◌>>=◌, value_or}
use Rattle.stp_topology.specs.Names.{place_of}
use Rattle.stp_topology.specs.Network.{Network, AgentKind, agent_of, stp_of, nothing, is_provider}
use Rattle.stp_topology.specs.Laws.{child_after}
use Rattle.stp_topology.proofs.PairLemmas.{no_pair}
use Rattle.stp_topology.specs.Sound.{IsSound, IsProvider, IsAggregator, TakesRequests}
use Rattle.stp_topology.specs.Lines.{is_of, known_agent, with_agent, with_stp, is_joined, are_same, with_sdp, has_pair, leads_down, is_too_deep, with_child}

pub stays_at : {X : Type 0} (xs ys : List X) (z : X) (k : ℕ) → slice_get xs k ≡ Some z → slice_get (xs ++ ys) k ≡ Some z
stays_at [] ys z k h = cc
stays_at (x ∷ xs) ys z zero h = h
stays_at (x ∷ xs) ys z (suc k) h = stays_at xs ys z k h

put_same : {X : Type 0} (xs : List X) (k : ℕ) (x y : X) → slice_get xs k ≡ Some x → slice_get (slice_set xs k y) k ≡ Some y
put_same [] k x y h = cc
put_same (x' ∷ xs) zero x y h = refl
put_same (x' ∷ xs) (suc k) x y h = put_same xs k x y h

put_other : {X : Type 0} (xs : List X) (k i : ℕ) (y : X) → i ≢ k → slice_get (slice_set xs k y) i ≡ slice_get xs i
put_other [] k i y n = refl
put_other (x ∷ xs) zero zero y n = absurd (n refl)
put_other (x ∷ xs) zero (suc i) y n = refl
put_other (x ∷ xs) (suc k) zero y n = refl
put_other (x ∷ xs) (suc k) (suc i) y n = put_other xs k i y (λ e. n (ap suc e))

pushed : {X : Type 0} (xs : List X) (y : X) → length (xs ++ y ∷ []) ≡ length xs + 1
pushed xs y = length-append xs (y ∷ [])

-- a test that ends with a fault was not met
passes : {A : Type 0} (b : Bool) (f : TopologyFault) (r : Result A TopologyFault) (new : A) → cond b (Err f) r ≡ Ok new → (b ≡ false) × (r ≡ Ok new)
passes true f r new h = cc
passes false f r new h = (refl, h)

-- a chain that ends well has its first step
pub first_step : {A B : Type 0} (r : Result A TopologyFault) (f : A → Result B TopologyFault) (new : B) → (r >>= f) ≡ Ok new → (x : A) × (r ≡ Ok x) × (f x ≡ Ok new)
first_step (Ok x) f new h = (x, refl, h)
first_step (Err e) f new h = cc

-- nothing is declared twice, so nothing is out of range
pub nothing_sound : IsSound nothing
nothing_sound = record {
  fit = record { few_agents = omega arith; few_stps = omega arith; kinds = refl; owners = refl; capacities = refl; partners = refl };
  owned = λ s a h. cc;
  asked = λ a p h. cc;
  joined = λ s p h. cc;
  parents = λ k e h. cc;
  children = λ k e h. cc;
  depth = refl;
  agents = λ a name h. cc;
  stps = λ s name h. cc;
  apart = λ s p h. cc;
  answering = λ k e h. cc;
  once = λ k l e h g. cc;
}

-- an agent more leaves the others what they are
takes_still : (ks : List AgentKind) (kind : AgentKind) (a : ℕ) → ((hold : ℕ) × (slice_get ks a ≡ Some (Provider hold))) ⊎ (slice_get ks a ≡ Some Aggregator)
    → ((hold : ℕ) × (slice_get (ks ++ kind ∷ []) a ≡ Some (Provider hold))) ⊎ (slice_get (ks ++ kind ∷ []) a ≡ Some Aggregator)
takes_still ks kind a (inl p) = inl (p.0, stays_at ks (kind ∷ []) (Provider p.0) a p.1)
takes_still ks kind a (inr g) = inr (stays_at ks (kind ∷ []) Aggregator a g)

abbrev agent_after : Network → List ℕ → AgentKind → Network
agent_after t name kind = record t { agents = t.agents ++ name ∷ []; kinds = t.kinds ++ kind ∷ [] }

agent_made : (t : Network) (name : List ℕ) (kind : AgentKind) → IsSound t → ((p : ℕ) → kind ≡ Requester p → (p < length t.agents) × TakesRequests t p) → agent_of t name ≡ None → length t.agents + 1 ≤ 64 → IsSound (agent_after t name kind)
agent_made t name kind i asks new few = record {
  fit = record {
    few_agents = omega (arith, pushed t.agents name);
    few_stps = i.fit.few_stps;
    kinds = omega (arith, pushed t.agents name, pushed t.kinds kind, i.fit.kinds);
    owners = i.fit.owners;
    capacities = i.fit.capacities;
    partners = i.fit.partners;
  };
  owned = λ s a h. let p = i.owned s a h in (p.0, stays_at t.kinds (kind ∷ []) (Provider p.0) a p.1);
  asked = λ a p h. elim (at_push t.kinds kind (Requester p) a h) [
    | inl e ↦ let old = i.asked a p e in (old.0, takes_still t.kinds kind p old.1)
    | inr e ↦ let now = asks p e.1 in (omega (arith, i.fit.kinds, e.0, now.0), takes_still t.kinds kind p now.1)
  ];
  joined = i.joined;
  parents = λ k e h. stays_at t.kinds (kind ∷ []) Aggregator e.0 (i.parents k e h);
  children = λ k e h. omega (arith, pushed t.agents name, i.children k e h);
  depth = deep_same t.kinds kind t.children (λ k e h. omega (arith, i.children k e h, i.fit.kinds)) ∙ i.depth;
  agents = names_after t.agents name new i.agents;
  stps = i.stps;
  apart = i.apart;
  answering = λ k e h. takes_still t.kinds kind e.1 (i.answering k e h);
  once = i.once;
}

is_absent : (o : Option ℕ) → is_some o ≡ false → o ≡ None
is_absent None h = refl
is_absent (Some a) h = cc

pub agent_sound : (t new : Network) (name : List ℕ) (kind : AgentKind) → IsSound t → ((p : ℕ) → kind ≡ Requester p → (p < length t.agents) × TakesRequests t p) → with_agent t name kind ≡ Ok new → IsSound new
unfolding with_agent
agent_sound t new name kind i asks h =
    let a = passes (is_some (agent_of t name)) Twice _ new h in
    let b = passes (nat_le 64 (length t.agents)) Limit _ new a.1 in
    let few : length t.agents + 1 ≤ 64 = grind (arith, nat_tests, b.0) in
    let same : agent_after t name kind ≡ new = cc in
    subst IsSound same (agent_made t name kind i asks (is_absent (agent_of t name) a.0) few)

abbrev stp_after : Network → List ℕ → ℕ → PointCapacity → Network
stp_after t name owner capacity = record t { stps = t.stps ++ name ∷ []; owners = t.owners ++ owner ∷ []; capacities = t.capacities ++ capacity ∷ []; partners = t.partners ++ None ∷ [] }

-- points that are joined have their owners still
apart_still : (t : Network) (owner s p : ℕ) → IsSound t → slice_get t.partners s ≡ Some (Some p) → slice_get (t.owners ++ owner ∷ []) s ≢ slice_get (t.owners ++ owner ∷ []) p
apart_still t owner s p i h e =
    let there : length t.partners ≡ length t.owners = i.fit.partners ∙ sym i.fit.owners in
    let at_s = before t.owners (owner ∷ []) s (omega (arith, there, slice_get_within t.partners s (Some p) h)) in
    let at_p = before t.owners (owner ∷ []) p (omega (arith, there, slice_get_within t.partners p (Some s) (i.joined s p h))) in
    i.apart s p h (sym at_s ∙ (e ∙ at_p))

stp_made : (t : Network) (name : List ℕ) (owner : ℕ) (capacity : PointCapacity) → IsSound t → IsProvider t owner → stp_of t name ≡ None → length t.stps + 1 ≤ 4096 → IsSound (stp_after t name owner capacity)
stp_made t name owner capacity i own new few = record {
  fit = record {
    few_agents = i.fit.few_agents;
    few_stps = omega (arith, pushed t.stps name);
    kinds = i.fit.kinds;
    owners = omega (arith, pushed t.stps name, pushed t.owners owner, i.fit.owners);
    capacities = omega (arith, pushed t.stps name, pushed t.capacities capacity, i.fit.capacities);
    partners = omega (arith, pushed t.stps name, pushed t.partners None, i.fit.partners);
  };
  owned = λ s a h. elim (at_push t.owners owner a s h) [ inl e ↦ i.owned s a e | inr e ↦ subst (IsProvider t) e.1 own ];
  asked = i.asked;
  joined = λ s p h. elim (at_push t.partners None (Some p) s h) [ inl e ↦ stays_at t.partners (None ∷ []) (Some s) p (i.joined s p e) | inr e ↦ cc ];
  parents = i.parents;
  children = i.children;
  depth = i.depth;
  agents = i.agents;
  stps = names_after t.stps name new i.stps;
  apart = λ s p h. elim (at_push t.partners None (Some p) s h) [ inl e ↦ apart_still t owner s p i e | inr e ↦ cc ];
  answering = i.answering;
  once = i.once;
}

pub stp_sound : (t new : Network) (name : List ℕ) (owner : ℕ) (capacity : PointCapacity) → IsSound t → IsProvider t owner → with_stp t name owner capacity ≡ Ok new → IsSound new
unfolding with_stp
stp_sound t new name owner capacity i own h =
    let a = passes (is_some (stp_of t name)) Twice _ new h in
    let b = passes (nat_le 4096 (length t.stps)) Limit _ new a.1 in
    let few : length t.stps + 1 ≤ 4096 = grind (arith, nat_tests, b.0) in
    let same : stp_after t name owner capacity ≡ new = cc in
    subst IsSound same (stp_made t name owner capacity i own (is_absent (stp_of t name) a.0) few)

-- a point in range with no partner
alone : (o : Option (Option ℕ)) → is_joined o ≡ false → o ≢ None → o ≡ Some None
alone None j n = absurd (n refl)
alone (Some None) j n = refl
alone (Some (Some p)) j n = cc

there : {X : Type 0} (xs : List X) (k : ℕ) → k < length xs → slice_get xs k ≢ None
there [] k l e = absurd (omega arith)
there (x ∷ xs) zero l e = cc
there (x ∷ xs) (suc k) l e = there xs k (omega arith) e

same_itself : (o : Option ℕ) → are_same o o ≡ false → o ≡ None
same_itself None h = refl
same_itself (Some a) h = absurd (grind (arith, nat_tests, h))

neither : (a b c : Bool) → (a || b || c) ≡ false → (a ≡ false) × (b ≡ false) × (c ≡ false)
neither a b c h = (grind arith, grind arith, grind arith)

module _ (P : List (Option ℕ)) (i j : ℕ) (pi : slice_get P i ≡ Some None) (pj : slice_get P j ≡ Some None) (apart : i ≢ j) where
  abbrev pairs : List (Option ℕ)
  pairs = slice_set (slice_set P i (Some j)) j (Some i)

  at_j : slice_get pairs j ≡ Some (Some i)
  at_j = put_same (slice_set P i (Some j)) j None (Some i) (put_other P i j (Some j) (λ e. apart (sym e)) ∙ pj)

  at_i : slice_get pairs i ≡ Some (Some j)
  at_i = put_other (slice_set P i (Some j)) j i (Some i) apart ∙ put_same P i None (Some j) pi

  at_other : (k : ℕ) → k ≢ i → k ≢ j → slice_get pairs k ≡ slice_get P k
  at_other k ni nj = put_other (slice_set P i (Some j)) j k (Some i) nj ∙ put_other P i k (Some j) ni

  -- points stay joined both ways
  both_ways : ((s p : ℕ) → slice_get P s ≡ Some (Some p) → slice_get P p ≡ Some (Some s)) → (s p : ℕ) → slice_get pairs s ≡ Some (Some p) → slice_get pairs p ≡ Some (Some s)
  both_ways old s p h = by_place (cases_eq s i) (cases_eq s j)
    where
      by_place : (s ≡ i) ⊎ (s ≢ i) → (s ≡ j) ⊎ (s ≢ j) → slice_get pairs p ≡ Some (Some s)
      by_place (inl e) d = let q : p ≡ j = cc (ap (slice_get pairs) e, at_i) in cc (ap (slice_get pairs) q, at_j)
      by_place (inr n) (inl e) = let q : p ≡ i = cc (ap (slice_get pairs) e, at_j) in cc (ap (slice_get pairs) q, at_i)
      by_place (inr n) (inr m) =
          let before : slice_get P s ≡ Some (Some p) = sym (at_other s n m) ∙ h in
          let back = old s p before in
          at_other p (λ e. absurd (cc (ap (slice_get P) e, pi, back))) (λ e. absurd (cc (ap (slice_get P) e, pj, back))) ∙ back

  -- and they have two owners
  of_two : (owners : List ℕ) → slice_get owners i ≢ slice_get owners j → ((s p : ℕ) → slice_get P s ≡ Some (Some p) → slice_get owners s ≢ slice_get owners p)
      → (s p : ℕ) → slice_get pairs s ≡ Some (Some p) → slice_get owners s ≢ slice_get owners p
  of_two owners two old s p h = by_place (cases_eq s i) (cases_eq s j)
    where
      by_place : (s ≡ i) ⊎ (s ≢ i) → (s ≡ j) ⊎ (s ≢ j) → slice_get owners s ≢ slice_get owners p
      by_place (inl e) d g = let q : p ≡ j = cc (ap (slice_get pairs) e, at_i, h) in two (ap (slice_get owners) (sym e) ∙ (g ∙ ap (slice_get owners) q))
      by_place (inr n) (inl e) g = let q : p ≡ i = cc (ap (slice_get pairs) e, at_j, h) in two (ap (slice_get owners) (sym q) ∙ (sym g ∙ ap (slice_get owners) e))
      by_place (inr n) (inr m) g = old s p (sym (at_other s n m) ∙ h) g

abbrev sdp_after : Network → ℕ → ℕ → Network
sdp_after t i j = record t { partners = slice_set (slice_set t.partners i (Some j)) j (Some i) }

sdp_made : (t : Network) (i j : ℕ) → IsSound t → slice_get t.partners i ≡ Some None → slice_get t.partners j ≡ Some None → i ≢ j → slice_get t.owners i ≢ slice_get t.owners j → IsSound (sdp_after t i j)
sdp_made t i j s pi pj apart two = record {
  fit = record {
    few_agents = s.fit.few_agents;
    few_stps = s.fit.few_stps;
    kinds = s.fit.kinds;
    owners = s.fit.owners;
    capacities = s.fit.capacities;
    partners = length-set (slice_set t.partners i (Some j)) j (Some i) ∙ length-set t.partners i (Some j) ∙ s.fit.partners;
  };
  owned = s.owned;
  asked = s.asked;
  joined = both_ways t.partners i j pi pj apart s.joined;
  parents = s.parents;
  children = s.children;
  depth = s.depth;
  agents = s.agents;
  stps = s.stps;
  apart = of_two t.partners i j pi pj apart t.owners two s.apart;
  answering = s.answering;
  once = s.once;
}

pub sdp_sound : (t new : Network) (i j : ℕ) → IsSound t → i < length t.stps → j < length t.stps → with_sdp t i j ≡ Ok new → IsSound new
unfolding with_sdp
sdp_sound t new i j s li lj h =
    let a = passes (is_joined (slice_get t.partners i) || is_joined (slice_get t.partners j) || are_same (slice_get t.owners i) (slice_get t.owners j)) Twice _ new h in
    let n = neither (is_joined (slice_get t.partners i)) (is_joined (slice_get t.partners j)) (are_same (slice_get t.owners i) (slice_get t.owners j)) a.0 in
    let pi = alone (slice_get t.partners i) n.0 (there t.partners i (omega (arith, s.fit.partners))) in
    let pj = alone (slice_get t.partners j) n.1 (there t.partners j (omega (arith, s.fit.partners))) in
    let two : slice_get t.owners i ≢ slice_get t.owners j = λ e. there t.owners i (omega (arith, s.fit.owners)) (same_itself (slice_get t.owners i) (subst (λ o. are_same (slice_get t.owners i) o ≡ false) (sym e) n.2)) in
    let apart : i ≢ j = λ e. two (ap (slice_get t.owners) e) in
    let same : sdp_after t i j ≡ new = cc in
    subst IsSound same (sdp_made t i j s pi pj apart two)

-- a pair that wasn't there stands once
once_still : (pairs : List (ℕ × ℕ)) (i j : ℕ) → has_pair pairs i j ≡ false → ((k l : ℕ) (e : ℕ × ℕ) → slice_get pairs k ≡ Some e → slice_get pairs l ≡ Some e → k ≡ l)
    → (k l : ℕ) (e : ℕ × ℕ) → slice_get (pairs ++ (i, j) ∷ []) k ≡ Some e → slice_get (pairs ++ (i, j) ∷ []) l ≡ Some e → k ≡ l
once_still pairs i j new old k l e h g = by_place (at_push pairs (i, j) e k h) (at_push pairs (i, j) e l g)
  where
    by_place : (slice_get pairs k ≡ Some e) ⊎ ((k ≡ length pairs) × ((i, j) ≡ e)) → (slice_get pairs l ≡ Some e) ⊎ ((l ≡ length pairs) × ((i, j) ≡ e)) → k ≡ l
    by_place (inl a) (inl b) = old k l e a b
    by_place (inl a) (inr b) = absurd (no_pair pairs i j k new (a ∙ ap (λ x. Some x) (sym b.1)))
    by_place (inr a) (inl b) = absurd (no_pair pairs i j l new (b ∙ ap (λ x. Some x) (sym a.1)))
    by_place (inr a) (inr b) = a.0 ∙ sym b.0

child_made : (t : Network) (i j : ℕ) → IsSound t → IsAggregator t i → TakesRequests t j → has_pair t.children i j ≡ false → j < length t.agents → is_too_deep t.kinds (t.children ++ (i, j) ∷ []) ≡ false → IsSound (child_after t i j)
child_made t i j s p r new l d = record {
  fit = record {
    few_agents = s.fit.few_agents;
    few_stps = s.fit.few_stps;
    kinds = s.fit.kinds;
    owners = s.fit.owners;
    capacities = s.fit.capacities;
    partners = s.fit.partners;
  };
  owned = s.owned;
  asked = s.asked;
  joined = s.joined;
  parents = λ k e h. elim (at_push t.children (i, j) e k h) [ inl q ↦ s.parents k e q | inr q ↦ subst (λ (x : ℕ × ℕ). IsAggregator t x.0) q.1 p ];
  children = λ k e h. elim (at_push t.children (i, j) e k h) [ inl q ↦ s.children k e q | inr q ↦ subst (λ (x : ℕ × ℕ). x.1 < length t.agents) q.1 l ];
  depth = d;
  agents = s.agents;
  stps = s.stps;
  apart = s.apart;
  answering = λ k e h. elim (at_push t.children (i, j) e k h) [ inl q ↦ s.answering k e q | inr q ↦ subst (λ (x : ℕ × ℕ). TakesRequests t x.1) q.1 r ];
  once = once_still t.children i j new s.once;
}

pub child_sound : (t new : Network) (i j : ℕ) → IsSound t → IsAggregator t i → TakesRequests t j → j < length t.agents → with_child t i j ≡ Ok new → IsSound new
unfolding with_child
child_sound t new i j s p r l h =
    let a = passes (has_pair t.children i j) Twice _ new h in
    let b = passes (leads_down t.children 4 j i) Cycle _ new a.1 in
    let c = passes (is_too_deep t.kinds (t.children ++ (i, j) ∷ [])) TooDeep _ new b.1 in
    let same : child_after t i j ≡ new = cc in
    subst IsSound same (child_made t i j s p r a.0 l c.0)

-- an agent of a sort
of_sort : (sort : Sort) (o : Option AgentKind) → is_of sort o ≡ true → (k : AgentKind) × (o ≡ Some k)
of_sort sorts.OneProvider None h = cc
of_sort sorts.OneAggregator None h = cc
of_sort sorts.Either None h = cc
of_sort sort (Some k) h = (k, refl)

one_provider : (o : Option AgentKind) → is_of sorts.OneProvider o ≡ true → (hold : ℕ) × (o ≡ Some (Provider hold))
one_provider None h = cc
one_provider (Some (Provider hold)) h = (hold, refl)
one_provider (Some Aggregator) h = cc
one_provider (Some (Requester p)) h = cc

one_aggregator : (o : Option AgentKind) → is_of sorts.OneAggregator o ≡ true → o ≡ Some Aggregator
one_aggregator None h = cc
one_aggregator (Some (Provider hold)) h = cc
one_aggregator (Some Aggregator) h = refl
one_aggregator (Some (Requester p)) h = cc

of_either : (o : Option AgentKind) → is_of sorts.Either o ≡ true → ((hold : ℕ) × (o ≡ Some (Provider hold))) ⊎ (o ≡ Some Aggregator)
of_either None h = cc
of_either (Some (Provider hold)) h = inl (hold, refl)
of_either (Some Aggregator) h = inr refl
of_either (Some (Requester p)) h = cc

known_test : (b : Bool) (a i : ℕ) → cond {A = Result ℕ TopologyFault} b (Ok a) (Err Unknown) ≡ Ok i → (b ≡ true) × (a ≡ i)
known_test true a i h = (refl, cc)
known_test false a i h = cc

known_of : (t : Network) (sort : Sort) (name : List ℕ) (i : ℕ) → known_agent t sort name ≡ Ok i → is_of sort (slice_get t.kinds i) ≡ true
unfolding known_agent
known_of t sort name i h =
    let s = first_step (value_or Unknown (agent_of t name)) (λ a. cond (is_of sort (slice_get t.kinds a)) (Ok a) (Err Unknown)) i h in
    let k = known_test (is_of sort (slice_get t.kinds s.0)) s.0 i s.2 in
    subst (λ a. is_of sort (slice_get t.kinds a) ≡ true) k.1 k.0

pub known_provider : (t : Network) (name : List ℕ) (i : ℕ) → known_agent t sorts.OneProvider name ≡ Ok i → IsProvider t i
known_provider t name i h = one_provider (slice_get t.kinds i) (known_of t sorts.OneProvider name i h)

pub known_aggregator : (t : Network) (name : List ℕ) (i : ℕ) → known_agent t sorts.OneAggregator name ≡ Ok i → IsAggregator t i
known_aggregator t name i h = one_aggregator (slice_get t.kinds i) (known_of t sorts.OneAggregator name i h)

pub known_takes : (t : Network) (name : List ℕ) (i : ℕ) → known_agent t sorts.Either name ≡ Ok i → TakesRequests t i
known_takes t name i h = of_either (slice_get t.kinds i) (known_of t sorts.Either name i h)

pub known_within : (t : Network) (sort : Sort) (name : List ℕ) (i : ℕ) → IsSound t → known_agent t sort name ≡ Ok i → i < length t.agents
known_within t sort name i s h =
    let k = of_sort sort (slice_get t.kinds i) (known_of t sort name i h) in
    omega (arith, slice_get_within t.kinds i k.0 k.1, s.fit.kinds)

abbrev FoundAt : {X : Type 0} → (X → Bool) → List X → ℕ → ℕ → Type 0
FoundAt {X} p xs n i = (k : ℕ) × (x : X) × (i ≡ n + k) × (slice_get xs k ≡ Some x) × (p x ≡ true)

found_in : {X : Type 0} (p : X → Bool) (xs : List X) (n i : ℕ) → position_from p n xs ≡ Some i → FoundAt p xs n i
found_in p [] n i h = cc
found_in {X} p (x ∷ xs) n i h = by_test (p x) refl h (λ e. found_in p xs (n + 1) i e)
  where
    by_test : (b : Bool) → p x ≡ b → cond b (Some n) (position_from p (n + 1) xs) ≡ Some i → (position_from p (n + 1) xs ≡ Some i → FoundAt p xs (n + 1) i) → FoundAt p (x ∷ xs) n i
    by_test true q e next = let z : n ≡ i = cc in let y : i ≡ n + 0 = omega arith in (0, x, y, refl, q)
    by_test false q e next = let r = next e in let z : i ≡ n + suc r.0 = omega (arith, r.2) in (suc r.0, r.1, z, r.3, r.4)

found_within : (names : List (List ℕ)) (name : List ℕ) (i : ℕ) → place_of names name ≡ Some i → i < length names
found_within names name i h =
    let r = found_in _ names 0 i h in
    omega (arith, r.2, slice_get_within names r.0 r.1 r.3)

pub stp_within : (t : Network) (name : List ℕ) (i : ℕ) → value_or Unknown (stp_of t name) ≡ Ok i → i < length t.stps
stp_within t name i h = found_within t.stps name i (present (stp_of t name) h)
  where
    present : (o : Option ℕ) → value_or Unknown o ≡ Ok i → o ≡ Some i
    present None e = cc
    present (Some k) e = cc

provider_kind : (k : AgentKind) → is_provider k ≡ true → (hold : ℕ) × (k ≡ Provider hold)
provider_kind (Provider hold) h = (hold, refl)
provider_kind Aggregator h = cc
provider_kind (Requester p) h = cc

-- the first provider is a provider
pub first_is : (t : Network) (i : ℕ) → position_from is_provider 0 t.kinds ≡ Some i → IsProvider t i
first_is t i h =
    let r = found_in is_provider t.kinds 0 i h in
    let k = provider_kind r.1 r.4 in
    let at : i ≡ r.0 = omega (arith, r.2) in
    (k.0, ap (slice_get t.kinds) at ∙ r.3 ∙ ap (λ x. Some x) k.1)

pub provider_within : (t : Network) (i : ℕ) → IsSound t → IsProvider t i → i < length t.agents
provider_within t i s p = omega (arith, s.fit.kinds, slice_get_within t.kinds i (Provider p.0) p.1)

-- a point's partner is a point
pub partner_within : (t : Network) (s : ℕ) (r d : Option ℕ) → IsSound t → s < length t.stps → r ≡ get_or t.partners s d → IfSome r (λ p. p < length t.stps)
partner_within t s None d i l e = tt
partner_within t s (Some p) d i l e =
    omega (arith, i.fit.partners, slice_get_within t.partners p (Some s) (i.joined s p (slice_get-get_or t.partners s d (omega (arith, i.fit.partners)) ∙ ap (λ x. Some x) (sym e))))
