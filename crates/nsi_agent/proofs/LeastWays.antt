-- Whom an agent asks by the least paths of the topology is its provider, or one of its children.
use Rattle.std.proofs.Common.{◌≡◌, inl, inr, ◌∙◌, ◌==◌, ℕ, Bool, true, false, List, [], ◌∷◌, slice_get, Option, Some, None, refl, subst, arith}
use Rattle.std.specs.List.{All, Contains, list_any}
use Rattle.std.specs.Str.{bytes_eq}
use Rattle.std.proofs.lemmas.Bool.Decides.{Decides-eqb}
use Rattle.std.proofs.lemmas.Slice.Eq.{bytes_eq-Decides}
use Rattle.std.proofs.lemmas.List.Folds.{Any-from_list_any, list_any-from_Any}
use Rattle.std.proofs.lemmas.List.Elements.{All-nil, All-cons, All-map, All-weaker, All-contains, Contains-append_right, Contains-get_or}
use Rattle.std.proofs.lemmas.Option.{none-some}
use Rattle.stp_topology.specs.declared.network.AgentKind.{AgentKind}
use Rattle.stp_topology.specs.declared.network.Network.{Network}
use Rattle.stp_topology.specs.Network.{kind_of, name_of, partner_of, children_of}
use Rattle.path_segments.specs.declared.path.PlacedSegment.{PlacedSegment}
use Rattle.path_segments.specs.declared.path.Segment.{Segment}
use Rattle.path_segments.specs.Paths.{IsSegment, Onward, Offers, IsPath, IsLeastPath, Less, position_of, placed, greatest_rank}
use Rattle.agent_state.specs.declared.parent.Leg.{Leg}
use Rattle.aggregator_agent.specs.Setting.{leg_of, legs_of, AreLegs, agent_in, setting_of as aggregator_of}
use Rattle.requester_agent.specs.Setting.{asked_by}
use Rattle.nsi_agent.specs.Homes.{aggregates, Routes, AreRoutes, role_in, home_in}
use Rattle.nsi_agent.specs.Said.{Asks}
use Rattle.nsi_agent.specs.Asked.{IsAskedBy}
use Rattle.nsi_agent.specs.Laws.{AsksGoAlongLinks}
use Rattle.nsi_agent.proofs.Descending.{by_path}

---- The children of a path

-- a child that stands at its position among the children is one of them
child_there : (children : List ℕ) (c k : ℕ) → slice_get children (position_of children c) ≡ Some k → Contains children c
unfolding position_of
child_there [] c k e = absurd (none-some k e)
child_there (x ∷ xs) c k e = by (x == c) refl (child_there xs c k)
  where
    here : x ≡ c → Contains (x ∷ xs) c
    here same = subst (Contains (x ∷ xs)) same (Contains-get_or (x ∷ xs) 0 x (omega arith))

    by : (b : Bool) → (x == c) ≡ b → (slice_get xs (position_of xs c) ≡ Some k → Contains xs c) → Contains (x ∷ xs) c
    by true t rest = here ((Decides-eqb x c).0 t)
    by false t rest = Contains-append_right (x ∷ []) xs c (rest (grind (arith, e, t)))

module _ (t : Network) (a : ℕ) where
  abbrev segments : ℕ → ℕ → ℕ → Type 0
  segments = IsSegment (Offers t greatest_rank) (children_of t a)

  onward_children : (xs : List Segment) (exit dest : ℕ) → Onward (partner_of t) segments exit dest (placed (children_of t a) xs) → All (λ (x : Segment). Contains (children_of t a) x.child) xs
  onward_children [] exit dest p = All-nil (λ (x : Segment). Contains (children_of t a) x.child)
  onward_children (x ∷ xs) exit dest p =
      All-cons (λ (x : Segment). Contains (children_of t a) x.child) x xs (child_there (children_of t a) x.child p.1.child p.1.is_child) (onward_children xs x.exit dest p.2)

  path_children : (xs : List Segment) (source dest : ℕ) → IsPath t a source dest xs → All (λ (x : Segment). Contains (children_of t a) x.child) xs
  path_children [] source dest p = absurd p
  path_children (x ∷ xs) source dest p =
      All-cons (λ (x : Segment). Contains (children_of t a) x.child) x xs (child_there (children_of t a) x.child p.1.child p.1.is_child) (onward_children xs x.exit dest p.2)

  -- a name is that of a child
  abbrev IsChildName : List ℕ → Type 0
  IsChildName name = (b : ℕ) × Contains (children_of t a) b × (name_of t b ≡ name)

  path_names : (xs : List Segment) (source dest : ℕ) → IsPath t a source dest xs → All (λ (leg : Leg). IsChildName leg.child) (legs_of t xs)
  unfolding legs_of
  path_names xs source dest p =
      All-map (λ (leg : Leg). IsChildName leg.child) (leg_of t) xs
      (All-weaker (λ (x : Segment). Contains (children_of t a) x.child) (λ (x : Segment). IsChildName (leg_of t x).child) (λ x c. (x.child, c, refl)) xs (path_children xs source dest p))

  ---- The least path

  -- where no path is the least, none is there
  none_there : (source dest : ℕ) → ((xs : List Segment) → IsLeastPath t a source dest xs → ⊥) → (xs : List Segment) → IsPath t a source dest xs → ⊥
  none_there source dest never xs p = by_path NoneAt lesser (placed (children_of t a) xs) xs refl p
    where
      NoneAt : List PlacedSegment → Type 0
      NoneAt ys = (zs : List Segment) → placed (children_of t a) zs ≡ ys → IsPath t a source dest zs → ⊥

      lesser : (ys : List PlacedSegment) → ((us : List PlacedSegment) → Less us ys → NoneAt us) → NoneAt ys
      lesser ys earlier zs e q = never zs (record { path = q; least = λ other r l. earlier (placed (children_of t a) other) (subst (Less (placed (children_of t a) other)) e l) other refl r })

  -- each leg of the least path leads to a child
  leg_named : (source dest : ℕ) (legs : List Leg) → AreLegs t a source dest legs → (leg : Leg) → Contains legs leg → (IsChildName leg.child → ⊥) → ⊥
  leg_named source dest legs are leg c stranger =
      none (none_there source dest never)
    where
      never : (xs : List Segment) → IsLeastPath t a source dest xs → ⊥
      never xs p = stranger (All-contains (λ (leg : Leg). IsChildName leg.child) (legs_of t xs) leg (path_names xs source dest p.path) (subst (λ ls. Contains ls leg) (are.least xs p) c))

      none : ((xs : List Segment) → IsPath t a source dest xs → ⊥) → ⊥
      none no_path = let empty = subst (λ ls. Contains ls leg) (are.none no_path) c in let lt = empty.1 in absurd (omega (arith, lt))

  abbrev is_named : List ℕ → ℕ → Bool
  is_named name b = bytes_eq (name_of t b) name

  found : (name : List ℕ) → ((IsChildName name → ⊥) → ⊥) → IsChildName name
  found name there = by (list_any (is_named name) (children_of t a)) refl
    where
      any_of : (b : ℕ) → Contains (children_of t a) b → name_of t b ≡ name → list_any (is_named name) (children_of t a) ≡ true
      any_of b c e = list_any-from_Any (is_named name) (children_of t a) (c.0, b, c.1, c.2, (bytes_eq-Decides (name_of t b) name).1 e)

      by : (r : Bool) → list_any (is_named name) (children_of t a) ≡ r → IsChildName name
      by true e = let some = Any-from_list_any (is_named name) (children_of t a) e in (some.1, (some.0, some.2, some.3), (bytes_eq-Decides (name_of t some.1) name).0 some.4)
      by false e = absurd (there (λ named. absurd (let yes = any_of named.0 named.1 named.2 in cc)))

---- Roles

aggregator_asks : (t : Network) (routes : Routes) (a : ℕ) (name : List ℕ) → AreRoutes t routes → Asks (aggregates (aggregator_of t (agent_in t a) (routes a))) name → (b : ℕ) × IsAskedBy t a b × (name_of t b ≡ name)
aggregator_asks t routes a name are asked =
    let source = asked.0 in
    let dest = asked.1 in
    let leg = asked.2 in
    let named = found t a leg.child (leg_named t a source dest (routes a source dest) (are a source dest) leg asked.3) in
    (named.0, inr named.1, named.2 ∙ asked.4)

asks_in : (o : Option AgentKind) (t : Network) (routes : Routes) (a : ℕ) (name : List ℕ) → kind_of t a ≡ o → AreRoutes t routes → Asks (role_in o t routes a) name → (b : ℕ) × IsAskedBy t a b × (name_of t b ≡ name)
asks_in (Some (AgentKind.Requester provider)) t routes a name e are asked = (provider, inl e, subst (λ o. asked_by t o ≡ name) e asked)
asks_in (Some (AgentKind.Provider hold)) t routes a name e are asked = absurd asked
asks_in (Some AgentKind.Aggregator) t routes a name e are asked = aggregator_asks t routes a name are asked
asks_in None t routes a name e are asked = aggregator_asks t routes a name are asked

pub asks_go_along_links : AsksGoAlongLinks
unfolding home_in
asks_go_along_links t routes a name are asked = asks_in (kind_of t a) t routes a name refl are asked
