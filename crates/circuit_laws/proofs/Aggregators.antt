-- The laws of an aggregator's views of its children in runs.
use Rattle.std.proofs.Common.{ℕ, ◌≡◌, ◌∙◌, false, List, [], Some, slice_get, get_or, sym, ap, subst}
use Rattle.std.proofs.lemmas.Option.{get_or_from_slice_get}
use Rattle.std.proofs.lemmas.Slice.Eq.{bytes_eq-Decides}
use Rattle.nsi_primitive.specs.declared.entry.Event.{Event}
use Rattle.stp_topology.specs.declared.network.Network.{Network}
use Rattle.child_connection.specs.Views.{ChildConnection}
use Rattle.child_connection.specs.Holding.{IsAlike}
use Rattle.agent_state.specs.State.{blank_agent}
use Rattle.aggregator_agent.specs.Setting.{Setting as AggregatorSetting}
use Rattle.nsi_agent.specs.Homes.{aggregates, Routes, home_in}
use Rattle.nsi_agent.specs.Said.{name_in}
use Rattle.nsi_world.specs.Worlds.{Homes, IsAgent, World, empty}
use Rattle.nsi_world.specs.Runs.{is_requester, world_after, AreAllowed}
use Rattle.nsi_world.specs.Laws.{HeardWasSent}
use Rattle.run_growth.specs.WorldCuts.{IsPlaceOf, told_to}
use Rattle.run_growth.proofs.Sent.{given_in}
use Rattle.circuit_pairs.specs.Minding.{no_child, mine}
use Rattle.circuit_pairs.proofs.Minding.{alike_self}
use Rattle.circuit_pairs.proofs.Parenting.{dec_pair, mine_own}
use Rattle.circuit_pairs.proofs.Overseeing.{no_mine}
use Rattle.circuit_laws.specs.Backed.{AreBackedIn}
use Rattle.circuit_laws.specs.Laws.{child_at, HasPhases, IsInStep, ChildrenHavePhases, ChildrenAreInStep, ChildrenAreBacked, ChildrenKnowTheirOwn}
use Rattle.circuit_laws.proofs.Roles.{Keeps, views_of, aggregates_keep}
use Rattle.circuit_laws.proofs.Cutting.{view_phases, view_step, view_known, views_backed}

pub blank_slot : (child : List ℕ) (i : ℕ × ℕ) → IsAlike (no_child child) (views_of child blank_agent i)
blank_slot child i = subst (IsAlike (no_child child)) (sym (no_mine child)) (alike_self (no_child child))

module _ (t : Network) (routes : Routes) (events : List Event) (a b k n i : ℕ) (setting : AggregatorSetting) (xs : List ChildConnection) (x : ChildConnection) (allowed : AreAllowed (home_in t routes) empty events) where
  abbrev homes : Homes
  homes = home_in t routes

  abbrev w : World
  w = world_after empty events

  abbrev child : List ℕ
  child = name_in (homes b).role

  module _ (agent : IsAgent homes a) (other : IsAgent homes b) (role : (homes a).role ≡ aggregates setting) (apart : b ≡ a → ⊥) (asked : is_requester (homes b).role ≡ false) (place : IsPlaceOf w a k)
      (there : slice_get (told_to homes w a k).state.children n ≡ Some xs) (its : slice_get xs i ≡ Some x) (of : x.child ≡ (homes b).name) where
    keeps : Keeps (ℕ × ℕ) (homes a).role child (views_of child)
    keeps = aggregates_keep (homes a).role setting child role

    is_there : views_of child (told_to homes w a k).state (n, i) ≡ x
    is_there =
        ap (λ (z : List ChildConnection). mine child (get_or z i (no_child child))) (get_or_from_slice_get (told_to homes w a k).state.children n xs [] there)
        ∙ (ap (mine child) (get_or_from_slice_get xs i x (no_child child) its) ∙ mine_own child x ((bytes_eq-Decides child x.child).1 ((given_in t routes).named b ∙ sym of)))

    named : (P : List ℕ → List ℕ → Type 0) → P (name_in (homes a).role) child → P (homes a).name (homes b).name
    named P h = subst (λ (p : List ℕ). P p (homes b).name) ((given_in t routes).named a) (subst (λ (r : List ℕ). P (name_in (homes a).role) r) ((given_in t routes).named b) h)

    child_has_phases : (j : ℕ) → IsPlaceOf w b j → HasPhases (homes a).name (homes b).name (child_at homes w b j) x
    child_has_phases j at =
        named (λ p r. HasPhases p r (child_at homes w b j) x)
        (subst (HasPhases (name_in (homes a).role) child (child_at homes w b j)) is_there
        (view_phases homes (given_in t routes) events allowed a b agent other apart asked (ℕ × ℕ) dec_pair (views_of child) keeps (blank_slot child) k place j at (n, i)))

    child_is_in_step : (j : ℕ) → IsPlaceOf w b j → IsInStep (homes a).name (child_at homes w b j) x
    child_is_in_step j at =
        named (λ p r. IsInStep p (child_at homes w b j) x)
        (subst (IsInStep (name_in (homes a).role) (child_at homes w b j)) is_there
        (view_step homes (given_in t routes) events allowed a b agent other apart asked (ℕ × ℕ) dec_pair (views_of child) keeps (blank_slot child) k place j at (n, i)))

    child_is_backed : HeardWasSent → AreBackedIn homes w a b x
    child_is_backed heard =
        subst (AreBackedIn homes w a b) is_there
        (views_backed homes (given_in t routes) events allowed a b agent other apart asked (ℕ × ℕ) dec_pair (views_of child) keeps (blank_slot child) k place (heard homes events allowed) (n, i))

pub children_have_phases : ChildrenHavePhases
children_have_phases t routes events a b k n i setting xs x allowed agent other role apart asked place there its of j at =
    child_has_phases t routes events a b k n i setting xs x allowed agent other role apart asked place there its of j at

pub children_are_in_step : ChildrenAreInStep
children_are_in_step t routes events a b k n i setting xs x allowed agent other role apart asked place there its of j at =
    child_is_in_step t routes events a b k n i setting xs x allowed agent other role apart asked place there its of j at

pub children_are_backed : HeardWasSent → ChildrenAreBacked
children_are_backed heard t routes events a b k n i setting xs x allowed agent other role apart asked place there its of =
    child_is_backed t routes events a b k n i setting xs x allowed agent other role apart asked place there its of heard

pub children_know_their_own : ChildrenKnowTheirOwn
children_know_their_own t routes events a b k n i m j id setting xs ys x y allowed agent other role apart asked place here its named there one called e f =
    let same : (let p : ℕ × ℕ = (n, i) in p) ≡ (m, j) =
    view_known (home_in t routes) (given_in t routes) events allowed a b agent other apart asked (ℕ × ℕ) dec_pair (views_of (name_in (home_in t routes b).role))
    (keeps t routes events a b k n i setting xs x allowed agent other role apart asked place here its named) (blank_slot (name_in (home_in t routes b).role)) k place (n, i) (m, j) id
    (ap (λ (z : ChildConnection). z.connection) (is_there t routes events a b k n i setting xs x allowed agent other role apart asked place here its named) ∙ e)
    (ap (λ (z : ChildConnection). z.connection) (is_there t routes events a b k m j setting ys y allowed agent other role apart asked place there one called) ∙ f)
    in
    (ap (λ (z : ℕ × ℕ). z.0) same, ap (λ (z : ℕ × ℕ). z.1) same)
