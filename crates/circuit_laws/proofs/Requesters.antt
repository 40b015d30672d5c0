-- The laws of a requester's views in runs.
use Rattle.std.proofs.Common.{ℕ, ◌≡◌, ◌∙◌, false, List, Some, slice_get, sym, ap, subst, true≢false}
use Rattle.std.proofs.lemmas.Bool.{cases_eq}
use Rattle.std.proofs.lemmas.Option.{get_or_from_slice_get}
use Rattle.nsi_primitive.specs.declared.entry.Event.{Event}
use Rattle.stp_topology.specs.declared.network.Network.{Network}
use Rattle.child_connection.specs.Views.{ChildConnection}
use Rattle.child_connection.specs.Holding.{IsAlike}
use Rattle.agent_state.specs.State.{blank_agent}
use Rattle.agent_state.specs.declared.parent.View.{View}
use Rattle.requester_agent.specs.Setting.{Setting as RequesterSetting}
use Rattle.nsi_agent.specs.Homes.{requests, Routes, home_in}
use Rattle.nsi_agent.specs.Said.{name_in}
use Rattle.nsi_world.specs.Worlds.{Homes, IsAgent, World, empty}
use Rattle.nsi_world.specs.Runs.{is_requester, world_after, AreAllowed}
use Rattle.nsi_world.specs.Laws.{HeardWasSent}
use Rattle.run_growth.specs.WorldCuts.{IsPlaceOf, told_to}
use Rattle.run_growth.proofs.Sent.{given_in}
use Rattle.circuit_pairs.specs.Minding.{no_view_of, no_child}
use Rattle.circuit_pairs.proofs.Minding.{alike_self}
use Rattle.circuit_laws.specs.Backed.{AreBackedIn}
use Rattle.circuit_laws.specs.Laws.{child_at, HasPhases, IsInStep, ViewsHavePhases, ViewsAreInStep, ViewsAreBacked, ViewsKnowTheirOwn}
use Rattle.circuit_laws.proofs.Roles.{Keeps, views_to, requests_keep}
use Rattle.circuit_laws.proofs.Cutting.{view_phases, view_step, view_known, views_backed}

blank_view : (child : List ℕ) (i : ℕ) → IsAlike (no_child child) (views_to child blank_agent i)
blank_view child i = alike_self (no_child child)

module _ (t : Network) (routes : Routes) (events : List Event) (a b k i : ℕ) (setting : RequesterSetting) (v : View) (allowed : AreAllowed (home_in t routes) empty events) where
  abbrev homes : Homes
  homes = home_in t routes

  abbrev w : World
  w = world_after empty events

  abbrev child : List ℕ
  child = name_in (homes b).role

  module _ (agent : IsAgent homes a) (other : IsAgent homes b) (role : (homes a).role ≡ requests setting) (over : setting.provider ≡ (homes b).name) (asked : is_requester (homes b).role ≡ false) (place : IsPlaceOf w a k)
      (there : slice_get (told_to homes w a k).state.views i ≡ Some v) where
    apart : b ≡ a → ⊥
    apart e = true≢false (sym (ap is_requester role) ∙ (ap (λ (z : ℕ). is_requester (homes z).role) (sym e) ∙ asked))

    keeps : Keeps ℕ (homes a).role child (views_to child)
    keeps = requests_keep (homes a).role setting child role (over ∙ sym ((given_in t routes).named b))

    is_there : views_to child (told_to homes w a k).state i ≡ v.child
    is_there = ap (λ (z : View). z.child) (get_or_from_slice_get (told_to homes w a k).state.views i v (no_view_of child) there)

    named : (P : List ℕ → List ℕ → Type 0) → P (name_in (homes a).role) child → P (homes a).name (homes b).name
    named P h = subst (λ (p : List ℕ). P p (homes b).name) ((given_in t routes).named a) (subst (λ (r : List ℕ). P (name_in (homes a).role) r) ((given_in t routes).named b) h)

    view_has_phases : (j : ℕ) → IsPlaceOf w b j → HasPhases (homes a).name (homes b).name (child_at homes w b j) v.child
    view_has_phases j at =
        named (λ p r. HasPhases p r (child_at homes w b j) v.child)
        (subst (HasPhases (name_in (homes a).role) child (child_at homes w b j)) is_there
        (view_phases homes (given_in t routes) events allowed a b agent other apart asked ℕ cases_eq (views_to child) keeps (blank_view child) k place j at i))

    view_is_in_step : (j : ℕ) → IsPlaceOf w b j → IsInStep (homes a).name (child_at homes w b j) v.child
    view_is_in_step j at =
        named (λ p r. IsInStep p (child_at homes w b j) v.child)
        (subst (IsInStep (name_in (homes a).role) (child_at homes w b j)) is_there
        (view_step homes (given_in t routes) events allowed a b agent other apart asked ℕ cases_eq (views_to child) keeps (blank_view child) k place j at i))

    view_is_backed : HeardWasSent → AreBackedIn homes w a b v.child
    view_is_backed heard =
        subst (AreBackedIn homes w a b) is_there
        (views_backed homes (given_in t routes) events allowed a b agent other apart asked ℕ cases_eq (views_to child) keeps (blank_view child) k place (heard homes events allowed) i)

pub views_have_phases : ViewsHavePhases
views_have_phases t routes events a b k i setting v allowed agent other role over asked place there j at =
    view_has_phases t routes events a b k i setting v allowed agent other role over asked place there j at

pub views_are_in_step : ViewsAreInStep
views_are_in_step t routes events a b k i setting v allowed agent other role over asked place there j at =
    view_is_in_step t routes events a b k i setting v allowed agent other role over asked place there j at

pub views_are_backed : HeardWasSent → ViewsAreBacked
views_are_backed heard t routes events a b k i setting v allowed agent other role over asked place there =
    view_is_backed t routes events a b k i setting v allowed agent other role over asked place there heard

pub views_know_their_own : ViewsKnowTheirOwn
views_know_their_own t routes events a b k i j id setting u v allowed agent other role over asked place here there e f =
    view_known (home_in t routes) (given_in t routes) events allowed a b agent other (apart t routes events a b k i setting u allowed agent other role over asked place here) asked ℕ cases_eq
    (views_to (name_in (home_in t routes b).role)) (keeps t routes events a b k i setting u allowed agent other role over asked place here) (blank_view (name_in (home_in t routes b).role)) k place i j id
    (ap (λ (z : ChildConnection). z.connection) (is_there t routes events a b k i setting u allowed agent other role over asked place here) ∙ e)
    (ap (λ (z : ChildConnection). z.connection) (is_there t routes events a b k j setting v allowed agent other role over asked place there) ∙ f)
