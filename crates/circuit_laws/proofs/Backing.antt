-- Each view in a run is of another agent, and is backed there.
use Rattle.std.proofs.Common.{ℕ, zero, suc, ◌≡◌, ◌≤◌, ◌∙◌, length, get_or, List, [], ◌∷◌, Contains, Option, Some, None, slice_get, refl, sym, subst, arith}
use Rattle.std.specs.List.{All}
use Rattle.std.specs.List.Sorted.{IsStrictlyIncreasing}
use Rattle.std.proofs.lemmas.List.Elements.{All-contains, All-get_or}
use Rattle.std.proofs.lemmas.Option.{slice_get_within}
use Rattle.nsi_primitive.specs.declared.entry.Event.{Event}
use Rattle.stp_topology.specs.declared.network.Network.{Network}
use Rattle.stp_topology.specs.Laws.{IsWellFormed}
use Rattle.stp_topology.specs.Sound.{IsSound}
use Rattle.child_connection.specs.Views.{ChildConnection}
use Rattle.connection_record.specs.declared.record.Record.{Record}
use Rattle.connection_record.specs.Rising.{AreRising}
use Rattle.agent_state.specs.State.{AgentState, record_at, no_record, children_at}
use Rattle.agent_state.specs.declared.parent.View.{View}
use Rattle.provider_agent.specs.Safety.{IsRising}
use Rattle.aggregator_agent.specs.Setting.{Setting as AggregatorSetting}
use Rattle.requester_agent.specs.Setting.{Setting as RequesterSetting}
use Rattle.nsi_agent.specs.Homes.{Role, provides, aggregates, requests, Routes, AreRoutes, home_in}
use Rattle.nsi_agent.specs.Said.{Asks}
use Rattle.nsi_agent.proofs.RequesterSays.{AreLaws, IsOf}
use Rattle.nsi_agent.proofs.Below.{IsChild}
use Rattle.nsi_world.specs.Worlds.{Homes, IsAgent, World, empty}
use Rattle.nsi_world.specs.Runs.{world_after, AreAllowed}
use Rattle.nsi_world.specs.Laws.{HeardWasSent}
use Rattle.run_growth.specs.Cuts.{IsCutOf, state_of_cut, synced_state}
use Rattle.run_growth.specs.InStep.{InStepRises}
use Rattle.run_growth.specs.Laws.{RunsAreRising}
use Rattle.run_growth.specs.WorldCuts.{IsPlaceOf}
use Rattle.run_growth.proofs.Sent.{given_in}
use Rattle.circuit_link.specs.Children.{record_of}
use Rattle.circuit_laws.specs.Backed.{IsChildOf, AreBackedIn, HasView}
use Rattle.circuit_laws.specs.Laws.{child_at, IsInStep, Steps, RunsAreBacked, ViewsRise}
use Rattle.circuit_laws.proofs.Leading.{got_at, asks_others}
use Rattle.circuit_laws.proofs.Whose.{AreOf, views_are_of}
use Rattle.circuit_laws.proofs.Requesters.{views_are_in_step, views_are_backed}
use Rattle.circuit_laws.proofs.Aggregators.{children_are_in_step, children_are_backed}

-- a list in which something stands is there
pub list_there : {X : Type 0} (css : List (List X)) (n i : ℕ) (x : X) → slice_get (get_or css n []) i ≡ Some x → slice_get css n ≡ Some (get_or css n [])
list_there [] n i x e = absurd (cc)
list_there (c ∷ cs) zero i x e = refl
list_there (c ∷ cs) (suc n) i x e = list_there cs n i x e

pub place_there : {X : Type 0} (xs : List X) (x : X) (its : Contains xs x) → slice_get xs its.0 ≡ Some x
place_there xs x its = got_at xs its.0 x x its.1 its.2

module _ (laws : AreLaws) (heard : HeardWasSent) (t : Network) (routes : Routes) (events : List Event) (sound : IsSound t) (formed : IsWellFormed t) (routed : AreRoutes t routes) (allowed : AreAllowed (home_in t routes) empty events) (a k : ℕ) (agent : IsAgent (home_in t routes) a) (cut : IsCutOf (world_after empty events) a k) where
  abbrev homes : Homes
  homes = home_in t routes

  abbrev w : World
  w = world_after empty events

  abbrev s : AgentState
  s = state_of_cut homes w a k

  abbrev Stands : ChildConnection → Type 0
  Stands x = (b : ℕ) × IsChildOf t homes a x.child b × AreBackedIn homes w a b x × Steps homes w a b x

  place : IsPlaceOf w a k
  place = (cut.synced, cut.within)

  are_of : AreOf (homes a).role s
  are_of = views_are_of laws homes (given_in t routes) w (heard homes events allowed) a k

  -- a child whom it asks
  child : (role : Role) → (homes a).role ≡ role → (name : List ℕ) → Asks role name → (b : ℕ) × IsChildOf t homes a name b
  child role e name asks = asks_others t routes sound formed routed a name (subst (λ (r : Role). Asks r name) (sym e) asks)

  view_stands : (setting : RequesterSetting) → (homes a).role ≡ requests setting → (v : View) → Contains s.views v → Stands v.child
  view_stands setting e v its =
      let of : setting.provider ≡ v.child.child = All-contains (IsOf setting.provider) s.views v (subst (λ (r : Role). AreOf r s) e are_of) its in
      let (b, its_child) = child (requests setting) e v.child.child of in
      let there : slice_get s.views its.0 ≡ Some v = place_there s.views v its in (
        b,
        its_child,
        views_are_backed heard t routes events a b k its.0 setting v allowed agent its_child.agent e (of ∙ its_child.named) its_child.asked place there,
        λ j at. views_are_in_step t routes events a b k its.0 setting v allowed agent its_child.agent e (of ∙ its_child.named) its_child.asked place there j at,
      )

  slot_stands : (setting : AggregatorSetting) → (homes a).role ≡ aggregates setting → (n : ℕ) (x : ChildConnection) → Contains (children_at n s.children) x → Stands x
  slot_stands setting e n x its =
      let xs : List ChildConnection = children_at n s.children in
      let here : slice_get xs its.0 ≡ Some x = place_there xs x its in
      let there : slice_get s.children n ≡ Some xs = list_there s.children n its.0 x here in
      let P : List ChildConnection → Type 0 = λ ys. All (IsChild (Asks (aggregates setting))) ys in
      let held : AreOf (aggregates setting) s = subst (λ (r : Role). AreOf r s) e are_of in
      let of : Asks (aggregates setting) x.child =
      All-contains (IsChild (Asks (aggregates setting))) xs x (All-get_or P s.children n [] (slice_get_within s.children n xs there) held.children) its
      in
      let (b, its_child) = child (aggregates setting) e x.child of in (
        b,
        its_child,
        children_are_backed heard t routes events a b k n its.0 setting xs x allowed agent its_child.agent e its_child.other its_child.asked place there here its_child.named,
        λ j at. children_are_in_step t routes events a b k n its.0 setting xs x allowed agent its_child.agent e its_child.other its_child.asked place there here its_child.named j at,
      )

  pub by_role : (role : Role) → (homes a).role ≡ role → (x : ChildConnection) → HasView role s x → Stands x
  by_role (provides setting stp_of) e x has = absurd has
  by_role (aggregates setting) e x (n, its) = slot_stands setting e n x its
  by_role (requests setting) e x (v, its, is) = subst Stands is (view_stands setting e v its)

pub runs_are_backed : AreLaws → HeardWasSent → RunsAreBacked
runs_are_backed laws heard t routes events sound formed routed allowed a k x agent cut has =
    let (b, its_child, backed, steps) = by_role laws heard t routes events sound formed routed allowed a k agent cut (home_in t routes a).role refl x has in
    (b, its_child, backed)

-- a view is in step with a record whose versions rise
rises : InStepRises → (homes : Homes) (w : World) (parent : List ℕ) (b : ℕ) (x : ChildConnection) → IsRising (synced_state homes w b).base → IsInStep parent (child_at homes w b (w.synced b)) x → IsStrictlyIncreasing x.committed
unfolding record_of
rises law homes w parent b x rising step = law x.committed (record_of step.place rs) step.in_step (at step.place refl)
  where
    rs : List Record
    rs = (synced_state homes w b).base.records

    at : (place : Option ℕ) → step.place ≡ place → AreRising (record_of place rs).committed
    at None e = tt
    at (Some n) e = rising n (record_at n rs) (got_at rs n no_record (record_at n rs) (step.its.own n e).0 refl)

pub views_rise : AreLaws → HeardWasSent → RunsAreRising → InStepRises → ViewsRise
views_rise laws heard rising law t routes events sound formed routed allowed a k x agent cut has =
    let homes : Homes = home_in t routes in
    let w : World = world_after empty events in
    let (b, its_child, backed, steps) = by_role laws heard t routes events sound formed routed allowed a k agent cut (home_in t routes a).role refl x has in
    let within : w.synced b ≤ length (w.journal b) = (heard homes events allowed).within b in
    rises law homes w (homes a).name b x (rising homes events allowed b (w.synced b) (record { synced = omega arith; within = within })) (steps (w.synced b) (omega arith, within))
