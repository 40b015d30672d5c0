-- What an aggregator's own records have as committed stands with all their children, in every cut of a run.
use Rattle.std.proofs.Common.{ℕ, ◌≡◌, ◌∙◌, ◌&&◌, ◌==◌, ◌⊎◌, inl, inr, Bool, true, false, List, [], ◌∷◌, map, get_or, take, Contains, Option, Some, None, slice_get, bytes_eq, eqb-true, refl, sym, ap, subst, arith}
use Rattle.std.proofs.lemmas.List.{get_or_default}
use Rattle.std.proofs.lemmas.List.Elements.{All-contains}
use Rattle.std.proofs.lemmas.List.Quantifiers.{position-Some}
use Rattle.std.proofs.lemmas.Option.{get_or_from_slice_get}
use Rattle.stp_topology.specs.declared.network.AgentKind.{AgentKind}
use Rattle.stp_topology.specs.declared.network.Network.{Network}
use Rattle.stp_topology.specs.Network.{kind_of}
use Rattle.path_segments.specs.declared.path.Segment.{Segment}
use Rattle.path_segments.specs.Paths.{IsPath, IsLeastPath}
use Rattle.child_connection.specs.Views.{ChildConnection}
use Rattle.connection_record.specs.declared.record.Record.{Record}
use Rattle.connection_record.specs.Refusal.{place_of}
use Rattle.agent_state.specs.State.{AgentState, record_at, children_at, no_record}
use Rattle.aggregator_agent.specs.Setting.{Setting}
use Rattle.nsi_agent.specs.Homes.{Role, aggregates, Routes, AreRoutes, role_in, home_in}
use Rattle.nsi_agent.specs.Laws.{WhatIsSaidIsItsOwn}
use Rattle.nsi_agent.specs.Said.{name_in}
use Rattle.nsi_world.specs.Worlds.{Homes, World, empty}
use Rattle.nsi_world.specs.Runs.{world_after}
use Rattle.nsi_world.specs.Laws.{HeardWasSent}
use Rattle.run_growth.specs.Cuts.{state_of_cut, synced_state}
use Rattle.run_growth.specs.WorldCuts.{told_to}
use Rattle.run_growth.proofs.Sent.{given_in}
use Rattle.circuit_fit.specs.Fits.{committed_of, IsCommittedBelow, Fits}
use Rattle.least_routes.specs.Laws.{LeastPathOrNone}
use Rattle.circuit_laws.specs.Backed.{leg_in, IsLeastWay, IsChildOf, IsBackedIn, HasView, LivesIn, IsBetweenIn, HasCriteriaIn}
use Rattle.circuit_laws.specs.Laws.{RunsAreBacked, RecordsAreApart, ChildrenLive, ChildrenAreBetween, ChildrenHaveTheCriteria, CircuitsStand}
use Rattle.circuit_laws.proofs.Leading.{asks_others}
use Rattle.circuit_laws.proofs.Backing.{list_there}
use Rattle.circuit_laws.proofs.Aggregators.{children_know_their_own}
use Rattle.circuit_laws.proofs.Circuits.{cut_fits}
use Rattle.circuit_laws.proofs.Ways.{Route, IsOnItsWay, ways_told}

---- Records apart

first_holds : (a b : Bool) → (a && b) ≡ true → a ≡ true
first_holds true b h = refl
first_holds false b h = absurd (cc)

id_there : (id n : ℕ) (owner : List ℕ) (rs : List Record) → place_of id owner rs ≡ Some n → id ≡ (record_at n rs).id
id_there id n owner rs e =
    let (l, p, f) = position-Some (λ (r : Record). (id == r.id) && bytes_eq owner r.owner) rs n no_record e in
    eqb-true id (record_at n rs).id (first_holds (id == (record_at n rs).id) (bytes_eq owner (record_at n rs).owner) p)

pub records_are_apart : RecordsAreApart
records_are_apart t routes events sound formed routed allowed a b k n i m j u v c d setting x y agent role cut here there its other p q same =
    children_know_their_own t routes events a b k n i m j p.connection setting (children_at n s.children) (children_at m s.children) x y allowed agent its.agent role its.other its.asked (cut.synced, cut.within)
    (list_there s.children n i x here) here its.named (list_there s.children m j y there) there other.named p.known (q.known ∙ ap (λ (z : ℕ). Some z) one)
  where
    homes : Homes
    homes = home_in t routes

    s : AgentState
    s = state_of_cut homes (world_after empty events) a k

    theirs : List Record
    theirs = (synced_state homes (world_after empty events) b).base.records

    one : q.connection ≡ p.connection
    one =
        id_there q.connection q.place (homes a).name theirs q.there
        ∙ (ap (λ (z : ℕ). (record_at z theirs).id) (sym same) ∙ sym (id_there p.connection p.place (homes a).name theirs p.there))

---- The least path

abbrev route_of : Role → Route
route_of (aggregates setting) = setting.route
route_of _ = λ source dest. []

-- an aggregator knows the legs of the least paths of the topology
route_in : (o : Option AgentKind) (t : Network) (routes : Routes) (a : ℕ) (setting : Setting) → role_in o t routes a ≡ aggregates setting → setting.route ≡ routes a
route_in (Some (AgentKind.Provider hold)) t routes a setting e = absurd (cc)
route_in (Some (AgentKind.Requester provider)) t routes a setting e = absurd (cc)
route_in (Some AgentKind.Aggregator) t routes a setting e = sym (ap route_of e)
route_in None t routes a setting e = sym (ap route_of e)

route_here : (t : Network) (routes : Routes) (a : ℕ) (setting : Setting) → (home_in t routes a).role ≡ aggregates setting → setting.route ≡ routes a
unfolding home_in
route_here t routes a setting e = route_in (kind_of t a) t routes a setting e

no_view_there : (xs : List ChildConnection) → map leg_in xs ≡ [] → xs ≡ []
no_view_there [] e = refl
no_view_there (x ∷ xs) e = absurd (cc)

least_way : LeastPathOrNone → (t : Network) (routes : Routes) (a : ℕ) (setting : Setting) (own : Record) (xs : List ChildConnection) → AreRoutes t routes → (home_in t routes a).role ≡ aggregates setting →
    map leg_in xs ≡ setting.route own.source own.dest → (xs ≡ [] → ⊥) → IsLeastWay t a own.source own.dest (map leg_in xs)
least_way search t routes a setting own xs routed role way some = by (search t a own.source own.dest)
  where
    same : map leg_in xs ≡ routes a own.source own.dest
    same = way ∙ ap (λ (r : Route). r own.source own.dest) (route_here t routes a setting role)

    by : ((ys : List Segment) × IsLeastPath t a own.source own.dest ys) ⊎ ((ys : List Segment) → IsPath t a own.source own.dest ys → ⊥) → IsLeastWay t a own.source own.dest (map leg_in xs)
    by (inl (ys, least)) = (ys, least, same ∙ (routed a own.source own.dest).least ys least)
    by (inr none) = absurd (some (no_view_there xs (same ∙ (routed a own.source own.dest).none none)))

---- Circuits

pub circuits_stand : LeastPathOrNone → WhatIsSaidIsItsOwn → HeardWasSent → RunsAreBacked → ChildrenLive → ChildrenAreBetween → ChildrenHaveTheCriteria → CircuitsStand
circuits_stand search own_law heard backed living between criteria t routes events sound formed routed allowed a k n v setting own agent role place here there =
    record { some = below.some; way = on_its_way way; each = each; apart = apart }
  where
    homes : Homes
    homes = home_in t routes

    w : World
    w = world_after empty events

    s : AgentState
    s = state_of_cut homes w a k

    xs : List ChildConnection
    xs = children_at n s.children

    same : record_at n s.base.records ≡ own
    same = get_or_from_slice_get s.base.records n own no_record here

    fits : Fits (name_in (homes a).role) (told_to homes w a k).out (record_at n s.base.records) xs
    fits = (cut_fits own_law t homes (given_in t routes) a agent setting role (asks_others t routes sound formed routed a) events allowed k (place.synced, place.within)).0 n

    below : IsCommittedBelow v xs
    below = fits.committed v (subst (λ (r : Record). Contains (committed_of r) v) (sym same) there)

    way : IsOnItsWay setting.route own xs
    way = subst (λ (r : Record). IsOnItsWay setting.route r xs) same (ways_told (homes a) setting role (take k (w.journal a)) n)

    on_its_way : IsOnItsWay setting.route own xs → IsLeastWay t a own.source own.dest (map leg_in xs)
    on_its_way (inl none) = absurd (below.some none)
    on_its_way (inr way) = least_way search t routes a setting own xs routed role way below.some

    lives : (x : ChildConnection) → Contains xs x → (b : ℕ) → IsChildOf t homes a x.child b → LivesIn homes w a b own x v
    lives x its b child c one live =
        living t routes events sound formed routed allowed a b k (w.synced b) n one.connection one.place setting own x agent role place here live its child
        (record { synced = omega arith; within = (heard homes events allowed).within b }) one.known one.there

    points : (x : ChildConnection) → Contains xs x → (b : ℕ) → IsChildOf t homes a x.child b → IsBetweenIn homes w a b x v
    points x its b child c one =
        between t routes events sound formed routed allowed a b k (w.synced b) n one.connection one.place setting x agent role place its child
        (record { synced = omega arith; within = (heard homes events allowed).within b }) one.known one.there

    same_criteria : (x : ChildConnection) → Contains xs x → (b : ℕ) → IsChildOf t homes a x.child b → HasCriteriaIn homes w a b own x v
    same_criteria x its b child c i of =
        criteria t routes events sound formed routed allowed a b k (w.synced b) n setting own x c agent role place here i its child (record { synced = omega arith; within = (heard homes events allowed).within b })

    each : (x : ChildConnection) → Contains xs x → Contains x.committed v × (b : ℕ) × (c : ℕ) × IsChildOf t homes a x.child b × IsBackedIn homes w a b x v c × LivesIn homes w a b own x v × IsBetweenIn homes w a b x v × HasCriteriaIn homes w a b own x v
    each x its =
        let has : Contains x.committed v = All-contains (λ (y : ChildConnection). Contains y.committed v) xs x below.each its in
        let (b, child, all) = backed t routes events sound formed routed allowed a k x agent place (subst (λ (r : Role). HasView r s x) (sym role) (n, its)) in
        let one : IsBackedIn homes w a b x (get_or x.committed has.0 0) (get_or all.own has.0 0) = all.each has.0 (omega (arith, has.1, all.long)) in (
          has,
          b,
          get_or all.own has.0 0,
          child,
          subst (λ (u : ℕ). IsBackedIn homes w a b x u (get_or all.own has.0 0)) (get_or_default x.committed has.0 0 v has.1 ∙ has.2) one,
          lives x its b child,
          points x its b child,
          same_criteria x its b child,
        )

    apart : (i j b c d : ℕ) (x y : ChildConnection) → slice_get xs i ≡ Some x → slice_get xs j ≡ Some y → IsChildOf t homes a x.child b → IsChildOf t homes a y.child b →
        (p : IsBackedIn homes w a b x v c) (q : IsBackedIn homes w a b y v d) → p.place ≡ q.place → i ≡ j
    apart i j b c d x y e f its other p q g =
        (records_are_apart t routes events sound formed routed allowed a b k n i n j v v c d setting x y agent role place e f its other p q g).1
