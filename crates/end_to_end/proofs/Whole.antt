-- What an agent has as committed stands from end to end, by the ranks of those below it.
use Rattle.std.proofs.Common.{ℕ, zero, suc, ◌≡◌, ◌≤◌, ◌<◌, ◌∙◌, ◌&&◌, ◌==◌, true, false, List, [], ◌∷◌, map, length, Contains, Some, slice_get, bytes_eq, refl, sym, ap, subst, arith, true≢false}
use Rattle.std.specs.List.{All}
use Rattle.std.proofs.lemmas.List.Elements.{All-nil, All-cons, All-weaker}
use Rattle.std.proofs.lemmas.List.Quantifiers.{position-Some}
use Rattle.std.proofs.lemmas.List.{length-map, get_or-map}
use Rattle.std.proofs.lemmas.Option.{get_or_from_slice_get, slice_get-get_or, slice_get_within}
use Rattle.nsi_primitive.specs.declared.entry.Event.{Event}
use Rattle.nsi_primitive.specs.declared.message.Criteria.{Criteria}
use Rattle.stp_topology.specs.Laws.{IsWellFormed, IsChild}
use Rattle.stp_topology.specs.Rank.{rank_of}
use Rattle.stp_topology.specs.Sound.{IsSound}
use Rattle.stp_topology.specs.declared.network.Network.{Network}
use Rattle.stp_topology.specs.Network.{stp_of, stp_name_of}
use Rattle.path_segments.specs.declared.path.Segment.{Segment}
use Rattle.path_segments.specs.Paths.{IsKnown}
use Rattle.path_segments.proofs.Known.{path_known}
use Rattle.agent_state.specs.declared.parent.Leg.{Leg}
use Rattle.agent_state.specs.State.{record_at, children_at, no_record}
use Rattle.connection_record.specs.declared.record.Record.{Record}
use Rattle.connection_record.specs.Moves.{is_live}
use Rattle.connection_record.specs.Order.{HasPoints}
use Rattle.connection_record.specs.Refusal.{place_of}
use Rattle.child_connection.specs.Views.{ChildConnection}
use Rattle.aggregator_agent.specs.Setting.{Setting as AggregatorSetting, leg_of}
use Rattle.nsi_agent.specs.Homes.{Role, provides, aggregates, requests, Routes, AreRoutes, home_in}
use Rattle.nsi_world.specs.Worlds.{Homes, IsAgent, World, empty, synced_part}
use Rattle.nsi_world.specs.Runs.{is_provider, is_requester, world_after, AreAllowed}
use Rattle.nsi_world.specs.Laws.{HeardWasSent}
use Rattle.run_growth.specs.Cuts.{IsCutOf, state_of_cut, synced_state}
use Rattle.run_growth.specs.InStep.{version_of}
use Rattle.circuit_laws.specs.Backed.{leg_in, HasCriteria, IsBetween, IsCircuit}
use Rattle.circuit_laws.specs.Laws.{RecordsAreApart, CircuitsStand}
use Rattle.end_to_end.specs.EndToEnd.{Booking, IsBooked, IsOther, IsEndToEnd, IsLiving}
use Rattle.end_to_end.specs.Laws.{ConnectionsStand}
use Rattle.end_to_end.specs.Stands.{StandsEndToEnd}
use Rattle.end_to_end.proofs.Apart.{child_line, IsLink, Leads, leads_more, one_view, meets}
use Rattle.end_to_end.proofs.Joining.{IsWhole, IsWay, path_whole}
use Rattle.end_to_end.proofs.Naming.{knows, known_named, known_own, AllHavePoints}

same_number : (n k : ℕ) → Some n ≡ Some k → n ≡ k
same_number n k e = cc

-- where a record stands that has an id
pub stands_there : (id n : ℕ) (owner : List ℕ) (rs : List Record) → place_of id owner rs ≡ Some n → slice_get rs n ≡ Some (record_at n rs)
stands_there id n owner rs e = slice_get-get_or rs n no_record (position-Some (λ (r : Record). (id == r.id) && bytes_eq owner r.owner) rs n no_record e).0

-- what is one of the versions
version_there : (k : Criteria) (ks : List Criteria) → Contains ks k → Contains (map version_of ks) k.version
version_there k ks (i, l, e) = (i, omega (arith, l, length-map ks version_of), get_or-map version_of ks i k k.version l ∙ ap version_of e)

-- the record leads to the booking
abbrev IsUnder : Network → Homes → World → (b place : ℕ) → Booking → Type 0
IsUnder t homes w b place x = (m : ℕ) × Leads t homes w m b place x.agent x.place

-- a record's criteria from end to end, by bookings to which it leads
record IsTree (t : Network) (homes : Homes) (w : World) (b place : ℕ) (r : Record) (k : Criteria) : Type 0 where
  stands : StandsEndToEnd t homes w r k
  under : All (IsUnder t homes w b place) stands.bookings

module _ (t : Network) (routes : Routes) (events : List Event) (sound : IsSound t) (formed : IsWellFormed t) (routed : AreRoutes t routes) (allowed : AreAllowed (home_in t routes) empty events) (pointed : AllHavePoints) (heard : HeardWasSent) (separate : RecordsAreApart) (circuits : CircuitsStand) where
  abbrev homes : Homes
  homes = home_in t routes

  abbrev w : World
  w = world_after empty events

  -- each criteria that an agent has synced as committed
  abbrev IsAskedWhole : ℕ → Type 0
  IsAskedWhole b =
      (place : ℕ) (r : Record) (k : Criteria) → IsAgent homes b → is_requester (homes b).role ≡ false → slice_get (synced_state homes w b).base.records place ≡ Some r → Contains r.committed k →
      IsTree t homes w b place r k

  points_there : (b place : ℕ) (r : Record) → is_requester (homes b).role ≡ false → slice_get (synced_state homes w b).base.records place ≡ Some r → HasPoints (knows (homes b).role) r
  points_there b place r asked there = pointed (homes b) asked (synced_part w b) place r there

  ---- A provider

  provider_asked : (role : Role) → is_provider role ≡ true → is_requester role ≡ false
  provider_asked (provides setting stp_of) e = refl
  provider_asked (aggregates setting) e = absurd (cc)
  provider_asked (requests setting) e = absurd (cc)

  provider_whole : (b : ℕ) → is_provider (homes b).role ≡ true → IsAskedWhole b
  provider_whole b is place r k agent asked there has =
      record {
        stands =
            record {
              bookings = x ∷ [];
              circuit =
                  record {
                    each =
                        All-cons (IsBooked t homes w k) x []
                        (record {
                          agent = agent;
                          provider = is;
                          there = there;
                          ports = (known_own t sound b r.service.source r.source routes is points.source, known_own t sound b r.service.dest r.dest routes is points.dest);
                          committed = has;
                        })
                        (All-nil (IsBooked t homes w k));
                    joined = (refl, refl);
                    apart = (All-nil (IsOther x), tt);
                  };
              living = λ l. All-cons IsLiving x [] l (All-nil IsLiving);
            };
        under = All-cons (IsUnder t homes w b place) x [] (0, (refl, refl)) (All-nil (IsUnder t homes w b place));
      }
    where
      x : Booking
      x = record { agent = b; place = place; connection = r }

      points : HasPoints (knows (homes b).role) r
      points = points_there b place r asked there

  ---- An aggregator

  -- the leg's point is the record's
  same_point : (b place : ℕ) (r : Record) (name : List ℕ) (p s : ℕ) → name ≡ stp_name_of t p → p < length t.stps → stp_of t name ≡ Some s → s ≡ p
  same_point b place r name p s e l f = same_number s p (sym f ∙ (ap (stp_of t) e ∙ formed.stps p l))

  module _ (a k n : ℕ) (setting : AggregatorSetting) (own : Record) (c : Criteria) (lower : (b : ℕ) → IsChild t.children a b → IsAskedWhole b) (agent : IsAgent homes a) (role : (homes a).role ≡ aggregates setting)
      (cut : IsCutOf w a k) (there : slice_get (state_of_cut homes w a k).base.records n ≡ Some own) (has : Contains own.committed c) where
    abbrev children : List ChildConnection
    children = children_at n (state_of_cut homes w a k).children

    circuit : IsCircuit t homes w a own children c.version
    circuit = circuits t routes events sound formed routed allowed a k n c.version setting own agent role cut there (version_there c own.committed has)

    -- a view of the connection leads to the booking
    abbrev Marks : ℕ → Booking → Type 0
    Marks i x = (b : ℕ) × (place : ℕ) × (m : ℕ) × IsLink t homes w a k n i b place × Leads t homes w m b place x.agent x.place

    cross : (i j : ℕ) (x y : Booking) → Marks i x → Marks j y → (i ≡ j → ⊥) → IsOther x y
    cross i j x y (b, place, m, link, leads) (d, its, s, other, more) differ same at =
        let low : Leads t homes w s d its x.agent x.place =
        subst (λ (z : ℕ). Leads t homes w s d its z x.place) (sym same) (subst (λ (z : ℕ). Leads t homes w s d its y.agent z) (sym at) more)
        in
        let (e, f) = meets t routes events sound formed routed allowed heard separate a k n i j b place d its link other m s x.agent x.place leads low in
        let here : IsLink t homes w a k n j b place = subst (λ (z : ℕ). IsLink t homes w a k n j z place) (sym e) (subst (λ (z : ℕ). IsLink t homes w a k n j d z) (sym f) other) in
        differ (one_view t routes events sound formed routed allowed heard separate a k n i n j b place link here).1

    leg_whole : (i : ℕ) (x : Segment) (y : ChildConnection) → IsKnown t x → slice_get children i ≡ Some y → leg_in y ≡ leg_of t x → IsWhole t homes w c (is_live own.lsm ≡ true) Marks cross i x.entry x.exit
    leg_whole i x y known at leg =
        let inside : Contains children y = (i, slice_get_within children i y at, get_or_from_slice_get children i y y at) in
        let (_, b, d, child, backed, lives, between, criteria) = circuit.each y inside in
        let rs : List Record = (synced_state homes w b).base.records in
        let h : HasCriteria (homes a).name y rs c = criteria c has refl in
        let connection : backed.connection ≡ h.connection = same_number backed.connection h.connection (sym backed.known ∙ h.known) in
        let place : backed.place ≡ h.place =
        same_number backed.place h.place (sym backed.there ∙ (ap (λ (id : ℕ). place_of id (homes a).name rs) connection ∙ h.there))
        in
        let r : Record = record_at h.place rs in
        let here : slice_get rs h.place ≡ Some r = stands_there h.connection h.place (homes a).name rs h.there in
        let points : HasPoints (knows (homes b).role) r = points_there b h.place r child.asked here in
        let is_between : IsBetween y r = subst (λ (p : ℕ). IsBetween y (record_at p rs)) place (between d backed) in
        let tree : IsTree t homes w b h.place r c = lower b (child_line t routes formed a b setting role child.below) h.place r c child.agent child.asked here h.has in
        let source : r.source ≡ x.entry =
        same_point b h.place r r.service.source x.entry r.source (is_between.source ∙ ap (λ (z : Leg). z.source) leg) known.1 (known_named t sound b r.service.source r.source routes child.asked points.source)
        in
        let dest : r.dest ≡ x.exit =
        same_point b h.place r r.service.dest x.exit r.dest (is_between.dest ∙ ap (λ (z : Leg). z.dest) leg) known.2 (known_named t sound b r.service.dest r.dest routes child.asked points.dest)
        in
        let whole : StandsEndToEnd t homes w r c = tree.stands in
        let link : IsLink t homes w a k n i b h.place =
        record { setting = setting; agent = agent; role = role; cut = cut; view = y; there = at; child = child; version = c.version; commit = d; backed = backed; at = place }
        in
        record {
          bookings = whole.bookings;
          circuit =
              subst (λ (p : ℕ). IsEndToEnd t homes w p x.exit c whole.bookings) source (subst (λ (q : ℕ). IsEndToEnd t homes w r.source q c whole.bookings) dest whole.circuit);
          living = λ l. whole.living (subst (λ (p : ℕ). is_live (record_at p rs).lsm ≡ true) place (lives d backed l));
          marked = All-weaker (IsUnder t homes w b h.place) (Marks i) (λ z u. (b, h.place, u.0, link, u.1)) whole.bookings tree.under;
        }

    -- with a booking of each child at least
    aggregator_whole : IsWay t homes w c (is_live own.lsm ≡ true) Marks cross (length children) own.source own.dest
    aggregator_whole =
        let (xs, least, same) = circuit.way in
        path_whole t homes w c (is_live own.lsm ≡ true) Marks cross a own.source own.dest xs children same (path_known t sound a own.source own.dest xs least.path) least.path leg_whole

  -- by what the aggregator has synced
  aggregator_tree : (a n : ℕ) (setting : AggregatorSetting) (own : Record) (c : Criteria) → ((b : ℕ) → IsChild t.children a b → IsAskedWhole b) → IsAgent homes a → (homes a).role ≡ aggregates setting →
      slice_get (synced_state homes w a).base.records n ≡ Some own → Contains own.committed c → IsTree t homes w a n own c
  aggregator_tree a n setting own c lower agent role there has =
      let cut : IsCutOf w a (w.synced a) = record { synced = omega arith; within = (heard homes events allowed).within a } in
      let whole : IsWay t homes w c (is_live own.lsm ≡ true) (Marks a (w.synced a) n setting own c lower agent role cut there has) (cross a (w.synced a) n setting own c lower agent role cut there has)
      (length (children_at n (state_of_cut homes w a (w.synced a)).children)) own.source own.dest = aggregator_whole a (w.synced a) n setting own c lower agent role cut there has
      in
      record {
        stands = record { bookings = whole.bookings; circuit = whole.circuit; living = whole.living };
        under =
            All-weaker (λ (x : Booking). (j : ℕ) × (0 ≤ j) × Marks a (w.synced a) n setting own c lower agent role cut there has j x) (IsUnder t homes w a n) (λ x q. marked_under a n q.0 x q.2) whole.bookings whole.marked;
      }
    where
      marked_under : (a n j : ℕ) (x : Booking) → ((b : ℕ) × (place : ℕ) × (m : ℕ) × IsLink t homes w a (w.synced a) n j b place × Leads t homes w m b place x.agent x.place) → IsUnder t homes w a n x
      marked_under a n j x (b, place, m, link, leads) = (suc m, leads_more t routes events sound formed routed allowed heard separate m a n j b place x.agent x.place link leads)

  ---- By ranks

  by_role : (b : ℕ) (role : Role) → (homes b).role ≡ role → ((c : ℕ) → IsChild t.children b c → IsAskedWhole c) → IsAskedWhole b
  by_role b (provides setting stp_of) e lower = provider_whole b (ap is_provider e)
  by_role b (aggregates setting) e lower = λ place r k agent asked there has.
      aggregator_tree b place setting r k lower agent e there has
  by_role b (requests setting) e lower = λ place r k agent asked there has. absurd (true≢false (sym (ap is_requester e) ∙ asked))

  below_whole : (n b : ℕ) → rank_of t b < n → IsAskedWhole b
  below_whole zero b l = absurd (omega (arith, l))
  below_whole (suc n) b l = by_role b (homes b).role refl (λ c line. below_whole n c (omega (arith, l, formed.lower b c line)))

  all_whole : (b : ℕ) → IsAskedWhole b
  all_whole b = below_whole (suc (rank_of t b)) b (omega arith)

  pub asked_whole : (b place : ℕ) (r : Record) (k : Criteria) → IsAgent homes b → is_requester (homes b).role ≡ false → slice_get (synced_state homes w b).base.records place ≡ Some r → Contains r.committed k →
      StandsEndToEnd t homes w r k
  asked_whole b place r k agent asked there has = (all_whole b place r k agent asked there has).stands

  -- in any cut
  pub connection_whole : (a k n : ℕ) (setting : AggregatorSetting) (own : Record) (c : Criteria) → IsAgent homes a → (homes a).role ≡ aggregates setting → IsCutOf w a k →
      slice_get (state_of_cut homes w a k).base.records n ≡ Some own → Contains own.committed c →
      (s : StandsEndToEnd t homes w own c) × (length (children_at n (state_of_cut homes w a k).children) ≤ length s.bookings)
  connection_whole a k n setting own c agent role cut there has =
      let whole = aggregator_whole a k n setting own c (λ b line. all_whole b) agent role cut there has in
      (record { bookings = whole.bookings; circuit = whole.circuit; living = whole.living }, whole.long)

pub connections_stand : AllHavePoints → HeardWasSent → RecordsAreApart → CircuitsStand → ConnectionsStand
connections_stand pointed heard separate circuits t routes events sound formed routed allowed a k n setting own c agent role cut there has =
    (connection_whole t routes events sound formed routed allowed pointed heard separate circuits a k n setting own c agent role cut there has).0
