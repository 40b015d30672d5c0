-- In each run it is known what each request is worth.
use Rattle.std.proofs.Common.{◌≡◌, ◌≤◌, ◌<◌, ◌+◌, ◌∙◌, ◌==◌, ◌&&◌, ℕ, zero, suc, Bool, true, false, cond, List, [], ◌∷◌, ◌++◌, Option, Some, None, refl, sym, ap, subst, arith, length, get_or, slice_get, bytes_eq, eqb-true, eq-eqb, if◌then◌else◌}
use Rattle.std.specs.List.{All, Contains, position_from}
use Rattle.std.proofs.lemmas.Bool.{and_from}
use Rattle.std.proofs.lemmas.Iterator.Adapters.{position_from-zero}
use Rattle.std.proofs.lemmas.List.{take_all}
use Rattle.std.proofs.lemmas.List.Elements.{All-weaker, Contains-append_left}
use Rattle.std.proofs.lemmas.List.Quantifiers.{position-Some}
use Rattle.std.proofs.lemmas.Option.{slice_get-get_or, slice_get_within, get_or_from_slice_get}
use Rattle.std.proofs.lemmas.Slice.Eq.{bytes_eq-Decides}
use Rattle.nsi_primitive.specs.declared.entry.Entry.{Entry}
use Rattle.nsi_primitive.specs.declared.entry.Event.{Event}
use Rattle.nsi_primitive.specs.declared.message.Message.{Message}
use Rattle.stp_topology.specs.Laws.{IsWellFormed}
use Rattle.stp_topology.specs.Network.{agent_of, name_of}
use Rattle.stp_topology.specs.Sound.{IsSound, IsAggregator}
use Rattle.stp_topology.specs.declared.network.AgentKind.{AgentKind}
use Rattle.stp_topology.specs.declared.network.Network.{Network}
use Rattle.child_connection.specs.Views.{ChildConnection}
use Rattle.connection_record.specs.Later.{IsLater}
use Rattle.connection_record.specs.Refusal.{place_of}
use Rattle.connection_record.specs.declared.record.Record.{Record}
use Rattle.agent_state.specs.State.{no_record, record_at, children_at}
use Rattle.agent_state.specs.declared.parent.Leg.{Leg}
use Rattle.agent_state.specs.declared.parent.View.{View}
use Rattle.aggregator_agent.specs.Setting.{setting_of as aggregator_of, agent_in}
use Rattle.requester_agent.specs.Setting.{Setting as RequesterSetting}
use Rattle.nsi_agent.specs.Homes.{aggregates, requests, Routes, AreRoutes, role_in, home_in}
use Rattle.nsi_agent.specs.Said.{name_in}
use Rattle.nsi_agent.specs.Told.{told}
use Rattle.nsi_world.specs.Worlds.{Homes, World, empty, IsAgent}
use Rattle.nsi_world.specs.Runs.{is_requester, world_after, AreAllowed}
use Rattle.nsi_world.proofs.Names.{home_name}
use Rattle.run_growth.specs.WorldCuts.{cut, IsGrown}
use Rattle.run_growth.proofs.Grown.{AreGrown, grown_same, run_grown, says_more}
use Rattle.run_growth.proofs.Roles.{entries_leave_all}
use Rattle.run_growth.proofs.Sent.{Given, given_in}
use Rattle.circuit_laws.proofs.Between.{IsThere, learnt_there, first_true}
use Rattle.circuit_laws.proofs.Facts.{told_fair}
use Rattle.circuit_laws.proofs.Learnt.{IsLearnt, IsKnowing, knowing_more, told_learnt as children_learnt}
use Rattle.requester_views.proofs.Learnt.{told_learnt as views_learnt}
use Rattle.way_reach.specs.Laws.{ReachIsASum}
use Rattle.way_reach.specs.Reach.{reach}
use Rattle.request_worth.specs.Laws.{ViewsWereReserved}
use Rattle.request_worth.specs.Worth.{leg_in, leg_to, CostsItsLeg, PaysItsLeg, InEachState, AreFees, IsWithinLabel, WasReserved, ViewWasReserved}
use Rattle.run_requests.specs.Laws.{FeesExist}
use Rattle.run_requests.specs.Requests.{Worth, IsWorth, AreFeesIn}
use Rattle.run_requests.proofs.Fees.{Served, fee, is_fee, summary_worth, named_costs, named_pays}
use Rattle.run_requests.proofs.Taken.{is_agent}

---- Places

-- where one passes, one is found
some_from : {X : Type 0} (test : X → Bool) (xs : List X) (k n : ℕ) (x : X) → slice_get xs n ≡ Some x → test x ≡ true → (i : ℕ) × (position_from test k xs ≡ Some i)
some_from test [] k n x at is = absurd (cc)
some_from test (y ∷ ys) k n x at is = by (test y) n refl at (λ m there. some_from test ys (k + 1) m x there is)
  where
    never : (b : Bool) → b ≡ false → b ≡ true → ⊥
    never b f g = cc

    by : (b : Bool) (n : ℕ) → test y ≡ b → slice_get (y ∷ ys) n ≡ Some x → ((m : ℕ) → slice_get ys m ≡ Some x → (i : ℕ) × (position_from test (k + 1) ys ≡ Some i)) →
        (i : ℕ) × (cond b (Some k) (position_from test (k + 1) ys) ≡ Some i)
    by true n q here rest = (k, refl)
    by false zero q here rest = absurd (never (test y) q (let same : y ≡ x = cc in ap test same ∙ is))
    by false (suc n) q here rest = rest n here

-- a record of that owner with that id
abbrev is_of : ℕ → List ℕ → Record → Bool
is_of id owner r = (id == r.id) && bytes_eq owner r.owner

some_place : (id : ℕ) (owner : List ℕ) (rs : List Record) (n : ℕ) (r : Record) → slice_get rs n ≡ Some r → is_of id owner r ≡ true → (i : ℕ) × (place_of id owner rs ≡ Some i)
some_place id owner rs n r at is = let s = some_from (is_of id owner) rs 0 n r at is in (s.0, position_from-zero (is_of id owner) rs ∙ s.1)

-- what is found has the id
record IsFound (id : ℕ) (rs : List Record) (n : ℕ) : Type 0 where
  pub within : n < length rs
  pub its_id : id ≡ (record_at n rs).id

found_has : (id : ℕ) (owner : List ℕ) (rs : List Record) (n : ℕ) → place_of id owner rs ≡ Some n → IsFound id rs n
found_has id owner rs n e =
    let (within, test, least) = position-Some (is_of id owner) rs n no_record e in
    record { within = within; its_id = eqb-true id (record_at n rs).id (first_true (id == (record_at n rs).id) (bytes_eq owner (record_at n rs).owner) test) }

---- The records of all agents that are asked

served_by : Homes → (ℕ → List Record) → Option ℕ → Served
served_by homes records None = None
served_by homes records (Some b) = if is_requester (homes b).role then None else Some (records b)

record IsServed (homes : Homes) (records : ℕ → List Record) (name : List ℕ) (rs : List Record) : Type 0 where
  pub agent : ℕ
  pub is : IsAgent homes agent
  pub named : (homes agent).name ≡ name
  pub asked : is_requester (homes agent).role ≡ false
  pub its : rs ≡ records agent

module _ (t : Network) (routes : Routes) (events : List Event) (run : AreAllowed (home_in t routes) empty events) where
  abbrev homes : Homes
  homes = home_in t routes

  abbrev w : World
  w = world_after empty events

  abbrev price : Leg → ℕ
  price = reach t routes

  given : Given homes
  given = given_in t routes

  -- all journals are made by entries alone
  grown : IsGrown homes w.journal
  grown =
      let g : AreGrown homes w = run_grown homes events run in
      grown_same homes (cut w (λ a. length (w.journal a))) w.journal (λ a. take_all (length (w.journal a)) (w.journal a) (omega arith))
      (g.grown (λ a. length (w.journal a)) (λ a. (g.within a, omega arith)))

  records_of : ℕ → List Record
  records_of b = (told (homes b) (w.journal b)).state.base.records

  serves : List ℕ → Served
  serves name = served_by homes records_of (agent_of t name)

  worth_of : Message → ℕ
  worth_of = fee price serves

  named_back : (name : List ℕ) (b : ℕ) → agent_of t name ≡ Some b → name_of t b ≡ name
  named_back name b e =
      sym ((bytes_eq-Decides name (name_of t b)).0 (let (within, test, least) = position-Some (bytes_eq name) t.agents b [] (position_from-zero (bytes_eq name) t.agents ∙ e) in test))

  agent_back : (name : List ℕ) (b : ℕ) → agent_of t name ≡ Some b → IsAgent homes b
  unfolding home_in
  agent_back name b e = subst (λ (n : List ℕ). agent_of t n ≡ Some b) (sym (named_back name b e)) e

  is_served : (name : List ℕ) (rs : List Record) → serves name ≡ Some rs → IsServed homes records_of name rs
  unfolding serves served_by
  is_served name rs e = by (agent_of t name) refl e
    where
      by_role : (b : ℕ) (q : Bool) → agent_of t name ≡ Some b → is_requester (homes b).role ≡ q → (if q then None else Some (records_of b)) ≡ Some rs → IsServed homes records_of name rs
      by_role b true f g h = absurd (cc)
      by_role b false f g h = record { agent = b; is = agent_back name b f; named = home_name t routes b ∙ named_back name b f; asked = g; its = let same : records_of b ≡ rs = cc in sym same }

      by : (o : Option ℕ) → agent_of t name ≡ o → served_by homes records_of o ≡ Some rs → IsServed homes records_of name rs
      by None f h = absurd (cc)
      by (Some b) f h = by_role b (is_requester (homes b).role) f refl h

  serves_own : (a : ℕ) → IsAgent homes a → is_requester (homes a).role ≡ false → serves (homes a).name ≡ Some (records_of a)
  unfolding serves served_by home_in
  serves_own a is asked =
      ap (served_by homes records_of) is
      ∙ ap (λ (q : Bool). if q then None else Some (records_of a)) asked

  aggregator_role : (a : ℕ) → IsAggregator t a → (homes a).role ≡ aggregates (aggregator_of t (agent_in t a) (routes a))
  unfolding home_in
  aggregator_role a is = ap (λ (o : Option AgentKind). role_in o t routes a) is

  ---- What is asked about a view

  costs : ((leg : Leg) → 1 ≤ price leg) → (a : ℕ) (parent : List ℕ) (x : ChildConnection) → IsAgent homes a → name_in (homes a).role ≡ parent → IsKnowing (w.journal a) (told (homes a) (w.journal a)).out x →
      CostsItsLeg price worth_of parent x
  unfolding worth_of records_of
  costs low a parent x agent named knows id m known about = named_costs price serves low m id (leg_in x) about.names about.asked_of between
    where
      out : List Message
      out = (told (homes a) (w.journal a)).out

      between : (rs : List Record) (n : ℕ) → serves m.header.provider ≡ Some rs → place_of id m.header.requester rs ≡ Some n → ((record_at n rs).service.source ≡ x.source) × ((record_at n rs).service.dest ≡ x.dest)
      between rs n served placed =
          let s : IsServed homes records_of m.header.provider rs = is_served m.header.provider rs served in
          let b : ℕ = s.agent in
          let child : x.child ≡ name_in (homes b).role = sym about.asked_of ∙ (sym s.named ∙ sym (given.named b)) in
          let learnt : IsLearnt (w.journal a) (told (homes a) (w.journal a)).out (name_in (homes b).role) x.source x.dest id =
          subst (λ (z : List ℕ). IsLearnt (w.journal a) (told (homes a) (w.journal a)).out z x.source x.dest id) child (knows.known id known)
          in
          let there : IsThere (records_of b) (name_in (homes a).role) id x.source x.dest = learnt_there homes given a b agent s.is s.asked w.journal grown x.source x.dest id learnt in
          let found : IsFound id (records_of b) n = found_has id m.header.requester (records_of b) n (subst (λ (zs : List Record). place_of id m.header.requester zs ≡ Some n) s.its placed) in
          let same : there.place ≡ n = (told_fair (homes b) (w.journal b) (name_in (homes a).role)).ids there.place n there.within found.within (there.its_id ∙ found.its_id) in
          subst (λ (zs : List Record). ((record_at n zs).service.source ≡ x.source) × ((record_at n zs).service.dest ≡ x.dest)) (sym s.its)
          (ap (λ (z : ℕ). (record_at z (records_of b)).service.source) (sym same) ∙ there.source, ap (λ (z : ℕ). (record_at z (records_of b)).service.dest) (sym same) ∙ there.dest)

  -- what is known by a front of its entries is known by all
  known_whole : (a : ℕ) (earlier later : List Entry) (x : ChildConnection) → w.journal a ≡ earlier ++ later → IsKnowing earlier (told (homes a) earlier).out x → IsKnowing (w.journal a) (told (homes a) (w.journal a)).out x
  known_whole a earlier later x q k =
      subst (λ (es : List Entry). IsKnowing es (told (homes a) es).out x) (sym q)
      (knowing_more (told (homes a) earlier).out (told (homes a) (earlier ++ later)).out (λ m c. says_more (homes a) m earlier (earlier ++ later) (later, refl) c) earlier later x k)

  ---- What is asked about a record

  later_record : (a : ℕ) (earlier later : List Entry) (k : ℕ) (r : Record) → w.journal a ≡ earlier ++ later → slice_get (told (homes a) earlier).state.base.records k ≡ Some r →
      (z : Record) × (slice_get (records_of a) k ≡ Some z) × IsLater r z
  unfolding records_of
  later_record a earlier later k r q at =
      subst (λ (es : List Entry). (z : Record) × (slice_get (told (homes a) es).state.base.records k ≡ Some z) × IsLater r z) (sym q) ((entries_leave_all (homes a) earlier later).records k r at)

  pays : (a : ℕ) (earlier later : List Entry) (k : ℕ) (r : Record) → IsAgent homes a → is_requester (homes a).role ≡ false → w.journal a ≡ earlier ++ later →
      slice_get (told (homes a) earlier).state.base.records k ≡ Some r → PaysItsLeg price worth_of (homes a).name r
  unfolding worth_of records_of
  pays a earlier later k r agent asked q at m about =
      let (z, there, is) = later_record a earlier later k r q at in
      let passes : is_of r.id m.header.requester z ≡ true =
      and_from (r.id == z.id) (bytes_eq m.header.requester z.owner) (eq-eqb r.id z.id (sym is.id)) ((bytes_eq-Decides m.header.requester z.owner).1 (about.asked_by ∙ sym is.owner))
      in
      let (i, placed) = some_place r.id m.header.requester (records_of a) k z there passes in
      let found : IsFound r.id (records_of a) i = found_has r.id m.header.requester (records_of a) i placed in
      let here : record_at k (records_of a) ≡ z = get_or_from_slice_get (records_of a) k z no_record there in
      let same : i ≡ k =
      (told_fair (homes a) (w.journal a) (homes a).name).ids i k found.within (slice_get_within (records_of a) k z there) (sym found.its_id ∙ (sym is.id ∙ ap (λ (y : Record). y.id) (sym here)))
      in
      let its : record_at i (records_of a) ≡ z = ap (λ (n : ℕ). record_at n (records_of a)) same ∙ here in
      named_pays price serves m r.id i (records_of a) (leg_to (homes a).name r) about.names about.asked_of (ap serves about.asked_of ∙ serves_own a agent asked) placed
      (ap (λ (y : Record). y.service.source) its ∙ ap (λ (s : _). s.source) is.service) (ap (λ (y : Record). y.service.dest) its ∙ ap (λ (s : _). s.dest) is.service)

  ---- All agents

  module _ (sums : ReachIsASum) (reserved : ViewsWereReserved) (sound : IsSound t) (formed : IsWellFormed t) (routed : AreRoutes t routes) (worth : Worth) (is : IsWorth t routes w worth) where
    low : (leg : Leg) → 1 ≤ price leg
    low leg = omega (arith, sums t routes leg sound formed routed)

    -- of an aggregator, as a front of its entries makes it
    in_state : (a : ℕ) → IsAggregator t a → InEachState (homes a) (w.journal a) (AreFees price worth_of (name_of t a))
    in_state a aggregator earlier later q = record { children = each_child; records = each_record }
      where
        role : (homes a).role ≡ aggregates (aggregator_of t (agent_in t a) (routes a))
        role = aggregator_role a aggregator

        agent : IsAgent homes a
        agent = is_agent t routes a formed (omega (arith, slice_get_within t.kinds a AgentKind.Aggregator aggregator, sound.fit.kinds))

        named : name_in (homes a).role ≡ name_of t a
        named = given.named a ∙ home_name t routes a

        each_child : All (All (CostsItsLeg price worth_of (name_of t a))) (told (homes a) earlier).state.children
        each_child k d lt =
            subst (All (CostsItsLeg price worth_of (name_of t a))) (get_or_from_slice_get (told (homes a) earlier).state.children k _ [] (slice_get-get_or (told (homes a) earlier).state.children k d lt))
            (All-weaker (IsKnowing earlier (told (homes a) earlier).out) (CostsItsLeg price worth_of (name_of t a))
            (λ x h. costs low a (name_of t a) x agent named (known_whole a earlier later x q h)) (children_at k (told (homes a) earlier).state.children)
            (children_learnt (homes a) (aggregator_of t (agent_in t a) (routes a)) role earlier k))

        each_record : All (PaysItsLeg price worth_of (name_of t a)) (told (homes a) earlier).state.base.records
        each_record k d lt =
            subst (λ (n : List ℕ). PaysItsLeg price worth_of n (get_or (told (homes a) earlier).state.base.records k d)) (home_name t routes a)
            (pays a earlier later k (get_or (told (homes a) earlier).state.base.records k d) agent (ap is_requester role) q (slice_get-get_or (told (homes a) earlier).state.base.records k d lt))

    reserved_whole : (a : ℕ) (provider : List ℕ) (earlier later : List Entry) (label : List ℕ) (leg : Leg) → w.journal a ≡ earlier ++ later → WasReserved provider earlier label leg → WasReserved provider (w.journal a) label leg
    reserved_whole a provider earlier later label leg q r =
        record {
          entry = r.entry;
          there = subst (λ (es : List Entry). Contains es r.entry) (sym q) (Contains-append_left earlier later r.entry r.there);
          number = r.number;
          ask = r.ask;
          reserve = r.reserve;
          asked = r.asked;
          under = r.under;
          what = r.what;
          child = r.child;
          from = r.from;
          to = r.to;
        }

    -- of a requester
    in_view : (a : ℕ) (setting : RequesterSetting) → IsAgent homes a → (homes a).role ≡ requests setting → InEachState (homes a) (w.journal a) (λ s. All (IsWithinLabel price worth_of setting.name (worth a)) s.views)
    in_view a setting agent role earlier later q k d lt =
        let v : View = get_or (told (homes a) earlier).state.views k d in
        let was : ViewWasReserved setting.provider earlier v = reserved (homes a) setting earlier role k d lt in
        let knows : IsKnowing earlier (told (homes a) earlier).out v.child = views_learnt (homes a) setting role earlier k d lt in
        record {
          leg = is.reserves a setting v.label (leg_in v.child) agent role (reserved_whole a setting.provider earlier later v.label (leg_in v.child) q was);
          about = costs low a setting.name v.child agent (ap name_in role) (known_whole a earlier later v.child q knows);
        }

    exist : AreFeesIn t routes w worth worth_of
    unfolding worth_of
    exist =
        record {
          pays = is_fee price serves low;
          aggregators = in_state;
          requesters = in_view;
          summaries = λ a m e. omega (arith, summary_worth price serves m e, is.something a);
        }

pub fees_exist : ReachIsASum → ViewsWereReserved → FeesExist
fees_exist sums reserved t routes events sound formed routed run worth is =
    (worth_of t routes events run, exist t routes events run sums reserved sound formed routed worth is)
