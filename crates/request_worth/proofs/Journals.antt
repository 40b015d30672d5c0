-- What an aggregator of a topology asks, entry by entry, against the requests that it was asked.
use Rattle.std.proofs.Common.{ℕ, ◌+◌, ◌≤◌, ◌<◌, ◌≡◌, ◌∙◌, ◌&&◌, not, Bool, true, false, List, [], ◌∷◌, Option, Some, refl, sym, ap, subst, arith, length, if◌then◌else◌}
use Rattle.std.specs.List.{sum_by}
use Rattle.std.proofs.lemmas.List.Sums.{sum_by-append}
use Rattle.std.proofs.lemmas.Option.{slice_get_within}
use Rattle.nsi_primitive.specs.Messages.{is_request}
use Rattle.nsi_primitive.specs.declared.entry.Entry.{Entry}
use Rattle.nsi_primitive.specs.declared.entry.Input.{Input}
use Rattle.nsi_primitive.specs.declared.message.Message.{Message}
use Rattle.stp_topology.specs.Laws.{IsWellFormed}
use Rattle.stp_topology.specs.Network.{agent_of, stp_of, name_of}
use Rattle.stp_topology.specs.Sound.{IsSound, IsAggregator}
use Rattle.stp_topology.specs.declared.network.AgentKind.{AgentKind}
use Rattle.stp_topology.specs.declared.network.Network.{Network}
use Rattle.agent_state.specs.declared.parent.Leg.{Leg}
use Rattle.agent_state.specs.State.{AgentState, AgentStepped, blank_agent}
use Rattle.aggregator_agent.specs.Setting.{Setting, setting_of, agent_in}
use Rattle.aggregator_agent.specs.Steps.{is_seen, may_take}
use Rattle.nsi_agent.specs.Homes.{Home, Routes, AreRoutes, aggregates, role_in, home_in}
use Rattle.nsi_agent.specs.Steps.{after_as, after, may_take_as, is_new, is_seen as was_seen}
use Rattle.nsi_agent.specs.Told.{Told, goes_on, told}
use Rattle.way_reach.specs.Laws.{ReachIsASum}
use Rattle.way_reach.specs.Reach.{reach, legs_below}
use Rattle.request_worth.specs.Laws.{AggregatorsAskNoMore}
use Rattle.request_worth.specs.Worth.{worth_of, new_request, requests_from, IsFee, AreFees, owed_ends}
use Rattle.request_worth.proofs.Aggregating.{AllPaid, IsStep, got_if, entry_step}
use Rattle.request_worth.proofs.Fees.{worth_none, worth_append}
use Rattle.request_worth.proofs.Views.{FromEach, at_first, at_next}

module _ (price : Leg → ℕ) (fee : Message → ℕ) (is : IsFee price fee) (setting : Setting)
    (ways : (source dest : List ℕ) (p q : ℕ) → setting.stp_of source ≡ Some p → setting.stp_of dest ≡ Some q →
    1 + sum_by price (setting.route p q) ≤ price (record { child = setting.agent.name; source = source; dest = dest })) where
  abbrev Fees : AgentState → Type 0
  Fees s = AreFees price fee setting.agent.name s

  abbrev Paid : AgentState → Type 0
  Paid s = AllPaid price fee is setting ways s

  abbrev gets : AgentState → Entry → List Message
  gets s e = got_if price fee is setting ways (may_take s e) s e.input

  ---- The requests that entries bring

  new_here : (h : Home) (s : AgentState) (m : Message) → h.role ≡ aggregates setting → is_new h s m ≡ not (is_seen s m)
  unfolding is_new
  new_here h s m e = ap (λ role. not (was_seen role s m)) e

  same_request : (b : Bool) (h : Home) (s : AgentState) (i : Input) → h.role ≡ aggregates setting → new_request b h s i ≡ got_if price fee is setting ways b s i
  same_request true h s (Input.Got m) e = ap (λ b. if is_request m.body && b then m ∷ [] else []) (new_here h s m e)
  same_request true h s _ e = refl
  same_request false h s _ e = refl

  same_gets : (h : Home) (s : AgentState) (x : Entry) → h.role ≡ aggregates setting → new_request (may_take_as h.role s x) h s x.input ≡ gets s x
  same_gets h s x e = ap (λ role. new_request (may_take_as role s x) h s x.input) e ∙ same_request (may_take s x) h s x.input e

  ---- Entries one after another

  goes_on_paid : (h : Home) (s : AgentState) (es : List Entry) → h.role ≡ aggregates setting → Paid s → FromEach h s es Fees →
      let t : AgentState = (goes_on h s es).state in
      worth_of fee (goes_on h s es).out + (length t.base.seen + owed_ends price t.base.records t.children)
      ≤ length s.base.seen + owed_ends price s.base.records s.children + sum_by fee (requests_from h s es)
  unfolding goes_on after_as requests_from
  goes_on_paid h s [] e ok each = omega (arith, worth_none fee)
  goes_on_paid h s (x ∷ xs) e ok each =
      let y : AgentStepped = after h s x in
      let rest : Told = goes_on h y.state xs in
      let a : IsStep price fee is setting ways s y (gets s x) =
      subst (λ role. IsStep price fee is setting ways s (after_as role s x) (gets s x)) (sym e) (entry_step price fee is setting ways s x ok (at_first h s (x ∷ xs) Fees each))
      in
      let later : FromEach h y.state xs Fees = at_next h s x xs Fees each in
      omega (
        arith,
        a.paid (at_first h y.state xs Fees later),
        goes_on_paid h y.state xs e a.kept later,
        worth_append fee y.out rest.out,
        ap (sum_by fee) (same_gets h s x e),
        sum_by-append fee (new_request (may_take_as h.role s x) h s x.input) (requests_from h y.state xs),
      )

---- The aggregators of a topology

module _ (sums : ReachIsASum) (t : Network) (routes : Routes) (a : ℕ) (sound : IsSound t) (formed : IsWellFormed t) (are : AreRoutes t routes) (aggregator : IsAggregator t a) where
  abbrev here : Setting
  here = setting_of t (agent_in t a) (routes a)

  is_here : (home_in t routes a).role ≡ aggregates here
  unfolding home_in
  is_here = ap (λ (o : Option AgentKind). role_in o t routes a) aggregator

  within : a < length t.agents
  within = omega (arith, slice_get_within t.kinds a AgentKind.Aggregator aggregator, sound.fit.kinds)

  below : (leg : Leg) (p q : ℕ) → leg.child ≡ name_of t a → stp_of t leg.source ≡ Some p → stp_of t leg.dest ≡ Some q → legs_below t routes leg ≡ routes a p q
  unfolding legs_below
  below leg p q c s d = let b : agent_of t leg.child ≡ Some a = ap (agent_of t) c ∙ formed.agents a within in rw (b, s, d) refl

  ways_reach : (source dest : List ℕ) (p q : ℕ) → stp_of t source ≡ Some p → stp_of t dest ≡ Some q →
      1 + sum_by (reach t routes) (routes a p q) ≤ reach t routes (record { child = name_of t a; source = source; dest = dest })
  ways_reach source dest p q s d =
      let leg : Leg = record { child = name_of t a; source = source; dest = dest } in
      omega (arith, sums t routes leg sound formed are, ap (sum_by (reach t routes)) (below leg p q refl s d))

  ask_no_more : (fee : Message → ℕ) (es : List Entry) → IsFee (reach t routes) fee → FromEach (home_in t routes a) blank_agent es (AreFees (reach t routes) fee (name_of t a)) →
      let s : AgentState = (told (home_in t routes a) es).state in
      worth_of fee (told (home_in t routes a) es).out + (length s.base.seen + owed_ends (reach t routes) s.base.records s.children)
      ≤ sum_by fee (requests_from (home_in t routes a) blank_agent es)
  unfolding owed_ends
  ask_no_more fee es is each = omega (arith, goes_on_paid (reach t routes) fee is here ways_reach (home_in t routes a) blank_agent es is_here tt each)

pub aggregators_ask_no_more : ReachIsASum → AggregatorsAskNoMore
aggregators_ask_no_more sums t routes a fee es sound formed are aggregator is each = ask_no_more sums t routes a sound formed are aggregator fee es is each
