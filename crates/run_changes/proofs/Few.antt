-- Each change that an aggregator tells is paid by one that a child tells, and so by those of providers in the end.
use Rattle.std.proofs.Common.{◌≡◌, ◌≤◌, ◌<◌, ◌+◌, ◌*◌, ◌∙◌, ℕ, Bool, true, false, List, [], ◌∷◌, Some, refl, sym, ap, subst, arith, flat_map, length, map, get_or, bytes_eq, if◌then◌else◌}
use Rattle.std.specs.List.{All, Contains, filter, sum_by}
use Rattle.std.proofs.lemmas.Iterator.Adapters.{position_from-zero}
use Rattle.std.proofs.lemmas.List.{length-map, take_all}
use Rattle.std.proofs.lemmas.List.Elements.{All-nil, All-head, All-tail, All-append, All-contains, All-contains_itself, All-filter, All-map, All-weaker, filter_passes, Contains-append_right}
use Rattle.std.proofs.lemmas.List.FromFn.{length-range_with_len, get_or-range_with_len}
use Rattle.std.proofs.lemmas.List.Quantifiers.{position-Some}
use Rattle.std.proofs.lemmas.List.Sums.{sum_by-le}
use Rattle.nsi_primitive.specs.Messages.{identity, is_request}
use Rattle.nsi_primitive.specs.declared.entry.Entry.{Entry}
use Rattle.nsi_primitive.specs.declared.entry.Event.{Event}
use Rattle.nsi_primitive.specs.declared.message.Identity.{Identity}
use Rattle.nsi_primitive.specs.declared.message.Message.{Message}
use Rattle.stp_topology.specs.Laws.{IsWellFormed}
use Rattle.stp_topology.specs.Network.{agent_of}
use Rattle.stp_topology.specs.Sound.{IsSound}
use Rattle.stp_topology.specs.declared.network.Network.{Network}
use Rattle.connection_record.specs.Speaking.{tally}
use Rattle.aggregator_agent.specs.Setting.{Setting}
use Rattle.agent_node.specs.Openings.{agents}
use Rattle.nsi_agent.specs.Homes.{Role, provides, aggregates, requests, Routes, AreRoutes, home_in}
use Rattle.nsi_agent.specs.Laws.{WhatIsSaidIsItsOwn}
use Rattle.nsi_agent.specs.Told.{told}
use Rattle.nsi_world.specs.Worlds.{Homes, World, empty, IsAgent}
use Rattle.nsi_world.specs.Runs.{is_provider, is_requester, world_after, AreAllowed}
use Rattle.nsi_world.specs.Heard.{IsFair}
use Rattle.nsi_world.specs.Laws.{HeardWasSent}
use Rattle.nsi_world.proofs.Names.{home_leads}
use Rattle.nsi_world.proofs.PlayAsks.{range_here}
use Rattle.run_growth.proofs.Sent.{Given, given_in, agents_same, to_requester}
use Rattle.speech_cost.specs.Changes.{says_change, is_of_change}
use Rattle.heard_changes.specs.Laws.{ChangesAreHeard}
use Rattle.run_changes.specs.Told.{AreApart, changes_by, provider_changes_by, changes_told, provider_changes_told, changes_heard, WasToldByChild, AreHeardOnce}
use Rattle.run_changes.specs.Laws.{RequestersTellNone, ChangesAreFew}
use Rattle.run_changes.proofs.Children.{HasParent, change_asks_nothing, whole, said_by, parent_of, are_heard_once}
use Rattle.run_changes.proofs.Lists.{Differs, apart_append, apart_range, contained_first, filter_contains, map_contains, flat_contains}
use Rattle.run_changes.proofs.Ranks.{room, room_few, room_below, room_at, worth}
use Rattle.run_changes.proofs.Sums.{tally_filter, sum_flat, worth_more, sums_few}
use Rattle.run_changes.proofs.Within.{costs_within}

---- The agents of a topology

agent_is : (t : Network) (routes : Routes) (a : ℕ) → IsWellFormed t → a < length t.agents → IsAgent (home_in t routes) a
unfolding home_in
agent_is t routes a formed lt = formed.agents a lt

pub all_agents : (t : Network) (routes : Routes) → IsWellFormed t → All (IsAgent (home_in t routes)) (agents t)
all_agents t routes formed k d lt =
    let n : ℕ = length t.agents in
    let within : k < n = omega (arith, lt, length-range_with_len 0 n) in
    agent_is t routes (get_or (agents t) k d) formed (omega (arith, within, get_or-range_with_len 0 n k d within))

leads_to : (t : Network) (routes : Routes) (a : ℕ) → IsAgent (home_in t routes) a → agent_of t (home_in t routes a).name ≡ Some a
leads_to t routes a is = ap (λ f. f (home_in t routes a).name) (sym (home_leads t routes a)) ∙ is

agent_here : (t : Network) (routes : Routes) (a : ℕ) → IsAgent (home_in t routes) a → Contains (agents t) a
agent_here t routes a is =
    let name : List ℕ = (home_in t routes a).name in
    range_here (length t.agents) a (position-Some (bytes_eq name) t.agents a [] (position_from-zero (bytes_eq name) t.agents ∙ leads_to t routes a is)).0

-- an aggregator is paid for what it has heard, no other agent for anything
abbrev heard_as : Role → List Identity → List Identity
heard_as (aggregates setting) heard = heard
heard_as _ heard = []

module _ (own : WhatIsSaidIsItsOwn) (sent : HeardWasSent) (once : ChangesAreHeard) (t : Network) (routes : Routes) (events : List Event) (sound : IsSound t) (formed : IsWellFormed t) (routed : AreRoutes t routes)
    (run : AreAllowed (home_in t routes) empty events) where
  abbrev homes : Homes
  homes = home_in t routes

  abbrev w : World
  w = world_after empty events

  fair : IsFair homes w
  fair = sent homes events run

  given : Given homes
  given = given_in t routes

  abbrev out : ℕ → List Message
  out b = (told (homes b) (w.journal b)).out

  ---- What an agent tells

  changes : ℕ → List Message
  changes b = filter says_change (out b)

  -- what it tells, and it tells a change
  record IsChange (b : ℕ) (m : Message) : Type 0 where
    there : Contains (out b) m
    change : says_change m ≡ true
    notes : is_request m.body ≡ false

  all_changes : (b : ℕ) → All (IsChange b) (changes b)
  unfolding changes
  all_changes b k d lt =
      let change : says_change (get_or (filter says_change (out b)) k d) ≡ true = filter_passes says_change (out b) k d lt in
      record {
        there = All-filter says_change (Contains (out b)) (out b) (All-contains_itself (out b)) k d lt;
        change = change;
        notes = change_asks_nothing (get_or (filter says_change (out b)) k d).body change;
      }

  changes_length : (b : ℕ) → length (changes b) ≡ changes_by homes w b
  unfolding changes
  changes_length b = tally_filter says_change (out b)

  -- nobody asks a requester, so it tells none
  none_of_requesters : (b : ℕ) → IsAgent homes b → is_requester (homes b).role ≡ true → changes_by homes w b ≡ 0
  none_of_requesters b is asks = sym (changes_length b) ∙ by (changes b) (all_changes b)
    where
      never : (x : Bool) → x ≡ true → x ≡ false → ⊥
      never x p q = absurd (cc)

      by : (ms : List Message) → All (IsChange b) ms → length ms ≡ 0
      by [] all = refl
      by (m ∷ ms) all =
          let c : IsChange b m = All-head (IsChange b) m ms all in
          let p : HasParent t homes b m = parent_of own sent t routes events sound formed routed run b m is c.there c.notes in
          absurd (never (is_requester (homes b).role) asks p.child.asked)

  told_ids : ℕ → List Identity
  told_ids b = map identity (changes b)

  ids_length : (b : ℕ) → length (told_ids b) ≡ changes_by homes w b
  unfolding told_ids
  ids_length b = length-map (changes b) identity ∙ changes_length b

  worth_is : (b : ℕ) (m : Message) → IsAgent homes b → Contains (out b) m → is_request m.body ≡ false → worth t (identity m) ≡ room t b
  worth_is b m is c notes =
      ap (λ (name : List ℕ). room_at t (agent_of t name)) (said_by own sent t routes events sound formed routed run b m c notes) ∙ ap (room_at t) (leads_to t routes b is)

  told_worth : (b : ℕ) → IsAgent homes b → All (λ i. worth t i ≤ room t b) (told_ids b)
  unfolding told_ids
  told_worth b is =
      All-map (λ i. worth t i ≤ room t b) identity (changes b)
      (All-weaker (IsChange b) (λ m. worth t (identity m) ≤ room t b) (λ m c. omega (arith, worth_is b m is c.there c.notes)) (changes b) (all_changes b))

  few_worth : (b : ℕ) → IsAgent homes b → sum_by (worth t) (told_ids b) ≤ 4 * changes_by homes w b
  few_worth b is =
      omega (
        arith,
        sum_by-le (worth t) 4 (told_ids b) (All-weaker (λ i. worth t i ≤ room t b) (λ i. worth t i ≤ 4) (λ i l. omega (arith, l, room_few t b)) (told_ids b) (told_worth b is)),
        ids_length b,
      )

  ---- What an agent hears

  paid : ℕ → List Identity
  paid a = heard_as (homes a).role (changes_heard homes w a)

  record ArePaid (a : ℕ) (ids : List Identity) : Type 0 where
    apart : AreApart ids
    from_children : All (WasToldByChild t homes w a) ids

  all_paid : (a : ℕ) → IsAgent homes a → ArePaid a (paid a)
  unfolding paid
  all_paid a is = by (homes a).role refl
    where
      by : (role : Role) → (homes a).role ≡ role → ArePaid a (heard_as role (changes_heard homes w a))
      by (provides setting stp_of) e = record { apart = tt; from_children = All-nil (WasToldByChild t homes w a) }
      by (aggregates setting) e = let h : AreHeardOnce t homes w a = are_heard_once own sent t routes events sound formed routed run a setting is e in record { apart = h.apart; from_children = h.from_children }
      by (requests setting) e = record { apart = tt; from_children = All-nil (WasToldByChild t homes w a) }

  asks_not : (a : ℕ) (i : Identity) (c : WasToldByChild t homes w a i) → is_request c.message.body ≡ false
  asks_not a i c = change_asks_nothing c.message.body c.change

  heard_worth : (a : ℕ) (i : Identity) → WasToldByChild t homes w a i → 1 + room t a ≤ worth t i
  heard_worth a i c =
      let there : Contains (out c.child) c.message = whole own sent t routes events sound formed routed run c.child c.message c.said in
      omega (arith, room_below t a c.child formed c.below, worth_is c.child c.message c.said.0 there (asks_not a i c), ap (worth t) c.its)

  -- an aggregator has told no more than it has heard
  heard_more : (a : ℕ) (setting : Setting) → IsAgent homes a → (homes a).role ≡ aggregates setting → changes_by homes w a ≤ length (changes_heard homes w a)
  heard_more a setting is e =
      let es : List Entry = w.journal a in
      let k : ℕ = length es in
      let all : tally says_change (told (homes a) es).out ≤ tally is_of_change (told (homes a) es).state.base.heard = subst (λ fs. tally says_change (told (homes a) fs).out ≤ tally is_of_change (told (homes a) fs).state.base.heard) (take_all k es (omega arith))
      (once t routes events sound formed routed run a k setting is e) in
      omega (arith, all, tally_filter is_of_change (told (homes a) es).state.base.heard)

  -- what it tells, and what that is worth, is paid by what it has heard; a provider's is paid by five for each
  few_here : (a : ℕ) → IsAgent homes a → changes_by homes w a + sum_by (worth t) (told_ids a) ≤ sum_by (worth t) (paid a) + 5 * provider_changes_by homes w a
  unfolding paid
  few_here a is = by (homes a).role refl
    where
      by : (role : Role) → (homes a).role ≡ role →
          changes_by homes w a + sum_by (worth t) (told_ids a) ≤ sum_by (worth t) (heard_as role (changes_heard homes w a)) + 5 * (if is_provider role then changes_by homes w a else 0)
      by (provides setting stp_of) e = omega (arith, few_worth a is)
      by (aggregates setting) e =
          let hs : List Identity = changes_heard homes w a in
          let h : AreHeardOnce t homes w a = are_heard_once own sent t routes events sound formed routed run a setting is e in
          let more : length (told_ids a) + sum_by (worth t) (told_ids a) ≤ sum_by (worth t) hs = worth_more (worth t) (worth t) (room t a) (told_ids a) hs (told_worth a is)
          (All-weaker (WasToldByChild t homes w a) (λ i. 1 + room t a ≤ worth t i) (heard_worth a) hs h.from_children) (omega (arith, ids_length a, heard_more a setting is e)) in
          omega (arith, more, ids_length a)
      by (requests setting) e = omega (arith, few_worth a is, none_of_requesters a is (ap is_requester e))

  ---- All agents together

  said_among : List ℕ → List Identity
  said_among ns = flat_map told_ids ns

  heard_among : List ℕ → List Identity
  heard_among ns = flat_map paid ns

  told_there : (a : ℕ) (i : Identity) → WasToldByChild t homes w a i → Contains (said_among (agents t)) i
  unfolding said_among told_ids changes
  told_there a i c =
      let there : Contains (out c.child) c.message = whole own sent t routes events sound formed routed run c.child c.message c.said in
      let kept : Contains (filter says_change (out c.child)) c.message = filter_contains says_change (out c.child) c.message c.change there in
      subst (Contains (flat_map told_ids (agents t))) c.its
      (flat_contains told_ids (agents t) c.child (identity c.message) (agent_here t routes c.child c.said.0) (map_contains identity (filter says_change (out c.child)) c.message kept))

  all_there : (ns : List ℕ) → All (IsAgent homes) ns → All (Contains (said_among (agents t))) (heard_among ns)
  unfolding heard_among
  all_there [] is = All-nil (Contains (said_among (agents t)))
  all_there (n ∷ ns) is =
      All-append (Contains (said_among (agents t))) (paid n) (heard_among ns)
      (All-weaker (WasToldByChild t homes w n) (Contains (said_among (agents t))) (told_there n) (paid n) (all_paid n (All-head (IsAgent homes) n ns is)).from_children)
      (all_there ns (All-tail (IsAgent homes) n ns is))

  -- it is for the agent
  abbrev IsFor : ℕ → Identity → Type 0
  IsFor a i = i.requester ≡ (homes a).name

  paid_for : (a : ℕ) → IsAgent homes a → All (IsFor a) (paid a)
  paid_for a is =
      All-weaker (WasToldByChild t homes w a) (IsFor a) (λ i c. sym (ap (λ (j : Identity). j.requester) c.its) ∙ to_requester homes given w fair a c.message (asks_not a i c) c.addressed) (paid a) (all_paid a is).from_children

  -- for one of these agents
  record IsForOne (ns : List ℕ) (i : Identity) : Type 0 where
    agent : ℕ
    among : Contains ns agent
    is : IsAgent homes agent
    its : IsFor agent i

  all_for_one : (ns : List ℕ) → All (IsAgent homes) ns → All (IsForOne ns) (heard_among ns)
  unfolding heard_among
  all_for_one [] is = All-nil (IsForOne [])
  all_for_one (n ∷ ns) is =
      let here : IsAgent homes n = All-head (IsAgent homes) n ns is in
      All-append (IsForOne (n ∷ ns)) (paid n) (heard_among ns)
      (All-weaker (IsFor n) (IsForOne (n ∷ ns)) (λ i f. record { agent = n; among = contained_first n ns; is = here; its = f }) (paid n) (paid_for n here))
      (All-weaker (IsForOne ns) (IsForOne (n ∷ ns)) (λ i f. record { agent = f.agent; among = Contains-append_right (n ∷ []) ns f.agent f.among; is = f.is; its = f.its }) (heard_among ns)
      (all_for_one ns (All-tail (IsAgent homes) n ns is)))

  for_others : (n : ℕ) (ns : List ℕ) (i j : Identity) → All (Differs n) ns → IsAgent homes n → IsFor n i → IsForOne ns j → Differs i j
  for_others n ns i j absent is f g same =
      let name : (homes n).name ≡ (homes g.agent).name = sym f ∙ (ap (λ (x : Identity). x.requester) same ∙ g.its) in
      All-contains (Differs n) ns g.agent absent g.among (agents_same homes given w fair n g.agent is g.is name)

  among_apart : (ns : List ℕ) → AreApart ns → All (IsAgent homes) ns → AreApart (heard_among ns)
  unfolding heard_among
  among_apart [] apart is = tt
  among_apart (n ∷ ns) apart is =
      let here : IsAgent homes n = All-head (IsAgent homes) n ns is in
      let others : All (IsAgent homes) ns = All-tail (IsAgent homes) n ns is in
      let rest : All (IsForOne ns) (heard_among ns) = all_for_one ns others in
      apart_append (paid n) (heard_among ns) (all_paid n here).apart (among_apart ns apart.1 others)
      (All-weaker (IsFor n) (λ i. All (Differs i) (heard_among ns)) (λ i f. All-weaker (IsForOne ns) (Differs i) (λ j g. for_others n ns i j apart.0 here f g) (heard_among ns) rest) (paid n) (paid_for n here))

  few : changes_told homes w (agents t) ≤ 5 * provider_changes_told homes w (agents t)
  unfolding said_among heard_among
  few =
      let ns : List ℕ = agents t in
      let is : All (IsAgent homes) ns = all_agents t routes formed in
      let within : sum_by (worth t) (heard_among ns) ≤ sum_by (worth t) (said_among ns) = costs_within (worth t) (heard_among ns) (said_among ns) (among_apart ns (apart_range 0 (length t.agents)) is) (all_there ns is) in
      omega (
        arith,
        within,
        sum_flat (worth t) paid ns,
        sum_flat (worth t) told_ids ns,
        sums_few (changes_by homes w) (λ a. sum_by (worth t) (told_ids a)) (λ a. sum_by (worth t) (paid a)) (provider_changes_by homes w) ns
            (All-weaker (IsAgent homes) (λ a. changes_by homes w a + sum_by (worth t) (told_ids a) ≤ sum_by (worth t) (paid a) + 5 * provider_changes_by homes w a) few_here ns is),
      )

pub requesters_tell_none : WhatIsSaidIsItsOwn → HeardWasSent → ChangesAreHeard → RequestersTellNone
requesters_tell_none own sent once t routes events sound formed routed run a is asks = none_of_requesters own sent once t routes events sound formed routed run a is asks

pub changes_are_few : WhatIsSaidIsItsOwn → HeardWasSent → ChangesAreHeard → ChangesAreFew
changes_are_few own sent once t routes events sound formed routed run = few own sent once t routes events sound formed routed run
