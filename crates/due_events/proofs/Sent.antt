-- To each agent goes what is for it: to a provider requests alone, as it asks nobody.
use Rattle.std.proofs.Common.{◌≡◌, ◌≢◌, ◌≤◌, ◌∙◌, ℕ, Bool, true, false, List, [], ◌∷◌, ◌++◌, refl, sym, ap, subst, arith, length, get_or, flat_map, length-append}
use Rattle.std.specs.List.{All, Contains}
use Rattle.std.proofs.lemmas.List.Elements.{All-nil, All-cons, All-head, All-tail, All-append, All-contains, All-take, All-weaker, Contains-append_left, Contains-append_right, Contains-push}
use Rattle.std.proofs.lemmas.List.Sums.{sum_by-cons}
use Rattle.std.proofs.lemmas.Option.{slice_get-get_or}
use Rattle.nsi_primitive.specs.Messages.{identity, addressee, is_request}
use Rattle.nsi_primitive.specs.declared.entry.Entry.{Entry}
use Rattle.nsi_primitive.specs.declared.entry.Event.{Event}
use Rattle.nsi_primitive.specs.declared.entry.Input.{Input}
use Rattle.nsi_primitive.specs.declared.message.Message.{Message}
use Rattle.stp_topology.specs.declared.network.Network.{Network}
use Rattle.agent_state.specs.State.{blank_agent}
use Rattle.nsi_agent.specs.Homes.{Role, provides, aggregates, requests, Routes, home_in}
use Rattle.nsi_agent.specs.Said.{name_in, AsksFor, HasAsked, Asks, IsSaid, IsSaidAs, IsForIn}
use Rattle.nsi_agent.specs.Laws.{WhatIsSaidIsItsOwn}
use Rattle.nsi_world.specs.Worlds.{Homes, World, empty, synced_part, said, IsAgent, IsSaidBy, IsSent, IsTo}
use Rattle.nsi_world.specs.Runs.{world_after, AreAllowed}
use Rattle.nsi_world.specs.Heard.{IsHeard, IsFair, WasSent}
use Rattle.nsi_world.specs.Laws.{HeardWasSent}
use Rattle.nsi_world.specs.Nets.{AreDistinct}
use Rattle.nsi_world.proofs.NetSteps.{IsAbsent, first_apart, rest_apart}
use Rattle.run_growth.proofs.Entered.{entries_of, all_for}
use Rattle.run_growth.proofs.Sent.{given_in, agents_same, to_requester}
use Rattle.due_events.specs.Counts.{is_got, entries_in, entries_among}
use Rattle.due_events.specs.Due.{AreDue}
use Rattle.due_events.specs.Laws.{GotsAreFew, GotsTogetherAreFew}
use Rattle.due_events.proofs.Distinct.{got_by, messages_got, all_got, Differs, AreApart, apart_append, got_apart, apart_few}
use Rattle.due_events.proofs.Journals.{journals_due}
use Rattle.due_events.proofs.Seeing.{IsNoted}

-- a message that was sent to an agent of the topology
record IsFor (homes : Homes) (w : World) (a : ℕ) (m : Message) : Type 0 where
  pub agent : IsAgent homes a
  pub sent : IsSent homes w m
  pub addressed : IsTo homes a m

module _ (own : WhatIsSaidIsItsOwn) (heard : HeardWasSent) (t : Network) (routes : Routes) (events : List Event) (run : AreAllowed (home_in t routes) empty events) where
  abbrev homes : Homes
  homes = home_in t routes

  abbrev w : World
  w = world_after empty events

  fair : IsFair homes w
  fair = heard homes events run

  ---- What is got

  all_agent : (a : ℕ) → All (λ (e : Entry). IsAgent homes a) (w.journal a)
  all_agent a k d lt = ((entries_of homes events run a).entered k (get_or (w.journal a) k d) (slice_get-get_or (w.journal a) k d lt)).agent

  got_for : (a : ℕ) (es : List Entry) → All (λ (e : Entry). IsAgent homes a) es → All (IsHeard homes w a) es → All (IsFor homes w a) (messages_got es)
  got_for a [] agent all = All-nil (IsFor homes w a)
  got_for a (e ∷ es) agent all =
      by e.input (All-head (IsHeard homes w a) e es all).sent (All-head (λ (x : Entry). IsAgent homes a) e es agent) (got_for a es (All-tail (λ (x : Entry). IsAgent homes a) e es agent) (All-tail (IsHeard homes w a) e es all))
    where
      by : (input : Input) → WasSent homes w a input → IsAgent homes a → All (IsFor homes w a) (messages_got es) → All (IsFor homes w a) (got_by input ++ messages_got es)
      by (Input.Got m) was is rest = All-cons (IsFor homes w a) m (messages_got es) (record { agent = is; sent = was.0; addressed = was.1 }) rest
      by (Input.Work n machine) was is rest = rest
      by (Input.Force n) was is rest = rest
      by (Input.Acked i) was is rest = rest
      by Input.Tick was is rest = rest
      by (Input.Ask n ask) was is rest = rest

  all_for_agent : (a : ℕ) → All (IsFor homes w a) (messages_got (w.journal a))
  all_for_agent a = got_for a (w.journal a) (all_agent a) (fair.heard a)

  ---- To providers

  is_own : (b : ℕ) (m : Message) → IsSaidBy homes w b m → IsSaid (name_in (homes b).role) (Asks (homes b).role) (HasAsked (synced_part w b)) m
  is_own b m s =
      let role : Role = (homes b).role in
      let es : List Entry = synced_part w b in
      let all : All (IsForIn (name_in role)) (w.journal b) = all_for homes b (name_in role) (w.journal b) (w.synced b) ((given_in t routes).named b) (entries_of homes events run b) in
      All-contains (IsSaid (name_in role) (Asks role) (HasAsked es)) (said homes w b) m (own (homes b) es (All-take (IsForIn (name_in role)) (w.synced b) (w.journal b) all)) s.1

  -- what an agent asks it asks one whom it may
  asks_so : (a : ℕ) (q : Message) → IsAgent homes a → IsSent homes w q → is_request q.body ≡ true → q.header.requester ≡ (homes a).name → Asks (homes a).role q.header.provider
  asks_so a q is sent asks name =
      let c : ℕ = sent.0 in
      let role : Role = (homes c).role in
      let so : IsSaidAs true (name_in role) (Asks role) (HasAsked (synced_part w c)) q = subst (λ b. IsSaidAs b (name_in role) (Asks role) (HasAsked (synced_part w c)) q) asks (is_own c q sent.1) in
      let same : c ≡ a = agents_same homes (given_in t routes) w fair c a sent.1.0 is (sym ((given_in t routes).named c) ∙ (sym so.0 ∙ name)) in
      subst (λ b. Asks (homes b).role q.header.provider) same so.1

  -- who is told something has asked
  has_asked : (a : ℕ) (m : Message) → IsAgent homes a → IsSent homes w m → IsTo homes a m → is_request m.body ≡ false → (provider : List ℕ) × Asks (homes a).role provider
  has_asked a m is sent to answers =
      let b : ℕ = sent.0 in
      let role : Role = (homes b).role in
      let es : List Entry = synced_part w b in
      let so : IsSaidAs false (name_in role) (Asks role) (HasAsked es) m = subst (λ z. IsSaidAs z (name_in role) (Asks role) (HasAsked es) m) answers (is_own b m sent.1) in
      let e : Entry = so.1.0 in
      let was : IsHeard homes w b e = All-contains (IsHeard homes w b) es e (All-take (IsHeard homes w b) (w.synced b) (w.journal b) (fair.heard b)) so.1.1 in
      by e.input was.sent so.1.2 (to_requester homes (given_in t routes) w fair a m answers to)
    where
      by : (input : Input) → WasSent homes w sent.0 input → AsksFor m.header.requester input → m.header.requester ≡ (homes a).name → (provider : List ℕ) × Asks (homes a).role provider
      by (Input.Got q) was asks name = (q.header.provider, asks_so a q is was.0 asks.0 (asks.1 ∙ name))
      by (Input.Work n machine) was asks name = absurd asks
      by (Input.Force n) was asks name = absurd asks
      by (Input.Acked i) was asks name = absurd asks
      by Input.Tick was asks name = absurd asks
      by (Input.Ask n ask) was asks name = absurd asks

  noted_by : (role : Role) (m : Message) (b : Bool) → is_request m.body ≡ b → (b ≡ false → (provider : List ℕ) × Asks role provider) → IsNoted role m
  noted_by (provides setting stp_of) m true e asked = e
  noted_by (provides setting stp_of) m false e asked = absurd ((asked refl).1)
  noted_by (aggregates setting) m b e asked = tt
  noted_by (requests setting) m b e asked = tt

  all_noted : (a : ℕ) → All (IsNoted (homes a).role) (messages_got (w.journal a))
  all_noted a =
      All-weaker (IsFor homes w a) (IsNoted (homes a).role)
      (λ m f. noted_by (homes a).role m (is_request m.body) refl (λ answers. has_asked a m f.agent f.sent f.addressed answers)) (messages_got (w.journal a)) (all_for_agent a)

  ---- They are few

  journal_apart : AreDue homes empty events → (a : ℕ) → AreApart (messages_got (w.journal a))
  journal_apart due a = got_apart (homes a) blank_agent (w.journal a) (journals_due homes events run due a) (all_noted a)

  gots_few : AreDue homes empty events → (a : ℕ) (ms : List Message) → ((m : Message) → IsSent homes w m → IsTo homes a m → Contains ms m) → entries_in is_got (w.journal a) ≤ length ms
  gots_few due a ms all =
      let inside : All (Contains ms) (messages_got (w.journal a)) = All-weaker (IsFor homes w a) (Contains ms) (λ m f. all m f.sent f.addressed) (messages_got (w.journal a)) (all_for_agent a) in
      omega (arith, apart_few ms (messages_got (w.journal a)) inside (journal_apart due a), all_got (w.journal a))

  ---- Those of several agents

  got_among : List ℕ → List Message
  got_among ns = flat_map (λ a. messages_got (w.journal a)) ns

  -- for one of these agents
  IsForOne : List ℕ → Message → Type 0
  IsForOne ns m = (a : ℕ) × Contains ns a × IsFor homes w a m

  all_among : (ns : List ℕ) → All (IsForOne ns) (got_among ns)
  unfolding got_among IsForOne
  all_among [] = All-nil (IsForOne [])
  all_among (n ∷ ns) =
      All-append (IsForOne (n ∷ ns)) (messages_got (w.journal n)) (got_among ns)
      (All-weaker (IsFor homes w n) (IsForOne (n ∷ ns)) (λ m f. (n, Contains-append_left (n ∷ []) ns n (Contains-push [] n), f)) (messages_got (w.journal n)) (all_for_agent n))
      (All-weaker (IsForOne ns) (IsForOne (n ∷ ns)) (λ m f. (f.0, Contains-append_right (n ∷ []) ns f.0 f.1, f.2)) (got_among ns) (all_among ns))

  -- what is for one agent isn't for another
  for_others : (n : ℕ) (ns : List ℕ) (m x : Message) → IsAbsent n ns → IsFor homes w n m → IsForOne ns x → Differs m x
  unfolding IsForOne
  for_others n ns m x absent f g same =
      let name : (homes n).name ≡ (homes g.0).name = sym f.addressed ∙ (ap (λ (z : Message). addressee (identity z)) same ∙ g.2.addressed) in
      let one : n ≡ g.0 = agents_same homes (given_in t routes) w fair n g.0 f.agent g.2.agent name in
      All-contains (λ b. b ≢ n) ns g.0 absent g.1 (sym one)

  among_apart : AreDue homes empty events → (ns : List ℕ) → AreDistinct ns → AreApart (got_among ns)
  unfolding got_among
  among_apart due [] distinct = tt
  among_apart due (n ∷ ns) distinct =
      let absent : IsAbsent n ns = first_apart n ns distinct in
      let rest : All (IsForOne ns) (got_among ns) = all_among ns in
      apart_append (messages_got (w.journal n)) (got_among ns) (journal_apart due n) (among_apart due ns (rest_apart n ns distinct))
      (All-weaker (IsFor homes w n) (λ m. All (Differs m) (got_among ns)) (λ m f. All-weaker (IsForOne ns) (Differs m) (λ x g. for_others n ns m x absent f g) (got_among ns) rest) (messages_got (w.journal n)) (all_for_agent n))

  among_count : (ns : List ℕ) → length (got_among ns) ≡ entries_among is_got w ns
  unfolding got_among
  among_count [] = refl
  among_count (n ∷ ns) = omega (arith, length-append (messages_got (w.journal n)) (got_among ns), all_got (w.journal n), among_count ns, sum_by-cons (λ a. entries_in is_got (w.journal a)) n ns)

  together_few : AreDue homes empty events → (ns : List ℕ) (ms : List Message) → AreDistinct ns → ((m : Message) → IsSent homes w m → Contains ms m) → entries_among is_got w ns ≤ length ms
  unfolding IsForOne
  together_few due ns ms distinct all =
      let inside : All (Contains ms) (got_among ns) = All-weaker (IsForOne ns) (Contains ms) (λ m f. all m f.2.sent) (got_among ns) (all_among ns) in
      omega (arith, apart_few ms (got_among ns) inside (among_apart due ns distinct), among_count ns)

pub gots_are_few : WhatIsSaidIsItsOwn → HeardWasSent → GotsAreFew
gots_are_few own heard t routes events a sent run due all = gots_few own heard t routes events run due a sent all

pub gots_together_are_few : WhatIsSaidIsItsOwn → HeardWasSent → GotsTogetherAreFew
gots_together_are_few own heard t routes events agents sent run due distinct all = together_few own heard t routes events run due agents sent distinct all
