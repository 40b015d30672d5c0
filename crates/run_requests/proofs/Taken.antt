-- The requests that agents take were said, each to the one agent that takes it, once.
use Rattle.std.proofs.Common.{◌≡◌, ◌≢◌, ◌≤◌, ◌<◌, ◌∙◌, ℕ, true, List, [], ◌∷◌, Some, bytes_eq, sym, ap, subst, arith, length, flat_map}
use Rattle.std.specs.List.{All, Contains}
use Rattle.std.proofs.lemmas.Iterator.Adapters.{position_from-zero}
use Rattle.std.proofs.lemmas.List.Quantifiers.{position-Some}
use Rattle.std.proofs.lemmas.List.Elements.{All-nil, All-head, All-tail, All-append, All-contains, All-weaker, Contains-append_left, Contains-append_right, Contains-push}
use Rattle.nsi_primitive.specs.Messages.{identity, addressee, is_request}
use Rattle.nsi_primitive.specs.declared.entry.Event.{Event}
use Rattle.nsi_primitive.specs.declared.message.Message.{Message}
use Rattle.stp_topology.specs.Laws.{IsWellFormed}
use Rattle.stp_topology.specs.Network.{agent_of}
use Rattle.stp_topology.specs.declared.network.Network.{Network}
use Rattle.nsi_agent.specs.Homes.{Routes, home_in}
use Rattle.nsi_agent.specs.Told.{told}
use Rattle.agent_node.specs.Openings.{agents, nothing_planned}
use Rattle.nsi_world.specs.Worlds.{Homes, World, empty, synced_part, IsAgent, IsSent, IsTo}
use Rattle.nsi_world.specs.Runs.{world_after, AreAllowed}
use Rattle.nsi_world.specs.Heard.{IsHeard, IsFair, WasSent}
use Rattle.nsi_world.specs.Laws.{HeardWasSent}
use Rattle.nsi_world.specs.Nets.{AreDistinct}
use Rattle.nsi_world.proofs.Names.{home_leads}
use Rattle.nsi_world.proofs.NetSteps.{IsAbsent, first_apart, rest_apart}
use Rattle.nsi_world.proofs.Opening.{numbers_of, opening_stands}
use Rattle.settled_play.proofs.Links.{agent_there}
use Rattle.run_growth.proofs.Grown.{says_more}
use Rattle.run_growth.proofs.Sent.{given_in, agents_same, front}
use Rattle.request_worth.specs.Worth.{WasBrought, HaveOwnHeaders, asks}
use Rattle.request_worth.proofs.Taken.{requests_are_taken_once}
use Rattle.run_changes.specs.Told.{AreApart}
use Rattle.run_changes.proofs.Few.{all_agents}
use Rattle.run_changes.proofs.Lists.{Differs, apart_append, filter_contains, flat_contains}
use Rattle.run_changes.proofs.Sums.{sum_flat}
use Rattle.run_changes.proofs.Within.{costs_within}
use Rattle.run_requests.specs.Requests.{said_by, taken_by, worth_said, worth_taken}
use Rattle.run_requests.specs.Laws.{TakenWereSaid}

---- The agents of a topology

pub is_agent : (t : Network) (routes : Routes) (a : ℕ) → IsWellFormed t → a < length t.agents → IsAgent (home_in t routes) a
unfolding home_in
is_agent t routes a formed lt = formed.agents a lt

pub agents_distinct : (t : Network) (routes : Routes) → IsWellFormed t → AreDistinct (agents t)
agents_distinct t routes formed = subst AreDistinct (numbers_of t nothing_planned (agents t)) (opening_stands t routes nothing_planned formed).distinct

pub every_agent : (t : Network) (routes : Routes) (a : ℕ) → IsAgent (home_in t routes) a → Contains (agents t) a
every_agent t routes a is = agent_there t a (position-Some (bytes_eq name) t.agents a [] (position_from-zero (bytes_eq name) t.agents ∙ leads)).0
  where
    name : List ℕ
    name = (home_in t routes a).name

    leads : agent_of t name ≡ Some a
    leads = ap (λ f. f name) (sym (home_leads t routes a)) ∙ is

---- What is taken

own_apart : (ms : List Message) → HaveOwnHeaders ms → AreApart ms
own_apart [] own = tt
own_apart (m ∷ ms) own = (All-weaker (λ (n : Message). n.header ≢ m.header) (Differs m) (λ n differ same. differ (ap (λ (z : Message). z.header) (sym same))) ms own.0, own_apart ms own.1)

-- a request that was sent to an agent
record IsFor (homes : Homes) (w : World) (a : ℕ) (m : Message) : Type 0 where
  pub sent : IsSent homes w m
  pub addressed : IsTo homes a m
  pub asks : is_request m.body ≡ true

module _ (heard : HeardWasSent) (t : Network) (routes : Routes) (events : List Event) (formed : IsWellFormed t) (run : AreAllowed (home_in t routes) empty events) where
  abbrev homes : Homes
  homes = home_in t routes

  abbrev w : World
  w = world_after empty events

  fair : IsFair homes w
  fair = heard homes events run

  brought_for : (a : ℕ) (m : Message) → WasBrought (w.journal a) m → IsFor homes w a m
  brought_for a m b =
      let was : WasSent homes w a b.entry.input = (All-contains (IsHeard homes w a) (w.journal a) b.entry (fair.heard a) b.there).sent in
      let sent : IsSent homes w m × IsTo homes a m = subst (WasSent homes w a) b.got was in
      record { sent = sent.0; addressed = sent.1; asks = b.asks }

  all_for : (a : ℕ) → All (IsFor homes w a) (taken_by homes w a)
  all_for a = All-weaker (WasBrought (w.journal a)) (IsFor homes w a) (brought_for a) (taken_by homes w a) (requests_are_taken_once (homes a) (w.journal a)).brought

  taken_among : List ℕ → List Message
  taken_among ns = flat_map (taken_by homes w) ns

  -- for one of these agents
  IsForOne : List ℕ → Message → Type 0
  IsForOne ns m = (a : ℕ) × Contains ns a × IsFor homes w a m

  all_among : (ns : List ℕ) → All (IsForOne ns) (taken_among ns)
  unfolding taken_among IsForOne
  all_among [] = All-nil (IsForOne [])
  all_among (n ∷ ns) =
      All-append (IsForOne (n ∷ ns)) (taken_by homes w n) (taken_among ns)
      (All-weaker (IsFor homes w n) (IsForOne (n ∷ ns)) (λ m f. (n, Contains-append_left (n ∷ []) ns n (Contains-push [] n), f)) (taken_by homes w n) (all_for n))
      (All-weaker (IsForOne ns) (IsForOne (n ∷ ns)) (λ m f. (f.0, Contains-append_right (n ∷ []) ns f.0 f.1, f.2)) (taken_among ns) (all_among ns))

  -- what is for one agent isn't for another
  for_others : (n : ℕ) (ns : List ℕ) (m x : Message) → IsAgent homes n → All (IsAgent homes) ns → IsAbsent n ns → IsFor homes w n m → IsForOne ns x → Differs m x
  unfolding IsForOne
  for_others n ns m x is are absent f g same =
      let name : (homes n).name ≡ (homes g.0).name = sym f.addressed ∙ (ap (λ (z : Message). addressee (identity z)) same ∙ g.2.addressed) in
      let one : n ≡ g.0 = agents_same homes (given_in t routes) w fair n g.0 is (All-contains (IsAgent homes) ns g.0 are g.1) name in
      All-contains (λ b. b ≢ n) ns g.0 absent g.1 (sym one)

  among_apart : (ns : List ℕ) → All (IsAgent homes) ns → AreDistinct ns → AreApart (taken_among ns)
  unfolding taken_among
  among_apart [] are distinct = tt
  among_apart (n ∷ ns) are distinct =
      let absent : IsAbsent n ns = first_apart n ns distinct in
      let others : All (IsAgent homes) ns = All-tail (IsAgent homes) n ns are in
      let is : IsAgent homes n = All-head (IsAgent homes) n ns are in
      apart_append (taken_by homes w n) (taken_among ns) (own_apart (taken_by homes w n) (requests_are_taken_once (homes n) (w.journal n)).apart) (among_apart ns others (rest_apart n ns distinct))
      (All-weaker (IsFor homes w n) (λ m. All (Differs m) (taken_among ns)) (λ m f. All-weaker (IsForOne ns) (Differs m) (λ x g. for_others n ns m x is others absent f g) (taken_among ns) (all_among ns))
      (taken_by homes w n) (all_for n))

  -- it is among what agents have said
  said_there : (m : Message) → IsSent homes w m → is_request m.body ≡ true → Contains (flat_map (said_by homes w) (agents t)) m
  said_there m (c, said) is =
      flat_contains (said_by homes w) (agents t) c m (every_agent t routes c said.0)
      (filter_contains asks (told (homes c) (w.journal c)).out m is (says_more (homes c) m (synced_part w c) (w.journal c) (front homes (given_in t routes) w fair (w.synced c) c) said.1))

  were_said : (fee : Message → ℕ) → worth_taken fee homes w (agents t) ≤ worth_said fee homes w (agents t)
  unfolding taken_among IsForOne
  were_said fee =
      let inside : All (Contains (flat_map (said_by homes w) (agents t))) (taken_among (agents t)) =
      All-weaker (IsForOne (agents t)) (Contains (flat_map (said_by homes w) (agents t))) (λ m f. said_there m f.2.sent f.2.asks) (taken_among (agents t)) (all_among (agents t))
      in
      omega (
        arith,
        costs_within fee (taken_among (agents t)) (flat_map (said_by homes w) (agents t)) (among_apart (agents t) (all_agents t routes formed) (agents_distinct t routes formed)) inside,
        sum_flat fee (taken_by homes w) (agents t),
        sum_flat fee (said_by homes w) (agents t),
      )

pub taken_were_said : HeardWasSent → TakenWereSaid
taken_were_said heard t routes events fee formed run = were_said heard t routes events formed run fee
