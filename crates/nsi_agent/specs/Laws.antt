-- The laws of an agent of any kind.
use Rattle.std.specs.Prelude.{◌≡◌, ◌≢◌, ◌<◌, ◌≤◌, ◌+◌, ◌++◌, ◌↔◌, ℕ, true, false, List, [], ◌∷◌, Some, None}
use Rattle.std.specs.List.{All, Contains}
use Rattle.nsi_primitive.specs.Messages.{is_request}
use Rattle.nsi_primitive.specs.Printable.{IsPrintableInput, IsPrintableEntry}
use Rattle.nsi_primitive.specs.declared.entry.Entry.{Entry}
use Rattle.nsi_primitive.specs.declared.entry.Input.{Input}
use Rattle.nsi_primitive.specs.declared.message.Message.{Message}
use Rattle.nsi_primitive.specs.declared.state.Machine.{Machine}
use Rattle.stp_topology.specs.declared.network.Network.{Network}
use Rattle.stp_topology.specs.Network.{name_of}
use Rattle.message_retry.specs.Retry.{without}
use Rattle.agent_state.specs.State.{AgentState, AgentStepped, blank_agent, stays}
use Rattle.agent_state.specs.Entries.{most_entries}
use Rattle.provider_agent.specs.Good.{IsGood as IsGoodProvider}
use Rattle.aggregator_agent.specs.Good.{IsGood as IsGoodAggregator}
use Rattle.aggregator_agent.specs.Laws.{AreDrawn}
use Rattle.requester_agent.specs.Good.{IsGood as IsGoodRequester}
use Rattle.nsi_agent.specs.Asked.{IsAskedBy}
use Rattle.nsi_agent.specs.Homes.{Role, provides, aggregates, requests, Home, Routes, AreRoutes, home_in}
use Rattle.nsi_agent.specs.Steps.{after, may_take_as, is_new, work_of, works_left}
use Rattle.nsi_agent.specs.Told.{behind, goes_on, told, WasGot}
use Rattle.nsi_agent.specs.Said.{name_in, drawer_of, HasAsked, Asks, IsSaid, IsForIn}

---- What waits, and the clock

-- what waits still: an acknowledgement takes the first message of its identity out
abbrev pub left_waiting : Input → List Message → List Message
left_waiting (Input.Acked i) ms = without i ms
left_waiting _ ms = ms

-- what an entry that is taken makes of what waits, of the clock, and of the count of entries: what it causes waits behind the rest
pub record IsEntered (s : AgentState) (e : Entry) (x : AgentStepped) : Type 0 where
  pub taken : x.state.base.taken ≡ s.base.taken + 1
  pub waiting : x.state.base.waiting ≡ left_waiting e.input s.base.waiting ++ x.out
  pub now : x.state.base.now ≡ e.second

-- an entry that may not be taken changes nothing, and causes nothing
abbrev pub EntriesAreTaken : Type 0
EntriesAreTaken = (h : Home) (s : AgentState) (e : Entry) → may_take_as h.role s e ≡ true → IsEntered s e (after h s e)

abbrev pub OthersAreLeftOut : Type 0
OthersAreLeftOut = (h : Home) (s : AgentState) (e : Entry) → may_take_as h.role s e ≡ false → after h s e ≡ stays s

---- What is always true

-- what is true of an agent of each kind in every state
abbrev pub IsGood : Role → AgentState → Type 0
IsGood (provides setting stp_of) s = IsGoodProvider setting s.base
IsGood (aggregates setting) s = IsGoodAggregator s
IsGood (requests setting) s = IsGoodRequester s

-- it is true of one that has taken nothing, and stays true
abbrev pub BlankIsGood : Type 0
BlankIsGood = (h : Home) → IsGood h.role blank_agent

abbrev pub EntriesKeepGood : Type 0
EntriesKeepGood = (h : Home) (s : AgentState) (e : Entry) → IsPrintableInput e.input → IsGood h.role s → IsGood h.role (after h s e).state

---- Work

-- a machine's work, now
abbrev pub work_now : AgentState → ℕ × Machine → Entry
work_now s w = record { second = s.base.now; input = Input.Work w.0 w.1 }

-- the first work that waits takes one off
abbrev pub WorkIsDone : Type 0
WorkIsDone =
    (h : Home) (s : AgentState) (w : ℕ × Machine) → IsGood h.role s → s.base.taken < most_entries → work_of h.role s ≡ Some w →
    works_left h.role (after h s (work_now s w)).state + 1 ≡ works_left h.role s

-- none waits exactly where none is left
abbrev pub NoneIsLeft : Type 0
NoneIsLeft = (h : Home) (s : AgentState) → (work_of h.role s ≡ None) ↔ (works_left h.role s ≡ 0)

---- Entries one after another

-- of two lists of entries the second goes on from the state that the first one leaves
abbrev pub TellingIsInParts : Type 0
TellingIsInParts =
    (h : Home) (s : AgentState) (es fs : List Entry) →
    goes_on h s (es ++ fs) ≡ behind (goes_on h s es).out (goes_on h (goes_on h s es).state fs)

-- no clock goes back
abbrev pub ClocksRise : Type 0
ClocksRise = (h : Home) (s : AgentState) (e : Entry) → s.base.now ≤ (after h s e).state.base.now

-- what waits was caused
abbrev pub WaitingWasCaused : Type 0
WaitingWasCaused = (h : Home) (es : List Entry) → All (Contains (told h es).out) (told h es).state.base.waiting

-- a message that isn't new was got
abbrev pub SeenWasGot : Type 0
SeenWasGot = (h : Home) (es : List Entry) (m : Message) → is_new h (told h es).state m ≡ false → WasGot m es

-- Where what comes is for the agent, each message that it sends is its own and goes along a link: a request to one whom it asks,
-- all else to one of whom it has got a request.
abbrev pub WhatIsSaidIsItsOwn : Type 0
WhatIsSaidIsItsOwn =
    (h : Home) (es : List Entry) → All (IsForIn (name_in h.role)) es →
    All (IsSaid (name_in h.role) (Asks h.role) (HasAsked es)) (told h es).out

-- it speaks under its name in the topology, and draws ids with its number
abbrev pub IsNamedAsDeclared : Type 0
IsNamedAsDeclared =
    (t : Network) (routes : Routes) (a : ℕ) →
    (name_in (home_in t routes a).role ≡ (home_in t routes a).name) × (drawer_of (home_in t routes a).role ≡ (home_in t routes a).number)

-- whom an agent asks by the least paths of the topology is one of those
abbrev pub AsksGoAlongLinks : Type 0
AsksGoAlongLinks =
    (t : Network) (routes : Routes) (a : ℕ) (name : List ℕ) → AreRoutes t routes → Asks (home_in t routes a).role name →
    (b : ℕ) × IsAskedBy t a b × (name_of t b ≡ name)

---- Requests

-- each request that an entry causes has an id of its own
abbrev pub RequestsHaveIds : Type 0
RequestsHaveIds =
    (h : Home) (s : AgentState) (e : Entry) → IsPrintableInput e.input → IsGood h.role s →
    AreDrawn (drawer_of h.role) s.base.next (after h s e).out (after h s e).state.base.next

-- no two requests among messages have one correlationId
unfoldable pub AreApart : List Message → Type 0
AreApart [] = Unit {0}
AreApart (m ∷ ms) =
    (is_request m.body ≡ true → All (λ n. is_request n.body ≡ true → n.header.correlation ≢ m.header.correlation) ms) × AreApart ms

-- no two requests that an agent causes have one correlationId
abbrev pub RequestsAreDrawnOnce : Type 0
RequestsAreDrawnOnce = (h : Home) (es : List Entry) → All IsPrintableEntry es → AreApart (told h es).out
