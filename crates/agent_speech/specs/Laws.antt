-- The laws of what agents say.
use Rattle.std.specs.Prelude.{◌≡◌, ◌≤◌, ◌<◌, ℕ, List, true, false, length}
use Rattle.std.specs.List.{Contains}
use Rattle.nsi_primitive.specs.Messages.{is_request}
use Rattle.nsi_primitive.specs.declared.entry.Entry.{Entry}
use Rattle.nsi_primitive.specs.declared.entry.Input.{Input}
use Rattle.nsi_primitive.specs.declared.message.Header.{Header}
use Rattle.nsi_primitive.specs.declared.message.Message.{Message}
use Rattle.nsi_primitive.specs.declared.state.Rsm.{Rsm}
use Rattle.message_retry.specs.Taken.{is_taken}
use Rattle.connection_record.specs.declared.record.Record.{Record}
use Rattle.connection_record.specs.Replies.{id_or}
use Rattle.connection_record.specs.Speaking.{tally, is_answering, owed}
use Rattle.agent_state.specs.State.{AgentState, blank_agent, record_at}
use Rattle.nsi_agent.specs.Homes.{Role, provides, aggregates, requests, Home}
use Rattle.nsi_agent.specs.Steps.{after}
use Rattle.nsi_agent.specs.Told.{told}
use Rattle.nsi_agent.specs.Said.{name_in, drawer_of}
use Rattle.agent_speech.specs.Owing.{answers_to, SaysWhatItOwes, HasSaidOnce}
use Rattle.agent_speech.specs.Unanswered.{held, HoldsWhatItAsks, HasHeld, AreEven}

-- what an entry makes an agent say was owed, or is of a request that it takes
abbrev pub EntriesSayWhatIsOwed : Type 0
EntriesSayWhatIsOwed = (h : Home) (s : AgentState) (e : Entry) → SaysWhatItOwes (name_in h.role) (drawer_of h.role) s (after h s e).state (after h s e).out

-- so nothing is said twice, whatever entries an agent has taken
abbrev pub NothingIsSaidTwice : Type 0
NothingIsSaidTwice = (h : Home) (es : List Entry) → HasSaidOnce (name_in h.role) (drawer_of h.role) (told h es).state (told h es).out

-- at an aggregator records and the views of their children stand side by side
abbrev pub IsEven : Role → AgentState → Type 0
IsEven (provides setting stp_of) s = Unit {0}
IsEven (aggregates setting) s = AreEven s
IsEven (requests setting) s = Unit {0}

abbrev pub BlankIsEven : Type 0
BlankIsEven = (h : Home) → IsEven h.role blank_agent

abbrev pub EntriesKeepEven : Type 0
EntriesKeepEven = (h : Home) (s : AgentState) (e : Entry) → IsEven h.role s → IsEven h.role (after h s e).state

-- an entry leaves each request of the reservation machine with the view that holds it as unanswered
abbrev pub EntriesHoldWhatIsAsked : Type 0
EntriesHoldWhatIsAsked = (h : Home) (s : AgentState) (e : Entry) → IsEven h.role s → HoldsWhatItAsks s (after h s e).state e.input (after h s e).out

-- so what was asked is held, or was answered, whatever entries an agent has taken
abbrev pub WhatIsAskedIsHeld : Type 0
WhatIsAskedIsHeld = (h : Home) (es : List Entry) → HasHeld es (told h es).state (told h es).out

-- no request of the reservation machine is held by two views
abbrev pub OneHoldsIt : Type 0
OneHoldsIt = (h : Home) (es : List Entry) (p : List ℕ) (c : ℕ) → held p c (told h es).state ≤ 1

---- Answers

-- one of the entries takes a request with that header
pub record RequestCame (g : Header) (es : List Entry) : Type 0 where
  pub second : ℕ
  pub message : Message
  pub there : Contains es (record { second = second; input = Input.Got message })
  pub request : is_request message.body ≡ true
  pub header : message.header ≡ g

-- what answers stands under the header of a request that came
abbrev pub AnswersWereAsked : Type 0
AnswersWereAsked = (h : Home) (es : List Entry) (m : Message) → Contains (told h es).out m → is_answering m.body ≡ true → RequestCame m.header es

---- Records

-- a header under which one agent asks another
abbrev pub header_to : (requester provider : List ℕ) → ℕ → Header
header_to requester provider c = record { correlation = c; requester = requester; provider = provider }

-- the records of an agent after entries
abbrev pub records_after : Home → List Entry → List Record
records_after h es = (told h es).state.base.records

-- no two records of an agent have one id
abbrev pub IdsAreApart : Type 0
IdsAreApart =
    (h : Home) (es : List Entry) (n k : ℕ) → n < length (records_after h es) → k < length (records_after h es) →
    (record_at k (records_after h es)).id ≡ (record_at n (records_after h es)).id → n ≡ k

-- under a header that no request had nothing was answered, and no record of who asks so owes an answer
abbrev pub NothingUnasked : Type 0
NothingUnasked =
    (h : Home) (es : List Entry) (requester : List ℕ) (c : ℕ) →
    is_taken (header_to requester (name_in h.role) c) (told h es).state.base.seen ≡ false →
    ((kind : ℕ) → tally (answers_to (header_to requester (name_in h.role) c) kind) (told h es).out ≡ 0)
    × ((n kind : ℕ) → (record_at n (records_after h es)).owner ≡ requester → owed c kind (record_at n (records_after h es)) ≡ 0)

-- what a record holds was reserved by a request of its owner that was taken
abbrev pub HoldsWereAsked : Type 0
HoldsWereAsked =
    (h : Home) (es : List Entry) (n : ℕ) → let r : Record = record_at n (records_after h es) in
    r.rsm ≡ Rsm.ReserveHeld → is_taken (header_to r.owner (name_in h.role) (id_or r.attempt)) (told h es).state.base.seen ≡ true
