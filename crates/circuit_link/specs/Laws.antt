-- The laws of a view and its child's record.
use Rattle.std.specs.Prelude.{ℕ, ◌≡◌, Bool, true, false, List, [], ◌∷◌, ◌++◌, Contains, Option, Some, None}
use Rattle.nsi_primitive.specs.Messages.{kind_of, is_request}
use Rattle.nsi_primitive.specs.declared.entry.Entry.{Entry}
use Rattle.nsi_primitive.specs.declared.entry.Input.{Input}
use Rattle.nsi_primitive.specs.declared.kind.Kind.{Kind}
use Rattle.nsi_primitive.specs.declared.message.Body.{Body}
use Rattle.nsi_primitive.specs.declared.message.Exception.{Exception}
use Rattle.nsi_primitive.specs.declared.message.Header.{Header}
use Rattle.nsi_primitive.specs.declared.message.Message.{Message}
use Rattle.nsi_primitive.specs.declared.state.Rsm.{Rsm}
use Rattle.nsi_primitive.specs.declared.state.Side.{Side as Place}
use Rattle.child_connection.specs.Views.{ChildConnection, sent}
use Rattle.child_connection.specs.Asks.{asks}
use Rattle.child_connection.specs.Hearing.{hears}
use Rattle.child_connection.specs.Holding.{is_reservation, IsHeeded, IsAlike}
use Rattle.connection_record.specs.declared.record.Record.{Record}
use Rattle.connection_record.specs.declared.moves.Reply.{Reply}
use Rattle.connection_record.specs.Applied.{moves_if, requested}
use Rattle.connection_record.specs.Courses.{IsAlone, answering, Course}
use Rattle.connection_record.specs.Refusal.{record_refusal}
use Rattle.connection_record.specs.Replies.{reply}
use Rattle.message_retry.specs.Taken.{is_taken}
use Rattle.agent_state.specs.State.{State, AgentState}
use Rattle.provider_agent.specs.Setting.{Setting as ProviderSetting}
use Rattle.provider_agent.specs.Steps.{after as provider_after}
use Rattle.aggregator_agent.specs.Setting.{Setting as AggregatorSetting}
use Rattle.aggregator_agent.specs.Steps.{after as aggregator_after}
use Rattle.circuit_link.specs.Children.{Child, goes_on, MayReach, IsFair}
use Rattle.circuit_link.specs.Headers.{header_of}
use Rattle.circuit_link.specs.Mates.{IsMate}
use Rattle.circuit_link.specs.Serving.{child_of, Serves, IsForeign, IsOwn, LeavesAlone, IsPlaceAfter}
use Rattle.circuit_link.specs.Sides.{Side, standing_of, took_in, OwesTaken}
use Rattle.circuit_link.specs.Links.{InStep, Link, Stands, Waits}

---- What keeps a link

-- a view that waits for no answer asks under a correlation that is new to its child
abbrev pub AskingKeepsLink : Type 0
AskingKeepsLink =
    (k : Kind) (c : ℕ) (x : ChildConnection) (s : Side) → is_reservation k ≡ true → x.reserve_request ≡ None → s.seen c ≡ false → s.said c ≡ [] → Link x s →
    Link (asks k c x) s

-- whatever the record does by itself, where no other machine of it owes an answer under a correlation that the view listens to
abbrev pub CoursesKeepLink : Type 0
CoursesKeepLink =
    (x : ChildConnection) (r q : Record) (out : List Reply) (said : ℕ → List Body) (seen : ℕ → Bool) → Course r q out →
    OwesTaken (record { rec = r; said = said; seen = seen }) → ((c : ℕ) → IsHeeded x c → IsAlone c r) → Link x (record { rec = r; said = said; seen = seen }) →
    Link x (record { rec = q; said = λ c. said c ++ answering c out; seen = seen })

-- the record takes the request that the view waits for
abbrev pub TakingKeepsLink : Type 0
TakingKeepsLink =
    (place : Place) (body : Body) (k : Kind) (c now : ℕ) (x : ChildConnection) (s : Side) → kind_of body ≡ k → is_reservation k ≡ true →
    record_refusal now body s.rec ≡ None → x.reserve_request ≡ Some (sent c k) → s.seen c ≡ false → Link x s →
    Link x (took_in c s (moves_if place (requested now body c s.rec) now s.rec))

-- or refuses it
abbrev pub RefusingKeepsLink : Type 0
RefusingKeepsLink =
    (k : Kind) (c : ℕ) (x : ChildConnection) (s : Side) (id : Option ℕ) (e : Exception) → OwesTaken s → x.reserve_request ≡ Some (sent c k) → s.seen c ≡ false →
    Link x s → Link x (took_in c s (record { rec = s.rec; out = reply c (Body.Error id e) ∷ [] }))

-- the view hears what was said, in any order, and again
abbrev pub HearingKeepsLink : Type 0
HearingKeepsLink = (b : Body) (c : ℕ) (x : ChildConnection) (s : Side) → Contains (s.said c) b → Link x s → Link (hears b c x).view s

---- What is read off a link

-- the table of phases, where nothing is unanswered
abbrev pub LinkedStands : Type 0
LinkedStands = (x : ChildConnection) (s : Side) → Link x s → x.reserve_request ≡ None → Stands x.phase s.rec.rsm

-- and where something is
abbrev pub LinkedWaits : Type 0
LinkedWaits = (c : ℕ) (k : Kind) (x : ChildConnection) (s : Side) → Link x s → x.reserve_request ≡ Some (sent c k) → Waits c k x s

-- the view's committed versions are the record's, or all but the last
abbrev pub LinkedIsInStep : Type 0
LinkedIsInStep = (x : ChildConnection) (s : Side) → Link x s → InStep x.committed (standing_of s.rec).committed

-- while the record commits, the view's commit isn't answered, and what it holds as pending is what is being committed
abbrev pub CommitsWhatWasHeld : Type 0
CommitsWhatWasHeld =
    (x : ChildConnection) (s : Side) → Link x s → s.rec.rsm ≡ Rsm.ReserveCommitting →
    (c : ℕ) × (x.reserve_request ≡ Some (sent c Kind.ReserveCommit)) × (x.pending ≡ (standing_of s.rec).pending)

---- A view and its whole child

-- an entry of the child by which no request of the view is taken
abbrev pub PassingKeepsMate : Type 0
PassingKeepsMate =
    (parent name : List ℕ) (x : ChildConnection) (place : Option ℕ) (d : Child) (input : Input) (records : List Record) (seen : List Header) (out : List Message) → IsFair parent name d →
    Serves name input d records seen out →
    ((m : Message) → input ≡ Input.Got m → is_request m.body ≡ true → is_taken m.header d.seen ≡ false → IsForeign parent name x m × LeavesAlone name place m d) →
    IsMate parent name x place d → IsMate parent name x place (goes_on d records seen out)

-- an entry by which the view's own request is taken, or refused
abbrev pub OwnKeepsMate : Type 0
OwnKeepsMate =
    (parent name : List ℕ) (x : ChildConnection) (place : Option ℕ) (d : Child) (input : Input) (records : List Record) (seen : List Header) (out : List Message) (m : Message) → IsFair parent name d →
    Serves name input d records seen out → input ≡ Input.Got m → IsOwn parent name x m → IsMate parent name x place d →
    (new : Option ℕ) × IsMate parent name x new (goes_on d records seen out) × IsPlaceAfter place new d.records records

-- the view asks under a correlation that is new to the child
abbrev pub AskingKeepsMate : Type 0
AskingKeepsMate =
    (parent child : List ℕ) (d : Child) (k : Kind) (c : ℕ) (x : ChildConnection) (place : Option ℕ) → IsFair parent child d → is_reservation k ≡ true → x.reserve_request ≡ None →
    is_taken (header_of parent child c) d.seen ≡ false → IsMate parent child x place d → IsMate parent child (asks k c x) place d

-- the view hears what may come of the child
abbrev pub HearingKeepsMate : Type 0
HearingKeepsMate =
    (parent child : List ℕ) (d : Child) (b : Body) (c : ℕ) (x : ChildConnection) (place : Option ℕ) → MayReach (header_of parent child c) d.said b → IsMate parent child x place d →
    IsMate parent child (hears b c x).view place d

-- what the view does besides
abbrev pub AlikeKeepsMate : Type 0
AlikeKeepsMate = (parent child : List ℕ) (d : Child) (x y : ChildConnection) (place : Option ℕ) → IsAlike x y → IsMate parent child x place d → IsMate parent child y place d

---- Who is asked

-- each entry of a provider, and of an aggregator, is one of those of an agent that is asked
abbrev pub ProvidersServe : Type 0
ProvidersServe =
    (setting : ProviderSetting) (stp_of : List ℕ → Option ℕ) (e : Entry) (said : List Message) (s : State) →
    Serves setting.name e.input (child_of s said) (provider_after setting stp_of s e).state.records (provider_after setting stp_of s e).state.seen (provider_after setting stp_of s e).out

abbrev pub AggregatorsServe : Type 0
AggregatorsServe =
    (setting : AggregatorSetting) (e : Entry) (said : List Message) (s : AgentState) →
    Serves setting.agent.name e.input (child_of s.base said) (aggregator_after setting s e).state.base.records (aggregator_after setting s e).state.base.seen (aggregator_after setting s e).out
