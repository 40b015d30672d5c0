-- The laws of a parent's views and one child.
use Rattle.std.specs.Prelude.{ℕ, ◌≡◌, ◌⊎◌, true, false, List, [], ◌++◌, length, Contains}
use Rattle.nsi_primitive.specs.Messages.{is_request}
use Rattle.nsi_primitive.specs.declared.entry.Entry.{Entry}
use Rattle.nsi_primitive.specs.declared.entry.Input.{Input}
use Rattle.nsi_primitive.specs.declared.message.Header.{Header}
use Rattle.nsi_primitive.specs.declared.message.Message.{Message}
use Rattle.message_retry.specs.Taken.{is_taken}
use Rattle.child_connection.specs.Views.{ChildConnection}
use Rattle.child_connection.specs.Holding.{IsAlike}
use Rattle.agent_state.specs.State.{AgentState}
use Rattle.requester_agent.specs.Setting.{Setting as RequesterSetting}
use Rattle.requester_agent.specs.Steps.{after as requester_after}
use Rattle.aggregator_agent.specs.Setting.{Setting as AggregatorSetting}
use Rattle.aggregator_agent.specs.Steps.{after as aggregator_after}
use Rattle.connection_record.specs.declared.record.Record.{Record}
use Rattle.connection_record.specs.Speaking.{is_answering}
use Rattle.circuit_link.specs.Children.{Child, goes_on, MayReach, IsFair}
use Rattle.circuit_link.specs.Headers.{header_of}
use Rattle.circuit_link.specs.Serving.{Serves}
use Rattle.circuit_pairs.specs.Pairs.{IsPair, IsOnce, IsFresh}
use Rattle.circuit_pairs.specs.Minding.{Minds, no_child, view_in, slot}

-- two views are one, or they aren't
abbrev pub CanTellApart : Type 0 → Type 0
CanTellApart I = (i j : I) → (i ≡ j) ⊎ (i ≡ j → ⊥)

-- an entry of the child, where a request that comes in the parent's name is one that the parent has asked
abbrev pub ServingKeepsPair : Type 0 → Type 0
ServingKeepsPair I =
    CanTellApart I → (parent name : List ℕ) (xs : I → ChildConnection) (asked : List Message) (d : Child) (input : Input) (records : List Record) (seen : List Header) (out : List Message) →
    IsFair parent name d → IsOnce parent asked → Serves name input d records seen out →
    ((m : Message) → input ≡ Input.Got m → is_request m.body ≡ true → m.header.requester ≡ parent → Contains asked m) → IsPair I parent name xs asked d →
    IsPair I parent name xs asked (goes_on d records seen out)

-- an entry of the parent, where an answer that comes of the child is one that the child has said, or rows, and what is asked is asked under a new correlation
abbrev pub MindingKeepsPair : Type 0 → Type 0
MindingKeepsPair I =
    CanTellApart I → (parent child : List ℕ) (asked : List Message) (d : Child) (c : ℕ) (input : Input) (xs ys : I → ChildConnection) (more : List Message) →
    IsFair parent child d → IsOnce parent asked → is_taken (header_of parent child c) d.seen ≡ false →
    ((m : Message) → Contains asked m → is_request m.body ≡ true → m.header.correlation ≡ c → ⊥) →
    ((m : Message) → input ≡ Input.Got m → is_answering m.body ≡ true → m.header.provider ≡ child → MayReach (header_of parent child m.header.correlation) d.said m.body) →
    Minds I parent child c input xs ys more → IsPair I parent child xs asked d → IsPair I parent child ys (asked ++ more) d

-- a child that has taken nothing
abbrev pub no_past : Child
no_past = record { records = []; seen = []; said = [] }

-- before anything is said
abbrev pub NothingIsPair : Type 0 → Type 0
NothingIsPair I = (parent child : List ℕ) (xs : I → ChildConnection) → ((i : I) → IsAlike (no_child child) (xs i)) → IsPair I parent child xs [] no_past

---- Parents

-- an entry of a requester, where no id from its next on was asked under, or is taken
abbrev pub RequestersKeepPair : Type 0
RequestersKeepPair =
    (setting : RequesterSetting) (d : Child) (asked : List Message) (s : AgentState) (e : Entry) → IsFair setting.name setting.provider d → IsOnce setting.name asked →
    IsFresh setting.name setting.provider setting.number d s.base.next asked →
    ((m : Message) → e.input ≡ Input.Got m → is_answering m.body ≡ true → m.header.provider ≡ setting.provider → MayReach (header_of setting.name setting.provider m.header.correlation) d.said m.body) →
    IsPair ℕ setting.name setting.provider (view_in setting.provider s.views) asked d →
    IsPair ℕ setting.name setting.provider (view_in setting.provider (requester_after setting s e).state.views) (asked ++ (requester_after setting s e).out) d

-- an entry of an aggregator that has as many lists of views as records
abbrev pub AggregatorsKeepPair : Type 0
AggregatorsKeepPair =
    (setting : AggregatorSetting) (child : List ℕ) (d : Child) (asked : List Message) (s : AgentState) (e : Entry) → IsFair setting.agent.name child d → IsOnce setting.agent.name asked →
    length s.children ≡ length s.base.records → IsFresh setting.agent.name child setting.agent.number d s.base.next asked →
    ((m : Message) → e.input ≡ Input.Got m → is_answering m.body ≡ true → m.header.provider ≡ child → MayReach (header_of setting.agent.name child m.header.correlation) d.said m.body) →
    IsPair (ℕ × ℕ) setting.agent.name child (slot child s.children) asked d →
    IsPair (ℕ × ℕ) setting.agent.name child (slot child (aggregator_after setting s e).state.children) (asked ++ (aggregator_after setting s e).out) d
