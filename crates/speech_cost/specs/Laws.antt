-- The laws of what agents say against the requests that they take.
use Rattle.std.specs.Prelude.{◌≡◌, ◌≤◌, ◌+◌, ◌*◌, ℕ, List, Option, length}
use Rattle.nsi_primitive.specs.declared.entry.Entry.{Entry}
use Rattle.agent_state.specs.State.{State, AgentState}
use Rattle.provider_agent.specs.Setting.{Setting}
use Rattle.connection_record.specs.Speaking.{tally}
use Rattle.provider_agent.specs.Steps.{after}
use Rattle.aggregator_agent.specs.Setting.{Setting as AggregatorSetting}
use Rattle.aggregator_agent.specs.Steps.{after as aggregator_after}
use Rattle.nsi_agent.specs.Homes.{Home, provides, aggregates}
use Rattle.nsi_agent.specs.Told.{told}
use Rattle.speech_cost.specs.Changes.{says_change, is_of_change, hearers, all_hearers, KnowTheirOwn, AlwaysKnowTheirOwn, IsToldByHearing}
use Rattle.speech_cost.specs.Costs.{messages_cost, left_by, says_own, own_left_by, worth, IsPaid, IsPaidByOwn, says_late, asks, IsLateByAsking}

-- what an entry makes a provider say is paid
abbrev pub EntriesArePaid : Type 0
EntriesArePaid = (setting : Setting) (stp_of : List ℕ → Option ℕ) (s : State) (e : Entry) → IsPaid s (after setting stp_of s e).state (after setting stp_of s e).out

-- so all that a provider has said, and may still say, is paid by the requests that it has taken
abbrev pub ProvidersSayLittle : Type 0
ProvidersSayLittle =
    (h : Home) (setting : Setting) (stp_of : List ℕ → Option ℕ) (es : List Entry) → h.role ≡ provides setting stp_of →
    messages_cost (told h es).out + left_by (told h es).state.base.now (told h es).state.base.records ≤ worth * length (told h es).state.base.seen

-- what an entry makes an aggregator say by itself is paid
abbrev pub OwnEntriesArePaid : Type 0
OwnEntriesArePaid = (setting : AggregatorSetting) (s : AgentState) (e : Entry) → IsPaidByOwn s (aggregator_after setting s e).state (aggregator_after setting s e).out

-- so all that an aggregator has said by itself, and may still say, is paid by the requests that it has taken
abbrev pub AggregatorsSayLittle : Type 0
AggregatorsSayLittle =
    (h : Home) (setting : AggregatorSetting) (es : List Entry) → h.role ≡ aggregates setting →
    tally says_own (told h es).out + (own_left_by (told h es).state.base.records + length (told h es).state.queries) ≤ worth * length (told h es).state.base.seen

-- what an entry makes an aggregator tell to be late was asked, and is told once
abbrev pub LatesWereAsked : Type 0
LatesWereAsked = (setting : AggregatorSetting) (s : AgentState) (e : Entry) → IsLateByAsking s (aggregator_after setting s e).state (aggregator_after setting s e).out

-- so an aggregator tells of no more late requests than it has asked
abbrev pub LatesAreFew : Type 0
LatesAreFew = (h : Home) (setting : AggregatorSetting) (es : List Entry) → h.role ≡ aggregates setting → tally says_late (told h es).out ≤ tally asks (told h es).out

-- an entry makes an aggregator tell no more changes of the data plane than there are views that hear of one from their child
abbrev pub EntriesPassChangesOn : Type 0
EntriesPassChangesOn = (setting : AggregatorSetting) (s : AgentState) (e : Entry) → tally says_change (aggregator_after setting s e).out ≤ hearers s e.input

-- so do all entries
abbrev pub ChangesArePassedOn : Type 0
ChangesArePassedOn = (h : Home) (setting : AggregatorSetting) (es : List Entry) → h.role ≡ aggregates setting → tally says_change (told h es).out ≤ all_hearers h es

-- where no two views of one child know one connection, a change is told once for one that is heard for the first time
abbrev pub EntriesTellWhatIsHeard : Type 0
EntriesTellWhatIsHeard =
    (setting : AggregatorSetting) (s : AgentState) (e : Entry) → KnowTheirOwn s →
    IsToldByHearing s (aggregator_after setting s e).state (aggregator_after setting s e).out

-- so an aggregator tells no more changes than it has heard
abbrev pub ChangesWereHeard : Type 0
ChangesWereHeard =
    (h : Home) (setting : AggregatorSetting) (es : List Entry) → h.role ≡ aggregates setting → AlwaysKnowTheirOwn h es →
    tally says_change (told h es).out ≤ tally is_of_change (told h es).state.base.heard
