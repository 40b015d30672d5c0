-- Laws of one entry, where one requester alone asks a provider.
use Rattle.std.specs.Prelude.{◌≡◌, ◌<◌, ℕ, true, false, List, length, Option}
use Rattle.nsi_primitive.specs.Messages.{is_request}
use Rattle.nsi_primitive.specs.declared.ask.Ask.{Ask}
use Rattle.nsi_primitive.specs.declared.entry.Entry.{Entry}
use Rattle.nsi_primitive.specs.declared.entry.Input.{Input}
use Rattle.nsi_primitive.specs.declared.message.Message.{Message}
use Rattle.nsi_primitive.specs.declared.state.Machine.{Machine}
use Rattle.message_retry.specs.Taken.{is_taken}
use Rattle.connection_record.specs.Applied.{waits}
use Rattle.agent_state.specs.State.{AgentState}
use Rattle.provider_agent.specs.Setting.{Setting}
use Rattle.provider_agent.specs.State.{State, record_at}
use Rattle.provider_agent.specs.Steps.{may_take, after}
use Rattle.provider_agent.specs.Good.{IsGood}
use Rattle.requester_agent.specs.Setting.{Setting as RequesterSetting}
use Rattle.requester_agent.specs.Steps.{may_take as may_hear, after as hears}
use Rattle.sole_requester.specs.Sole.{IsReceived, IsWorked, HasAskedAs, HasHeardAs}

-- a request that is new makes one work wait at most, and that only where the request or an answer names its connection
abbrev pub RequestsWaitWhereNamed : Type 0
RequestsWaitWhereNamed = (setting : Setting) (stp_of : List ℕ → Option ℕ) (s : State) (second : ℕ) (m : Message) → let e : Entry = record { second = second; input = Input.Got m } in
    may_take s e ≡ true → is_request m.body ≡ true → is_taken m.header s.seen ≡ false → IsReceived s m (after setting stp_of s e).state (after setting stp_of s e).out

-- work that waits is done, and no other waits for it
abbrev pub WorkEndsWaiting : Type 0
WorkEndsWaiting = (setting : Setting) (stp_of : List ℕ → Option ℕ) (s : State) (second n : ℕ) (machine : Machine) → let e : Entry = record { second = second; input = Input.Work n machine } in
    IsGood setting s → may_take s e ≡ true → n < length s.records → waits machine (record_at n s.records) ≡ true → IsWorked s (after setting stp_of s e).state (after setting stp_of s e).out

-- each request that an ask makes a requester send has an id of its own
abbrev pub AsksSendFreshRequests : Type 0
AsksSendFreshRequests = (set : RequesterSetting) (s : AgentState) (second number : ℕ) (ask : Ask) → let e : Entry = record { second = second; input = Input.Ask number ask } in
    may_hear s e ≡ true → HasAskedAs 1 set s (hears set s e)

-- a message makes it send nothing under an id of its own
abbrev pub MessagesSendNothing : Type 0
MessagesSendNothing = (set : RequesterSetting) (s : AgentState) (second : ℕ) (m : Message) → let e : Entry = record { second = second; input = Input.Got m } in
    may_hear s e ≡ true → HasHeardAs 1 s (hears set s e)
