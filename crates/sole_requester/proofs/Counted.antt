-- Each entry, counted.
use Rattle.std.proofs.Common.{◌≡◌, ◌<◌, ◌+◌, ◌++◌, ℕ, true, false, List, length, Option, sym, subst, arith}
use Rattle.nsi_primitive.specs.Messages.{is_request}
use Rattle.nsi_primitive.specs.declared.ask.Ask.{Ask}
use Rattle.nsi_primitive.specs.declared.entry.Input.{Input}
use Rattle.nsi_primitive.specs.declared.message.Message.{Message}
use Rattle.nsi_primitive.specs.declared.state.Machine.{Machine}
use Rattle.message_retry.specs.Taken.{is_taken}
use Rattle.message_retry.specs.Retry.{is_old}
use Rattle.connection_record.specs.Applied.{waits}
use Rattle.agent_state.specs.State.{AgentState, AgentStepped, counts_agent}
use Rattle.agent_state.specs.Entries.{retry_of}
use Rattle.provider_agent.specs.Setting.{Setting}
use Rattle.provider_agent.specs.State.{State, Stepped, record_at}
use Rattle.provider_agent.specs.Steps.{may_take, step, receives, works, is_waiting, after}
use Rattle.provider_agent.specs.Good.{IsGood}
use Rattle.provider_agent.proofs.Counting.{taken_is}
use Rattle.requester_agent.specs.Setting.{Setting as RequesterSetting}
use Rattle.requester_agent.specs.Steps.{may_take as may_hear, step as hears_step, after as hears, after_if as hears_if_may}
use Rattle.sole_requester.specs.Sole.{IsReceived, IsWorked, HasAskedAs, HasHeardAs}
use Rattle.sole_requester.proofs.Receiving.{received}
use Rattle.sole_requester.proofs.Working.{worked}
use Rattle.sole_requester.proofs.Asking.{asks, heard}

counted_received : (s : State) (m : Message) (x : Stepped) → IsReceived s m x.state x.out → IsReceived s m (record x.state { taken = x.state.taken + 1; waiting = x.state.waiting ++ x.out }) x.out
counted_received s m x h = record { few = h.few; owners = h.owners; works = h.works; only = h.only; seen = h.seen; now = h.now }

pub got_received : (setting : Setting) (stp_of : List ℕ → Option ℕ) (s : State) (second : ℕ) (m : Message) → may_take s (record { second = second; input = Input.Got m }) ≡ true → is_request m.body ≡ true → is_taken m.header s.seen ≡ false
    → IsReceived s m (after setting stp_of s (record { second = second; input = Input.Got m })).state (after setting stp_of s (record { second = second; input = Input.Got m })).out
unfolding step
got_received setting stp_of s second m may asks new =
    subst (λ (x : Stepped). IsReceived s m x.state x.out) (sym (taken_is setting stp_of s (record { second = second; input = Input.Got m }) may))
    (counted_received s m (receives (is_request m.body) (is_taken m.header s.seen) setting stp_of s m) (received setting stp_of s m asks new))

counted_worked : (s : State) (x : Stepped) → IsWorked s x.state x.out → IsWorked s (record x.state { taken = x.state.taken + 1; waiting = x.state.waiting ++ x.out }) x.out
counted_worked s x h = record { few = h.few; owners = h.owners; works = h.works; seen = h.seen; now = h.now }

pub work_done : (setting : Setting) (stp_of : List ℕ → Option ℕ) (s : State) (second n : ℕ) (machine : Machine) → IsGood setting s → may_take s (record { second = second; input = Input.Work n machine }) ≡ true → n < length s.records
    → waits machine (record_at n s.records) ≡ true → IsWorked s (after setting stp_of s (record { second = second; input = Input.Work n machine })).state (after setting stp_of s (record { second = second; input = Input.Work n machine })).out
unfolding step
work_done setting stp_of s second n machine good may within w =
    subst (λ (x : Stepped). IsWorked s x.state x.out) (sym (taken_is setting stp_of s (record { second = second; input = Input.Work n machine }) may))
    (counted_worked s (works (is_waiting s n machine) setting s n machine) (worked setting s n machine good within w))

counted_asked : (set : RequesterSetting) (s : AgentState) (x : AgentStepped) → HasAskedAs 0 set s x → HasAskedAs 1 set s (counts_agent x)
counted_asked set s x h = record { own = h.own; next = h.next; now = h.now; taken = omega (arith, h.taken) }

pub ask_sends : (set : RequesterSetting) (s : AgentState) (second number : ℕ) (ask : Ask) → may_hear s (record { second = second; input = Input.Ask number ask }) ≡ true → HasAskedAs 1 set s (hears set s (record { second = second; input = Input.Ask number ask }))
unfolding hears hears_step
ask_sends set s second number ask may =
    subst (λ b. HasAskedAs 1 set s (hears_if_may b set s (record { second = second; input = Input.Ask number ask }))) (sym may) (counted_asked set s _ (asks set s ask.label ask.what))

counted_heard : (s : AgentState) (x : AgentStepped) → HasHeardAs 0 s x → HasHeardAs 1 s (counts_agent x)
counted_heard s x h = record { next = h.next; now = h.now; taken = omega (arith, h.taken) }

pub message_heard : (set : RequesterSetting) (s : AgentState) (second : ℕ) (m : Message) → may_hear s (record { second = second; input = Input.Got m }) ≡ true → HasHeardAs 1 s (hears set s (record { second = second; input = Input.Got m }))
unfolding hears hears_step
message_heard set s second m may =
    subst (λ b. HasHeardAs 1 s (hears_if_may b set s (record { second = second; input = Input.Got m }))) (sym may) (counted_heard s _ (heard set s (is_old m (retry_of s.base)) m))
