-- How the entries that a provider takes are counted.
use Rattle.std.proofs.Common.{◌≡◌, ℕ, Bool, true, Option, List, refl, ap, arith}
use Rattle.nsi_primitive.specs.Messages.{is_request}
use Rattle.nsi_primitive.specs.declared.state.Machine.{Machine}
use Rattle.nsi_primitive.specs.declared.entry.Entry.{Entry}
use Rattle.nsi_primitive.specs.declared.entry.Input.{Input}
use Rattle.nsi_primitive.specs.declared.message.Message.{Message}
use Rattle.message_retry.specs.Taken.{is_taken}
use Rattle.provider_agent.specs.Setting.{Setting}
use Rattle.provider_agent.specs.State.{State, counts}
use Rattle.provider_agent.specs.Steps.{step, receives, works, forces, ticks, is_waiting, is_forcible, after, after_if, may_take}
use Rattle.provider_agent.specs.Good.{IsGood}
use Rattle.provider_agent.specs.Safety.{IsRising}

-- an entry that may be taken is taken
pub taken_is : (setting : Setting) (stp_of : List ℕ → Option ℕ) (s : State) (e : Entry) → may_take s e ≡ true → after setting stp_of s e ≡ counts (step e.input e.second setting stp_of s)
unfolding after
taken_is setting stp_of s e m = ap (λ b. after_if b setting stp_of s e) m

-- No step counts by itself.
pub received_taken : (is_request is_taken : Bool) (setting : Setting) (stp_of : List ℕ → Option ℕ) (s : State) (m : Message) → (receives is_request is_taken setting stp_of s m).state.taken ≡ s.taken
unfolding receives
received_taken is_request is_taken setting stp_of s m = grind arith

pub worked_taken : (is_waiting : Bool) (setting : Setting) (s : State) (n : ℕ) (machine : Machine) → (works is_waiting setting s n machine).state.taken ≡ s.taken
unfolding works
worked_taken is_waiting setting s n machine = grind arith

pub forced_taken : (is_forcible : Bool) (setting : Setting) (s : State) (n : ℕ) → (forces is_forcible setting s n).state.taken ≡ s.taken
unfolding forces
forced_taken is_forcible setting s n = grind arith

pub ticked_taken : (setting : Setting) (now : ℕ) (s : State) → (ticks setting now s).state.taken ≡ s.taken
unfolding ticks
ticked_taken setting now s = refl

pub step_taken : (input : Input) (second : ℕ) (setting : Setting) (stp_of : List ℕ → Option ℕ) (s : State) → (step input second setting stp_of s).state.taken ≡ s.taken
unfolding step
step_taken (Input.Got m) second setting stp_of s = received_taken (is_request m.body) (is_taken m.header s.seen) setting stp_of s m
step_taken (Input.Work n machine) second setting stp_of s = worked_taken (is_waiting s n machine) setting s n machine
step_taken (Input.Force n) second setting stp_of s = forced_taken (is_forcible s n) setting s n
step_taken Input.Tick second setting stp_of s = ticked_taken setting second s
step_taken _ second setting stp_of s = refl

pub rising_where_good : (setting : Setting) (s : State) → IsGood setting s → IsRising s
rising_where_good setting s good n r at = (good.records n r at).rising
