-- What a call of a provider's core makes of it, where it takes an entry or a part of one.
use Rattle.std.specs.Prelude.{◌≡◌, ◌+◌, ◌++◌, ℕ, Result, None, OnOk, OnErr, IfOk}
use Rattle.std.specs.Global.{Vec}
use Rattle.std.specs.declared.alloc.AllocError.{AllocError}
use Rattle.nsi_primitive.specs.declared.message.Message.{Message}
use Rattle.connection_record.specs.declared.record.Record.{Record}
use Rattle.provider_agent.specs.declared.provider_core.Core.{Core}
use Rattle.provider_agent.specs.Setting.{Setting}
use Rattle.provider_agent.specs.State.{State, Standing, Stepped, record_at}
use Rattle.provider_agent.specs.Others.{cause_among}
use Rattle.provider_agent.specs.Core.{standing_at}

-- what is said waits for its acknowledgement
abbrev pub stored : Stepped → State
stored x = record x.state { waiting = x.state.waiting ++ x.out }

-- an entry counts as taken
abbrev pub counted : Stepped → Stepped
counted x = record x { state = record x.state { taken = x.state.taken + 1 } }

-- the state and the messages are those that the definition makes, and these wait; where memory is wanting, the state is what it was
pub record IsStepOf (old new : Standing) (result : Result (Vec Message) AllocError) (makes : Setting → State → Stepped) : Type 0 where
  pub state : OnOk result (new.state ≡ stored (makes old.setting old.state))
  pub out : IfOk result (λ out. out.items ≡ (makes old.setting old.state).out)
  pub setting : new.setting ≡ old.setting
  pub err : OnErr result (new.state ≡ old.state)

abbrev pub IsStep : Core → Core → Result (Vec Message) AllocError → (Setting → State → Stepped) → Type 0
IsStep old new result makes = IsStepOf (standing_at old) (standing_at new) result makes

---- The record at a place

abbrev pub record_in : Core → ℕ → Record
record_in d n = record_at n d.records.items

-- nothing speaks against what is asked of it
abbrev pub Fits : Core → ℕ → Type 0
Fits d n = cause_among d.calendar.capacities d.records.items d.now n (record_in d n).pending ≡ None
