-- What a provider's step leaves alone: it counts nothing, and puts nothing to what waits; it notes the request that came.
use Rattle.std.proofs.Common.{◌≡◌, ◌≤◌, ◌+◌, ◌⊎◌, inl, inr, ◌∙◌, ℕ, Bool, true, false, Option, List, [], ◌∷◌, refl, sym, ap, arith}
use Rattle.nsi_primitive.specs.Messages.{is_request}
use Rattle.nsi_primitive.specs.declared.entry.Input.{Input}
use Rattle.nsi_primitive.specs.declared.message.Message.{Message}
use Rattle.nsi_primitive.specs.declared.state.Machine.{Machine}
use Rattle.message_retry.specs.Retry.{saw, saw_if}
use Rattle.message_retry.specs.Taken.{is_taken, with_taken}
use Rattle.agent_state.specs.Entries.{retry_of}
use Rattle.agent_state.specs.State.{State}
use Rattle.connection_record.specs.declared.record.Record.{Record}
use Rattle.provider_agent.specs.declared.agent.Agent.{Agent}
use Rattle.provider_agent.specs.Setting.{Setting}
use Rattle.provider_agent.specs.Steps.{step, receives, works, forces, ticks, ticks_all, drawn, is_told_at, agent_of, is_waiting, is_forcible}
use Rattle.nsi_agent.specs.Laws.{left_waiting}

-- the second of the clock behind an entry
abbrev pub clock_after : Input → ℕ → ℕ → ℕ
clock_after Input.Tick second now = second
clock_after _ second now = now

-- a step, before it is counted
pub record IsStep (input : Input) (second : ℕ) (s t : State) : Type 0 where
  pub taken : t.taken ≡ s.taken
  pub waiting : t.waiting ≡ left_waiting input s.waiting
  pub now : t.now ≡ clock_after input second s.now

-- the same of what is no tick and no acknowledgement
pub record IsQuiet (s t : State) : Type 0 where
  pub taken : t.taken ≡ s.taken
  pub waiting : t.waiting ≡ s.waiting
  pub now : t.now ≡ s.now

received : (is_request is_taken : Bool) (setting : Setting) (stp_of : List ℕ → Option ℕ) (s : State) (m : Message) → IsQuiet s (receives is_request is_taken setting stp_of s m).state
unfolding receives
received is_request is_taken setting stp_of s m = record { taken = grind arith; waiting = grind arith; now = grind arith }

worked : (is_waiting : Bool) (setting : Setting) (s : State) (n : ℕ) (machine : Machine) → IsQuiet s (works is_waiting setting s n machine).state
unfolding works
worked is_waiting setting s n machine = record { taken = grind arith; waiting = grind arith; now = grind arith }

forced : (is_forcible : Bool) (setting : Setting) (s : State) (n : ℕ) → IsQuiet s (forces is_forcible setting s n).state
unfolding forces
forced is_forcible setting s n = record { taken = grind arith; waiting = grind arith; now = grind arith }

pub provider_step : (input : Input) (second : ℕ) (setting : Setting) (stp_of : List ℕ → Option ℕ) (s : State) → IsStep input second s (step input second setting stp_of s).state
unfolding step ticks
provider_step (Input.Got m) second setting stp_of s =
    let q = received (is_request m.body) (is_taken m.header s.seen) setting stp_of s m in
    record { taken = q.taken; waiting = q.waiting; now = q.now }
provider_step (Input.Work n machine) second setting stp_of s =
    let q = worked (is_waiting s n machine) setting s n machine in
    record { taken = q.taken; waiting = q.waiting; now = q.now }
provider_step (Input.Force n) second setting stp_of s =
    let q = forced (is_forcible s n) setting s n in
    record { taken = q.taken; waiting = q.waiting; now = q.now }
provider_step Input.Tick second setting stp_of s = record { taken = refl; waiting = refl; now = refl }
provider_step (Input.Acked i) second setting stp_of s = record { taken = refl; waiting = refl; now = refl }
provider_step (Input.Ask n a) second setting stp_of s = record { taken = refl; waiting = refl; now = refl }

---- What was taken before

pub record IsSameSeen (s t : State) : Type 0 where
  pub seen : t.seen ≡ s.seen
  pub heard : t.heard ≡ s.heard

-- one message more
pub record IsSeenWith (m : Message) (s t : State) : Type 0 where
  pub seen : t.seen ≡ (saw m (retry_of s)).seen
  pub heard : t.heard ≡ (saw m (retry_of s)).heard

abbrev pub Notes : Input → State → State → Type 0
Notes (Input.Got m) s t = IsSeenWith m s t
Notes _ s t = ⊥

-- it stays, or the message of the entry is noted
abbrev pub HasSeen : Input → State → State → Type 0
HasSeen input s t = IsSameSeen s t ⊎ Notes input s t

received_saw : (asks is_taken : Bool) (setting : Setting) (stp_of : List ℕ → Option ℕ) (s : State) (m : Message) → is_request m.body ≡ asks → HasSeen (Input.Got m) s (receives asks is_taken setting stp_of s m).state
unfolding receives saw
received_saw true false setting stp_of s m e =
    let noted : (receives true false setting stp_of s m).state.seen ≡ with_taken m.header s.seen = grind arith in
    let kept : (receives true false setting stp_of s m).state.heard ≡ s.heard = grind arith in
    inr (record { seen = noted ∙ sym (ap (λ b. (saw_if b m (retry_of s)).seen) e); heard = kept ∙ sym (ap (λ b. (saw_if b m (retry_of s)).heard) e) })
received_saw true true setting stp_of s m e = inl (record { seen = refl; heard = refl })
received_saw false true setting stp_of s m e = inl (record { seen = refl; heard = refl })
received_saw false false setting stp_of s m e = inl (record { seen = refl; heard = refl })

worked_saw : (is_waiting : Bool) (setting : Setting) (s : State) (n : ℕ) (machine : Machine) → IsSameSeen s (works is_waiting setting s n machine).state
unfolding works
worked_saw is_waiting setting s n machine = record { seen = grind arith; heard = grind arith }

forced_saw : (is_forcible : Bool) (setting : Setting) (s : State) (n : ℕ) → IsSameSeen s (forces is_forcible setting s n).state
unfolding forces
forced_saw is_forcible setting s n = record { seen = grind arith; heard = grind arith }

pub provider_saw : (input : Input) (second : ℕ) (setting : Setting) (stp_of : List ℕ → Option ℕ) (s : State) → HasSeen input s (step input second setting stp_of s).state
unfolding step ticks
provider_saw (Input.Got m) second setting stp_of s = received_saw (is_request m.body) (is_taken m.header s.seen) setting stp_of s m refl
provider_saw (Input.Work n machine) second setting stp_of s = inl (worked_saw (is_waiting s n machine) setting s n machine)
provider_saw (Input.Force n) second setting stp_of s = inl (forced_saw (is_forcible s n) setting s n)
provider_saw Input.Tick second setting stp_of s = inl (record { seen = refl; heard = refl })
provider_saw (Input.Acked i) second setting stp_of s = inl (record { seen = refl; heard = refl })
provider_saw (Input.Ask n a) second setting stp_of s = inl (record { seen = refl; heard = refl })

---- The number of the next id

received_rises : (asks is_taken : Bool) (setting : Setting) (stp_of : List ℕ → Option ℕ) (s : State) (m : Message) → s.next ≤ (receives asks is_taken setting stp_of s m).state.next
unfolding receives
received_rises asks is_taken setting stp_of s m = grind arith

worked_rises : (is_waiting : Bool) (setting : Setting) (s : State) (n : ℕ) (machine : Machine) → s.next ≤ (works is_waiting setting s n machine).state.next
unfolding works
worked_rises is_waiting setting s n machine = grind arith

forced_rises : (is_forcible : Bool) (setting : Setting) (s : State) (n : ℕ) → s.next ≤ (forces is_forcible setting s n).state.next
unfolding forces
forced_rises is_forcible setting s n = grind arith

ticked_rises : (agent : Agent) (before now next : ℕ) (rs : List Record) → next ≤ (ticks_all agent before now next rs).next
unfolding ticks_all
ticked_rises agent before now next [] = omega arith
ticked_rises agent before now next (r ∷ rs) =
    let more = ticked_rises agent before now (next + drawn (is_told_at agent before now r)) rs in
    omega (arith, more)

pub provider_rises : (input : Input) (second : ℕ) (setting : Setting) (stp_of : List ℕ → Option ℕ) (s : State) → s.next ≤ (step input second setting stp_of s).state.next
unfolding step ticks
provider_rises (Input.Got m) second setting stp_of s = received_rises (is_request m.body) (is_taken m.header s.seen) setting stp_of s m
provider_rises (Input.Work n machine) second setting stp_of s = worked_rises (is_waiting s n machine) setting s n machine
provider_rises (Input.Force n) second setting stp_of s = forced_rises (is_forcible s n) setting s n
provider_rises Input.Tick second setting stp_of s = ticked_rises (agent_of setting) s.now second s.next s.records
provider_rises (Input.Acked i) second setting stp_of s = omega arith
provider_rises (Input.Ask n a) second setting stp_of s = omega arith
