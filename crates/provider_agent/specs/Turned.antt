-- What a move of a record leaves of it, and what is then said.
use Rattle.std.specs.Prelude.{◌≡◌, ◌++◌, ℕ, List, Result, OnOk, OnErr, IfOk, slice_set}
use Rattle.std.specs.declared.alloc.AllocError.{AllocError}
use Rattle.nsi_primitive.specs.Ids.{id_of}
use Rattle.message_retry.specs.Retry.{Retry}
use Rattle.connection_record.specs.declared.record.Record.{Record}
use Rattle.connection_record.specs.Replies.{Moved}
use Rattle.connection_record.specs.Applied.{tells, status_of, is_told}
use Rattle.provider_agent.specs.declared.agent.Agent.{Agent}
use Rattle.provider_agent.specs.declared.records.Moment.{Moment}
use Rattle.provider_agent.specs.declared.records.Turned.{Turned}
use Rattle.provider_agent.specs.State.{record_at}
use Rattle.provider_agent.specs.Steps.{drawn, messages_by}

-- the change of the data plane is told behind the move, under the next id
abbrev pub told_behind : Agent → Moment → Record → Moved → Moved
told_behind agent moment own x = tells (status_of moment.second own) (id_of agent.number moment.next) moment.second x

-- the record is moved, its owner is told, and an id is drawn where its data plane is another
pub record IsTurned (agent : Agent) (moment : Moment) (own new : Record) (result : Result Turned AllocError) (x : Moved) : Type 0 where
  pub rec : OnOk result (new ≡ (told_behind agent moment own x).rec)
  pub out : IfOk result (λ turned. turned.out.items ≡ messages_by agent.name (told_behind agent moment own x))
  pub drawn : IfOk result (λ turned. turned.drawn ≡ drawn (is_told (status_of moment.second own) moment.second x.rec))

-- the same of the record at a place among others; where memory is wanting, all are what they were
pub record IsTurnedAt (agent : Agent) (moment : Moment) (place : ℕ) (old new : List Record) (result : Result Turned AllocError) (x : Moved) : Type 0 where
  pub rec : OnOk result (new ≡ slice_set old place (told_behind agent moment (record_at place old) x).rec)
  pub out : IfOk result (λ turned. turned.out.items ≡ messages_by agent.name (told_behind agent moment (record_at place old) x))
  pub drawn : IfOk result (λ turned. turned.drawn ≡ drawn (is_told (status_of moment.second (record_at place old)) moment.second x.rec))
  pub err : OnErr result (new ≡ old)

-- what is said waits behind what waited; where memory is wanting, that is what it was
pub record IsStored (old new : Retry) (result : Result Turned AllocError) : Type 0 where
  pub waits : IfOk result (λ turned. new ≡ record old { waiting = old.waiting ++ turned.out.items })
  pub err : OnErr result (new ≡ old)
