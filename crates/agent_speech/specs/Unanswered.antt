-- The requests of the reservation machine that a parent has asked, and those that its views hold as unanswered.
use Rattle.std.specs.Prelude.{ℕ, ◌≡◌, ◌≤◌, ◌+◌, ◌⊎◌, Bool, true, false, not, List, ◌==◌, ◌&&◌, ◌||◌, length, sum_by}
use Rattle.std.specs.List.{Contains, list_any}
use Rattle.std.specs.Str.{bytes_eq}
use Rattle.nsi_primitive.specs.Kinds.{is_request_kind}
use Rattle.nsi_primitive.specs.Messages.{kind_of, identity}
use Rattle.nsi_primitive.specs.declared.entry.Entry.{Entry}
use Rattle.nsi_primitive.specs.declared.entry.Input.{Input}
use Rattle.nsi_primitive.specs.declared.message.Identity.{Identity}
use Rattle.nsi_primitive.specs.declared.message.Message.{Message}
use Rattle.message_retry.specs.Retry.{with_heard}
use Rattle.connection_record.specs.Speaking.{tally, is_answering, is_notice_kind}
use Rattle.child_connection.specs.Holding.{is_reservation, holds, fits}
use Rattle.child_connection.specs.Views.{ChildConnection}
use Rattle.agent_state.specs.State.{AgentState}
use Rattle.agent_state.specs.declared.parent.View.{View}

---- What is asked, and what is held

-- a request of the reservation machine to an agent, under a correlation
abbrev pub reserves_at : List ℕ → ℕ → Message → Bool
reserves_at p c m = is_reservation (kind_of m.body) && (bytes_eq p m.header.provider && (c == m.header.correlation))

abbrev pub view_holds : List ℕ → ℕ → View → Bool
view_holds p c v = holds p c v.child

-- how many of a connection's views hold it as unanswered
abbrev pub holding : List ℕ → ℕ → List ChildConnection → ℕ
holding p c xs = tally (holds p c) xs

-- how many views of an agent hold it as unanswered
unfoldable pub held : List ℕ → ℕ → AgentState → ℕ
held p c s = tally (view_holds p c) s.views + sum_by (holding p c) s.children

---- What is true of each view

-- a view whose request doesn't fit its phase
abbrev pub misfits : ChildConnection → Bool
misfits x = not (fits x)

abbrev pub view_misfits : View → Bool
view_misfits v = misfits v.child

abbrev pub misfitting : List ChildConnection → ℕ
misfitting xs = tally misfits xs

-- how many views of an agent are such: none, in every run
unfoldable pub unfit : AgentState → ℕ
unfit s = tally view_misfits s.views + sum_by misfitting s.children

---- What is answered

-- an answer of an agent under a correlation
abbrev pub answers_at : List ℕ → ℕ → Message → Bool
answers_at p c m = is_answering m.body && (bytes_eq p m.header.provider && (c == m.header.correlation))

-- the same of an identity
abbrev pub is_answer_of : List ℕ → ℕ → Identity → Bool
is_answer_of p c i = not (is_request_kind i.kind || is_notice_kind i.kind) && (bytes_eq p i.provider && (c == i.correlation))

-- whether an answer of that agent under that correlation was heard
unfoldable pub was_answered : List ℕ → ℕ → List Identity → Bool
was_answered p c heard = list_any (is_answer_of p c) heard

-- what was heard stays, or the entry is one more
abbrev pub HeardBy : List Identity → Input → List Identity → Type 0
HeardBy old input new = (new ≡ old) ⊎ ((m : Message) × (input ≡ Input.Got m) × (new ≡ with_heard (identity m) old))

---- Steps

-- Views fit as before; where no answer was heard, what is asked and what was held is held, and nothing else comes to be held; and what
-- is heard is the entry.
pub record HoldsWhatItAsks (old new : AgentState) (input : Input) (out : List Message) : Type 0 where
  pub fit : unfit new ≤ unfit old
  pub holds_on : (p : List ℕ) (c : ℕ) → was_answered p c new.base.heard ≡ false → tally (reserves_at p c) out + held p c old ≤ held p c new + unfit old
  pub few : (p : List ℕ) (c : ℕ) → held p c new ≤ held p c old + tally (reserves_at p c) out
  pub hears : HeardBy old.base.heard input new.base.heard

-- one of the entries takes an answer of that agent under that correlation
pub record AnswerCame (p : List ℕ) (c : ℕ) (es : List Entry) : Type 0 where
  pub second : ℕ
  pub message : Message
  pub there : Contains es (record { second = second; input = Input.Got message })
  pub answers : answers_at p c message ≡ true

-- All views fit; what was asked and had no answer is held, and nothing is held but what was asked; and an answer that was heard came by
-- one of the entries.
pub record HasHeld (es : List Entry) (s : AgentState) (out : List Message) : Type 0 where
  pub fit : unfit s ≡ 0
  pub holds_on : (p : List ℕ) (c : ℕ) → was_answered p c s.base.heard ≡ false → tally (reserves_at p c) out ≤ held p c s
  pub few : (p : List ℕ) (c : ℕ) → held p c s ≤ tally (reserves_at p c) out
  pub came : (p : List ℕ) (c : ℕ) → was_answered p c s.base.heard ≡ true → AnswerCame p c es

-- the records and the views of their children stand side by side
abbrev pub AreEven : AgentState → Type 0
AreEven s = length s.children ≡ length s.base.records
