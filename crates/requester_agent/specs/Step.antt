-- What a call of a requester's core makes of it.
use Rattle.std.specs.Prelude.{◌≡◌, ◌++◌, ◌∷◌, ℕ, List, [], Some, Result, OnOk, OnErr, IfOk, slice_get, slice_set}
use Rattle.std.specs.Global.{Vec}
use Rattle.std.specs.declared.alloc.AllocError.{AllocError}
use Rattle.nsi_primitive.specs.declared.ask.AskAnswer.{AskAnswer}
use Rattle.nsi_primitive.specs.declared.message.Message.{Message}
use Rattle.message_retry.specs.Retry.{Retry}
use Rattle.agent_state.specs.declared.parent.View.{View}
use Rattle.child_connection.specs.Views.{ChildConnection}
use Rattle.requester_agent.specs.Views.{Asked}

-- a view was asked, and what is sent waits; where memory is wanting, both are what they were
pub record IsAsked (old new : View) (before after : Retry) (result : Result (AskAnswer × Vec Message) AllocError) (x : Asked) : Type 0 where
  pub view : OnOk result (new ≡ record old { child = x.child })
  pub answer : IfOk result (λ r. r.0 ≡ x.answer)
  pub out : IfOk result (λ r. r.1.items ≡ x.out)
  pub waits : OnOk result (after ≡ record before { waiting = before.waiting ++ x.out })
  pub kept : OnErr result (new ≡ old)
  pub unsaid : OnErr result (after ≡ before)

-- the view at a place of a list was asked
pub record IsAskedAt (place : ℕ) (old new : List View) (before after : Retry) (result : Result (AskAnswer × Vec Message) AllocError) (makes : ChildConnection → Asked) : Type 0 where
  pub views : (v : View) → slice_get old place ≡ Some v → OnOk result (new ≡ slice_set old place (record v { child = (makes v.child).child }))
  pub answer : (v : View) → slice_get old place ≡ Some v → IfOk result (λ r. r.0 ≡ (makes v.child).answer)
  pub out : (v : View) → slice_get old place ≡ Some v → IfOk result (λ r. r.1.items ≡ (makes v.child).out)
  pub waits : (v : View) → slice_get old place ≡ Some v → OnOk result (after ≡ record before { waiting = before.waiting ++ (makes v.child).out })
  pub kept : OnErr result (new ≡ old)
  pub unsaid : OnErr result (after ≡ before)

-- a view that is new was asked, and joined a list
pub record IsAskedNew (v : View) (old new : List View) (before after : Retry) (result : Result (AskAnswer × Vec Message) AllocError) (x : Asked) : Type 0 where
  pub views : OnOk result (new ≡ old ++ record v { child = x.child } ∷ [])
  pub answer : IfOk result (λ r. r.0 ≡ x.answer)
  pub out : IfOk result (λ r. r.1.items ≡ x.out)
  pub waits : OnOk result (after ≡ record before { waiting = before.waiting ++ x.out })
  pub kept : OnErr result (new ≡ old)
  pub unsaid : OnErr result (after ≡ before)
