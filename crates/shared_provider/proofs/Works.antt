-- What `work` adds is work.
use Rattle.std.proofs.Common.{◌≡◌, ℕ, true, Option, Some, None, Result, Ok, Err, refl, sym, subst}
use Rattle.std.specs.Prelude.{IfSome, IfOk}
use Rattle.nsi_primitive.specs.declared.entry.Event.{Event}
use Rattle.nsi_primitive.specs.declared.state.Machine.{Machine}
use Rattle.provider_agent.specs.State.{State}
use Rattle.shared_provider.specs.declared.call.CallReply.{CallReply}
use Rattle.shared_provider.specs.declared.call.CallFault.{CallFault}
use Rattle.shared_provider.specs.declared.reply.Reply.{Reply}
use Rattle.shared_provider.specs.Asked.{work_on, work_then, work_entry, is_work}
use Rattle.shared_provider.specs.Book.{Book}
use Rattle.shared_provider.specs.Answers.{Answers}
use Rattle.shared_provider.specs.Calls.{IsHeld}

abbrev pub IsWork : Event → Type 0
IsWork x = is_work x.what ≡ true

at_work : (s : State) (o : Option (ℕ × Machine)) (old new : Book) (r : Reply) → Answers (work_then s o) old new r → IfSome r.event IsWork
at_work s None old new r a = subst (λ (o : Option Event). IfSome o IsWork) (sym a.event) tt
at_work s (Some work) old new r a = subst (λ (o : Option Event). IfSome o IsWork) (sym a.event) refl

-- of an owned book
pub reply_is_work : (s : State) (connection : ℕ) (old new : Book) (r : Reply) → Answers (work_entry s connection) old new r → IfSome r.event IsWork
unfolding work_entry
reply_is_work s connection old new r a = at_work s (work_on connection s.records) old new r a

-- of a shared provider
pub call_is_work : (connection : ℕ) (result : Result CallReply CallFault) → IsHeld (λ s. work_entry s connection) result → IfOk result (λ r. IfSome r.event IsWork)
call_is_work connection (Ok r) h = subst (λ (o : Option Event). IfSome o IsWork) (sym h.printed.event) (reply_is_work h.held.old.book.state connection h.held.old.book h.held.new.book h.reply h.held.answers)
call_is_work connection (Err fault) h = tt
