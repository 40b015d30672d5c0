-- What one hold of the lock did, as far as a caller can know.
use Rattle.std.specs.Prelude.{Option, Result, MatchResult}
use Rattle.nsi_primitive.specs.declared.entry.Entry.{Entry}
use Rattle.provider_agent.specs.State.{State}
use Rattle.shared_provider.specs.declared.reply.Reply.{Reply}
use Rattle.shared_provider.specs.declared.reply.BookFault.{BookFault}
use Rattle.shared_provider.specs.Book.{Held, IsBook}
use Rattle.shared_provider.specs.Answers.{Answers, Fails}

-- In some book the call made this entry, or none, and answered this.
pub record HasHeld (asked : State → Option Entry) (result : Result Reply BookFault) : Type 0 where
  pub old : Held
  pub new : Held
  pub before : IsBook old
  pub after : IsBook new
  pub answers : MatchResult result (Answers (asked old.book.state) old.book new.book) (Fails (asked old.book.state) old new)
