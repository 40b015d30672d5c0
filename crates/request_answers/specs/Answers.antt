-- Which message answers a request.
use Rattle.std.specs.Prelude.{◌≡◌, Bool, true, false, List}
use Rattle.std.specs.List.{Contains}
use Rattle.nsi_primitive.specs.Kinds.{is_request_kind}
use Rattle.nsi_primitive.specs.Messages.{kind_of}
use Rattle.nsi_primitive.specs.declared.kind.Kind.{Kind}
use Rattle.nsi_primitive.specs.declared.message.Message.{Message}

-- What answers a request of each kind: what became of it, the rows that a query asked for, or an error. What only says that it came, and
-- what is told without being asked, answers nothing.
unfoldable pub is_answer : (request answer : Kind) → Bool
is_answer Kind.Reserve Kind.ReserveConfirmed = true
is_answer Kind.Reserve Kind.ReserveFailed = true
is_answer Kind.ReserveCommit Kind.ReserveCommitConfirmed = true
is_answer Kind.ReserveCommit Kind.ReserveCommitFailed = true
is_answer Kind.ReserveAbort Kind.ReserveAbortConfirmed = true
is_answer Kind.Provision Kind.ProvisionConfirmed = true
is_answer Kind.Release Kind.ReleaseConfirmed = true
is_answer Kind.Terminate Kind.TerminateConfirmed = true
is_answer Kind.QuerySummary Kind.QuerySummaryConfirmed = true
is_answer Kind.QueryNotification Kind.QueryNotificationConfirmed = true
is_answer Kind.QueryResult Kind.QueryResultConfirmed = true
is_answer Kind.QueryRecursive Kind.QueryRecursiveConfirmed = true
is_answer request Kind.Error = is_request_kind request
is_answer _ _ = false

-- the second message answers the first one: it stands under the header of the request, and is of a kind that answers it
pub record IsAnswerTo (request answer : Message) : Type 0 where
  pub header : answer.header ≡ request.header
  pub kind : is_answer (kind_of request.body) (kind_of answer.body) ≡ true

-- one of the messages answers the request
abbrev pub IsAnswered : Message → List Message → Type 0
IsAnswered request out = (answer : Message) × Contains out answer × IsAnswerTo request answer
