-- Which parcel a line is.
use Rattle.std.specs.Prelude.{ℕ, List, codes, length, nat_lt, is_some, if◌then◌else◌, Option, Some, None, Result, Ok, Err}
use Rattle.std.specs.Str.{bytes_eq}
use Rattle.serde_json.specs.Data.{Data}
use Rattle.serde_json.specs.Find.{get, as_str, as_object}
use Rattle.nsi_primitive.specs.Kinds.{kind_named}
use Rattle.nsi_primitive.specs.declared.kind.Kind.{Kind}
use Rattle.nsi_primitive.specs.declared.message.Body.{Body}
use Rattle.nsi_primitive.specs.declared.message.Message.{Message}
use Rattle.nsi_primitive.specs.declared.message.Parcel.{Parcel}
use Rattle.json_fields.specs.Keys.{name_of}
use Rattle.json_fields.specs.Faults.{◌>>=◌}
use Rattle.json_fields.specs.Fields.{json_of, required, id_from, name_from, kind_from}
use Rattle.json_fields.specs.declared.key.Key.{Key}
use Rattle.json_fields.specs.declared.fault.LineFault.{LineFault}
use Rattle.json_primitives.specs.Requests.{reserve_from}
use Rattle.json_primitives.specs.RowLines.{summary_rows_from, notice_rows_from, outcome_rows_from, recursive_rows_from}
use Rattle.json_primitives.specs.Connected.{about}
use Rattle.json_primitives.specs.Queries.{summary_from, notifications_from, results_from}
use Rattle.json_primitives.specs.Answers.{confirmation_from, failed_from, commit_failed_from, error_message_from}
use Rattle.json_primitives.specs.Notifications.{timeout_from, fault_from, plane_from, delivery_from}

-- the message that an object of a kind is, or the first fault of it
abbrev pub of_kind : Data → Kind → Result Message LineFault
of_kind d Kind.Reserve = reserve_from d
of_kind d Kind.ReserveResponse = about Body.ReserveResponse d
of_kind d Kind.ReserveConfirmed = confirmation_from d
of_kind d Kind.ReserveFailed = failed_from d
of_kind d Kind.ReserveCommit = about Body.ReserveCommit d
of_kind d Kind.ReserveCommitConfirmed = about Body.ReserveCommitConfirmed d
of_kind d Kind.ReserveCommitFailed = commit_failed_from d
of_kind d Kind.ReserveAbort = about Body.ReserveAbort d
of_kind d Kind.ReserveAbortConfirmed = about Body.ReserveAbortConfirmed d
of_kind d Kind.Provision = about Body.Provision d
of_kind d Kind.ProvisionConfirmed = about Body.ProvisionConfirmed d
of_kind d Kind.Release = about Body.Release d
of_kind d Kind.ReleaseConfirmed = about Body.ReleaseConfirmed d
of_kind d Kind.Terminate = about Body.Terminate d
of_kind d Kind.TerminateConfirmed = about Body.TerminateConfirmed d
of_kind d Kind.Error = error_message_from d
of_kind d Kind.ReserveTimeout = timeout_from d
of_kind d Kind.ErrorEvent = fault_from d
of_kind d Kind.DataPlaneStateChange = plane_from d
of_kind d Kind.MessageDeliveryTimeout = delivery_from d
of_kind d Kind.QuerySummary = summary_from d
of_kind d Kind.QueryNotification = notifications_from d
of_kind d Kind.QueryResult = results_from d
of_kind d Kind.QueryRecursive = about Body.QueryRecursive d
of_kind d Kind.QuerySummaryConfirmed = summary_rows_from d
of_kind d Kind.QueryNotificationConfirmed = notice_rows_from d
of_kind d Kind.QueryResultConfirmed = outcome_rows_from d
of_kind d Kind.QueryRecursiveConfirmed = recursive_rows_from d

-- an acknowledgement has the header of the message that it is for, and that message's kind
unfoldable pub ack_from : Data → Result Parcel LineFault
ack_from d = do
  correlation ← required id_from Key.CorrelationId d
  kind ← required kind_from Key.Of d
  provider ← required name_from Key.ProviderNsa d
  requester ← required name_from Key.RequesterNsa d
  Ok (Parcel.Ack (record { requester = requester; provider = provider; correlation = correlation; kind = kind }))

abbrev pub as_parcel : Result Message LineFault → Result Parcel LineFault
as_parcel (Ok m) = Ok (Parcel.Message m)
as_parcel (Err fault) = Err fault

-- the kinds of lines are those of messages, and `ack`
abbrev pub of_other_name : Data → List ℕ → Result Parcel LineFault
of_other_name d name = if bytes_eq name (codes "ack") then ack_from d else Err (LineFault.Bad Key.Kind)

abbrev pub of_named : Data → List ℕ → Option Kind → Result Parcel LineFault
of_named d name (Some kind) = as_parcel (of_kind d kind)
of_named d name None = of_other_name d name

-- by the text of its kind
abbrev pub of_text : Data → Option (List ℕ) → Result Parcel LineFault
of_text d None = Err (LineFault.Bad Key.Kind)
of_text d (Some name) = of_named d name (kind_named name)

-- by what stands at its kind
abbrev pub with_kind : Data → Option Data → Result Parcel LineFault
with_kind d None = Err LineFault.NoKind
with_kind d (Some kind) = of_text d (as_str kind)

-- the parcel that an object is, or the first fault of it
abbrev pub parcel_from : Data → Result Parcel LineFault
parcel_from d = if is_some (as_object d) then with_kind d (get (name_of Key.Kind) d) else Err LineFault.NotObject

abbrev pub parcel_of_json : Option Data → Result Parcel LineFault
parcel_of_json None = Err LineFault.NotJson
parcel_of_json (Some d) = parcel_from d

-- the parcel that the bytes of an object are, or the first fault of them
unfoldable pub object_of : List ℕ → Result Parcel LineFault
object_of bytes = parcel_of_json (json_of bytes)

-- the same within the limit of a line
abbrev pub line_of : List ℕ → Result Parcel LineFault
line_of bytes = if nat_lt 65536 (length bytes) then Err LineFault.TooLong else object_of bytes
