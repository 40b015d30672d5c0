-- The printed rows of the answers to queries.
use Rattle.std.specs.Prelude.{List, [], ◌∷◌, map, Option, Some, None, option_map}
use Rattle.serde_json.specs.Data.{Data, no_members, object}
use Rattle.nsi_primitive.specs.Kinds.{kind_name}
use Rattle.nsi_primitive.specs.States.{rsm_text, psm_text, lsm_text}
use Rattle.nsi_primitive.specs.declared.message.Body.{Body}
use Rattle.nsi_primitive.specs.declared.message.Notice.{Notice}
use Rattle.nsi_primitive.specs.declared.message.Outcome.{Outcome}
use Rattle.nsi_primitive.specs.declared.message.SummaryRow.{SummaryRow}
use Rattle.nsi_primitive.specs.declared.message.RecursiveRow.{RecursiveRow}
use Rattle.json_fields.specs.Objects.{Field, digits, words, flag, id_scalar, time_value, directionality_scalar, with_fields}
use Rattle.json_fields.specs.declared.key.Key.{Key}
use Rattle.json_fields.specs.declared.time_form.TimeForm.{TimeForm}

-- a connection in the answer to a querySummary
abbrev pub summary_fields : TimeForm → SummaryRow → List Field
summary_fields form r =
    (Key.Active, Some (flag r.active))
    ∷ (Key.Capacity, option_map digits r.capacity)
    ∷ (Key.ConnectionId, Some (id_scalar r.connection))
    ∷ (Key.Description, option_map words r.description)
    ∷ (Key.DestStp, Some (words r.dest))
    ∷ (Key.Directionality, Some (directionality_scalar r.directionality))
    ∷ (Key.EndTime, option_map (time_value form) r.end)
    ∷ (Key.GlobalReservationId, option_map words r.global)
    ∷ (Key.LifecycleState, Some (words (lsm_text r.lifecycle)))
    ∷ (Key.ProvisionState, Some (words (psm_text r.provision)))
    ∷ (Key.ReservationState, Some (words (rsm_text r.reservation)))
    ∷ (Key.SourceStp, Some (words r.source))
    ∷ (Key.StartTime, option_map (time_value form) r.start)
    ∷ (Key.Version, option_map digits r.version)
    ∷ []

-- a connection in the answer to a queryRecursive
abbrev pub recursive_fields : RecursiveRow → List Field
recursive_fields r =
    (Key.ConnectionId, Some (id_scalar r.connection))
    ∷ (Key.Depth, Some (digits r.depth))
    ∷ (Key.LifecycleState, Some (words (lsm_text r.lifecycle)))
    ∷ (Key.ProviderNsa, Some (words r.provider))
    ∷ (Key.ProvisionState, Some (words (psm_text r.provision)))
    ∷ (Key.ReservationState, Some (words (rsm_text r.reservation)))
    ∷ (Key.Version, option_map digits r.version)
    ∷ []

abbrev pub notice_fields : Notice → List Field
notice_fields n =
    (Key.CorrelationId, Some (id_scalar n.correlation))
    ∷ (Key.Kind, Some (words (kind_name n.kind)))
    ∷ (Key.NotificationId, Some (digits n.number))
    ∷ (Key.TimeStamp, Some (digits n.second))
    ∷ []

abbrev pub outcome_fields : Outcome → List Field
outcome_fields o =
    (Key.CorrelationId, Some (id_scalar o.correlation))
    ∷ (Key.Kind, Some (words (kind_name o.kind)))
    ∷ (Key.ResultId, Some (digits o.number))
    ∷ (Key.TimeStamp, Some (digits o.second))
    ∷ []

-- the object of a row
unfoldable pub row_data : List Field → Data
row_data fields = object (with_fields no_members fields)

-- the rows of a message and their key, where it has some
unfoldable pub rows_in : TimeForm → Body → Option (Key × List Data)
rows_in form (Body.QuerySummaryConfirmed more rows) = Some (Key.Reservations, map (λ r. row_data (summary_fields form r)) rows)
rows_in form (Body.QueryNotificationConfirmed connection more rows) = Some (Key.Notifications, map (λ r. row_data (notice_fields r)) rows)
rows_in form (Body.QueryResultConfirmed connection more rows) = Some (Key.Results, map (λ r. row_data (outcome_fields r)) rows)
rows_in form (Body.QueryRecursiveConfirmed connection more rows) = Some (Key.Reservations, map (λ r. row_data (recursive_fields r)) rows)
rows_in form _ = None
