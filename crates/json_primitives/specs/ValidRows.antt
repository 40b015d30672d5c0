-- What the types of an answer's rows say of them.
use Rattle.std.specs.Prelude.{◌≤◌, IfSome}
use Rattle.std.specs.List.{AllByRecursion}
use Rattle.nsi_primitive.specs.declared.message.Notice.{Notice}
use Rattle.nsi_primitive.specs.declared.message.Outcome.{Outcome}
use Rattle.nsi_primitive.specs.declared.message.SummaryRow.{SummaryRow}
use Rattle.nsi_primitive.specs.declared.message.RecursiveRow.{RecursiveRow}
use Rattle.nsi_primitive.specs.declared.message.Body.{Body}
use Rattle.json_fields.specs.Fields.{id_from, name_from, capacity_from, second_from, version_from}
use Rattle.json_fields.specs.Objects.{IsReadBack, IsReadInEachForm, digits, words, id_scalar}

-- numbers, ids and names that read again
pub record IsValidSummaryRow (r : SummaryRow) : Type 0 where
  pub capacity : IfSome r.capacity (λ n. IsReadBack capacity_from (digits n) n)
  pub connection : IsReadBack id_from (id_scalar r.connection) r.connection
  pub dest : IsReadBack name_from (words r.dest) r.dest
  pub end : IfSome r.end IsReadInEachForm
  pub source : IsReadBack name_from (words r.source) r.source
  pub start : IfSome r.start IsReadInEachForm
  pub version : IfSome r.version (λ n. IsReadBack version_from (digits n) n)

-- and a depth that is a byte
pub record IsValidRecursiveRow (r : RecursiveRow) : Type 0 where
  pub connection : IsReadBack id_from (id_scalar r.connection) r.connection
  pub depth : r.depth ≤ 255
  pub provider : IsReadBack name_from (words r.provider) r.provider
  pub version : IfSome r.version (λ n. IsReadBack version_from (digits n) n)

pub record IsValidNotice (n : Notice) : Type 0 where
  pub correlation : IsReadBack id_from (id_scalar n.correlation) n.correlation
  pub second : IsReadBack second_from (digits n.second) n.second

pub record IsValidOutcome (o : Outcome) : Type 0 where
  pub correlation : IsReadBack id_from (id_scalar o.correlation) o.correlation
  pub second : IsReadBack second_from (digits o.second) o.second

-- what is read again of each row
abbrev pub IsValidRows : Body → Type 0
IsValidRows (Body.QuerySummaryConfirmed more rows) = AllByRecursion IsValidSummaryRow rows
IsValidRows (Body.QueryNotificationConfirmed connection more rows) = AllByRecursion IsValidNotice rows
IsValidRows (Body.QueryResultConfirmed connection more rows) = AllByRecursion IsValidOutcome rows
IsValidRows (Body.QueryRecursiveConfirmed connection more rows) = AllByRecursion IsValidRecursiveRow rows
IsValidRows _ = Unit {0}
