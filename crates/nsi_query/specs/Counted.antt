-- What is told of a connection's notices and outcomes, by their numbers.
use Rattle.std.specs.Prelude.{ℕ, Bool, ◌&&◌, nat_le, filter}
use Rattle.nsi_primitive.specs.declared.message.Notice.{Notice}
use Rattle.nsi_primitive.specs.declared.message.Outcome.{Outcome}
use Rattle.connection_record.specs.declared.record.Record.{Record}
use Rattle.nsi_query.specs.declared.rows.Rows.{Rows}
use Rattle.nsi_query.specs.Cut.{cut, most_numbered}

-- both ends of the range are in it
abbrev pub is_within : ℕ → ℕ → ℕ → Bool
is_within from to number = nat_le from number && nat_le number to

abbrev pub is_notice_within : ℕ → ℕ → Notice → Bool
is_notice_within from to n = is_within from to n.number

abbrev pub is_outcome_within : ℕ → ℕ → Outcome → Bool
is_outcome_within from to o = is_within from to o.number

-- the notices of these numbers, in their order
abbrev pub notifications : ℕ → ℕ → Record → Rows Notice
notifications from to r = cut most_numbered (filter (is_notice_within from to) r.notices)

-- the outcomes of these numbers, in their order
abbrev pub results : ℕ → ℕ → Record → Rows Outcome
results from to r = cut most_numbered (filter (is_outcome_within from to) r.results)
