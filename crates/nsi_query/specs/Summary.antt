-- What is told of an owner's connections.
use Rattle.std.specs.Prelude.{ℕ, Bool, List, [], ◌∷◌, map, filter, bytes_eq, option_map}
use Rattle.nsi_primitive.specs.declared.message.Criteria.{Criteria}
use Rattle.nsi_primitive.specs.declared.message.SummaryRow.{SummaryRow}
use Rattle.nsi_primitive.specs.declared.plane.Plane.{Plane}
use Rattle.connection_record.specs.declared.record.Record.{Record}
use Rattle.connection_record.specs.Demand.{last}
use Rattle.nsi_query.specs.declared.rows.Rows.{Rows}
use Rattle.nsi_query.specs.Cut.{cut, most_summaries}

abbrev pub capacity_of : Criteria → ℕ
capacity_of c = c.capacity

abbrev pub start_of : Criteria → ℕ
start_of c = c.interval.start

abbrev pub end_of : Criteria → ℕ
end_of c = c.interval.end

abbrev pub version_of : Criteria → ℕ
version_of c = c.version

-- a connection, and the status of its data plane
abbrev pub Shown : Type 0
Shown = Record × Plane

-- its row: what it is, and what was committed last
unfoldable pub summary_row : Shown → SummaryRow
summary_row x =
    record {
      active = x.1.active;
      capacity = option_map capacity_of (last x.0.committed);
      connection = x.0.id;
      description = x.0.service.description;
      dest = x.0.service.dest;
      directionality = x.0.service.directionality;
      end = option_map end_of (last x.0.committed);
      global = x.0.service.global;
      lifecycle = x.0.lsm;
      provision = x.0.psm;
      reservation = x.0.rsm;
      source = x.0.service.source;
      start = option_map start_of (last x.0.committed);
      version = option_map version_of (last x.0.committed);
    }

abbrev pub is_of : List ℕ → Shown → Bool
is_of owner x = bytes_eq owner x.0.owner

-- the rows of an owner's connections, in the order in which these stand
abbrev pub summary : List ℕ → List Shown → Rows SummaryRow
summary owner all = cut most_summaries (map summary_row (filter (is_of owner) all))

-- the row of one connection
abbrev pub summary_of : Shown → Rows SummaryRow
summary_of x = cut most_summaries (summary_row x ∷ [])
