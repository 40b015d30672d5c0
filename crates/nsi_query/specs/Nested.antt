-- What is told of a connection and of those below it.
use Rattle.std.specs.Prelude.{ℕ, ◌+◌, Bool, ◌||◌, nat_lt, nat_le, List, ◌∷◌, map, filter, option_map}
use Rattle.std.specs.List.{list_any, flat_map}
use Rattle.nsi_primitive.specs.declared.message.RecursiveRow.{RecursiveRow}
use Rattle.connection_record.specs.declared.record.Record.{Record}
use Rattle.connection_record.specs.Demand.{last}
use Rattle.nsi_query.specs.declared.rows.Rows.{Rows}
use Rattle.nsi_query.specs.Cut.{cut_beside, most_nested}
use Rattle.nsi_query.specs.Summary.{version_of}

-- the row of an agent's own connection, which is that at depth 0
unfoldable pub own_row : List ℕ → Record → RecursiveRow
own_row agent r =
    record {
      connection = r.id;
      depth = 0;
      lifecycle = r.lsm;
      provider = agent;
      provision = r.psm;
      reservation = r.rsm;
      version = option_map version_of (last r.committed);
    }

-- no row is deeper than 255
abbrev pub can_go_deeper : RecursiveRow → Bool
can_go_deeper row = nat_lt row.depth 255

abbrev pub is_deepest : RecursiveRow → Bool
is_deepest row = nat_le 255 row.depth

abbrev pub deeper : RecursiveRow → RecursiveRow
deeper row = record row { depth = row.depth + 1 }

-- rows, one deeper, without those that can't be
abbrev pub deepened : List RecursiveRow → List RecursiveRow
deepened rows = map deeper (filter can_go_deeper rows)

-- whether there are some that can't be
abbrev pub reach_too_deep : List RecursiveRow → Bool
reach_too_deep rows = list_any is_deepest rows

-- what a child answered, one deeper
abbrev pub below : Rows RecursiveRow → List RecursiveRow
below child = deepened child.rows

-- whether the child left rows out, or some of its rows can't go deeper
abbrev pub lacks_rows : Rows RecursiveRow → Bool
lacks_rows child = child.more || reach_too_deep child.rows

-- the own row, and behind it those of the children in their order
abbrev pub nest : RecursiveRow → List (Rows RecursiveRow) → Rows RecursiveRow
nest own children = cut_beside (list_any lacks_rows children) most_nested (own ∷ flat_map below children)
