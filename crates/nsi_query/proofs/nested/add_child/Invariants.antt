use Rattle.std.proofs.Common.{◌≡◌, ◌||◌, ◌++◌, Bool, List, take}
use Rattle.nsi_primitive.specs.declared.message.RecursiveRow.{RecursiveRow}
use Rattle.nsi_query.specs.Cut.{cut_beside, most_nested}
use Rattle.nsi_query.specs.Nested.{deepened, reach_too_deep}
use Rattle.nsi_query.proofs.nested.add_child.Given as goal

-- whatever stood before, the rows so far stand behind it
abbrev pub invariant-loop-row : goal.invariant-loop-row
invariant-loop-row l =
    (missing : Bool) (all : List RecursiveRow) → l.fn.found ≡ cut_beside missing most_nested all →
    let rows = take l.row-index l.row-items in
    l.found ≡ cut_beside (missing || (l.fn.child.more || reach_too_deep rows)) most_nested (all ++ deepened rows)
