use Rattle.std.proofs.Common.{◌<◌, List, length, vec_len}
use Rattle.std.specs.List.{Contains}
use Rattle.aggregator_agent.specs.declared.keeping.Kept.{Kept}
use Rattle.aggregator_agent.specs.Bonds.{Bond, bonds}
use Rattle.aggregator_agent.specs.Undo.{CanUndo}
use Rattle.aggregator_agent.proofs.keeping.go_back.Given as goal

abbrev pub invariant-loop-one : goal.invariant-loop-one
invariant-loop-one l =
    record {
      undo : (was : List Bond) → CanUndo was (bonds l.initial.connections.items) l.fn.kept.items → CanUndo was (bonds l.connections.items) l.kept.items;
      within : (k : Kept) → Contains l.kept.items k → k.place < length l.connections.items;
    }

abbrev pub decreases-loop-one : goal.decreases-loop-one
decreases-loop-one l = vec_len l.kept
