use Rattle.std.proofs.Common.{◌≡◌, ◌≤◌, ℕ, [], get_or, length}
use Rattle.nsi_script.proofs.labels.make_room.Given as goal

abbrev pub invariant-loop-n : goal.invariant-loop-n
invariant-loop-n l = record {
  same : (a : ℕ) → get_or l.tables.items a [] ≡ get_or l.initial.tables.items a [];
  room : l.n ≤ length l.tables.items;
}
