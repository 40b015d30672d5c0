use Rattle.std.proofs.Common.{length, drop, ◌-◌, ◌≡◌, ◌+◌, ◌≤◌}
use Rattle.json_fields.specs.Members.{place_in}
use Rattle.json_fields.specs.Ranks.{rank_of}
use Rattle.json_fields.proofs.object.put.place_in.Given as goal

abbrev pub invariant-loop-place : goal.invariant-loop-place
invariant-loop-place l =
    (l.place ≤ length l.members)
    × (l.rank ≡ rank_of l.fn.key)
    × (place_in l.fn.key l.members ≡ l.place + place_in l.fn.key (drop l.place l.members))

abbrev pub decreases-loop-place : goal.decreases-loop-place
decreases-loop-place l = length l.members - l.place
