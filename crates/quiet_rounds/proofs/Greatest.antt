-- What is so at each door of each agent, and the greatest numbers.
use Rattle.std.proofs.Common.{ℕ, ◌≤◌, ◌<◌, List, [], ◌∷◌, refl, length, get_or, le_trans, zero-le}
use Rattle.std.specs.List.{All}
use Rattle.std.proofs.lemmas.List.Recursion.{max_bounds, max_least}
use Rattle.agent_node.specs.Doors.{Door}
use Rattle.agent_node.specs.Seat.{Seat}
use Rattle.nsi_play.specs.Rounds.{Net}
use Rattle.quiet_rounds.specs.Left.{greatest_at, greatest}

-- so it is at each door of an agent
abbrev pub HasAll : (Door → Type 0) → Seat → Type 0
HasAll P s = All P s.doors

-- and of all agents
abbrev pub AtDoors : (Door → Type 0) → Net → Type 0
AtDoors P net = All (HasAll P) net

abbrev pub IsAtMost : (Door → ℕ) → ℕ → Door → Type 0
IsAtMost f n d = f d ≤ n

at_covers : (f : Door → ℕ) (ds : List Door) → All (IsAtMost f (greatest_at f ds)) ds
at_covers f ds i d lt = max_bounds (greatest_at f) f refl (λ x xs. refl) ds i d lt

seat_covers : (f : Door → ℕ) (net : Net) (i : ℕ) (s : Seat) → i < length net → greatest_at f (get_or net i s).doors ≤ greatest f net
seat_covers f net i s lt = max_bounds (greatest f) (λ (u : Seat). greatest_at f u.doors) refl (λ x xs. refl) net i s lt

pub covers : (f : Door → ℕ) (net : Net) → AtDoors (IsAtMost f (greatest f net)) net
covers f net i s lt k d inside = le_trans (at_covers f (get_or net i s).doors k d inside) (seat_covers f net i s lt)

at_least : (f : Door → ℕ) (n : ℕ) (ds : List Door) → All (IsAtMost f n) ds → greatest_at f ds ≤ n
at_least f n [] h = zero-le
at_least f n (d ∷ ds) h = max_least (greatest_at f) f refl (λ x xs. refl) (d ∷ ds) d n (λ i lt. h i d lt)

pub least : (f : Door → ℕ) (n : ℕ) (net : Net) → AtDoors (IsAtMost f n) net → greatest f net ≤ n
least f n [] h = zero-le
least f n (s ∷ ss) h = max_least (greatest f) (λ (u : Seat). greatest_at f u.doors) refl (λ x xs. refl) (s ∷ ss) s n (λ i lt. at_least f n (get_or (s ∷ ss) i s).doors (h i s lt))
