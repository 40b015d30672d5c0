-- An entry on its way through the connections of which it makes something.
use Rattle.std.specs.Prelude.{◌≡◌, ◌<◌, ◌++◌, ℕ, List, [], length, Contains, Result, OnOk}
use Rattle.std.specs.List.Sorted.{IsStrictlyIncreasing}
use Rattle.std.specs.declared.alloc.AllocError.{AllocError}
use Rattle.connection_record.specs.declared.record.Record.{Record}
use Rattle.aggregator_agent.specs.declared.clock.Telling.{Telling}
use Rattle.aggregator_agent.specs.declared.rounds.Round.{Round}
use Rattle.aggregator_agent.specs.Clock.{Told}
use Rattle.aggregator_agent.specs.Bonds.{Bond, Done, bond_at}

-- none is done, and nothing is said
pub record IsBegun (r : Round) : Type 0 where
  pub kept : r.kept.items ≡ []
  pub out : r.said.out.items ≡ []
  pub dues : r.said.dues.items ≡ []

-- nothing is made of a connection, and nothing is said
abbrev pub still : Bond → ℕ → Done
still b next = record { bond = b; out = []; dues = []; next = next }

-- places in rising order, at which all connections stand of which something is made
pub record AreTouched (does : (number next : ℕ) → Bond → Done) (bs : List Bond) (places : List ℕ) : Type 0 where
  pub rising : IsStrictlyIncreasing places
  pub within : (n : ℕ) → Contains places n → n < length bs
  pub others : (n : ℕ) → n < length bs → (Contains places n → ⊥) → (next : ℕ) → does n next (bond_at n bs) ≡ still (bond_at n bs) next

-- nothing more is told
abbrev pub told_so : Record → ℕ → Told
told_so own next = record { own = own; out = []; next = next }

-- a record in the course of a tick, what it says behind the rest, and the number of the next id
pub record IsToldBy {X : Type 0} (old new : Telling) (own : Record) (result : Result X AllocError) (x : Told) : Type 0 where
  pub rec : OnOk result (own ≡ x.own)
  pub out : OnOk result (new.replies.items ≡ old.replies.items ++ x.out)
  pub next : OnOk result (new.next ≡ x.next)
