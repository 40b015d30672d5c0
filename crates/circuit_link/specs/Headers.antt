-- The header of a request to a child.
use Rattle.std.specs.Prelude.{ℕ, List}
use Rattle.nsi_primitive.specs.declared.message.Header.{Header}

abbrev pub header_of : (parent child : List ℕ) → ℕ → Header
header_of parent child c = record { correlation = c; requester = parent; provider = child }
