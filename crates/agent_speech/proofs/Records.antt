-- A record that is pushed.
use Rattle.std.proofs.Common.{◌≡◌, List, [], ◌∷◌, ◌++◌, length, refl}
use Rattle.connection_record.specs.declared.record.Record.{Record}
use Rattle.agent_state.specs.State.{record_at}

-- it stands behind the others
pub record_pushed : (rs : List Record) (r : Record) → record_at (length rs) (rs ++ r ∷ []) ≡ r
record_pushed [] r = refl
record_pushed (x ∷ xs) r = record_pushed xs r
