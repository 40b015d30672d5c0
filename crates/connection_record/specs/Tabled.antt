-- What is done to a record as a row of a written table says.
use Rattle.std.specs.Prelude.{◌≡◌, List, [], ◌∷◌, Option, Some, None, option_to_list}
use Rattle.nsi_primitive.specs.Messages.{kind_of}
use Rattle.nsi_primitive.specs.declared.kind.Kind.{Kind}
use Rattle.connection_record.specs.declared.record.Record.{Record}
use Rattle.connection_record.specs.declared.moves.Reply.{Reply}
use Rattle.connection_record.specs.Replies.{Moved, stays}

-- the row's next state, or the same where there is no row
abbrev pub next_or : {S : Type 0} → S → Option (S × Option Kind) → S
next_or state None = state
next_or state (Some row) = row.0

-- the kind of the row's message, where there is a row and it has one
abbrev pub message_of : {S : Type 0} → Option (S × Option Kind) → List Kind
message_of None = []
message_of (Some row) = option_to_list row.1

abbrev pub kinds : List Reply → List Kind
kinds [] = []
kinds (x ∷ xs) = kind_of x.body ∷ kinds xs

-- the machine's new state and what is said are the row's; without a row nothing changes
pub record FollowsRow {S : Type 0} (row : Option (S × Option Kind)) (old new : S) (r : Record) (x : Moved) : Type 0 where
  pub state : new ≡ next_or old row
  pub says : kinds x.out ≡ message_of row
  pub without : row ≡ None → x ≡ stays r
