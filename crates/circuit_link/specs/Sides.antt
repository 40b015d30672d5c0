-- A view, and what its child's side has: the record, what was said under each correlation, and which requests were taken.
use Rattle.std.specs.Prelude.{ℕ, ◌≡◌, Bool, false, List, ◌++◌, ◌||◌, ◌==◌, map, option_map}
use Rattle.nsi_primitive.specs.declared.message.Body.{Body}
use Rattle.nsi_primitive.specs.declared.message.Criteria.{Criteria}
use Rattle.child_connection.specs.Standing.{Standing}
use Rattle.connection_record.specs.declared.record.Record.{Record}
use Rattle.connection_record.specs.Courses.{answering}
use Rattle.connection_record.specs.Replies.{Moved}
use Rattle.connection_record.specs.Speaking.{owed}

abbrev pub version_of : Criteria → ℕ
version_of c = c.version

-- what a record has of its reservation, as its view stands against it
abbrev pub standing_of : Record → Standing
standing_of r = record { rsm = r.rsm; pending = option_map version_of r.pending; committed = map version_of r.committed }

-- a record, the answers that were said under each correlation, and whether a request under it was taken
pub record Side : Type 0 where
  pub rec : Record
  pub said : ℕ → List Body
  pub seen : ℕ → Bool

-- the side after what the record does by itself
abbrev pub moved : Side → Moved → Side
moved s y = record { rec = y.rec; said = λ c. s.said c ++ answering c y.out; seen = s.seen }

-- the side after the record has taken a request
abbrev pub took_in : ℕ → Side → Moved → Side
took_in c s y = record { rec = y.rec; said = λ d. s.said d ++ answering d y.out; seen = λ d. (d == c) || s.seen d }

-- only under requests that were taken an answer is owed
abbrev pub OwesTaken : Side → Type 0
OwesTaken s = (c n : ℕ) → s.seen c ≡ false → owed c n s.rec ≡ 0
