-- What a child keeps and has said, as the view of one of its connections stands against it.
use Rattle.std.specs.Prelude.{ℕ, ◌≡◌, Bool, true, false, not, List, [], ◌∷◌, ◌++◌, length, ◌<◌, Contains, Option, Some, None, ◌&&◌, ◌⊎◌, if◌then◌else◌}
use Rattle.nsi_primitive.specs.Messages.{has_rows}
use Rattle.nsi_primitive.specs.declared.message.Body.{Body}
use Rattle.nsi_primitive.specs.declared.message.Header.{Header}
use Rattle.nsi_primitive.specs.declared.message.Message.{Message}
use Rattle.message_retry.specs.Taken.{is_taken, is_same_request}
use Rattle.connection_record.specs.declared.record.Record.{Record}
use Rattle.connection_record.specs.Speaking.{is_answering, owed}
use Rattle.agent_state.specs.State.{no_record, record_at}
use Rattle.circuit_link.specs.Sides.{Side}
use Rattle.circuit_link.specs.Headers.{header_of}

-- its records, the requests that it has taken, and all that it has said
pub record Child : Type 0 where
  pub records : List Record
  pub seen : List Header
  pub said : List Message

-- the child with other records, other requests taken, and more said
abbrev pub goes_on : Child → List Record → List Header → List Message → Child
goes_on d records seen out = record { records = records; seen = seen; said = d.said ++ out }

-- an answer that a view may listen to: rows that answer a query concern no view
abbrev pub is_for_views : Body → Bool
is_for_views body = is_answering body && not (has_rows body)

-- the answers for views that were said under a header
unfoldable pub about : Header → List Message → List Body
about h [] = []
about h (m ∷ ms) = if is_for_views m.body && is_same_request h m.header then m.body ∷ about h ms else about h ms

-- what concerns no view
abbrev pub TellsNothing : List Message → Type 0
TellsNothing out = (h : Header) → about h out ≡ []

-- what may reach a view under a header: an answer for views that was said, or rows
abbrev pub MayReach : Header → List Message → Body → Type 0
MayReach h said body = Contains (about h said) body ⊎ (has_rows body ≡ true)

-- the record at a place; a view without one has the record of nothing
unfoldable pub record_of : Option ℕ → List Record → Record
record_of None rs = no_record
record_of (Some n) rs = record_at n rs

-- the child's side of a view that has its record at that place
abbrev pub side_of : (parent child : List ℕ) → Option ℕ → Child → Side
side_of parent child place d =
    record {
      rec = record_of place d.records;
      said = λ c. about (header_of parent child c) d.said;
      seen = λ c. is_taken (header_of parent child c) d.seen;
    }

-- what is true of a child: under a request that it hasn't taken it has said nothing, and owes nothing; no two records have one id
pub record IsFair (parent child : List ℕ) (d : Child) : Type 0 where
  pub silent : (c : ℕ) → is_taken (header_of parent child c) d.seen ≡ false → about (header_of parent child c) d.said ≡ []
  pub unowed : (c n k : ℕ) → is_taken (header_of parent child c) d.seen ≡ false → (record_at n d.records).owner ≡ parent → owed c k (record_at n d.records) ≡ 0
  pub ids : (n k : ℕ) → n < length d.records → k < length d.records → (record_at n d.records).id ≡ (record_at k d.records).id → n ≡ k
