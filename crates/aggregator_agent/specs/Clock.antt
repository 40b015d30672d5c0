-- How the clock of an aggregator goes on.
use Rattle.std.specs.Prelude.{ℕ, ◌+◌, Bool, true, false, not, List, [], ◌∷◌, ◌++◌, ◌==◌, ◌&&◌, ◌||◌, nat_le, length, map}
use Rattle.std.specs.List.{list_any}
use Rattle.nsi_primitive.specs.Ids.{id_of}
use Rattle.nsi_primitive.specs.Messages.{is_request}
use Rattle.nsi_primitive.specs.declared.kind.Kind.{Kind}
use Rattle.nsi_primitive.specs.declared.message.Body.{Body}
use Rattle.nsi_primitive.specs.declared.message.Message.{Message}
use Rattle.connection_record.specs.declared.record.Record.{Record}
use Rattle.connection_record.specs.declared.moves.Reply.{Reply}
use Rattle.connection_record.specs.Replies.{Moved, stays, reply, noted, addressed}
use Rattle.connection_record.specs.Demand.{last}
use Rattle.connection_record.specs.Moves.{is_live}
use Rattle.connection_record.specs.Lives.{lives_if}
use Rattle.connection_record.specs.Applied.{schedule_end}
use Rattle.agent_state.specs.declared.parent.Due.{Due}
use Rattle.aggregator_agent.specs.declared.agent.Agent.{Agent}

---- Late requests

-- requests to the children of a record were caused at a second
unfoldable pub due_for : (number now : ℕ) → List Message → List Due
due_for number now [] = []
due_for number now (m ∷ ms) = record { number = number; correlation = m.header.correlation; second = now; is_told = false } ∷ due_for number now ms

abbrev pub is_request_under : ℕ → Message → Bool
is_request_under c m = is_request m.body && (m.header.correlation == c)

-- no acknowledgement of a request has come
abbrev pub is_unacknowledged : List Message → ℕ → Bool
is_unacknowledged waiting c = list_any (is_request_under c) waiting

-- how long a request may stay without acknowledgement
abbrev pub most_wait : ℕ
most_wait = 120

-- a request is late where it isn't acknowledged in time, and it is told once
unfoldable pub is_late : ℕ → List Message → Due → Bool
is_late now waiting d = not d.is_told && (nat_le (d.second + most_wait) now && is_unacknowledged waiting d.correlation)

-- the owner is told of a late request under an id of its own
unfoldable pub tells_late : (delivery c now : ℕ) → Record → Moved
tells_late delivery c now r =
    record {
      rec = record r { notices = noted Kind.MessageDeliveryTimeout c now r.notices };
      out =
          reply c
          (Body.MessageDeliveryTimeout (record { connection = r.id; delivery = delivery; notification = length r.notices + 1; time = now })) ∷ [];
    }

-- a record in the course of a tick: what it says, and the number of the next id
pub record Told : Type 0 where
  pub own : Record
  pub out : List Reply
  pub next : ℕ

abbrev pub tells_more : Moved → Told → Told
tells_more x t = record t { out = x.out ++ t.out }

unfoldable pub tell_one : Bool → Agent → ℕ → ℕ → Record → Due → (Record → ℕ → Told) → Told
tell_one true agent now next own d rest =
    tells_more (tells_late d.correlation (id_of agent.number next) now own) (rest (tells_late d.correlation (id_of agent.number next) now own).rec (next + 1))
tell_one false agent now next own d rest = rest own next

abbrev pub is_late_of : ℕ → ℕ → List Message → Due → Bool
is_late_of number now waiting d = (d.number == number) && is_late now waiting d

-- the late requests of a record are told in the order in which they were caused
unfoldable pub tell_all : List Due → Agent → (now number : ℕ) → List Message → Record → ℕ → Told
tell_all [] agent now number waiting own next = record { own = own; out = []; next = next }
tell_all (d ∷ ds) agent now number waiting own next =
    tell_one (is_late_of number now waiting d) agent now next own d (λ r n. tell_all ds agent now number waiting r n)

abbrev pub marked : ℕ → List Message → Due → Due
marked now waiting d = record d { is_told = d.is_told || is_late now waiting d }

-- what is told now isn't told again
abbrev pub told_dues : ℕ → List Message → List Due → List Due
told_dues now waiting dues = map (marked now waiting) dues

---- A tick

-- an aggregator ends no hold by itself; a connection whose schedule is over ends
unfoldable pub ends : (is_live : Bool) → ℕ → Record → Moved
ends true now r = lives_if (schedule_end (last r.committed) now) now r
ends false now r = stays r

-- a record's tick, and its late requests behind it
unfoldable pub clocked : Agent → (now number : ℕ) → List Due → List Message → Record → ℕ → Told
clocked agent now number dues waiting own next =
    tells_more (ends (is_live own.lsm) now own) (tell_all dues agent now number waiting (ends (is_live own.lsm) now own).rec next)

-- the records after a tick, what they say, and the number of the next id
pub record Clocked : Type 0 where
  pub records : List Record
  pub out : List Message
  pub next : ℕ

abbrev pub clock_more : Agent → Told → Clocked → Clocked
clock_more agent t rest = record { records = t.own ∷ rest.records; out = addressed agent.name t.own.owner t.out ++ rest.out; next = rest.next }

unfoldable pub clock_then : Agent → Told → (ℕ → Clocked) → Clocked
clock_then agent t rest = clock_more agent t (rest t.next)

-- each record in order; no child's data plane changes by it, so that none is told
unfoldable pub clock_all : Agent → (now number : ℕ) → List Due → List Message → ℕ → List Record → Clocked
clock_all agent now number dues waiting next [] = record { records = []; out = []; next = next }
clock_all agent now number dues waiting next (r ∷ rs) =
    clock_then agent (clocked agent now number dues waiting r next) (λ n. clock_all agent now (number + 1) dues waiting n rs)
