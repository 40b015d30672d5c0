-- What a record says, and what it counts.
use Rattle.std.specs.Prelude.{ℕ, ◌+◌, List, [], ◌∷◌, ◌++◌, length, Option, Some, None, unwrap_or}
use Rattle.nsi_primitive.specs.declared.kind.Kind.{Kind}
use Rattle.nsi_primitive.specs.declared.kind.ErrorName.{ErrorName}
use Rattle.nsi_primitive.specs.declared.message.Body.{Body}
use Rattle.nsi_primitive.specs.declared.message.Cause.{Cause}
use Rattle.nsi_primitive.specs.declared.message.Criteria.{Criteria}
use Rattle.nsi_primitive.specs.declared.message.Exception.{Exception}
use Rattle.nsi_primitive.specs.declared.message.Message.{Message}
use Rattle.nsi_primitive.specs.declared.message.Notice.{Notice}
use Rattle.nsi_primitive.specs.declared.message.Outcome.{Outcome}
use Rattle.nsi_primitive.specs.declared.message.ReserveConfirmation.{ReserveConfirmation}
use Rattle.nsi_primitive.specs.declared.message.Service.{Service}
use Rattle.connection_record.specs.declared.record.Record.{Record}
use Rattle.connection_record.specs.declared.moves.Reply.{Reply}

-- a record after a step, and what it then says
pub record Moved : Type 0 where
  pub rec : Record
  pub out : List Reply

abbrev pub stays : Record → Moved
stays r = record { rec = r; out = [] }

-- what a row of a table does, and nothing without a row
abbrev pub by_row : {S : Type 0} → Option (S × Option Kind) → (S → Option Kind → Moved) → Record → Moved
by_row None f r = stays r
by_row (Some row) f r = f row.0 row.1

-- more is said behind what was said
abbrev pub behind : List Reply → Moved → Moved
behind out x = record { rec = x.rec; out = out ++ x.out }

-- one move, and then another
abbrev pub then_moves : Moved → (Record → Moved) → Moved
then_moves x f = behind x.out (f x.rec)

abbrev pub reply : ℕ → Body → Reply
reply correlation body = record { correlation = correlation; body = body }

-- the outcomes with one more, numbered from 1
abbrev pub counted : Kind → ℕ → ℕ → List Outcome → List Outcome
counted kind correlation now outcomes = outcomes ++ record { number = length outcomes + 1; kind = kind; correlation = correlation; second = now } ∷ []

-- the notices with one more, numbered from 1
abbrev pub noted : Kind → ℕ → ℕ → List Notice → List Notice
noted kind correlation now notices = notices ++ record { number = length notices + 1; kind = kind; correlation = correlation; second = now } ∷ []

-- what is confirmed: the criteria that are held, and the connection's service
abbrev pub confirmation : ℕ → Service → Criteria → ReserveConfirmation
confirmation id s c =
    record {
      capacity = c.capacity;
      connection = id;
      description = s.description;
      dest = s.dest;
      directionality = s.directionality;
      end = c.interval.end;
      global = s.global;
      source = s.source;
      start = c.interval.start;
      symmetric = s.symmetric;
      version = c.version;
    }

-- an exception that is its error name alone
abbrev pub plain : List ℕ → ErrorName → Exception
plain agent error = record { nsa = agent; cause = Cause.Plain error }

-- the correlation that is there, or the one that is nobody's
abbrev pub id_or : Option ℕ → ℕ
id_or request = unwrap_or request 0

-- replies with their header: the agent answers the owner of the connection
abbrev pub addressed : List ℕ → List ℕ → List Reply → List Message
addressed agent owner [] = []
addressed agent owner (x ∷ xs) = record { header = record { correlation = x.correlation; requester = owner; provider = agent }; body = x.body } ∷ addressed agent owner xs
