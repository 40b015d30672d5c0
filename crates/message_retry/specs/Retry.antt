-- Messages that wait for their acknowledgement, and messages that were taken.
use Rattle.std.specs.Prelude.{Bool, true, false, List, [], ◌∷◌, ◌++◌, ◌&&◌, ◌==◌, if◌then◌else◌}
use Rattle.std.specs.List.{list_any}
use Rattle.std.specs.Str.{bytes_eq}
use Rattle.nsi_primitive.specs.Messages.{identity, is_request}
use Rattle.nsi_primitive.specs.Kinds.{kind_number}
use Rattle.nsi_primitive.specs.declared.message.Header.{Header}
use Rattle.nsi_primitive.specs.declared.message.Identity.{Identity}
use Rattle.nsi_primitive.specs.declared.message.Message.{Message}
use Rattle.message_retry.specs.Taken.{is_taken, with_taken}

-- what waits, in the order in which it was put; the requests that were taken; and the identities of all else that was taken
pub record Retry : Type 0 where
  pub waiting : List Message
  pub seen : List Header
  pub heard : List Identity

abbrev pub no_retry : Retry
no_retry = record { waiting = []; seen = []; heard = [] }

-- one message: the same agents, correlationId and kind
abbrev pub is_same_identity : Identity → Identity → Bool
is_same_identity i j = bytes_eq i.requester j.requester && (bytes_eq i.provider j.provider && ((i.correlation == j.correlation) && (kind_number i.kind == kind_number j.kind)))

-- whether a message of this identity was taken, that is no request
unfoldable pub is_heard : Identity → List Identity → Bool
is_heard i heard = list_any (is_same_identity i) heard

-- the identities with one more, where it wasn't among them
unfoldable pub with_heard : Identity → List Identity → List Identity
with_heard i heard = if is_heard i heard then heard else heard ++ i ∷ []

-- whether a message was taken before: of a request the kind doesn't count
unfoldable pub is_old : Message → Retry → Bool
is_old m t = if is_request m.body then is_taken m.header t.seen else is_heard (identity m) t.heard

-- a message is taken
abbrev pub saw_if : (is_request : Bool) → Message → Retry → Retry
saw_if true m t = record t { seen = with_taken m.header t.seen }
saw_if false m t = record t { heard = with_heard (identity m) t.heard }

unfoldable pub saw : Message → Retry → Retry
saw m t = saw_if (is_request m.body) m t

-- whether a message of this identity waits
unfoldable pub is_waiting : Identity → List Message → Bool
is_waiting i waiting = list_any (λ m. is_same_identity i (identity m)) waiting

-- the messages without the first of an identity
unfoldable pub without : Identity → List Message → List Message
without i [] = []
without i (m ∷ ms) = if is_same_identity i (identity m) then ms else m ∷ without i ms
