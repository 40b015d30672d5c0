-- What goes through doors.
use Rattle.std.specs.Prelude.{ℕ, ◌≡◌, ◌==◌, ◌&&◌, Bool, true, false, List, [], ◌∷◌, ◌++◌, length, map, flat_map, if◌then◌else◌, Option, Some, None}
use Rattle.std.specs.List.{list_any, list_all}
use Rattle.nsi_primitive.specs.Messages.{identity, addressee}
use Rattle.nsi_primitive.specs.declared.message.Identity.{Identity}
use Rattle.nsi_primitive.specs.declared.message.Message.{Message}
use Rattle.nsi_primitive.specs.declared.message.Parcel.{Parcel}
use Rattle.message_retry.specs.Retry.{is_same_identity}
use Rattle.nsi_primitive.specs.Printable.{IsPrintableParcel}
use Rattle.agent_link.specs.Link.{Wire, is_full}
use Rattle.agent_link.specs.Plans.{Plan}
use Rattle.agent_link.specs.Fates.{comes, passed}
use Rattle.agent_node.specs.Doors.{Door, queue_at}

-- to whom links go
abbrev pub other_of : Door → ℕ
other_of d = d.other

abbrev pub others : List Door → List ℕ
others ds = map other_of ds

abbrev pub queue_if : Option ℕ → Parcel → List Door → List Door
queue_if (Some to) p ds = queue_at to p ds
queue_if None p ds = ds

-- a message is queued for its addressee
abbrev pub says : (List ℕ → Option ℕ) → Message → List Door → List Door
says agent_of m ds = queue_if (agent_of (addressee (identity m))) (Parcel.Message m) ds

-- messages are queued, in order, each for its addressee
unfoldable pub says_all : (List ℕ → Option ℕ) → List Message → List Door → List Door
says_all agent_of [] ds = ds
says_all agent_of (m ∷ ms) ds = says_all agent_of ms (says agent_of m ds)

-- what is left of a queue, what was let through, and what is planned from there on
pub record Passing : Type 0 where
  pub queue : List Parcel
  pub out : List Parcel
  pub plan : Plan

-- the front of a queue is put on a link, as far as it takes it
unfoldable pub passes : List Parcel → Plan → List Parcel → Passing
passes [] plan out = record { queue = []; out = out; plan = plan }
passes (p ∷ ps) plan out = if is_full p plan out then record { queue = p ∷ ps; out = out; plan = plan } else passes ps (passed p plan) (out ++ comes p plan)

-- the door behind that
abbrev pub with_passing : Passing → Door → Door
with_passing x d = record d { queue = x.queue; out = x.out; plan = x.plan }

-- the front of its queue is pushed
abbrev pub pushes : Door → Door
pushes d = with_passing (passes d.queue d.plan d.out) d

abbrev pub is_message : Identity → Parcel → Bool
is_message i (Parcel.Message m) = is_same_identity i (identity m)
is_message i (Parcel.Ack j) = false

abbrev pub has_queued : Identity → Door → Bool
has_queued i d = list_any (is_message i) d.queue

-- whether a message of this identity is queued
abbrev pub is_queued : Identity → List Door → Bool
is_queued i ds = list_any (has_queued i) ds

-- what came through a door, each parcel with the sender's number
abbrev pub come_through : Door → List (ℕ × Parcel)
come_through d = map (λ p. (d.other, p)) d.inc

-- what came, by the senders' numbers, and in order
abbrev pub lying : List Door → List (ℕ × Parcel)
lying ds = flat_map come_through ds

-- a parcel that can be written, with its sender
abbrev pub IsPrintableCome : ℕ × Parcel → Type 0
IsPrintableCome x = IsPrintableParcel x.1

abbrev pub clears : Door → Door
clears d = record d { inc = [] }

-- nothing is to be pushed and nothing came
abbrev pub is_idle : Door → Bool
is_idle d = (length d.queue == 0) && (length d.inc == 0)

abbrev pub all_idle : List Door → Bool
all_idle ds = list_all is_idle ds

-- what the first link to an agent let through
unfoldable pub let_through : ℕ → List Door → List Parcel
let_through to [] = []
let_through to (d ∷ ds) = if d.other == to then d.out else let_through to ds

abbrev pub learns : List Parcel → Door → Door
learns ps d = record d { inc = ps; out = [] }

-- nothing was let through since they met, and nothing came
abbrev pub is_still : Door → Bool
is_still d = (length d.out == 0) && (length d.inc == 0)

abbrev pub all_still : List Door → Bool
all_still ds = list_all is_still ds

-- the same of the first door to an agent, where there is one
unfoldable pub is_still_to : ℕ → List Door → Bool
is_still_to to [] = true
is_still_to to (d ∷ ds) = if d.other == to then is_still d else is_still_to to ds

-- nothing was let through since they met
abbrev pub HasMet : Door → Type 0
HasMet d = d.out ≡ []

-- the wires of both ways of a link
pub record Plug : Type 0 where
  pub other : ℕ
  pub out : Wire
  pub inc : Wire

-- those of the first link to an agent
unfoldable pub plug_to : ℕ → List Plug → Option (Wire × Wire)
plug_to n [] = None
plug_to n (p ∷ ps) = if p.other == n then Some (p.out, p.inc) else plug_to n ps

-- the same seen from the other end
abbrev pub crossed : Option (Wire × Wire) → Option (Wire × Wire)
crossed None = None
crossed (Some w) = Some (w.1, w.0)
