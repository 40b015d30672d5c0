-- An agent of a net as it stands in a world.
use Rattle.std.specs.Prelude.{◌≡◌, ◌≤◌, ℕ, List, [], ◌∷◌, ◌++◌, length, IfSome}
use Rattle.std.specs.List.{All}
use Rattle.nsi_primitive.specs.Messages.{identity}
use Rattle.nsi_primitive.specs.declared.entry.Entry.{Entry}
use Rattle.nsi_primitive.specs.declared.entry.Event.{Event}
use Rattle.nsi_primitive.specs.declared.entry.Happening.{Happening}
use Rattle.nsi_primitive.specs.declared.message.Message.{Message}
use Rattle.nsi_primitive.specs.declared.message.Parcel.{Parcel}
use Rattle.nsi_agent.specs.Told.{told}
use Rattle.agent_node.specs.Doors.{Door}
use Rattle.agent_node.specs.Seat.{Seat}
use Rattle.nsi_world.specs.Worlds.{Homes, IsAgent, World, synced_part, said, IsSaidBy, IsTo, IsTaken}
use Rattle.nsi_world.specs.Heard.{IsFair}
use Rattle.nsi_world.specs.Runs.{IsEntered, happens, world_after}

---- Links

-- What may go from one agent to another: a message that the one said to the other, and an acknowledgement of a message that the other one
-- said and the one took by one of these entries.
abbrev pub MayGo : Homes → World → (ℕ → List Entry) → (from to : ℕ) → Parcel → Type 0
MayGo homes w entries from to (Parcel.Message m) = IsSaidBy homes w from m × IsTo homes to m
MayGo homes w entries from to (Parcel.Ack i) = (m : Message) × (identity m ≡ i) × IsTaken homes w entries to from m

-- what came and what was let through is by synced entries, and what is queued is by any
pub record IsDoor (homes : Homes) (w : World) (a : ℕ) (d : Door) : Type 0 where
  pub inc : All (MayGo homes w (synced_part w) d.other a) d.inc
  pub out : All (MayGo homes w (synced_part w) a d.other) d.out
  pub queue : All (MayGo homes w w.journal a d.other) d.queue

---- Seats

-- it has the agent's journal, what it tells of the synced entries is so, and what lies at its doors was said; its clock isn't past the second
pub record Stands (homes : Homes) (clock : ℕ) (w : World) (s : Seat) : Type 0 where
  pub agent : IsAgent homes s.number
  pub journal : w.journal s.number ≡ synced_part w s.number ++ s.fresh
  pub synced : w.synced s.number ≡ s.synced
  pub past : IfSome s.past (λ es. es ≡ synced_part w s.number)
  pub state : (told (homes s.number) (w.journal s.number)).state ≡ s.state
  pub unsaid : (told (homes s.number) (w.journal s.number)).out ≡ said homes w s.number ++ s.unsaid
  pub doors : All (IsDoor homes w s.number) s.doors
  pub in_time : s.state.base.now ≤ clock

---- One after another

-- an event that is allowed, but that there may be no room for its entry
abbrev pub MayBe : Homes → World → ℕ → Happening → Type 0
MayBe homes w a (Happening.Entry e answer) = IsEntered homes w a e answer
MayBe homes w a (Happening.Sync count) = count ≡ length (w.journal a)
MayBe homes w a (Happening.Restart count) = (w.synced a ≤ count) × (count ≤ length (w.journal a))

unfoldable pub AreFree : Homes → World → List Event → Type 0
AreFree homes w [] = Unit {0}
AreFree homes w (e ∷ es) = (IsAgent homes e.agent × MayBe homes w e.agent e.what) × AreFree homes (happens w e) es

-- another agent
abbrev pub Not : ℕ → ℕ → Type 0
Not a b = b ≡ a → ⊥

-- a later world: more is entered and more is synced, and at some agents nothing has happened
pub record Follows (rests : ℕ → Type 0) (w v : World) : Type 0 where
  pub grows : (a : ℕ) → (more : List Entry) × (synced_part v a ≡ synced_part w a ++ more)
  pub enters : (a : ℕ) → (more : List Entry) × (v.journal a ≡ w.journal a ++ more)
  pub others : (a : ℕ) → rests a → (v.journal a ≡ w.journal a) × (v.synced a ≡ w.synced a)

-- it goes on by events that are allowed, and stands so in the world after them
pub record GoesOn (homes : Homes) (clock : ℕ) (w : World) (old new : Seat) : Type 0 where
  pub own : List Event
  pub events : new.events ≡ old.events ++ own
  pub free : AreFree homes w own
  pub follows : Follows (Not old.number) w (world_after w own)
  pub number : new.number ≡ old.number
  pub stands : Stands homes clock (world_after w own) new
  pub fair : IsFair homes (world_after w own)

---- What a restart leaves

-- a later world: more is synced, at some agents nothing has happened, and entries that weren't synced may be gone
pub record Later (rests : ℕ → Type 0) (w v : World) : Type 0 where
  pub grows : (a : ℕ) → (more : List Entry) × (synced_part v a ≡ synced_part w a ++ more)
  pub others : (a : ℕ) → rests a → (v.journal a ≡ w.journal a) × (v.synced a ≡ w.synced a)

-- the same of an agent that perhaps goes on from what its journal has
pub record GoesLater (homes : Homes) (clock : ℕ) (w : World) (old new : Seat) : Type 0 where
  pub own : List Event
  pub events : new.events ≡ old.events ++ own
  pub free : AreFree homes w own
  pub later : Later (Not old.number) w (world_after w own)
  pub number : new.number ≡ old.number
  pub stands : Stands homes clock (world_after w own) new
  pub fair : IsFair homes (world_after w own)
