-- One agent of a net: what it keeps, what it has to say, and its ends of the links.
use Rattle.std.specs.Prelude.{ℕ, Bool, true, false, List, [], ◌∷◌, ◌++◌, Option}
use Rattle.nsi_primitive.specs.declared.ask.AskAnswer.{AskAnswer}
use Rattle.nsi_primitive.specs.declared.entry.Entry.{Entry}
use Rattle.nsi_primitive.specs.declared.entry.Event.{Event}
use Rattle.nsi_primitive.specs.declared.entry.Happening.{Happening}
use Rattle.nsi_primitive.specs.declared.entry.Input.{Input}
use Rattle.nsi_primitive.specs.declared.message.Message.{Message}
use Rattle.nsi_primitive.specs.declared.message.Parcel.{Parcel}
use Rattle.agent_state.specs.State.{AgentState, AgentStepped}
use Rattle.nsi_agent.specs.Homes.{Home}
use Rattle.nsi_agent.specs.Steps.{after}
use Rattle.agent_node.specs.Doors.{queue_at}
pub use Rattle.agent_node.specs.Doors.{Door, change_first}
pub use Rattle.agent_node.specs.Passing.{says_all}

-- its number, what it keeps, its synced entries where these are told, how many they are and which stand behind these, what these cause,
-- what has happened and isn't taken away, and its doors by the others' numbers
pub record Seat : Type 0 where
  pub number : ℕ
  pub state : AgentState
  pub past : Option (List Entry)
  pub synced : ℕ
  pub fresh : List Entry
  pub unsaid : List Message
  pub events : List Event
  pub doors : List Door

---- Entries

abbrev pub entered : ℕ → Entry → Option AskAnswer → Event
entered n e answer = record { agent = n; what = Happening.Entry e answer }

abbrev pub enters_with : Entry → AgentStepped → Seat → Seat
enters_with e x s =
    record s {
      state = x.state;
      fresh = s.fresh ++ e ∷ [];
      unsaid = s.unsaid ++ x.out;
      events = s.events ++ entered s.number e x.answer ∷ [];
    }

-- it takes an entry, which is an event; what the entry causes isn't said yet
unfoldable pub enters : Home → Entry → Seat → Seat
enters h e s = enters_with e (after h s.state e) s

abbrev pub now_at : Seat → Input → Entry
now_at s input = record { second = s.state.base.now; input = input }

-- the same now
abbrev pub enters_now : Home → Input → Seat → Seat
enters_now h input s = enters h (now_at s input) s

-- the same, where it is due
unfoldable pub enters_if : Bool → Home → Input → Seat → Seat
enters_if true h input s = enters_now h input s
enters_if false h input s = s

---- Doors

abbrev pub queues : ℕ → Parcel → Seat → Seat
queues to p s = record s { doors = queue_at to p s.doors }
