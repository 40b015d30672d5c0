-- What a history has of one caller, and what it has of none.
use Rattle.std.specs.Prelude.{ℕ, ◌+◌, ◌==◌, ◌&&◌, not, Bool, true, false, List, [], ◌∷◌, ◌++◌, map, if◌then◌else◌, Option, Some, None, slice_get}
use Rattle.std.specs.Option.{option_map, option_and_then}
use Rattle.nsi_primitive.specs.Messages.{is_request}
use Rattle.nsi_primitive.specs.declared.entry.Entry.{Entry}
use Rattle.nsi_primitive.specs.declared.entry.Event.{Event}
use Rattle.nsi_primitive.specs.declared.entry.Happening.{Happening}
use Rattle.nsi_primitive.specs.declared.entry.Input.{Input}
use Rattle.nsi_primitive.specs.declared.message.Message.{Message}
use Rattle.nsi_primitive.specs.declared.state.Machine.{Machine}
use Rattle.connection_record.specs.declared.record.Record.{Record}
use Rattle.stp_topology.specs.declared.network.Network.{Network}
use Rattle.stp_topology.specs.declared.network.AgentKind.{AgentKind}
use Rattle.stp_topology.specs.Network.{agent_of, kind_of}
use Rattle.provider_agent.specs.Setting.{setting_of, own_stp}
use Rattle.provider_agent.specs.State.{State, Stepped}
use Rattle.provider_agent.specs.Steps.{after, waiting_work}
use Rattle.race_run.specs.declared.item.Item.{Item}

---- Whose an entry is

-- what an entry makes of a provider of the network
abbrev pub after_at : Network → ℕ → State → Entry → Stepped
after_at t p s e = after (setting_of t p) (own_stp t p) s e

abbrev pub owner_name : Record → List ℕ
owner_name r = r.owner

abbrev pub requester_of : Message → Option (List ℕ)
requester_of m = if is_request m.body then Some m.header.requester else None

-- the requester of a request; of work, the owner of the record
abbrev pub asker : State → Input → Option (List ℕ)
asker s (Input.Got m) = requester_of m
asker s (Input.Work n machine) = option_map owner_name (slice_get s.records n)
asker s _ = None

-- its agent
abbrev pub owner : Network → State → Input → Option ℕ
owner t s input = option_and_then (agent_of t) (asker s input)

abbrev pub is_one : ℕ → Option ℕ → Bool
is_one a None = false
is_one a (Some b) = b == a

-- whether an entry is a request of the agent, or work on a record that it owns
abbrev pub is_own : Network → ℕ → State → Input → Bool
is_own t a s input = is_one a (owner t s input)

---- What stands in a list

abbrev pub entered : ℕ → Entry → Event
entered agent e = record { agent = agent; what = Happening.Entry e None }

abbrev pub item : ℕ → Event → Item
item place event = record { place = place; event = event }

abbrev pub got : ℕ → Message → Entry
got clock m = record { second = clock; input = Input.Got m }

-- a message, as the caller takes it
abbrev pub heard_item : (a clock place : ℕ) → Message → Item
heard_item a clock place m = item place (entered a (got clock m))

-- an entry, and the caller's Gots of what it causes
abbrev pub entry_items : Network → (p a clock place : ℕ) → State → Entry → List Item
entry_items t p a clock place s e = item place (entered p e) ∷ map (heard_item a clock place) (after_at t p s e).out

---- Along a history

-- the provider's state behind an event
abbrev pub state_by : Network → ℕ → State → Happening → State
state_by t p s (Happening.Entry e answer) = (after_at t p s e).state
state_by t p s _ = s

unfoldable pub state_gone : Network → ℕ → State → List Event → State
state_gone t p s [] = s
state_gone t p s (x ∷ xs) = state_gone t p (state_by t p s x.what) xs

abbrev pub entry_in : Happening → Option Entry
entry_in (Happening.Entry e answer) = Some e
entry_in _ = None

-- what each event adds to a list, one behind the other
unfoldable pub along : Network → ℕ → (ℕ → State → Option Entry → List Item) → State → ℕ → List Event → List Item
along t p adds s place [] = []
along t p adds s place (x ∷ xs) = adds place s (entry_in x.what) ++ along t p adds (state_by t p s x.what) (place + 1) xs

abbrev pub found_at : Network → (p a clock place : ℕ) → State → Option Entry → List Item
found_at t p a clock place s (Some e) = if is_own t a s e.input then entry_items t p a clock place s e else []
found_at t p a clock place s None = []

-- each request of a caller, and each work on a record that it owns; behind each, at the same place, its Gots of what that causes
abbrev pub found : Network → (p a clock : ℕ) → State → ℕ → List Event → List Item
found t p a clock s place events = along t p (found_at t p a clock) s place events

abbrev pub is_tick : Input → Bool
is_tick Input.Tick = true
is_tick _ = false

abbrev pub tick_at : ℕ → ℕ → State → Option Entry → List Item
tick_at p place s (Some e) = if is_tick e.input then item place (entered p e) ∷ [] else []
tick_at p place s None = []

-- the ticks
abbrev pub ticks : Network → ℕ → State → ℕ → List Event → List Item
ticks t p s place events = along t p (tick_at p) s place events

-- the agent asks the provider
abbrev pub asks_at : ℕ → Option AgentKind → Bool
asks_at p (Some (AgentKind.Requester provider)) = provider == p
asks_at p _ = false

abbrev pub is_caller : Network → ℕ → Option ℕ → Bool
is_caller t p None = false
is_caller t p (Some a) = asks_at p (kind_of t a)

-- whether an entry is no tick, and no caller's
abbrev pub is_stray : Network → ℕ → State → Input → Bool
is_stray t p s input = not (is_tick input) && not (is_caller t p (owner t s input))

abbrev pub stray_at : Network → ℕ → ℕ → State → Option Entry → List Item
stray_at t p place s (Some e) = if is_stray t p s e.input then item place (entered p e) ∷ [] else []
stray_at t p place s None = []

-- entries that are neither ticks nor in the list of any caller
abbrev pub strays : Network → ℕ → State → ℕ → List Event → List Item
strays t p s place events = along t p (stray_at t p) s place events

abbrev pub work_entry : ℕ → ℕ × Machine → Entry
work_entry now w = record { second = now; input = Input.Work w.0 w.1 }

abbrev pub work_item : (p place now : ℕ) → Option (ℕ × Machine) → List Item
work_item p place now None = []
work_item p place now (Some w) = item place (entered p (work_entry now w)) ∷ []

-- the first work that waits at the end, at the place behind it
abbrev pub waits : ℕ → ℕ → State → List Item
waits p place s = work_item p place s.now (waiting_work s)
