-- A book, as its users see it, and what is true of every one.
use Rattle.std.specs.Prelude.{◌≡◌, ◌⊎◌, ◌<◌, ◌+◌, ℕ, List, [], ◌∷◌, ◌++◌, length, Option, None, Result, Ok, IfSome}
use Rattle.nsi_primitive.specs.declared.entry.Entry.{Entry}
use Rattle.nsi_primitive.specs.declared.entry.Event.{Event}
use Rattle.nsi_primitive.specs.declared.entry.Happening.{Happening}
use Rattle.stp_topology.specs.declared.network.Network.{Network}
use Rattle.stp_topology.specs.Sound.{IsProvider}
use Rattle.nsi_disk.specs.Disk.{History, Meter, MayLeave}
use Rattle.provider_agent.specs.Setting.{setting_of, own_stp}
use Rattle.provider_agent.specs.State.{State, Stepped, blank}
use Rattle.provider_agent.specs.Steps.{after}
use Rattle.provider_agent.specs.Safety.{IsCapped}
use Rattle.provider_agent.specs.Events.{synced_part}
use Rattle.provider_agent.specs.Replay.{replayed}
use Rattle.agent_state.specs.Entries.{most_entries}
use Rattle.shared_provider.specs.History.{journal_of, IsHistory}

-- the provider: its topology, its number, what it keeps, what happened to it; and how many faults of its disk closed it, 0 or 1
pub record Book : Type 0 where
  pub network : Network
  pub agent : ℕ
  pub state : State
  pub events : List Event
  pub faults : ℕ

-- and the counts of its disk
pub record Held : Type 0 where
  pub book : Book
  pub meter : Meter

-- nothing happened yet
abbrev pub fresh : Network → ℕ → Book
fresh network agent = record { network = network; agent = agent; state = blank; events = []; faults = 0 }

-- how many calls of a disk have failed or stopped it
abbrev pub counted : Meter → ℕ
counted m = m.faults + m.stops

---- What an entry makes

abbrev pub steps : Book → Entry → Stepped
steps b e = after (setting_of b.network b.agent) (own_stp b.network b.agent) b.state e

abbrev pub enter : ℕ → Entry → Event
enter agent e = record { agent = agent; what = Happening.Entry e None }

abbrev pub sync : ℕ → ℕ → Event
sync agent count = record { agent = agent; what = Happening.Sync count }

-- with an entry that isn't synced
abbrev pub with_entry : Entry → Book → Book
with_entry e b = record b { events = b.events ++ enter b.agent e ∷ []; state = (steps b e).state }

-- with an entry and its sync
abbrev pub entered : Entry → Book → Book
entered e b = record b { events = b.events ++ enter b.agent e ∷ sync b.agent (b.state.taken + 1) ∷ []; state = (steps b e).state }

-- after a fault of its disk
abbrev pub closed : Book → Book
closed b = record b { faults = 1 }

-- it takes entries
pub record IsOpen (b : Book) : Type 0 where
  pub running : b.faults ≡ 0
  pub room : b.state.taken < most_entries

---- What is true of every book

-- bytes read as its synced entries; or, where it is closed, maybe as all
abbrev pub IsRead : (List ℕ → Result (List Entry) ℕ) → Book → List ℕ → Type 0
IsRead reading b bytes = (reading bytes ≡ Ok (synced_part (journal_of b.events))) ⊎ ((0 < b.faults) × (reading bytes ≡ Ok (journal_of b.events).entries))

-- a crash now leaves such bytes
abbrev pub Recovers : (List ℕ → Result (List Entry) ℕ) → Book → Option History → Type 0
Recovers reading b disk = IfSome disk (λ h. (c : List ℕ) → MayLeave h c → IsRead reading b c)

-- Its history is one of its provider, which has what the history's entries make, and no load passes a capacity there. All is synced while it is open.
-- It is closed exactly where its disk has counted a fault or a stop.
pub record IsBook (x : Held) : Type 0 where
  pub within : x.book.agent < length x.book.network.agents
  pub provider : IsProvider x.book.network x.book.agent
  pub history : IsHistory (setting_of x.book.network x.book.agent) (own_stp x.book.network x.book.agent) x.book.events
  pub state : x.book.state ≡ replayed (setting_of x.book.network x.book.agent) (own_stp x.book.network x.book.agent) (journal_of x.book.events).entries
  pub taken : x.book.state.taken ≡ length (journal_of x.book.events).entries
  pub capped : IsCapped (setting_of x.book.network x.book.agent) x.book.state
  pub synced : x.book.faults ≡ 0 → (journal_of x.book.events).synced ≡ length (journal_of x.book.events).entries
  pub fault : ((x.book.faults ≡ 0) × (counted x.meter ≡ 0)) ⊎ ((x.book.faults ≡ 1) × (0 < counted x.meter))
