-- What may happen in a world, and which events are a run.
use Rattle.std.specs.Prelude.{◌≡◌, ◌≤◌, ◌<◌, ◌+◌, ◌==◌, ℕ, Bool, true, false, List, [], ◌∷◌, ◌++◌, Option, length, take, if◌then◌else◌}
use Rattle.nsi_primitive.specs.Messages.{identity}
use Rattle.nsi_primitive.specs.Printable.{IsPrintableEntry}
use Rattle.nsi_primitive.specs.declared.ask.Ask.{Ask}
use Rattle.nsi_primitive.specs.declared.ask.AskAnswer.{AskAnswer}
use Rattle.nsi_primitive.specs.declared.entry.Entry.{Entry}
use Rattle.nsi_primitive.specs.declared.entry.Event.{Event}
use Rattle.nsi_primitive.specs.declared.entry.Happening.{Happening}
use Rattle.nsi_primitive.specs.declared.entry.Input.{Input}
use Rattle.nsi_primitive.specs.declared.message.Message.{Message}
use Rattle.agent_state.specs.Entries.{most_entries}
use Rattle.nsi_agent.specs.Homes.{Role, provides, requests}
use Rattle.nsi_agent.specs.Steps.{after}
use Rattle.nsi_agent.specs.Told.{told}
use Rattle.nsi_world.specs.Worlds.{Homes, IsAgent, World, empty, synced_part, IsSent, IsTo, IsTaken}

---- Entries

abbrev pub is_provider : Role → Bool
is_provider (provides setting stp_of) = true
is_provider _ = false

abbrev pub is_requester : Role → Bool
is_requester (requests setting) = true
is_requester _ = false

-- What may come to an agent: asks to a requester; a message to whom it was said; work and a forced end to a provider; a tick; and the
-- acknowledgement of a message of its own that its addressee took by a synced entry.
abbrev pub MayCome : Homes → World → ℕ → Input → Type 0
MayCome homes w a (Input.Ask number ask) = is_requester (homes a).role ≡ true
MayCome homes w a (Input.Got m) = IsSent homes w m × IsTo homes a m
MayCome homes w a (Input.Work n machine) = is_provider (homes a).role ≡ true
MayCome homes w a (Input.Force n) = is_provider (homes a).role ≡ true
MayCome homes w a Input.Tick = Unit {0}
MayCome homes w a (Input.Acked i) = (m : Message) × (b : ℕ) × (identity m ≡ i) × IsTaken homes w (synced_part w) a b m

-- a tick at its second or later, all else now
abbrev pub IsInTime : Input → (second now : ℕ) → Type 0
IsInTime Input.Tick second now = now ≤ second
IsInTime _ second now = second ≡ now

-- so it is entered: it can be printed, is in time, may come, and is answered as the definition says
pub record IsEntered (homes : Homes) (w : World) (a : ℕ) (e : Entry) (answer : Option AskAnswer) : Type 0 where
  pub printable : IsPrintableEntry e
  pub in_time : IsInTime e.input e.second (told (homes a) (w.journal a)).state.base.now
  pub comes : MayCome homes w a e.input
  pub answered : answer ≡ (after (homes a) (told (homes a) (w.journal a)).state e).answer

---- Events

-- what may happen at an agent: an entry, where there is room for it; a sync of all entries; a restart with those that are synced,
-- and perhaps some more
abbrev pub MayHappen : Homes → World → ℕ → Happening → Type 0
MayHappen homes w a (Happening.Entry e answer) = (length (w.journal a) < most_entries) × IsEntered homes w a e answer
MayHappen homes w a (Happening.Sync count) = count ≡ length (w.journal a)
MayHappen homes w a (Happening.Restart count) = (w.synced a ≤ count) × (count ≤ length (w.journal a))

abbrev pub IsAllowed : Homes → World → Event → Type 0
IsAllowed homes w e = IsAgent homes e.agent × MayHappen homes w e.agent e.what

-- the same elsewhere, and this here
abbrev pub at : {X : Type 0} → ℕ → X → (ℕ → X) → ℕ → X
at a x f b = if b == a then x else f b

abbrev pub happens_at : World → ℕ → Happening → World
happens_at w a (Happening.Entry e answer) = record { journal = at a (w.journal a ++ e ∷ []) w.journal; synced = w.synced }
happens_at w a (Happening.Sync count) = record { journal = w.journal; synced = at a count w.synced }
happens_at w a (Happening.Restart count) = record { journal = at a (take count (w.journal a)) w.journal; synced = at a count w.synced }

abbrev pub happens : World → Event → World
happens w e = happens_at w e.agent e.what

unfoldable pub world_after : World → List Event → World
world_after w [] = w
world_after w (e ∷ es) = world_after (happens w e) es

-- each is allowed in the world that the earlier ones make
unfoldable pub AreAllowed : Homes → World → List Event → Type 0
AreAllowed homes w [] = Unit {0}
AreAllowed homes w (e ∷ es) = IsAllowed homes w e × AreAllowed homes (happens w e) es

---- Asks

-- an ask of a run: its number, whom it is put to, and what it is
pub record Asked : Type 0 where
  pub number : ℕ
  pub agent : ℕ
  pub ask : Ask

abbrev pub asks_by : ℕ → Input → List Asked
asks_by a (Input.Ask number ask) = record { number = number; agent = a; ask = ask } ∷ []
asks_by a _ = []

abbrev pub asks_in : ℕ → Happening → List Asked
asks_in a (Happening.Entry e answer) = asks_by a e.input
asks_in a _ = []

-- the asks among events, in order
unfoldable pub asks_of : List Event → List Asked
asks_of [] = []
asks_of (e ∷ es) = asks_in e.agent e.what ++ asks_of es

-- what is asked, and whom
abbrev pub Wish : Type 0
Wish = ℕ × Ask

-- so many asks came before them, and these are numbered from there
unfoldable pub numbered : ℕ → List Wish → List Asked
numbered n [] = []
numbered n (x ∷ xs) = record { number = n; agent = x.0; ask = x.1 } ∷ numbered (n + 1) xs

---- Runs

-- each event is allowed in the world that the earlier ones make of the empty one, and the number of each ask is that of the asks before it
pub record IsRun (homes : Homes) (events : List Event) : Type 0 where
  pub allowed : AreAllowed homes empty events
  pub wishes : List Wish
  pub asked : asks_of events ≡ numbered 0 wishes
