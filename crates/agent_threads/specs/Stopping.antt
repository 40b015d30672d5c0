-- Agents whose disks have stopped in a round, and how they go on behind it.
use Rattle.std.specs.Prelude.{ℕ, ◌+◌, ◌-◌, ◌<◌, ◌≤◌, ◌≡◌, ◌⊎◌, Bool, true, false, if◌then◌else◌, List, [], ◌∷◌, ◌++◌, length, map, sum, Option, Some, None, is_some}
use Rattle.nsi_disk.specs.ShelfCounts.{Raised}
use Rattle.journal_entry.specs.Journal.{Kept as Journaled}
use Rattle.stp_topology.specs.declared.network.Network.{Network}
use Rattle.nsi_agent.specs.Homes.{Routes, AreRoutes, home_in}
use Rattle.nsi_agent.specs.Told.{told}
use Rattle.agent_node.specs.declared.fault.TurnFault.{TurnFault}
use Rattle.agent_node.specs.Reopening.{IsReopened}
use Rattle.agent_node.specs.Seat.{Seat}
use Rattle.agent_node.specs.Kept.{Kept, first_kept}
use Rattle.nsi_script.specs.declared.script.Act.{Act}
use Rattle.nsi_script.specs.declared.script.Group.{Group}
use Rattle.nsi_play.specs.Play.{IsPlayFrom, PassesFrom, acted, begins, ticked_in}
use Rattle.nsi_play.specs.Rounds.{Net, Homes, round, events_of, emptied, all_quiet}
use Rattle.stopped_play.specs.Tapes.{Cuts, Tape, Stops}
use Rattle.stopped_play.specs.Play.{acted_by, group_by, plays_from, IsPlayBy}
use Rattle.stopped_play.specs.Rounds.{reopens}
use Rattle.stopped_play.specs.Coming.{behind_cuts, events_by, IsSettledBy as IsSettledByTape, IsActedBy, IsGroupOver as IsOverByTape, IsPlayedBy as IsPlayedByTape}
use Rattle.stopped_play.specs.Counts.{restarts_in, stops_among as cut_stops, round_stops, tape_stops, play_stops}
use Rattle.nsi_primitive.specs.declared.entry.Event.{Event}
use Rattle.agent_threads.specs.Nets.{seats, seats_by, numbers, synced_in, AreOf, AreApart, AreWired, AreOwned}
use Rattle.agent_threads.specs.Bounds.{MovesOn}
use Rattle.agent_threads.specs.Coming.{IsTold, IsBegun, IsSettledBy, OverrunsBy, IsGroupOver, GroupPasses, IsPlayedBy}
use Rattle.agent_threads.specs.declared.fault.RoundFault.{RoundFault}

---- Who has stopped

abbrev pub is_stopped : Option TurnFault → Bool
is_stopped (Some TurnFault.Stopped) = true
is_stopped _ = false

-- none of its calls has failed, but that its disk may have stopped
abbrev pub MayGoOn : Kept → Type 0
MayGoOn k = (k.fault ≡ None) ⊎ (k.fault ≡ Some TurnFault.Stopped)

abbrev pub MayAllGoOn : List Kept → Type 0
MayAllGoOn [] = Unit {0}
MayAllGoOn (k ∷ ks) = MayGoOn k × MayAllGoOn ks

-- agents that have made a round, of whom some may have stopped
pub record AreHalted (ks : List Kept) : Type 0 where
  pub going : MayAllGoOn ks
  pub apart : AreApart (seats ks)
  pub wired : AreWired ks

abbrev pub one_stop : Option TurnFault → ℕ
one_stop fault = if is_stopped fault then 1 else 0

-- these cuts are of those agents that have stopped, and of no other one of these
abbrev pub AgreesWith : Cuts → List Kept → Type 0
AgreesWith cuts [] = Unit {0}
AgreesWith cuts (k ∷ ks) = (is_some (cuts k.seat.number) ≡ is_stopped k.fault) × AgreesWith cuts ks

---- What their journals tell

-- what a journal keeps; of one whose disk has stopped, what it kept before
abbrev pub kept_before : Option TurnFault → ℕ → Option Journaled → Option Journaled
kept_before (Some TurnFault.Stopped) count kept = first_kept count kept
kept_before _ count kept = kept

abbrev pub kept_in : Kept → Option Journaled
kept_in k = kept_before k.fault k.seat.synced k.kept

-- an agent with its synced entries as its journal told them before its disk stopped
abbrev pub seen_before : Kept → Seat
seen_before k = record k.seat { past = synced_in (kept_in k) }

abbrev pub seats_before : List Kept → Net
seats_before ks = map seen_before ks

-- that with the entries behind it makes its state
abbrev pub WasOwned : Homes → Kept → Type 0
WasOwned homes k = (j : Journaled) × (kept_in k ≡ Some j) × ((told (homes k.seat.number) (j.synced ++ k.seat.fresh)).state ≡ k.seat.state)

abbrev pub WereOwned : Homes → List Kept → Type 0
WereOwned homes [] = Unit {0}
WereOwned homes (k ∷ ks) = WasOwned homes k × WereOwned homes ks

-- so it is in the topology that they stand in, whichever legs are those of the least paths, where their journals tell what made them
abbrev pub AtOwned : List Kept → (Homes → Type 0) → Type 0
AtOwned ks P = (t : Network) → AreOf t ks → (routes : Routes) → AreRoutes t routes → AreOwned (home_in t routes) ks → P (home_in t routes)

-- the same where they did before a stop
abbrev pub AtOwnedBefore : List Kept → (Homes → Type 0) → Type 0
AtOwnedBefore ks P = (t : Network) → AreOf t ks → (routes : Routes) → AreRoutes t routes → WereOwned (home_in t routes) ks → P (home_in t routes)

---- How they go on

-- An agent whose disk had stopped was made anew from what this has, with which it has taken no more, and its clock is no further.
pub record GoesOnAgain (old new : Kept) : Type 0 where
  pub reopened : IsReopened old new
  pub moves : MovesOn 0 old new

-- one whose disk had stopped goes on, and any other is as it was
pub record RestartsStopped (old new : Kept) : Type 0 where
  pub here : old.fault ≡ Some TurnFault.Stopped → GoesOnAgain old new
  pub there : (old.fault ≡ Some TurnFault.Stopped → ⊥) → new ≡ old
  pub usable : new.fault ≡ None

-- what happened was taken away, and nothing else
abbrev pub Emptied : Kept → Kept → Type 0
Emptied old new = new ≡ record old { seat = record old.seat { events = [] } }

-- a round was made, and disks have stopped in it
abbrev pub IsStop : RoundFault → Type 0
IsStop (RoundFault.Stopped a) = Unit {0}
IsStop _ = ⊥

---- How often

-- how many of them have stopped
abbrev pub stopped_in : List Kept → ℕ
stopped_in [] = 0
stopped_in (k ∷ ks) = one_stop k.fault + stopped_in ks

-- how often calls stopped their disks
abbrev pub stops_among : List Kept → ℕ
stops_among [] = 0
stops_among (k ∷ ks) = k.meter.stops + stops_among ks

-- how many are planned for their disks
abbrev pub planned_among : List Kept → ℕ
planned_among [] = 0
planned_among (k ∷ ks) = k.meter.planned + planned_among ks

-- how many more they are than before
abbrev pub more_stops : (olds news : List Kept) → ℕ
more_stops olds news = stops_among news - stops_among olds

-- the counts of where journals are read again
pub record ShelfCounts : Type 0 where
  pub faults : ℕ
  pub stops : ℕ

abbrev pub counted : (faults stops : ℕ) → ShelfCounts
counted faults stops = record { faults = faults; stops = stops }

-- no stop was counted, at the agents or where their disks went
abbrev pub NoneCounted : (olds news : List Kept) → (before after : ShelfCounts) → Type 0
NoneCounted olds news before after = (by : ℕ) → Raised before.stops by after.stops → by + stops_among news ≤ stops_among olds

---- What is seen

-- no disk has stopped, as their counts say, or what was told
abbrev pub NoneStopped : (olds news : List Kept) → (before events : List Event) → Type 0
NoneStopped olds news before events = (stops_among news ≡ stops_among olds) ⊎ (restarts_in events ≡ restarts_in before)

-- The one is so where their journals tell what made them, and the other where no disk has stopped.
pub record ByStops (tells : Bool) (Calm Stopped Plain : Type 0) : Type 0 where
  pub told : tells ≡ true → Stopped
  pub calm : Calm → Plain

-- a round with its restarts was made, by some cuts, of no more stops than so many
pub record IsSteppedBy (most : ℕ) (homes : Homes) (x : Net) (before events : List Event) (y : Net) : Type 0 where
  pub cuts : Cuts
  pub few : cut_stops cuts (numbers x) ≤ most
  pub told : events ≡ before ++ events_by cuts homes x
  pub rest : y ≡ behind_cuts cuts homes x

abbrev pub IsStepped : Homes → (tells : Bool) → (Calm : Type 0) → (most : ℕ) → (x : Net) → (before events : List Event) → (y : Net) → Type 0
IsStepped homes tells Calm most x before events y = ByStops tells Calm (IsSteppedBy most homes x before events y) (IsTold (round homes x) before events y)

-- They have gone on as some cuts say, and what has happened then was told. The cuts are of those that had stopped, one stop each beside those
-- that were counted since.
pub record GoOnByCuts (olds news : List Kept) (before events : List Event) (homes : Homes) : Type 0 where
  pub cuts : Cuts
  pub agrees : AgreesWith cuts olds
  pub few : cut_stops cuts (numbers (seats olds)) + stops_among olds ≤ stopped_in olds + stops_among news
  pub told : IsTold (reopens cuts homes (seats_before olds)) before events (seats_by true news)

-- with a round and its restarts there are too many events
abbrev pub StepOverruns : Homes → (tells : Bool) → (Calm : Type 0) → (most : ℕ) → Net → (before room : ℕ) → Type 0
StepOverruns homes tells Calm most x before room =
    ByStops tells Calm ((cuts : Cuts) × (cut_stops cuts (numbers x) ≤ most) × (room < before + length (events_by cuts homes x))) (room < before + length (events_of (round homes x)))

-- An act was done, and what has happened then was told: behind so many tries, where its disk stopped while it was read, or behind none.
abbrev pub IsDone : Homes → (tells : Bool) → (Calm : Type 0) → (most : ℕ) → Act → (count : ℕ) → (x : Net) → (before events : List Event) → (y : Net) → Type 0
IsDone homes tells Calm most act count x before events y =
    ByStops tells Calm ((tries : ℕ) × (tries ≤ most) × IsTold (acted_by act tries count homes x) before events y) (IsTold (acted act count homes x) before events y)

-- ticks and acts that were made, behind tries that are no more than so many
pub record IsBegunBy (most : ℕ) (homes : Homes) (g : Group) (count : ℕ) (x : Net) (events : List Event) (y : Net) : Type 0 where
  pub acted : List Event
  pub next : ℕ
  pub goes : IsActedBy homes g.acts count (emptied (map (ticked_in g.at homes) x)) acted [] next y
  pub few : sum goes.tries ≤ most
  pub told : events ≡ events_of (map (ticked_in g.at homes) x) ++ acted

abbrev pub HasBegun : Homes → (tells : Bool) → (Calm : Type 0) → (most : ℕ) → Group → (count : ℕ) → (x : Net) → (events : List Event) → (y : Net) → Type 0
HasBegun homes tells Calm most g count x events y = ByStops tells Calm (IsBegunBy most homes g count x events y) (IsBegun homes g count x events y)

-- some ticks and acts of a group, behind tries that are no more than so many, have more events
pub record BeginsLonger (most room : ℕ) (homes : Homes) (g : Group) (count : ℕ) (x : Net) : Type 0 where
  pub acted : List Event
  pub left : List Act
  pub next : ℕ
  pub now : Net
  pub goes : IsActedBy homes g.acts count (emptied (map (ticked_in g.at homes) x)) acted left next now
  pub few : sum goes.tries ≤ most
  pub long : room < length (events_of (map (ticked_in g.at homes) x) ++ acted)

abbrev pub BeginsPast : Homes → (tells : Bool) → (Calm : Type 0) → (most room : ℕ) → Group → (count : ℕ) → Net → Type 0
BeginsPast homes tells Calm most room g count x = ByStops tells Calm (BeginsLonger most room homes g count x) (room < length (begins g count homes x).events)

-- rounds that were made, with their restarts
abbrev pub AreSettled : Homes → (tells : Bool) → (Calm : Type 0) → (most : ℕ) → (x : Net) → (own : List Event) → (y : Net) → Type 0
AreSettled homes tells Calm most x own y = ByStops tells Calm ((s : IsSettledByTape homes x own y) × (round_stops (numbers x) s.rounds ≤ most)) (IsSettledBy homes x own y)

-- with a round more than those that were made there are too many events
abbrev pub OverrunsWithin : (most : ℕ) → Homes → Net → (before room : ℕ) → Type 0
OverrunsWithin most homes x before room =
    (own : List Event) × (y : Net) × (cuts : Cuts) × (s : IsSettledByTape homes x own y) × (round_stops (numbers x) s.rounds + cut_stops cuts (numbers x) ≤ most) × (all_quiet homes y ≡ false)
    × (room < before + (length own + length (events_by cuts homes y)))

abbrev pub Overrun : Homes → (tells : Bool) → (Calm : Type 0) → (most : ℕ) → Net → (before room : ℕ) → Type 0
Overrun homes tells Calm most x before room = ByStops tells Calm (OverrunsWithin most homes x before room) (OverrunsBy homes x before room)

-- a group that is over
abbrev pub IsOver : Homes → (tells : Bool) → (Calm : Type 0) → (most : ℕ) → Group → (next : ℕ) → (x : Net) → (events : List Event) → (y : Net) → Type 0
IsOver homes tells Calm most g next x events y = ByStops tells Calm ((o : IsOverByTape homes g next x events y) × (tape_stops (numbers x) o.tape ≤ most)) (IsGroupOver homes g next x events y)

-- with a group the events pass the limit
abbrev pub Passes : Homes → (tells : Bool) → (Calm : Type 0) → (most : ℕ) → (limit count : ℕ) → Group → (next : ℕ) → Net → Type 0
Passes homes tells Calm most limit count g next x =
    ByStops tells Calm ((tape : Tape) × (tape_stops (numbers x) tape ≤ most) × (limit < count + length (group_by tape g next homes x).events)) (GroupPasses limit count homes g next x)

-- groups that were played; the next ask has this number
abbrev pub ArePlayed : Homes → (tells : Bool) → (Calm : Type 0) → (most : ℕ) → (done : List Group) → (start : Net) → (events : List Event) → (next : ℕ) → (now : Net) → Type 0
ArePlayed homes tells Calm most done start events next now =
    ByStops tells Calm ((p : IsPlayedByTape homes done start events next now) × (play_stops (numbers start) p.tapes ≤ most)) (IsPlayedBy homes done start events next now)

-- no disk stops while a journal is made
abbrev pub none_making : ℕ → ℕ
none_making a = 0

abbrev pub on_tapes : List Tape → Stops
on_tapes tapes = record { making = none_making; groups = tapes }

-- a play whose disks stop as some tapes say, no more often than so, and none while a journal is made
abbrev pub IsPlayByTapes : (most : ℕ) → List Group → Homes → Net → List Event → Net → Type 0
IsPlayByTapes most script homes net events last = (tapes : List Tape) × (play_stops (numbers net) tapes ≤ most) × IsPlayBy (on_tapes tapes) script homes net events last

abbrev pub IsPlayed : Homes → (tells : Bool) → (Calm : Type 0) → (most : ℕ) → List Group → Net → List Event → Net → Type 0
IsPlayed homes tells Calm most script net events last = ByStops tells Calm (IsPlayByTapes most script homes net events last) (IsPlayFrom script homes net events last)

-- some front of such a play has more events
abbrev pub PassesByTapes : (most limit : ℕ) → List Group → Homes → Net → Type 0
PassesByTapes most limit script homes net = (tapes : List Tape) × (play_stops (numbers net) tapes ≤ most) × (limit < length (plays_from (on_tapes tapes) script homes net).events)

-- what they play has more events
abbrev pub PlayPasses : Homes → (tells : Bool) → (Calm : Type 0) → (most limit : ℕ) → List Group → Net → Type 0
PlayPasses homes tells Calm most limit script net = ByStops tells Calm (PassesByTapes most limit script homes net) (PassesFrom limit script homes net)
