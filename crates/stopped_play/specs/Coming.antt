-- How far a play in which disks stop has come: whatever the rest is played as, it completes the play.
use Rattle.std.specs.Prelude.{ℕ, ◌+◌, ◌<◌, ◌≡◌, false, List, ◌++◌, length, None}
use Rattle.nsi_primitive.specs.declared.entry.Event.{Event}
use Rattle.nsi_script.specs.declared.script.Act.{Act}
use Rattle.nsi_script.specs.declared.script.Group.{Group}
use Rattle.agent_node.specs.Seat.{Seat}
use Rattle.nsi_play.specs.Rounds.{Net, Homes, events_of, emptied, all_quiet}
use Rattle.nsi_play.specs.Play.{behind, ended}
use Rattle.stopped_play.specs.Tapes.{Cuts, Tape, Stops}
use Rattle.stopped_play.specs.Rounds.{round_by, reopens, settles_by}
use Rattle.stopped_play.specs.Play.{acts_by, group_by, plays_by, plays_from}

---- Rounds

-- the agents behind a round and its restarts
abbrev pub behind_cuts : Cuts → Homes → Net → Net
behind_cuts cuts homes net = emptied (reopens cuts homes (emptied (round_by cuts homes net)))

-- what has happened in the round, and then the restarts
abbrev pub events_by : Cuts → Homes → Net → List Event
events_by cuts homes net = events_of (round_by cuts homes net) ++ events_of (reopens cuts homes (emptied (round_by cuts homes net)))

-- its disk doesn't stop
abbrev pub IsWhole : Cuts → Seat → Type 0
IsWhole cuts s = cuts s.number ≡ None

-- rounds that were made, and whose disks stopped in each
pub record IsSettledBy (homes : Homes) (x : Net) (events : List Event) (y : Net) : Type 0 where
  pub rounds : List Cuts
  pub goes : (rest : List Cuts) → settles_by (rounds ++ rest) homes x ≡ behind events (settles_by rest homes y)

-- with a round more than those that were made there are too many events
abbrev pub OverrunsBy : Homes → Net → (before room : ℕ) → Type 0
OverrunsBy homes x before room =
    (own : List Event) × (y : Net) × (cuts : Cuts) × IsSettledBy homes x own y × (all_quiet homes y ≡ false) × (room < before + (length own + length (events_by cuts homes y)))

---- Acts

-- acts that were made, and how often a disk stopped while one read it; these are left, and the next ask has this number
pub record IsActedBy (homes : Homes) (todo : List Act) (count : ℕ) (x : Net) (events : List Event) (left : List Act) (next : ℕ) (y : Net) : Type 0 where
  pub tries : List ℕ
  pub goes : (rest : List ℕ) → acts_by todo (tries ++ rest) count homes x ≡ behind events (acts_by left rest next homes y)

---- Groups

-- a group that is over
pub record IsGroupOver (homes : Homes) (g : Group) (next : ℕ) (x : Net) (events : List Event) (y : Net) : Type 0 where
  pub tape : Tape
  pub goes : group_by tape g next homes x ≡ ended events y

-- with a group the events pass the limit, by some tape
abbrev pub GroupPasses : (limit count : ℕ) → Homes → Group → (next : ℕ) → Net → Type 0
GroupPasses limit count homes g next x = (tape : Tape) × (limit < count + length (group_by tape g next homes x).events)

-- groups that were played; the next ask has this number
pub record IsPlayedBy (homes : Homes) (done : List Group) (start : Net) (events : List Event) (next : ℕ) (now : Net) : Type 0 where
  pub tapes : List Tape
  pub goes : (rest : List Group) (more : List Tape) → plays_by (tapes ++ more) (done ++ rest) 0 homes start ≡ behind events (plays_by more rest next homes now)

-- some front of what these agents play has more events
abbrev pub PassesBy : ℕ → List Group → Homes → Net → Type 0
PassesBy limit script homes net = (stops : Stops) × (limit < length (plays_from stops script homes net).events)
