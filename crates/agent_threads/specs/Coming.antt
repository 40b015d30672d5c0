-- How far a play has come: whatever the rest is played as, it completes the play.
use Rattle.std.specs.Prelude.{ℕ, ◌+◌, ◌≤◌, ◌<◌, ◌≡◌, false, List, ◌++◌, length}
use Rattle.nsi_primitive.specs.declared.entry.Event.{Event}
use Rattle.nsi_script.specs.declared.script.Group.{Group}
use Rattle.nsi_play.specs.Rounds.{Net, Homes, round, events_of, emptied, all_quiet}
use Rattle.nsi_play.specs.Play.{behind, settles, begins, group, plays, ended}

-- what has happened to these agents was told, and taken away
pub record IsTold (net : Net) (before events : List Event) (now : Net) : Type 0 where
  pub told : events ≡ before ++ events_of net
  pub rest : now ≡ emptied net

-- the ticks and acts of a group were made
pub record IsBegun (homes : Homes) (g : Group) (count : ℕ) (x : Net) (events : List Event) (y : Net) : Type 0 where
  pub told : events ≡ (begins g count homes x).events
  pub rest : y ≡ (begins g count homes x).net

-- rounds that were made
pub record IsSettledBy (homes : Homes) (x : Net) (events : List Event) (y : Net) : Type 0 where
  pub count : ℕ
  pub goes : (most : ℕ) → settles (count + most) homes x ≡ behind events (settles most homes y)

-- with a round more than those that were made there are too many events
abbrev pub OverrunsBy : Homes → Net → ℕ → ℕ → Type 0
OverrunsBy homes x before room =
    (own : List Event) × (y : Net) × IsSettledBy homes x own y × (all_quiet homes y ≡ false) × (room < before + (length own + length (events_of (round homes y))))

-- groups that were played; the next ask has this number
pub record IsPlayedBy (homes : Homes) (done : List Group) (start : Net) (events : List Event) (next : ℕ) (now : Net) : Type 0 where
  pub count : ℕ
  pub goes : (rest : List Group) (most : ℕ) → count ≤ most → plays most (done ++ rest) 0 homes start ≡ behind events (plays most rest next homes now)

-- a group that is over
pub record IsGroupOver (homes : Homes) (g : Group) (next : ℕ) (x : Net) (events : List Event) (y : Net) : Type 0 where
  pub count : ℕ
  pub goes : (most : ℕ) → count ≤ most → group most g next homes x ≡ ended events y

-- with a group the events pass the limit, in every number of rounds that is great enough
abbrev pub GroupPasses : (limit count : ℕ) → Homes → Group → ℕ → Net → Type 0
GroupPasses limit count homes g next x = (n : ℕ) × ((more : ℕ) → limit < count + length (group (n + more) g next homes x).events)
