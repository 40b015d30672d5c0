-- The laws of rounds in which nothing happens.
use Rattle.std.specs.Prelude.{ℕ, ◌≡◌, ◌⊎◌, ◌≤◌, ◌<◌, ◌+◌, ◌*◌, true, false, List, [], length, map}
use Rattle.nsi_primitive.specs.declared.entry.Event.{Event}
use Rattle.stp_topology.specs.declared.network.Network.{Network}
use Rattle.nsi_agent.specs.Homes.{Routes, home_in}
use Rattle.nsi_script.specs.declared.script.Act.{Act}
use Rattle.nsi_script.specs.declared.script.Group.{Group}
use Rattle.nsi_play.specs.Openings.{Plans, opening}
use Rattle.nsi_play.specs.Play.{Played, settles, begins, plays, acted, ticked_in, IsPlayFrom, PassesFrom}
use Rattle.nsi_play.specs.Rounds.{Net, Homes, round, events_of, emptied, all_quiet}
use Rattle.quiet_rounds.specs.Bounded.{IsBounded}
use Rattle.quiet_rounds.specs.Left.{queued, greatest, left}
use Rattle.quiet_rounds.specs.Enough.{enough}

---- Bounded nets

-- before anything has happened a net is bounded
abbrev pub OpeningsAreBounded : Type 0
OpeningsAreBounded = (t : Network) (plans : Plans) → IsBounded (opening t plans)

-- ticks, an act, a round keep a net bounded, and so it stays where what has happened is taken away
pub record StaysBounded (homes : Homes) (net : Net) : Type 0 where
  pub ticks : (second : ℕ) → IsBounded (map (ticked_in second homes) net)
  pub acts : (act : Act) (count : ℕ) → IsBounded (acted act count homes net)
  pub round : IsBounded (round homes net)
  pub told : IsBounded (emptied net)

abbrev pub StepsKeepBounds : Type 0
StepsKeepBounds = (homes : Homes) (net : Net) → IsBounded net → StaysBounded homes net

-- so it is in a play: behind the ticks and acts of a group, behind rounds, and behind groups
pub record ComesBounded (homes : Homes) (net : Net) : Type 0 where
  pub begins : (g : Group) (count : ℕ) → IsBounded (begins g count homes net).net
  pub settles : (most : ℕ) → IsBounded (settles most homes net).net
  pub plays : (most : ℕ) (script : List Group) (count : ℕ) → IsBounded (plays most script count homes net).net

abbrev pub PlaysKeepBounds : Type 0
PlaysKeepBounds = (homes : Homes) (net : Net) → IsBounded net → ComesBounded homes net

---- Rounds

-- in a round in which nothing happens less is left to do, where not all are quiet yet
abbrev pub LeftFalls : Type 0
LeftFalls = (homes : Homes) (net : Net) → IsBounded net → all_quiet homes net ≡ false → events_of (round homes net) ≡ [] → left (round homes net) < left net

-- what has happened and is taken away is no part of what is left to do
abbrev pub TellingLeaves : Type 0
TellingLeaves = (net : Net) → left (emptied net) ≡ left net

-- what is left to do is few for short queues
abbrev pub LeftIsFew : Type 0
LeftIsFew = (net : Net) → left net ≤ 2062 * greatest queued net + 1029

-- more rounds than is left end with all quiet, or something happens in them
abbrev pub RoundsEnd : Type 0
RoundsEnd =
    (homes : Homes) (net : Net) (most : ℕ) → IsBounded net → left net < most →
    ((settles most homes net).is_over ≡ true) ⊎ (0 < length (settles most homes net).events)

-- it is over, or more than so much has happened
abbrev pub EndsOrPasses : ℕ → Played → Type 0
EndsOrPasses limit p = (p.is_over ≡ true) ⊎ (limit < length p.events)

-- so many rounds, or more, end with all quiet, or more than so much happens in them
abbrev pub EnoughRounds : Type 0
EnoughRounds = (limit : ℕ) (homes : Homes) (net : Net) (most : ℕ) → IsBounded net → enough limit homes net ≤ most → EndsOrPasses limit (settles most homes net)

-- where no more is left than this number in any round, enough are one more than that for each event and for the end
abbrev pub EnoughIsFew : Type 0
EnoughIsFew =
    (limit bound : ℕ) (homes : Homes) (net : Net) → ((most : ℕ) → left (settles most homes net).net ≤ bound) →
    enough limit homes net ≤ (limit + 1) * (bound + 1)

---- Plays

-- a play comes to its end, or more than so much happens in it
abbrev pub PlaysEnd : Type 0
PlaysEnd =
    (script : List Group) (homes : Homes) (net : Net) (limit : ℕ) → IsBounded net →
    ((events : List Event) × (last : Net) × IsPlayFrom script homes net events last) ⊎ PassesFrom limit script homes net

-- so it is of every script in every topology, whatever the legs of the ways and whatever is planned for the links
abbrev pub ScriptsEnd : Type 0
ScriptsEnd =
    (t : Network) (routes : Routes) (plans : Plans) (script : List Group) (limit : ℕ) →
    ((events : List Event) × (last : Net) × IsPlayFrom script (home_in t routes) (opening t plans) events last) ⊎ PassesFrom limit script (home_in t routes) (opening t plans)
