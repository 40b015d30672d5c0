-- What a run promises.
use Rattle.std.specs.Prelude.{ℕ, ◌≤◌, ◌+◌, ◌-◌, ◌≡◌, ◌⊎◌, Bool, true, List, [], ◌∷◌, length, take, Option}
use Rattle.std.specs.List.{All}
use Rattle.nsi_primitive.specs.Printable.{IsPrintableAsk}
use Rattle.nsi_primitive.specs.declared.entry.Event.{Event}
use Rattle.nsi_disk.specs.ShelfCounts.{Raised}
use Rattle.nsi_outside.specs.Stream.{WritesAll, WritesFront}
use Rattle.stp_topology.specs.declared.network.Network.{Network}
use Rattle.requester_agent.specs.Setting.{IsRequester}
use Rattle.nsi_script.specs.declared.script.Act.{Act}
use Rattle.nsi_script.specs.declared.script.Group.{Group}
use Rattle.agent_node.specs.Kept.{Kept}
use Rattle.nsi_script.specs.Scripts.{acts_of}
use Rattle.nsi_play.specs.Rounds.{Net, Homes}
use Rattle.stopped_play.specs.Counts.{restarts_in}
use Rattle.agent_threads.specs.Nets.{seats_by, AtHomes, AreOf}
use Rattle.agent_threads.specs.Stopping.{ShelfCounts, stops_among, more_stops, NoneStopped, NoneCounted, IsPlayed, PlayPasses}
use Rattle.agent_threads.specs.Reports.{written}
use Rattle.agent_threads.specs.declared.report.RunOptions.{RunOptions}
use Rattle.run_totals.specs.Totals.{totals_of}
use Rattle.run_totals.specs.declared.totals.Totals.{Totals}

---- What is asked of a script

-- a requester asks
abbrev pub CanBeDone : Network → Act → Type 0
CanBeDone t (Act.Ask a ask) = IsRequester t a × IsPrintableAsk ask
CanBeDone t (Act.Force a n) = Unit {0}
CanBeDone t (Act.Restart a) = Unit {0}

abbrev pub AllCanBeDone : Network → List Act → Type 0
AllCanBeDone t [] = Unit {0}
AllCanBeDone t (a ∷ rest) = CanBeDone t a × AllCanBeDone t rest

-- an act that can be done in the topology of these agents
pub record CanAct (act : Act) (ks : List Kept) : Type 0 where
  pub network : Network
  pub of : AreOf network ks
  pub can : CanBeDone network act

-- the same of many
pub record CanDo (acts : List Act) (ks : List Kept) : Type 0 where
  pub network : Network
  pub of : AreOf network ks
  pub can : AllCanBeDone network acts

abbrev pub CanBePlayed : Network → List Group → Type 0
CanBePlayed t [] = Unit {0}
CanBePlayed t (g ∷ gs) = AllCanBeDone t g.acts × CanBePlayed t gs

---- What is seen

-- a restart shows only in what journals tell
abbrev pub Shows : (tells : Bool) → Act → Type 0
Shows tells (Act.Restart a) = tells ≡ true
Shows tells act = Unit {0}

-- so it is of the agents as they are where the acts restart nobody, and with their synced entries, where their journals tell these
abbrev pub AtShown : List Kept → List Act → (Homes → (tells : Bool) → Type 0) → Type 0
AtShown ks acts P = AtHomes ks (λ homes tells. All (Shows tells) acts → P homes tells)

-- these are the events of what they play, in which disks stop no more often than so
abbrev pub Plays : (Calm : Type 0) → (most : ℕ) → List Kept → (whole part : List Group) → List Event → Type 0
Plays Calm most start whole part events = AtShown start (acts_of whole) (λ homes tells. (last : Net) × IsPlayed homes tells Calm most part (seats_by tells start) events last)

-- what they play has more events
abbrev pub PlaysPast : (Calm : Type 0) → (most limit : ℕ) → List Kept → (whole part : List Group) → Type 0
PlaysPast Calm most limit start whole part = AtShown start (acts_of whole) (λ homes tells. PlayPasses homes tells Calm most limit part (seats_by tells start))

-- these are the events of the whole play, behind which the agents stand so
abbrev pub PlaysTo : (Calm : Type 0) → (most : ℕ) → (olds : List Kept) → List Group → List Event → (news : List Kept) → Type 0
PlaysTo Calm most olds script events news = AtShown olds (acts_of script) (λ homes tells. IsPlayed homes tells Calm most script (seats_by tells olds) events (seats_by tells news))

-- no restart was told
abbrev pub NoRestart : List Event → Type 0
NoRestart events = restarts_in events ≡ 0

---- What is written

-- what is wanted of the play was written, behind which the agents stand so, and these are its numbers
abbrev pub WritesPlay : Network → RunOptions → List Group → (start last : List Kept) → Option (List ℕ) → Option (List ℕ) → Totals → Type 0
WritesPlay t options script start last old new totals =
    (events : List Event) × PlaysTo (NoneStopped start last [] events) (more_stops start last) start script events last × (totals ≡ totals_of t events) × (length events ≤ options.limit) × WritesAll old new (written options.report t events)

-- these groups of the script were played and written, and with the next one the play has too many events
abbrev pub WritesTooLong : Network → RunOptions → List Group → (start last : List Kept) → Option (List ℕ) → Option (List ℕ) → Type 0
WritesTooLong t options script start last old new =
    (groups : ℕ) × (events : List Event) × Plays (NoneStopped start last [] events) (more_stops start last) start script (take groups script) events
    × PlaysPast (stops_among last ≡ stops_among start) (more_stops start last) options.limit start script (take (groups + 1) script)
    × PlaysPast (stops_among last ≡ stops_among start) (more_stops start last) options.limit start script script
    × (length events ≤ options.limit) × WritesAll old new (written options.report t events)

-- Some groups are played, behind which these agents are left. Their disks have stopped no more often than is counted at these, and where others went.
abbrev pub PlaysFirst : List Group → (start last : List Kept) → (before after : ShelfCounts) → (groups : ℕ) → List Event → Type 0
PlaysFirst script start last before after groups events =
    (by : ℕ) × Raised before.stops by after.stops × Plays (NoneCounted start last before after ⊎ NoRestart events) ((by + stops_among last) - stops_among start) start script (take groups script) events

-- a front of what is wanted of some groups of the play was written, behind which these agents are left
abbrev pub WritesSomeOfPlay : Network → RunOptions → List Group → (start last : List Kept) → (before after : ShelfCounts) → Option (List ℕ) → Option (List ℕ) → Type 0
WritesSomeOfPlay t options script start last before after old new =
    (groups : ℕ) × (events : List Event) × PlaysFirst script start last before after groups events × (length events ≤ options.limit) × WritesFront old new (written options.report t events)

-- what is wanted of some whole groups of the play was written, behind which these agents are left
abbrev pub WritesGroups : Network → RunOptions → List Group → (start last : List Kept) → (before after : ShelfCounts) → Option (List ℕ) → Option (List ℕ) → Type 0
WritesGroups t options script start last before after old new =
    (groups : ℕ) × (events : List Event) × PlaysFirst script start last before after groups events × (length events ≤ options.limit) × WritesAll old new (written options.report t events)
