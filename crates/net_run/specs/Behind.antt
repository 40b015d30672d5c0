-- What a play promises that begins behind some restarts, which are told first.
use Rattle.std.specs.Prelude.{ℕ, ◌≡◌, ◌+◌, ◌-◌, ◌≤◌, ◌<◌, ◌⊎◌, ◌++◌, List, [], length, take, Option, Result, IfOk, IfErr, OnOk, OnErr, IsErrOf}
use Rattle.nsi_disk.specs.ShelfCounts.{Raised}
use Rattle.nsi_outside.specs.Stream.{WritesAll, WritesFront}
use Rattle.nsi_primitive.specs.declared.entry.Event.{Event}
use Rattle.stp_topology.specs.declared.network.Network.{Network}
use Rattle.run_totals.specs.Totals.{totals_of}
use Rattle.run_totals.specs.declared.totals.Totals.{Totals}
use Rattle.nsi_script.specs.declared.script.Group.{Group}
use Rattle.nsi_script.specs.Scripts.{acts_of}
use Rattle.agent_node.specs.Kept.{Kept}
use Rattle.agent_threads.specs.declared.fault.RunFault.{RunFault}
use Rattle.agent_threads.specs.declared.fault.RunFault.TheVariants.{Long, WriteFault}
use Rattle.agent_threads.specs.declared.report.RunOptions.{RunOptions}
use Rattle.agent_threads.specs.Reports.{written}
use Rattle.agent_threads.specs.Nets.{AreSame, AreCalm, AreUsable}
use Rattle.agent_threads.specs.Stopping.{ShelfCounts, stops_among, more_stops, NoneStopped, NoneCounted}
use Rattle.agent_threads.specs.Made.{KeepsShelf, HasSettleCause, IsOfAgent, AreLeft}
use Rattle.agent_threads.specs.Leaving.{StayOwned}
use Rattle.agent_threads.specs.Promise.{NoRestart, Plays, PlaysTo, PlaysPast}

---- The restarts

-- they were told as far as they were written, or there are too many and nothing was
abbrev pub TellsFront : Network → RunOptions → List Event → Option (List ℕ) → Option (List ℕ) → Type 0
TellsFront t options made old new = (new ≡ old) ⊎ ((length made ≤ options.limit) × WritesFront old new (written options.report t made))

-- a fault of telling them
abbrev pub IsOfTelling : RunFault → Type 0
IsOfTelling (RunFault.DiskFault a) = ⊥
IsOfTelling (RunFault.NotAJournal a place) = ⊥
IsOfTelling _ = Unit {0}

---- The groups behind them

-- what is wanted of the restarts and the play was written, behind which the agents stand so, and these are its numbers
abbrev pub WritesBehind : Network → RunOptions → List Event → List Group → (start last : List Kept) → Option (List ℕ) → Option (List ℕ) → Totals → Type 0
WritesBehind t options made script start last old new totals =
    (own : List Event) × PlaysTo (NoneStopped start last [] own) (more_stops start last) start script own last × (totals ≡ totals_of t (made ++ own)) × (length (made ++ own) ≤ options.limit)
    × WritesAll old new (written options.report t (made ++ own))

-- there are too many restarts, and nothing was written; or these groups were played and written, and with the next one there are too many events
abbrev pub IsTooLongBehind : Network → RunOptions → List Event → List Group → (start last : List Kept) → Option (List ℕ) → Option (List ℕ) → Type 0
IsTooLongBehind t options made script start last old new =
    ((options.limit < length made) × (new ≡ old))
    ⊎ ((groups : ℕ) × (own : List Event) × Plays (NoneStopped start last [] own) (more_stops start last) start script (take groups script) own
    × PlaysPast (stops_among last ≡ stops_among start) (more_stops start last) (options.limit - length made) start script (take (groups + 1) script) × (length made ≤ options.limit)
    × (length (made ++ own) ≤ options.limit) × WritesAll old new (written options.report t (made ++ own)))

-- Some groups are played, behind which these agents are left. With the stops that were counted before, their disks have stopped no more often
-- than is counted at these, and where others went.
abbrev pub PlaysSome : List Group → (start last : List Kept) → (before after : ShelfCounts) → (groups : ℕ) → List Event → Type 0
PlaysSome script start last before after groups own =
    (by : ℕ) × Raised before.stops by after.stops × (stops_among start ≤ by + stops_among last)
    × Plays (NoneCounted start last before after ⊎ NoRestart own) ((by + stops_among last) - stops_among start) start script (take groups script) own

-- nothing was written, or a front of what is wanted of the restarts and some groups
abbrev pub WritesSomeBehind : Network → RunOptions → List Event → List Group → (start last : List Kept) → (before after : ShelfCounts) → Option (List ℕ) → Option (List ℕ) → Type 0
WritesSomeBehind t options made script start last before after old new =
    (new ≡ old)
    ⊎ ((groups : ℕ) × (own : List Event) × PlaysSome script start last before after groups own × (length (made ++ own) ≤ options.limit) × WritesFront old new (written options.report t (made ++ own)))

-- what is wanted of the restarts and some whole groups was written
abbrev pub WritesGroupsBehind : Network → RunOptions → List Event → List Group → (start last : List Kept) → (before after : ShelfCounts) → Option (List ℕ) → Option (List ℕ) → Type 0
WritesGroupsBehind t options made script start last before after old new =
    (groups : ℕ) × (own : List Event) × PlaysSome script start last before after groups own × (length (made ++ own) ≤ options.limit) × WritesAll old new (written options.report t (made ++ own))

-- no agent was lost: where disks go no stop was counted, and at the agents no fewer are than before
pub record LosesNone (start last : List Kept) (before after : ShelfCounts) : Type 0 where
  pub still : after.stops ≡ before.stops
  pub rises : stops_among start ≤ stops_among last

-- the same as of a play, with the restarts in front
pub record PlaysBehind (t : Network) (options : RunOptions) (made : List Event) (script : List Group) (olds news : List Kept) (before after : ShelfCounts) (old new : Option (List ℕ)) (f g : ℕ) (x : Result Totals RunFault) : Type 0 where
  pub done : IfOk x (λ n. WritesBehind t options made script olds news old new n)
  pub long : IsErrOf x Long → IsTooLongBehind t options made script olds news old new
  pub front : OnErr x (WritesSomeBehind t options made script olds news before after old new)
  pub whole : IfErr x (λ e. IsOfAgent e → WritesGroupsBehind t options made script olds news before after old new)
  pub cause : IfErr x (HasSettleCause (acts_of script) olds news before after)
  pub write : IsErrOf x WriteFault → f < g
  pub quiet : (IsErrOf x WriteFault → ⊥) → g ≡ f
  pub same : OnOk x (AreSame olds news)
  pub calm : OnOk x (AreCalm olds news)
  pub shelf : KeepsShelf before after x
  pub level : IsErrOf x Long → LosesNone olds news before after
  pub agents : AreLeft olds news before after
  pub usable : OnOk x (AreUsable news)
  pub owned : OnOk x (StayOwned olds news)
