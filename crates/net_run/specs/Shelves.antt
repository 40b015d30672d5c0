-- The counts of a shelf.
use Rattle.std.specs.Prelude.{ℕ, ◌≡◌, ◌≤◌, ◌<◌, length}
use Rattle.nsi_disk.specs.ShelfCounts.{Raised}
use Rattle.stp_topology.specs.declared.network.Network.{Network}
use Rattle.agent_threads.specs.declared.fault.RunFault.{RunFault}

abbrev pub HasRisen : ℕ → ℕ → Type 0
HasRisen old new = (by : ℕ) × (0 < by) × Raised old by new

-- no disk has stopped, as the count of a shelf says
abbrev pub HasNoStop : (s r : ℕ) → Type 0
HasNoStop s r = (by : ℕ) → Raised s by r → by ≡ 0

-- no call has failed; some may have stopped a disk
abbrev pub IsQuiet : (f g s r : ℕ) → Type 0
IsQuiet f g s r = (s ≤ r) × Raised f 0 g

-- Why agents weren't begun: the disk of that agent failed, or for want of memory.
abbrev pub IsStartFault : ℕ → (f g s r : ℕ) → RunFault → Type 0
IsStartFault most f g s r (RunFault.DiskFault a) = (a < most) × HasRisen f g × (s ≤ r)
IsStartFault most f g s r RunFault.NoMemory = (f ≤ g) × (s ≤ r)
IsStartFault most f g s r _ = ⊥

-- A journal has no reading: they aren't told; and where no disk has stopped, the play isn't shown.
pub record IsUnread (Told Shown : Type 0) (s r : ℕ) : Type 0 where
  pub untold : Told → ⊥
  pub restarts : HasNoStop s r → Shown → ⊥

-- Why a run has failed whose journals are told or aren't, and whose play is shown or isn't: the disk of an agent failed; or the
-- journal of one has no reading.
abbrev pub HasFaultOf : Network → (Told Shown : Type 0) → (f g s r : ℕ) → RunFault → Type 0
HasFaultOf t Told Shown f g s r (RunFault.DiskFault a) = (a < length t.agents) × HasRisen f g
HasFaultOf t Told Shown f g s r (RunFault.NotAJournal a place) = (a < length t.agents) × IsUnread Told Shown s r
HasFaultOf t Told Shown f g s r _ = Unit {0}
