-- A run whose weight is within its limit is done.
use Rattle.std.proofs.Common.{◌≡◌, ◌≤◌, ◌<◌, ℕ, ◌+◌, List, length, le-leb, Bool, true, false, Result, Ok, refl, sym, subst, arith}
use Rattle.std.specs.Prelude.{nat_le}
use Rattle.nsi_base.specs.Range.{greatest_input}
use Rattle.nsi_base.specs.Lines.{lines_of}
use Rattle.stp_topology.specs.declared.network.Network.{Network}
use Rattle.stp_topology.specs.Network.{nothing}
use Rattle.stp_topology.specs.Text.{read_lines}
use Rattle.nsi_script.specs.declared.script.Script.{Script}
use Rattle.net_run.specs.Worlds.{Holds}
use Rattle.agent_threads.specs.declared.report.RunOptions.{RunOptions}
use Rattle.run_command.specs.declared.command.RunEnd.{RunEnd}
use Rattle.run_command.specs.Runs.{Disks, Plays, Runs, RunsIf, RunsRead, RunsScript, IsLight, AreRead}

pub plays_done : (options : RunOptions) (d : Disks) (bytes : List ℕ) (light : IsLight options.limit d.held bytes) (end : RunEnd) (text : List ℕ)
    → Plays options d light.topology light.script end text → end ≡ RunEnd.Done
plays_done options d bytes light RunEnd.Done text p = refl
plays_done options d bytes light RunEnd.Long text p = absurd (too_much (p.below.told light.told light.routes light.least) light.within)
  where
    too_much : {weight : ℕ} → options.limit < weight → weight ≤ options.limit → ⊥
    too_much below within = omega (arith, below, within)
plays_done options d bytes light RunEnd.NotAJournal text p = absurd (p.2.untold light.told)
plays_done options d bytes light RunEnd.BadTopology text p = absurd p
plays_done options d bytes light RunEnd.BadScript text p = absurd p
plays_done options d bytes light RunEnd.NoMemory text p = absurd p
plays_done options d bytes light RunEnd.ReadFault text p = absurd p
plays_done options d bytes light RunEnd.WriteFault text p = absurd p
plays_done options d bytes light RunEnd.DiskFault text p = absurd p

pub light_done : (options : RunOptions) (d : Disks) (bytes : List ℕ) → IsLight options.limit d.held bytes → (end : RunEnd) (text : List ℕ) → Runs options d bytes end text → end ≡ RunEnd.Done
light_done options d bytes light end text p = plays_done options d bytes light end text scripted
  where
    whole : RunsRead options d bytes (read_lines nothing 0 (lines_of bytes)) end text
    whole = subst (λ fits. RunsIf fits options d bytes end text) (le-leb _ _ light.fits) p

    read : RunsRead options d bytes (Ok (light.topology, light.read.lines)) end text
    read = subst (λ r. RunsRead options d bytes r end text) light.read.topology whole

    scripted : Plays options d light.topology light.script end text
    scripted = subst (λ s. RunsScript options d light.topology s end text) light.read.behind read
