-- What a run makes of an input.
use Rattle.std.proofs.Common.{◌≡◌, ◌≤◌, ◌<◌, ◌+◌, ◌-◌, inl, inr, ℕ, List, [], ◌∷◌, ◌++◌, length, leb, Bool, true, false, Option, Some, None, Result, Ok, Err, refl, sym, ap, ◌∙◌, subst, arith}
use Rattle.std.specs.Prelude.{IfSome}
use Rattle.nsi_base.specs.Lines.{lines_of}
use Rattle.nsi_base.specs.Range.{greatest_input}
use Rattle.nsi_outside.specs.Stream.{WritesFront}
use Rattle.nsi_primitive.specs.declared.entry.Event.{Event}
use Rattle.stp_topology.specs.declared.network.Network.{Network}
use Rattle.stp_topology.specs.declared.fault.TopologyFault.{TopologyFault}
use Rattle.stp_topology.specs.Network.{nothing}
use Rattle.stp_topology.specs.Text.{read_lines}
use Rattle.nsi_script.specs.declared.fault.ScriptFault.{ScriptFault}
use Rattle.nsi_script.specs.declared.script.Script.{Script}
use Rattle.nsi_script.specs.Text.{script_of}
use Rattle.nsi_agent.specs.Homes.{home_in}
use Rattle.agent_node.specs.Openings.{agents}
use Rattle.due_events.proofs.CalmPlays.{none_stops}
use Rattle.nsi_play.specs.Openings.{plans_of, opening}
use Rattle.nsi_play.specs.Play.{plays, behind, over}
use Rattle.nsi_play.specs.Rounds.{Net, Homes}
use Rattle.stopped_play.specs.Play.{plays_by, remade, IsPlayBy}
use Rattle.stopped_play.specs.Tapes.{calm_stops}
use Rattle.fault_lines.specs.Lines.{topology_fault, script_fault, long_line}
use Rattle.agent_threads.specs.Reports.{written}
use Rattle.run_totals.specs.declared.report.Report.{Report}
use Rattle.agent_threads.specs.declared.report.RunOptions.{RunOptions}
use Rattle.net_run.specs.Shelves.{IsQuiet as IsShelfQuiet}
use Rattle.run_command.specs.declared.command.RunEnd.{RunEnd}
use Rattle.topology_input.specs.declared.Declared.{Declared}
use Rattle.topology_input.specs.Reading.{IsDeclared}
use Rattle.run_command.specs.Runs.{IsHeavy, NothingIsSafeThroughout, Disks, script_behind, AreRead, Plays, StartsPlay, BeginsPlay, BreaksPlay, no_text, RunsScript, RunsRead, RunsIf, Runs, Begins, Breaks}
use Rattle.run_command.specs.Ends.{WritesSomeFront, Counts, Closes, HasPlayed, HasRead}
use Rattle.run_command.proofs.Closing.{nothing_front}
use Rattle.run_command.proofs.Running.{none_all, some_front, told_run, run_along}

-- where nothing was done with disks, none has failed
pub quiet_still : (f s : ℕ) → IsShelfQuiet f f s s
quiet_still f s = (omega arith, inl (omega arith))

fits : (n most : ℕ) → n ≤ most → leb n most ≡ true
fits n most h = grind arith

passes : (n most : ℕ) → most < n → leb n most ≡ false
passes n most h = grind arith

-- a text that is within the size is read
runs_within : (options : RunOptions) (d : Disks) (bytes : List ℕ) (end : RunEnd) (text : List ℕ) → length bytes ≤ greatest_input → RunsRead options d bytes (read_lines nothing 0 (lines_of bytes)) end text → Runs options d bytes end text
runs_within options d bytes end text few r = let P : Bool → Type 0 = λ b. RunsIf b options d bytes end text in subst P (sym (fits (length bytes) greatest_input few)) r

module _ (options : RunOptions) (d : Disks) (bytes : List ℕ) (few : length bytes ≤ greatest_input) where
  ---- The topology

  bad_topology : (n : ℕ) (fault : TopologyFault) → read_lines nothing 0 (lines_of bytes) ≡ Err (n, fault) → Runs options d bytes RunEnd.BadTopology (topology_fault n fault)
  bad_topology n fault e =
      let P : Result (Network × ℕ) (ℕ × TopologyFault) → Type 0 = λ r. RunsRead options d bytes r RunEnd.BadTopology (topology_fault n fault) in
      runs_within options d bytes RunEnd.BadTopology (topology_fault n fault) few (subst P (sym e) (refl, refl))

  module _ (declared : Declared) (is : IsDeclared bytes declared) where
    runs_behind : (end : RunEnd) (text : List ℕ) → RunsScript options d declared.topology (script_behind bytes (declared.topology, declared.lines)) end text → Runs options d bytes end text
    runs_behind end text r =
        let P : Result (Network × ℕ) (ℕ × TopologyFault) → Type 0 = λ x. RunsRead options d bytes x end text in
        runs_within options d bytes end text few (subst P (sym is.read) r)

    -- the script of the text behind the topology is the script of the input
    script_is : (read : Result Script (ℕ × ScriptFault)) → script_of declared.topology (declared.lines + 1) declared.behind.now ≡ read → script_behind bytes (declared.topology, declared.lines) ≡ read
    script_is read e = ap (script_of declared.topology (declared.lines + 1)) (sym is.behind) ∙ e

    ---- A faulty script

    bad_script : (n : ℕ) (fault : ScriptFault) → script_of declared.topology (declared.lines + 1) declared.behind.now ≡ Err (n, fault) → Runs options d bytes RunEnd.BadScript (script_fault n fault)
    bad_script n fault e =
        let P : Result Script (ℕ × ScriptFault) → Type 0 = λ r. RunsScript options d declared.topology r RunEnd.BadScript (script_fault n fault) in
        runs_behind RunEnd.BadScript (script_fault n fault) (subst P (sym (script_is (Err (n, fault)) e)) (refl, refl))

    ---- A script that is played

    module _ (script : Script) (e : script_of declared.topology (declared.lines + 1) declared.behind.now ≡ Ok script) where
      pub are_read : AreRead bytes declared.topology script
      are_read = record { lines = declared.lines; topology = is.read; behind = script_is (Ok script) e }

      plays_runs : (end : RunEnd) (text : List ℕ) → Plays options d declared.topology script end text → Runs options d bytes end text
      plays_runs end text p =
          let P : Result Script (ℕ × ScriptFault) → Type 0 = λ r. RunsScript options d declared.topology r end text in
          runs_behind end text (subst P (sym (script_is (Ok script) e)) p)

      starts_begins : (text : List ℕ) → BeginsPlay options d declared.topology script text → Begins options d bytes text
      starts_begins text (inl p) = inl (p.0, plays_runs p.0 text p.1)
      starts_begins text (inr p) = inr (declared.topology, script, are_read, p)

      breaks_breaks : (text : List ℕ) → BreaksPlay options d declared.topology script text → Breaks options d bytes text
      breaks_breaks text p = (declared.topology, script, are_read, p)

      pub played_read : (old new : Option (List ℕ)) (before after : Counts) (b a : ℕ) (end : RunEnd) → HasPlayed options d declared.topology script old new before after b a end → HasRead options d bytes old new before after b a end
      played_read old new before after b a end k =
          run_along (Plays options d declared.topology script) (Runs options d bytes) (BeginsPlay options d declared.topology script) (Begins options d bytes) (BreaksPlay options d declared.topology script) (Breaks options d bytes)
          old new before after b a end plays_runs starts_begins breaks_breaks k

    pub bad_script_read : (old new : Option (List ℕ)) (counts : Counts) (b a : ℕ) (end : RunEnd) (n : ℕ) (fault : ScriptFault) → script_of declared.topology (declared.lines + 1) declared.behind.now ≡ Err (n, fault)
        → Closes (script_fault n fault) RunEnd.BadScript end old new b a → HasRead options d bytes old new counts counts b a end
    bad_script_read old new counts b a end n fault e k =
        let is = bad_script n fault e in
        told_run (Runs options d bytes) (Begins options d bytes) (Breaks options d bytes) old old new counts counts b a [] (script_fault n fault) end (none_all old) RunEnd.BadScript k refl is (inl (RunEnd.BadScript, is)) (λ _. quiet_still counts.faults counts.stops)

  pub bad_topology_read : (old new : Option (List ℕ)) (counts : Counts) (b a : ℕ) (end : RunEnd) (n : ℕ) (fault : TopologyFault) → read_lines nothing 0 (lines_of bytes) ≡ Err (n, fault)
      → Closes (topology_fault n fault) RunEnd.BadTopology end old new b a → HasRead options d bytes old new counts counts b a end
  bad_topology_read old new counts b a end n fault e k =
      let is = bad_topology n fault e in
      told_run (Runs options d bytes) (Begins options d bytes) (Breaks options d bytes) old old new counts counts b a [] (topology_fault n fault) end (none_all old) RunEnd.BadTopology k refl is (inl (RunEnd.BadTopology, is)) (λ _. quiet_still counts.faults counts.stops)

---- Want of memory

-- nothing is written of no events
none_written : (r : Report) (t : Network) → [] ≡ written r t [] ++ no_text t
none_written Report.Trace t = refl
none_written Report.Summary t = refl

none_remade : (net : Net) → remade (calm_stops 0 0).making net ≡ []
none_remade [] = refl
none_remade (s ∷ ss) = none_remade ss

-- no group is played
no_group : (homes : Homes) (net : Net) → IsPlayBy (calm_stops 0 0) [] homes net [] net
unfolding plays_by
no_group homes net = ap (λ (es : List Event). behind es (over net)) (none_remade net)

-- nothing is played yet
nothing_starts : NothingIsSafeThroughout → (options : RunOptions) (d : Disks) → d.before ≤ d.after → (t : Network) (script : Script) → StartsPlay options d t script no_text []
unfolding plays
nothing_starts none options d up t script =
    let start : Net = opening t (plans_of script.lose) in
    record {
      groups = 0;
      events = [];
      first = record {
        play = record { told = λ told. (d.after - d.before, inl (omega (arith, up)), λ routes r. (start, calm_stops 0 0, omega (arith, none_stops (agents t) 0 0), no_group (home_in t routes) start)); calm = λ calm shown routes r. (start, (0, refl)) };
        run = λ known routes r. none t routes;
        within = omega arith;
      };
      spelled = none_written options.report t;
    }

-- every input begins with some text
pub some_begins : NothingIsSafeThroughout → (options : RunOptions) (d : Disks) → d.before ≤ d.after → (bytes : List ℕ) → (text : List ℕ) × Begins options d bytes text
some_begins none options d up bytes = by_size (leb (length bytes) greatest_input) refl
  where
    by_size : (b : Bool) → leb (length bytes) greatest_input ≡ b → (text : List ℕ) × Begins options d bytes text
    by_size true e = by_topology (read_lines nothing 0 (lines_of bytes)) refl
      where
        within : (end : RunEnd) (text : List ℕ) → RunsRead options d bytes (read_lines nothing 0 (lines_of bytes)) end text → Runs options d bytes end text
        within end text r = let P : Bool → Type 0 = λ b. RunsIf b options d bytes end text in subst P (sym e) r

        by_topology : (read : Result (Network × ℕ) (ℕ × TopologyFault)) → read_lines nothing 0 (lines_of bytes) ≡ read → (text : List ℕ) × Begins options d bytes text
        by_topology (Err x) h =
            let P : Result (Network × ℕ) (ℕ × TopologyFault) → Type 0 = λ r. RunsRead options d bytes r RunEnd.BadTopology (topology_fault x.0 x.1) in
            (topology_fault x.0 x.1, inl (RunEnd.BadTopology, within RunEnd.BadTopology (topology_fault x.0 x.1) (subst P (sym h) (refl, refl))))
        by_topology (Ok (t, n)) h = by_script (script_behind bytes (t, n)) refl
          where
            by_script : (read : Result Script (ℕ × ScriptFault)) → script_behind bytes (t, n) ≡ read → (text : List ℕ) × Begins options d bytes text
            by_script (Err x) s =
                let P : Result (Network × ℕ) (ℕ × TopologyFault) → Type 0 = λ r. RunsRead options d bytes r RunEnd.BadScript (script_fault x.0 x.1) in
                let Q : Result Script (ℕ × ScriptFault) → Type 0 = λ r. RunsScript options d t r RunEnd.BadScript (script_fault x.0 x.1) in
                (script_fault x.0 x.1, inl (RunEnd.BadScript, within RunEnd.BadScript (script_fault x.0 x.1) (subst P (sym h) (subst Q (sym s) (refl, refl)))))
            by_script (Ok script) s =
                ([], inr (t, script, record { lines = n; topology = h; behind = s }, nothing_starts none options d up t script))
    by_size false e = let P : Bool → Type 0 = λ b. RunsIf b options d bytes RunEnd.Long long_line in (long_line, inl (RunEnd.Long, subst P (sym e) (refl, refl)))

-- nothing was written, for want of memory
pub nothing_begun : NothingIsSafeThroughout → (options : RunOptions) (d : Disks) → d.before ≤ d.after → (left old : Option (List ℕ)) → IfSome left (λ bytes. WritesSomeFront (Begins options d bytes) old old)
nothing_begun none options d up None old = tt
nothing_begun none options d up (Some bytes) old = let b = some_begins none options d up bytes in some_front (Begins options d bytes) old old b.0 b.1 (nothing_front old b.0)

-- an input that is too long
pub long_begun : (options : RunOptions) (d : Disks) (left old new : Option (List ℕ)) → IfSome left (λ bytes. greatest_input < length bytes) → WritesFront old new long_line → IfSome left (λ bytes. WritesSomeFront (Begins options d bytes) old new)
long_begun options d None old new l w = tt
long_begun options d (Some bytes) old new l w =
    let P : Bool → Type 0 = λ b. RunsIf b options d bytes RunEnd.Long long_line in
    some_front (Begins options d bytes) old new long_line (inl (RunEnd.Long, subst P (sym (passes (length bytes) greatest_input l)) (refl, refl))) w

-- an input that is longer than is taken
pub long_heavy : (options : RunOptions) (d : Disks) (left : Option (List ℕ)) → IfSome left (λ bytes. greatest_input < length bytes) → IfSome left (λ bytes. IsHeavy options d bytes)
long_heavy options d None l = tt
long_heavy options d (Some bytes) l = inl l

-- nothing was written of an input that was read
pub wanting_read : NothingIsSafeThroughout → (options : RunOptions) (d : Disks) → d.before ≤ d.after → (bytes : List ℕ) (old : Option (List ℕ)) (counts : Counts) (faults : ℕ) → HasRead options d bytes old old counts counts faults faults RunEnd.NoMemory
wanting_read none options d up bytes old counts faults =
    let b = some_begins none options d up bytes in
    record {
      ends = λ t. cc;
      broken = λ e. cc;
      disk = λ e. cc;
      unfinished = λ _. inl (some_front (Begins options d bytes) old old b.0 b.1 (nothing_front old b.0));
      write = λ e. cc;
      quiet = λ _. refl;
      quiet_disk = λ t n. cc;
      read = λ e. cc;
    }
