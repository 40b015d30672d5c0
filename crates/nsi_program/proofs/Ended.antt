-- How each command has ended, by what it has written.
use Rattle.std.proofs.Common.{◌≡◌, ◌≤◌, ◌<◌, ℕ, ◌⊎◌, inl, inr, List, ◌++◌, length, leb, Bool, true, false, Option, Some, None, Result, Err, refl, sym, ap, ◌∙◌, subst, arith}
use Rattle.std.specs.Prelude.{IfSome, codes}
use Rattle.provide_command.specs.declared.status.Status.{Status}
use Rattle.command_words.specs.declared.command.Command.{Command}
use Rattle.command_words.specs.declared.command.Load.{Load}
use Rattle.command_words.specs.declared.command.Play.{Play}
use Rattle.nsi_script.specs.Load.{load_of}
use Rattle.fault_lines.specs.Lines.{as_line}
use Rattle.nsi_program.specs.Check.{Checks, Begins}
use Rattle.provide_command.specs.Cut.{IsCutByFault}
use Rattle.fault_lines.specs.Counts.{Counts}
use Rattle.provide_command.specs.Ends.{WithReading}
use Rattle.nsi_program.specs.Ends.{usage_promise, load_promise, HasEnded, IsCut, IsBroken, IsCutShort, TellsDisks}
use Rattle.provide_command.specs.Phases.{Reading}
use Rattle.provide_command.specs.Promise.{Writes, WritesFront, is_told, read_fault_line, promise_of, IsKept, NamesFault}
use Rattle.provide_command.specs.Writes.{WritesSome, WritesSomeFront}
use Rattle.nsi_program.proofs.Checks.{some_begins}
use Rattle.agent_threads.specs.declared.report.RunOptions.{RunOptions}
use Rattle.run_command.specs.Runs.{Disks, RunsIf, RunsRead, Breaks}
use Rattle.run_command.specs.Ends.{IsCutShort as RunIsCutShort}
use Rattle.nsi_program.specs.RunsTo.{RunsTo, options_of, status_of_run, HidesDisks}
use Rattle.nsi_program.specs.VerifiesTo.{VerifiesTo, status_of_verify}
use Rattle.verify_command.specs.Verifies.{VerifiesIf, VerifiesRead}
use Rattle.nsi_base.specs.Lines.{lines_of}
use Rattle.nsi_base.specs.Range.{greatest_input}
use Rattle.stp_topology.specs.declared.fault.TopologyFault.{TopologyFault}
use Rattle.stp_topology.specs.declared.network.Network.{Network}
use Rattle.stp_topology.specs.Network.{nothing}
use Rattle.stp_topology.specs.Text.{read_lines}
use Rattle.fault_lines.specs.Lines.{topology_fault}
use Rattle.provide_command.proofs.Written.{nothing_some}

-- nothing was written for want of memory
pub nothing_begun : (left old new : Option (List ℕ)) → new ≡ old → IfSome left (λ bytes. WritesSomeFront (Begins bytes) old new)
nothing_begun None old new e = tt
nothing_begun (Some bytes) old new e = let b = some_begins bytes in nothing_some (Begins bytes) old new b.0 b.1 e

abbrev Holds : Type 0
Holds = List ℕ → Option (List ℕ)

pub provide_ended : (command : Option Command) (most : ℕ) (d : Disks) (content left new : Option (List ℕ)) (status : Status) → command ≡ Some (Command.Provide most)
    → WithReading d.held left (λ read. IsKept (promise_of read most content left) status new) → HasEnded command d content left status new
provide_ended command most d content left new status e w =
    let P : Option Command → Type 0 = λ x. HasEnded x d content left status new in subst P (sym e) (promise_of w.0 most content left, (w.0, w.1, refl), w.2)

-- what holds of an end by each reading
pub with_reading : (holds : Holds) (left : Option (List ℕ)) (P Q : Reading → Type 0) → ((read : Reading) → P read → Q read) → WithReading holds left P → WithReading holds left Q
with_reading holds left P Q f w = (w.0, w.1, f w.0 w.2)

pub check_ended : (command : Option Command) (d : Disks) (content left new : Option (List ℕ)) (status : Status) → command ≡ Some Command.Check
    → IfSome left (λ bytes. WritesSome (Checks bytes status) content new) → HasEnded command d content left status new
check_ended command d content left new status e h =
    let P : Option Command → Type 0 = λ x. HasEnded x d content left status new in subst P (sym e) (ended content left h)
  where
    ended : (content left : Option (List ℕ)) → IfSome left (λ bytes. WritesSome (Checks bytes status) content new) → HasEnded (Some Command.Check) d content left status new
    ended None left h = (None, refl, tt)
    ended (Some c) None h = (None, refl, tt)
    ended (Some c) (Some bytes) h = (Some (status, c ++ h.0), ((status, h.0), h.1, refl), (refl, h.2))

pub usage_ended : (command : Option Command) (d : Disks) (content left new : Option (List ℕ)) (status : Status) → command ≡ None
    → (status ≡ Status.Usage) × Writes content new (as_line (codes "fault usage")) → HasEnded command d content left status new
usage_ended command d content left new status e h =
    let P : Option Command → Type 0 = λ x. HasEnded x d content left status new in subst P (sym e) (usage_promise content, refl, kept content h.1)
  where
    kept : (content : Option (List ℕ)) → Writes content new (as_line (codes "fault usage")) → IsKept (usage_promise content) status new
    kept None w = tt
    kept (Some c) w = (h.0, w)

pub generate_ended : (command : Option Command) (load : Load) (d : Disks) (content left new : Option (List ℕ)) (status : Status) → command ≡ Some (Command.Generate load)
    → (status ≡ Status.Done) × Writes content new (load_of load.from load.size) → HasEnded command d content left status new
generate_ended command load d content left new status e h =
    let P : Option Command → Type 0 = λ x. HasEnded x d content left status new in subst P (sym e) (load_promise load content, refl, kept content h.1)
  where
    kept : (content : Option (List ℕ)) → Writes content new (load_of load.from load.size) → IsKept (load_promise load content) status new
    kept None w = tt
    kept (Some c) w = (h.0, w)

---- Cut short

pub provide_cut : (command : Option Command) (most : ℕ) (holds : Holds) (content left rest new : Option (List ℕ)) → command ≡ Some (Command.Provide most) → WithReading holds left (λ read. IsCutByFault read most content left rest new)
    → IsCut command holds content left rest new
provide_cut command most holds content left rest new e w = let P : Option Command → Type 0 = λ x. IsCut x holds content left rest new in subst P (sym e) w

pub check_cut : (command : Option Command) (holds : Holds) (content left rest new : Option (List ℕ)) → command ≡ Some Command.Check → Writes content new read_fault_line → IsCut command holds content left rest new
check_cut command holds content left rest new e w = let P : Option Command → Type 0 = λ x. IsCut x holds content left rest new in subst P (sym e) w

pub provide_broken : (command : Option Command) (most : ℕ) (d : Disks) (content left new : Option (List ℕ)) → command ≡ Some (Command.Provide most) → IsBroken (Some (Command.Provide most)) d content left new
    → IsBroken command d content left new
provide_broken command most d content left new e w = let P : Option Command → Type 0 = λ x. IsBroken x d content left new in subst P (sym e) w

pub provide_cut_short : (command : Option Command) (most : ℕ) (d : Disks) (content left rest : Option (List ℕ)) (before after : Counts) (new : Option (List ℕ)) → command ≡ Some (Command.Provide most)
    → IsCutShort (Some (Command.Provide most)) d content left rest before after new → IsCutShort command d content left rest before after new
provide_cut_short command most d content left rest before after new e h = let P : Option Command → Type 0 = λ x. IsCutShort x d content left rest before after new in subst P (sym e) h

pub check_cut_short : (command : Option Command) (d : Disks) (content left rest : Option (List ℕ)) (before after : Counts) (new : Option (List ℕ)) → command ≡ Some Command.Check
    → ((after.reads ≡ before.reads) × IfSome left (λ bytes. WritesSomeFront (Begins bytes) content new)) ⊎ ((before.reads < after.reads) × WritesFront content new read_fault_line)
    → IsCutShort command d content left rest before after new
check_cut_short command d content left rest before after new e h = let P : Option Command → Type 0 = λ x. IsCutShort x d content left rest before after new in subst P (sym e) (by_fault h)
  where
    by_fault : ((after.reads ≡ before.reads) × IfSome left (λ bytes. WritesSomeFront (Begins bytes) content new)) ⊎ ((before.reads < after.reads) × WritesFront content new read_fault_line)
        → IsCutShort (Some Command.Check) d content left rest before after new
    by_fault (inl w) = inl w
    by_fault (inr w) = inr (inl w)

untold : (status : Status) → (status ≡ Status.WriteFault) ⊎ (status ≡ Status.NoMemory) → is_told status ≡ false
untold status (inl q) = ap is_told q
untold status (inr q) = ap is_told q

pub usage_cut_short : (command : Option Command) (d : Disks) (content left rest : Option (List ℕ)) (counts : Counts) (new : Option (List ℕ)) (status : Status) → command ≡ None → (is_told status ≡ false → WritesFront content new (as_line (codes "fault usage")))
    → (status ≡ Status.WriteFault) ⊎ (status ≡ Status.NoMemory) → IsCutShort command d content left rest counts counts new
usage_cut_short command d content left rest counts new status e w h =
    let P : Option Command → Type 0 = λ x. IsCutShort x d content left rest counts counts new in subst P (sym e) (inl (refl, w (untold status h)))

pub generate_cut_short : (command : Option Command) (load : Load) (d : Disks) (content left rest : Option (List ℕ)) (counts : Counts) (new : Option (List ℕ)) (status : Status) → command ≡ Some (Command.Generate load)
    → (is_told status ≡ false → WritesFront content new (load_of load.from load.size)) → (status ≡ Status.WriteFault) ⊎ (status ≡ Status.NoMemory) → IsCutShort command d content left rest counts counts new
generate_cut_short command load d content left rest counts new status e w h =
    let P : Option Command → Type 0 = λ x. IsCutShort x d content left rest counts counts new in subst P (sym e) (inl (refl, w (untold status h)))

-- a load is the one that is named
pub generated_is : (command : Option Command) (load named : Load) (status : Status) (content new : Option (List ℕ)) → command ≡ Some (Command.Generate load) → command ≡ Some (Command.Generate named)
    → (status ≡ Status.Done) × Writes content new (load_of load.from load.size) → (status ≡ Status.Done) × Writes content new (load_of named.from named.size)
generated_is command load named status content new own other h = subst (λ (l : Load). (status ≡ Status.Done) × Writes content new (load_of l.from l.size)) (same load named (sym own ∙ other)) h
  where
    same : (a b : Load) → Some (Command.Generate a) ≡ Some (Command.Generate b) → a ≡ b
    same a b h = cc

---- Runs

abbrev runs : Play → Option Command
runs play = Some (Command.Run play)

pub run_ended : (command : Option Command) (play : Play) (d : Disks) (content left new : Option (List ℕ)) (status : Status) → command ≡ runs play
    → IfSome left (λ bytes. WritesSome (RunsTo (options_of play) d bytes status) content new) → HasEnded command d content left status new
run_ended command play d content left new status e h =
    let P : Option Command → Type 0 = λ x. HasEnded x d content left status new in subst P (sym e) (ended content left h)
  where
    ended : (content left : Option (List ℕ)) → IfSome left (λ bytes. WritesSome (RunsTo (options_of play) d bytes status) content new) → HasEnded (runs play) d content left status new
    ended None left h = (None, refl, tt)
    ended (Some c) None h = (None, refl, tt)
    ended (Some c) (Some bytes) h = (Some (status, c ++ h.0), ((status, h.0), h.1, refl), (refl, h.2))

pub run_cut : (command : Option Command) (play : Play) (holds : Holds) (content left rest new : Option (List ℕ)) → command ≡ runs play → Writes content new read_fault_line → IsCut command holds content left rest new
run_cut command play holds content left rest new e w = let P : Option Command → Type 0 = λ x. IsCut x holds content left rest new in subst P (sym e) w

pub run_broken : (command : Option Command) (play : Play) (d : Disks) (content left new : Option (List ℕ)) → command ≡ runs play → IfSome left (λ bytes. WritesSome (Breaks (options_of play) d bytes) content new) → IsBroken command d content left new
run_broken command play d content left new e w = let P : Option Command → Type 0 = λ x. IsBroken x d content left new in subst P (sym e) w

pub run_cut_short : (command : Option Command) (play : Play) (d : Disks) (content left rest : Option (List ℕ)) (before after : Counts) (new : Option (List ℕ)) → command ≡ runs play
    → RunIsCutShort (options_of play) d content left before after new → IsCutShort command d content left rest before after new
run_cut_short command play d content left rest before after new e h = let P : Option Command → Type 0 = λ x. IsCutShort x d content left rest before after new in subst P (sym e) h

-- a faulty topology is all that is told of a run
run_named : (options : RunOptions) (d : Disks) (bytes c text : List ℕ) (status : Status) (new : Option (List ℕ)) → RunsTo options d bytes status text → new ≡ Some (c ++ text)
    → (n : ℕ) (fault : TopologyFault) → length bytes ≤ greatest_input → read_lines nothing 0 (lines_of bytes) ≡ Err (n, fault) → (status ≡ Status.BadTopology) × (new ≡ Some (c ++ topology_fault n fault))
run_named options d bytes c text status new r w n fault few h =
    let P : Bool → Type 0 = λ b. RunsIf b options d bytes r.0 text in
    let Q : Result (Network × ℕ) (ℕ × TopologyFault) → Type 0 = λ x. RunsRead options d bytes x r.0 text in
    let o = subst Q h (subst P (within (length bytes) greatest_input few) r.2) in
    (r.1 ∙ ap status_of_run o.0, w ∙ ap (λ x. Some (c ++ x)) o.1)
  where
    within : (a b : ℕ) → a ≤ b → leb a b ≡ true
    within a b few = grind arith

pub run_names_fault : (options : RunOptions) (d : Disks) (content left new : Option (List ℕ)) (status : Status) → IfSome left (λ bytes. WritesSome (RunsTo options d bytes status) content new) → NamesFault content left status new
run_names_fault options d None left new status k = tt
run_names_fault options d (Some c) None new status k = tt
run_names_fault options d (Some c) (Some bytes) new status k = λ n fault few h. run_named options d bytes c k.0 status new k.1 k.2 n fault few h

pub tells_disks : (command : Option Command) (play : Play) (status : Status) → command ≡ runs play → TellsDisks command status → HidesDisks status → ⊥
tells_disks command play status e t = subst (λ (x : Option Command). TellsDisks x status) e t

---- Verdicts

pub verify_ended : (most : ℕ) (d : Disks) (content left new : Option (List ℕ)) (status : Status) → IfSome left (λ bytes. WritesSome (VerifiesTo most bytes status) content new)
    → HasEnded (Some (Command.Verify most)) d content left status new
verify_ended most d None left new status h = (None, refl, tt)
verify_ended most d (Some c) None new status h = (None, refl, tt)
verify_ended most d (Some c) (Some bytes) new status h = (Some (status, c ++ h.0), ((status, h.0), h.1, refl), (refl, h.2))

-- a faulty topology is all that is told of a trace
verdict_named : (most : ℕ) (bytes c text : List ℕ) (status : Status) (new : Option (List ℕ)) → VerifiesTo most bytes status text → new ≡ Some (c ++ text)
    → (n : ℕ) (fault : TopologyFault) → length bytes ≤ greatest_input → read_lines nothing 0 (lines_of bytes) ≡ Err (n, fault) → (status ≡ Status.BadTopology) × (new ≡ Some (c ++ topology_fault n fault))
verdict_named most bytes c text status new r w n fault few h =
    let P : Bool → Type 0 = λ b. VerifiesIf b most bytes r.0 text in
    let Q : Result (Network × ℕ) (ℕ × TopologyFault) → Type 0 = λ x. VerifiesRead most bytes x r.0 text in
    let o = subst Q h (subst P (within (length bytes) greatest_input few) r.2) in
    (r.1 ∙ ap status_of_verify o.0, w ∙ ap (λ x. Some (c ++ x)) o.1)
  where
    within : (a b : ℕ) → a ≤ b → leb a b ≡ true
    within a b few = grind arith

pub verify_names_fault : (most : ℕ) (content left new : Option (List ℕ)) (status : Status) → IfSome left (λ bytes. WritesSome (VerifiesTo most bytes status) content new) → NamesFault content left status new
verify_names_fault most None left new status k = tt
verify_names_fault most (Some c) None new status k = tt
verify_names_fault most (Some c) (Some bytes) new status k = λ n fault few h. verdict_named most bytes c k.0 status new k.1 k.2 n fault few h
