-- What each command promises is all that is promised of a command.
use Rattle.std.proofs.Common.{◌≡◌, ◌≤◌, ◌<◌, ℕ, ◌⊎◌, inl, inr, List, ◌++◌, length, leb, Bool, true, false, Option, Some, None, Result, Err, refl, sym, ap, ◌∙◌, subst, arith}
use Rattle.std.specs.Prelude.{IfSome, codes}
use Rattle.nsi_disk.specs.ShelfCounts.{Raised}
use Rattle.fault_lines.specs.Lines.{as_line, read_fault_line}
use Rattle.command_limits.specs.Limits.{most_events}
use Rattle.command_words.specs.declared.command.Command.{Command}
use Rattle.command_words.specs.declared.command.Load.{Load}
use Rattle.command_words.specs.declared.command.Play.{Play}
use Rattle.nsi_script.specs.Load.{load_of}
use Rattle.provide_command.specs.declared.status.Status.{Status}
use Rattle.provide_command.specs.Backed.{Backs}
use Rattle.provide_command.specs.Promise.{is_told, promise_of, IsKept, IsComplete, IsSafe, NamesFault, Writes, WritesFront}
use Rattle.provide_command.specs.Provided.{HasProvided, CountsEnd}
use Rattle.provide_command.specs.Writes.{WritesSome, WritesSomeFront}
use Rattle.provide_command.proofs.Declared.{is_complete, is_safe, names_fault}
use Rattle.run_command.specs.Ends.{IsCutShort as RunIsCutShort, IsQuiet, HasFaulted}
use Rattle.run_command.specs.Runs.{Breaks, KeepsRun, IsHeavy, IsLight}
use Rattle.nsi_base.specs.Lines.{lines_of}
use Rattle.nsi_base.specs.Range.{greatest_input}
use Rattle.stp_topology.specs.declared.fault.TopologyFault.{TopologyFault}
use Rattle.stp_topology.specs.declared.network.Network.{Network}
use Rattle.stp_topology.specs.Network.{nothing}
use Rattle.stp_topology.specs.Text.{placed, read_lines}
use Rattle.fault_lines.specs.Lines.{topology_fault}
use Rattle.nsi_program.specs.Check.{Checks, ChecksIf, ChecksRead, Begins}
use Rattle.nsi_program.specs.Ends.{HasTopology, IsChecked, IsCutShort, IsDoneOrShort}
use Rattle.nsi_program.proofs.Nothing.{BeginWithNothing, nothing_backs, nothing_cut_short}
use Rattle.command_words.specs.Words.{command_of}
use Rattle.nsi_program.specs.Plain.{Outside, disks_of, EndsPlainly}
use Rattle.nsi_program.specs.RunsTo.{RunsTo, options_of, HidesDisks}
use Rattle.nsi_program.specs.VerifiesTo.{VerifiesTo, BeginsVerify}
use Rattle.nsi_program.proofs.Completing.{nothing_completes, run_completes}
use Rattle.nsi_program.proofs.Ended.{provide_ended, with_reading, check_ended, usage_ended, check_cut_short, usage_cut_short, generate_ended, generate_cut_short, generated_is, run_ended, run_names_fault, verify_ended, verify_names_fault}

-- the command that is named ends as its own
pub as_named : {old new : Outside} {status : Status} (command own : Option Command) → command ≡ own → EndsPlainly own old new status → EndsPlainly command old new status
as_named {old} {new} {status} command own e p = subst (λ x. EndsPlainly x old new status) (sym e) p

pub provide_plain : (most : ℕ) (old new : Outside) (status : Status) → most ≤ most_events
    → HasProvided old.holds most old.content old.left new.left old.counts new.counts status new.content → CountsEnd old.counts new.counts old.writes new.writes status
    → Backs old.holds new.holds old.content old.left new.content → EndsPlainly (Some (Command.Provide most)) old new status
provide_plain most old new status few p q b = record {
  ends = λ told. provide_ended _ most (disks_of old new) old.content old.left new.content status refl (p.ends told);
  complete = λ m e told. with_reading old.holds old.left (λ read. IsKept (promise_of read most old.content old.left) status new.content) (λ read. IsComplete read m old.content old.left status)
      (λ read kept. subst (λ k. IsComplete read k old.content old.left status) (same most m e) (is_complete read most old.content old.left new.content status few kept)) (p.ends told);
  safe = λ m e told. with_reading old.holds old.left (λ read. IsKept (promise_of read most old.content old.left) status new.content) (λ read. IsSafe read old.content old.left status new.content)
      (λ read kept. is_safe read most old.content old.left new.content status few kept) (p.ends told);
  checked = λ e. absurd (no_check e);
  generated = λ load e. absurd (no_load load e);
  bad_topology = λ _ told. let w = p.ends told in names_fault w.0 most old.content old.left new.content status w.2;
  read_fault = q.read_fault;
  cut = p.cut;
  alone = λ e. absurd (no_check e);
  write_fault = q.write_fault;
  unfinished = p.unfinished;
  disk_fault = q.disk_fault;
  broken = p.broken;
  backed = λ m e. b;
  journals = λ play e. absurd (no_play play e);
  settles = λ play e. absurd (no_play play e);
  completes = λ play e. absurd (no_play play e);
  quiet_in = q.quiet_in;
  quiet_out = q.quiet_out;
  quiet_disk = λ told _. (q.quiet_faults told, q.quiet_stops told);
  reading = q.reading;
  memory = q.memory;
}
  where
    same : (a b : ℕ) → Some (Command.Provide a) ≡ Some (Command.Provide b) → a ≡ b
    same a b e = cc

    no_check : Some (Command.Provide most) ≡ Some Command.Check → ⊥
    no_check e = cc

    no_load : (load : Load) → Some (Command.Provide most) ≡ Some (Command.Generate load) → ⊥
    no_load load e = cc

    no_play : (play : Play) → Some (Command.Provide most) ≡ Some (Command.Run play) → ⊥
    no_play play e = cc

---- Commands that have no disk

-- outside, where no disk was touched
abbrev pub after : Outside → (content left : Option (List ℕ)) → (reads writes : ℕ) → Outside
after old content left reads writes = record old { content = content; left = left; counts = record old.counts { reads = reads }; writes = writes }

raised_none : (n : ℕ) → Raised n 0 n
raised_none n = inl (omega arith)

-- `check` reads its input to the end, and tells a faulty topology
topology_named : (bytes c text : List ℕ) (status : Status) (new : Option (List ℕ)) → Checks bytes status text → new ≡ Some (c ++ text)
    → (n : ℕ) (fault : TopologyFault) → length bytes ≤ greatest_input → read_lines nothing 0 (lines_of bytes) ≡ Err (n, fault) → (status ≡ Status.BadTopology) × (new ≡ Some (c ++ topology_fault n fault))
topology_named bytes c text status new r w n fault few h =
    let P : Bool → Type 0 = λ b. ChecksIf b bytes status text in
    let Q : Result (Network × ℕ) (ℕ × TopologyFault) → Type 0 = λ x. ChecksRead (placed bytes x) bytes status text in
    let o = subst Q h (subst P (within (length bytes) greatest_input few) r) in
    (o.0, w ∙ ap (λ x. Some (c ++ x)) o.1)
  where
    within : (a b : ℕ) → a ≤ b → leb a b ≡ true
    within a b few = grind arith

check_names : (content left new : Option (List ℕ)) (status : Status) → IfSome left (λ bytes. WritesSome (Checks bytes status) content new) → NamesFault content left status new
check_names None left new status k = tt
check_names (Some c) None new status k = tt
check_names (Some c) (Some bytes) new status k = λ n fault few h. topology_named bytes c k.0 status new k.1 k.2 n fault few h

topology_done : (bytes text : List ℕ) (status : Status) → Checks bytes status text → length bytes ≤ greatest_input → HasTopology (lines_of bytes) → status ≡ Status.Done
topology_done bytes text status r few (t, n, h) =
    let P : Bool → Type 0 = λ b. ChecksIf b bytes status text in
    let Q : Result (Network × ℕ) (ℕ × TopologyFault) → Type 0 = λ x. ChecksRead (placed bytes x) bytes status text in
    (subst Q h (subst P (within (length bytes) greatest_input few) r)).0
  where
    within : (a b : ℕ) → a ≤ b → leb a b ≡ true
    within a b few = grind arith

check_done : (content left new : Option (List ℕ)) (status : Status) → IfSome left (λ bytes. WritesSome (Checks bytes status) content new) → IsChecked content left status
check_done None left new status k = tt
check_done (Some c) None new status k = tt
check_done (Some c) (Some bytes) new status k = λ few h. topology_done bytes k.0 status k.1 few h

-- what `check` promises
pub record HasChecked (old : Outside) (content left : Option (List ℕ)) (reads writes : ℕ) (status : Status) : Type 0 where
  pub ends : is_told status ≡ true → IfSome old.left (λ bytes. WritesSome (Checks bytes status) old.content content)
  pub not_disk : status ≡ Status.DiskFault → ⊥
  pub read_fault : status ≡ Status.ReadFault → old.counts.reads < reads
  pub alone : status ≡ Status.ReadFault → Writes old.content content read_fault_line
  pub write_fault : status ≡ Status.WriteFault → old.writes < writes
  pub unfinished :
      (status ≡ Status.WriteFault) ⊎ (status ≡ Status.NoMemory)
      → ((reads ≡ old.counts.reads) × IfSome old.left (λ bytes. WritesSomeFront (Begins bytes) old.content content)) ⊎ ((old.counts.reads < reads) × WritesFront old.content content read_fault_line)
  pub quiet_in : is_told status ≡ true → reads ≡ old.counts.reads
  pub quiet_out : is_told status ≡ true → writes ≡ old.writes
  pub reading : status ≡ Status.ReadFault → writes ≡ old.writes
  pub memory : status ≡ Status.NoMemory → writes ≡ old.writes

pub check_plain : (old : Outside) (content left : Option (List ℕ)) (reads writes : ℕ) (status : Status) → HasChecked old content left reads writes status
    → EndsPlainly (Some Command.Check) old (after old content left reads writes) status
check_plain old content left reads writes status p = record {
  ends = λ told. check_ended _ (disks_of old (after old content left reads writes)) old.content old.left content status refl (p.ends told);
  complete = λ m e. absurd (no_provide m e);
  safe = λ m e. absurd (no_provide m e);
  checked = λ e told. check_done old.content old.left content status (p.ends told);
  generated = λ load e. absurd (no_load load e);
  bad_topology = λ _ told. check_names old.content old.left content status (p.ends told);
  read_fault = p.read_fault;
  cut = p.alone;
  alone = λ e. p.alone;
  write_fault = p.write_fault;
  unfinished = λ short. check_cut_short _ (disks_of old (after old content left reads writes)) old.content old.left left old.counts (record old.counts { reads = reads }) content refl (p.unfinished short);
  disk_fault = λ e. absurd (p.not_disk e);
  broken = λ e. absurd (p.not_disk e);
  backed = λ m e. absurd (no_provide m e);
  journals = λ play e. absurd (no_play play e);
  settles = λ play e. absurd (no_play play e);
  completes = λ play e. absurd (no_play play e);
  quiet_in = p.quiet_in;
  quiet_out = p.quiet_out;
  quiet_disk = λ told _. (raised_none old.counts.faults, raised_none old.counts.stops);
  reading = p.reading;
  memory = p.memory;
}
  where
    no_provide : (m : ℕ) → Some Command.Check ≡ Some (Command.Provide m) → ⊥
    no_provide m e = cc

    no_load : (load : Load) → Some Command.Check ≡ Some (Command.Generate load) → ⊥
    no_load load e = cc

    no_play : (play : Play) → Some Command.Check ≡ Some (Command.Run play) → ⊥
    no_play play e = cc

-- what is written without a look at the input
pub record HasWritten (text : List ℕ) (said : Status) (old : Outside) (content : Option (List ℕ)) (writes : ℕ) (status : Status) : Type 0 where
  pub told : is_told status ≡ true → (status ≡ said) × Writes old.content content text
  pub front : is_told status ≡ false → WritesFront old.content content text
  pub write : status ≡ Status.WriteFault → old.writes < writes
  pub not_read : status ≡ Status.ReadFault → ⊥
  pub not_disk : status ≡ Status.DiskFault → ⊥
  pub quiet : is_told status ≡ true → writes ≡ old.writes
  pub memory : status ≡ Status.NoMemory → writes ≡ old.writes

pub generate_plain : (load : Load) (old : Outside) (content : Option (List ℕ)) (writes : ℕ) (status : Status) → HasWritten (load_of load.from load.size) Status.Done old content writes status
    → EndsPlainly (Some (Command.Generate load)) old (after old content old.left old.counts.reads writes) status
generate_plain load old content writes status p = record {
  ends = λ told. generate_ended _ load (disks_of old (after old content old.left old.counts.reads writes)) old.content old.left content status refl (p.told told);
  complete = λ m e. absurd (no_provide m e);
  safe = λ m e. absurd (no_provide m e);
  checked = λ e. absurd (no_check e);
  generated = λ other e told. generated_is _ load other status old.content content refl e (p.told told);
  bad_topology = λ none. absurd none;
  read_fault = λ e. absurd (p.not_read e);
  cut = λ e. absurd (p.not_read e);
  alone = λ e. absurd (no_check e);
  write_fault = p.write;
  unfinished = λ short. generate_cut_short _ load (disks_of old (after old content old.left old.counts.reads writes)) old.content old.left old.left old.counts content status refl p.front short;
  disk_fault = λ e. absurd (p.not_disk e);
  broken = λ e. absurd (p.not_disk e);
  backed = λ m e. absurd (no_provide m e);
  journals = λ play e. absurd (no_play play e);
  settles = λ play e. absurd (no_play play e);
  completes = λ play e. absurd (no_play play e);
  quiet_in = λ told. refl;
  quiet_out = p.quiet;
  quiet_disk = λ told _. (raised_none old.counts.faults, raised_none old.counts.stops);
  reading = λ e. absurd (p.not_read e);
  memory = p.memory;
}
  where
    no_provide : (m : ℕ) → Some (Command.Generate load) ≡ Some (Command.Provide m) → ⊥
    no_provide m e = cc

    no_check : Some (Command.Generate load) ≡ Some Command.Check → ⊥
    no_check e = cc

    no_play : (play : Play) → Some (Command.Generate load) ≡ Some (Command.Run play) → ⊥
    no_play play e = cc

pub usage_plain : (old : Outside) (content : Option (List ℕ)) (writes : ℕ) (status : Status) → HasWritten (as_line (codes "fault usage")) Status.Usage old content writes status
    → EndsPlainly None old (after old content old.left old.counts.reads writes) status
usage_plain old content writes status p = record {
  ends = λ told. usage_ended _ (disks_of old (after old content old.left old.counts.reads writes)) old.content old.left content status refl (p.told told);
  complete = λ m e. absurd (no_command (Command.Provide m) e);
  safe = λ m e. absurd (no_command (Command.Provide m) e);
  checked = λ e. absurd (no_command Command.Check e);
  generated = λ load e. absurd (no_command (Command.Generate load) e);
  bad_topology = λ none. absurd none;
  read_fault = λ e. absurd (p.not_read e);
  cut = λ e. absurd (p.not_read e);
  alone = λ e. absurd (no_command Command.Check e);
  write_fault = p.write;
  unfinished = λ short. usage_cut_short _ (disks_of old (after old content old.left old.counts.reads writes)) old.content old.left old.left old.counts content status refl p.front short;
  disk_fault = λ e. absurd (p.not_disk e);
  broken = λ e. absurd (p.not_disk e);
  backed = λ m e. absurd (no_command (Command.Provide m) e);
  journals = λ play e. absurd (no_command (Command.Run play) e);
  settles = λ play e. absurd (no_command (Command.Run play) e);
  completes = λ play e. absurd (no_command (Command.Run play) e);
  quiet_in = λ told. refl;
  quiet_out = p.quiet;
  quiet_disk = λ told _. (raised_none old.counts.faults, raised_none old.counts.stops);
  reading = λ e. absurd (p.not_read e);
  memory = p.memory;
}
  where
    no_command : (command : Command) → None ≡ Some command → ⊥
    no_command command e = cc

---- Where memory is wanting for the words

pub nothing_plain : BeginWithNothing → (words : List (List ℕ)) (old : Outside) → EndsPlainly (command_of words) old old Status.NoMemory
nothing_plain none words old = record {
  ends = λ told. absurd (untold told);
  complete = λ m e told. absurd (untold told);
  safe = λ m e told. absurd (untold told);
  checked = λ e told. absurd (untold told);
  generated = λ load e told. absurd (untold told);
  bad_topology = λ reads told. absurd (untold told);
  read_fault = λ e. absurd (no_read e);
  cut = λ e. absurd (no_read e);
  alone = λ named e. absurd (no_read e);
  write_fault = λ e. absurd (no_write e);
  unfinished = λ _. nothing_cut_short none words (disks_of old old) (omega arith) old.content old.left old.counts;
  disk_fault = λ e. absurd (no_disk e);
  broken = λ e. absurd (no_disk e);
  backed = λ m e. nothing_backs old.holds old.content old.left;
  journals = λ play e done. absurd (no_done done);
  settles = λ play e long. absurd (no_long long);
  completes = λ play e _. nothing_completes play old.holds old.left old.content;
  quiet_in = λ told. refl;
  quiet_out = λ told. refl;
  quiet_disk = λ told _. absurd (untold told);
  reading = λ e. refl;
  memory = λ e. refl;
}
  where
    untold : false ≡ true → ⊥
    untold e = cc

    no_read : Status.NoMemory ≡ Status.ReadFault → ⊥
    no_read e = cc

    no_write : Status.NoMemory ≡ Status.WriteFault → ⊥
    no_write e = cc

    no_disk : Status.NoMemory ≡ Status.DiskFault → ⊥
    no_disk e = cc

    no_done : Status.NoMemory ≡ Status.Done → ⊥
    no_done e = cc

    no_long : Status.NoMemory ≡ Status.Long → ⊥
    no_long e = cc

---- Runs

-- what `run` promises
pub record HasRun (play : Play) (old new : Outside) (status : Status) : Type 0 where
  pub ends : is_told status ≡ true → IfSome old.left (λ bytes. WritesSome (RunsTo (options_of play) (disks_of old new) bytes status) old.content new.content)
  pub read_fault : status ≡ Status.ReadFault → old.counts.reads < new.counts.reads
  pub alone : status ≡ Status.ReadFault → Writes old.content new.content read_fault_line
  pub write_fault : status ≡ Status.WriteFault → old.writes < new.writes
  pub disk_fault : status ≡ Status.DiskFault → HasFaulted old.counts new.counts
  pub broken : status ≡ Status.DiskFault → IfSome old.left (λ bytes. WritesSome (Breaks (options_of play) (disks_of old new) bytes) old.content new.content)
  pub unfinished : (status ≡ Status.WriteFault) ⊎ (status ≡ Status.NoMemory) → RunIsCutShort (options_of play) (disks_of old new) old.content old.left old.counts new.counts new.content
  pub quiet_in : is_told status ≡ true → new.counts.reads ≡ old.counts.reads
  pub quiet_out : is_told status ≡ true → new.writes ≡ old.writes
  pub quiet_disk : is_told status ≡ true → (HidesDisks status → ⊥) → IsQuiet old.counts new.counts
  pub reading : status ≡ Status.ReadFault → new.writes ≡ old.writes
  pub memory : status ≡ Status.NoMemory → new.writes ≡ old.writes
  pub journals : status ≡ Status.Done → IfSome old.left (λ bytes. KeepsRun bytes (disks_of old new))
  pub settles : status ≡ Status.Long → IfSome old.left (λ bytes. IsHeavy (options_of play) (disks_of old new) bytes)

pub run_plain : (play : Play) (old new : Outside) (status : Status) → HasRun play old new status → EndsPlainly (Some (Command.Run play)) old new status
run_plain play old new status p = record {
  ends = λ told. run_ended _ play (disks_of old new) old.content old.left new.content status refl (p.ends told);
  complete = λ m e. absurd (no_provide m e);
  safe = λ m e. absurd (no_provide m e);
  checked = λ e. absurd (no_check e);
  generated = λ load e. absurd (no_load load e);
  bad_topology = λ _ told. run_names_fault (options_of play) (disks_of old new) old.content old.left new.content status (p.ends told);
  read_fault = p.read_fault;
  cut = p.alone;
  alone = λ e. absurd (no_check e);
  write_fault = p.write_fault;
  unfinished = p.unfinished;
  disk_fault = p.disk_fault;
  broken = p.broken;
  backed = λ m e. absurd (no_provide m e);
  journals = λ other e. p.journals;
  settles = λ other e long. subst (λ (own : Play). IfSome old.left (λ bytes. IsHeavy (options_of own) (disks_of old new) bytes)) (same_play other e) (p.settles long);
  completes = λ other e quiet. subst (λ (own : Play). IfSome old.left (λ bytes. IfSome old.content (λ content. IsLight own.most old.holds bytes → IsDoneOrShort status))) (same_play other e)
      (run_completes play old new status p.ends p.read_fault p.write_fault p.disk_fault quiet);
  quiet_in = p.quiet_in;
  quiet_out = p.quiet_out;
  quiet_disk = p.quiet_disk;
  reading = p.reading;
  memory = p.memory;
}
  where
    same_play : (other : Play) → Some (Command.Run play) ≡ Some (Command.Run other) → play ≡ other
    same_play other e = cc

    no_provide : (m : ℕ) → Some (Command.Run play) ≡ Some (Command.Provide m) → ⊥
    no_provide m e = cc

    no_check : Some (Command.Run play) ≡ Some Command.Check → ⊥
    no_check e = cc

    no_load : (load : Load) → Some (Command.Run play) ≡ Some (Command.Generate load) → ⊥
    no_load load e = cc

---- Verdicts

-- what `verify` promises
pub record HasVerified (most : ℕ) (old : Outside) (content left : Option (List ℕ)) (reads writes : ℕ) (status : Status) : Type 0 where
  pub ends : is_told status ≡ true → IfSome old.left (λ bytes. WritesSome (VerifiesTo most bytes status) old.content content)
  pub not_disk : status ≡ Status.DiskFault → ⊥
  pub read_fault : status ≡ Status.ReadFault → old.counts.reads < reads
  pub alone : status ≡ Status.ReadFault → Writes old.content content read_fault_line
  pub write_fault : status ≡ Status.WriteFault → old.writes < writes
  pub unfinished :
      (status ≡ Status.WriteFault) ⊎ (status ≡ Status.NoMemory)
      → ((reads ≡ old.counts.reads) × IfSome old.left (λ bytes. WritesSomeFront (BeginsVerify most bytes) old.content content)) ⊎ ((old.counts.reads < reads) × WritesFront old.content content read_fault_line)
  pub quiet_in : is_told status ≡ true → reads ≡ old.counts.reads
  pub quiet_out : is_told status ≡ true → writes ≡ old.writes
  pub reading : status ≡ Status.ReadFault → writes ≡ old.writes
  pub memory : status ≡ Status.NoMemory → writes ≡ old.writes

pub verify_plain : (most : ℕ) (old : Outside) (content left : Option (List ℕ)) (reads writes : ℕ) (status : Status) → HasVerified most old content left reads writes status
    → EndsPlainly (Some (Command.Verify most)) old (after old content left reads writes) status
verify_plain most old content left reads writes status p = record {
  ends = λ told. verify_ended most (disks_of old (after old content left reads writes)) old.content old.left content status (p.ends told);
  complete = λ m e. absurd (no_provide m e);
  safe = λ m e. absurd (no_provide m e);
  checked = λ e. absurd (no_check e);
  generated = λ load e. absurd (no_load load e);
  bad_topology = λ _ told. verify_names_fault most old.content old.left content status (p.ends told);
  read_fault = p.read_fault;
  cut = p.alone;
  alone = λ e. p.alone;
  write_fault = p.write_fault;
  unfinished = λ short. by_fault (p.unfinished short);
  disk_fault = λ e. absurd (p.not_disk e);
  broken = λ e. absurd (p.not_disk e);
  backed = λ m e. absurd (no_provide m e);
  journals = λ play e. absurd (no_play play e);
  settles = λ play e. absurd (no_play play e);
  completes = λ play e. absurd (no_play play e);
  quiet_in = p.quiet_in;
  quiet_out = p.quiet_out;
  quiet_disk = λ told _. (raised_none old.counts.faults, raised_none old.counts.stops);
  reading = p.reading;
  memory = p.memory;
}
  where
    no_provide : (m : ℕ) → Some (Command.Verify most) ≡ Some (Command.Provide m) → ⊥
    no_provide m e = cc

    no_check : Some (Command.Verify most) ≡ Some Command.Check → ⊥
    no_check e = cc

    no_load : (load : Load) → Some (Command.Verify most) ≡ Some (Command.Generate load) → ⊥
    no_load load e = cc

    no_play : (play : Play) → Some (Command.Verify most) ≡ Some (Command.Run play) → ⊥
    no_play play e = cc

    by_fault : ((reads ≡ old.counts.reads) × IfSome old.left (λ bytes. WritesSomeFront (BeginsVerify most bytes) old.content content)) ⊎ ((old.counts.reads < reads) × WritesFront old.content content read_fault_line)
        → IsCutShort (Some (Command.Verify most)) (disks_of old (after old content left reads writes)) old.content old.left left old.counts (record old.counts { reads = reads }) content
    by_fault (inl w) = inl w
    by_fault (inr w) = inr (inl w)
