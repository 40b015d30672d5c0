-- What a run has come to.
use Rattle.std.proofs.Common.{◌≡◌, ◌<◌, ◌⊎◌, inl, inr, ℕ, ◌+◌, List, [], ◌++◌, length, true, Option, Some, None, refl, sym, ap, ◌∙◌, subst, append-nil}
use Rattle.nsi_outside.specs.Stream.{WritesAll, WritesFront}
use Rattle.stp_topology.specs.declared.network.Network.{Network}
use Rattle.stp_topology.specs.Network.{name_of}
use Rattle.nsi_script.specs.declared.script.Script.{Script}
use Rattle.run_totals.specs.declared.totals.Totals.{Totals}
use Rattle.fault_lines.specs.Lines.{journal_fault, disk_fault_line, long_line}
use Rattle.agent_threads.specs.declared.fault.RunFault.{RunFault}
use Rattle.agent_threads.specs.Reports.{written}
use Rattle.agent_threads.specs.declared.report.RunOptions.{RunOptions}
use Rattle.agent_threads.specs.Made.{IsOfAgent}
use Rattle.net_run.specs.Held.{AreTold, IsShown}
use Rattle.net_run.specs.Shelves.{HasFaultOf, IsUnread}
use Rattle.net_run.specs.Worlds.{WritesPlay, WritesTooLong, WritesGroups, WritesSomeOfPlay}
use Rattle.nsi_play.specs.Openings.{plans_of}
use Rattle.run_command.specs.declared.command.RunEnd.{RunEnd}
use Rattle.run_command.specs.Runs.{Disks, Plays, BeginsPlay, BreaksPlay, KeepsPlay, IsBelowWeight, no_text, closing_line}
use Rattle.run_command.proofs.Wholes.{CanRun, whole_run, front_run, below_weight}
use Rattle.run_command.specs.Ends.{HidesDisks, IsOfAgent as IsFaultOf, is_told, WritesSome, WritesSomeFront, Counts, HasFaulted, Closes, IsQuiet, HasRisen, FailsAs, HasRun, HasPlayed}
use Rattle.run_command.proofs.Closing.{behind_all, behind_front}

pub some_text : (P : List ℕ → Type 0) (old new : Option (List ℕ)) (text : List ℕ) → P text → WritesAll old new text → WritesSome P old new
some_text P None new text p w = tt
some_text P (Some c) new text p w = (text, p, w)

pub some_front : (P : List ℕ → Type 0) (old new : Option (List ℕ)) (text : List ℕ) → P text → WritesFront old new text → WritesSomeFront P old new
some_front P None new text p w = tt
some_front P (Some c) new text p w = (text, w.0, p, w.1)

pub some_along : (P Q : List ℕ → Type 0) (old new : Option (List ℕ)) → ((x : List ℕ) → P x → Q x) → WritesSome P old new → WritesSome Q old new
some_along P Q None new f w = tt
some_along P Q (Some c) new f w = (w.0, f w.0 w.1, w.2)

pub front_along : (P Q : List ℕ → Type 0) (old new : Option (List ℕ)) → ((x : List ℕ) → P x → Q x) → WritesSomeFront P old new → WritesSomeFront Q old new
front_along P Q None new f w = tt
front_along P Q (Some c) new f w = (w.0, w.1, f w.0 w.2, w.3)

-- nothing was written yet
pub none_all : (old : Option (List ℕ)) → WritesAll old old []
none_all None = tt
none_all (Some c) = ap (λ x. Some x) (sym (append-nil c))

---- Ends

abbrev pub Kind : RunEnd → RunEnd → Type 0
Kind own end = (end ≡ own) ⊎ ((end ≡ RunEnd.WriteFault) ⊎ (end ≡ RunEnd.NoMemory))

told_only : (own end : RunEnd) → Kind own end → is_told end ≡ true → end ≡ own
told_only own end (inl e) t = e
told_only own end (inr (inl e)) t = cc
told_only own end (inr (inr e)) t = cc

not_broken : (own end : RunEnd) → is_told own ≡ true → Kind own end → end ≡ RunEnd.DiskFault → ⊥
not_broken own end o (inl e) d = cc
not_broken own end o (inr (inl e)) d = cc
not_broken own end o (inr (inr e)) d = cc

not_read : (own end : RunEnd) → (own ≡ RunEnd.ReadFault → ⊥) → Kind own end → end ≡ RunEnd.ReadFault → ⊥
not_read own end o (inl e) d = o (sym e ∙ d)
not_read own end o (inr (inl e)) d = cc
not_read own end o (inr (inr e)) d = cc

pub kinds : (own end : RunEnd) → Kind own end → (own ≡ RunEnd.Done → ⊥) → end ≡ RunEnd.Done → ⊥
kinds own end (inl e) n d = n (sym e ∙ d)
kinds own end (inr (inl e)) n d = cc
kinds own end (inr (inr e)) n d = cc

untold : (end : RunEnd) → Kind RunEnd.DiskFault end → is_told end ≡ true → ⊥
untold end (inl e) t = cc
untold end (inr (inl e)) t = cc
untold end (inr (inr e)) t = cc

told_read : (own : RunEnd) → is_told own ≡ true → own ≡ RunEnd.ReadFault → ⊥
told_read own o e = cc

broken_only : (end : RunEnd) → Kind RunEnd.DiskFault end → end ≡ RunEnd.DiskFault → end ≡ RunEnd.DiskFault
broken_only end k e = e

module _ (Texts : RunEnd → List ℕ → Type 0) (Fronts Broken : List ℕ → Type 0) (old mid new : Option (List ℕ)) (before after : Counts) (b a : ℕ) (base line : List ℕ) (end : RunEnd) (w : WritesAll old mid base) where
  -- a line tells how it has ended
  pub told_run : (own : RunEnd) → Closes line own end mid new b a → is_told own ≡ true → Texts own (base ++ line) → Fronts (base ++ line) → ((HidesDisks own → ⊥) → IsQuiet before after) → HasRun Texts Fronts Broken old new before after b a end
  told_run own k o x f q =
      record {
        ends = λ t.
            let e = told_only own end k.kind t in
            let P : RunEnd → Type 0 = λ d. Texts d (base ++ line) in
            some_text (Texts end) old new (base ++ line) (subst P (sym e) x) (behind_all base line mid new old w (k.told e));
        broken = λ d. absurd (not_broken own end o k.kind d);
        disk = λ d. absurd (not_broken own end o k.kind d);
        unfinished = λ _. inl (some_front Fronts old new (base ++ line) f (behind_front base line mid new old w k.front));
        write = k.write;
        quiet = k.quiet;
        quiet_disk = λ t n. q (λ e. n (subst HidesDisks (sym (told_only own end k.kind t)) e));
        read = λ r. not_read own end (told_read own o) k.kind r;
      }

  -- a line tells whose disk has failed
  pub broken_run : Closes line RunEnd.DiskFault end mid new b a → Broken (base ++ line) → HasFaulted before after → HasRun Texts Fronts Broken old new before after b a end
  broken_run k x d =
      record {
        ends = λ t. absurd (untold end k.kind t);
        broken = λ e. some_text Broken old new (base ++ line) x (behind_all base line mid new old w (k.told e));
        disk = λ _. d;
        unfinished = λ _. inr (d, some_front Broken old new (base ++ line) x (behind_front base line mid new old w k.front));
        write = k.write;
        quiet = k.quiet;
        quiet_disk = λ t n. absurd (untold end k.kind t);
        read = λ r. not_read RunEnd.DiskFault end (λ e. cc) k.kind r;
      }

-- what is known of a play is known of what it is the play of
pub run_along : (T U : RunEnd → List ℕ → Type 0) (F G B D : List ℕ → Type 0) (old new : Option (List ℕ)) (before after : Counts) (b a : ℕ) (end : RunEnd)
    → ((end : RunEnd) (x : List ℕ) → T end x → U end x) → ((x : List ℕ) → F x → G x) → ((x : List ℕ) → B x → D x)
    → HasRun T F B old new before after b a end → HasRun U G D old new before after b a end
run_along T U F G B D old new before after b a end f g h k =
    record {
      ends = λ t. some_along (T end) (U end) old new (f end) (k.ends t);
      broken = λ e. some_along B D old new h (k.broken e);
      disk = k.disk;
      unfinished = λ e. cut (k.unfinished e);
      write = k.write;
      quiet = k.quiet;
      quiet_disk = k.quiet_disk;
      read = k.read;
    }
  where
    cut : WritesSomeFront F old new ⊎ (HasFaulted before after × WritesSomeFront B old new) → WritesSomeFront G old new ⊎ (HasFaulted before after × WritesSomeFront D old new)
    cut (inl w) = inl (front_along F G old new g w)
    cut (inr w) = inr (w.0, front_along B D old new h w.1)

---- Plays

-- what the call of a play promises, where it is over
abbrev pub PlayOver : Network → RunOptions → Disks → Script → (old new : Option (List ℕ)) → Totals → Type 0
PlayOver t options d script old new n = WritesPlay t options (plans_of script.lose) d.held d.holds d.before d.after script.groups old new n

-- and where it passes the limit
abbrev pub PlayTooLong : Network → RunOptions → Disks → Script → (old new : Option (List ℕ)) → Type 0
PlayTooLong t options d script old new = WritesTooLong t options (plans_of script.lose) (length script.stops) d.held d.before d.after script.groups old new

-- and where a disk has failed, or a journal has no reading
abbrev pub PlayBroken : Network → RunOptions → Disks → Script → (old new : Option (List ℕ)) → Type 0
PlayBroken t options d script old new = WritesGroups t options (plans_of script.lose) d.held d.before d.after script.groups old new

-- and on each other fault
abbrev pub PlayCut : Network → RunOptions → Disks → Script → (old new : Option (List ℕ)) → Type 0
PlayCut t options d script old new = WritesSomeOfPlay t options (plans_of script.lose) d.held d.before d.after script.groups old new

-- the journals that it leaves
pub kept_play : (t : Network) (options : RunOptions) (d : Disks) (script : Script) (old new : Option (List ℕ)) (n : Totals) → PlayOver t options d script old new n → KeepsPlay d t script
kept_play t options d script old new n w = (w.0, w.1, w.2)

module _ (t : Network) (options : RunOptions) (d : Disks) (script : Script) (old mid new : Option (List ℕ)) (before after : Counts) (b m a : ℕ) (same : m ≡ b) (end : RunEnd) where
  closes_from : (line : List ℕ) (own : RunEnd) → Closes line own end mid new m a → Closes line own end mid new b a
  closes_from line own k = let P : ℕ → Type 0 = λ x. Closes line own end mid new x a in subst P same k

  pub settled_run : CanRun options.limit t script → (n : Totals) → PlayOver t options d script old mid n → Closes (closing_line options.report n) RunEnd.Done end mid new m a → IsQuiet before after → HasPlayed options d t script old new before after b a end
  settled_run can n w k q =
      let events = w.0 in
      let base = written options.report t events in
      let line = closing_line options.report n in
      let is : Plays options d t script RunEnd.Done (base ++ line) =
      record { events = events; play = w.1; run = whole_run options.limit t script d.held d.before d.after events can w.1 w.4; journals = w.2; within = w.4; spelled = ap (λ (x : Totals). base ++ closing_line options.report x) w.3 } in
      told_run (Plays options d t script) (BeginsPlay options d t script) (BreaksPlay options d t script) old mid new before after b a base line end w.5
      RunEnd.Done (closes_from line RunEnd.Done k) refl is (inl (RunEnd.Done, is)) (λ _. q)

  pub too_long_run : CanRun options.limit t script → PlayTooLong t options d script old mid → Closes long_line RunEnd.Long end mid new m a → HasPlayed options d t script old new before after b a end
  too_long_run can w k =
      let text = written options.report t w.1 ++ long_line in
      let is : Plays options d t script RunEnd.Long text = record { groups = w.0; events = w.1; first = record { play = w.2; run = front_run options.limit t script d.held d.before d.after w.0 w.1 can w.2 w.3; within = w.3 }; passes = w.4; below = below_weight options.limit t script d (w.0 + 1) can w.4; spelled = refl } in
      told_run (Plays options d t script) (BeginsPlay options d t script) (BreaksPlay options d t script) old mid new before after b a (written options.report t w.1) long_line end w.5
      RunEnd.Long (closes_from long_line RunEnd.Long k) refl is (inl (RunEnd.Long, is)) (λ n. absurd (n tt))

  pub failed_run : CanRun options.limit t script → (agent : ℕ) → PlayBroken t options d script old mid → Closes (disk_fault_line (name_of t agent)) RunEnd.DiskFault end mid new m a → HasFaulted before after → HasPlayed options d t script old new before after b a end
  failed_run can agent w k h =
      let line = disk_fault_line (name_of t agent) in
      let is : BreaksPlay options d t script (written options.report t w.1 ++ line) = (agent, record { groups = w.0; events = w.1; first = record { play = w.2; run = front_run options.limit t script d.held d.before d.after w.0 w.1 can w.2 w.3; within = w.3 }; spelled = refl }) in
      broken_run (Plays options d t script) (BeginsPlay options d t script) (BreaksPlay options d t script) old mid new before after b a (written options.report t w.1) line end w.4
      (closes_from line RunEnd.DiskFault k) is h

  pub unread_run : CanRun options.limit t script → (agent place : ℕ) → IsUnread (AreTold t d.held) (IsShown t script.groups d.held) d.before d.after → PlayBroken t options d script old mid → Closes (journal_fault (name_of t agent) place) RunEnd.NotAJournal end mid new m a
      → HasPlayed options d t script old new before after b a end
  unread_run can agent place untold w k =
      let line = journal_fault (name_of t agent) place in
      let is : Plays options d t script RunEnd.NotAJournal (written options.report t w.1 ++ line) =
      (agent, place, untold, record { groups = w.0; events = w.1; first = record { play = w.2; run = front_run options.limit t script d.held d.before d.after w.0 w.1 can w.2 w.3; within = w.3 }; spelled = refl }) in
      told_run (Plays options d t script) (BeginsPlay options d t script) (BreaksPlay options d t script) old mid new before after b a (written options.report t w.1) line end w.4
      RunEnd.NotAJournal (closes_from line RunEnd.NotAJournal k) refl is (inl (RunEnd.NotAJournal, is)) (λ n. absurd (n tt))

---- Plays that have failed

-- a front of some groups stands, and nothing more is written
module _ (t : Network) (options : RunOptions) (d : Disks) (script : Script) (old new : Option (List ℕ)) (before after : Counts) (b a : ℕ) where
  begun_front : CanRun options.limit t script → PlayCut t options d script old new → WritesSomeFront (BeginsPlay options d t script) old new
  begun_front can w =
      let text = written options.report t w.1 ++ no_text t in
      let is : BeginsPlay options d t script text = inr (record { groups = w.0; events = w.1; first = record { play = w.2; run = front_run options.limit t script d.held d.before d.after w.0 w.1 can w.2 w.3; within = w.3 }; spelled = refl }) in
      some_front (BeginsPlay options d t script) old new text is (subst (WritesFront old new) (sym (append-nil (written options.report t w.1))) w.4)

  silent_run : CanRun options.limit t script → (end : RunEnd) → (end ≡ RunEnd.WriteFault → b < a) → ((end ≡ RunEnd.WriteFault → ⊥) → a ≡ b) → (end ≡ RunEnd.WriteFault) ⊎ (end ≡ RunEnd.NoMemory) → PlayCut t options d script old new
      → HasPlayed options d t script old new before after b a end
  silent_run can end w q k f =
      record {
        ends = λ o. absurd (not_told k o);
        broken = λ e. absurd (not_disk k e);
        disk = λ e. absurd (not_disk k e);
        unfinished = λ _. inl (begun_front can f);
        write = w;
        quiet = q;
        quiet_disk = λ o n. absurd (not_told k o);
        read = λ e. not_reading k e;
      }
    where
      not_told : (end ≡ RunEnd.WriteFault) ⊎ (end ≡ RunEnd.NoMemory) → is_told end ≡ true → ⊥
      not_told (inl e) o = cc
      not_told (inr e) o = cc

      not_disk : (end ≡ RunEnd.WriteFault) ⊎ (end ≡ RunEnd.NoMemory) → end ≡ RunEnd.DiskFault → ⊥
      not_disk (inl e) o = cc
      not_disk (inr e) o = cc

      not_reading : (end ≡ RunEnd.WriteFault) ⊎ (end ≡ RunEnd.NoMemory) → end ≡ RunEnd.ReadFault → ⊥
      not_reading (inl e) o = cc
      not_reading (inr e) o = cc

-- what the call of a play promises of its fault
pub record Failing (t : Network) (options : RunOptions) (d : Disks) (script : Script) (old mid : Option (List ℕ)) (before after : Counts) (b m : ℕ) (fault : RunFault) : Type 0 where
  pub long : fault ≡ RunFault.Long → PlayTooLong t options d script old mid
  pub broken : IsOfAgent fault → PlayBroken t options d script old mid
  pub unread : (agent place : ℕ) → fault ≡ RunFault.NotAJournal agent place → IsUnread (AreTold t d.held) (IsShown t script.groups d.held) d.before d.after
  pub disk : (agent : ℕ) → fault ≡ RunFault.DiskFault agent → HasFaulted before after
  pub front : PlayCut t options d script old mid
  pub write : fault ≡ RunFault.WriteFault → b < m
  pub quiet : (fault ≡ RunFault.WriteFault → ⊥) → m ≡ b

module _ (t : Network) (options : RunOptions) (d : Disks) (script : Script) (old mid new : Option (List ℕ)) (before after : Counts) (b m a : ℕ) (end : RunEnd) where
  pub failing_run : CanRun options.limit t script → (fault : RunFault) → Failing t options d script old mid before after b m fault → FailsAs t fault end mid new m a → HasPlayed options d t script old new before after b a end
  failing_run can RunFault.Long f k = too_long_run t options d script old mid new before after b m a (f.quiet (λ e. cc)) end can (f.long refl) k
  failing_run can (RunFault.DiskFault agent) f k = failed_run t options d script old mid new before after b m a (f.quiet (λ e. cc)) end can agent (f.broken tt) k (f.disk agent refl)
  failing_run can (RunFault.NotAJournal agent place) f k = unread_run t options d script old mid new before after b m a (f.quiet (λ e. cc)) end can agent place (f.unread agent place refl) (f.broken tt) k
  failing_run can RunFault.WriteFault f k =
      let r = f.write refl in
      let P : Option (List ℕ) → Type 0 = λ o. PlayCut t options d script old o in
      silent_run t options d script old new before after b a can end (λ _. subst (λ x. b < x) (sym k.still) r) (λ n. absurd (n k.is)) (inl k.is) (subst P (sym k.same) f.front)
  failing_run can RunFault.NoMemory f k =
      let P : Option (List ℕ) → Type 0 = λ o. PlayCut t options d script old o in
      let e = k.is in
      silent_run t options d script old new before after b a can end (λ w. cc) (λ _. k.still ∙ f.quiet (λ w. cc)) (inr k.is) (subst P (sym k.same) f.front)

-- a play that has failed isn't done
pub long_only : (own end : RunEnd) → Kind own end → (own ≡ RunEnd.Long → ⊥) → end ≡ RunEnd.Long → ⊥
long_only own end (inl e) n d = n (sym e ∙ d)
long_only own end (inr (inl e)) n d = cc
long_only own end (inr (inr e)) n d = cc

pub fails_long : (t : Network) (fault : RunFault) (end : RunEnd) (old new : Option (List ℕ)) (b a : ℕ) → FailsAs t fault end old new b a → end ≡ RunEnd.Long → fault ≡ RunFault.Long
fails_long t RunFault.Long end old new b a k e = refl
fails_long t (RunFault.DiskFault agent) end old new b a k e = absurd (long_only RunEnd.DiskFault end k.kind (λ d. cc) e)
fails_long t (RunFault.NotAJournal agent place) end old new b a k e = absurd (long_only RunEnd.NotAJournal end k.kind (λ d. cc) e)
fails_long t RunFault.WriteFault end old new b a k e = let i = k.is in cc
fails_long t RunFault.NoMemory end old new b a k e = let i = k.is in cc

-- a play is too long only where the weight of its script is above the limit
pub too_heavy : (t : Network) (options : RunOptions) (d : Disks) (script : Script) (old new : Option (List ℕ)) → CanRun options.limit t script → PlayTooLong t options d script old new → IsBelowWeight options.limit d t script
too_heavy t options d script old new can w = below_weight options.limit t script d (w.0 + 1) can w.4

pub fails_not_done : (t : Network) (fault : RunFault) (end : RunEnd) (old new : Option (List ℕ)) (b a : ℕ) → FailsAs t fault end old new b a → end ≡ RunEnd.Done → ⊥
fails_not_done t RunFault.Long end old new b a k e = kinds RunEnd.Long end k.kind (λ d. cc) e
fails_not_done t (RunFault.DiskFault agent) end old new b a k e = kinds RunEnd.DiskFault end k.kind (λ d. cc) e
fails_not_done t (RunFault.NotAJournal agent place) end old new b a k e = kinds RunEnd.NotAJournal end k.kind (λ d. cc) e
fails_not_done t RunFault.WriteFault end old new b a k e = let i = k.is in cc
fails_not_done t RunFault.NoMemory end old new b a k e = let i = k.is in cc

---- Causes

pub unread_cause : (t : Network) (Told Shown : Type 0) (f g s r : ℕ) (fault : RunFault) (agent place : ℕ) → fault ≡ RunFault.NotAJournal agent place → HasFaultOf t Told Shown f g s r fault → IsUnread Told Shown s r
unread_cause t Told Shown f g s r fault agent place e c = (subst (HasFaultOf t Told Shown f g s r) e c).1

pub disk_cause : (t : Network) (Told Shown : Type 0) (f g s r : ℕ) (fault : RunFault) (agent : ℕ) → fault ≡ RunFault.DiskFault agent → HasFaultOf t Told Shown f g s r fault → HasRisen f g
disk_cause t Told Shown f g s r fault agent e c = (subst (HasFaultOf t Told Shown f g s r) e c).1

pub of_agent : (t : Network) (Told Shown : Type 0) (f g s r : ℕ) (fault : RunFault) → HasFaultOf t Told Shown f g s r fault → IsFaultOf t fault
of_agent t Told Shown f g s r RunFault.Long c = tt
of_agent t Told Shown f g s r RunFault.WriteFault c = tt
of_agent t Told Shown f g s r (RunFault.DiskFault agent) c = c.0
of_agent t Told Shown f g s r (RunFault.NotAJournal agent place) c = c.0
of_agent t Told Shown f g s r RunFault.NoMemory c = tt
