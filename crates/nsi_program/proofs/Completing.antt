-- A run whose weight is within its limit is done where no call fails outside, or memory is wanting.
use Rattle.std.proofs.Common.{◌≡◌, ◌<◌, ℕ, ◌⊎◌, inl, inr, List, true, Option, Some, None, refl, ap, ◌∙◌, arith}
use Rattle.std.specs.Prelude.{IfSome}
use Rattle.command_words.specs.declared.command.Play.{Play}
use Rattle.provide_command.specs.declared.status.Status.{Status}
use Rattle.provide_command.specs.Promise.{is_told}
use Rattle.provide_command.specs.Writes.{WritesSome}
use Rattle.run_command.specs.Ends.{HasFaulted}
use Rattle.run_command.specs.Runs.{Disks, IsLight}
use Rattle.run_command.proofs.Light.{light_done}
use Rattle.nsi_program.specs.Ends.{NoneFailed, IsDoneOrShort}
use Rattle.nsi_program.specs.Plain.{Outside, disks_of}
use Rattle.nsi_program.specs.RunsTo.{RunsTo, options_of, status_of_run}

-- memory that is wanting is one of both
pub nothing_completes : (play : Play) (holds : List ℕ → Option (List ℕ)) (left content : Option (List ℕ)) → IfSome left (λ bytes. IfSome content (λ c. IsLight play.most holds bytes → IsDoneOrShort Status.NoMemory))
nothing_completes play holds None content = tt
nothing_completes play holds (Some bytes) None = tt
nothing_completes play holds (Some bytes) (Some c) = λ light. inr refl

told_completes : (play : Play) (d : Disks) (left content written : Option (List ℕ)) (status : Status) → IfSome left (λ bytes. WritesSome (RunsTo (options_of play) d bytes status) content written)
    → IfSome left (λ bytes. IfSome content (λ c. IsLight play.most d.held bytes → IsDoneOrShort status))
told_completes play d None content written status w = tt
told_completes play d (Some bytes) None written status w = tt
told_completes play d (Some bytes) (Some c) written status w = λ light. inl (done w.0 light w.1)
  where
    done : (text : List ℕ) → IsLight play.most d.held bytes → RunsTo (options_of play) d bytes status text → status ≡ Status.Done
    done text light r = r.1 ∙ ap status_of_run (light_done (options_of play) d bytes light r.0 text r.2)

never : (play : Play) (holds : List ℕ → Option (List ℕ)) (left content : Option (List ℕ)) (status : Status) → ⊥ → IfSome left (λ bytes. IfSome content (λ c. IsLight play.most holds bytes → IsDoneOrShort status))
never play holds left content status none = absurd none

below_none : {before after : ℕ} → before < after → after ≡ before → ⊥
below_none more same = omega (arith, more, same)

pub run_completes : (play : Play) (old new : Outside) (status : Status)
    → (is_told status ≡ true → IfSome old.left (λ bytes. WritesSome (RunsTo (options_of play) (disks_of old new) bytes status) old.content new.content))
    → (status ≡ Status.ReadFault → old.counts.reads < new.counts.reads) → (status ≡ Status.WriteFault → old.writes < new.writes) → (status ≡ Status.DiskFault → HasFaulted old.counts new.counts)
    → NoneFailed old.counts new.counts old.writes new.writes → IfSome old.left (λ bytes. IfSome old.content (λ content. IsLight play.most old.holds bytes → IsDoneOrShort status))
run_completes play old new Status.NoMemory ends read write disk quiet = nothing_completes play old.holds old.left old.content
run_completes play old new Status.ReadFault ends read write disk quiet = never play old.holds old.left old.content Status.ReadFault (below_none (read refl) quiet.reads)
run_completes play old new Status.WriteFault ends read write disk quiet = never play old.holds old.left old.content Status.WriteFault (below_none (write refl) quiet.writes)
run_completes play old new Status.DiskFault ends read write disk quiet = never play old.holds old.left old.content Status.DiskFault (quiet.disks (disk refl))
run_completes play old new Status.Done ends read write disk quiet = told_completes play (disks_of old new) old.left old.content new.content Status.Done (ends refl)
run_completes play old new Status.BadTopology ends read write disk quiet = told_completes play (disks_of old new) old.left old.content new.content Status.BadTopology (ends refl)
run_completes play old new Status.BadScript ends read write disk quiet = told_completes play (disks_of old new) old.left old.content new.content Status.BadScript (ends refl)
run_completes play old new Status.Long ends read write disk quiet = told_completes play (disks_of old new) old.left old.content new.content Status.Long (ends refl)
run_completes play old new Status.NotAJournal ends read write disk quiet = told_completes play (disks_of old new) old.left old.content new.content Status.NotAJournal (ends refl)
run_completes play old new Status.Usage ends read write disk quiet = told_completes play (disks_of old new) old.left old.content new.content Status.Usage (ends refl)
run_completes play old new Status.Differ ends read write disk quiet = told_completes play (disks_of old new) old.left old.content new.content Status.Differ (ends refl)
