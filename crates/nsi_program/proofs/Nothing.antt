-- Where memory is wanting for the words, nothing is done.
use Rattle.std.proofs.Common.{◌≡◌, ◌≤◌, ℕ, inl, List, [], Option, Some, None, refl, sym, ap, append-nil}
use Rattle.std.specs.Prelude.{IfSome, codes}
use Rattle.agent_threads.specs.declared.report.RunOptions.{RunOptions}
use Rattle.command_words.proofs.FewEvents.{limit_few}
use Rattle.command_words.specs.Words.{command_of}
use Rattle.command_words.specs.declared.command.Command.{Command}
use Rattle.line_reader.specs.Given.{Given}
use Rattle.line_reader.specs.Held.{Held, rest_of, to_come}
use Rattle.nsi_base.specs.Range.{greatest_input}
use Rattle.provide_command.specs.Backed.{Backs}
use Rattle.provide_command.specs.Cut.{IsStopped, StopsAt}
use Rattle.fault_lines.specs.Counts.{Counts}
use Rattle.nsi_program.specs.Ends.{IsCutShort}
use Rattle.fault_lines.specs.Lines.{as_line}
use Rattle.provide_command.specs.Phases.{Phase, Reading, in_topology}
use Rattle.nsi_program.specs.RunsTo.{options_of}
use Rattle.nsi_program.specs.VerifiesTo.{BeginsVerify}
use Rattle.provide_command.proofs.Written.{nothing_some}
use Rattle.nsi_script.specs.Load.{load_of}
use Rattle.run_command.specs.Ends.{WritesSomeFront}
use Rattle.run_command.specs.Runs.{Disks, Begins}
use Rattle.stp_topology.specs.Network.{nothing}
use Rattle.provide_command.proofs.Answered.{stopped, up_to_start}
use Rattle.provide_command.proofs.Backing.{unshelved_silent}
use Rattle.provide_command.proofs.Begun.{any_reading, nothing_front}
use Rattle.nsi_program.proofs.Ended.{nothing_begun}

abbrev Holds : Type 0
Holds = List ℕ → Option (List ℕ)

stops_at_once : (read : Reading) (number : ℕ) (phase : Phase) (content : Option (List ℕ)) (given : Option Given) → StopsAt read number phase content given content
stops_at_once read number phase None given = tt
stops_at_once read number phase (Some c) None = tt
stops_at_once read number phase (Some c) (Some g) = (0, ap (λ x. Some x) (sym (append-nil c)))

-- before the first line
abbrev nothing_held : Held
nothing_held = record { bytes = []; room = greatest_input }

nothing_stopped : (read : Reading) (most : ℕ) (content left : Option (List ℕ)) → most ≤ 2000000 → IsStopped read most content left content
nothing_stopped read most content left few =
    let phase = in_topology (record { topology = nothing; most = most }) in
    stopped read most content left 1 phase content (rest_of nothing_held left) (to_come nothing_held left) content few (up_to_start read nothing_held nothing most content left refl refl)
    (stops_at_once read 1 phase content (to_come nothing_held left))

-- nothing is a front of what each run writes
abbrev pub BeginWithNothing : Type 0
BeginWithNothing = (options : RunOptions) (d : Disks) → d.before ≤ d.after → (left old : Option (List ℕ)) → IfSome left (λ bytes. WritesSomeFront (Begins options d bytes) old old)

no_verdict : (most : ℕ) (left old : Option (List ℕ)) → IfSome left (λ bytes. WritesSomeFront (BeginsVerify most bytes) old old)
no_verdict most None old = tt
no_verdict most (Some bytes) old = nothing_some (BeginsVerify most bytes) old old [] (inl refl) refl

-- whatever the words are
pub nothing_cut_short : BeginWithNothing → (words : List (List ℕ)) (d : Disks) → d.before ≤ d.after → (content left : Option (List ℕ)) (counts : Counts) → IsCutShort (command_of words) d content left left counts counts content
nothing_cut_short none words d up content left counts = go (command_of words) refl
  where
    go : (command : Option Command) → command_of words ≡ command → IsCutShort command d content left left counts counts content
    go None e = inl (refl, nothing_front content content (as_line (codes "fault usage")) refl)
    go (Some (Command.Provide most)) e =
        inl (refl, any_reading d.held left (λ read. IsStopped read most content left content) (λ read. nothing_stopped read most content left (limit_few words most e)))
    go (Some (Command.Run play)) e = inl (refl, none (options_of play) d up left content)
    go (Some Command.Check) e = inl (refl, nothing_begun left content content refl)
    go (Some (Command.Verify most)) e = inl (refl, no_verdict most left content)
    go (Some (Command.Generate load)) e = inl (refl, nothing_front content content (load_of load.from load.size) refl)

pub nothing_backs : (holds : Holds) (content left : Option (List ℕ)) → Backs holds holds content left content
nothing_backs holds content None = tt
nothing_backs holds content (Some bytes) = λ t provider serves. unshelved_silent holds holds t provider content content (λ n. refl) refl
