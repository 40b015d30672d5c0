-- Texts of `provide` that were cut short.
use Rattle.std.specs.Prelude.{◌≡◌, ◌+◌, ◌⊎◌, ℕ, List, [], ◌++◌, length, take, Option, Some, IfSome}
use Rattle.line_reader.specs.Given.{Given, given_of, TakesLine}
use Rattle.line_reader.specs.Held.{CutsLine}
use Rattle.nsi_base.specs.Lines.{lines_of, ended_lines}
use Rattle.provide_command.specs.Outcome.{move_of, GoesOn, next_text}
use Rattle.nsi_base.specs.Range.{greatest_input}
use Rattle.provide_command.specs.Promise.{begun, read_fault_line, Writes}
use Rattle.provide_command.specs.Runs.{RunsSafely, ServesSafely}
use Rattle.provide_command.specs.Phases.{Reading, Phase, goes_to}
use Rattle.provide_command.specs.declared.status.Status.{Status}

---- Lines that are answered

-- These lines, none of which ends the command, are answered by this text, and that is the text of a safe run.
pub record IsAnswered (read : Reading) (most : ℕ) (lines : List (List ℕ)) (phase : Phase) (text : List ℕ) : Type 0 where
  pub goes : GoesOn read 1 (begun most) lines phase text
  pub safe : RunsSafely read lines text

-- the lines that ended within what was read; at the end of the input the last may have no end
abbrev pub IsEnded : (done behind : List ℕ) → List (List ℕ) → Type 0
IsEnded done behind lines = (lines ≡ ended_lines done) ⊎ ((behind ≡ []) × (lines ≡ lines_of done))

---- Reading failed

-- What was read is a front of the bytes, and the text answers the lines that ended within it.
pub record AnswersRead (read : Reading) (most : ℕ) (bytes behind text : List ℕ) : Type 0 where
  pub done : List ℕ
  pub cut : bytes ≡ done ++ behind
  pub lines : List (List ℕ)
  pub ended : IsEnded done behind lines
  pub phase : Phase
  pub answered : IsAnswered read most lines phase text

-- where it is told, such a text was appended, and behind it another
abbrev pub AppendsRead : Reading → ℕ → (content left rest : Option (List ℕ)) → List ℕ → Option (List ℕ) → Type 0
AppendsRead read most content left rest more new =
    IfSome content (λ c. IfSome left (λ bytes. (behind : List ℕ) × (rest ≡ Some behind) × (text : List ℕ) × AnswersRead read most bytes behind text × (new ≡ Some (c ++ (text ++ more)))))

-- all that was read is answered, and behind the answers stands the line of the fault
abbrev pub IsCutByFault : Reading → ℕ → (content left rest new : Option (List ℕ)) → Type 0
IsCutByFault read most content left rest new = AppendsRead read most content left rest read_fault_line new

-- or a front of that line
abbrev pub IsFrontOfCut : Reading → ℕ → (content left rest new : Option (List ℕ)) → Type 0
IsFrontOfCut read most content left rest new = (k : ℕ) × AppendsRead read most content left rest (take k read_fault_line) new

---- Writing was cut short

-- Some first lines are answered, and of what is written next a front stands there; both are a front of the text of a safe run.
pub record AnswersSome (read : Reading) (most : ℕ) (given : Given) (text : List ℕ) : Type 0 where
  pub lines : List (List ℕ)
  pub back : List (List ℕ)
  pub cut : given.lines ≡ lines ++ back
  pub phase : Phase
  pub body : List ℕ
  pub answered : IsAnswered read most lines phase body
  pub front : ℕ
  pub is : text ≡ body ++ take front (next_text read given.long (1 + length lines) phase back)
  pub status : Status
  pub whole : List ℕ
  pub safe : ServesSafely read (lines ++ take 1 back) status whole
  pub within : text ≡ take (length text) whole

-- where it is told, such a text was appended
abbrev pub IsStopped : Reading → ℕ → (content left new : Option (List ℕ)) → Type 0
IsStopped read most content left new = IfSome content (λ c. IfSome left (λ bytes. (text : List ℕ) × AnswersSome read most (given_of greatest_input bytes) text × (new ≡ Some (c ++ text))))

-- The disk failed: some first lines are answered, and behind them stands this line.
pub record AnswersThen (read : Reading) (most : ℕ) (given : Given) (line text : List ℕ) : Type 0 where
  pub lines : List (List ℕ)
  pub back : List (List ℕ)
  pub cut : given.lines ≡ lines ++ back
  pub phase : Phase
  pub body : List ℕ
  pub answered : IsAnswered read most lines phase body
  pub is : text ≡ body ++ line

---- One step

-- a line was taken and answered, and it doesn't end the command
abbrev pub TakesOn : Reading → ℕ → Phase → (content rest : Option (List ℕ)) → Option Given → (new_content new_rest : Option (List ℕ)) → Option Given → Phase → Type 0
TakesOn read number phase content rest given new_content new_rest new_given next =
    (line : List ℕ) × TakesLine given new_given line × CutsLine rest new_rest line × ((move_of read number phase line).step ≡ goes_to next) × Writes content new_content (move_of read number phase line).text

-- a front was written of what is written next
abbrev pub StopsAt : Reading → ℕ → Phase → Option (List ℕ) → Option Given → Option (List ℕ) → Type 0
StopsAt read number phase content given new = IfSome content (λ c. IfSome given (λ g. (k : ℕ) × (new ≡ Some (c ++ take k (next_text read g.long number phase g.lines)))))
