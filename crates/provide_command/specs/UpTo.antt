-- How far the lines of `provide` are answered.
use Rattle.std.specs.Prelude.{◌≡◌, ◌⊎◌, ℕ, ◌+◌, List, [], ◌++◌, length, Bool, Option, Some, None, Ok, IfSome}
use Rattle.nsi_base.specs.Lines.{lines_to, lines_of, feed_at}
use Rattle.nsi_base.specs.Range.{greatest_input}
use Rattle.line_reader.specs.Given.{Given, given_of, IsSame, TakesLine}
use Rattle.line_reader.specs.Held.{Held, rest_of, CutsLine}
use Rattle.stp_topology.specs.declared.network.Network.{Network}
use Rattle.stp_topology.specs.declared.topology.Taken.{Taken}
use Rattle.stp_topology.specs.Network.{first_provider}
use Rattle.stp_topology.specs.Text.{of_line}
use Rattle.provide_command.specs.Cut.{StopsAt}
use Rattle.provide_command.specs.Outcome.{GoesOn}
use Rattle.provide_command.specs.Phases.{Reading, Phase, in_topology}
use Rattle.provide_command.specs.Promise.{begun, promised, promise_of, IsSameEnd}
use Rattle.provide_command.specs.declared.output.Fault.{Fault}
use Rattle.provide_command.specs.declared.output.Halt.{Halt}

-- the lines of what was handed out come first; behind a last line without an end nothing is left
abbrev pub Handed : (done behind : List ℕ) → List (List ℕ) → Type 0
Handed done behind lines = ((tail : Bool) (more : List ℕ) → lines_to tail (done ++ more) ≡ lines ++ lines_to tail more) ⊎ ((behind ≡ []) × (lines_of done ≡ lines))

-- the lines so far are answered, and what is left gives the others
pub record IsUpTo (read : Reading) (most : ℕ) (c bytes : List ℕ) (number : ℕ) (phase : Phase) (content rest : Option (List ℕ)) (given : Option Given) : Type 0 where
  pub done : List ℕ
  pub behind : List ℕ
  pub lines : List (List ℕ)
  pub text : List ℕ
  pub left : Given
  pub cut : bytes ≡ done ++ behind
  pub handed : Handed done behind lines
  pub goes : GoesOn read 1 (begun most) lines phase text
  pub count : number ≡ 1 + length lines
  pub content_is : content ≡ Some (c ++ text)
  pub rest_is : rest ≡ Some behind
  pub given_is : given ≡ Some left
  pub whole_lines : (given_of greatest_input bytes).lines ≡ lines ++ left.lines
  pub whole_long : (given_of greatest_input bytes).long ≡ left.long

-- where sink and source tell
abbrev pub IsUpToIf : Reading → ℕ → (first left : Option (List ℕ)) → ℕ → Phase → (content rest : Option (List ℕ)) → Option Given → Type 0
IsUpToIf read most first left number phase content rest given = IfSome first (λ c. IfSome left (λ bytes. IsUpTo read most c bytes number phase content rest given))

---- Where lines halt

-- At some line it has halted, up to which all are answered: reading failed, and nothing that was read is lost; the disk failed, and
-- nothing was written; or a front was written of what is written next.
abbrev pub HaltsWith : Reading → Halt → ℕ → Phase → (content rest : Option (List ℕ)) → Option Given → Held → (left new : Option (List ℕ)) → Type 0
HaltsWith read (Halt.Outside Fault.Read) number phase content rest given held left new = IsSame rest (rest_of held left) × (feed_at held.bytes ≡ None) × (new ≡ content)
HaltsWith read Halt.Disk number phase content rest given held left new = new ≡ content
HaltsWith read _ number phase content rest given held left new = StopsAt read number phase content given new

pub record HaltsAt (read : Reading) (most : ℕ) (first start : Option (List ℕ)) (halt : Halt) (held : Held) (left new : Option (List ℕ)) : Type 0 where
  pub number : ℕ
  pub phase : Phase
  pub content : Option (List ℕ)
  pub rest : Option (List ℕ)
  pub given : Option Given
  pub up_to : IsUpToIf read most first start number phase content rest given
  pub halts : HaltsWith read halt number phase content rest given held left new

-- The line with this number made the topology whole; the lines before it are answered, and nothing is written for it yet.
pub record IsBegun (most : ℕ) (first start : Option (List ℕ)) (number : ℕ) (whole : Network) (provider : ℕ) (content left_rest : Option (List ℕ)) (left_given : Option Given) : Type 0 where
  pub topology : Network
  pub line : List ℕ
  pub rest : Option (List ℕ)
  pub given : Option Given
  pub is_whole : of_line topology line ≡ Ok (Taken.Whole whole)
  pub provides : first_provider whole ≡ Some provider
  pub takes : TakesLine given left_given line
  pub cuts : CutsLine rest left_rest line
  pub same : (read : Reading) → IsSameEnd (promise_of read most first start) (promised read number (in_topology (record { topology = topology; most = most })) content given)
  pub up_to : (read : Reading) → IsUpToIf read most first start number (in_topology (record { topology = topology; most = most })) content rest given
