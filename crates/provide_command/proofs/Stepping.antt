-- One line of a service, and how it halts.
use Rattle.std.proofs.Common.{◌≡◌, ◌+◌, ℕ, List, [], true, Option, Some, None, Result, Ok, Err, IfSome, refl, sym, ap, ◌∙◌, subst, append-nil}
use Rattle.std.specs.Prelude.{IfOk, IfErr, OnOk, OnErr}
use Rattle.line_reader.specs.Given.{Given, TakesLine}
use Rattle.line_reader.specs.Held.{Held, CutsLine}
use Rattle.provide_command.specs.Cut.{TakesOn, StopsAt}
use Rattle.provide_command.specs.Halts.{step_of}
use Rattle.provide_command.specs.Lines.{serve, long_line}
use Rattle.provide_command.specs.Outcome.{Move, move_of, goes_on}
use Rattle.provide_command.specs.Phases.{Reading, Phase, in_service}
use Rattle.provide_command.specs.Promise.{Writes, WritesFront, promised, promised_after, IsSameEnd}
use Rattle.provide_command.specs.Serving.{Serving}
use Rattle.provide_command.specs.UpTo.{HaltsWith}
use Rattle.provide_command.specs.declared.output.Fault.{Fault}
use Rattle.provide_command.specs.declared.output.Halt.{Halt}
use Rattle.provide_command.specs.declared.status.Ending.{Ending}
use Rattle.provide_command.proofs.Answered.{line_stops, end_stops}
use Rattle.provide_command.proofs.Promised.{line_step, end_step}

pub service_move : (read : Reading) (number : ℕ) (s : Serving) (line : List ℕ) → move_of read number (in_service s) line ≡ goes_on (serve s number line)
unfolding move_of
service_move read number s line = refl

-- what holds of each halt
pub on_halt : {T : Type 0} (r : Result T Halt) (P : Halt → Type 0) → ((halt : Halt) → r ≡ Err halt → P halt) → IfErr r P
on_halt (Ok x) P f = tt
on_halt (Err halt) P f = f halt refl

-- a front of a text was written that is written next
pub halts_stopped : (read : Reading) (halt : Halt) (number : ℕ) (phase : Phase) (content rest : Option (List ℕ)) (given : Option Given) (held : Held) (left new : Option (List ℕ)) → (halt ≡ Halt.Outside Fault.Read → ⊥) → (halt ≡ Halt.Disk → new ≡ content)
    → StopsAt read number phase content given new → HaltsWith read halt number phase content rest given held left new
halts_stopped read (Halt.Outside Fault.Read) number phase content rest given held left new n u s = absurd (n refl)
halts_stopped read (Halt.Outside Fault.Write) number phase content rest given held left new n u s = s
halts_stopped read (Halt.Outside Fault.NoMemory) number phase content rest given held left new n u s = s
halts_stopped read Halt.Disk number phase content rest given held left new n u s = u refl

module _ (read : Reading) (number : ℕ) (s : Serving) (line : List ℕ) (content new rest new_rest : Option (List ℕ)) (given new_given : Option Given) (takes : TakesLine given new_given line) where
  abbrev move : Move
  move = goes_on (serve s number line)

  -- how it will end doesn't change
  pub served_same : (o : Option Ending) (t : Serving) → step_of o t ≡ move.step → Writes content new move.text → IsSameEnd (promised read number (in_service s) content given) (promised_after read (number + 1) (step_of o t) new new_given)
  served_same o t e w =
      line_step read number (in_service s) line move.text (step_of o t) content new given new_given takes (ap (λ (m : Move). m.text) (sym (service_move read number s line))) (e ∙ ap (λ (m : Move). m.step) (sym (service_move read number s line))) w

  -- a line more
  pub served_on : (o : Option Ending) (t : Serving) → CutsLine rest new_rest line → step_of o t ≡ move.step → Writes content new move.text → o ≡ None → TakesOn read number (in_service s) content rest given new new_rest new_given (in_service t)
  served_on o t cuts e w none = (
    line,
    takes,
    cuts,
    ap (λ (m : Move). m.step) (service_move read number s line) ∙ (sym e ∙ ap (λ x. step_of x t) none),
    subst (λ (m : Move). Writes content new m.text) (sym (service_move read number s line)) w,
  )

  pub served_stops : WritesFront content new move.text → StopsAt read number (in_service s) content given new
  served_stops w = line_stops read number (in_service s) line move.text content new given new_given takes (ap (λ (m : Move). m.text) (sym (service_move read number s line))) w

  -- the same of the answer to a line
  pub line_ends : (r : Result (Option Ending) Halt) (t : Serving) → IfOk r (λ o. step_of o t ≡ move.step) → OnOk r (Writes content new move.text)
      → IfOk r (λ o. IsSameEnd (promised read number (in_service s) content given) (promised_after read (number + 1) (step_of o t) new new_given))
  line_ends (Ok o) t e w = served_same o t e w
  line_ends (Err halt) t e w = tt

  pub line_on : (r : Result (Option Ending) Halt) (t : Serving) → CutsLine rest new_rest line → IfOk r (λ o. step_of o t ≡ move.step) → OnOk r (Writes content new move.text)
      → IfOk r (λ o. o ≡ None → TakesOn read number (in_service s) content rest given new new_rest new_given (in_service t))
  line_on (Ok o) t cuts e w = served_on o t cuts e w
  line_on (Err halt) t cuts e w = tt

  pub line_halts : (r : Result (Option Ending) Halt) (held : Held) (left : Option (List ℕ)) → OnErr r (WritesFront content new move.text) → (r ≡ Err (Halt.Outside Fault.Read) → ⊥) → (r ≡ Err Halt.Disk → new ≡ content)
      → IfErr r (λ halt. HaltsWith read halt number (in_service s) content rest given held left new)
  line_halts (Ok o) held left w n u = tt
  line_halts (Err halt) held left w n u = halts_stopped read halt number (in_service s) content rest given held left new (λ e. n (ap failed e)) (λ e. u (ap failed e)) (served_stops w)
    where
      failed : Halt → Result (Option Ending) Halt
      failed h = Err h

-- nothing is written
pub writes_none : (content : Option (List ℕ)) → Writes content content []
writes_none None = tt
writes_none (Some c) = ap (λ x. Some x) (sym (append-nil c))

-- there are more bytes than are taken
module _ (read : Reading) (number : ℕ) (s : Serving) (content new rest : Option (List ℕ)) (given : Option Given) (at : IfSome given (λ g. g ≡ record { lines = []; long = true })) where
  pub long_ends : (r : Result (Option Ending) Halt) (t : Serving) (new_given : Option Given) → IfOk r (λ o. o ≡ Some Ending.Long) → OnOk r (Writes content new long_line)
      → IfOk r (λ o. IsSameEnd (promised read number (in_service s) content given) (promised_after read (number + 1) (step_of o t) new new_given))
  long_ends (Ok o) t new_given e w =
      subst (λ x. IsSameEnd (promised read number (in_service s) content given) (promised_after read (number + 1) (step_of x t) new new_given)) (sym e) (end_step read number (in_service s) true (Ending.Long, long_line) content new given at refl w)
  long_ends (Err halt) t new_given e w = tt

  pub long_halts : (r : Result (Option Ending) Halt) (held : Held) (left : Option (List ℕ)) → OnErr r (WritesFront content new long_line) → (r ≡ Err (Halt.Outside Fault.Read) → ⊥) → (r ≡ Err Halt.Disk → ⊥)
      → IfErr r (λ halt. HaltsWith read halt number (in_service s) content rest given held left new)
  long_halts (Ok o) held left w n u = tt
  long_halts (Err halt) held left w n u =
      halts_stopped read halt number (in_service s) content rest given held left new (λ e. n (ap failed e)) (λ e. absurd (u (ap failed e))) (end_stops read number (in_service s) true long_line content new given at refl w)
    where
      failed : Halt → Result (Option Ending) Halt
      failed h = Err h
