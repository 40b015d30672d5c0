-- A line of the topology.
use Rattle.std.proofs.Common.{◌≡◌, ℕ, List, [], Bool, Option, Result, Ok, Err, IfSome, refl, sym, ap, ◌∙◌, subst}
use Rattle.std.specs.Prelude.{IfOk, IfErr, OnOk, OnErr}
use Rattle.line_reader.specs.Given.{Given, TakesLine}
use Rattle.line_reader.specs.Held.{Held, CutsLine}
use Rattle.stp_topology.specs.declared.network.Network.{Network}
use Rattle.stp_topology.specs.Text.{of_line}
use Rattle.stp_topology.specs.declared.fault.TopologyFault.{TopologyFault}
use Rattle.stp_topology.specs.declared.topology.Taken.{Taken}
use Rattle.provide_command.specs.Cut.{StopsAt}
use Rattle.provide_command.specs.Declares.{DeclaresLine, DeclaresNext, IsOpening}
use Rattle.provide_command.specs.Outcome.{Move, move_of, declared, last_of, next_text, topology_fault}
use Rattle.provide_command.specs.Phases.{Reading, goes_to, ends_as}
use Rattle.provide_command.specs.Promise.{Writes, WritesFront, promised, promise_of, ended, IsSameEnd}
use Rattle.provide_command.specs.UpTo.{HaltsWith, IsUpToIf, IsBegun}
use Rattle.provide_command.specs.declared.declaring.Declared.{Declared}
use Rattle.provide_command.specs.declared.output.Fault.{Fault}
use Rattle.provide_command.specs.declared.output.Halt.{Halt}
use Rattle.provide_command.specs.declared.status.Ending.{Ending}
use Rattle.provide_command.proofs.Answered.{line_stops, end_stops}
use Rattle.provide_command.proofs.Begun.{declaring}
use Rattle.provide_command.proofs.Promised.{line_step, end_step}

-- what is taken as a whole topology
pub line_along : (read : Reading) (most number : ℕ) (r : Result Declared Fault) (taken is : Result Taken TopologyFault) (content new : Option (List ℕ)) → taken ≡ is → IfOk r (DeclaresLine read most number is content new) → IfOk r (DeclaresLine read most number taken content new)
line_along read most number r taken is content new e h = subst (λ t. IfOk r (DeclaresLine read most number t content new)) (sym e) h

-- a fault ends the command
pub line_refused : (read : Reading) (most number : ℕ) (r : Result Declared Fault) (taken : Result Taken TopologyFault) (fault : TopologyFault) (content new : Option (List ℕ)) → taken ≡ Err fault → IfOk r (λ d. d ≡ Declared.End Ending.BadTopology)
    → OnOk r (Writes content new (topology_fault number fault)) → IfOk r (DeclaresLine read most number taken content new)
line_refused read most number r taken fault content new e ended all = line_along read most number r taken (Err fault) content new e (refused r ended all)
  where
    refused : (x : Result Declared Fault) → IfOk x (λ d. d ≡ Declared.End Ending.BadTopology) → OnOk x (Writes content new (topology_fault number fault)) → IfOk x (DeclaresLine read most number (Err fault) content new)
    refused (Ok d) ended all = subst (DeclaresLine read most number (Err fault) content new) (sym ended) (refl, all)
    refused (Err f) ended all = tt

pub front_along : (read : Reading) (most number : ℕ) (r : Result Declared Fault) (taken is : Result Taken TopologyFault) (content new : Option (List ℕ)) → taken ≡ is → OnErr r (WritesFront content new (declared read most number is).text)
    → OnErr r (WritesFront content new (declared read most number taken).text)
front_along read most number r taken is content new e h = subst (λ t. OnErr r (WritesFront content new (declared read most number t).text)) (sym e) h

---- The next line

topology_move : (read : Reading) (most number : ℕ) (t : Network) (line : List ℕ) → move_of read number (declaring t most) line ≡ declared read most number (of_line t line)
unfolding move_of
topology_move read most number t line = refl

module _ (read : Reading) (most number : ℕ) (t : Network) (content rest new new_rest : Option (List ℕ)) (given new_given : Option Given) where
  pub next_line : (line : List ℕ) (r : Result Declared Fault) → IfOk r (DeclaresLine read most number (of_line t line) content new) → TakesLine given new_given line → CutsLine rest new_rest line
      → IfOk r (DeclaresNext read most number t content rest given new new_rest new_given)
  next_line line (Err f) h takes cuts = tt
  next_line line (Ok (Declared.Whole next provider)) h takes cuts = (line, takes, cuts, h.0, h.1, h.2)
  next_line line (Ok (Declared.More next)) h takes cuts =
      let moves = topology_move read most number t line in (
        line_step read number (declaring t most) line (declared read most number (of_line t line)).text (goes_to (declaring next most)) content new given new_given takes (ap (λ (m : Move). m.text) (sym moves)) (sym h.0 ∙ ap (λ (m : Move). m.step) (sym moves)) h.1,
        (line, takes, cuts, ap (λ (m : Move). m.step) moves ∙ h.0, subst (λ (m : Move). Writes content new m.text) (sym moves) h.1),
      )
  next_line line (Ok (Declared.End ending)) h takes cuts =
      let moves = topology_move read most number t line in
      line_step read number (declaring t most) line (declared read most number (of_line t line)).text (ends_as ending) content new given new_given takes (ap (λ (m : Move). m.text) (sym moves)) (sym h.0 ∙ ap (λ (m : Move). m.step) (sym moves)) h.1

  -- at the end of the lines
  pub next_end : (long : Bool) (ending : Ending) (text : List ℕ) (r : Result Declared Fault) → IfSome given (λ g. g ≡ record { lines = []; long = long }) → (ending, text) ≡ last_of long number (declaring t most) → IfOk r (λ d. d ≡ Declared.End ending) → OnOk r (Writes content new text)
      → IfOk r (DeclaresNext read most number t content rest given new new_rest new_given)
  next_end long ending text (Err f) at e is all = tt
  next_end long ending text (Ok d) at e is all =
      subst (DeclaresNext read most number t content rest given new new_rest new_given) (sym is) (end_step read number (declaring t most) long (ending, text) content new given at e all)

  pub stopped_halts : (r : Result Declared Fault) (held : Held) (left : Option (List ℕ)) → (r ≡ Err Fault.Read → ⊥) → OnErr r (StopsAt read number (declaring t most) content given new)
      → IfErr r (λ fault. HaltsWith read (Halt.Outside fault) number (declaring t most) content rest given held left new)
  stopped_halts (Ok d) held left n s = tt
  stopped_halts (Err Fault.Read) held left n s = absurd (n refl)
  stopped_halts (Err Fault.Write) held left n s = s
  stopped_halts (Err Fault.NoMemory) held left n s = s

  pub line_halts : (line : List ℕ) (r : Result Declared Fault) → TakesLine given new_given line → OnErr r (WritesFront content new (declared read most number (of_line t line)).text) → OnErr r (StopsAt read number (declaring t most) content given new)
  line_halts line (Ok d) takes w = tt
  line_halts line (Err f) takes w =
      line_stops read number (declaring t most) line (declared read most number (of_line t line)).text content new given new_given takes (ap (λ (m : Move). m.text) (sym (topology_move read most number t line))) w

  pub end_halts : (long : Bool) (text : List ℕ) (r : Result Declared Fault) → IfSome given (λ g. g ≡ record { lines = []; long = long }) → text ≡ next_text read long number (declaring t most) [] → OnErr r (WritesFront content new text)
      → OnErr r (StopsAt read number (declaring t most) content given new)
  end_halts long text (Ok d) at e w = tt
  end_halts long text (Err f) at e w = end_stops read number (declaring t most) long text content new given at e w

---- A whole topology

-- the line made it whole
pub begins : (most : ℕ) (first start : Option (List ℕ)) (number : ℕ) (t next : Network) (provider : ℕ) (content new rest left_rest : Option (List ℕ)) (given left_given : Option Given) (line : List ℕ)
    → ((read : Reading) → IsSameEnd (promise_of read most first start) (promised read number (declaring t most) content given)) → ((read : Reading) → IsUpToIf read most first start number (declaring t most) content rest given)
    → TakesLine given left_given line → CutsLine rest left_rest line → of_line t line ≡ Ok (Taken.Whole next) → IsOpening next provider → new ≡ content → IsBegun most first start number next provider new left_rest left_given
begins most first start number t next provider content new rest left_rest given left_given line same up_to takes cuts is opening unwritten =
    subst (λ x. IsBegun most first start number next provider x left_rest left_given) (sym unwritten) (record {
      topology = t;
      line = line;
      rest = rest;
      given = given;
      is_whole = is;
      provides = opening.first;
      takes = takes;
      cuts = cuts;
      same = same;
      up_to = up_to;
    })
