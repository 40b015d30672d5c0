-- Behind the line that makes a topology whole.
use Rattle.std.proofs.Common.{◌≡◌, ◌+◌, ℕ, List, [], ◌∷◌, ◌++◌, cond, Bool, true, false, Option, Some, None, Result, Ok, Err, IfSome, refl, sym, ap, ◌∙◌, subst, append-nil, leb, length}
use Rattle.line_reader.specs.Given.{Given, TakesLine}
use Rattle.line_reader.specs.Held.{Held}
use Rattle.stp_topology.specs.declared.network.Network.{Network}
use Rattle.stp_topology.specs.declared.fault.TopologyFault.{TopologyFault}
use Rattle.stp_topology.specs.declared.topology.Taken.{Taken}
use Rattle.stp_topology.specs.Network.{nothing, first_provider, name_of}
use Rattle.stp_topology.specs.Text.{of_line, onward, read_lines}
use Rattle.nsi_primitive.specs.declared.entry.Entry.{Entry}
use Rattle.journal_entry.specs.Payloads.{batch_of}
use Rattle.journal_entry.specs.Journals.{recovers}
use Rattle.provide_command.specs.Cut.{StopsAt}
use Rattle.provide_command.specs.Ends.{Serves, IsReading, WithReading, lines_in}
use Rattle.provide_command.specs.Lines.{serve, long_line}
use Rattle.provide_command.specs.Outcome.{Move, move_of, declared, opened, begins_behind, goes_on, GoesOn}
use Rattle.provide_command.specs.Phases.{Reading, Declares, Phase, in_topology, in_service, Step, goes_to, ends_as}
use Rattle.provide_command.specs.Promise.{Writes, WritesFront, promised_after, promise_of, IsSameEnd}
use Rattle.provide_command.specs.Serving.{Serving, Served, serving_of}
use Rattle.provide_command.specs.UpTo.{IsUpTo, IsUpToIf, IsBegun, HaltsAt, HaltsWith}
use Rattle.provide_command.specs.declared.output.Fault.{Fault}
use Rattle.provide_command.specs.declared.output.Halt.{Halt}
use Rattle.provide_command.specs.declared.status.Ending.{Ending}
use Rattle.provide_command.proofs.Answered.{line_stops, up_to_next}
use Rattle.provide_command.proofs.Promised.{line_step, same_along}

abbrev pub declaring : Network → ℕ → Phase
declaring t most = in_topology (record { topology = t; most = most })

---- What the line makes

pub whole_move : (read : Reading) (most number : ℕ) (topology whole : Network) (provider : ℕ) (line : List ℕ) → of_line topology line ≡ Ok (Taken.Whole whole) → first_provider whole ≡ Some provider
    → move_of read number (declaring topology most) line ≡ begins_behind most whole provider read
unfolding move_of
whole_move read most number topology whole provider line is first = ap (declared read most number) is ∙ ap (opened read most number whole) first

module _ (most : ℕ) (first start : Option (List ℕ)) (number : ℕ) (whole : Network) (provider : ℕ) (content rest : Option (List ℕ)) (given : Option Given) (b : IsBegun most first start number whole provider content rest given) (read : Reading) where
  abbrev move : Move
  move = begins_behind most whole provider read

  the_move : move_of read number (declaring b.topology most) b.line ≡ move
  the_move = whole_move read most number b.topology whole provider b.line b.is_whole b.provides

  -- how it will end doesn't change
  pub begun_same : (step : Step) (new : Option (List ℕ)) → step ≡ move.step → Writes content new move.text → IsSameEnd (promise_of read most first start) (promised_after read (number + 1) step new given)
  begun_same step new s w =
      same_along _ _ _ (b.same read)
      (line_step read number (declaring b.topology most) b.line move.text step content new b.given given b.takes (ap (λ (m : Move). m.text) (sym the_move)) (s ∙ ap (λ (m : Move). m.step) (sym the_move)) w)

  -- the lines so far are answered
  pub begun_up_to : (next : Phase) (new : Option (List ℕ)) → goes_to next ≡ move.step → Writes content new move.text → IsUpToIf read most first start (number + 1) next new rest given
  begun_up_to next new s w =
      up_to_next read most first start number (declaring b.topology most) next content b.rest new rest b.given given (b.up_to read)
      (b.line, b.takes, b.cuts, ap (λ (m : Move). m.step) the_move ∙ sym s, subst (λ (m : Move). Writes content new m.text) (sym the_move) w)

  -- a front is written of what it makes
  pub begun_stops : (new : Option (List ℕ)) → WritesFront content new move.text → StopsAt read number (declaring b.topology most) content b.given new
  begun_stops new w = line_stops read number (declaring b.topology most) b.line move.text content new b.given given b.takes (ap (λ (m : Move). m.text) (sym the_move)) w

  -- nothing is written for it
  pub begun_halts : (halt : Halt) (held : Held) (left new : Option (List ℕ)) → (halt ≡ Halt.Outside Fault.Read → ⊥) → (halt ≡ Halt.Disk → new ≡ content) → WritesFront content new move.text → HaltsAt read most first start halt held left new
  begun_halts halt held left new not_read unwritten w = record {
    number = number;
    phase = declaring b.topology most;
    content = content;
    rest = b.rest;
    given = b.given;
    up_to = b.up_to read;
    halts = by_halt halt not_read unwritten;
  }
    where
      by_halt : (h : Halt) → (h ≡ Halt.Outside Fault.Read → ⊥) → (h ≡ Halt.Disk → new ≡ content) → HaltsWith read h number (declaring b.topology most) content b.rest b.given held left new
      by_halt (Halt.Outside Fault.Read) n u = absurd (n refl)
      by_halt (Halt.Outside Fault.Write) n u = begun_stops new w
      by_halt (Halt.Outside Fault.NoMemory) n u = begun_stops new w
      by_halt Halt.Disk n u = u refl

-- nothing is a front of each text
pub nothing_front : (content new : Option (List ℕ)) (text : List ℕ) → new ≡ content → WritesFront content new text
nothing_front None new text e = tt
nothing_front (Some c) new text e = (0, e ∙ nothing_stops_some c)
  where
    nothing_stops_some : (c : List ℕ) → Some c ≡ Some (c ++ [])
    nothing_stops_some c = ap (λ x. Some x) (sym (append-nil c))

---- The topology that is served is the one that the lines begin with

abbrev pub begins_if : Bool → ℕ → Network → ℕ → List Entry → Move
begins_if b most t p es = cond b (record { text = []; step = goes_to (in_service (serving_of t p es most)) }) (record { text = long_line; step = ends_as Ending.Long })

-- a service never goes back to a topology
service_stays : (read : Reading) (number : ℕ) (s : Serving) (lines : List (List ℕ)) (t : Network) (most : ℕ) (text : List ℕ) → GoesOn read number (in_service s) lines (declaring t most) text → ⊥
unfolding move_of
service_stays read number s [] t most text g = apart g.0
  where
    apart : declaring t most ≡ in_service s → ⊥
    apart h = cc
service_stays read number s (line ∷ lines) t most text g = by_served (serve s number line) (λ x h. service_stays read (number + 1) x lines t most g.1 h) g.2 g.3
  where
    by_served : (o : Option Served) → ((x : Serving) → GoesOn read (number + 1) (in_service x) lines (declaring t most) g.1 → ⊥) → (goes_on o).step ≡ goes_to g.0 → GoesOn read (number + 1) g.0 lines (declaring t most) g.1 → ⊥
    by_served None next e h = apart e
      where
        apart : ends_as Ending.Long ≡ goes_to g.0 → ⊥
        apart h = cc
    by_served (Some x) next e h = next x.serving (subst (λ p. GoesOn read (number + 1) p lines (declaring t most) g.1) (sym (same e)) h)
      where
        same : goes_to (in_service x.serving) ≡ goes_to g.0 → in_service x.serving ≡ g.0
        same h = cc

-- lines that go on within a topology declare it, and the line behind them makes it whole
pub reads_through : (read : Reading) (number before : ℕ) (t next whole : Network) (most : ℕ) (lines : List (List ℕ)) (text line : List ℕ) (rest : List (List ℕ)) → GoesOn read number (declaring t most) lines (declaring next most) text
    → of_line next line ≡ Ok (Taken.Whole whole) → (n : ℕ) × (read_lines t before (lines ++ line ∷ rest) ≡ Ok (whole, n))
unfolding move_of read_lines
reads_through read number before t next whole most [] text line rest g is =
    (before + 1, ap (λ r. onward (before + 1) r (λ new. read_lines new (before + 1) rest)) (ap (λ x. of_line x line) (sym (same g.0)) ∙ is))
  where
    within : (a b : Declares) → in_topology a ≡ in_topology b → a ≡ b
    within a b h = cc

    same : declaring next most ≡ declaring t most → next ≡ t
    same h = ap (λ (d : Declares). d.topology) (within (record { topology = next; most = most }) (record { topology = t; most = most }) h)
reads_through read number before t next whole most (first ∷ lines) text line rest g is =
    by_result (of_line t first) (λ new h. reads_through read (number + 1) (before + 1) new next whole most lines g.1 line rest h is) g.2 g.3
  where
    Reads : Result Taken TopologyFault → Type 0
    Reads r = (n : ℕ) × (onward (before + 1) r (λ new. read_lines new (before + 1) (lines ++ line ∷ rest)) ≡ Ok (whole, n))

    not_ended : (e : Ending) (p : Phase) → ends_as e ≡ goes_to p → ⊥
    not_ended e p h = cc

    not_served : (s : Serving) → goes_to (in_service s) ≡ goes_to g.0 → GoesOn read (number + 1) g.0 lines (declaring next most) g.1 → ⊥
    not_served s e h = service_stays read (number + 1) s lines next most g.1 (subst (λ p. GoesOn read (number + 1) p lines (declaring next most) g.1) (sym (same e)) h)
      where
        same : goes_to (in_service s) ≡ goes_to g.0 → in_service s ≡ g.0
        same h = cc

    not_opened : (new : Network) (o : Option ℕ) (r : Reading) → (opened r most number new o).step ≡ goes_to g.0 → GoesOn read (number + 1) g.0 lines (declaring next most) g.1 → ⊥
    not_opened new None r e h = not_ended Ending.BadTopology g.0 e
    not_opened new (Some p) (Err place) e h = not_ended Ending.NotAJournal g.0 e
    not_opened new (Some p) (Ok es) e h = by_few (leb (length es) most) e
      where
        by_few : (b : Bool) → (begins_if b most new p es).step ≡ goes_to g.0 → ⊥
        by_few true e = not_served (serving_of new p es most) e h
        by_few false e = not_ended Ending.Long g.0 e

    by_result : (r : Result Taken TopologyFault) → ((new : Network) → GoesOn read (number + 1) (declaring new most) lines (declaring next most) g.1 → (n : ℕ) × (read_lines new (before + 1) (lines ++ line ∷ rest) ≡ Ok (whole, n)))
        → (declared read most number r).step ≡ goes_to g.0 → GoesOn read (number + 1) g.0 lines (declaring next most) g.1 → Reads r
    by_result (Err fault) deeper e h = absurd (not_ended Ending.BadTopology g.0 e)
    by_result (Ok (Taken.More new)) deeper e h = deeper new (subst (λ p. GoesOn read (number + 1) p lines (declaring next most) g.1) (sym (same e)) h)
      where
        same : goes_to (declaring new most) ≡ goes_to g.0 → declaring new most ≡ g.0
        same h = cc
    by_result (Ok (Taken.Whole new)) deeper e h = absurd (not_opened new (first_provider new) read e h)

serves_from : (read : Reading) (most : ℕ) (c bytes : List ℕ) (number : ℕ) (topology whole : Network) (provider : ℕ) (content rest : Option (List ℕ)) (given left : Option Given) (line : List ℕ)
    → IsUpTo read most c bytes number (declaring topology most) content rest given → TakesLine given left line → of_line topology line ≡ Ok (Taken.Whole whole) → first_provider whole ≡ Some provider → Serves (lines_in bytes) whole provider
serves_from read most c bytes number topology whole provider content rest given left line u takes is first =
    let t = subst (λ o. TakesLine o left line) u.given_is takes in
    let r = reads_through read 1 0 nothing topology whole most u.lines u.text line t.0.lines u.goes is in
    let all : lines_in bytes ≡ u.lines ++ line ∷ t.0.lines = u.whole_lines ∙ ap (λ (g : Given). u.lines ++ g.lines) t.2 in
    (r.0, ap (read_lines nothing 0) all ∙ r.1, first)

-- where sink and source tell, the lines begin with this topology
pub begun_serves : (most : ℕ) (first start : Option (List ℕ)) (number : ℕ) (whole : Network) (provider : ℕ) (content rest : Option (List ℕ)) (given : Option Given) → IsBegun most first start number whole provider content rest given
    → IfSome first (λ c. IfSome start (λ bytes. Serves (lines_in bytes) whole provider))
begun_serves most None start number whole provider content rest given b = tt
begun_serves most (Some c) None number whole provider content rest given b = tt
begun_serves most (Some c) (Some bytes) number whole provider content rest given b =
    serves_from (Ok []) most c bytes number b.topology whole provider content b.rest b.given given b.line (b.up_to (Ok [])) b.takes b.is_whole b.provides

---- What the journal reads as

abbrev Read : Type 0
Read = Result (Network × ℕ) (ℕ × TopologyFault)

abbrev good : Network × ℕ → Read
good x = Ok x

abbrev faulty : ℕ × TopologyFault → Read
faulty e = Err e

-- lines begin with one topology at most
pub same_topology : (lines : List (List ℕ)) (t u : Network) (p q : ℕ) → Serves lines t p → Serves lines u q → (t ≡ u) × (p ≡ q)
same_topology lines t u p q s r =
    let e = same (t, s.0) (u, r.0) (sym s.1 ∙ r.1) in
    let network : t ≡ u = ap (λ (x : Network × ℕ). x.0) e in
    (network, some_is p q (sym s.2 ∙ (ap first_provider network ∙ r.2)))
  where
    same : (a b : Network × ℕ) → good a ≡ good b → a ≡ b
    same a b h = cc

    some_is : (a b : ℕ) → Some a ≡ Some b → a ≡ b
    some_is a b h = cc

pub is_reading : (holds : List ℕ → Option (List ℕ)) (lines : List (List ℕ)) (t : Network) (provider : ℕ) (read : Reading) → Serves lines t provider → IfSome (holds (name_of t provider)) (λ file. recovers batch_of file ≡ read)
    → IsReading holds lines read
is_reading holds lines t provider read s told = λ u q r.
    let e = same_topology lines t u provider q s r in
    subst (λ x. IfSome (holds (name_of u x)) (λ file. recovers batch_of file ≡ read)) e.1 (subst (λ x. IfSome (holds (name_of x provider)) (λ file. recovers batch_of file ≡ read)) e.0 told)

-- some reading there is, whatever the lines are
pub some_reading : (holds : List ℕ → Option (List ℕ)) (lines : List (List ℕ)) → (read : Reading) × IsReading holds lines read
some_reading holds lines = by_read (read_lines nothing 0 lines) refl
  where
    Found : Type 0
    Found = (read : Reading) × IsReading holds lines read

    nobody : ((t : Network) (p : ℕ) → Serves lines t p → ⊥) → Found
    nobody none = (Ok [], λ t p s. absurd (none t p s))

    by_file : (t : Network) (p : ℕ) → Serves lines t p → (o : Option (List ℕ)) → holds (name_of t p) ≡ o → Found
    by_file t p s None h = (Ok [], is_reading holds lines t p (Ok []) s (subst (λ o. IfSome o (λ file. recovers batch_of file ≡ Ok [])) (sym h) tt))
    by_file t p s (Some file) h = (recovers batch_of file, is_reading holds lines t p (recovers batch_of file) s (subst (λ o. IfSome o (λ f. recovers batch_of f ≡ recovers batch_of file)) (sym h) refl))

    by_first : (x : Network × ℕ) → read_lines nothing 0 lines ≡ Ok x → (o : Option ℕ) → first_provider x.0 ≡ o → Found
    by_first x h None f = nobody (λ t p s. apart (ap first_provider (ap (λ (y : Network × ℕ). y.0) (same x (t, s.0) (sym h ∙ s.1))) ∙ s.2) f)
      where
        same : (a b : Network × ℕ) → good a ≡ good b → a ≡ b
        same a b h = cc

        apart : {p : ℕ} → first_provider x.0 ≡ Some p → first_provider x.0 ≡ None → ⊥
        apart a b = cc
    by_first x h (Some p) f = by_file x.0 p (x.1, h, f) (holds (name_of x.0 p)) refl

    by_read : (r : Read) → read_lines nothing 0 lines ≡ r → Found
    by_read (Err e) h = nobody (λ t p s. apart e (t, s.0) (sym h ∙ s.1))
      where
        apart : (e : ℕ × TopologyFault) (x : Network × ℕ) → faulty e ≡ good x → ⊥
        apart e x h = cc
    by_read (Ok x) h = by_first x h (first_provider x.0) refl

-- what holds whatever the journal reads as
pub any_reading : (holds : List ℕ → Option (List ℕ)) (start : Option (List ℕ)) (P : Reading → Type 0) → ((r : Reading) → P r) → WithReading holds start P
any_reading holds None P all = (Ok [], tt, all (Ok []))
any_reading holds (Some bytes) P all = let r = some_reading holds (lines_in bytes) in (r.0, r.1, all r.0)

-- where sink and source tell, the journal reads so
abbrev pub IsReadingIf : (List ℕ → Option (List ℕ)) → (first start : Option (List ℕ)) → Reading → Type 0
IsReadingIf holds first start read = IfSome first (λ c. IfSome start (λ bytes. IsReading holds (lines_in bytes) read))

pub begun_reading : (holds : List ℕ → Option (List ℕ)) (most : ℕ) (first start : Option (List ℕ)) (number : ℕ) (whole : Network) (provider : ℕ) (content rest : Option (List ℕ)) (given : Option Given) (read : Reading)
    → IsBegun most first start number whole provider content rest given → IfSome (holds (name_of whole provider)) (λ file. recovers batch_of file ≡ read) → IsReadingIf holds first start read
begun_reading holds most None start number whole provider content rest given read b told = tt
begun_reading holds most (Some c) None number whole provider content rest given read b told = tt
begun_reading holds most (Some c) (Some bytes) number whole provider content rest given read b told =
    is_reading holds (lines_in bytes) whole provider read (begun_serves most (Some c) (Some bytes) number whole provider content rest given b) told

-- what says nothing without a sink that tells
pub by_told : (holds : List ℕ → Option (List ℕ)) (Q : Option (List ℕ) → Reading → Type 0) → ((r : Reading) → Q None r) → (first start : Option (List ℕ)) (read : Reading) → IsReadingIf holds first start read → Q first read
    → WithReading holds start (λ r. Q first r)
by_told holds Q none None start read told q = any_reading holds start (λ r. Q None r) none
by_told holds Q none (Some c) None read told q = (read, tt, q)
by_told holds Q none (Some c) (Some bytes) read told q = (read, told, q)
