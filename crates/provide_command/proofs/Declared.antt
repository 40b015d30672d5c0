-- How a command ends, by the topology that its lines begin with.
use Rattle.std.proofs.Common.{◌≡◌, inr, ◌≤◌, ◌<◌, ◌+◌, ◌-◌, ℕ, suc, List, [], ◌∷◌, ◌++◌, length, take, drop, leb, cond, Bool, true, false, Option, Some, None, Result, Ok, Err, refl, sym, ap, subst, ◌∙◌, arith}
use Rattle.std.proofs.lemmas.Bool.Decides.{nat_tests}
use Rattle.nsi_base.specs.Lines.{lines_of, ended_lines}
use Rattle.line_reader.specs.Given.{Given, given_of}
use Rattle.stp_topology.specs.declared.network.Network.{Network}
use Rattle.stp_topology.specs.declared.fault.TopologyFault.{TopologyFault}
use Rattle.stp_topology.specs.declared.topology.Taken.{Taken}
use Rattle.stp_topology.specs.Network.{nothing, first_provider}
use Rattle.stp_topology.specs.Text.{of_line, onward, read_lines}
use Rattle.std.specs.List.{All}
use Rattle.nsi_primitive.specs.Printable.{IsPrintableEntry}
use Rattle.nsi_primitive.specs.declared.entry.Entry.{Entry}
use Rattle.provider_agent.specs.Setting.{setting_of, own_stp}
use Rattle.provider_agent.proofs.EventsSafe.{good_replayed}
use Rattle.provide_command.specs.declared.status.Status.{Status}
use Rattle.provide_command.specs.Phases.{Reading, Phase, in_topology, in_service, goes_to, ends_as}
use Rattle.provide_command.specs.declared.status.Ending.{Ending}
use Rattle.provide_command.specs.Lines.{long_line}
use Rattle.provide_command.specs.Serving.{Serving, serving_of, state_from}
use Rattle.provide_command.specs.Runs.{events_of, IsServed, ServesRead, ServesSafely}
use Rattle.provide_command.specs.Outcome.{Move, move_of, declared, begins_behind, opened, behind, outcome, topology_fault}
use Rattle.nsi_base.specs.Range.{greatest_input}
use Rattle.provide_command.specs.Promise.{begun, promise_of, EndsBy, EndsRead, IsKept, IsComplete, IsSafe, NamesFault}
use Rattle.provide_command.proofs.Serves.{served_from, ends_by, events_first, well_at_first, served_safely, none_safely}

abbrev Read : Type 0
Read = Result (Network × ℕ) (ℕ × TopologyFault)

abbrev faulty : ℕ × TopologyFault → Read
faulty e = Err e

abbrev bad_topology : ℕ × TopologyFault → Status × List ℕ
bad_topology e = (Status.BadTopology, topology_fault e.0 e.1)

abbrev good : Network × ℕ → Read
good x = Ok x

err_is : (e d : ℕ × TopologyFault) → faulty e ≡ faulty d → e ≡ d
err_is e d h = cc

-- what a line of the topology makes of the whole
abbrev by_line : Reading → Bool → ℕ → ℕ → Result Taken TopologyFault → List (List ℕ) → Status × List ℕ
by_line read long most number r lines = behind (declared read most number r).text (declared read most number r).step (λ p. outcome read long (number + 1) p lines)

abbrev declaring : Network → ℕ → Phase
declaring t most = in_topology (record { topology = t; most = most })

-- what the journal of the provider makes of the lines behind it
abbrev pub by_journal : Reading → Bool → ℕ → ℕ → Network → ℕ → List (List ℕ) → Status × List ℕ
by_journal read long number most t provider lines =
    behind (begins_behind most t provider read).text (begins_behind most t provider read).step (λ p. outcome read long number p lines)

-- the first faulty line ends the command
pub declared_fault : (read : Reading) (long : Bool) (most : ℕ) (t : Network) (before : ℕ) (lines : List (List ℕ)) (n : ℕ) (fault : TopologyFault) → long ≡ false → read_lines t before lines ≡ Err (n, fault)
    → outcome read long (before + 1) (declaring t most) lines ≡ (Status.BadTopology, topology_fault n fault)
unfolding outcome move_of read_lines
declared_fault read true most t before [] n fault short h = cc
declared_fault read false most t before [] n fault short h = named _ _ h
  where
    named : (e d : ℕ × TopologyFault) → faulty e ≡ faulty d → bad_topology e ≡ bad_topology d
    named e d h = ap bad_topology (err_is e d h)
declared_fault read long most t before (line ∷ lines) n fault short h = by_result (of_line t line) (λ new e. declared_fault read long most new (before + 1) lines n fault short e) h
  where
    named : (e d : ℕ × TopologyFault) → faulty e ≡ faulty d → bad_topology e ≡ bad_topology d
    named e d h = ap bad_topology (err_is e d h)

    by_result : (r : Result Taken TopologyFault) → ((new : Network) → read_lines new (before + 1) lines ≡ Err (n, fault) → outcome read long (before + 1 + 1) (declaring new most) lines ≡ (Status.BadTopology, topology_fault n fault))
        → onward (before + 1) r (λ new. read_lines new (before + 1) lines) ≡ Err (n, fault) → by_line read long most (before + 1) r lines ≡ (Status.BadTopology, topology_fault n fault)
    by_result (Err f) next h = named _ _ h
    by_result (Ok (Taken.More new)) next h = next new h
    by_result (Ok (Taken.Whole new)) next h = cc

-- behind a good topology with a provider its journal is read, and the lines are served
record IsOpened (read : Reading) (long : Bool) (most before : ℕ) (lines : List (List ℕ)) (whole : Network) (n provider : ℕ) (end : Status × List ℕ) : Type 0 where
  later : before < n
  goes_on : end ≡ by_journal read long (n + 1) most whole provider (drop (n - before) lines)

declared_good : (read : Reading) (long : Bool) (most : ℕ) (t : Network) (before : ℕ) (lines : List (List ℕ)) (whole : Network) (n provider : ℕ) → read_lines t before lines ≡ Ok (whole, n) → first_provider whole ≡ Some provider
    → IsOpened read long most before lines whole n provider (outcome read long (before + 1) (declaring t most) lines)
unfolding outcome move_of read_lines
declared_good read long most t before [] whole n p h f = cc
declared_good read long most t before (line ∷ lines) whole n p h f = by_result (of_line t line) (λ new e. declared_good read long most new (before + 1) lines whole n p e f) h
  where
    same : (a b : Network × ℕ) → good a ≡ good b → a ≡ b
    same a b h = cc

    opens : (new : Network) (o : Option ℕ) → new ≡ whole → n ≡ before + 1 → o ≡ Some p
        → IsOpened read long most before (line ∷ lines) whole n p (behind (opened read most (before + 1) new o).text (opened read most (before + 1) new o).step (λ q. outcome read long (before + 1 + 1) q lines))
    opens new None network number f = cc
    opens new (Some q) network number f =
        let provider : q ≡ p = some_is q p f in
        let one : 1 ≡ n - before = omega (arith, number) in
        let two : before + 1 + 1 ≡ n + 1 = omega (arith, number) in
        record {
          later = omega (arith, number);
          goes_on =
              ap (λ x. by_journal read long x most new q lines) two
              ∙ (ap (λ t. by_journal read long (n + 1) most t q lines) network
              ∙ (ap (λ x. by_journal read long (n + 1) most whole x lines) provider
              ∙ ap (λ k. by_journal read long (n + 1) most whole p (drop k (line ∷ lines))) one));
        }
      where
        some_is : (q p : ℕ) → Some q ≡ Some p → q ≡ p
        some_is q p h = cc

    behind_line : (end : Status × List ℕ) → IsOpened read long most (before + 1) lines whole n p end → IsOpened read long most before (line ∷ lines) whole n p end
    behind_line end o =
        let left : suc (n - (before + 1)) ≡ n - before = omega (arith, o.later) in
        record {
          later = omega (arith, o.later);
          goes_on = o.goes_on ∙ ap (λ k. by_journal read long (n + 1) most whole p (drop k (line ∷ lines))) left;
        }

    by_result : (r : Result Taken TopologyFault)
        → ((new : Network) → read_lines new (before + 1) lines ≡ Ok (whole, n) → IsOpened read long most (before + 1) lines whole n p (outcome read long (before + 1 + 1) (declaring new most) lines))
        → onward (before + 1) r (λ new. read_lines new (before + 1) lines) ≡ Ok (whole, n) → IsOpened read long most before (line ∷ lines) whole n p (by_line read long most (before + 1) r lines)
    by_result (Err f) next h = cc
    by_result (Ok (Taken.More new)) next h = behind_line _ (next new h)
    by_result (Ok (Taken.Whole new)) next h = let e = same _ _ h in
        opens new (first_provider new) (ap (λ (x : Network × ℕ). x.0) e) (ap (λ (x : Network × ℕ). x.1) (sym e)) (ap first_provider (ap (λ (x : Network × ℕ). x.0) e) ∙ f)

-- from the first line on
opened_first : (read : Reading) (long : Bool) (most : ℕ) (lines : List (List ℕ)) (t : Network) (n provider : ℕ) → read_lines nothing 0 lines ≡ Ok (t, n) → first_provider t ≡ Some provider
    → outcome read long 1 (begun most) lines ≡ by_journal read long (n + 1) most t provider (drop n lines)
opened_first read long most lines t n provider h f =
    let o = declared_good read long most nothing 0 lines t n provider h f in
    let all_left : n - 0 ≡ n = omega arith in
    o.goes_on ∙ ap (λ k. by_journal read long (n + 1) most t provider (drop k lines)) all_left

-- of bytes within the size each line is given
all_given : (bytes : List ℕ) → length bytes ≤ greatest_input → given_of greatest_input bytes ≡ record { lines = lines_of bytes; long = false }
unfolding given_of
all_given bytes few = ap (λ t. cond t (record { lines = lines_of bytes; long = false }) (record { lines = ended_lines (take greatest_input bytes); long = true })) (fits (length bytes) few)
  where
    fits : (n : ℕ) → n ≤ 67108864 → leb n 67108864 ≡ true
    fits n l = grind (arith, nat_tests)

---- Behind a journal

-- the journal is within the events, or has more entries
fits_in : (n most : ℕ) → leb n most ≡ true → n ≤ most
fits_in n most h = grind (arith, nat_tests)

fits_not : (n most : ℕ) → leb n most ≡ false → most < n
fits_not n most h = grind (arith, nat_tests)

abbrev begins_if : Bool → ℕ → Network → ℕ → List Entry → Move
begins_if b most t provider es =
    cond b (record { text = []; step = goes_to (in_service (serving_of t provider es most)) }) (record { text = long_line; step = ends_as Ending.Long })

module _ (read : Reading) (long : Bool) (most : ℕ) (few : most ≤ 2000000) (number : ℕ) (t : Network) (provider : ℕ) (lines : List (List ℕ)) where
  abbrev comes : Move → Status × List ℕ
  comes m = behind m.text m.step (λ p. outcome read long number p lines)

  ends_behind : (es : List Entry) → All IsPrintableEntry es
      → EndsBy long most (length es + events_of (setting_of t provider) (own_stp t provider) (state_from t provider es).state lines) (comes (begins_behind most t provider (Ok es))).0
  ends_behind es printable = by_test (leb (length es) most) refl
    where
      events : ℕ
      events = events_of (setting_of t provider) (own_stp t provider) (state_from t provider es).state lines

      by_test : (b : Bool) → leb (length es) most ≡ b → EndsBy long most (length es + events) (comes (begins_if b most t provider es)).0
      by_test true h =
          let s : Serving = serving_of t provider es most in
          subst (λ k. EndsBy long most (k + events) (outcome read long number (in_service s) lines).0) (events_first t provider es most)
          (ends_by read long number s lines (well_at_first t provider most es few (fits_in (length es) most h) printable))
      by_test false h = inr (inr (omega (arith, fits_not (length es) most h)), refl)

  ends_read : (r : Reading) → EndsRead r long most t provider lines (comes (begins_behind most t provider r)).0
  ends_read (Ok es) = λ printable. ends_behind es printable
  ends_read (Err place) = refl

  serves_behind : (es : List Entry) → All IsPrintableEntry es
      → IsServed (setting_of t provider) (own_stp t provider) (state_from t provider es).state lines (comes (begins_behind most t provider (Ok es))).0 (comes (begins_behind most t provider (Ok es))).1
  serves_behind es printable = by_test (leb (length es) most) refl
    where
      by_test : (b : Bool) → leb (length es) most ≡ b
          → IsServed (setting_of t provider) (own_stp t provider) (state_from t provider es).state lines (comes (begins_if b most t provider es)).0 (comes (begins_if b most t provider es)).1
      by_test true h =
          let s : Serving = serving_of t provider es most in
          let well = well_at_first t provider most es few (fits_in (length es) most h) printable in
          served_safely (setting_of t provider) (own_stp t provider) (state_from t provider es).state lines _ _ well.good (served_from read long number s lines well)
      by_test false h = none_safely (setting_of t provider) (own_stp t provider) (state_from t provider es).state lines (good_replayed (setting_of t provider) (own_stp t provider) es printable)

  serves_read : (r : Reading) → ServesRead r t provider lines (comes (begins_behind most t provider r)).0 (comes (begins_behind most t provider r)).1
  serves_read (Ok es) = λ printable. serves_behind es printable
  serves_read (Err place) = (refl, refl)

---- The whole

pub is_complete : (read : Reading) (most : ℕ) (content left new : Option (List ℕ)) (status : Status) → most ≤ 2000000 → IsKept (promise_of read most content left) status new → IsComplete read most content left status
is_complete read most None left new status limited k = tt
is_complete read most (Some c) None new status limited k = tt
is_complete read most (Some c) (Some bytes) new status limited k = λ t n provider h f.
    let given : Given = given_of greatest_input bytes in
    let e = opened_first read given.long most given.lines t n provider h f in
    subst (EndsRead read given.long most t provider (drop n given.lines)) (sym (k.0 ∙ ap (λ (x : Status × List ℕ). x.0) e))
    (ends_read read given.long most limited (n + 1) t provider (drop n given.lines) read)

-- the outcome of lines is the text of a safe run
pub serves_safely : (read : Reading) (long : Bool) (most : ℕ) (lines : List (List ℕ)) → most ≤ 2000000 → ServesSafely read lines (outcome read long 1 (begun most) lines).0 (outcome read long 1 (begun most) lines).1
serves_safely read long most lines few = λ t n provider h f.
    let P : Status × List ℕ → Type 0 = λ x. ServesRead read t provider (drop n lines) x.0 x.1 in
    subst P (sym (opened_first read long most lines t n provider h f)) (serves_read read long most few (n + 1) t provider (drop n lines) read)

pub is_safe : (read : Reading) (most : ℕ) (content left new : Option (List ℕ)) (status : Status) → most ≤ 2000000 → IsKept (promise_of read most content left) status new → IsSafe read content left status new
is_safe read most None left new status few k = tt
is_safe read most (Some c) None new status few k = tt
is_safe read most (Some c) (Some bytes) new status few k =
    let given = given_of greatest_input bytes in
    let whole : Status × List ℕ = outcome read given.long 1 (begun most) given.lines in
    (whole.1, k.1, subst (λ x. ServesSafely read given.lines x whole.1) (sym k.0) (serves_safely read given.long most given.lines few))

pub names_fault : (read : Reading) (most : ℕ) (content left new : Option (List ℕ)) (status : Status) → IsKept (promise_of read most content left) status new → NamesFault content left status new
names_fault read most None left new status k = tt
names_fault read most (Some c) None new status k = tt
names_fault read most (Some c) (Some bytes) new status k = λ n fault few h.
    let e : outcome read (given_of greatest_input bytes).long 1 (begun most) (given_of greatest_input bytes).lines ≡ (Status.BadTopology, topology_fault n fault) =
    ap (λ (g : Given). outcome read g.long 1 (begun most) g.lines) (all_given bytes few) ∙ declared_fault read false most nothing 0 (lines_of bytes) n fault refl h in
    (k.0 ∙ ap (λ (x : Status × List ℕ). x.0) e, k.1 ∙ ap (λ (x : Status × List ℕ). Some (c ++ x.1)) e)
