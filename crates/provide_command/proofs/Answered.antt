-- Lines that were answered, one after another, and where that was cut short.
use Rattle.std.proofs.Common.{◌≡◌, ◌≤◌, ◌+◌, inl, inr, ℕ, zero, suc, List, [], ◌∷◌, ◌++◌, length, take, drop, Bool, true, false, cond, eqb, Option, Some, None, Ok, Err, option_map, IfSome, refl, sym, ap, ◌∙◌, subst, append_assoc, append-nil, length-append, arith}
use Rattle.std.proofs.Math.Seq.{take-append_seam}
use Rattle.std.proofs.lemmas.List.{take-append-drop}
use Rattle.nsi_base.specs.Lines.{lines_to, lines_of, feed_at, without_return}
use Rattle.nsi_base.proofs.LineCuts.{lines_end, lines_last, ended_none}
use Rattle.stp_topology.specs.Network.{nothing}
use Rattle.stp_topology.specs.declared.network.Network.{Network}
use Rattle.provider_agent.specs.Setting.{Setting, setting_of, own_stp}
use Rattle.line_reader.specs.Given.{Given, given_of, IsSame, TakesLine}
use Rattle.line_reader.specs.Held.{Held, rest_of, to_come, budget, CutsLine, IsFirstLine}
use Rattle.provide_command.specs.Cut.{IsAnswered, IsEnded, AnswersRead, AppendsRead, AnswersSome, AnswersThen, IsStopped, TakesOn, StopsAt}
use Rattle.provide_command.specs.Outcome.{move_of, behind, outcome, GoesOn, next_text}
use Rattle.nsi_base.specs.Range.{greatest_input}
use Rattle.provide_command.specs.Promise.{begun, Writes, WritesFront}
use Rattle.provide_command.specs.Runs.{RunsRead, RunsSafely, ServesRead, IsServed, IsSafeText}
use Rattle.provide_command.specs.Runs.IsServed.{served_all, served_some}
use Rattle.provide_command.specs.Phases.{Reading, Phase, in_topology, in_service, goes_to}
use Rattle.provide_command.specs.UpTo.{Handed, IsUpTo, IsUpToIf}
use Rattle.provide_command.specs.Serving.{state_from}
use Rattle.provider_agent.specs.State.{State}
use Rattle.provide_command.specs.declared.status.Status.{Status}
use Rattle.provide_command.proofs.Declared.{serves_safely}
use Rattle.provide_command.proofs.Promised.{of_line, of_end, behind_text}

---- Lines that don't end the command

-- one line more
pub goes_further : (read : Reading) (number at : ℕ) (phase between next : Phase) (lines : List (List ℕ)) (line text : List ℕ) → at ≡ number + length lines → GoesOn read number phase lines between text
    → (move_of read at between line).step ≡ goes_to next → GoesOn read number phase (lines ++ line ∷ []) next (text ++ (move_of read at between line).text)
goes_further read number at phase between next [] line text e g s =
    let here : at ≡ number = omega (arith, e) in
    let step : (move_of read at between line).step ≡ (move_of read number phase line).step = ap (λ n. (move_of read n between line).step) here ∙ ap (λ p. (move_of read number p line).step) g.0 in
    let said : (move_of read at between line).text ≡ (move_of read number phase line).text = ap (λ n. (move_of read n between line).text) here ∙ ap (λ p. (move_of read number p line).text) g.0 in
    (next, [], sym step ∙ s, (refl, refl), ap (λ t. t ++ (move_of read at between line).text) g.1 ∙ (said ∙ sym (append-nil (move_of read number phase line).text)))
goes_further read number at phase between next (first ∷ lines) line text e g s =
    let said = (move_of read at between line).text in
    (g.0, g.1 ++ said, g.2, goes_further read (number + 1) at g.0 between next lines line g.1 (omega (arith, e)) g.3 s, ap (λ t. t ++ said) g.4 ∙ append_assoc (move_of read number phase first).text g.1 said)

-- how the command ends is how what it goes on with ends
pub goes_status : (read : Reading) (long : Bool) (number at : ℕ) (phase next : Phase) (lines back : List (List ℕ)) (text : List ℕ) → at ≡ number + length lines → GoesOn read number phase lines next text
    → (outcome read long number phase (lines ++ back)).0 ≡ (outcome read long at next back).0
goes_status read long number at phase next [] back text e g =
    let here : number ≡ at = omega (arith, e) in
    ap (λ p. (outcome read long number p back).0) (sym g.0) ∙ ap (λ n. (outcome read long n next back).0) here
goes_status read long number at phase next (line ∷ lines) back text e g =
    ap (λ (o : Status × List ℕ). o.0) (of_line read long number phase line (lines ++ back))
    ∙ (ap (λ s. (behind (move_of read number phase line).text s (λ p. outcome read long (number + 1) p (lines ++ back))).0) g.2
    ∙ goes_status read long (number + 1) at g.0 next lines back g.1 (omega (arith, e)) g.3)

-- and its text comes behind that of the lines
pub goes_text : (read : Reading) (long : Bool) (number at : ℕ) (phase next : Phase) (lines back : List (List ℕ)) (text : List ℕ) → at ≡ number + length lines → GoesOn read number phase lines next text
    → (outcome read long number phase (lines ++ back)).1 ≡ text ++ (outcome read long at next back).1
goes_text read long number at phase next [] back text e g =
    let here : number ≡ at = omega (arith, e) in
    ap (λ p. (outcome read long number p back).1) (sym g.0) ∙ (ap (λ n. (outcome read long n next back).1) here ∙ ap (λ t. t ++ (outcome read long at next back).1) (sym g.1))
goes_text read long number at phase next (line ∷ lines) back text e g =
    let said = (move_of read number phase line).text in
    ap (λ (o : Status × List ℕ). o.1) (of_line read long number phase line (lines ++ back))
    ∙ (ap (λ s. (behind said s (λ p. outcome read long (number + 1) p (lines ++ back))).1) g.2
    ∙ (ap (λ t. said ++ t) (goes_text read long (number + 1) at g.0 next lines back g.1 (omega (arith, e)) g.3)
    ∙ (sym (append_assoc said g.1 (outcome read long at next back).1) ∙ ap (λ t. t ++ (outcome read long at next back).1) (sym g.4))))

-- what is written next comes first of what follows
next_first : (read : Reading) (long : Bool) (number : ℕ) (phase : Phase) (back : List (List ℕ)) → (rest : List ℕ) × ((outcome read long number phase (take 1 back)).1 ≡ next_text read long number phase back ++ rest)
next_first read long number phase [] = ([], ap (λ (o : Status × List ℕ). o.1) (of_end read long number phase) ∙ sym (append-nil (next_text read long number phase [])))
next_first read long number phase (line ∷ back) =
    let b = behind_text (move_of read number phase line).text (move_of read number phase line).step (λ p. outcome read long (number + 1) p []) in
    (b.0, ap (λ (o : Status × List ℕ). o.1) (of_line read long number phase line []) ∙ b.1)

---- They are a safe run

-- what is served and done is served whole
whole_text : (setting : Setting) (stp_of : List ℕ → Option ℕ) (s : State) (lines : List (List ℕ)) (status : Status) (text said : List ℕ) → status ≡ Status.Done → said ≡ text → IsServed setting stp_of s lines status said → IsSafeText setting stp_of s lines text
whole_text setting stp_of s lines status text said done e (served_all is t) = subst (λ x. IsSafeText setting stp_of s lines x) e t
whole_text setting stp_of s lines status text said done e (served_some front back body cut long t w) = absurd (apart (sym long ∙ done))
  where
    apart : Status.Long ≡ Status.Done → ⊥
    apart h = cc

-- so by what the journal read as
whole_read : (read : Reading) (t : Network) (provider : ℕ) (lines : List (List ℕ)) (status : Status) (text said : List ℕ) → status ≡ Status.Done → said ≡ text → ServesRead read t provider lines status said → RunsRead read t provider lines text
whole_read (Ok es) t provider lines status text said done e s = λ printable. whole_text (setting_of t provider) (own_stp t provider) (state_from t provider es).state lines status text said done e (s printable)
whole_read (Err place) t provider lines status text said done e s = apart (sym s.0 ∙ done)
  where
    apart : Status.NotAJournal ≡ Status.Done → ⊥
    apart h = cc

served_whole : (read : Reading) (most : ℕ) (lines : List (List ℕ)) (text : List ℕ) → most ≤ 2000000 → (outcome read false 1 (begun most) lines).0 ≡ Status.Done → (outcome read false 1 (begun most) lines).1 ≡ text → RunsSafely read lines text
served_whole read most lines text few done e = λ t n provider h f.
    let end : Status × List ℕ = outcome read false 1 (begun most) lines in
    whole_read read t provider (drop n lines) end.0 text end.1 done e (serves_safely read false most lines few t n provider h f)

-- a topology without an end serves nobody
none_served : (setting : Setting) (stp_of : List ℕ → Option ℕ) (s : State) (lines : List (List ℕ)) (status : Status) (said : List ℕ) → status ≡ Status.BadTopology → IsServed setting stp_of s lines status said → ⊥
none_served setting stp_of s lines status said bad (served_all done t) = not_done (sym bad ∙ done)
  where
    not_done : Status.BadTopology ≡ Status.Done → ⊥
    not_done h = cc
none_served setting stp_of s lines status said bad (served_some front back body cut long t w) = not_long (sym bad ∙ long)
  where
    not_long : Status.BadTopology ≡ Status.Long → ⊥
    not_long h = cc

none_read : (read : Reading) (t : Network) (provider : ℕ) (lines : List (List ℕ)) (status : Status) (text said : List ℕ) → status ≡ Status.BadTopology → ServesRead read t provider lines status said → RunsRead read t provider lines text
none_read (Ok es) t provider lines status text said bad s = λ printable. absurd (none_served (setting_of t provider) (own_stp t provider) (state_from t provider es).state lines status said bad (s printable))
none_read (Err place) t provider lines status text said bad s = apart (sym bad ∙ s.0)
  where
    apart : Status.BadTopology ≡ Status.NotAJournal → ⊥
    apart h = cc

served_none : (read : Reading) (most : ℕ) (lines : List (List ℕ)) (text : List ℕ) → most ≤ 2000000 → (outcome read false 1 (begun most) lines).0 ≡ Status.BadTopology → RunsSafely read lines text
served_none read most lines text few bad = λ t n provider h f.
    let end : Status × List ℕ = outcome read false 1 (begun most) lines in
    none_read read t provider (drop n lines) end.0 text end.1 bad (serves_safely read false most lines few t n provider h f)

runs_safely : (read : Reading) (most : ℕ) (lines : List (List ℕ)) (phase : Phase) (text : List ℕ) → most ≤ 2000000 → GoesOn read 1 (begun most) lines phase text → RunsSafely read lines text
runs_safely read most lines phase text few g = by_phase phase g
  where
    all : lines ++ [] ≡ lines
    all = append-nil lines

    by_phase : (p : Phase) → GoesOn read 1 (begun most) lines p text → RunsSafely read lines text
    by_phase (in_service s) g =
        let at = 1 + length lines in
        let done = ap (λ ls. (outcome read false 1 (begun most) ls).0) (sym all) ∙ (goes_status read false 1 at (begun most) (in_service s) lines [] text refl g ∙ ap (λ (o : Status × List ℕ). o.0) (of_end read false at (in_service s))) in
        let said = ap (λ ls. (outcome read false 1 (begun most) ls).1) (sym all)
        ∙ (goes_text read false 1 at (begun most) (in_service s) lines [] text refl g ∙ (ap (λ (o : Status × List ℕ). text ++ o.1) (of_end read false at (in_service s)) ∙ append-nil text)) in
        served_whole read most lines text few done said
    by_phase (in_topology d) g =
        let at = 1 + length lines in
        let bad = ap (λ ls. (outcome read false 1 (begun most) ls).0) (sym all) ∙ (goes_status read false 1 at (begun most) (in_topology d) lines [] text refl g ∙ ap (λ (o : Status × List ℕ). o.0) (of_end read false at (in_topology d))) in
        served_none read most lines text few bad

pub answered : (read : Reading) (most : ℕ) (lines : List (List ℕ)) (phase : Phase) (text : List ℕ) → most ≤ 2000000 → GoesOn read 1 (begun most) lines phase text → IsAnswered read most lines phase text
answered read most lines phase text few g = record { goes = g; safe = runs_safely read most lines phase text few g }

---- Bytes that were handed out

feed_in_front : (xs : List ℕ) (i : ℕ) → feed_at xs ≡ Some i → feed_at (take (suc i) xs) ≡ Some i
unfolding feed_at
feed_in_front [] i h = cc
feed_in_front (x ∷ xs) i h = by_test (eqb x 10) (feed_at xs) (λ j e. feed_in_front xs j e) h
  where
    by_test : (t : Bool) (o : Option ℕ) → ((j : ℕ) → o ≡ Some j → feed_at (take (suc j) xs) ≡ Some j) → cond t (Some 0) (option_map suc o) ≡ Some i → cond t (Some 0) (option_map suc (feed_at (take i xs))) ≡ Some i
    by_test true o shorter e = e
    by_test false None shorter e = cc
    by_test false (Some j) shorter e =
        let next : suc j ≡ i = cc in
        let in_front : feed_at (take i xs) ≡ Some j = ap (λ n. feed_at (take n xs)) (sym next) ∙ shorter j refl in
        ap (option_map suc) in_front ∙ e

-- a line that was cut off is the first of any text that begins with its bytes
line_first : (tail : Bool) (xs more : List ℕ) (i : ℕ) → feed_at xs ≡ Some i → lines_to tail (take (suc i) xs ++ more) ≡ without_return (take i xs) ∷ lines_to tail more
line_first tail xs more i h =
    let e = lines_end tail (take (suc i) xs) more i (feed_in_front xs i h) in
    e ∙ (ap (λ ys. without_return ys ∷ lines_to tail (drop (suc i) (take (suc i) xs) ++ more)) (take-take i xs) ∙ ap (λ ys. without_return (take i xs) ∷ lines_to tail (ys ++ more)) (drop-take i xs))
  where
    take-take : (n : ℕ) (ys : List ℕ) → take n (take (suc n) ys) ≡ take n ys
    take-take zero ys = refl
    take-take (suc n) [] = refl
    take-take (suc n) (y ∷ ys) = ap (λ zs. y ∷ zs) (take-take n ys)

    drop-take : (n : ℕ) (ys : List ℕ) → drop (suc n) (take (suc n) ys) ≡ []
    drop-take zero [] = refl
    drop-take zero (y ∷ ys) = refl
    drop-take (suc n) [] = refl
    drop-take (suc n) (y ∷ ys) = drop-take n ys

-- the piece that leaves with a line
record Leaves (done behind : List ℕ) (lines : List (List ℕ)) (line rest : List ℕ) : Type 0 where
  piece : List ℕ
  cut : behind ≡ piece ++ rest
  handed : Handed (done ++ piece) rest (lines ++ line ∷ [])

no_feed : (xs : List ℕ) (i : ℕ) → xs ≡ [] → feed_at xs ≡ Some i → ⊥
unfolding feed_at
no_feed [] i e h = cc
no_feed (x ∷ xs) i e h = cc

leaves : (done behind : List ℕ) (lines : List (List ℕ)) (line rest : List ℕ) → Handed done behind lines → IsFirstLine behind line rest → Leaves done behind lines line rest
leaves done behind lines line rest (inl all) (inl cut) =
    let i = cut.0 in
    record {
      piece = take (suc i) behind;
      cut = sym (take-append-drop (suc i) behind) ∙ ap (λ xs. take (suc i) behind ++ xs) (sym cut.3);
      handed = inl (λ tail more.
          ap (lines_to tail) (append_assoc done (take (suc i) behind) more)
          ∙ (all tail (take (suc i) behind ++ more)
          ∙ (ap (λ ls. lines ++ ls) (line_first tail behind more i cut.1 ∙ ap (λ (l : List ℕ). l ∷ lines_to tail more) (sym cut.2))
          ∙ sym (append_assoc lines (line ∷ []) (lines_to tail more)))));
    }
leaves done behind lines line rest (inl all) (inr last) = record {
  piece = behind;
  cut = sym (append-nil behind) ∙ ap (λ xs. behind ++ xs) (sym last.3);
  handed = inr (last.3, all true behind ∙ ap (λ ls. lines ++ ls) (one behind last.0 last.1 ∙ ap (λ (l : List ℕ). l ∷ []) (sym last.2)));
}
  where
    one : (xs : List ℕ) → feed_at xs ≡ None → (xs ≡ [] → ⊥) → lines_to true xs ≡ xs ∷ []
    one [] e some = absurd (some refl)
    one (x ∷ xs) e some = lines_last x xs e
leaves done behind lines line rest (inr end) (inl cut) = absurd (no_feed behind cut.0 end.0 cut.1)
leaves done behind lines line rest (inr end) (inr last) = absurd (last.1 end.0)

---- Up to a line

pub up_to_start : (read : Reading) (held : Held) (t : Network) (most : ℕ) (content left : Option (List ℕ)) → held ≡ record { bytes = []; room = greatest_input } → t ≡ nothing
    → IsUpToIf read most content left 1 (in_topology (record { topology = t; most = most })) content (rest_of held left) (to_come held left)
unfolding to_come
up_to_start read held t most None left h n = tt
up_to_start read held t most (Some c) None h n = tt
up_to_start read held t most (Some c) (Some bytes) h n = record {
  done = [];
  behind = bytes;
  lines = [];
  text = [];
  left = given_of greatest_input bytes;
  cut = refl;
  handed = inl (λ tail more. refl);
  goes = (ap (λ x. in_topology (record { topology = x; most = most })) n, refl);
  count = refl;
  content_is = ap (λ x. Some x) (sym (append-nil c));
  rest_is = ap (λ (x : Held). Some (x.bytes ++ bytes)) h;
  given_is = ap (λ (x : Held). Some (given_of (budget x) (x.bytes ++ bytes))) h;
  whole_lines = refl;
  whole_long = refl;
}

some_is : {A : Type 0} {x y : A} → Some x ≡ Some y → x ≡ y
some_is h = cc

further : (read : Reading) (most : ℕ) (c bytes : List ℕ) (number : ℕ) (phase next : Phase) (content rest new_content new_rest : Option (List ℕ)) (given new_given : Option Given) (line : List ℕ)
    → IsUpTo read most c bytes number phase content rest given → TakesLine given new_given line → CutsLine rest new_rest line → (move_of read number phase line).step ≡ goes_to next → Writes content new_content (move_of read number phase line).text
    → IsUpTo read most c bytes (number + 1) next new_content new_rest new_given
further read most c bytes number phase next content rest new_content new_rest given new_given line u takes cuts step writes =
    let t = subst (λ o. TakesLine o new_given line) u.given_is takes in
    let k = subst (λ o. CutsLine o new_rest line) u.rest_is cuts in
    let w = subst (λ o. Writes o new_content (move_of read number phase line).text) u.content_is writes in
    let l = leaves u.done u.behind u.lines line k.0 u.handed k.2 in
    record {
      done = u.done ++ l.piece;
      behind = k.0;
      lines = u.lines ++ line ∷ [];
      text = u.text ++ (move_of read number phase line).text;
      left = t.0;
      cut = u.cut ∙ (ap (λ xs. u.done ++ xs) l.cut ∙ sym (append_assoc u.done l.piece k.0));
      handed = l.handed;
      goes = goes_further read 1 number (begun most) phase next u.lines line u.text u.count u.goes step;
      count = omega (arith, u.count, length-append u.lines (line ∷ []));
      content_is = w ∙ ap (λ x. Some x) (append_assoc c u.text (move_of read number phase line).text);
      rest_is = k.1;
      given_is = t.1;
      whole_lines = u.whole_lines ∙ (ap (λ (g : Given). u.lines ++ g.lines) t.2 ∙ sym (append_assoc u.lines (line ∷ []) t.0.lines));
      whole_long = u.whole_long ∙ ap (λ (g : Given). g.long) t.2;
    }

-- a line more
pub up_to_next : (read : Reading) (most : ℕ) (first left : Option (List ℕ)) (number : ℕ) (phase next : Phase) (content rest new_content new_rest : Option (List ℕ)) (given new_given : Option Given)
    → IsUpToIf read most first left number phase content rest given → TakesOn read number phase content rest given new_content new_rest new_given next
    → IsUpToIf read most first left (number + 1) next new_content new_rest new_given
up_to_next read most None left number phase next content rest new_content new_rest given new_given u t = tt
up_to_next read most (Some c) None number phase next content rest new_content new_rest given new_given u t = tt
up_to_next read most (Some c) (Some bytes) number phase next content rest new_content new_rest given new_given u t =
    further read most c bytes number phase next content rest new_content new_rest given new_given t.0 u t.1 t.2 t.3 t.4

---- Where it was cut short

-- what was read: what was handed out, and what is held
read_up_to : (read : Reading) (most : ℕ) (c bytes : List ℕ) (number : ℕ) (phase : Phase) (content : Option (List ℕ)) (rest : Option (List ℕ)) (given : Option Given) (held : Held) (left : Option (List ℕ)) (more : List ℕ) (new : Option (List ℕ))
    → most ≤ 2000000 → IsUpTo read most c bytes number phase content rest given → IsSame rest (rest_of held left) → feed_at held.bytes ≡ None → Writes content new more
    → (behind : List ℕ) × (left ≡ Some behind) × (text : List ℕ) × AnswersRead read most bytes behind text × (new ≡ Some (c ++ (text ++ more)))
read_up_to read most c bytes number phase content rest given held None more new few u same none w = let s = subst (λ o. IsSame o None) u.rest_is same in absurd (cc)
read_up_to read most c bytes number phase content rest given held (Some left) more new few u same none w =
    let s : held.bytes ++ left ≡ u.behind = some_is (subst (λ o. IsSame o (Some (held.bytes ++ left))) u.rest_is same) in
    let v = subst (λ o. Writes o new more) u.content_is w in (
      left,
      refl,
      u.text,
      record {
        done = u.done ++ held.bytes;
        cut = u.cut ∙ (ap (λ xs. u.done ++ xs) (sym s) ∙ sym (append_assoc u.done held.bytes left));
        lines = u.lines;
        ended = ended u.done held.bytes left u.behind u.lines s none u.handed;
        phase = phase;
        answered = answered read most u.lines phase u.text few u.goes;
      },
      v ∙ ap (λ x. Some x) (append_assoc c u.text more),
    )
  where
    both_none : (a b : List ℕ) → a ++ b ≡ [] → (a ≡ []) × (b ≡ [])
    both_none [] b e = (refl, e)
    both_none (x ∷ a) b e = absurd (cc)

    ended : (done kept left behind : List ℕ) (lines : List (List ℕ)) → kept ++ left ≡ behind → feed_at kept ≡ None → Handed done behind lines → IsEnded (done ++ kept) left lines
    ended done kept left behind lines s none (inl all) = inl (sym (all false kept ∙ (ap (λ ls. lines ++ ls) (ended_none kept none) ∙ append-nil lines)))
    ended done kept left behind lines s none (inr end) =
        let b = both_none kept left (s ∙ end.0) in
        inr (b.1, sym (ap (λ xs. lines_of (done ++ xs)) b.0 ∙ (ap lines_of (append-nil done) ∙ end.1)))

-- reading failed, and a text was written behind the answers
pub cut_by_fault : (read : Reading) (most : ℕ) (first start : Option (List ℕ)) (number : ℕ) (phase : Phase) (content rest : Option (List ℕ)) (given : Option Given) (held : Held) (left between new : Option (List ℕ)) (more : List ℕ)
    → most ≤ 2000000 → IsUpToIf read most first start number phase content rest given → IsSame rest (rest_of held left) → feed_at held.bytes ≡ None → between ≡ content → Writes between new more
    → AppendsRead read most first start left more new
cut_by_fault read most None start number phase content rest given held left between new more few u same none e w = tt
cut_by_fault read most (Some c) None number phase content rest given held left between new more few u same none e w = tt
cut_by_fault read most (Some c) (Some bytes) number phase content rest given held left between new more few u same none e w =
    read_up_to read most c bytes number phase content rest given held left more new few u same none (subst (λ o. Writes o new more) e w)

-- a front of the line of the fault was written
pub cut_in_fault : (read : Reading) (most : ℕ) (first start : Option (List ℕ)) (number : ℕ) (phase : Phase) (content rest : Option (List ℕ)) (given : Option Given) (held : Held) (left between new : Option (List ℕ)) (line : List ℕ)
    → most ≤ 2000000 → IsUpToIf read most first start number phase content rest given → IsSame rest (rest_of held left) → feed_at held.bytes ≡ None → between ≡ content → WritesFront between new line
    → (k : ℕ) × AppendsRead read most first start left (take k line) new
cut_in_fault read most None start number phase content rest given held left between new line few u same none e w = (0, tt)
cut_in_fault read most (Some c) None number phase content rest given held left between new line few u same none e w = (0, tt)
cut_in_fault read most (Some c) (Some bytes) number phase content rest given held left between new line few u same none e w =
    let v = subst (λ o. WritesFront o new line) (e ∙ u.content_is) w in
    (v.0, read_up_to read most c bytes number phase content rest given held left (take v.0 line) new few u same none (subst (λ o. Writes o new (take v.0 line)) (sym u.content_is) v.1))

stopped_in : (read : Reading) (most : ℕ) (c bytes : List ℕ) (number : ℕ) (phase : Phase) (content rest : Option (List ℕ)) (given : Option Given) (new : Option (List ℕ)) → most ≤ 2000000 → IsUpTo read most c bytes number phase content rest given
    → StopsAt read number phase content given new → (text : List ℕ) × AnswersSome read most (given_of greatest_input bytes) text × (new ≡ Some (c ++ text))
stopped_in read most c bytes number phase content rest given new few u stops =
    let s = subst (λ o. StopsAt read number phase (Some (c ++ u.text)) o new) u.given_is (subst (λ o. StopsAt read number phase o given new) u.content_is stops) in
    let whole : Given = given_of greatest_input bytes in
    let next : List ℕ = next_text read whole.long (1 + length u.lines) phase u.left.lines in
    let text : List ℕ = u.text ++ take s.0 next in
    let same : next_text read u.left.long number phase u.left.lines ≡ next = ap (λ b. next_text read b number phase u.left.lines) (sym u.whole_long) ∙ ap (λ n. next_text read whole.long n phase u.left.lines) u.count in
    let end : Status × List ℕ = outcome read whole.long 1 (begun most) (u.lines ++ take 1 u.left.lines) in
    let first = next_first read whole.long (1 + length u.lines) phase u.left.lines in
    let all : end.1 ≡ text ++ (drop s.0 next ++ first.0) =
    goes_text read whole.long 1 (1 + length u.lines) (begun most) phase u.lines (take 1 u.left.lines) u.text refl u.goes
    ∙ (ap (λ t. u.text ++ t) (first.1 ∙ (ap (λ t. t ++ first.0) (sym (take-append-drop s.0 next)) ∙ append_assoc (take s.0 next) (drop s.0 next) first.0))
    ∙ sym (append_assoc u.text (take s.0 next) (drop s.0 next ++ first.0))) in (
      text,
      record {
        lines = u.lines;
        back = u.left.lines;
        cut = u.whole_lines;
        phase = phase;
        body = u.text;
        answered = answered read most u.lines phase u.text few u.goes;
        front = s.0;
        is = refl;
        status = end.0;
        whole = end.1;
        safe = serves_safely read whole.long most (u.lines ++ take 1 u.left.lines) few;
        within = sym (ap (take (length text)) all ∙ take-append_seam text (drop s.0 next ++ first.0));
      },
      s.1 ∙ (ap (λ x. Some x) (append_assoc c u.text (take s.0 (next_text read u.left.long number phase u.left.lines))) ∙ ap (λ t. Some (c ++ (u.text ++ take s.0 t))) same),
    )

-- writing was cut short
pub stopped : (read : Reading) (most : ℕ) (first left : Option (List ℕ)) (number : ℕ) (phase : Phase) (content rest : Option (List ℕ)) (given : Option Given) (new : Option (List ℕ)) → most ≤ 2000000
    → IsUpToIf read most first left number phase content rest given → StopsAt read number phase content given new → IsStopped read most first left new
stopped read most None left number phase content rest given new few u s = tt
stopped read most (Some c) None number phase content rest given new few u s = tt
stopped read most (Some c) (Some bytes) number phase content rest given new few u s = stopped_in read most c bytes number phase content rest given new few u s

-- the disk failed, and a line was written behind the answers
pub disk_then : (read : Reading) (most : ℕ) (first start : Option (List ℕ)) (number : ℕ) (phase : Phase) (content rest : Option (List ℕ)) (given : Option Given) (between new : Option (List ℕ)) (line : List ℕ)
    → most ≤ 2000000 → IsUpToIf read most first start number phase content rest given → between ≡ content → Writes between new line
    → IfSome first (λ c. IfSome start (λ bytes. (text : List ℕ) × AnswersThen read most (given_of greatest_input bytes) line text × (new ≡ Some (c ++ text))))
disk_then read most None start number phase content rest given between new line few u e w = tt
disk_then read most (Some c) None number phase content rest given between new line few u e w = tt
disk_then read most (Some c) (Some bytes) number phase content rest given between new line few u e w =
    let v = subst (λ o. Writes o new line) (e ∙ u.content_is) w in (
      u.text ++ line,
      record {
        lines = u.lines;
        back = u.left.lines;
        cut = u.whole_lines;
        phase = phase;
        body = u.text;
        answered = answered read most u.lines phase u.text few u.goes;
        is = refl;
      },
      v ∙ ap (λ x. Some x) (append_assoc c u.text line),
    )

-- or a front of it
pub disk_front : (read : Reading) (most : ℕ) (first start : Option (List ℕ)) (number : ℕ) (phase : Phase) (content rest : Option (List ℕ)) (given : Option Given) (between new : Option (List ℕ)) (line : List ℕ)
    → most ≤ 2000000 → IsUpToIf read most first start number phase content rest given → between ≡ content → WritesFront between new line
    → IfSome first (λ c. IfSome start (λ bytes. (k : ℕ) × (text : List ℕ) × AnswersThen read most (given_of greatest_input bytes) (take k line) text × (new ≡ Some (c ++ text))))
disk_front read most None start number phase content rest given between new line few u e w = tt
disk_front read most (Some c) None number phase content rest given between new line few u e w = tt
disk_front read most (Some c) (Some bytes) number phase content rest given between new line few u e w =
    let v = subst (λ o. WritesFront o new line) (e ∙ u.content_is) w in
    let d = disk_then read most (Some c) (Some bytes) number phase content rest given (Some (c ++ u.text)) new (take v.0 line) few u (sym u.content_is) v.1 in
    (v.0, d.0, d.1, d.2)

---- One step

pub line_stops : (read : Reading) (number : ℕ) (phase : Phase) (line text : List ℕ) (content new : Option (List ℕ)) (old rest : Option Given) → TakesLine old rest line → text ≡ (move_of read number phase line).text → WritesFront content new text
    → StopsAt read number phase content old new
line_stops read number phase line text None new old rest t e w = tt
line_stops read number phase line text (Some c) new None rest t e w = tt
line_stops read number phase line text (Some c) new (Some g) rest t e w =
    (w.0, w.1 ∙ (ap (λ x. Some (c ++ take w.0 x)) e ∙ ap (λ (h : Given). Some (c ++ take w.0 (next_text read h.long number phase h.lines))) (sym t.2)))

pub end_stops : (read : Reading) (number : ℕ) (phase : Phase) (long : Bool) (text : List ℕ) (content new : Option (List ℕ)) (old : Option Given) → IfSome old (λ given. given ≡ record { lines = []; long = long }) → text ≡ next_text read long number phase []
    → WritesFront content new text → StopsAt read number phase content old new
end_stops read number phase long text None new old t e w = tt
end_stops read number phase long text (Some c) new None t e w = tt
end_stops read number phase long text (Some c) new (Some g) t e w =
    (w.0, w.1 ∙ (ap (λ x. Some (c ++ take w.0 x)) e ∙ ap (λ (h : Given). Some (c ++ take w.0 (next_text read h.long number phase h.lines))) (sym t)))

-- nothing was written
pub nothing_stops : (read : Reading) (number : ℕ) (phase : Phase) (content : Option (List ℕ)) (given : Option Given) → StopsAt read number phase content given content
nothing_stops read number phase None given = tt
nothing_stops read number phase (Some c) None = tt
nothing_stops read number phase (Some c) (Some g) = (0, ap (λ x. Some x) (sym (append-nil c)))
