-- What is printed of a run is found to be one.
use Rattle.std.proofs.Common.{ℕ, suc, ◌+◌, ◌≤◌, ◌≡◌, ◌⊎◌, inl, inr, ◌∙◌, true, List, [], ◌∷◌, ◌++◌, map, length, Result, Ok, Err, refl, sym, ap, subst, arith, length-append}
use Rattle.std.specs.List.{All}
use Rattle.std.proofs.lemmas.Bool.{le-leb}
use Rattle.std.proofs.lemmas.List.{same_from_push}
use Rattle.nsi_base.specs.Range.{greatest_input}
use Rattle.nsi_primitive.specs.Ranges.{IsRangedEvent}
use Rattle.nsi_primitive.specs.declared.entry.Event.{Event}
use Rattle.stp_topology.specs.declared.network.Network.{Network}
use Rattle.trace_text.specs.Lines.{line_of}
use Rattle.trace_reader.proofs.Again.{front_of, line_is_front}
use Rattle.nsi_agent.specs.Homes.{AreRoutes, Routes, home_in}
use Rattle.nsi_world.specs.Worlds.{empty}
use Rattle.nsi_world.specs.Runs.{IsAllowed, IsRun, asks_of}
use Rattle.trace_verify.specs.Lines.{ended, is_closing, settled_line, trace_lines}
use Rattle.trace_verify.specs.Traces.{IsBeyond, IsLineOf, IsTraceAlone, IsTraceOf, most_asks, world_of}
use Rattle.trace_verify.specs.Verdicts.{BreaksBy, EndsBadly, Finds, HasNoForm, IsNotAllowed, Tells}
use Rattle.trace_verify.specs.declared.verdict.Verdict.{Verdict}
use Rattle.trace_verify.specs.declared.verdict.VerifyFault.{VerifyFault}
use Rattle.trace_verify.specs.declared.verdict.Why.{Why}
use Rattle.trace_verify.proofs.Extending.{count_more, line_behind, trace_last}
use Rattle.verify_command.specs.Texts.{run_line, verdict_line}
use Rattle.verify_command.specs.Verifies.{VerifiesIf, VerifiesLines, VerifiesRead}
use Rattle.verify_command.specs.declared.end.VerifyEnd.{VerifyEnd}
use Rattle.trace_safety.specs.Laws.{IsPrintedRun, RunsAreFound, RunsAreVerified, printed}
use Rattle.trace_safety.proofs.Fronts.{within}
use Rattle.trace_safety.proofs.Printed.{IsBeforeEvent, IsCut, cut_lines, ends_none, fronts_end, printed_lines, settled_closes}

abbrev lines_in : Network → List Event → List (List ℕ)
lines_in t es = map (front_of t) es ++ settled_line (length es) ∷ []

trace_of : (t : Network) (routes : Routes) (es : List Event) → IsPrintedRun t routes es → IsTraceOf t (home_in t routes) (map (front_of t) es) es
trace_of t routes es is = record { run = is.run; few = is.few; text = fronts_end t es }

---- An event that comes next

-- it is the one behind the events that the lines in front of it tell
record ComesNext (t : Network) (routes : Routes) (run : List Event) (e : Event) : Type 0 where
  ranged : IsRangedEvent e
  line_of : IsLineOf t (home_in t routes) run (front_of t e) e
  allowed : IsAllowed (home_in t routes) (world_of run) e
  few : length (asks_of (run ++ e ∷ [])) ≤ most_asks

comes_next : (t : Network) (routes : Routes) (es run : List Event) (fronts behind : List (List ℕ)) → IsPrintedRun t routes es → (at : IsBeforeEvent t es fronts behind) → IsTraceAlone t (home_in t routes) fronts run
    → (at.before ≡ run) × ComesNext t routes run at.event
comes_next t routes es run fronts behind is at alone =
    let homes = home_in t routes in
    let there = within homes most_asks at.before at.after at.event (subst (IsRun homes) at.whole is.run) (subst (All IsRangedEvent) at.whole is.ranged) (subst (λ xs. length (asks_of xs) ≤ most_asks) at.whole is.few) in
    let trace : IsTraceOf t homes fronts at.before =
    record { run = there.last.run; few = there.few; text = ap (map ended) at.front ∙ fronts_end t at.before } in
    let same : at.before ≡ run = alone.alone at.before there.ranged_front trace in (
      same,
      record {
        ranged = there.ranged;
        line_of = subst (λ xs. IsLineOf t homes xs (front_of t at.event) at.event) same (line_behind t routes at.before (front_of t at.event) at.event there.last (line_is_front t at.event));
        allowed = subst (λ xs. IsAllowed homes (world_of xs) at.event) same there.last.allowed;
        few = subst (λ xs. length (asks_of (xs ++ at.event ∷ [])) ≤ most_asks) same there.few_with;
      },
    )

not_beyond : (t : Network) (routes : Routes) (run : List Event) (e : Event) → ComesNext t routes run e → IsBeyond run e → ⊥
not_beyond t routes run e next beyond = omega (arith, next.few, count_more run e true (λ _. beyond.0, λ _. refl), beyond.1)

has_form : (t : Network) (routes : Routes) (run : List Event) (e : Event) → ComesNext t routes run e → HasNoForm t (home_in t routes) run (front_of t e) → ⊥
has_form t routes run e next none = not_beyond t routes run e next (none.none e next.ranged next.line_of)

is_allowed : (t : Network) (routes : Routes) (run : List Event) (e : Event) → ComesNext t routes run e → IsNotAllowed t (home_in t routes) run (front_of t e) → ⊥
is_allowed t routes run e next not = not.refused (subst (IsAllowed (home_in t routes) (world_of run)) (not.alone e next.ranged next.line_of) next.allowed)

no_end : (t : Network) (e : Event) → is_closing (front_of t e) ≡ true → ⊥
no_end t e closing = ends_none t e (front_of t e) (line_is_front t e) closing

breaks_event : (t : Network) (routes : Routes) (run : List Event) (e : Event) (rest : List (List ℕ)) (why : Why) → ComesNext t routes run e → BreaksBy why t (home_in t routes) run (front_of t e ∷ rest) → ⊥
breaks_event t routes run e rest Why.Form next breaks = has_form t routes run e next breaks
breaks_event t routes run e rest Why.NotAllowed next breaks = is_allowed t routes run e next breaks
breaks_event t routes run e rest Why.End next breaks = no_end t e breaks.closing

---- The last line

breaks_last : (t : Network) (routes : Routes) (run : List Event) (n : ℕ) (why : Why) → n ≡ length run → BreaksBy why t (home_in t routes) run (settled_line n ∷ []) → ⊥
breaks_last t routes run n Why.Form many breaks = let open_line = breaks.ends_none in let closes = settled_closes n in absurd (cc)
breaks_last t routes run n Why.NotAllowed many breaks = ends_none t breaks.event (settled_line n) breaks.line_of.printed (settled_closes n)
breaks_last t routes run n Why.End many breaks = breaks.other (ap settled_line many)

-- the last line is none of a run
not_behind : (t : Network) (routes : Routes) (run : List Event) (n : ℕ) (fronts : List (List ℕ)) → IsTraceAlone t (home_in t routes) (fronts ++ settled_line n ∷ []) run → ⊥
not_behind t routes run n fronts alone =
    let ends = trace_last t (home_in t routes) fronts (settled_line n) run alone.trace in
    ends_none t ends.last (settled_line n) ends.printed (settled_closes n)

all_of_it : (t : Network) (routes : Routes) (es run : List Event) (fronts : List (List ℕ)) → IsPrintedRun t routes es → fronts ≡ map (front_of t) es → IsTraceAlone t (home_in t routes) fronts run → es ≡ run
all_of_it t routes es run fronts is same alone = alone.alone es is.ranged (subst (λ xs. IsTraceOf t (home_in t routes) xs es) (sym same) (trace_of t routes es is))

---- No other verdict

not_broken : (t : Network) (routes : Routes) (es run : List Event) (first behind : List (List ℕ)) (why : Why) → IsPrintedRun t routes es → IsCut t es (settled_line (length es)) first behind → IsTraceAlone t (home_in t routes) first run
    → BreaksBy why t (home_in t routes) run behind → ⊥
not_broken t routes es run first behind why is (inl at) alone breaks =
    let next = comes_next t routes es run first behind is at alone in
    breaks_event t routes run at.event at.rest why next.1 (subst (BreaksBy why t (home_in t routes) run) at.back breaks)
not_broken t routes es run first behind why is (inr (inl at)) alone breaks =
    let all = all_of_it t routes es run first is at.front alone in
    breaks_last t routes run (length es) why (ap length all) (subst (BreaksBy why t (home_in t routes) run) at.back breaks)
not_broken t routes es run first behind why is (inr (inr at)) alone breaks =
    not_behind t routes run (length es) (map (front_of t) es) (subst (λ xs. IsTraceAlone t (home_in t routes) xs run) at.front alone)

front_closes : (t : Network) (e : Event) (n : ℕ) (xs ys : List (List ℕ)) → settled_line n ∷ xs ≡ front_of t e ∷ ys → ⊥
front_closes t e n xs ys same =
    let one : settled_line n ≡ front_of t e = cc in
    no_end t e (subst (λ z. is_closing z ≡ true) one (settled_closes n))

one_line : (x y z : List ℕ) (zs : List (List ℕ)) → x ∷ y ∷ zs ≡ z ∷ [] → ⊥
one_line x y z zs same = cc

not_past : (t : Network) (routes : Routes) (es run : List Event) (first : List (List ℕ)) (next : List ℕ) (rest : List (List ℕ)) (n : ℕ) → IsCut t es (settled_line (length es)) first (settled_line n ∷ next ∷ rest) → ⊥
not_past t routes es run first next rest n (inl at) = front_closes t at.event n (next ∷ rest) at.rest at.back
not_past t routes es run first next rest n (inr (inl at)) = one_line (settled_line n) next (settled_line (length es)) rest at.back
not_past t routes es run first next rest n (inr (inr at)) = let none = at.back in absurd (cc)

not_bad : (t : Network) (routes : Routes) (es : List Event) (first_line line : ℕ) (why : Why) → EndsBadly why t (home_in t routes) first_line (lines_in t es) line → ⊥
not_bad t routes es first_line line Why.Form past = past
not_bad t routes es first_line line Why.NotAllowed past = past
not_bad t routes es first_line line Why.End past =
    not_past t routes es past.run past.splits.first past.next past.behind (length past.run) (cut_lines t es (settled_line (length es)) past.splits.first (settled_line (length past.run) ∷ past.next ∷ past.behind) past.splits.whole)

not_longer : (t : Network) (routes : Routes) (es run : List Event) (first : List (List ℕ)) (next : List ℕ) (rest : List (List ℕ)) (e : Event) → IsPrintedRun t routes es → IsCut t es (settled_line (length es)) first (next ∷ rest)
    → IsTraceAlone t (home_in t routes) first run → line_of t e ≡ ended next → suc (length run) ≤ length es
not_longer t routes es run first next rest e is (inl at) alone its =
    let there = comes_next t routes es run first (next ∷ rest) is at alone in
    omega (arith, ap length at.whole, length-append at.before (at.event ∷ at.after), ap length there.0)
not_longer t routes es run first next rest e is (inr (inl at)) alone its =
    let last : next ≡ settled_line (length es) = first_of next (settled_line (length es)) rest at.back in
    absurd (ends_none t e (settled_line (length es)) (its ∙ ap ended last) (settled_closes (length es)))
  where
    first_of : (x y : List ℕ) (xs : List (List ℕ)) → x ∷ xs ≡ y ∷ [] → x ≡ y
    first_of x y xs same = cc
not_longer t routes es run first next rest e is (inr (inr at)) alone its = let none = at.back in absurd (cc)

---- What is found

is_run : (t : Network) (routes : Routes) (es : List Event) (first_line : ℕ) (verdict : Verdict) → IsPrintedRun t routes es → Tells t (home_in t routes) first_line (lines_in t es) verdict → verdict ≡ Verdict.Run (length es)
is_run t routes es first_line (Verdict.Run events) is whole =
    let parts = same_from_push (map (front_of t) es) whole.splits.first (settled_line (length es)) (settled_line events) whole.splits.whole in
    let all = all_of_it t routes es whole.run whole.splits.first is (sym parts.0) whole.splits.trace in
    ap Verdict.Run (whole.many ∙ ap length (sym all))
is_run t routes es first_line (Verdict.Not line why) is (inl broken) =
    absurd
    (not_broken t routes es broken.run broken.splits.first broken.behind why is (cut_lines t es (settled_line (length es)) broken.splits.first broken.behind broken.splits.whole) broken.splits.trace
    broken.breaks)
is_run t routes es first_line (Verdict.Not line why) is (inr past) = absurd (not_bad t routes es first_line line why past)

is_found : (t : Network) (routes : Routes) (es : List Event) (first_line limit : ℕ) (found : Result Verdict VerifyFault) → IsPrintedRun t routes es → length es ≤ limit → Finds t (home_in t routes) first_line limit (lines_in t es) found
    → (found ≡ Ok (Verdict.Run (length es))) ⊎ (found ≡ Err VerifyFault.NoMemory)
is_found t routes es first_line limit (Ok verdict) is short tells = inl (ap (λ v. Ok v) (is_run t routes es first_line verdict is tells))
is_found t routes es first_line limit (Err VerifyFault.NoMemory) is short tells = inr refl
is_found t routes es first_line limit (Err VerifyFault.Long) is short long =
    let more =
    not_longer t routes es long.run long.splits.first long.next long.behind long.event is
    (cut_lines t es (settled_line (length es)) long.splits.first (long.next ∷ long.behind) long.splits.whole) long.splits.trace long.goes.line_of.printed in
    absurd (omega (arith, more, long.many, short))

pub runs_found : RunsAreFound
runs_found t routes es first_line limit found is short finds =
    is_found t routes es first_line limit found is short (subst (λ ls. Finds t (home_in t routes) first_line limit ls found) (printed_lines t routes empty es (length es) is.names is.run.allowed is.ranged) finds)

---- What the command answers

one_verdict : (found : Result Verdict VerifyFault) (v : Verdict) (n : ℕ) → found ≡ Ok v → (found ≡ Ok (Verdict.Run n)) ⊎ (found ≡ Err VerifyFault.NoMemory) → v ≡ Verdict.Run n
one_verdict found v n e (inl is) = cc
one_verdict found v n e (inr is) = absurd (cc)

not_long : (found : Result Verdict VerifyFault) (n : ℕ) → found ≡ Err VerifyFault.Long → (found ≡ Ok (Verdict.Run n)) ⊎ (found ≡ Err VerifyFault.NoMemory) → ⊥
not_long found n e (inl is) = cc
not_long found n e (inr is) = cc

lines_verified : (t : Network) (routes : Routes) (es : List Event) (text : List ℕ) (first_line limit : ℕ) (end : VerifyEnd) → AreRoutes t routes → IsPrintedRun t routes es → length es ≤ limit
    → VerifiesLines limit t first_line (trace_lines (printed t es)) end text → (end ≡ VerifyEnd.Done) × (text ≡ run_line (length es))
lines_verified t routes es text first_line limit VerifyEnd.Done are is short told =
    (refl, told.2 ∙ ap verdict_line (one_verdict (Ok told.0) told.0 (length es) refl (runs_found t routes es first_line limit (Ok told.0) is short (told.1 routes are))))
lines_verified t routes es text first_line limit VerifyEnd.Long are is short told =
    absurd (not_long (Err VerifyFault.Long) (length es) refl (runs_found t routes es first_line limit (Err VerifyFault.Long) is short (told.0 routes are)))
lines_verified t routes es text first_line limit VerifyEnd.NoMemory are is short told = absurd told
lines_verified t routes es text first_line limit VerifyEnd.ReadFault are is short told = absurd told
lines_verified t routes es text first_line limit VerifyEnd.WriteFault are is short told = absurd told
lines_verified t routes es text first_line limit VerifyEnd.BadTopology are is short told = absurd told

pub runs_verified : RunsAreVerified
runs_verified t routes es bytes text limit end are is input short verifies =
    let inside : VerifiesIf true limit bytes end text = subst (λ b. VerifiesIf b limit bytes end text) (le-leb (length bytes) greatest_input input.fits) verifies in
    let read : VerifiesRead limit bytes (Ok (t, input.lines)) end text = subst (λ r. VerifiesRead limit bytes r end text) input.topology inside in
    lines_verified t routes es text (input.lines + 1) limit end are is short
    (subst (λ z. VerifiesLines limit t (input.lines + 1) (trace_lines z) end text) input.behind read)
