-- What is found of a trace, where following it ends.
use Rattle.std.proofs.Common.{ℕ, ◌+◌, ◌≡◌, inl, inr, ◌∙◌, true, List, [], ◌∷◌, length, map, refl, sym, ap, subst, arith}
use Rattle.nsi_primitive.specs.declared.entry.Event.{Event}
use Rattle.stp_topology.specs.declared.network.Network.{Network}
use Rattle.trace_text.specs.Lines.{line_of}
use Rattle.nsi_world.specs.Worlds.{Homes, empty}
use Rattle.nsi_world.specs.Runs.{AreAllowed, asks_of, numbered, world_after}
use Rattle.trace_verify.specs.Standing.{Shows}
use Rattle.trace_verify.specs.Lines.{is_closing, settled_line}
use Rattle.trace_verify.specs.Steps.{Closes, HasGoneOn, IsSoFar, IsStep}
use Rattle.trace_verify.specs.Verdicts.{Breaks, BreaksBy, IsTooLong, Splits, Tells}
use Rattle.trace_verify.specs.declared.follower.Follower.{Follower}
use Rattle.trace_verify.specs.declared.step.Step.{Step}
use Rattle.trace_verify.specs.declared.verdict.Verdict.{Verdict}
use Rattle.trace_verify.specs.declared.verdict.Why.{Why}

pub too_long : (t : Network) (homes : Homes) (lines behind : List (List ℕ)) (line : List ℕ) (x y : Follower) (asks events more limit : ℕ) (far : IsSoFar t homes lines (line ∷ behind) x asks events)
    → HasGoneOn t homes far.run line y more → events ≡ limit → IsTooLong t homes limit lines
too_long t homes lines behind line x y asks events more limit far on same = record {
  run = far.run;
  next = line;
  behind = behind;
  event = on.event;
  splits = far.splits;
  goes = on.goes;
  many = sym far.many ∙ same;
}

breaks_so : (t : Network) (homes : Homes) (first_line at : ℕ) (lines behind : List (List ℕ)) (x : Follower) (asks events : ℕ) (why : Why) (far : IsSoFar t homes lines behind x asks events)
    → BreaksBy why t homes far.run behind → at ≡ first_line + events → Breaks t homes first_line lines at why
breaks_so t homes first_line at lines behind x asks events why far breaks place = record {
  run = far.run;
  behind = behind;
  splits = far.splits;
  breaks = breaks;
  place = place ∙ ap (λ n. first_line + n) far.many;
}

pub not_next : (t : Network) (homes : Homes) (first_line at : ℕ) (lines behind : List (List ℕ)) (line : List ℕ) (x y : Follower) (asks events : ℕ) (why : Why)
    (far : IsSoFar t homes lines (line ∷ behind) x asks events) → IsStep t homes far.run line y (Step.Not why) → at ≡ first_line + events → Tells t homes first_line lines (Verdict.Not at why)
not_next t homes first_line at lines behind line x y asks events Why.Form far step place = inl (breaks_so t homes first_line at lines (line ∷ behind) x asks events Why.Form far step place)
not_next t homes first_line at lines behind line x y asks events Why.NotAllowed far step place = inl (breaks_so t homes first_line at lines (line ∷ behind) x asks events Why.NotAllowed far step place)
not_next t homes first_line at lines behind line x y asks events Why.End far step place = absurd step

-- no line is left
pub none_next : (t : Network) (homes : Homes) (first_line at : ℕ) (lines behind : List (List ℕ)) (x : Follower) (asks events : ℕ) → IsSoFar t homes lines behind x asks events → behind ≡ [] → at ≡ first_line + events
    → Tells t homes first_line lines (Verdict.Not at Why.End)
none_next t homes first_line at lines [] x asks events far none place = inl (breaks_so t homes first_line at lines [] x asks events Why.End far tt place)
none_next t homes first_line at lines (line ∷ behind) x asks events far none place = absurd (cc)

-- a line ends the trace
pub closing_next : (t : Network) (homes : Homes) (first_line at : ℕ) (lines behind : List (List ℕ)) (line : List ℕ) (x : Follower) (asks events : ℕ) (verdict : Verdict)
    → IsSoFar t homes lines (line ∷ behind) x asks events → is_closing line ≡ true → at ≡ first_line + events → Closes line behind at events verdict → Tells t homes first_line lines verdict
closing_next t homes first_line at lines behind line x asks events (Verdict.Run many) far closing place closes =
    let its : line ∷ behind ≡ settled_line many ∷ [] = ap (λ z. z ∷ behind) (closes.0 ∙ ap settled_line (sym closes.2)) ∙ ap (λ z. settled_line many ∷ z) closes.1 in
    record { run = far.run; splits = subst (λ z. Splits t homes lines far.run z) its far.splits; many = closes.2 ∙ far.many }
closing_next t homes first_line at lines behind line x asks events (Verdict.Not found Why.Form) far closing place closes = absurd closes
closing_next t homes first_line at lines behind line x asks events (Verdict.Not found Why.NotAllowed) far closing place closes = absurd closes
closing_next t homes first_line at lines behind line x asks events (Verdict.Not found Why.End) far closing place (inl other) =
    inl
    (breaks_so t homes first_line found lines (line ∷ behind) x asks events Why.End far (record { closing = closing; other = λ e. other.0 (e ∙ ap settled_line (sym far.many)) })
    (other.1 ∙ place))
closing_next t homes first_line at lines behind line x asks events (Verdict.Not found Why.End) far closing place (inr (next, rest, settled, more, is)) =
    let its : line ∷ behind ≡ settled_line (length far.run) ∷ next ∷ rest = ap (λ z. z ∷ behind) (settled ∙ ap settled_line far.many) ∙ ap (λ z. settled_line (length far.run) ∷ z) more in
    inr
    (record {
      run = far.run;
      next = next;
      behind = rest;
      splits = subst (λ z. Splits t homes lines far.run z) its far.splits;
      place = is ∙ ap (λ n. n + 1) (place ∙ ap (λ n. first_line + n) far.many);
    })

-- before anything has happened
pub none_so_far : (t : Network) (homes : Homes) (lines : List (List ℕ)) (x : Follower) → Shows x empty → IsSoFar t homes lines lines x 0 0
unfolding AreAllowed world_after asks_of numbered
none_so_far t homes lines x shows = record {
  run = [];
  splits = record {
    first = [];
    whole = refl;
    trace = record { trace = record { run = record { allowed = tt; wishes = []; asked = refl }; few = omega arith; text = refl }; alone = λ fs ranged trace. no_event fs trace.text };
  };
  shows = shows;
  asked = refl;
  many = refl;
}
  where
    no_event : (fs : List Event) → [] ≡ map (line_of t) fs → fs ≡ []
    no_event [] e = refl
    no_event (f ∷ fs) e = absurd (cc)
