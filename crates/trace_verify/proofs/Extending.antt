-- A run and one event more, and its text and one line more.
use Rattle.std.proofs.Common.{ℕ, suc, ◌+◌, ◌≤◌, ◌<◌, ◌≡◌, ◌↔◌, ◌⊎◌, inl, inr, ◌∙◌, Bool, true, false, cond, List, [], ◌∷◌, ◌++◌, length, map, refl, sym, ap, subst, arith, append_assoc}
use Rattle.std.specs.List.{All}
use Rattle.std.proofs.lemmas.Bool.{cases_order}
use Rattle.std.proofs.lemmas.List.{append-nil, drop_at, length-append, map-append, same_from_push, take_at}
use Rattle.std.proofs.lemmas.List.Elements.{All-drop, All-head, All-take}
use Rattle.nsi_primitive.specs.Ranges.{IsRangedEvent}
use Rattle.nsi_primitive.specs.declared.entry.Event.{Event}
use Rattle.nsi_primitive.specs.declared.entry.Happening.{Happening}
use Rattle.nsi_primitive.specs.declared.entry.Input.{Input}
use Rattle.stp_topology.specs.declared.network.Network.{Network}
use Rattle.trace_text.specs.Lines.{line_of}
use Rattle.trace_reader.specs.Moments.{HappensNow, IsNumbered}
use Rattle.nsi_agent.specs.Homes.{Routes, home_in}
use Rattle.nsi_world.specs.Worlds.{Homes, World, empty}
use Rattle.nsi_world.specs.Runs.{AreAllowed, Asked, IsAllowed, IsRun, Wish, asks_by, asks_in, asks_of, happens, numbered, world_after}
use Rattle.run_text.proofs.Answering.{prints}
use Rattle.run_text.proofs.Moments.{next}
use Rattle.run_text.proofs.Places.{agent_within}
use Rattle.trace_verify.specs.Lines.{ended}
use Rattle.trace_verify.specs.Traces.{GoesOnBy, HasAsk, IsAsk, IsLineOf, IsTraceAlone, IsTraceOf, most_asks, seconds_in, world_of}
use Rattle.trace_verify.specs.Steps.{HasGoneOn, IsSoFar}
use Rattle.trace_verify.specs.declared.follower.Follower.{Follower}

---- Events

allowed_more : (homes : Homes) (w : World) (es : List Event) (e : Event) → AreAllowed homes w es → IsAllowed homes (world_after w es) e → AreAllowed homes w (es ++ e ∷ [])
unfolding AreAllowed world_after
allowed_more homes w [] e are is = (is, tt)
allowed_more homes w (x ∷ es) e are is = (are.0, allowed_more homes (happens w x) es e are.1 is)

allowed_last : (homes : Homes) (w : World) (es : List Event) (e : Event) → AreAllowed homes w (es ++ e ∷ []) → AreAllowed homes w es × IsAllowed homes (world_after w es) e
unfolding AreAllowed world_after
allowed_last homes w [] e are = (tt, are.0)
allowed_last homes w (x ∷ es) e are = let rest = allowed_last homes (happens w x) es e are.1 in ((are.0, rest.0), rest.1)

pub world_more : (w : World) (es : List Event) (e : Event) → world_after w (es ++ e ∷ []) ≡ happens (world_after w es) e
unfolding world_after
world_more w [] e = refl
world_more w (x ∷ es) e = world_more (happens w x) es e

---- Asks

asks_more : (es : List Event) (e : Event) → asks_of (es ++ e ∷ []) ≡ asks_of es ++ asks_in e.agent e.what
unfolding asks_of
asks_more [] e = append-nil (asks_in e.agent e.what)
asks_more (x ∷ es) e = ap (λ xs. asks_in x.agent x.what ++ xs) (asks_more es e) ∙ sym (append_assoc (asks_in x.agent x.what) (asks_of es) (asks_in e.agent e.what))

numbered_many : (n : ℕ) (ws : List Wish) → length (numbered n ws) ≡ length ws
unfolding numbered
numbered_many n [] = refl
numbered_many n (w ∷ ws) = ap suc (numbered_many (n + 1) ws)

numbered_append : (n : ℕ) (xs ys : List Wish) → numbered n (xs ++ ys) ≡ numbered n xs ++ numbered (n + length xs) ys
unfolding numbered
numbered_append n [] ys = let same : n + 0 ≡ n = omega arith in ap (λ k. numbered k ys) (sym same)
numbered_append n (x ∷ xs) ys =
    let same : n + 1 + length xs ≡ n + suc (length xs) = omega arith in
    ap (λ zs. record { number = n; agent = x.0; ask = x.1 } ∷ zs) (numbered_append (n + 1) xs ys ∙ ap (λ k. numbered (n + 1) xs ++ numbered k ys) same)

numbered_one : (n : ℕ) (x : Wish) → numbered n (x ∷ []) ≡ record { number = n; agent = x.0; ask = x.1 } ∷ []
unfolding numbered
numbered_one n x = refl

abbrev AreNumbered : List Asked → Type 0
AreNumbered xs = (ws : List Wish) × (xs ≡ numbered 0 ws)

-- an ask more has the next number
number_more : (xs : List Asked) (ws : List Wish) (x : Asked) → xs ≡ numbered 0 ws → x.number ≡ length xs → AreNumbered (xs ++ x ∷ [])
number_more xs ws x are next =
    let zero_more : 0 + length ws ≡ length ws = omega arith in (
      ws ++ (x.agent, x.ask) ∷ [],
      ap (λ ys. ys ++ x ∷ []) are
          ∙ (ap (λ n. numbered 0 ws ++ record { number = n; agent = x.agent; ask = x.ask } ∷ []) (next ∙ (ap length are ∙ numbered_many 0 ws))
          ∙ (ap (λ ys. numbered 0 ws ++ ys) (sym (numbered_one (length ws) (x.agent, x.ask)))
          ∙ (ap (λ k. numbered 0 ws ++ numbered k ((x.agent, x.ask) ∷ [])) (sym zero_more) ∙ sym (numbered_append 0 ws ((x.agent, x.ask) ∷ []))))),
    )

-- what an event asks, and its number
number_by : (es : List Event) (a now second : ℕ) (input : Input) → AreNumbered (asks_of es) → IsNumbered input (length (asks_of es)) → AreNumbered (asks_of es ++ asks_by a input)
number_by es a now second (Input.Ask number ask) are of = number_more (asks_of es) are.0 (record { number = number; agent = a; ask = ask }) are.1 of
number_by es a now second (Input.Got m) are of = subst AreNumbered (sym (append-nil (asks_of es))) are
number_by es a now second (Input.Work n machine) are of = subst AreNumbered (sym (append-nil (asks_of es))) are
number_by es a now second Input.Tick are of = subst AreNumbered (sym (append-nil (asks_of es))) are
number_by es a now second (Input.Force n) are of = subst AreNumbered (sym (append-nil (asks_of es))) are
number_by es a now second (Input.Acked i) are of = subst AreNumbered (sym (append-nil (asks_of es))) are

number_in : (es : List Event) (a now : ℕ) (what : Happening) → AreNumbered (asks_of es) → HappensNow now (length (asks_of es)) what → AreNumbered (asks_of es ++ asks_in a what)
number_in es a now (Happening.Entry e answer) are of = number_by es a now e.second e.input are of.numbered
number_in es a now (Happening.Sync count) are of = subst AreNumbered (sym (append-nil (asks_of es))) are
number_in es a now (Happening.Restart count) are of = subst AreNumbered (sym (append-nil (asks_of es))) are

room_below : (n most : ℕ) → n ≤ most → (n ≡ most → ⊥) → n + 1 ≤ most
room_below n most le not = by (cases_order n most)
  where
    by : (n ≡ most) ⊎ ((n < most) ⊎ (most < n)) → n + 1 ≤ most
    by (inl e) = absurd (not e)
    by (inr (inl lt)) = omega (arith, lt)
    by (inr (inr gt)) = omega (arith, gt, le)

few_by : (es : List Event) (a : ℕ) (input : Input) → length (asks_of es) ≤ most_asks → (IsAsk input × (length (asks_of es) ≡ most_asks) → ⊥) → length (asks_of es ++ asks_by a input) ≤ most_asks
few_by es a (Input.Ask number ask) few room =
    let more = room_below (length (asks_of es)) most_asks few (λ e. room (tt, e)) in
    omega (arith, more, length-append (asks_of es) (record { number = number; agent = a; ask = ask } ∷ []))
few_by es a (Input.Got m) few room = omega (arith, few, ap length (append-nil (asks_of es)))
few_by es a (Input.Work n machine) few room = omega (arith, few, ap length (append-nil (asks_of es)))
few_by es a Input.Tick few room = omega (arith, few, ap length (append-nil (asks_of es)))
few_by es a (Input.Force n) few room = omega (arith, few, ap length (append-nil (asks_of es)))
few_by es a (Input.Acked i) few room = omega (arith, few, ap length (append-nil (asks_of es)))

few_in : (es : List Event) (a : ℕ) (what : Happening) → length (asks_of es) ≤ most_asks → (HasAsk what × (length (asks_of es) ≡ most_asks) → ⊥) → length (asks_of es ++ asks_in a what) ≤ most_asks
few_in es a (Happening.Entry e answer) few room = few_by es a e.input few room
few_in es a (Happening.Sync count) few room = omega (arith, few, ap length (append-nil (asks_of es)))
few_in es a (Happening.Restart count) few room = omega (arith, few, ap length (append-nil (asks_of es)))

-- how many asks there are then
count_by : (es : List Event) (a : ℕ) (input : Input) (asking : Bool) → (asking ≡ true) ↔ IsAsk input → length (asks_of es ++ asks_by a input) ≡ cond asking (length (asks_of es) + 1) (length (asks_of es))
count_by es a (Input.Ask number ask) true is = length-append (asks_of es) (record { number = number; agent = a; ask = ask } ∷ [])
count_by es a (Input.Ask number ask) false is = let yes = is.1 tt in absurd (cc)
count_by es a (Input.Got m) true is = absurd (is.0 refl)
count_by es a (Input.Got m) false is = ap length (append-nil (asks_of es))
count_by es a (Input.Work n machine) true is = absurd (is.0 refl)
count_by es a (Input.Work n machine) false is = ap length (append-nil (asks_of es))
count_by es a Input.Tick true is = absurd (is.0 refl)
count_by es a Input.Tick false is = ap length (append-nil (asks_of es))
count_by es a (Input.Force n) true is = absurd (is.0 refl)
count_by es a (Input.Force n) false is = ap length (append-nil (asks_of es))
count_by es a (Input.Acked i) true is = absurd (is.0 refl)
count_by es a (Input.Acked i) false is = ap length (append-nil (asks_of es))

count_in : (es : List Event) (a : ℕ) (what : Happening) (asking : Bool) → (asking ≡ true) ↔ HasAsk what → length (asks_of es ++ asks_in a what) ≡ cond asking (length (asks_of es) + 1) (length (asks_of es))
count_in es a (Happening.Entry e answer) asking is = count_by es a e.input asking is
count_in es a (Happening.Sync count) true is = absurd (is.0 refl)
count_in es a (Happening.Sync count) false is = ap length (append-nil (asks_of es))
count_in es a (Happening.Restart count) true is = absurd (is.0 refl)
count_in es a (Happening.Restart count) false is = ap length (append-nil (asks_of es))

pub count_more : (es : List Event) (e : Event) (asking : Bool) → (asking ≡ true) ↔ HasAsk e.what → length (asks_of (es ++ e ∷ [])) ≡ cond asking (length (asks_of es) + 1) (length (asks_of es))
count_more es e asking is = ap length (asks_more es e) ∙ count_in es e.agent e.what asking is

---- Runs

run_more : (homes : Homes) (es : List Event) (e : Event) → IsRun homes es → IsAllowed homes (world_of es) e → HappensNow (seconds_in homes (world_of es) e.agent) (length (asks_of es)) e.what → IsRun homes (es ++ e ∷ [])
run_more homes es e run allowed of =
    let asked = number_in es e.agent (seconds_in homes (world_of es) e.agent) e.what (run.wishes, run.asked) of in
    record { allowed = allowed_more homes empty es e run.allowed allowed; wishes = asked.0; asked = asks_more es e ∙ asked.1 }

one_by_one : (x y : Asked) (xs ys : List Asked) → x ∷ xs ≡ y ∷ ys → (x ≡ y) × (xs ≡ ys)
one_by_one x y xs ys e = (cc, cc)

-- numbers of the first asks, and of those behind
pub record AreCut (n : ℕ) (xs ys : List Asked) : Type 0 where
  pub first : List Wish
  pub rest : List Wish
  pub front : xs ≡ numbered n first
  pub behind : ys ≡ numbered (n + length xs) rest

pub cut : (n : ℕ) (xs ys : List Asked) (ws : List Wish) → xs ++ ys ≡ numbered n ws → AreCut n xs ys
unfolding numbered
cut n [] ys ws h =
    let same : n + 0 ≡ n = omega arith in
    record { first = []; rest = ws; front = refl; behind = h ∙ ap (λ k. numbered k ws) (sym same) }
cut n (x ∷ xs) ys [] h = absurd (cc)
cut n (x ∷ xs) ys (w ∷ ws) h =
    let first : Asked = record { number = n; agent = w.0; ask = w.1 } in
    let parts = one_by_one x first (xs ++ ys) (numbered (n + 1) ws) h in
    let more = cut (n + 1) xs ys ws parts.1 in
    let same : n + 1 + length xs ≡ n + suc (length xs) = omega arith in
    record {
      first = w ∷ more.first;
      rest = more.rest;
      front = ap (λ y. y ∷ xs) parts.0 ∙ ap (λ zs. first ∷ zs) more.front;
      behind = more.behind ∙ ap (λ k. numbered k more.rest) same;
    }

-- a run without its last event is one, behind which that event is allowed and of its moment
pub record HasLast (homes : Homes) (es : List Event) (e : Event) : Type 0 where
  pub run : IsRun homes es
  pub allowed : IsAllowed homes (world_of es) e
  pub now : HappensNow (seconds_in homes (world_of es) e.agent) (length (asks_of es)) e.what

pub run_last : (homes : Homes) (es : List Event) (e : Event) → IsRun homes (es ++ e ∷ []) → HasLast homes es e
unfolding asks_of
run_last homes es e run =
    let are = allowed_last homes empty es e run.allowed in
    let zero_more : 0 + length (asks_of es) ≡ length (asks_of es) = omega arith in
    let numbers = cut 0 (asks_of es) (asks_in e.agent e.what) run.wishes (sym (asks_more es e) ∙ run.asked) in
    record {
      run = record { allowed = are.0; wishes = numbers.first; asked = numbers.front };
      allowed = are.1;
      now = (next homes (world_of es, length (asks_of es)) e.agent e.what [] numbers.rest are.1.1 (append-nil (asks_in e.agent e.what) ∙ (numbers.behind ∙ ap (λ k. numbered k numbers.rest) zero_more))).0;
    }

---- Lines

-- the line of an event that goes on with a run
pub line_behind : (t : Network) (routes : Routes) (es : List Event) (line : List ℕ) (e : Event) → HasLast (home_in t routes) es e → line_of t e ≡ ended line → IsLineOf t (home_in t routes) es line e
line_behind t routes es line e last printed = record {
  has_line = record { agent = agent_within t routes e.agent last.allowed.0; printable = prints t routes (world_of es) e.agent e.what last.allowed.1 };
  of_moment = last.now;
  printed = printed;
}

trace_more : (t : Network) (homes : Homes) (first : List (List ℕ)) (es : List Event) (line : List ℕ) (e : Event) → IsTraceOf t homes first es → GoesOnBy t homes es line e
    → IsTraceOf t homes (first ++ line ∷ []) (es ++ e ∷ [])
trace_more t homes first es line e trace goes = record {
  run = run_more homes es e trace.run goes.allowed goes.line_of.of_moment;
  few = subst (λ xs. length xs ≤ most_asks) (sym (asks_more es e)) (few_in es e.agent e.what trace.few goes.within);
  text =
      map-append ended first (line ∷ [])
      ∙ (ap (λ xs. xs ++ ended line ∷ []) trace.text ∙ (ap (λ x. map (line_of t) es ++ x ∷ []) (sym goes.line_of.printed) ∙ sym (map-append (line_of t) es (e ∷ []))));
}

ends_so : {X : Type 0} (xs : List X) → (xs ≡ []) ⊎ ((ys : List X) × (y : X) × (xs ≡ ys ++ y ∷ []))
ends_so [] = inl refl
ends_so (x ∷ xs) = inr (by (ends_so xs))
  where
    by : (xs ≡ []) ⊎ ((ys : List _) × (y : _) × (xs ≡ ys ++ y ∷ [])) → (ys : List _) × (y : _) × (x ∷ xs ≡ ys ++ y ∷ [])
    by (inl none) = ([], x, ap (λ zs. x ∷ zs) none)
    by (inr some) = (x ∷ some.0, some.1, ap (λ zs. x ∷ zs) some.2)

-- the text of a run whose last line this is
pub record EndsBy (t : Network) (homes : Homes) (first : List (List ℕ)) (line : List ℕ) (fs : List Event) : Type 0 where
  pub before : List Event
  pub last : Event
  pub whole : fs ≡ before ++ last ∷ []
  pub trace : IsTraceOf t homes first before
  pub ends : HasLast homes before last
  pub printed : line_of t last ≡ ended line

pub trace_last : (t : Network) (homes : Homes) (first : List (List ℕ)) (line : List ℕ) (fs : List Event) → IsTraceOf t homes (first ++ line ∷ []) fs → EndsBy t homes first line fs
trace_last t homes first line fs trace = by (ends_so fs)
  where
    text : map ended first ++ ended line ∷ [] ≡ map (line_of t) fs
    text = sym (map-append ended first (line ∷ [])) ∙ trace.text

    some_line : (xs : List (List ℕ)) (x : List ℕ) → xs ++ x ∷ [] ≡ [] → ⊥
    some_line [] x e = cc
    some_line (y ∷ ys) x e = cc

    by : (fs ≡ []) ⊎ ((gs : List Event) × (f : Event) × (fs ≡ gs ++ f ∷ [])) → EndsBy t homes first line fs
    by (inl none) = absurd (some_line (map ended first) (ended line) (text ∙ ap (map (line_of t)) none))
    by (inr some) =
        let gs = some.0 in
        let f = some.1 in
        let parts = same_from_push (map ended first) (map (line_of t) gs) (ended line) (line_of t f) (text ∙ (ap (map (line_of t)) some.2 ∙ map-append (line_of t) gs (f ∷ []))) in
        let last = run_last homes gs f (subst (IsRun homes) some.2 trace.run) in
        let asked : length (asks_of fs) ≡ length (asks_of gs) + length (asks_in f.agent f.what) = ap (λ es. length (asks_of es)) some.2 ∙ (ap length (asks_more gs f) ∙ length-append (asks_of gs) (asks_in f.agent f.what)) in
        record {
          before = gs;
          last = f;
          whole = some.2;
          trace = record { run = last.run; few = omega (arith, trace.few, asked); text = parts.0 };
          ends = last;
          printed = sym parts.1;
        }

front_ranged : (xs ys : List Event) → All IsRangedEvent (xs ++ ys) → All IsRangedEvent xs
front_ranged xs ys all = subst (All IsRangedEvent) (take_at xs ys (length xs) refl) (All-take IsRangedEvent (length xs) (xs ++ ys) all)

last_ranged : (xs : List Event) (x : Event) → All IsRangedEvent (xs ++ x ∷ []) → IsRangedEvent x
last_ranged xs x all = All-head IsRangedEvent x [] (subst (All IsRangedEvent) (drop_at xs (x ∷ []) (length xs) refl) (All-drop IsRangedEvent (length xs) (xs ++ x ∷ []) all))

alone_more : (t : Network) (routes : Routes) (first : List (List ℕ)) (es : List Event) (line : List ℕ) (e : Event) → IsTraceAlone t (home_in t routes) first es → GoesOnBy t (home_in t routes) es line e
    → ((f : Event) → IsRangedEvent f → IsLineOf t (home_in t routes) es line f → f ≡ e) → IsTraceAlone t (home_in t routes) (first ++ line ∷ []) (es ++ e ∷ [])
alone_more t routes first es line e old goes alone = record {
  trace = trace_more t (home_in t routes) first es line e old.trace goes;
  alone = λ fs ranged trace. by fs ranged (trace_last t (home_in t routes) first line fs trace);
}
  where
    by : (fs : List Event) → All IsRangedEvent fs → EndsBy t (home_in t routes) first line fs → fs ≡ es ++ e ∷ []
    by fs ranged ends =
        let gs = ends.before in
        let f = ends.last in
        let parts = subst (All IsRangedEvent) ends.whole ranged in
        let same : gs ≡ es = old.alone gs (front_ranged gs (f ∷ []) parts) ends.trace in
        let its : IsLineOf t (home_in t routes) es line f = subst (λ xs. IsLineOf t (home_in t routes) xs line f) same (line_behind t routes gs line f ends.ends ends.printed) in
        let one : f ≡ e = alone f (last_ranged gs f parts) its in
        ends.whole ∙ (ap (λ xs. xs ++ f ∷ []) same ∙ ap (λ x. es ++ x ∷ []) one)

---- One line more

pub so_far_more : (t : Network) (routes : Routes) (lines behind : List (List ℕ)) (line : List ℕ) (x y : Follower) (asks events more : ℕ) (far : IsSoFar t (home_in t routes) lines (line ∷ behind) x asks events)
    → HasGoneOn t (home_in t routes) far.run line y more → IsSoFar t (home_in t routes) lines behind y more (events + 1)
so_far_more t routes lines behind line x y asks events more far on =
    let run = far.run ++ on.event ∷ [] in
    record {
      run = run;
      splits = record {
        first = far.splits.first ++ line ∷ [];
        whole = far.splits.whole ∙ sym (append_assoc far.splits.first (line ∷ []) behind);
        trace = alone_more t routes far.splits.first far.run line on.event far.splits.trace on.goes on.alone;
      };
      shows = on.shows;
      asked = on.asked;
      many = omega (arith, far.many, length-append far.run (on.event ∷ []));
    }
