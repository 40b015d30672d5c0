-- The lines of what is printed of a run.
use Rattle.std.proofs.Common.{ℕ, zero, suc, ◌+◌, ◌/◌, ◌%◌, ◌≡◌, ◌⊎◌, inl, inr, ◌∙◌, Bool, true, false, not, ◌&&◌, cond, eqb, ltb, List, [], ◌∷◌, ◌++◌, map, refl, sym, ap, arith, append_assoc}
use Rattle.std.specs.Fmt.{digits, digits_onto}
use Rattle.std.specs.List.{All, list_all}
use Rattle.std.proofs.lemmas.Bool.Decides.{nat_tests}
use Rattle.std.proofs.lemmas.List.Elements.{All-head, All-tail}
use Rattle.nsi_base.specs.Lines.{onto}
use Rattle.nsi_primitive.specs.Ranges.{IsRangedEvent}
use Rattle.nsi_primitive.specs.declared.entry.Event.{Event}
use Rattle.nsi_primitive.specs.declared.entry.Happening.{Happening}
use Rattle.nsi_primitive.specs.declared.entry.Input.{Input}
use Rattle.stp_topology.specs.declared.network.Network.{Network}
use Rattle.trace_text.specs.Lines.{line_of, text_of, verb_of}
use Rattle.trace_reader.specs.Laws.{HasNames}
use Rattle.trace_reader.proofs.Again.{front_of, line_is_front}
use Rattle.trace_reader.proofs.Clear.{IsClear, event_clear}
use Rattle.nsi_agent.specs.Homes.{Routes, home_in}
use Rattle.nsi_world.specs.Worlds.{World}
use Rattle.nsi_world.specs.Runs.{AreAllowed, happens}
use Rattle.run_text.proofs.Places.{agent_within}
use Rattle.trace_verify.specs.Lines.{ended, is_closing, settled_line, trace_lines}

---- A line without line feeds in it

both : (a b : Bool) → (a && b) ≡ true → (a ≡ true) × (b ≡ true)
both a b h = grind arith

is_no : (b : Bool) → not b ≡ true → b ≡ false
is_no b h = grind arith

line_first : (v rest : List ℕ) → IsClear v → trace_lines (v ++ 10 ∷ rest) ≡ v ∷ trace_lines rest
unfolding trace_lines
line_first [] rest h = refl
line_first (b ∷ bs) rest h =
    let p = both (not (eqb b 10)) (list_all (λ x. not (eqb x 10)) bs) h in
    by (eqb b 10) (is_no (eqb b 10) p.0) (line_first bs rest p.1)
  where
    by : (t : Bool) → t ≡ false → trace_lines (bs ++ 10 ∷ rest) ≡ bs ∷ trace_lines rest
        → cond t ([] ∷ trace_lines (bs ++ 10 ∷ rest)) (onto true b (trace_lines (bs ++ 10 ∷ rest))) ≡ (b ∷ bs) ∷ trace_lines rest
    by true e more = cc
    by false e more = ap (onto true b) more

glyph_clear : (d : ℕ) → eqb (cond (ltb d 10) (48 + d) (87 + d)) 10 ≡ false
glyph_clear d = grind (arith, nat_tests)

digits_clear : (k n : ℕ) (bs : List ℕ) → IsClear bs → IsClear (digits_onto k 10 false n bs)
digits_clear zero n bs h = h
digits_clear (suc k) n bs h = by (eqb (n / 10) 0) (digits_clear k (n / 10) _ more)
  where
    more : IsClear (cond (ltb (n % 10) 10) (48 + n % 10) (87 + n % 10) ∷ bs)
    more = rw (glyph_clear (n % 10), h) refl

    by : (t : Bool) → IsClear (digits_onto k 10 false (n / 10) (cond (ltb (n % 10) 10) (48 + n % 10) (87 + n % 10) ∷ bs))
        → IsClear (cond t (cond (ltb (n % 10) 10) (48 + n % 10) (87 + n % 10) ∷ bs) (digits_onto k 10 false (n / 10) (cond (ltb (n % 10) 10) (48 + n % 10) (87 + n % 10) ∷ bs)))
    by true rest = more
    by false rest = rest

settled_clear : (n : ℕ) → IsClear (settled_line n)
unfolding digits
settled_clear n = digits_clear 64 n [] refl

---- The lines of events, and the last one

first_line : (t : Network) (e : Event) (es : List Event) (tail : List ℕ) → text_of t (e ∷ es) ++ tail ≡ front_of t e ++ 10 ∷ (text_of t es ++ tail)
first_line t e es tail =
    append_assoc (line_of t e) (text_of t es) tail
    ∙ (ap (λ x. x ++ (text_of t es ++ tail)) (line_is_front t e) ∙ append_assoc (front_of t e) (10 ∷ []) (text_of t es ++ tail))

lines_then : (t : Network) (routes : Routes) (w : World) (es : List Event) (tail : List ℕ) → HasNames t → AreAllowed (home_in t routes) w es → All IsRangedEvent es
    → trace_lines (text_of t es ++ tail) ≡ map (front_of t) es ++ trace_lines tail
unfolding AreAllowed
lines_then t routes w [] tail names are ranged = refl
lines_then t routes w (e ∷ es) tail names are ranged =
    let clear = event_clear t e (names.named e.agent (agent_within t routes e.agent are.0.0)) (All-head IsRangedEvent e es ranged) in
    ap trace_lines (first_line t e es tail)
    ∙ (line_first (front_of t e) (text_of t es ++ tail) clear
    ∙ ap (λ ls. front_of t e ∷ ls) (lines_then t routes (happens w e) es tail names are.1 (All-tail IsRangedEvent e es ranged)))

last_alone : (n : ℕ) → trace_lines (ended (settled_line n)) ≡ settled_line n ∷ []
unfolding trace_lines
last_alone n = line_first (settled_line n) [] (settled_clear n)

pub printed_lines : (t : Network) (routes : Routes) (w : World) (es : List Event) (n : ℕ) → HasNames t → AreAllowed (home_in t routes) w es → All IsRangedEvent es
    → trace_lines (text_of t es ++ ended (settled_line n)) ≡ map (front_of t) es ++ settled_line n ∷ []
printed_lines t routes w es n names are ranged = lines_then t routes w es (ended (settled_line n)) names are ranged ∙ ap (λ ls. map (front_of t) es ++ ls) (last_alone n)

pub fronts_end : (t : Network) (es : List Event) → map ended (map (front_of t) es) ≡ map (line_of t) es
fronts_end t [] = refl
fronts_end t (e ∷ es) = ap (λ x. x ∷ map ended (map (front_of t) es)) (sym (line_is_front t e)) ∙ ap (λ xs. line_of t e ∷ xs) (fronts_end t es)

---- No event has a line that ends a trace

pub settled_closes : (n : ℕ) → is_closing (settled_line n) ≡ true
settled_closes n = refl

-- how a line begins that ends a trace
begins : (a b : ℕ) (more line : List ℕ) → a ∷ b ∷ more ≡ line ++ 10 ∷ [] → is_closing line ≡ true → (a ≡ 115) × (b ≡ 101)
begins a b more [] e c = absurd (cc)
begins a b more (x ∷ []) e c = absurd (grind (arith, nat_tests, c))
begins a b more (x ∷ y ∷ line) e c =
    let one : a ≡ x = cc in
    let two : b ≡ y = cc in
    let first : (x ≡ 115) × (y ≡ 101) = grind (arith, nat_tests, c) in
    (one ∙ first.0, two ∙ first.1)

begins_none : (what : Happening) (more line : List ℕ) → verb_of what ++ more ≡ line ++ 10 ∷ [] → is_closing line ≡ true → ⊥
begins_none (Happening.Entry entry answer) more line e c = by entry.input e
  where
    by : (input : Input) → verb_of (Happening.Entry (record entry { input = input }) answer) ++ more ≡ line ++ 10 ∷ [] → ⊥
    by (Input.Ask number ask) e = omega (arith, (begins 97 115 (107 ∷ more) line e c).0)
    by (Input.Got message) e = omega (arith, (begins 103 111 (116 ∷ more) line e c).0)
    by (Input.Work number machine) e = omega (arith, (begins 119 111 (114 ∷ 107 ∷ more) line e c).0)
    by Input.Tick e = omega (arith, (begins 116 105 (99 ∷ 107 ∷ more) line e c).0)
    by (Input.Force number) e = omega (arith, (begins 102 111 (114 ∷ 99 ∷ 101 ∷ more) line e c).0)
    by (Input.Acked identity) e = omega (arith, (begins 97 99 (107 ∷ 101 ∷ 100 ∷ more) line e c).0)
begins_none (Happening.Sync count) more line e c = omega (arith, (begins 115 121 (110 ∷ 99 ∷ more) line e c).1)
begins_none (Happening.Restart count) more line e c = omega (arith, (begins 114 101 (115 ∷ 116 ∷ 97 ∷ 114 ∷ 116 ∷ more) line e c).0)

pub ends_none : (t : Network) (e : Event) (line : List ℕ) → line_of t e ≡ ended line → is_closing line ≡ true → ⊥
unfolding line_of
ends_none t e line printed closing = begins_none e.what _ line printed closing

---- Where the lines are cut in two

-- in front of an event's line
pub record IsBeforeEvent (t : Network) (es : List Event) (first behind : List (List ℕ)) : Type 0 where
  pub before : List Event
  pub event : Event
  pub after : List Event
  pub rest : List (List ℕ)
  pub whole : es ≡ before ++ event ∷ after
  pub front : first ≡ map (front_of t) before
  pub back : behind ≡ front_of t event ∷ rest

pub record IsBehindAll (t : Network) (es : List Event) (last : List ℕ) (first behind : List (List ℕ)) : Type 0 where
  pub front : first ≡ map (front_of t) es ++ last ∷ []
  pub back : behind ≡ []

pub record IsBeforeLast (t : Network) (es : List Event) (last : List ℕ) (first behind : List (List ℕ)) : Type 0 where
  pub front : first ≡ map (front_of t) es
  pub back : behind ≡ last ∷ []

abbrev pub IsCut : Network → List Event → List ℕ → (first behind : List (List ℕ)) → Type 0
IsCut t es last first behind = IsBeforeEvent t es first behind ⊎ (IsBeforeLast t es last first behind ⊎ IsBehindAll t es last first behind)

no_more : {X : Type 0} (xs ys : List X) → [] ≡ xs ++ ys → (xs ≡ []) × (ys ≡ [])
no_more [] ys e = (refl, sym e)
no_more (x ∷ xs) ys e = cc

both_parts : {X : Type 0} (x y : X) (xs ys : List X) → x ∷ xs ≡ y ∷ ys → (x ≡ y) × (xs ≡ ys)
both_parts x y xs ys e = (cc, cc)

pub cut_lines : (t : Network) (es : List Event) (last : List ℕ) (first behind : List (List ℕ)) → map (front_of t) es ++ last ∷ [] ≡ first ++ behind → IsCut t es last first behind
cut_lines t [] last [] behind h = inr (inl (record { front = refl; back = sym h }))
cut_lines t (e ∷ es) last [] behind h =
    inl (record { before = []; event = e; after = es; rest = map (front_of t) es ++ last ∷ []; whole = refl; front = refl; back = sym h })
cut_lines t [] last (x ∷ first) behind h =
    let parts = both_parts last x [] (first ++ behind) h in
    let none = no_more first behind parts.1 in
    inr (inr (record { front = ap (λ xs. x ∷ xs) none.0 ∙ ap (λ y. y ∷ []) (sym parts.0); back = none.1 }))
cut_lines t (e ∷ es) last (x ∷ first) behind h =
    let parts = both_parts (front_of t e) x (map (front_of t) es ++ last ∷ []) (first ++ behind) h in
    by parts.0 (cut_lines t es last first behind parts.1)
  where
    by : front_of t e ≡ x → IsCut t es last first behind → IsCut t (e ∷ es) last (x ∷ first) behind
    by same (inl inner) =
        inl
        (record {
          before = e ∷ inner.before;
          event = inner.event;
          after = inner.after;
          rest = inner.rest;
          whole = ap (λ xs. e ∷ xs) inner.whole;
          front = ap (λ y. y ∷ first) (sym same) ∙ ap (λ xs. front_of t e ∷ xs) inner.front;
          back = inner.back;
        })
    by same (inr (inl at)) = inr (inl (record { front = ap (λ y. y ∷ first) (sym same) ∙ ap (λ xs. front_of t e ∷ xs) at.front; back = at.back }))
    by same (inr (inr at)) = inr (inr (record { front = ap (λ y. y ∷ first) (sym same) ∙ ap (λ xs. front_of t e ∷ xs) at.front; back = at.back }))
