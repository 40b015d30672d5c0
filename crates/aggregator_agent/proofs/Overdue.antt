-- Requests to children that are late, found from the messages that wait.
use Rattle.std.proofs.Common.{◌≡◌, ◌∙◌, ◌<◌, ◌≤◌, ◌+◌, ◌⊎◌, ◌↔◌, inl, inr, ℕ, zero, suc, add-one, Bool, true, false, ◌&&◌, ◌||◌, ◌==◌, not, cond, nat_le, nat_lt, List, [], ◌∷◌, ◌++◌, length, map, filter, take, get_or, Result, Ok, Err, refl, sym, ap, subst, arith}
use Rattle.std.specs.Prelude.{OnOk}
use Rattle.std.specs.List.{All, Contains, list_any}
use Rattle.std.specs.declared.alloc.AllocError.{AllocError}
use Rattle.std.specs.List.Sorted.{IsStrictlyIncreasing}
use Rattle.std.proofs.lemmas.Bool.{cases_lt, and_from, and_parts, or_left, or_right, or_cases, and_right}
use Rattle.std.proofs.lemmas.Bool.Decides.{nat_tests}
use Rattle.std.proofs.lemmas.List.{append-nil, get_or_default, get_or-take, get_or_append_left, length-take, take_all, map_more}
use Rattle.std.proofs.lemmas.List.Elements.{Contains-get_or, Contains-append_left, Contains-append_right, Contains-append_cases, filter_more}
use Rattle.record_index.proofs.Members.{nothing_in}
use Rattle.id_index.specs.declared.IdPlace.{IdPlace}
use Rattle.nsi_primitive.specs.Messages.{is_request}
use Rattle.nsi_primitive.specs.declared.message.Message.{Message}
use Rattle.agent_state.specs.declared.parent.Due.{Due}
use Rattle.aggregator_agent.specs.Clock.{is_late, is_request_under, most_wait}
use Rattle.aggregator_agent.specs.Indexed.{id_at, StaysIn}
use Rattle.aggregator_agent.specs.Dues.{no_due, due_at, AreNamedBetween, AreDuesNamed, IsDueAt, ArePlacesOf, is_overdue, is_overdue_at}
use Rattle.aggregator_agent.proofs.Edges.{edge, edge_before, no_place, along}
use Rattle.aggregator_agent.proofs.Noting.{kept_where, named_alone}

---- By correlationId

pub more_named : (was ids : List IdPlace) (dues more all : List Due) (count : ℕ) → all ≡ dues ++ more → count ≡ length dues → StaysIn was ids → AreDuesNamed was dues → AreNamedBetween count (length all) ids all → AreDuesNamed ids all
more_named was ids dues more all count is counted stays before new n l = elim (cases_lt n (length dues)) [
  | inl less ↦
      let same : due_at n all ≡ due_at n dues = ap (due_at n) is ∙ get_or_append_left dues more no_due n less in
      subst (λ (d : Due). Contains ids (id_at d.correlation n)) (sym same) (stays (id_at (due_at n dues).correlation n) (before n less))
  | inr ge ↦ new n (omega (arith, counted, ge)) l
]

pub front_named : (ids : List IdPlace) (dues : List Due) (count : ℕ) → AreDuesNamed ids dues → AreDuesNamed ids (take count dues)
front_named ids dues count before n l =
    let long = length-take count dues in
    let same : due_at n (take count dues) ≡ due_at n dues = get_or-take count dues n no_due (omega (arith, l, long)) in
    subst (λ (d : Due). Contains ids (id_at d.correlation n)) (sym same) (before n (omega (arith, l, long)))

pub stays_named : (was ids : List IdPlace) (dues : List Due) → StaysIn was ids → AreDuesNamed was dues → AreDuesNamed ids dues
stays_named was ids dues stays before n l = stays (id_at (due_at n dues).correlation n) (before n l)

-- one more is named
pub named_one : (first place : ℕ) (was ids : List IdPlace) (dues : List Due) (x : Due) → place < length dues → ((e : IdPlace) → Contains ids e ↔ ((e ≡ id_at (get_or dues place x).correlation place) ⊎ Contains was e))
    → AreNamedBetween first place was dues → AreNamedBetween first (place + 1) ids dues
named_one first place was ids dues x less more before n ge l = elim (cases_lt n place) [
  | inl earlier ↦ (more (id_at (due_at n dues).correlation n)).1 (inr (before n ge earlier))
  | inr at ↦
      let e : n ≡ place = omega (arith, at, l) in
      let same : due_at n dues ≡ get_or dues place x = ap (λ k. due_at k dues) e ∙ get_or_default dues place no_due x less in
      (more (id_at (due_at n dues).correlation n)).1 (inl (ap (λ (d : Due). id_at d.correlation n) same ∙ ap (λ k. id_at (get_or dues place x).correlation k) e))
]

---- By one message

as_overdue : (told old asks same : Bool) → asks ≡ true → (told && (old && ((asks && same) || false))) ≡ (told && (old && same))
as_overdue true true true true e = refl
as_overdue true true true false e = refl
as_overdue true true false same e = absurd (cc e)
as_overdue true false asks same e = refl
as_overdue false old asks same e = refl

as_nothing : (told old asks same : Bool) → asks ≡ false → (told && (old && ((asks && same) || false))) ≡ false
as_nothing true true true same e = absurd (cc e)
as_nothing true true false same e = refl
as_nothing true false asks same e = refl
as_nothing false old asks same e = refl

late_by_request : (now : ℕ) (m : Message) (d : Due) → is_request m.body ≡ true → is_late now (m ∷ []) d ≡ is_overdue now m.header.correlation d
unfolding is_late
late_by_request now m d asks = as_overdue (not d.is_told) (nat_le (d.second + most_wait) now) (is_request m.body) (m.header.correlation == d.correlation) asks

late_by_none : (now : ℕ) (m : Message) (d : Due) → is_request m.body ≡ false → is_late now (m ∷ []) d ≡ false
unfolding is_late
late_by_none now m d asks = as_nothing (not d.is_told) (nat_le (d.second + most_wait) now) (is_request m.body) (m.header.correlation == d.correlation) asks

-- a message that is no request makes nothing late
pub noted_none : (dues : List Due) (now : ℕ) (m : Message) (xs : List ℕ) → is_request m.body ≡ false → (p : ℕ) → Contains xs p ↔ (Contains xs p ⊎ IsDueAt (is_late now (m ∷ [])) dues p)
noted_none dues now m xs asks p = (
  λ has. inl has,
  λ q. elim q [
    | inl has ↦ has
    | inr h ↦ absurd (let e = h.is_so in let f = late_by_none now m (due_at p dues) asks in cc)
  ],
)

overdue_there : (now c : ℕ) (dues : List Due) (p : ℕ) → is_overdue_at now c dues p ≡ true → (p < length dues) × (is_overdue now c (due_at p dues) ≡ true)
overdue_there now c dues p e =
    let parts = and_parts (nat_lt p (length dues)) (is_overdue now c (due_at p dues)) e in
    (let h = parts.0 in grind (arith, nat_tests, h), parts.1)

there_overdue : (now c : ℕ) (dues : List Due) (p : ℕ) → p < length dues → is_overdue now c (due_at p dues) ≡ true → is_overdue_at now c dues p ≡ true
there_overdue now c dues p l e = and_from (nat_lt p (length dues)) (is_overdue now c (due_at p dues)) (grind (arith, nat_tests, l)) e

named_so : (now c : ℕ) (d : Due) → is_overdue now c d ≡ true → c ≡ d.correlation
named_so now c d e =
    let parts = and_parts (nat_le (d.second + most_wait) now) (c == d.correlation) (and_parts (not d.is_told) (nat_le (d.second + most_wait) now && (c == d.correlation)) e).1 in
    let h = parts.1 in
    grind (arith, nat_tests, h)

-- a request makes those late that are overdue under its correlationId
noted : (ids : List IdPlace) (dues : List Due) (now : ℕ) (m : Message) (old none named new : List ℕ) → is_request m.body ≡ true → AreDuesNamed ids dues → none ≡ []
    → ((p : ℕ) → Contains named p ↔ (Contains none p ⊎ Contains ids (id_at m.header.correlation p))) → new ≡ old ++ filter (is_overdue_at now m.header.correlation dues) named
    → (p : ℕ) → Contains new p ↔ (Contains old p ⊎ IsDueAt (is_late now (m ∷ [])) dues p)
noted ids dues now m old none named new asks are e found is p =
    let c = m.header.correlation in
    let those = filter (is_overdue_at now c dues) named in
    let there = named_alone ids c none named e found p in
    let kept = kept_where (is_overdue_at now c dues) named p in (
      λ has. elim (Contains-append_cases old those p (subst (λ xs. Contains xs p) is has)) [
        | inl was ↦ inl was
        | inr more ↦
            let both = overdue_there now c dues p (kept.0 more).1 in
            inr (record { within = both.0; is_so = late_by_request now m (due_at p dues) asks ∙ both.1 })
      ],
      λ q. subst (λ xs. Contains xs p) (sym is) (elim q [
        | inl was ↦ Contains-append_left old those p was
        | inr h ↦
            let so = sym (late_by_request now m (due_at p dues) asks) ∙ h.is_so in
            let named_there = subst (λ k. Contains ids (id_at k p)) (sym (named_so now c (due_at p dues) so)) (are p h.within) in
            Contains-append_right old those p (kept.1 (there.1 named_there, there_overdue now c dues p h.within so))
      ]),
    )

pub ok_noted : {X : Type 0} (r : Result X AllocError) (ids : List IdPlace) (dues : List Due) (now : ℕ) (m : Message) (old none named : List ℕ) (those : List Due) (places new : List ℕ) → is_request m.body ≡ true → AreDuesNamed ids dues → none ≡ []
    → ((p : ℕ) → Contains named p ↔ (Contains none p ⊎ Contains ids (id_at m.header.correlation p))) → those ≡ dues → places ≡ named
    → OnOk r (new ≡ old ++ filter (is_overdue_at now m.header.correlation those) places) → OnOk r ((p : ℕ) → Contains new p ↔ (Contains old p ⊎ IsDueAt (is_late now (m ∷ [])) dues p))
ok_noted (Ok x) ids dues now m old none named those places new asks are e found same at is =
    let there = ap (λ ds. old ++ filter (is_overdue_at now m.header.correlation ds) places) same ∙ ap (λ ps. old ++ filter (is_overdue_at now m.header.correlation dues) ps) at in
    noted ids dues now m old none named new asks are e found (is ∙ there)
ok_noted (Err x) ids dues now m old none named those places new asks are e found same at is = tt

---- By one message after another

spread : (told old here rest : Bool) → (told && (old && (here || rest))) ≡ ((told && (old && (here || false))) || (told && (old && rest)))
spread true true true rest = refl
spread true true false rest = refl
spread true false here rest = refl
spread false old here rest = refl

late_more : (now : ℕ) (m : Message) (ms : List Message) (d : Due) → is_late now (m ∷ ms) d ≡ (is_late now (m ∷ []) d || is_late now ms d)
unfolding is_late
late_more now m ms d = spread (not d.is_told) (nat_le (d.second + most_wait) now) (is_request_under d.correlation m) (list_any (is_request_under d.correlation) ms)

late_never : (now : ℕ) (d : Due) → is_late now [] d ≡ false
unfolding is_late
late_never now d = and_right (not d.is_told) (nat_le (d.second + most_wait) now && false) (and_right (nat_le (d.second + most_wait) now) false refl)

-- what is noted, or late as these wait, is what is late as all of them do
abbrev pub AreNotedBut : ℕ → List Due → (all rest : List Message) → List ℕ → Type 0
AreNotedBut now dues all rest places = (p : ℕ) → IsDueAt (is_late now all) dues p ↔ (Contains places p ⊎ IsDueAt (is_late now rest) dues p)

pub noted_first : (now : ℕ) (dues : List Due) (all : List Message) (places : List ℕ) → places ≡ [] → AreNotedBut now dues all all places
noted_first now dues all places e p = (
  λ h. inr h,
  λ q. elim q [
    | inl has ↦ absurd (nothing_in p (subst (λ xs. Contains xs p) e has))
    | inr h ↦ h
  ],
)

pub noted_next : (now : ℕ) (dues : List Due) (all before rest : List Message) (m : Message) (old new : List ℕ) → before ≡ m ∷ rest → ((p : ℕ) → Contains new p ↔ (Contains old p ⊎ IsDueAt (is_late now (m ∷ [])) dues p))
    → AreNotedBut now dues all before old → AreNotedBut now dues all rest new
noted_next now dues all before rest m old new e more were p = (
  λ h. elim ((were p).0 h) [
    | inl was ↦ inl ((more p).1 (inl was))
    | inr late ↦
        let so = sym (splits late.within) ∙ late.is_so in
        elim (or_cases (is_late now (m ∷ []) (due_at p dues)) (is_late now rest (due_at p dues)) so) [
          | inl here ↦ inl ((more p).1 (inr (record { within = late.within; is_so = here })))
          | inr later ↦ inr (record { within = late.within; is_so = later })
        ]
  ],
  λ q. (were p).1 (elim q [
    | inl has ↦ elim ((more p).0 has) [
      | inl was ↦ inl was
      | inr here ↦ inr (record { within = here.within; is_so = splits here.within ∙ or_left (is_late now (m ∷ []) (due_at p dues)) (is_late now rest (due_at p dues)) here.is_so })
    ]
    | inr later ↦ inr (record { within = later.within; is_so = splits later.within ∙ or_right (is_late now (m ∷ []) (due_at p dues)) (is_late now rest (due_at p dues)) later.is_so })
  ]),
)
  where
    splits : p < length dues → is_late now before (due_at p dues) ≡ (is_late now (m ∷ []) (due_at p dues) || is_late now rest (due_at p dues))
    splits l = ap (λ ms. is_late now ms (due_at p dues)) e ∙ late_more now m rest (due_at p dues)

pub noted_all : (now : ℕ) (dues : List Due) (all rest : List Message) (places found : List ℕ) → rest ≡ [] → ((p : ℕ) → Contains found p ↔ Contains places p) → AreNotedBut now dues all rest places → ArePlacesOf (is_late now all) dues found
noted_all now dues all rest places found e among were p = (
  λ has. (were p).1 (inl ((among p).0 has)),
  λ h. (among p).1 (elim ((were p).0 h) [
    | inl has ↦ has
    | inr late ↦ absurd (let so = late.is_so in let never = late_never now (due_at p dues) in let same = ap (λ ms. is_late now ms (due_at p dues)) e in cc)
  ]),
)

---- Those at the places

pub places_within : (holds : Due → Bool) (dues : List Due) (places : List ℕ) → ArePlacesOf holds dues places → All (λ p. p < length dues) places
places_within holds dues places are k d l = ((are (get_or places k d)).0 (Contains-get_or places k d l)).within

module _ (holds : Due → Bool) (dues : List Due) (places : List ℕ) (up : IsStrictlyIncreasing places) (are : ArePlacesOf holds dues places) where
  at : (i : ℕ) → i < length places → IsDueAt holds dues (get_or places i 0)
  at i l = (are (get_or places i 0)).0 (Contains-get_or places i 0 l)

  one_more : (p : ℕ) (b : Bool) → p < length dues → holds (due_at p dues) ≡ b → filter holds (take (p + 1) dues) ≡ filter holds (take p dues) ++ cond b (due_at p dues ∷ []) []
  one_more p b l e = filter_more holds dues p no_due l ∙ ap (λ t. filter holds (take p dues) ++ cond t (due_at p dues ∷ []) []) e

  skipped : (q : ℕ) → q < length dues → (Contains places q → ⊥) → filter holds (take (q + 1) dues) ≡ filter holds (take q dues)
  skipped q l lacks = by (holds (due_at q dues)) refl
    where
      by : (b : Bool) → holds (due_at q dues) ≡ b → filter holds (take (q + 1) dues) ≡ filter holds (take q dues)
      by true e = absurd (lacks ((are q).1 (record { within = l; is_so = e })))
      by false e = one_more q false l e ∙ append-nil (filter holds (take q dues))

  up_to : (i k : ℕ) → i ≤ length places → edge places i ≤ k → k ≤ length dues → (i < length places → k ≤ get_or places i 0) → filter holds (take k dues) ≡ filter holds (take (edge places i) dues)
  up_to i k le from most before = along (λ q. filter holds (take q dues) ≡ filter holds (take (edge places i) dues)) (edge places i) k from step refl
    where
      step : (q : ℕ) → edge places i ≤ q → q < k → filter holds (take q dues) ≡ filter holds (take (edge places i) dues) → filter holds (take (q + 1) dues) ≡ filter holds (take (edge places i) dues)
      step q ge l e = skipped q (omega (arith, l, most)) (no_place places i q up le ge (λ m. let less = before m in omega (arith, less, l))) ∙ e

  edge_inside : (i : ℕ) → i ≤ length places → edge places i ≤ length dues
  edge_inside zero le = omega arith
  edge_inside (suc i) le = let h = (at i (omega (arith, le))).within in omega (arith, h)

  edge_least : (i : ℕ) → i < length places → edge places i ≤ get_or places i 0
  edge_least i l = edge_before places i up l

  so_far : (i : ℕ) → i ≤ length places → map (λ p. due_at p dues) (take i places) ≡ filter holds (take (edge places i) dues)
  so_far zero le = refl
  so_far (suc i) le =
      let l : i < length places = omega (arith, le) in
      let p = get_or places i 0 in
      let here = at i l in
      let less = here.within in
      ap (λ k. map (λ q. due_at q dues) (take k places)) (sym (add-one i))
      ∙ map_more (λ q. due_at q dues) places i 0 l
      ∙ ap (λ xs. xs ++ due_at p dues ∷ []) (so_far i (omega (arith, l)) ∙ sym (up_to i p (omega (arith, l)) (edge_least i l) (omega (arith, less)) (λ m. omega arith)))
      ∙ sym (one_more p true less here.is_so)

  pub chosen : map (λ p. due_at p dues) places ≡ filter holds dues
  chosen =
      let n = length places in
      ap (map (λ p. due_at p dues)) (sym (take_all n places (omega arith)))
      ∙ so_far n (omega arith)
      ∙ sym (up_to n (length dues) (omega arith) (edge_inside n (omega arith)) (omega arith) (λ m. absurd (omega (arith, m))))
      ∙ ap (filter holds) (take_all (length dues) dues (omega arith))
