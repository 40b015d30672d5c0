-- What the first lack is, whatever the load of each flow, point and second.
use Rattle.std.proofs.Common.{◌≡◌, ◌≤◌, ◌<◌, ◌+◌, ◌-◌, ℕ, zero, suc, ◌⊎◌, inl, inr, Bool, true, false, cond, nat_lt, List, [], ◌∷◌, ◌++◌, Option, Some, None, arith, refl, sym, ap, ◌∙◌, subst}
use Rattle.std.proofs.lemmas.Bool.Decides.{nat_tests}
use Rattle.std.proofs.lemmas.List.Elements.{Contains-append_cases, Contains-push_cases}
use Rattle.std.specs.List.{Contains}
use Rattle.nsi_base.specs.Range.{Span, is_covered}
use Rattle.nsi_base.specs.declared.flow.Flow.{Flow}
use Rattle.capacity_calendar.specs.declared.booking.Lack.{Lack}
use Rattle.capacity_calendar.specs.declared.booking.Place.{Place}
use Rattle.capacity_calendar.specs.Lack.{or_else, lacks_by, lack_of, lack_at, first_from, first_lack_by, IsFirstAmong}

lack_at-same : (l k : Flow → ℕ → ℕ → ℕ) (ps : List Place) (mbps t : ℕ) → ((flow : Flow) (stp : ℕ) → l flow stp t ≡ k flow stp t) → lack_at l ps mbps t ≡ lack_at k ps mbps t
unfolding lack_at
lack_at-same l k [] mbps t h = refl
lack_at-same l k (p ∷ ps) mbps t h =
    ap (λ n. cond (nat_lt p.capacity (n + mbps)) (Some (lack_of p n t)) (lack_at l ps mbps t)) (h p.flow p.stp)
    ∙ ap (cond (lacks_by k p mbps t) (Some (lack_of p (k p.flow p.stp t) t))) (lack_at-same l k ps mbps t h)

first_from-same : {X : Type 0} (f g : ℕ → Option X) (n t : ℕ) → ((s : ℕ) → f s ≡ g s) → first_from f n t ≡ first_from g n t
unfolding first_from
first_from-same f g zero t h = refl
first_from-same f g (suc n) t h = ap (λ o. or_else o (first_from f n (suc t))) (h t) ∙ ap (or_else (g t)) (first_from-same f g n (suc t) h)

-- Loads that agree at every flow, point and second have the same first lack.
pub first_lack_by-same : (l k : Flow → ℕ → ℕ → ℕ) (places : List Place) (span : Span) (mbps : ℕ) → ((flow : Flow) (stp t : ℕ) → l flow stp t ≡ k flow stp t) → first_lack_by l places span mbps ≡ first_lack_by k places span mbps
unfolding first_lack_by
first_lack_by-same l k places span mbps h =
    first_from-same (lack_at l places mbps) (lack_at k places mbps) (span.end - span.start) span.start (λ t. lack_at-same l k places mbps t (λ flow stp. h flow stp t))

-- a place of a list is the one in front or one of the rest
first_or_rest : {X : Type 0} (y : X) (ys : List X) (x : X) → Contains (y ∷ ys) x → (y ≡ x) ⊎ Contains ys x
first_or_rest y ys x h = elim (Contains-append_cases (y ∷ []) ys x h) [
  | inl a ↦ elim (Contains-push_cases [] y x a) [ inl n ↦ absurd (let lt = n.1 in omega arith) | inr e ↦ inl e ]
  | inr b ↦ inr b
]

none_of : {X : Type 0} (x : X) → Contains [] x → ⊥
none_of x h = let lt = h.1 in omega arith

room_of : (capacity load mbps : ℕ) → nat_lt capacity (load + mbps) ≡ false → load + mbps ≤ capacity
room_of capacity load mbps h = grind (arith, nat_tests)

neither_first : {X : Type 0} (b : Bool) (x : X) (o : Option X) → cond b (Some x) o ≡ None → (b ≡ false) × (o ≡ None)
neither_first true x o h = absurd (cc)
neither_first false x o h = (refl, h)

-- a place has room at a second at which none lacks
room_at : (l : Flow → ℕ → ℕ → ℕ) (ps : List Place) (mbps t : ℕ) → lack_at l ps mbps t ≡ None → (p : Place) → Contains ps p → l p.flow p.stp t + mbps ≤ p.capacity
unfolding lack_at
room_at l [] mbps t h p c = absurd (none_of p c)
room_at l (q ∷ ps) mbps t h p c =
    let both = neither_first (lacks_by l q mbps t) (lack_of q (l q.flow q.stp t) t) (lack_at l ps mbps t) h in
    let P : Place → Type 0 = λ x. l x.flow x.stp t + mbps ≤ x.capacity in
    elim (first_or_rest q ps p c) [
      | inl e ↦ subst P e (room_of q.capacity (l q.flow q.stp t) mbps both.0)
      | inr r ↦ room_at l ps mbps t both.1 p r
    ]

neither : {X : Type 0} (o p : Option X) → or_else o p ≡ None → (o ≡ None) × (p ≡ None)
neither None p h = (refl, h)
neither (Some x) p h = absurd (cc)

here_or_later : (t s : ℕ) → t ≤ s → (t ≡ s) ⊎ (suc t ≤ s)
here_or_later t s a = grind arith

none_from : {X : Type 0} (found : ℕ → Option X) (n t : ℕ) → first_from found n t ≡ None → (s : ℕ) → t ≤ s → s < t + n → found s ≡ None
unfolding first_from
none_from found zero t h s a b = absurd (omega arith)
none_from {X} found (suc n) t h s a b =
    let both = neither (found t) (first_from found n (suc t)) h in
    elim (here_or_later t s a) [
      | inl e ↦ subst (λ (r : ℕ). found r ≡ None) e both.0
      | inr l ↦ none_from found n (suc t) both.1 s l (omega arith)
    ]

bounds : (span : Span) (t : ℕ) → is_covered span t ≡ true → (span.start ≤ t) × (t < span.end)
bounds span t h = grind (arith, nat_tests)

-- Where there is no first lack, each place of the list has room at each second of the span.
pub room_where_none : (l : Flow → ℕ → ℕ → ℕ) (places : List Place) (span : Span) (mbps : ℕ) → first_lack_by l places span mbps ≡ None
    → (p : Place) → Contains places p → (t : ℕ) → is_covered span t ≡ true → l p.flow p.stp t + mbps ≤ p.capacity
unfolding first_lack_by
room_where_none l places span mbps h p c t w =
    let b = bounds span t w in
    room_at l places mbps t (none_from (lack_at l places mbps) (span.end - span.start) span.start h t b.0 (omega (arith, b.1))) p c

-- the lack at a second is of the first place that lacks there
record IsFirstAt (l : Flow → ℕ → ℕ → ℕ) (places : List Place) (mbps t : ℕ) (lack : Lack) : Type 0 where
  pub front : List Place
  pub place : Place
  pub back : List Place
  pub places_are : places ≡ front ++ place ∷ back
  pub lack_is : lack ≡ lack_of place (l place.flow place.stp t) t
  pub lacking : place.capacity < l place.flow place.stp t + mbps
  pub in_front : (p : Place) → Contains front p → l p.flow p.stp t + mbps ≤ p.capacity

lack_of_less : (capacity load mbps : ℕ) → nat_lt capacity (load + mbps) ≡ true → capacity < load + mbps
lack_of_less capacity load mbps h = grind (arith, nat_tests)

same_some : {X : Type 0} (x y : X) → Some x ≡ Some y → x ≡ y
same_some x y h = cc

first_at : (l : Flow → ℕ → ℕ → ℕ) (ps : List Place) (mbps t : ℕ) (lack : Lack) → lack_at l ps mbps t ≡ Some lack → IsFirstAt l ps mbps t lack
unfolding lack_at
first_at l [] mbps t lack h = absurd (let none : None ≡ Some lack = h in cc)
first_at l (q ∷ ps) mbps t lack h = by_test (lacks_by l q mbps t) refl h (first_at l ps mbps t lack)
  where
    here : Lack
    here = lack_of q (l q.flow q.stp t) t

    by_test : (b : Bool) → lacks_by l q mbps t ≡ b → cond b (Some here) (lack_at l ps mbps t) ≡ Some lack → (lack_at l ps mbps t ≡ Some lack → IsFirstAt l ps mbps t lack) → IsFirstAt l (q ∷ ps) mbps t lack
    by_test true e g next = record {
      front = [];
      place = q;
      back = ps;
      places_are = refl;
      lack_is = sym (same_some here lack g);
      lacking = lack_of_less q.capacity (l q.flow q.stp t) mbps e;
      in_front = λ p c. absurd (none_of p c);
    }
    by_test false e g next =
        let rest = next g in
        let P : Place → Type 0 = λ x. l x.flow x.stp t + mbps ≤ x.capacity in
        record {
          front = q ∷ rest.front;
          place = rest.place;
          back = rest.back;
          places_are = ap (λ xs. q ∷ xs) rest.places_are;
          lack_is = rest.lack_is;
          lacking = rest.lacking;
          in_front = λ p c. elim (first_or_rest q rest.front p c) [
            | inl s ↦ subst P s (room_of q.capacity (l q.flow q.stp t) mbps e)
            | inr r ↦ rest.in_front p r
          ];
        }

-- what is found first is found at a second, and nothing is found before it
record IsFoundAt {X : Type 0} (found : ℕ → Option X) (n t : ℕ) (x : X) : Type 0 where
  pub second : ℕ
  pub from : t ≤ second
  pub within : second < t + n
  pub found_is : found second ≡ Some x
  pub before : (s : ℕ) → t ≤ s → s < second → found s ≡ None

found_at : {X : Type 0} (found : ℕ → Option X) (n t : ℕ) (x : X) → first_from found n t ≡ Some x → IsFoundAt found n t x
unfolding first_from
found_at {X} found zero t x h = absurd (let none : None ≡ Some x = h in cc)
found_at {X} found (suc n) t x h = by_first (found t) refl h (found_at found n (suc t) x)
  where
    by_first : (o : Option X) → found t ≡ o → or_else o (first_from found n (suc t)) ≡ Some x → (first_from found n (suc t) ≡ Some x → IsFoundAt found n (suc t) x) → IsFoundAt found (suc n) t x
    by_first (Some y) e g next = record { second = t; from = omega arith; within = omega arith; found_is = e ∙ g; before = λ s a b. absurd (omega arith) }
    by_first None e g next =
        let later = next g in
        record {
          second = later.second;
          from = omega (arith, later.from);
          within = omega (arith, later.within);
          found_is = later.found_is;
          before = λ s a b. elim (here_or_later t s a) [
            | inl r ↦ subst (λ (u : ℕ). found u ≡ None) r e
            | inr r ↦ later.before s r b
          ];
        }

covered_at : (span : Span) (t : ℕ) → span.start ≤ t → t < span.end → is_covered span t ≡ true
covered_at span t a b = grind (arith, nat_tests)

-- A first lack is at the first second at which a place of the list lacks, and of the first such place.
pub first_where_some : (l : Flow → ℕ → ℕ → ℕ) (places : List Place) (span : Span) (mbps : ℕ) (lack : Lack) → first_lack_by l places span mbps ≡ Some lack → IsFirstAmong l places span mbps lack
unfolding first_lack_by
first_where_some l places span mbps lack h =
    let at = found_at (lack_at l places mbps) (span.end - span.start) span.start lack h in
    let second_is : lack.second ≡ at.second = ap (λ x. x.second) (first_at l places mbps at.second lack at.found_is).lack_is in
    let first = subst (λ (t : ℕ). IsFirstAt l places mbps t lack) (sym second_is) (first_at l places mbps at.second lack at.found_is) in
    record {
      front = first.front;
      place = first.place;
      back = first.back;
      places_are = first.places_are;
      lack_is = first.lack_is;
      covered = covered_at span lack.second (omega (arith, second_is, at.from)) (omega (arith, second_is, at.within));
      lacking = first.lacking;
      before = λ t a b p c. room_at l places mbps t (at.before t a (omega (arith, second_is, b))) p c;
      in_front = first.in_front;
    }
