-- How many points a walk over an interval reads.
use Rattle.std.proofs.Common.{◌≡◌, ◌≤◌, ◌<◌, ◌+◌, ◌-◌, ◌⊎◌, inl, inr, ℕ, zero, suc, List, [], ◌∷◌, map, Bool, true, false, cond, eqb, length, count_by, get_or, arith, refl, sym, ap, ◌∙◌, subst}
use Rattle.std.proofs.lemmas.Bool.Decides.{nat_tests}
use Rattle.std.proofs.lemmas.List.{get_or-map}
use Rattle.std.proofs.lemmas.List.Sums.{sum_by-cons}
use Rattle.std.specs.List.{Contains}
use Rattle.nsi_base.specs.Range.{Span}
use Rattle.nsi_base.specs.declared.flow.Flow.{Flow}
use Rattle.capacity_calendar.specs.declared.booking.Booking.{Booking}
use Rattle.capacity_calendar.specs.declared.booking.Point.{Point}
use Rattle.capacity_calendar.specs.Index.{one_if, nowhere, second_at, ends, ends_by, IsOrderly, IsCount, IsIndex}
use Rattle.capacity_calendar.specs.Steps.{ArePoints, HasHalved, IsQuick, is_inside}
use Rattle.capacity_calendar.proofs.Few.{few_points}
use Rattle.capacity_calendar.proofs.Points.{ends_of_point}

abbrev pub seconds_of : List Point → List ℕ
seconds_of ps = map (λ p. p.second) ps

length_seconds : (ps : List Point) → length (seconds_of ps) ≡ length ps
length_seconds [] = refl
length_seconds (p ∷ ps) = ap (λ n. suc n) (length_seconds ps)

second_of : (ps : List Point) (k d : ℕ) → k < length ps → get_or (seconds_of ps) k d ≡ second_at ps k
second_of ps k d lt = get_or-map (λ p. p.second) ps k nowhere d lt

-- what counts an end is a point
found_end : (ps : List Point) (t : ℕ) → 0 < ends_by ps t → (k : ℕ) × (k < length ps) × (second_at ps k ≡ t)
unfolding ends_by
found_end [] t h = absurd (omega (arith, h))
found_end (p ∷ ps) t h = by_test (eqb p.second t) refl (found_end ps t)
  where
    same : (a b : ℕ) → eqb a b ≡ true → a ≡ b
    same a b e = grind (arith, nat_tests)

    by_test : (c : Bool) → eqb p.second t ≡ c → (0 < ends_by ps t → (k : ℕ) × (k < length ps) × (second_at ps k ≡ t)) → (k : ℕ) × (k < length (p ∷ ps)) × (second_at (p ∷ ps) k ≡ t)
    by_test true e next = (0, omega arith, same p.second t e)
    by_test false e next =
        let rest = next (omega (arith, h, sum_by-cons (λ q. cond (eqb q.second t) q.ends 0) p ps, ap (λ c. cond c p.ends 0) e)) in
        (suc rest.0, omega (arith, rest.1), rest.2)

-- the seconds of an index are the points
pub are_points : (flow : Flow) (stp : ℕ) (bs : List Booking) (ps : List Point) → IsOrderly ps → IsIndex flow stp bs ps → ArePoints flow stp bs (seconds_of ps)
are_points flow stp bs ps o i = record {
  order = λ a b lt h.
      let within : b < length ps = omega (arith, h, length_seconds ps) in
      omega (arith, second_of ps a 0 (omega (arith, lt, within)), second_of ps b 0 within, o.order a b lt within);
  each = λ t. (there t, back t);
}
  where
    there : (t : ℕ) → Contains (seconds_of ps) t → 0 < ends flow stp t bs
    there t c =
        let within : c.0 < length ps = omega (arith, c.1, length_seconds ps) in
        let at : second_at ps c.0 ≡ t = sym (second_of ps c.0 t within) ∙ c.2 in
        omega (arith, ends_of_point ps c.0 within, o.used c.0 within, ap (ends_by ps) at, i.ends t)

    back : (t : ℕ) → 0 < ends flow stp t bs → Contains (seconds_of ps) t
    back t h =
        let found = found_end ps t (omega (arith, h, i.ends t)) in
        (found.0, omega (arith, found.1, length_seconds ps), second_of ps found.0 t found.1 ∙ found.2)

-- the points of some places that pass a test are no more than all that do
pub some_pass : (test : ℕ → Bool) (ps : List Point) (m n : ℕ) → n ≤ length ps → ((k : ℕ) → m ≤ k → k < n → test (second_at ps k) ≡ true) → n ≤ m + count_by test (seconds_of ps)
some_pass test [] m n le h = omega (arith, le)
some_pass test (p ∷ ps) m zero le h = omega arith
some_pass test (p ∷ ps) zero (suc n) le h =
    let rest = some_pass test ps zero n (omega (arith, le)) (λ k a b. h (suc k) (omega arith) (omega (arith, b))) in
    let own : one_if (test p.second) ≡ 1 = ap one_if (h 0 (omega arith) (omega arith)) in
    omega (arith, rest, own, sum_by-cons (λ x. cond (test x) 1 0) p.second (seconds_of ps))
some_pass test (p ∷ ps) (suc m) (suc n) le h =
    let rest = some_pass test ps m n (omega (arith, le)) (λ k a b. h (suc k) (omega (arith, a)) (omega (arith, b))) in
    omega (arith, rest, sum_by-cons (λ x. cond (test x) 1 0) p.second (seconds_of ps))

inside_is : (span : Span) (t : ℕ) → span.start < t → t < span.end → is_inside span t ≡ true
inside_is span t a b = grind (arith, nat_tests)

-- A walk over an interval has come up to a place: it searched for the first point behind the start, read the point in
-- front of it, and all from there on.
pub record HasWalked (ps : List Point) (span : Span) (place old new : ℕ) : Type 0 where
  pub first : ℕ
  pub searched : ℕ
  pub search : HasHalved (length ps) 0 old searched
  pub from : first ≤ place
  pub within : place ≤ length ps
  pub behind : (k : ℕ) → first ≤ k → k < length ps → span.start < second_at ps k
  pub before : (k : ℕ) → first ≤ k → k < place → second_at ps k < span.end
  pub steps : new ≤ searched + (place - first) + 1

pub walked_first : (ps : List Point) (span : Span) (bound m old searched new : ℕ) → IsCount ps bound m → bound ≡ span.start + 1 → HasHalved (length ps) 0 old searched → new ≤ searched + 1 → HasWalked ps span m old new
walked_first ps span bound m old searched new c e h few = record {
  first = m;
  searched = searched;
  search = h;
  from = omega arith;
  within = c.within;
  behind = λ k a lt. omega (arith, c.after k a lt, e);
  before = λ k a b. absurd (omega (arith, a, b));
  steps = omega (arith, few);
}

-- one point more
pub walked_on : (ps : List Point) (span : Span) (place old new next : ℕ) → place < length ps → second_at ps place < span.end → next ≤ new + 1 → HasWalked ps span place old new → HasWalked ps span (place + 1) old next
walked_on ps span place old new next lt inside few h = record {
  first = h.first;
  searched = h.searched;
  search = h.search;
  from = omega (arith, h.from);
  within = omega (arith, lt);
  behind = h.behind;
  before = λ k a b. elim (or k (omega (arith, b))) [ inl l ↦ h.before k a l | inr e ↦ subst (λ (j : ℕ). second_at ps j < span.end) (sym e) inside ];
  steps = omega (arith, few, h.steps, h.from);
}
  where
    or : (k : ℕ) → k ≤ place → (k < place) ⊎ (k ≡ place)
    or k le = grind arith

-- So a walk is quick, also with one point that ends it.
pub walk_is_quick : (flow : Flow) (stp : ℕ) (bs : List Booking) (ps : List Point) (span : Span) (place old now new : ℕ) → IsOrderly ps → IsIndex flow stp bs ps → HasWalked ps span place old now → new ≤ now + 1 → IsQuick flow stp bs span old new
walk_is_quick flow stp bs ps span place old now new o i h few = record {
  seconds = seconds_of ps;
  points = are_points flow stp bs ps o i;
  few = omega (arith, length_seconds ps, few_points flow stp bs ps o i);
  halvings = h.search.halvings;
  halves = omega (arith, h.search.halves, length_seconds ps);
  steps = omega (
    arith,
    few,
    h.steps,
    h.from,
    h.search.steps,
    some_pass (is_inside span) ps h.first place h.within (λ k a b. inside_is span (second_at ps k) (h.behind k a (omega (arith, b, h.within))) (h.before k a b)),
  );
}
