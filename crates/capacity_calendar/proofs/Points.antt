-- What is done to the points of an index.
use Rattle.std.proofs.Common.{◌≡◌, ◌≢◌, ◌≤◌, ◌<◌, ◌+◌, ◌-◌, ◌⊎◌, inl, inr, ℕ, List, Bool, true, false, cond, eqb, length, set, arith, refl, sym, ap, ◌∙◌, subst}
use Rattle.std.specs.List.{insert, remove}
use Rattle.std.proofs.lemmas.Bool.Decides.{nat_tests}
use Rattle.std.proofs.lemmas.List.{length-set, get_or-set_same, get_or-set_other}
use Rattle.std.proofs.lemmas.List.Edits.{length-insert, length-remove, get_or-insert_below, get_or-insert_at, get_or-insert_above, get_or-remove_below, get_or-remove_above}
use Rattle.std.proofs.lemmas.List.Sums.{sum_by-set, sum_by-insert, sum_by-remove, get_or-le-sum_by}
use Rattle.nsi_base.specs.Range.{Span, is_covered}
use Rattle.nsi_base.specs.declared.flow.Flow.{Flow}
use Rattle.capacity_calendar.specs.declared.booking.Booking.{Booking}
use Rattle.capacity_calendar.specs.declared.booking.Point.{Point}
use Rattle.capacity_calendar.specs.Load.{claim}
use Rattle.capacity_calendar.specs.Index.{one_if, nowhere, point_at, second_at, ends_by, IsOrderly, IsCount, AreLoads, Tells, IsRestated, restated}
use Rattle.capacity_calendar.proofs.Steady.{no_ends}

same_is : (n : ℕ) → eqb n n ≡ true
same_is n = grind (arith, nat_tests)

---- Ends

more_by : (c : Bool) (e : ℕ) → cond c (e + 1) 0 ≡ cond c e 0 + one_if c
more_by true e = refl
more_by false e = refl

less_by : (c : Bool) (e : ℕ) → 0 < e → cond c (e - 1) 0 + one_if c ≡ cond c e 0
less_by true e h = omega (arith, h)
less_by false e h = refl

pub ends_more : (ps : List Point) (k u : ℕ) → k < length ps → let p = point_at ps k in ends_by (set ps k (record p { ends = p.ends + 1 })) u ≡ ends_by ps u + one_if (eqb p.second u)
unfolding ends_by
ends_more ps k u lt =
    let p = point_at ps k in
    omega (arith, sum_by-set (λ q. cond (eqb q.second u) q.ends 0) ps k (record p { ends = p.ends + 1 }) nowhere lt, more_by (eqb p.second u) p.ends)

pub ends_less : (ps : List Point) (k u : ℕ) → k < length ps → 0 < (point_at ps k).ends → let p = point_at ps k in ends_by (set ps k (record p { ends = p.ends - 1 })) u + one_if (eqb p.second u) ≡ ends_by ps u
unfolding ends_by
ends_less ps k u lt some =
    let p = point_at ps k in
    omega (arith, sum_by-set (λ q. cond (eqb q.second u) q.ends 0) ps k (record p { ends = p.ends - 1 }) nowhere lt, less_by (eqb p.second u) p.ends some)

pub ends_kept : (ps : List Point) (k u : ℕ) (y : Point) → k < length ps → y.second ≡ second_at ps k → y.ends ≡ (point_at ps k).ends → ends_by (set ps k y) u ≡ ends_by ps u
unfolding ends_by
ends_kept ps k u y lt e n =
    omega (
      arith,
      sum_by-set (λ q. cond (eqb q.second u) q.ends 0) ps k y nowhere lt,
      ap (λ s. cond (eqb s u) y.ends 0) e,
      ap (λ m. cond (eqb (second_at ps k) u) m 0) n,
    )

pub ends_entered : (ps : List Point) (k u s l : ℕ) → ends_by (insert ps k (record { second = s; load = l; ends = 1 })) u ≡ ends_by ps u + one_if (eqb s u)
unfolding ends_by
ends_entered ps k u s l = sum_by-insert (λ q. cond (eqb q.second u) q.ends 0) ps k (record { second = s; load = l; ends = 1 })

pub ends_removed : (ps : List Point) (k u : ℕ) → k < length ps → (point_at ps k).ends ≡ 1 → ends_by (remove ps k) u + one_if (eqb (second_at ps k) u) ≡ ends_by ps u
unfolding ends_by
ends_removed ps k u lt one = omega (arith, sum_by-remove (λ q. cond (eqb q.second u) q.ends 0) ps k nowhere lt, ap (λ n. cond (eqb (second_at ps k) u) n 0) one)

pub ends_of_point : (ps : List Point) (k : ℕ) → k < length ps → (point_at ps k).ends ≤ ends_by ps (second_at ps k)
unfolding ends_by
ends_of_point ps k lt =
    let s = second_at ps k in
    omega (arith, get_or-le-sum_by (λ q. cond (eqb q.second s) q.ends 0) ps k nowhere lt, ap (λ c. cond c (point_at ps k).ends 0) (same_is s))

---- Which point stands where

-- at another place than the one that was set
or_other : (i j : ℕ) → (i ≡ j) ⊎ (i ≢ j)
or_other i j = grind arith

below_or_not : (i j : ℕ) → (i < j) ⊎ (j ≤ i)
below_or_not i j = grind arith

same_or_above : (i j : ℕ) → i ≤ j → (i ≡ j) ⊎ (i < j)
same_or_above i j h = grind arith

pub set_elsewhere : (ps : List Point) (k j : ℕ) (y : Point) → j ≢ k → point_at (set ps k y) j ≡ point_at ps j
set_elsewhere ps k j y n = get_or-set_other ps k j y nowhere n

-- a property of each point that holds of the one that is set
pub each_set : (P : ℕ → Point → Type 0) (ps : List Point) (k : ℕ) (y : Point) → k < length ps → P k y → ((j : ℕ) → j < length ps → P j (point_at ps j)) → (j : ℕ) → j < length (set ps k y) → P j (point_at (set ps k y) j)
each_set P ps k y lt own all j h = elim (or_other j k) [
  | inl e ↦ subst (λ (i : ℕ). P i (point_at (set ps k y) i)) (sym e) (subst (λ (q : Point). P k q) (sym (get_or-set_same ps k y nowhere lt)) own)
  | inr n ↦ subst (λ (q : Point). P j q) (sym (set_elsewhere ps k j y n)) (all j (omega (arith, h, length-set ps k y)))
]

-- the same seconds, and something at each
pub orderly_same : (ps qs : List Point) → length qs ≡ length ps → ((k : ℕ) → k < length ps → second_at qs k ≡ second_at ps k) → ((k : ℕ) → k < length ps → 0 < (point_at qs k).ends) → IsOrderly ps → IsOrderly qs
orderly_same ps qs len same used o = record {
  order = λ i j lt h. omega (arith, o.order i j lt (omega (arith, h, len)), same i (omega (arith, h, len)), same j (omega (arith, h, len)));
  used = λ k h. used k (omega (arith, h, len));
}

pub orderly_set : (ps : List Point) (k : ℕ) (y : Point) → k < length ps → y.second ≡ second_at ps k → 0 < y.ends → IsOrderly ps → IsOrderly (set ps k y)
orderly_set ps k y lt e some o =
    let len = length-set ps k y in
    orderly_same ps (set ps k y) len (λ j h. each_set (λ i q. q.second ≡ second_at ps i) ps k y lt e (λ i g. refl) j (omega (arith, h, len)))
    (λ j h. each_set (λ i q. 0 < q.ends) ps k y lt some o.used j (omega (arith, h, len))) o

pub loads_set : (f : ℕ → ℕ) (ps : List Point) (k : ℕ) (y : Point) → k < length ps → y.load ≡ (point_at ps k).load → y.second ≡ second_at ps k → AreLoads f ps → AreLoads f (set ps k y)
unfolding AreLoads
loads_set f ps k y lt l e h = each_set (λ i q. q.load ≡ f q.second) ps k y lt (l ∙ h k lt ∙ ap f (sym e)) h

-- where a point was entered
each_entered : (P : Point → Type 0) (ps : List Point) (n : ℕ) (x : Point) → n ≤ length ps → P x → ((j : ℕ) → j < length ps → P (point_at ps j)) → (j : ℕ) → j < length (insert ps n x) → P (point_at (insert ps n x) j)
each_entered P ps n x le own all j h = elim (below_or_not j n) [
  | inl b ↦ subst P (sym (get_or-insert_below ps n x nowhere j b le)) (all j (omega (arith, b, le)))
  | inr a ↦ elim (same_or_above n j a) [
    | inl e ↦ subst (λ (i : ℕ). P (point_at (insert ps n x) i)) e (subst P (sym (get_or-insert_at ps n x nowhere le)) own)
    | inr g ↦
        let back : (j - 1) + 1 ≡ j = omega (arith, g) in
        subst (λ (i : ℕ). P (point_at (insert ps n x) i)) back
        (subst P (sym (get_or-insert_above ps n x nowhere (j - 1) (omega (arith, g)) le)) (all (j - 1) (omega (arith, g, h, length-insert ps n x le))))
  ]
]

pub loads_entered : (f : ℕ → ℕ) (ps : List Point) (n : ℕ) (x : Point) → n ≤ length ps → x.load ≡ f x.second → AreLoads f ps → AreLoads f (insert ps n x)
unfolding AreLoads
loads_entered f ps n x le e h = each_entered (λ q. q.load ≡ f q.second) ps n x le e h

-- the seconds before and behind a point that was entered
second_below : (ps : List Point) (n : ℕ) (x : Point) (j : ℕ) → n ≤ length ps → j < n → second_at (insert ps n x) j ≡ second_at ps j
second_below ps n x j le b = ap (λ q. q.second) (get_or-insert_below ps n x nowhere j b le)

second_here : (ps : List Point) (n : ℕ) (x : Point) → n ≤ length ps → second_at (insert ps n x) n ≡ x.second
second_here ps n x le = ap (λ q. q.second) (get_or-insert_at ps n x nowhere le)

second_above : (ps : List Point) (n : ℕ) (x : Point) (j : ℕ) → n ≤ length ps → n < j → second_at (insert ps n x) j ≡ second_at ps (j - 1)
second_above ps n x j le g =
    let back : j ≡ (j - 1) + 1 = omega (arith, g) in
    ap (second_at (insert ps n x)) back ∙ ap (λ q. q.second) (get_or-insert_above ps n x nowhere (j - 1) (omega (arith, g)) le)

pub orderly_entered : (ps : List Point) (n : ℕ) (x : Point) → IsOrderly ps → IsCount ps x.second n → (n < length ps → second_at ps n ≢ x.second) → 0 < x.ends → IsOrderly (insert ps n x)
orderly_entered ps n x o c apart some = record {
  order = rising;
  used = each_entered (λ q. 0 < q.ends) ps n x c.within some o.used;
}
  where
    le : n ≤ length ps
    le = c.within

    -- those behind come later
    later : (j : ℕ) → n ≤ j → j < length ps → x.second < second_at ps j
    later j a h = elim (same_or_above n j a) [
      | inl e ↦ subst (λ (i : ℕ). x.second < second_at ps i) e (strictly (second_at ps n) x.second (c.after n (omega arith) (omega (arith, e, h))) (apart (omega (arith, e, h))))
      | inr g ↦ omega (arith, o.order n j g h, c.after n (omega arith) (omega (arith, g, h)))
    ]
      where
        strictly : (a b : ℕ) → b ≤ a → a ≢ b → b < a
        strictly a b h m = grind arith

    rising : (i j : ℕ) → i < j → j < length (insert ps n x) → second_at (insert ps n x) i < second_at (insert ps n x) j
    rising i j lt h =
        let long = length-insert ps n x le in
        elim (below_or_not j n) [
          | inl b ↦ omega (arith, second_below ps n x i le (omega (arith, lt, b)), second_below ps n x j le b, o.order i j lt (omega (arith, b, le)))
          | inr a ↦ elim (same_or_above n j a) [
            | inl e ↦
                let at : second_at (insert ps n x) j ≡ x.second = ap (second_at (insert ps n x)) (sym e) ∙ second_here ps n x le in
                omega (arith, second_below ps n x i le (omega (arith, lt, e)), at, c.before i (omega (arith, lt, e)))
            | inr g ↦
                let at = second_above ps n x j le g in
                elim (below_or_not i n) [
                  | inl b ↦ omega (arith, second_below ps n x i le b, at, c.before i b, later (j - 1) (omega (arith, g)) (omega (arith, g, h, long)))
                  | inr m ↦ elim (same_or_above n i m) [
                    | inl e ↦
                        let here : second_at (insert ps n x) i ≡ x.second = ap (second_at (insert ps n x)) (sym e) ∙ second_here ps n x le in
                        omega (arith, here, at, later (j - 1) (omega (arith, g)) (omega (arith, g, h, long)))
                    | inr f ↦ omega (arith, second_above ps n x i le f, at, o.order (i - 1) (j - 1) (omega (arith, f, lt)) (omega (arith, g, h, long)))
                  ]
                ]
          ]
        ]

-- where a point was removed
each_removed : (P : Point → Type 0) (ps : List Point) (n : ℕ) → n < length ps → ((j : ℕ) → j < length ps → P (point_at ps j)) → (j : ℕ) → j < length (remove ps n) → P (point_at (remove ps n) j)
each_removed P ps n lt all j h = elim (below_or_not j n) [
  | inl b ↦ subst P (sym (get_or-remove_below ps n nowhere j b lt)) (all j (omega (arith, b, lt)))
  | inr a ↦ subst P (sym (get_or-remove_above ps n nowhere j a lt)) (all (j + 1) (omega (arith, h, length-remove ps n lt)))
]

pub loads_removed : (f : ℕ → ℕ) (ps : List Point) (n : ℕ) → n < length ps → AreLoads f ps → AreLoads f (remove ps n)
unfolding AreLoads
loads_removed f ps n lt h = each_removed (λ q. q.load ≡ f q.second) ps n lt h

pub orderly_removed : (ps : List Point) (n : ℕ) → n < length ps → IsOrderly ps → IsOrderly (remove ps n)
orderly_removed ps n lt o = record {
  order = rising;
  used = each_removed (λ q. 0 < q.ends) ps n lt o.used;
}
  where
    below : (j : ℕ) → j < n → second_at (remove ps n) j ≡ second_at ps j
    below j b = ap (λ q. q.second) (get_or-remove_below ps n nowhere j b lt)

    above : (j : ℕ) → n ≤ j → second_at (remove ps n) j ≡ second_at ps (j + 1)
    above j a = ap (λ q. q.second) (get_or-remove_above ps n nowhere j a lt)

    rising : (i j : ℕ) → i < j → j < length (remove ps n) → second_at (remove ps n) i < second_at (remove ps n) j
    rising i j l h =
        let short = length-remove ps n lt in
        elim (below_or_not j n) [
          | inl b ↦ omega (arith, below i (omega (arith, l, b)), below j b, o.order i j l (omega (arith, b, lt)))
          | inr a ↦ elim (below_or_not i n) [
            | inl b ↦ omega (arith, below i b, above j a, o.order i (j + 1) (omega (arith, l)) (omega (arith, h, short)))
            | inr m ↦ omega (arith, above i m, above j a, o.order (i + 1) (j + 1) (omega (arith, l)) (omega (arith, h, short)))
          ]
        ]

-- What is told still is, where no end is lost.
pub tells_more : (f : ℕ → ℕ) (ps qs : List Point) → AreLoads f qs → ((u : ℕ) → ends_by ps u ≤ ends_by qs u) → Tells f ps → Tells f qs
tells_more f ps qs loads more h = record {
  loads = loads;
  lasts = λ s t le none. h.lasts s t le (λ u a b. omega (arith, more u, none u a b));
  nothing = λ t none. h.nothing t (λ u a. omega (arith, more u, none u a));
}

-- As many come up to a second as come before it, where there is no point at it.
pub count_above : (ps : List Point) (t n : ℕ) → IsOrderly ps → IsCount ps t n → (n < length ps → second_at ps n ≢ t) → IsCount ps (t + 1) n
count_above ps t n o c apart = record {
  within = c.within;
  before = λ k lt. omega (arith, c.before k lt);
  after = λ k a h. elim (same_or_above n k a) [
    | inl e ↦ subst (λ (i : ℕ). t + 1 ≤ second_at ps i) e (strictly (second_at ps n) t (c.after n (omega arith) (omega (arith, e, h))) (apart (omega (arith, e, h))))
    | inr g ↦ omega (arith, o.order n k g h, c.after n (omega arith) (omega (arith, g, h)))
  ];
}
  where
    strictly : (a b : ℕ) → b ≤ a → a ≢ b → b + 1 ≤ a
    strictly a b h m = grind arith

-- and then no end is counted there
pub none_at : (ps : List Point) (t n : ℕ) → IsOrderly ps → IsCount ps t n → (n < length ps → second_at ps n ≢ t) → ends_by ps t ≡ 0
none_at ps t n o c apart =
    let up = count_above ps t n o c apart in
    no_ends ps t (λ k lt e. elim (below_or_not k n) [ inl b ↦ absurd (omega (arith, c.before k b, e)) | inr a ↦ absurd (omega (arith, up.after k a lt, e)) ])

---- Loads that are stated anew

-- one place more
pub restated_more : (flow : Flow) (stp : ℕ) (before after : Booking) (from k : ℕ) (old new : List Point) → from ≤ k → k < length old → IsRestated flow stp before after from k old new
    → IsRestated flow stp before after from (k + 1) old (set new k (restated flow stp before after (point_at new k)))
restated_more flow stp before after from k old new le lt h = record {
  length_is = length-set new k now ∙ h.length_is;
  inside = λ j a b. elim (or_other j k) [
    | inl e ↦ subst (λ (i : ℕ). point_at (set new k now) i ≡ restated flow stp before after (point_at old i)) (sym e) (get_or-set_same new k now nowhere within ∙ ap (restated flow stp before after) (h.outside k (inr (omega arith))))
    | inr n ↦ set_elsewhere new k j now n ∙ h.inside j a (strictly j k (omega arith) n)
  ];
  outside = λ j out. set_elsewhere new k j now (apart j out) ∙ h.outside j (still j out);
}
  where
    now : Point
    now = restated flow stp before after (point_at new k)

    within : k < length new
    within = omega (arith, lt, h.length_is)

    strictly : (i j : ℕ) → i < j + 1 → i ≢ j → i < j
    strictly i j a n = grind arith

    apart : (j : ℕ) → (j < from) ⊎ (k + 1 ≤ j) → j ≢ k
    apart j (inl a) e = absurd (omega (arith, a, e, le))
    apart j (inr a) e = absurd (omega (arith, a, e))

    still : (j : ℕ) → (j < from) ⊎ (k + 1 ≤ j) → (j < from) ⊎ (k ≤ j)
    still j (inl a) = inl a
    still j (inr a) = inr (omega (arith, a))

unchanged : (flow : Flow) (stp : ℕ) (before after : Booking) (p : Point) → claim flow stp p.second before ≡ claim flow stp p.second after → claim flow stp p.second before ≤ p.load → restated flow stp before after p ≡ p
unchanged flow stp before after p e le = ap (λ l. record p { load = l }) (same (claim flow stp p.second before) (claim flow stp p.second after) p.load e le)
  where
    same : (a b l : ℕ) → a ≡ b → a ≤ l → (l - a) + b ≡ l
    same a b l e le = omega (arith, e, le)

-- Where a record claims the same beside an interval, all points are stated anew.
pub restated_all : (flow : Flow) (stp : ℕ) (before after : Booking) (span : Span) (from to : ℕ) (old new : List Point) → IsCount old span.start from → IsCount old span.end to
    → ((t : ℕ) → is_covered span t ≡ false → claim flow stp t before ≡ claim flow stp t after) → ((k : ℕ) → k < length old → claim flow stp (second_at old k) before ≤ (point_at old k).load)
    → IsRestated flow stp before after from to old new → (k : ℕ) → k < length old → point_at new k ≡ restated flow stp before after (point_at old k)
restated_all flow stp before after span from to old new a b same least h k lt = elim (below_or_not k from) [
  | inl l ↦ beside (h.outside k (inl l)) (early (a.before k l))
  | inr m ↦ elim (below_or_not k to) [ inl l ↦ h.inside k m l | inr g ↦ beside (h.outside k (inr g)) (late (b.after k g lt)) ]
]
  where
    t : ℕ
    t = second_at old k

    early : t < span.start → is_covered span t ≡ false
    early e = grind (arith, nat_tests)

    late : span.end ≤ t → is_covered span t ≡ false
    late e = grind (arith, nat_tests)

    beside : point_at new k ≡ point_at old k → is_covered span t ≡ false → point_at new k ≡ restated flow stp before after (point_at old k)
    beside e out = e ∙ sym (unchanged flow stp before after (point_at old k) (same t out) (least k lt))

-- no place before a start comes behind one before the end
pub counts_rise : (ps : List Point) (s t a b : ℕ) → s < t → IsCount ps s a → IsCount ps t b → a ≤ b
counts_rise ps s t a b lt x y = elim (below_or_not b a) [ inl l ↦ absurd (omega (arith, x.before b l, y.after b (omega arith) (omega (arith, l, x.within)), lt)) | inr g ↦ g ]

pub orderly_restated : (flow : Flow) (stp : ℕ) (before after : Booking) (from to : ℕ) (old new : List Point) → IsRestated flow stp before after from to old new → IsOrderly old → IsOrderly new
orderly_restated flow stp before after from to old new h o =
    orderly_same old new h.length_is (λ k lt. kept ℕ (λ p. p.second) (λ p. refl) k) (λ k lt. omega (arith, kept ℕ (λ p. p.ends) (λ p. refl) k, o.used k lt)) o
  where
    kept : (X : Type 0) (f : Point → X) → ((p : Point) → f (restated flow stp before after p) ≡ f p) → (k : ℕ) → f (point_at new k) ≡ f (point_at old k)
    kept X f same k = elim (below_or_not k from) [
      | inl l ↦ ap f (h.outside k (inl l))
      | inr m ↦ elim (below_or_not k to) [ inl l ↦ ap f (h.inside k m l) ∙ same (point_at old k) | inr g ↦ ap f (h.outside k (inr g)) ]
    ]
