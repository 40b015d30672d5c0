-- Rounds come to an end.
use Rattle.std.proofs.Common.{ℕ, zero, suc, ◌+◌, ◌-◌, ◌*◌, ◌<◌, ◌≤◌, ◌≡◌, true, false, cond, max, List, [], ◌∷◌, inl, inr, refl, sym, ap, ◌∙◌, subst, arith, length, length-append, le_trans, zero-le, suc-mul}
use Rattle.std.proofs.lemmas.Bool.{cases_Bool}
use Rattle.nsi_primitive.specs.declared.entry.Event.{Event}
use Rattle.agent_node.specs.Doors.{Door}
use Rattle.nsi_play.specs.Play.{Played, behind, settles}
use Rattle.nsi_play.specs.Rounds.{Net, Homes, round, events_of, emptied, all_quiet}
use Rattle.nsi_play.proofs.Settling.{behind_twice, settle_quiet, settle_more, settle_stop}
use Rattle.quiet_rounds.specs.Bounded.{IsBounded}
use Rattle.quiet_rounds.specs.Enough.{more_where, enough}
use Rattle.quiet_rounds.specs.Left.{last_queued, last_come, queued, come, greatest_at, greatest, weight, left}
use Rattle.quiet_rounds.specs.Laws.{TellingLeaves, LeftIsFew, RoundsEnd, EndsOrPasses, EnoughRounds, EnoughIsFew}
use Rattle.quiet_rounds.proofs.Bounding.{round_bounded}
use Rattle.quiet_rounds.proofs.Falling.{any_few, left_falls}
use Rattle.quiet_rounds.proofs.Greatest.{covers, least}
use Rattle.quiet_rounds.proofs.Parcels.{last_few}
use Rattle.quiet_rounds.proofs.Staying.{told_bounded}

---- What is left

told_greatest : (f : Door → ℕ) (net : Net) → greatest f (emptied net) ≡ greatest f net
told_greatest f [] = refl
told_greatest f (s ∷ ss) = ap (max (greatest_at f s.doors)) (told_greatest f ss)

pub telling_leaves : TellingLeaves
telling_leaves net =
    ap (λ n. weight n (greatest last_come (emptied net)) (greatest queued (emptied net)) (greatest come (emptied net))) (told_greatest last_queued net)
    ∙ (ap (λ n. weight (greatest last_queued net) n (greatest queued (emptied net)) (greatest come (emptied net))) (told_greatest last_come net)
    ∙ (ap (λ n. weight (greatest last_queued net) (greatest last_come net) n (greatest come (emptied net))) (told_greatest queued net)
    ∙ ap (λ n. weight (greatest last_queued net) (greatest last_come net) (greatest queued net) n) (told_greatest come net)))

-- the last message stands within its queue
last_within : (net : Net) → greatest last_queued net ≤ greatest queued net
last_within net = least last_queued (greatest queued net) net (λ i s lt k d inside. le_trans (last_few _) (covers queued net i s lt k d inside))

pub left_is_few : LeftIsFew
left_is_few net =
    let a = last_within net in
    let b = any_few (greatest last_come net) in
    let c = any_few (greatest come net) in
    omega (arith, a, b, c)

---- Rounds in parts

-- on with it, where it isn't over
abbrev unless_over : Played → (Net → Played) → Played
unless_over p rest = cond p.is_over p (behind p.events (rest p.net))

unless_yes : (p : Played) (rest : Net → Played) → p.is_over ≡ true → unless_over p rest ≡ p
unless_yes p rest e = ap (λ b. cond b p (behind p.events (rest p.net))) e

unless_no : (p : Played) (rest : Net → Played) → p.is_over ≡ false → unless_over p rest ≡ behind p.events (rest p.net)
unless_no p rest e = ap (λ b. cond b p (behind p.events (rest p.net))) e

unless_behind : (es : List Event) (p : Played) (rest : Net → Played) → behind es (unless_over p rest) ≡ unless_over (behind es p) rest
unless_behind es p rest = elim (cases_Bool p.is_over) [
  | inl o ↦ ap (behind es) (unless_yes p rest o) ∙ sym (unless_yes (behind es p) rest o)
  | inr o ↦ ap (behind es) (unless_no p rest o) ∙ (behind_twice es p.events (rest p.net) ∙ sym (unless_no (behind es p) rest o))
]

pub in_parts : (a b : ℕ) (homes : Homes) (x : Net) → settles (a + b) homes x ≡ unless_over (settles a homes x) (settles b homes)
in_parts zero b homes x = elim (cases_Bool (all_quiet homes x)) [
  | inl q ↦ settle_quiet (0 + b) homes x q ∙ sym (ap (λ (p : Played). unless_over p (settles b homes)) (settle_quiet 0 homes x q))
  | inr q ↦ ap (λ n. settles n homes x) (let e : 0 + b ≡ b = omega arith in e) ∙ sym (ap (λ (p : Played). unless_over p (settles b homes)) (settle_stop homes x q))
]
in_parts (suc a) b homes x = elim (cases_Bool (all_quiet homes x)) [
  | inl q ↦ settle_quiet (suc a + b) homes x q ∙ sym (ap (λ (p : Played). unless_over p (settles b homes)) (settle_quiet (suc a) homes x q))
  | inr q ↦
      let es : List Event = events_of (round homes x) in
      let z : Net = emptied (round homes x) in
      ap (λ n. settles n homes x) (let e : suc a + b ≡ suc (a + b) = omega arith in e)
      ∙ (settle_more (a + b) homes x q
      ∙ (ap (behind es) (in_parts a b homes z)
      ∙ (unless_behind es (settles a homes z) (settles b homes) ∙ sym (ap (λ (p : Played). unless_over p (settles b homes)) (settle_more a homes x q)))))
]

pub parts_over : (a b : ℕ) (homes : Homes) (x : Net) → (settles a homes x).is_over ≡ true → settles (a + b) homes x ≡ settles a homes x
parts_over a b homes x o = in_parts a b homes x ∙ unless_yes (settles a homes x) (settles b homes) o

pub parts_on : (a b : ℕ) (homes : Homes) (x : Net) → (settles a homes x).is_over ≡ false → settles (a + b) homes x ≡ behind (settles a homes x).events (settles b homes (settles a homes x).net)
parts_on a b homes x o = in_parts a b homes x ∙ unless_no (settles a homes x) (settles b homes) o

pub parts_longer : (a b : ℕ) (homes : Homes) (x : Net) → length (settles a homes x).events ≤ length (settles (a + b) homes x).events
parts_longer a b homes x = elim (cases_Bool (settles a homes x).is_over) [
  | inl o ↦ omega (arith, ap (λ (p : Played). length p.events) (parts_over a b homes x o))
  | inr o ↦ omega (
    arith,
    ap (λ (p : Played). length p.events) (parts_on a b homes x o),
    length-append (settles a homes x).events (settles b homes (settles a homes x).net).events,
  )
]

---- They end

pub settles_bounded : (most : ℕ) (homes : Homes) (x : Net) → IsBounded x → IsBounded (settles most homes x).net
settles_bounded zero homes x h = elim (cases_Bool (all_quiet homes x)) [
  | inl q ↦ subst (λ (p : Played). IsBounded p.net) (sym (settle_quiet 0 homes x q)) h
  | inr q ↦ subst (λ (p : Played). IsBounded p.net) (sym (settle_stop homes x q)) h
]
settles_bounded (suc most) homes x h = elim (cases_Bool (all_quiet homes x)) [
  | inl q ↦ subst (λ (p : Played). IsBounded p.net) (sym (settle_quiet (suc most) homes x q)) h
  | inr q ↦
      subst (λ (p : Played). IsBounded p.net) (sym (settle_more most homes x q))
      (settles_bounded most homes (emptied (round homes x)) (told_bounded (round homes x) (round_bounded homes x h)))
]

-- what comes behind other events
pub ends_behind : (limit : ℕ) (es : List Event) (p : Played) → EndsOrPasses limit p → EndsOrPasses limit (behind es p)
ends_behind limit es p (inl o) = inl o
ends_behind limit es p (inr m) = inr (omega (arith, m, length-append es p.events))

happens : (es : List Event) (p : Played) → (es ≡ [] → EndsOrPasses 0 p) → EndsOrPasses 0 (behind es p)
happens [] p h = ends_behind 0 [] p (h refl)
happens (x ∷ es) p h = inr (omega arith)

pub rounds_end : RoundsEnd
rounds_end homes net zero h few = absurd (omega (arith, few))
rounds_end homes net (suc most) h few = elim (cases_Bool (all_quiet homes net)) [
  | inl q ↦ inl (ap (λ (p : Played). p.is_over) (settle_quiet (suc most) homes net q))
  | inr q ↦
      let r : Net = round homes net in
      subst (EndsOrPasses 0) (sym (settle_more most homes net q))
      (happens (events_of r) (settles most homes (emptied r))
      (λ none. rounds_end homes (emptied r) most (told_bounded r (round_bounded homes net h))
      (let fell = left_falls homes net h q none in
      let same = telling_leaves r in
      omega (arith, fell, same, few))))
]

---- Enough of them

more_over : (p : Played) (rest : Net → ℕ) → p.is_over ≡ true → more_where p rest ≡ 0
more_over p rest e = ap (λ b. cond b 0 (rest p.net)) e

more_on : (p : Played) (rest : Net → ℕ) → p.is_over ≡ false → more_where p rest ≡ rest p.net
more_on p rest e = ap (λ b. cond b 0 (rest p.net)) e

-- the first rounds of enough
abbrev first_rounds : Homes → Net → Played
first_rounds homes net = settles (left net + 1) homes net

enough_none : (homes : Homes) (net : Net) → enough 0 homes net ≡ left net + 1
unfolding enough
enough_none homes net = refl

enough_more : (limit : ℕ) (homes : Homes) (net : Net) → enough (suc limit) homes net ≡ left net + 1 + more_where (first_rounds homes net) (enough limit homes)
unfolding enough
enough_more limit homes net = refl

-- something has happened in the first rounds, and enough in those behind them
passes_more : (limit : ℕ) (es : List Event) (p : Played) → 0 < length es → EndsOrPasses limit p → EndsOrPasses (suc limit) (behind es p)
passes_more limit es p some (inl o) = inl o
passes_more limit es p some (inr m) = inr (omega (arith, some, m, length-append es p.events))

some_happens : (p : Played) → EndsOrPasses 0 p → p.is_over ≡ false → 0 < length p.events
some_happens p (inl o) q = absurd (let e : true ≡ false = sym o ∙ q in cc)
some_happens p (inr m) q = m

pub ends_at_enough : (limit : ℕ) (homes : Homes) (net : Net) → IsBounded net → EndsOrPasses limit (settles (enough limit homes net) homes net)
ends_at_enough zero homes net h =
    subst (λ n. EndsOrPasses 0 (settles n homes net)) (sym (enough_none homes net)) (rounds_end homes net (left net + 1) h (omega arith))
ends_at_enough (suc limit) homes net h =
    let n : ℕ = left net + 1 in
    let p : Played = first_rounds homes net in
    let m : ℕ = more_where p (enough limit homes) in
    subst (λ k. EndsOrPasses (suc limit) (settles k homes net)) (sym (enough_more limit homes net)) (elim (cases_Bool p.is_over) [
      | inl o ↦ inl (ap (λ (z : Played). z.is_over) (parts_over n m homes net o) ∙ o)
      | inr o ↦
          subst (EndsOrPasses (suc limit)) (sym (parts_on n m homes net o))
          (passes_more limit p.events (settles m homes p.net) (some_happens p (rounds_end homes net n h (omega arith)) o)
          (subst (λ k. EndsOrPasses limit (settles k homes p.net)) (sym (more_on p (enough limit homes) o)) (ends_at_enough limit homes p.net (settles_bounded n homes net h))))
    ])

ends_later : (limit a b : ℕ) (homes : Homes) (net : Net) → EndsOrPasses limit (settles a homes net) → EndsOrPasses limit (settles (a + b) homes net)
ends_later limit a b homes net (inl o) = inl (ap (λ (p : Played). p.is_over) (parts_over a b homes net o) ∙ o)
ends_later limit a b homes net (inr m) = inr (omega (arith, m, parts_longer a b homes net))

pub enough_rounds : EnoughRounds
enough_rounds limit homes net most h more =
    let n : ℕ = enough limit homes net in
    subst (λ k. EndsOrPasses limit (settles k homes net)) (let e : n + (most - n) ≡ most = omega (arith, more) in e)
    (ends_later limit n (most - n) homes net (ends_at_enough limit homes net h))

---- No more than so many

-- before any round
none_left : (homes : Homes) (net : Net) → left (settles 0 homes net).net ≡ left net
none_left homes net = elim (cases_Bool (all_quiet homes net)) [
  | inl q ↦ ap (λ (p : Played). left p.net) (settle_quiet 0 homes net q)
  | inr q ↦ ap (λ (p : Played). left p.net) (settle_stop homes net q)
]

one_row : (limit bound : ℕ) → (suc limit + 1) * (bound + 1) ≡ (limit + 1) * (bound + 1) + (bound + 1)
one_row limit bound = ap (λ j. j * (bound + 1)) (let e : suc limit + 1 ≡ suc (limit + 1) = omega arith in e) ∙ suc-mul (limit + 1) (bound + 1)

pub enough_is_few : EnoughIsFew
enough_is_few zero bound homes net h =
    let a = h 0 in
    let b = none_left homes net in
    let c = enough_none homes net in
    omega (arith, a, b, c)
enough_is_few (suc limit) bound homes net h =
    let n : ℕ = left net + 1 in
    let p : Played = first_rounds homes net in
    let a = h 0 in
    let b = none_left homes net in
    let c = enough_more limit homes net in
    let more : more_where p (enough limit homes) ≤ (limit + 1) * (bound + 1) = elim (cases_Bool p.is_over) [
      | inl o ↦ subst (λ k. k ≤ (limit + 1) * (bound + 1)) (sym (more_over p (enough limit homes) o)) zero-le
      | inr o ↦ subst (λ k. k ≤ (limit + 1) * (bound + 1)) (sym (more_on p (enough limit homes) o))
          (enough_is_few limit bound homes p.net (λ most. subst (λ k. k ≤ bound) (ap (λ (z : Played). left z.net) (parts_on n most homes net o)) (h (n + most))))
    ] in
    let product : (suc limit + 1) * (bound + 1) ≡ (limit + 1) * (bound + 1) + (bound + 1) = one_row limit bound in
    omega (arith, a, b, c, more, product)
