-- There is one play.
use Rattle.std.proofs.Common.{ℕ, zero, suc, ◌+◌, ◌≤◌, ◌≡◌, Bool, true, false, List, [], ◌∷◌, inl, inr, sym, ap, ◌∙◌, arith, length, length-append}
use Rattle.std.proofs.lemmas.Bool.{cases_Bool}
use Rattle.nsi_script.specs.declared.script.Group.{Group}
use Rattle.nsi_play.specs.Rounds.{Net, Homes, round, events_of, emptied, all_quiet}
use Rattle.nsi_play.specs.Play.{Played, behind, settles, asks_among, begins, group, then_on, plays, ended}
use Rattle.nsi_play.specs.Laws.{OnePlay, NoLonger}
use Rattle.nsi_play.proofs.Settling.{settle_quiet, settle_more, settle_stop, group_is, plays_cons, plays_nil, then_over, then_stopped, then_on_longer}

never : {b : Bool} {X : Type 0} → b ≡ false → b ≡ true → X
never p q = absurd (cc)

-- a settled net stays so, whatever number of rounds is allowed
settles_same : (most more : ℕ) (homes : Homes) (x : Net) → (settles most homes x).is_over ≡ true → settles (most + more) homes x ≡ settles most homes x
settles_same zero more homes x h = elim (cases_Bool (all_quiet homes x)) [
  | inl q ↦ settle_quiet (0 + more) homes x q ∙ sym (settle_quiet 0 homes x q)
  | inr q ↦ never (ap (λ (p : Played). p.is_over) (settle_stop homes x q)) h
]
settles_same (suc most) more homes x h = elim (cases_Bool (all_quiet homes x)) [
  | inl q ↦ settle_quiet (suc most + more) homes x q ∙ sym (settle_quiet (suc most) homes x q)
  | inr q ↦ ap (λ n. settles n homes x) (omega arith) ∙ (settle_more (most + more) homes x q
      ∙ (ap (behind (events_of (round homes x))) (settles_same most more homes (emptied (round homes x)) (sym (ap (λ (p : Played). p.is_over) (settle_more most homes x q)) ∙ h))
      ∙ sym (settle_more most homes x q)))
]

group_same : (most more : ℕ) (g : Group) (count : ℕ) (homes : Homes) (x : Net) → (group most g count homes x).is_over ≡ true → group (most + more) g count homes x ≡ group most g count homes x
group_same most more g count homes x h =
    let y : Net = (begins g count homes x).net in
    group_is (most + more) g count homes x
    ∙ (ap (behind (begins g count homes x).events) (settles_same most more homes y (sym (ap (λ (p : Played). p.is_over) (group_is most g count homes x)) ∙ h))
    ∙ sym (group_is most g count homes x))

plays_same : (most more : ℕ) (gs : List Group) (count : ℕ) (homes : Homes) (x : Net) → (plays most gs count homes x).is_over ≡ true → plays (most + more) gs count homes x ≡ plays most gs count homes x
plays_same most more [] count homes x h = plays_nil (most + more) count homes x ∙ sym (plays_nil most count homes x)
plays_same most more (g ∷ gs) count homes x h = elim (cases_Bool (group most g count homes x).is_over) [
  | inl q ↦
      let p : Played = group most g count homes x in
      let n : ℕ = count + asks_among g.acts in
      let whole : plays most (g ∷ gs) count homes x ≡ behind p.events (plays most gs n homes p.net) = plays_cons most g gs count homes x ∙ then_over p (plays most gs n homes) q in
      plays_cons (most + more) g gs count homes x
      ∙ (ap (λ (z : Played). then_on z (plays (most + more) gs n homes)) (group_same most more g count homes x q)
      ∙ (then_over p (plays (most + more) gs n homes) q
      ∙ (ap (behind p.events) (plays_same most more gs n homes p.net (sym (ap (λ (z : Played). z.is_over) whole) ∙ h)) ∙ sym whole)))
  | inr q ↦
      let p : Played = group most g count homes x in
      never q (sym (ap (λ (z : Played). z.is_over) (plays_cons most g gs count homes x ∙ then_stopped p (plays most gs (count + asks_among g.acts) homes) q)) ∙ h)
]

pub one_play : OnePlay
one_play script homes net es fs x y p q =
    let e : plays (p.0 + q.0) script 0 homes net ≡ ended es x = plays_same p.0 q.0 script 0 homes net (ap (λ (z : Played). z.is_over) p.1) ∙ p.1 in
    let f : plays (p.0 + q.0) script 0 homes net ≡ ended fs y = ap (λ n. plays n script 0 homes net) (omega arith) ∙ (plays_same q.0 p.0 script 0 homes net (ap (λ (z : Played). z.is_over) q.1) ∙ q.1) in
    let same = sym e ∙ f in
    (ap (λ (z : Played). z.events) same, ap (λ (z : Played). z.net) same)

---- Fronts grow

settles_longer : (most more : ℕ) (homes : Homes) (x : Net) → length (settles most homes x).events ≤ length (settles (most + more) homes x).events
settles_longer zero more homes x = elim (cases_Bool (all_quiet homes x)) [
  | inl q ↦ omega (arith, ap (λ (p : Played). length p.events) (settle_quiet 0 homes x q))
  | inr q ↦ omega (arith, ap (λ (p : Played). length p.events) (settle_stop homes x q))
]
settles_longer (suc most) more homes x = elim (cases_Bool (all_quiet homes x)) [
  | inl q ↦ omega (arith, ap (λ (p : Played). length p.events) (settle_quiet (suc most) homes x q))
  | inr q ↦
      let z : Net = emptied (round homes x) in
      let a : settles (suc most) homes x ≡ behind (events_of (round homes x)) (settles most homes z) = settle_more most homes x q in
      let b : settles (suc most + more) homes x ≡ behind (events_of (round homes x)) (settles (most + more) homes z) = ap (λ n. settles n homes x) (omega arith) ∙ settle_more (most + more) homes x q in
      omega (
        arith,
        settles_longer most more homes z,
        ap (λ (p : Played). length p.events) a,
        ap (λ (p : Played). length p.events) b,
        length-append (events_of (round homes x)) (settles most homes z).events,
        length-append (events_of (round homes x)) (settles (most + more) homes z).events,
      )
]

group_longer : (most more : ℕ) (g : Group) (count : ℕ) (homes : Homes) (x : Net) → length (group most g count homes x).events ≤ length (group (most + more) g count homes x).events
group_longer most more g count homes x =
    let b : Played = begins g count homes x in
    omega (
      arith,
      settles_longer most more homes b.net,
      ap (λ (p : Played). length p.events) (group_is most g count homes x),
      ap (λ (p : Played). length p.events) (group_is (most + more) g count homes x),
      length-append b.events (settles most homes b.net).events,
      length-append b.events (settles (most + more) homes b.net).events,
    )

plays_longer : (most more : ℕ) (gs : List Group) (count : ℕ) (homes : Homes) (x : Net) → length (plays most gs count homes x).events ≤ length (plays (most + more) gs count homes x).events
plays_longer most more [] count homes x =
    omega (arith, ap (λ (p : Played). length p.events) (plays_nil most count homes x), ap (λ (p : Played). length p.events) (plays_nil (most + more) count homes x))
plays_longer most more (g ∷ gs) count homes x = elim (cases_Bool (group most g count homes x).is_over) [
  | inl q ↦
      let p : Played = group most g count homes x in
      let n : ℕ = count + asks_among g.acts in
      let a : plays most (g ∷ gs) count homes x ≡ behind p.events (plays most gs n homes p.net) = plays_cons most g gs count homes x ∙ then_over p (plays most gs n homes) q in
      let b : plays (most + more) (g ∷ gs) count homes x ≡ behind p.events (plays (most + more) gs n homes p.net) =
      plays_cons (most + more) g gs count homes x ∙ (ap (λ (z : Played). then_on z (plays (most + more) gs n homes)) (group_same most more g count homes x q) ∙ then_over p (plays (most + more) gs n homes) q) in
      omega (
        arith,
        plays_longer most more gs n homes p.net,
        ap (λ (z : Played). length z.events) a,
        ap (λ (z : Played). length z.events) b,
        length-append p.events (plays most gs n homes p.net).events,
        length-append p.events (plays (most + more) gs n homes p.net).events,
      )
  | inr q ↦
      let p : Played = group most g count homes x in
      let n : ℕ = count + asks_among g.acts in
      let a : plays most (g ∷ gs) count homes x ≡ p = plays_cons most g gs count homes x ∙ then_stopped p (plays most gs n homes) q in
      omega (
        arith,
        group_longer most more g count homes x,
        then_on_longer (group (most + more) g count homes x) (plays (most + more) gs n homes),
        ap (λ (z : Played). length z.events) a,
        ap (λ (z : Played). length z.events) (plays_cons (most + more) g gs count homes x),
      )
]

-- a play that is over passes no limit that it keeps
pub no_longer : NoLonger
no_longer script homes net es last limit p few q =
    let same : plays (q.0 + p.0) script 0 homes net ≡ ended es last = ap (λ n. plays n script 0 homes net) (omega arith) ∙ (plays_same p.0 q.0 script 0 homes net (ap (λ (z : Played). z.is_over) p.1) ∙ p.1) in
    omega (arith, q.1, few, plays_longer q.0 p.0 script 0 homes net, ap (λ (z : Played). length z.events) same)
