-- Plays come to an end, or more than any limit happens in them.
use Rattle.std.proofs.Common.{ℕ, ◌+◌, ◌<◌, ◌≤◌, ◌≡◌, ◌⊎◌, true, false, List, [], ◌∷◌, inl, inr, refl, sym, ap, ◌∙◌, subst, arith, length, length-append, map}
use Rattle.std.proofs.lemmas.Bool.{cases_Bool}
use Rattle.nsi_primitive.specs.declared.entry.Event.{Event}
use Rattle.nsi_agent.specs.Homes.{home_in}
use Rattle.nsi_script.specs.declared.script.Act.{Act}
use Rattle.nsi_script.specs.declared.script.Group.{Group}
use Rattle.nsi_play.specs.Openings.{opening}
use Rattle.nsi_play.specs.Play.{Played, behind, settles, asks_in, asks_among, acts, acted, ticked_in, begins, group, then_on, plays, ended, IsPlayFrom, PassesFrom}
use Rattle.nsi_play.specs.Rounds.{Net, Homes, emptied}
use Rattle.nsi_play.proofs.Settling.{group_is, plays_cons, plays_nil, then_over, then_stopped, then_on_longer, acts_cons, acts_none}
use Rattle.quiet_rounds.specs.Bounded.{IsBounded}
use Rattle.quiet_rounds.specs.Enough.{enough}
use Rattle.quiet_rounds.specs.Laws.{PlaysKeepBounds, EndsOrPasses, PlaysEnd, ScriptsEnd}
use Rattle.quiet_rounds.proofs.Ending.{parts_over, parts_longer, settles_bounded, ends_behind, ends_at_enough}
use Rattle.quiet_rounds.proofs.Staying.{openings_are_bounded, ticks_bounded, act_bounded, told_bounded}

---- Bounded nets in a play

acts_bounded : (todo : List Act) (count : ℕ) (homes : Homes) (x : Net) → IsBounded x → IsBounded (acts todo count homes x).net
acts_bounded [] count homes x h = subst (λ (p : Played). IsBounded p.net) (sym (acts_none count homes x)) h
acts_bounded (a ∷ rest) count homes x h =
    subst (λ (p : Played). IsBounded p.net) (sym (acts_cons a rest count homes x))
    (acts_bounded rest (count + asks_in a) homes (emptied (acted a count homes x)) (told_bounded (acted a count homes x) (act_bounded a count homes x h)))

begun_is : (g : Group) (count : ℕ) (homes : Homes) (x : Net) → (begins g count homes x).net ≡ (acts g.acts count homes (emptied (map (ticked_in g.at homes) x))).net
unfolding begins
begun_is g count homes x = refl

begun_bounded : (g : Group) (count : ℕ) (homes : Homes) (x : Net) → IsBounded x → IsBounded (begins g count homes x).net
begun_bounded g count homes x h =
    let y : Net = map (ticked_in g.at homes) x in
    subst IsBounded (sym (begun_is g count homes x)) (acts_bounded g.acts count homes (emptied y) (told_bounded y (ticks_bounded g.at homes x h)))

group_bounded : (most : ℕ) (g : Group) (count : ℕ) (homes : Homes) (x : Net) → IsBounded x → IsBounded (group most g count homes x).net
group_bounded most g count homes x h =
    subst (λ (p : Played). IsBounded p.net) (sym (group_is most g count homes x)) (settles_bounded most homes (begins g count homes x).net (begun_bounded g count homes x h))

plays_bounded : (most : ℕ) (gs : List Group) (count : ℕ) (homes : Homes) (x : Net) → IsBounded x → IsBounded (plays most gs count homes x).net
plays_bounded most [] count homes x h = subst (λ (p : Played). IsBounded p.net) (sym (plays_nil most count homes x)) h
plays_bounded most (g ∷ gs) count homes x h =
    let p : Played = group most g count homes x in
    let n : ℕ = count + asks_among g.acts in
    let b : IsBounded p.net = group_bounded most g count homes x h in
    subst (λ (z : Played). IsBounded z.net) (sym (plays_cons most g gs count homes x)) (elim (cases_Bool p.is_over) [
      | inl o ↦ subst (λ (z : Played). IsBounded z.net) (sym (then_over p (plays most gs n homes) o)) (plays_bounded most gs n homes p.net b)
      | inr o ↦ subst (λ (z : Played). IsBounded z.net) (sym (then_stopped p (plays most gs n homes) o)) b
    ])

pub plays_keep_bounds : PlaysKeepBounds
plays_keep_bounds homes net h = record {
  begins = λ g count. begun_bounded g count homes net h;
  settles = λ most. settles_bounded most homes net h;
  plays = λ most script count. plays_bounded most script count homes net h;
}

---- The end of a group

group_over : (a b : ℕ) (g : Group) (count : ℕ) (homes : Homes) (x : Net) → (group a g count homes x).is_over ≡ true → group (a + b) g count homes x ≡ group a g count homes x
group_over a b g count homes x o =
    let p : Played = begins g count homes x in
    group_is (a + b) g count homes x
    ∙ (ap (behind p.events) (parts_over a b homes p.net (sym (ap (λ (z : Played). z.is_over) (group_is a g count homes x)) ∙ o)) ∙ sym (group_is a g count homes x))

group_grows : (a b : ℕ) (g : Group) (count : ℕ) (homes : Homes) (x : Net) → length (group a g count homes x).events ≤ length (group (a + b) g count homes x).events
group_grows a b g count homes x =
    let p : Played = begins g count homes x in
    omega (
      arith,
      parts_longer a b homes p.net,
      ap (λ (z : Played). length z.events) (group_is a g count homes x),
      ap (λ (z : Played). length z.events) (group_is (a + b) g count homes x),
      length-append p.events (settles a homes p.net).events,
      length-append p.events (settles (a + b) homes p.net).events,
    )

-- rounds that are enough in this group
abbrev enough_in : ℕ → Group → ℕ → Homes → Net → ℕ
enough_in limit g count homes x = enough limit homes (begins g count homes x).net

group_ends : (limit : ℕ) (g : Group) (count : ℕ) (homes : Homes) (x : Net) → IsBounded x → EndsOrPasses limit (group (enough_in limit g count homes x) g count homes x)
group_ends limit g count homes x h =
    let p : Played = begins g count homes x in
    let n : ℕ = enough limit homes p.net in
    subst (EndsOrPasses limit) (sym (group_is n g count homes x))
    (ends_behind limit p.events (settles n homes p.net) (ends_at_enough limit homes p.net (begun_bounded g count homes x h)))

---- The end of a play

-- so many rounds in each group are enough, and so are more
pub record HasEnough (limit : ℕ) (gs : List Group) (count : ℕ) (homes : Homes) (x : Net) : Type 0 where
  pub rounds : ℕ
  pub ends : (more : ℕ) → EndsOrPasses limit (plays (rounds + more) gs count homes x)

long_passes : (limit : ℕ) (p : Played) → EndsOrPasses limit p → p.is_over ≡ false → limit < length p.events
long_passes limit p (inl o) q = absurd (let e : true ≡ false = sym o ∙ q in cc)
long_passes limit p (inr m) q = m

pub has_enough : (limit : ℕ) (gs : List Group) (count : ℕ) (homes : Homes) (x : Net) → IsBounded x → HasEnough limit gs count homes x
has_enough limit [] count homes x h = record { rounds = 0; ends = λ more. inl (ap (λ (p : Played). p.is_over) (plays_nil (0 + more) count homes x)) }
has_enough limit (g ∷ gs) count homes x h =
    let a : ℕ = enough_in limit g count homes x in
    let p : Played = group a g count homes x in
    let n : ℕ = count + asks_among g.acts in
    elim (cases_Bool p.is_over) [
      | inl o ↦
          let q : HasEnough limit gs n homes p.net = has_enough limit gs n homes p.net (group_bounded a g count homes x h) in
          record {
            rounds = a + q.rounds;
            ends = λ more.
                let k : ℕ = a + q.rounds + more in
                let first : group k g count homes x ≡ p = ap (λ m. group m g count homes x) (let e : k ≡ a + (q.rounds + more) = omega arith in e) ∙ group_over a (q.rounds + more) g count homes x o in
                let rest : EndsOrPasses limit (plays k gs n homes p.net) =
                subst (λ m. EndsOrPasses limit (plays m gs n homes p.net)) (let e : q.rounds + (a + more) ≡ k = omega arith in e) (q.ends (a + more)) in
                subst (EndsOrPasses limit) (sym (plays_cons k g gs count homes x ∙ (ap (λ (z : Played). then_on z (plays k gs n homes)) first ∙ then_over p (plays k gs n homes) o)))
                (ends_behind limit p.events (plays k gs n homes p.net) rest);
          }
      | inr o ↦ record {
        rounds = a;
        ends = λ more. inr (omega (
          arith,
          long_passes limit p (group_ends limit g count homes x h) o,
          group_grows a more g count homes x,
          then_on_longer (group (a + more) g count homes x) (plays (a + more) gs n homes),
          ap (λ (z : Played). length z.events) (plays_cons (a + more) g gs count homes x),
        ));
      }
    ]

ended_is : (p : Played) → p.is_over ≡ true → p ≡ ended p.events p.net
ended_is p o = ap (λ b. record { events = p.events; net = p.net; is_over = b }) o

by_end : (script : List Group) (homes : Homes) (net : Net) (limit n : ℕ) → EndsOrPasses limit (plays n script 0 homes net)
    → ((events : List Event) × (last : Net) × IsPlayFrom script homes net events last) ⊎ PassesFrom limit script homes net
by_end script homes net limit n (inl o) = inl ((plays n script 0 homes net).events, (plays n script 0 homes net).net, (n, ended_is (plays n script 0 homes net) o))
by_end script homes net limit n (inr m) = inr (n, m)

pub plays_end : PlaysEnd
plays_end script homes net limit h =
    let q : HasEnough limit script 0 homes net = has_enough limit script 0 homes net h in
    by_end script homes net limit (q.rounds + 0) (q.ends 0)

pub scripts_end : ScriptsEnd
scripts_end t routes plans script limit = plays_end script (home_in t routes) (opening t plans) limit (openings_are_bounded t plans)
