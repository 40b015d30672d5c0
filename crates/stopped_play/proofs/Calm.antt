-- Where no disk stops: the play by a tape is the play.
use Rattle.std.proofs.Common.{ℕ, zero, suc, ◌+◌, ◌≡◌, Bool, true, false, cond, List, [], ◌∷◌, inl, inr, refl, sym, ap, ap₂, ◌∙◌, length, map}
use Rattle.std.proofs.lemmas.Bool.{cases_Bool}
use Rattle.nsi_primitive.specs.declared.entry.Event.{Event}
use Rattle.nsi_script.specs.declared.script.Act.{Act}
use Rattle.nsi_script.specs.declared.script.Group.{Group}
use Rattle.nsi_play.specs.Rounds.{Net, Homes, round, events_of, tells, emptied, all_quiet}
use Rattle.nsi_play.specs.Play.{Played, behind, stopped, over, after_round, settles, acted, asks_in, asks_among, acts, ticked_in, begins, group, then_on, plays}
use Rattle.nsi_play.proofs.Settling.{settle_quiet, settle_more, settle_stop, group_is, plays_cons, plays_nil, acts_cons, acts_none}
use Rattle.stopped_play.specs.Tapes.{Cuts, none_cut, Tape, copies, calm}
use Rattle.stopped_play.specs.Rounds.{round_by, reopened_by, reopens, after_cuts, settles_by}
use Rattle.stopped_play.specs.Play.{acted_by, acts_by, begins_by, group_by, plays_by, remade}
use Rattle.stopped_play.specs.Laws.{CalmTapes, CalmPlays}

---- Rounds

reopened_none : (homes : Homes) (net : Net) → map (reopened_by none_cut homes) net ≡ net
reopened_none homes [] = refl
reopened_none homes (s ∷ ss) = ap (λ zs. s ∷ zs) (reopened_none homes ss)

reopens_none : (homes : Homes) (net : Net) → reopens none_cut homes net ≡ net
unfolding reopens
reopens_none homes net = reopened_none homes net

round_none : (homes : Homes) (net : Net) → round_by none_cut homes net ≡ round homes net
unfolding round_by round
round_none homes net = refl

pub emptied_none : (net : Net) → events_of (emptied net) ≡ []
emptied_none [] = refl
emptied_none (s ∷ ss) = emptied_none ss

pub emptied_twice : (net : Net) → emptied (emptied net) ≡ emptied net
emptied_twice [] = refl
emptied_twice (s ∷ ss) = ap (λ zs. tells s ∷ zs) (emptied_twice ss)

-- where nothing has happened nothing is told
pub after_nothing : (net : Net) (rest : Net → Played) → events_of net ≡ [] → emptied net ≡ net → after_round net rest ≡ rest net
after_nothing net rest none same = ap₂ (λ (es : List Event) (x : Net). behind es (rest x)) none same

calm_round : (homes : Homes) (net : Net) (rest : Net → Played) → after_cuts none_cut homes net rest ≡ after_round (round homes net) rest
calm_round homes net rest =
    let y : Net = emptied (round homes net) in
    ap (λ (x : Net). after_round x (λ (z : Net). after_round (reopens none_cut homes z) rest)) (round_none homes net)
    ∙ ap (behind (events_of (round homes net))) (ap (λ (x : Net). after_round x rest) (reopens_none homes y) ∙ after_nothing y rest (emptied_none (round homes net)) (emptied_twice (round homes net)))

---- A tape, step by step

pub settle_by_none : (homes : Homes) (x : Net) → settles_by [] homes x ≡ cond (all_quiet homes x) (over x) (stopped x)
unfolding settles_by
settle_by_none homes x = refl

pub settle_by_one : (c : Cuts) (cs : List Cuts) (homes : Homes) (x : Net) → settles_by (c ∷ cs) homes x ≡ cond (all_quiet homes x) (over x) (after_cuts c homes x (settles_by cs homes))
unfolding settles_by
settle_by_one c cs homes x = refl

pub begins_by_is : (tape : Tape) (g : Group) (count : ℕ) (homes : Homes) (x : Net) → begins_by tape g count homes x ≡ after_round (map (ticked_in g.at homes) x) (acts_by g.acts tape.acts count homes)
unfolding begins_by
begins_by_is tape g count homes x = refl

pub group_by_is : (tape : Tape) (g : Group) (count : ℕ) (homes : Homes) (x : Net)
    → group_by tape g count homes x ≡ behind (begins_by tape g count homes x).events (settles_by tape.rounds homes (begins_by tape g count homes x).net)
unfolding group_by
group_by_is tape g count homes x = refl

---- Groups

begins_is : (g : Group) (count : ℕ) (homes : Homes) (x : Net) → begins g count homes x ≡ after_round (map (ticked_in g.at homes) x) (acts g.acts count homes)
unfolding begins
begins_is g count homes x = refl

settle_calm : (most : ℕ) (homes : Homes) (x : Net) → settles_by (copies most none_cut) homes x ≡ settles most homes x
settle_calm zero homes x = settle_by_none homes x ∙ elim (cases_Bool (all_quiet homes x)) [
  | inl q ↦ ap (λ b. cond b (over x) (stopped x)) q ∙ sym (settle_quiet 0 homes x q)
  | inr q ↦ ap (λ b. cond b (over x) (stopped x)) q ∙ sym (settle_stop homes x q)
]
settle_calm (suc most) homes x =
    let rest : Net → Played = settles_by (copies most none_cut) homes in
    settle_by_one none_cut (copies most none_cut) homes x ∙ elim (cases_Bool (all_quiet homes x)) [
      | inl q ↦ ap (λ b. cond b (over x) (after_cuts none_cut homes x rest)) q ∙ sym (settle_quiet (suc most) homes x q)
      | inr q ↦ ap (λ b. cond b (over x) (after_cuts none_cut homes x rest)) q
          ∙ (calm_round homes x rest ∙ (ap (behind (events_of (round homes x))) (settle_calm most homes (emptied (round homes x))) ∙ sym (settle_more most homes x q)))
    ]

act_calm : (a : Act) (count : ℕ) (homes : Homes) (net : Net) → acted_by a 0 count homes net ≡ acted a count homes net
act_calm (Act.Ask a ask) count homes net = refl
act_calm (Act.Force a n) count homes net = refl
act_calm (Act.Restart a) count homes net = refl

acts_calm : (todo : List Act) (count : ℕ) (homes : Homes) (net : Net) → acts_by todo [] count homes net ≡ acts todo count homes net
unfolding acts_by
acts_calm [] count homes net = sym (acts_none count homes net)
acts_calm (a ∷ rest) count homes net =
    let n : ℕ = count + asks_in a in
    ap (λ (x : Net). after_round x (acts_by rest [] n homes)) (act_calm a count homes net)
    ∙ (ap (behind (events_of (acted a count homes net))) (acts_calm rest n homes (emptied (acted a count homes net))) ∙ sym (acts_cons a rest count homes net))

begins_calm : (most : ℕ) (g : Group) (count : ℕ) (homes : Homes) (x : Net) → begins_by (calm most) g count homes x ≡ begins g count homes x
begins_calm most g count homes x =
    let y : Net = map (ticked_in g.at homes) x in
    begins_by_is (calm most) g count homes x ∙ (ap (behind (events_of y)) (acts_calm g.acts count homes (emptied y)) ∙ sym (begins_is g count homes x))

group_calm : (most : ℕ) (g : Group) (count : ℕ) (homes : Homes) (x : Net) → group_by (calm most) g count homes x ≡ group most g count homes x
group_calm most g count homes x =
    let b : Played = begins g count homes x in
    group_by_is (calm most) g count homes x
    ∙ (ap (λ (p : Played). behind p.events (settles_by (copies most none_cut) homes p.net)) (begins_calm most g count homes x)
    ∙ (ap (behind b.events) (settle_calm most homes b.net) ∙ sym (group_is most g count homes x)))

then_same : (p : Played) (f g : Net → Played) → ((x : Net) → f x ≡ g x) → then_on p f ≡ then_on p g
then_same p f g same = by p.is_over
  where
    by : (b : Bool) → cond b (behind p.events (f p.net)) p ≡ cond b (behind p.events (g p.net)) p
    by true = ap (behind p.events) (same p.net)
    by false = refl

pub calm_tapes : CalmTapes
unfolding plays_by
calm_tapes most [] count homes net = sym (plays_nil most count homes net)
calm_tapes most (g ∷ gs) count homes net =
    let n : ℕ = count + asks_among g.acts in
    ap (λ (p : Played). then_on p (plays_by (copies (length gs) (calm most)) gs n homes)) (group_calm most g count homes net)
    ∙ (then_same (group most g count homes net) (plays_by (copies (length gs) (calm most)) gs n homes) (plays most gs n homes) (λ x. calm_tapes most gs n homes x) ∙ sym (plays_cons most g gs count homes net))

---- The play

-- no journal was made anew
remade_none : (net : Net) → remade (λ a. 0) net ≡ []
remade_none [] = refl
remade_none (s ∷ ss) = remade_none ss

pub calm_plays : CalmPlays
calm_plays script homes net events last p =
    let rest : Played = plays_by (copies (length script) (calm p.0)) script 0 homes net in
    (p.0, ap (λ (es : List Event). behind es rest) (remade_none net) ∙ (calm_tapes p.0 script 0 homes net ∙ p.1))
