-- The steps of a play, each as an equation.
use Rattle.std.proofs.Common.{ℕ, zero, suc, ◌+◌, ◌≤◌, ◌≡◌, Bool, true, false, cond, List, [], ◌∷◌, ◌++◌, refl, sym, ap, arith, length, append_assoc, length-append}
use Rattle.nsi_primitive.specs.declared.entry.Event.{Event}
use Rattle.nsi_script.specs.declared.script.Act.{Act}
use Rattle.nsi_script.specs.declared.script.Group.{Group}
use Rattle.nsi_play.specs.Rounds.{Net, Homes, round, all_quiet}
use Rattle.nsi_play.specs.Play.{Played, behind, stopped, over, after_round, settles, asks_in, asks_among, acts, acted, begins, group, then_on, plays}

pub behind_twice : (es fs : List Event) (p : Played) → behind es (behind fs p) ≡ behind (es ++ fs) p
behind_twice es fs p = ap (λ gs. record { events = gs; net = p.net; is_over = p.is_over }) (sym (append_assoc es fs p.events))

---- Rounds

pub settle_quiet : (most : ℕ) (homes : Homes) (x : Net) → all_quiet homes x ≡ true → settles most homes x ≡ over x
unfolding settles
settle_quiet zero homes x q = ap (λ b. cond b (over x) (stopped x)) q
settle_quiet (suc most) homes x q = ap (λ b. cond b (over x) (after_round (round homes x) (settles most homes))) q

pub settle_more : (most : ℕ) (homes : Homes) (x : Net) → all_quiet homes x ≡ false → settles (suc most) homes x ≡ after_round (round homes x) (settles most homes)
unfolding settles
settle_more most homes x q = ap (λ b. cond b (over x) (after_round (round homes x) (settles most homes))) q

pub settle_stop : (homes : Homes) (x : Net) → all_quiet homes x ≡ false → settles 0 homes x ≡ stopped x
unfolding settles
settle_stop homes x q = ap (λ b. cond b (over x) (stopped x)) q

---- Groups

pub group_is : (most : ℕ) (g : Group) (count : ℕ) (homes : Homes) (x : Net) → group most g count homes x ≡ behind (begins g count homes x).events (settles most homes (begins g count homes x).net)
unfolding group
group_is most g count homes x = refl

pub plays_cons : (most : ℕ) (g : Group) (rest : List Group) (count : ℕ) (homes : Homes) (x : Net)
    → plays most (g ∷ rest) count homes x ≡ then_on (group most g count homes x) (plays most rest (count + asks_among g.acts) homes)
unfolding plays
plays_cons most g rest count homes x = refl

pub plays_nil : (most : ℕ) (count : ℕ) (homes : Homes) (x : Net) → plays most [] count homes x ≡ over x
unfolding plays
plays_nil most count homes x = refl

pub then_over : (p : Played) (rest : Net → Played) → p.is_over ≡ true → then_on p rest ≡ behind p.events (rest p.net)
then_over p rest h = ap (λ b. cond b (behind p.events (rest p.net)) p) h

pub then_stopped : (p : Played) (rest : Net → Played) → p.is_over ≡ false → then_on p rest ≡ p
then_stopped p rest h = ap (λ b. cond b (behind p.events (rest p.net)) p) h

pub then_on_longer : (p : Played) (rest : Net → Played) → length p.events ≤ length (then_on p rest).events
then_on_longer p rest = by_end p.is_over p.events p.net
  where
    by_end : (b : Bool) (es : List Event) (net : Net) → length es ≤ length (then_on (record { events = es; net = net; is_over = b }) rest).events
    by_end true es net = omega (arith, length-append es (rest net).events)
    by_end false es net = omega arith

---- Acts

pub acts_cons : (a : Act) (rest : List Act) (count : ℕ) (homes : Homes) (net : Net) → acts (a ∷ rest) count homes net ≡ after_round (acted a count homes net) (acts rest (count + asks_in a) homes)
unfolding acts
acts_cons a rest count homes net = refl

pub acts_none : (count : ℕ) (homes : Homes) (net : Net) → acts [] count homes net ≡ over net
unfolding acts
acts_none count homes net = refl
