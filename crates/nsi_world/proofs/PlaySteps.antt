-- A play goes on by events that are allowed, whatever number of rounds it may take.
use Rattle.std.proofs.Common.{ℕ, zero, suc, ◌+◌, ◌≤◌, List, [], ◌∷◌, ◌++◌, inl, inr, refl, sym, ◌∙◌, subst, arith, map}
use Rattle.std.specs.List.{All}
use Rattle.std.proofs.lemmas.Bool.{cases_Bool}
use Rattle.std.proofs.lemmas.List.Elements.{All-nil, All-cons, All-head, All-tail, All-weaker}
use Rattle.nsi_primitive.specs.declared.entry.Event.{Event}
use Rattle.nsi_script.specs.declared.script.Act.{Act}
use Rattle.nsi_script.specs.declared.script.Group.{Group}
use Rattle.agent_node.specs.Seat.{Seat}
use Rattle.nsi_play.specs.Rounds.{Net, round, events_of, emptied, all_quiet}
use Rattle.nsi_play.specs.Play.{Played, settles, does, acted, asks_in, asks_among, acts, ticked_in, begins, group, plays}
use Rattle.nsi_play.proofs.Settling.{settle_quiet, settle_more, settle_stop, group_is, plays_cons, plays_nil, acts_cons, acts_none, then_over, then_stopped}
use Rattle.nsi_world.specs.Worlds.{Homes, World}
use Rattle.nsi_world.specs.Runs.{world_after}
use Rattle.nsi_world.specs.Seats.{Stands, AreFree}
use Rattle.nsi_world.specs.Nets.{AllStand, NetGoesOn}
use Rattle.nsi_world.proofs.ScriptLemmas.{RiseFrom}
use Rattle.nsi_world.proofs.Given.{Given}
use Rattle.nsi_world.proofs.Later.{free_append, after_append}
use Rattle.nsi_world.proofs.Steps.{later_goes}
use Rattle.nsi_world.proofs.NetSteps.{Goes, step_goes, round_goes}
use Rattle.nsi_world.proofs.ActSteps.{MayAct, goes_ticked, goes_does}

pub net_twice : (homes : Homes) (clock : ℕ) (w : World) (x y z : Net) (es fs : List Event) → NetGoesOn homes clock w x es y → NetGoesOn homes clock (world_after w es) y fs z → NetGoesOn homes clock w x (es ++ fs) z
net_twice homes clock w x y z es fs p q = record {
  free = free_append homes w es fs p.free q.free;
  numbers = q.numbers ∙ p.numbers;
  stand = subst (λ v. AllStand homes clock v z) (sym (after_append w es fs)) q.stand;
}

pub net_none : (homes : Homes) (clock : ℕ) (w : World) (x : Net) → AllStand homes clock w x → NetGoesOn homes clock w x [] x
unfolding world_after AreFree
net_none homes clock w x h = record { free = tt; numbers = refl; stand = h }

-- the play has come so far by events that are allowed
abbrev Comes : Homes → ℕ → World → Net → Played → Type 0
Comes homes clock w x p = NetGoesOn homes clock w x p.events p.net

---- Rounds

settles_come : (homes : Homes) → Given homes → (clock : ℕ) (w : World) (most : ℕ) (x : Net) → AllStand homes clock w x → Comes homes clock w x (settles most homes x)
settles_come homes given clock w zero x h = elim (cases_Bool (all_quiet homes x)) [
  | inl q ↦ subst (Comes homes clock w x) (sym (settle_quiet 0 homes x q)) (net_none homes clock w x h)
  | inr q ↦ subst (Comes homes clock w x) (sym (settle_stop homes x q)) (net_none homes clock w x h)
]
settles_come homes given clock w (suc most) x h = elim (cases_Bool (all_quiet homes x)) [
  | inl q ↦ subst (Comes homes clock w x) (sym (settle_quiet (suc most) homes x q)) (net_none homes clock w x h)
  | inr q ↦
      let z : Net = emptied (round homes x) in
      let es : List Event = events_of (round homes x) in
      let r = round_goes homes given clock w x h in
      subst (Comes homes clock w x) (sym (settle_more most homes x q))
      (net_twice homes clock w x z (settles most homes z).net es (settles most homes z).events r (settles_come homes given clock (world_after w es) most z r.stand))
]

---- Acts

pub any_does : (homes : Homes) → Given homes → (clock : ℕ) (act : Act) (count : ℕ) (net : Net) → MayAct homes act → All (Goes homes clock (does act count homes)) net
any_does homes given clock act count [] may = All-nil (Goes homes clock (does act count homes))
any_does homes given clock act count (s ∷ ss) may = All-cons (Goes homes clock (does act count homes)) s ss (λ w h fair. goes_does homes given clock act count w s may h fair) (any_does homes given clock act count ss may)

acts_come : (homes : Homes) → Given homes → (clock : ℕ) (w : World) (todo : List Act) (count : ℕ) (x : Net) → All (MayAct homes) todo → AllStand homes clock w x → Comes homes clock w x (acts todo count homes x)
acts_come homes given clock w [] count x may h = subst (Comes homes clock w x) (sym (acts_none count homes x)) (net_none homes clock w x h)
acts_come homes given clock w (a ∷ rest) count x may h =
    let y : Net = acted a count homes x in
    let z : Net = emptied y in
    let n : ℕ = count + asks_in a in
    let r = step_goes homes clock (does a count homes) w x (any_does homes given clock a count x (All-head (MayAct homes) a rest may)) h in
    subst (Comes homes clock w x) (sym (acts_cons a rest count homes x))
    (net_twice homes clock w x z (acts rest n homes z).net (events_of y) (acts rest n homes z).events r
    (acts_come homes given clock (world_after w (events_of y)) rest n z (All-tail (MayAct homes) a rest may) r.stand))

---- Groups

pub any_ticked : (homes : Homes) → Given homes → (clock : ℕ) (net : Net) → All (Goes homes clock (ticked_in clock homes)) net
any_ticked homes given clock [] = All-nil (Goes homes clock (ticked_in clock homes))
any_ticked homes given clock (s ∷ ss) = All-cons (Goes homes clock (ticked_in clock homes)) s ss (λ w h fair. later_goes homes clock w s (ticked_in clock homes s) (goes_ticked homes given clock w s h fair)) (any_ticked homes given clock ss)

begun : (homes : Homes) (w : World) (g : Group) (count : ℕ) (x : Net)
    → NetGoesOn homes g.at w x (events_of (map (ticked_in g.at homes) x) ++ (acts g.acts count homes (emptied (map (ticked_in g.at homes) x))).events) (acts g.acts count homes (emptied (map (ticked_in g.at homes) x))).net
    → NetGoesOn homes g.at w x (begins g count homes x).events (begins g count homes x).net
unfolding begins
begun homes w g count x p = p

pub group_comes : (homes : Homes) → Given homes → (w : World) (most : ℕ) (g : Group) (count : ℕ) (x : Net) → All (MayAct homes) g.acts → AllStand homes g.at w x → Comes homes g.at w x (group most g count homes x)
group_comes homes given w most g count x may h =
    let clock : ℕ = g.at in
    let y : Net = map (ticked_in clock homes) x in
    let z : Net = emptied y in
    let es : List Event = events_of y in
    let b : Played = begins g count homes x in
    let r = step_goes homes clock (ticked_in clock homes) w x (any_ticked homes given clock x) h in
    let a = acts_come homes given clock (world_after w es) g.acts count z may r.stand in
    let c : NetGoesOn homes clock w x b.events b.net = begun homes w g count x (net_twice homes clock w x z (acts g.acts count homes z).net es (acts g.acts count homes z).events r a) in
    subst (Comes homes clock w x) (sym (group_is most g count homes x))
    (net_twice homes clock w x b.net (settles most homes b.net).net b.events (settles most homes b.net).events c (settles_come homes given clock (world_after w b.events) most b.net c.stand))

-- clocks aren't past a later second either
pub stand_longer : (homes : Homes) (c d : ℕ) (w : World) (x : Net) → c ≤ d → AllStand homes c w x → AllStand homes d w x
stand_longer homes c d w x le h = record { distinct = h.distinct; told = h.told; stand = All-weaker (Stands homes c w) (Stands homes d w) later x h.stand; fair = h.fair }
  where
    later : (s : Seat) → Stands homes c w s → Stands homes d w s
    later s k = record { agent = k.agent; journal = k.journal; synced = k.synced; past = k.past; state = k.state; unsaid = k.unsaid; doors = k.doors; in_time = let n = k.in_time in omega (arith, n, le) }

---- Plays

abbrev pub MayActAll : Homes → Group → Type 0
MayActAll homes g = All (MayAct homes) g.acts

pub goes_longer : (homes : Homes) (c d : ℕ) (w : World) (x y : Net) (es : List Event) → c ≤ d → NetGoesOn homes c w x es y → NetGoesOn homes d w x es y
goes_longer homes c d w x y es le p = record { free = p.free; numbers = p.numbers; stand = stand_longer homes c d (world_after w es) y le p.stand }

pub first_second : (c : ℕ) (g : Group) (gs : List Group) → RiseFrom c (g ∷ gs) → c ≤ g.at
first_second c g gs h = h.0

pub rest_rise : (c : ℕ) (g : Group) (gs : List Group) → RiseFrom c (g ∷ gs) → RiseFrom g.at gs
rest_rise c g gs h = h.1

-- at some second
pub record PlayComes (homes : Homes) (start : ℕ) (w : World) (x : Net) (p : Played) : Type 0 where
  pub clock : ℕ
  pub later : start ≤ clock
  pub goes : NetGoesOn homes clock w x p.events p.net

pub plays_come : (homes : Homes) → Given homes → (w : World) (most : ℕ) (gs : List Group) (count start : ℕ) (x : Net) → RiseFrom start gs → All (MayActAll homes) gs → AllStand homes start w x
    → PlayComes homes start w x (plays most gs count homes x)
plays_come homes given w most [] count start x rise may h =
    subst (PlayComes homes start w x) (sym (plays_nil most count homes x)) (record { clock = start; later = omega arith; goes = net_none homes start w x h })
plays_come homes given w most (g ∷ gs) count start x rise may h =
    let le : start ≤ g.at = first_second start g gs rise in
    let p : Played = group most g count homes x in
    let n : ℕ = count + asks_among g.acts in
    let a : NetGoesOn homes g.at w x p.events p.net = group_comes homes given w most g count x (All-head (MayActAll homes) g gs may) (stand_longer homes start g.at w x le h) in
    let q = plays_come homes given (world_after w p.events) most gs n g.at p.net (rest_rise start g gs rise) (All-tail (MayActAll homes) g gs may) a.stand in
    subst (PlayComes homes start w x) (sym (plays_cons most g gs count homes x)) (elim (cases_Bool p.is_over) [
      | inl o ↦ subst (PlayComes homes start w x) (sym (then_over p (plays most gs n homes) o)) (record {
        clock = q.clock;
        later = let m = q.later in omega (arith, le, m);
        goes = net_twice homes q.clock w x p.net (plays most gs n homes p.net).net p.events (plays most gs n homes p.net).events (goes_longer homes g.at q.clock w x p.net p.events q.later a) q.goes;
      })
      | inr o ↦ subst (PlayComes homes start w x) (sym (then_stopped p (plays most gs n homes) o)) (record { clock = g.at; later = le; goes = a })
    ])
