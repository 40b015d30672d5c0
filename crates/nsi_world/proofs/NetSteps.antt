-- All agents of a net go on, one after another: a round.
use Rattle.std.proofs.Common.{ℕ, ◌≡◌, ◌≢◌, List, [], ◌∷◌, ◌++◌, refl, sym, ap, ◌∙◌, subst, map}
use Rattle.std.specs.List.{All}
use Rattle.std.proofs.lemmas.List.Elements.{All-nil, All-cons, All-head, All-tail, All-weaker, All-map}
use Rattle.nsi_primitive.specs.declared.entry.Event.{Event}
use Rattle.agent_node.specs.Passing.{let_through}
use Rattle.agent_node.specs.Seat.{Seat}
use Rattle.agent_node.specs.Meetings.{met}
use Rattle.nsi_play.specs.Rounds.{Net, turned_in, turned_all, meets_each, meets_all, met_all, round, events_of, tells, emptied}
use Rattle.nsi_world.specs.Worlds.{Homes, World}
use Rattle.nsi_world.specs.Runs.{world_after}
use Rattle.nsi_world.specs.Heard.{IsFair}
use Rattle.nsi_world.specs.Seats.{Stands, AreFree, Not, Later, GoesLater}
use Rattle.nsi_world.specs.Nets.{numbers, AreDistinct, IsTold, AllStand, NetGoesOn}
use Rattle.nsi_world.proofs.Given.{Given}
use Rattle.nsi_world.proofs.Later.{later_none, later_twice, later_fewer, stands_later, free_append, after_append}
use Rattle.nsi_world.proofs.Steps.{later_goes}
use Rattle.nsi_world.proofs.DoorSteps.{doors_through, doors_learn}
use Rattle.nsi_world.proofs.TurnSteps.{goes_turned}

-- the number isn't among these
abbrev pub IsAbsent : ℕ → List ℕ → Type 0
IsAbsent a ns = All (λ m. m ≢ a) ns

pub first_apart : (n : ℕ) (ns : List ℕ) → AreDistinct (n ∷ ns) → IsAbsent n ns
unfolding AreDistinct
first_apart n ns d = d.0

pub rest_apart : (n : ℕ) (ns : List ℕ) → AreDistinct (n ∷ ns) → AreDistinct ns
unfolding AreDistinct
rest_apart n ns d = d.1

all_later : (homes : Homes) (clock a : ℕ) (w v : World) (ss : Net) → IsAbsent a (numbers ss) → Later (Not a) w v → All (Stands homes clock w) ss → All (Stands homes clock v) ss
all_later homes clock a w v [] n f h = All-nil (Stands homes clock v)
all_later homes clock a w v (s ∷ ss) n f h =
    All-cons (Stands homes clock v) s ss (stands_later homes clock (Not a) w v s (All-head (λ m. m ≢ a) s.number (numbers ss) n) f (All-head (Stands homes clock w) s ss h))
    (all_later homes clock a w v ss (All-tail (λ m. m ≢ a) s.number (numbers ss) n) f (All-tail (Stands homes clock w) s ss h))

-- nobody of the net
abbrev pub Without : Net → ℕ → Type 0
Without net b = IsAbsent b (numbers net)

pub record Walk (homes : Homes) (clock : ℕ) (w : World) (old new : Net) : Type 0 where
  pub own : List Event
  pub events : events_of new ≡ own
  pub free : AreFree homes w own
  pub later : Later (Without old) w (world_after w own)
  pub numbers : numbers new ≡ numbers old
  pub stand : All (Stands homes clock (world_after w own)) new
  pub fair : IsFair homes (world_after w own)

not_first : (a : ℕ) (s : Seat) (ss : Net) → Without (s ∷ ss) a → Not s.number a
not_first a s ss n e = All-head (λ m. m ≢ a) s.number (numbers ss) n (sym e)

-- what an agent does in each world that events of runs make
abbrev pub Goes : Homes → ℕ → (Seat → Seat) → Seat → Type 0
Goes homes clock f s = (w : World) → Stands homes clock w s → IsFair homes w → GoesLater homes clock w s (f s)

-- each agent goes on, one after another
pub walk : (homes : Homes) (clock : ℕ) (f : Seat → Seat) (w : World) (net : Net) → All (Goes homes clock f) net → AreDistinct (numbers net) → All IsTold net → All (Stands homes clock w) net → IsFair homes w
    → Walk homes clock w net (map f net)
unfolding world_after AreFree
walk homes clock f w [] goes d told h fair =
    record { own = []; events = refl; free = tt; later = later_none (Without []) w; numbers = refl; stand = All-nil (Stands homes clock w); fair = fair }
walk homes clock f w (s ∷ ss) goes d told h fair =
    let absent = first_apart s.number (numbers ss) d in
    let p = All-head (Goes homes clock f) s ss goes w (All-head (Stands homes clock w) s ss h) fair in
    let v : World = world_after w p.own in
    let q = walk homes clock f v ss (All-tail (Goes homes clock f) s ss goes) (rest_apart s.number (numbers ss) d) (All-tail IsTold s ss told)
    (all_later homes clock s.number w v ss absent p.later (All-tail (Stands homes clock w) s ss h)) p.fair in
    let u : World = world_after v q.own in
    record {
      own = p.own ++ q.own;
      events = ap (λ es. es ++ events_of (map f ss)) (p.events ∙ ap (λ es. es ++ p.own) (All-head IsTold s ss told)) ∙ ap (λ es. p.own ++ es) q.events;
      free = free_append homes w p.own q.own p.free q.free;
      later = subst (λ z. Later (Without (s ∷ ss)) w z) (sym (after_append w p.own q.own))
          (later_twice (Without (s ∷ ss)) w v u (later_fewer (Not s.number) (Without (s ∷ ss)) w v (λ b n. not_first b s ss n) p.later)
          (later_fewer (Without ss) (Without (s ∷ ss)) v u (λ b n. All-tail (λ m. m ≢ b) s.number (numbers ss) n) q.later));
      numbers = ap (λ n. n ∷ numbers (map f ss)) p.number ∙ ap (λ ns. s.number ∷ ns) q.numbers;
      stand = subst (λ z. All (Stands homes clock z) (f s ∷ map f ss)) (sym (after_append w p.own q.own))
          (All-cons (Stands homes clock u) (f s) (map f ss) (stands_later homes clock (Without ss) v u (f s) (subst (λ n. IsAbsent n (numbers ss)) (sym p.number) absent) q.later p.stands) q.stand);
      fair = subst (λ z. IsFair homes z) (sym (after_append w p.own q.own)) q.fair;
    }

---- Meetings

met_stands : (homes : Homes) (clock : ℕ) (w : World) (o s : Seat) → Stands homes clock w o → Stands homes clock w s → Stands homes clock w (met o s)
unfolding met
met_stands homes clock w o s p h = record {
  agent = h.agent;
  journal = h.journal;
  synced = h.synced;
  past = h.past;
  state = h.state;
  unsaid = h.unsaid;
  doors = doors_learn homes w s.number o.number (let_through s.number o.doors) s.doors (doors_through homes w o.number s.number o.doors p.doors) h.doors;
  in_time = h.in_time;
}

meets_stands : (homes : Homes) (clock : ℕ) (w : World) (s : Seat) (os : Net) → All (Stands homes clock w) os → Stands homes clock w s → Stands homes clock w (meets_each s os)
unfolding meets_each
meets_stands homes clock w s [] p h = h
meets_stands homes clock w s (o ∷ os) p h =
    meets_stands homes clock w (met o s) os (All-tail (Stands homes clock w) o os p) (met_stands homes clock w o s (All-head (Stands homes clock w) o os p) h)

met_number : (o s : Seat) → (met o s).number ≡ s.number
unfolding met
met_number o s = refl

met_events : (o s : Seat) → (met o s).events ≡ s.events
unfolding met
met_events o s = refl

meets_number : (s : Seat) (os : Net) → (meets_each s os).number ≡ s.number
unfolding meets_each
meets_number s [] = refl
meets_number s (o ∷ os) = meets_number (met o s) os ∙ met_number o s

meets_events : (s : Seat) (os : Net) → (meets_each s os).events ≡ s.events
unfolding meets_each
meets_events s [] = refl
meets_events s (o ∷ os) = meets_events (met o s) os ∙ met_events o s

numbers_met : (all net : Net) → numbers (map (meets_all all) net) ≡ numbers net
numbers_met all [] = refl
numbers_met all (s ∷ ss) = ap (λ n. n ∷ numbers (map (meets_all all) ss)) (meets_number s all) ∙ ap (λ ns. s.number ∷ ns) (numbers_met all ss)

pub events_met : (all net : Net) → events_of (map (meets_all all) net) ≡ events_of net
events_met all [] = refl
events_met all (s ∷ ss) = ap (λ es. es ++ events_of (map (meets_all all) ss)) (meets_events s all) ∙ ap (λ es. s.events ++ es) (events_met all ss)

-- meeting is no event
pub events_round : (homes : Homes) (net : Net) → events_of (round homes net) ≡ events_of (turned_all homes net)
unfolding round
events_round homes net = events_met (turned_all homes net) (turned_all homes net)

met_all_stand : (homes : Homes) (clock : ℕ) (w : World) (all : Net) → All (Stands homes clock w) all → All (Stands homes clock w) (met_all all)
met_all_stand homes clock w all h = All-map (Stands homes clock w) (meets_all all) all (All-weaker (Stands homes clock w) (λ s. Stands homes clock w (meets_all all s)) (λ s k. meets_stands homes clock w s all h k) all h)

---- What has happened is taken away

tells_stands : (homes : Homes) (clock : ℕ) (w : World) (s : Seat) → Stands homes clock w s → Stands homes clock w (tells s)
tells_stands homes clock w s h = record { agent = h.agent; journal = h.journal; synced = h.synced; past = h.past; state = h.state; unsaid = h.unsaid; doors = h.doors; in_time = h.in_time }

emptied_stand : (homes : Homes) (clock : ℕ) (w : World) (net : Net) → All (Stands homes clock w) net → All (Stands homes clock w) (emptied net)
emptied_stand homes clock w net h = All-map (Stands homes clock w) tells net (All-weaker (Stands homes clock w) (λ s. Stands homes clock w (tells s)) (tells_stands homes clock w) net h)

pub emptied_told : (net : Net) → All IsTold (emptied net)
emptied_told [] = All-nil IsTold
emptied_told (s ∷ ss) = All-cons IsTold (tells s) (emptied ss) refl (emptied_told ss)

pub emptied_numbers : (net : Net) → numbers (emptied net) ≡ numbers net
emptied_numbers [] = refl
emptied_numbers (s ∷ ss) = ap (λ ns. s.number ∷ ns) (emptied_numbers ss)

---- A round, and an act

-- one step of every agent, and then what has happened is taken away
pub step_goes : (homes : Homes) (clock : ℕ) (f : Seat → Seat) (w : World) (net : Net) → All (Goes homes clock f) net → AllStand homes clock w net
    → NetGoesOn homes clock w net (events_of (map f net)) (emptied (map f net))
step_goes homes clock f w net goes h =
    let p = walk homes clock f w net goes h.distinct h.told h.stand h.fair in
    let v : World = world_after w p.own in
    let same : numbers (emptied (map f net)) ≡ numbers net = emptied_numbers (map f net) ∙ p.numbers in
    let stand : AllStand homes clock v (emptied (map f net)) = record {
      distinct = subst AreDistinct (sym same) h.distinct;
      told = emptied_told (map f net);
      stand = emptied_stand homes clock v (map f net) p.stand;
      fair = p.fair;
    } in
    subst (λ es. NetGoesOn homes clock w net es (emptied (map f net))) (sym p.events) (record { free = p.free; numbers = same; stand = stand })

any_turn : (homes : Homes) → Given homes → (clock : ℕ) (net : Net) → All (Goes homes clock (turned_in homes)) net
any_turn homes given clock [] = All-nil (Goes homes clock (turned_in homes))
any_turn homes given clock (s ∷ ss) = All-cons (Goes homes clock (turned_in homes)) s ss (λ w h fair. later_goes homes clock w s (turned_in homes s) (goes_turned homes given clock w s h fair)) (any_turn homes given clock ss)

round_is : (homes : Homes) (net : Net) → round homes net ≡ met_all (turned_all homes net)
unfolding round
round_is homes net = refl

-- one step of every agent, then each learns what was let through to it, and then what has happened is taken away
pub met_goes : (homes : Homes) (clock : ℕ) (f : Seat → Seat) (w : World) (net : Net) → All (Goes homes clock f) net → AllStand homes clock w net
    → NetGoesOn homes clock w net (events_of (met_all (map f net))) (emptied (met_all (map f net)))
met_goes homes clock f w net goes h =
    let p = walk homes clock f w net goes h.distinct h.told h.stand h.fair in
    let v : World = world_after w p.own in
    let x : Net = map f net in
    let same : numbers (emptied (met_all x)) ≡ numbers net = emptied_numbers (met_all x) ∙ (numbers_met x x ∙ p.numbers) in
    let stand : AllStand homes clock v (emptied (met_all x)) = record {
      distinct = subst AreDistinct (sym same) h.distinct;
      told = emptied_told (met_all x);
      stand = emptied_stand homes clock v (met_all x) (met_all_stand homes clock v x p.stand);
      fair = p.fair;
    } in
    let all : NetGoesOn homes clock w net p.own (emptied (met_all x)) = record { free = p.free; numbers = same; stand = stand } in
    subst (λ es. NetGoesOn homes clock w net es (emptied (met_all x))) (sym (events_met x x ∙ p.events)) all

pub round_goes : (homes : Homes) → Given homes → (clock : ℕ) (w : World) (net : Net) → AllStand homes clock w net → NetGoesOn homes clock w net (events_of (round homes net)) (emptied (round homes net))
round_goes homes given clock w net h =
    subst (λ (y : Net). NetGoesOn homes clock w net (events_of y) (emptied y)) (sym (round_is homes net)) (met_goes homes clock (turned_in homes) w net (any_turn homes given clock net) h)
