-- All agents between two rounds, and what rounds, ticks and acts make of them.
use Rattle.std.proofs.Common.{ℕ, zero, suc, ◌+◌, ◌<◌, ◌≤◌, ◌≡◌, ◌≢◌, false, true, List, [], ◌∷◌, ◌++◌, inl, inr, refl, sym, ap, ◌∙◌, subst, arith, length, map}
use Rattle.std.specs.List.{All, Contains, range_with_len}
use Rattle.std.proofs.lemmas.List.Elements.{All-nil, All-cons, All-weaker}
use Rattle.nsi_primitive.specs.declared.entry.Entry.{Entry}
use Rattle.nsi_primitive.specs.declared.entry.Event.{Event}
use Rattle.stp_topology.specs.declared.network.Network.{Network}
use Rattle.nsi_agent.specs.Homes.{Routes, home_in}
use Rattle.agent_node.specs.Doors.{Door}
use Rattle.agent_node.specs.Passing.{others}
use Rattle.agent_node.specs.Openings.{agents}
use Rattle.agent_node.specs.Seat.{Seat}
use Rattle.nsi_play.specs.Play.{ticked_in}
use Rattle.nsi_play.specs.Rounds.{Net, all_quiet, turned_in, turned_all, meets_each, meets_all, met_all, round, events_of, tells, emptied}
use Rattle.nsi_play.specs.Openings.{Plans}
use Rattle.nsi_world.specs.Worlds.{empty}
use Rattle.nsi_world.specs.Runs.{world_after}
use Rattle.nsi_world.specs.Seats.{AreFree}
use Rattle.nsi_world.specs.Nets.{numbers, AreDistinct, IsTold}
use Rattle.nsi_world.proofs.Acked.{AcksAreOfGot, acks_are_of_got}
use Rattle.settled_play.proofs.Finding.{door_to, door_found, none_there, first_there, later_there, first_or_later, mapped_there}
use Rattle.settled_play.proofs.Links.{Given, agent_there, others_within, linked_back}
use Rattle.settled_play.proofs.Putting.{counted, ahead}
use Rattle.settled_play.proofs.Steps.{entered_in, IsOwn, Sits}
use Rattle.settled_play.proofs.Moves.{mapped_from, Moves, Turns, move_turned, Stays, move_ticked}
use Rattle.settled_play.specs.Settled.{cut_off}
use Rattle.settled_play.proofs.Pairs.{IsWithin, within_met, Pair, HasNone, pair_first, pair_second, pair_meets}
use Rattle.settled_play.proofs.Meetings.{meets_is, meets_others, meets_plan, meets_at, meets_doors, meets_cross}
use Rattle.settled_play.proofs.Journals.{entered_at, AreOwn, net_entered, net_goes_on, journal_at, journal_more}
use Rattle.settled_play.proofs.Cuts.{IsPlain, KeepsPlain, cut_same, plain_turned, plain_net}
use Rattle.settled_play.proofs.Quiet.{no_entries, quiet_one, quiet_parts}
use Rattle.settled_play.proofs.Afresh.{pair_afresh, ticked_spoken, acked_was_got}

---- Numbers

ranged : (a n : ℕ) → All (λ b. a ≤ b) (range_with_len a n)
ranged a zero = All-nil (λ b. a ≤ b)
ranged a (suc n) = All-cons (λ b. a ≤ b) a (range_with_len (a + 1) n) (omega arith) (All-weaker (λ b. a + 1 ≤ b) (λ b. a ≤ b) (λ b h. omega (arith, h)) (range_with_len (a + 1) n) (ranged (a + 1) n))

above : (a b : ℕ) → a + 1 ≤ b → b ≢ a
above a b h e = omega (arith, h, e)

range_apart : (a n : ℕ) → AreDistinct (range_with_len a n)
unfolding AreDistinct
range_apart a zero = tt
range_apart a (suc n) = (All-weaker (λ b. a + 1 ≤ b) (λ b. b ≢ a) (λ b h. above a b h) (range_with_len (a + 1) n) (ranged (a + 1) n), range_apart (a + 1) n)

pub all_apart : (t : Network) (net : Net) → numbers net ≡ agents t → AreDistinct (numbers net)
all_apart t net e = subst AreDistinct (sym e) (range_apart 0 (length t.agents))

pub numbered : (net : Net) (b : ℕ) → Contains (numbers net) b → (s : Seat) × Contains net s × (s.number ≡ b)
numbered [] b c = absurd (none_there b c)
numbered (s ∷ ss) b c = elim (first_or_later s.number (numbers ss) b c) [
  | inl e ↦ (s, first_there s ss, e)
  | inr r ↦ let x = numbered ss b r in (x.0, later_there s ss x.0 x.1, x.2)
]

---- Between two rounds

-- what an agent has taken, as these events tell
abbrev pub SitsIn : Network → Routes → List Event → Seat → Type 0
SitsIn t routes past s = Sits t routes s.number (journal_at s.number past) [] s

abbrev pub PairIn : Network → Routes → Plans → List Event → Seat → Seat → Type 0
PairIn t routes plans past s u = Pair t routes plans s.number u.number (journal_at s.number past) (journal_at u.number past) [] [] s u

-- so they are, where the one isn't cut off from the other one
abbrev pub PairIf : Network → Routes → Plans → List Event → Seat → Seat → Type 0
PairIf t routes plans past s u = cut_off s.number u.number past ≡ false → PairIn t routes plans past s u

-- no more of its plans is used up than there was
abbrev pub AllWithin : Plans → Seat → Type 0
AllWithin plans s = (b : ℕ) → IsWithin (plans s.number b) b [] s

-- nothing is on its way through a link
abbrev pub HasMetAll : Seat → Type 0
HasMetAll s = (b : ℕ) → (door_to b s.doors).out ≡ []

-- all agents of a topology, of which these events have told: what holds always, and what holds of two where the one isn't cut off
pub record Rests (t : Network) (routes : Routes) (plans : Plans) (past : List Event) (net : Net) : Type 0 where
  pub numbers : numbers net ≡ agents t
  pub told : (s : Seat) → Contains net s → IsTold s
  pub sits : (s : Seat) → Contains net s → SitsIn t routes past s
  pub met : (s : Seat) → Contains net s → HasMetAll s
  pub within : (s : Seat) → Contains net s → AllWithin plans s
  pub pairs : (s u : Seat) → Contains net s → Contains net u → PairIf t routes plans past s u

---- One step of each

-- each has made a step, of which nobody was told yet
pub record Goes (t : Network) (routes : Routes) (past : List Event) (f : Seat → Seat) (net : Net) : Type 0 where
  pub moves : (s : Seat) → Contains net s → Moves t routes s.number (journal_at s.number past) [] [] s (f s)

same_number : (t : Network) (routes : Routes) (past : List Event) (f : Seat → Seat) (net : Net) → Goes t routes past f net → (s : Seat) → Contains net s → (f s).number ≡ s.number
same_number t routes past f net g s c = (g.moves s c).step.sits.number

pub same_numbers : (f : Seat → Seat) (net : Net) → ((s : Seat) → Contains net s → (f s).number ≡ s.number) → numbers (map f net) ≡ numbers net
same_numbers f [] e = refl
same_numbers f (s ∷ ss) e = ap (λ n. n ∷ numbers (map f ss)) (e s (first_there s ss)) ∙ ap (λ ns. s.number ∷ ns) (same_numbers f ss (λ x c. e x (later_there s ss x c)))

none_own : (a : ℕ) (es : List Event) → es ≡ [] → All (IsOwn a) es
none_own a es e = subst (All (IsOwn a)) (sym e) (All-nil (IsOwn a))

map_own : {plans : Plans} (t : Network) (routes : Routes) (past : List Event) (f : Seat → Seat) (net : Net) → Rests t routes plans past net → Goes t routes past f net → AreOwn (map f net)
map_own {plans} t routes past f net r g u c =
    let x = mapped_from f net u c in
    let s : Seat = x.0 in
    let m = g.moves s x.1 in
    subst (λ (z : Seat). All (IsOwn z.number) z.events) x.2 (subst (λ n. All (IsOwn n) (f s).events) (sym (same_number t routes past f net g s x.1)) (m.step.own (none_own s.number s.events (r.told s x.1))))

-- its journal after the step
journal_is : {plans : Plans} (t : Network) (routes : Routes) (past : List Event) (f : Seat → Seat) (net : Net) → Rests t routes plans past net → (g : Goes t routes past f net) → (s : Seat) → (c : Contains net s)
    → journal_at (f s).number (past ++ events_of (map f net)) ≡ (g.moves s c).journal
journal_is {plans} t routes past f net r g s c =
    let n : ℕ = s.number in
    let u : Seat = f s in
    let p = (g.moves s c).step in
    let distinct = subst AreDistinct (sym (same_numbers f net (same_number t routes past f net g))) (all_apart t net r.numbers) in
    let own : entered_at u.number (events_of (map f net)) ≡ entered_in u.events = net_entered u (map f net) distinct (map_own t routes past f net r g) (mapped_there f net s c) in
    let made : entered_in u.events ≡ p.made = p.events ∙ ap (λ es. entered_in es ++ p.made) (r.told s c) in
    journal_more u.number past (events_of (map f net)) (net_goes_on (map f net) (map_own t routes past f net r g))
    ∙ (ap (λ es. journal_at u.number past ++ es) (own ∙ made) ∙ (ap (λ k. journal_at k past ++ p.made) (same_number t routes past f net g s c) ∙ sym p.grows))

pub sits_as : (t : Network) (routes : Routes) (a b : ℕ) (js ks : List Entry) (s : Seat) → b ≡ a → ks ≡ js → Sits t routes a js [] s → Sits t routes b ks [] s
sits_as t routes a b js ks s e q h = subst (λ n. Sits t routes n ks [] s) (sym e) (subst (λ es. Sits t routes a es [] s) (sym q) h)

pub pair_as : {plans : Plans} (t : Network) (routes : Routes) (a c b d : ℕ) (js ls ks ms : List Entry) (s u : Seat) → c ≡ a → d ≡ b → ls ≡ js → ms ≡ ks → Pair t routes plans a b js ks [] [] s u → Pair t routes plans c d ls ms [] [] s u
pair_as {plans} t routes a c b d js ls ks ms s u e f p q h =
    subst (λ n. Pair t routes plans n d ls ms [] [] s u) (sym e) (subst (λ n. Pair t routes plans a n ls ms [] [] s u) (sym f) (subst (λ es. Pair t routes plans a b es ms [] [] s u) (sym p) (subst (λ es. Pair t routes plans a b js es [] [] s u) (sym q) h)))

step_sits : {plans : Plans} (t : Network) (routes : Routes) (past : List Event) (f : Seat → Seat) (net : Net) → Rests t routes plans past net → Goes t routes past f net → (s : Seat) → Contains net s → SitsIn t routes (past ++ events_of (map f net)) (f s)
step_sits {plans} t routes past f net r g s c =
    let m = g.moves s c in
    sits_as t routes s.number (f s).number m.journal (journal_at (f s).number (past ++ events_of (map f net))) (f s) (same_number t routes past f net g s c) (journal_is t routes past f net r g s c) m.step.sits

step_within : {plans : Plans} (t : Network) (routes : Routes) (past : List Event) (f : Seat → Seat) (net : Net) → Rests t routes plans past net → Goes t routes past f net → (s : Seat) → Contains net s → AllWithin plans (f s)
step_within {plans} t routes past f net r g s c b n =
    let p = (g.moves s c).step.planned b n in
    let h = r.within s c b n in
    subst (λ k. counted n [] + ahead n (door_to b (f s).doors).plan ≤ ahead n (plans k b)) (sym (same_number t routes past f net g s c)) (omega (arith, p, h))

-- what neither ticks nor restarts keeps each pair
step_pairs : {plans : Plans} (t : Network) (routes : Routes) (past : List Event) (f : Seat → Seat) (net : Net) → Rests t routes plans past net → Goes t routes past f net → All IsPlain (events_of (map f net)) → (s u : Seat) → Contains net s → Contains net u
    → PairIf t routes plans (past ++ events_of (map f net)) (f s) (f u)
step_pairs {plans} t routes past f net r g plain s u c d cut =
    let m = g.moves s c in
    let n = g.moves u d in
    let later : List Event = past ++ events_of (map f net) in
    let was : cut_off s.number u.number past ≡ false =
    subst (λ k. cut_off k u.number past ≡ false) (same_number t routes past f net g s c)
    (subst (λ k. cut_off (f s).number k past ≡ false) (same_number t routes past f net g u d) (sym (cut_same (f s).number (f u).number past (events_of (map f net)) plain) ∙ cut)) in
    let one = pair_first t routes s.number u.number (journal_at s.number past) m.journal (journal_at u.number past) [] [] [] s (f s) u m.step (r.pairs s u c d was) in
    let two = pair_second t routes s.number u.number m.journal (journal_at u.number past) n.journal [] [] [] (f s) u (f u) n.step one in
    pair_as t routes s.number (f s).number u.number (f u).number m.journal (journal_at (f s).number later) n.journal (journal_at (f u).number later) (f s) (f u) (same_number t routes past f net g s c) (same_number t routes past f net g u d)
    (journal_is t routes past f net r g s c) (journal_is t routes past f net r g u d) two

---- What has happened is told

sits_told : (t : Network) (routes : Routes) (past : List Event) (s : Seat) → SitsIn t routes past s → SitsIn t routes past (tells s)
sits_told t routes past s h = record { number = h.number; within = h.within; state = h.state; clear = h.clear; unsaid = h.unsaid; others = h.others; doors = h.doors; heard = h.heard; held = h.held }

pair_told : {plans : Plans} (t : Network) (routes : Routes) (past : List Event) (s u : Seat) → PairIn t routes plans past s u → PairIn t routes plans past (tells s) (tells u)
pair_told {plans} t routes past s u p = record { there = p.there; back = p.back; within = p.within; within_back = p.within_back; heard = p.heard; acked = p.acked }

emptied_numbers : (net : Net) → numbers (emptied net) ≡ numbers net
emptied_numbers [] = refl
emptied_numbers (s ∷ ss) = ap (λ ns. s.number ∷ ns) (emptied_numbers ss)

-- all told, from what is so of each before
pub told_all : {plans : Plans} (t : Network) (routes : Routes) (past : List Event) (net : Net) → numbers net ≡ agents t → ((s : Seat) → Contains net s → SitsIn t routes past s) → ((s : Seat) → Contains net s → HasMetAll s)
    → ((s : Seat) → Contains net s → AllWithin plans s) → ((s u : Seat) → Contains net s → Contains net u → PairIf t routes plans past s u) → Rests t routes plans past (emptied net)
told_all {plans} t routes past net e sits met within pairs = record {
  numbers = emptied_numbers net ∙ e;
  told = λ u c. let x = mapped_from tells net u c in subst IsTold x.2 refl;
  sits = λ u c. let x = mapped_from tells net u c in subst (SitsIn t routes past) x.2 (sits_told t routes past x.0 (sits x.0 x.1));
  met = λ u c. let x = mapped_from tells net u c in subst HasMetAll x.2 (met x.0 x.1);
  within = λ u c. let x = mapped_from tells net u c in subst (AllWithin plans) x.2 (within x.0 x.1);
  pairs = λ u v c d.
      let x = mapped_from tells net u c in
      let y = mapped_from tells net v d in
      subst (λ z. PairIf t routes plans past z v) x.2 (subst (PairIf t routes plans past (tells x.0)) y.2 (λ cut. pair_told t routes past x.0 y.0 (pairs x.0 y.0 x.1 y.1 cut)));
}

---- A tick of each, or an act

-- each stays at its links
abbrev pub StaysAll : Network → Routes → (Seat → Seat) → Type 0
StaysAll t routes f = (js : List Entry) (s : Seat) → Sits t routes s.number js [] s → Stays t routes s.number js s (f s)

none_plain : (es : List Event) → es ≡ [] → All IsPlain es
none_plain es e = subst (All IsPlain) (sym e) (All-nil IsPlain)

plain_map : {plans : Plans} (t : Network) (routes : Routes) (past : List Event) (f : Seat → Seat) (net : Net) → Rests t routes plans past net → ((s : Seat) → Contains net s → All IsPlain s.events → All IsPlain (f s).events) → All IsPlain (events_of (map f net))
plain_map {plans} t routes past f net r keeps = plain_net f net (λ s c. keeps s c (none_plain s.events (r.told s c)))

-- all told behind a tick or an act, where it is so of each pair
stay_rests : {plans : Plans} (t : Network) (routes : Routes) (past : List Event) (f : Seat → Seat) (net : Net) → (stays : StaysAll t routes f) → (r : Rests t routes plans past net)
    → ((s u : Seat) → Contains net s → Contains net u → PairIf t routes plans (past ++ events_of (map f net)) (f s) (f u)) → Rests t routes plans (past ++ events_of (map f net)) (emptied (map f net))
stay_rests {plans} t routes past f net stays r pairs =
    let g : Goes t routes past f net = record { moves = λ s c. (stays (journal_at s.number past) s (r.sits s c)).moves } in
    let later : List Event = past ++ events_of (map f net) in
    told_all t routes later (map f net) (same_numbers f net (same_number t routes past f net g) ∙ r.numbers)
    (λ u c. let x = mapped_from f net u c in subst (SitsIn t routes later) x.2 (step_sits t routes past f net r g x.0 x.1))
    (λ u c. let x = mapped_from f net u c in subst HasMetAll x.2 (λ b. (stays (journal_at x.0.number past) x.0 (r.sits x.0 x.1)).out b ∙ r.met x.0 x.1 b))
    (λ u c. let x = mapped_from f net u c in subst (AllWithin plans) x.2 (step_within t routes past f net r g x.0 x.1))
    (λ u v c d.
    let x = mapped_from f net u c in
    let y = mapped_from f net v d in
    subst (λ z. PairIf t routes plans later z v) x.2 (subst (PairIf t routes plans later (f x.0)) y.2 (pairs x.0 y.0 x.1 y.1)))

pub act_rests : {plans : Plans} (t : Network) (routes : Routes) (past : List Event) (f : Seat → Seat) (net : Net) → StaysAll t routes f → KeepsPlain f → Rests t routes plans past net
    → Rests t routes plans (past ++ events_of (map f net)) (emptied (map f net))
act_rests {plans} t routes past f net stays keeps r =
    let g : Goes t routes past f net = record { moves = λ s c. (stays (journal_at s.number past) s (r.sits s c)).moves } in
    stay_rests t routes past f net stays r (step_pairs t routes past f net r g (plain_map t routes past f net r (λ s c. keeps s)))

-- A tick of all quiet agents makes each pair afresh, whether it was cut off or not.
pub tick_rests : {plans : Plans} (t : Network) (routes : Routes) → Given t routes → (past : List Event) (second : ℕ) (net : Net) → all_quiet (home_in t routes) net ≡ true
    → AreFree (home_in t routes) empty (past ++ events_of (map (ticked_in second (home_in t routes)) net)) → Rests t routes plans past net
    → Rests t routes plans (past ++ events_of (map (ticked_in second (home_in t routes)) net)) (emptied (map (ticked_in second (home_in t routes)) net))
tick_rests {plans} t routes given past second net quiet free r =
    let f : Seat → Seat = ticked_in second (home_in t routes) in
    let later : List Event = past ++ events_of (map f net) in
    let stays : StaysAll t routes f = λ js s h. move_ticked t routes given s.number second js s h in
    let g : Goes t routes past f net = record { moves = λ s c. (stays (journal_at s.number past) s (r.sits s c)).moves } in
    let got : AcksAreOfGot (home_in t routes) (world_after empty later) = acks_are_of_got (home_in t routes) later free in
    stay_rests t routes past f net stays r (λ s u c d cut.
    let q = quiet_parts (home_in t routes s.number) s (quiet_one (home_in t routes) net s quiet c) in
    let h = r.sits s c in
    pair_afresh t routes (f s).number (f u).number (journal_at (f s).number later) (journal_at (f u).number later) (f s) (f u) (step_sits t routes past f net r g s c).state
    (ticked_spoken t routes given s.number second (f u).number (journal_at s.number past) s h (h.clear (no_entries s.fresh q.0)) q.1)
    (acked_was_got t routes (world_after empty later) (f s).number (f u).number got)
    (step_within t routes past f net r g s c (f u).number) (step_within t routes past f net r g u d (f s).number))

---- A round

-- after a meeting of all
sits_met : (t : Network) (routes : Routes) (past : List Event) (all : Net) → ((s : Seat) → Contains all s → SitsIn t routes past s) → (s : Seat) → Contains all s → SitsIn t routes past (meets_each s all)
sits_met t routes past all sits s c =
    let h = sits s c in
    let ds : List Door = (meets_each s all).doors in
    subst (SitsIn t routes past) (sym (meets_is s all)) (record {
      number = refl;
      within = h.within;
      state = h.state;
      clear = h.clear;
      unsaid = h.unsaid;
      others = meets_others s all ∙ h.others;
      doors = meets_doors t s.number s all refl (λ o k. (sits o k).doors) h.doors;
      heard = h.heard;
      held = h.held;
    })

links_back : (t : Network) (routes : Routes) (past : List Event) (s u : Seat) → SitsIn t routes past s → SitsIn t routes past u → Contains (others s.doors) u.number → Contains (others u.doors) s.number
links_back t routes past s u h k c = subst (λ ns. Contains ns s.number) (sym k.others) (linked_back t s.number u.number h.within (subst (λ ns. Contains ns u.number) h.others c))

pair_met : {plans : Plans} (t : Network) (routes : Routes) (past : List Event) (all : Net) → AreDistinct (numbers all) → ((s : Seat) → Contains all s → SitsIn t routes past s) → ((s : Seat) → Contains all s → HasNone s.doors) → (s u : Seat) → Contains all s → Contains all u
    → PairIf t routes plans past s u → PairIf t routes plans past (meets_each s all) (meets_each u all)
pair_met {plans} t routes past all distinct sits none s u c d p cut =
    let v : Seat = meets_each s all in
    let x : Seat = meets_each u all in
    let there = meets_cross s u all distinct c d (links_back t routes past s u (sits s c) (sits u d)) in
    let back = meets_cross u s all distinct d c (links_back t routes past u s (sits u d) (sits s c)) in
    let ns : v.number ≡ s.number = ap (λ (z : Seat). z.number) (meets_is s all) in
    let nu : x.number ≡ u.number = ap (λ (z : Seat). z.number) (meets_is u all) in
    let was : cut_off s.number u.number past ≡ false = subst (λ n. cut_off n u.number past ≡ false) ns (subst (λ n. cut_off v.number n past ≡ false) nu cut) in
    let q = pair_meets t routes s.number u.number (journal_at s.number past) (journal_at u.number past) s u v x (none s c) (none u d) (ap (λ (z : Seat). z.unsaid) (meets_is s all)) (meets_plan u.number s all) (meets_plan s.number u all) there back (p was) in
    pair_as t routes s.number v.number u.number x.number (journal_at s.number past) (journal_at v.number past) (journal_at u.number past) (journal_at x.number past) v x ns nu (ap (λ n. journal_at n past) ns) (ap (λ n. journal_at n past) nu) q

within_meets : (plans : Plans) (all : Net) (s : Seat) → AllWithin plans s → AllWithin plans (meets_each s all)
within_meets plans all s h b =
    subst (λ k. IsWithin (plans k b) b [] (meets_each s all)) (sym (ap (λ (z : Seat). z.number) (meets_is s all))) (within_met (plans s.number b) b [] s (meets_each s all) (meets_plan b s all) (h b))

met_met : (t : Network) (routes : Routes) (past : List Event) (all : Net) → numbers all ≡ agents t → ((s : Seat) → Contains all s → SitsIn t routes past s) → (s : Seat) → Contains all s → HasMetAll (meets_each s all)
met_met t routes past all e sits s c b = elim (door_found b (meets_each s all).doors) [
  | inl q ↦ ap (λ (d : Door). d.out) q
  | inr k ↦
      let link : Contains (others s.doors) b = subst (λ ns. Contains ns b) (meets_others s all) k in
      let near : b < length t.agents = others_within t s.number b (subst (λ ns. Contains ns b) (sits s c).others link) in
      let x = numbered all b (subst (λ ns. Contains ns b) (sym e) (agent_there t b near)) in
      let here = meets_at x.0 s all (all_apart t all e) x.1 (subst (Contains (others s.doors)) (sym x.2) link) in
      ap (λ n. (door_to n (meets_each s all).doors).out) (sym x.2) ∙ ap (λ (d : Door). d.out) here
]

events_met : (all net : Net) → events_of (map (meets_all all) net) ≡ events_of net
events_met all [] = refl
events_met all (s ∷ ss) = ap (λ es. es ++ events_of (map (meets_all all) ss)) (ap (λ (u : Seat). u.events) (meets_is s all)) ∙ ap (λ es. s.events ++ es) (events_met all ss)

round_is : (t : Network) (routes : Routes) (net : Net) → round (home_in t routes) net ≡ met_all (turned_all (home_in t routes) net)
unfolding round
round_is t routes net = refl

-- A step of each that takes all that lies at its doors and neither ticks nor restarts, and a meeting: of a turn, or of one that ends before its sync.
pub met_rests : {plans : Plans} (t : Network) (routes : Routes) (past : List Event) (f : Seat → Seat) (net : Net) → Rests t routes plans past net → ((s : Seat) → Contains net s → Turns t routes s.number (journal_at s.number past) s (f s))
    → ((s : Seat) → Contains net s → All IsPlain s.events → All IsPlain (f s).events) → Rests t routes plans (past ++ events_of (map f net)) (emptied (met_all (map f net)))
met_rests {plans} t routes past f net r turns keeps =
    let all : Net = map f net in
    let later : List Event = past ++ events_of all in
    let g : Goes t routes past f net = record { moves = λ s c. (turns s c).moves } in
    let ns : numbers all ≡ agents t = same_numbers f net (same_number t routes past f net g) ∙ r.numbers in
    let distinct = all_apart t all ns in
    let sits : (u : Seat) → Contains all u → SitsIn t routes later u = λ u c. let x = mapped_from f net u c in subst (SitsIn t routes later) x.2 (step_sits t routes past f net r g x.0 x.1) in
    let none : (u : Seat) → Contains all u → HasNone u.doors = λ u c. let x = mapped_from f net u c in subst (λ (z : Seat). HasNone z.doors) x.2 (turns x.0 x.1).taken in
    let plain : All IsPlain (events_of all) = plain_map t routes past f net r keeps in
    let within : (u : Seat) → Contains all u → AllWithin plans u = λ u c. let x = mapped_from f net u c in subst (AllWithin plans) x.2 (step_within t routes past f net r g x.0 x.1) in
    let pairs : (u v : Seat) → Contains all u → Contains all v → PairIf t routes plans later u v = λ u v c d.
    let x = mapped_from f net u c in
    let y = mapped_from f net v d in
    subst (λ z. PairIf t routes plans later z v) x.2 (subst (PairIf t routes plans later (f x.0)) y.2 (step_pairs t routes past f net r g plain x.0 y.0 x.1 y.1)) in
    let met_ns : numbers (met_all all) ≡ agents t = same_numbers (meets_all all) all (λ s c. ap (λ (z : Seat). z.number) (meets_is s all)) ∙ ns in
    told_all t routes later (met_all all) met_ns
    (λ u c. let x = mapped_from (meets_all all) all u c in subst (SitsIn t routes later) x.2 (sits_met t routes later all sits x.0 x.1))
    (λ u c. let x = mapped_from (meets_all all) all u c in subst HasMetAll x.2 (met_met t routes later all ns sits x.0 x.1))
    (λ u c. let x = mapped_from (meets_all all) all u c in subst (AllWithin plans) x.2 (within_meets plans all x.0 (within x.0 x.1)))
    (λ u v c d.
    let x = mapped_from (meets_all all) all u c in
    let y = mapped_from (meets_all all) all v d in
    subst (λ z. PairIf t routes plans later z v) x.2 (subst (PairIf t routes plans later (meets_each x.0 all)) y.2 (pair_met t routes later all distinct sits none x.0 y.0 x.1 y.1 (pairs x.0 y.0 x.1 y.1))))

pub round_rests : {plans : Plans} (t : Network) (routes : Routes) → Given t routes → (past : List Event) (net : Net) → Rests t routes plans past net
    → Rests t routes plans (past ++ events_of (round (home_in t routes) net)) (emptied (round (home_in t routes) net))
round_rests {plans} t routes given past net r =
    let all : Net = turned_all (home_in t routes) net in
    let later : List Event = past ++ events_of all in
    let whole : Rests t routes plans later (emptied (met_all all)) =
    met_rests t routes past (turned_in (home_in t routes)) net r (λ s c. move_turned t routes given s.number (journal_at s.number past) s (r.sits s c)) (λ s c. plain_turned (home_in t routes s.number) s) in
    let told : events_of (round (home_in t routes) net) ≡ events_of all = ap events_of (round_is t routes net) ∙ events_met all all in
    subst (λ es. Rests t routes plans (past ++ es) (emptied (round (home_in t routes) net))) (sym told)
    (subst (λ (z : Net). Rests t routes plans later (emptied z)) (sym (round_is t routes net)) whole)
