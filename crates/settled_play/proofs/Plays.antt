-- All agents at the end of a play.
use Rattle.std.proofs.Common.{ℕ, zero, suc, ◌+◌, ◌≤◌, ◌≡◌, arith, Bool, true, false, List, [], ◌∷◌, ◌++◌, inl, inr, refl, sym, ap, ◌∙◌, subst, map, append_assoc, append-nil}
use Rattle.std.specs.List.{All, Contains}
use Rattle.std.proofs.lemmas.Bool.{cases_Bool}
use Rattle.std.proofs.lemmas.List.Elements.{All-nil, All-head, All-tail}
use Rattle.nsi_primitive.specs.declared.entry.Event.{Event}
use Rattle.stp_topology.specs.declared.network.Network.{Network}
use Rattle.nsi_agent.specs.Homes.{Routes, home_in}
use Rattle.nsi_agent.specs.Told.{goes_on, told}
use Rattle.nsi_script.specs.declared.script.Act.{Act}
use Rattle.nsi_script.specs.declared.script.Group.{Group}
use Rattle.agent_node.specs.Doors.{Door}
use Rattle.agent_node.specs.Passing.{others}
use Rattle.agent_link.specs.Plans.{Plan}
use Rattle.agent_node.specs.Openings.{agents, others_of, opened, doors_of, seat_of}
use Rattle.nsi_play.specs.Openings.{Plans, opening}
use Rattle.nsi_play.specs.Rounds.{Net, Homes, round, events_of, emptied, all_quiet}
use Rattle.nsi_play.specs.Play.{Played, behind, after_round, settles, does, acted, asks_in, asks_among, acts, ticked_in, begins, group, plays}
use Rattle.nsi_play.proofs.Settling.{settle_quiet, settle_more, settle_stop, group_is, plays_cons, plays_nil, acts_cons, acts_none, then_over, then_stopped}
use Rattle.nsi_world.specs.Worlds.{World, empty}
use Rattle.nsi_world.specs.Runs.{world_after}
use Rattle.nsi_world.specs.Seats.{AreFree}
use Rattle.nsi_world.specs.Nets.{numbers, IsTold, AllStand}
use Rattle.nsi_world.proofs.ScriptLemmas.{RiseFrom}
use Rattle.nsi_world.proofs.Given.{Given as Known}
use Rattle.nsi_world.proofs.Later.{after_append}
use Rattle.nsi_world.proofs.NetSteps.{step_goes}
use Rattle.nsi_world.proofs.ActSteps.{MayAct}
use Rattle.nsi_world.proofs.PlaySteps.{any_does, any_ticked, group_comes, stand_longer, MayActAll, first_second, rest_rise}
use Rattle.nsi_world.proofs.Acked.{free_front}
use Rattle.settled_play.proofs.Finding.{door_to, door_all, none_there}
use Rattle.settled_play.proofs.Putting.{ahead, ahead_none, counted_none}
use Rattle.settled_play.proofs.Pairs.{IsWithin}
use Rattle.settled_play.proofs.Links.{Given, Goes, IsLinked, agents_within}
use Rattle.settled_play.proofs.Steps.{IsDoor, IsInHand}
use Rattle.settled_play.proofs.Moves.{mapped_from, move_does}
use Rattle.settled_play.proofs.Cuts.{plain_does}
use Rattle.settled_play.proofs.RestartActs.{one_restarts}
use Rattle.settled_play.proofs.Rounds.{SitsIn, PairIn, PairIf, AllWithin, HasMetAll, Rests, act_rests, tick_rests, round_rests}

-- where the play has come to
abbrev pub Comes : Network → Routes → Plans → List Event → Played → Type 0
Comes t routes plans past p = Rests t routes plans (past ++ p.events) p.net

pub comes_over : {plans : Plans} (t : Network) (routes : Routes) (past : List Event) (x : Net) (b : Bool) → Rests t routes plans past x → Comes t routes plans past (record { events = []; net = x; is_over = b })
comes_over {plans} t routes past x b r = subst (λ es. Rests t routes plans es x) (sym (append-nil past)) r

pub comes_more : {plans : Plans} (t : Network) (routes : Routes) (past es : List Event) (p : Played) → Comes t routes plans (past ++ es) p → Comes t routes plans past (behind es p)
comes_more {plans} t routes past es p r = subst (λ fs. Rests t routes plans fs p.net) (append_assoc past es p.events) r

-- what has happened so far could happen
abbrev pub IsFree : Network → Routes → List Event → Type 0
IsFree t routes es = AreFree (home_in t routes) empty es

pub free_first : (t : Network) (routes : Routes) (past es fs : List Event) → IsFree t routes (past ++ (es ++ fs)) → IsFree t routes (past ++ es)
free_first t routes past es fs h = free_front (home_in t routes) empty (past ++ es) fs (subst (IsFree t routes) (sym (append_assoc past es fs)) h)

-- in the world after these events they stand as they should
abbrev pub StandAfter : Network → Routes → ℕ → List Event → Net → Type 0
StandAfter t routes clock past x = AllStand (home_in t routes) clock (world_after empty past) x

pub stand_after : (t : Network) (routes : Routes) (clock : ℕ) (past es : List Event) (x : Net) → AllStand (home_in t routes) clock (world_after (world_after empty past) es) x → StandAfter t routes clock (past ++ es) x
stand_after t routes clock past es x h = subst (λ (w : World). AllStand (home_in t routes) clock w x) (sym (after_append empty past es)) h

---- Acts

pub act_comes : {plans : Plans} (t : Network) (routes : Routes) → Given t routes → (clock : ℕ) (past : List Event) (act : Act) (count : ℕ) (x : Net) → StandAfter t routes clock past x → IsFree t routes (past ++ events_of (acted act count (home_in t routes) x))
    → Rests t routes plans past x → Rests t routes plans (past ++ events_of (acted act count (home_in t routes) x)) (emptied (acted act count (home_in t routes) x))
act_comes {plans} t routes given clock past (Act.Ask a ask) count x stand free r =
    act_rests t routes past (does (Act.Ask a ask) count (home_in t routes)) x (λ js s h. move_does t routes s.number (Act.Ask a ask) tt count js s h) (plain_does (Act.Ask a ask) tt count (home_in t routes)) r
act_comes {plans} t routes given clock past (Act.Force a n) count x stand free r =
    act_rests t routes past (does (Act.Force a n) count (home_in t routes)) x (λ js s h. move_does t routes s.number (Act.Force a n) tt count js s h) (plain_does (Act.Force a n) tt count (home_in t routes)) r
act_comes {plans} t routes given clock past (Act.Restart a) count x stand free r = one_restarts plans t routes given clock past a x r stand free

acts_come : {plans : Plans} (t : Network) (routes : Routes) → Given t routes → Known (home_in t routes) → (clock : ℕ) (past : List Event) (todo : List Act) (count : ℕ) (x : Net) → All (MayAct (home_in t routes)) todo → StandAfter t routes clock past x
    → IsFree t routes (past ++ (acts todo count (home_in t routes) x).events) → Rests t routes plans past x → Comes t routes plans past (acts todo count (home_in t routes) x)
acts_come {plans} t routes given known clock past [] count x may stand free r = subst (Comes t routes plans past) (sym (acts_none count (home_in t routes) x)) (comes_over t routes past x true r)
acts_come {plans} t routes given known clock past (a ∷ rest) count x may stand free r =
    let homes : Homes = home_in t routes in
    let y : Net = acted a count homes x in
    let n : ℕ = count + asks_in a in
    let more : List Event = (acts rest n homes (emptied y)).events in
    let whole : IsFree t routes (past ++ (events_of y ++ more)) = subst (λ (p : Played). IsFree t routes (past ++ p.events)) (acts_cons a rest count homes x) free in
    let goes = step_goes homes clock (does a count homes) (world_after empty past) x (any_does homes known clock a count x (All-head (MayAct homes) a rest may)) stand in
    let later : StandAfter t routes clock (past ++ events_of y) (emptied y) = stand_after t routes clock past (events_of y) (emptied y) goes.stand in
    subst (Comes t routes plans past) (sym (acts_cons a rest count homes x))
    (comes_more t routes past (events_of y) (acts rest n homes (emptied y))
    (acts_come t routes given known clock (past ++ events_of y) rest n (emptied y) (All-tail (MayAct homes) a rest may) later (subst (IsFree t routes) (sym (append_assoc past (events_of y) more)) whole)
    (act_comes t routes given clock past a count x stand (free_first t routes past (events_of y) more whole) r)))

begins_is : (g : Group) (count : ℕ) (homes : Homes) (x : Net) → begins g count homes x ≡ after_round (map (ticked_in g.at homes) x) (acts g.acts count homes)
unfolding begins
begins_is g count homes x = refl

begins_come : {plans : Plans} (t : Network) (routes : Routes) → Given t routes → Known (home_in t routes) → (past : List Event) (g : Group) (count : ℕ) (x : Net) → All (MayAct (home_in t routes)) g.acts → StandAfter t routes g.at past x → Rests t routes plans past x
    → all_quiet (home_in t routes) x ≡ true → IsFree t routes (past ++ (begins g count (home_in t routes) x).events) → Comes t routes plans past (begins g count (home_in t routes) x)
begins_come {plans} t routes given known past g count x may stand r quiet free =
    let homes : Homes = home_in t routes in
    let y : Net = map (ticked_in g.at homes) x in
    let more : List Event = (acts g.acts count homes (emptied y)).events in
    let whole : IsFree t routes (past ++ (events_of y ++ more)) = subst (λ (p : Played). IsFree t routes (past ++ p.events)) (begins_is g count homes x) free in
    let goes = step_goes homes g.at (ticked_in g.at homes) (world_after empty past) x (any_ticked homes known g.at x) stand in
    let later : StandAfter t routes g.at (past ++ events_of y) (emptied y) = stand_after t routes g.at past (events_of y) (emptied y) goes.stand in
    subst (Comes t routes plans past) (sym (begins_is g count homes x))
    (comes_more t routes past (events_of y) (acts g.acts count homes (emptied y))
    (acts_come t routes given known g.at (past ++ events_of y) g.acts count (emptied y) may later (subst (IsFree t routes) (sym (append_assoc past (events_of y) more)) whole)
    (tick_rests t routes given past g.at x quiet (free_first t routes past (events_of y) more whole) r)))

---- The end

-- all are quiet
pub record Ends (t : Network) (routes : Routes) (plans : Plans) (past : List Event) (p : Played) : Type 0 where
  pub rests : Rests t routes plans (past ++ p.events) p.net
  pub quiet : all_quiet (home_in t routes) p.net ≡ true

pub ends_more : {plans : Plans} (t : Network) (routes : Routes) (past es : List Event) (p : Played) → Ends t routes plans (past ++ es) p → Ends t routes plans past (behind es p)
ends_more {plans} t routes past es p h = record { rests = comes_more t routes past es p h.rests; quiet = h.quiet }

never : {X : Type 0} (b : Bool) → b ≡ false → b ≡ true → X
never b p q = absurd (cc)

settles_end : {plans : Plans} (t : Network) (routes : Routes) → Given t routes → (past : List Event) (most : ℕ) (x : Net) → Rests t routes plans past x → (settles most (home_in t routes) x).is_over ≡ true → Ends t routes plans past (settles most (home_in t routes) x)
settles_end {plans} t routes given past zero x r over = let homes : Homes = home_in t routes in elim (cases_Bool (all_quiet homes x)) [
  | inl q ↦ subst (Ends t routes plans past) (sym (settle_quiet 0 homes x q)) (record { rests = comes_over t routes past x true r; quiet = q })
  | inr q ↦ never false refl (sym (ap (λ (p : Played). p.is_over) (settle_stop homes x q)) ∙ over)
]
settles_end {plans} t routes given past (suc most) x r over = let homes : Homes = home_in t routes in elim (cases_Bool (all_quiet homes x)) [
  | inl q ↦ subst (Ends t routes plans past) (sym (settle_quiet (suc most) homes x q)) (record { rests = comes_over t routes past x true r; quiet = q })
  | inr q ↦
      let y : Net = round homes x in
      let more = settle_more most homes x q in
      subst (Ends t routes plans past) (sym more)
      (ends_more t routes past (events_of y) (settles most homes (emptied y)) (settles_end t routes given (past ++ events_of y) most (emptied y) (round_rests t routes given past x r) (sym (ap (λ (p : Played). p.is_over) more) ∙ over)))
]

group_end : {plans : Plans} (t : Network) (routes : Routes) → Given t routes → Known (home_in t routes) → (past : List Event) (most : ℕ) (g : Group) (count : ℕ) (x : Net) → All (MayAct (home_in t routes)) g.acts → StandAfter t routes g.at past x
    → Rests t routes plans past x → all_quiet (home_in t routes) x ≡ true → IsFree t routes (past ++ (group most g count (home_in t routes) x).events) → (group most g count (home_in t routes) x).is_over ≡ true
    → Ends t routes plans past (group most g count (home_in t routes) x)
group_end {plans} t routes given known past most g count x may stand r quiet free over =
    let homes : Homes = home_in t routes in
    let b : Played = begins g count homes x in
    let same = group_is most g count homes x in
    let whole : IsFree t routes (past ++ (b.events ++ (settles most homes b.net).events)) = subst (λ (p : Played). IsFree t routes (past ++ p.events)) same free in
    let first : IsFree t routes (past ++ b.events) = free_first t routes past b.events (settles most homes b.net).events whole in
    subst (Ends t routes plans past) (sym same)
    (ends_more t routes past b.events (settles most homes b.net)
    (settles_end t routes given (past ++ b.events) most b.net (begins_come t routes given known past g count x may stand r quiet first) (sym (ap (λ (p : Played). p.is_over) same) ∙ over)))

pub plays_end : {plans : Plans} (t : Network) (routes : Routes) → Given t routes → Known (home_in t routes) → (past : List Event) (most : ℕ) (gs : List Group) (count start : ℕ) (x : Net) → RiseFrom start gs → All (MayActAll (home_in t routes)) gs
    → StandAfter t routes start past x → Rests t routes plans past x → all_quiet (home_in t routes) x ≡ true → IsFree t routes (past ++ (plays most gs count (home_in t routes) x).events) → (plays most gs count (home_in t routes) x).is_over ≡ true
    → Ends t routes plans past (plays most gs count (home_in t routes) x)
plays_end {plans} t routes given known past most [] count start x rise may stand r quiet free over =
    subst (Ends t routes plans past) (sym (plays_nil most count (home_in t routes) x)) (record { rests = comes_over t routes past x true r; quiet = quiet })
plays_end {plans} t routes given known past most (g ∷ gs) count start x rise may stand r quiet free over =
    let homes : Homes = home_in t routes in
    let p : Played = group most g count homes x in
    let n : ℕ = count + asks_among g.acts in
    let rest : Played = plays most gs n homes p.net in
    let first = plays_cons most g gs count homes x in
    let here : StandAfter t routes g.at past x = stand_longer homes start g.at (world_after empty past) x (first_second start g gs rise) stand in
    let acted : All (MayAct homes) g.acts = All-head (MayActAll homes) g gs may in
    let later : StandAfter t routes g.at (past ++ p.events) p.net = stand_after t routes g.at past p.events p.net (group_comes homes known (world_after empty past) most g count x acted here).stand in
    elim (cases_Bool p.is_over) [
      | inl o ↦
          let whole = first ∙ then_over p (plays most gs n homes) o in
          let could : IsFree t routes (past ++ (p.events ++ rest.events)) = subst (λ (z : Played). IsFree t routes (past ++ z.events)) whole free in
          let e = group_end t routes given known past most g count x acted here r quiet (free_first t routes past p.events rest.events could) o in
          subst (Ends t routes plans past) (sym whole)
          (ends_more t routes past p.events rest
          (plays_end t routes given known (past ++ p.events) most gs n g.at p.net (rest_rise start g gs rise) (All-tail (MayActAll homes) g gs may) later e.rests e.quiet (subst (IsFree t routes) (sym (append_assoc past p.events rest.events)) could)
          (sym (ap (λ (z : Played). z.is_over) whole) ∙ over)))
      | inr o ↦ never p.is_over o (sym (ap (λ (z : Played). z.is_over) (first ∙ then_stopped p (plays most gs n homes) o)) ∙ over)
    ]

---- Before anything has happened

numbers_of : (t : Network) (plans : Plans) (ns : List ℕ) → numbers (map (seat_of t plans) ns) ≡ ns
numbers_of t plans [] = refl
numbers_of t plans (n ∷ ns) = ap (λ xs. n ∷ xs) (numbers_of t plans ns)

empty_others : (plans : ℕ → Plan) (bs : List ℕ) → others (map (opened plans) bs) ≡ bs
empty_others plans [] = refl
empty_others plans (b ∷ bs) = ap (λ xs. b ∷ xs) (empty_others plans bs)

empty_doors : (t : Network) (plans : Plans) → (a : ℕ) (d : Door) → Contains (doors_of t plans a) d → IsDoor t a d
empty_doors t plans a d c =
    let x = mapped_from (opened (plans a)) (others_of t a) d c in
    subst (IsDoor t a) x.2 (record { link = x.1; queue = All-nil (Goes t a x.0); out = All-nil (Goes t a x.0); inc = All-nil (Goes t x.0 a) })

seat_sits : (t : Network) (routes : Routes) (plans : Plans) → (a : ℕ) → Contains (agents t) a → SitsIn t routes [] (seat_of t plans a)
unfolding goes_on world_after
seat_sits t routes plans a c = record {
  number = refl;
  within = agents_within t a c;
  state = refl;
  clear = λ q. refl;
  unsaid = All-nil (Contains (told (home_in t routes a) []).out);
  others = empty_others (plans a) (others_of t a);
  doors = empty_doors t plans a;
  heard = All-nil (IsLinked t a);
  held = All-nil (IsInHand t a);
}

seat_met : (t : Network) (plans : Plans) (a : ℕ) → HasMetAll (seat_of t plans a)
seat_met t plans a b = door_all (λ d. d.out ≡ []) b (doors_of t plans a) refl (λ d e c. let x = mapped_from (opened (plans a)) (others_of t a) d c in ap (λ (z : Door). z.out) (sym x.2))

-- what is planned for the way to an agent
opened_plan : (t : Network) (plans : Plans) (a b n : ℕ) → ahead n (door_to b (doors_of t plans a)).plan ≤ ahead n (plans a b)
opened_plan t plans a b n = door_all (λ d. ahead n d.plan ≤ ahead n (plans a b)) b (doors_of t plans a) (let z = ahead_none n in omega (arith, z)) (λ d e c. let x = mapped_from (opened (plans a)) (others_of t a) d c in
    subst (λ (z : Door). ahead n z.plan ≤ ahead n (plans a b)) x.2 (let to : x.0 ≡ b = ap (λ (z : Door). z.other) x.2 ∙ e in let same : ahead n (plans a x.0) ≡ ahead n (plans a b) = ap (λ k. ahead n (plans a k)) to in omega (arith, same)))

opened_within : (t : Network) (plans : Plans) (a b : ℕ) → IsWithin (plans a b) b [] (seat_of t plans a)
opened_within t plans a b n = let none = counted_none n in let few = opened_plan t plans a b n in omega (arith, none, few)

seats_pair : (t : Network) (routes : Routes) (plans : Plans) (a b : ℕ) → PairIn t routes plans [] (seat_of t plans a) (seat_of t plans b)
unfolding goes_on world_after
seats_pair t routes plans a b = record {
  there = [];
  back = [];
  within = opened_within t plans a b;
  within_back = opened_within t plans b a;
  heard = λ m e c. absurd (none_there m c);
  acked = λ m e c. absurd (none_there m c);
}

pub opening_rests : (t : Network) (routes : Routes) (plans : Plans) → Rests t routes plans [] (opening t plans)
opening_rests t routes plans = record {
  numbers = numbers_of t plans (agents t);
  told = λ s c. let x = mapped_from (seat_of t plans) (agents t) s c in subst IsTold x.2 refl;
  sits = λ s c. let x = mapped_from (seat_of t plans) (agents t) s c in subst (SitsIn t routes []) x.2 (seat_sits t routes plans x.0 x.1);
  met = λ s c. let x = mapped_from (seat_of t plans) (agents t) s c in subst HasMetAll x.2 (seat_met t plans x.0);
  within = λ s c. let x = mapped_from (seat_of t plans) (agents t) s c in subst (AllWithin plans) x.2 (λ b. opened_within t plans x.0 b);
  pairs = λ s u c d.
      let x = mapped_from (seat_of t plans) (agents t) s c in
      let y = mapped_from (seat_of t plans) (agents t) u d in
      subst (λ z. PairIf t routes plans [] z u) x.2 (subst (PairIf t routes plans [] (seat_of t plans x.0)) y.2 (λ cut. seats_pair t routes plans x.0 y.0));
}
