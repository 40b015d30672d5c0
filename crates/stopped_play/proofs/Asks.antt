-- A play in which disks stop asks the whole script, in order.
use Rattle.std.proofs.Common.{ℕ, ◌+◌, ◌≡◌, Bool, true, false, cond, List, [], ◌∷◌, ◌++◌, Option, Some, None, inl, inr, refl, sym, ap, ◌∙◌, subst, map, append-nil}
use Rattle.std.specs.List.{All}
use Rattle.std.proofs.lemmas.Bool.{cases_Bool, cases_eq}
use Rattle.std.proofs.lemmas.List.Elements.{All-head, All-tail}
use Rattle.nsi_primitive.specs.declared.entry.Event.{Event}
use Rattle.stp_topology.specs.Laws.{IsWellFormed}
use Rattle.stp_topology.specs.declared.network.Network.{Network}
use Rattle.nsi_agent.specs.Homes.{Home, Routes, home_in}
use Rattle.nsi_agent.specs.Steps.{works_left}
use Rattle.nsi_script.specs.declared.script.Act.{Act}
use Rattle.nsi_script.specs.declared.script.Group.{Group}
use Rattle.nsi_script.specs.Fits.{IsActOf, IsRising}
use Rattle.nsi_script.specs.Scripts.{acts_of, seconds_of}
use Rattle.agent_node.specs.Passing.{lying}
use Rattle.agent_node.specs.Restarts.{cut_past}
use Rattle.agent_node.specs.Seat.{Seat}
use Rattle.agent_node.specs.Turns.{cleared, takes_all, halted}
use Rattle.nsi_play.specs.Openings.{Plans, opening}
use Rattle.nsi_play.specs.Rounds.{Net, events_of, emptied, all_quiet}
use Rattle.nsi_play.specs.Play.{Played, over, stopped, after_round, asks_in, asks_among, ticked_in, then_on}
use Rattle.nsi_play.proofs.Settling.{then_over, then_stopped}
use Rattle.nsi_world.specs.Worlds.{Homes, World, empty}
use Rattle.nsi_world.specs.Runs.{world_after, asks_of, Wish, numbered}
use Rattle.nsi_world.specs.Nets.{numbers, AreDistinct, IsTold, AllStand, NetGoesOn}
use Rattle.nsi_world.specs.Scripts.{wish_of, wishes_among}
use Rattle.nsi_world.proofs.ScriptLemmas.{RiseFrom, rise_from, groups_of, whole_none, whole_cons}
use Rattle.nsi_world.proofs.Given.{AreLaws, Given}
use Rattle.nsi_world.proofs.Names.{given_in}
use Rattle.nsi_world.proofs.NetSteps.{events_met, emptied_told, emptied_numbers}
use Rattle.nsi_world.proofs.ActSteps.{changed_here, changed_there}
use Rattle.nsi_world.proofs.Opening.{may_act_all}
use Rattle.nsi_world.proofs.PlaySteps.{MayActAll, stand_longer, first_second, rest_rise}
use Rattle.nsi_world.proofs.Asking.{asks_none, asks_append, takes_no_ask, works_no_ask, turned_no_ask, ticked_no_ask, net_no_ask, restarts_no_ask, past_no_ask, IsHere, AreHere, act_asks, numbered_none, numbered_append, number_changed, number_does, number_past, number_ticked, numbers_map, wish_count, among_none, among_cons, among_count}
use Rattle.nsi_world.proofs.PlayAsks.{PlayAsks, all_here}
use Rattle.stopped_play.specs.Tapes.{Cut, Cuts, Tape, no_tape, Stops}
use Rattle.stopped_play.specs.Rounds.{turned_or, turned_by, round_by, reopened, reopened_by, reopens, after_cuts, settles_by}
use Rattle.stopped_play.specs.Play.{read_again, does_by, acted_by, acts_by, begins_by, group_by, plays_by, remade}
use Rattle.stopped_play.specs.Laws.{played, StoppedPlayRuns, StoppedPlayAsks}
use Rattle.stopped_play.proofs.Calm.{settle_by_none, settle_by_one, begins_by_is, group_by_is}
use Rattle.stopped_play.proofs.Steps.{group_comes}
use Rattle.stopped_play.proofs.Making.{making_goes}
use Rattle.stopped_play.proofs.Runs.{stopped_allowed}

---- Rounds

halted_no_ask : (h : Home) (s : Seat) → asks_of (halted h s).events ≡ asks_of s.events
halted_no_ask h s = let b : Seat = takes_all h (lying s.doors) (cleared s) in works_no_ask (works_left h.role b.state) h b ∙ takes_no_ask h (lying s.doors) (cleared s)

turn_no_ask : (o : Option Cut) (homes : Homes) (s : Seat) → asks_of (turned_or o (homes s.number) s).events ≡ asks_of s.events
turn_no_ask None homes s = turned_no_ask homes s
turn_no_ask (Some c) homes s = halted_no_ask (homes s.number) s

reopen_no_ask : (o : Option Cut) (h : Home) (s : Seat) → asks_of (reopened o h s).events ≡ asks_of s.events
reopen_no_ask None h s = refl
reopen_no_ask (Some c) h s = past_no_ask (cut_past c.keeps s) h c.again s

round_no_ask : (cuts : Cuts) (homes : Homes) (x : Net) → All IsTold x → asks_of (events_of (round_by cuts homes x)) ≡ []
unfolding round_by
round_no_ask cuts homes x told =
    let y : Net = map (turned_by cuts homes) x in
    ap asks_of (events_met y y) ∙ net_no_ask (turned_by cuts homes) (λ s. turn_no_ask (cuts s.number) homes s) x told

reopens_no_ask : (cuts : Cuts) (homes : Homes) (x : Net) → All IsTold x → asks_of (events_of (reopens cuts homes x)) ≡ []
unfolding reopens
reopens_no_ask cuts homes x told = net_no_ask (reopened_by cuts homes) (λ s. reopen_no_ask (cuts s.number) (homes s.number) s) x told

reopens_told : (cuts : Cuts) (homes : Homes) (x : Net) → All IsTold (emptied (reopens cuts homes x))
reopens_told cuts homes x = emptied_told (reopens cuts homes x)

none_before : (es fs : List Event) → asks_of es ≡ [] → asks_of (es ++ fs) ≡ asks_of fs
none_before es fs none = asks_append es fs ∙ ap (λ xs. xs ++ asks_of fs) none

none_or : (x : Net) (b : Bool) (p : Played) → asks_of p.events ≡ [] → asks_of (cond b (over x) p).events ≡ []
none_or x true p none = asks_none
none_or x false p none = none

settles_no_ask : (rounds : List Cuts) (homes : Homes) (x : Net) → All IsTold x → asks_of (settles_by rounds homes x).events ≡ []
settles_no_ask [] homes x told = ap (λ (p : Played). asks_of p.events) (settle_by_none homes x) ∙ none_or x (all_quiet homes x) (stopped x) asks_none
settles_no_ask (c ∷ cs) homes x told =
    let y : Net = emptied (round_by c homes x) in
    let z : Net = emptied (reopens c homes y) in
    let rest : List Event = (settles_by cs homes z).events in
    ap (λ (p : Played). asks_of p.events) (settle_by_one c cs homes x)
    ∙ none_or x (all_quiet homes x) (after_cuts c homes x (settles_by cs homes))
    (none_before (events_of (round_by c homes x)) (events_of (reopens c homes y) ++ rest) (round_no_ask c homes x told)
    ∙ (none_before (events_of (reopens c homes y)) rest (reopens_no_ask c homes y (emptied_told (round_by c homes x))) ∙ settles_no_ask cs homes z (reopens_told c homes y)))

---- Acts

read_no_ask : (homes : Homes) (a tries count : ℕ) (s : Seat) → asks_of (does_by (Act.Restart a) tries count homes s).events ≡ asks_of s.events
read_no_ask homes a tries count s = elim (cases_eq s.number a) [
  | inl e ↦ ap (λ (u : Seat). asks_of u.events) (changed_here a (read_again tries (homes a)) s e) ∙ past_no_ask s.past (homes a) tries s
  | inr m ↦ ap (λ (u : Seat). asks_of u.events) (changed_there a (read_again tries (homes a)) s m)
]

act_by_asks : (homes : Homes) (act : Act) (tries count : ℕ) (net : Net) → IsHere (numbers net) act → AreDistinct (numbers net) → All IsTold net → asks_of (events_of (acted_by act tries count homes net)) ≡ numbered count (wish_of act)
act_by_asks homes (Act.Ask a ask) tries count net c d told = act_asks homes (Act.Ask a ask) count net c d told
act_by_asks homes (Act.Force a n) tries count net c d told = act_asks homes (Act.Force a n) count net c d told
act_by_asks homes (Act.Restart a) tries count net c d told = net_no_ask (does_by (Act.Restart a) tries count homes) (read_no_ask homes a tries count) net told ∙ sym (numbered_none count)

number_by : (act : Act) (tries count : ℕ) (homes : Homes) (s : Seat) → (does_by act tries count homes s).number ≡ s.number
number_by (Act.Ask a ask) tries count homes s = number_does (Act.Ask a ask) count homes s
number_by (Act.Force a n) tries count homes s = number_does (Act.Force a n) count homes s
number_by (Act.Restart a) tries count homes s = number_changed a (read_again tries (homes a)) s (number_past s.past (homes a) tries s)

-- an act, and what is asked behind it
act_then : (homes : Homes) (a : Act) (rest : List Act) (tries count : ℕ) (net : Net) (more : Net → Played) → All (IsHere (numbers net)) (a ∷ rest) → AreDistinct (numbers net) → All IsTold net
    → ((z : Net) → numbers z ≡ numbers net → All IsTold z → asks_of (more z).events ≡ numbered (count + asks_in a) (wishes_among rest)) → asks_of (after_round (acted_by a tries count homes net) more).events ≡ numbered count (wishes_among (a ∷ rest))
act_then homes a rest tries count net more here d told next =
    let y : Net = acted_by a tries count homes net in
    let z : Net = emptied y in
    let same : numbers z ≡ numbers net = emptied_numbers y ∙ numbers_map (does_by a tries count homes) (number_by a tries count homes) net in
    asks_append (events_of y) (more z).events
    ∙ (ap (λ xs. xs ++ asks_of (more z).events) (act_by_asks homes a tries count net (All-head (IsHere (numbers net)) a rest here) d told)
    ∙ (ap (λ xs. numbered count (wish_of a) ++ xs) (next z same (emptied_told y))
    ∙ (ap (λ k. numbered count (wish_of a) ++ numbered (count + k) (wishes_among rest)) (wish_count a)
    ∙ (sym (numbered_append count (wish_of a) (wishes_among rest)) ∙ ap (numbered count) (sym (among_cons a rest))))))

acts_ask : (homes : Homes) (todo : List Act) (tape : List ℕ) (count : ℕ) (net : Net) → All (IsHere (numbers net)) todo → AreDistinct (numbers net) → All IsTold net → asks_of (acts_by todo tape count homes net).events ≡ numbered count (wishes_among todo)
unfolding acts_by
acts_ask homes [] tape count net here d told = asks_none ∙ (sym (numbered_none count) ∙ ap (numbered count) (sym among_none))
acts_ask homes (a ∷ rest) [] count net here d told =
    act_then homes a rest 0 count net (acts_by rest [] (count + asks_in a) homes) here d told
    (λ z e t. acts_ask homes rest [] (count + asks_in a) z (subst (λ ns. All (IsHere ns) rest) (sym e) (All-tail (IsHere (numbers net)) a rest here)) (subst AreDistinct (sym e) d) t)
acts_ask homes (a ∷ rest) (n ∷ ns) count net here d told =
    act_then homes a rest n count net (acts_by rest ns (count + asks_in a) homes) here d told
    (λ z e t. acts_ask homes rest ns (count + asks_in a) z (subst (λ ns. All (IsHere ns) rest) (sym e) (All-tail (IsHere (numbers net)) a rest here)) (subst AreDistinct (sym e) d) t)

acts_told : (homes : Homes) (todo : List Act) (tape : List ℕ) (count : ℕ) (net : Net) → All IsTold net → All IsTold (acts_by todo tape count homes net).net
unfolding acts_by
acts_told homes [] tape count net told = told
acts_told homes (a ∷ rest) [] count net told = acts_told homes rest [] (count + asks_in a) (emptied (acted_by a 0 count homes net)) (emptied_told (acted_by a 0 count homes net))
acts_told homes (a ∷ rest) (n ∷ ns) count net told = acts_told homes rest ns (count + asks_in a) (emptied (acted_by a n count homes net)) (emptied_told (acted_by a n count homes net))

---- Groups

begins_ask : (homes : Homes) (tape : Tape) (g : Group) (count : ℕ) (net : Net) → AreHere (numbers net) g → AreDistinct (numbers net) → All IsTold net → asks_of (begins_by tape g count homes net).events ≡ numbered count (wishes_among g.acts)
begins_ask homes tape g count net here d told =
    let y : Net = map (ticked_in g.at homes) net in
    let z : Net = emptied y in
    let same : numbers z ≡ numbers net = emptied_numbers y ∙ numbers_map (ticked_in g.at homes) (number_ticked g.at homes) net in
    ap (λ (p : Played). asks_of p.events) (begins_by_is tape g count homes net)
    ∙ (none_before (events_of y) (acts_by g.acts tape.acts count homes z).events (net_no_ask (ticked_in g.at homes) (ticked_no_ask homes g.at) net told)
    ∙ acts_ask homes g.acts tape.acts count z (subst (λ ns. All (IsHere ns) g.acts) (sym same) here) (subst AreDistinct (sym same) d) (emptied_told y))

begins_told : (homes : Homes) (tape : Tape) (g : Group) (count : ℕ) (net : Net) → All IsTold (begins_by tape g count homes net).net
begins_told homes tape g count net =
    subst (λ (p : Played). All IsTold p.net) (sym (begins_by_is tape g count homes net))
    (acts_told homes g.acts tape.acts count (emptied (map (ticked_in g.at homes) net)) (emptied_told (map (ticked_in g.at homes) net)))

group_asks : (homes : Homes) (tape : Tape) (g : Group) (count : ℕ) (net : Net) → AreHere (numbers net) g → AreDistinct (numbers net) → All IsTold net → asks_of (group_by tape g count homes net).events ≡ numbered count (wishes_among g.acts)
group_asks homes tape g count net here d told =
    let b : Played = begins_by tape g count homes net in
    let rest : List Event = (settles_by tape.rounds homes b.net).events in
    ap (λ (p : Played). asks_of p.events) (group_by_is tape g count homes net) ∙ (asks_append b.events rest
    ∙ (ap (λ xs. asks_of b.events ++ xs) (settles_no_ask tape.rounds homes b.net (begins_told homes tape g count net)) ∙ (append-nil (asks_of b.events) ∙ begins_ask homes tape g count net here d told)))

---- Plays

never : {X : Type 0} (b : Bool) → b ≡ false → b ≡ true → X
never b p q = absurd (cc)

-- a group, and what is asked behind it
then_asks : (count : ℕ) (g : Group) (gs : List Group) (p : Played) (rest : Net → Played) → asks_of p.events ≡ numbered count (wishes_among g.acts) → PlayAsks (count + asks_among g.acts) gs (rest p.net) → PlayAsks count (g ∷ gs) (then_on p rest)
then_asks count g gs p rest own q =
    let xs : List Wish = wishes_among g.acts in
    elim (cases_Bool p.is_over) [
      | inl o ↦ subst (PlayAsks count (g ∷ gs)) (sym (then_over p rest o)) (record {
        wishes = xs ++ q.wishes;
        asked = asks_append p.events (rest p.net).events
            ∙ (ap (λ ys. ys ++ asks_of (rest p.net).events) own
            ∙ (ap (λ ys. numbered count xs ++ ys) q.asked
            ∙ (ap (λ k. numbered count xs ++ numbered (count + k) q.wishes) (among_count g.acts) ∙ sym (numbered_append count xs q.wishes))));
        whole = λ e. ap (λ ys. xs ++ ys) (q.whole e) ∙ sym (whole_cons g gs);
      })
      | inr o ↦ subst (PlayAsks count (g ∷ gs)) (sym (then_stopped p rest o)) (record { wishes = xs; asked = own; whole = never p.is_over o })
    ]

plays_ask : (homes : Homes) → Given homes → (w : World) (tapes : List Tape) (gs : List Group) (count start : ℕ) (x : Net) → RiseFrom start gs → All (MayActAll homes) gs → All (AreHere (numbers x)) gs → AllStand homes start w x
    → PlayAsks count gs (plays_by tapes gs count homes x)
unfolding plays_by
plays_ask homes given w tapes [] count start x rise may here h = record { wishes = []; asked = asks_none ∙ sym (numbered_none count); whole = λ o. sym whole_none }
plays_ask homes given w [] (g ∷ gs) count start x rise may here h =
    let p : Played = group_by no_tape g count homes x in
    let n : ℕ = count + asks_among g.acts in
    let a : NetGoesOn homes g.at w x p.events p.net = group_comes homes given w no_tape g count x (All-head (MayActAll homes) g gs may) (stand_longer homes start g.at w x (first_second start g gs rise) h) in
    then_asks count g gs p (plays_by [] gs n homes) (group_asks homes no_tape g count x (All-head (AreHere (numbers x)) g gs here) h.distinct h.told)
    (plays_ask homes given (world_after w p.events) [] gs n g.at p.net (rest_rise start g gs rise) (All-tail (MayActAll homes) g gs may)
    (subst (λ ns. All (AreHere ns) gs) (sym a.numbers) (All-tail (AreHere (numbers x)) g gs here)) a.stand)
plays_ask homes given w (t ∷ ts) (g ∷ gs) count start x rise may here h =
    let p : Played = group_by t g count homes x in
    let n : ℕ = count + asks_among g.acts in
    let a : NetGoesOn homes g.at w x p.events p.net = group_comes homes given w t g count x (All-head (MayActAll homes) g gs may) (stand_longer homes start g.at w x (first_second start g gs rise) h) in
    then_asks count g gs p (plays_by ts gs n homes) (group_asks homes t g count x (All-head (AreHere (numbers x)) g gs here) h.distinct h.told)
    (plays_ask homes given (world_after w p.events) ts gs n g.at p.net (rest_rise start g gs rise) (All-tail (MayActAll homes) g gs may)
    (subst (λ ns. All (AreHere ns) gs) (sym a.numbers) (All-tail (AreHere (numbers x)) g gs here)) a.stand)

---- The play

remade_no_ask : (making : ℕ → ℕ) (net : Net) → asks_of (remade making net) ≡ []
remade_no_ask making [] = asks_none
remade_no_ask making (s ∷ ss) = none_before _ (remade making ss) (restarts_no_ask (making s.number) s.number 0) ∙ remade_no_ask making ss

played_asks : AreLaws → (t : Network) (routes : Routes) (plans : Plans) (stops : Stops) (script : List Group) → IsWellFormed t → IsRising (seconds_of script) → All (IsActOf t) (acts_of script)
    → PlayAsks 0 script (played t routes plans stops script)
played_asks laws t routes plans stops script formed rising acts =
    let homes : Homes = home_in t routes in
    let given = given_in laws t routes in
    let x : Net = opening t plans in
    let of = groups_of t script acts in
    let r = making_goes t routes plans stops.making given formed in
    let p : Played = plays_by stops.groups script 0 homes x in
    let q = plays_ask homes given (world_after empty (remade stops.making x)) stops.groups script 0 0 x (rise_from script rising) (may_act_all t routes script of) (all_here t plans script of) r.stand in
    record { wishes = q.wishes; asked = none_before (remade stops.making x) p.events (remade_no_ask stops.making x) ∙ q.asked; whole = q.whole }

pub stopped_runs : AreLaws → StoppedPlayRuns
stopped_runs laws t routes plans stops script formed rising acts few =
    let q = played_asks laws t routes plans stops script formed rising acts in
    record { allowed = stopped_allowed laws t routes plans stops script formed rising acts few; wishes = q.wishes; asked = q.asked }

pub stopped_asks : AreLaws → StoppedPlayAsks
stopped_asks laws t routes plans stops script events last formed rising acts play =
    let q = played_asks laws t routes plans stops script formed rising acts in
    sym (ap (λ (p : Played). asks_of p.events) play) ∙ (q.asked ∙ ap (numbered 0) (q.whole (ap (λ (p : Played). p.is_over) play)))
