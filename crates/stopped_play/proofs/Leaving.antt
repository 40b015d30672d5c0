-- What a play in which disks stop leaves open: nothing but what was lost, and what restarts have cut off.
use Rattle.std.proofs.Common.{ℕ, zero, suc, ◌==◌, ◌+◌, ◌≡◌, Bool, true, false, cond, List, [], ◌∷◌, ◌++◌, Option, Some, None, IfSome, inl, inr, refl, sym, ap, ap₂, ◌∙◌, subst, length, take, map, append_assoc, eq-eqb, ne_eqb, le_refl}
use Rattle.std.specs.List.{All, Contains}
use Rattle.std.proofs.lemmas.Bool.{cases_Bool, cases_eq}
use Rattle.std.proofs.lemmas.List.{take_all}
use Rattle.std.proofs.lemmas.List.Elements.{All-head, All-tail, All-contains}
use Rattle.nsi_primitive.specs.declared.entry.Entry.{Entry}
use Rattle.nsi_primitive.specs.declared.entry.Event.{Event}
use Rattle.stp_topology.specs.declared.network.Network.{Network}
use Rattle.nsi_agent.specs.Homes.{Home, Routes, home_in}
use Rattle.nsi_script.specs.declared.script.Act.{Act}
use Rattle.nsi_script.specs.declared.script.Group.{Group}
use Rattle.agent_speech.specs.Laws.{NothingIsSaidTwice}
use Rattle.agent_node.specs.Openings.{agents}
use Rattle.agent_node.specs.Restarts.{reads_past, cut_past}
use Rattle.agent_node.specs.Seat.{Seat}
use Rattle.agent_node.specs.Turns.{adds}
use Rattle.nsi_play.specs.Openings.{Plans, opening}
use Rattle.nsi_play.specs.Rounds.{Net, Homes, met_all, events_of, emptied, all_quiet}
use Rattle.nsi_play.specs.Play.{Played, behind, over, stopped, ended, after_round, asks_in, asks_among, ticked_in, then_on}
use Rattle.nsi_play.proofs.Settling.{behind_twice, then_over, then_stopped}
use Rattle.nsi_world.specs.Worlds.{World, empty, synced_part}
use Rattle.nsi_world.specs.Runs.{world_after}
use Rattle.nsi_world.specs.Seats.{Stands}
use Rattle.nsi_world.specs.Nets.{AllStand}
use Rattle.nsi_world.proofs.ScriptLemmas.{RiseFrom, rise_from, groups_of}
use Rattle.nsi_world.proofs.Given.{AreLaws, Given as Known}
use Rattle.nsi_world.proofs.Names.{given_in}
use Rattle.nsi_world.proofs.NetSteps.{events_met, step_goes}
use Rattle.nsi_world.proofs.ActSteps.{MayAct, changed_here, changed_there}
use Rattle.nsi_world.proofs.PlaySteps.{MayActAll, any_ticked, stand_longer, first_second, rest_rise}
use Rattle.nsi_world.proofs.Opening.{opening_stands, may_act_all}
use Rattle.nsi_world.proofs.Resting.{opening_quiet}
use Rattle.settled_play.proofs.Links.{Given}
use Rattle.settled_play.proofs.Steps.{Sits}
use Rattle.settled_play.proofs.Moves.{Turns, move_turned, move_halted}
use Rattle.settled_play.proofs.Journals.{journal_at}
use Rattle.settled_play.proofs.Cuts.{IsPlain, plain_turned, plain_halted}
use Rattle.settled_play.proofs.Rounds.{Rests, tick_rests, met_rests}
use Rattle.settled_play.proofs.RestartActs.{read_front}
use Rattle.settled_play.proofs.Plays.{comes_over, comes_more, Comes, IsFree, free_first, StandAfter, stand_after, act_comes, Ends, ends_more, opening_rests}
use Rattle.settled_play.proofs.Leaving.{settled_in, nothing_yet}
use Rattle.stopped_play.specs.Tapes.{Cut, Cuts, Tape, no_tape}
use Rattle.stopped_play.specs.Rounds.{turned_or, turned_by, round_by, reopened, reopened_by, reopens, after_cuts, settles_by}
use Rattle.stopped_play.specs.Play.{read_again, does_by, acted_by, acts_by, begins_by, group_by, plays_by, remade}
use Rattle.stopped_play.specs.Laws.{StoppedPlaySettles}
use Rattle.stopped_play.proofs.Calm.{settle_by_none, settle_by_one}
use Rattle.stopped_play.proofs.Steps.{round_comes, cuts_come, act_comes as act_goes, begins_come as begins_go, group_comes as group_goes}
use Rattle.stopped_play.proofs.Making.{made, made_by, all_events, all_told, making_goes}
use Rattle.stopped_play.proofs.Runs.{stopped_stands, stopped_rests}
use Rattle.stopped_play.proofs.Reading.{Reading, reads_as, IsFront, reads_by, reading_rests}

---- A round

move_by : (t : Network) (routes : Routes) → Given t routes → (o : Option Cut) (a : ℕ) (js : List Entry) (s : Seat) → Sits t routes a js [] s → Turns t routes a js s (turned_or o (home_in t routes a) s)
move_by t routes given None a js s h = move_turned t routes given a js s h
move_by t routes given (Some c) a js s h = move_halted t routes a js s h

plain_by : (o : Option Cut) (h : Home) (s : Seat) → All IsPlain s.events → All IsPlain (turned_or o h s).events
plain_by None h s p = plain_turned h s p
plain_by (Some c) h s p = plain_halted h s p

round_rests : {plans : Plans} (t : Network) (routes : Routes) → Given t routes → (cuts : Cuts) (past : List Event) (x : Net) → Rests t routes plans past x
    → Rests t routes plans (past ++ events_of (round_by cuts (home_in t routes) x)) (emptied (round_by cuts (home_in t routes) x))
unfolding round_by
round_rests {plans} t routes given cuts past x r =
    let homes : Homes = home_in t routes in
    let all : Net = map (turned_by cuts homes) x in
    subst (λ (es : List Event). Rests t routes plans (past ++ es) (emptied (met_all all))) (sym (events_met all all))
    (met_rests t routes past (turned_by cuts homes) x r (λ s c. move_by t routes given (cuts s.number) s.number (journal_at s.number past) s (r.sits s c)) (λ s c. plain_by (cuts s.number) (homes s.number) s))

---- What is read

abbrev with_tries : ℕ → Option (List Entry) → Option Reading
with_tries n None = None
with_tries n (Some es) = Some (record { tries = n; entries = es })

past_read : (o : Option (List Entry)) (h : Home) (n : ℕ) (s : Seat) → reads_past o h n s ≡ reads_as (with_tries n o) h s
past_read None h n s = refl
past_read (Some es) h n s = refl

no_none : {X : Type 0} (x : X) → None ≡ Some x → ⊥
no_none x e = absurd (cc)

same_reading : (x y : Reading) → Some x ≡ Some y → x ≡ y
same_reading x y e = cc

tries_front : (past : List Event) (a n : ℕ) (o : Option (List Entry)) → ((es : List Entry) → o ≡ Some es → take (length es) (journal_at a past) ≡ es) → (x : Reading) → with_tries n o ≡ Some x → IsFront past a x
tries_front past a n None h x e = absurd (no_none x e)
tries_front past a n (Some es) h x e = subst (IsFront past a) (same_reading (record { tries = n; entries = es }) x e) (h es refl)

map_same : (f g : Seat → Seat) → ((s : Seat) → f s ≡ g s) → (net : Net) → map f net ≡ map g net
map_same f g same [] = refl
map_same f g same (s ∷ ss) = ap₂ (λ (z : Seat) (zs : Net). z ∷ zs) (same s) (map_same f g same ss)

-- those read again whose disks stopped
abbrev cut_reading : Option Cut → Seat → Option Reading
cut_reading None s = None
cut_reading (Some c) s = with_tries c.again (cut_past c.keeps s)

reopened_is : (o : Option Cut) (h : Home) (s : Seat) → reopened o h s ≡ reads_as (cut_reading o s) h s
reopened_is None h s = refl
reopened_is (Some c) h s = past_read (cut_past c.keeps s) h c.again s

same_list : (xs ys : List Entry) → Some xs ≡ Some ys → xs ≡ ys
same_list xs ys e = cc

-- with the batch it reads all that it has taken
whole_front : (t : Network) (routes : Routes) (clock : ℕ) (past : List Event) (net : Net) (s : Seat) (es : List Entry) → AllStand (home_in t routes) clock (world_after empty past) net → Contains net s → adds s.fresh s.past ≡ Some es
    → take (length es) (journal_at s.number past) ≡ es
whole_front t routes clock past net s es stand c e = by s.past here.past e
  where
    w : World
    w = world_after empty past

    here : Stands (home_in t routes) clock w s
    here = All-contains (Stands (home_in t routes) clock w) net s stand.stand c

    by : (o : Option (List Entry)) → IfSome o (λ xs. xs ≡ synced_part w s.number) → adds s.fresh o ≡ Some es → take (length es) (journal_at s.number past) ≡ es
    by None h q = absurd (no_none es q)
    by (Some xs) h q =
        let all : es ≡ w.journal s.number = sym (same_list (xs ++ s.fresh) es q) ∙ (ap (λ ys. ys ++ s.fresh) h ∙ sym here.journal) in
        subst (λ ys. take (length es) ys ≡ es) all (take_all (length es) es (le_refl (length es)))

cut_front : (t : Network) (routes : Routes) (clock : ℕ) (past : List Event) (net : Net) (s : Seat) → AllStand (home_in t routes) clock (world_after empty past) net → Contains net s → (keeps : Bool) (es : List Entry) → cut_past keeps s ≡ Some es
    → take (length es) (journal_at s.number past) ≡ es
cut_front t routes clock past net s stand c true es e = whole_front t routes clock past net s es stand c e
cut_front t routes clock past net s stand c false es e = read_front t routes clock past net s es stand c e

reading_front : (t : Network) (routes : Routes) (clock : ℕ) (past : List Event) (net : Net) (s : Seat) → AllStand (home_in t routes) clock (world_after empty past) net → Contains net s → (o : Option Cut) (x : Reading) → cut_reading o s ≡ Some x → IsFront past s.number x
reading_front t routes clock past net s stand c None x e = absurd (no_none x e)
reading_front t routes clock past net s stand c (Some k) x e = tries_front past s.number k.again (cut_past k.keeps s) (cut_front t routes clock past net s stand c k.keeps) x e

-- what is so between two rounds is so behind such readings
readings_rest : {plans : Plans} (t : Network) (routes : Routes) → Given t routes → (clock : ℕ) (past : List Event) (f : Seat → Seat) (choice : Seat → Option Reading) (x : Net) → ((s : Seat) → f s ≡ reads_by choice (home_in t routes) s)
    → ((s : Seat) → Contains x s → (y : Reading) → choice s ≡ Some y → IsFront past s.number y) → Rests t routes plans past x → StandAfter t routes clock past x → IsFree t routes (past ++ events_of (map f x))
    → Rests t routes plans (past ++ events_of (map f x)) (emptied (map f x))
readings_rest {plans} t routes given clock past f choice x same front r stand free =
    let homes : Homes = home_in t routes in
    subst (λ (y : Net). IsFree t routes (past ++ events_of y) → Rests t routes plans (past ++ events_of y) (emptied y)) (sym (map_same f (reads_by choice homes) same x))
    (reading_rests plans t routes given past choice x r stand.distinct stand.told front) free

reopens_rest : {plans : Plans} (t : Network) (routes : Routes) → Given t routes → (clock : ℕ) (cuts : Cuts) (past : List Event) (x : Net) → Rests t routes plans past x → StandAfter t routes clock past x
    → IsFree t routes (past ++ events_of (reopens cuts (home_in t routes) x)) → Rests t routes plans (past ++ events_of (reopens cuts (home_in t routes) x)) (emptied (reopens cuts (home_in t routes) x))
unfolding reopens
reopens_rest {plans} t routes given clock cuts past x r stand free =
    readings_rest t routes given clock past (reopened_by cuts (home_in t routes)) (λ s. cut_reading (cuts s.number) s) x (λ s. reopened_is (cuts s.number) (home_in t routes s.number) s)
    (λ s c y e. reading_front t routes clock past x s stand c (cuts s.number) y e) r stand free

-- a round and its restarts
cuts_rest : {plans : Plans} (t : Network) (routes : Routes) → Given t routes → Known (home_in t routes) → (clock : ℕ) (cuts : Cuts) (past : List Event) (x : Net) → Rests t routes plans past x → StandAfter t routes clock past x
    → IsFree t routes (past ++ (events_of (round_by cuts (home_in t routes) x) ++ events_of (reopens cuts (home_in t routes) (emptied (round_by cuts (home_in t routes) x)))))
    → Rests t routes plans (past ++ (events_of (round_by cuts (home_in t routes) x) ++ events_of (reopens cuts (home_in t routes) (emptied (round_by cuts (home_in t routes) x)))))
    (emptied (reopens cuts (home_in t routes) (emptied (round_by cuts (home_in t routes) x))))
cuts_rest {plans} t routes given known clock cuts past x r stand free =
    let homes : Homes = home_in t routes in
    let es : List Event = events_of (round_by cuts homes x) in
    let y : Net = emptied (round_by cuts homes x) in
    let fs : List Event = events_of (reopens cuts homes y) in
    let behind_round : StandAfter t routes clock (past ++ es) y = stand_after t routes clock past es y (round_comes homes known clock cuts (world_after empty past) x stand).stand in
    subst (λ gs. Rests t routes plans gs (emptied (reopens cuts homes y))) (append_assoc past es fs)
    (reopens_rest t routes given clock cuts (past ++ es) y (round_rests t routes given cuts past x r) behind_round (subst (IsFree t routes) (sym (append_assoc past es fs)) free))

---- The end of rounds

ends_or : {plans : Plans} (t : Network) (routes : Routes) (past : List Event) (x : Net) (b : Bool) (p : Played) → all_quiet (home_in t routes) x ≡ b → Rests t routes plans past x
    → (p.is_over ≡ true → IsFree t routes (past ++ p.events) → Ends t routes plans past p) → (cond b (over x) p).is_over ≡ true → IsFree t routes (past ++ (cond b (over x) p).events) → Ends t routes plans past (cond b (over x) p)
ends_or {plans} t routes past x true p q r more o free = record { rests = comes_over t routes past x true r; quiet = q }
ends_or {plans} t routes past x false p q r more o free = more o free

never : {X : Type 0} (b : Bool) → b ≡ false → b ≡ true → X
never b p q = absurd (cc)

settles_end : {plans : Plans} (t : Network) (routes : Routes) → Given t routes → Known (home_in t routes) → (clock : ℕ) (past : List Event) (rounds : List Cuts) (x : Net) → Rests t routes plans past x → StandAfter t routes clock past x
    → (settles_by rounds (home_in t routes) x).is_over ≡ true → IsFree t routes (past ++ (settles_by rounds (home_in t routes) x).events) → Ends t routes plans past (settles_by rounds (home_in t routes) x)
settles_end {plans} t routes given known clock past [] x r stand =
    subst (λ (p : Played). p.is_over ≡ true → IsFree t routes (past ++ p.events) → Ends t routes plans past p) (sym (settle_by_none (home_in t routes) x))
    (ends_or t routes past x (all_quiet (home_in t routes) x) (stopped x) refl r (λ o free. never false refl o))
settles_end {plans} t routes given known clock past (c ∷ cs) x r stand =
    let homes : Homes = home_in t routes in
    let es : List Event = events_of (round_by c homes x) in
    let y : Net = emptied (round_by c homes x) in
    let fs : List Event = events_of (reopens c homes y) in
    let z : Net = emptied (reopens c homes y) in
    let rest : Played = settles_by cs homes z in
    let later : StandAfter t routes clock (past ++ (es ++ fs)) z = stand_after t routes clock past (es ++ fs) z (cuts_come homes known clock c (world_after empty past) x stand).stand in
    subst (λ (p : Played). p.is_over ≡ true → IsFree t routes (past ++ p.events) → Ends t routes plans past p) (sym (settle_by_one c cs homes x))
    (ends_or t routes past x (all_quiet homes x) (after_cuts c homes x (settles_by cs homes)) refl r (λ o free.
    let whole : IsFree t routes (past ++ ((es ++ fs) ++ rest.events)) = subst (λ gs. IsFree t routes (past ++ gs)) (sym (append_assoc es fs rest.events)) free in
    let first : IsFree t routes (past ++ (es ++ fs)) = free_first t routes past (es ++ fs) rest.events whole in
    subst (Ends t routes plans past) (sym (behind_twice es fs rest))
    (ends_more t routes past (es ++ fs) rest
    (settles_end t routes given known clock (past ++ (es ++ fs)) cs z (cuts_rest t routes given known clock c past x r stand first) later o (subst (IsFree t routes) (sym (append_assoc past (es ++ fs) rest.events)) whole)))))

---- Acts

abbrev act_reading : (a tries : ℕ) → Seat → Option Reading
act_reading a tries s = cond (s.number == a) (with_tries tries s.past) None

act_is : (homes : Homes) (a tries count : ℕ) (s : Seat) → does_by (Act.Restart a) tries count homes s ≡ reads_by (act_reading a tries) homes s
act_is homes a tries count s = elim (cases_eq s.number a) [
  | inl e ↦
      changed_here a (read_again tries (homes a)) s e
      ∙ (past_read s.past (homes a) tries s ∙ (ap (λ k. reads_as (with_tries tries s.past) (homes k) s) (sym e)
      ∙ ap (λ b. reads_as (cond b (with_tries tries s.past) None) (homes s.number) s) (sym (eq-eqb s.number a e))))
  | inr n ↦ changed_there a (read_again tries (homes a)) s n ∙ ap (λ b. reads_as (cond b (with_tries tries s.past) None) (homes s.number) s) (sym (ne_eqb s.number a n))
]

act_front : (t : Network) (routes : Routes) (clock : ℕ) (past : List Event) (net : Net) (s : Seat) → AllStand (home_in t routes) clock (world_after empty past) net → Contains net s → (a tries : ℕ) (x : Reading) → act_reading a tries s ≡ Some x → IsFront past s.number x
act_front t routes clock past net s stand c a tries x e = by (s.number == a) e
  where
    by : (b : Bool) → cond b (with_tries tries s.past) None ≡ Some x → IsFront past s.number x
    by true q = tries_front past s.number tries s.past (λ es k. read_front t routes clock past net s es stand c k) x q
    by false q = absurd (no_none x q)

act_by_comes : {plans : Plans} (t : Network) (routes : Routes) → Given t routes → (clock : ℕ) (past : List Event) (act : Act) (tries count : ℕ) (x : Net) → StandAfter t routes clock past x
    → IsFree t routes (past ++ events_of (acted_by act tries count (home_in t routes) x)) → Rests t routes plans past x
    → Rests t routes plans (past ++ events_of (acted_by act tries count (home_in t routes) x)) (emptied (acted_by act tries count (home_in t routes) x))
act_by_comes {plans} t routes given clock past (Act.Ask a ask) tries count x stand free r = act_comes t routes given clock past (Act.Ask a ask) count x stand free r
act_by_comes {plans} t routes given clock past (Act.Force a n) tries count x stand free r = act_comes t routes given clock past (Act.Force a n) count x stand free r
act_by_comes {plans} t routes given clock past (Act.Restart a) tries count x stand free r =
    readings_rest t routes given clock past (does_by (Act.Restart a) tries count (home_in t routes)) (act_reading a tries) x (act_is (home_in t routes) a tries count) (λ s c y e. act_front t routes clock past x s stand c a tries y e) r stand free

-- an act, and what comes behind it
act_then : {plans : Plans} (t : Network) (routes : Routes) → Given t routes → Known (home_in t routes) → (clock : ℕ) (past : List Event) (a : Act) (tries count : ℕ) (x : Net) (more : Net → Played) → MayAct (home_in t routes) a → StandAfter t routes clock past x
    → IsFree t routes (past ++ (after_round (acted_by a tries count (home_in t routes) x) more).events) → Rests t routes plans past x
    → ((later : List Event) (z : Net) → StandAfter t routes clock later z → IsFree t routes (later ++ (more z).events) → Rests t routes plans later z → Comes t routes plans later (more z))
    → Comes t routes plans past (after_round (acted_by a tries count (home_in t routes) x) more)
act_then {plans} t routes given known clock past a tries count x more may stand free r next =
    let homes : Homes = home_in t routes in
    let y : Net = acted_by a tries count homes x in
    let z : Net = emptied y in
    let later : StandAfter t routes clock (past ++ events_of y) z = stand_after t routes clock past (events_of y) z (act_goes homes known clock (world_after empty past) a tries count x may stand).stand in
    comes_more t routes past (events_of y) (more z)
    (next (past ++ events_of y) z later (subst (IsFree t routes) (sym (append_assoc past (events_of y) (more z).events)) free)
    (act_by_comes t routes given clock past a tries count x stand (free_first t routes past (events_of y) (more z).events free) r))

acts_come : {plans : Plans} (t : Network) (routes : Routes) → Given t routes → Known (home_in t routes) → (clock : ℕ) (past : List Event) (todo : List Act) (tape : List ℕ) (count : ℕ) (x : Net) → All (MayAct (home_in t routes)) todo
    → StandAfter t routes clock past x → IsFree t routes (past ++ (acts_by todo tape count (home_in t routes) x).events) → Rests t routes plans past x → Comes t routes plans past (acts_by todo tape count (home_in t routes) x)
unfolding acts_by
acts_come {plans} t routes given known clock past [] tape count x may stand free r = comes_over t routes past x true r
acts_come {plans} t routes given known clock past (a ∷ rest) [] count x may stand free r =
    act_then t routes given known clock past a 0 count x (acts_by rest [] (count + asks_in a) (home_in t routes)) (All-head (MayAct (home_in t routes)) a rest may) stand free r
    (λ later z s f k. acts_come t routes given known clock later rest [] (count + asks_in a) z (All-tail (MayAct (home_in t routes)) a rest may) s f k)
acts_come {plans} t routes given known clock past (a ∷ rest) (n ∷ ns) count x may stand free r =
    act_then t routes given known clock past a n count x (acts_by rest ns (count + asks_in a) (home_in t routes)) (All-head (MayAct (home_in t routes)) a rest may) stand free r
    (λ later z s f k. acts_come t routes given known clock later rest ns (count + asks_in a) z (All-tail (MayAct (home_in t routes)) a rest may) s f k)

---- Groups

begins_come : {plans : Plans} (t : Network) (routes : Routes) → Given t routes → Known (home_in t routes) → (past : List Event) (tape : Tape) (g : Group) (count : ℕ) (x : Net) → All (MayAct (home_in t routes)) g.acts → StandAfter t routes g.at past x
    → Rests t routes plans past x → all_quiet (home_in t routes) x ≡ true → IsFree t routes (past ++ (begins_by tape g count (home_in t routes) x).events) → Comes t routes plans past (begins_by tape g count (home_in t routes) x)
unfolding begins_by
begins_come {plans} t routes given known past tape g count x may stand r quiet free =
    let homes : Homes = home_in t routes in
    let y : Net = map (ticked_in g.at homes) x in
    let p : Played = acts_by g.acts tape.acts count homes (emptied y) in
    let goes = step_goes homes g.at (ticked_in g.at homes) (world_after empty past) x (any_ticked homes known g.at x) stand in
    let later : StandAfter t routes g.at (past ++ events_of y) (emptied y) = stand_after t routes g.at past (events_of y) (emptied y) goes.stand in
    comes_more t routes past (events_of y) p
    (acts_come t routes given known g.at (past ++ events_of y) g.acts tape.acts count (emptied y) may later (subst (IsFree t routes) (sym (append_assoc past (events_of y) p.events)) free)
    (tick_rests t routes given past g.at x quiet (free_first t routes past (events_of y) p.events free) r))

group_end : {plans : Plans} (t : Network) (routes : Routes) → Given t routes → Known (home_in t routes) → (past : List Event) (tape : Tape) (g : Group) (count : ℕ) (x : Net) → All (MayAct (home_in t routes)) g.acts → StandAfter t routes g.at past x
    → Rests t routes plans past x → all_quiet (home_in t routes) x ≡ true → IsFree t routes (past ++ (group_by tape g count (home_in t routes) x).events) → (group_by tape g count (home_in t routes) x).is_over ≡ true
    → Ends t routes plans past (group_by tape g count (home_in t routes) x)
unfolding group_by
group_end {plans} t routes given known past tape g count x may stand r quiet free o =
    let homes : Homes = home_in t routes in
    let b : Played = begins_by tape g count homes x in
    let p : Played = settles_by tape.rounds homes b.net in
    let later : StandAfter t routes g.at (past ++ b.events) b.net = stand_after t routes g.at past b.events b.net (begins_go homes known (world_after empty past) tape g count x may stand).stand in
    ends_more t routes past b.events p
    (settles_end t routes given known g.at (past ++ b.events) tape.rounds b.net (begins_come t routes given known past tape g count x may stand r quiet (free_first t routes past b.events p.events free)) later o
    (subst (IsFree t routes) (sym (append_assoc past b.events p.events)) free))

---- Plays

-- a group, and what comes behind it
then_end : {plans : Plans} (t : Network) (routes : Routes) (past : List Event) (p : Played) (rest : Net → Played) → (p.is_over ≡ true → IsFree t routes (past ++ p.events) → Ends t routes plans past p)
    → (Ends t routes plans past p → IsFree t routes ((past ++ p.events) ++ (rest p.net).events) → (rest p.net).is_over ≡ true → Ends t routes plans (past ++ p.events) (rest p.net))
    → IsFree t routes (past ++ (then_on p rest).events) → (then_on p rest).is_over ≡ true → Ends t routes plans past (then_on p rest)
then_end {plans} t routes past p rest first more free o = elim (cases_Bool p.is_over) [
  | inl q ↦
      let is = then_over p rest q in
      let whole : IsFree t routes (past ++ (p.events ++ (rest p.net).events)) = subst (λ (z : Played). IsFree t routes (past ++ z.events)) is free in
      let e : Ends t routes plans past p = first q (free_first t routes past p.events (rest p.net).events whole) in
      subst (Ends t routes plans past) (sym is)
      (ends_more t routes past p.events (rest p.net) (more e (subst (IsFree t routes) (sym (append_assoc past p.events (rest p.net).events)) whole) (sym (ap (λ (z : Played). z.is_over) is) ∙ o)))
  | inr q ↦ never p.is_over q (sym (ap (λ (z : Played). z.is_over) (then_stopped p rest q)) ∙ o)
]

plays_end : {plans : Plans} (t : Network) (routes : Routes) → Given t routes → Known (home_in t routes) → (past : List Event) (tapes : List Tape) (gs : List Group) (count start : ℕ) (x : Net) → RiseFrom start gs → All (MayActAll (home_in t routes)) gs
    → StandAfter t routes start past x → Rests t routes plans past x → all_quiet (home_in t routes) x ≡ true → IsFree t routes (past ++ (plays_by tapes gs count (home_in t routes) x).events) → (plays_by tapes gs count (home_in t routes) x).is_over ≡ true
    → Ends t routes plans past (plays_by tapes gs count (home_in t routes) x)
unfolding plays_by
plays_end {plans} t routes given known past tapes [] count start x rise may stand r quiet free o = record { rests = comes_over t routes past x true r; quiet = quiet }
plays_end {plans} t routes given known past [] (g ∷ gs) count start x rise may stand r quiet free o =
    let homes : Homes = home_in t routes in
    let p : Played = group_by no_tape g count homes x in
    let here : StandAfter t routes g.at past x = stand_longer homes start g.at (world_after empty past) x (first_second start g gs rise) stand in
    let acted : All (MayAct homes) g.acts = All-head (MayActAll homes) g gs may in
    let later : StandAfter t routes g.at (past ++ p.events) p.net = stand_after t routes g.at past p.events p.net (group_goes homes known (world_after empty past) no_tape g count x acted here).stand in
    then_end t routes past p (plays_by [] gs (count + asks_among g.acts) homes) (λ q f. group_end t routes given known past no_tape g count x acted here r quiet f q)
    (λ e f q. plays_end t routes given known (past ++ p.events) [] gs (count + asks_among g.acts) g.at p.net (rest_rise start g gs rise) (All-tail (MayActAll homes) g gs may) later e.rests e.quiet f q) free o
plays_end {plans} t routes given known past (u ∷ us) (g ∷ gs) count start x rise may stand r quiet free o =
    let homes : Homes = home_in t routes in
    let p : Played = group_by u g count homes x in
    let here : StandAfter t routes g.at past x = stand_longer homes start g.at (world_after empty past) x (first_second start g gs rise) stand in
    let acted : All (MayAct homes) g.acts = All-head (MayActAll homes) g gs may in
    let later : StandAfter t routes g.at (past ++ p.events) p.net = stand_after t routes g.at past p.events p.net (group_goes homes known (world_after empty past) u g count x acted here).stand in
    then_end t routes past p (plays_by us gs (count + asks_among g.acts) homes) (λ q f. group_end t routes given known past u g count x acted here r quiet f q)
    (λ e f q. plays_end t routes given known (past ++ p.events) us gs (count + asks_among g.acts) g.at p.net (rest_rise start g gs rise) (All-tail (MayActAll homes) g gs may) later e.rests e.quiet f q) free o

---- The play

abbrev making_reading : ℕ → Option Reading
making_reading zero = None
making_reading (suc tries) = Some (record { tries = tries; entries = [] })

made_is : (times : ℕ) (h : Home) (s : Seat) → made times h s ≡ reads_as (making_reading times) h s
made_is zero h s = refl
made_is (suc tries) h s = refl

making_front : (past : List Event) (a times : ℕ) (x : Reading) → making_reading times ≡ Some x → IsFront past a x
making_front past a zero x e = absurd (no_none x e)
making_front past a (suc tries) x e = subst (IsFront past a) (same_reading (record { tries = tries; entries = [] }) x e) refl

-- behind the making of the journals
making_rests : {plans : Plans} (t : Network) (routes : Routes) → Given t routes → (making : ℕ → ℕ) → IsFree t routes (remade making (opening t plans)) → Rests t routes plans (remade making (opening t plans)) (opening t plans)
making_rests {plans} t routes given making free =
    let homes : Homes = home_in t routes in
    let x : Net = opening t plans in
    let f : Seat → Seat = made_by making homes in
    let stand : StandAfter t routes 0 [] x = subst (λ (w : World). AllStand homes 0 w x) (sym nothing_yet) (opening_stands t routes plans given.formed) in
    let told : events_of (map f x) ≡ remade making x = all_events t plans making homes (agents t) in
    let r : Rests t routes plans (events_of (map f x)) (emptied (map f x)) =
    readings_rest t routes given 0 [] f (λ s. making_reading (making s.number)) x (λ s. made_is (making s.number) (homes s.number) s) (λ s c y e. making_front [] s.number (making s.number) y e) (opening_rests t routes plans) stand
    (subst (IsFree t routes) (sym told) free) in
    subst (λ (es : List Event). Rests t routes plans es x) told (subst (Rests t routes plans (events_of (map f x))) (all_told t plans making homes (agents t)) r)

pub stopped_settles : AreLaws → NothingIsSaidTwice → StoppedPlaySettles
stopped_settles laws once t routes plans stops script events last sound formed routed rising acts play =
    let homes : Homes = home_in t routes in
    let given : Given t routes = record { own = laws.own; sound = sound; formed = formed; routed = routed } in
    let known : Known homes = given_in laws t routes in
    let x : Net = opening t plans in
    let es : List Event = remade stops.making x in
    let p : Played = plays_by stops.groups script 0 homes x in
    let free : IsFree t routes (es ++ p.events) = subst (λ (z : Played). IsFree t routes z.events) (sym play) (stopped_stands laws t routes plans stops script events last formed rising acts play).free in
    let first : IsFree t routes es = free_first t routes [] es p.events free in
    let end : Ends t routes plans [] (behind es p) =
    ends_more t routes [] es p
    (plays_end t routes given known es stops.groups script 0 0 x (rise_from script rising) (may_act_all t routes script (groups_of t script acts)) (making_goes t routes plans stops.making known formed).stand
    (making_rests t routes given stops.making first) (opening_quiet t routes plans) free (ap (λ (z : Played). z.is_over) play)) in
    let last_end : Ends t routes plans [] (ended events last) = subst (Ends t routes plans []) play end in
    settled_in t routes given once plans events last last_end.rests last_end.quiet (record {
      journal = λ a. refl;
      synced = λ a lt. (stopped_rests laws t routes plans stops script events last formed rising acts play a lt).synced;
    })
