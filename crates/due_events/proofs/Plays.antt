-- The events of a play are due, whatever the tape.
use Rattle.std.proofs.Common.{ℕ, zero, suc, ◌+◌, ◌≤◌, ◌≡◌, ◌≢◌, Bool, true, false, cond, List, [], ◌∷◌, ◌++◌, Option, Some, None, inl, inr, refl, sym, ap, ◌∙◌, subst, length, map}
use Rattle.std.specs.List.{All}
use Rattle.std.proofs.lemmas.Bool.{cases_Bool}
use Rattle.std.proofs.lemmas.List.Elements.{All-nil, All-cons, All-head, All-tail, All-map, All-weaker}
use Rattle.nsi_primitive.specs.declared.entry.Event.{Event}
use Rattle.nsi_primitive.specs.declared.entry.Input.{Input}
use Rattle.nsi_agent.specs.Homes.{home_in}
use Rattle.nsi_script.specs.declared.script.Act.{Act}
use Rattle.nsi_script.specs.declared.script.Group.{Group}
use Rattle.agent_node.specs.Acts.{asked, forced}
use Rattle.agent_node.specs.Meetings.{met}
use Rattle.agent_node.specs.Openings.{agents}
use Rattle.agent_node.specs.Seat.{Seat, now_at}
use Rattle.nsi_play.specs.Openings.{opening}
use Rattle.nsi_play.specs.Rounds.{Net, meets_each, meets_all, met_all, events_of, tells, emptied, all_quiet}
use Rattle.nsi_play.specs.Play.{Played, over, stopped, after_round, asks_in, asks_among, ticked_in, then_on}
use Rattle.nsi_play.proofs.Settling.{then_over, then_stopped}
use Rattle.nsi_world.specs.Worlds.{Homes, World, empty}
use Rattle.nsi_world.specs.Runs.{world_after}
use Rattle.nsi_world.specs.Seats.{Stands, Not}
use Rattle.nsi_world.specs.Nets.{numbers, AreDistinct, IsTold}
use Rattle.nsi_world.proofs.Later.{after_append}
use Rattle.nsi_world.proofs.NetSteps.{IsAbsent, first_apart, rest_apart, Without, events_met, emptied_told, emptied_numbers}
use Rattle.nsi_world.proofs.Opening.{opening_stands}
use Rattle.stopped_play.specs.Tapes.{Cut, Cuts, Tape, no_tape}
use Rattle.stopped_play.specs.Rounds.{turned_or, turned_by, round_by, reopened, reopened_by, reopens, after_cuts, settles_by}
use Rattle.stopped_play.specs.Play.{read_again, does_by, acted_by, acts_by, begins_by, group_by, plays_by, remade}
use Rattle.stopped_play.proofs.Calm.{settle_by_none, settle_by_one}
use Rattle.stopped_play.proofs.Making.{made, made_by, all_events, all_told}
use Rattle.due_events.specs.Due.{AreDue}
use Rattle.due_events.specs.Laws.{PlaysAreDue}
use Rattle.due_events.proofs.Fronts.{due_append}
use Rattle.due_events.proofs.Steps.{Holds, LeavesAlone, alone_twice, holds_alone, GoesDue, due_none, due_enters}
use Rattle.due_events.proofs.Turns.{turned_due, halted_due, ticked_due, reads_due, read_due, reopened_due, changed_due}

---- All agents, one after another

-- what an agent does is due in each world in which it holds its journal
abbrev Goes : Homes → (Seat → Seat) → Type 0
Goes homes f = (w : World) (s : Seat) → Holds homes w s → GoesDue homes w s (f s)

all_alone : (homes : Homes) (a : ℕ) (w v : World) (ss : Net) → IsAbsent a (numbers ss) → LeavesAlone (Not a) w v → All (Holds homes w) ss → All (Holds homes v) ss
all_alone homes a w v [] n f h = All-nil (Holds homes v)
all_alone homes a w v (s ∷ ss) n f h =
    All-cons (Holds homes v) s ss (holds_alone homes (Not a) w v s (All-head (λ m. m ≢ a) s.number (numbers ss) n) f (All-head (Holds homes w) s ss h))
    (all_alone homes a w v ss (All-tail (λ m. m ≢ a) s.number (numbers ss) n) f (All-tail (Holds homes w) s ss h))

record Walk (homes : Homes) (w : World) (old new : Net) : Type 0 where
  pub own : List Event
  pub events : events_of new ≡ own
  pub due : AreDue homes w own
  pub alone : LeavesAlone (Without old) w (world_after w own)
  pub numbers : numbers new ≡ numbers old
  pub hold : All (Holds homes (world_after w own)) new

not_first : (a : ℕ) (s : Seat) (ss : Net) → Without (s ∷ ss) a → Not s.number a
not_first a s ss n e = All-head (λ m. m ≢ a) s.number (numbers ss) n (sym e)

walk : (homes : Homes) (f : Seat → Seat) (w : World) (net : Net) → Goes homes f → AreDistinct (numbers net) → All IsTold net → All (Holds homes w) net → Walk homes w net (map f net)
unfolding world_after AreDue
walk homes f w [] goes d told h = record { own = []; events = refl; due = tt; alone = λ b n. (refl, refl); numbers = refl; hold = All-nil (Holds homes w) }
walk homes f w (s ∷ ss) goes d told h =
    let absent = first_apart s.number (numbers ss) d in
    let p = goes w s (All-head (Holds homes w) s ss h) in
    let v : World = world_after w p.own in
    let q = walk homes f v ss goes (rest_apart s.number (numbers ss) d) (All-tail IsTold s ss told) (all_alone homes s.number w v ss absent p.alone (All-tail (Holds homes w) s ss h)) in
    let u : World = world_after v q.own in
    record {
      own = p.own ++ q.own;
      events = ap (λ es. es ++ events_of (map f ss)) (p.events ∙ ap (λ es. es ++ p.own) (All-head IsTold s ss told)) ∙ ap (λ es. p.own ++ es) q.events;
      due = due_append homes w p.own q.own p.due q.due;
      alone = subst (λ z. LeavesAlone (Without (s ∷ ss)) w z) (sym (after_append w p.own q.own))
          (alone_twice (Without (s ∷ ss)) w v u (λ b n. p.alone b (not_first b s ss n)) (λ b n. q.alone b (All-tail (λ m. m ≢ b) s.number (numbers ss) n)));
      numbers = ap (λ n. n ∷ numbers (map f ss)) p.number ∙ ap (λ ns. s.number ∷ ns) q.numbers;
      hold = subst (λ z. All (Holds homes z) (f s ∷ map f ss)) (sym (after_append w p.own q.own))
          (All-cons (Holds homes u) (f s) (map f ss) (holds_alone homes (Without ss) v u (f s) (subst (λ n. IsAbsent n (numbers ss)) (sym p.number) absent) q.alone p.holds) q.hold);
    }

---- Nets

-- each agent holds its journal, and has a number of its own
record AllHold (homes : Homes) (w : World) (net : Net) : Type 0 where
  pub distinct : AreDistinct (numbers net)
  pub told : All IsTold net
  pub hold : All (Holds homes w) net

-- a net goes on by events that are due
record NetGoesDue (homes : Homes) (w : World) (events : List Event) (new : Net) : Type 0 where
  pub due : AreDue homes w events
  pub hold : AllHold homes (world_after w events) new

-- the play has come so far
abbrev Comes : Homes → World → Played → Type 0
Comes homes w p = NetGoesDue homes w p.events p.net

net_none : (homes : Homes) (w : World) (x : Net) → AllHold homes w x → NetGoesDue homes w [] x
unfolding world_after AreDue
net_none homes w x h = record { due = tt; hold = h }

net_twice : (homes : Homes) (w : World) (y z : Net) (es fs : List Event) → NetGoesDue homes w es y → NetGoesDue homes (world_after w es) fs z → NetGoesDue homes w (es ++ fs) z
net_twice homes w y z es fs p q = record { due = due_append homes w es fs p.due q.due; hold = subst (λ v. AllHold homes v z) (sym (after_append w es fs)) q.hold }

tells_holds : (homes : Homes) (w : World) (s : Seat) → Holds homes w s → Holds homes w (tells s)
tells_holds homes w s h = record { within = h.within; journal = h.journal; synced = h.synced; past = h.past; state = h.state }

emptied_hold : (homes : Homes) (w : World) (net : Net) → All (Holds homes w) net → All (Holds homes w) (emptied net)
emptied_hold homes w net h = All-map (Holds homes w) tells net (All-weaker (Holds homes w) (λ s. Holds homes w (tells s)) (tells_holds homes w) net h)

-- one step of every agent, and then what has happened is taken away
step_due : (homes : Homes) (f : Seat → Seat) (w : World) (net : Net) → Goes homes f → AllHold homes w net → NetGoesDue homes w (events_of (map f net)) (emptied (map f net))
step_due homes f w net goes h =
    let p = walk homes f w net goes h.distinct h.told h.hold in
    let v : World = world_after w p.own in
    let same : numbers (emptied (map f net)) ≡ numbers net = emptied_numbers (map f net) ∙ p.numbers in
    let hold : AllHold homes v (emptied (map f net)) = record { distinct = subst AreDistinct (sym same) h.distinct; told = emptied_told (map f net); hold = emptied_hold homes v (map f net) p.hold } in
    subst (λ es. NetGoesDue homes w es (emptied (map f net))) (sym p.events) (record { due = p.due; hold = hold })

---- Meetings

met_holds : (homes : Homes) (w : World) (o s : Seat) → Holds homes w s → Holds homes w (met o s)
unfolding met
met_holds homes w o s h = record { within = h.within; journal = h.journal; synced = h.synced; past = h.past; state = h.state }

meets_hold : (homes : Homes) (w : World) (s : Seat) (os : Net) → Holds homes w s → Holds homes w (meets_each s os)
unfolding meets_each
meets_hold homes w s [] h = h
meets_hold homes w s (o ∷ os) h = meets_hold homes w (met o s) os (met_holds homes w o s h)

met_number : (o s : Seat) → (met o s).number ≡ s.number
unfolding met
met_number o s = refl

meets_number : (s : Seat) (os : Net) → (meets_each s os).number ≡ s.number
unfolding meets_each
meets_number s [] = refl
meets_number s (o ∷ os) = meets_number (met o s) os ∙ met_number o s

pub numbers_met : (all net : Net) → numbers (map (meets_all all) net) ≡ numbers net
numbers_met all [] = refl
numbers_met all (s ∷ ss) = ap (λ n. n ∷ numbers (map (meets_all all) ss)) (meets_number s all) ∙ ap (λ ns. s.number ∷ ns) (numbers_met all ss)

-- one step of every agent, then each learns what was let through to it, and then what has happened is taken away
met_due : (homes : Homes) (f : Seat → Seat) (w : World) (net : Net) → Goes homes f → AllHold homes w net → NetGoesDue homes w (events_of (met_all (map f net))) (emptied (met_all (map f net)))
met_due homes f w net goes h =
    let p = walk homes f w net goes h.distinct h.told h.hold in
    let v : World = world_after w p.own in
    let x : Net = map f net in
    let same : numbers (emptied (met_all x)) ≡ numbers net = emptied_numbers (met_all x) ∙ (numbers_met x x ∙ p.numbers) in
    let met_hold : All (Holds homes v) (met_all x) = All-map (Holds homes v) (meets_all x) x (All-weaker (Holds homes v) (λ s. Holds homes v (meets_all x s)) (λ s k. meets_hold homes v s x k) x p.hold) in
    let hold : AllHold homes v (emptied (met_all x)) = record { distinct = subst AreDistinct (sym same) h.distinct; told = emptied_told (met_all x); hold = emptied_hold homes v (met_all x) met_hold } in
    subst (λ es. NetGoesDue homes w es (emptied (met_all x))) (sym (events_met x x ∙ p.events)) (record { due = p.due; hold = hold })

---- Rounds

turned_goes : (homes : Homes) (o : Option Cut) (w : World) (s : Seat) → Holds homes w s → GoesDue homes w s (turned_or o (homes s.number) s)
turned_goes homes None w s h = turned_due homes w s h
turned_goes homes (Some c) w s h = halted_due homes w s h

reopened_goes : (homes : Homes) (o : Option Cut) (w : World) (s : Seat) → Holds homes w s → GoesDue homes w s (reopened o (homes s.number) s)
reopened_goes homes None w s h = due_none homes w s h
reopened_goes homes (Some c) w s h = reopened_due homes w c.keeps c.again s h

round_comes : (homes : Homes) (cuts : Cuts) (w : World) (x : Net) → AllHold homes w x → NetGoesDue homes w (events_of (round_by cuts homes x)) (emptied (round_by cuts homes x))
unfolding round_by
round_comes homes cuts w x h = met_due homes (turned_by cuts homes) w x (λ v s k. turned_goes homes (cuts s.number) v s k) h

reopens_come : (homes : Homes) (cuts : Cuts) (w : World) (x : Net) → AllHold homes w x → NetGoesDue homes w (events_of (reopens cuts homes x)) (emptied (reopens cuts homes x))
unfolding reopens
reopens_come homes cuts w x h = step_due homes (reopened_by cuts homes) w x (λ v s k. reopened_goes homes (cuts s.number) v s k) h

-- a round and its restarts, and what comes behind these
cuts_then : (homes : Homes) (cuts : Cuts) (w : World) (x : Net) (rest : Net → Played) → AllHold homes w x → ((v : World) (y : Net) → AllHold homes v y → Comes homes v (rest y)) → Comes homes w (after_cuts cuts homes x rest)
cuts_then homes cuts w x rest h more =
    let y : Net = emptied (round_by cuts homes x) in
    let z : Net = emptied (reopens cuts homes y) in
    let es : List Event = events_of (round_by cuts homes x) in
    let fs : List Event = events_of (reopens cuts homes y) in
    let p = round_comes homes cuts w x h in
    let v : World = world_after w es in
    let q = reopens_come homes cuts v y p.hold in
    net_twice homes w y (rest z).net es (fs ++ (rest z).events) p (net_twice homes v z (rest z).net fs (rest z).events q (more (world_after v fs) z q.hold))

ends_come : (homes : Homes) (w : World) (x : Net) (b : Bool) → AllHold homes w x → Comes homes w (cond b (over x) (stopped x))
ends_come homes w x true h = net_none homes w x h
ends_come homes w x false h = net_none homes w x h

round_or_over : (homes : Homes) (w : World) (x : Net) (b : Bool) (p : Played) → AllHold homes w x → Comes homes w p → Comes homes w (cond b (over x) p)
round_or_over homes w x true p h c = net_none homes w x h
round_or_over homes w x false p h c = c

settles_come : (homes : Homes) (w : World) (rounds : List Cuts) (x : Net) → AllHold homes w x → Comes homes w (settles_by rounds homes x)
settles_come homes w [] x h = subst (Comes homes w) (sym (settle_by_none homes x)) (ends_come homes w x (all_quiet homes x) h)
settles_come homes w (c ∷ cs) x h =
    subst (Comes homes w) (sym (settle_by_one c cs homes x))
    (round_or_over homes w x (all_quiet homes x) (after_cuts c homes x (settles_by cs homes)) h (cuts_then homes c w x (settles_by cs homes) h (λ v y k. settles_come homes v cs y k)))

---- Acts

does_due : (homes : Homes) (act : Act) (tries count : ℕ) (w : World) (s : Seat) → Holds homes w s → GoesDue homes w s (does_by act tries count homes s)
does_due homes (Act.Ask a ask) tries count w s h = changed_due homes w a (asked (homes a) count ask) s h (λ is. due_enters homes w (now_at s (Input.Ask count ask)) a s is h tt)
does_due homes (Act.Force a n) tries count w s h = changed_due homes w a (forced (homes a) n) s h (λ is. due_enters homes w (now_at s (Input.Force n)) a s is h tt)
does_due homes (Act.Restart a) tries count w s h =
    changed_due homes w a (read_again tries (homes a)) s h (λ is. subst (λ k. GoesDue homes w s (read_again tries (homes k) s)) is (read_due homes w tries s h))

act_then : (homes : Homes) (w : World) (a : Act) (tries count : ℕ) (x : Net) (rest : Net → Played) → AllHold homes w x → ((v : World) (y : Net) → AllHold homes v y → Comes homes v (rest y))
    → Comes homes w (after_round (acted_by a tries count homes x) rest)
act_then homes w a tries count x rest h more =
    let y : Net = acted_by a tries count homes x in
    let z : Net = emptied y in
    let r = step_due homes (does_by a tries count homes) w x (does_due homes a tries count) h in
    net_twice homes w z (rest z).net (events_of y) (rest z).events r (more (world_after w (events_of y)) z r.hold)

acts_come : (homes : Homes) (w : World) (todo : List Act) (tape : List ℕ) (count : ℕ) (x : Net) → AllHold homes w x → Comes homes w (acts_by todo tape count homes x)
unfolding acts_by
acts_come homes w [] tape count x h = net_none homes w x h
acts_come homes w (a ∷ rest) [] count x h = act_then homes w a 0 count x (acts_by rest [] (count + asks_in a) homes) h (λ v y k. acts_come homes v rest [] (count + asks_in a) y k)
acts_come homes w (a ∷ rest) (n ∷ ns) count x h = act_then homes w a n count x (acts_by rest ns (count + asks_in a) homes) h (λ v y k. acts_come homes v rest ns (count + asks_in a) y k)

---- Groups

begins_come : (homes : Homes) (w : World) (tape : Tape) (g : Group) (count : ℕ) (x : Net) → AllHold homes w x → Comes homes w (begins_by tape g count homes x)
unfolding begins_by
begins_come homes w tape g count x h =
    let y : Net = map (ticked_in g.at homes) x in
    let z : Net = emptied y in
    let p : Played = acts_by g.acts tape.acts count homes z in
    let r = step_due homes (ticked_in g.at homes) w x (ticked_due homes g.at) h in
    net_twice homes w z p.net (events_of y) p.events r (acts_come homes (world_after w (events_of y)) g.acts tape.acts count z r.hold)

group_comes : (homes : Homes) (w : World) (tape : Tape) (g : Group) (count : ℕ) (x : Net) → AllHold homes w x → Comes homes w (group_by tape g count homes x)
unfolding group_by
group_comes homes w tape g count x h =
    let b : Played = begins_by tape g count homes x in
    let p : Played = settles_by tape.rounds homes b.net in
    let r = begins_come homes w tape g count x h in
    net_twice homes w b.net p.net b.events p.events r (settles_come homes (world_after w b.events) tape.rounds b.net r.hold)

---- Plays

then_comes : (homes : Homes) (w : World) (p : Played) (rest : Net → Played) → Comes homes w p → (AllHold homes (world_after w p.events) p.net → Comes homes (world_after w p.events) (rest p.net)) → Comes homes w (then_on p rest)
then_comes homes w p rest a more = elim (cases_Bool p.is_over) [
  | inl o ↦ subst (Comes homes w) (sym (then_over p rest o)) (net_twice homes w p.net (rest p.net).net p.events (rest p.net).events a (more a.hold))
  | inr o ↦ subst (Comes homes w) (sym (then_stopped p rest o)) a
]

plays_come : (homes : Homes) (w : World) (tapes : List Tape) (gs : List Group) (count : ℕ) (x : Net) → AllHold homes w x → Comes homes w (plays_by tapes gs count homes x)
unfolding plays_by
plays_come homes w tapes [] count x h = net_none homes w x h
plays_come homes w [] (g ∷ gs) count x h =
    then_comes homes w (group_by no_tape g count homes x) (plays_by [] gs (count + asks_among g.acts) homes) (group_comes homes w no_tape g count x h)
    (λ k. plays_come homes (world_after w (group_by no_tape g count homes x).events) [] gs (count + asks_among g.acts) (group_by no_tape g count homes x).net k)
plays_come homes w (t ∷ ts) (g ∷ gs) count x h =
    then_comes homes w (group_by t g count homes x) (plays_by ts gs (count + asks_among g.acts) homes) (group_comes homes w t g count x h)
    (λ k. plays_come homes (world_after w (group_by t g count homes x).events) ts gs (count + asks_among g.acts) (group_by t g count homes x).net k)

---- The play

made_due : (homes : Homes) (times : ℕ) (w : World) (s : Seat) → Holds homes w s → GoesDue homes w s (made times (homes s.number) s)
made_due homes zero w s h = due_none homes w s h
made_due homes (suc tries) w s h = reads_due homes w tries [] s h refl

stands_hold : (homes : Homes) (clock : ℕ) (w : World) (s : Seat) → w.synced s.number ≤ length (w.journal s.number) → Stands homes clock w s → Holds homes w s
stands_hold homes clock w s low h = record { within = low; journal = h.journal; synced = h.synced; past = h.past; state = h.state }

pub plays_are_due : PlaysAreDue
plays_are_due t routes plans stops script formed =
    let homes : Homes = home_in t routes in
    let x : Net = opening t plans in
    let stand = opening_stands t routes plans formed in
    let hold : AllHold homes empty x = record {
      distinct = stand.distinct;
      told = stand.told;
      hold = All-weaker (Stands homes 0 empty) (Holds homes empty) (λ s k. stands_hold homes 0 empty s (stand.fair.within s.number) k) x stand.stand;
    } in
    let es : List Event = remade stops.making x in
    let r : NetGoesDue homes empty es x =
    subst (λ (fs : List Event). NetGoesDue homes empty fs x) (all_events t plans stops.making homes (agents t))
    (subst (NetGoesDue homes empty (events_of (map (made_by stops.making homes) x))) (all_told t plans stops.making homes (agents t))
    (step_due homes (made_by stops.making homes) empty x (λ v s k. made_due homes (stops.making s.number) v s k) hold))
    in
    let p : Played = plays_by stops.groups script 0 homes x in
    due_append homes empty es p.events r.due (plays_come homes (world_after empty es) stops.groups script 0 x r.hold).due
