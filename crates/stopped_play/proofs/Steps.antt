-- A play in which disks stop goes on by events that are allowed, whatever the tape.
use Rattle.std.proofs.Common.{ℕ, ◌+◌, ◌≤◌, Bool, true, false, cond, List, [], ◌∷◌, ◌++◌, Option, Some, None, inl, inr, sym, subst, arith, map, append_assoc}
use Rattle.std.specs.List.{All}
use Rattle.std.proofs.lemmas.Bool.{cases_Bool, cases_eq}
use Rattle.std.proofs.lemmas.List.Elements.{All-nil, All-cons, All-head, All-tail}
use Rattle.nsi_primitive.specs.declared.entry.Event.{Event}
use Rattle.nsi_script.specs.declared.script.Act.{Act}
use Rattle.nsi_script.specs.declared.script.Group.{Group}
use Rattle.agent_node.specs.Seat.{Seat}
use Rattle.nsi_play.specs.Rounds.{Net, events_of, emptied, all_quiet}
use Rattle.nsi_play.specs.Play.{Played, over, stopped, after_round, asks_in, asks_among, ticked_in, then_on}
use Rattle.nsi_play.proofs.Settling.{then_over, then_stopped}
use Rattle.nsi_world.specs.Worlds.{Homes, World}
use Rattle.nsi_world.specs.Runs.{world_after}
use Rattle.nsi_world.specs.Heard.{IsFair}
use Rattle.nsi_world.specs.Seats.{Stands, GoesLater}
use Rattle.nsi_world.specs.Nets.{AllStand, NetGoesOn}
use Rattle.nsi_world.proofs.Given.{Given}
use Rattle.nsi_world.proofs.ScriptLemmas.{RiseFrom}
use Rattle.nsi_world.proofs.Steps.{later_goes, goes_none}
use Rattle.nsi_world.proofs.TurnSteps.{goes_turned, goes_halted}
use Rattle.nsi_world.proofs.RestartSteps.{goes_read, goes_reopened}
use Rattle.nsi_world.proofs.NetSteps.{Goes, step_goes, met_goes}
use Rattle.nsi_world.proofs.ActSteps.{MayAct, goes_does, changed_here, changed_there}
use Rattle.nsi_world.proofs.PlaySteps.{MayActAll, PlayComes, net_twice, net_none, goes_longer, stand_longer, first_second, rest_rise, any_ticked}
use Rattle.stopped_play.specs.Tapes.{Cut, Cuts, Tape, no_tape}
use Rattle.stopped_play.specs.Rounds.{turned_or, turned_by, round_by, reopened, reopened_by, reopens, after_cuts, settles_by}
use Rattle.stopped_play.specs.Play.{read_again, does_by, acted_by, acts_by, begins_by, group_by, plays_by}
use Rattle.stopped_play.proofs.Calm.{settle_by_none, settle_by_one}

-- the play has come so far by events that are allowed
abbrev Comes : Homes → ℕ → World → Net → Played → Type 0
Comes homes clock w x p = NetGoesOn homes clock w x p.events p.net

---- Rounds

turned_goes : (homes : Homes) → Given homes → (clock : ℕ) (o : Option Cut) (w : World) (s : Seat) → Stands homes clock w s → IsFair homes w → GoesLater homes clock w s (turned_or o (homes s.number) s)
turned_goes homes given clock None w s h fair = later_goes homes clock w s (turned_or None (homes s.number) s) (goes_turned homes given clock w s h fair)
turned_goes homes given clock (Some c) w s h fair = later_goes homes clock w s (turned_or (Some c) (homes s.number) s) (goes_halted homes given clock w s h fair)

any_turned : (homes : Homes) → Given homes → (clock : ℕ) (cuts : Cuts) (net : Net) → All (Goes homes clock (turned_by cuts homes)) net
any_turned homes given clock cuts [] = All-nil (Goes homes clock (turned_by cuts homes))
any_turned homes given clock cuts (s ∷ ss) = All-cons (Goes homes clock (turned_by cuts homes)) s ss (λ w h fair. turned_goes homes given clock (cuts s.number) w s h fair) (any_turned homes given clock cuts ss)

reopened_goes : (homes : Homes) → Given homes → (clock : ℕ) (o : Option Cut) (w : World) (s : Seat) → Stands homes clock w s → IsFair homes w → GoesLater homes clock w s (reopened o (homes s.number) s)
reopened_goes homes given clock None w s h fair = later_goes homes clock w s s (goes_none homes clock w s h fair)
reopened_goes homes given clock (Some c) w s h fair = goes_reopened homes given clock w c.keeps c.again s h fair

any_reopened : (homes : Homes) → Given homes → (clock : ℕ) (cuts : Cuts) (net : Net) → All (Goes homes clock (reopened_by cuts homes)) net
any_reopened homes given clock cuts [] = All-nil (Goes homes clock (reopened_by cuts homes))
any_reopened homes given clock cuts (s ∷ ss) = All-cons (Goes homes clock (reopened_by cuts homes)) s ss (λ w h fair. reopened_goes homes given clock (cuts s.number) w s h fair) (any_reopened homes given clock cuts ss)

pub round_comes : (homes : Homes) → Given homes → (clock : ℕ) (cuts : Cuts) (w : World) (x : Net) → AllStand homes clock w x → NetGoesOn homes clock w x (events_of (round_by cuts homes x)) (emptied (round_by cuts homes x))
unfolding round_by
round_comes homes given clock cuts w x h = met_goes homes clock (turned_by cuts homes) w x (any_turned homes given clock cuts x) h

reopens_come : (homes : Homes) → Given homes → (clock : ℕ) (cuts : Cuts) (w : World) (x : Net) → AllStand homes clock w x → NetGoesOn homes clock w x (events_of (reopens cuts homes x)) (emptied (reopens cuts homes x))
unfolding reopens
reopens_come homes given clock cuts w x h = step_goes homes clock (reopened_by cuts homes) w x (any_reopened homes given clock cuts x) h

-- a round and its restarts
pub cuts_come : (homes : Homes) → Given homes → (clock : ℕ) (cuts : Cuts) (w : World) (x : Net) → AllStand homes clock w x
    → NetGoesOn homes clock w x (events_of (round_by cuts homes x) ++ events_of (reopens cuts homes (emptied (round_by cuts homes x)))) (emptied (reopens cuts homes (emptied (round_by cuts homes x))))
cuts_come homes given clock cuts w x h =
    let y : Net = emptied (round_by cuts homes x) in
    let es : List Event = events_of (round_by cuts homes x) in
    let p = round_comes homes given clock cuts w x h in
    net_twice homes clock w x y (emptied (reopens cuts homes y)) es (events_of (reopens cuts homes y)) p (reopens_come homes given clock cuts (world_after w es) y p.stand)

-- what comes behind these
cuts_then : (homes : Homes) → Given homes → (clock : ℕ) (cuts : Cuts) (w : World) (x : Net) (rest : Net → Played) → AllStand homes clock w x → ((v : World) (y : Net) → AllStand homes clock v y → Comes homes clock v y (rest y))
    → Comes homes clock w x (after_cuts cuts homes x rest)
cuts_then homes given clock cuts w x rest h more =
    let y : Net = emptied (round_by cuts homes x) in
    let z : Net = emptied (reopens cuts homes y) in
    let es : List Event = events_of (round_by cuts homes x) in
    let fs : List Event = events_of (reopens cuts homes y) in
    let p = cuts_come homes given clock cuts w x h in
    subst (λ (gs : List Event). NetGoesOn homes clock w x gs (rest z).net) (append_assoc es fs (rest z).events)
    (net_twice homes clock w x z (rest z).net (es ++ fs) (rest z).events p (more (world_after w (es ++ fs)) z p.stand))

ends_come : (homes : Homes) (clock : ℕ) (w : World) (x : Net) (b : Bool) → AllStand homes clock w x → Comes homes clock w x (cond b (over x) (stopped x))
ends_come homes clock w x true h = net_none homes clock w x h
ends_come homes clock w x false h = net_none homes clock w x h

round_or_over : (homes : Homes) (clock : ℕ) (w : World) (x : Net) (b : Bool) (p : Played) → AllStand homes clock w x → Comes homes clock w x p → Comes homes clock w x (cond b (over x) p)
round_or_over homes clock w x true p h c = net_none homes clock w x h
round_or_over homes clock w x false p h c = c

pub settles_come : (homes : Homes) → Given homes → (clock : ℕ) (w : World) (rounds : List Cuts) (x : Net) → AllStand homes clock w x → Comes homes clock w x (settles_by rounds homes x)
settles_come homes given clock w [] x h = subst (Comes homes clock w x) (sym (settle_by_none homes x)) (ends_come homes clock w x (all_quiet homes x) h)
settles_come homes given clock w (c ∷ cs) x h =
    subst (Comes homes clock w x) (sym (settle_by_one c cs homes x))
    (round_or_over homes clock w x (all_quiet homes x) (after_cuts c homes x (settles_by cs homes)) h (cuts_then homes given clock c w x (settles_by cs homes) h (λ v y k. settles_come homes given clock v cs y k)))

---- Acts

goes_by : (homes : Homes) → Given homes → (clock : ℕ) (act : Act) (tries count : ℕ) (w : World) (s : Seat) → MayAct homes act → Stands homes clock w s → IsFair homes w → GoesLater homes clock w s (does_by act tries count homes s)
goes_by homes given clock (Act.Ask a ask) tries count w s may h fair = goes_does homes given clock (Act.Ask a ask) count w s may h fair
goes_by homes given clock (Act.Force a n) tries count w s may h fair = goes_does homes given clock (Act.Force a n) count w s may h fair
goes_by homes given clock (Act.Restart a) tries count w s may h fair = elim (cases_eq s.number a) [
  | inl e ↦ subst (GoesLater homes clock w s) (sym (changed_here a (read_again tries (homes a)) s e)) (subst (λ k. GoesLater homes clock w s (read_again tries (homes k) s)) e (goes_read homes given clock w tries s h fair))
  | inr n ↦ subst (GoesLater homes clock w s) (sym (changed_there a (read_again tries (homes a)) s n)) (later_goes homes clock w s s (goes_none homes clock w s h fair))
]

any_by : (homes : Homes) → Given homes → (clock : ℕ) (act : Act) (tries count : ℕ) (net : Net) → MayAct homes act → All (Goes homes clock (does_by act tries count homes)) net
any_by homes given clock act tries count [] may = All-nil (Goes homes clock (does_by act tries count homes))
any_by homes given clock act tries count (s ∷ ss) may =
    All-cons (Goes homes clock (does_by act tries count homes)) s ss (λ w h fair. goes_by homes given clock act tries count w s may h fair) (any_by homes given clock act tries count ss may)

pub act_comes : (homes : Homes) → Given homes → (clock : ℕ) (w : World) (a : Act) (tries count : ℕ) (x : Net) → MayAct homes a → AllStand homes clock w x
    → NetGoesOn homes clock w x (events_of (acted_by a tries count homes x)) (emptied (acted_by a tries count homes x))
act_comes homes given clock w a tries count x may h = step_goes homes clock (does_by a tries count homes) w x (any_by homes given clock a tries count x may) h

act_then : (homes : Homes) → Given homes → (clock : ℕ) (w : World) (a : Act) (tries count : ℕ) (x : Net) (rest : Net → Played) → MayAct homes a → AllStand homes clock w x
    → ((v : World) (y : Net) → AllStand homes clock v y → Comes homes clock v y (rest y)) → Comes homes clock w x (after_round (acted_by a tries count homes x) rest)
act_then homes given clock w a tries count x rest may h more =
    let y : Net = acted_by a tries count homes x in
    let z : Net = emptied y in
    let r = act_comes homes given clock w a tries count x may h in
    net_twice homes clock w x z (rest z).net (events_of y) (rest z).events r (more (world_after w (events_of y)) z r.stand)

acts_come : (homes : Homes) → Given homes → (clock : ℕ) (w : World) (todo : List Act) (tape : List ℕ) (count : ℕ) (x : Net) → All (MayAct homes) todo → AllStand homes clock w x → Comes homes clock w x (acts_by todo tape count homes x)
unfolding acts_by
acts_come homes given clock w [] tape count x may h = net_none homes clock w x h
acts_come homes given clock w (a ∷ rest) [] count x may h =
    act_then homes given clock w a 0 count x (acts_by rest [] (count + asks_in a) homes) (All-head (MayAct homes) a rest may) h
    (λ v y k. acts_come homes given clock v rest [] (count + asks_in a) y (All-tail (MayAct homes) a rest may) k)
acts_come homes given clock w (a ∷ rest) (n ∷ ns) count x may h =
    act_then homes given clock w a n count x (acts_by rest ns (count + asks_in a) homes) (All-head (MayAct homes) a rest may) h
    (λ v y k. acts_come homes given clock v rest ns (count + asks_in a) y (All-tail (MayAct homes) a rest may) k)

---- Groups

pub begins_come : (homes : Homes) → Given homes → (w : World) (tape : Tape) (g : Group) (count : ℕ) (x : Net) → All (MayAct homes) g.acts → AllStand homes g.at w x → Comes homes g.at w x (begins_by tape g count homes x)
unfolding begins_by
begins_come homes given w tape g count x may h =
    let y : Net = map (ticked_in g.at homes) x in
    let z : Net = emptied y in
    let p : Played = acts_by g.acts tape.acts count homes z in
    let r = step_goes homes g.at (ticked_in g.at homes) w x (any_ticked homes given g.at x) h in
    net_twice homes g.at w x z p.net (events_of y) p.events r (acts_come homes given g.at (world_after w (events_of y)) g.acts tape.acts count z may r.stand)

pub group_comes : (homes : Homes) → Given homes → (w : World) (tape : Tape) (g : Group) (count : ℕ) (x : Net) → All (MayAct homes) g.acts → AllStand homes g.at w x → Comes homes g.at w x (group_by tape g count homes x)
unfolding group_by
group_comes homes given w tape g count x may h =
    let b : Played = begins_by tape g count homes x in
    let p : Played = settles_by tape.rounds homes b.net in
    let r = begins_come homes given w tape g count x may h in
    net_twice homes g.at w x b.net p.net b.events p.events r (settles_come homes given g.at (world_after w b.events) tape.rounds b.net r.stand)

---- Plays

then_comes : (homes : Homes) (start at : ℕ) (w : World) (x : Net) (p : Played) (rest : Net → Played) → start ≤ at → Comes homes at w x p → (AllStand homes at (world_after w p.events) p.net → PlayComes homes at (world_after w p.events) p.net (rest p.net))
    → PlayComes homes start w x (then_on p rest)
then_comes homes start at w x p rest le a more = elim (cases_Bool p.is_over) [
  | inl o ↦
      let q = more a.stand in
      subst (PlayComes homes start w x) (sym (then_over p rest o)) (record {
        clock = q.clock;
        later = let m = q.later in omega (arith, le, m);
        goes = net_twice homes q.clock w x p.net (rest p.net).net p.events (rest p.net).events (goes_longer homes at q.clock w x p.net p.events q.later a) q.goes;
      })
  | inr o ↦ subst (PlayComes homes start w x) (sym (then_stopped p rest o)) (record { clock = at; later = le; goes = a })
]

pub plays_come : (homes : Homes) → Given homes → (w : World) (tapes : List Tape) (gs : List Group) (count start : ℕ) (x : Net) → RiseFrom start gs → All (MayActAll homes) gs → AllStand homes start w x
    → PlayComes homes start w x (plays_by tapes gs count homes x)
unfolding plays_by
plays_come homes given w tapes [] count start x rise may h = record { clock = start; later = omega arith; goes = net_none homes start w x h }
plays_come homes given w [] (g ∷ gs) count start x rise may h =
    let le : start ≤ g.at = first_second start g gs rise in
    then_comes homes start g.at w x (group_by no_tape g count homes x) (plays_by [] gs (count + asks_among g.acts) homes) le
    (group_comes homes given w no_tape g count x (All-head (MayActAll homes) g gs may) (stand_longer homes start g.at w x le h))
    (λ k. plays_come homes given (world_after w (group_by no_tape g count homes x).events) [] gs (count + asks_among g.acts) g.at (group_by no_tape g count homes x).net (rest_rise start g gs rise) (All-tail (MayActAll homes) g gs may) k)
plays_come homes given w (t ∷ ts) (g ∷ gs) count start x rise may h =
    let le : start ≤ g.at = first_second start g gs rise in
    then_comes homes start g.at w x (group_by t g count homes x) (plays_by ts gs (count + asks_among g.acts) homes) le
    (group_comes homes given w t g count x (All-head (MayActAll homes) g gs may) (stand_longer homes start g.at w x le h))
    (λ k. plays_come homes given (world_after w (group_by t g count homes x).events) ts gs (count + asks_among g.acts) g.at (group_by t g count homes x).net (rest_rise start g gs rise) (All-tail (MayActAll homes) g gs may) k)
