-- Rounds with the restarts behind them, one after another.
use Rattle.std.proofs.Common.{ℕ, ◌≡◌, ◌≤◌, ◌<◌, ◌+◌, ◌⊎◌, inl, inr, if◌then◌else◌, Bool, true, false, List, [], ◌∷◌, ◌++◌, None, is_some, refl, sym, ap, ◌∙◌, subst, arith, length, length-append, append_assoc}
use Rattle.std.proofs.lemmas.Bool.{cases_Bool}
use Rattle.std.proofs.lemmas.List.{append_cancel_left}
use Rattle.std.specs.List.{All}
use Rattle.nsi_primitive.specs.Printable.{IsPrintableEvent}
use Rattle.nsi_primitive.specs.declared.entry.Event.{Event}
use Rattle.nsi_agent.specs.Homes.{home_in}
use Rattle.least_routes.specs.Laws.{RoutesExist}
use Rattle.agent_node.specs.Kept.{Kept}
use Rattle.nsi_play.specs.Rounds.{Net, Homes, round, events_of, emptied, all_quiet}
use Rattle.quiet_rounds.specs.Bounded.{IsBounded}
use Rattle.quiet_rounds.specs.Laws.{StepsKeepBounds}
use Rattle.stopped_play.specs.Tapes.{Cut, Cuts, none_cut}
use Rattle.stopped_play.specs.Rounds.{round_by, reopens}
use Rattle.stopped_play.specs.Coming.{events_by, IsWhole, IsSettledBy as IsSettledByTape}
use Rattle.stopped_play.specs.Counts.{restarts_in, stops_of, stops_among as cut_stops, round_stops, cuts_of}
use Rattle.stopped_play.specs.Laws.{NoCutIsARound, CutsKeepBounds}
use Rattle.stopped_play.proofs.Counting.{cut_here, cut_else}
use Rattle.stopped_play.proofs.Coming.{settled_none as settled_none_by, settled_more as settled_more_by, settled_then as settled_then_by}
use Rattle.agent_threads.specs.Nets.{seats, seats_by, numbers, EachIs, AtHomes, AreSame, AreNet, AreOwned, IsAbsent, AreApart}
use Rattle.agent_threads.specs.Bounds.{AreOfOne, MovesOn, GoOn}
use Rattle.agent_threads.specs.Coming.{IsTold, IsSettledBy}
use Rattle.agent_threads.specs.Leaving.{LeavesNet}
use Rattle.agent_threads.specs.Made.{ShelfCounts, AreLeft}
use Rattle.agent_threads.specs.Stopping.{is_stopped, AreHalted, AgreesWith, seats_before, WereOwned, AtOwned, AtOwnedBefore, Emptied, stopped_in, stops_among, more_stops, NoneCounted, NoneStopped, GoOnByCuts, IsSteppedBy, IsStepped, StepOverruns, AreSettled, Overrun}
use Rattle.agent_threads.proofs.Same.{still_of, same_twice, stops_up, numbers_same}
use Rattle.agent_threads.proofs.Seen.{seen_numbers}
use Rattle.agent_threads.proofs.Stopping.{cut_as, agrees_else, stops_else}
use Rattle.agent_threads.proofs.Showing.{restarts_append}
use Rattle.agent_threads.proofs.Emptying.{emptied_same, emptied_agrees, emptied_stopped, emptied_stops, emptied_were, emptied_before, emptied_seats, before_events}
use Rattle.agent_threads.proofs.Coming.{settled_none, settled_more, settled_then, settled_overruns}
use Rattle.agent_threads.proofs.Going.{anyhow, go_on, go_then}

---- Cuts

-- cuts of those that have stopped, one stop each, and of no other one
pub record Agreeing (ks : List Kept) : Type 0 where
  pub cuts : List (ℕ × Cut)
  pub agrees : AgreesWith (cuts_of cuts) ks
  pub once : cut_stops (cuts_of cuts) (numbers (seats ks)) ≡ stopped_in ks
  pub only : (a : ℕ) → IsAbsent a (numbers (seats ks)) → cuts_of cuts a ≡ None

abbrev one_where : Bool → ℕ
one_where b = if b then 1 else 0

pub agreeing : (ks : List Kept) → AreApart (seats ks) → Agreeing ks
agreeing [] apart = record { cuts = []; agrees = tt; once = refl; only = λ a n. refl }
agreeing (k ∷ ks) apart = by_fault (agreeing ks apart.1.1) (cases_Bool (is_stopped k.fault))
  where
    c : ℕ × Cut
    c = (k.seat.number, cut_as false 0)

    by_fault : Agreeing ks → (is_stopped k.fault ≡ true) ⊎ (is_stopped k.fault ≡ false) → Agreeing (k ∷ ks)
    by_fault rest (inl s) = record {
      cuts = c ∷ rest.cuts;
      agrees = (ap is_some (cut_here c rest.cuts) ∙ sym s, agrees_else c rest.cuts ks apart.0 rest.agrees);
      once = omega (arith, rest.once, ap stops_of (cut_here c rest.cuts), ap one_where s, stops_else c rest.cuts ks apart.0);
      only = λ a n. cut_else c rest.cuts a n.0 ∙ rest.only a n.1;
    }
    by_fault rest (inr s) = record {
      cuts = rest.cuts;
      agrees = (ap is_some (rest.only k.seat.number apart.0) ∙ sym s, rest.agrees);
      once = omega (arith, rest.once, ap stops_of (rest.only k.seat.number apart.0), ap one_where s);
      only = λ a n. rest.only a n.1;
    }

---- A round without a stop

nobody_cut : (net : Net) → All (IsWhole none_cut) net
nobody_cut net i d h = refl

none_stops : (agents : List ℕ) → cut_stops none_cut agents ≡ 0
none_stops [] = refl
none_stops (a ∷ rest) = omega (arith, none_stops rest)

-- it is one by the tape on which nobody is cut
pub stepped_calm : NoCutIsARound → (most : ℕ) (homes : Homes) (x : Net) (before events : List Event) (y : Net) → IsTold (round homes x) before events y → IsSteppedBy most homes x before events y
stepped_calm whole most homes x before events y t =
    let w = whole none_cut homes x (nobody_cut x) in
    record {
      cuts = none_cut;
      few = omega (arith, none_stops (numbers x));
      told = t.told ∙ ap (λ (es : List Event). before ++ es) (sym w.0);
      rest = t.rest ∙ sym w.1;
    }

pub step_calm : NoCutIsARound → (homes : Homes) (b : Bool) (Calm : Type 0) (most : ℕ) (x : Net) (before events : List Event) (y : Net) → IsTold (round homes x) before events y → IsStepped homes b Calm most x before events y
step_calm whole homes b Calm most x before events y t = record {
  told = λ e. stepped_calm whole most homes x before events y t;
  calm = λ e. t;
}

pub overruns_calm : NoCutIsARound → (homes : Homes) (b : Bool) (Calm : Type 0) (most : ℕ) (x : Net) (before room : ℕ) → room < before + length (events_of (round homes x)) → StepOverruns homes b Calm most x before room
overruns_calm whole homes b Calm most x before room long = record {
  told = λ e. (none_cut, omega (arith, none_stops (numbers x)), omega (arith, long, ap length (whole none_cut homes x (nobody_cut x)).0));
  calm = λ e. long;
}

-- where it has too many events
pub told_long : (x : Net) (before events : List Event) (y : Net) (room : ℕ) → IsTold x before events y → room < length events → room < length before + length (events_of x)
told_long x before events y room t long = omega (arith, long, ap length t.told, length-append before (events_of x))

---- A round with stops

-- of which some have stopped there, and what was told of the round was taken away
pub record IsHalted (homes : Homes) (olds mids lefts : List Kept) (before now : List Event) : Type 0 where
  pub halts : (cuts : Cuts) → AgreesWith cuts mids → seats_before mids ≡ round_by cuts homes (seats_by true olds)
  pub emptied : EachIs Emptied mids lefts
  pub told : now ≡ before ++ events_of (seats mids)

pub stepped_halted : (most : ℕ) (homes : Homes) (olds mids lefts news : List Kept) (before now events : List Event) → IsHalted homes olds mids lefts before now → GoOnByCuts lefts news now events homes → numbers (seats lefts) ≡ numbers (seats_by true olds)
    → stopped_in lefts + stops_among news ≤ most + stops_among lefts → IsSteppedBy most homes (seats_by true olds) before events (seats_by true news)
stepped_halted most homes olds mids lefts news before now events h r same few =
    let cuts : Cuts = r.cuts in
    let x : Net = seats_by true olds in
    let made : seats_before mids ≡ round_by cuts homes x = h.halts cuts (emptied_agrees cuts mids lefts h.emptied r.agrees) in
    let left : seats_before lefts ≡ emptied (round_by cuts homes x) = emptied_before mids lefts h.emptied ∙ ap emptied made in
    let first : events_of (seats mids) ≡ events_of (round_by cuts homes x) = sym (before_events mids) ∙ ap events_of made in
    let more : List Event = events_of (reopens cuts homes (emptied (round_by cuts homes x))) in
    record {
      cuts = cuts;
      few = let each = r.few in omega (arith, few, each, ap (λ (ns : List ℕ). cut_stops cuts ns) same);
      told = r.told.told
          ∙ (ap (λ (net : Net). now ++ events_of (reopens cuts homes net)) left
          ∙ (ap (λ (es : List Event). es ++ more) (h.told ∙ ap (λ (es : List Event). before ++ es) first) ∙ append_assoc before (events_of (round_by cuts homes x)) more));
      rest = r.told.rest ∙ ap (λ (net : Net). emptied (reopens cuts homes net)) left;
    }

-- with the round alone there are too many events
pub halted_long : (most : ℕ) (homes : Homes) (olds mids lefts : List Kept) (before now : List Event) (room : ℕ) → AreApart (seats mids) → IsHalted homes olds mids lefts before now → numbers (seats mids) ≡ numbers (seats_by true olds) → stopped_in mids ≤ most
    → room < length now → (cuts : Cuts) × (cut_stops cuts (numbers (seats_by true olds)) ≤ most) × (room < length before + length (events_by cuts homes (seats_by true olds)))
halted_long most homes olds mids lefts before now room apart h same few long =
    let a = agreeing mids apart in
    let cuts : Cuts = cuts_of a.cuts in
    let x : Net = seats_by true olds in
    let first : events_of (seats mids) ≡ events_of (round_by cuts homes x) = sym (before_events mids) ∙ ap events_of (h.halts cuts a.agrees) in (
      cuts,
      omega (arith, few, ap (λ (ns : List ℕ). cut_stops cuts ns) same, a.once),
      omega (arith, long, ap length h.told, length-append before (events_of (seats mids)), ap length first, length-append (events_of (round_by cuts homes x)) (events_of (reopens cuts homes (emptied (round_by cuts homes x))))),
    )

-- with the restarts behind it there are too many
pub stepped_long : (most : ℕ) (homes : Homes) (x : Net) (before events : List Event) (y : Net) (room : ℕ) → IsSteppedBy most homes x before events y → room < length events
    → (cuts : Cuts) × (cut_stops cuts (numbers x) ≤ most) × (room < length before + length (events_by cuts homes x))
stepped_long most homes x before events y room s long = (s.cuts, s.few, omega (arith, long, ap length s.told, length-append before (events_by s.cuts homes x)))

-- A stop is counted, and told.
pub record HasStop (olds mids lefts : List Kept) (before now : List Event) : Type 0 where
  pub counts : stops_among olds + stopped_in mids ≤ stops_among mids
  pub some : 0 < stopped_in mids
  pub emptied : EachIs Emptied mids lefts
  pub told : now ≡ before ++ events_of (seats mids)

pub stop_rises : (olds mids lefts : List Kept) (before now : List Event) → HasStop olds mids lefts before now → stops_among olds < stops_among lefts
stop_rises olds mids lefts before now h =
    let a = h.counts in let b = h.some in let c = emptied_stops mids lefts h.emptied in omega (arith, a, b, c)

pub stop_shows : (olds mids lefts news : List Kept) (before now events : List Event) → HasStop olds mids lefts before now → AreSame lefts news → restarts_in now + stopped_in lefts ≤ restarts_in events → NoneStopped olds news before events → ⊥
stop_shows olds mids lefts news before now events h s r (inl e) =
    let a = stop_rises olds mids lefts before now h in let b = stops_up lefts news s in omega (arith, a, b, e)
stop_shows olds mids lefts news before now events h s r (inr e) =
    let a = h.some in
    let b = emptied_stopped mids lefts h.emptied in
    let c = ap restarts_in h.told ∙ restarts_append before (events_of (seats mids)) in
    omega (arith, a, b, c, r, e)

-- so a stop was counted, also where those that stopped don't go on
pub stop_counted : (olds mids lefts news : List Kept) (before now : List Event) (b d : ShelfCounts) → HasStop olds mids lefts before now → AreLeft lefts news b d → NoneCounted olds news b d → ⊥
stop_counted olds mids lefts news before now b d h left none =
    let a = stop_rises olds mids lefts before now h in let m = left.stops in let n = none left.by left.raised in omega (arith, a, m, n)

pub counts_up : (olds mids lefts : List Kept) → stops_among olds + stopped_in mids ≤ stops_among mids → EachIs Emptied mids lefts → stops_among olds ≤ stops_among lefts
counts_up olds mids lefts p e = let a = emptied_stops mids lefts e in omega (arith, p, a)

-- those that have stopped in it are counted
pub stops_counted : (olds mids lefts : List Kept) (before now : List Event) → HasStop olds mids lefts before now → stopped_in mids ≤ more_stops olds lefts
stops_counted olds mids lefts before now h = let a = h.counts in let c = emptied_stops mids lefts h.emptied in omega (arith, a, c)

-- where the events of the round alone are too many
pub room_first : NoCutIsARound → (homes : Homes) (b stopped : Bool) (olds mids lefts : List Kept) (before now : List Event) (room : ℕ) → (stopped ≡ false → IsTold (round homes (seats_by b olds)) before now (seats_by b lefts))
    → (stopped ≡ true → b ≡ true → IsHalted homes olds mids lefts before now) → (stopped ≡ true → HasStop olds mids lefts before now) → AreSame olds mids → AreApart (seats mids) → room < length now
    → StepOverruns homes b (stops_among lefts ≡ stops_among olds) (more_stops olds lefts) (seats_by b olds) (length before) room
room_first whole homes b stopped olds mids lefts before now room calm halts stop first apart long = by_stop (cases_Bool stopped)
  where
    most : ℕ
    most = more_stops olds lefts

    by_stop : (stopped ≡ true) ⊎ (stopped ≡ false) → StepOverruns homes b (stops_among lefts ≡ stops_among olds) most (seats_by b olds) (length before) room
    by_stop (inl s) = record {
      told = λ e.
          subst (λ (z : Bool). (cuts : Cuts) × (cut_stops cuts (numbers (seats_by z olds)) ≤ most) × (room < length before + length (events_by cuts homes (seats_by z olds)))) (sym e)
          (halted_long most homes olds mids lefts before now room apart (halts s e) (numbers_same olds mids first ∙ sym (seen_numbers true olds)) (stops_counted olds mids lefts before now (stop s)) long);
      calm = λ q. let up = stop_rises olds mids lefts before now (stop s) in absurd (omega (arith, up, q));
    }
    by_stop (inr s) =
        overruns_calm whole homes b (stops_among lefts ≡ stops_among olds) most (seats_by b olds) (length before) room (told_long (round homes (seats_by b olds)) before now (seats_by b lefts) room (calm s) long)

-- a round with stops was made
pub step_halted : (homes : Homes) (b : Bool) (olds mids lefts news : List Kept) (before now events : List Event) → (b ≡ true → IsHalted homes olds mids lefts before now) → (b ≡ true → GoOnByCuts lefts news now events homes)
    → HasStop olds mids lefts before now → AreSame olds mids → AreSame lefts news → restarts_in now + stopped_in lefts ≤ restarts_in events
    → IsStepped homes b (NoneStopped olds news before events) (more_stops olds news) (seats_by b olds) before events (seats_by b news)
step_halted homes b olds mids lefts news before now events halts again stop first same shows =
    let left : AreSame olds lefts = same_twice olds mids lefts first (emptied_same mids lefts stop.emptied) in
    let few : stopped_in lefts + stops_among news ≤ more_stops olds news + stops_among lefts =
    let a = stops_counted olds mids lefts before now stop in
    let b = stops_up lefts news same in
    let c = emptied_stopped mids lefts stop.emptied in
    let d = stops_up olds lefts left in
    omega (arith, a, b, c, d) in
    record {
      told = λ e.
          subst (λ (z : Bool). IsSteppedBy (more_stops olds news) homes (seats_by z olds) before events (seats_by z news)) (sym e)
          (stepped_halted (more_stops olds news) homes olds mids lefts news before now events (halts e) (again e) (numbers_same olds lefts left ∙ sym (seen_numbers true olds)) few);
      calm = λ n. absurd (stop_shows olds mids lefts news before now events stop same shows n);
    }

pub room_second : (homes : Homes) (b : Bool) (olds mids lefts news : List Kept) (before now events : List Event) (room most : ℕ)
    → IsStepped homes b (NoneStopped olds news before events) most (seats_by b olds) before events (seats_by b news) → HasStop olds mids lefts before now → AreSame lefts news → room < length events
    → StepOverruns homes b (stops_among news ≡ stops_among olds) most (seats_by b olds) (length before) room
room_second homes b olds mids lefts news before now events room most s stop same long = record {
  told = λ e. stepped_long most homes (seats_by b olds) before events (seats_by b news) room (s.told e) long;
  calm = λ q. told_long (round homes (seats_by b olds)) before events (seats_by b news) room (s.calm (inl q)) long;
}

pub second_rises : (olds mids lefts news : List Kept) (before now : List Event) → HasStop olds mids lefts before now → AreSame lefts news → stops_among olds ≤ stops_among news
second_rises olds mids lefts news before now h s = let a = stop_rises olds mids lefts before now h in let b = stops_up lefts news s in omega (arith, a, b)

---- What a round with stops leaves

-- what a round with stops and the restarts behind it are, whichever routes
pub record IsHaltedRound (olds mids lefts news : List Kept) (before now events : List Event) : Type 0 where
  pub halted : AreHalted mids
  pub first : AreSame olds mids
  pub moves : AtHomes olds (λ homes tells. EachIs (MovesOn 0) olds mids)
  pub plain : AtHomes olds (λ homes tells. (cuts : Cuts) → AgreesWith cuts mids → seats mids ≡ round_by cuts homes (seats olds))
  pub were : AtOwned olds (λ homes. WereOwned homes mids)
  pub emptied : EachIs Emptied mids lefts
  pub told : now ≡ before ++ events_of (seats mids)
  pub second : AreSame lefts news
  pub owned : AtOwnedBefore lefts (λ homes. AreOwned homes news)
  pub bounded : IsBounded (seats lefts) → IsBounded (seats news)
  pub further : GoOn 0 lefts news now events

pub leaves_halted : RoutesExist → CutsKeepBounds → StepsKeepBounds → (olds mids lefts news : List Kept) (before now events : List Event) → AreOfOne olds → events_of (seats olds) ≡ [] → AreNet news → events_of (seats news) ≡ []
    → All IsPrintableEvent events → IsHaltedRound olds mids lefts news before now events → LeavesNet 0 olds news before events
leaves_halted exist keep steps olds mids lefts news before now events one none net told printable h =
    let left : AreSame olds lefts = same_twice olds mids lefts h.first (emptied_same mids lefts h.emptied) in
    record {
      net = net;
      same = same_twice olds lefts news left h.second;
      told = told;
      printable = printable;
      further = go_then 0 olds lefts news before now events left
          (go_on 0 olds mids lefts before now (anyhow exist olds (EachIs (MovesOn 0) olds mids) one h.moves) (emptied_seats mids lefts h.emptied) none h.told) h.further;
      bounded = anyhow exist olds (IsBounded (seats olds) → IsBounded (seats news)) one (λ t o routes r b w few.
          let homes = home_in t routes in
          let a = agreeing mids h.halted.apart in
          let made : IsBounded (seats mids) = subst (λ (z : Net). IsBounded z) (sym (h.plain t o routes r b w (cuts_of a.cuts) a.agrees)) ((keep homes (seats olds) few).round (cuts_of a.cuts)) in
          h.bounded (subst (λ (z : Net). IsBounded z) (sym (emptied_seats mids lefts h.emptied)) ((steps homes (seats mids) made).told)));
      owned = λ t o routes r w. h.owned t (still_of t olds lefts left o) routes r (emptied_were (home_in t routes) mids lefts h.emptied (h.were t o routes r w));
    }

---- One after another

-- how often disks stopped in more rounds
pub rounds_append : (agents : List ℕ) (xs ys : List Cuts) → round_stops agents (xs ++ ys) ≡ round_stops agents xs + round_stops agents ys
rounds_append agents [] ys = omega arith
rounds_append agents (x ∷ xs) ys = let rest = rounds_append agents xs ys in omega (arith, rest)

-- what is told no step takes away
told_up : (to : ℕ) (xs ys : List Kept) (before events : List Event) → GoOn to xs ys before events → restarts_in before ≤ restarts_in events
told_up to xs ys before events g = let a = ap restarts_in g.told ∙ restarts_append before g.own in omega (arith, a)

no_more : (own : List Event) → length own ≡ 0 → restarts_in own ≡ 0
no_more [] e = refl
no_more (x ∷ xs) e = absurd (omega (arith, e))

-- where nothing was told no restart was
pub told_none : (to : ℕ) (xs ys : List Kept) (before events : List Event) → GoOn to xs ys before events → length events ≡ length before → restarts_in events ≡ restarts_in before
told_none to xs ys before events g e =
    let own = no_more g.own (omega (arith, e, ap length g.told, length-append before g.own)) in
    let a = ap restarts_in g.told ∙ restarts_append before g.own in
    omega (arith, a, own)

-- where no disk has stopped in two steps, none has in either
none_in : (olds mids news : List Kept) (before now events : List Event) → stops_among olds ≤ stops_among mids → stops_among mids ≤ stops_among news → restarts_in before ≤ restarts_in now → restarts_in now ≤ restarts_in events
    → NoneStopped olds news before events → NoneStopped olds mids before now × NoneStopped mids news now events
none_in olds mids news before now events a b c d (inl e) = (inl (omega (arith, a, b, e)), inl (omega (arith, a, b, e)))
none_in olds mids news before now events a b c d (inr e) = (inr (omega (arith, c, d, e)), inr (omega (arith, c, d, e)))

pub none_before : (to : ℕ) (olds mids news : List Kept) (before now events : List Event) → LeavesNet to olds mids before now → LeavesNet 0 mids news now events
    → NoneStopped olds news before events → NoneStopped olds mids before now × NoneStopped mids news now events
none_before to olds mids news before now events l m n =
    none_in olds mids news before now events (stops_up olds mids l.same) (stops_up mids news m.same) (told_up to olds mids before now l.further) (told_up 0 mids news now events m.further) n

pub rises_then : (to : ℕ) (olds mids news : List Kept) (before now : List Event) → LeavesNet to olds mids before now → stops_among mids ≤ stops_among news → stops_among olds ≤ stops_among news
rises_then to olds mids news before now l up = let a = stops_up olds mids l.same in omega (arith, a, up)

-- where the counts are the same in the end, they were before
same_before : (to : ℕ) (olds mids news : List Kept) (before now : List Event) → LeavesNet to olds mids before now → stops_among mids ≤ stops_among news → stops_among news ≡ stops_among olds
    → (stops_among mids ≡ stops_among olds) × (stops_among news ≡ stops_among mids)
same_before to olds mids news before now l up e = let a = stops_up olds mids l.same in (omega (arith, a, up, e), omega (arith, a, up, e))

pub are_settled_none : (homes : Homes) (b : Bool) (Calm : Type 0) (most : ℕ) (x : Net) → AreSettled homes b Calm most x [] x
are_settled_none homes b Calm most x = record { told = λ e. (settled_none_by homes x, omega arith); calm = λ e. settled_none homes x }

same_more : (now events more own : List Event) → events ≡ now ++ more → events ≡ now ++ own → own ≡ more
same_more now events more own e f = append_cancel_left now own more (sym f ∙ e)

-- the agents of a step are those of the steps before it
pub numbers_by : (b : Bool) (xs ys : List Kept) → AreSame xs ys → numbers (seats_by b ys) ≡ numbers (seats_by b xs)
numbers_by b xs ys s = seen_numbers b ys ∙ (numbers_same xs ys s ∙ sym (seen_numbers b xs))

-- a round more
pub are_settled_more : (homes : Homes) (b : Bool) (olds mids news : List Kept) (before now events own more : List Event) → LeavesNet 0 olds mids before now → LeavesNet 0 mids news now events → events ≡ now ++ more
    → all_quiet homes (seats_by b mids) ≡ false → AreSettled homes b (NoneStopped olds mids before now) (more_stops olds mids) (seats_by b olds) own (seats_by b mids)
    → IsStepped homes b (NoneStopped mids news now events) (more_stops mids news) (seats_by b mids) now events (seats_by b news)
    → AreSettled homes b (NoneStopped olds news before events) (more_stops olds news) (seats_by b olds) (own ++ more) (seats_by b news)
are_settled_more homes b olds mids news before now events own more l m is noisy w s =
    let x : Net = seats_by b olds in
    let y : Net = seats_by b mids in
    let z : Net = seats_by b news in
    let most : ℕ = more_stops olds news in
    record {
      told = λ e.
          let p = s.told e in
          let u = w.told e in
          let same : events_by p.cuts homes y ≡ more = same_more now events more (events_by p.cuts homes y) is p.told in
          let few : round_stops (numbers x) (u.0.rounds ++ p.cuts ∷ []) ≤ most =
          let a = stops_up olds mids l.same in
          let c = stops_up mids news m.same in
          let d = u.1 in
          let f = p.few in
          omega (arith, a, c, d, f, rounds_append (numbers x) u.0.rounds (p.cuts ∷ []), ap (λ (ns : List ℕ). cut_stops p.cuts ns) (numbers_by b olds mids l.same)) in
          subst (λ (es : List Event). (v : IsSettledByTape homes x (own ++ es) z) × (round_stops (numbers x) v.rounds ≤ most)) same
          (subst (λ (u : Net). (v : IsSettledByTape homes x (own ++ events_by p.cuts homes y) u) × (round_stops (numbers x) v.rounds ≤ most)) (sym p.rest) (settled_more_by homes x own y p.cuts u.0 noisy, few));
      calm = λ n.
          let q = none_before 0 olds mids news before now events l m n in
          let p = s.calm q.1 in
          let same : events_of (round homes y) ≡ more = same_more now events more (events_of (round homes y)) is p.told in
          subst (λ (es : List Event). IsSettledBy homes x (own ++ es) z) same
          (subst (λ (u : Net). IsSettledBy homes x (own ++ events_of (round homes y)) u) (sym p.rest) (settled_more homes x own y (w.calm q.0) noisy));
    }

pub are_settled_then : (homes : Homes) (b : Bool) (olds mids news : List Kept) (before now events own more : List Event) → LeavesNet 0 olds mids before now → LeavesNet 0 mids news now events
    → AreSettled homes b (NoneStopped olds mids before now) (more_stops olds mids) (seats_by b olds) own (seats_by b mids) → AreSettled homes b (NoneStopped mids news now events) (more_stops mids news) (seats_by b mids) more (seats_by b news)
    → AreSettled homes b (NoneStopped olds news before events) (more_stops olds news) (seats_by b olds) (own ++ more) (seats_by b news)
are_settled_then homes b olds mids news before now events own more l m w s =
    let x : Net = seats_by b olds in
    record {
      told = λ e.
          let u = w.told e in
          let v = s.told e in
          let few : round_stops (numbers x) (u.0.rounds ++ v.0.rounds) ≤ more_stops olds news =
          let a = stops_up olds mids l.same in
          let c = stops_up mids news m.same in
          let d = u.1 in
          let f = v.1 in
          omega (arith, a, c, d, f, rounds_append (numbers x) u.0.rounds v.0.rounds, ap (λ (ns : List ℕ). round_stops ns v.0.rounds) (numbers_by b olds mids l.same)) in
          (settled_then_by homes x own (seats_by b mids) more (seats_by b news) u.0 v.0, few);
      calm = λ n.
          let q = none_before 0 olds mids news before now events l m n in
          settled_then homes x own (seats_by b mids) more (seats_by b news) (w.calm q.0) (s.calm q.1);
    }

---- Too many events

-- in the next round
pub overrun_next : (homes : Homes) (b : Bool) (olds mids news : List Kept) (before now own : List Event) (room : ℕ) → LeavesNet 0 olds mids before now → stops_among mids ≤ stops_among news → now ≡ before ++ own
    → all_quiet homes (seats_by b mids) ≡ false → AreSettled homes b (NoneStopped olds mids before now) (more_stops olds mids) (seats_by b olds) own (seats_by b mids)
    → StepOverruns homes b (stops_among news ≡ stops_among mids) (more_stops mids news) (seats_by b mids) (length now) room
    → Overrun homes b (stops_among news ≡ stops_among olds) (more_stops olds news) (seats_by b olds) (length before) room
overrun_next homes b olds mids news before now own room l up is noisy w s =
    let len = ap length is ∙ length-append before own in
    let x : Net = seats_by b olds in
    let y : Net = seats_by b mids in
    record {
      told = λ e.
          let p = s.told e in
          let u = w.told e in
          let few : round_stops (numbers x) u.0.rounds + cut_stops p.0 (numbers x) ≤ more_stops olds news =
          let a = stops_up olds mids l.same in
          let d = u.1 in
          let f = p.1 in
          omega (arith, a, up, d, f, ap (λ (ns : List ℕ). cut_stops p.0 ns) (numbers_by b olds mids l.same)) in
          (own, y, p.0, u.0, few, noisy, let long = p.2 in omega (arith, long, len));
      calm = λ e.
          let q = same_before 0 olds mids news before now l up e in
          (own, y, w.calm (inl q.0), noisy, let long = s.calm q.1 in omega (arith, long, len));
    }

-- in later rounds
pub overrun_later : (homes : Homes) (b : Bool) (olds mids news : List Kept) (before now own : List Event) (room : ℕ) → LeavesNet 0 olds mids before now → stops_among mids ≤ stops_among news → now ≡ before ++ own
    → AreSettled homes b (NoneStopped olds mids before now) (more_stops olds mids) (seats_by b olds) own (seats_by b mids)
    → Overrun homes b (stops_among news ≡ stops_among mids) (more_stops mids news) (seats_by b mids) (length now) room
    → Overrun homes b (stops_among news ≡ stops_among olds) (more_stops olds news) (seats_by b olds) (length before) room
overrun_later homes b olds mids news before now own room l up is w s =
    let len = ap length is ∙ length-append before own in
    let x : Net = seats_by b olds in
    let y : Net = seats_by b mids in
    record {
      told = λ e.
          let u = w.told e in
          let o = s.told e in
          let same = numbers_by b olds mids l.same in
          let few : round_stops (numbers x) (u.0.rounds ++ o.3.rounds) + cut_stops o.2 (numbers x) ≤ more_stops olds news =
          let a = stops_up olds mids l.same in
          let d = u.1 in
          let f = o.4 in
          omega (arith, a, up, d, f, rounds_append (numbers x) u.0.rounds o.3.rounds, ap (λ (ns : List ℕ). round_stops ns o.3.rounds) same, ap (λ (ns : List ℕ). cut_stops o.2 ns) same) in
          (own ++ o.0, o.1, o.2, settled_then_by homes x own y o.0 o.1 u.0 o.3, few, o.5, let long = o.6 in omega (arith, long, len, length-append own o.0));
      calm = λ e.
          let q = same_before 0 olds mids news before now l up e in
          settled_overruns homes x own y (length before) (length now) room (w.calm (inl q.0)) len (s.calm q.1);
    }
