-- Groups and plays, in which disks stop as some tapes say, or none does.
use Rattle.std.proofs.Common.{ℕ, ◌≡◌, ◌≤◌, ◌<◌, ◌+◌, ◌⊎◌, inl, inr, Bool, true, List, [], ◌∷◌, ◌++◌, refl, sym, ap, ◌∙◌, subst, arith, length, length-append, append-nil, map}
use Rattle.std.specs.Prelude.{sum}
use Rattle.nsi_primitive.specs.declared.entry.Event.{Event}
use Rattle.nsi_script.specs.declared.script.Group.{Group}
use Rattle.agent_node.specs.Kept.{Kept}
use Rattle.nsi_play.specs.Rounds.{Net, Homes, events_of, all_quiet}
use Rattle.nsi_play.specs.Play.{Played, behind, asks_among, ticked_in, ended}
use Rattle.stopped_play.specs.Tapes.{Cuts, Tape}
use Rattle.stopped_play.specs.Rounds.{settles_by}
use Rattle.stopped_play.specs.Play.{group_by, plays_from, remade, IsPlayBy}
use Rattle.stopped_play.specs.Coming.{behind_cuts, events_by, IsPlayedBy as IsPlayedByTape}
use Rattle.stopped_play.specs.Counts.{stops_among as cut_stops, round_stops, tape_stops, play_stops}
use Rattle.stopped_play.proofs.Calm.{group_by_is}
use Rattle.stopped_play.proofs.Coming.{settled_more as settled_more_by, begun_by, group_over as group_over_by, begins_passes as begins_passes_by, played_none as played_none_by, played_more as played_more_by, played_all as played_all_by, play_passes as play_passes_by}
use Rattle.agent_threads.specs.Coming.{IsSettledBy, OverrunsBy, IsGroupOver}
use Rattle.agent_threads.specs.Nets.{numbers, AreSame}
use Rattle.agent_threads.specs.Promise.{NoRestart}
use Rattle.agent_threads.specs.Stopping.{stops_among, NoneStopped, IsBegunBy, HasBegun, BeginsPast, AreSettled, OverrunsWithin, Overrun, IsOver, Passes, ArePlayed, none_making, on_tapes, IsPlayed, PlayPasses}
use Rattle.agent_threads.proofs.Coming.{group_over, group_passes, begins_passes, played_none, played_more, played_all, play_passes}
use Rattle.agent_threads.proofs.Showing.{restarts_append}
use Rattle.agent_threads.proofs.Stepping.{rounds_append}
use Rattle.agent_threads.proofs.Same.{stops_up}

---- A group

-- where all are quiet, the group is over
pub are_over : (homes : Homes) (b : Bool) (Here Calm Later : Type 0) (here most all : ℕ) → (Later → Here × Calm) → here + most ≤ all → (g : Group) (next : ℕ) (x : Net) (first : List Event) (m : Net) (own : List Event) (y : Net)
    → numbers m ≡ numbers x → HasBegun homes b Here here g next x first m → AreSettled homes b Calm most m own y → all_quiet homes y ≡ true → IsOver homes b Later all g next x (first ++ own) y
are_over homes b Here Calm Later here most all f le g next x first m own y same a s q = record {
  told = λ e.
      let u = a.told e in
      let v = s.told e in
      let o = group_over_by homes g next x u.acted u.next m own y u.goes v.0 q in (
        record { tape = o.tape; goes = o.goes ∙ ap (λ (es : List Event). ended (es ++ own) y) (sym u.told) },
        let m = u.few in let n = v.1 in omega (arith, le, m, n, ap (λ (ns : List ℕ). round_stops ns v.0.rounds) same),
      );
  calm = λ l.
      let h = f l in
      let u = a.calm h.0 in
      subst (λ (es : List Event). IsGroupOver homes g next x (es ++ own) y) (sym u.told) (group_over homes g next x own y (subst (λ (z : Net). IsSettledBy homes z own y) u.rest (s.calm h.1)) q);
}

round_passes_by : (homes : Homes) (g : Group) (count : ℕ) (x : Net) (first : List Event) (m : Net) (here room most : ℕ) → numbers m ≡ numbers x → IsBegunBy here homes g count x first m → OverrunsWithin most homes m (length first) room
    → (tape : Tape) × (tape_stops (numbers x) tape ≤ here + most) × (room < 0 + length (group_by tape g count homes x).events)
round_passes_by homes g count x first m here room most same u o =
    let more = settled_more_by homes m o.0 o.1 o.2 o.3 o.5 in
    let rounds : List Cuts = o.3.rounds ++ o.2 ∷ [] in
    let tape : Tape = record { acts = u.goes.tries; rounds = rounds ++ [] } in
    let rest : Played = settles_by [] homes (behind_cuts o.2 homes o.1) in
    let all : List Event = o.0 ++ events_by o.2 homes o.1 in
    let begun : List Event = events_of (map (ticked_in g.at homes) x) ++ u.acted in (
      tape,
      (let few = o.4 in let acts = u.few in omega (
        arith,
        few,
        acts,
        ap (λ (ns : List ℕ). round_stops ns o.3.rounds) same,
        ap (λ (ns : List ℕ). cut_stops o.2 ns) same,
        rounds_append (numbers x) rounds [],
        rounds_append (numbers x) o.3.rounds (o.2 ∷ []),
      )),
      let long = o.6 in omega (
        arith,
        long,
        ap length u.told,
        ap (λ (p : Played). length p.events)
            (group_by_is tape g count homes x ∙ (ap (λ (p : Played). behind p.events (settles_by (rounds ++ []) homes p.net)) (begun_by homes g count x u.acted u.next m u.goes (rounds ++ [])) ∙ ap (behind begun) (more.goes []))),
        length-append begun (all ++ rest.events),
        length-append all rest.events,
        length-append o.0 (events_by o.2 homes o.1),
      ),
    )

-- where a round passes the limit, the group does
pub group_overruns : (homes : Homes) (b : Bool) (Here Calm Later : Type 0) (here most all : ℕ) → (Later → Here × Calm) → here + most ≤ all → (g : Group) (next : ℕ) (x : Net) (first : List Event) (m : Net) (room : ℕ) → numbers m ≡ numbers x
    → HasBegun homes b Here here g next x first m → Overrun homes b Calm most m (length first) room → Passes homes b Later all room 0 g next x
group_overruns homes b Here Calm Later here most all f le g next x first m room same a o = record {
  told = λ e. let p = round_passes_by homes g next x first m here room most same (a.told e) (o.told e) in (p.0, (let few = p.1 in omega (arith, few, le)), p.2);
  calm = λ l.
      let h = f l in
      let u = a.calm h.0 in
      let p : OverrunsBy homes m (length first) room = o.calm h.1 in
      group_passes homes g next x p.0 p.1 room 0 (subst (λ (z : Net). IsSettledBy homes z p.0 p.1) u.rest p.2) p.3 (let long = p.4 in omega (arith, long, ap length u.told));
}

-- where the ticks and acts pass it already
pub begun_passes : (homes : Homes) (b : Bool) (Calm : Type 0) (most : ℕ) (g : Group) (next : ℕ) (x : Net) (room : ℕ) → BeginsPast homes b Calm most room g next x → Passes homes b Calm most room 0 g next x
begun_passes homes b Calm most g next x room p = record {
  told = λ e.
      let v = p.told e in
      let q = begins_passes_by homes g next x v.acted v.left v.next v.now room 0 v.goes (let long = v.long in omega (arith, long)) in
      (q.0, (let few = v.few in omega (arith, few, ap sum (append-nil v.goes.tries))), q.1);
  calm = λ l. begins_passes homes g next x room 0 (let long = p.calm l in omega (arith, long));
}

-- with what was told before it
pub passes_behind : (homes : Homes) (b : Bool) (Calm : Type 0) (most room limit count : ℕ) (g : Group) (next : ℕ) (x : Net) → limit ≤ count + room → Passes homes b Calm most room 0 g next x → Passes homes b Calm most limit count g next x
passes_behind homes b Calm most room limit count g next x le p = record {
  told = λ e. let q = p.told e in (q.0, q.1, let long = q.2 in omega (arith, long, le));
  calm = λ l. let q = p.calm l in (q.0, λ more. let long = q.1 more in omega (arith, long, le));
}

---- Plays

-- how often disks stopped in more groups
plays_append : (agents : List ℕ) (xs ys : List Tape) → play_stops agents (xs ++ ys) ≡ play_stops agents xs + play_stops agents ys
plays_append agents [] ys = omega arith
plays_append agents (x ∷ xs) ys = let rest = plays_append agents xs ys in omega (arith, rest)

pub are_played_none : (homes : Homes) (b : Bool) (Calm : Type 0) (most : ℕ) (start : Net) → ArePlayed homes b Calm most [] start [] 0 start
are_played_none homes b Calm most start = record { told = λ e. (played_none_by homes start, omega arith); calm = λ l. played_none homes start }

pub are_played_more : (homes : Homes) (b : Bool) (Calm Here Later : Type 0) (most here all : ℕ) → (Later → Calm × Here) → most + here ≤ all → (done : List Group) (start : Net) (events : List Event) (next : ℕ) (now : Net) (g : Group) (own : List Event) (y : Net)
    → numbers now ≡ numbers start → ArePlayed homes b Calm most done start events next now → IsOver homes b Here here g next now own y → ArePlayed homes b Later all (done ++ g ∷ []) start (events ++ own) (next + asks_among g.acts) y
are_played_more homes b Calm Here Later most here all f le done start events next now g own y same p o = record {
  told = λ e.
      let u = p.told e in
      let v = o.told e in (
        played_more_by homes done start events next now g own y u.0 v.0,
        let m = u.1 in
            let n = v.1 in
            omega (arith, le, m, n, plays_append (numbers start) u.0.tapes (v.0.tape ∷ []), ap (λ (ns : List ℕ). tape_stops ns v.0.tape) same),
      );
  calm = λ l. let q = f l in played_more homes done start events next now g own y (p.calm q.0) (o.calm q.1);
}

remade_none : (net : Net) → remade none_making net ≡ []
remade_none [] = refl
remade_none (s ∷ ss) = remade_none ss

-- all groups are played
pub all_played : (homes : Homes) (b : Bool) (Calm Later : Type 0) (most all : ℕ) → (Later → Calm) → most ≤ all → (script : List Group) (start : Net) (events : List Event) (next : ℕ) (now : Net) → ArePlayed homes b Calm most script start events next now
    → IsPlayed homes b Later all script start events now
all_played homes b Calm Later most all f le script start events next now p = record {
  told = λ e.
      let q = p.told e in (
        q.0.tapes,
        (let m = q.1 in omega (arith, m, le)),
        subst (λ (es : List Event). IsPlayBy (on_tapes q.0.tapes) script homes start es now) (ap (λ (es : List Event). es ++ events) (remade_none start)) (played_all_by homes script start events next now none_making q.0),
      );
  calm = λ l. played_all homes script start events next now (p.calm (f l));
}

-- where a group passes the limit, the play does
pub play_overruns : (homes : Homes) (b : Bool) (Calm Here Later : Type 0) (most here all : ℕ) → (Later → Calm × Here) → most + here ≤ all → (done : List Group) (start : Net) (events : List Event) (next : ℕ) (now : Net) (g : Group) (rest : List Group) (limit : ℕ)
    → numbers now ≡ numbers start → ArePlayed homes b Calm most done start events next now → Passes homes b Here here limit (length events) g next now → PlayPasses homes b Later all limit (done ++ g ∷ rest) start
play_overruns homes b Calm Here Later most here all f le done start events next now g rest limit same p o = record {
  told = λ e.
      let u = p.told e in
      let v = o.told e in
      let tapes : List Tape = u.0.tapes ++ v.0 ∷ [] in (
        tapes,
        (let m = u.1 in let n = v.1 in omega (arith, le, m, n, plays_append (numbers start) u.0.tapes (v.0 ∷ []), ap (λ (ns : List ℕ). tape_stops ns v.0) same)),
        passed_by homes done start events next now g rest limit u.0 v.0 v.2,
      );
  calm = λ l. let q = f l in play_passes homes done start events next now g rest limit (p.calm q.0) (o.calm q.1);
}
  where
    passed_by : (homes : Homes) (done : List Group) (start : Net) (events : List Event) (next : ℕ) (now : Net) (g : Group) (rest : List Group) (limit : ℕ) (p : IsPlayedByTape homes done start events next now) (tape : Tape)
        → limit < length events + length (group_by tape g next homes now).events → limit < length (plays_from (on_tapes (p.tapes ++ tape ∷ [])) (done ++ g ∷ rest) homes start).events
    passed_by homes done start events next now g rest limit p tape long =
        (play_passes_by homes done start events next now g rest limit none_making p (tape, let none = ap length (remade_none start) in omega (arith, none, long))).1

---- Where no disk has stopped

-- in a group, and before it
pub none_split : (olds mids news : List Kept) (events own : List Event) → AreSame olds mids → AreSame mids news → NoneStopped olds news [] (events ++ own) → NoneStopped olds mids [] events × NoneStopped mids news [] own
none_split olds mids news events own s u (inl e) =
    let a = stops_up olds mids s in let b = stops_up mids news u in (inl (omega (arith, a, b, e)), inl (omega (arith, a, b, e)))
none_split olds mids news events own s u (inr e) = let a = restarts_append events own in (inr (omega (arith, a, e)), inr (omega (arith, a, e)))

no_restart_split : (events own : List Event) → NoRestart (events ++ own) → NoRestart events × NoRestart own
no_restart_split events own e = let a = restarts_append events own in (omega (arith, a, e), omega (arith, a, e))

-- where a group was too long
pub none_front : (olds mids news : List Kept) (events : List Event) → AreSame olds mids → stops_among mids ≤ stops_among news → NoneStopped olds news [] events → NoneStopped olds mids [] events
none_front olds mids news events s up (inl e) = let a = stops_up olds mids s in inl (omega (arith, a, up, e))
none_front olds mids news events s up (inr e) = inr e

pub same_split : (olds mids news : List Kept) → AreSame olds mids → stops_among mids ≤ stops_among news → stops_among news ≡ stops_among olds → (stops_among mids ≡ stops_among olds) × (stops_among news ≡ stops_among mids)
same_split olds mids news s up e = let a = stops_up olds mids s in (omega (arith, a, up, e), omega (arith, a, up, e))

pub rises_behind : (olds mids news : List Kept) → AreSame olds mids → stops_among mids ≤ stops_among news → stops_among olds ≤ stops_among news
rises_behind olds mids news s up = let a = stops_up olds mids s in omega (arith, a, up)

-- where no stop was counted, or no restart was told
pub none_by : {C : Type 0} (olds mids : List Kept) (events : List Event) → (C → stops_among mids ≡ stops_among olds) → C ⊎ NoRestart events → NoneStopped olds mids [] events
none_by olds mids events here (inl c) = inl (here c)
none_by olds mids events here (inr e) = inr e

pub none_both : {C : Type 0} (olds mids lasts : List Kept) (events own : List Event) → (C → stops_among mids ≡ stops_among olds) → (C → stops_among lasts ≡ stops_among olds) → C ⊎ NoRestart (events ++ own)
    → NoneStopped olds mids [] events × NoneStopped mids lasts [] own
none_both olds mids lasts events own here last (inl c) = (inl (here c), inl (last c ∙ sym (here c)))
none_both olds mids lasts events own here last (inr e) = let both = no_restart_split events own e in (inr both.0, inr both.1)
