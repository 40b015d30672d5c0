-- How far a play in which disks stop has come, step by step.
use Rattle.std.proofs.Common.{ℕ, ◌+◌, ◌<◌, ◌≡◌, true, false, cond, List, [], ◌∷◌, ◌++◌, refl, sym, ap, ◌∙◌, arith, length, map, append_assoc, append-nil, length-append}
use Rattle.nsi_primitive.specs.declared.entry.Event.{Event}
use Rattle.nsi_script.specs.declared.script.Act.{Act}
use Rattle.nsi_script.specs.declared.script.Group.{Group}
use Rattle.nsi_play.specs.Rounds.{Net, Homes, events_of, emptied, all_quiet}
use Rattle.nsi_play.specs.Play.{Played, behind, over, after_round, asks_in, asks_among, ticked_in, then_on, ended}
use Rattle.nsi_play.proofs.Settling.{behind_twice, then_on_longer}
use Rattle.stopped_play.specs.Tapes.{Cuts, Tape}
use Rattle.stopped_play.specs.Rounds.{after_cuts, settles_by}
use Rattle.stopped_play.specs.Play.{acted_by, acts_by, begins_by, group_by, plays_by, remade, IsPlayBy}
use Rattle.stopped_play.specs.Coming.{behind_cuts, events_by, IsSettledBy, OverrunsBy, IsActedBy, IsGroupOver, GroupPasses, IsPlayedBy, PassesBy}
use Rattle.stopped_play.proofs.Calm.{settle_by_none, settle_by_one, begins_by_is, group_by_is}

---- Rounds

abbrev pub settled_none : (homes : Homes) (x : Net) → IsSettledBy homes x [] x
settled_none homes x = record { rounds = []; goes = λ rest. refl }

-- a round and its restarts are what comes first
pub cuts_first : (cuts : Cuts) (homes : Homes) (y : Net) (rest : Net → Played) → after_cuts cuts homes y rest ≡ behind (events_by cuts homes y) (rest (behind_cuts cuts homes y))
cuts_first cuts homes y rest = behind_twice _ _ (rest (behind_cuts cuts homes y))

-- a round more, whosever disks stopped in it
abbrev pub settled_more : (homes : Homes) (x : Net) (events : List Event) (y : Net) (cuts : Cuts) → IsSettledBy homes x events y → all_quiet homes y ≡ false → IsSettledBy homes x (events ++ events_by cuts homes y) (behind_cuts cuts homes y)
settled_more homes x events y cuts s q = record {
  rounds = s.rounds ++ cuts ∷ [];
  goes = λ rest.
      ap (λ rs. settles_by rs homes x) (append_assoc s.rounds (cuts ∷ []) rest)
      ∙ (s.goes (cuts ∷ rest)
      ∙ (ap (behind events) (settle_by_one cuts rest homes y ∙ (ap (λ b. cond b (over y) (after_cuts cuts homes y (settles_by rest homes))) q ∙ cuts_first cuts homes y (settles_by rest homes)))
      ∙ behind_twice events (events_by cuts homes y) (settles_by rest homes (behind_cuts cuts homes y))));
}

abbrev pub settled_then : (homes : Homes) (x : Net) (before : List Event) (y : Net) (events : List Event) (z : Net) → IsSettledBy homes x before y → IsSettledBy homes y events z → IsSettledBy homes x (before ++ events) z
settled_then homes x before y events z s u = record {
  rounds = s.rounds ++ u.rounds;
  goes = λ rest. ap (λ rs. settles_by rs homes x) (append_assoc s.rounds u.rounds rest) ∙ (s.goes (u.rounds ++ rest) ∙ (ap (behind before) (u.goes rest) ∙ behind_twice before events (settles_by rest homes z)));
}

pub settled_overruns : (homes : Homes) (x : Net) (own : List Event) (y : Net) (before now room : ℕ) → IsSettledBy homes x own y → now ≡ before + length own → OverrunsBy homes y now room → OverrunsBy homes x before room
settled_overruns homes x own y before now room s is o =
    (own ++ o.0, o.1, o.2, settled_then homes x own y o.0 o.1 s o.3, o.4, let long = o.5 in omega (arith, is, long, length-append own o.0))

-- where all are quiet no round more is made
quiet_end : (homes : Homes) (y : Net) → all_quiet homes y ≡ true → settles_by [] homes y ≡ over y
quiet_end homes y q = settle_by_none homes y ∙ ap (λ b. cond b (over y) (record (over y) { is_over = false })) q

-- these are the rounds of the play
pub settled_end : (homes : Homes) (x : Net) (events : List Event) (y : Net) → (s : IsSettledBy homes x events y) → all_quiet homes y ≡ true → settles_by s.rounds homes x ≡ ended events y
settled_end homes x events y s q =
    ap (λ rs. settles_by rs homes x) (sym (append-nil s.rounds)) ∙ (s.goes [] ∙ (ap (behind events) (quiet_end homes y q) ∙ ap (λ es. ended es y) (append-nil events)))

---- Acts

abbrev pub acted_none : (homes : Homes) (todo : List Act) (count : ℕ) (x : Net) → IsActedBy homes todo count x [] todo count x
acted_none homes todo count x = record { tries = []; goes = λ rest. refl }

pub act_first : (a : Act) (left : List Act) (tries : ℕ) (rest : List ℕ) (count : ℕ) (homes : Homes) (y : Net) → acts_by (a ∷ left) (tries ∷ rest) count homes y ≡ after_round (acted_by a tries count homes y) (acts_by left rest (count + asks_in a) homes)
unfolding acts_by
act_first a left tries rest count homes y = refl

-- an act more, whose disk stopped so often while it was read
abbrev pub acted_more : (homes : Homes) (todo : List Act) (count : ℕ) (x : Net) (events : List Event) (a : Act) (left : List Act) (next : ℕ) (y : Net) (tries : ℕ) → IsActedBy homes todo count x events (a ∷ left) next y
    → IsActedBy homes todo count x (events ++ events_of (acted_by a tries next homes y)) left (next + asks_in a) (emptied (acted_by a tries next homes y))
acted_more homes todo count x events a left next y tries s =
    let z : Net = acted_by a tries next homes y in
    record {
      tries = s.tries ++ tries ∷ [];
      goes = λ rest.
          ap (λ ns. acts_by todo ns count homes x) (append_assoc s.tries (tries ∷ []) rest)
          ∙ (s.goes (tries ∷ rest)
          ∙ (ap (behind events) (act_first a left tries rest next homes y) ∙ behind_twice events (events_of z) (acts_by left rest (next + asks_in a) homes (emptied z))));
    }

acts_end : (rest : List ℕ) (count : ℕ) (homes : Homes) (y : Net) → acts_by [] rest count homes y ≡ over y
unfolding acts_by
acts_end rest count homes y = refl

-- these are the acts of the play
pub acted_end : (homes : Homes) (todo : List Act) (count : ℕ) (x : Net) (events : List Event) (next : ℕ) (y : Net) → (s : IsActedBy homes todo count x events [] next y) → acts_by todo s.tries count homes x ≡ ended events y
acted_end homes todo count x events next y s =
    ap (λ ns. acts_by todo ns count homes x) (sym (append-nil s.tries)) ∙ (s.goes [] ∙ (ap (behind events) (acts_end [] next homes y) ∙ ap (λ es. ended es y) (append-nil events)))

---- Groups

-- the ticks and acts of a group
pub begun_by : (homes : Homes) (g : Group) (count : ℕ) (x : Net) (events : List Event) (next : ℕ) (y : Net) → (s : IsActedBy homes g.acts count (emptied (map (ticked_in g.at homes) x)) events [] next y) → (rounds : List Cuts)
    → begins_by (record { acts = s.tries; rounds = rounds }) g count homes x ≡ ended (events_of (map (ticked_in g.at homes) x) ++ events) y
begun_by homes g count x events next y s rounds =
    let z : Net = map (ticked_in g.at homes) x in
    begins_by_is (record { acts = s.tries; rounds = rounds }) g count homes x ∙ ap (behind (events_of z)) (acted_end homes g.acts count (emptied z) events next y s)

-- a group whose ticks and acts were made, and whose rounds have come to an end
abbrev pub group_over : (homes : Homes) (g : Group) (count : ℕ) (x : Net) (acted : List Event) (next : ℕ) (y : Net) (settled : List Event) (z : Net) → IsActedBy homes g.acts count (emptied (map (ticked_in g.at homes) x)) acted [] next y
    → IsSettledBy homes y settled z → all_quiet homes z ≡ true → IsGroupOver homes g count x ((events_of (map (ticked_in g.at homes) x) ++ acted) ++ settled) z
group_over homes g count x acted next y settled z a s q =
    let tape : Tape = record { acts = a.tries; rounds = s.rounds } in
    let first : List Event = events_of (map (ticked_in g.at homes) x) ++ acted in
    record {
      tape = tape;
      goes = group_by_is tape g count homes x
          ∙ (ap (λ (b : Played). behind b.events (settles_by s.rounds homes b.net)) (begun_by homes g count x acted next y a s.rounds) ∙ ap (behind first) (settled_end homes y settled z s q));
    }

abbrev pub played_none : (homes : Homes) (start : Net) → IsPlayedBy homes [] start [] 0 start
played_none homes start = record { tapes = []; goes = λ rest more. refl }

pub play_first : (t : Tape) (ts : List Tape) (g : Group) (gs : List Group) (count : ℕ) (homes : Homes) (x : Net) → plays_by (t ∷ ts) (g ∷ gs) count homes x ≡ then_on (group_by t g count homes x) (plays_by ts gs (count + asks_among g.acts) homes)
unfolding plays_by
play_first t ts g gs count homes x = refl

play_end : (ts : List Tape) (count : ℕ) (homes : Homes) (x : Net) → plays_by ts [] count homes x ≡ over x
unfolding plays_by
play_end ts count homes x = refl

-- a group more
abbrev pub played_more : (homes : Homes) (done : List Group) (start : Net) (events : List Event) (next : ℕ) (now : Net) (g : Group) (own : List Event) (y : Net)
    → IsPlayedBy homes done start events next now → IsGroupOver homes g next now own y → IsPlayedBy homes (done ++ g ∷ []) start (events ++ own) (next + asks_among g.acts) y
played_more homes done start events next now g own y p o = record {
  tapes = p.tapes ++ o.tape ∷ [];
  goes = λ rest more.
      let then_rest : Net → Played = plays_by more rest (next + asks_among g.acts) homes in
      ap (λ gs. plays_by ((p.tapes ++ o.tape ∷ []) ++ more) gs 0 homes start) (append_assoc done (g ∷ []) rest)
      ∙ (ap (λ ts. plays_by ts (done ++ g ∷ rest) 0 homes start) (append_assoc p.tapes (o.tape ∷ []) more)
      ∙ (p.goes (g ∷ rest) (o.tape ∷ more)
      ∙ (ap (behind events) (play_first o.tape more g rest next homes now ∙ ap (λ (q : Played). then_on q then_rest) o.goes) ∙ behind_twice events own (then_rest y))));
}

-- all groups are played: the tapes are those of the play, whatever happened while the journals were made
pub played_all : (homes : Homes) (script : List Group) (start : Net) (events : List Event) (next : ℕ) (now : Net) (making : ℕ → ℕ) → (p : IsPlayedBy homes script start events next now)
    → IsPlayBy (record { making = making; groups = p.tapes }) script homes start (remade making start ++ events) now
played_all homes script start events next now making p =
    ap (behind (remade making start))
    (ap (λ ts. plays_by ts script 0 homes start) (sym (append-nil p.tapes)) ∙ (ap (λ gs. plays_by (p.tapes ++ []) gs 0 homes start) (sym (append-nil script)) ∙ (p.goes [] [] ∙ (ap (behind events) (play_end [] next homes now) ∙ ap (λ es. ended es now) (append-nil events)))))

---- Too many events

-- where the ticks and acts pass the limit, the group does
abbrev pub begins_passes : (homes : Homes) (g : Group) (count : ℕ) (x : Net) (acted : List Event) (left : List Act) (next : ℕ) (y : Net) (limit before : ℕ) → IsActedBy homes g.acts count (emptied (map (ticked_in g.at homes) x)) acted left next y
    → limit < before + length (events_of (map (ticked_in g.at homes) x) ++ acted) → GroupPasses limit before homes g count x
begins_passes homes g count x acted left next y limit before a long =
    let z : Net = map (ticked_in g.at homes) x in
    let tape : Tape = record { acts = a.tries ++ []; rounds = [] } in
    let b : Played = begins_by tape g count homes x in
    let rest : Played = acts_by left [] next homes y in (
      tape,
      omega (
        arith,
        long,
        ap (λ (p : Played). length p.events) (group_by_is tape g count homes x),
        length-append b.events (settles_by [] homes b.net).events,
        ap (λ (p : Played). length p.events) (begins_by_is tape g count homes x ∙ ap (behind (events_of z)) (a.goes [])),
        length-append (events_of z) (acted ++ rest.events),
        length-append (events_of z) acted,
        length-append acted rest.events,
      ),
    )

-- where a round and its restarts pass it, the group does
pub round_passes : (homes : Homes) (g : Group) (count : ℕ) (x : Net) (acted : List Event) (next : ℕ) (y : Net) (limit before room : ℕ) → IsActedBy homes g.acts count (emptied (map (ticked_in g.at homes) x)) acted [] next y
    → room ≡ limit → OverrunsBy homes y (before + length (events_of (map (ticked_in g.at homes) x) ++ acted)) room → GroupPasses limit before homes g count x
round_passes homes g count x acted next y limit before room a is o =
    let first : List Event = events_of (map (ticked_in g.at homes) x) ++ acted in
    let more = settled_more homes y o.0 o.1 o.2 o.3 o.4 in
    let tape : Tape = record { acts = a.tries; rounds = more.rounds ++ [] } in
    let rest : Played = settles_by [] homes (behind_cuts o.2 homes o.1) in
    let all : List Event = o.0 ++ events_by o.2 homes o.1 in (
      tape,
      let long = o.5 in omega (
        arith,
        is,
        long,
        ap (λ (p : Played). length p.events)
            (group_by_is tape g count homes x ∙ (ap (λ (b : Played). behind b.events (settles_by (more.rounds ++ []) homes b.net)) (begun_by homes g count x acted next y a (more.rounds ++ [])) ∙ ap (behind first) (more.goes []))),
        length-append first (all ++ rest.events),
        length-append all rest.events,
        length-append o.0 (events_by o.2 homes o.1),
      ),
    )

-- where a group passes it, the play does
abbrev pub play_passes : (homes : Homes) (done : List Group) (start : Net) (events : List Event) (next : ℕ) (now : Net) (g : Group) (rest : List Group) (limit : ℕ) (making : ℕ → ℕ)
    → IsPlayedBy homes done start events next now → GroupPasses limit (length (remade making start) + length events) homes g next now → PassesBy limit (done ++ g ∷ rest) homes start
play_passes homes done start events next now g rest limit making p h =
    let after : Net → Played = plays_by [] rest (next + asks_among g.acts) homes in
    let x : Played = group_by h.0 g next homes now in
    let tapes : List Tape = p.tapes ++ h.0 ∷ [] in
    let all : plays_by tapes (done ++ g ∷ rest) 0 homes start ≡ behind events (then_on x after) = p.goes (g ∷ rest) (h.0 ∷ []) ∙ ap (behind events) (play_first h.0 [] g rest next homes now) in (
      record { making = making; groups = tapes },
      let long = h.1 in omega (
        arith,
        long,
        ap (λ (z : Played). length z.events) all,
        length-append (remade making start) (plays_by tapes (done ++ g ∷ rest) 0 homes start).events,
        length-append events (then_on x after).events,
        then_on_longer x after,
      ),
    )
