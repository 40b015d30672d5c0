-- How far a play has come: whatever the rest is played as, it completes the play.
use Rattle.std.proofs.Common.{ℕ, suc, ◌+◌, ◌-◌, ◌<◌, ◌≤◌, ◌≡◌, true, false, List, [], ◌∷◌, ◌++◌, refl, sym, ap, ap₂, ◌∙◌, arith, cond, length, drop, get_or, append_assoc, append-nil, length-append, add-one, drop-cons, map}
use Rattle.std.specs.Prelude.{count_by}
use Rattle.std.proofs.lemmas.List.{drop_all}
use Rattle.std.proofs.lemmas.List.Sums.{sum_by-cons, sum_by-append}
use Rattle.nsi_script.specs.Scripts.{acts_of, is_ask, asks_of}
use Rattle.nsi_primitive.specs.declared.entry.Event.{Event}
use Rattle.nsi_script.specs.declared.script.Act.{Act}
use Rattle.nsi_script.specs.declared.script.Group.{Group}
use Rattle.nsi_play.specs.Rounds.{Net, Homes, round, events_of, emptied, all_quiet}
use Rattle.nsi_play.specs.Play.{Played, behind, settles, asks_in, asks_among, acts, acted, begins, ticked_in, group, then_on, plays, ended, IsPlayFrom, PassesFrom}
use Rattle.nsi_play.proofs.Settling.{behind_twice, settle_quiet, settle_more, group_is, plays_cons, plays_nil, then_on_longer, acts_cons, acts_none}
use Rattle.agent_threads.specs.Coming.{IsTold, IsBegun, IsSettledBy, OverrunsBy, IsPlayedBy, IsGroupOver, GroupPasses}

---- Rounds

pub settled_none : (homes : Homes) (x : Net) → IsSettledBy homes x [] x
settled_none homes x = record { count = 0; goes = λ most. ap (λ n. settles n homes x) (omega arith) }

pub settled_more : (homes : Homes) (x : Net) (events : List Event) (y : Net) → IsSettledBy homes x events y → all_quiet homes y ≡ false → IsSettledBy homes x (events ++ events_of (round homes y)) (emptied (round homes y))
settled_more homes x events y s q = record {
  count = s.count + 1;
  goes = λ most. ap (λ n. settles n homes x) (omega arith) ∙ (s.goes (suc most) ∙ (ap (behind events) (settle_more most homes y q) ∙ behind_twice events (events_of (round homes y)) (settles most homes (emptied (round homes y)))));
}

pub settled_then : (homes : Homes) (x : Net) (before : List Event) (y : Net) (events : List Event) (z : Net) → IsSettledBy homes x before y → IsSettledBy homes y events z → IsSettledBy homes x (before ++ events) z
settled_then homes x before y events z s u = record {
  count = s.count + u.count;
  goes = λ most. ap (λ n. settles n homes x) (omega arith) ∙ (s.goes (u.count + most) ∙ (ap (behind before) (u.goes most) ∙ behind_twice before events (settles most homes z)));
}

pub settled_overruns : (homes : Homes) (x : Net) (own : List Event) (y : Net) (before now room : ℕ) → IsSettledBy homes x own y → now ≡ before + length own → OverrunsBy homes y now room → OverrunsBy homes x before room
settled_overruns homes x own y before now room s is o =
    (own ++ o.0, o.1, settled_then homes x own y o.0 o.1 s o.2, o.3, omega (arith, is, o.4, length-append own o.0))

-- where all are quiet, the group is over
pub group_over : (homes : Homes) (g : Group) (next : ℕ) (x : Net) (events : List Event) (y : Net) → IsSettledBy homes (begins g next homes x).net events y → all_quiet homes y ≡ true → IsGroupOver homes g next x ((begins g next homes x).events ++ events) y
group_over homes g next x events y s q = record {
  count = s.count;
  goes = λ most few.
      group_is most g next homes x
      ∙ ap (behind (begins g next homes x).events)
      (ap (λ n. settles n homes (begins g next homes x).net) (omega arith) ∙ (s.goes (most - s.count) ∙ (ap (behind events) (settle_quiet (most - s.count) homes y q) ∙ ap (λ es. ended es y) (append-nil events))));
}

---- Groups

pub played_none : (homes : Homes) (start : Net) → IsPlayedBy homes [] start [] 0 start
played_none homes start = record { count = 0; goes = λ rest most few. refl }

pub played_more : (homes : Homes) (done : List Group) (start : Net) (events : List Event) (next : ℕ) (now : Net) (g : Group) (own : List Event) (y : Net)
    → IsPlayedBy homes done start events next now → IsGroupOver homes g next now own y → IsPlayedBy homes (done ++ g ∷ []) start (events ++ own) (next + asks_among g.acts) y
played_more homes done start events next now g own y p o = record {
  count = p.count + o.count;
  goes = λ rest most few.
      ap (λ gs. plays most gs 0 homes start) (append_assoc done (g ∷ []) rest)
      ∙ (p.goes (g ∷ rest) most (omega arith)
      ∙ (ap (behind events) (plays_cons most g rest next homes now ∙ ap (λ (q : Played). then_on q (plays most rest (next + asks_among g.acts) homes)) (o.goes most (omega arith)))
      ∙ behind_twice events own (plays most rest (next + asks_among g.acts) homes y)));
}

-- all groups are played
pub played_all : (homes : Homes) (script : List Group) (start : Net) (events : List Event) (next : ℕ) (now : Net) → IsPlayedBy homes script start events next now → IsPlayFrom script homes start events now
played_all homes script start events next now p =
    (p.count, sym (ap (λ gs. plays p.count gs 0 homes start) (append-nil script)) ∙ (p.goes [] p.count (omega arith) ∙ (ap (behind events) (plays_nil p.count next homes now) ∙ ap (λ es. ended es now) (append-nil events))))

---- Too many events

-- where a round passes the limit, the group does
pub group_passes : (homes : Homes) (g : Group) (next : ℕ) (x : Net) (own : List Event) (y : Net) (limit count : ℕ) → IsSettledBy homes (begins g next homes x).net own y → all_quiet homes y ≡ false
    → limit < count + (length (begins g next homes x).events + (length own + length (events_of (round homes y)))) → GroupPasses limit count homes g next x
group_passes homes g next x own y limit count s q long =
    let more = settled_more homes (begins g next homes x).net own y s q in (
      more.count,
      λ most.
          let b : Played = begins g next homes x in
          let z : Net = emptied (round homes y) in
          let inner : settles (more.count + most) homes b.net ≡ behind (own ++ events_of (round homes y)) (settles most homes z) = more.goes most in
          omega (
            arith,
            long,
            ap (λ (z : Played). length z.events) (group_is (more.count + most) g next homes x),
            ap (λ (z : Played). length z.events) inner,
            length-append b.events (settles (more.count + most) homes b.net).events,
            length-append (own ++ events_of (round homes y)) (settles most homes z).events,
            length-append own (events_of (round homes y)),
          ),
    )

-- where the ticks and acts pass it already
pub begins_passes : (homes : Homes) (g : Group) (next : ℕ) (x : Net) (limit count : ℕ) → limit < count + length (begins g next homes x).events → GroupPasses limit count homes g next x
begins_passes homes g next x limit count long = (
  0,
  λ most.
      let b : Played = begins g next homes x in
      omega (arith, long, ap (λ (z : Played). length z.events) (group_is (0 + most) g next homes x), length-append b.events (settles (0 + most) homes b.net).events),
)

-- where a group passes the limit, the play does
pub play_passes : (homes : Homes) (done : List Group) (start : Net) (events : List Event) (next : ℕ) (now : Net) (g : Group) (rest : List Group) (limit : ℕ)
    → IsPlayedBy homes done start events next now → GroupPasses limit (length events) homes g next now → PassesFrom limit (done ++ g ∷ rest) homes start
play_passes homes done start events next now g rest limit p h =
    let n : ℕ = h.0 + p.count in
    let few : p.count ≤ n = omega arith in
    let after : Net → Played = plays n rest (next + asks_among g.acts) homes in
    let all : plays n (done ++ g ∷ rest) 0 homes start ≡ behind events (then_on (group n g next homes now) after) = p.goes (g ∷ rest) n few ∙ ap (behind events) (plays_cons n g rest next homes now) in
    (n, omega (arith, h.1 p.count, ap (λ (x : Played). length x.events) all, length-append events (then_on (group n g next homes now) after).events, then_on_longer (group n g next homes now) after))

---- Acts

-- one act more
pub acts_next : (homes : Homes) (events more : List Event) (todo : List Act) (i count : ℕ) (d : Act) (net next : Net) → i < length todo → IsTold (acted (get_or todo i d) count homes net) events more next
    → behind more (acts (drop (i + 1) todo) (count + asks_in (get_or todo i d)) homes next) ≡ behind events (acts (drop i todo) count homes net)
acts_next homes events more todo i count d net next h t =
    let a : Act = get_or todo i d in
    let n : ℕ = count + asks_in a in
    let x : Net = acted a count homes net in
    ap (λ es. behind es (acts (drop (i + 1) todo) n homes next)) t.told
    ∙ (ap (λ z. behind (events ++ events_of x) (acts (drop (i + 1) todo) n homes z)) t.rest
    ∙ (ap (λ k. behind (events ++ events_of x) (acts (drop k todo) n homes (emptied x))) (add-one i)
    ∙ (sym (behind_twice events (events_of x) (acts (drop (suc i) todo) n homes (emptied x)))
    ∙ (ap (behind events) (sym (acts_cons a (drop (suc i) todo) count homes net))
    ∙ ap (λ zs. behind events (acts zs count homes net)) (sym (drop-cons todo i d h))))))

asks_cons : (a : Act) (rest : List Act) → asks_among (a ∷ rest) ≡ asks_in a + asks_among rest
unfolding asks_among
asks_cons a rest = refl

asks_none : asks_among [] ≡ 0
unfolding asks_among
asks_none = refl

-- the asks that are still to be made
pub asks_next : (todo : List Act) (i : ℕ) (d : Act) → i < length todo → asks_among (drop i todo) ≡ asks_in (get_or todo i d) + asks_among (drop (i + 1) todo)
asks_next todo i d h = ap asks_among (drop-cons todo i d h) ∙ (asks_cons (get_or todo i d) (drop (suc i) todo) ∙ ap (λ k. asks_in (get_or todo i d) + asks_among (drop k todo)) (sym (add-one i)))

pub asks_end : (todo : List Act) (i : ℕ) → length todo ≤ i → asks_among (drop i todo) ≡ 0
asks_end todo i h = ap asks_among (drop_all i todo h) ∙ asks_none

-- an act is counted as an ask where it is one
ask_is : (a : Act) → cond (is_ask a) 1 0 ≡ asks_in a
ask_is (Act.Ask a ask) = refl
ask_is (Act.Force a n) = refl
ask_is (Act.Restart a) = refl

asks_counted : (acts : List Act) → count_by is_ask acts ≡ asks_among acts
asks_counted [] = sym asks_none
asks_counted (a ∷ acts) = sum_by-cons (λ z. cond (is_ask z) 1 0) a acts ∙ (ap₂ ◌+◌ (ask_is a) (asks_counted acts) ∙ sym (asks_cons a acts))

asks_append : (acts rest : List Act) → count_by is_ask (acts ++ rest) ≡ asks_among acts + count_by is_ask rest
asks_append acts rest = sum_by-append (λ z. cond (is_ask z) 1 0) acts rest ∙ ap (λ n. n + count_by is_ask rest) (asks_counted acts)

-- the asks of the groups that are still to be played
pub asks_later : (groups : List Group) (i : ℕ) (d : Group) → i < length groups → asks_of (drop i groups) ≡ asks_among (get_or groups i d).acts + asks_of (drop (i + 1) groups)
asks_later groups i d h =
    ap asks_of (drop-cons groups i d h)
    ∙ (asks_append (get_or groups i d).acts (acts_of (drop (suc i) groups)) ∙ ap (λ k. asks_among (get_or groups i d).acts + asks_of (drop k groups)) (sym (add-one i)))

-- the ticks
pub acts_first : (homes : Homes) (more : List Event) (g : Group) (count : ℕ) (net next : Net) → IsTold (map (ticked_in g.at homes) net) [] more next → behind more (acts g.acts count homes next) ≡ begins g count homes net
unfolding begins
acts_first homes more g count net next t = ap (λ es. behind es (acts g.acts count homes next)) t.told ∙ ap (λ x. behind (events_of (map (ticked_in g.at homes) net)) (acts g.acts count homes x)) t.rest

-- where there are too many already, there are in the end
pub acts_longer : (homes : Homes) (now : List Event) (g : Group) (count n : ℕ) (start : Net) (todo : List Act) (net : Net) (room : ℕ) → behind now (acts todo n homes net) ≡ begins g count homes start → room < length now → room < length (begins g count homes start).events
acts_longer homes now g count n start todo net room way long =
    omega (arith, long, ap (λ (p : Played). length p.events) way, length-append now (acts todo n homes net).events)

-- all acts are done
pub acts_end : (homes : Homes) (now : List Event) (g : Group) (count n : ℕ) (start net : Net) (i : ℕ) → length g.acts ≤ i → behind now (acts (drop i g.acts) n homes net) ≡ begins g count homes start → IsBegun homes g count start now net
acts_end homes now g count n start net i h way =
    let done : ended now net ≡ begins g count homes start = ap (λ es. ended es net) (sym (append-nil now)) ∙ (ap (behind now) (sym (ap (λ zs. acts zs n homes net) (drop_all i g.acts h) ∙ acts_none n homes net)) ∙ way) in
    record { told = ap (λ (p : Played). p.events) done; rest = ap (λ (p : Played). p.net) done }
