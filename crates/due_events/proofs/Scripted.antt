-- A play makes no more ticks, asks, forced ends and restarts than its script and its tapes have.
use Rattle.std.proofs.Common.{ℕ, ◌+◌, ◌*◌, ◌≤◌, ◌≡◌, ◌==◌, Bool, true, false, cond, List, [], ◌∷◌, Option, Some, None, inl, inr, refl, sym, ap, ◌∙◌, subst, arith, length, map, eq-eqb, ne_eqb}
use Rattle.std.specs.List.{All, count_by, sum, sum_by}
use Rattle.std.proofs.lemmas.Bool.{cases_Bool}
use Rattle.std.proofs.lemmas.List.Elements.{All-head, All-tail}
use Rattle.std.proofs.lemmas.List.Sums.{sum_by-cons, sum_by-append}
use Rattle.std.proofs.lemmas.List.FromFn.{length-range_with_len}
use Rattle.nsi_primitive.specs.declared.ask.Ask.{Ask}
use Rattle.nsi_primitive.specs.declared.entry.Event.{Event}
use Rattle.nsi_primitive.specs.declared.entry.Happening.{Happening}
use Rattle.nsi_primitive.specs.declared.entry.Input.{Input}
use Rattle.stp_topology.specs.Laws.{IsWellFormed}
use Rattle.stp_topology.specs.declared.network.Network.{Network}
use Rattle.nsi_agent.specs.Homes.{Routes, home_in}
use Rattle.nsi_script.specs.Scripts.{acts_of, is_ask as asks_something}
use Rattle.nsi_script.specs.declared.script.Act.{Act}
use Rattle.nsi_script.specs.declared.script.Group.{Group}
use Rattle.agent_node.specs.Openings.{agents}
use Rattle.agent_node.specs.Restarts.{cut_past}
use Rattle.agent_node.specs.Seat.{Seat}
use Rattle.nsi_play.specs.Openings.{Plans, opening}
use Rattle.nsi_play.specs.Rounds.{Net, Homes, met_all, events_of, emptied, all_quiet}
use Rattle.nsi_play.specs.Play.{Played, over, stopped, after_round, asks_in, asks_among, ticked_in, then_on}
use Rattle.nsi_play.proofs.Settling.{then_over, then_stopped}
use Rattle.nsi_world.specs.Nets.{numbers, AreDistinct, IsTold}
use Rattle.nsi_world.proofs.NetSteps.{events_met, emptied_told, emptied_numbers}
use Rattle.nsi_world.proofs.Opening.{numbers_of, opening_stands}
use Rattle.stopped_play.specs.Counts.{one_restart, restarts_in, stops_of, stops_among, round_stops, tape_stops, play_stops, all_stops}
use Rattle.stopped_play.specs.Laws.{played}
use Rattle.stopped_play.specs.Tapes.{Cut, Cuts, Tape, no_tape, Stops}
use Rattle.stopped_play.specs.Rounds.{turned_or, turned_by, round_by, reopened, reopened_by, reopens, after_cuts, settles_by}
use Rattle.stopped_play.specs.Play.{does_by, acted_by, acts_by, begins_by, group_by, plays_by, remade_at, remade}
use Rattle.stopped_play.proofs.Calm.{settle_by_none, settle_by_one}
use Rattle.due_events.specs.Counts.{is_tick, is_ask, is_force, enters, ask_worth, act_worth, is_forcing, is_restarting}
use Rattle.due_events.specs.Laws.{PlaysAreScripted, AsksAreScripted}
use Rattle.due_events.proofs.Entries.{one_if, weight_at, weight_was_entered}
use Rattle.due_events.proofs.Outside.{counted, IsOutside, more_events, Makes, makes_none, halted_none, turned_none, restarts_make, past_makes, ticked_makes, made_by, doer, does_makes}
use Rattle.due_events.proofs.Plays.{numbers_met}
use Rattle.due_events.proofs.Sums.{sum_one}

---- Numbers

-- one number at most is that one
one_of_them : (a k : ℕ) (ns : List ℕ) → AreDistinct ns → sum_by (λ n. cond (n == a) k 0) ns ≤ k
one_of_them a k ns apart =
    let all = sum_one (λ n. 0) (λ n. cond (n == a) k 0) a k ns apart (λ b m. omega (arith, ap (λ z. cond z k 0) (ne_eqb b a m))) (omega (arith, ap (λ z. cond z k 0) (eq-eqb a a refl))) in
    omega (arith, all, no_sum ns)
  where
    no_sum : (ms : List ℕ) → sum_by (λ (n : ℕ). 0) ms ≡ 0
    no_sum [] = refl
    no_sum (m ∷ ms) = omega (arith, sum_by-cons (λ (n : ℕ). 0) m ms, no_sum ms)

-- so much for each
much_for_each : (k : ℕ) (ns : List ℕ) → sum_by (λ (n : ℕ). k) ns ≡ k * length ns
much_for_each k [] = omega arith
much_for_each k (n ∷ ns) = omega (arith, sum_by-cons (λ (m : ℕ). k) n ns, much_for_each k ns)

-- as many as disks stopped
stops_sum : (k : ℕ) (cuts : Cuts) (ns : List ℕ) → sum_by (λ n. k * stops_of (cuts n)) ns ≡ k * stops_among cuts ns
stops_sum k cuts [] = omega arith
stops_sum k cuts (n ∷ ns) = omega (arith, sum_by-cons (λ m. k * stops_of (cuts m)) n ns, stops_sum k cuts ns)

module _ (weigh : ℕ → Happening → ℕ) (ticks : ℕ) (asks : ℕ → Ask → ℕ) (forces restarts : ℕ) (outside : IsOutside weigh ticks asks forces restarts) (ns : List ℕ) (apart : AreDistinct ns) where
  ---- Nets

  -- nothing that happened is told still, and these are the agents' numbers
  record IsReady (net : Net) : Type 0 where
    pub told : All IsTold net
    pub numbers : numbers net ≡ ns

  -- its events count so much at most
  record Comes (k : ℕ) (p : Played) : Type 0 where
    pub few : counted weigh p.events ≤ k
    pub ready : IsReady p.net

  walk : (extra : ℕ → ℕ) (f : Seat → Seat) (net : Net) → ((s : Seat) → Makes weigh (extra s.number) s (f s)) → All IsTold net → counted weigh (events_of (map f net)) ≤ sum_by extra (numbers net)
  walk extra f [] makes told = omega arith
  walk extra f (s ∷ ss) makes told =
      let one = makes s in
      omega (
        arith,
        more_events weigh (f s).events (events_of (map f ss)),
        one.few,
        ap (counted weigh) (All-head IsTold s ss told),
        walk extra f ss makes (All-tail IsTold s ss told),
        sum_by-cons extra s.number (numbers ss),
      )

  same_numbers : (extra : ℕ → ℕ) (f : Seat → Seat) (net : Net) → ((s : Seat) → Makes weigh (extra s.number) s (f s)) → numbers (map f net) ≡ numbers net
  same_numbers extra f [] makes = refl
  same_numbers extra f (s ∷ ss) makes = ap (λ n. n ∷ numbers (map f ss)) (makes s).number ∙ ap (λ xs. s.number ∷ xs) (same_numbers extra f ss makes)

  step_ready : (extra : ℕ → ℕ) (f : Seat → Seat) (net : Net) → ((s : Seat) → Makes weigh (extra s.number) s (f s)) → IsReady net → IsReady (emptied (map f net))
  step_ready extra f net makes r = record { told = emptied_told (map f net); numbers = emptied_numbers (map f net) ∙ (same_numbers extra f net makes ∙ r.numbers) }

  -- a step of every agent, and then the rest
  step_then : (extra : ℕ → ℕ) (k : ℕ) (f : Seat → Seat) (net : Net) (rest : Net → Played) → ((s : Seat) → Makes weigh (extra s.number) s (f s)) → IsReady net
      → ((y : Net) → IsReady y → Comes k (rest y)) → Comes (sum_by extra ns + k) (after_round (map f net) rest)
  step_then extra k f net rest makes r more =
      let y : Net = emptied (map f net) in
      let q = more y (step_ready extra f net makes r) in
      record { few = omega (arith, more_events weigh (events_of (map f net)) (rest y).events, walk extra f net makes r.told, ap (sum_by extra) r.numbers, q.few); ready = q.ready }

  -- the same, where they meet behind it and it counts nothing
  met_then : (k : ℕ) (f : Seat → Seat) (net : Net) (rest : Net → Played) → ((s : Seat) → Makes weigh 0 s (f s)) → IsReady net → ((y : Net) → IsReady y → Comes k (rest y)) → Comes k (after_round (met_all (map f net)) rest)
  met_then k f net rest makes r more =
      let x : Net = map f net in
      let y : Net = emptied (met_all x) in
      let ready : IsReady y = record { told = emptied_told (met_all x); numbers = emptied_numbers (met_all x) ∙ (numbers_met x x ∙ (same_numbers (λ n. 0) f net makes ∙ r.numbers)) } in
      let q = more y ready in
      record {
        few = omega (
          arith,
          more_events weigh (events_of (met_all x)) (rest y).events,
          ap (counted weigh) (events_met x x),
          walk (λ n. 0) f net makes r.told,
          much_for_each 0 (numbers net),
          q.few,
        );
        ready = q.ready;
      }

  comes_none : (k : ℕ) (x : Net) → IsReady x → Comes k (over x)
  comes_none k x r = record { few = omega arith; ready = r }

  ---- Rounds

  turn_none : (o : Option Cut) (homes : Homes) (s : Seat) → Makes weigh 0 s (turned_or o (homes s.number) s)
  turn_none None homes s = turned_none weigh ticks asks forces restarts outside (homes s.number) s
  turn_none (Some c) homes s = halted_none weigh ticks asks forces restarts outside (homes s.number) s

  reopen_makes : (o : Option Cut) (homes : Homes) (s : Seat) → Makes weigh (restarts * stops_of o) s (reopened o (homes s.number) s)
  reopen_makes None homes s = makes_none weigh (restarts * 0) s
  reopen_makes (Some c) homes s = past_makes weigh ticks asks forces restarts outside (cut_past c.keeps s) (homes s.number) c.again s

  cuts_then : (cuts : Cuts) (k : ℕ) (homes : Homes) (x : Net) (rest : Net → Played) → IsReady x → ((y : Net) → IsReady y → Comes k (rest y)) → Comes (restarts * stops_among cuts ns + k) (after_cuts cuts homes x rest)
  unfolding round_by reopens
  cuts_then cuts k homes x rest r more =
      met_then (restarts * stops_among cuts ns + k) (turned_by cuts homes) x (λ (y : Net). after_round (reopens cuts homes y) rest) (λ s. turn_none (cuts s.number) homes s) r
      (λ y q. let c = step_then (λ n. restarts * stops_of (cuts n)) k (reopened_by cuts homes) y rest (λ s. reopen_makes (cuts s.number) homes s) q more in
      record { few = omega (arith, c.few, stops_sum restarts cuts ns); ready = c.ready })

  either : (k : ℕ) (x : Net) (b : Bool) (p : Played) → IsReady x → Comes k p → Comes k (cond b (over x) p)
  either k x true p r c = comes_none k x r
  either k x false p r c = c

  settles_make : (rounds : List Cuts) (homes : Homes) (x : Net) → IsReady x → Comes (restarts * round_stops ns rounds) (settles_by rounds homes x)
  settles_make [] homes x r =
      subst (Comes (restarts * 0)) (sym (settle_by_none homes x)) (either (restarts * 0) x (all_quiet homes x) (stopped x) r (record { few = omega arith; ready = r }))
  settles_make (c ∷ cs) homes x r =
      let k : ℕ = restarts * round_stops ns (c ∷ cs) in
      let q = cuts_then c (restarts * round_stops ns cs) homes x (settles_by cs homes) r (λ y m. settles_make cs homes y m) in
      let all : Comes k (after_cuts c homes x (settles_by cs homes)) = record { few = omega (arith, q.few); ready = q.ready } in
      subst (Comes k) (sym (settle_by_one c cs homes x)) (either k x (all_quiet homes x) (after_cuts c homes x (settles_by cs homes)) r all)

  ---- Acts

  -- what an act counts at which no disk stops
  abbrev pub made_once : Act → ℕ
  made_once a = made_by weigh ticks asks forces restarts outside a 0

  abbrev pub made_among : List Act → ℕ
  made_among todo = sum_by made_once todo

  made_more : (a : Act) (tries : ℕ) → made_by weigh ticks asks forces restarts outside a tries ≤ made_once a + restarts * tries
  made_more (Act.Ask a ask) tries = omega arith
  made_more (Act.Force a n) tries = omega arith
  made_more (Act.Restart a) tries = omega arith

  act_then : (a : Act) (tries count k : ℕ) (homes : Homes) (x : Net) (rest : Net → Played) → IsReady x → ((y : Net) → IsReady y → Comes k (rest y))
      → Comes (made_once a + restarts * tries + k) (after_round (acted_by a tries count homes x) rest)
  act_then a tries count k homes x rest r more =
      let made : ℕ = made_by weigh ticks asks forces restarts outside a tries in
      let own : ℕ = doer weigh ticks asks forces restarts outside a in
      let c = step_then (λ n. cond (n == own) made 0) k (does_by a tries count homes) x rest (does_makes weigh ticks asks forces restarts outside a tries count homes) r more in
      record { few = omega (arith, c.few, one_of_them own made ns apart, made_more a tries); ready = c.ready }

  acts_make : (todo : List Act) (tape : List ℕ) (count : ℕ) (homes : Homes) (x : Net) → IsReady x → Comes (made_among todo + restarts * sum tape) (acts_by todo tape count homes x)
  unfolding acts_by
  acts_make [] tape count homes x r = comes_none (0 + restarts * sum tape) x r
  acts_make (a ∷ rest) [] count homes x r =
      let c = act_then a 0 count (made_among rest + restarts * 0) homes x (acts_by rest [] (count + asks_in a) homes) r (λ y q. acts_make rest [] (count + asks_in a) homes y q) in
      record { few = omega (arith, c.few, sum_by-cons made_once a rest); ready = c.ready }
  acts_make (a ∷ rest) (n ∷ more) count homes x r =
      let c = act_then a n count (made_among rest + restarts * sum more) homes x (acts_by rest more (count + asks_in a) homes) r (λ y q. acts_make rest more (count + asks_in a) homes y q) in
      record { few = omega (arith, c.few, sum_by-cons made_once a rest, ap (λ (z : ℕ). restarts * z) (sum_by-cons (λ (m : ℕ). m) n more)); ready = c.ready }

  ---- Groups

  -- the ticks of all agents, and the acts
  abbrev made_in : Group → ℕ
  made_in g = ticks * length ns + made_among g.acts

  begins_make : (tape : Tape) (g : Group) (count : ℕ) (homes : Homes) (x : Net) → IsReady x → Comes (made_in g + restarts * sum tape.acts) (begins_by tape g count homes x)
  unfolding begins_by
  begins_make tape g count homes x r =
      let c = step_then (λ n. ticks) (made_among g.acts + restarts * sum tape.acts) (ticked_in g.at homes) x (acts_by g.acts tape.acts count homes)
      (λ s. ticked_makes weigh ticks asks forces restarts outside (homes s.number) g.at s) r (λ y q. acts_make g.acts tape.acts count homes y q) in
      record { few = omega (arith, c.few, much_for_each ticks ns); ready = c.ready }

  group_makes : (tape : Tape) (g : Group) (count : ℕ) (homes : Homes) (x : Net) → IsReady x → Comes (made_in g + restarts * tape_stops ns tape) (group_by tape g count homes x)
  unfolding group_by
  group_makes tape g count homes x r =
      let b : Played = begins_by tape g count homes x in
      let p = begins_make tape g count homes x r in
      let q = settles_make tape.rounds homes b.net p.ready in
      record { few = omega (arith, more_events weigh b.events (settles_by tape.rounds homes b.net).events, p.few, q.few); ready = q.ready }

  ---- Plays

  abbrev made_all : List Group → ℕ
  made_all gs = sum_by made_in gs

  then_makes : (k more : ℕ) (p : Played) (rest : Net → Played) → Comes k p → (IsReady p.net → Comes more (rest p.net)) → Comes (k + more) (then_on p rest)
  then_makes k more p rest c go = elim (cases_Bool p.is_over) [
    | inl o ↦
        let q = go c.ready in
        subst (Comes (k + more)) (sym (then_over p rest o)) (record { few = omega (arith, more_events weigh p.events (rest p.net).events, c.few, q.few); ready = q.ready })
    | inr o ↦ subst (Comes (k + more)) (sym (then_stopped p rest o)) (record { few = omega (arith, c.few); ready = c.ready })
  ]

  plays_make : (tapes : List Tape) (gs : List Group) (count : ℕ) (homes : Homes) (x : Net) → IsReady x → Comes (made_all gs + restarts * play_stops ns tapes) (plays_by tapes gs count homes x)
  unfolding plays_by
  plays_make tapes [] count homes x r = comes_none (0 + restarts * play_stops ns tapes) x r
  plays_make [] (g ∷ gs) count homes x r =
      let n : ℕ = count + asks_among g.acts in
      let first : Comes (made_in g + restarts * 0) (group_by no_tape g count homes x) = group_makes no_tape g count homes x r in
      let c = then_makes (made_in g + restarts * 0) (made_all gs + restarts * 0) (group_by no_tape g count homes x) (plays_by [] gs n homes) first (λ q. plays_make [] gs n homes (group_by no_tape g count homes x).net q) in
      record { few = omega (arith, c.few, sum_by-cons made_in g gs); ready = c.ready }
  plays_make (t ∷ ts) (g ∷ gs) count homes x r =
      let n : ℕ = count + asks_among g.acts in
      let one : ℕ = made_in g + restarts * tape_stops ns t in
      let more : ℕ = made_all gs + restarts * play_stops ns ts in
      let c = then_makes one more (group_by t g count homes x) (plays_by ts gs n homes) (group_makes t g count homes x r) (λ q. plays_make ts gs n homes (group_by t g count homes x).net q) in
      record { few = omega (arith, c.few, sum_by-cons made_in g gs); ready = c.ready }

  made_is : (gs : List Group) → made_all gs ≡ ticks * length ns * length gs + made_among (acts_of gs)
  made_is [] = omega arith
  made_is (g ∷ gs) = omega (arith, sum_by-cons made_in g gs, made_is gs, sum_by-append made_once g.acts (acts_of gs))

  -- journals that are made anew
  remade_makes : (making : ℕ → ℕ) (net : Net) → counted weigh (remade making net) ≡ restarts * sum_by making (numbers net)
  remade_makes making [] = omega arith
  remade_makes making (s ∷ ss) =
      omega (
        arith,
        more_events weigh (remade_at making s) (remade making ss),
        restarts_make weigh ticks asks forces restarts outside (making s.number) s.number 0,
        remade_makes making ss,
        ap (λ (z : ℕ). restarts * z) (sum_by-cons making s.number (numbers ss)),
      )

all_scripted : (weigh : ℕ → Happening → ℕ) (ticks : ℕ) (asks : ℕ → Ask → ℕ) (forces restarts : ℕ) (outside : IsOutside weigh ticks asks forces restarts) (t : Network) (routes : Routes) (plans : Plans) (stops : Stops) (script : List Group)
    → IsWellFormed t → counted weigh (played t routes plans stops script).events
    ≤ ticks * length t.agents * length script + (sum_by (λ (a : Act). made_by weigh ticks asks forces restarts outside a 0) (acts_of script) + restarts * all_stops (agents t) stops)
all_scripted weigh ticks asks forces restarts outside t routes plans stops script formed =
    let homes : Homes = home_in t routes in
    let x : Net = opening t plans in
    let stand = opening_stands t routes plans formed in
    let ns : List ℕ = agents t in
    let numbers_are : numbers x ≡ ns = numbers_of t plans ns in
    let apart : AreDistinct ns = subst AreDistinct numbers_are stand.distinct in
    let c = plays_make weigh ticks asks forces restarts outside ns apart stops.groups script 0 homes x (record { told = stand.told; numbers = numbers_are }) in
    let acts : ℕ = sum_by (λ (a : Act). made_by weigh ticks asks forces restarts outside a 0) (acts_of script) in
    let made = ap (λ (ms : List ℕ). restarts * sum_by stops.making ms) numbers_are in
    let few : counted weigh (played t routes plans stops script).events ≤ ticks * length ns * length script + (acts + restarts * all_stops ns stops) =
    omega (
      arith,
      more_events weigh (remade stops.making x) (plays_by stops.groups script 0 homes x).events,
      remade_makes weigh ticks asks forces restarts outside ns apart stops.making x,
      made,
      c.few,
      made_is weigh ticks asks forces restarts outside ns apart script,
    )
    in
    subst (λ n. counted weigh (played t routes plans stops script).events ≤ ticks * n * length script + (acts + restarts * all_stops ns stops)) (length-range_with_len 0 (length t.agents)) few

---- The four kinds

-- an entry counts one where it is of the kind
abbrev entered : (Input → Bool) → ℕ → Happening → ℕ
entered kind a what = one_if (enters kind what)

abbrev restarted : ℕ → Happening → ℕ
restarted a what = one_restart what

-- an ask counts that much
abbrev each : ℕ → ℕ → Ask → ℕ
each k a ask = k

of_ticks : IsOutside (entered is_tick) 1 (each 0) 0 0
of_ticks = record {
  got = λ b n m a. refl;
  acked = λ b n i a. refl;
  work = λ b n k m a. refl;
  tick = λ b n a. refl;
  ask = λ b n k q a. refl;
  force = λ b n k a. refl;
  sync = λ b n. refl;
  restart = λ b n. refl;
}

of_asks : IsOutside (entered is_ask) 0 (each 1) 0 0
of_asks = record {
  got = λ b n m a. refl;
  acked = λ b n i a. refl;
  work = λ b n k m a. refl;
  tick = λ b n a. refl;
  ask = λ b n k q a. refl;
  force = λ b n k a. refl;
  sync = λ b n. refl;
  restart = λ b n. refl;
}

of_forces : IsOutside (entered is_force) 0 (each 0) 1 0
of_forces = record {
  got = λ b n m a. refl;
  acked = λ b n i a. refl;
  work = λ b n k m a. refl;
  tick = λ b n a. refl;
  ask = λ b n k q a. refl;
  force = λ b n k a. refl;
  sync = λ b n. refl;
  restart = λ b n. refl;
}

of_restarts : IsOutside restarted 0 (each 0) 0 1
of_restarts = record {
  got = λ b n m a. refl;
  acked = λ b n i a. refl;
  work = λ b n k m a. refl;
  tick = λ b n a. refl;
  ask = λ b n k q a. refl;
  force = λ b n k a. refl;
  sync = λ b n. refl;
  restart = λ b n. refl;
}

-- acts that count one where they are such, and nothing else
acts_count : (f : Act → ℕ) (test : Act → Bool) → ((a : Act) → f a ≡ one_if (test a)) → (todo : List Act) → sum_by f todo ≡ count_by test todo
acts_count f test same [] = refl
acts_count f test same (a ∷ rest) = omega (arith, sum_by-cons f a rest, sum_by-cons (λ (x : Act). one_if (test x)) a rest, same a, acts_count f test same rest)

-- no act is a tick
no_act : (f : Act → ℕ) → ((a : Act) → f a ≡ 0) → (todo : List Act) → sum_by f todo ≡ 0
no_act f same [] = refl
no_act f same (a ∷ rest) = omega (arith, sum_by-cons f a rest, same a, no_act f same rest)

act_ticks : (a : Act) → made_by (entered is_tick) 1 (each 0) 0 0 of_ticks a 0 ≡ 0
act_ticks (Act.Ask a ask) = refl
act_ticks (Act.Force a n) = refl
act_ticks (Act.Restart a) = refl

act_asks : (a : Act) → made_by (entered is_ask) 0 (each 1) 0 0 of_asks a 0 ≡ one_if (asks_something a)
act_asks (Act.Ask a ask) = refl
act_asks (Act.Force a n) = refl
act_asks (Act.Restart a) = refl

act_forces : (a : Act) → made_by (entered is_force) 0 (each 0) 1 0 of_forces a 0 ≡ one_if (is_forcing a)
act_forces (Act.Ask a ask) = refl
act_forces (Act.Force a n) = refl
act_forces (Act.Restart a) = refl

act_restarts : (a : Act) → made_by restarted 0 (each 0) 0 1 of_restarts a 0 ≡ one_if (is_restarting a)
act_restarts (Act.Ask a ask) = refl
act_restarts (Act.Force a n) = refl
act_restarts (Act.Restart a) = refl

restarts_counted : (es : List Event) → restarts_in es ≡ counted restarted es
restarts_counted [] = refl
restarts_counted (e ∷ es) = omega (arith, sum_by-cons (λ (x : Event). one_restart x.what) e es, restarts_counted es)

pub plays_are_scripted : PlaysAreScripted
plays_are_scripted t routes plans stops script formed =
    let acts : List Act = acts_of script in
    record {
      ticks = omega (arith, all_scripted (entered is_tick) 1 (each 0) 0 0 of_ticks t routes plans stops script formed, no_act (λ a. made_by (entered is_tick) 1 (each 0) 0 0 of_ticks a 0) act_ticks acts);
      asks = omega (arith, all_scripted (entered is_ask) 0 (each 1) 0 0 of_asks t routes plans stops script formed, acts_count (λ a. made_by (entered is_ask) 0 (each 1) 0 0 of_asks a 0) asks_something act_asks acts);
      forces = omega (arith, all_scripted (entered is_force) 0 (each 0) 1 0 of_forces t routes plans stops script formed, acts_count (λ a. made_by (entered is_force) 0 (each 0) 1 0 of_forces a 0) is_forcing act_forces acts);
      restarts = omega (
        arith,
        all_scripted restarted 0 (each 0) 0 1 of_restarts t routes plans stops script formed,
        acts_count (λ a. made_by restarted 0 (each 0) 0 1 of_restarts a 0) is_restarting act_restarts acts,
        restarts_counted (played t routes plans stops script).events,
      );
    }

---- What asks are worth

of_worth : (worth : ℕ → Ask → ℕ) → IsOutside (weight_at (ask_worth worth)) 0 worth 0 0
of_worth worth = record {
  got = λ b n m a. refl;
  acked = λ b n i a. refl;
  work = λ b n k m a. refl;
  tick = λ b n a. refl;
  ask = λ b n k q a. refl;
  force = λ b n k a. refl;
  sync = λ b n. refl;
  restart = λ b n. refl;
}

act_is : (worth : ℕ → Ask → ℕ) (a : Act) → made_by (weight_at (ask_worth worth)) 0 worth 0 0 (of_worth worth) a 0 ≡ act_worth worth a
act_is worth (Act.Ask a ask) = refl
act_is worth (Act.Force a n) = refl
act_is worth (Act.Restart a) = refl

acts_are : (worth : ℕ → Ask → ℕ) (todo : List Act) → sum_by (λ (a : Act). made_by (weight_at (ask_worth worth)) 0 worth 0 0 (of_worth worth) a 0) todo ≡ sum_by (act_worth worth) todo
acts_are worth [] = refl
acts_are worth (a ∷ rest) =
    omega (
      arith,
      sum_by-cons (λ (x : Act). made_by (weight_at (ask_worth worth)) 0 worth 0 0 (of_worth worth) x 0) a rest,
      sum_by-cons (act_worth worth) a rest,
      act_is worth a,
      acts_are worth rest,
    )

pub asks_are_scripted : AsksAreScripted
asks_are_scripted t routes plans stops script worth front rest formed parts =
    let weigh = weight_at (ask_worth worth) in
    let ns : List ℕ = agents t in
    let apart : AreDistinct ns = subst AreDistinct (numbers_of t plans ns) (opening_stands t routes plans formed).distinct in
    omega (
      arith,
      weight_was_entered (ask_worth worth) front ns apart,
      more_events weigh front rest,
      ap (counted weigh) parts,
      all_scripted weigh 0 worth 0 0 (of_worth worth) t routes plans stops script formed,
      acts_are worth (acts_of script),
    )
