-- Ticks and acts, at which disks stop while they are read, or none does.
use Rattle.std.proofs.Common.{ℕ, suc, ◌≡◌, ◌≤◌, ◌<◌, ◌+◌, ◌==◌, inl, inr, Bool, true, false, cond, List, [], ◌∷◌, ◌++◌, Option, Some, None, refl, sym, ap, ap₂, ◌∙◌, subst, arith, length, map, drop, get_or, drop-cons, add-one, append_assoc, append-nil}
use Rattle.std.specs.Prelude.{sum}
use Rattle.std.proofs.lemmas.List.{drop_all}
use Rattle.std.proofs.lemmas.List.Sums.{sum_by_push}
use Rattle.nsi_primitive.specs.declared.entry.Entry.{Entry}
use Rattle.nsi_primitive.specs.declared.entry.Event.{Event}
use Rattle.nsi_script.specs.declared.script.Act.{Act}
use Rattle.nsi_script.specs.declared.script.Group.{Group}
use Rattle.nsi_agent.specs.Homes.{Home}
use Rattle.agent_node.specs.Seat.{Seat}
use Rattle.agent_node.specs.Restarts.{reads_past, restarted, restart_event, restart_events}
use Rattle.agent_node.specs.Kept.{Kept}
use Rattle.nsi_play.specs.Rounds.{Net, Homes, events_of, emptied}
use Rattle.nsi_play.specs.Play.{behind, does, acted, acts, begins, asks_in, ticked_in}
use Rattle.stopped_play.specs.Play.{read_again, does_by, acted_by}
use Rattle.stopped_play.specs.Coming.{IsActedBy}
use Rattle.stopped_play.specs.Counts.{restarts_in}
use Rattle.stopped_play.proofs.Coming.{acted_none, acted_more}
use Rattle.agent_threads.specs.Coming.{IsTold}
use Rattle.agent_threads.specs.Stopping.{more_stops, NoneStopped, ByStops, IsDone, HasBegun, BeginsPast}
use Rattle.agent_threads.proofs.Coming.{acts_first, acts_next, acts_end, acts_longer}
use Rattle.agent_threads.proofs.Restarting.{read_events}
use Rattle.agent_threads.proofs.Showing.{restarts_append}

---- An act at which no disk stops

act_calm : (a : Act) (count : ℕ) (homes : Homes) (net : Net) → acted_by a 0 count homes net ≡ acted a count homes net
act_calm (Act.Ask a ask) count homes net = refl
act_calm (Act.Force a n) count homes net = refl
act_calm (Act.Restart a) count homes net = refl

-- an agent that has read tells a restart
tries_tell : (past : Option (List Entry)) (h : Home) (tries : ℕ) (s : Seat) → restarts_in (reads_past past h tries s).events ≡ 0 → reads_past past h tries s ≡ reads_past past h 0 s
tries_tell None h tries s none = refl
tries_tell (Some es) h tries s none =
    let again : List Event = restart_events tries s.number (length es) in
    let told = ap restarts_in (read_events h tries es s) ∙ restarts_append s.events (restart_event s.number (length es) ∷ again) in
    absurd (omega (arith, none, told))

one_calm : (act : Act) (tries n : ℕ) (homes : Homes) (s : Seat) → restarts_in (does_by act tries n homes s).events ≡ 0 → does_by act tries n homes s ≡ does act n homes s
one_calm (Act.Ask a ask) tries n homes s none = refl
one_calm (Act.Force a k) tries n homes s none = refl
one_calm (Act.Restart a) tries n homes s none = by_number (s.number == a) none
  where
    h : Home
    h = homes a

    by_number : (b : Bool) → restarts_in (cond b (read_again tries h s) s).events ≡ 0 → cond b (read_again tries h s) s ≡ cond b (restarted h s) s
    by_number true e = tries_tell s.past h tries s e
    by_number false e = refl

-- where no restart is told, nobody was
pub untold_calm : (act : Act) (tries n : ℕ) (homes : Homes) (net : Net) → restarts_in (events_of (acted_by act tries n homes net)) ≡ 0 → acted_by act tries n homes net ≡ acted act n homes net
untold_calm act tries n homes [] none = refl
untold_calm act tries n homes (s ∷ ss) none =
    let both = restarts_append (does_by act tries n homes s).events (events_of (acted_by act tries n homes ss)) in
    ap₂ ◌∷◌ (one_calm act tries n homes s (omega (arith, none, both))) (untold_calm act tries n homes ss (omega (arith, none, both)))

-- so it is where no stop was counted, or no restart told
pub calm_act : (act : Act) (tries n : ℕ) (homes : Homes) (x : Net) (before events : List Event) (y : Net) (olds news : List Kept) → tries ≤ more_stops olds news → IsTold (acted_by act tries n homes x) before events y
    → NoneStopped olds news before events → IsTold (acted act n homes x) before events y
calm_act act tries n homes x before events y olds news few t (inl e) =
    let none : tries ≡ 0 = omega (arith, few, e) in
    subst (λ (net : Net). IsTold net before events y) (ap (λ (k : ℕ). acted_by act k n homes x) none ∙ act_calm act n homes x) t
calm_act act tries n homes x before events y olds news few t (inr e) =
    let told = ap restarts_in t.told ∙ restarts_append before (events_of (acted_by act tries n homes x)) in
    subst (λ (net : Net). IsTold net before events y) (untold_calm act tries n homes x (omega (arith, told, e))) t

---- Acts, one after another

-- so many tries were made in the acts before these
pub record GoesOn (most : ℕ) (homes : Homes) (g : Group) (count : ℕ) (x : Net) (events : List Event) (left : List Act) (next : ℕ) (y : Net) : Type 0 where
  pub acted : List Event
  pub goes : IsActedBy homes g.acts count (emptied (map (ticked_in g.at homes) x)) acted left next y
  pub few : sum goes.tries ≤ most
  pub told : events ≡ events_of (map (ticked_in g.at homes) x) ++ acted

abbrev pub ActsGo : Homes → (tells : Bool) → (Calm : Type 0) → (most : ℕ) → Group → (count : ℕ) → (x : Net) → (events : List Event) → (left : List Act) → (next : ℕ) → (y : Net) → Type 0
ActsGo homes tells Calm most g count x events left next y = ByStops tells Calm (GoesOn most homes g count x events left next y) (behind events (acts left next homes y) ≡ begins g count homes x)

-- the ticks
pub acts_go_first : (homes : Homes) (b : Bool) (Calm : Type 0) (most : ℕ) (g : Group) (count : ℕ) (x : Net) (events : List Event) (y : Net) → IsTold (map (ticked_in g.at homes) x) [] events y → ActsGo homes b Calm most g count x events g.acts count y
acts_go_first homes b Calm most g count x events y t = record {
  told = λ e. subst (λ (z : Net). GoesOn most homes g count x events g.acts count z) (sym t.rest) (record {
    acted = [];
    goes = acted_none homes g.acts count (emptied (map (ticked_in g.at homes) x));
    few = omega arith;
    told = t.told ∙ sym (append-nil (events_of (map (ticked_in g.at homes) x)));
  });
  calm = λ c. acts_first homes events g count x y t;
}

-- an act more
acts_more : (homes : Homes) (g : Group) (count : ℕ) (x : Net) (events more : List Event) (a : Act) (left : List Act) (next : ℕ) (y z : Net) (most tries here : ℕ) → GoesOn most homes g count x events (a ∷ left) next y → tries ≤ here
    → IsTold (acted_by a tries next homes y) events more z → GoesOn (most + here) homes g count x more left (next + asks_in a) z
acts_more homes g count x events more a left next y z most tries here u few t =
    let first : List Event = events_of (map (ticked_in g.at homes) x) in
    let own : List Event = events_of (acted_by a tries next homes y) in
    subst (λ (net : Net). GoesOn (most + here) homes g count x more left (next + asks_in a) net) (sym t.rest) (record {
      acted = u.acted ++ own;
      goes = acted_more homes g.acts count (emptied (map (ticked_in g.at homes) x)) u.acted a left next y tries u.goes;
      few = let n = u.few in omega (arith, n, few, sum_by_push (λ (k : ℕ). k) u.goes.tries tries);
      told = t.told ∙ (ap (λ (es : List Event). es ++ own) u.told ∙ append_assoc first u.acted own);
    })

pub acts_go_more : (homes : Homes) (b : Bool) (Calm Here Later : Type 0) (most here all : ℕ) → (Later → Calm × Here) → most + here ≤ all → (g : Group) (count : ℕ) (x : Net) (events more : List Event) (i : ℕ) (d : Act) (next : ℕ) (y z : Net)
    → i < length g.acts → ActsGo homes b Calm most g count x events (drop i g.acts) next y → IsDone homes b Here here (get_or g.acts i d) next y events more z
    → ActsGo homes b Later all g count x more (drop (i + 1) g.acts) (next + asks_in (get_or g.acts i d)) z
acts_go_more homes b Calm Here Later most here all f le g count x events more i d next y z inside way one = record {
  told = λ e.
      let a : Act = get_or g.acts i d in
      let u = subst (λ (todo : List Act). GoesOn most homes g count x events todo next y) (drop-cons g.acts i d inside) (way.told e) in
      let v = one.told e in
      let w = acts_more homes g count x events more a (drop (suc i) g.acts) next y z most v.0 here u v.1 v.2 in
      wider (most + here) all homes g count x more (drop (i + 1) g.acts) (next + asks_in a) z le (subst (λ (k : ℕ). GoesOn (most + here) homes g count x more (drop k g.acts) (next + asks_in a) z) (sym (add-one i)) w);
  calm = λ l. let q = f l in acts_next homes events more g.acts i next d y z inside (one.calm q.1) ∙ way.calm q.0;
}
  where
    wider : (most all : ℕ) (homes : Homes) (g : Group) (count : ℕ) (x : Net) (events : List Event) (left : List Act) (next : ℕ) (y : Net) → most ≤ all → GoesOn most homes g count x events left next y → GoesOn all homes g count x events left next y
    wider most all homes g count x events left next y le u = record { acted = u.acted; goes = u.goes; few = let n = u.few in omega (arith, n, le); told = u.told }

-- all acts are done
pub acts_go_end : (homes : Homes) (b : Bool) (Calm : Type 0) (most : ℕ) (g : Group) (count : ℕ) (x : Net) (events : List Event) (i next : ℕ) (y : Net) → length g.acts ≤ i → ActsGo homes b Calm most g count x events (drop i g.acts) next y
    → HasBegun homes b Calm most g count x events y
acts_go_end homes b Calm most g count x events i next y over way = record {
  told = λ e.
      let u = subst (λ (todo : List Act). GoesOn most homes g count x events todo next y) (drop_all i g.acts over) (way.told e) in
      record { acted = u.acted; next = next; goes = u.goes; few = u.few; told = u.told };
  calm = λ c. acts_end homes events g count next x y i over (way.calm c);
}

-- where there are too many events already
pub acts_go_past : (homes : Homes) (b : Bool) (Calm Later : Type 0) (most room : ℕ) → (Later → Calm) → (g : Group) (count : ℕ) (x : Net) (events : List Event) (left : List Act) (next : ℕ) (y : Net) → ActsGo homes b Calm most g count x events left next y → room < length events
    → BeginsPast homes b Later most room g count x
acts_go_past homes b Calm Later most room f g count x events left next y way long = record {
  told = λ e.
      let u = way.told e in
      record { acted = u.acted; left = left; next = next; now = y; goes = u.goes; few = u.few; long = omega (arith, long, ap length u.told) };
  calm = λ l. acts_longer homes events g count next x left y room (way.calm (f l)) long;
}
