-- What an agent does by itself is no tick, ask, forced end or restart.
use Rattle.std.proofs.Common.{ℕ, zero, suc, ◌+◌, ◌*◌, ◌≤◌, ◌≡◌, ◌==◌, Bool, true, false, cond, List, [], ◌∷◌, ◌++◌, Option, Some, None, inl, inr, refl, ap, eq-eqb, ◌∙◌, arith, length}
use Rattle.std.specs.List.{sum_by}
use Rattle.std.proofs.lemmas.Bool.{cases_eq}
use Rattle.std.proofs.lemmas.List.Sums.{sum_by-cons, sum_by-append, sum_by_push}
use Rattle.nsi_primitive.specs.declared.ask.Ask.{Ask}
use Rattle.nsi_primitive.specs.declared.ask.AskAnswer.{AskAnswer}
use Rattle.nsi_primitive.specs.declared.entry.Entry.{Entry}
use Rattle.nsi_primitive.specs.declared.entry.Event.{Event}
use Rattle.nsi_primitive.specs.declared.entry.Happening.{Happening}
use Rattle.nsi_primitive.specs.declared.entry.Input.{Input}
use Rattle.nsi_primitive.specs.declared.message.Identity.{Identity}
use Rattle.nsi_primitive.specs.declared.message.Message.{Message}
use Rattle.nsi_primitive.specs.declared.message.Parcel.{Parcel}
use Rattle.nsi_primitive.specs.declared.state.Machine.{Machine}
use Rattle.nsi_agent.specs.Homes.{Home}
use Rattle.nsi_agent.specs.Steps.{after, is_new, waits, work_of, works_left}
use Rattle.nsi_script.specs.declared.script.Act.{Act}
use Rattle.agent_node.specs.Acts.{asked, forced, tick_at, ticked}
use Rattle.agent_node.specs.Passing.{lying}
use Rattle.agent_node.specs.Restarts.{restart_event, restart_events, reads, reads_past}
use Rattle.agent_node.specs.Seat.{Seat, entered, now_at, enters, enters_now, enters_if}
use Rattle.agent_node.specs.Turns.{cleared, takes, takes_all, work_then, works_off, sync_event, syncs_if, turn_with, turned, halted}
use Rattle.nsi_play.specs.Play.{changes}
use Rattle.nsi_world.proofs.ActSteps.{changed_here, changed_there}
use Rattle.stopped_play.specs.Play.{read_again, does_by}

---- What comes from outside

-- how many events are counted, where each counts so much
abbrev pub counted : (ℕ → Happening → ℕ) → List Event → ℕ
counted weigh es = sum_by (λ (e : Event). weigh e.agent e.what) es

-- what ticks, asks, forced ends and restarts count; nothing else counts anything
pub record IsOutside (weigh : ℕ → Happening → ℕ) (ticks : ℕ) (asks : ℕ → Ask → ℕ) (forces restarts : ℕ) : Type 0 where
  pub got : (a second : ℕ) (m : Message) (answer : Option AskAnswer) → weigh a (Happening.Entry (record { second = second; input = Input.Got m }) answer) ≡ 0
  pub acked : (a second : ℕ) (i : Identity) (answer : Option AskAnswer) → weigh a (Happening.Entry (record { second = second; input = Input.Acked i }) answer) ≡ 0
  pub work : (a second n : ℕ) (machine : Machine) (answer : Option AskAnswer) → weigh a (Happening.Entry (record { second = second; input = Input.Work n machine }) answer) ≡ 0
  pub tick : (a second : ℕ) (answer : Option AskAnswer) → weigh a (Happening.Entry (record { second = second; input = Input.Tick }) answer) ≡ ticks
  pub ask : (a second n : ℕ) (ask : Ask) (answer : Option AskAnswer) → weigh a (Happening.Entry (record { second = second; input = Input.Ask n ask }) answer) ≡ asks a ask
  pub force : (a second n : ℕ) (answer : Option AskAnswer) → weigh a (Happening.Entry (record { second = second; input = Input.Force n }) answer) ≡ forces
  pub sync : (a n : ℕ) → weigh a (Happening.Sync n) ≡ 0
  pub restart : (a n : ℕ) → weigh a (Happening.Restart n) ≡ restarts

pub more_events : (weigh : ℕ → Happening → ℕ) (es fs : List Event) → counted weigh (es ++ fs) ≡ counted weigh es + counted weigh fs
more_events weigh es fs = sum_by-append (λ (e : Event). weigh e.agent e.what) es fs

one_event : (weigh : ℕ → Happening → ℕ) (es : List Event) (e : Event) → counted weigh (es ++ e ∷ []) ≡ counted weigh es + weigh e.agent e.what
one_event weigh es e = sum_by_push (λ (x : Event). weigh x.agent x.what) es e

-- an agent whose events count so much more at most, and that has its number
pub record Makes (weigh : ℕ → Happening → ℕ) (k : ℕ) (s u : Seat) : Type 0 where
  pub few : counted weigh u.events ≤ counted weigh s.events + k
  pub number : u.number ≡ s.number

pub makes_none : (weigh : ℕ → Happening → ℕ) (k : ℕ) (s : Seat) → Makes weigh k s s
makes_none weigh k s = record { few = omega arith; number = refl }

makes_twice : (weigh : ℕ → Happening → ℕ) (k : ℕ) (s u v : Seat) → Makes weigh 0 s u → Makes weigh k u v → Makes weigh k s v
makes_twice weigh k s u v p q = record { few = omega (arith, p.few, q.few); number = q.number ∙ p.number }

makes_entry : (weigh : ℕ → Happening → ℕ) (k : ℕ) (h : Home) (e : Entry) (s : Seat) → ((answer : Option AskAnswer) → weigh s.number (Happening.Entry e answer) ≡ k) → Makes weigh k s (enters h e s)
unfolding enters
makes_entry weigh k h e s is = let x = after h s.state e in record { few = omega (arith, one_event weigh s.events (entered s.number e x.answer), is x.answer); number = refl }

makes_if : (weigh : ℕ → Happening → ℕ) (due : Bool) (h : Home) (input : Input) (s : Seat) → ((answer : Option AskAnswer) → weigh s.number (Happening.Entry (now_at s input) answer) ≡ 0) → Makes weigh 0 s (enters_if due h input s)
unfolding enters_if
makes_if weigh true h input s is = makes_entry weigh 0 h (now_at s input) s is
makes_if weigh false h input s is = makes_none weigh 0 s

module _ (weigh : ℕ → Happening → ℕ) (ticks : ℕ) (asks : ℕ → Ask → ℕ) (forces restarts : ℕ) (outside : IsOutside weigh ticks asks forces restarts) where
  ---- Turns

  takes_none : (h : Home) (from : ℕ) (p : Parcel) (s : Seat) → Makes weigh 0 s (takes h from p s)
  unfolding takes
  takes_none h from (Parcel.Message m) s =
      let p = makes_if weigh (is_new h s.state m) h (Input.Got m) s (outside.got s.number s.state.base.now m) in
      record { few = p.few; number = p.number }
  takes_none h from (Parcel.Ack i) s = makes_if weigh (waits i s.state) h (Input.Acked i) s (outside.acked s.number s.state.base.now i)

  all_none : (h : Home) (xs : List (ℕ × Parcel)) (s : Seat) → Makes weigh 0 s (takes_all h xs s)
  unfolding takes_all
  all_none h [] s = makes_none weigh 0 s
  all_none h (x ∷ xs) s = makes_twice weigh 0 s (takes h x.0 x.1 s) (takes_all h xs (takes h x.0 x.1 s)) (takes_none h x.0 x.1 s) (all_none h xs (takes h x.0 x.1 s))

  works_none : (n : ℕ) (h : Home) (s : Seat) → Makes weigh 0 s (works_off n h s)
  unfolding works_off
  works_none zero h s = makes_none weigh 0 s
  works_none (suc n) h s = by (work_of h.role s.state) (works_none n h)
    where
      by : (o : Option (ℕ × Machine)) → ((u : Seat) → Makes weigh 0 u (works_off n h u)) → Makes weigh 0 s (work_then o h (works_off n h) s)
      by None rest = makes_none weigh 0 s
      by (Some w) rest =
          let input : Input = Input.Work w.0 w.1 in
          let u : Seat = enters_now h input s in
          makes_twice weigh 0 s u (works_off n h u) (makes_entry weigh 0 h (now_at s input) s (outside.work s.number s.state.base.now w.0 w.1)) (rest u)

  pub halted_none : (h : Home) (s : Seat) → Makes weigh 0 s (halted h s)
  halted_none h s =
      let v : Seat = takes_all h (lying s.doors) (cleared s) in
      let p = all_none h (lying s.doors) (cleared s) in
      makes_twice weigh 0 s v (halted h s) (record { few = p.few; number = p.number }) (works_none (works_left h.role v.state) h v)

  sync_none : (b : Bool) (h : Home) (s : Seat) → Makes weigh 0 s (syncs_if b h s)
  unfolding syncs_if
  sync_none true h s = makes_none weigh 0 s
  sync_none false h s = let n : ℕ = s.synced + length s.fresh in record { few = omega (arith, one_event weigh s.events (sync_event s.number n), outside.sync s.number n); number = refl }

  pub turned_none : (h : Home) (s : Seat) → Makes weigh 0 s (turned h s)
  unfolding turn_with
  turned_none h s =
      let x : Seat = halted h s in
      let q = sync_none (length x.fresh == 0) h x in
      makes_twice weigh 0 s x (turned h s) (halted_none h s) (record { few = q.few; number = q.number })

  ---- Restarts

  pub restarts_make : (times n count : ℕ) → counted weigh (restart_events times n count) ≡ restarts * times
  restarts_make zero n count = omega arith
  restarts_make (suc times) n count =
      omega (arith, sum_by-cons (λ (x : Event). weigh x.agent x.what) (restart_event n count) (restart_events times n count), outside.restart n count, restarts_make times n count)

  reads_make : (h : Home) (tries : ℕ) (es : List Entry) (s : Seat) → Makes weigh (restarts * (tries + 1)) s (reads h tries es s)
  unfolding reads
  reads_make h tries es s =
      record { few = omega (arith, more_events weigh s.events (restart_events (suc tries) s.number (length es)), restarts_make (suc tries) s.number (length es)); number = refl }

  pub past_makes : (o : Option (List Entry)) (h : Home) (tries : ℕ) (s : Seat) → Makes weigh (restarts * (tries + 1)) s (reads_past o h tries s)
  past_makes None h tries s = makes_none weigh (restarts * (tries + 1)) s
  past_makes (Some es) h tries s = reads_make h tries es s

  ---- Ticks and acts

  pub ticked_makes : (h : Home) (second : ℕ) (s : Seat) → Makes weigh ticks s (ticked h second s)
  unfolding ticked
  ticked_makes h second s = let p = makes_entry weigh ticks h (tick_at second) s (outside.tick s.number second) in record { few = p.few; number = p.number }

  -- what an act counts, where a disk stopped so often while it read
  abbrev pub made_by : Act → ℕ → ℕ
  made_by (Act.Ask a ask) tries = asks a ask
  made_by (Act.Force a n) tries = forces
  made_by (Act.Restart a) tries = restarts * (tries + 1)

  -- whose act it is
  abbrev pub doer : Act → ℕ
  doer (Act.Ask a ask) = a
  doer (Act.Force a n) = a
  doer (Act.Restart a) = a

  changed_makes : (a k : ℕ) (f : Seat → Seat) (s : Seat) → (s.number ≡ a → Makes weigh k s (f s)) → Makes weigh (cond (s.number == a) k 0) s (changes a f s)
  changed_makes a k f s p = elim (cases_eq s.number a) [
    | inl e ↦
        let q = p e in
        let here = changed_here a f s e in
        record { few = omega (arith, q.few, ap (λ (u : Seat). counted weigh u.events) here, ap (λ b. cond b k 0) (eq-eqb s.number a e)); number = ap (λ (u : Seat). u.number) here ∙ q.number }
    | inr n ↦
        let there = changed_there a f s n in
        record { few = omega (arith, ap (λ (u : Seat). counted weigh u.events) there); number = ap (λ (u : Seat). u.number) there }
  ]

  pub does_makes : (act : Act) (tries count : ℕ) (homes : ℕ → Home) (s : Seat) → Makes weigh (cond (s.number == doer act) (made_by act tries) 0) s (does_by act tries count homes s)
  does_makes (Act.Ask a ask) tries count homes s =
      changed_makes a (asks a ask) (asked (homes a) count ask) s
      (λ is. makes_entry weigh (asks a ask) (homes a) (now_at s (Input.Ask count ask)) s (λ answer. outside.ask s.number s.state.base.now count ask answer ∙ ap (λ n. asks n ask) is))
  does_makes (Act.Force a n) tries count homes s =
      changed_makes a forces (forced (homes a) n) s (λ is. makes_entry weigh forces (homes a) (now_at s (Input.Force n)) s (outside.force s.number s.state.base.now n))
  does_makes (Act.Restart a) tries count homes s = changed_makes a (restarts * (tries + 1)) (read_again tries (homes a)) s (λ is. past_makes s.past (homes a) tries s)
