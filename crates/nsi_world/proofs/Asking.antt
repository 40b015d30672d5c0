-- Which asks are among the events of a play: those of the script, numbered in order.
use Rattle.std.proofs.Common.{ℕ, zero, suc, ◌+◌, ◌≡◌, ◌≢◌, ◌==◌, Bool, true, false, cond, List, [], ◌∷◌, ◌++◌, Option, Some, None, inl, inr, refl, sym, ap, ◌∙◌, subst, arith, length, map, append_assoc, append-nil, length-append}
use Rattle.std.specs.List.{All, Contains}
use Rattle.std.proofs.lemmas.Bool.{cases_Bool, cases_eq}
use Rattle.std.proofs.lemmas.List.Elements.{All-head, All-tail}
use Rattle.nsi_primitive.specs.declared.ask.Ask.{Ask}
use Rattle.nsi_primitive.specs.declared.entry.Entry.{Entry}
use Rattle.nsi_primitive.specs.declared.entry.Event.{Event}
use Rattle.nsi_primitive.specs.declared.entry.Input.{Input}
use Rattle.nsi_primitive.specs.declared.message.Parcel.{Parcel}
use Rattle.nsi_primitive.specs.declared.state.Machine.{Machine}
use Rattle.nsi_agent.specs.Homes.{Home}
use Rattle.nsi_agent.specs.Steps.{after, is_new, waits, work_of, works_left}
use Rattle.nsi_script.specs.declared.script.Act.{Act}
use Rattle.nsi_script.specs.declared.script.Group.{Group}
use Rattle.agent_node.specs.Passing.{lying}
use Rattle.agent_node.specs.Seat.{Seat, entered, now_at, enters, enters_now, enters_if}
use Rattle.agent_node.specs.Turns.{sync_event, cleared, takes, takes_all, work_then, works_off, worked, syncs_if, turn_with}
use Rattle.agent_node.specs.Acts.{asked, forced, tick_at, ticked}
use Rattle.agent_node.specs.Restarts.{restart_event, restart_events, reads, reads_past, restarted}
use Rattle.nsi_play.specs.Rounds.{Net, turned_in, round, events_of, emptied, all_quiet}
use Rattle.nsi_play.specs.Play.{Played, settles, changes, does, acted, asks_in as asks_of_act, asks_among, acts, ticked_in, begins, group}
use Rattle.nsi_play.proofs.Settling.{settle_quiet, settle_more, settle_stop, group_is, acts_cons, acts_none}
use Rattle.nsi_world.specs.Worlds.{Homes}
use Rattle.nsi_world.specs.Runs.{asks_by, asks_in, asks_of, Wish, numbered}
use Rattle.nsi_world.specs.Nets.{numbers, AreDistinct, IsTold}
use Rattle.nsi_world.specs.Scripts.{wish_of, wishes_among}
use Rattle.nsi_world.proofs.Receipts.{none_contained, head_or_tail}
use Rattle.nsi_world.proofs.NetSteps.{IsAbsent, first_apart, rest_apart, events_round, emptied_told, emptied_numbers}
use Rattle.nsi_world.proofs.ActSteps.{changed_here, changed_there}

---- Events

pub asks_none : asks_of [] ≡ []
unfolding asks_of
asks_none = refl

pub asks_append : (es fs : List Event) → asks_of (es ++ fs) ≡ asks_of es ++ asks_of fs
unfolding asks_of
asks_append [] fs = refl
asks_append (e ∷ es) fs = ap (λ xs. asks_in e.agent e.what ++ xs) (asks_append es fs) ∙ sym (append_assoc (asks_in e.agent e.what) (asks_of es) (asks_of fs))

asks_one : (e : Event) → asks_of (e ∷ []) ≡ asks_in e.agent e.what
unfolding asks_of
asks_one e = append-nil (asks_in e.agent e.what)

asks_more_first : (e : Event) (es : List Event) → asks_in e.agent e.what ≡ [] → asks_of (e ∷ es) ≡ asks_of es
unfolding asks_of
asks_more_first e es h = ap (λ xs. xs ++ asks_of es) h

asks_more : (es : List Event) (e : Event) → asks_in e.agent e.what ≡ [] → asks_of (es ++ e ∷ []) ≡ asks_of es
asks_more es e h = asks_append es (e ∷ []) ∙ (ap (λ xs. asks_of es ++ xs) (asks_one e ∙ h) ∙ append-nil (asks_of es))

---- A seat

entered_no_ask : (h : Home) (e : Entry) (s : Seat) → asks_by s.number e.input ≡ [] → asks_of (enters h e s).events ≡ asks_of s.events
unfolding enters
entered_no_ask h e s none = asks_more s.events (entered s.number e (after h s.state e).answer) none

if_no_ask : (b : Bool) (h : Home) (i : Input) (s : Seat) → asks_by s.number i ≡ [] → asks_of (enters_if b h i s).events ≡ asks_of s.events
unfolding enters_if
if_no_ask true h i s none = entered_no_ask h (now_at s i) s none
if_no_ask false h i s none = refl

take_no_ask : (h : Home) (from : ℕ) (p : Parcel) (s : Seat) → asks_of (takes h from p s).events ≡ asks_of s.events
unfolding takes
take_no_ask h from (Parcel.Message m) s = if_no_ask (is_new h s.state m) h (Input.Got m) s refl
take_no_ask h from (Parcel.Ack i) s = if_no_ask (waits i s.state) h (Input.Acked i) s refl

pub takes_no_ask : (h : Home) (xs : List (ℕ × Parcel)) (s : Seat) → asks_of (takes_all h xs s).events ≡ asks_of s.events
unfolding takes_all
takes_no_ask h [] s = refl
takes_no_ask h (x ∷ xs) s = takes_no_ask h xs (takes h x.0 x.1 s) ∙ take_no_ask h x.0 x.1 s

work_no_ask : (o : Option (ℕ × Machine)) (h : Home) (rest : Seat → Seat) (s : Seat) → ((u : Seat) → asks_of (rest u).events ≡ asks_of u.events) → asks_of (work_then o h rest s).events ≡ asks_of s.events
work_no_ask None h rest s more = refl
work_no_ask (Some x) h rest s more = more (enters_now h (Input.Work x.0 x.1) s) ∙ entered_no_ask h (now_at s (Input.Work x.0 x.1)) s refl

pub works_no_ask : (n : ℕ) (h : Home) (s : Seat) → asks_of (works_off n h s).events ≡ asks_of s.events
unfolding works_off
works_no_ask zero h s = refl
works_no_ask (suc n) h s = work_no_ask (work_of h.role s.state) h (works_off n h) s (λ u. works_no_ask n h u)

syncs_no_ask : (b : Bool) (h : Home) (s : Seat) → asks_of (syncs_if b h s).events ≡ asks_of s.events
unfolding syncs_if
syncs_no_ask true h s = refl
syncs_no_ask false h s = asks_more s.events (sync_event s.number (s.synced + length s.fresh)) refl

pub turned_no_ask : (homes : Homes) (s : Seat) → asks_of (turned_in homes s).events ≡ asks_of s.events
unfolding turn_with
turned_no_ask homes s =
    let h : Home = homes s.number in
    let b : Seat = takes_all h (lying s.doors) (cleared s) in
    let c : Seat = worked h b in
    syncs_no_ask (length c.fresh == 0) h c ∙ (works_no_ask (works_left h.role b.state) h b ∙ takes_no_ask h (lying s.doors) (cleared s))

pub ticked_no_ask : (homes : Homes) (second : ℕ) (s : Seat) → asks_of (ticked_in second homes s).events ≡ asks_of s.events
unfolding ticked
ticked_no_ask homes second s = entered_no_ask (homes s.number) (tick_at second) s refl

---- A net

first_quiet : (s : Seat) (f : Seat → Seat) → asks_of (f s).events ≡ asks_of s.events → IsTold s → asks_of (f s).events ≡ []
first_quiet s f same told = same ∙ (ap asks_of told ∙ asks_none)

pub net_no_ask : (f : Seat → Seat) → ((s : Seat) → asks_of (f s).events ≡ asks_of s.events) → (net : Net) → All IsTold net → asks_of (events_of (map f net)) ≡ []
net_no_ask f same [] told = asks_none
net_no_ask f same (s ∷ ss) told =
    asks_append (f s).events (events_of (map f ss))
    ∙ (ap (λ xs. xs ++ asks_of (events_of (map f ss))) (first_quiet s f (same s) (All-head IsTold s ss told)) ∙ net_no_ask f same ss (All-tail IsTold s ss told))

settles_no_ask : (most : ℕ) (homes : Homes) (x : Net) → All IsTold x → asks_of (settles most homes x).events ≡ []
settles_no_ask zero homes x told = elim (cases_Bool (all_quiet homes x)) [
  | inl q ↦ ap (λ (p : Played). asks_of p.events) (settle_quiet 0 homes x q) ∙ asks_none
  | inr q ↦ ap (λ (p : Played). asks_of p.events) (settle_stop homes x q) ∙ asks_none
]
settles_no_ask (suc most) homes x told = elim (cases_Bool (all_quiet homes x)) [
  | inl q ↦ ap (λ (p : Played). asks_of p.events) (settle_quiet (suc most) homes x q) ∙ asks_none
  | inr q ↦
      let z : Net = emptied (round homes x) in
      ap (λ (p : Played). asks_of p.events) (settle_more most homes x q) ∙ (asks_append (events_of (round homes x)) (settles most homes z).events
      ∙ (ap (λ xs. xs ++ asks_of (settles most homes z).events) (ap asks_of (events_round homes x) ∙ net_no_ask (turned_in homes) (turned_no_ask homes) x told)
      ∙ settles_no_ask most homes z (emptied_told (round homes x))))
]

---- An act

-- it asks an agent that is there
abbrev pub IsHere : List ℕ → Act → Type 0
IsHere ns (Act.Ask a ask) = Contains ns a
IsHere ns (Act.Force a n) = Unit {0}
IsHere ns (Act.Restart a) = Unit {0}

abbrev pub AreHere : List ℕ → Group → Type 0
AreHere ns g = All (IsHere ns) g.acts

asked_events : (h : Home) (count : ℕ) (ask : Ask) (s : Seat) → IsTold s → asks_of (asked h count ask s).events ≡ record { number = count; agent = s.number; ask = ask } ∷ []
unfolding enters
asked_events h count ask s told =
    let e : Entry = now_at s (Input.Ask count ask) in
    let event : Event = entered s.number e (after h s.state e).answer in
    ap (λ es. asks_of (es ++ event ∷ [])) told ∙ asks_one event

asks_here : (homes : Homes) (a count : ℕ) (ask : Ask) (s : Seat) → s.number ≡ a → IsTold s → asks_of (does (Act.Ask a ask) count homes s).events ≡ record { number = count; agent = a; ask = ask } ∷ []
asks_here homes a count ask s e told =
    ap (λ (u : Seat). asks_of u.events) (changed_here a (asked (homes a) count ask) s e) ∙ (asked_events (homes a) count ask s told ∙ ap (λ k. record { number = count; agent = k; ask = ask } ∷ []) e)

asks_there : (homes : Homes) (a count : ℕ) (ask : Ask) (s : Seat) → (s.number ≡ a → ⊥) → IsTold s → asks_of (does (Act.Ask a ask) count homes s).events ≡ []
asks_there homes a count ask s n told = ap (λ (u : Seat). asks_of u.events) (changed_there a (asked (homes a) count ask) s n) ∙ (ap asks_of told ∙ asks_none)

asks_elsewhere : (homes : Homes) (a count : ℕ) (ask : Ask) (net : Net) → IsAbsent a (numbers net) → All IsTold net → asks_of (events_of (map (does (Act.Ask a ask) count homes) net)) ≡ []
asks_elsewhere homes a count ask [] absent told = asks_none
asks_elsewhere homes a count ask (s ∷ ss) absent told =
    let f = does (Act.Ask a ask) count homes in
    asks_append (f s).events (events_of (map f ss))
    ∙ (ap (λ xs. xs ++ asks_of (events_of (map f ss))) (asks_there homes a count ask s (All-head (λ m. m ≢ a) s.number (numbers ss) absent) (All-head IsTold s ss told))
    ∙ asks_elsewhere homes a count ask ss (All-tail (λ m. m ≢ a) s.number (numbers ss) absent) (All-tail IsTold s ss told))

ask_once : (homes : Homes) (a count : ℕ) (ask : Ask) (net : Net) → Contains (numbers net) a → AreDistinct (numbers net) → All IsTold net
    → asks_of (events_of (map (does (Act.Ask a ask) count homes) net)) ≡ record { number = count; agent = a; ask = ask } ∷ []
ask_once homes a count ask [] c d told = absurd (none_contained a c)
ask_once homes a count ask (s ∷ ss) c d told =
    let f = does (Act.Ask a ask) count homes in
    asks_append (f s).events (events_of (map f ss)) ∙ elim (cases_eq s.number a) [
      | inl e ↦
          ap (λ xs. xs ++ asks_of (events_of (map f ss))) (asks_here homes a count ask s e (All-head IsTold s ss told))
          ∙ ap (λ xs. record { number = count; agent = a; ask = ask } ∷ xs) (asks_elsewhere homes a count ask ss (subst (λ k. IsAbsent k (numbers ss)) e (first_apart s.number (numbers ss) d)) (All-tail IsTold s ss told))
      | inr n ↦
          ap (λ xs. xs ++ asks_of (events_of (map f ss))) (asks_there homes a count ask s n (All-head IsTold s ss told))
          ∙ ask_once homes a count ask ss (elim (head_or_tail s.number (numbers ss) a c) [ inl e ↦ absurd (n e) | inr i ↦ i ]) (rest_apart s.number (numbers ss) d) (All-tail IsTold s ss told)
    ]

forced_no_ask : (homes : Homes) (a n count : ℕ) (s : Seat) → asks_of (does (Act.Force a n) count homes s).events ≡ asks_of s.events
forced_no_ask homes a n count s = elim (cases_eq s.number a) [
  | inl e ↦ ap (λ (u : Seat). asks_of u.events) (changed_here a (forced (homes a) n) s e) ∙ entered_no_ask (homes a) (now_at s (Input.Force n)) s refl
  | inr m ↦ ap (λ (u : Seat). asks_of u.events) (changed_there a (forced (homes a) n) s m)
]

pub restarts_no_ask : (times n count : ℕ) → asks_of (restart_events times n count) ≡ []
restarts_no_ask zero n count = asks_none
restarts_no_ask (suc times) n count = asks_more_first (restart_event n count) (restart_events times n count) refl ∙ restarts_no_ask times n count

reads_no_ask : (h : Home) (tries : ℕ) (es : List Entry) (s : Seat) → asks_of (reads h tries es s).events ≡ asks_of s.events
unfolding reads
reads_no_ask h tries es s =
    asks_append s.events (restart_event s.number (length es) ∷ restart_events tries s.number (length es))
    ∙ (ap (λ xs. asks_of s.events ++ xs) (asks_more_first (restart_event s.number (length es)) (restart_events tries s.number (length es)) refl ∙ restarts_no_ask tries s.number (length es)) ∙ append-nil (asks_of s.events))

pub past_no_ask : (o : Option (List Entry)) (h : Home) (tries : ℕ) (s : Seat) → asks_of (reads_past o h tries s).events ≡ asks_of s.events
past_no_ask None h tries s = refl
past_no_ask (Some es) h tries s = reads_no_ask h tries es s

restarted_no_ask : (homes : Homes) (a count : ℕ) (s : Seat) → asks_of (does (Act.Restart a) count homes s).events ≡ asks_of s.events
restarted_no_ask homes a count s = elim (cases_eq s.number a) [
  | inl e ↦ ap (λ (u : Seat). asks_of u.events) (changed_here a (restarted (homes a)) s e) ∙ past_no_ask s.past (homes a) 0 s
  | inr m ↦ ap (λ (u : Seat). asks_of u.events) (changed_there a (restarted (homes a)) s m)
]

numbered_one : (count : ℕ) (x : Wish) → numbered count (x ∷ []) ≡ record { number = count; agent = x.0; ask = x.1 } ∷ []
unfolding numbered
numbered_one count x = refl

pub numbered_none : (count : ℕ) → numbered count [] ≡ []
unfolding numbered
numbered_none count = refl

pub act_asks : (homes : Homes) (act : Act) (count : ℕ) (net : Net) → IsHere (numbers net) act → AreDistinct (numbers net) → All IsTold net → asks_of (events_of (acted act count homes net)) ≡ numbered count (wish_of act)
act_asks homes (Act.Ask a ask) count net c d told = ask_once homes a count ask net c d told ∙ sym (numbered_one count (a, ask))
act_asks homes (Act.Force a n) count net c d told = net_no_ask (does (Act.Force a n) count homes) (forced_no_ask homes a n count) net told ∙ sym (numbered_none count)
act_asks homes (Act.Restart a) count net c d told = net_no_ask (does (Act.Restart a) count homes) (restarted_no_ask homes a count) net told ∙ sym (numbered_none count)

---- Acts

number_entered : (h : Home) (e : Entry) (s : Seat) → (enters h e s).number ≡ s.number
unfolding enters
number_entered h e s = refl

pub number_changed : (a : ℕ) (f : Seat → Seat) (s : Seat) → (f s).number ≡ s.number → (changes a f s).number ≡ s.number
number_changed a f s same = by (s.number == a)
  where
    by : (b : Bool) → (cond b (f s) s).number ≡ s.number
    by true = same
    by false = refl

number_reads : (h : Home) (tries : ℕ) (es : List Entry) (s : Seat) → (reads h tries es s).number ≡ s.number
unfolding reads
number_reads h tries es s = refl

pub number_past : (o : Option (List Entry)) (h : Home) (tries : ℕ) (s : Seat) → (reads_past o h tries s).number ≡ s.number
number_past None h tries s = refl
number_past (Some es) h tries s = number_reads h tries es s

pub number_does : (act : Act) (count : ℕ) (homes : Homes) (s : Seat) → (does act count homes s).number ≡ s.number
number_does (Act.Ask a ask) count homes s = number_changed a (asked (homes a) count ask) s (number_entered (homes a) (now_at s (Input.Ask count ask)) s)
number_does (Act.Force a n) count homes s = number_changed a (forced (homes a) n) s (number_entered (homes a) (now_at s (Input.Force n)) s)
number_does (Act.Restart a) count homes s = number_changed a (restarted (homes a)) s (number_past s.past (homes a) 0 s)

pub number_ticked : (second : ℕ) (homes : Homes) (s : Seat) → (ticked_in second homes s).number ≡ s.number
unfolding ticked
number_ticked second homes s = number_entered (homes s.number) (tick_at second) s

pub numbers_map : (f : Seat → Seat) → ((s : Seat) → (f s).number ≡ s.number) → (net : Net) → numbers (map f net) ≡ numbers net
numbers_map f same [] = refl
numbers_map f same (s ∷ ss) = ap (λ n. n ∷ numbers (map f ss)) (same s) ∙ ap (λ ns. s.number ∷ ns) (numbers_map f same ss)

pub numbered_append : (n : ℕ) (xs ys : List Wish) → numbered n (xs ++ ys) ≡ numbered n xs ++ numbered (n + length xs) ys
unfolding numbered
numbered_append n [] ys = ap (λ k. numbered k ys) (omega arith)
numbered_append n (x ∷ xs) ys = ap (λ zs. record { number = n; agent = x.0; ask = x.1 } ∷ zs) (numbered_append (n + 1) xs ys ∙ ap (λ k. numbered (n + 1) xs ++ numbered k ys) (omega arith))

pub wish_count : (act : Act) → asks_of_act act ≡ length (wish_of act)
wish_count (Act.Ask a ask) = refl
wish_count (Act.Force a n) = refl
wish_count (Act.Restart a) = refl

pub among_none : wishes_among [] ≡ []
unfolding wishes_among
among_none = refl

pub among_cons : (a : Act) (rest : List Act) → wishes_among (a ∷ rest) ≡ wish_of a ++ wishes_among rest
unfolding wishes_among
among_cons a rest = refl

pub among_count : (todo : List Act) → asks_among todo ≡ length (wishes_among todo)
unfolding asks_among wishes_among
among_count [] = refl
among_count (a ∷ rest) = omega (arith, wish_count a, among_count rest, length-append (wish_of a) (wishes_among rest))

acts_ask : (homes : Homes) (todo : List Act) (count : ℕ) (net : Net) → All (IsHere (numbers net)) todo → AreDistinct (numbers net) → All IsTold net → asks_of (acts todo count homes net).events ≡ numbered count (wishes_among todo)
acts_ask homes [] count net here d told = ap (λ (p : Played). asks_of p.events) (acts_none count homes net) ∙ (asks_none ∙ (sym (numbered_none count) ∙ ap (numbered count) (sym among_none)))
acts_ask homes (a ∷ rest) count net here d told =
    let y : Net = acted a count homes net in
    let z : Net = emptied y in
    let n : ℕ = count + asks_of_act a in
    let same : numbers z ≡ numbers net = emptied_numbers y ∙ numbers_map (does a count homes) (number_does a count homes) net in
    ap (λ (p : Played). asks_of p.events) (acts_cons a rest count homes net) ∙ (asks_append (events_of y) (acts rest n homes z).events
    ∙ (ap (λ xs. xs ++ asks_of (acts rest n homes z).events) (act_asks homes a count net (All-head (IsHere (numbers net)) a rest here) d told)
    ∙ (ap (λ xs. numbered count (wish_of a) ++ xs) (acts_ask homes rest n z (subst (λ ns. All (IsHere ns) rest) (sym same) (All-tail (IsHere (numbers net)) a rest here)) (subst AreDistinct (sym same) d) (emptied_told y))
    ∙ (ap (λ k. numbered count (wish_of a) ++ numbered (count + k) (wishes_among rest)) (wish_count a)
    ∙ (sym (numbered_append count (wish_of a) (wishes_among rest)) ∙ ap (numbered count) (sym (among_cons a rest)))))))

---- A group

acts_told : (homes : Homes) (todo : List Act) (count : ℕ) (net : Net) → All IsTold net → All IsTold (acts todo count homes net).net
acts_told homes [] count net told = subst (λ (p : Played). All IsTold p.net) (sym (acts_none count homes net)) told
acts_told homes (a ∷ rest) count net told =
    subst (λ (p : Played). All IsTold p.net) (sym (acts_cons a rest count homes net)) (acts_told homes rest (count + asks_of_act a) (emptied (acted a count homes net)) (emptied_told (acted a count homes net)))

begins_ask : (homes : Homes) (g : Group) (count : ℕ) (net : Net) → AreHere (numbers net) g → AreDistinct (numbers net) → All IsTold net → asks_of (begins g count homes net).events ≡ numbered count (wishes_among g.acts)
unfolding begins
begins_ask homes g count net here d told =
    let y : Net = map (ticked_in g.at homes) net in
    let z : Net = emptied y in
    let same : numbers z ≡ numbers net = emptied_numbers y ∙ numbers_map (ticked_in g.at homes) (number_ticked g.at homes) net in
    asks_append (events_of y) (acts g.acts count homes z).events
    ∙ (ap (λ xs. xs ++ asks_of (acts g.acts count homes z).events) (net_no_ask (ticked_in g.at homes) (ticked_no_ask homes g.at) net told)
    ∙ acts_ask homes g.acts count z (subst (λ ns. All (IsHere ns) g.acts) (sym same) here) (subst AreDistinct (sym same) d) (emptied_told y))

begins_told : (homes : Homes) (g : Group) (count : ℕ) (net : Net) → All IsTold (begins g count homes net).net
unfolding begins
begins_told homes g count net = acts_told homes g.acts count (emptied (map (ticked_in g.at homes) net)) (emptied_told (map (ticked_in g.at homes) net))

pub group_asks : (homes : Homes) (most : ℕ) (g : Group) (count : ℕ) (net : Net) → AreHere (numbers net) g → AreDistinct (numbers net) → All IsTold net → asks_of (group most g count homes net).events ≡ numbered count (wishes_among g.acts)
group_asks homes most g count net here d told =
    let b : Played = begins g count homes net in
    ap (λ (p : Played). asks_of p.events) (group_is most g count homes net) ∙ (asks_append b.events (settles most homes b.net).events
    ∙ (ap (λ xs. asks_of b.events ++ xs) (settles_no_ask most homes b.net (begins_told homes g count net)) ∙ (append-nil (asks_of b.events) ∙ begins_ask homes g count net here d told)))
