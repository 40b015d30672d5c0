-- All agents have their turns.
use Rattle.std.proofs.Common.{ℕ, zero, suc, ◌+◌, ◌<◌, ◌≤◌, ◌≡◌, ◌==◌, Bool, true, false, List, [], ◌∷◌, ◌++◌, ◌⊎◌, inl, inr, ⊎_elim, refl, sym, ap, ap₂, ◌∙◌, subst, arith, length, map, get_or, take, drop, append-nil, add-one, drop-cons, length-append, le_refl, Err}
use Rattle.std.specs.Prelude.{Option, Some, None, IfSome, is_some, Result}
use Rattle.std.proofs.lemmas.List.{drop_all, take_all}
use Rattle.nsi_primitive.specs.declared.entry.Entry.{Entry}
use Rattle.nsi_primitive.specs.declared.entry.Input.{Input}
use Rattle.nsi_primitive.specs.declared.message.Parcel.{Parcel}
use Rattle.nsi_primitive.specs.declared.state.Machine.{Machine}
use Rattle.nsi_agent.specs.Homes.{Home, home_in}
use Rattle.nsi_agent.specs.Steps.{after, is_new, waits, work_of, works_left}
use Rattle.agent_node.specs.declared.fault.TurnFault.{TurnFault}
use Rattle.agent_node.specs.Seat.{Seat, entered, enters, enters_if, enters_now, now_at}
use Rattle.agent_node.specs.Turns.{lying, cleared, takes, takes_all, works_off, work_then, worked, sync_event, syncs_if, turn_with, turned}
use Rattle.agent_node.specs.Meetings.{met}
use Rattle.agent_node.specs.Kept.{Kept}
use Rattle.agent_node.specs.Made.{IsTurn}
use Rattle.nsi_disk.specs.Disk.{Meter}
use Rattle.agent_node.proofs.Pasts.{past_turned}
use Rattle.nsi_play.specs.Rounds.{Net, Homes, events_of, turned_in, turned_all, meets_each, meets_all, met_all, round}
use Rattle.agent_threads.specs.declared.fault.RoundFault.{RoundFault}
use Rattle.agent_threads.specs.Nets.{seats_by, seen, synced_in, EachIs, IsAsPlanned, AtHomes, AreUsable}
use Rattle.agent_threads.specs.Made.{HasRoom, HaveRoom, or_else, failure_at, stop_at, first_failure, first_stop, fault_of, answer, HasRisen, faults_in, stops_in, Stays}
use Rattle.agent_threads.specs.Stopping.{IsStop}
use Rattle.agent_threads.proofs.Places.{each_map}
use Rattle.agent_threads.proofs.Same.{at_home}

pub usable_at : (ks : List Kept) (i : ℕ) (d : Kept) → i < length ks → AreUsable ks → (get_or ks i d).fault ≡ None
usable_at [] i d h u = absurd (omega arith)
usable_at (k ∷ ks) zero d h u = u.0
usable_at (k ∷ ks) (suc i) d h u = usable_at ks i d (omega arith) u.1

pub room_at : (room : ℕ) (ks : List Kept) (i : ℕ) (d : Kept) → i < length ks → HaveRoom room ks → HasRoom room (get_or ks i d)
room_at room [] i d h u = absurd (omega arith)
room_at room (k ∷ ks) zero d h u = u.0
room_at room (k ∷ ks) (suc i) d h u = room_at room ks i d (omega arith) u.1

---- Events aren't lost

enters_grow : (h : Home) (e : Entry) (s : Seat) → length s.events ≤ length (enters h e s).events
unfolding enters
enters_grow h e s = omega (arith, length-append s.events (entered s.number e (after h s.state e).answer ∷ []))

if_grow : (b : Bool) (h : Home) (input : Input) (s : Seat) → length s.events ≤ length (enters_if b h input s).events
unfolding enters_if
if_grow true h input s = enters_grow h (now_at s input) s
if_grow false h input s = le_refl (length s.events)

take_grow : (h : Home) (from : ℕ) (p : Parcel) (s : Seat) → length s.events ≤ length (takes h from p s).events
unfolding takes
take_grow h from (Parcel.Message m) s = if_grow (is_new h s.state m) h (Input.Got m) s
take_grow h from (Parcel.Ack i) s = if_grow (waits i s.state) h (Input.Acked i) s

takes_grow : (h : Home) (xs : List (ℕ × Parcel)) (s : Seat) → length s.events ≤ length (takes_all h xs s).events
unfolding takes_all
takes_grow h [] s = le_refl (length s.events)
takes_grow h (x ∷ xs) s = omega (arith, take_grow h x.0 x.1 s, takes_grow h xs (takes h x.0 x.1 s))

works_grow : (n : ℕ) (h : Home) (s : Seat) → length s.events ≤ length (works_off n h s).events
unfolding works_off
works_grow zero h s = le_refl (length s.events)
works_grow (suc n) h s = by_work (work_of h.role s.state) (works_grow n h)
  where
    by_work : (w : Option (ℕ × Machine)) → ((u : Seat) → length u.events ≤ length (works_off n h u).events) → length s.events ≤ length (work_then w h (works_off n h) s).events
    by_work None f = le_refl (length s.events)
    by_work (Some w) f = omega (arith, enters_grow h (now_at s (Input.Work w.0 w.1)) s, f (enters_now h (Input.Work w.0 w.1) s))

syncs_grow : (b : Bool) (h : Home) (s : Seat) → length s.events ≤ length (syncs_if b h s).events
unfolding syncs_if
syncs_grow true h s = le_refl (length s.events)
syncs_grow false h s = omega (arith, length-append s.events (sync_event s.number (s.synced + length s.fresh) ∷ []))

pub turned_grow : (h : Home) (s : Seat) → length s.events ≤ length (turned h s).events
unfolding turn_with
turned_grow h s =
    let a : Seat = takes_all h (lying s.doors) (cleared s) in
    let b : Seat = worked h a in
    omega (arith, takes_grow h (lying s.doors) (cleared s), works_grow (works_left h.role a.state) h a, syncs_grow (length b.fresh == 0) h b)

pub events_cons : (s : Seat) (ss : Net) → length (events_of (s ∷ ss)) ≡ length s.events + length (events_of ss)
events_cons s ss = length-append s.events (events_of ss)

events_grow : (homes : Homes) (ss : Net) → length (events_of ss) ≤ length (events_of (turned_all homes ss))
events_grow homes [] = le_refl 0
events_grow homes (s ∷ ss) = omega (arith, events_cons s ss, events_cons (turned_in homes s) (turned_all homes ss), turned_grow (homes s.number) s, events_grow homes ss)

---- Turns

turn_agent : (room : ℕ) (a b : Kept) → IsTurn room a b → IsAsPlanned a b
turn_agent room a b t = record { same = t.same; planned = t.cause.planned }

-- also where some turns failed
pub turns_agents : (room : ℕ) (os ns : List Kept) → EachIs (IsTurn room) os ns → EachIs IsAsPlanned os ns
turns_agents room os ns e = each_map (IsTurn room) IsAsPlanned os ns (turn_agent room) e

---- The fault of a round

pub none_both : (a b : Option RoundFault) → or_else a b ≡ None → (a ≡ None) × (b ≡ None)
none_both None b e = (refl, e)
none_both (Some x) b e = absurd (cc)

pub one_of : (a b : Option RoundFault) (x : RoundFault) → or_else a b ≡ Some x → (a ≡ Some x) ⊎ (b ≡ Some x)
one_of None b x e = inr e
one_of (Some y) b x e = inl e

no_fault : (a : ℕ) (f : Option TurnFault) → failure_at a f ≡ None → stop_at a f ≡ None → f ≡ None
no_fault a None p q = refl
no_fault a (Some TurnFault.Long) p q = absurd (cc)
no_fault a (Some TurnFault.DiskFault) p q = absurd (cc)
no_fault a (Some TurnFault.Stopped) p q = absurd (cc)
no_fault a (Some TurnFault.NoMemory) p q = absurd (cc)

pub all_usable : (ks : List Kept) → first_failure ks ≡ None → first_stop ks ≡ None → AreUsable ks
unfolding first_failure first_stop
all_usable [] p q = tt
all_usable (k ∷ ks) p q =
    let x = none_both (failure_at k.seat.number k.fault) (first_failure ks) p in
    let y = none_both (stop_at k.seat.number k.fault) (first_stop ks) q in
    (no_fault k.seat.number k.fault x.0 y.0, all_usable ks x.1 y.1)

is_long : (a : ℕ) (f : Option TurnFault) → failure_at a f ≡ Some RoundFault.Long → f ≡ Some TurnFault.Long
is_long a None p = absurd (cc)
is_long a (Some TurnFault.Long) p = refl
is_long a (Some TurnFault.DiskFault) p = absurd (cc)
is_long a (Some TurnFault.Stopped) p = absurd (cc)
is_long a (Some TurnFault.NoMemory) p = absurd (cc)

is_disk : (a b : ℕ) (f : Option TurnFault) → failure_at a f ≡ Some (RoundFault.DiskFault b) → (f ≡ Some TurnFault.DiskFault) × (a ≡ b)
is_disk a b None p = absurd (cc)
is_disk a b (Some TurnFault.Long) p = absurd (cc)
is_disk a b (Some TurnFault.DiskFault) p = (refl, cc)
is_disk a b (Some TurnFault.Stopped) p = absurd (cc)
is_disk a b (Some TurnFault.NoMemory) p = absurd (cc)

is_stop : (a b : ℕ) (f : Option TurnFault) → stop_at a f ≡ Some (RoundFault.Stopped b) → (f ≡ Some TurnFault.Stopped) × (a ≡ b)
is_stop a b None p = absurd (cc)
is_stop a b (Some TurnFault.Long) p = absurd (cc)
is_stop a b (Some TurnFault.DiskFault) p = absurd (cc)
is_stop a b (Some TurnFault.Stopped) p = (refl, cc)
is_stop a b (Some TurnFault.NoMemory) p = absurd (cc)

-- a failure is no stop
abbrev NoStop : RoundFault → Type 0
NoStop (RoundFault.Stopped a) = ⊥
NoStop _ = Unit {0}

failure_no_stop : (a : ℕ) (f : Option TurnFault) → IfSome (failure_at a f) NoStop
failure_no_stop a None = tt
failure_no_stop a (Some TurnFault.Long) = tt
failure_no_stop a (Some TurnFault.DiskFault) = tt
failure_no_stop a (Some TurnFault.Stopped) = tt
failure_no_stop a (Some TurnFault.NoMemory) = tt

stop_is_stop : (a : ℕ) (f : Option TurnFault) → IfSome (stop_at a f) IsStop
stop_is_stop a None = tt
stop_is_stop a (Some TurnFault.Long) = tt
stop_is_stop a (Some TurnFault.DiskFault) = tt
stop_is_stop a (Some TurnFault.Stopped) = tt
stop_is_stop a (Some TurnFault.NoMemory) = tt

if_or : (P : RoundFault → Type 0) (a b : Option RoundFault) → IfSome a P → IfSome b P → IfSome (or_else a b) P
if_or P None b p q = q
if_or P (Some x) b p q = p

failures_no_stop : (ks : List Kept) → IfSome (first_failure ks) NoStop
unfolding first_failure
failures_no_stop [] = tt
failures_no_stop (k ∷ ks) = if_or NoStop (failure_at k.seat.number k.fault) (first_failure ks) (failure_no_stop k.seat.number k.fault) (failures_no_stop ks)

stops_are_stops : (ks : List Kept) → IfSome (first_stop ks) IsStop
unfolding first_stop
stops_are_stops [] = tt
stops_are_stops (k ∷ ks) = if_or IsStop (stop_at k.seat.number k.fault) (first_stop ks) (stop_is_stop k.seat.number k.fault) (stops_are_stops ks)

not_both : (x : RoundFault) → NoStop x → IsStop x → ⊥
not_both RoundFault.Long n s = s
not_both (RoundFault.DiskFault a) n s = s
not_both (RoundFault.Stopped a) n s = n
not_both RoundFault.NoMemory n s = s

pub failure_is_no_stop : (ks : List Kept) (x : RoundFault) → first_failure ks ≡ Some x → IsStop x → ⊥
failure_is_no_stop ks x e s = not_both x (subst (λ (o : Option RoundFault). IfSome o NoStop) e (failures_no_stop ks)) s

pub is_a_stop : (ks : List Kept) (x : RoundFault) → first_stop ks ≡ Some x → IsStop x
is_a_stop ks x e = subst (λ (o : Option RoundFault). IfSome o IsStop) e (stops_are_stops ks)

-- its events are the same whatever is told of its synced entries
turned_past : (b : Bool) (h : Home) (k : Kept) → (turned h (seen b k)).events ≡ (turned h k.seat).events
turned_past true h k = ap (λ (s : Seat). s.events) (past_turned (synced_in k.kept) h k.seat)
turned_past false h k = refl

pub turns_long : (room : ℕ) (os ns : List Kept) → EachIs (IsTurn room) os ns → first_failure ns ≡ Some RoundFault.Long → AtHomes os (λ homes tells. length (events_of (seats_by tells os)) + room < length (events_of (turned_all homes (seats_by tells os))))
unfolding first_failure
turns_long room [] [] e f t o routes r z w = absurd (cc)
turns_long room [] (n ∷ ns) e f t o routes r z w = absurd e
turns_long room (o ∷ os) [] e f t p routes r z w = absurd e
turns_long room (o ∷ os) (n ∷ ns) e f t p routes r z w =
    let homes : Homes = home_in t routes in
    let a = events_cons (seen z o) (seats_by z os) in
    let b = events_cons (turned_in homes (seen z o)) (turned_all homes (seats_by z os)) in
    ⊎_elim
    (λ q.
    let x = at_home t o (λ h. n.fault ≡ Some TurnFault.Long → length o.seat.events + room < length (turned h o.seat).events) p.0 e.0.long routes r (is_long n.seat.number n.fault q) in
    let y = events_grow homes (seats_by z os) in
    omega (arith, ap length (turned_past z (homes o.seat.number) o)))
    (λ q.
    let x = turned_grow (homes o.seat.number) (seen z o) in
    let y = turns_long room os ns e.1 q t p.1 routes r z (λ told. (w told).1) in
    omega arith)
    (one_of (failure_at n.seat.number n.fault) (first_failure ns) RoundFault.Long f)

pub turns_disk : (room a : ℕ) (os ns : List Kept) → EachIs (IsTurn room) os ns → first_failure ns ≡ Some (RoundFault.DiskFault a) → HasRisen faults_in a os ns
unfolding first_failure
turns_disk room a [] [] e f = absurd (cc)
turns_disk room a [] (n ∷ ns) e f = absurd e
turns_disk room a (o ∷ os) [] e f = absurd e
turns_disk room a (o ∷ os) (n ∷ ns) e f = ⊎_elim
    (λ q.
    let p = is_disk n.seat.number a n.fault q in
    inl (p.1, e.0.cause.failed p.0))
    (λ q. inr (turns_disk room a os ns e.1 q))
    (one_of (failure_at n.seat.number n.fault) (first_failure ns) (RoundFault.DiskFault a) f)

pub turns_stopped : (room a : ℕ) (os ns : List Kept) → EachIs (IsTurn room) os ns → first_stop ns ≡ Some (RoundFault.Stopped a) → HasRisen stops_in a os ns
unfolding first_stop
turns_stopped room a [] [] e f = absurd (cc)
turns_stopped room a [] (n ∷ ns) e f = absurd e
turns_stopped room a (o ∷ os) [] e f = absurd e
turns_stopped room a (o ∷ os) (n ∷ ns) e f = ⊎_elim
    (λ q.
    let p = is_stop n.seat.number a n.fault q in
    inl (p.1, e.0.cause.stopped p.0))
    (λ q. inr (turns_stopped room a os ns e.1 q))
    (one_of (stop_at n.seat.number n.fault) (first_stop ns) (RoundFault.Stopped a) f)

---- The first of a list

failure_cons : (k : Kept) (ks : List Kept) → first_failure (k ∷ ks) ≡ or_else (failure_at k.seat.number k.fault) (first_failure ks)
unfolding first_failure
failure_cons k ks = refl

stop_cons : (k : Kept) (ks : List Kept) → first_stop (k ∷ ks) ≡ or_else (stop_at k.seat.number k.fault) (first_stop ks)
unfolding first_stop
stop_cons k ks = refl

---- Meetings

-- a meeting changes no fault, and no count of a disk
pub failures_met : (xs ys : List Kept) → EachIs Stays xs ys → first_failure ys ≡ first_failure xs
unfolding first_failure
failures_met [] [] e = refl
failures_met [] (y ∷ ys) e = absurd e
failures_met (x ∷ xs) [] e = absurd e
failures_met (x ∷ xs) (y ∷ ys) e = ap₂ or_else (ap₂ failure_at e.0.same.number e.0.fault) (failures_met xs ys e.1)

pub stops_met : (xs ys : List Kept) → EachIs Stays xs ys → first_stop ys ≡ first_stop xs
unfolding first_stop
stops_met [] [] e = refl
stops_met [] (y ∷ ys) e = absurd e
stops_met (x ∷ xs) [] e = absurd e
stops_met (x ∷ xs) (y ∷ ys) e = ap₂ or_else (ap₂ stop_at e.0.same.number e.0.fault) (stops_met xs ys e.1)

pub risen_met : (count : Meter → ℕ) (a : ℕ) (os xs ys : List Kept) → EachIs Stays xs ys → HasRisen count a os xs → HasRisen count a os ys
risen_met count a [] xs ys e h = absurd h
risen_met count a (o ∷ os) [] ys e h = absurd h
risen_met count a (o ∷ os) (x ∷ xs) [] e h = absurd e
risen_met count a (o ∷ os) (x ∷ xs) (y ∷ ys) e (inl p) = inl (e.0.same.number ∙ p.0, subst (λ (m : Meter). count o.meter < count m) (sym e.0.journal.meter) p.1)
risen_met count a (o ∷ os) (x ∷ xs) (y ∷ ys) e (inr q) = inr (risen_met count a os xs ys e.1 q)

---- The fault that is answered

pub failure_first : (ks : List Kept) (x : RoundFault) → first_failure ks ≡ Some x → Err x ≡ answer (fault_of ks)
failure_first ks x e = sym (ap (λ (o : Option RoundFault). answer (or_else o (first_stop ks))) e)

pub stop_first : (ks : List Kept) (x : RoundFault) → first_failure ks ≡ None → first_stop ks ≡ Some x → Err x ≡ answer (fault_of ks)
stop_first ks x e f = sym (ap₂ (λ (o q : Option RoundFault). answer (or_else o q)) e f)

---- A round

met_events : (o s : Seat) → (met o s).events ≡ s.events
unfolding met
met_events o s = refl

meets_events : (s : Seat) (os : Net) → (meets_each s os).events ≡ s.events
unfolding meets_each
meets_events s [] = refl
meets_events s (o ∷ os) = meets_events (met o s) os ∙ met_events o s

events_met : (all net : Net) → events_of (map (meets_all all) net) ≡ events_of net
events_met all [] = refl
events_met all (s ∷ ss) = ap₂ ◌++◌ (meets_events s all) (events_met all ss)

-- meeting is no event
pub events_round : (homes : Homes) (net : Net) → events_of (round homes net) ≡ events_of (turned_all homes net)
unfolding round
events_round homes net = events_met (turned_all homes net) (turned_all homes net)

pub met_round : (homes : Homes) (net : Net) → met_all (turned_all homes net) ≡ round homes net
unfolding round
met_round homes net = refl

-- what was lent as a slice is there again
pub whole_again : (new old : List Kept) (n : ℕ) → length new ≡ length old → length old ≡ n → take n (new ++ drop (length new) old) ≡ new
whole_again new old n e f = ap (λ ks. take n (new ++ ks)) (drop_all (length new) old (omega (arith, e))) ∙ (ap (take n) (append-nil new) ∙ take_all n new (omega (arith, e, f)))

pub same_err : {e d : RoundFault} (r : Result (Unit {0}) RoundFault) → r ≡ Err e → r ≡ Err d → Some e ≡ Some d
same_err r f h = cc

---- The first of a list

first_failure_at : (ks : List Kept) (i : ℕ) (d : Kept) → i < length ks → first_failure (drop i ks) ≡ or_else (failure_at (get_or ks i d).seat.number (get_or ks i d).fault) (first_failure (drop (i + 1) ks))
first_failure_at ks i d h = ap first_failure (drop-cons ks i d h) ∙ (failure_cons (get_or ks i d) (drop (suc i) ks) ∙ ap (λ n. or_else (failure_at (get_or ks i d).seat.number (get_or ks i d).fault) (first_failure (drop n ks))) (sym (add-one i)))

first_stop_at : (ks : List Kept) (i : ℕ) (d : Kept) → i < length ks → first_stop (drop i ks) ≡ or_else (stop_at (get_or ks i d).seat.number (get_or ks i d).fault) (first_stop (drop (i + 1) ks))
first_stop_at ks i d h = ap first_stop (drop-cons ks i d h) ∙ (stop_cons (get_or ks i d) (drop (suc i) ks) ∙ ap (λ n. or_else (stop_at (get_or ks i d).seat.number (get_or ks i d).fault) (first_stop (drop n ks))) (sym (add-one i)))

or_some : (a b : Option RoundFault) → is_some a ≡ true → or_else a b ≡ a
or_some None b e = absurd (cc)
or_some (Some x) b e = refl

or_none : (a b : Option RoundFault) → is_some a ≡ false → or_else a b ≡ b
or_none None b e = refl
or_none (Some x) b e = absurd (cc)

-- where this one's is a failure, it is the first
pub failure_here : (ks : List Kept) (i : ℕ) (d : Kept) (f : Option RoundFault) → i < length ks → f ≡ failure_at (get_or ks i d).seat.number (get_or ks i d).fault → is_some f ≡ true → f ≡ first_failure (drop i ks)
failure_here ks i d f h e s = sym (first_failure_at ks i d h ∙ (ap (λ o. or_else o (first_failure (drop (i + 1) ks))) (sym e) ∙ or_some f (first_failure (drop (i + 1) ks)) s))

pub failure_later : (ks : List Kept) (i : ℕ) (d : Kept) (f : Option RoundFault) → i < length ks → f ≡ failure_at (get_or ks i d).seat.number (get_or ks i d).fault → is_some f ≡ false → first_failure (drop (i + 1) ks) ≡ first_failure (drop i ks)
failure_later ks i d f h e s = sym (first_failure_at ks i d h ∙ (ap (λ o. or_else o (first_failure (drop (i + 1) ks))) (sym e) ∙ or_none f (first_failure (drop (i + 1) ks)) s))

pub failure_nowhere : (ks : List Kept) (i : ℕ) → length ks ≤ i → first_failure (drop i ks) ≡ None
unfolding first_failure
failure_nowhere ks i h = ap first_failure (drop_all i ks h)

pub stop_here : (ks : List Kept) (i : ℕ) (d : Kept) (f : Option RoundFault) → i < length ks → f ≡ stop_at (get_or ks i d).seat.number (get_or ks i d).fault → is_some f ≡ true → f ≡ first_stop (drop i ks)
stop_here ks i d f h e s = sym (first_stop_at ks i d h ∙ (ap (λ o. or_else o (first_stop (drop (i + 1) ks))) (sym e) ∙ or_some f (first_stop (drop (i + 1) ks)) s))

pub stop_later : (ks : List Kept) (i : ℕ) (d : Kept) (f : Option RoundFault) → i < length ks → f ≡ stop_at (get_or ks i d).seat.number (get_or ks i d).fault → is_some f ≡ false → first_stop (drop (i + 1) ks) ≡ first_stop (drop i ks)
stop_later ks i d f h e s = sym (first_stop_at ks i d h ∙ (ap (λ o. or_else o (first_stop (drop (i + 1) ks))) (sym e) ∙ or_none f (first_stop (drop (i + 1) ks)) s))

pub stop_nowhere : (ks : List Kept) (i : ℕ) → length ks ≤ i → first_stop (drop i ks) ≡ None
unfolding first_stop
stop_nowhere ks i h = ap first_stop (drop_all i ks h)
