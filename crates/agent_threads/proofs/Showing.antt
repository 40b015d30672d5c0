-- How many disks have stopped in a round, what is told of it, and what it makes of agents whose journals tell nothing.
use Rattle.std.proofs.Common.{ℕ, ◌≡◌, ◌≤◌, ◌<◌, ◌+◌, ◌⊎◌, inl, inr, if◌then◌else◌, Bool, true, false, List, [], ◌∷◌, ◌++◌, Option, Some, None, Err, refl, sym, ap, ap₂, ◌∙◌, subst, arith, map, length}
use Rattle.std.specs.Prelude.{is_some, Result, OnOk, IfOk, IfErr}
use Rattle.nsi_primitive.specs.declared.entry.Event.{Event}
use Rattle.nsi_disk.specs.Disk.{Meter}
use Rattle.stp_topology.specs.declared.network.Network.{Network}
use Rattle.least_routes.specs.Laws.{RoutesExist}
use Rattle.nsi_agent.specs.Homes.{Home, Routes, AreRoutes, home_in}
use Rattle.agent_node.specs.declared.fault.TurnFault.{TurnFault}
use Rattle.agent_node.specs.Seat.{Seat}
use Rattle.agent_node.specs.Turns.{turned, halted}
use Rattle.agent_node.specs.Restarts.{restart_event, restart_events}
use Rattle.agent_node.specs.Reopening.{IsReopened}
use Rattle.agent_node.specs.Kept.{Kept}
use Rattle.agent_node.specs.Made.{IsTurn}
use Rattle.nsi_play.specs.Rounds.{events_of, met_all}
use Rattle.stopped_play.specs.Tapes.{Cut, Cuts}
use Rattle.stopped_play.specs.Rounds.{turned_or, turned_by, round_by}
use Rattle.stopped_play.specs.Counts.{restarts_in}
use Rattle.agent_threads.specs.declared.fault.RoundFault.{RoundFault}
use Rattle.agent_threads.specs.declared.fault.RunFault.{RunFault}
use Rattle.agent_threads.specs.Nets.{seats, EachIs, AreOf}
use Rattle.agent_threads.specs.Made.{Stays, stop_at, first_failure, first_stop, fault_of, answer, behind_fault, HasRisen, faults_in, HasMetCause}
use Rattle.agent_threads.specs.Stopping.{is_stopped, one_stop, MayGoOn, MayAllGoOn, AgreesWith, RestartsStopped, IsStop, stopped_in, stops_among}
use Rattle.agent_threads.proofs.Same.{at_home}
use Rattle.agent_threads.proofs.Stopping.{none_of, some_turn, agrees_met, by_cuts}
use Rattle.agent_threads.proofs.Causes.{failed}
use Rattle.agent_threads.proofs.Turning.{one_of, failure_is_no_stop}
use Rattle.agent_threads.proofs.Going.{both_none}
use Rattle.agent_threads.proofs.Restarting.{read_events}

---- Counts

one_counts : (f : Option TurnFault) (a b : ℕ) → a ≤ b → (f ≡ Some TurnFault.Stopped → a < b) → a + (if is_stopped f then 1 else 0) ≤ b
one_counts None a b le more = omega (arith, le)
one_counts (Some TurnFault.Long) a b le more = omega (arith, le)
one_counts (Some TurnFault.DiskFault) a b le more = omega (arith, le)
one_counts (Some TurnFault.Stopped) a b le more = let m = more refl in omega (arith, m)
one_counts (Some TurnFault.NoMemory) a b le more = omega (arith, le)

-- where a disk stops in a turn its count rises
pub turns_count : (room : ℕ) (os ns : List Kept) → EachIs (IsTurn room) os ns → stops_among os + stopped_in ns ≤ stops_among ns
turns_count room [] [] e = omega arith
turns_count room [] (n ∷ ns) e = absurd e
turns_count room (o ∷ os) [] e = absurd e
turns_count room (o ∷ os) (n ∷ ns) e =
    let one = one_counts n.fault o.meter.stops n.meter.stops e.0.cause.stops e.0.cause.stopped in
    let rest = turns_count room os ns e.1 in
    omega (arith, one, rest)

stays_stopped : (xs ys : List Kept) → EachIs Stays xs ys → stopped_in ys ≡ stopped_in xs
stays_stopped [] [] e = refl
stays_stopped [] (y ∷ ys) e = absurd e
stays_stopped (x ∷ xs) [] e = absurd e
stays_stopped (x ∷ xs) (y ∷ ys) e = ap₂ ◌+◌ (ap (λ (f : Option TurnFault). if is_stopped f then 1 else 0) e.0.fault) (stays_stopped xs ys e.1)

stays_stops : (xs ys : List Kept) → EachIs Stays xs ys → stops_among ys ≡ stops_among xs
stays_stops [] [] e = refl
stays_stops [] (y ∷ ys) e = absurd e
stays_stops (x ∷ xs) [] e = absurd e
stays_stops (x ∷ xs) (y ∷ ys) e = ap₂ ◌+◌ (ap (λ (m : Meter). m.stops) e.0.journal.meter) (stays_stops xs ys e.1)

-- meetings change no count
pub meets_count : (os ms ns : List Kept) → stops_among os + stopped_in ms ≤ stops_among ms → EachIs Stays ms ns → stops_among os + stopped_in ns ≤ stops_among ns
meets_count os ms ns p e = let a = stays_stopped ms ns e in let b = stays_stops ms ns e in omega (arith, p, a, b)

---- That one has stopped

answer_stop : (o : Option RoundFault) (a : ℕ) → answer o ≡ Err (RoundFault.Stopped a) → o ≡ Some (RoundFault.Stopped a)
answer_stop None a e = absurd (cc)
answer_stop (Some x) a e = cc

failure_is_none : (ks : List Kept) (a : ℕ) → first_failure ks ≡ Some (RoundFault.Stopped a) → ⊥
failure_is_none ks a e = failure_is_no_stop ks (RoundFault.Stopped a) e tt

stop_counts : (n : ℕ) (f : Option TurnFault) (a : ℕ) → stop_at n f ≡ Some (RoundFault.Stopped a) → 0 < (if is_stopped f then 1 else 0)
stop_counts n None a e = absurd (cc)
stop_counts n (Some TurnFault.Long) a e = absurd (cc)
stop_counts n (Some TurnFault.DiskFault) a e = absurd (cc)
stop_counts n (Some TurnFault.Stopped) a e = omega arith
stop_counts n (Some TurnFault.NoMemory) a e = absurd (cc)

first_stop_counts : (ks : List Kept) (a : ℕ) → first_stop ks ≡ Some (RoundFault.Stopped a) → 0 < stopped_in ks
unfolding first_stop
first_stop_counts [] a e = absurd (cc)
first_stop_counts (k ∷ ks) a e = by_place (first_stop_counts ks a) (one_of (stop_at k.seat.number k.fault) (first_stop ks) (RoundFault.Stopped a) e)
  where
    by_place : (first_stop ks ≡ Some (RoundFault.Stopped a) → 0 < stopped_in ks) → (stop_at k.seat.number k.fault ≡ Some (RoundFault.Stopped a)) ⊎ (first_stop ks ≡ Some (RoundFault.Stopped a)) → 0 < stopped_in (k ∷ ks)
    by_place more (inl p) = let one = stop_counts k.seat.number k.fault a p in omega (arith, one)
    by_place more (inr q) = let rest = more q in omega (arith, rest)

-- where a round ends as a stop, some disk has stopped
pub some_stopped : (ks : List Kept) (a : ℕ) → answer (fault_of ks) ≡ Err (RoundFault.Stopped a) → 0 < stopped_in ks
some_stopped ks a e = by_place (one_of (first_failure ks) (first_stop ks) (RoundFault.Stopped a) (answer_stop (fault_of ks) a e))
  where
    by_place : (first_failure ks ≡ Some (RoundFault.Stopped a)) ⊎ (first_stop ks ≡ Some (RoundFault.Stopped a)) → 0 < stopped_in ks
    by_place (inl p) = absurd (failure_is_none ks a p)
    by_place (inr q) = first_stop_counts ks a q

some_stop : (ks : List Kept) (f : RoundFault) → IsStop f → Err f ≡ answer (fault_of ks) → 0 < stopped_in ks
some_stop ks RoundFault.Long s e = absurd s
some_stop ks (RoundFault.DiskFault a) s e = absurd s
some_stop ks (RoundFault.Stopped a) s e = some_stopped ks a (sym e)
some_stop ks RoundFault.NoMemory s e = absurd s

---- Behind a round

-- what is so of a stop is so where the run goes on
stop_on : {P : Type 0} (f : RoundFault) → (IsStop f → P) → OnOk (behind_fault f) P
stop_on RoundFault.Long p = tt
stop_on (RoundFault.DiskFault a) p = tt
stop_on (RoundFault.Stopped a) p = p tt
stop_on RoundFault.NoMemory p = tt

pub on_stop : {P : Type 0} (f : RoundFault) (r : Result Bool RunFault) → r ≡ behind_fault f → (IsStop f → P) → OnOk r P
on_stop {P} f r e p = subst (λ (z : Result Bool RunFault). OnOk z P) (sym e) (stop_on f p)

stop_if : (P : Bool → Type 0) (f : RoundFault) → (IsStop f → P true) → IfOk (behind_fault f) P
stop_if P RoundFault.Long p = tt
stop_if P (RoundFault.DiskFault a) p = tt
stop_if P (RoundFault.Stopped a) p = p tt
stop_if P RoundFault.NoMemory p = tt

if_stop : (P : Bool → Type 0) (f : RoundFault) (r : Result Bool RunFault) → r ≡ behind_fault f → (IsStop f → P true) → IfOk r P
if_stop P f r e p = subst (λ (z : Result Bool RunFault). IfOk z P) (sym e) (stop_if P f p)

-- so it is no round that was calm
pub stop_not_calm : (P : Type 0) (f : RoundFault) (r : Result Bool RunFault) → r ≡ behind_fault f → IfOk r (λ (stopped : Bool). stopped ≡ false → P)
stop_not_calm P f r e = if_stop (λ (stopped : Bool). stopped ≡ false → P) f r e (λ s q. absurd (true_false q))
  where
    true_false : true ≡ false → ⊥
    true_false q = absurd (cc)

pub stop_then : (P : Type 0) (f : RoundFault) (r : Result Bool RunFault) → r ≡ behind_fault f → (IsStop f → P) → IfOk r (λ (stopped : Bool). stopped ≡ true → P)
stop_then P f r e p = if_stop (λ (stopped : Bool). stopped ≡ true → P) f r e (λ s q. p s)

pub stop_shown : (ks : List Kept) (f : RoundFault) (r : Result Bool RunFault) → r ≡ behind_fault f → Err f ≡ answer (fault_of ks) → IfOk r (λ (stopped : Bool). stopped ≡ true → 0 < stopped_in ks)
stop_shown ks f r e first = if_stop (λ (stopped : Bool). stopped ≡ true → 0 < stopped_in ks) f r e (λ s q. some_stop ks f s first)

long_behind : (f : RoundFault) → behind_fault f ≡ Err RunFault.Long → f ≡ RoundFault.Long
long_behind RoundFault.Long e = refl
long_behind (RoundFault.DiskFault a) e = absurd (cc)
long_behind (RoundFault.Stopped a) e = absurd (cc)
long_behind RoundFault.NoMemory e = absurd (cc)

pub was_long : (f : RoundFault) (r : Result Bool RunFault) → r ≡ behind_fault f → r ≡ Err RunFault.Long → f ≡ RoundFault.Long
was_long f r e h = long_behind f (sym e ∙ h)

cause_behind : (f : RoundFault) (os ns : List Kept) → ((a : ℕ) → f ≡ RoundFault.DiskFault a → HasRisen faults_in a os ns) → IfErr (behind_fault f) (HasMetCause ns)
cause_behind RoundFault.Long os ns risen = tt
cause_behind (RoundFault.DiskFault a) os ns risen = failed a os ns (risen a refl)
cause_behind (RoundFault.Stopped a) os ns risen = tt
cause_behind RoundFault.NoMemory os ns risen = tt

pub met_cause : (f : RoundFault) (r : Result Bool RunFault) (os ns : List Kept) → r ≡ behind_fault f → ((a : ℕ) → f ≡ RoundFault.DiskFault a → HasRisen faults_in a os ns) → IfErr r (HasMetCause ns)
met_cause f r os ns e risen = subst (λ (z : Result Bool RunFault). IfErr z (HasMetCause ns)) (sym e) (cause_behind f os ns risen)

---- Where journals tell nothing

whole_plain : (h : Home) (cut : Option Cut) (x y : Kept) → y.fault ≡ None → y.seat ≡ turned h x.seat → is_some cut ≡ is_stopped y.fault → y.seat ≡ turned_or cut h x.seat
whole_plain h cut x y f is g = is ∙ sym (ap (λ (o : Option Cut). turned_or o h x.seat) (none_of cut (g ∙ ap is_stopped f)))

cut_plain : (h : Home) (cut : Option Cut) (x y : Kept) → y.fault ≡ Some TurnFault.Stopped → y.seat ≡ halted h x.seat → is_some cut ≡ is_stopped y.fault → y.seat ≡ turned_or cut h x.seat
cut_plain h cut x y f is g = is ∙ sym (some_turn cut h x.seat (g ∙ ap is_stopped f))

turns_plain : (room : ℕ) (os ns : List Kept) → EachIs (IsTurn room) os ns → MayAllGoOn ns → (t : Network) → AreOf t os → (routes : Routes) → AreRoutes t routes → (cuts : Cuts) → AgreesWith cuts ns
    → seats ns ≡ map (turned_by cuts (home_in t routes)) (seats os)
turns_plain room [] [] e u t o routes r cuts g = refl
turns_plain room [] (n ∷ ns) e u t o routes r cuts g = absurd e
turns_plain room (k ∷ ks) [] e u t o routes r cuts g = absurd e
turns_plain room (k ∷ ks) (n ∷ ns) e u t o routes r cuts g = ap₂ ◌∷◌ (by_fault u.0) (turns_plain room ks ns e.1 u.1 t o.1 routes r cuts g.1)
  where
    h : Home
    h = home_in t routes k.seat.number

    agrees : is_some (cuts k.seat.number) ≡ is_stopped n.fault
    agrees = ap (λ (m : ℕ). is_some (cuts m)) (sym e.0.same.number) ∙ g.0

    by_fault : MayGoOn n → n.seat ≡ turned_or (cuts k.seat.number) h k.seat
    by_fault (inl f) = whole_plain h (cuts k.seat.number) k n f (at_home t k (λ z. n.fault ≡ None → n.seat ≡ turned z k.seat) o.0 e.0.ok routes r f) agrees
    by_fault (inr f) = cut_plain h (cuts k.seat.number) k n f (at_home t k (λ z. n.fault ≡ Some TurnFault.Stopped → n.seat ≡ halted z k.seat) o.0 e.0.halted routes r f) agrees

-- a round in which these have stopped, whether their journals tell it or not
pub round_plain : (room : ℕ) (os ms ns : List Kept) → EachIs (IsTurn room) os ms → MayAllGoOn ms → EachIs Stays ms ns → seats ns ≡ met_all (seats ms) → (t : Network) → AreOf t os → (routes : Routes) → AreRoutes t routes
    → (cuts : Cuts) → AgreesWith cuts ns → seats ns ≡ round_by cuts (home_in t routes) (seats os)
round_plain room os ms ns e u s f t o routes r cuts g =
    f ∙ (ap met_all (turns_plain room os ms e u t o routes r cuts (agrees_met cuts ms ns s g)) ∙ by_cuts cuts (home_in t routes) (seats os))

---- What is told of restarts

pub restarts_append : (es fs : List Event) → restarts_in (es ++ fs) ≡ restarts_in es + restarts_in fs
restarts_append [] fs = omega arith
restarts_append (e ∷ es) fs = let rest = restarts_append es fs in omega (arith, rest)

one_shows : RoutesExist → (x y : Kept) → RestartsStopped x y → MayGoOn x → x.seat.events ≡ [] → (if is_stopped x.fault then 1 else 0) ≤ restarts_in y.seat.events
one_shows exist x y p (inl f) none = omega (arith, ap one_stop f)
one_shows exist x y p (inr f) none =
    let q : IsReopened x y = (p.here f).reopened in
    let r = exist x.network in
    let h : Home = home_in x.network r.0 x.seat.number in
    let again : List Event = restart_events q.tries x.seat.number (length q.entries) in
    let more : List Event = restart_event x.seat.number (length q.entries) ∷ again in
    let events : y.seat.events ≡ x.seat.events ++ more = ap (λ (s : Seat). s.events) (q.seat r.0 r.1) ∙ read_events h q.tries q.entries x.seat in
    omega (arith, ap restarts_in (events ∙ ap (λ (es : List Event). es ++ more) none), ap one_stop f)

each_shows : RoutesExist → (xs ys : List Kept) → EachIs RestartsStopped xs ys → MayAllGoOn xs → events_of (seats xs) ≡ [] → stopped_in xs ≤ restarts_in (events_of (seats ys))
each_shows exist [] [] p u none = omega arith
each_shows exist [] (y ∷ ys) p u none = absurd p
each_shows exist (x ∷ xs) [] p u none = absurd p
each_shows exist (x ∷ xs) (y ∷ ys) p u none =
    let q = both_none x.seat.events (events_of (seats xs)) none in
    let one = one_shows exist x y p.0 u.0 q.0 in
    let rest = each_shows exist xs ys p.1 u.1 q.1 in
    omega (arith, restarts_append y.seat.events (events_of (seats ys)), one, rest)

-- each whose disk had stopped tells a restart
pub reopened_shows : RoutesExist → (xs ys : List Kept) (before events : List Event) → EachIs RestartsStopped xs ys → MayAllGoOn xs → events_of (seats xs) ≡ [] → events ≡ before ++ events_of (seats ys)
    → restarts_in before + stopped_in xs ≤ restarts_in events
reopened_shows exist xs ys before events p u none e = omega (arith, ap restarts_in e, restarts_append before (events_of (seats ys)), each_shows exist xs ys p u none)
