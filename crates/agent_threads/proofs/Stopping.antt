-- A round in which disks stop.
use Rattle.std.proofs.Common.{ℕ, ◌≡◌, ◌≤◌, ◌+◌, ◌⊎◌, inl, inr, Bool, true, false, List, [], ◌∷◌, ◌++◌, Option, Some, None, refl, sym, ap, ap₂, ◌∙◌, subst, arith, map, append-nil}
use Rattle.std.specs.Prelude.{is_some}
use Rattle.nsi_primitive.specs.declared.entry.Entry.{Entry}
use Rattle.journal_entry.specs.Journal.{Kept as Journaled, Adds}
use Rattle.stp_topology.specs.declared.network.Network.{Network}
use Rattle.nsi_agent.specs.Homes.{Home, Routes, AreRoutes, home_in}
use Rattle.nsi_agent.specs.Told.{told}
use Rattle.agent_node.specs.declared.fault.TurnFault.{TurnFault}
use Rattle.agent_node.specs.Seat.{Seat}
use Rattle.agent_node.specs.Turns.{lying, cleared, turned, halted, adds}
use Rattle.agent_node.specs.Restarts.{reads, reads_past}
use Rattle.agent_node.specs.Reopening.{IsReopened, AreEither, KeepsRead}
use Rattle.agent_node.specs.Meetings.{met}
use Rattle.agent_node.specs.Kept.{Kept, first_kept}
use Rattle.agent_node.specs.Made.{IsTurn, keeps}
use Rattle.agent_node.proofs.Pasts.{with_past, past_entered, past_met, past_of_other}
use Rattle.nsi_play.specs.Rounds.{Net, Homes, turned_all, meets_each, meets_all, met_all, round}
use Rattle.stopped_play.specs.Tapes.{Cut, Cuts}
use Rattle.stopped_play.specs.Rounds.{turned_or, turned_by, round_by, reopened, reopens}
use Rattle.stopped_play.specs.Counts.{stops_of, stops_among as cut_stops, cuts_of}
use Rattle.stopped_play.proofs.Counting.{cut_here, cut_else}
use Rattle.agent_threads.specs.Nets.{seats, seats_by, numbers, seen, synced_in, EachIs, AreOf, IsOwned, AreOwned, IsAbsent, AreApart, AreSame, AreUsable, AreNet}
use Rattle.agent_threads.specs.Made.{Stays, failure_at, first_failure}
use Rattle.agent_threads.specs.Bounds.{Moves, MovesOn}
use Rattle.agent_threads.specs.Stopping.{is_stopped, one_stop, stopped_in, stops_among, MayGoOn, MayAllGoOn, AreHalted, AgreesWith, kept_before, kept_in, seen_before, seats_before, WasOwned, WereOwned, RestartsStopped}
use Rattle.agent_threads.proofs.Same.{at_home, KeepsLinks}
use Rattle.agent_threads.proofs.Turning.{none_both, met_round}
use Rattle.agent_threads.proofs.Seen.{turn_seen}
use Rattle.agent_threads.proofs.Moving.{turned_moves, halted_moves}
use Rattle.agent_threads.proofs.Owning.{Owns, halted_owns, meets_own, more_owned, turned_owns, heads, read_state, read_fresh}

---- Who has stopped

pub none_of : (o : Option Cut) → is_some o ≡ false → o ≡ None
none_of None e = refl
none_of (Some c) e = absurd (cc)

pub usable_not_stopped : (f : Option TurnFault) → f ≡ None → f ≡ Some TurnFault.Stopped → ⊥
usable_not_stopped f e q = let z : None ≡ Some TurnFault.Stopped = sym e ∙ q in absurd (cc)

no_failure : (a : ℕ) (f : Option TurnFault) → failure_at a f ≡ None → (f ≡ None) ⊎ (f ≡ Some TurnFault.Stopped)
no_failure a None p = inl refl
no_failure a (Some TurnFault.Long) p = absurd (cc)
no_failure a (Some TurnFault.DiskFault) p = absurd (cc)
no_failure a (Some TurnFault.Stopped) p = inr refl
no_failure a (Some TurnFault.NoMemory) p = absurd (cc)

-- where no turn has failed otherwise, some may have stopped
pub may_go : (ks : List Kept) → first_failure ks ≡ None → MayAllGoOn ks
unfolding first_failure
may_go [] p = tt
may_go (k ∷ ks) p =
    let q = none_both (failure_at k.seat.number k.fault) (first_failure ks) p in
    (no_failure k.seat.number k.fault q.0, may_go ks q.1)

---- Turns

past_halted : (p : Option (List Entry)) (h : Home) (s : Seat) → halted h (with_past p s) ≡ with_past p (halted h s)
past_halted p h s = past_entered p h (lying s.doors) (cleared s)

pub some_turn : (o : Option Cut) (h : Home) (s : Seat) → is_some o ≡ true → turned_or o h s ≡ halted h s
some_turn None h s e = absurd (cc)
some_turn (Some c) h s e = refl

-- a turn that was made, and one that ended where the disk stopped
whole_seen : (h : Home) (cut : Option Cut) (x y : Kept) (j : Journaled) → x.kept ≡ Some j → y.fault ≡ None → y.seat ≡ turned h x.seat → Adds (keeps h x.seat) x.kept y.kept → is_some cut ≡ is_stopped y.fault
    → seen_before y ≡ turned_or cut h (seen true x)
whole_seen h cut x y j e f is a g =
    ap (λ (z : Option TurnFault). with_past (synced_in (kept_before z y.seat.synced y.kept)) y.seat) f
    ∙ (turn_seen h x y j e is a ∙ sym (ap (λ (o : Option Cut). turned_or o h (seen true x)) (none_of cut (g ∙ ap is_stopped f))))

cut_seen : (h : Home) (cut : Option Cut) (x y : Kept) → y.fault ≡ Some TurnFault.Stopped → y.seat ≡ halted h x.seat → first_kept y.seat.synced y.kept ≡ x.kept → is_some cut ≡ is_stopped y.fault
    → seen_before y ≡ turned_or cut h (seen true x)
cut_seen h cut x y f is front g =
    ap (λ (z : Option TurnFault). with_past (synced_in (kept_before z y.seat.synced y.kept)) y.seat) f
    ∙ (ap₂ (λ (o : Option Journaled) (s : Seat). with_past (synced_in o) s) front is
    ∙ (sym (past_halted (synced_in x.kept) h x.seat) ∙ sym (some_turn cut h (seen true x) (g ∙ ap is_stopped f))))

pub halts_seen : (room : ℕ) (os ns : List Kept) → EachIs (IsTurn room) os ns → MayAllGoOn ns → (t : Network) → AreOf t os → (routes : Routes) → AreRoutes t routes → AreOwned (home_in t routes) os
    → (cuts : Cuts) → AgreesWith cuts ns → seats_before ns ≡ map (turned_by cuts (home_in t routes)) (seats_by true os)
halts_seen room [] [] e u t o routes r w cuts g = refl
halts_seen room [] (n ∷ ns) e u t o routes r w cuts g = absurd e
halts_seen room (k ∷ ks) [] e u t o routes r w cuts g = absurd e
halts_seen room (k ∷ ks) (n ∷ ns) e u t o routes r w cuts g = ap₂ ◌∷◌ (by_fault u.0) (halts_seen room ks ns e.1 u.1 t o.1 routes r w.1 cuts g.1)
  where
    h : Home
    h = home_in t routes k.seat.number

    agrees : is_some (cuts k.seat.number) ≡ is_stopped n.fault
    agrees = subst (λ (m : ℕ). is_some (cuts m) ≡ is_stopped n.fault) e.0.same.number g.0

    by_fault : MayGoOn n → seen_before n ≡ turned_or (cuts k.seat.number) h (seen true k)
    by_fault (inl f) =
        whole_seen h (cuts k.seat.number) k n w.0.0 w.0.1 f
        (at_home t k (λ z. n.fault ≡ None → n.seat ≡ turned z k.seat) o.0 e.0.ok routes r f)
        (at_home t k (λ z. n.fault ≡ None → Adds (keeps z k.seat) k.kept n.kept) o.0 e.0.kept routes r f) agrees
    by_fault (inr f) = cut_seen h (cuts k.seat.number) k n f (at_home t k (λ z. n.fault ≡ Some TurnFault.Stopped → n.seat ≡ halted z k.seat) o.0 e.0.halted routes r f) (e.0.front f) agrees

-- each has the links that it had
pub halts_links : (room : ℕ) (os ns : List Kept) → EachIs (IsTurn room) os ns → MayAllGoOn ns → EachIs KeepsLinks os ns
halts_links room [] [] e u = tt
halts_links room [] (n ∷ ns) e u = absurd e
halts_links room (o ∷ os) [] e u = absurd e
halts_links room (o ∷ os) (n ∷ ns) e u = (by_fault u.0, halts_links room os ns e.1 u.1)
  where
    by_fault : MayGoOn n → KeepsLinks o n
    by_fault (inl f) =
        let still = e.0.cause.calm f in
        record {
          same = record { network = e.0.same.network; number = e.0.same.number; others = e.0.same.others; faults = e.0.cause.quiet f; stops = omega (arith, still); planned = e.0.cause.planned };
          plugs = e.0.plugs;
        }
    by_fault (inr f) =
        let more = e.0.cause.stopped f in
        record {
          same = record { network = e.0.same.network; number = e.0.same.number; others = e.0.same.others; faults = e.0.cause.spares f; stops = omega (arith, more); planned = e.0.cause.planned };
          plugs = e.0.plugs;
        }

---- What their journals tell

pub owned_before : (homes : Homes) (k : Kept) → k.fault ≡ None → IsOwned homes k → WasOwned homes k
owned_before homes k f (j, e, s) = (j, ap (λ (z : Option TurnFault). kept_before z k.seat.synced k.kept) f ∙ e, s)

-- one whose disk stopped tells what it told
cut_owned : (homes : Homes) (x y : Kept) → y.seat.number ≡ x.seat.number → y.fault ≡ Some TurnFault.Stopped → first_kept y.seat.synced y.kept ≡ x.kept → y.seat ≡ halted (homes x.seat.number) x.seat → IsOwned homes x → WasOwned homes y
cut_owned homes x y n f front is (j, e, s) =
    let h : Home = homes x.seat.number in
    let own : Owns h [] x.seat y.seat = subst (λ (u : Seat). Owns h [] x.seat u) (sym is) (halted_owns h x.seat) in (
      j,
      ap (λ (z : Option TurnFault). kept_before z y.seat.synced y.kept) f ∙ (front ∙ e),
      ap (λ (m : ℕ). (told (homes m) (j.synced ++ y.seat.fresh)).state) n
          ∙ (ap (λ (xs : List Entry). (told h (xs ++ y.seat.fresh)).state) (sym (append-nil j.synced)) ∙ own.state j.synced s),
    )

pub halts_owned : (room : ℕ) (xs ys : List Kept) → EachIs (IsTurn room) xs ys → MayAllGoOn ys → (t : Network) → AreOf t xs → (routes : Routes) → AreRoutes t routes → AreOwned (home_in t routes) xs → WereOwned (home_in t routes) ys
halts_owned room [] [] e u t o routes r w = tt
halts_owned room [] (y ∷ ys) e u t o routes r w = absurd e
halts_owned room (x ∷ xs) [] e u t o routes r w = absurd e
halts_owned room (x ∷ xs) (y ∷ ys) e u t o routes r w = (by_fault u.0, halts_owned room xs ys e.1 u.1 t o.1 routes r w.1)
  where
    h : Home
    h = home_in t routes x.seat.number

    by_fault : MayGoOn y → WasOwned (home_in t routes) y
    by_fault (inl f) =
        let is : y.seat ≡ turned h x.seat = at_home t x (λ z. y.fault ≡ None → y.seat ≡ turned z x.seat) o.0 e.0.ok routes r f in
        let own : Adds (keeps h x.seat) x.kept y.kept = at_home t x (λ z. y.fault ≡ None → Adds (keeps z x.seat) x.kept y.kept) o.0 e.0.kept routes r f in
        owned_before (home_in t routes) y f (more_owned (home_in t routes) (keeps h x.seat) x y e.0.same.number own (subst (λ (v : Seat). Owns h (keeps h x.seat) x.seat v) (sym is) (turned_owns h x.seat)) w.0)
    by_fault (inr f) =
        cut_owned (home_in t routes) x y e.0.same.number f (e.0.front f) (at_home t x (λ z. y.fault ≡ Some TurnFault.Stopped → y.seat ≡ halted z x.seat) o.0 e.0.halted routes r f) w.0

pub halts_move : (room : ℕ) (xs ys : List Kept) → EachIs (IsTurn room) xs ys → MayAllGoOn ys → (t : Network) → AreOf t xs → (routes : Routes) → AreRoutes t routes → EachIs (MovesOn 0) xs ys
halts_move room [] [] e u t o routes r = tt
halts_move room [] (y ∷ ys) e u t o routes r = absurd e
halts_move room (x ∷ xs) [] e u t o routes r = absurd e
halts_move room (x ∷ xs) (y ∷ ys) e u t o routes r = (by_fault u.0, halts_move room xs ys e.1 u.1 t o.1 routes r)
  where
    h : Home
    h = home_in t routes x.seat.number

    by_fault : MayGoOn y → MovesOn 0 x y
    by_fault (inl f) = subst (λ (v : Seat). Moves 0 x.seat v) (sym (at_home t x (λ z. y.fault ≡ None → y.seat ≡ turned z x.seat) o.0 e.0.ok routes r f)) (turned_moves 0 h x.seat)
    by_fault (inr f) = subst (λ (v : Seat). Moves 0 x.seat v) (sym (at_home t x (λ z. y.fault ≡ Some TurnFault.Stopped → y.seat ≡ halted z x.seat) o.0 e.0.halted routes r f)) (halted_moves 0 h x.seat)

---- Meetings

met_synced : (o s : Seat) → (met o s).synced ≡ s.synced
unfolding met
met_synced o s = refl

meets_synced : (s : Seat) (os : Net) → (meets_each s os).synced ≡ s.synced
unfolding meets_each
meets_synced s [] = refl
meets_synced s (o ∷ os) = meets_synced (met o s) os ∙ met_synced o s

kept_still : (x y : Kept) → Stays x y → y.seat.synced ≡ x.seat.synced → kept_in y ≡ kept_in x
kept_still x y s e =
    ap (λ (z : Option TurnFault). kept_before z y.seat.synced y.kept) s.fault
    ∙ (ap (λ (n : ℕ). kept_before x.fault n y.kept) e ∙ ap (λ (k : Option Journaled). kept_before x.fault x.seat.synced k) s.journal.kept)

one_before : (p : Option (List Entry)) (o : Kept) (s : Seat) → met (seen_before o) (with_past p s) ≡ with_past p (met o.seat s)
one_before p o s = past_of_other (synced_in (kept_in o)) o.seat (with_past p s) ∙ past_met p o.seat s

each_before : (p : Option (List Entry)) (os : List Kept) (s : Seat) → meets_each (with_past p s) (seats_before os) ≡ with_past p (meets_each s (seats os))
unfolding meets_each
each_before p [] s = refl
each_before p (o ∷ os) s = ap (λ (z : Seat). meets_each z (seats_before os)) (one_before p o s) ∙ each_before p os (met o.seat s)

meets_before : (all xs ys : List Kept) → EachIs Stays xs ys → seats ys ≡ map (meets_all (seats all)) (seats xs) → seats_before ys ≡ map (meets_all (seats_before all)) (seats_before xs)
meets_before all [] [] e f = refl
meets_before all [] (y ∷ ys) e f = absurd e
meets_before all (x ∷ xs) [] e f = absurd e
meets_before all (x ∷ xs) (y ∷ ys) e f =
    let q = heads y.seat (meets_all (seats all) x.seat) (seats ys) (map (meets_all (seats all)) (seats xs)) f in
    let kept : kept_in y ≡ kept_in x = kept_still x y e.0 (ap (λ (s : Seat). s.synced) q.0 ∙ meets_synced x.seat (seats all)) in
    ap₂ ◌∷◌
    (ap₂ (λ (o : Option Journaled) (s : Seat). with_past (synced_in o) s) kept q.0 ∙ sym (each_before (synced_in (kept_in x)) all x.seat))
    (meets_before all xs ys e.1 q.1)

kept_were : (homes : Homes) (x y : Kept) → y.seat.number ≡ x.seat.number → kept_in y ≡ kept_in x → Owns (homes x.seat.number) [] x.seat y.seat → WasOwned homes x → WasOwned homes y
kept_were homes x y n kept p (j, e, s) = (
  j,
  kept ∙ e,
  ap (λ (m : ℕ). (told (homes m) (j.synced ++ y.seat.fresh)).state) n
      ∙ (ap (λ (xs : List Entry). (told (homes x.seat.number) (xs ++ y.seat.fresh)).state) (sym (append-nil j.synced)) ∙ p.state j.synced s),
)

meets_were : (homes : Homes) (all : Net) (xs ys : List Kept) → EachIs Stays xs ys → seats ys ≡ map (meets_all all) (seats xs) → WereOwned homes xs → WereOwned homes ys
meets_were homes all [] [] e f w = tt
meets_were homes all [] (y ∷ ys) e f w = absurd e
meets_were homes all (x ∷ xs) [] e f w = absurd e
meets_were homes all (x ∷ xs) (y ∷ ys) e f w =
    let h : Home = homes x.seat.number in
    let q = heads y.seat (meets_all all x.seat) (seats ys) (map (meets_all all) (seats xs)) f in
    let kept : kept_in y ≡ kept_in x = kept_still x y e.0 (ap (λ (s : Seat). s.synced) q.0 ∙ meets_synced x.seat all) in (
      kept_were homes x y e.0.same.number kept (subst (λ (u : Seat). Owns h [] x.seat u) (sym q.0) (meets_own h x.seat all)) w.0,
      meets_were homes all xs ys e.1 q.1 w.1,
    )

pub agrees_met : (cuts : Cuts) (xs ys : List Kept) → EachIs Stays xs ys → AgreesWith cuts ys → AgreesWith cuts xs
agrees_met cuts [] [] e g = tt
agrees_met cuts [] (y ∷ ys) e g = absurd e
agrees_met cuts (x ∷ xs) [] e g = absurd e
agrees_met cuts (x ∷ xs) (y ∷ ys) e g = (
  ap (λ (n : ℕ). is_some (cuts n)) (sym e.0.same.number) ∙ (g.0 ∙ ap is_stopped e.0.fault),
  agrees_met cuts xs ys e.1 g.1,
)

pub by_cuts : (cuts : Cuts) (homes : Homes) (net : Net) → met_all (map (turned_by cuts homes) net) ≡ round_by cuts homes net
unfolding round_by
by_cuts cuts homes net = refl

-- a round in which these have stopped
pub round_halts : (room : ℕ) (os ms ns : List Kept) → EachIs (IsTurn room) os ms → MayAllGoOn ms → EachIs Stays ms ns → seats ns ≡ met_all (seats ms) → (t : Network) → AreOf t os → (routes : Routes) → AreRoutes t routes
    → AreOwned (home_in t routes) os → (cuts : Cuts) → AgreesWith cuts ns → seats_before ns ≡ round_by cuts (home_in t routes) (seats_by true os)
round_halts room os ms ns e u s f t o routes r w cuts g =
    meets_before ms ms ns s f
    ∙ (ap met_all (halts_seen room os ms e u t o routes r w cuts (agrees_met cuts ms ns s g)) ∙ by_cuts cuts (home_in t routes) (seats_by true os))

pub met_may_go : (xs ys : List Kept) → EachIs Stays xs ys → MayAllGoOn xs → MayAllGoOn ys
met_may_go [] [] e u = tt
met_may_go [] (y ∷ ys) e u = absurd e
met_may_go (x ∷ xs) [] e u = absurd e
met_may_go (x ∷ xs) (y ∷ ys) e u = (by_fault u.0, met_may_go xs ys e.1 u.1)
  where
    by_fault : MayGoOn x → MayGoOn y
    by_fault (inl f) = inl (e.0.fault ∙ f)
    by_fault (inr f) = inr (e.0.fault ∙ f)

pub met_were_owned : (homes : Homes) (xs ys : List Kept) → EachIs Stays xs ys → seats ys ≡ met_all (seats xs) → WereOwned homes xs → WereOwned homes ys
met_were_owned homes xs ys e f w = meets_were homes (seats xs) xs ys e f w

---- Where no disk stops

usable_may : (ks : List Kept) → AreUsable ks → MayAllGoOn ks
usable_may [] u = tt
usable_may (k ∷ ks) u = (inl u.0, usable_may ks u.1)

pub net_halted : (ks : List Kept) → AreNet ks → AreHalted ks
net_halted ks n = record { going = usable_may ks n.usable; apart = n.apart; wired = n.wired }

pub usable_were : (homes : Homes) (ks : List Kept) → AreUsable ks → AreOwned homes ks → WereOwned homes ks
usable_were homes [] u w = tt
usable_were homes (k ∷ ks) u w = (owned_before homes k u.0 w.0, usable_were homes ks u.1 w.1)

calm_turned : (homes : Homes) (cuts : Cuts) (xs ys : List Kept) → AreSame xs ys → AreUsable ys → AgreesWith cuts ys → turned_all homes (seats_by true xs) ≡ map (turned_by cuts homes) (seats_by true xs)
calm_turned homes cuts [] [] s u g = refl
calm_turned homes cuts [] (y ∷ ys) s u g = absurd s
calm_turned homes cuts (x ∷ xs) [] s u g = absurd s
calm_turned homes cuts (x ∷ xs) (y ∷ ys) s u g = ap₂ ◌∷◌ (sym (ap (λ (o : Option Cut). turned_or o (homes x.seat.number) (seen true x)) none)) (calm_turned homes cuts xs ys s.1 u.1 g.1)
  where
    none : cuts x.seat.number ≡ None
    none = none_of (cuts x.seat.number) (subst (λ (m : ℕ). is_some (cuts m) ≡ is_stopped y.fault) s.0.number g.0 ∙ ap is_stopped u.0)

calm_seats : (ks : List Kept) → AreUsable ks → seats_before ks ≡ seats_by true ks
calm_seats [] u = refl
calm_seats (k ∷ ks) u = ap₂ ◌∷◌ (ap (λ (z : Option TurnFault). with_past (synced_in (kept_before z k.seat.synced k.kept)) k.seat) u.0) (calm_seats ks u.1)

-- a round is one by whichever cuts are of nobody
pub round_calm : (homes : Homes) (cuts : Cuts) (xs ys : List Kept) → AreSame xs ys → AreUsable ys → AgreesWith cuts ys → seats_by true ys ≡ round homes (seats_by true xs) → seats_before ys ≡ round_by cuts homes (seats_by true xs)
round_calm homes cuts xs ys s u g e =
    calm_seats ys u
    ∙ (e ∙ (sym (met_round homes (seats_by true xs)) ∙ (ap met_all (calm_turned homes cuts xs ys s u g) ∙ by_cuts cuts homes (seats_by true xs))))

---- Restarts behind a round

abbrev cut_by : (keeps : Bool) → List Entry → Option (List Entry) → Option (List Entry)
cut_by true batch past = adds batch past
cut_by false batch past = past

-- what was read, behind so many tries: the synced entries, or these with the batch
abbrev pub cut_as : (keeps : Bool) → (tries : ℕ) → Cut
cut_as keeps tries = record { keeps = keeps; again = tries }

is_kept : (j : Journaled) (batch : List Entry) (o : Option Journaled) (es : List Entry) → o ≡ Some j → AreEither batch o es → (keeps : Bool) × (Some es ≡ cut_by keeps batch (Some j.synced))
is_kept j batch o es e p = by_case (subst (λ (z : Option Journaled). AreEither batch z es) e p)
  where
    by_case : (es ≡ j.synced) ⊎ (es ≡ j.synced ++ batch) → (keeps : Bool) × (Some es ≡ cut_by keeps batch (Some j.synced))
    by_case (inl q) = (false, ap (λ (xs : List Entry). Some xs) q)
    by_case (inr q) = (true, ap (λ (xs : List Entry). Some xs) q)

read_with : (h : Home) (tries : ℕ) (es : List Entry) (p : List Entry) (s : Seat) → reads h tries es (with_past (Some p) s) ≡ with_past (Some es) (reads h tries es s)
unfolding reads
read_with h tries es p s = refl

-- an agent whose disk had stopped has read what the cut leaves, where it is told
pub one_reopened : (h : Home) (x y : Kept) (j : Journaled) → kept_in x ≡ Some j → x.fault ≡ Some TurnFault.Stopped → (r : IsReopened x y) → y.seat ≡ reads h r.tries r.entries x.seat
    → (keeps : Bool) × (seen true y ≡ reopened (Some (cut_as keeps r.tries)) h (seen_before x))
one_reopened h x y j e f r is =
    let front : first_kept x.seat.synced x.kept ≡ Some j = sym (ap (λ (z : Option TurnFault). kept_before z x.seat.synced x.kept) f) ∙ e in
    let k = is_kept j x.seat.fresh (first_kept x.seat.synced x.kept) r.entries front r.read in
    let kept : y.kept ≡ Some (record { synced = r.entries; waiting = [] }) = told_kept x.seat.synced x.kept j front r.entries y.kept r.kept in (
      k.0,
      ap₂ (λ (o : Option Journaled) (s : Seat). with_past (synced_in o) s) kept is
          ∙ (sym (read_with h r.tries r.entries j.synced x.seat)
          ∙ (ap (λ (o : Option (List Entry)). reads_past o h r.tries (with_past (Some j.synced) x.seat)) k.1
          ∙ by_keeps k.0)),
    )
  where
    told_kept : (n : ℕ) (o : Option Journaled) (j : Journaled) → first_kept n o ≡ Some j → (es : List Entry) (new : Option Journaled) → KeepsRead es o new → new ≡ Some (record { synced = es; waiting = [] })
    told_kept n None j p es new q = absurd (cc)
    told_kept n (Some k) j p es new q = q

    by_keeps : (b : Bool) → reads_past (cut_by b x.seat.fresh (Some j.synced)) h r.tries (with_past (Some j.synced) x.seat) ≡ reopened (Some (cut_as b r.tries)) h (seen_before x)
    by_keeps true = ap (λ (o : Option Journaled). reads_past (adds x.seat.fresh (synced_in o)) h r.tries (with_past (synced_in o) x.seat)) (sym e)
    by_keeps false = ap (λ (o : Option Journaled). reads_past (synced_in o) h r.tries (with_past (synced_in o) x.seat)) (sym e)

---- Each by a cut of its own

-- what is seen of them is made by these cuts, which are of those that had stopped
pub record ByCuts (homes : Homes) (olds news : List Kept) : Type 0 where
  pub cuts : List (ℕ × Cut)
  pub agrees : AgreesWith (cuts_of cuts) olds
  pub only : (a : ℕ) → IsAbsent a (numbers (seats olds)) → cuts_of cuts a ≡ None
  pub few : cut_stops (cuts_of cuts) (numbers (seats olds)) + stops_among olds ≤ stopped_in olds + stops_among news
  pub is : seats_by true news ≡ reopens (cuts_of cuts) homes (seats_before olds)

pub agrees_else : (x : ℕ × Cut) (cs : List (ℕ × Cut)) (ks : List Kept) → IsAbsent x.0 (numbers (seats ks)) → AgreesWith (cuts_of cs) ks → AgreesWith (cuts_of (x ∷ cs)) ks
agrees_else x cs [] n g = tt
agrees_else x cs (k ∷ ks) n g = (ap is_some (cut_else x cs k.seat.number (λ e. n.0 (sym e))) ∙ g.0, agrees_else x cs ks n.1 g.1)

-- a cut of another one counts no stop of these
pub stops_else : (x : ℕ × Cut) (cs : List (ℕ × Cut)) (ks : List Kept) → IsAbsent x.0 (numbers (seats ks)) → cut_stops (cuts_of (x ∷ cs)) (numbers (seats ks)) ≡ cut_stops (cuts_of cs) (numbers (seats ks))
stops_else x cs [] n = refl
stops_else x cs (k ∷ ks) n = ap₂ ◌+◌ (ap stops_of (cut_else x cs k.seat.number (λ e. n.0 (sym e)))) (stops_else x cs ks n.1)

reopens_none : (cuts : Cuts) (homes : Homes) → [] ≡ reopens cuts homes []
unfolding reopens
reopens_none cuts homes = refl

reopens_cons : (cuts : Cuts) (homes : Homes) (s : Seat) (ss : Net) → reopens cuts homes (s ∷ ss) ≡ reopened (cuts s.number) (homes s.number) s ∷ reopens cuts homes ss
unfolding reopens
reopens_cons cuts homes s ss = refl

reopens_else : (x : ℕ × Cut) (cs : List (ℕ × Cut)) (homes : Homes) (ks : List Kept) → IsAbsent x.0 (numbers (seats ks)) → reopens (cuts_of (x ∷ cs)) homes (seats_before ks) ≡ reopens (cuts_of cs) homes (seats_before ks)
unfolding reopens
reopens_else x cs homes [] n = refl
reopens_else x cs homes (k ∷ ks) n =
    ap₂ ◌∷◌ (ap (λ (o : Option Cut). reopened o (homes k.seat.number) (seen_before k)) (cut_else x cs k.seat.number (λ e. n.0 (sym e)))) (reopens_else x cs homes ks n.1)

restarts_cut : (xs ys : List Kept) → EachIs RestartsStopped xs ys → MayAllGoOn xs → AreApart (seats xs) → (t : Network) → AreOf t xs → (routes : Routes) → AreRoutes t routes → WereOwned (home_in t routes) xs → ByCuts (home_in t routes) xs ys
restarts_cut [] [] p u apart t o routes r w = record { cuts = []; agrees = tt; only = λ a n. refl; few = omega arith; is = reopens_none (cuts_of []) (home_in t routes) }
restarts_cut [] (y ∷ ys) p u apart t o routes r w = absurd p
restarts_cut (x ∷ xs) [] p u apart t o routes r w = absurd p
restarts_cut (x ∷ xs) (y ∷ ys) p u apart t o routes r w = by_fault u.0 (restarts_cut xs ys p.1 u.1 apart.1.1 t o.1 routes r w.1)
  where
    homes : Homes
    homes = home_in t routes

    h : Home
    h = homes x.seat.number

    by_fault : MayGoOn x → ByCuts homes xs ys → ByCuts homes (x ∷ xs) (y ∷ ys)
    by_fault (inl f) rest =
        let none : cuts_of rest.cuts x.seat.number ≡ None = rest.only x.seat.number apart.0 in
        let same : y ≡ x = p.0.there (usable_not_stopped x.fault f) in
        record {
          cuts = rest.cuts;
          agrees = (ap is_some none ∙ sym (ap is_stopped f), rest.agrees);
          only = λ a n. rest.only a n.1;
          few = let a = rest.few in omega (arith, a, ap stops_of none, ap one_stop f, ap (λ (k : Kept). k.meter.stops) same);
          is = ap₂ ◌∷◌
              (ap (seen true) same
              ∙ (sym (ap (λ (z : Option TurnFault). with_past (synced_in (kept_before z x.seat.synced x.kept)) x.seat) f) ∙ sym (ap (λ (c : Option Cut). reopened c h (seen_before x)) none)))
              rest.is
              ∙ sym (reopens_cons (cuts_of rest.cuts) homes (seen_before x) (seats_before xs));
        }
    by_fault (inr f) rest =
        let again : IsReopened x y = (p.0.here f).reopened in
        let is : y.seat ≡ reads h again.tries again.entries x.seat = at_home t x (λ z. y.seat ≡ reads z again.tries again.entries x.seat) o.0 again.seat routes r in
        let k = one_reopened h x y w.0.0 w.0.1 f again is in
        let c : ℕ × Cut = (x.seat.number, cut_as k.0 again.tries) in
        record {
          cuts = c ∷ rest.cuts;
          agrees = (ap is_some (cut_here c rest.cuts) ∙ sym (ap is_stopped f), agrees_else c rest.cuts xs apart.0 rest.agrees);
          only = λ a n. cut_else c rest.cuts a n.0 ∙ rest.only a n.1;
          few = let a = rest.few in let b = again.counts.stops in omega (arith, a, b, ap stops_of (cut_here c rest.cuts), ap one_stop f, stops_else c rest.cuts xs apart.0);
          is = ap₂ ◌∷◌ (k.1 ∙ sym (ap (λ (z : Option Cut). reopened z h (seen_before x)) (cut_here c rest.cuts))) (rest.is ∙ sym (reopens_else c rest.cuts homes xs apart.0))
              ∙ sym (reopens_cons (cuts_of (c ∷ rest.cuts)) homes (seen_before x) (seats_before xs));
        }

-- they go on by some cuts, which are of those that had stopped
pub restarts_by_cuts : (xs ys : List Kept) → EachIs RestartsStopped xs ys → AreHalted xs → (t : Network) → AreOf t xs → (routes : Routes) → AreRoutes t routes → WereOwned (home_in t routes) xs → ByCuts (home_in t routes) xs ys
restarts_by_cuts xs ys p u t o routes r w = restarts_cut xs ys p u.going u.apart t o routes r w

---- Their journals tell it again

reopened_owned : (homes : Homes) (x y : Kept) (j : Journaled) → kept_in x ≡ Some j → x.fault ≡ Some TurnFault.Stopped → (r : IsReopened x y) → y.seat ≡ reads (homes x.seat.number) r.tries r.entries x.seat → IsOwned homes y
reopened_owned homes x y j e f r is =
    let h : Home = homes x.seat.number in
    let es : List Entry = r.entries in (
      record { synced = es; waiting = [] },
      kept_told x.kept (sym (ap (λ (z : Option TurnFault). kept_before z x.seat.synced x.kept) f) ∙ e) r.kept,
      ap (λ (m : ℕ). (told (homes m) (es ++ y.seat.fresh)).state) r.same.number
          ∙ (ap (λ (fs : List Entry). (told h (es ++ fs)).state) (ap (λ (s : Seat). s.fresh) is ∙ read_fresh h r.tries es x.seat)
          ∙ (ap (λ (zs : List Entry). (told h zs).state) (append-nil es) ∙ sym (ap (λ (s : Seat). s.state) is ∙ read_state h r.tries es x.seat))),
    )
  where
    kept_told : (o : Option Journaled) → first_kept x.seat.synced o ≡ Some j → KeepsRead r.entries o y.kept → y.kept ≡ Some (record { synced = r.entries; waiting = [] })
    kept_told None p q = absurd (cc)
    kept_told (Some k) p q = q

pub restarts_owned_again : (xs ys : List Kept) → EachIs RestartsStopped xs ys → MayAllGoOn xs → (t : Network) → AreOf t xs → (routes : Routes) → AreRoutes t routes → WereOwned (home_in t routes) xs → AreOwned (home_in t routes) ys
restarts_owned_again [] [] p u t o routes r w = tt
restarts_owned_again [] (y ∷ ys) p u t o routes r w = absurd p
restarts_owned_again (x ∷ xs) [] p u t o routes r w = absurd p
restarts_owned_again (x ∷ xs) (y ∷ ys) p u t o routes r w = (by_fault u.0, restarts_owned_again xs ys p.1 u.1 t o.1 routes r w.1)
  where
    homes : Homes
    homes = home_in t routes

    by_fault : MayGoOn x → IsOwned homes y
    by_fault (inl f) =
        let same : y ≡ x = p.0.there (usable_not_stopped x.fault f) in
        subst (λ (k : Kept). IsOwned homes k) (sym same) (w.0.0, sym (ap (λ (z : Option TurnFault). kept_before z x.seat.synced x.kept) f) ∙ w.0.1, w.0.2)
    by_fault (inr f) =
        let again : IsReopened x y = (p.0.here f).reopened in
        reopened_owned homes x y w.0.0 w.0.1 f again (at_home t x (λ z. y.seat ≡ reads z again.tries again.entries x.seat) o.0 again.seat routes r)
