-- Agents with their synced entries as their journals tell them.
use Rattle.std.proofs.Common.{ℕ, arith, ◌≤◌, ◌≡◌, ◌==◌, ◌⊎◌, Bool, true, false, cond, List, [], ◌∷◌, ◌++◌, Option, Some, None, inl, inr, refl, sym, ap, ap₂, ◌∙◌, subst, map, eq-eqb, ne_eqb}
use Rattle.std.specs.Prelude.{IfSome}
use Rattle.std.proofs.lemmas.Bool.{cases_eq}
use Rattle.nsi_primitive.specs.declared.entry.Entry.{Entry}
use Rattle.nsi_primitive.specs.declared.entry.Event.{Event}
use Rattle.nsi_primitive.specs.declared.entry.Input.{Input}
use Rattle.journal_entry.specs.Journal.{Kept as Journaled, Adds}
use Rattle.stp_topology.specs.declared.network.Network.{Network}
use Rattle.nsi_agent.specs.Homes.{Home, Routes, AreRoutes, home_in}
use Rattle.agent_node.specs.Seat.{Seat, now_at}
use Rattle.agent_node.specs.Acts.{asked, forced, is_quiet}
use Rattle.agent_node.specs.Turns.{turned}
use Rattle.agent_node.specs.Meetings.{met}
use Rattle.agent_node.specs.Restarts.{reads}
use Rattle.agent_node.specs.Kept.{Kept}
use Rattle.agent_node.specs.Made.{IsTurn, keeps}
use Rattle.agent_node.proofs.Pasts.{with_past, past_enters, past_turned, past_ticked, past_met, past_of_other}
use Rattle.nsi_script.specs.declared.script.Act.{Act}
use Rattle.nsi_play.specs.Rounds.{Net, Homes, events_of, turned_all, meets_each, meets_all, met_all}
use Rattle.nsi_play.specs.Play.{changes, RestartsNone}
use Rattle.stopped_play.specs.Play.{read_again, acted_by}
use Rattle.agent_threads.specs.Nets.{seats, seats_by, numbers, seen, synced_in, EachIs, AreOf, IsOwned, AreOwned, AreUsable, IsAbsent, AreApart}
use Rattle.agent_threads.specs.Made.{Does, RestartsAt, Stays, tick_to, part_in}
use Rattle.agent_threads.specs.Stopping.{stops_among, more_stops}
use Rattle.agent_threads.proofs.Same.{at_home}

-- the events are the same
pub seen_numbers : (b : Bool) (ks : List Kept) → numbers (seats_by b ks) ≡ numbers (seats ks)
seen_numbers b [] = refl
seen_numbers b (k ∷ ks) = ap (λ (ns : List ℕ). k.seat.number ∷ ns) (seen_numbers b ks)

pub seen_events : (b : Bool) (ks : List Kept) → events_of (seats_by b ks) ≡ events_of (seats ks)
seen_events b [] = refl
seen_events b (k ∷ ks) = ap (λ (es : List Event). k.seat.events ++ es) (seen_events b ks)

-- who is quiet is so
pub seen_quiet : (b : Bool) (h : Home) (k : Kept) → is_quiet h (seen b k) ≡ is_quiet h k.seat
unfolding is_quiet
seen_quiet b h k = refl

---- Calls that make a function of every seat

-- what it makes needs no synced entries
abbrev pub NeedsNone : (Home → Seat → Seat) → Type 0
NeedsNone f = (p : Option (List Entry)) (h : Home) (s : Seat) → f h (with_past p s) ≡ with_past p (f h s)

pub one_seen : (f : Home → Seat → Seat) → NeedsNone f → (h : Home) (x y : Kept) → y.seat ≡ f h x.seat → y.kept ≡ x.kept → (b : Bool) → seen b y ≡ f h (seen b x)
one_seen f needs h x y is kept true = ap₂ (λ (o : Option Journaled) (s : Seat). with_past (synced_in o) s) kept is ∙ sym (needs (synced_in x.kept) h x.seat)
one_seen f needs h x y is kept false = is

pub does_seen : (f : Home → Seat → Seat) → NeedsNone f → (b : Bool) (xs ys : List Kept) → EachIs (Does f) xs ys → (t : Network) → AreOf t xs → (routes : Routes) → AreRoutes t routes
    → seats_by b ys ≡ map (λ s. f (home_in t routes s.number) s) (seats_by b xs)
does_seen f needs b [] [] p t o routes r = refl
does_seen f needs b [] (y ∷ ys) p t o routes r = absurd p
does_seen f needs b (x ∷ xs) [] p t o routes r = absurd p
does_seen f needs b (x ∷ xs) (y ∷ ys) p t o routes r =
    ap₂ ◌∷◌ (one_seen f needs (home_in t routes x.seat.number) x y (at_home t x (λ h. y.seat ≡ f h x.seat) o.0 p.0.ok routes r) p.0.journal.kept b) (does_seen f needs b xs ys p.1 t o.1 routes r)

pub tick_needs : (second : ℕ) → NeedsNone (tick_to second)
tick_needs second p h s = past_ticked p h second s

part_past : (c : Bool) (p : Option (List Entry)) (s u v : Seat) → v ≡ with_past p u → cond c v (with_past p s) ≡ with_past p (cond c u s)
part_past true p s u v e = e
part_past false p s u v e = refl

pub part_needs : (act : Act) → RestartsNone act → (n : ℕ) → NeedsNone (part_in act n)
part_needs (Act.Ask a ask) none n p h s =
    part_past (s.number == a) p s (asked h n ask s) (asked h n ask (with_past p s)) (past_enters p h (now_at s (Input.Ask n ask)) s)
part_needs (Act.Force a k) none n p h s =
    part_past (s.number == a) p s (forced h k s) (forced h k (with_past p s)) (past_enters p h (now_at s (Input.Force k)) s)
part_needs (Act.Restart a) none n p h s = absurd none

---- Turns

some_kept : (es : List Entry) (j : Journaled) (o new : Option Journaled) → o ≡ Some j → Adds es o new → synced_in new ≡ Some (j.synced ++ es)
some_kept es j o new e a =
    let added : IfSome (Some j) (λ k. new ≡ Some (record { synced = k.synced ++ es; waiting = [] })) = subst (λ (z : Option Journaled). Adds es z new) e a in
    ap synced_in added

pub turn_seen : (h : Home) (x y : Kept) (j : Journaled) → x.kept ≡ Some j → y.seat ≡ turned h x.seat → Adds (keeps h x.seat) x.kept y.kept → seen true y ≡ turned h (seen true x)
turn_seen h x y j e is a =
    ap₂ (λ (o : Option (List Entry)) (s : Seat). with_past o s) (some_kept (keeps h x.seat) j x.kept y.kept e a) is
    ∙ (sym (past_turned (Some j.synced) h x.seat) ∙ ap (λ (o : Option Journaled). turned h (with_past (synced_in o) x.seat)) (sym e))

pub turns_seen : (room : ℕ) (b : Bool) (os ns : List Kept) → EachIs (IsTurn room) os ns → AreUsable ns → (t : Network) → AreOf t os → (routes : Routes) → AreRoutes t routes → (b ≡ true → AreOwned (home_in t routes) os)
    → seats_by b ns ≡ turned_all (home_in t routes) (seats_by b os)
turns_seen room b [] [] e u t o routes r w = refl
turns_seen room b [] (n ∷ ns) e u t o routes r w = absurd e
turns_seen room b (k ∷ ks) [] e u t o routes r w = absurd e
turns_seen room b (k ∷ ks) (n ∷ ns) e u t o routes r w =
    let is = at_home t k (λ h. n.fault ≡ None → n.seat ≡ turned h k.seat) o.0 e.0.ok routes r u.0 in
    let kept = at_home t k (λ h. n.fault ≡ None → Adds (keeps h k.seat) k.kept n.kept) o.0 e.0.kept routes r u.0 in
    ap₂ ◌∷◌ (by_sight b is kept (λ q. (w q).0)) (turns_seen room b ks ns e.1 u.1 t o.1 routes r (λ q. (w q).1))
  where
    by_sight : (z : Bool) → n.seat ≡ turned (home_in t routes k.seat.number) k.seat → Adds (keeps (home_in t routes k.seat.number) k.seat) k.kept n.kept → (z ≡ true → IsOwned (home_in t routes) k)
        → seen z n ≡ turned (home_in t routes k.seat.number) (seen z k)
    by_sight true is kept own = let q = own refl in turn_seen (home_in t routes k.seat.number) k n q.0 q.1 is kept
    by_sight false is kept own = is

---- Meetings

one_met : (p : Option (List Entry)) (o : Kept) (s : Seat) → met (seen true o) (with_past p s) ≡ with_past p (met o.seat s)
one_met p o s = past_of_other (synced_in o.kept) o.seat (with_past p s) ∙ past_met p o.seat s

each_met : (p : Option (List Entry)) (os : List Kept) (s : Seat) → meets_each (with_past p s) (seats_by true os) ≡ with_past p (meets_each s (seats os))
unfolding meets_each
each_met p [] s = refl
each_met p (o ∷ os) s = ap (λ (z : Seat). meets_each z (seats_by true os)) (one_met p o s) ∙ each_met p os (met o.seat s)

heads : (s u : Seat) (ss us : Net) → s ∷ ss ≡ u ∷ us → (s ≡ u) × (ss ≡ us)
heads s u ss us g = (cc, cc)

meets_seen : (all xs ys : List Kept) → EachIs Stays xs ys → seats ys ≡ map (meets_all (seats all)) (seats xs) → seats_by true ys ≡ map (meets_all (seats_by true all)) (seats_by true xs)
meets_seen all [] [] e f = refl
meets_seen all [] (y ∷ ys) e f = absurd e
meets_seen all (x ∷ xs) [] e f = absurd e
meets_seen all (x ∷ xs) (y ∷ ys) e f =
    let q = heads y.seat (meets_all (seats all) x.seat) (seats ys) (map (meets_all (seats all)) (seats xs)) f in
    ap₂ ◌∷◌
    (ap₂ (λ (o : Option Journaled) (s : Seat). with_past (synced_in o) s) e.0.journal.kept q.0 ∙ sym (each_met (synced_in x.kept) all x.seat))
    (meets_seen all xs ys e.1 q.1)

-- a meeting of all
pub met_seen : (b : Bool) (xs ys : List Kept) → EachIs Stays xs ys → seats ys ≡ met_all (seats xs) → seats_by b ys ≡ met_all (seats_by b xs)
met_seen true xs ys e f = meets_seen xs xs ys e f
met_seen false xs ys e f = f

---- Restarts

-- it reads what is synced, where this is told
read_past : (es : List Entry) (h : Home) (tries : ℕ) (s : Seat) → reads h tries es (with_past (Some es) s) ≡ with_past (Some es) (reads h tries es s)
unfolding reads
read_past es h tries s = refl

same_entries : (es : List Entry) (j : Journaled) (o : Option Journaled) → o ≡ Some j → IfSome o (λ k. es ≡ k.synced) → es ≡ j.synced
same_entries es j o e p = subst (λ (z : Option Journaled). IfSome z (λ k. es ≡ k.synced)) e p

still_kept : (j : Journaled) (o new : Option Journaled) → o ≡ Some j → IfSome o (λ k. new ≡ o) → new ≡ o
still_kept j o new e p = subst (λ (z : Option Journaled). IfSome z (λ k. new ≡ o)) e p

restart_seen : (h : Home) (x y : Kept) (j : Journaled) (tries : ℕ) (es : List Entry) → x.kept ≡ Some j → es ≡ j.synced → y.kept ≡ x.kept → y.seat ≡ reads h tries es x.seat → seen true y ≡ read_again tries h (seen true x)
restart_seen h x y j tries es e same kept is =
    ap₂ (λ (o : Option Journaled) (s : Seat). with_past (synced_in o) s) (kept ∙ e) (is ∙ ap (λ (xs : List Entry). reads h tries xs x.seat) same)
    ∙ (sym (read_past j.synced h tries x.seat) ∙ ap (λ (o : Option Journaled). read_again tries h (with_past (synced_in o) x.seat)) (sym e))

-- an agent with another number is as it was, however often was tried
other_stays : (homes : Homes) (a tries : ℕ) (x y : Kept) → RestartsAt a x y → (x.seat.number ≡ a → ⊥) → seen true y ≡ changes a (read_again tries (homes a)) (seen true x)
other_stays homes a tries x y p m = ap (seen true) (p.there m) ∙ sym (ap (λ (b : Bool). cond b (read_again tries (homes a) (seen true x)) (seen true x)) (ne_eqb x.seat.number a m))

others_seen : (a tries n : ℕ) (homes : Homes) (xs ys : List Kept) → EachIs (RestartsAt a) xs ys → IsAbsent a (numbers (seats xs)) → seats_by true ys ≡ acted_by (Act.Restart a) tries n homes (seats_by true xs)
others_seen a tries n homes [] [] p m = refl
others_seen a tries n homes [] (y ∷ ys) p m = absurd p
others_seen a tries n homes (x ∷ xs) [] p m = absurd p
others_seen a tries n homes (x ∷ xs) (y ∷ ys) p m = ap₂ ◌∷◌ (other_stays homes a tries x y p.0 (λ e. m.0 (sym e))) (others_seen a tries n homes xs ys p.1 m.1)

others_still : (a : ℕ) (xs ys : List Kept) → EachIs (RestartsAt a) xs ys → stops_among xs ≤ stops_among ys
others_still a [] [] p = omega arith
others_still a [] (y ∷ ys) p = absurd p
others_still a (x ∷ xs) [] p = absurd p
others_still a (x ∷ xs) (y ∷ ys) p = let one = by_number (cases_eq x.seat.number a) in let rest = others_still a xs ys p.1 in omega (arith, one, rest)
  where
    by_number : (x.seat.number ≡ a) ⊎ (x.seat.number ≡ a → ⊥) → x.meter.stops ≤ y.meter.stops
    by_number (inl e) = let more = (p.0.here e).reread.counts.stops in omega (arith, more)
    by_number (inr m) = omega (arith, ap (λ (k : Kept). k.meter.stops) (p.0.there m))

-- the agent with that number was restarted, behind no more tries than stops were counted
pub restarts_seen : (a n : ℕ) (xs ys : List Kept) → EachIs (RestartsAt a) xs ys → AreApart (seats xs) → (t : Network) → AreOf t xs → (routes : Routes) → AreRoutes t routes → AreOwned (home_in t routes) xs
    → (tries : ℕ) × (tries ≤ more_stops xs ys) × (seats_by true ys ≡ acted_by (Act.Restart a) tries n (home_in t routes) (seats_by true xs))
restarts_seen a n [] [] p apart t o routes r w = (0, omega arith, refl)
restarts_seen a n [] (y ∷ ys) p apart t o routes r w = absurd p
restarts_seen a n (x ∷ xs) [] p apart t o routes r w = absurd p
restarts_seen a n (x ∷ xs) (y ∷ ys) p apart t o routes r w = one (cases_eq x.seat.number a) (restarts_seen a n xs ys p.1 apart.1.1 t o.1 routes r w.1)
  where
    homes : Homes
    homes = home_in t routes

    Goes : ℕ → Type 0
    Goes tries = seats_by true (y ∷ ys) ≡ acted_by (Act.Restart a) tries n homes (seats_by true (x ∷ xs))

    one : (x.seat.number ≡ a) ⊎ (x.seat.number ≡ a → ⊥) → ((tries : ℕ) × (tries ≤ more_stops xs ys) × (seats_by true ys ≡ acted_by (Act.Restart a) tries n homes (seats_by true xs)))
        → (tries : ℕ) × (tries ≤ more_stops (x ∷ xs) (y ∷ ys)) × Goes tries
    one (inl e) rest =
        let q = (p.0.here e).reread in
        let j = w.0.0 in
        let is = at_home t x (λ h. y.seat ≡ reads h q.tries q.entries x.seat) o.0 q.seat routes r in
        let seen_so : seen true y ≡ changes a (read_again q.tries (homes a)) (seen true x) =
        restart_seen (homes x.seat.number) x y j q.tries q.entries w.0.1 (same_entries q.entries j x.kept w.0.1 q.synced) (still_kept j x.kept y.kept w.0.1 q.kept) is
        ∙ (ap (λ (m : ℕ). read_again q.tries (homes m) (seen true x)) e ∙ sym (ap (λ (b : Bool). cond b (read_again q.tries (homes a) (seen true x)) (seen true x)) (eq-eqb x.seat.number a e))) in
        let few = q.counts.stops in
        let more = others_still a xs ys p.1 in (
          q.tries,
          omega (arith, few, more),
          ap₂ ◌∷◌ seen_so (others_seen a q.tries n homes xs ys p.1 (subst (λ (m : ℕ). IsAbsent m (numbers (seats xs))) e apart.0)),
        )
    one (inr m) rest =
        let few = rest.1 in
        let still = ap (λ (k : Kept). k.meter.stops) (p.0.there m) in
        (rest.0, omega (arith, few, still), ap₂ ◌∷◌ (other_stays homes a rest.0 x y p.0 m) rest.2)
