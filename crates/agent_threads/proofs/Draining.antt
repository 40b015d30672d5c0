-- What has happened is told, and taken away.
use Rattle.std.proofs.Common.{arith, Bool, true, false, Option, ℕ, ◌+◌, ◌<◌, ◌≤◌, ◌≡◌, List, [], ◌∷◌, ◌++◌, inl, inr, cond, refl, sym, ap, ap₂, ◌∙◌, length, map, drop, get_or, append_assoc, append-nil, add-one, drop-cons, ne_eqb}
use Rattle.std.proofs.lemmas.Bool.{cases_eq, false≢true}
use Rattle.std.proofs.lemmas.List.{drop_all}
use Rattle.nsi_primitive.specs.declared.entry.Event.{Event}
use Rattle.nsi_script.specs.declared.script.Act.{Act}
use Rattle.agent_node.specs.Seat.{Seat}
use Rattle.agent_node.specs.Acts.{asked, forced}
use Rattle.agent_node.specs.Passing.{others}
use Rattle.agent_node.specs.Kept.{Kept}
use Rattle.agent_node.proofs.Pasts.{with_past}
use Rattle.journal_entry.specs.Journal.{Kept as Journaled}
use Rattle.nsi_agent.specs.Homes.{Routes, AreRoutes, home_in}
use Rattle.nsi_play.specs.Rounds.{Net, Homes, events_of, emptied, tells}
use Rattle.nsi_play.specs.Play.{changes, does, acted, RestartsNone}
use Rattle.agent_threads.specs.Nets.{seats, seats_by, seen, synced_in, EachIs, IsUnstopped, AreOf, AreOwned, AreApart, AreSame, AreNet}
use Rattle.agent_threads.specs.Stopping.{Emptied, more_stops}
use Rattle.agent_threads.specs.Made.{Does, DoesAct, Drained, tells_at, part_in}
use Rattle.agent_threads.specs.Coming.{IsTold}
use Rattle.agent_threads.proofs.Same.{does_net, does_same}
use Rattle.agent_threads.proofs.Seen.{seen_events, does_seen, part_needs, restarts_seen}
use Rattle.stopped_play.specs.Play.{acted_by}
use Rattle.agent_threads.specs.Promise.{Shows}
use Rattle.stp_topology.specs.declared.network.Network.{Network}

pub told_next : (ks : List Kept) (i : ℕ) (d : Kept) (es fs : List Event) → i < length ks → fs ≡ es ++ (get_or ks i d).seat.events → fs ++ events_of (seats (drop (i + 1) ks)) ≡ es ++ events_of (seats (drop i ks))
told_next ks i d es fs h e =
    ap (λ (xs : List Event). xs ++ events_of (seats (drop (i + 1) ks))) e
    ∙ (append_assoc es (get_or ks i d).seat.events (events_of (seats (drop (i + 1) ks)))
    ∙ ap (λ (xs : List Event). es ++ xs) (ap (λ n. (get_or ks i d).seat.events ++ events_of (seats (drop n ks))) (add-one i) ∙ sym (ap (λ (xs : List Kept). events_of (seats xs)) (drop-cons ks i d h))))

pub told_end : (ks : List Kept) (i : ℕ) (es : List Event) → length ks ≤ i → es ≡ es ++ events_of (seats (drop i ks))
told_end ks i es h = sym (ap (λ (xs : List Kept). es ++ events_of (seats xs)) (drop_all i ks h) ∙ append-nil es)

pub emptied_unstopped : (a b : Kept) → Emptied a b → IsUnstopped a b
emptied_unstopped a b e = record {
  same = record {
    network = ap (λ (k : Kept). k.network) e;
    number = ap (λ (k : Kept). k.seat.number) e;
    others = ap (λ (k : Kept). others k.seat.doors) e;
  };
  stops = ap (λ (k : Kept). k.meter.stops) e;
  planned = ap (λ (k : Kept). k.meter.planned) e;
}

drained_does : (os ns : List Kept) → EachIs Drained os ns → EachIs (Does tells_at) os ns
drained_does [] [] e = tt
drained_does [] (n ∷ ns) e = absurd e
drained_does (o ∷ os) [] e = absurd e
drained_does (o ∷ os) (n ∷ ns) e = (e.0.made, drained_does os ns e.1)

pub drained_seen : (b : Bool) (os ns : List Kept) → EachIs Drained os ns → seats_by b ns ≡ emptied (seats_by b os)
drained_seen b [] [] e = refl
drained_seen b [] (n ∷ ns) e = absurd e
drained_seen b (o ∷ os) [] e = absurd e
drained_seen b (o ∷ os) (n ∷ ns) e = ap₂ ◌∷◌ (told_seen b o n e.0.seat e.0.made.journal.kept) (drained_seen b os ns e.1)
  where
    told_seen : (z : Bool) (x y : Kept) → y.seat ≡ tells x.seat → y.kept ≡ x.kept → seen z y ≡ tells (seen z x)
    told_seen true x y is kept = ap₂ (λ (o : Option Journaled) (s : Seat). with_past (synced_in o) s) kept is
    told_seen false x y is kept = is

pub drained_net : (os ns : List Kept) → EachIs Drained os ns → AreNet os → AreNet ns
drained_net os ns e n = does_net tells_at os ns (drained_does os ns e) n

pub drained_same : (os ns : List Kept) → EachIs Drained os ns → AreSame os ns
drained_same os ns e = does_same tells_at os ns (drained_does os ns e)

pub emptied_events : (net : Net) → events_of (emptied net) ≡ []
emptied_events [] = refl
emptied_events (s ∷ ss) = emptied_events ss

-- nothing is left to tell
pub drained_told : (os ns : List Kept) → EachIs Drained os ns → events_of (seats ns) ≡ []
drained_told os ns e = ap events_of (drained_seen false os ns e) ∙ emptied_events (seats os)

-- what was made of all is told
pub is_told : (b : Bool) (net : Net) (mids news : List Kept) (before events : List Event) → seats_by b mids ≡ net → EachIs Drained mids news → events ≡ before ++ events_of (seats mids) → IsTold net before events (seats_by b news)
is_told b net mids news before events e d t = record {
  told = t ∙ (ap (λ (es : List Event). before ++ es) (sym (seen_events b mids)) ∙ ap (λ (x : Net). before ++ events_of x) e);
  rest = drained_seen b mids news d ∙ ap emptied e;
}

---- Acts

part_does : (act : Act) → RestartsNone act → (n : ℕ) (homes : Homes) (s : Seat) → part_in act n (homes s.number) s ≡ does act n homes s
part_does (Act.Ask a ask) can n homes s = elim (cases_eq s.number a) [
  | inl e ↦ ap (λ (k : ℕ). changes a (asked (homes k) n ask) s) e
  | inr m ↦ ap (λ b. cond b (asked (homes s.number) n ask s) s) (ne_eqb s.number a m) ∙ sym (ap (λ b. cond b (asked (homes a) n ask s) s) (ne_eqb s.number a m))
]
part_does (Act.Force a k) can n homes s = elim (cases_eq s.number a) [
  | inl e ↦ ap (λ (b : ℕ). changes a (forced (homes b) k) s) e
  | inr m ↦ ap (λ b. cond b (forced (homes s.number) k s) s) (ne_eqb s.number a m) ∙ sym (ap (λ b. cond b (forced (homes a) k s) s) (ne_eqb s.number a m))
]
part_does (Act.Restart a) can n homes s = absurd can

pub parts_acted : (act : Act) → RestartsNone act → (n : ℕ) (homes : Homes) (net : Net) → map (λ s. part_in act n (homes s.number) s) net ≡ acted act n homes net
parts_acted act none n homes [] = refl
parts_acted act none n homes (s ∷ ss) = ap₂ ◌∷◌ (part_does act none n homes s) (parts_acted act none n homes ss)

-- what an act does that restarts nobody is the definition's
pub part_acted : (act : Act) → RestartsNone act → (n : ℕ) (b : Bool) (xs ys : List Kept) → EachIs (Does (part_in act n)) xs ys → (t : Network) → AreOf t xs → (routes : Routes) → AreRoutes t routes
    → seats_by b ys ≡ acted act n (home_in t routes) (seats_by b xs)
part_acted act none n b xs ys p t o routes r = does_seen (part_in act n) (part_needs act none n) b xs ys p t o routes r ∙ parts_acted act none n (home_in t routes) (seats_by b xs)

-- so is what any does, where it shows, behind so many tries as stops were counted at most
pub act_seen : (act : Act) (n : ℕ) (b : Bool) (xs ys : List Kept) → EachIs (DoesAct act n) xs ys → AreApart (seats xs) → (t : Network) → AreOf t xs → (routes : Routes) → AreRoutes t routes → (b ≡ true → AreOwned (home_in t routes) xs) → Shows b act
    → (tries : ℕ) × (tries ≤ more_stops xs ys) × (seats_by b ys ≡ acted_by act tries n (home_in t routes) (seats_by b xs))
act_seen (Act.Ask a ask) n b xs ys p apart t o routes r w shows = (0, omega arith, part_acted (Act.Ask a ask) tt n b xs ys p t o routes r)
act_seen (Act.Force a k) n b xs ys p apart t o routes r w shows = (0, omega arith, part_acted (Act.Force a k) tt n b xs ys p t o routes r)
act_seen (Act.Restart a) n true xs ys p apart t o routes r w shows = restarts_seen a n xs ys p apart t o routes r (w refl)
act_seen (Act.Restart a) n false xs ys p apart t o routes r w shows = absurd (false≢true shows)
