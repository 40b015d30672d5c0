-- Agents from whom what has happened was taken away, of whom some may have stopped.
use Rattle.std.proofs.Common.{ℕ, ◌≡◌, ◌+◌, if◌then◌else◌, List, [], ◌∷◌, ◌++◌, None, refl, sym, ap, ap₂, ◌∙◌, subst, arith, map}
use Rattle.nsi_primitive.specs.declared.entry.Event.{Event}
use Rattle.agent_node.specs.Kept.{Kept}
use Rattle.nsi_play.specs.Rounds.{Net, Homes, events_of, tells, emptied}
use Rattle.stopped_play.specs.Tapes.{Cuts}
use Rattle.agent_threads.specs.Nets.{seats, EachIs, AreUsable, AreSame}
use Rattle.agent_threads.specs.Made.{Drained}
use Rattle.agent_threads.specs.Stopping.{is_stopped, MayAllGoOn, AreHalted, AgreesWith, seen_before, seats_before, WereOwned, Emptied, stopped_in, stops_among}
use Rattle.agent_threads.proofs.Same.{KeepsLinks, links_same, still_apart, still_wired}
use Rattle.agent_threads.proofs.Draining.{emptied_events}

-- nothing of it is to be told any more
abbrev pub without_events : Kept → Kept
without_events k = record k { seat = record k.seat { events = [] } }

pub emptied_is : (os ns : List Kept) → EachIs Emptied os ns → ns ≡ map without_events os
emptied_is [] [] e = refl
emptied_is [] (n ∷ ns) e = absurd e
emptied_is (o ∷ os) [] e = absurd e
emptied_is (o ∷ os) (n ∷ ns) e = ap₂ ◌∷◌ e.0 (emptied_is os ns e.1)

---- Where none has stopped

one_drained : (o n : Kept) → n ≡ without_events o → o.fault ≡ None → Drained o n
one_drained o n e f = subst (λ (k : Kept). Drained o k) (sym e) (record {
  made = record {
    ok = λ routes r. refl;
    same = record { network = refl; number = refl; others = refl };
    plugs = refl;
    usable = f;
    journal = record { meter = refl; kept = refl };
  };
  seat = refl;
})

pub emptied_drained : (os ns : List Kept) → EachIs Emptied os ns → AreUsable os → EachIs Drained os ns
emptied_drained [] [] e u = tt
emptied_drained [] (n ∷ ns) e u = absurd e
emptied_drained (o ∷ os) [] e u = absurd e
emptied_drained (o ∷ os) (n ∷ ns) e u = (one_drained o n e.0 u.0, emptied_drained os ns e.1 u.1)

---- The same links

links_without : (o n : Kept) → n ≡ without_events o → KeepsLinks o n
links_without o n e = subst (λ (k : Kept). KeepsLinks o k) (sym e) (record { same = record { network = refl; number = refl; others = refl; faults = refl; stops = omega arith; planned = refl }; plugs = refl })

pub emptied_links : (os ns : List Kept) → EachIs Emptied os ns → EachIs KeepsLinks os ns
emptied_links [] [] e = tt
emptied_links [] (n ∷ ns) e = absurd e
emptied_links (o ∷ os) [] e = absurd e
emptied_links (o ∷ os) (n ∷ ns) e = (links_without o n e.0, emptied_links os ns e.1)

pub emptied_same : (os ns : List Kept) → EachIs Emptied os ns → AreSame os ns
emptied_same os ns e = links_same os ns (emptied_links os ns e)

go_on_without : (ks : List Kept) → MayAllGoOn ks → MayAllGoOn (map without_events ks)
go_on_without [] u = tt
go_on_without (k ∷ ks) u = (u.0, go_on_without ks u.1)

pub emptied_halted : (os ns : List Kept) → EachIs Emptied os ns → AreHalted os → AreHalted ns
emptied_halted os ns e h = record {
  going = subst MayAllGoOn (sym (emptied_is os ns e)) (go_on_without os h.going);
  apart = still_apart os ns (emptied_same os ns e) h.apart;
  wired = still_wired os ns (emptied_links os ns e) h.wired;
}

---- The same stops

agrees_without : (cuts : Cuts) (ks : List Kept) → AgreesWith cuts (map without_events ks) → AgreesWith cuts ks
agrees_without cuts [] g = tt
agrees_without cuts (k ∷ ks) g = (g.0, agrees_without cuts ks g.1)

pub emptied_agrees : (cuts : Cuts) (os ns : List Kept) → EachIs Emptied os ns → AgreesWith cuts ns → AgreesWith cuts os
emptied_agrees cuts os ns e g = agrees_without cuts os (subst (AgreesWith cuts) (emptied_is os ns e) g)

stopped_without : (ks : List Kept) → stopped_in (map without_events ks) ≡ stopped_in ks
stopped_without [] = refl
stopped_without (k ∷ ks) = ap (λ (n : ℕ). (if is_stopped k.fault then 1 else 0) + n) (stopped_without ks)

pub emptied_stopped : (os ns : List Kept) → EachIs Emptied os ns → stopped_in ns ≡ stopped_in os
emptied_stopped os ns e = ap stopped_in (emptied_is os ns e) ∙ stopped_without os

stops_without : (ks : List Kept) → stops_among (map without_events ks) ≡ stops_among ks
stops_without [] = refl
stops_without (k ∷ ks) = ap (λ (n : ℕ). k.meter.stops + n) (stops_without ks)

pub emptied_stops : (os ns : List Kept) → EachIs Emptied os ns → stops_among ns ≡ stops_among os
emptied_stops os ns e = ap stops_among (emptied_is os ns e) ∙ stops_without os

---- What is seen of them

were_without : (homes : Homes) (ks : List Kept) → WereOwned homes ks → WereOwned homes (map without_events ks)
were_without homes [] w = tt
were_without homes (k ∷ ks) w = (w.0, were_without homes ks w.1)

pub emptied_were : (homes : Homes) (os ns : List Kept) → EachIs Emptied os ns → WereOwned homes os → WereOwned homes ns
emptied_were homes os ns e w = subst (WereOwned homes) (sym (emptied_is os ns e)) (were_without homes os w)

before_without : (ks : List Kept) → seats_before (map without_events ks) ≡ emptied (seats_before ks)
before_without [] = refl
before_without (k ∷ ks) = ap (λ (net : Net). tells (seen_before k) ∷ net) (before_without ks)

pub emptied_before : (os ns : List Kept) → EachIs Emptied os ns → seats_before ns ≡ emptied (seats_before os)
emptied_before os ns e = ap seats_before (emptied_is os ns e) ∙ before_without os

seats_without : (ks : List Kept) → seats (map without_events ks) ≡ emptied (seats ks)
seats_without [] = refl
seats_without (k ∷ ks) = ap (λ (net : Net). tells k.seat ∷ net) (seats_without ks)

pub emptied_seats : (os ns : List Kept) → EachIs Emptied os ns → seats ns ≡ emptied (seats os)
emptied_seats os ns e = ap seats (emptied_is os ns e) ∙ seats_without os

pub emptied_told : (os ns : List Kept) → EachIs Emptied os ns → events_of (seats ns) ≡ []
emptied_told os ns e = ap events_of (emptied_seats os ns e) ∙ emptied_events (seats os)

-- the events are the same before a stop
pub before_events : (ks : List Kept) → events_of (seats_before ks) ≡ events_of (seats ks)
before_events [] = refl
before_events (k ∷ ks) = ap (λ (es : List Event). k.seat.events ++ es) (before_events ks)
