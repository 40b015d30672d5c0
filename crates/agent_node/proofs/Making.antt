-- A turn out of its steps.
use Rattle.std.proofs.Common.{ℕ, ◌+◌, ◌<◌, ◌≤◌, ◌≡◌, ◌==◌, ◌∷◌, ◌++◌, List, [], true, false, Option, Some, None, Result, Ok, Err, IfSome, refl, sym, ap, ◌∙◌, subst, arith, length, le_refl, append-nil, length-append, ne_eqb, eqb-true}
use Rattle.nsi_primitive.specs.declared.entry.Entry.{Entry}
use Rattle.nsi_primitive.specs.declared.entry.Event.{Event}
use Rattle.nsi_primitive.specs.declared.message.Message.{Message}
use Rattle.nsi_primitive.specs.declared.message.Parcel.{Parcel}
use Rattle.stp_topology.specs.declared.network.Network.{Network}
use Rattle.stp_topology.specs.Network.{agent_of}
use Rattle.nsi_disk.specs.Disk.{Meter}
use Rattle.journal_entry.specs.declared.journal.JournalFault.{JournalFault}
use Rattle.journal_entry.specs.Journal.{Kept as Journaled, Adds, HasJournalCause, KeepsOneOf}
use Rattle.nsi_agent.specs.Homes.{Home, Routes, home_in}
use Rattle.agent_node.specs.declared.fault.TurnFault.{TurnFault}
use Rattle.agent_node.specs.Doors.{Door}
use Rattle.agent_node.specs.Passing.{says_all}
use Rattle.agent_node.specs.Seat.{Seat}
use Rattle.agent_node.specs.Turns.{lying, cleared, adds, syncs, syncs_if, synced_all, sync_event, pushed, turn_entered, turn_with}
use Rattle.agent_node.specs.Faults.{fault_by}
use Rattle.agent_node.specs.Seated.{Seated, AtSeat, IsSameCore, Stays, Goes}
use Rattle.agent_node.specs.Kept.{Kept, kept_with, first_kept, IsSameAgent}
use Rattle.agent_node.specs.Made.{HasTurnCause, IsSynced, IsTurnWith, IsTurn, unsynced, turn_keeps}
use Rattle.agent_node.proofs.Growing.{count, turn_synced, turn_from_entered}
use Rattle.agent_node.proofs.Stepping.{none, no_fault, at_before}

same_agent : (a b : Seated) (z y : Option TurnFault) (m n : Meter) (k j : Option Journaled) → IsSameCore a b → IsSameAgent (kept_with a z m k) (kept_with b y n j)
same_agent a b z y m n k j s = record { network = s.network; number = s.number; others = s.others }

same_core : (a b : Seated) → Stays a b → IsSameCore a b
same_core a b s = record { network = s.network; number = s.number; plugs = s.plugs; others = s.others }

-- the disk was not called
pub no_call : (m : Meter) (z : Option TurnFault) → (z ≡ Some TurnFault.DiskFault → ⊥) → (z ≡ Some TurnFault.Stopped → ⊥) → HasTurnCause m m z
no_call m z p q = record {
  faults = le_refl m.faults;
  stops = le_refl m.stops;
  quiet = λ e. refl;
  calm = λ e. refl;
  failed = λ e. absurd (p e);
  stopped = λ e. absurd (q e);
  spares = λ e. absurd (q e);
  planned = refl;
}

---- What isn't synced

pub none_fresh : (h : Home) (s : Seat) → s.fresh ≡ [] → synced_all h s ≡ s
unfolding syncs_if
none_fresh h s e = ap (λ es. syncs_if (length es == 0) h s) e

cases_fresh : (es : List Entry) → 0 < length es → (length es == 0) ≡ false
cases_fresh es h = ne_eqb (length es) 0 (λ e. omega (arith, e, h))

some_fresh : (h : Home) (s : Seat) → 0 < length s.fresh → synced_all h s ≡ syncs h s
unfolding syncs_if
some_fresh h s e = ap (λ b. syncs_if b h s) (cases_fresh s.fresh e)

sync_event_more : (h : Home) (s : Seat) → 0 < length s.fresh → count (synced_all h s) ≡ count s + 1
sync_event_more h s e = ap (λ (x : Seat). count x) (some_fresh h s e) ∙ length-append s.events (sync_event s.number (s.synced + length s.fresh) ∷ [])

pub adds_none : (k : Option Journaled) → IfSome k (λ x. x.waiting ≡ []) → Adds [] k k
adds_none None h = tt
adds_none (Some x) h = ap Some (ap (λ es. record { synced = x.synced; waiting = es }) h ∙ ap (λ es. record { synced = es; waiting = [] }) (sym (append-nil x.synced)))

abbrev seat_of_parts : Seat → ℕ → List Entry → List Message → List Event → List Door → Seat
seat_of_parts s n fresh unsaid events doors = record { number = s.number; state = s.state; past = adds s.fresh s.past; synced = n; fresh = fresh; unsaid = unsaid; events = events; doors = doors }

pub no_entries : (es : List Entry) → (length es == 0) ≡ true → es ≡ []
no_entries [] h = refl
no_entries (e ∷ es) h = let z : length (e ∷ es) ≡ 0 = eqb-true (length (e ∷ es)) 0 h in absurd (omega (arith, z))

pub some_entries : (es : List Entry) → (length es == 0) ≡ false → 0 < length es
some_entries [] h = absurd (cc)
some_entries (e ∷ es) h = omega arith

-- all is told
pub told_is : (h : Home) (s : Seat) (n : ℕ) (fresh : List Entry) (unsaid : List Message) (events : List Event) (doors : List Door) → n ≡ s.synced + length s.fresh → fresh ≡ [] → unsaid ≡ []
    → events ≡ s.events ++ sync_event s.number n ∷ [] → doors ≡ says_all h.agent_of s.unsaid s.doors
    → record { number = s.number; state = s.state; past = adds s.fresh s.past; synced = n; fresh = fresh; unsaid = unsaid; events = events; doors = doors } ≡ syncs h s
told_is h s n fresh unsaid events doors p q r t u =
    let e : events ≡ s.events ++ sync_event s.number (s.synced + length s.fresh) ∷ [] = t ∙ ap (λ (k : ℕ). s.events ++ sync_event s.number k ∷ []) p in
    ap (λ (k : ℕ). seat_of_parts s k fresh unsaid events doors) p
    ∙ (ap (λ (es : List Entry). seat_of_parts s (s.synced + length s.fresh) es unsaid events doors) q
    ∙ (ap (λ (ms : List Message). seat_of_parts s (s.synced + length s.fresh) [] ms events doors) r
    ∙ (ap (λ (es : List Event). seat_of_parts s (s.synced + length s.fresh) [] [] es doors) e
    ∙ ap (λ (ds : List Door). seat_of_parts s (s.synced + length s.fresh) [] [] (s.events ++ sync_event s.number (s.synced + length s.fresh) ∷ []) ds) u)))

pub home_agents : (t : Network) (routes : Routes) (a : ℕ) → (home_in t routes a).agent_of ≡ agent_of t
unfolding home_in
home_agents t routes a = refl

-- nothing is to be synced
pub made_none : (room : ℕ) (c : Seated) (m : Meter) (k : Option Journaled) → c.seat.fresh ≡ [] → IfSome k (λ x. x.waiting ≡ []) → IsSynced room (kept_with c None m k) (kept_with c None m k)
made_none room c m k e w = record {
  ok = λ routes are z. sym (none_fresh (home_in c.network routes c.seat.number) c.seat e);
  kept = λ routes are z. subst (λ es. Adds es k k) (sym e) (adds_none k w);
  fits = λ routes are z. let same = ap (λ (s : Seat). count s) (none_fresh (home_in c.network routes c.seat.number) c.seat e) in omega (arith, same);
  long = λ routes are z. absurd (cc);
  halted = λ routes are e. absurd (cc);
  either = λ e. absurd (cc);
  front = λ e. absurd (cc);
  cause = no_call m None (λ z. cc) (λ z. cc);
  same = record { network = refl; number = refl; others = refl };
  plugs = refl;
}

-- there is no room for the sync
pub made_long : (c : Seated) (m : Meter) (k : Option Journaled) (room : ℕ) → room ≡ 0 → 0 < length c.seat.fresh → IsSynced room (kept_with c None m k) (kept_with c (Some TurnFault.Long) m k)
made_long c m k room none some = record {
  ok = λ routes are z. absurd (cc);
  kept = λ routes are z. absurd (cc);
  fits = λ routes are z. absurd (cc);
  long = λ routes are z. let more = sync_event_more (home_in c.network routes c.seat.number) c.seat some in omega (arith, none, more);
  halted = λ routes are e. absurd (cc);
  either = λ e. absurd (cc);
  front = λ e. absurd (cc);
  cause = no_call m (Some TurnFault.Long) (λ z. cc) (λ z. cc);
  same = record { network = refl; number = refl; others = refl };
  plugs = refl;
}

failed_by : {T : Type 0} (m n : Meter) (r : Result T JournalFault) (e : JournalFault) → r ≡ Err e → HasJournalCause m n r → HasTurnCause m n (Some (fault_by e))
failed_by m n r JournalFault.DiskFault h c = record { faults = c.faults; stops = c.stops; quiet = λ z. absurd (cc); calm = λ z. absurd (cc); failed = λ z. c.fault h; stopped = λ z. absurd (cc); spares = λ z. absurd (cc); planned = c.planned }
failed_by m n r JournalFault.Stopped h c = record { faults = c.faults; stops = c.stops; quiet = λ z. absurd (cc); calm = λ z. absurd (cc); failed = λ z. absurd (cc); stopped = λ z. c.stopped h; spares = λ z. c.spares h; planned = c.planned }
failed_by m n r JournalFault.NoMemory h c = record { faults = c.faults; stops = c.stops; quiet = λ z. absurd (cc); calm = λ z. absurd (cc); failed = λ z. absurd (cc); stopped = λ z. absurd (cc); spares = λ z. absurd (cc); planned = c.planned }

not_long : (e : JournalFault) → Some (fault_by e) ≡ Some TurnFault.Long → ⊥
not_long JournalFault.DiskFault z = cc
not_long JournalFault.Stopped z = cc
not_long JournalFault.NoMemory z = cc

-- the journal failed
pub made_failed : {T : Type 0} (room : ℕ) (c : Seated) (m n : Meter) (k j : Option Journaled) (r : Result T JournalFault) (e : JournalFault) → r ≡ Err e → HasJournalCause m n r
    → KeepsOneOf c.seat.fresh k j → first_kept c.seat.synced j ≡ k → IsSynced room (kept_with c None m k) (kept_with c (Some (fault_by e)) n j)
made_failed room c m n k j r e h cause either front = record {
  ok = λ routes are z. no_fault (fault_by e) z;
  kept = λ routes are z. no_fault (fault_by e) z;
  fits = λ routes are z. no_fault (fault_by e) z;
  long = λ routes are z. absurd (not_long e z);
  halted = λ routes are z. refl;
  either = λ z. either;
  front = λ z. front;
  cause = failed_by m n r e h cause;
  same = record { network = refl; number = refl; others = refl };
  plugs = refl;
}

kept_by : {T : Type 0} (m n : Meter) (r : Result T JournalFault) (x : T) (z : Option TurnFault) → r ≡ Ok x → HasJournalCause m n r → (z ≡ Some TurnFault.DiskFault → ⊥) → (z ≡ Some TurnFault.Stopped → ⊥) → HasTurnCause m n z
kept_by {T} m n r x z h c p q =
    let d : HasJournalCause m n (Ok x) = subst (λ (y : Result T JournalFault). HasJournalCause m n y) h c in
    record { faults = c.faults; stops = c.stops; quiet = λ e. d.quiet; calm = λ e. d.calm; failed = λ e. absurd (p e); stopped = λ e. absurd (q e); spares = λ e. absurd (q e); planned = c.planned }

-- it is kept, and memory is wanting then
pub made_lack : {T : Type 0} (room : ℕ) (c d : Seated) (m n : Meter) (k j : Option Journaled) (r : Result T JournalFault) (x : T) → r ≡ Ok x → HasJournalCause m n r → IsSameCore c d
    → IsSynced room (kept_with c None m k) (kept_with d (Some TurnFault.NoMemory) n j)
made_lack room c d m n k j r x h cause s = record {
  ok = λ routes are z. absurd (cc);
  kept = λ routes are z. absurd (cc);
  fits = λ routes are z. absurd (cc);
  long = λ routes are z. absurd (cc);
  halted = λ routes are e. absurd (cc);
  either = λ e. absurd (cc);
  front = λ e. absurd (cc);
  cause = kept_by m n r x (Some TurnFault.NoMemory) h cause (λ z. cc) (λ z. cc);
  same = same_agent c d None (Some TurnFault.NoMemory) m n k j s;
  plugs = s.plugs;
}

-- it is kept, and told
pub made_synced : {T : Type 0} (room : ℕ) (c d : Seated) (m n : Meter) (k j : Option Journaled) (r : Result T JournalFault) (x : T) → r ≡ Ok x → HasJournalCause m n r → Adds c.seat.fresh k j
    → 0 < room → 0 < length c.seat.fresh → AtSeat c (λ h. d.seat ≡ syncs h c.seat) → IsSameCore c d → IsSynced room (kept_with c None m k) (kept_with d None n j)
made_synced room c d m n k j r x h cause adds more some told s = record {
  ok = λ routes are z. told routes are ∙ sym (some_fresh (home_in c.network routes c.seat.number) c.seat some);
  kept = λ routes are z. adds;
  fits = λ routes are z. let one = sync_event_more (home_in c.network routes c.seat.number) c.seat some in omega (arith, one, more);
  long = λ routes are z. absurd (cc);
  halted = λ routes are e. absurd (cc);
  either = λ e. absurd (cc);
  front = λ e. absurd (cc);
  cause = kept_by m n r x None h cause (λ z. cc) (λ z. cc);
  same = same_agent c d None None m n k j s;
  plugs = s.plugs;
}

---- The whole

abbrev pub enters_all : List (ℕ × Parcel) → Home → Seat → Seat
enters_all xs h s = turn_entered h xs s

pub turn_is : (h : Home) (xs : List (ℕ × Parcel)) (s : Seat) → turn_with h xs s ≡ pushed (synced_all h (turn_entered h xs s))
unfolding turn_with
turn_is h xs s = refl

-- a fault before the sync
pub turn_stops : (xs : List (ℕ × Parcel)) (room l : ℕ) (c d : Seated) (z : TurnFault) (m : Meter) (k : Option Journaled) → Goes (enters_all xs) room l c d (Some z)
    → IsTurnWith xs room (kept_with c None m k) (kept_with d (Some z) m k)
turn_stops xs room l c d z m k g = record {
  ok = λ routes are e. no_fault z e;
  kept = λ routes are e. no_fault z e;
  fits = λ routes are e. no_fault z e;
  long = λ routes are e.
      let far : room + count c.seat < count (turn_entered (home_in c.network routes c.seat.number) xs c.seat) = g.long routes are e in
      let all = turn_from_entered (home_in c.network routes c.seat.number) xs c.seat in
      omega (arith, far, all);
  halted = λ routes are e. absurd (g.stopped e);
  either = λ e. absurd (g.stopped e);
  front = λ e. absurd (g.stopped e);
  cause = no_call m (Some z) g.failed g.stopped;
  same = same_agent c d None (Some z) m m k k (same_core c d g.stays);
  plugs = g.stays.plugs;
}

-- a fault in the sync
pub turn_unsynced : (xs : List (ℕ × Parcel)) (room l : ℕ) (a b c : Seated) (z : TurnFault) (m n : Meter) (k j : Option Journaled) → Goes (enters_all xs) room l a b None
    → IsSynced l (kept_with b None m k) (kept_with c (Some z) n j) → IsTurnWith xs room (kept_with a None m k) (kept_with c (Some z) n j)
turn_unsynced xs room l a b c z m n k j g p = record {
  ok = λ routes are e. no_fault z e;
  kept = λ routes are e. no_fault z e;
  fits = λ routes are e. no_fault z e;
  long = λ routes are e.
      let h = home_in a.network routes a.seat.number in
      let far : count b.seat + l < count (synced_all h b.seat) =
      at_before a b (λ o. Some z ≡ Some TurnFault.Long → count b.seat + l < count (synced_all o b.seat)) g.stays p.long routes are e in
      let same = ap (λ (s : Seat). count (synced_all h s)) (g.ok routes are refl) in
      let all = turn_synced h xs a.seat in
      let spent = g.spent refl in
      omega (arith, far, same, all, spent);
  halted = λ routes are e. at_before a b (λ o. Some z ≡ Some TurnFault.Stopped → c.seat ≡ b.seat) g.stays p.halted routes are e ∙ g.ok routes are refl;
  either = p.either;
  front = p.front;
  cause = p.cause;
  same = record { network = p.same.network ∙ g.stays.network; number = p.same.number ∙ g.stays.number; others = p.same.others ∙ g.stays.others };
  plugs = p.plugs ∙ g.stays.plugs;
}

-- memory is wanting for the push
pub turn_unpushed : (xs : List (ℕ × Parcel)) (room l : ℕ) (a b c d : Seated) (m n : Meter) (k j : Option Journaled) → Goes (enters_all xs) room l a b None
    → IsSynced l (kept_with b None m k) (kept_with c None n j) → Stays c d → IsTurnWith xs room (kept_with a None m k) (kept_with d (Some TurnFault.NoMemory) n j)
turn_unpushed xs room l a b c d m n k j g p s = record {
  ok = λ routes are e. absurd (cc);
  kept = λ routes are e. absurd (cc);
  fits = λ routes are e. absurd (cc);
  long = λ routes are e. absurd (cc);
  halted = λ routes are e. absurd (cc);
  either = λ e. absurd (cc);
  front = λ e. absurd (cc);
  cause = record { faults = p.cause.faults; stops = p.cause.stops; quiet = λ e. absurd (cc); calm = λ e. absurd (cc); failed = λ e. absurd (cc); stopped = λ e. absurd (cc); spares = λ e. absurd (cc); planned = p.cause.planned };
  same = record { network = s.network ∙ (p.same.network ∙ g.stays.network); number = s.number ∙ (p.same.number ∙ g.stays.number); others = s.others ∙ (p.same.others ∙ g.stays.others) };
  plugs = s.plugs ∙ (p.plugs ∙ g.stays.plugs);
}

pub turn_made : (xs : List (ℕ × Parcel)) (room l : ℕ) (a b c d : Seated) (m n : Meter) (k j : Option Journaled) → Goes (enters_all xs) room l a b None
    → IsSynced l (kept_with b None m k) (kept_with c None n j) → Stays c d → d.seat ≡ pushed c.seat → IsTurnWith xs room (kept_with a None m k) (kept_with d None n j)
turn_made xs room l a b c d m n k j g p s e = record {
  ok = λ routes are z.
      let h = home_in a.network routes a.seat.number in
      e ∙ (ap pushed (at_before a b (λ o. none ≡ None → c.seat ≡ synced_all o b.seat) g.stays p.ok routes are refl)
      ∙ (ap (λ x. pushed (synced_all h x)) (g.ok routes are refl) ∙ sym (turn_is h xs a.seat)));
  kept = λ routes are z.
      subst (λ (x : Seat). Adds x.fresh k j) (g.ok routes are refl) (at_before a b (λ o. none ≡ None → Adds (unsynced o b.seat).fresh k j) g.stays p.kept routes are refl);
  fits = λ routes are z.
      let h = home_in a.network routes a.seat.number in
      let within : count (synced_all h b.seat) ≤ count b.seat + l =
      at_before a b (λ o. none ≡ None → count (synced_all o b.seat) ≤ count b.seat + l) g.stays p.fits routes are refl in
      let same = ap (λ (x : Seat). count (synced_all h x)) (g.ok routes are refl) in
      let all = turn_synced h xs a.seat in
      let spent = g.spent refl in
      omega (arith, within, same, all, spent);
  long = λ routes are z. absurd (cc);
  halted = λ routes are e. absurd (cc);
  either = λ e. absurd (cc);
  front = λ e. absurd (cc);
  cause = p.cause;
  same = record { network = s.network ∙ (p.same.network ∙ g.stays.network); number = s.number ∙ (p.same.number ∙ g.stays.number); others = s.others ∙ (p.same.others ∙ g.stays.others) };
  plugs = s.plugs ∙ (p.plugs ∙ g.stays.plugs);
}

---- What came is taken

pub turn_gathered : (room : ℕ) (a b : Seated) (xs : List (ℕ × Parcel)) (m : Meter) (k : Option Journaled) (c : Kept) → Stays a b → b.seat ≡ cleared a.seat → xs ≡ lying a.seat.doors
    → IsTurnWith xs room (kept_with b None m k) c → IsTurn room (kept_with a None m k) c
turn_gathered room a b xs m k c s e f t = record {
  ok = λ routes are z.
      at_before a b (λ h. c.fault ≡ None → c.seat ≡ turn_with h xs b.seat) s t.ok routes are z ∙ same routes;
  kept = λ routes are z.
      subst (λ (x : Seat). Adds x.fresh k c.kept) (same_entered routes) (at_before a b (λ h. c.fault ≡ None → Adds (turn_keeps h xs b.seat) k c.kept) s t.kept routes are z);
  fits = λ routes are z.
      let within : count (turn_with (home_in a.network routes a.seat.number) xs b.seat) ≤ count b.seat + room =
      at_before a b (λ h. c.fault ≡ None → count (turn_with h xs b.seat) ≤ count b.seat + room) s t.fits routes are z in
      let these = ap (λ (x : Seat). count x) (same routes) in
      let before = ap (λ (x : Seat). count x) e in
      omega (arith, within, these, before);
  long = λ routes are z.
      let far : count b.seat + room < count (turn_with (home_in a.network routes a.seat.number) xs b.seat) =
      at_before a b (λ h. c.fault ≡ Some TurnFault.Long → count b.seat + room < count (turn_with h xs b.seat)) s t.long routes are z in
      let these = ap (λ (x : Seat). count x) (same routes) in
      let before = ap (λ (x : Seat). count x) e in
      omega (arith, far, these, before);
  halted = λ routes are z.
      at_before a b (λ h. c.fault ≡ Some TurnFault.Stopped → c.seat ≡ turn_entered h xs b.seat) s t.halted routes are z ∙ same_entered routes;
  either = t.either;
  front = t.front;
  cause = t.cause;
  same = record { network = t.same.network ∙ s.network; number = t.same.number ∙ s.number; others = t.same.others ∙ s.others };
  plugs = t.plugs ∙ s.plugs;
} where
  same : (routes : Routes) → turn_with (home_in a.network routes a.seat.number) xs b.seat ≡ turn_with (home_in a.network routes a.seat.number) (lying a.seat.doors) (cleared a.seat)
  same routes = ap (λ ys. turn_with (home_in a.network routes a.seat.number) ys b.seat) f ∙ ap (turn_with (home_in a.network routes a.seat.number) (lying a.seat.doors)) e

  same_entered : (routes : Routes) → turn_entered (home_in a.network routes a.seat.number) xs b.seat ≡ turn_entered (home_in a.network routes a.seat.number) (lying a.seat.doors) (cleared a.seat)
  same_entered routes =
      ap (λ ys. turn_entered (home_in a.network routes a.seat.number) ys b.seat) f ∙ ap (turn_entered (home_in a.network routes a.seat.number) (lying a.seat.doors)) e

pub turn_ungathered : (room : ℕ) (a b : Seated) (m : Meter) (k : Option Journaled) → Stays a b → IsTurn room (kept_with a None m k) (kept_with b (Some TurnFault.NoMemory) m k)
turn_ungathered room a b m k s = record {
  ok = λ routes are e. absurd (cc);
  kept = λ routes are e. absurd (cc);
  fits = λ routes are e. absurd (cc);
  long = λ routes are e. absurd (cc);
  halted = λ routes are e. absurd (cc);
  either = λ e. absurd (cc);
  front = λ e. absurd (cc);
  cause = no_call m (Some TurnFault.NoMemory) (λ z. cc) (λ z. cc);
  same = same_agent a b None (Some TurnFault.NoMemory) m m k k (same_core a b s);
  plugs = s.plugs;
}
