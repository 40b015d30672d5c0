-- What is synced in a world is a front of whatever a crash leaves in every later one.
use Rattle.std.proofs.Common.{ℕ, ◌≤◌, ◌≡◌, List, [], ◌∷◌, ◌++◌, sym, ap, ◌∙◌, subst, arith, length, length-append, take, drop, take-append-drop, le_trans}
use Rattle.std.proofs.lemmas.List.{take-take, take-append-le, length-take-le}
use Rattle.nsi_primitive.specs.declared.entry.Entry.{Entry}
use Rattle.nsi_primitive.specs.declared.entry.Event.{Event}
use Rattle.nsi_agent.specs.Told.{told}
use Rattle.nsi_world.specs.Worlds.{Homes, World, empty, synced_part}
use Rattle.nsi_world.specs.Runs.{world_after, AreAllowed}
use Rattle.run_growth.specs.Growth.{HasGrown}
use Rattle.run_growth.specs.AgentLaws.{EntriesLeaveAll}
use Rattle.run_growth.specs.Cuts.{IsCutOf}
use Rattle.run_growth.specs.Laws.{SyncedStays}
use Rattle.run_growth.proofs.Worlds.{OfJournal, Keeps, by_journal, after_append, allowed_front, allowed_rest}

-- no more is synced than there is
abbrev IsWithin : OfJournal
IsWithin es synced = synced ≤ length es

within_keeps : (homes : Homes) (a : ℕ) → Keeps homes a IsWithin
within_keeps homes a =
    record {
      entry = λ w e answer is may p. omega (arith, length-append (w.journal a) (e ∷ []), p);
      sync = λ es old new e p. omega (arith, e);
      restart = λ es old new low high p. omega (arith, length-take-le new es high);
    }

-- the entries go on from a front
record GoesOnFrom (front : List Entry) (es : List Entry) (synced : ℕ) : Type 0 where
  within : synced ≤ length es
  most : length front ≤ synced
  is : take (length front) es ≡ front

from_keeps : (homes : Homes) (a : ℕ) (front : List Entry) → Keeps homes a (GoesOnFrom front)
from_keeps homes a front =
    record {
      entry = λ w e answer is may p. record {
        within = omega (arith, length-append (w.journal a) (e ∷ []), p.within);
        most = p.most;
        is = take-append-le (length front) (w.journal a) (e ∷ []) (le_trans p.most p.within) ∙ p.is;
      };
      sync = λ es old new e p. record { within = omega (arith, e); most = omega (arith, e, p.most, p.within); is = p.is };
      restart = λ es old new low high p. record {
        within = omega (arith, length-take-le new es high);
        most = le_trans p.most low;
        is = take-take (length front) new es (le_trans p.most low) ∙ p.is;
      };
    }

---- Two worlds of a run

module _ (homes : Homes) (earlier later : List Event) (run : AreAllowed homes empty (earlier ++ later)) (a : ℕ) where
  abbrev w : World
  w = world_after empty earlier

  abbrev v : World
  v = world_after empty (earlier ++ later)

  pub within_earlier : w.synced a ≤ length (w.journal a)
  within_earlier = by_journal homes a IsWithin (within_keeps homes a) empty earlier (allowed_front homes empty earlier later run) (omega arith)

  synced_length : length (synced_part w a) ≡ w.synced a
  synced_length = length-take-le (w.synced a) (w.journal a) within_earlier

  begins : GoesOnFrom (synced_part w a) (w.journal a) (w.synced a)
  begins = record { within = within_earlier; most = omega (arith, synced_length); is = ap (λ n. take n (w.journal a)) synced_length }

  goes_on : GoesOnFrom (synced_part w a) (v.journal a) (v.synced a)
  goes_on =
      subst (λ (u : World). GoesOnFrom (synced_part w a) (u.journal a) (u.synced a)) (sym (after_append empty earlier later))
      (by_journal homes a (GoesOnFrom (synced_part w a)) (from_keeps homes a (synced_part w a)) w later (allowed_rest homes empty earlier later run) begins)

  -- what is synced, and behind it the rest of the cut
  pub cut_goes_on : (k : ℕ) → IsCutOf v a k → synced_part w a ++ drop (length (synced_part w a)) (take k (v.journal a)) ≡ take k (v.journal a)
  cut_goes_on k c =
      let n : ℕ = length (synced_part w a) in
      let front : take n (take k (v.journal a)) ≡ synced_part w a = take-take n k (v.journal a) (le_trans goes_on.most c.synced) ∙ goes_on.is in
      ap (λ (es : List Entry). es ++ drop n (take k (v.journal a))) (sym front) ∙ take-append-drop n (take k (v.journal a))

pub synced_stays : EntriesLeaveAll → SyncedStays
synced_stays leave homes earlier later run a k c =
    let front : List Entry = synced_part (world_after empty earlier) a in
    let whole : List Entry = take k ((world_after empty (earlier ++ later)).journal a) in
    subst (λ (es : List Entry). HasGrown (told (homes a) front).state (told (homes a) es).state) (cut_goes_on homes earlier later run a k c)
    (leave (homes a) front (drop (length front) whole))
