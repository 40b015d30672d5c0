-- The turn of a quiet agent makes nothing.
use Rattle.std.proofs.Common.{ℕ, ◌≡◌, ◌==◌, ◌∷◌, ◌++◌, List, [], true, Option, Some, None, IfSome, is_none, refl, sym, ap, ◌∙◌, subst, arith, length, map}
use Rattle.nsi_primitive.specs.declared.message.Parcel.{Parcel}
use Rattle.nsi_disk.specs.Disk.{Meter}
use Rattle.journal_entry.specs.Journal.{Kept as Journaled, Adds}
use Rattle.nsi_agent.specs.Homes.{Home, home_in}
use Rattle.nsi_agent.specs.Steps.{work_of}
use Rattle.agent_node.specs.Acts.{is_quiet, is_idle, all_idle}
use Rattle.agent_node.specs.Doors.{Door}
use Rattle.agent_node.specs.Passing.{Passing, with_passing, clears, pushes, come_through, lying}
use Rattle.agent_node.specs.Seat.{Seat}
use Rattle.agent_node.specs.Seated.{Seated, AtSeat}
use Rattle.agent_node.specs.Turns.{cleared, takes_all, pushed, synced_all, worked, turn_entered, turned}
use Rattle.agent_node.specs.Kept.{kept_with}
use Rattle.agent_node.specs.Made.{IsTurn, keeps}
use Rattle.agent_node.proofs.Growing.{worked_none}
use Rattle.agent_node.proofs.Pushing.{passes_none}
use Rattle.agent_node.proofs.Making.{adds_none, no_call, no_entries, none_fresh, turn_is}

---- Doors at which nothing is to be pushed and nothing came

none_of : (ps : List Parcel) → (length ps == 0) ≡ true → ps ≡ []
none_of [] e = refl
none_of (p ∷ ps) e = absurd (grind (arith, e))

none_queued : (d : Door) → is_idle d ≡ true → d.queue ≡ []
none_queued d e = none_of d.queue (grind (arith, e))

none_came : (d : Door) → is_idle d ≡ true → d.inc ≡ []
none_came d e = none_of d.inc (grind (arith, e))

first_idle : (d : Door) (ds : List Door) → all_idle (d ∷ ds) ≡ true → is_idle d ≡ true
first_idle d ds e = grind (arith, e)

rest_idle : (d : Door) (ds : List Door) → all_idle (d ∷ ds) ≡ true → all_idle ds ≡ true
rest_idle d ds e = grind (arith, e)

clears_none : (d : Door) → d.inc ≡ [] → clears d ≡ d
clears_none d e = ap (λ (ps : List Parcel). record d { inc = ps }) (sym e)

pushes_none : (d : Door) → d.queue ≡ [] → pushes d ≡ d
pushes_none d e = ap (λ (x : Passing). with_passing x d) (passes_none d.queue d.plan d.out e)

cleared_idle : (ds : List Door) → all_idle ds ≡ true → map clears ds ≡ ds
cleared_idle [] e = refl
cleared_idle (d ∷ ds) e = ap (λ x. x ∷ map clears ds) (clears_none d (none_came d (first_idle d ds e))) ∙ ap (λ xs. d ∷ xs) (cleared_idle ds (rest_idle d ds e))

pushed_idle : (ds : List Door) → all_idle ds ≡ true → map pushes ds ≡ ds
pushed_idle [] e = refl
pushed_idle (d ∷ ds) e = ap (λ x. x ∷ map pushes ds) (pushes_none d (none_queued d (first_idle d ds e))) ∙ ap (λ xs. d ∷ xs) (pushed_idle ds (rest_idle d ds e))

come_none : (d : Door) → d.inc ≡ [] → come_through d ≡ []
come_none d e = ap (map (λ p. (d.other, p))) e

lying_idle : (ds : List Door) → all_idle ds ≡ true → lying ds ≡ []
lying_idle [] e = refl
lying_idle (d ∷ ds) e = ap (λ xs. xs ++ lying ds) (come_none d (none_came d (first_idle d ds e))) ∙ lying_idle ds (rest_idle d ds e)

---- Turns

record Rests (h : Home) (s : Seat) : Type 0 where
  fresh : s.fresh ≡ []
  work : work_of h.role s.state ≡ None
  idle : all_idle s.doors ≡ true

no_work : {A : Type 0} (o : Option A) → is_none o ≡ true → o ≡ None
no_work None e = refl
no_work (Some x) e = absurd (cc)

rests : (h : Home) (s : Seat) → is_quiet h s ≡ true → Rests h s
unfolding is_quiet
rests h s e = record {
  fresh = no_entries s.fresh (grind (arith, e));
  work = no_work (work_of h.role s.state) (grind (arith, e));
  idle = grind (arith, e);
}

takes_none : (h : Home) (s : Seat) → takes_all h [] s ≡ s
unfolding takes_all
takes_none h s = refl

entered_none : (h : Home) (s : Seat) → Rests h s → turn_entered h (lying s.doors) (cleared s) ≡ s
entered_none h s r =
    ap (λ xs. turn_entered h xs (cleared s)) (lying_idle s.doors r.idle)
    ∙ (ap (λ (ds : List Door). turn_entered h [] (record s { doors = ds })) (cleared_idle s.doors r.idle)
    ∙ (ap (worked h) (takes_none h s) ∙ worked_none h s r.work))

turned_quiet : (h : Home) (s : Seat) → Rests h s → turned h s ≡ s
turned_quiet h s r =
    turn_is h (lying s.doors) (cleared s)
    ∙ (ap (λ x. pushed (synced_all h x)) (entered_none h s r)
    ∙ (ap pushed (none_fresh h s r.fresh) ∙ ap (λ (ds : List Door). record s { doors = ds }) (pushed_idle s.doors r.idle)))

keeps_none : (h : Home) (s : Seat) → Rests h s → keeps h s ≡ []
keeps_none h s r = ap (λ (x : Seat). x.fresh) (entered_none h s r) ∙ r.fresh

-- a quiet agent may as well make no turn
pub made_quiet : (room : ℕ) (c : Seated) (m : Meter) (k : Option Journaled) → AtSeat c (λ h. is_quiet h c.seat ≡ true) → IfSome k (λ x. x.waiting ≡ []) → IsTurn room (kept_with c None m k) (kept_with c None m k)
made_quiet room c m k quiet w = record {
  ok = λ routes are z. sym (turned_quiet (home_in c.network routes c.seat.number) c.seat (rests_at routes are));
  kept = λ routes are z. subst (λ es. Adds es k k) (sym (keeps_none (home_in c.network routes c.seat.number) c.seat (rests_at routes are))) (adds_none k w);
  fits = λ routes are z. let same = ap (λ (s : Seat). length s.events) (turned_quiet (home_in c.network routes c.seat.number) c.seat (rests_at routes are)) in omega (arith, same);
  long = λ routes are z. absurd (cc);
  halted = λ routes are z. absurd (cc);
  either = λ z. absurd (cc);
  front = λ z. absurd (cc);
  cause = no_call m None (λ z. cc) (λ z. cc);
  same = record { network = refl; number = refl; others = refl };
  plugs = refl;
} where
  rests_at : AtSeat c (λ h. Rests h c.seat)
  rests_at routes are = rests (home_in c.network routes c.seat.number) c.seat (quiet routes are)
