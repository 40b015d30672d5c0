-- Agents whose disks had stopped go on.
use Rattle.std.proofs.Common.{ℕ, ◌≤◌, ◌≡◌, inl, inr, true, false, List, [], ◌∷◌, ◌++◌, Some, None, refl, sym, ap, ◌∙◌, subst, arith, length}
use Rattle.std.specs.Prelude.{Result, Ok, Err, OnOk, OnErr, IfErr}
use Rattle.stp_topology.specs.declared.network.Network.{Network}
use Rattle.nsi_agent.specs.Homes.{Routes, AreRoutes, home_in}
use Rattle.agent_node.specs.declared.fault.TurnFault.{TurnFault}
use Rattle.least_routes.specs.Laws.{RoutesExist}
use Rattle.agent_node.specs.Seat.{Seat}
use Rattle.quiet_rounds.specs.Bounded.{IsBounded}
use Rattle.quiet_rounds.proofs.Ends.{HasSameEnds, same_ends}
use Rattle.agent_node.specs.Reopening.{IsReopened, HasRisen as HasCountRisen}
use Rattle.agent_node.specs.Kept.{Kept}
use Rattle.nsi_play.specs.Rounds.{Homes}
use Rattle.agent_threads.specs.declared.fault.RunFault.{RunFault}
use Rattle.agent_threads.specs.Nets.{seats, numbers, EachIs, AreOf, IsOneOf, AreUsable, AreNet}
use Rattle.agent_threads.specs.Bounds.{MovesOn}
use Rattle.agent_threads.specs.Made.{PutsBack, LosesOne, ShelfCounts, HaveRisen, KeepsShelf, HasRestartCause, HasGoOnCause}
use Rattle.agent_threads.specs.Stopping.{is_stopped, MayGoOn, MayAllGoOn, AreHalted, WasOwned, WereOwned, AtOwnedBefore, GoesOnAgain, RestartsStopped, Emptied}
use Rattle.agent_threads.proofs.Same.{KeepsLinks, links_same, still_apart, still_wired}
use Rattle.agent_threads.proofs.Moving.{moves_self}
use Rattle.agent_threads.proofs.Stopping.{usable_not_stopped}
use Rattle.agent_threads.proofs.Wires.{each_more}
use Rattle.agent_threads.proofs.Bounding.{SameEnds, ends_bounded, same_reads}
use Rattle.agent_threads.proofs.Restarting.{of_front, of_last, one_front, one_last, put_length, lost_length, more_length}

---- A list with one more behind it

pub going_front : (ks : List Kept) (k : Kept) → MayAllGoOn (ks ++ k ∷ []) → MayAllGoOn ks
going_front [] k u = tt
going_front (x ∷ xs) k u = (u.0, going_front xs k u.1)

pub going_last : (ks : List Kept) (k : Kept) → MayAllGoOn (ks ++ k ∷ []) → MayGoOn k
going_last [] k u = u.0
going_last (x ∷ xs) k u = going_last xs k u.1

were_front : (homes : Homes) (ks : List Kept) (k : Kept) → WereOwned homes (ks ++ k ∷ []) → WereOwned homes ks
were_front homes [] k w = tt
were_front homes (x ∷ xs) k w = (w.0, were_front homes xs k w.1)

were_last : (homes : Homes) (ks : List Kept) (k : Kept) → WereOwned homes (ks ++ k ∷ []) → WasOwned homes k
were_last homes [] k w = w.0
were_last homes (x ∷ xs) k w = were_last homes xs k w.1

---- The last of them

not_stopped : (k : Kept) → MayGoOn k → is_stopped k.fault ≡ false → k.fault ≡ None
not_stopped k (inl f) e = f
not_stopped k (inr f) e = absurd (true_false (sym (ap is_stopped f) ∙ e))
  where
    true_false : true ≡ false → ⊥
    true_false q = absurd (cc)

pub has_stopped : (k : Kept) → MayGoOn k → is_stopped k.fault ≡ true → k.fault ≡ Some TurnFault.Stopped
has_stopped k (inr f) e = f
has_stopped k (inl f) e = absurd (false_true (sym (ap is_stopped f) ∙ e))
  where
    false_true : false ≡ true → ⊥
    false_true q = absurd (cc)

stays_usable : (k : Kept) → k.fault ≡ None → RestartsStopped k k
stays_usable k f = record { here = λ q. absurd (usable_not_stopped k.fault f q); there = λ m. refl; usable = f }

-- its disk hadn't stopped, and it is as it was
pub stays_behind : (ks ms : List Kept) (k : Kept) (olds news : List Kept) → olds ≡ ks ++ k ∷ [] → news ≡ ms ++ k ∷ [] → MayAllGoOn olds → is_stopped k.fault ≡ false → EachIs RestartsStopped ks ms → EachIs RestartsStopped olds news
stays_behind ks ms k olds news e f u s p =
    let whole : EachIs RestartsStopped (ks ++ k ∷ []) (ms ++ k ∷ []) = each_more RestartsStopped ks ms k k p (stays_usable k (not_stopped k (going_last ks k (subst MayAllGoOn e u)) s)) in
    subst (λ (xs : List Kept). EachIs RestartsStopped xs news) (sym e) (subst (λ (ys : List Kept). EachIs RestartsStopped (ks ++ k ∷ []) ys) (sym f) whole)

-- it had, and it goes on
pub goes_behind : (ks ms : List Kept) (k : Kept) (olds news : List Kept) → olds ≡ ks ++ k ∷ [] → k.fault ≡ Some TurnFault.Stopped → EachIs RestartsStopped ks ms → PutsBack GoesOnAgain k ms news → EachIs RestartsStopped olds news
goes_behind ks ms k olds news e s p q =
    let here : RestartsStopped k q.0 = record { here = λ _. q.2; there = λ m. absurd (m s); usable = q.2.reopened.fault } in
    let whole : EachIs RestartsStopped (ks ++ k ∷ []) (ms ++ q.0 ∷ []) = each_more RestartsStopped ks ms k q.0 p here in
    subst (λ (xs : List Kept). EachIs RestartsStopped xs news) (sym e) (subst (λ (ys : List Kept). EachIs RestartsStopped (ks ++ k ∷ []) ys) (sym q.1) whole)

pub few_again : {T : Type 0} (r : Result T RunFault) (ks ms : List Kept) (k : Kept) (olds news : List Kept) (c d : ShelfCounts) → olds ≡ ks ++ k ∷ [] → length ms ≤ length ks → OnOk r (PutsBack GoesOnAgain k ms news) → OnErr r (LosesOne k ms news c d)
    → length news ≤ length olds
few_again (Ok x) ks ms k olds news c d e a p q = omega (arith, a, more_length ks k olds e, put_length GoesOnAgain ms k news p)
few_again (Err x) ks ms k olds news c d e a p q = omega (arith, a, more_length ks k olds e, lost_length ms k news c d q)

pub few_more : (ks ms : List Kept) (k : Kept) (olds news : List Kept) → olds ≡ ks ++ k ∷ [] → news ≡ ms ++ k ∷ [] → length ms ≤ length ks → length news ≤ length olds
few_more ks ms k olds news e f h = omega (arith, h, more_length ks k olds e, more_length ms k news f)

---- Why they don't go on

risen_before : (b c d : ShelfCounts) → c.faults ≡ b.faults → HaveRisen c d → HaveRisen b d
risen_before b c d p h = subst (λ (n : ℕ). HasCountRisen n d.faults) p h

untold_behind : (ks : List Kept) (k : Kept) (olds : List Kept) → olds ≡ ks ++ k ∷ [] → ((routes : Routes) → AreRoutes k.network routes → WasOwned (home_in k.network routes) k → ⊥) → AtOwnedBefore olds (λ homes. ⊥)
untold_behind ks k olds e none t o routes r w =
    let of : k.network ≡ t = of_last t ks k (subst (λ (xs : List Kept). AreOf t xs) e o) in
    let own : WasOwned (home_in t routes) k = were_last (home_in t routes) ks k (subst (λ (xs : List Kept). WereOwned (home_in t routes) xs) e w) in
    none routes (subst (λ (u : Network). AreRoutes u routes) (sym of) r) (subst (λ (u : Network). WasOwned (home_in u routes) k) (sym of) own)

-- the last one doesn't
pub cause_last : (ks : List Kept) (k : Kept) (olds : List Kept) (c d : ShelfCounts) (e : RunFault) → olds ≡ ks ++ k ∷ [] → HasRestartCause k c d e → HasGoOnCause olds c d e
cause_last ks k olds c d RunFault.Long is h = absurd h
cause_last ks k olds c d RunFault.WriteFault is h = absurd h
cause_last ks k olds c d (RunFault.DiskFault a) is h = (subst (λ (xs : List Kept). IsOneOf a (numbers (seats xs))) (sym is) (one_last a ks k h.0), h.1)
cause_last ks k olds c d (RunFault.NotAJournal a place) is h = (subst (λ (xs : List Kept). IsOneOf a (numbers (seats xs))) (sym is) (one_last a ks k h.0), untold_behind ks k olds is h.1)
cause_last ks k olds c d RunFault.NoMemory is h = tt

-- one before it doesn't
pub cause_front : (ks : List Kept) (k : Kept) (olds : List Kept) (c d : ShelfCounts) (e : RunFault) → olds ≡ ks ++ k ∷ [] → HasGoOnCause ks c d e → HasGoOnCause olds c d e
cause_front ks k olds c d RunFault.Long is h = tt
cause_front ks k olds c d RunFault.WriteFault is h = tt
cause_front ks k olds c d (RunFault.DiskFault a) is h = (subst (λ (xs : List Kept). IsOneOf a (numbers (seats xs))) (sym is) (one_front a ks k h.0), h.1)
cause_front ks k olds c d (RunFault.NotAJournal a place) is h = (
  subst (λ (xs : List Kept). IsOneOf a (numbers (seats xs))) (sym is) (one_front a ks k h.0),
  λ t o routes r w. h.1 t (of_front t ks k (subst (λ (xs : List Kept). AreOf t xs) is o)) routes r (were_front (home_in t routes) ks k (subst (λ (xs : List Kept). WereOwned (home_in t routes) xs) is w)),
)
cause_front ks k olds c d RunFault.NoMemory is h = tt

-- the counts were the same before
pub cause_again : {T : Type 0} (r : Result T RunFault) (ks : List Kept) (k : Kept) (olds : List Kept) (b c d : ShelfCounts) → olds ≡ ks ++ k ∷ [] → c.faults ≡ b.faults → c.stops ≡ b.stops → IfErr r (HasRestartCause k c d) → IfErr r (HasGoOnCause olds b d)
cause_again (Ok x) ks k olds b c d is e f h = tt
cause_again (Err x) ks k olds b c d is e f h = cause_last ks k olds b d x is (restart_before k b c d x e f h)
  where
    restart_before : (k : Kept) (b c d : ShelfCounts) (e : RunFault) → c.faults ≡ b.faults → c.stops ≡ b.stops → HasRestartCause k c d e → HasRestartCause k b d e
    restart_before k b c d RunFault.Long p q h = h
    restart_before k b c d RunFault.WriteFault p q h = h
    restart_before k b c d (RunFault.DiskFault a) p q h = (h.0, risen_before b c d p h.1)
    restart_before k b c d (RunFault.NotAJournal a place) p q h = h
    restart_before k b c d RunFault.NoMemory p q h = h

pub shelf_again : {T : Type 0} (r : Result T RunFault) (b c d : ShelfCounts) → c.faults ≡ b.faults → c.stops ≡ b.stops → KeepsShelf c d r → KeepsShelf b d r
shelf_again (Ok x) b c d e f k = record {
  faults = let h = k.faults in omega (arith, e, h);
  stops = let h = k.stops in omega (arith, f, h);
  quiet = k.quiet ∙ e;
  calm = k.calm ∙ f;
}
shelf_again (Err x) b c d e f k = record {
  faults = let h = k.faults in omega (arith, e, h);
  stops = let h = k.stops in omega (arith, f, h);
  quiet = tt;
  calm = tt;
}

---- All of them

pub stopped_links : (xs ys : List Kept) → EachIs RestartsStopped xs ys → MayAllGoOn xs → EachIs KeepsLinks xs ys
stopped_links [] [] p u = tt
stopped_links [] (y ∷ ys) p u = absurd p
stopped_links (x ∷ xs) [] p u = absurd p
stopped_links (x ∷ xs) (y ∷ ys) p u = (one u.0, stopped_links xs ys p.1 u.1)
  where
    self : KeepsLinks x x
    self = record { same = record { network = refl; number = refl; others = refl; faults = refl; stops = omega arith; planned = refl }; plugs = refl }

    one : MayGoOn x → KeepsLinks x y
    one (inl f) = subst (λ (k : Kept). KeepsLinks x k) (sym (p.0.there (usable_not_stopped x.fault f))) self
    one (inr f) =
        let q : IsReopened x y = (p.0.here f).reopened in
        record { same = record { network = q.same.network; number = q.same.number; others = q.same.others; faults = q.counts.faults; stops = let n = q.counts.stops in omega (arith, n); planned = q.counts.planned }; plugs = q.plugs }

pub stopped_usable : (xs ys : List Kept) → EachIs RestartsStopped xs ys → AreUsable ys
stopped_usable [] [] p = tt
stopped_usable [] (y ∷ ys) p = absurd p
stopped_usable (x ∷ xs) [] p = absurd p
stopped_usable (x ∷ xs) (y ∷ ys) p = (p.0.usable, stopped_usable xs ys p.1)

pub stopped_net : (xs ys : List Kept) → EachIs RestartsStopped xs ys → AreHalted xs → AreNet ys
stopped_net xs ys p h =
    let links = stopped_links xs ys p h.going in
    record { usable = stopped_usable xs ys p; apart = still_apart xs ys (links_same xs ys links) h.apart; wired = still_wired xs ys links h.wired }

pub stopped_move : (xs ys : List Kept) → EachIs RestartsStopped xs ys → MayAllGoOn xs → EachIs (MovesOn 0) xs ys
stopped_move [] [] p u = tt
stopped_move [] (y ∷ ys) p u = absurd p
stopped_move (x ∷ xs) [] p u = absurd p
stopped_move (x ∷ xs) (y ∷ ys) p u = (one u.0, stopped_move xs ys p.1 u.1)
  where
    one : MayGoOn x → MovesOn 0 x y
    one (inl f) = subst (λ (k : Kept). MovesOn 0 x k) (sym (p.0.there (usable_not_stopped x.fault f))) (moves_self 0 x.seat)
    one (inr f) = (p.0.here f).moves

---- The ends of their links

stopped_ends : RoutesExist → (xs ys : List Kept) → EachIs RestartsStopped xs ys → MayAllGoOn xs → EachIs SameEnds xs ys
stopped_ends exist [] [] p u = tt
stopped_ends exist [] (y ∷ ys) p u = absurd p
stopped_ends exist (x ∷ xs) [] p u = absurd p
stopped_ends exist (x ∷ xs) (y ∷ ys) p u = (one u.0, stopped_ends exist xs ys p.1 u.1)
  where
    one : MayGoOn x → HasSameEnds x.seat y.seat
    one (inl f) = subst (λ (k : Kept). HasSameEnds x.seat k.seat) (sym (p.0.there (usable_not_stopped x.fault f))) (same_ends x.seat)
    one (inr f) =
        let q : IsReopened x y = (p.0.here f).reopened in
        let r = exist x.network in
        subst (λ (s : Seat). HasSameEnds x.seat s) (sym (q.seat r.0 r.1)) (same_reads (home_in x.network r.0 x.seat.number) q.tries q.entries x.seat)

emptied_ends : (xs ys : List Kept) → EachIs Emptied xs ys → EachIs SameEnds xs ys
emptied_ends [] [] e = tt
emptied_ends [] (y ∷ ys) e = absurd e
emptied_ends (x ∷ xs) [] e = absurd e
emptied_ends (x ∷ xs) (y ∷ ys) e = (subst (λ (k : Kept). HasSameEnds x.seat k.seat) (sym e.0) (record { number = refl; ends = refl }), emptied_ends xs ys e.1)

-- no link holds more than it held
pub reopened_bounded : RoutesExist → (xs ys zs : List Kept) → EachIs RestartsStopped xs ys → MayAllGoOn xs → EachIs Emptied ys zs → IsBounded (seats xs) → IsBounded (seats zs)
reopened_bounded exist xs ys zs p u e h = ends_bounded ys zs (emptied_ends ys zs e) (ends_bounded xs ys (stopped_ends exist xs ys p u) h)
