-- Agents whose links are bounded stay so, whatever is played with them.
use Rattle.std.proofs.Common.{map, ℕ, ◌<◌, ◌≡◌, ◌⊎◌, inl, inr, ap₂, false, List, [], ◌∷◌, ◌++◌, refl, sym, ap, ◌∙◌, subst, arith, length, length-append}
use Rattle.nsi_primitive.specs.declared.entry.Event.{Event}
use Rattle.nsi_play.specs.Rounds.{Net, Homes, round, events_of, all_quiet}
use Rattle.stp_topology.specs.declared.network.Network.{Network}
use Rattle.nsi_script.specs.declared.script.Act.{Act}
use Rattle.nsi_agent.specs.Homes.{Home, Routes, AreRoutes, home_in}
use Rattle.agent_node.specs.Seat.{Seat}
use Rattle.agent_node.specs.Restarts.{drops, reads}
use Rattle.agent_node.specs.Kept.{Kept}
use Rattle.quiet_rounds.specs.Bounded.{numbers, IsBoundedIn, IsBounded}
use Rattle.quiet_rounds.proofs.Ends.{HasSameEnds, bare, same_ends, bare_said, bounded_same}
use Rattle.nsi_primitive.specs.declared.entry.Entry.{Entry}
use Rattle.nsi_agent.specs.Told.{told}
use Rattle.agent_node.specs.Doors.{Door}
use Rattle.agent_threads.specs.Nets.{seats, EachIs, AreOf}
use Rattle.agent_threads.specs.Made.{DoesAct, RestartsAt}
use Rattle.agent_threads.proofs.Same.{at_home}
use Rattle.agent_threads.proofs.Draining.{part_acted}
use Rattle.std.specs.List.{All}
use Rattle.std.proofs.lemmas.Bool.{cases_eq}
use Rattle.std.proofs.lemmas.List.Elements.{All-cons, All-head, All-tail}
use Rattle.quiet_rounds.specs.Left.{left}
use Rattle.quiet_rounds.specs.Laws.{StepsKeepBounds, LeftFalls, TellingLeaves}
use Rattle.agent_threads.specs.Coming.{IsTold}
use Rattle.std.specs.Prelude.{None, Some}
use Rattle.least_routes.specs.Laws.{RoutesExist}
use Rattle.agent_node.specs.declared.fault.TurnFault.{TurnFault}
use Rattle.agent_node.specs.Reopening.{IsReopened}
use Rattle.agent_threads.specs.Stopping.{MayGoOn, MayAllGoOn, RestartsStopped, Emptied}

---- Restarts

-- an agent with the same ends of its links
abbrev pub SameEnds : Kept → Kept → Type 0
SameEnds old new = HasSameEnds old.seat new.seat

same_numbers : (xs ys : List Kept) → EachIs SameEnds xs ys → numbers (seats ys) ≡ numbers (seats xs)
same_numbers [] [] e = refl
same_numbers [] (y ∷ ys) e = absurd e
same_numbers (x ∷ xs) [] e = absurd e
same_numbers (x ∷ xs) (y ∷ ys) e = ap₂ ◌∷◌ e.0.number (same_numbers xs ys e.1)

ends_bounded_in : (ns : List ℕ) (xs ys : List Kept) → EachIs SameEnds xs ys → All (IsBoundedIn ns) (seats xs) → All (IsBoundedIn ns) (seats ys)
ends_bounded_in ns [] [] e h = h
ends_bounded_in ns [] (y ∷ ys) e h = absurd e
ends_bounded_in ns (x ∷ xs) [] e h = absurd e
ends_bounded_in ns (x ∷ xs) (y ∷ ys) e h =
    All-cons (IsBoundedIn ns) y.seat (seats ys) (bounded_same ns x.seat y.seat e.0 (All-head (IsBoundedIn ns) x.seat (seats xs) h)) (ends_bounded_in ns xs ys e.1 (All-tail (IsBoundedIn ns) x.seat (seats xs) h))

pub ends_bounded : (xs ys : List Kept) → EachIs SameEnds xs ys → IsBounded (seats xs) → IsBounded (seats ys)
ends_bounded xs ys e h = subst (λ (ns : List ℕ). All (IsBoundedIn ns) (seats ys)) (sym (same_numbers xs ys e)) (ends_bounded_in (numbers (seats xs)) xs ys e h)

bare_dropped : (ds : List Door) → map bare (map drops ds) ≡ map bare ds
bare_dropped [] = refl
bare_dropped (d ∷ ds) = ap (λ (es : List Door). bare d ∷ es) (bare_dropped ds)

pub same_reads : (h : Home) (tries : ℕ) (es : List Entry) (s : Seat) → HasSameEnds s (reads h tries es s)
unfolding reads
same_reads h tries es s = record { number = refl; ends = bare_said h.agent_of (told h es).state.base.waiting (map drops s.doors) ∙ bare_dropped s.doors }

restarts_same : (a : ℕ) (xs ys : List Kept) → EachIs (RestartsAt a) xs ys → (t : Network) → AreOf t xs → (routes : Routes) → AreRoutes t routes → EachIs SameEnds xs ys
restarts_same a [] [] p t o routes r = tt
restarts_same a [] (y ∷ ys) p t o routes r = absurd p
restarts_same a (x ∷ xs) [] p t o routes r = absurd p
restarts_same a (x ∷ xs) (y ∷ ys) p t o routes r = (one (cases_eq x.seat.number a), restarts_same a xs ys p.1 t o.1 routes r)
  where
    one : (x.seat.number ≡ a) ⊎ (x.seat.number ≡ a → ⊥) → HasSameEnds x.seat y.seat
    one (inl e) =
        let q = (p.0.here e).reread in
        let h = home_in t routes x.seat.number in
        subst (λ (s : Seat). HasSameEnds x.seat s) (sym (at_home t x (λ z. y.seat ≡ reads z q.tries q.entries x.seat) o.0 q.seat routes r)) (same_reads h q.tries q.entries x.seat)
    one (inr m) = subst (λ (k : Kept). HasSameEnds x.seat k.seat) (sym (p.0.there m)) (same_ends x.seat)

stopped_same : RoutesExist → (xs ys : List Kept) → EachIs RestartsStopped xs ys → MayAllGoOn xs → EachIs SameEnds xs ys
stopped_same exist [] [] p u = tt
stopped_same exist [] (y ∷ ys) p u = absurd p
stopped_same exist (x ∷ xs) [] p u = absurd p
stopped_same exist (x ∷ xs) (y ∷ ys) p u = (one u.0, stopped_same exist xs ys p.1 u.1)
  where
    not_stopped : None ≡ Some TurnFault.Stopped → ⊥
    not_stopped e = absurd (cc)

    one : MayGoOn x → HasSameEnds x.seat y.seat
    one (inl f) = subst (λ (k : Kept). HasSameEnds x.seat k.seat) (sym (p.0.there (λ e. absurd (not_stopped (sym f ∙ e))))) (same_ends x.seat)
    one (inr f) =
        let q : IsReopened x y = (p.0.here f).reopened in
        let r = exist x.network in
        subst (λ (s : Seat). HasSameEnds x.seat s) (sym (q.seat r.0 r.1)) (same_reads (home_in x.network r.0 x.seat.number) q.tries q.entries x.seat)

emptied_ends : (xs ys : List Kept) → EachIs Emptied xs ys → EachIs SameEnds xs ys
emptied_ends [] [] e = tt
emptied_ends [] (y ∷ ys) e = absurd e
emptied_ends (x ∷ xs) [] e = absurd e
emptied_ends (x ∷ xs) (y ∷ ys) e = (subst (λ (k : Kept). HasSameEnds x.seat k.seat) (sym e.0) (record { number = refl; ends = refl }), emptied_ends xs ys e.1)

-- those whose disks had stopped leave no link with more than it had
pub reopened_bounded : RoutesExist → (xs ys zs : List Kept) → EachIs RestartsStopped xs ys → MayAllGoOn xs → EachIs Emptied ys zs → IsBounded (seats xs) → IsBounded (seats zs)
reopened_bounded exist xs ys zs p u e h = ends_bounded ys zs (emptied_ends ys zs e) (ends_bounded xs ys (stopped_same exist xs ys p u) h)

-- an act leaves no link with more than it had
pub act_bounded : StepsKeepBounds → (act : Act) (n : ℕ) (xs ys : List Kept) → EachIs (DoesAct act n) xs ys → (t : Network) → AreOf t xs → (routes : Routes) → AreRoutes t routes → IsBounded (seats xs) → IsBounded (seats ys)
act_bounded keep (Act.Ask a ask) n xs ys p t o routes r h =
    let homes = home_in t routes in
    subst (λ (net : Net). IsBounded net) (sym (part_acted (Act.Ask a ask) tt n false xs ys p t o routes r)) ((keep homes (seats xs) h).acts (Act.Ask a ask) n)
act_bounded keep (Act.Force a k) n xs ys p t o routes r h =
    let homes = home_in t routes in
    subst (λ (net : Net). IsBounded net) (sym (part_acted (Act.Force a k) tt n false xs ys p t o routes r)) ((keep homes (seats xs) h).acts (Act.Force a k) n)
act_bounded keep (Act.Restart a) n xs ys p t o routes r h = ends_bounded xs ys (restarts_same a xs ys p t o routes r) h

---- Rounds in which nothing happens

no_more : (before own : List Event) → length (before ++ own) ≡ length before → own ≡ []
no_more before [] h = refl
no_more before (e ∷ es) h = absurd (omega (arith, h, length-append before (e ∷ es)))

-- behind a round in which nothing happened there is less left
pub falls_told : LeftFalls → TellingLeaves → (homes : Homes) (x y : Net) (before events : List Event) →
    IsBounded x → all_quiet homes x ≡ false → IsTold (round homes x) before events y → length events ≡ length before → left y < left x
falls_told falls told homes x y before events h noisy t same =
    let none = no_more before (events_of (round homes x)) (sym (ap length t.told) ∙ same) in
    let less = falls homes x h noisy none in
    let is : left y ≡ left (round homes x) = ap left t.rest ∙ told (round homes x) in
    omega (arith, less, is)
