-- Agents that go on from their journals.
use Rattle.std.proofs.Common.{ℕ, zero, suc, ◌+◌, ◌≤◌, ◌≡◌, ◌&&◌, nat_le, Bool, true, false, List, [], ◌∷◌, ◌++◌, ◌⊎◌, Option, Some, None, inl, inr, refl, sym, ap, ◌∙◌, subst, arith, length, length-append}
use Rattle.std.specs.Prelude.{IfSome, Result, Ok, Err, OnOk, OnErr}
use Rattle.std.proofs.lemmas.Bool.Decides.{nat_tests}
use Rattle.std.proofs.lemmas.Bool.{cases_eq}
use Rattle.nsi_primitive.specs.declared.entry.Entry.{Entry}
use Rattle.journal_entry.specs.Journal.{Kept as Journaled}
use Rattle.agent_state.specs.State.{AgentState, AgentStepped, blank_agent}
use Rattle.stp_topology.specs.declared.network.Network.{Network}
use Rattle.stp_topology.specs.Network.{name_of}
use Rattle.least_routes.specs.Laws.{RoutesExist}
use Rattle.nsi_script.specs.declared.script.Act.{Act}
use Rattle.nsi_agent.specs.Homes.{Home, AreRoutes, home_in}
use Rattle.nsi_agent.specs.Steps.{after, may_take_as}
use Rattle.nsi_agent.specs.Told.{Told, told, goes_on}
use Rattle.nsi_agent.proofs.Staying.{entries_are_taken, others_are_left_out}
use Rattle.nsi_agent.proofs.Telling.{telling_is_in_parts, clocks_rise}
use Rattle.agent_node.specs.Seat.{Seat}
use Rattle.agent_node.specs.Restarts.{reads, restart_event, restart_events}
use Rattle.agent_node.specs.declared.fault.TurnFault.{TurnFault}
use Rattle.agent_node.specs.Reopening.{IsReread, IsReopened, AreEither}
use Rattle.agent_node.specs.Kept.{Kept, first_kept}
use Rattle.agent_node.specs.Made.{AtHome}
use Rattle.agent_threads.specs.declared.fault.RunFault.{RunFault}
use Rattle.agent_threads.specs.Nets.{seats, numbers, EachIs, AreOf, AtHomes, AreSame, AreUsable, AreNet, IsOwned, AreOwned, IsAbsent, IsOneOf, AreAmong, AreListed, HasAsMany}
use Rattle.agent_threads.specs.Bounds.{MovesOn, AreBy}
use Rattle.agent_threads.specs.Promise.{Shows}
use Rattle.std.proofs.lemmas.List.Elements.{All-head}
use Rattle.agent_threads.specs.Made.{Does, DoesAct, IsRestarted, RestartsAt, part_in, PutsBack, LosesOne, ShelfCounts, HasFailed, AreUntold, IsUntold, HasRestartCause, HasRunCause}
use Rattle.agent_threads.specs.Stopping.{MayGoOn, kept_before, kept_in, WasOwned, GoesOnAgain}
use Rattle.agent_threads.proofs.Stopping.{owned_before}
use Rattle.agent_threads.proofs.Same.{KeepsLinks, does_links, does_usable, links_same, links_net}
use Rattle.agent_threads.proofs.Moving.{moves_self, part_moves}
use Rattle.agent_threads.proofs.Owning.{read_state}
use Rattle.agent_threads.proofs.Going.{does_move}
use Rattle.agent_threads.proofs.Wires.{each_more}

---- What a journal tells

within_both : (a b c d : ℕ) → (nat_le a b && nat_le c d) ≡ true → (a ≤ b) × (c ≤ d)
within_both a b c d e = (grind (arith, nat_tests, e), grind (arith, nat_tests, e))

not_within : (a b c d : ℕ) → (nat_le a b && nat_le c d) ≡ false → a ≤ b → c ≤ d → ⊥
not_within a b c d e p q = grind (arith, nat_tests, e, p, q)

taken_rises : (h : Home) (s : AgentState) (e : Entry) → s.base.taken ≤ (after h s e).state.base.taken
taken_rises h s e = by_may (may_take_as h.role s e) refl
  where
    by_may : (b : Bool) → may_take_as h.role s e ≡ b → s.base.taken ≤ (after h s e).state.base.taken
    by_may true may = omega (arith, (entries_are_taken h s e may).taken)
    by_may false not = omega (arith, ap (λ (x : AgentStepped). x.state.base.taken) (others_are_left_out h s e not))

-- entries take away nothing, and no clock goes back
record IsLater (s u : AgentState) : Type 0 where
  taken : s.base.taken ≤ u.base.taken
  now : s.base.now ≤ u.base.now

goes_later : (h : Home) (s : AgentState) (es : List Entry) → IsLater s (goes_on h s es).state
unfolding goes_on
goes_later h s [] = record { taken = omega arith; now = omega arith }
goes_later h s (e ∷ es) =
    let rest = goes_later h (after h s e).state es in
    record {
      taken = let a = rest.taken in omega (arith, a, taken_rises h s e);
      now = let b = rest.now in omega (arith, b, clocks_rise h s e);
    }

front_later : (h : Home) (es fs : List Entry) → IsLater (told h es).state (told h (es ++ fs)).state
front_later h es fs = subst (λ (u : AgentState). IsLater (told h es).state u) (sym (ap (λ (x : Told). x.state) (telling_is_in_parts h blank_agent es fs))) (goes_later h (told h es).state fs)

pub read_events : (h : Home) (tries : ℕ) (es : List Entry) (s : Seat) → (reads h tries es s).events ≡ s.events ++ restart_event s.number (length es) ∷ restart_events tries s.number (length es)
unfolding reads
read_events h tries es s = refl

later_self : (s : AgentState) → IsLater s s
later_self s = record { taken = omega arith; now = omega arith }

-- what its journal tells is no more than the agent took
own_later : (h : Home) (x y : Kept) (j : Journaled) (tries : ℕ) (es : List Entry) → (es ≡ j.synced) ⊎ (es ≡ j.synced ++ x.seat.fresh) → (told h (j.synced ++ x.seat.fresh)).state ≡ x.seat.state → y.seat ≡ reads h tries es x.seat → IsLater y.seat.state x.seat.state
own_later h x y j tries es (inl same) state is =
    let now : y.seat.state ≡ (told h j.synced).state = ap (λ (s : Seat). s.state) is ∙ (read_state h tries es x.seat ∙ ap (λ (xs : List Entry). (told h xs).state) same) in
    subst (λ (u : AgentState). IsLater y.seat.state u) state (subst (λ (u : AgentState). IsLater u (told h (j.synced ++ x.seat.fresh)).state) (sym now) (front_later h j.synced x.seat.fresh))
own_later h x y j tries es (inr same) state is =
    let now : y.seat.state ≡ x.seat.state = ap (λ (s : Seat). s.state) is ∙ (read_state h tries es x.seat ∙ (ap (λ (xs : List Entry). (told h xs).state) same ∙ state)) in
    subst (λ (u : AgentState). IsLater y.seat.state u) now (later_self y.seat.state)

-- what a journal told before a stop, with the entries that were being synced or without
first_told : (k : Kept) (j : Journaled) → k.fault ≡ Some TurnFault.Stopped → kept_in k ≡ Some j → first_kept k.seat.synced k.kept ≡ Some j
first_told k j f e = sym (ap (λ (z : Option TurnFault). kept_before z k.seat.synced k.kept) f) ∙ e

-- so a journal that has more doesn't tell what made it
untold_more : (x y : Kept) → x.fault ≡ None → IsReread x y → (nat_le y.seat.state.base.taken x.seat.state.base.taken && nat_le y.seat.state.base.now x.seat.state.base.now) ≡ false → IsUntold x
untold_more x y f q more routes r (j, e, state) =
    let kept : x.kept ≡ Some j = sym (ap (λ (z : Option TurnFault). kept_before z x.seat.synced x.kept) f) ∙ e in
    let same : q.entries ≡ j.synced = subst (λ (o : Option Journaled). IfSome o (λ k. q.entries ≡ k.synced)) kept q.synced in
    let later = own_later (home_in x.network routes x.seat.number) x y j q.tries q.entries (inl same) state (q.seat routes r) in
    not_within y.seat.state.base.taken x.seat.state.base.taken y.seat.state.base.now x.seat.state.base.now more later.taken later.now

untold_again : (x y : Kept) → x.fault ≡ Some TurnFault.Stopped → IsReopened x y → (nat_le y.seat.state.base.taken x.seat.state.base.taken && nat_le y.seat.state.base.now x.seat.state.base.now) ≡ false → IsUntold x
untold_again x y f q more routes r (j, e, state) =
    let either : (q.entries ≡ j.synced) ⊎ (q.entries ≡ j.synced ++ x.seat.fresh) = subst (λ (o : Option Journaled). AreEither x.seat.fresh o q.entries) (first_told x j f e) q.read in
    let later = own_later (home_in x.network routes x.seat.number) x y j q.tries q.entries either state (q.seat routes r) in
    not_within y.seat.state.base.taken x.seat.state.base.taken y.seat.state.base.now x.seat.state.base.now more later.taken later.now

pub untold : (x y : Kept) → MayGoOn x → (x.fault ≡ None → IsReread x y) → (x.fault ≡ Some TurnFault.Stopped → IsReopened x y)
    → (nat_le y.seat.state.base.taken x.seat.state.base.taken && nat_le y.seat.state.base.now x.seat.state.base.now) ≡ false → IsUntold x
untold x y (inl f) p q more = untold_more x y f (p f) more
untold x y (inr f) p q more = untold_again x y f (q f) more

pub same_again : (x y : Kept) → MayGoOn x → (x.fault ≡ None → IsReread x y) → (x.fault ≡ Some TurnFault.Stopped → IsReopened x y) → HasAsMany x y
same_again x y (inl f) p q = let c = (p f).counts in let more = c.stops in record { same = (p f).same; stops = omega (arith, more); planned = c.planned }
same_again x y (inr f) p q = let c = (q f).counts in let more = c.stops in record { same = (q f).same; stops = omega (arith, more); planned = c.planned }

-- an agent that has read its journal and taken no more
all_by : (times a count : ℕ) → AreBy a (restart_events times a count)
all_by zero a count = tt
all_by (suc times) a count = (refl, all_by times a count)

read_moves : RoutesExist → (x y : Kept) (tries : ℕ) (es : List Entry) → AtHome x (λ h. y.seat ≡ reads h tries es x.seat) → y.seat.number ≡ x.seat.number
    → (nat_le y.seat.state.base.taken x.seat.state.base.taken && nat_le y.seat.state.base.now x.seat.state.base.now) ≡ true → MovesOn 0 x y
read_moves exist x y tries es is number within =
    let r = exist x.network in
    let h = home_in x.network r.0 x.seat.number in
    let own = restart_event x.seat.number (length es) ∷ restart_events tries x.seat.number (length es) in
    let events : y.seat.events ≡ x.seat.events ++ own = ap (λ (s : Seat). s.events) (is r.0 r.1) ∙ read_events h tries es x.seat in
    let both = within_both y.seat.state.base.taken x.seat.state.base.taken y.seat.state.base.now x.seat.state.base.now within in
    record {
      number = number;
      more = own;
      events = events;
      own = (refl, all_by tries x.seat.number (length es));
      taken = let t = both.0 in omega (arith, t, ap length events, length-append x.seat.events own);
      clock = λ second a b. let n = both.1 in omega (arith, n, b);
    }

-- an agent that has taken no more was restarted
pub is_restarted : RoutesExist → (x y : Kept) → IsReread x y → (nat_le y.seat.state.base.taken x.seat.state.base.taken && nat_le y.seat.state.base.now x.seat.state.base.now) ≡ true → IsRestarted x y
is_restarted exist x y q within = record { reread = q; moves = read_moves exist x y q.tries q.entries q.seat q.same.number within }

-- or goes on behind a stop
pub goes_again : RoutesExist → (x y : Kept) → IsReopened x y → (nat_le y.seat.state.base.taken x.seat.state.base.taken && nat_le y.seat.state.base.now x.seat.state.base.now) ≡ true → GoesOnAgain x y
goes_again exist x y q within = record { reopened = q; moves = read_moves exist x y q.tries q.entries q.seat q.same.number within }

---- A list with one more behind it

pub usable_front : (ks : List Kept) (k : Kept) → AreUsable (ks ++ k ∷ []) → AreUsable ks
usable_front [] k u = tt
usable_front (x ∷ xs) k u = (u.0, usable_front xs k u.1)

pub usable_last : (ks : List Kept) (k : Kept) → AreUsable (ks ++ k ∷ []) → k.fault ≡ None
usable_last [] k u = u.0
usable_last (x ∷ xs) k u = usable_last xs k u.1

pub listed_front : (f : List ℕ → Bool) (ks : List Kept) (k : Kept) → AreListed f (ks ++ k ∷ []) → AreListed f ks
listed_front f [] k l = tt
listed_front f (x ∷ xs) k l = (l.0, listed_front f xs k l.1)

pub listed_last : (f : List ℕ → Bool) (ks : List Kept) (k : Kept) → AreListed f (ks ++ k ∷ []) → f (name_of k.network k.seat.number) ≡ true
listed_last f [] k l = l.0
listed_last f (x ∷ xs) k l = listed_last f xs k l.1

pub of_front : (t : Network) (ks : List Kept) (k : Kept) → AreOf t (ks ++ k ∷ []) → AreOf t ks
of_front t [] k o = tt
of_front t (x ∷ xs) k o = (o.0, of_front t xs k o.1)

pub of_last : (t : Network) (ks : List Kept) (k : Kept) → AreOf t (ks ++ k ∷ []) → k.network ≡ t
of_last t [] k o = o.0
of_last t (x ∷ xs) k o = of_last t xs k o.1

owned_front : (homes : ℕ → Home) (ks : List Kept) (k : Kept) → AreOwned homes (ks ++ k ∷ []) → AreOwned homes ks
owned_front homes [] k w = tt
owned_front homes (x ∷ xs) k w = (w.0, owned_front homes xs k w.1)

owned_last : (homes : ℕ → Home) (ks : List Kept) (k : Kept) → AreOwned homes (ks ++ k ∷ []) → IsOwned homes k
owned_last homes [] k w = w.0
owned_last homes (x ∷ xs) k w = owned_last homes xs k w.1

pub one_front : (a : ℕ) (ks : List Kept) (k : Kept) → IsOneOf a (numbers (seats ks)) → IsOneOf a (numbers (seats (ks ++ k ∷ [])))
one_front a [] k h = absurd h
one_front a (x ∷ xs) k (inl e) = inl e
one_front a (x ∷ xs) k (inr h) = inr (one_front a xs k h)

pub one_last : (a : ℕ) (ks : List Kept) (k : Kept) → a ≡ k.seat.number → IsOneOf a (numbers (seats (ks ++ k ∷ [])))
one_last a [] k e = inl e
one_last a (x ∷ xs) k e = inr (one_last a xs k e)

one_cases : (a : ℕ) (ks : List Kept) (k : Kept) → IsOneOf a (numbers (seats (ks ++ k ∷ []))) → IsOneOf a (numbers (seats ks)) ⊎ (a ≡ k.seat.number)
one_cases a [] k (inl e) = inr e
one_cases a [] k (inr h) = absurd h
one_cases a (x ∷ xs) k (inl e) = inl (inl e)
one_cases a (x ∷ xs) k (inr h) = by_rest (one_cases a xs k h)
  where
    by_rest : IsOneOf a (numbers (seats xs)) ⊎ (a ≡ k.seat.number) → IsOneOf a (numbers (seats (x ∷ xs))) ⊎ (a ≡ k.seat.number)
    by_rest (inl i) = inl (inr i)
    by_rest (inr e) = inr e

failed_front : (a : ℕ) (ks : List Kept) (k : Kept) → HasFailed a ks → HasFailed a (ks ++ k ∷ [])
failed_front a [] k h = absurd h
failed_front a (x ∷ xs) k (inl e) = inl e
failed_front a (x ∷ xs) k (inr h) = inr (failed_front a xs k h)

---- One of them

-- the others are as they were
others_stay : (a : ℕ) (ks : List Kept) → IsAbsent a (numbers (seats ks)) → AreUsable ks → EachIs (RestartsAt a) ks ks
others_stay a [] n u = tt
others_stay a (k ∷ ks) n u = (record { here = λ e. absurd (n.0 (sym e)); there = λ m. refl; usable = u.0 }, others_stay a ks n.1 u.1)

-- the last one is restarted
pub last_restarted : (a : ℕ) (ks : List Kept) (k : Kept) (olds news : List Kept) → olds ≡ ks ++ k ∷ [] → k.seat.number ≡ a → IsAbsent k.seat.number (numbers (seats ks)) → AreUsable olds → PutsBack IsRestarted k ks news → EachIs (RestartsAt a) olds news
last_restarted a ks k olds news e n absent u p =
    let whole : EachIs (RestartsAt a) (ks ++ k ∷ []) (ks ++ p.0 ∷ []) =
    each_more (RestartsAt a) ks ks k p.0 (others_stay a ks (subst (λ (m : ℕ). IsAbsent m (numbers (seats ks))) n absent) (usable_front ks k (subst AreUsable e u)))
    (record { here = λ _. p.2; there = λ m. absurd (m n); usable = p.2.reread.fault }) in
    subst (λ (xs : List Kept). EachIs (RestartsAt a) xs news) (sym e) (subst (λ (ys : List Kept). EachIs (RestartsAt a) (ks ++ k ∷ []) ys) (sym p.1) whole)

-- one before it is
pub front_restarted : (a : ℕ) (ks ms : List Kept) (k : Kept) (olds news : List Kept) → olds ≡ ks ++ k ∷ [] → news ≡ ms ++ k ∷ [] → (k.seat.number ≡ a → ⊥) → AreUsable olds → EachIs (RestartsAt a) ks ms → EachIs (RestartsAt a) olds news
front_restarted a ks ms k olds news e f n u p =
    let whole : EachIs (RestartsAt a) (ks ++ k ∷ []) (ms ++ k ∷ []) = each_more (RestartsAt a) ks ms k k p (record { here = λ q. absurd (n q); there = λ m. refl; usable = usable_last ks k (subst AreUsable e u) }) in
    subst (λ (xs : List Kept). EachIs (RestartsAt a) xs news) (sym e) (subst (λ (ys : List Kept). EachIs (RestartsAt a) (ks ++ k ∷ []) ys) (sym f) whole)

pub among_put : (R : Kept → Kept → Type 0) (ks : List Kept) (k : Kept) (olds news : List Kept) → olds ≡ ks ++ k ∷ [] → ((n : Kept) → R k n → n.seat.number ≡ k.seat.number) → PutsBack R k ks news → AreAmong olds news
among_put R ks k olds news e same p a h =
    subst (λ (xs : List Kept). IsOneOf a (numbers (seats xs))) (sym e) (by_place (one_cases a ks p.0 (subst (λ (ys : List Kept). IsOneOf a (numbers (seats ys))) p.1 h)))
  where
    by_place : IsOneOf a (numbers (seats ks)) ⊎ (a ≡ p.0.seat.number) → IsOneOf a (numbers (seats (ks ++ k ∷ [])))
    by_place (inl i) = one_front a ks k i
    by_place (inr q) = one_last a ks k (q ∙ same p.0 p.2)

pub among_more : (ks ms : List Kept) (k : Kept) (olds news : List Kept) → olds ≡ ks ++ k ∷ [] → news ≡ ms ++ k ∷ [] → AreAmong ks ms → AreAmong olds news
among_more ks ms k olds news e f p a h =
    subst (λ (xs : List Kept). IsOneOf a (numbers (seats xs))) (sym e) (by_place (one_cases a ms k (subst (λ (ys : List Kept). IsOneOf a (numbers (seats ys))) f h)))
  where
    by_place : IsOneOf a (numbers (seats ms)) ⊎ (a ≡ k.seat.number) → IsOneOf a (numbers (seats (ks ++ k ∷ [])))
    by_place (inl i) = one_front a ks k (p a i)
    by_place (inr q) = one_last a ks k q

---- Why it has failed

untold_last : (a : ℕ) (ks : List Kept) (k : Kept) (olds : List Kept) → olds ≡ ks ++ k ∷ [] → k.fault ≡ None → IsUntold k → AreUntold (Act.Restart a ∷ []) olds
untold_last a ks k olds e f none t o routes r b w shows =
    let told : b ≡ true = All-head (Shows b) (Act.Restart a) [] shows in
    let of : k.network ≡ t = of_last t ks k (subst (λ (xs : List Kept). AreOf t xs) e o) in
    let own : WasOwned (home_in t routes) k = owned_before (home_in t routes) k f (owned_last (home_in t routes) ks k (subst (λ (xs : List Kept). AreOwned (home_in t routes) xs) e (w told))) in
    none routes (subst (λ (u : Network). AreRoutes u routes) (sym of) r) (subst (λ (u : Network). WasOwned (home_in u routes) k) (sym of) own)

pub restart_cause : (n : ℕ) (ks : List Kept) (k : Kept) (olds news : List Kept) (c d : ShelfCounts) (e : RunFault) → olds ≡ ks ++ k ∷ [] → k.fault ≡ None → HasRestartCause k c d e → HasRunCause (Act.Restart n ∷ []) olds news c d e
restart_cause n ks k olds news c d RunFault.Long is f h = absurd h
restart_cause n ks k olds news c d RunFault.WriteFault is f h = absurd h
restart_cause n ks k olds news c d (RunFault.DiskFault a) is f h = inr (subst (λ (xs : List Kept). IsOneOf a (numbers (seats xs))) (sym is) (one_last a ks k h.0), h.1)
restart_cause n ks k olds news c d (RunFault.NotAJournal a place) is f h = (subst (λ (xs : List Kept). IsOneOf a (numbers (seats xs))) (sym is) (one_last a ks k h.0), untold_last n ks k olds is f h.1)
restart_cause n ks k olds news c d RunFault.NoMemory is f h = tt

pub front_cause : (n : ℕ) (ks ms : List Kept) (k : Kept) (olds news : List Kept) (c d : ShelfCounts) (e : RunFault) → olds ≡ ks ++ k ∷ [] → news ≡ ms ++ k ∷ [] → HasRunCause (Act.Restart n ∷ []) ks ms c d e → HasRunCause (Act.Restart n ∷ []) olds news c d e
front_cause n ks ms k olds news c d RunFault.Long is now h = tt
front_cause n ks ms k olds news c d RunFault.WriteFault is now h = tt
front_cause n ks ms k olds news c d (RunFault.DiskFault a) is now (inl h) = inl (subst (HasFailed a) (sym now) (failed_front a ms k h))
front_cause n ks ms k olds news c d (RunFault.DiskFault a) is now (inr h) = inr (subst (λ (xs : List Kept). IsOneOf a (numbers (seats xs))) (sym is) (one_front a ks k h.0), h.1)
front_cause n ks ms k olds news c d (RunFault.NotAJournal a place) is now h = (
  subst (λ (xs : List Kept). IsOneOf a (numbers (seats xs))) (sym is) (one_front a ks k h.0),
  λ t o routes r b w shows.
      h.1 t (of_front t ks k (subst (λ (xs : List Kept). AreOf t xs) is o)) routes r b
      (λ q. owned_front (home_in t routes) ks k (subst (λ (xs : List Kept). AreOwned (home_in t routes) xs) is (w q))) shows,
)
front_cause n ks ms k olds news c d RunFault.NoMemory is now h = tt

---- Acts

restarts_links : (a : ℕ) (xs ys : List Kept) → EachIs (RestartsAt a) xs ys → EachIs KeepsLinks xs ys
restarts_links a [] [] p = tt
restarts_links a [] (y ∷ ys) p = absurd p
restarts_links a (x ∷ xs) [] p = absurd p
restarts_links a (x ∷ xs) (y ∷ ys) p = (one (cases_eq x.seat.number a), restarts_links a xs ys p.1)
  where
    self : KeepsLinks x x
    self = record { same = record { network = refl; number = refl; others = refl; faults = refl; stops = omega arith; planned = refl }; plugs = refl }

    one : (x.seat.number ≡ a) ⊎ (x.seat.number ≡ a → ⊥) → KeepsLinks x y
    one (inl e) =
        let q = (p.0.here e).reread in
        record { same = record { network = q.same.network; number = q.same.number; others = q.same.others; faults = q.counts.faults; stops = let n = q.counts.stops in omega (arith, n); planned = q.counts.planned }; plugs = q.plugs }
    one (inr m) = subst (λ (k : Kept). KeepsLinks x k) (sym (p.0.there m)) self

restarts_usable : (a : ℕ) (xs ys : List Kept) → EachIs (RestartsAt a) xs ys → AreUsable ys
restarts_usable a [] [] p = tt
restarts_usable a [] (y ∷ ys) p = absurd p
restarts_usable a (x ∷ xs) [] p = absurd p
restarts_usable a (x ∷ xs) (y ∷ ys) p = (p.0.usable, restarts_usable a xs ys p.1)

restarts_move : (a : ℕ) (xs ys : List Kept) → EachIs (RestartsAt a) xs ys → EachIs (MovesOn 0) xs ys
restarts_move a [] [] p = tt
restarts_move a [] (y ∷ ys) p = absurd p
restarts_move a (x ∷ xs) [] p = absurd p
restarts_move a (x ∷ xs) (y ∷ ys) p = (one (cases_eq x.seat.number a), restarts_move a xs ys p.1)
  where
    one : (x.seat.number ≡ a) ⊎ (x.seat.number ≡ a → ⊥) → MovesOn 0 x y
    one (inl e) = (p.0.here e).moves
    one (inr m) = subst (λ (k : Kept). MovesOn 0 x k) (sym (p.0.there m)) (moves_self 0 x.seat)

act_links : (act : Act) (n : ℕ) (xs ys : List Kept) → EachIs (DoesAct act n) xs ys → EachIs KeepsLinks xs ys
act_links (Act.Ask a ask) n xs ys p = does_links (part_in (Act.Ask a ask) n) xs ys p
act_links (Act.Force a k) n xs ys p = does_links (part_in (Act.Force a k) n) xs ys p
act_links (Act.Restart a) n xs ys p = restarts_links a xs ys p

pub act_usable : (act : Act) (n : ℕ) (xs ys : List Kept) → EachIs (DoesAct act n) xs ys → AreUsable ys
act_usable (Act.Ask a ask) n xs ys p = does_usable (part_in (Act.Ask a ask) n) xs ys p
act_usable (Act.Force a k) n xs ys p = does_usable (part_in (Act.Force a k) n) xs ys p
act_usable (Act.Restart a) n xs ys p = restarts_usable a xs ys p

pub act_net : (act : Act) (n : ℕ) (xs ys : List Kept) → EachIs (DoesAct act n) xs ys → AreNet xs → AreNet ys
act_net act n xs ys p net = links_net xs ys (act_links act n xs ys p) (act_usable act n xs ys p) net

pub act_same : (act : Act) (n : ℕ) (xs ys : List Kept) → EachIs (DoesAct act n) xs ys → AreSame xs ys
act_same act n xs ys p = links_same xs ys (act_links act n xs ys p)

pub act_moves : (act : Act) (n : ℕ) (xs ys : List Kept) → EachIs (DoesAct act n) xs ys → AtHomes xs (λ homes tells. EachIs (MovesOn 0) xs ys)
act_moves (Act.Ask a ask) n xs ys p = does_move 0 (part_in (Act.Ask a ask) n) xs ys (part_moves (Act.Ask a ask) tt n) p
act_moves (Act.Force a k) n xs ys p = does_move 0 (part_in (Act.Force a k) n) xs ys (part_moves (Act.Force a k) tt n) p
act_moves (Act.Restart a) n xs ys p = λ t o routes r b w. restarts_move a xs ys p

-- what one does that restarts nobody
pub acts_plainly : (act : Act) (n : ℕ) (xs ys : List Kept) → ((a : ℕ) → act ≡ Act.Restart a → ⊥) → EachIs (Does (part_in act n)) xs ys → EachIs (DoesAct act n) xs ys
acts_plainly (Act.Ask a ask) n xs ys none p = p
acts_plainly (Act.Force a k) n xs ys none p = p
acts_plainly (Act.Restart a) n xs ys none p = absurd (none a refl)

---- The calls' ends

pub put_length : (R : Kept → Kept → Type 0) (ks : List Kept) (k : Kept) (news : List Kept) → PutsBack R k ks news → length news ≡ length ks + 1
put_length R ks k news p = omega (arith, ap length p.1, length-append ks (p.0 ∷ []))

pub more_length : (ks : List Kept) (k : Kept) (olds : List Kept) → olds ≡ ks ++ k ∷ [] → length olds ≡ length ks + 1
more_length ks k olds e = omega (arith, ap length e, length-append ks (k ∷ []))

pub lost_length : (ks : List Kept) (k : Kept) (news : List Kept) (c d : ShelfCounts) → LosesOne k ks news c d → length news ≤ length ks + 1
lost_length ks k news c d (inl f) = omega (arith, ap length f.0)
lost_length ks k news c d (inr p) = omega (arith, put_length HasAsMany ks k news p.0)

-- and no more of them
pub few_either : {T : Type 0} (r : Result T RunFault) (ks : List Kept) (k : Kept) (olds news : List Kept) (c d : ShelfCounts) → olds ≡ ks ++ k ∷ [] → OnOk r (PutsBack IsRestarted k ks news) → OnErr r (LosesOne k ks news c d) → length news ≤ length olds
few_either (Ok x) ks k olds news c d e p q = omega (arith, more_length ks k olds e, put_length IsRestarted ks k news p)
few_either (Err x) ks k olds news c d e p q = omega (arith, more_length ks k olds e, lost_length ks k news c d q)
