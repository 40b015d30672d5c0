-- How far the agents of a net have come, step after step.
use Rattle.std.proofs.Common.{ℕ, zero, suc, ◌+◌, ◌-◌, ◌*◌, Bool, true, false, if◌then◌else◌, ◌<◌, ◌≤◌, ◌≡◌, List, [], ◌∷◌, ◌++◌, inl, inr, refl, sym, ap, ◌∙◌, subst, arith, map, length, length-append, get_or, append_assoc, append-nil, add-one}
use Rattle.std.specs.Prelude.{None}
use Rattle.std.specs.List.{All}
use Rattle.std.proofs.lemmas.List.Elements.{All-nil, All-cons, All-head, All-tail}
use Rattle.nsi_primitive.specs.Printable.{IsPrintableEvent}
use Rattle.nsi_primitive.specs.declared.entry.Event.{Event}
use Rattle.stp_topology.specs.declared.network.Network.{Network}
use Rattle.trace_text.specs.Lines.{HasLine}
use Rattle.least_routes.specs.Laws.{RoutesExist}
use Rattle.agent_state.specs.Entries.{most_entries}
use Rattle.nsi_agent.specs.Homes.{Home, home_in}
use Rattle.nsi_script.specs.Fits.{IsRising}
use Rattle.nsi_script.specs.Scripts.{seconds_of}
use Rattle.nsi_script.specs.declared.script.Group.{Group}
use Rattle.agent_node.specs.Seat.{Seat}
use Rattle.agent_node.specs.Turns.{turned}
use Rattle.agent_node.specs.Kept.{Kept}
use Rattle.agent_node.specs.Made.{IsTurn}
use Rattle.nsi_play.specs.Rounds.{Net, events_of, tells, emptied, meets_all, met_all}
use Rattle.run_totals.specs.Totals.{IsOf}
use Rattle.agent_threads.specs.Nets.{seats, numbers, IsOneOf, EachIs, AtHomes, AreUsable, AreSame}
use Rattle.agent_threads.specs.Made.{Does, Stays, HaveRoom}
use Rattle.agent_threads.specs.Bounds.{AreBy, AreUpTo, AreUnder, AreNumbered, AreOfOne, Moves, MovesOn, AreFurther, AreOneOf, GoOn}
use Rattle.agent_threads.proofs.Same.{at_home, still_of, numbers_same}
use Rattle.agent_threads.proofs.Moving.{moves_then, turned_moves, meets_move}
use Rattle.std.proofs.lemmas.Bool.{false≢true}

-- what is so whichever routes is so, since there are some
pub anyhow : RoutesExist → (ks : List Kept) (P : Type 0) → AreOfOne ks → AtHomes ks (λ homes tells. P) → P
anyhow exist ks P one f =
    let r = exist one.network in
    f one.network one.of r.0 r.1 false (λ e. absurd (false≢true e))

pub still_one : (xs ys : List Kept) → AreSame xs ys → AreOfOne xs → AreOfOne ys
still_one xs ys s one = record { network = one.network; of = still_of one.network xs ys s one.of }

---- Each agent

pub does_move : (to : ℕ) (f : Home → Seat → Seat) (xs ys : List Kept) → ((h : Home) (s : Seat) → Moves to s (f h s)) → EachIs (Does f) xs ys → AtHomes xs (λ homes tells. EachIs (MovesOn to) xs ys)
does_move to f [] [] all p t o routes r b w = tt
does_move to f [] (y ∷ ys) all p t o routes r b w = absurd p
does_move to f (x ∷ xs) [] all p t o routes r b w = absurd p
does_move to f (x ∷ xs) (y ∷ ys) all p t o routes r b w =
    let h : Home = home_in t routes x.seat.number in
    let is : y.seat ≡ f h x.seat = at_home t x (λ z. y.seat ≡ f z x.seat) o.0 p.0.ok routes r in
    (subst (λ (u : Seat). Moves to x.seat u) (sym is) (all h x.seat), does_move to f xs ys all p.1 t o.1 routes r false (λ e. absurd (false≢true e)))

pub turns_move : (room : ℕ) (xs ys : List Kept) → EachIs (IsTurn room) xs ys → AreUsable ys → AtHomes xs (λ homes tells. EachIs (MovesOn 0) xs ys)
turns_move room [] [] e u t o routes r b w = tt
turns_move room [] (y ∷ ys) e u t o routes r b w = absurd e
turns_move room (x ∷ xs) [] e u t o routes r b w = absurd e
turns_move room (x ∷ xs) (y ∷ ys) e u t o routes r b w =
    let h : Home = home_in t routes x.seat.number in
    let is : y.seat ≡ turned h x.seat = at_home t x (λ z. y.fault ≡ None → y.seat ≡ turned z x.seat) o.0 e.0.ok routes r u.0 in
    (subst (λ (v : Seat). Moves 0 x.seat v) (sym is) (turned_moves 0 h x.seat), turns_move room xs ys e.1 u.1 t o.1 routes r false (λ e. absurd (false≢true e)))

meets_all_move : (all : Net) (xs ys : List Kept) → EachIs Stays xs ys → seats ys ≡ map (meets_all all) (seats xs) → EachIs (MovesOn 0) xs ys
meets_all_move all [] [] e f = tt
meets_all_move all [] (y ∷ ys) e f = absurd e
meets_all_move all (x ∷ xs) [] e f = absurd e
meets_all_move all (x ∷ xs) (y ∷ ys) e f =
    let q = heads y.seat (meets_all all x.seat) (seats ys) (map (meets_all all) (seats xs)) f in
    (subst (λ (u : Seat). Moves 0 x.seat u) (sym q.0) (meets_move 0 x.seat all), meets_all_move all xs ys e.1 q.1)
  where
    heads : (s u : Seat) (ss us : Net) → s ∷ ss ≡ u ∷ us → (s ≡ u) × (ss ≡ us)
    heads s u ss us g = (cc, cc)

pub met_move : (xs ys : List Kept) → EachIs Stays xs ys → seats ys ≡ met_all (seats xs) → EachIs (MovesOn 0) xs ys
met_move xs ys e f = meets_all_move (seats xs) xs ys e f

pub move_twice : (to : ℕ) (xs ys zs : List Kept) → EachIs (MovesOn to) xs ys → EachIs (MovesOn to) ys zs → EachIs (MovesOn to) xs zs
move_twice to [] [] [] p q = tt
move_twice to [] [] (z ∷ zs) p q = absurd q
move_twice to [] (y ∷ ys) zs p q = absurd p
move_twice to (x ∷ xs) [] zs p q = absurd p
move_twice to (x ∷ xs) (y ∷ ys) [] p q = absurd q
move_twice to (x ∷ xs) (y ∷ ys) (z ∷ zs) p q = (moves_then to x.seat y.seat z.seat p.0 q.0, move_twice to xs ys zs p.1 q.1)

---- What is told

by_one : (a : ℕ) (ns : List ℕ) (es : List Event) → AreBy a es → IsOneOf a ns → AreOneOf ns es
by_one a ns [] p q = tt
by_one a ns (e ∷ es) p q = (subst (λ (n : ℕ). IsOneOf n ns) (sym p.0) q, by_one a ns es p.1 q)

one_more : (n : ℕ) (ns : List ℕ) (es : List Event) → AreOneOf ns es → AreOneOf (n ∷ ns) es
one_more n ns [] p = tt
one_more n ns (e ∷ es) p = (inr p.0, one_more n ns es p.1)

one_append : (ns : List ℕ) (es fs : List Event) → AreOneOf ns es → AreOneOf ns fs → AreOneOf ns (es ++ fs)
one_append ns [] fs p q = q
one_append ns (e ∷ es) fs p q = (p.0, one_append ns es fs p.1 q)

pub both_none : (xs ys : List Event) → xs ++ ys ≡ [] → (xs ≡ []) × (ys ≡ [])
both_none [] ys e = (refl, e)
both_none (x ∷ xs) ys e = absurd (cc)

own_events : (to : ℕ) (x y : Kept) → MovesOn to x y → x.seat.events ≡ [] → AreBy x.seat.number y.seat.events
own_events to x y m e = subst (AreBy x.seat.number) (sym (m.events ∙ ap (λ (es : List Event). es ++ m.more) e)) m.own

-- what the agents of a net do is theirs
grown_by : (to : ℕ) (xs ys : List Kept) → EachIs (MovesOn to) xs ys → events_of (seats xs) ≡ [] → AreOneOf (numbers (seats xs)) (events_of (seats ys))
grown_by to [] [] e f = tt
grown_by to [] (y ∷ ys) e f = absurd e
grown_by to (x ∷ xs) [] e f = absurd e
grown_by to (x ∷ xs) (y ∷ ys) e f =
    let q = both_none x.seat.events (events_of (seats xs)) f in
    let ns : List ℕ = numbers (seats xs) in
    one_append (x.seat.number ∷ ns) y.seat.events (events_of (seats ys))
    (by_one x.seat.number (x.seat.number ∷ ns) y.seat.events (own_events to x y e.0 q.0) (inl refl))
    (one_more x.seat.number ns (events_of (seats ys)) (grown_by to xs ys e.1 q.1))

further_told : (to total : ℕ) (xs ys zs : List Kept) → EachIs (MovesOn to) xs ys → seats zs ≡ emptied (seats ys) → length (events_of (seats ys)) ≤ total → AreFurther to total xs zs
further_told to total [] [] [] p d h = tt
further_told to total [] [] (z ∷ zs) p d h = absurd (cc)
further_told to total [] (y ∷ ys) zs p d h = absurd p
further_told to total (x ∷ xs) [] zs p d h = absurd p
further_told to total (x ∷ xs) (y ∷ ys) [] p d h = absurd (cc)
further_told to total (x ∷ xs) (y ∷ ys) (z ∷ zs) p d h =
    let q = first_and_rest z.seat (tells y.seat) (seats zs) (emptied (seats ys)) d in
    let len : length (y.seat.events ++ events_of (seats ys)) ≡ length y.seat.events + length (events_of (seats ys)) = length-append y.seat.events (events_of (seats ys)) in
    let taken : z.seat.state.base.taken ≡ y.seat.state.base.taken = ap (λ (s : Seat). s.state.base.taken) q.0 in
    let now : z.seat.state.base.now ≡ y.seat.state.base.now = ap (λ (s : Seat). s.state.base.now) q.0 in
    let own : length x.seat.events + y.seat.state.base.taken ≤ x.seat.state.base.taken + length y.seat.events = p.0.taken in (
      record {
        taken = omega (arith, own, taken, len, h);
        clock = λ second a b. subst (λ (n : ℕ). n ≤ second) (sym now) (p.0.clock second a b);
      },
      further_told to total xs ys zs p.1 q.1 (omega (arith, len, h)),
    )
  where
    first_and_rest : (s u : Seat) (ss us : Net) → s ∷ ss ≡ u ∷ us → (s ≡ u) × (ss ≡ us)
    first_and_rest s u ss us g = (cc, cc)

-- one step of a net, and what it tells
pub go_on : (to : ℕ) (xs ys zs : List Kept) (before events : List Event) → EachIs (MovesOn to) xs ys → seats zs ≡ emptied (seats ys) → events_of (seats xs) ≡ [] → events ≡ before ++ events_of (seats ys) → GoOn to xs zs before events
go_on to xs ys zs before events m d n e = record {
  own = events_of (seats ys);
  told = e;
  by = grown_by to xs ys m n;
  each = further_told to (length (events_of (seats ys))) xs ys zs m d (omega arith);
}

---- One step after another

further_twice : (to m n total : ℕ) (xs ys zs : List Kept) → total ≡ m + n → AreFurther to m xs ys → AreFurther 0 n ys zs → AreFurther to total xs zs
further_twice to m n total [] [] [] e p q = tt
further_twice to m n total [] [] (z ∷ zs) e p q = absurd q
further_twice to m n total [] (y ∷ ys) zs e p q = absurd p
further_twice to m n total (x ∷ xs) [] zs e p q = absurd p
further_twice to m n total (x ∷ xs) (y ∷ ys) [] e p q = absurd q
further_twice to m n total (x ∷ xs) (y ∷ ys) (z ∷ zs) e p q = (
  record {
    taken = let a = p.0.taken in let b = q.0.taken in omega (arith, a, b, e);
    clock = λ second a b. q.0.clock second (omega arith) (p.0.clock second a b);
  },
  further_twice to m n total xs ys zs e p.1 q.1,
)

further_none : (to : ℕ) (xs : List Kept) → AreFurther to 0 xs xs
further_none to [] = tt
further_none to (x ∷ xs) = (record { taken = omega arith; clock = λ second a b. b }, further_none to xs)

pub go_none : (to : ℕ) (xs : List Kept) (events : List Event) → GoOn to xs xs events events
go_none to xs events = record {
  own = [];
  told = sym (append-nil events);
  by = tt;
  each = further_none to xs;
}

pub go_then : (to : ℕ) (xs ys zs : List Kept) (before mids events : List Event) → AreSame xs ys → GoOn to xs ys before mids → GoOn 0 ys zs mids events → GoOn to xs zs before events
go_then to xs ys zs before mids events s p q = record {
  own = p.own ++ q.own;
  told = q.told ∙ (ap (λ (es : List Event). es ++ q.own) p.told ∙ append_assoc before p.own q.own);
  by = one_append (numbers (seats xs)) p.own q.own p.by (subst (λ (ns : List ℕ). AreOneOf ns q.own) (numbers_same xs ys s) q.by);
  each = further_twice to (length p.own) (length q.own) (length (p.own ++ q.own)) xs ys zs (length-append p.own q.own) p.each q.each;
}

-- so many events more
pub go_count : (to : ℕ) (xs ys : List Kept) (before events : List Event) (g : GoOn to xs ys before events) → length events ≡ length before + length g.own
go_count to xs ys before events g = ap length g.told ∙ length-append before g.own

-- where none were told before
pub go_first : (to : ℕ) (xs ys : List Kept) (before events : List Event) → before ≡ [] → GoOn to xs ys before events → AreOneOf (numbers (seats xs)) events × AreFurther to (length events) xs ys
go_first to xs ys before events e g =
    let is : g.own ≡ events = sym (g.told ∙ ap (λ (es : List Event). es ++ g.own) e) in
    (subst (λ (es : List Event). AreOneOf (numbers (seats xs)) es) is g.by, subst (λ (es : List Event). AreFurther to (length es) xs ys) is g.each)

---- Bounds

pub room_less : (r m : ℕ) (ks : List Kept) → m ≤ r → HaveRoom r ks → HaveRoom m ks
room_less r m [] h p = tt
room_less r m (k ∷ ks) h p = (let a = p.0 in omega (arith, a, h), room_less r m ks h p.1)

pub room_after : (to r m n : ℕ) (xs ys : List Kept) → m + n ≤ r → AreFurther to n xs ys → HaveRoom r xs → HaveRoom m ys
room_after to r m n [] [] h f p = tt
room_after to r m n [] (y ∷ ys) h f p = absurd f
room_after to r m n (x ∷ xs) [] h f p = absurd f
room_after to r m n (x ∷ xs) (y ∷ ys) h f p = (let a = p.0 in let b = f.0.taken in omega (arith, a, b, h), room_after to r m n xs ys h f.1 p.1)

pub up_to_after : (to n second : ℕ) (xs ys : List Kept) → to ≤ second → AreFurther to n xs ys → AreUpTo second xs → AreUpTo second ys
up_to_after to n second [] [] h f p = tt
up_to_after to n second [] (y ∷ ys) h f p = absurd f
up_to_after to n second (x ∷ xs) [] h f p = absurd f
up_to_after to n second (x ∷ xs) (y ∷ ys) h f p = (f.0.clock second h p.0, up_to_after to n second xs ys h f.1 p.1)

pub up_to_later : (a b : ℕ) (ks : List Kept) → a ≤ b → AreUpTo a ks → AreUpTo b ks
up_to_later a b [] h p = tt
up_to_later a b (k ∷ ks) h p = (let q = p.0 in omega (arith, q, h), up_to_later a b ks h p.1)

pub up_to_at : (second : ℕ) (ks : List Kept) (i : ℕ) (d : Kept) → i < length ks → AreUpTo second ks → (get_or ks i d).seat.state.base.now ≤ second
up_to_at second [] i d h p = absurd (omega arith)
up_to_at second (k ∷ ks) zero d h p = p.0
up_to_at second (k ∷ ks) (suc i) d h p = up_to_at second ks i d (omega arith) p.1

pub under_after : (to c n total : ℕ) (xs ys : List Kept) → total ≡ c + n → AreFurther to n xs ys → AreUnder c xs → AreUnder total ys
under_after to c n total [] [] e f p = tt
under_after to c n total [] (y ∷ ys) e f p = absurd f
under_after to c n total (x ∷ xs) [] e f p = absurd f
under_after to c n total (x ∷ xs) (y ∷ ys) e f p = (let a = p.0 in let b = f.0.taken in omega (arith, a, b, e), under_after to c n total xs ys e f.1 p.1)

pub under_room : (c room : ℕ) (ks : List Kept) → c + room ≤ most_entries → AreUnder c ks → HaveRoom room ks
under_room c room [] h p = tt
under_room c room (k ∷ ks) h p = (let a = p.0 in omega (arith, a, h), under_room c room ks h p.1)

---- Numbers of the topology

pub still_numbered : (t : Network) (xs ys : List Kept) → AreSame xs ys → AreNumbered t xs → AreNumbered t ys
still_numbered t [] [] s p = tt
still_numbered t [] (y ∷ ys) s p = absurd s
still_numbered t (x ∷ xs) [] s p = absurd s
still_numbered t (x ∷ xs) (y ∷ ys) s p = (subst (λ (n : ℕ). n < length t.agents) (sym s.0.number) p.0, still_numbered t xs ys s.1 p.1)

numbered_one : (t : Network) (ks : List Kept) (a : ℕ) → AreNumbered t ks → IsOneOf a (numbers (seats ks)) → a < length t.agents
numbered_one t [] a p q = absurd q
numbered_one t (k ∷ ks) a p (inl e) = subst (λ (n : ℕ). n < length t.agents) (sym e) p.0
numbered_one t (k ∷ ks) a p (inr q) = numbered_one t ks a p.1 q

pub are_of : (t : Network) (ks : List Kept) (events : List Event) → AreNumbered t ks → AreOneOf (numbers (seats ks)) events → All (IsOf t) events
are_of t ks [] n p = All-nil (IsOf t)
are_of t ks (e ∷ es) n p = All-cons (IsOf t) e es (numbered_one t ks e.agent n p.0) (are_of t ks es n p.1)

-- events of agents of the topology have lines
pub have_lines : (t : Network) (ks : List Kept) (events : List Event) → AreNumbered t ks → AreOneOf (numbers (seats ks)) events → All IsPrintableEvent events → All (HasLine t) events
have_lines t ks [] n p q = All-nil (HasLine t)
have_lines t ks (e ∷ es) n p q =
    All-cons (HasLine t) e es (record { agent = numbered_one t ks e.agent n p.0; printable = All-head IsPrintableEvent e es q }) (have_lines t ks es n p.1 (All-tail IsPrintableEvent e es q))

---- Seconds

rising_next : (gs : List Group) (i : ℕ) (d e : Group) → suc i < length gs → IsRising (seconds_of gs) → (get_or gs i d).at ≤ (get_or gs (suc i) e).at
rising_next [] i d e h p = absurd (omega arith)
rising_next (g ∷ []) i d e h p = absurd (omega arith)
rising_next (g ∷ (f ∷ gs)) zero d e h p = p.0
rising_next (g ∷ (f ∷ gs)) (suc i) d e h p = rising_next (f ∷ gs) i d e (omega arith) p.1

pub rising_at : (gs : List Group) (i : ℕ) (d e : Group) → i + 1 < length gs → IsRising (seconds_of gs) → (get_or gs i d).at ≤ (get_or gs (i + 1) e).at
rising_at gs i d e h p = subst (λ (n : ℕ). (get_or gs i d).at ≤ (get_or gs n e).at) (sym (add-one i)) (rising_next gs i d e (omega arith) p)

---- Rounds until all are quiet

-- what is left falls: all are quiet then, or there is less room
pub rests_or_fills : (room before after : ℕ) (quiet : Bool) → before ≤ after → after ≤ room → (quiet ≡ false → before < after)
    → 2 * (room - after) + (if quiet then 0 else 1) < 2 * (room - before) + (if false then 0 else 1)
rests_or_fills room before after true le within more = omega (arith, le, within)
rests_or_fills room before after false le within more = omega (arith, more refl, within)
