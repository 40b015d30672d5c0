-- The same agents, with the same links.
use Rattle.std.proofs.Common.{ℕ, zero, suc, ◌<◌, ◌≤◌, ◌≡◌, List, [], ◌∷◌, refl, sym, ap, ap₂, ◌∙◌, subst, length, get_or, arith}
use Rattle.stp_topology.specs.declared.network.Network.{Network}
use Rattle.nsi_agent.specs.Homes.{Home, Routes, AreRoutes, home_in}
use Rattle.agent_node.specs.Passing.{others, plug_to, crossed}
use Rattle.agent_node.specs.Seat.{Seat}
use Rattle.agent_node.specs.Kept.{Kept, AreLinked, IsSameAgent}
use Rattle.agent_node.specs.Made.{AtHome}
use Rattle.nsi_disk.specs.Disk.{Meter}
use Rattle.agent_threads.specs.Nets.{seats, numbers, EachIs, AreOf, IsSteady, IsAsPlanned, IsUnstopped, AreSame, AreCalm, AreUsable, IsAbsent, AreApart, IsLinkedToAll, AreWired, AreNet}
use Rattle.agent_threads.specs.Made.{Does, Stays}
use Rattle.agent_threads.specs.Stopping.{stops_among}
use Rattle.agent_threads.proofs.Places.{each_map}

-- a fact of one agent, in the topology of all
pub at_home : (t : Network) (k : Kept) (P : Home → Type 0) → k.network ≡ t → AtHome k P → (routes : Routes) → AreRoutes t routes → P (home_in t routes k.seat.number)
at_home t k P e h = subst (λ (z : Network). (routes : Routes) → AreRoutes z routes → P (home_in z routes k.seat.number)) e h

pub same_trans : (a b c : Kept) → IsSameAgent a b → IsSameAgent b c → IsSameAgent a c
same_trans a b c p q = record { network = q.network ∙ p.network; number = q.number ∙ p.number; others = q.others ∙ p.others }

pub same_self : (a : Kept) → IsSameAgent a a
same_self a = record { network = refl; number = refl; others = refl }

steady_trans : (a b c : Kept) → IsSteady a b → IsSteady b c → IsSteady a c
steady_trans a b c p q = record { network = q.network ∙ p.network; number = q.number ∙ p.number; others = q.others ∙ p.others; faults = q.faults ∙ p.faults; stops = let u = p.stops in let v = q.stops in omega (arith, u, v); planned = q.planned ∙ p.planned }

steady_self : (a : Kept) → IsSteady a a
steady_self a = record { network = refl; number = refl; others = refl; faults = refl; stops = omega arith; planned = refl }

-- with the counts of its disk
pub steady_of : (a b : Kept) → IsSameAgent a b → b.meter ≡ a.meter → IsSteady a b
steady_of a b s e = record {
  network = s.network;
  number = s.number;
  others = s.others;
  faults = ap (λ (m : Meter). m.faults) e;
  stops = let same = ap (λ (m : Meter). m.stops) e in omega (arith, same);
  planned = ap (λ (m : Meter). m.planned) e;
}

pub are_calm : (xs ys : List Kept) → AreSame xs ys → AreCalm xs ys
are_calm [] [] p = tt
are_calm [] (y ∷ ys) p = absurd p
are_calm (x ∷ xs) [] p = absurd p
are_calm (x ∷ xs) (y ∷ ys) p = (record { faults = p.0.faults; stops = p.0.stops }, are_calm xs ys p.1)

pub all_same : (xs : List Kept) → AreSame xs xs
all_same [] = tt
all_same (x ∷ xs) = (steady_self x, all_same xs)

pub same_twice : (xs ys zs : List Kept) → AreSame xs ys → AreSame ys zs → AreSame xs zs
same_twice [] [] [] p q = tt
same_twice [] [] (z ∷ zs) p q = absurd q
same_twice [] (y ∷ ys) zs p q = absurd p
same_twice (x ∷ xs) [] zs p q = absurd p
same_twice (x ∷ xs) (y ∷ ys) [] p q = absurd q
same_twice (x ∷ xs) (y ∷ ys) (z ∷ zs) p q = (steady_trans x y z p.0 q.0, same_twice xs ys zs p.1 q.1)

---- Only the same agents

as_planned_trans : (a b c : Kept) → IsAsPlanned a b → IsAsPlanned b c → IsAsPlanned a c
as_planned_trans a b c p q = record { same = same_trans a b c p.same q.same; planned = q.planned ∙ p.planned }

pub same_agents_twice : (xs ys zs : List Kept) → EachIs IsAsPlanned xs ys → EachIs IsAsPlanned ys zs → EachIs IsAsPlanned xs zs
same_agents_twice [] [] [] p q = tt
same_agents_twice [] [] (z ∷ zs) p q = absurd q
same_agents_twice [] (y ∷ ys) zs p q = absurd p
same_agents_twice (x ∷ xs) [] zs p q = absurd p
same_agents_twice (x ∷ xs) (y ∷ ys) [] p q = absurd q
same_agents_twice (x ∷ xs) (y ∷ ys) (z ∷ zs) p q = (as_planned_trans x y z p.0 q.0, same_agents_twice xs ys zs p.1 q.1)

steady_agent : (a b : Kept) → IsSteady a b → IsAsPlanned a b
steady_agent a b s = record { same = record { network = s.network; number = s.number; others = s.others }; planned = s.planned }

pub same_agents : (xs ys : List Kept) → AreSame xs ys → EachIs IsAsPlanned xs ys
same_agents xs ys p = each_map IsSteady IsAsPlanned xs ys steady_agent p

stays_agent : (a b : Kept) → Stays a b → IsAsPlanned a b
stays_agent a b s = record { same = s.same; planned = ap (λ (m : Meter). m.planned) s.journal.meter }

pub stays_agents : (xs ys : List Kept) → EachIs Stays xs ys → EachIs IsAsPlanned xs ys
stays_agents xs ys p = each_map Stays IsAsPlanned xs ys stays_agent p

pub unstopped_self : (a : Kept) → IsUnstopped a a
unstopped_self a = record { same = same_self a; stops = refl; planned = refl }

unstopped_trans : (a b c : Kept) → IsUnstopped a b → IsUnstopped b c → IsUnstopped a c
unstopped_trans a b c p q = record { same = same_trans a b c p.same q.same; stops = q.stops ∙ p.stops; planned = q.planned ∙ p.planned }

pub unstopped_twice : (xs ys zs : List Kept) → EachIs IsUnstopped xs ys → EachIs IsUnstopped ys zs → EachIs IsUnstopped xs zs
unstopped_twice [] [] [] p q = tt
unstopped_twice [] [] (z ∷ zs) p q = absurd q
unstopped_twice [] (y ∷ ys) zs p q = absurd p
unstopped_twice (x ∷ xs) [] zs p q = absurd p
unstopped_twice (x ∷ xs) (y ∷ ys) [] p q = absurd q
unstopped_twice (x ∷ xs) (y ∷ ys) (z ∷ zs) p q = (unstopped_trans x y z p.0 q.0, unstopped_twice xs ys zs p.1 q.1)

pub does_unstopped : (f : Home → Seat → Seat) (a b : Kept) → Does f a b → IsUnstopped a b
does_unstopped f a b d = record { same = d.same; stops = ap (λ (m : Meter). m.stops) d.journal.meter; planned = ap (λ (m : Meter). m.planned) d.journal.meter }

pub stops_up : (xs ys : List Kept) → AreSame xs ys → stops_among xs ≤ stops_among ys
stops_up [] [] s = omega arith
stops_up [] (y ∷ ys) s = absurd s
stops_up (x ∷ xs) [] s = absurd s
stops_up (x ∷ xs) (y ∷ ys) s = let one = s.0.stops in let rest = stops_up xs ys s.1 in omega (arith, one, rest)

pub still_of : (t : Network) (xs ys : List Kept) → AreSame xs ys → AreOf t xs → AreOf t ys
still_of t [] [] p o = tt
still_of t [] (y ∷ ys) p o = absurd p
still_of t (x ∷ xs) [] p o = absurd p
still_of t (x ∷ xs) (y ∷ ys) p o = (p.0.network ∙ o.0, still_of t xs ys p.1 o.1)

pub numbers_same : (xs ys : List Kept) → AreSame xs ys → numbers (seats ys) ≡ numbers (seats xs)
numbers_same [] [] e = refl
numbers_same [] (y ∷ ys) e = absurd e
numbers_same (x ∷ xs) [] e = absurd e
numbers_same (x ∷ xs) (y ∷ ys) e = ap₂ ◌∷◌ e.0.number (numbers_same xs ys e.1)

pub still_apart : (xs ys : List Kept) → AreSame xs ys → AreApart (seats xs) → AreApart (seats ys)
still_apart [] [] p a = tt
still_apart [] (y ∷ ys) p a = absurd p
still_apart (x ∷ xs) [] p a = absurd p
still_apart (x ∷ xs) (y ∷ ys) p a = (
  subst (λ (n : ℕ). IsAbsent n (numbers (seats ys))) (sym p.0.number) (subst (λ (ns : List ℕ). IsAbsent x.seat.number ns) (sym (numbers_same xs ys p.1)) a.0),
  (
    subst (λ (n : ℕ). IsAbsent n (others y.seat.doors)) (sym p.0.number) (subst (λ (ns : List ℕ). IsAbsent x.seat.number ns) (sym p.0.others) a.1.0),
    still_apart xs ys p.1 a.1.1,
  ),
)

---- The same links

pub record KeepsLinks (old new : Kept) : Type 0 where
  pub same : IsSteady old new
  pub plugs : new.plugs ≡ old.plugs

linked_same : (a b k l : Kept) → KeepsLinks a b → KeepsLinks k l → AreLinked a k → AreLinked b l
linked_same a b k l p q h =
    ap₂ plug_to q.same.number p.plugs ∙ (h ∙ ap crossed (sym (ap₂ plug_to p.same.number q.plugs)))

linked_all_same : (a b : Kept) (ks ls : List Kept) → KeepsLinks a b → EachIs KeepsLinks ks ls → IsLinkedToAll a ks → IsLinkedToAll b ls
linked_all_same a b [] [] p q h = tt
linked_all_same a b [] (l ∷ ls) p q h = absurd q
linked_all_same a b (k ∷ ks) [] p q h = absurd q
linked_all_same a b (k ∷ ks) (l ∷ ls) p q h = (linked_same a b k l p q.0 h.0, linked_all_same a b ks ls p q.1 h.1)

pub still_wired : (xs ys : List Kept) → EachIs KeepsLinks xs ys → AreWired xs → AreWired ys
still_wired [] [] p h = tt
still_wired [] (y ∷ ys) p h = absurd p
still_wired (x ∷ xs) [] p h = absurd p
still_wired (x ∷ xs) (y ∷ ys) p h = (linked_all_same x y xs ys p.0 p.1 h.0, still_wired xs ys p.1 h.1)

pub links_same : (xs ys : List Kept) → EachIs KeepsLinks xs ys → AreSame xs ys
links_same [] [] p = tt
links_same [] (y ∷ ys) p = absurd p
links_same (x ∷ xs) [] p = absurd p
links_same (x ∷ xs) (y ∷ ys) p = (p.0.same, links_same xs ys p.1)

pub links_net : (xs ys : List Kept) → EachIs KeepsLinks xs ys → AreUsable ys → AreNet xs → AreNet ys
links_net xs ys p u n = record { usable = u; apart = still_apart xs ys (links_same xs ys p) n.apart; wired = still_wired xs ys p n.wired }

pub stays_same : (xs ys : List Kept) → EachIs Stays xs ys → AreSame xs ys
stays_same [] [] p = tt
stays_same [] (y ∷ ys) p = absurd p
stays_same (x ∷ xs) [] p = absurd p
stays_same (x ∷ xs) (y ∷ ys) p = (steady_of x y p.0.same p.0.journal.meter, stays_same xs ys p.1)

pub stays_usable : (xs ys : List Kept) → EachIs Stays xs ys → AreUsable xs → AreUsable ys
stays_usable [] [] p u = tt
stays_usable [] (y ∷ ys) p u = absurd p
stays_usable (x ∷ xs) [] p u = absurd p
stays_usable (x ∷ xs) (y ∷ ys) p u = (p.0.fault ∙ u.0, stays_usable xs ys p.1 u.1)

---- Calls that make a function of every seat

pub does_links : (f : Home → Seat → Seat) (xs ys : List Kept) → EachIs (Does f) xs ys → EachIs KeepsLinks xs ys
does_links f [] [] p = tt
does_links f [] (y ∷ ys) p = absurd p
does_links f (x ∷ xs) [] p = absurd p
does_links f (x ∷ xs) (y ∷ ys) p = (record { same = steady_of x y p.0.same p.0.journal.meter; plugs = p.0.plugs }, does_links f xs ys p.1)

pub does_usable : (f : Home → Seat → Seat) (xs ys : List Kept) → EachIs (Does f) xs ys → AreUsable ys
does_usable f [] [] p = tt
does_usable f [] (y ∷ ys) p = absurd p
does_usable f (x ∷ xs) [] p = absurd p
does_usable f (x ∷ xs) (y ∷ ys) p = (p.0.usable, does_usable f xs ys p.1)

pub does_net : (f : Home → Seat → Seat) (xs ys : List Kept) → EachIs (Does f) xs ys → AreNet xs → AreNet ys
does_net f xs ys p n = links_net xs ys (does_links f xs ys p) (does_usable f xs ys p) n

pub does_same : (f : Home → Seat → Seat) (xs ys : List Kept) → EachIs (Does f) xs ys → AreSame xs ys
does_same f xs ys p = links_same xs ys (does_links f xs ys p)

pub network_at : (t : Network) (ks : List Kept) (i : ℕ) (d : Kept) → i < length ks → AreOf t ks → (get_or ks i d).network ≡ t
network_at t [] i d h o = absurd (omega arith)
network_at t (k ∷ ks) zero d h o = o.0
network_at t (k ∷ ks) (suc i) d h o = network_at t ks i d (omega arith) o.1
