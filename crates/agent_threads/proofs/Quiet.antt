-- Whether all agents are quiet.
use Rattle.std.proofs.Common.{ℕ, ◌+◌, ◌<◌, ◌≤◌, ◌≡◌, Bool, true, false, ◌&&◌, List, sym, ap, ◌∙◌, subst, length, drop, get_or, add-one, drop-cons}
use Rattle.std.proofs.lemmas.List.{drop_all}
use Rattle.stp_topology.specs.declared.network.Network.{Network}
use Rattle.nsi_agent.specs.Homes.{Routes, AreRoutes, home_in}
use Rattle.agent_node.specs.Acts.{is_quiet}
use Rattle.agent_node.specs.Kept.{Kept}
use Rattle.agent_node.specs.Made.{AtHome}
use Rattle.nsi_play.specs.Rounds.{Homes, is_quiet_in, all_quiet}
use Rattle.agent_threads.specs.Nets.{seats_by, seen, AreOf, AtHomes}
use Rattle.agent_threads.proofs.Same.{at_home, network_at}
use Rattle.agent_threads.proofs.Seen.{seen_quiet}

quiet_at : (b : Bool) (homes : Homes) (ks : List Kept) (i : ℕ) (d : Kept) → i < length ks → all_quiet homes (seats_by b (drop i ks)) ≡ (is_quiet_in homes (seen b (get_or ks i d)) && all_quiet homes (seats_by b (drop (i + 1) ks)))
quiet_at b homes ks i d h = ap (λ (xs : List Kept). all_quiet homes (seats_by b xs)) (drop-cons ks i d h) ∙ ap (λ n. is_quiet_in homes (seen b (get_or ks i d)) && all_quiet homes (seats_by b (drop n ks))) (sym (add-one i))

quiet_item : (b : Bool) (t : Network) (ks : List Kept) (i : ℕ) (d k : Kept) (q : Bool) → i < length ks → AreOf t ks → k ≡ get_or ks i d → AtHome k (λ h. q ≡ is_quiet h k.seat) → (routes : Routes) → AreRoutes t routes → q ≡ is_quiet_in (home_in t routes) (seen b (get_or ks i d))
quiet_item b t ks i d k q h o e f routes r =
    at_home t (get_or ks i d) (λ z. q ≡ is_quiet z (get_or ks i d).seat) (network_at t ks i d h o) (subst (λ (x : Kept). AtHome x (λ z. q ≡ is_quiet z x.seat)) e f) routes r
    ∙ sym (seen_quiet b (home_in t routes (get_or ks i d).seat.number) (get_or ks i d))

-- one isn't quiet
pub not_quiet : (ks : List Kept) (i : ℕ) (d k : Kept) (q : Bool) → i < length ks → k ≡ get_or ks i d → AtHome k (λ h. q ≡ is_quiet h k.seat) → q ≡ false → AtHomes ks (λ homes b. false ≡ all_quiet homes (seats_by b (drop i ks)))
not_quiet ks i d k q h e f n t o routes r b w =
    sym (quiet_at b (home_in t routes) ks i d h ∙ ap (λ z. z && all_quiet (home_in t routes) (seats_by b (drop (i + 1) ks))) (sym (quiet_item b t ks i d k q h o e f routes r) ∙ n))

-- one is quiet
pub still_quiet : (ks : List Kept) (i : ℕ) (d k : Kept) (q : Bool) → i < length ks → k ≡ get_or ks i d → AtHome k (λ h. q ≡ is_quiet h k.seat) → q ≡ true → AtHomes ks (λ homes b. all_quiet homes (seats_by b (drop (i + 1) ks)) ≡ all_quiet homes (seats_by b (drop i ks)))
still_quiet ks i d k q h e f n t o routes r b w =
    sym (quiet_at b (home_in t routes) ks i d h ∙ ap (λ z. z && all_quiet (home_in t routes) (seats_by b (drop (i + 1) ks))) (sym (quiet_item b t ks i d k q h o e f routes r) ∙ n))

pub quiet_end : (b : Bool) (homes : Homes) (ks : List Kept) (i : ℕ) → length ks ≤ i → all_quiet homes (seats_by b (drop i ks)) ≡ true
quiet_end b homes ks i h = ap (λ (xs : List Kept). all_quiet homes (seats_by b xs)) (drop_all i ks h)
