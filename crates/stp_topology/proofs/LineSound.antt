-- The topology after a line is sound.
use Rattle.std.proofs.Common.{◌≡◌, ℕ, List, Bool, true, false, ◌&&◌, cond, Result, Ok, Err, codes, subst}
use Rattle.std.specs.Str.{bytes_eq}
use Rattle.nsi_base.specs.Range.{least_hold, greatest_hold, least_mbps, greatest_mbps}
use Rattle.stp_topology.specs.declared.fault.TopologyFault.{TopologyFault}
use Rattle.stp_topology.specs.declared.fault.TopologyFault.TheVariants.{Word, Unknown}
use Rattle.stp_topology.specs.declared.network.AgentKind.TheVariants.{Provider, Aggregator, Requester}
use Rattle.stp_topology.specs.declared.network.PointCapacity.TheVariants.{Shared, Each}
use Rattle.stp_topology.specs.declared.declare.Sort.TheVariants as sorts
use Rattle.stp_topology.specs.Faults.{◌>>=◌, value_or}
use Rattle.stp_topology.specs.Network.{Network, stp_of}
use Rattle.stp_topology.specs.Sound.{IsSound, TakesRequests}
use Rattle.stp_topology.specs.Words.{name_form, number_form}
use Rattle.stp_topology.specs.Lines.{known_agent, with_agent, add_provider, add_aggregator, add_requester, with_stp, add_stp, add_directed_stp, with_sdp, add_sdp, with_child, add_child, word, is_form, line_of}
use Rattle.stp_topology.proofs.SoundLemmas.{first_step, agent_sound, stp_sound, sdp_sound, child_sound, known_provider, known_aggregator, known_takes, known_within, stp_within}

provider_sound : (t new : Network) (name hold : List ℕ) → IsSound t → add_provider t name hold ≡ Ok new → IsSound new
unfolding add_provider
provider_sound t new name hold s h =
    let a = first_step (name_form name) (λ n. number_form least_hold greatest_hold hold >>= λ k. with_agent t n (Provider k)) new h in
    let b = first_step (number_form least_hold greatest_hold hold) (λ k. with_agent t a.0 (Provider k)) new a.2 in
    agent_sound t new a.0 (Provider b.0) s (λ p e. cc) b.2

aggregator_sound : (t new : Network) (name : List ℕ) → IsSound t → add_aggregator t name ≡ Ok new → IsSound new
unfolding add_aggregator
aggregator_sound t new name s h =
    let a = first_step (name_form name) (λ n. with_agent t n Aggregator) new h in
    agent_sound t new a.0 Aggregator s (λ p e. cc) a.2

requester_sound : (t new : Network) (name agent : List ℕ) → IsSound t → add_requester t name agent ≡ Ok new → IsSound new
unfolding add_requester
requester_sound t new name agent s h =
    let a = first_step (name_form name) (λ n. name_form agent >>= λ p. known_agent t sorts.Either p >>= λ i. with_agent t n (Requester i)) new h in
    let b = first_step (name_form agent) (λ p. known_agent t sorts.Either p >>= λ i. with_agent t a.0 (Requester i)) new a.2 in
    let c = first_step (known_agent t sorts.Either b.0) (λ i. with_agent t a.0 (Requester i)) new b.2 in
    let w = known_within t sorts.Either b.0 c.0 s c.1 in
    agent_sound t new a.0 (Requester c.0) s (λ p e. let q : c.0 ≡ p = cc in (rw (← q) w, subst (TakesRequests t) q (known_takes t b.0 c.0 c.1))) c.2

points_sound : (t new : Network) (provider name capacity : List ℕ) → IsSound t → add_stp t provider name capacity ≡ Ok new → IsSound new
unfolding add_stp
points_sound t new provider name capacity s h =
    let a = first_step (name_form provider) (λ p. name_form name >>= λ n. number_form least_mbps greatest_mbps capacity >>= λ c. known_agent t sorts.OneProvider p >>= λ i. with_stp t n i (Shared c)) new h in
    let b = first_step (name_form name) (λ n. number_form least_mbps greatest_mbps capacity >>= λ c. known_agent t sorts.OneProvider a.0 >>= λ i. with_stp t n i (Shared c)) new a.2 in
    let c = first_step (number_form least_mbps greatest_mbps capacity) (λ c. known_agent t sorts.OneProvider a.0 >>= λ i. with_stp t b.0 i (Shared c)) new b.2 in
    let d = first_step (known_agent t sorts.OneProvider a.0) (λ i. with_stp t b.0 i (Shared c.0)) new c.2 in
    stp_sound t new b.0 d.0 (Shared c.0) s (known_provider t a.0 d.0 d.1) d.2

directed_sound : (t new : Network) (provider name inward outward : List ℕ) → IsSound t → add_directed_stp t provider name inward outward ≡ Ok new → IsSound new
unfolding add_directed_stp
directed_sound t new provider name inward outward s h =
    let a = first_step (name_form provider) (λ p. name_form name >>= λ n. number_form least_mbps greatest_mbps inward >>= λ x. number_form least_mbps greatest_mbps outward >>= λ y. known_agent t sorts.OneProvider p >>= λ i. with_stp t n i (Each x y)) new h in
    let b = first_step (name_form name) (λ n. number_form least_mbps greatest_mbps inward >>= λ x. number_form least_mbps greatest_mbps outward >>= λ y. known_agent t sorts.OneProvider a.0 >>= λ i. with_stp t n i (Each x y)) new a.2 in
    let c = first_step (number_form least_mbps greatest_mbps inward) (λ x. number_form least_mbps greatest_mbps outward >>= λ y. known_agent t sorts.OneProvider a.0 >>= λ i. with_stp t b.0 i (Each x y)) new b.2 in
    let e = first_step (number_form least_mbps greatest_mbps outward) (λ y. known_agent t sorts.OneProvider a.0 >>= λ i. with_stp t b.0 i (Each c.0 y)) new c.2 in
    let d = first_step (known_agent t sorts.OneProvider a.0) (λ i. with_stp t b.0 i (Each c.0 e.0)) new e.2 in
    stp_sound t new b.0 d.0 (Each c.0 e.0) s (known_provider t a.0 d.0 d.1) d.2

pairs_sound : (t new : Network) (first second : List ℕ) → IsSound t → add_sdp t first second ≡ Ok new → IsSound new
unfolding add_sdp
pairs_sound t new first second s h =
    let a = first_step (name_form first) (λ a. name_form second >>= λ b. value_or Unknown (stp_of t a) >>= λ i. value_or Unknown (stp_of t b) >>= λ j. with_sdp t i j) new h in
    let b = first_step (name_form second) (λ b. value_or Unknown (stp_of t a.0) >>= λ i. value_or Unknown (stp_of t b) >>= λ j. with_sdp t i j) new a.2 in
    let c = first_step (value_or Unknown (stp_of t a.0)) (λ i. value_or Unknown (stp_of t b.0) >>= λ j. with_sdp t i j) new b.2 in
    let d = first_step (value_or Unknown (stp_of t b.0)) (λ j. with_sdp t c.0 j) new c.2 in
    sdp_sound t new c.0 d.0 s (stp_within t a.0 c.0 c.1) (stp_within t b.0 d.0 d.1) d.2

childs_sound : (t new : Network) (parent child : List ℕ) → IsSound t → add_child t parent child ≡ Ok new → IsSound new
unfolding add_child
childs_sound t new parent child s h =
    let a = first_step (name_form parent) (λ a. name_form child >>= λ b. known_agent t sorts.OneAggregator a >>= λ i. known_agent t sorts.Either b >>= λ j. with_child t i j) new h in
    let b = first_step (name_form child) (λ b. known_agent t sorts.OneAggregator a.0 >>= λ i. known_agent t sorts.Either b >>= λ j. with_child t i j) new a.2 in
    let c = first_step (known_agent t sorts.OneAggregator a.0) (λ i. known_agent t sorts.Either b.0 >>= λ j. with_child t i j) new b.2 in
    let d = first_step (known_agent t sorts.Either b.0) (λ j. with_child t c.0 j) new c.2 in
    child_sound t new c.0 d.0 s (known_aggregator t a.0 c.0 c.1) (known_takes t b.0 d.0 d.1) (known_within t sorts.Either b.0 d.0 s d.1) d.2

either : (b : Bool) (x y : Result Network TopologyFault) (new : Network) → (x ≡ Ok new → IsSound new) → (y ≡ Ok new → IsSound new) → cond b x y ≡ Ok new → IsSound new
either true x y new f g h = f h
either false x y new f g h = g h

pub line_sound : (t new : Network) (words : List (List ℕ)) → IsSound t → line_of t words ≡ Ok new → IsSound new
unfolding line_of
line_sound t new words s =
    either (is_form words 4 (codes "agent") && bytes_eq (word words 2) (codes "provider")) _ _ new (provider_sound t new (word words 1) (word words 3) s)
    (either (is_form words 3 (codes "agent") && bytes_eq (word words 2) (codes "aggregator")) _ _ new (aggregator_sound t new (word words 1) s)
    (either (is_form words 4 (codes "agent") && bytes_eq (word words 2) (codes "requester")) _ _ new (requester_sound t new (word words 1) (word words 3) s)
    (either (is_form words 4 (codes "stp")) _ _ new (points_sound t new (word words 1) (word words 2) (word words 3) s)
    (either (is_form words 5 (codes "stp")) _ _ new (directed_sound t new (word words 1) (word words 2) (word words 3) (word words 4) s)
    (either (is_form words 3 (codes "sdp")) _ _ new (pairs_sound t new (word words 1) (word words 2) s)
    (either (is_form words 3 (codes "child")) _ (Err Word) new (childs_sound t new (word words 1) (word words 2) s) (λ h. cc)))))))
