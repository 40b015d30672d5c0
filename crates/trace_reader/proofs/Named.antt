-- The agents of a text's topology have names.
use Rattle.std.proofs.Common.{◌≡◌, ℕ, zero, suc, ◌+◌, ◌<◌, List, [], ◌∷◌, ◌++◌, Bool, true, false, ◌&&◌, ◌==◌, cond, Result, Ok, Err, length, get_or, codes, refl, ap, subst, arith}
use Rattle.std.specs.List.{AllByRecursion}
use Rattle.std.specs.Str.{bytes_eq}
use Rattle.nsi_base.specs.Bytes.{is_name}
use Rattle.nsi_base.specs.Lines.{lines_of}
use Rattle.nsi_base.specs.Range.{least_hold, greatest_hold, least_mbps, greatest_mbps}
use Rattle.nsi_base.specs.Words.{words_of}
use Rattle.nsi_base.specs.declared.words.Blanks.TheVariants.{SpaceOrTab}
use Rattle.nsi_primitive.specs.Ranges.{IsName}
use Rattle.stp_topology.specs.declared.fault.TopologyFault.{TopologyFault}
use Rattle.stp_topology.specs.declared.fault.TopologyFault.TheVariants.{Word, Unknown, Empty}
use Rattle.stp_topology.specs.declared.declare.Sort.TheVariants as sorts
use Rattle.stp_topology.specs.declared.network.AgentKind.{AgentKind}
use Rattle.stp_topology.specs.declared.network.AgentKind.TheVariants.{Provider, Aggregator, Requester}
use Rattle.stp_topology.specs.declared.network.PointCapacity.{PointCapacity}
use Rattle.stp_topology.specs.declared.network.PointCapacity.TheVariants.{Shared, Each}
use Rattle.stp_topology.specs.declared.topology.Taken.{Taken}
use Rattle.stp_topology.specs.declared.topology.Taken.TheVariants.{More, Whole}
use Rattle.stp_topology.specs.Faults.{◌>>=◌, value_or}
use Rattle.stp_topology.specs.Laws.{IsWellFormed}
use Rattle.stp_topology.specs.Lines.{known_agent, with_agent, add_provider, add_aggregator, add_requester, with_stp, add_stp, add_directed_stp, with_sdp, add_sdp, with_child, add_child, word, is_form, line_of}
use Rattle.stp_topology.specs.Network.{nothing, stp_of}
use Rattle.stp_topology.specs.declared.network.Network.{Network}
use Rattle.stp_topology.specs.Text.{is_skipped, of_line, onward, read_lines, placed, place_behind, topology_of}
use Rattle.stp_topology.specs.Words.{name_form, number_form}
use Rattle.trace_reader.specs.Laws.{HasNames}

abbrev AreNames : List (List ℕ) → Type 0
AreNames names = AllByRecursion IsName names

one_more : (names : List (List ℕ)) (name : List ℕ) → AreNames names → IsName name → AreNames (names ++ name ∷ [])
one_more [] name h n = (n, tt)
one_more (m ∷ names) name h n = (h.0, one_more names name h.1 n)

at_place : (names : List (List ℕ)) (a : ℕ) → AreNames names → a < length names → IsName (get_or names a [])
at_place [] a h l = absurd (omega (arith, l))
at_place (name ∷ names) zero h l = h.0
at_place (name ∷ names) (suc a) h l = at_place names a h.1 (omega (arith, l))

---- Lines

-- where there is a network, its agents have names
abbrev IsNamed : Result Network TopologyFault → Type 0
IsNamed (Ok t) = AreNames t.agents
IsNamed (Err fault) = Unit {0}

then_named : {A : Type 0} (r : Result A TopologyFault) (next : A → Result Network TopologyFault) → ((x : A) → r ≡ Ok x → IsNamed (next x)) → IsNamed (r >>= next)
then_named (Ok x) next h = h x refl
then_named (Err fault) next h = tt

either_named : (b : Bool) (x y : Result Network TopologyFault) → IsNamed x → IsNamed y → IsNamed (cond b x y)
either_named true x y h g = h
either_named false x y h g = g

formed : (w name : List ℕ) → name_form w ≡ Ok name → IsName name
formed w name h = by_test (is_name w) refl h
  where
    by_test : (b : Bool) → is_name w ≡ b → cond {A = Result (List ℕ) TopologyFault} b (Ok w) (Err Word) ≡ Ok name → IsName name
    by_test true e f = let same : w ≡ name = cc in subst IsName same e
    by_test false e f = cc

agent_named : (t : Network) (name : List ℕ) (kind : AgentKind) → AreNames t.agents → IsName name → IsNamed (with_agent t name kind)
unfolding with_agent
agent_named t name kind h n = search (either_named, one_more t.agents name h n)

provider_named : (t : Network) (name hold : List ℕ) → AreNames t.agents → IsNamed (add_provider t name hold)
unfolding add_provider
provider_named t name hold h =
    then_named (name_form name) (λ n. number_form least_hold greatest_hold hold >>= λ k. with_agent t n (Provider k)) (λ n e.
    then_named (number_form least_hold greatest_hold hold) (λ k. with_agent t n (Provider k)) (λ k _. agent_named t n (Provider k) h (formed name n e)))

aggregator_named : (t : Network) (name : List ℕ) → AreNames t.agents → IsNamed (add_aggregator t name)
unfolding add_aggregator
aggregator_named t name h = then_named (name_form name) (λ n. with_agent t n Aggregator) (λ n e. agent_named t n Aggregator h (formed name n e))

requester_named : (t : Network) (name agent : List ℕ) → AreNames t.agents → IsNamed (add_requester t name agent)
unfolding add_requester
requester_named t name agent h =
    then_named (name_form name) (λ n. name_form agent >>= λ p. known_agent t sorts.Either p >>= λ i. with_agent t n (Requester i)) (λ n e.
    then_named (name_form agent) (λ p. known_agent t sorts.Either p >>= λ i. with_agent t n (Requester i)) (λ p _.
    then_named (known_agent t sorts.Either p) (λ i. with_agent t n (Requester i)) (λ i _. agent_named t n (Requester i) h (formed name n e))))

point_named : (t : Network) (name : List ℕ) (owner : ℕ) (capacity : PointCapacity) → AreNames t.agents → IsNamed (with_stp t name owner capacity)
unfolding with_stp
point_named t name owner capacity h = search (either_named, h)

points_named : (t : Network) (provider name capacity : List ℕ) → AreNames t.agents → IsNamed (add_stp t provider name capacity)
unfolding add_stp
points_named t provider name capacity h =
    then_named (name_form provider) (λ p. name_form name >>= λ n. number_form least_mbps greatest_mbps capacity >>= λ c. known_agent t sorts.OneProvider p >>= λ i. with_stp t n i (Shared c)) (λ p _.
    then_named (name_form name) (λ n. number_form least_mbps greatest_mbps capacity >>= λ c. known_agent t sorts.OneProvider p >>= λ i. with_stp t n i (Shared c)) (λ n _.
    then_named (number_form least_mbps greatest_mbps capacity) (λ c. known_agent t sorts.OneProvider p >>= λ i. with_stp t n i (Shared c)) (λ c _.
    then_named (known_agent t sorts.OneProvider p) (λ i. with_stp t n i (Shared c)) (λ i _. point_named t n i (Shared c) h))))

directed_named : (t : Network) (provider name inward outward : List ℕ) → AreNames t.agents → IsNamed (add_directed_stp t provider name inward outward)
unfolding add_directed_stp
directed_named t provider name inward outward h =
    then_named (name_form provider) (λ p. name_form name >>= λ n. number_form least_mbps greatest_mbps inward >>= λ x. number_form least_mbps greatest_mbps outward >>= λ y. known_agent t sorts.OneProvider p >>= λ i. with_stp t n i (Each x y)) (λ p _.
    then_named (name_form name) (λ n. number_form least_mbps greatest_mbps inward >>= λ x. number_form least_mbps greatest_mbps outward >>= λ y. known_agent t sorts.OneProvider p >>= λ i. with_stp t n i (Each x y)) (λ n _.
    then_named (number_form least_mbps greatest_mbps inward) (λ x. number_form least_mbps greatest_mbps outward >>= λ y. known_agent t sorts.OneProvider p >>= λ i. with_stp t n i (Each x y)) (λ x _.
    then_named (number_form least_mbps greatest_mbps outward) (λ y. known_agent t sorts.OneProvider p >>= λ i. with_stp t n i (Each x y)) (λ y _.
    then_named (known_agent t sorts.OneProvider p) (λ i. with_stp t n i (Each x y)) (λ i _. point_named t n i (Each x y) h)))))

pairs_named : (t : Network) (first second : List ℕ) → AreNames t.agents → IsNamed (add_sdp t first second)
unfolding add_sdp with_sdp
pairs_named t first second h =
    then_named (name_form first) (λ a. name_form second >>= λ b. value_or Unknown (stp_of t a) >>= λ i. value_or Unknown (stp_of t b) >>= λ j. with_sdp t i j) (λ a _.
    then_named (name_form second) (λ b. value_or Unknown (stp_of t a) >>= λ i. value_or Unknown (stp_of t b) >>= λ j. with_sdp t i j) (λ b _.
    then_named (value_or Unknown (stp_of t a)) (λ i. value_or Unknown (stp_of t b) >>= λ j. with_sdp t i j) (λ i _.
    then_named (value_or Unknown (stp_of t b)) (λ j. with_sdp t i j) (λ j _. search (either_named, h)))))

children_named : (t : Network) (parent child : List ℕ) → AreNames t.agents → IsNamed (add_child t parent child)
unfolding add_child with_child
children_named t parent child h =
    then_named (name_form parent) (λ a. name_form child >>= λ b. known_agent t sorts.OneAggregator a >>= λ i. known_agent t sorts.Either b >>= λ j. with_child t i j) (λ a _.
    then_named (name_form child) (λ b. known_agent t sorts.OneAggregator a >>= λ i. known_agent t sorts.Either b >>= λ j. with_child t i j) (λ b _.
    then_named (known_agent t sorts.OneAggregator a) (λ i. known_agent t sorts.Either b >>= λ j. with_child t i j) (λ i _.
    then_named (known_agent t sorts.Either b) (λ j. with_child t i j) (λ j _. search (either_named, h)))))

line_named : (t : Network) (words : List (List ℕ)) → AreNames t.agents → IsNamed (line_of t words)
unfolding line_of
line_named t words h =
    either_named (is_form words 4 (codes "agent") && bytes_eq (word words 2) (codes "provider")) _ _ (provider_named t (word words 1) (word words 3) h)
    (either_named (is_form words 3 (codes "agent") && bytes_eq (word words 2) (codes "aggregator")) _ _ (aggregator_named t (word words 1) h)
    (either_named (is_form words 4 (codes "agent") && bytes_eq (word words 2) (codes "requester")) _ _ (requester_named t (word words 1) (word words 3) h)
    (either_named (is_form words 4 (codes "stp")) _ _ (points_named t (word words 1) (word words 2) (word words 3) h)
    (either_named (is_form words 5 (codes "stp")) _ _ (directed_named t (word words 1) (word words 2) (word words 3) (word words 4) h)
    (either_named (is_form words 3 (codes "sdp")) _ _ (pairs_named t (word words 1) (word words 2) h)
    (either_named (is_form words 3 (codes "child")) _ (Err Word) (children_named t (word words 1) (word words 2) h) tt))))))

---- Texts

abbrev IsNamedTaken : Result Taken TopologyFault → Type 0
IsNamedTaken (Ok (More t)) = AreNames t.agents
IsNamedTaken (Ok (Whole t)) = AreNames t.agents
IsNamedTaken (Err fault) = Unit {0}

taken_named : (t : Network) (line : List ℕ) → AreNames t.agents → IsNamedTaken (of_line t line)
unfolding of_line
taken_named t line h = by_tests (is_skipped line) (bytes_eq line (codes "---")) (length t.agents == 0) (by_words (line_of t (words_of SpaceOrTab line)) (line_named t (words_of SpaceOrTab line) h))
  where
    by_words : (read : Result Network TopologyFault) → IsNamed read → IsNamedTaken (read >>= λ new. Ok (More new))
    by_words (Ok new) f = f
    by_words (Err fault) f = tt

    by_tests : (skipped last empty : Bool) → IsNamedTaken (line_of t (words_of SpaceOrTab line) >>= λ new. Ok (More new))
        → IsNamedTaken (cond skipped (Ok (More t)) (cond last (cond empty (Err Empty) (Ok (Whole t))) (line_of t (words_of SpaceOrTab line) >>= λ new. Ok (More new))))
    by_tests true last empty f = h
    by_tests false true true f = tt
    by_tests false true false f = h
    by_tests false false empty f = f

abbrev IsNamedRead : Result (Network × ℕ) (ℕ × TopologyFault) → Type 0
IsNamedRead (Ok r) = AreNames r.0.agents
IsNamedRead (Err e) = Unit {0}

lines_named : (t : Network) (n : ℕ) (lines : List (List ℕ)) → AreNames t.agents → IsNamedRead (read_lines t n lines)
unfolding read_lines
lines_named t n [] h = tt
lines_named t n (line ∷ lines) h = by_taken (of_line t line) (taken_named t line h) (λ new i. lines_named new (n + 1) lines i)
  where
    by_taken : (r : Result Taken TopologyFault) → IsNamedTaken r → ((new : Network) → AreNames new.agents → IsNamedRead (read_lines new (n + 1) lines)) → IsNamedRead (onward (n + 1) r (λ new. read_lines new (n + 1) lines))
    by_taken (Ok (More new)) i next = next new i
    by_taken (Ok (Whole new)) i next = i
    by_taken (Err fault) i next = tt

same_value : (x y : Network × ℕ) → (r : Result (Network × ℕ) (ℕ × TopologyFault)) → r ≡ Ok x → r ≡ Ok y → x ≡ y
same_value x y r h g = cc

text_named : (text : List ℕ) (t : Network) (place : ℕ) → topology_of text ≡ Ok (t, place) → AreNames t.agents
text_named text t place h = by_read (read_lines nothing 0 (lines_of text)) (lines_named nothing 0 (lines_of text) tt) h
  where
    by_read : (r : Result (Network × ℕ) (ℕ × TopologyFault)) → IsNamedRead r → placed text r ≡ Ok (t, place) → AreNames t.agents
    by_read (Ok r) i e = subst (λ (x : Network). AreNames x.agents) (ap (λ (x : Network × ℕ). x.0) (same_value (r.0, place_behind text r.1) (t, place) (Ok (r.0, place_behind text r.1)) refl e)) i
    by_read (Err fault) i e = cc

pub has_names : (text : List ℕ) (t : Network) (place : ℕ) → IsWellFormed t → topology_of text ≡ Ok (t, place) → HasNames t
has_names text t place w h = record { named = λ a l. at_place t.agents a (text_named text t place h) l; found = w.agents }
