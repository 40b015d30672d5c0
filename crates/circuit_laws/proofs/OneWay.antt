-- A topology in which one way leads from a point to another, over two providers: its legs are those of the least path.
use Rattle.std.proofs.Common.{ℕ, zero, suc, ◌≡◌, ◌∙◌, ◌+◌, ◌⊎◌, inl, inr, Bool, true, false, if◌then◌else◌, ◌&&◌, ◌==◌, List, [], ◌∷◌, Some, None, Ok, codes, eqb-true, slice_get, refl, sym, subst, arith}
use Rattle.nsi_base.specs.Lines.{lines_to, feed_at}
use Rattle.nsi_base.specs.Digits.{value_from, number_of}
use Rattle.nsi_base.specs.Words.{words_of}
use Rattle.stp_topology.specs.declared.network.AgentKind.{AgentKind}
use Rattle.stp_topology.specs.declared.network.PointCapacity.TheVariants.{Shared}
use Rattle.stp_topology.specs.declared.network.Network.{Network}
use Rattle.stp_topology.specs.Laws.{IsWellFormed}
use Rattle.stp_topology.specs.Lines.{known_agent, with_agent, add_provider, add_aggregator, add_requester, with_stp, add_stp, with_sdp, add_sdp, leads_down, stands_over, with_child, add_child, line_of}
use Rattle.stp_topology.specs.Network.{children_of, partner_of}
use Rattle.stp_topology.specs.Sound.{IsSound}
use Rattle.stp_topology.specs.Text.{of_line, read_lines, behind_lines, topology_of}
use Rattle.stp_topology.proofs.LawLemmas.{well_formed}
use Rattle.stp_topology.proofs.TextSound.{text_sound}
use Rattle.path_segments.specs.declared.path.PlacedSegment.{PlacedSegment}
use Rattle.path_segments.specs.declared.path.Segment.{Segment}
use Rattle.path_segments.specs.Paths.{IsOwned, IsSegment, Chain, Offers, position_of, IsPath, IsLeastPath}
use Rattle.agent_state.specs.declared.parent.Leg.{Leg}
use Rattle.aggregator_agent.specs.Setting.{leg_of, legs_of, AreLegs}
use Rattle.nsi_agent.specs.Homes.{Routes, AreRoutes}
use Rattle.least_routes.specs.Laws.{LeastPathOrNone}
use Rattle.circuit_laws.specs.Backed.{IsLeastWay}

abbrev pub topology : Network
topology =
    record {
      agents = codes "west" ∷ codes "east" ∷ codes "joint" ∷ codes "lab" ∷ [];
      kinds = AgentKind.Provider 60 ∷ AgentKind.Provider 60 ∷ AgentKind.Aggregator ∷ AgentKind.Requester 2 ∷ [];
      stps = codes "w:lab" ∷ codes "w:east" ∷ codes "e:west" ∷ codes "e:store" ∷ [];
      owners = 0 ∷ 0 ∷ 1 ∷ 1 ∷ [];
      capacities = Shared 1000 ∷ Shared 1000 ∷ Shared 1000 ∷ Shared 1000 ∷ [];
      partners = None ∷ Some 2 ∷ Some 1 ∷ None ∷ [];
      children = (2, 0) ∷ (2, 1) ∷ [];
    }

abbrev pub legs : List Leg
legs = record { child = codes "west"; source = codes "w:lab"; dest = codes "w:east" } ∷ record { child = codes "east"; source = codes "e:west"; dest = codes "e:store" } ∷ []

-- these legs between the outer points, and else the legs that are given
abbrev pub way_of : Routes → Routes
way_of given agent source dest = if (agent == 2) && ((source == 0) && (dest == 3)) then legs else given agent source dest

---- A text gives it

abbrev text : List ℕ
text = codes "agent west provider 60\nagent east provider 60\nagent joint aggregator\nagent lab requester joint\nstp west w:lab 1000\nstp west w:east 1000\nstp east e:west 1000\nstp east e:store 1000\nsdp w:east e:west\nchild joint west\nchild joint east\n---\n"

text_gives_it : topology_of text ≡ Ok (topology, 235)
unfolding lines_to feed_at value_from number_of words_of known_agent with_agent add_provider add_aggregator add_requester with_stp add_stp with_sdp add_sdp leads_down stands_over with_child add_child line_of of_line read_lines behind_lines
text_gives_it = refl

pub it_is_sound : IsSound topology
it_is_sound = text_sound text topology 235 text_gives_it

pub it_is_well_formed : IsWellFormed topology
it_is_well_formed = well_formed topology it_is_sound

---- Segments

none_there : {X : Type 0} (n : ℕ) (x : X) → slice_get [] n ≡ Some x → ⊥
none_there n x e = cc

abbrev two_children : List ℕ
two_children = 0 ∷ 1 ∷ []

-- a provider offers a way between its own points alone
owned_by : (n b p q : ℕ) → children_of topology b ≡ [] → Offers topology n b p q → IsOwned topology b p q
unfolding Offers
owned_by zero b p q none o = o
owned_by (suc n) b p q none (inl o) = o
owned_by (suc n) b p q none (inr (xs, chain)) = absurd (no_chain xs chain)
  where
    no_chain : (xs : List PlacedSegment) → Chain (partner_of topology) (IsSegment (Offers topology n) (children_of topology b)) p q xs → ⊥
    no_chain [] c = c
    no_chain (x ∷ xs) c = none_there x.place c.1.child (subst (λ (cs : List ℕ). slice_get cs x.place ≡ Some c.1.child) none c.1.is_child)

abbrev Seg : (place entry exit : ℕ) → Type 0
Seg place entry exit = IsSegment (Offers topology 4) (children_of topology 2) place entry exit

some_same : (n k : ℕ) → Some n ≡ Some k → n ≡ k
some_same n k e = cc

west_exit : (q : ℕ) → slice_get topology.owners q ≡ Some 0 → (0 ≡ q → ⊥) → q ≡ 1
west_exit zero e apart = absurd (apart refl)
west_exit (suc zero) e apart = refl
west_exit (suc (suc zero)) e apart = let n : 1 ≡ 0 = some_same 1 0 e in absurd (omega (arith, n))
west_exit (suc (suc (suc zero))) e apart = let n : 1 ≡ 0 = some_same 1 0 e in absurd (omega (arith, n))
west_exit (suc (suc (suc (suc q)))) e apart = absurd (cc)

east_exit : (q : ℕ) → slice_get topology.owners q ≡ Some 1 → (2 ≡ q → ⊥) → q ≡ 3
east_exit zero e apart = let n : 0 ≡ 1 = some_same 0 1 e in absurd (omega (arith, n))
east_exit (suc zero) e apart = let n : 0 ≡ 1 = some_same 0 1 e in absurd (omega (arith, n))
east_exit (suc (suc zero)) e apart = absurd (apart refl)
east_exit (suc (suc (suc zero))) e apart = refl
east_exit (suc (suc (suc (suc q)))) e apart = absurd (cc)

from_west : (place exit : ℕ) → Seg place 0 exit → (place ≡ 0) × (exit ≡ 1)
from_west zero exit s =
    let child : s.child ≡ 0 = some_same s.child 0 (sym s.is_child) in
    let o : IsOwned topology 0 0 exit = owned_by 4 0 0 exit refl (subst (λ (b : ℕ). Offers topology 4 b 0 exit) child s.offered) in
    (refl, west_exit exit o.1 s.apart)
from_west (suc zero) exit s =
    let child : s.child ≡ 1 = some_same s.child 1 (sym s.is_child) in
    let o : IsOwned topology 1 0 exit = owned_by 4 1 0 exit refl (subst (λ (b : ℕ). Offers topology 4 b 0 exit) child s.offered) in
    let n : 0 ≡ 1 = some_same 0 1 o.0 in
    absurd (omega (arith, n))
from_west (suc (suc place)) exit s = absurd (none_there place s.child s.is_child)

from_east : (place exit : ℕ) → Seg place 2 exit → (place ≡ 1) × (exit ≡ 3)
from_east zero exit s =
    let child : s.child ≡ 0 = some_same s.child 0 (sym s.is_child) in
    let o : IsOwned topology 0 2 exit = owned_by 4 0 2 exit refl (subst (λ (b : ℕ). Offers topology 4 b 2 exit) child s.offered) in
    let n : 1 ≡ 0 = some_same 1 0 o.0 in
    absurd (omega (arith, n))
from_east (suc zero) exit s =
    let child : s.child ≡ 1 = some_same s.child 1 (sym s.is_child) in
    let o : IsOwned topology 1 2 exit = owned_by 4 1 2 exit refl (subst (λ (b : ℕ). Offers topology 4 b 2 exit) child s.offered) in
    (refl, east_exit exit o.1 s.apart)
from_east (suc (suc place)) exit s = absurd (none_there place s.child s.is_child)

-- which child stands at a position
first_child : (c : ℕ) → position_of two_children c ≡ 0 → c ≡ 0
unfolding position_of
first_child c e = by (0 == c) refl e
  where
    by : (b : Bool) → (0 == c) ≡ b → (if b then 0 else (if 1 == c then 0 else 0 + 1) + 1) ≡ 0 → c ≡ 0
    by true f g = sym (eqb-true 0 c f)
    by false f g = absurd (omega (arith, g))

second_child : (c : ℕ) → position_of two_children c ≡ 1 → c ≡ 1
unfolding position_of
second_child c e = by (0 == c) (1 == c) refl e
  where
    by : (a b : Bool) → (1 == c) ≡ b → (if a then 0 else (if b then 0 else 0 + 1) + 1) ≡ 1 → c ≡ 1
    by true b f g = absurd (omega (arith, g))
    by false true f g = sym (eqb-true 1 c f)
    by false false f g = absurd (omega (arith, g))

---- Its one way

abbrev first_segment : Segment
first_segment = record { child = 0; entry = 0; exit = 1 }

abbrev second_segment : Segment
second_segment = record { child = 1; entry = 2; exit = 3 }

legs_made : (a b c d e f : ℕ) → a ≡ 0 → b ≡ 0 → c ≡ 1 → d ≡ 1 → e ≡ 2 → f ≡ 3 →
    legs ≡ leg_of topology (record { child = a; entry = b; exit = c }) ∷ leg_of topology (record { child = d; entry = e; exit = f }) ∷ []
legs_made a b c d e f p q r s u v = rw (p, q, r, s, u, v) refl

-- each way from the first point to the last has these legs
one_way : (xs : List Segment) → IsPath topology 2 0 3 xs → legs ≡ legs_of topology xs
unfolding legs_of
one_way [] p = absurd p
one_way (x ∷ []) p =
    let one = from_west (position_of two_children x.child) x.exit (subst (λ (n : ℕ). Seg (position_of two_children x.child) n x.exit) p.0 p.1) in
    let n : 1 ≡ 3 = sym one.1 ∙ p.2 in
    absurd (omega (arith, n))
one_way (x ∷ (y ∷ [])) p =
    let one = from_west (position_of two_children x.child) x.exit (subst (λ (n : ℕ). Seg (position_of two_children x.child) n x.exit) p.0 p.1) in
    let entry : y.entry ≡ 2 = entered y.entry (subst (λ (n : ℕ). partner_of topology n ≡ Some y.entry) one.1 p.2.0) in
    let two = from_east (position_of two_children y.child) y.exit (subst (λ (n : ℕ). Seg (position_of two_children y.child) n y.exit) entry p.2.1) in
    legs_made x.child x.entry x.exit y.child y.entry y.exit (first_child x.child one.0) p.0 one.1 (second_child y.child two.0) entry two.1
  where
    entered : (n : ℕ) → Some 2 ≡ Some n → n ≡ 2
    entered n e = sym (some_same 2 n e)
one_way (x ∷ (y ∷ (z ∷ zs))) p =
    let one = from_west (position_of two_children x.child) x.exit (subst (λ (n : ℕ). Seg (position_of two_children x.child) n x.exit) p.0 p.1) in
    let entry : y.entry ≡ 2 = entered y.entry (subst (λ (n : ℕ). partner_of topology n ≡ Some y.entry) one.1 p.2.0) in
    let two = from_east (position_of two_children y.child) y.exit (subst (λ (n : ℕ). Seg (position_of two_children y.child) n y.exit) entry p.2.1) in
    absurd (ends z.entry (subst (λ (n : ℕ). partner_of topology n ≡ Some z.entry) two.1 p.2.2.0))
  where
    entered : (n : ℕ) → Some 2 ≡ Some n → n ≡ 2
    entered n e = sym (some_same 2 n e)

    ends : (n : ℕ) → None ≡ Some n → ⊥
    ends n e = cc

-- it is there
the_way : IsPath topology 2 0 3 (first_segment ∷ second_segment ∷ [])
unfolding Offers position_of
the_way = (
  refl,
  record { child = 0; is_child = refl; apart = λ e. absurd (omega (arith, e)); offered = inl (refl, refl) },
  (refl, record { child = 1; is_child = refl; apart = λ e. absurd (omega (arith, e)); offered = inl (refl, refl) }, refl),
)

-- the least path is it
pub least_is_it : LeastPathOrNone → IsLeastWay topology 2 0 3 legs
least_is_it search = by (search topology 2 0 3)
  where
    by : ((ys : List Segment) × IsLeastPath topology 2 0 3 ys) ⊎ ((ys : List Segment) → IsPath topology 2 0 3 ys → ⊥) → IsLeastWay topology 2 0 3 legs
    by (inl (ys, least)) = (ys, least, one_way ys least.path)
    by (inr none) = absurd (none (first_segment ∷ second_segment ∷ []) the_way)

are_legs : AreLegs topology 2 0 3 legs
are_legs = record { least = λ xs p. one_way xs p.path; none = λ no. absurd (no (first_segment ∷ second_segment ∷ []) the_way) }

first_holds : (a b : Bool) → (a && b) ≡ true → (a ≡ true) × (b ≡ true)
first_holds true b h = (refl, h)
first_holds false b h = absurd (cc)

-- so with the legs of the least paths elsewhere they are those of the least paths
pub are_routes : (given : Routes) → AreRoutes topology given → AreRoutes topology (way_of given)
are_routes given are a s d = by ((a == 2) && ((s == 0) && (d == 3))) refl
  where
    moved : (a s d : ℕ) → a ≡ 2 → s ≡ 0 → d ≡ 3 → AreLegs topology a s d legs
    moved a s d e f g = rw (e, f, g) are_legs

    by : (b : Bool) → ((a == 2) && ((s == 0) && (d == 3))) ≡ b → AreLegs topology a s d (if b then legs else given a s d)
    by false e = are a s d
    by true e =
        let one = first_holds (a == 2) ((s == 0) && (d == 3)) e in
        let two = first_holds (s == 0) (d == 3) one.1 in
        moved a s d (eqb-true a 2 one.0) (eqb-true s 0 two.0) (eqb-true d 3 two.1)
