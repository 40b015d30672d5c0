-- From the table of the least steps to the least path.
use Rattle.std.proofs.Common.{◌≡◌, ℕ, zero, suc, ◌⊎◌, inl, inr, List, [], ◌∷◌, Option, Some, None, refl, arith}
use Rattle.path_segments.specs.declared.path.PlacedSegment.{PlacedSegment}
use Rattle.path_segments.specs.declared.search.Step.{Step}
use Rattle.path_segments.specs.Paths.{Chain, Less}
use Rattle.path_segments.specs.Steps.{at, Sound, Follows}
use Rattle.path_segments.proofs.Follow.{segment_of, follows_last, follows_more, hop_next, no_path, none_less}
use Rattle.path_segments.proofs.Least.{follows_chain}
use Rattle.path_segments.proofs.Searches.{not_none}
use Rattle.least_routes.proofs.Levels.{IsFinite, Table, table}

-- segments from the source to the destination, with none before them
pub record LeastChain (pairs : ℕ → Option ℕ) (segment : ℕ → ℕ → ℕ → Type 0) (source dest : ℕ) : Type 0 where
  pub segments : List PlacedSegment
  pub chain : Chain pairs segment source dest segments
  pub least : (other : List PlacedSegment) → Chain pairs segment source dest other → Less other segments → ⊥

abbrev pub NoChain : (ℕ → Option ℕ) → (ℕ → ℕ → ℕ → Type 0) → ℕ → ℕ → Type 0
NoChain pairs segment source dest = (xs : List PlacedSegment) → Chain pairs segment source dest xs → ⊥

-- the steps from a point on, of which that many are left
follow : (next : ℕ → Option Step) (pairs : ℕ → Option ℕ) (segment : ℕ → ℕ → ℕ → Type 0) (dest : ℕ) → Sound next pairs segment dest → (left p : ℕ) (e : Step) → next p ≡ Some e → e.rest ≡ left
    → (xs : List PlacedSegment) × Follows next pairs dest p xs
follow next pairs segment dest sound zero p e h is = (segment_of p e ∷ [], follows_last next pairs dest p e h is (sound p e h).1)
follow next pairs segment dest sound (suc left) p e h is =
    let g = hop_next next pairs dest e.rest e.exit (sound p e h).1 (λ z. absurd (omega (arith, z, is))) in
    let f = follow next pairs segment dest sound left g.0 g.1 g.3 (omega (arith, g.4, is)) in
    (segment_of p e ∷ f.0, follows_more next pairs dest p g.0 e g.1 h g.3 g.2 g.4 f.0 f.1)

by_table : (pairs : ℕ → Option ℕ) (segment : ℕ → ℕ → ℕ → Type 0) (source dest : ℕ) (t : Table pairs segment dest) (o : Option Step) → at t.steps source ≡ o
    → LeastChain pairs segment source dest ⊎ NoChain pairs segment source dest
by_table pairs segment source dest t None is = inr (no_path (at t.steps) pairs segment dest source t.complete (λ e h. not_none e (at t.steps source) h is))
by_table pairs segment source dest t (Some e) is =
    let f = follow (at t.steps) pairs segment dest t.sound e.rest source e is refl in
    inl (record {
      segments = f.0;
      chain = follows_chain (at t.steps) pairs segment dest t.sound source f.0 f.1;
      least = none_less (at t.steps) pairs segment dest source t.complete f.0 f.1;
    })

-- there is a least path, or none
pub find : (pairs : ℕ → Option ℕ) (segment : ℕ → ℕ → ℕ → Type 0) (points children : ℕ) → IsFinite segment points children → (source dest : ℕ)
    → LeastChain pairs segment source dest ⊎ NoChain pairs segment source dest
find pairs segment points children finite source dest =
    let t = table pairs segment points children finite dest in by_table pairs segment source dest t (at t.steps source) refl
