-- Whether an agent offers a way is told by the providers below it alone.
use Rattle.std.proofs.Common.{◌≡◌, ◌≢◌, ℕ, zero, suc, inl, inr, List, [], ◌∷◌, Some, slice_get, sym, ◌∙◌, refl, subst, ap, length, ◌<◌}
use Rattle.std.proofs.lemmas.Option.{slice_get_within}
use Rattle.stp_topology.specs.declared.network.Network.{Network}
use Rattle.path_segments.specs.declared.path.PlacedSegment.{PlacedSegment}
use Rattle.path_segments.specs.Walks.{IsBelow, Walk, AreLeaves}
use Rattle.path_segments.specs.Walks.Walk.{last, more}
use Rattle.path_segments.specs.Paths.{IsOwned, IsSegment, Onward, Chain, Offers}
use Rattle.stp_topology.specs.Network.{partner_of, children_of}

pub walk_map : (t : Network) (among wider : ℕ → Type 0) (d p : ℕ) → ((b : ℕ) → among b → wider b) → Walk t among d p → Walk t wider d p
walk_map t among wider d p f (last b p' m o e) = last b p' (f b m) o e
walk_map t among wider d p f (more b p' x y m o e j w) = more b p' x y (f b m) o e j (walk_map t among wider d y f w)

walk-join : (t : Network) (among : ℕ → Type 0) (d x y p : ℕ) → Walk t among x p → partner_of t x ≡ Some y → Walk t among d y → Walk t among d p
walk-join t among d x y p (last b p' m o e) j w = more b p' x y m o e j w
walk-join t among d x y p (more b p' z z' m o e j' v) j w = more b p' z z' m o e j' (walk-join t among d x y z' v j w)

-- each step down: what an agent offers is a walk over the owners below it
segment_walk : (t : Network) (n a : ℕ) → ((k p q : ℕ) → Offers t n k p q → p ≢ q → Walk t (IsBelow t n k) q p)
    → (place p x : ℕ) → IsSegment (Offers t n) (children_of t a) place p x → Walk t (IsBelow t (suc n) a) x p
segment_walk t n a below place p x s = walk_map t (IsBelow t n s.child) (IsBelow t (suc n) a) x p (λ b m. inr (place, s.child, s.is_child, m)) (below s.child p x s.offered s.apart)

onward_walk : (t : Network) (n a : ℕ) → ((k p q : ℕ) → Offers t n k p q → p ≢ q → Walk t (IsBelow t n k) q p)
    → (d : ℕ) (xs : List PlacedSegment) (place p x : ℕ) → IsSegment (Offers t n) (children_of t a) place p x
    → Onward (partner_of t) (IsSegment (Offers t n) (children_of t a)) x d xs → Walk t (IsBelow t (suc n) a) d p
onward_walk t n a below d [] place p x s e = subst (λ z. Walk t (IsBelow t (suc n) a) z p) e (segment_walk t n a below place p x s)
onward_walk t n a below d (y ∷ ys) place p x s o = walk-join t (IsBelow t (suc n) a) d x y.entry p (segment_walk t n a below place p x s) o.0 (onward_walk t n a below d ys y.place y.entry y.exit o.1 o.2)

chain_walk : (t : Network) (n a : ℕ) → ((k p q : ℕ) → Offers t n k p q → p ≢ q → Walk t (IsBelow t n k) q p)
    → (d p : ℕ) (xs : List PlacedSegment) → Chain (partner_of t) (IsSegment (Offers t n) (children_of t a)) p d xs → Walk t (IsBelow t (suc n) a) d p
chain_walk t n a below d p [] h = absurd h
chain_walk t n a below d p (x ∷ xs) h = subst (λ z. Walk t (IsBelow t (suc n) a) d z) h.0 (onward_walk t n a below d xs x.place x.entry x.exit h.1 h.2)

pub walk_of : (t : Network) (n a p q : ℕ) → Offers t n a p q → p ≢ q → Walk t (IsBelow t n a) q p
unfolding Offers
walk_of t zero a p q h ne = last a p refl h ne
walk_of t (suc n) a p q (inl h) ne = last a p (inl refl) h ne
walk_of t (suc n) a p q (inr h) ne = chain_walk t n a (walk_of t n) q p h.0 h.1

-- and back: each step of the walk is a path of one segment all the way up
single : (t : Network) (n a b p x : ℕ) → IsBelow t n a b → IsOwned t b p x → p ≢ x → Offers t n a p x
unfolding Offers
single t zero a b p x m o ne = subst (λ z. IsOwned t z p x) m o
single t (suc n) a b p x (inl e) o ne = inl (subst (λ z. IsOwned t z p x) e o)
single t (suc n) a b p x (inr m) o ne = inr (record { place = m.0; entry = p; exit = x } ∷ [], (refl, record { child = m.1; is_child = m.2; apart = ne; offered = single t n m.1 b p x m.3 o ne }, refl))

no_child : (t : Network) → AreLeaves t → (a p place k : ℕ) → slice_get t.owners p ≡ Some a → slice_get (children_of t a) place ≡ Some k → ⊥
no_child t leaves a p place k o h = let nil : List ℕ = [] in let none : slice_get nil place ≡ Some k = subst (λ ks. slice_get ks place ≡ Some k) (leaves p a o) h in absurd (cc)

-- one segment more in front
front : (t : Network) (n a q p place x y : ℕ) (xs : List PlacedSegment) → IsSegment (Offers t n) (children_of t a) place p x → partner_of t x ≡ Some y
    → Chain (partner_of t) (IsSegment (Offers t n) (children_of t a)) y q xs
    → Chain (partner_of t) (IsSegment (Offers t n) (children_of t a)) p q (record { place = place; entry = p; exit = x } ∷ xs)
front t n a q p place x y [] s j h = absurd h
front t n a q p place x y (z ∷ zs) s j h = (refl, s, (j ∙ ap Some (sym h.0), h.1, h.2))

no_chain : (t : Network) → AreLeaves t → (a p y q n : ℕ) (xs : List PlacedSegment) → slice_get t.owners p ≡ Some a
    → Chain (partner_of t) (IsSegment (Offers t n) (children_of t a)) y q xs → ⊥
no_chain t leaves a p y q n [] o h = h
no_chain t leaves a p y q n (x ∷ xs) o h = no_child t leaves a p x.place h.1.child o h.1.is_child

pub offers_of : (t : Network) → AreLeaves t → (n a q p : ℕ) → Walk t (IsBelow t n a) q p → Offers t n a p q
unfolding Offers
offers_of t leaves zero a q p (last b p' m o e) = subst (λ z. IsOwned t z p' q) m o
offers_of t leaves zero a q p (more b p' x y m o e j w) = (subst (λ z. slice_get t.owners p' ≡ Some z) m o.0, (offers_of t leaves zero a q y w).1)
offers_of t leaves (suc n) a q p (last b p' m o e) = single t (suc n) a b p' q m o e
offers_of t leaves (suc n) a q p (more b p' x y (inl m) o e j w) = elim (offers_of t leaves (suc n) a q y w) [
  | inl h ↦ inl (subst (λ z. slice_get t.owners p' ≡ Some z) m o.0, h.1)
  | inr h ↦ absurd (no_chain t leaves a p' y q n h.0 (subst (λ z. slice_get t.owners p' ≡ Some z) m o.0) h.1)
]
offers_of t leaves (suc n) a q p (more b p' x y (inr m) o e j w) = elim (offers_of t leaves (suc n) a q y w) [
  | inl h ↦ absurd (no_child t leaves a y m.0 m.1 h.0 m.2)
  | inr h ↦ inr (
    record { place = m.0; entry = p'; exit = x } ∷ h.0,
    front t n a q p' m.0 x y h.0 (record { child = m.1; is_child = m.2; apart = e; offered = single t n m.1 b p' x m.3 o e }) j h.1,
  )
]

walk_end : (t : Network) (among : ℕ → Type 0) (d p : ℕ) → Walk t among d p → d < length t.owners
walk_end t among d p (last b p' m o e) = slice_get_within t.owners d b o.1
walk_end t among d p (more b p' x y m o e j w) = walk_end t among d y w

pub exit_within : (t : Network) (n : ℕ) (children : List ℕ) (b p y : ℕ) → IsSegment (Offers t n) children b p y → y < length t.owners
exit_within t n children b p y s = walk_end t (IsBelow t n s.child) y p (walk_of t n s.child p y s.offered s.apart)

walk_start : (t : Network) (among : ℕ → Type 0) (d p : ℕ) → Walk t among d p → p < length t.owners
walk_start t among d p (last b p' m o e) = slice_get_within t.owners p b o.0
walk_start t among d p (more b p' x y m o e j w) = slice_get_within t.owners p b o.0

pub entry_within : (t : Network) (n : ℕ) (children : List ℕ) (b p y : ℕ) → IsSegment (Offers t n) children b p y → p < length t.owners
entry_within t n children b p y s = walk_start t (IsBelow t n s.child) y p (walk_of t n s.child p y s.offered s.apart)

pub place_within : (t : Network) (n : ℕ) (children : List ℕ) (b p y : ℕ) → IsSegment (Offers t n) children b p y → b < length children
place_within t n children b p y s = slice_get_within children b s.child s.is_child
