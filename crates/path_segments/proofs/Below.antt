-- Marking an agent and those below it.
use Rattle.std.proofs.Common.{◌≡◌, ◌≢◌, ℕ, zero, suc, ◌+◌, ◌-◌, ◌<◌, ◌≤◌, ◌⊎◌, ◌↔◌, inl, inr, List, Bool, true, false, Some, length, slice_get, get_or, set, sym, ◌∙◌, refl, subst, ap, arith}
use Rattle.std.proofs.Common.{replicate}
use Rattle.std.proofs.lemmas.List.{get_or-replicate}
use Rattle.std.proofs.Math.ListN.{get_or-eq_default, length-replicate}
use Rattle.std.proofs.lemmas.Bool.{cases_lt}
use Rattle.std.proofs.lemmas.Option.{slice_get_within}
use Rattle.stp_topology.specs.declared.network.Network.{Network}
use Rattle.stp_topology.specs.Network.{children_of}
use Rattle.path_segments.specs.Paths.{IsSegment, Offers}
use Rattle.path_segments.specs.Walks.{Walk, IsBelow, IsUnder, AreLeaves}
use Rattle.path_segments.specs.Searches.{marked}
use Rattle.path_segments.proofs.Flags.{set_here, set_kept, set_back}
use Rattle.path_segments.proofs.Flat.{walk_map, walk_of, offers_of}

-- what is marked while the children are gone over
abbrev pub Marked : Network → ℕ → List ℕ → ℕ → ℕ → List Bool → List Bool → Type 0
Marked t n children agent bound old now = (b : ℕ) → (get_or now b false ≡ true) ↔ ((get_or old b false ≡ true) ⊎ ((b ≡ agent) ⊎ IsUnder t n children bound b))

pub marked_start : (t : Network) (n agent : ℕ) (children : List ℕ) (old : List Bool) → agent < length old → Marked t n children agent 0 old (set old agent true)
marked_start t n agent children old l b = (
  (λ h. elim (set_back old agent b h) [ inl g ↦ inl g | inr g ↦ inr (inl g) ]),
  (λ h. elim h [ inl g ↦ set_kept old agent b l g | inr g ↦ elim g [ inl k ↦ subst (λ z. get_or (set old agent true) z false ≡ true) (sym k) (set_here old agent l) | inr k ↦ absurd (let e = k.early in none k.place e) ] ]),
)
  where
    none : (m : ℕ) → m < 0 → ⊥
    none m e = omega arith

pub marked_next : (t : Network) (n agent i k : ℕ) (children : List ℕ) (old now new : List Bool) → slice_get children i ≡ Some k
    → ((b : ℕ) → (get_or new b false ≡ true) ↔ ((get_or now b false ≡ true) ⊎ IsBelow t n k b)) → Marked t n children agent i old now → Marked t n children agent (i + 1) old new
marked_next t n agent i k children old now new is f h b = (
  (λ g. elim ((f b).0 g) [
    | inl m ↦ wider b ((h b).0 m)
    | inr m ↦ inr (inr (record { place = i; child = k; early = omega arith; is_child = is; below = m }))
  ]),
  (λ g. elim g [
    | inl m ↦ (f b).1 (inl ((h b).1 (inl m)))
    | inr m ↦ elim m [ inl e ↦ (f b).1 (inl ((h b).1 (inr (inl e)))) | inr e ↦ under b e ]
  ]),
)
  where
    wider : (b : ℕ) → (get_or old b false ≡ true) ⊎ ((b ≡ agent) ⊎ IsUnder t n children i b) → (get_or old b false ≡ true) ⊎ ((b ≡ agent) ⊎ IsUnder t n children (i + 1) b)
    wider b (inl m) = inl m
    wider b (inr m) = inr (elim m [ inl e ↦ inl e | inr e ↦ inr (record { place = e.place; child = e.child; early = omega (arith, e.early); is_child = e.is_child; below = e.below }) ])

    same : (a b : ℕ) → Some a ≡ Some b → a ≡ b
    same a b q = cc

    under : (b : ℕ) → IsUnder t n children (i + 1) b → get_or new b false ≡ true
    under b e = elim (cases_lt e.place i) [
      | inl l ↦ (f b).1 (inl ((h b).1 (inr (inr (record { place = e.place; child = e.child; early = l; is_child = e.is_child; below = e.below })))))
      | inr l ↦ let at : e.place ≡ i = omega (arith, e.early) in
          (f b).1 (inr (subst (λ z. IsBelow t n z b) (same e.child k (sym e.is_child ∙ (ap (slice_get children) at ∙ is))) e.below))
    ]

pub marked_end : (t : Network) (n agent i : ℕ) (old now : List Bool) → (n ≡ 0 → ⊥) → length (children_of t agent) ≤ i → Marked t (n - 1) (children_of t agent) agent i old now
    → (b : ℕ) → (get_or now b false ≡ true) ↔ ((get_or old b false ≡ true) ⊎ IsBelow t n agent b)
marked_end t zero agent i old now nz l h b = absurd (nz refl)
marked_end t (suc n) agent i old now nz l h b = (
  (λ g. elim ((h b).0 g) [ inl m ↦ inl m | inr m ↦ inr (elim m [ inl e ↦ inl e | inr e ↦ inr (e.place, e.child, e.is_child, subst (λ z. IsBelow t z e.child b) less e.below) ]) ]),
  (λ g. elim g [
    | inl m ↦ (h b).1 (inl m)
    | inr m ↦ elim m [
      | inl e ↦ (h b).1 (inr (inl e))
      | inr e ↦ (h b).1 (inr (inr (record { place = e.0; child = e.1; early = omega (arith, l, slice_get_within (children_of t agent) e.0 e.1 e.2); is_child = e.2; below = subst (λ z. IsBelow t z e.1 b) (sym less) e.3 })))
    ]
  ]),
)
  where
    less : suc n - 1 ≡ n
    less = omega arith

pub marked_leaf : (t : Network) (n agent : ℕ) (old : List Bool) → n ≡ 0 → agent < length old → (b : ℕ) → (get_or (set old agent true) b false ≡ true) ↔ ((get_or old b false ≡ true) ⊎ IsBelow t n agent b)
marked_leaf t zero agent old z l b = (
  (λ h. set_back old agent b h),
  (λ h. elim h [ inl g ↦ set_kept old agent b l g | inr g ↦ subst (λ z. get_or (set old agent true) z false ≡ true) (sym g) (set_here old agent l) ]),
)
marked_leaf t (suc n) agent old z l b = absurd (omega arith)

-- the walks over the marked agents are the ways that the child offers
pub ways : (t : Network) → AreLeaves t → (n place child : ℕ) (children : List ℕ) (below : List Bool) → slice_get children place ≡ Some child
    → ((b : ℕ) → marked below b ↔ IsBelow t n child b) → (exit p : ℕ) → ((p ≢ exit) × Walk t (marked below) exit p) ↔ IsSegment (Offers t n) children place p exit
ways t leaves n place child children below is m exit p = (
  (λ h. record { child = child; is_child = is; apart = h.0; offered = offers_of t leaves n child exit p (walk_map t (marked below) (IsBelow t n child) exit p (λ b. (m b).0) h.1) }),
  (λ s. (s.apart, walk_map t (IsBelow t n child) (marked below) exit p (λ b. (m b).1) (walk_of t n child p exit (subst (λ z. Offers t n z p exit) (same s.child (sym s.is_child ∙ is)) s.offered) s.apart))),
)
  where
    same : (b : ℕ) → Some b ≡ Some child → b ≡ child
    same b q = cc

pub none_marked : (n i : ℕ) → get_or (replicate n false) i false ≡ true → ⊥
none_marked n i h = elim (cases_lt i n) [
  | inl l ↦ clash (sym (get_or-replicate n i false false l) ∙ h)
  | inr l ↦ clash (sym (get_or-eq_default (replicate n false) false (omega (arith, length-replicate n false))) ∙ h)
]
  where
    clash : false ≡ true → ⊥
    clash e = cc

-- what marking gives where nothing was marked
pub marks_below : (t : Network) (n child k : ℕ) (old below : List Bool) → old ≡ replicate k false → ((b : ℕ) → marked below b ↔ (marked old b ⊎ IsBelow t n child b)) → (b : ℕ) → marked below b ↔ IsBelow t n child b
marks_below t n child k old below o m b = (
  (λ h. elim ((m b).0 h) [ inl g ↦ absurd (none_marked k b (subst (λ (z : List Bool). get_or z b false ≡ true) o g)) | inr g ↦ g ]),
  (λ h. (m b).1 (inr h)),
)
