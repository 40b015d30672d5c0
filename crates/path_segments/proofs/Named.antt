-- From placed segments to the segments of a path.
use Rattle.std.proofs.Common.{◌≡◌, ℕ, zero, suc, ◌+◌, ◌<◌, List, [], ◌∷◌, ◌++◌, Option, Some, length, take, map, get_or, slice_get, sym, ◌∙◌, refl, subst, ap, arith}
use Rattle.std.proofs.Math.Seq.{take-suc}
use Rattle.std.proofs.lemmas.List.{map-append}
use Rattle.stp_topology.specs.declared.network.Network.{Network}
use Rattle.stp_topology.specs.Network.{partner_of, children_of}
use Rattle.path_segments.specs.declared.path.PlacedSegment.{PlacedSegment}
use Rattle.path_segments.specs.declared.path.Segment.{Segment}
use Rattle.path_segments.specs.Paths.{Offers, Onward, Chain, Less, IsPath, IsLess, placed, greatest_rank}
use Rattle.path_segments.specs.Named.{with_child, named}
use Rattle.path_segments.specs.Steps.{IsFit, Way}
use Rattle.path_segments.proofs.ReadItems.{some_read}
use Rattle.path_segments.proofs.First.{read_of, least_again}
use Rattle.path_segments.proofs.Flat.{entry_within, exit_within, place_within}

pub some_item : {A : Type 0} (xs : List A) (i : ℕ) (d : A) → i < length xs → slice_get xs i ≡ Some (get_or xs i d)
some_item [] i d l = absurd (omega arith)
some_item (x ∷ xs) zero d l = refl
some_item (x ∷ xs) (suc i) d l = some_item xs i d (omega arith)

pub map_next : {A B : Type 0} (f : A → B) (xs : List A) (d : A) (y : B) (before after : List B) (i : ℕ) → i < length xs → y ≡ f (get_or xs i d)
    → before ≡ map f (take i xs) → after ≡ before ++ y ∷ [] → after ≡ map f (take (i + 1) xs)
map_next f xs d y before after i l is b a =
    let n : suc i ≡ i + 1 = omega arith in
    let next : take i xs ++ (get_or xs i d ∷ []) ≡ take (i + 1) xs = sym (take-suc xs i d l) ∙ ap (λ k. take k xs) n in
    a ∙ ap (λ z. z ++ y ∷ []) b ∙ ap (λ z. map f (take i xs) ++ z ∷ []) is ∙ sym (map-append f (take i xs) (get_or xs i d ∷ [])) ∙ ap (map f) next

pub with_child_is : (children : List ℕ) (x : PlacedSegment) (child entry exit : ℕ) → x.place < length children → child ≡ get_or children x.place child → entry ≡ x.entry → exit ≡ x.exit
    → record { child = child; entry = entry; exit = exit } ≡ with_child children x
with_child_is children x child entry exit l c en ex =
    ap (λ z. record { child = z; entry = entry; exit = exit }) (sym (read_of children x.place child (some_read children x.place child l c)))
    ∙ ap (λ z. record { child = get_or children x.place 0; entry = z; exit = exit }) en
    ∙ ap (λ z. record { child = get_or children x.place 0; entry = x.entry; exit = z }) ex

onward_each : (pairs : ℕ → Option ℕ) (segment : ℕ → ℕ → ℕ → Type 0) (exit dest : ℕ) (xs : List PlacedSegment) → Onward pairs segment exit dest xs
    → (i : ℕ) (x : PlacedSegment) → slice_get xs i ≡ Some x → segment x.place x.entry x.exit
onward_each pairs segment exit dest [] h i x g = absurd (cc)
onward_each pairs segment exit dest (y ∷ ys) h zero x g = let same : y ≡ x = cc in subst (λ (z : PlacedSegment). segment z.place z.entry z.exit) same h.1
onward_each pairs segment exit dest (y ∷ ys) h (suc i) x g = onward_each pairs segment y.exit dest ys h.2 i x g

chain_each : (pairs : ℕ → Option ℕ) (segment : ℕ → ℕ → ℕ → Type 0) (source dest : ℕ) (xs : List PlacedSegment) → Chain pairs segment source dest xs
    → (i : ℕ) (x : PlacedSegment) → slice_get xs i ≡ Some x → segment x.place x.entry x.exit
chain_each pairs segment source dest [] h i x g = absurd h
chain_each pairs segment source dest (y ∷ ys) h zero x g = let same : y ≡ x = cc in subst (λ (z : PlacedSegment). segment z.place z.entry z.exit) same h.1
chain_each pairs segment source dest (y ∷ ys) h (suc i) x g = onward_each pairs segment y.exit dest ys h.2 i x g

pub segments_within : (t : Network) → IsFit t → (n : ℕ) (children : List ℕ) (source dest : ℕ) (xs : List PlacedSegment) → Chain (partner_of t) (Way t n children) source dest xs
    → (i : ℕ) (x : PlacedSegment) → slice_get xs i ≡ Some x → (x.place < length children) × (x.entry < 4096) × (x.exit < 4096)
segments_within t fit n children source dest xs h i x g =
    let s = chain_each (partner_of t) (Way t n children) source dest xs h i x g in
    let entry = entry_within t n children x.place x.entry x.exit s in
    let exit = exit_within t n children x.place x.entry x.exit s in
    let few = fit.few in
    (place_within t n children x.place x.entry x.exit s, omega (arith, entry, few), omega (arith, exit, few))

abbrev IsLeast : Network → List ℕ → ℕ → ℕ → List PlacedSegment → Type 0
IsLeast t children s d xs = (other : List PlacedSegment) → Chain (partner_of t) (Way t greatest_rank children) s d other → Less other xs → ⊥

same_again : (t : Network) (s d : ℕ) (children : List ℕ) (xs : List PlacedSegment) → Chain (partner_of t) (Way t greatest_rank children) s d xs → IsLeast t children s d xs → placed children (named children xs) ≡ xs
same_again t s d children xs h least = least_again (partner_of t) (Offers t greatest_rank) children s d xs h least

pub answer_path : (t : Network) (a s d : ℕ) (children : List ℕ) (xs : List PlacedSegment) (segments : List Segment) → children ≡ children_of t a → segments ≡ named children xs
    → Chain (partner_of t) (Way t greatest_rank children) s d xs → IsLeast t children s d xs → IsPath t a s d segments
answer_path t a s d children xs segments c e h least =
    subst (λ (z : List Segment). IsPath t a s d z) (sym e)
    (subst (λ (k : List ℕ). Chain (partner_of t) (Way t greatest_rank k) s d (placed k (named children xs))) c
    (subst (λ (z : List PlacedSegment). Chain (partner_of t) (Way t greatest_rank children) s d z) (sym (same_again t s d children xs h least)) h))

pub answer_least : (t : Network) (a s d : ℕ) (children : List ℕ) (xs : List PlacedSegment) (segments : List Segment) → children ≡ children_of t a → segments ≡ named children xs
    → Chain (partner_of t) (Way t greatest_rank children) s d xs → IsLeast t children s d xs → (other : List Segment) → IsPath t a s d other → IsLess t a other segments → ⊥
answer_least t a s d children xs segments c e h least other path less =
    let path' : Chain (partner_of t) (Way t greatest_rank children) s d (placed children other) = subst (λ (k : List ℕ). Chain (partner_of t) (Way t greatest_rank k) s d (placed k other)) (sym c) path in
    let less' : Less (placed children other) (placed children segments) = subst (λ (k : List ℕ). Less (placed k other) (placed k segments)) (sym c) less in
    let same : placed children segments ≡ xs = ap (placed children) e ∙ same_again t s d children xs h least in
    least (placed children other) path' (subst (λ (z : List PlacedSegment). Less (placed children other) z) same less')
