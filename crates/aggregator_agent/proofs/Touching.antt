-- The connection at a place among others.
use Rattle.std.proofs.Common.{◌≡◌, ◌≢◌, ◌<◌, ◌∙◌, ◌∷◌, ◌++◌, [], ℕ, List, length, set, get_or, Result, Ok, Err, sym, ap, subst, arith}
use Rattle.std.specs.List.{Contains}
use Rattle.std.specs.declared.alloc.AllocError.{AllocError}
use Rattle.std.proofs.lemmas.List.{length-map, map-set, get_or-map}
use Rattle.aggregator_agent.specs.declared.connection.Connection.{Connection}
use Rattle.aggregator_agent.specs.declared.keeping.Kept.{Kept}
use Rattle.aggregator_agent.specs.declared.said.Said.{Said}
use Rattle.aggregator_agent.specs.Bonds.{Bond, no_bond, bond, bonds, bond_at, Done, IsDone, IsDoneAt}
use Rattle.aggregator_agent.specs.Undo.{CanUndo, IsFormer}
use Rattle.aggregator_agent.proofs.Undo.{undo_more}

-- what stands at a place
pub read_at : (xs : List Connection) (n : ℕ) (x : Connection) → n < length xs → x ≡ get_or xs n x → bond x ≡ bond_at n (bonds xs)
read_at xs n x l is = ap bond is ∙ sym (get_or-map bond xs n x no_bond l)

pub put_at : (xs : List Connection) (n : ℕ) (x : Connection) → bonds (set xs n x) ≡ set (bonds xs) n (bond x)
put_at xs n x = map-set bond xs n x

-- what is done at a place, by what is done to what stands there
pub done_at : {X : Type 0} (xs : List Connection) (n : ℕ) (x y : Connection) (old new : Said) (r : Result X AllocError) (does : Bond → Done) → n < length xs → x ≡ get_or xs n x → IsDone old new (bond y) r (does (bond x))
    → IsDoneAt old new n (bonds xs) (bonds (set xs n y)) r (does (bond_at n (bonds xs)))
done_at xs n x y old new (Ok u) does l is d = subst (λ b. IsDoneAt old new n (bonds xs) (bonds (set xs n y)) (Ok u) (does b)) (read_at xs n x l is)
    (record { bonds = put_at xs n y ∙ ap (set (bonds xs) n) d.bond; out = d.out; dues = d.dues; next = d.next })
done_at xs n x y old new (Err u) does l is d = record { bonds = tt; out = tt; dues = tt; next = tt }

-- what stands at a place is kept, and becomes another
pub kept_at : (was : List Bond) (xs : List Connection) (n : ℕ) (y : Connection) (kept more : List Kept) (k : Kept) → n < length xs → k.place ≡ n → ((h : Kept) → Contains kept h → h.place ≢ n) → IsFormer k (bond_at n (bonds xs)) (bond y)
    → more ≡ kept ++ k ∷ [] → CanUndo was (bonds xs) kept → CanUndo was (bonds (set xs n y)) more
kept_at was xs n y kept more k within place new former is undo =
    let long = length-map xs bond in
    let moved : CanUndo was (set (bonds xs) n (bond y)) (kept ++ k ∷ []) =
    subst (λ i. CanUndo was (set (bonds xs) i (bond y)) (kept ++ k ∷ [])) place
    (undo_more was (bonds xs) kept k (bond y) (omega (arith, long, place, within)) (λ h has e. new h has (e ∙ place)) (subst (λ i. IsFormer k (bond_at i (bonds xs)) (bond y)) (sym place) former) undo) in
    subst (λ ks. CanUndo was (bonds (set xs n y)) ks) (sym is) (subst (λ bs. CanUndo was bs (kept ++ k ∷ [])) (sym (put_at xs n y)) moved)
