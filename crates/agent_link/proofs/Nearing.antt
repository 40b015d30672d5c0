-- A loop that changes each element of a list in its place.
use Rattle.std.proofs.Common.{ℕ, zero, suc, ◌+◌, ◌<◌, ◌≤◌, ◌≡◌, List, [], ◌∷◌, refl, sym, ap, ap₂, ◌∙◌, subst, arith, length, map, take, drop, get_or, slice_set}

done_at : {X : Type 0} (f : X → X) (olds news : List X) (i : ℕ) (y d : X) → i < length news → take i news ≡ map f (take i olds) → drop i news ≡ drop i olds → y ≡ f (get_or news i d) → take (suc i) (slice_set news i y) ≡ map f (take (suc i) olds)
done_at f [] [] i y d h t r e = absurd (omega (arith, h))
done_at f (o ∷ os) [] i y d h t r e = absurd (omega (arith, h))
done_at f [] (n ∷ ns) zero y d h t r e = absurd (omega (arith, ap length r))
done_at f [] (n ∷ ns) (suc i) y d h t r e = absurd (omega (arith, ap length t))
done_at f (o ∷ os) (n ∷ ns) zero y d h t r e = ap (λ z. z ∷ []) (e ∙ ap f (ap (λ xs. get_or xs 0 d) r))
done_at f (o ∷ os) (n ∷ ns) (suc i) y d h t r e = ap₂ (λ z zs. z ∷ zs) (ap (λ xs. get_or xs 0 d) t) (done_at f os ns i y d (omega (arith, h)) (ap (drop 1) t) r e)

pub done_next : {X : Type 0} (f : X → X) (olds news : List X) (i : ℕ) (y d : X) → i < length news → take i news ≡ map f (take i olds) → drop i news ≡ drop i olds → y ≡ f (get_or news i d) → take (i + 1) (slice_set news i y) ≡ map f (take (i + 1) olds)
done_next f olds news i y d h t r e =
    let more : i + 1 ≡ suc i = omega arith in
    ap (λ n. take n (slice_set news i y)) more ∙ (done_at f olds news i y d h t r e ∙ ap (λ n. map f (take n olds)) (sym more))

none : {X : Type 0} (i : ℕ) → drop {A = X} i [] ≡ []
none zero = refl
none (suc i) = refl

rest_at : {X : Type 0} (olds news : List X) (i : ℕ) (y : X) → drop i news ≡ drop i olds → drop (suc i) (slice_set news i y) ≡ drop (suc i) olds
rest_at [] [] i y r = refl
rest_at [] (n ∷ ns) zero y r = ap (drop 1) r
rest_at [] (n ∷ ns) (suc i) y r = rest_at [] ns i y (r ∙ sym (none i))
rest_at (o ∷ os) [] zero y r = ap (drop 1) r
rest_at (o ∷ os) [] (suc i) y r = rest_at os [] i y (none i ∙ r)
rest_at (o ∷ os) (n ∷ ns) zero y r = ap (drop 1) r
rest_at (o ∷ os) (n ∷ ns) (suc i) y r = rest_at os ns i y r

pub rest_next : {X : Type 0} (olds news : List X) (i : ℕ) (y : X) → drop i news ≡ drop i olds → drop (i + 1) (slice_set news i y) ≡ drop (i + 1) olds
rest_next olds news i y r =
    let more : i + 1 ≡ suc i = omega arith in
    ap (λ n. drop n (slice_set news i y)) more ∙ (rest_at olds news i y r ∙ ap (λ n. drop n olds) (sym more))
