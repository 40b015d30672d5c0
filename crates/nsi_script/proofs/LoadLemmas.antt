-- Loads, pair by pair.
use Rattle.std.proofs.Common.{◌≡◌, ◌<◌, ℕ, suc, ◌+◌, ◌-◌, ◌*◌, ◌%◌, List, [], ◌∷◌, ◌++◌, arith, refl, sym, ap, ◌∙◌}
use Rattle.std.proofs.lemmas.List.{append-nil, append_assoc}
use Rattle.nsi_script.specs.Load.{stepped, after, drawn_request, pair_lines, pairs_from, head_lines, text_of, load_of}

pub text_append : (xs ys : List (List ℕ)) → text_of (xs ++ ys) ≡ text_of xs ++ text_of ys
unfolding text_of
text_append [] ys = refl
text_append (x ∷ xs) ys = ap (λ t. x ++ (10 ∷ t)) (text_append xs ys) ∙ sym (append_assoc x (10 ∷ text_of xs) (text_of ys))

pub one_pair : (x i size : ℕ) (text : List ℕ) → i < size
    → (text ++ text_of (pair_lines i (drawn_request x))) ++ text_of (pairs_from (after 5 x) (i + 1) (size - (i + 1))) ≡ text ++ text_of (pairs_from x i (size - i))
unfolding pairs_from
one_pair x i size text h =
    let left : size - i ≡ suc (size - (i + 1)) = omega (arith, h) in
    append_assoc text (text_of (pair_lines i (drawn_request x))) (text_of (pairs_from (after 5 x) (i + 1) (size - (i + 1))))
    ∙ (ap (λ t. text ++ t) (sym (text_append (pair_lines i (drawn_request x)) (pairs_from (after 5 x) (i + 1) (size - (i + 1)))))
    ∙ sym (ap (λ n. text ++ text_of (pairs_from x i n)) left))

pub all_pairs : (x i size : ℕ) (text : List ℕ) → i ≡ size → text ++ text_of (pairs_from x i (size - i)) ≡ text
unfolding pairs_from text_of
all_pairs x i size text h =
    let none : size - i ≡ 0 = omega (arith, h) in
    ap (λ n. text ++ text_of (pairs_from x i n)) none ∙ append-nil text

pub head_first : (x size : ℕ) → text_of head_lines ++ text_of (pairs_from x 0 (size - 0)) ≡ load_of x size
head_first x size =
    let all : size - 0 ≡ size = omega arith in
    ap (λ n. text_of head_lines ++ text_of (pairs_from x 0 n)) all ∙ sym (text_append head_lines (pairs_from x 0 size))

pub one_step : (x : ℕ) → (x * 6364136223846793005 % 18446744073709551616 + 1442695040888963407) % 18446744073709551616 ≡ stepped x
unfolding stepped
one_step x = omega arith

pub one_line : (old new line : List ℕ) (lines : List (List ℕ)) → new ≡ old ++ text_of (line ∷ []) → new ++ text_of lines ≡ old ++ text_of (line ∷ lines)
one_line old new line lines e =
    ap (λ t. t ++ text_of lines) e
    ∙ (append_assoc old (text_of (line ∷ [])) (text_of lines)
    ∙ ap (λ t. old ++ t) (sym (text_append (line ∷ []) lines)))
