-- The first line of a text, and what stands behind it.
use Rattle.std.proofs.Common.{◌≡◌, ℕ, suc, ◌+◌, ◌<◌, List, [], ◌∷◌, ◌++◌, true, Some, None, length, take, drop, sym, ◌∙◌, refl, ap, arith, drop-drop}
use Rattle.std.proofs.lemmas.List.{take_all, drop_all}
use Rattle.nsi_base.specs.Lines.{lines_of, lines_to, feed_at, without_return, behind_feed}
use Rattle.nsi_base.proofs.LineCuts.{lines_end, lines_last}

nil-append : (xs : List ℕ) → xs ++ [] ≡ xs
nil-append [] = refl
nil-append (x ∷ xs) = ap (λ t. x ∷ t) (nil-append xs)

-- a line that has an end
pub cut_end : (bs line kept back tail : List ℕ) (i : ℕ) → feed_at bs ≡ Some i → line ≡ take i bs → kept ≡ without_return line → back ≡ drop i bs → tail ≡ drop 1 back → lines_of bs ≡ kept ∷ lines_of tail
cut_end bs line kept back tail i f t w b d =
    let more : i + 1 ≡ suc i = omega arith in
    let there : tail ≡ drop (suc i) bs = d ∙ (ap (drop 1) b ∙ (drop-drop 1 i bs ∙ ap (λ n. drop n bs) more)) in
    let e = lines_end true bs [] i f in
    ap lines_of (sym (nil-append bs)) ∙ e ∙ ap (λ x. without_return (take i bs) ∷ lines_of x) (nil-append (drop (suc i) bs) ∙ sym there) ∙ ap (λ x. x ∷ lines_of tail) (ap without_return (sym t) ∙ sym w)

-- what stands behind it
pub behind_end : (bs back tail : List ℕ) (i : ℕ) → feed_at bs ≡ Some i → back ≡ drop i bs → tail ≡ drop 1 back → tail ≡ behind_feed (feed_at bs) bs
behind_end bs back tail i f b d =
    d ∙ (ap (drop 1) b ∙ (drop-drop 1 i bs ∙ sym (ap (λ o. behind_feed o bs) f)))

pub no_lines : lines_of [] ≡ []
unfolding lines_to
no_lines = refl

-- the last line, where it has no end
pub cut_last : (bs line tail : List ℕ) → 0 < length bs → feed_at bs ≡ None → line ≡ take (length bs) bs → tail ≡ drop (length bs) bs → lines_of bs ≡ line ∷ lines_of tail
cut_last [] line tail l f t d = absurd (omega arith)
cut_last (b ∷ bs) line tail l f t d =
    let all : line ≡ b ∷ bs = t ∙ take_all (length (b ∷ bs)) (b ∷ bs) (omega arith) in
    let none : tail ≡ [] = d ∙ drop_all (length (b ∷ bs)) (b ∷ bs) (omega arith) in
    lines_last b bs f ∙ ap (λ x. x ∷ []) (sym all) ∙ ap (λ x. line ∷ x) (sym (ap lines_of none ∙ no_lines))

pub behind_last : (bs tail : List ℕ) → feed_at bs ≡ None → tail ≡ drop (length bs) bs → tail ≡ behind_feed (feed_at bs) bs
behind_last bs tail f d = d ∙ drop_all (length bs) bs (omega arith) ∙ sym (ap (λ o. behind_feed o bs) f)
