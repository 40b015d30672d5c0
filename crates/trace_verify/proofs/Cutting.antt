-- The first line of a trace, and those behind it.
use Rattle.std.proofs.Common.{ℕ, suc, ◌+◌, ◌<◌, ◌≡◌, ◌∙◌, Bool, true, false, cond, eqb, List, [], ◌∷◌, length, take, drop, Option, Some, None, option_map, refl, sym, ap, arith, drop-drop}
use Rattle.std.proofs.lemmas.List.{drop_all, take_all}
use Rattle.nsi_base.specs.Lines.{feed_at, onto}
use Rattle.trace_verify.specs.Lines.{trace_lines}

some_suc : (o : Option ℕ) (i : ℕ) → option_map suc o ≡ Some i → (j : ℕ) × (o ≡ Some j) × (i ≡ suc j)
some_suc None i h = cc
some_suc (Some j) i h = (j, refl, cc)

none_suc : (o : Option ℕ) → option_map suc o ≡ None → o ≡ None
none_suc None h = refl
none_suc (Some j) h = cc

lines_end : (bs : List ℕ) (i : ℕ) → feed_at bs ≡ Some i → trace_lines bs ≡ take i bs ∷ trace_lines (drop (suc i) bs)
unfolding trace_lines feed_at
lines_end [] i h = cc
lines_end (b ∷ bs) i h = by (eqb b 10) h (λ j e. lines_end bs j e)
  where
    by : (t : Bool) → cond t (Some 0) (option_map suc (feed_at bs)) ≡ Some i → ((j : ℕ) → feed_at bs ≡ Some j → trace_lines bs ≡ take j bs ∷ trace_lines (drop (suc j) bs))
        → cond t ([] ∷ trace_lines bs) (onto true b (trace_lines bs)) ≡ take i (b ∷ bs) ∷ trace_lines (drop (suc i) (b ∷ bs))
    by true e next = let z : i ≡ 0 = cc in rw z refl
    by false e next =
        let p = some_suc (feed_at bs) i e in
        rw p.2 (ap (onto true b) (next p.0 p.1))

lines_last : (b : ℕ) (bs : List ℕ) → feed_at (b ∷ bs) ≡ None → trace_lines (b ∷ bs) ≡ (b ∷ bs) ∷ []
unfolding trace_lines feed_at
lines_last b [] h = by (eqb b 10) h
  where
    by : (t : Bool) → cond {A = Option ℕ} t (Some 0) None ≡ None → cond {A = List (List ℕ)} t ([] ∷ []) ((b ∷ []) ∷ []) ≡ (b ∷ []) ∷ []
    by true e = cc
    by false e = refl
lines_last b (c ∷ cs) h = by (eqb b 10) h (λ e. lines_last c cs e)
  where
    by : (t : Bool) → cond t (Some 0) (option_map suc (feed_at (c ∷ cs))) ≡ None → (feed_at (c ∷ cs) ≡ None → trace_lines (c ∷ cs) ≡ (c ∷ cs) ∷ [])
        → cond t ([] ∷ trace_lines (c ∷ cs)) (onto true b (trace_lines (c ∷ cs))) ≡ (b ∷ c ∷ cs) ∷ []
    by true e next = cc
    by false e next = ap (onto true b) (next (none_suc _ e))

pub no_lines : trace_lines [] ≡ []
unfolding trace_lines
no_lines = refl

-- a line that has an end
pub cut_end : (bs line back tail : List ℕ) (i : ℕ) → feed_at bs ≡ Some i → line ≡ take i bs → back ≡ drop i bs → tail ≡ drop 1 back → trace_lines bs ≡ line ∷ trace_lines tail
cut_end bs line back tail i f t b d =
    let more : i + 1 ≡ suc i = omega arith in
    let there : tail ≡ drop (suc i) bs = d ∙ (ap (drop 1) b ∙ (drop-drop 1 i bs ∙ ap (λ n. drop n bs) more)) in
    lines_end bs i f ∙ (ap (λ x. x ∷ trace_lines (drop (suc i) bs)) (sym t) ∙ ap (λ x. line ∷ trace_lines x) (sym there))

-- the last line, where it has no end
pub cut_last : (bs line tail : List ℕ) → 0 < length bs → feed_at bs ≡ None → line ≡ take (length bs) bs → tail ≡ drop (length bs) bs → trace_lines bs ≡ line ∷ trace_lines tail
cut_last [] line tail l f t d = absurd (omega arith)
cut_last (b ∷ bs) line tail l f t d =
    let all : line ≡ b ∷ bs = t ∙ take_all (length (b ∷ bs)) (b ∷ bs) (omega arith) in
    let none : tail ≡ [] = d ∙ drop_all (length (b ∷ bs)) (b ∷ bs) (omega arith) in
    lines_last b bs f ∙ (ap (λ x. x ∷ []) (sym all) ∙ ap (λ x. line ∷ x) (sym (ap trace_lines none ∙ no_lines)))

-- text of which there are lines isn't empty
pub some_lines : (bs : List ℕ) → length bs ≡ 0 → trace_lines bs ≡ []
some_lines [] e = no_lines
some_lines (b ∷ bs) e = absurd (omega (arith, e))

-- some text has a first line
pub more_lines : (bs : List ℕ) → 0 < length bs → (line : List ℕ) × (lines : List (List ℕ)) × (trace_lines bs ≡ line ∷ lines)
more_lines [] l = absurd (omega (arith, l))
more_lines (b ∷ bs) l = by (feed_at (b ∷ bs)) refl
  where
    by : (o : Option ℕ) → feed_at (b ∷ bs) ≡ o → (line : List ℕ) × (lines : List (List ℕ)) × (trace_lines (b ∷ bs) ≡ line ∷ lines)
    by None e = (b ∷ bs, [], lines_last b bs e)
    by (Some i) e = (take i (b ∷ bs), trace_lines (drop (suc i) (b ∷ bs)), lines_end (b ∷ bs) i e)
