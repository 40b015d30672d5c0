-- A text's first line, and the lines behind it.
use Rattle.std.proofs.Common.{◌≡◌, ◌-◌, ℕ, suc, List, [], ◌∷◌, ◌++◌, length, take, drop, get_or, Bool, true, false, ◌&&◌, cond, eqb, Option, Some, None, option_map, arith, refl, sym, ap, ◌∙◌}
use Rattle.std.proofs.lemmas.Bool.{false≢true}
use Rattle.nsi_base.specs.Lines.{lines_to, onto, is_at_feed, feed_at, without_return}

some_suc : (o : Option ℕ) (i : ℕ) → option_map suc o ≡ Some i → (j : ℕ) × (o ≡ Some j) × (i ≡ suc j)
some_suc None i h = cc
some_suc (Some j) i h = (j, refl, cc)

none_suc : (o : Option ℕ) → option_map suc o ≡ None → o ≡ None
none_suc None h = refl
none_suc (Some j) h = cc

-- a line whose last byte is known by its place
return-at : (line : List ℕ) (n : ℕ) → length line ≡ suc n → without_return line ≡ cond (eqb (get_or line n 0) 13) (take n line) line
unfolding without_return
return-at line n h = let m : length line - 1 ≡ n = omega arith in rw m refl

in_front : (t : Bool) (b : ℕ) (xs ys : List ℕ) → cond t (b ∷ xs) (b ∷ ys) ≡ b ∷ cond t xs ys
in_front true b xs ys = refl
in_front false b xs ys = refl

-- a byte that isn't the last one of a line stays
return-front : (b c : ℕ) (cs : List ℕ) → without_return (b ∷ c ∷ cs) ≡ b ∷ without_return (c ∷ cs)
return-front b c cs =
    return-at (b ∷ c ∷ cs) (suc (length cs)) refl
    ∙ (in_front (eqb (get_or (c ∷ cs) (length cs) 0) 13) b (take (length cs) (c ∷ cs)) (c ∷ cs)
    ∙ ap (λ line. b ∷ line) (sym (return-at (c ∷ cs) (length cs) refl)))

return-one : (b : ℕ) → without_return (b ∷ []) ≡ cond (eqb b 13) [] (b ∷ [])
return-one b = return-at (b ∷ []) 0 refl

return-none : without_return [] ≡ []
unfolding without_return
return-none = refl

-- a byte before a line feed
at_feed : (endless r : Bool) (b : ℕ) (lines rest : List (List ℕ)) → eqb b 13 ≡ r → lines ≡ without_return [] ∷ rest → cond r lines (onto endless b lines) ≡ without_return (b ∷ []) ∷ rest
at_feed endless true b lines rest er l =
    l ∙ ap (λ x. x ∷ rest) (return-none ∙ sym (return-one b ∙ ap (λ t. cond t [] (b ∷ [])) er))
at_feed endless false b lines rest er l =
    ap (onto endless b) l ∙ ap (λ x. x ∷ rest) (ap (λ x. b ∷ x) return-none ∙ sym (return-one b ∙ ap (λ t. cond t [] (b ∷ [])) er))

and-true : (r : Bool) (x y : List (List ℕ)) → cond (r && true) x y ≡ cond r x y
and-true true x y = refl
and-true false x y = refl

-- a byte before another one
before_byte : (endless r : Bool) (b c : ℕ) (x : List ℕ) (lines rest : List (List ℕ)) → lines ≡ without_return (c ∷ x) ∷ rest → cond (r && false) lines (onto endless b lines) ≡ without_return (b ∷ c ∷ x) ∷ rest
before_byte endless true b c x lines rest l = ap (onto endless b) l ∙ ap (λ y. y ∷ rest) (sym (return-front b c x))
before_byte endless false b c x lines rest l = ap (onto endless b) l ∙ ap (λ y. y ∷ rest) (sym (return-front b c x))

-- the line up to the first line feed, and the lines of what follows
pub lines_end : (endless : Bool) (bs tail : List ℕ) (i : ℕ) → feed_at bs ≡ Some i → lines_to endless (bs ++ tail) ≡ without_return (take i bs) ∷ lines_to endless (drop (suc i) bs ++ tail)
unfolding lines_to feed_at
lines_end endless [] tail i h = cc
lines_end endless (b ∷ []) tail i h = by_test (eqb b 10) h
  where
    by_test : (t : Bool) → cond {A = Option ℕ} t (Some 0) None ≡ Some i
        → cond t ([] ∷ lines_to endless tail) (cond (eqb b 13 && is_at_feed tail) (lines_to endless tail) (onto endless b (lines_to endless tail))) ≡ without_return (take i (b ∷ [])) ∷ lines_to endless (drop (suc i) (b ∷ []) ++ tail)
    by_test true e = let z : i ≡ 0 = cc in rw (z, return-none) refl
    by_test false e = cc
lines_end endless (b ∷ c ∷ cs) tail i h = by_test (eqb b 10) h (λ j e. lines_end endless (c ∷ cs) tail j e)
  where
    by_return : (r s : Bool) (j : ℕ) (lines : List (List ℕ)) → eqb b 13 ≡ r → eqb c 10 ≡ s → feed_at (c ∷ cs) ≡ Some j → lines ≡ without_return (take j (c ∷ cs)) ∷ lines_to endless (drop (suc j) (c ∷ cs) ++ tail)
        → cond (r && s) lines (onto endless b lines) ≡ without_return (b ∷ take j (c ∷ cs)) ∷ lines_to endless (drop (suc j) (c ∷ cs) ++ tail)
    by_return r true j lines er es f l =
        let first : Some 0 ≡ Some j = ap (λ t. cond t (Some 0) (option_map suc (feed_at cs))) (sym es) ∙ f in
        let z : j ≡ 0 = cc in
        let l0 = rw z at l in
        rw z (and-true r lines (onto endless b lines) ∙ at_feed endless r b lines (lines_to endless (cs ++ tail)) er l0)
    by_return r false j lines er es f l =
        let later = some_suc (feed_at cs) j (ap (λ t. cond t (Some 0) (option_map suc (feed_at cs))) (sym es) ∙ f) in
        let l1 = rw later.2 at l in
        rw later.2 (before_byte endless r b c (take later.0 cs) lines (lines_to endless (drop (suc later.0) cs ++ tail)) l1)

    by_test : (t : Bool) → cond t (Some 0) (option_map suc (feed_at (c ∷ cs))) ≡ Some i
        → ((j : ℕ) → feed_at (c ∷ cs) ≡ Some j → lines_to endless (c ∷ cs ++ tail) ≡ without_return (take j (c ∷ cs)) ∷ lines_to endless (drop (suc j) (c ∷ cs) ++ tail))
        → cond t ([] ∷ lines_to endless (c ∷ cs ++ tail)) (cond (eqb b 13 && eqb c 10) (lines_to endless (c ∷ cs ++ tail)) (onto endless b (lines_to endless (c ∷ cs ++ tail)))) ≡ without_return (take i (b ∷ c ∷ cs)) ∷ lines_to endless (drop (suc i) (b ∷ c ∷ cs) ++ tail)
    by_test true e next = let z : i ≡ 0 = cc in rw (z, return-none) refl
    by_test false e next =
        let p = some_suc (feed_at (c ∷ cs)) i e in
        rw p.2 (by_return (eqb b 13) (eqb c 10) p.0 (lines_to endless (c ∷ cs ++ tail)) refl refl p.1 (next p.0 p.1))

-- what has no line feed is one line, where a line needs no end
pub lines_last : (b : ℕ) (bs : List ℕ) → feed_at (b ∷ bs) ≡ None → lines_to true (b ∷ bs) ≡ (b ∷ bs) ∷ []
unfolding lines_to feed_at
lines_last b [] h = by_test (eqb b 10) (eqb b 13) h
  where
    by_test : (t r : Bool) → cond {A = Option ℕ} t (Some 0) None ≡ None → cond {A = List (List ℕ)} t ([] ∷ []) (cond (r && false) [] ((b ∷ []) ∷ [])) ≡ (b ∷ []) ∷ []
    by_test true r e = cc
    by_test false true e = refl
    by_test false false e = refl
lines_last b (c ∷ cs) h = by_test (eqb b 10) (eqb b 13) (eqb c 10) refl h (λ e. lines_last c cs e)
  where
    no_feed : (s : Bool) → cond s (Some 0) (option_map suc (feed_at cs)) ≡ None → s ≡ false
    no_feed true e = cc
    no_feed false e = refl

    by_test : (t r s : Bool) → eqb c 10 ≡ s → cond t (Some 0) (option_map suc (feed_at (c ∷ cs))) ≡ None → (feed_at (c ∷ cs) ≡ None → lines_to true (c ∷ cs) ≡ (c ∷ cs) ∷ [])
        → cond t ([] ∷ lines_to true (c ∷ cs)) (cond (r && s) (lines_to true (c ∷ cs)) (onto true b (lines_to true (c ∷ cs)))) ≡ (b ∷ c ∷ cs) ∷ []
    by_test true r s q e next = cc
    by_test false r true q e next = absurd (false≢true (sym (no_feed (eqb c 10) (none_suc _ e)) ∙ q))
    by_test false true false q e next = ap (onto true b) (next (none_suc _ e))
    by_test false false false q e next = ap (onto true b) (next (none_suc _ e))

-- and none, where each line needs one
pub ended_none : (bs : List ℕ) → feed_at bs ≡ None → lines_to false bs ≡ []
unfolding lines_to feed_at
ended_none [] h = refl
ended_none (b ∷ bs) h = by_test (eqb b 10) (eqb b 13 && is_at_feed bs) h (λ e. ended_none bs e)
  where
    by_test : (t r : Bool) → cond t (Some 0) (option_map suc (feed_at bs)) ≡ None → (feed_at bs ≡ None → lines_to false bs ≡ [])
        → cond t ([] ∷ lines_to false bs) (cond r (lines_to false bs) (onto false b (lines_to false bs))) ≡ []
    by_test true r e next = cc
    by_test false true e next = next (none_suc _ e)
    by_test false false e next = ap (onto false b) (next (none_suc _ e))
