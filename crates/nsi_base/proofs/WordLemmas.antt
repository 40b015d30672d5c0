-- Words by their blanks.
use Rattle.std.proofs.Common.{◌≡◌, ℕ, zero, suc, ◌+◌, ◌<◌, List, [], ◌∷◌, ◌++◌, true, cond, map, length, take, drop, sym, ◌∙◌, refl, ap, arith, slice_index, append_assoc, Bor, drop-drop}
use Rattle.nsi_base.specs.declared.words.Blanks.{Blanks}
use Rattle.nsi_base.specs.Words.{is_blank, words_of, with_front, HasNoBlank}

pub cut : (blanks : Blanks) (bs : List ℕ) (k : ℕ) → k < length bs → is_blank blanks (slice_index bs k) ≡ true → HasNoBlank blanks bs k
    → words_of blanks bs ≡ take k bs ∷ words_of blanks (drop (suc k) bs)
unfolding words_of
cut blanks [] k l h f = absurd (omega arith)
cut blanks (b ∷ bs) zero l h f = ap (λ t. cond t ([] ∷ words_of blanks bs) (with_front b (words_of blanks bs))) h
cut blanks (b ∷ bs) (suc k) l h f = ap (λ t. cond t ([] ∷ words_of blanks bs) (with_front b (words_of blanks bs))) (f 0 (omega arith))
    ∙ ap (with_front b) (cut blanks bs k (omega arith) h (λ j i. f (suc j) (omega arith)))

pub uncut : (blanks : Blanks) (bs : List ℕ) → HasNoBlank blanks bs (length bs) → words_of blanks bs ≡ bs ∷ []
unfolding words_of
uncut blanks [] f = refl
uncut blanks (b ∷ bs) f = ap (λ t. cond t ([] ∷ words_of blanks bs) (with_front b (words_of blanks bs))) (f 0 (omega arith))
    ∙ ap (with_front b) (uncut blanks bs (λ j i. f (suc j) (omega arith)))

now_push : (ws : List (Bor (List ℕ))) (r : Bor (List ℕ)) → map (λ (w : Bor (List ℕ)). w.now) (ws ++ r ∷ []) ≡ map (λ (w : Bor (List ℕ)). w.now) ws ++ r.now ∷ []
now_push [] r = refl
now_push (w ∷ ws) r = ap (λ t. w.now ∷ t) (now_push ws r)

pub last_word : (blanks : Blanks) (ws items : List (Bor (List ℕ))) (r : Bor (List ℕ)) (all : List (List ℕ)) → items ≡ ws ++ r ∷ []
    → map (λ (w : Bor (List ℕ)). w.now) ws ++ words_of blanks r.now ≡ all → words_of blanks r.now ≡ r.now ∷ [] → map (λ (w : Bor (List ℕ)). w.now) items ≡ all
last_word blanks ws items r all e h u = ap (map (λ (w : Bor (List ℕ)). w.now)) e ∙ now_push ws r ∙ ap (λ t. map (λ (w : Bor (List ℕ)). w.now) ws ++ t) (sym u) ∙ h

pub next_word : (blanks : Blanks) (ws items : List (Bor (List ℕ))) (r : Bor (List ℕ)) (rest back behind : List ℕ) (k : ℕ) (all : List (List ℕ)) → items ≡ ws ++ r ∷ [] → r.now ≡ take k rest → back ≡ drop k rest → behind ≡ drop 1 back
    → words_of blanks rest ≡ take k rest ∷ words_of blanks (drop (suc k) rest) → map (λ (w : Bor (List ℕ)). w.now) ws ++ words_of blanks rest ≡ all → map (λ (w : Bor (List ℕ)). w.now) items ++ words_of blanks behind ≡ all
next_word blanks ws items r rest back behind k all e t b d c h =
    let more : k + 1 ≡ suc k = omega arith in
    let there : behind ≡ drop (suc k) rest = d ∙ (ap (drop 1) b ∙ (drop-drop 1 k rest ∙ ap (λ n. drop n rest) more)) in
    rw (e, now_push ws r, append_assoc, t, there, ← c) h
