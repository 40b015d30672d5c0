-- Words that were joined are found again.
use Rattle.std.proofs.Common.{◌≡◌, ℕ, ◌^◌, ◌<◌, List, [], ◌∷◌, ◌++◌, Bool, true, false, not, ◌&&◌, cond, decimal, sym, ◌∙◌, refl, ap, arith, append_assoc}
use Rattle.std.specs.List.{list_all, AllByRecursion}
use Rattle.std.proofs.lemmas.List.{append-nil}
use Rattle.std.proofs.lemmas.Bool.Decides.{nat_tests}
use Rattle.std.proofs.lemmas.Fmt.{digits_decimal}
use Rattle.nsi_base.specs.Bytes.{is_name, is_name_byte}
use Rattle.nsi_base.specs.Digits.{is_digit}
use Rattle.nsi_base.specs.declared.words.Blanks.{Blanks}
use Rattle.nsi_base.specs.declared.words.Blanks.TheVariants.{Space, SpaceOrTab}
use Rattle.nsi_base.specs.Words.{is_blank, words_of, with_front, behind, is_word}
use Rattle.nsi_base.proofs.Written.{own}

both : (a b : Bool) → (a && b) ≡ true → (a ≡ true) × (b ≡ true)
both a b h = grind arith

no_blank : (t : Bool) → not t ≡ true → t ≡ false
no_blank t h = grind arith

-- a word before a text that begins with a word
pub word_before : (blanks : Blanks) (w rest first : List ℕ) (others : List (List ℕ)) → is_word blanks w ≡ true → words_of blanks rest ≡ first ∷ others → words_of blanks (w ++ rest) ≡ (w ++ first) ∷ others
unfolding words_of
word_before blanks [] rest first others h e = e
word_before blanks (b ∷ bs) rest first others h e =
    let p = both (not (is_blank blanks b)) (is_word blanks bs) h in
    ap (λ t. cond t ([] ∷ words_of blanks (bs ++ rest)) (with_front b (words_of blanks (bs ++ rest)))) (no_blank (is_blank blanks b) p.0)
    ∙ ap (with_front b) (word_before blanks bs rest first others p.1 e)

space_parts : (blanks : Blanks) → is_blank blanks 32 ≡ true
space_parts Space = refl
space_parts SpaceOrTab = refl

-- behind a space the words begin anew
behind_space : (blanks : Blanks) (bs : List ℕ) → words_of blanks (32 ∷ bs) ≡ [] ∷ words_of blanks bs
unfolding words_of
behind_space blanks bs = ap (λ t. cond t ([] ∷ words_of blanks bs) (with_front 32 (words_of blanks bs))) (space_parts blanks)

no_words : (blanks : Blanks) → words_of blanks [] ≡ [] ∷ []
unfolding words_of
no_words blanks = refl

-- a word and the words behind it
pub words_again : (blanks : Blanks) (w : List ℕ) (ws : List (List ℕ)) → is_word blanks w ≡ true → AllByRecursion (λ v. is_word blanks v ≡ true) ws → words_of blanks (w ++ behind ws) ≡ w ∷ ws
words_again blanks w [] h hs = word_before blanks w [] [] [] h (no_words blanks) ∙ ap (λ v. v ∷ []) (append-nil w)
words_again blanks w (v ∷ vs) h hs =
    word_before blanks w (32 ∷ (v ++ behind vs)) [] (v ∷ vs) h (behind_space blanks (v ++ behind vs) ∙ ap (λ ws. [] ∷ ws) (words_again blanks v vs hs.0 hs.1))
    ∙ ap (λ x. x ∷ v ∷ vs) (append-nil w)

name_byte : (blanks : Blanks) (b : ℕ) → is_name_byte b ≡ true → not (is_blank blanks b) ≡ true
name_byte Space b h = grind (arith, nat_tests)
name_byte SpaceOrTab b h = grind (arith, nat_tests)

name_bytes : (blanks : Blanks) (bs : List ℕ) → list_all is_name_byte bs ≡ true → is_word blanks bs ≡ true
name_bytes blanks [] h = refl
name_bytes blanks (b ∷ bs) h =
    let p = both (is_name_byte b) (list_all is_name_byte bs) h in
    rw (name_byte blanks b p.0, name_bytes blanks bs p.1) refl

-- a name is a word
pub word_from_name : (blanks : Blanks) (bs : List ℕ) → is_name bs ≡ true → is_word blanks bs ≡ true
word_from_name blanks bs h = name_bytes blanks bs (both _ (list_all is_name_byte bs) h).1

digit_byte : (blanks : Blanks) (b : ℕ) → is_digit b ≡ true → not (is_blank blanks b) ≡ true
digit_byte Space b h = grind (arith, nat_tests)
digit_byte SpaceOrTab b h = grind (arith, nat_tests)

digit_bytes : (blanks : Blanks) (bs : List ℕ) → list_all is_digit bs ≡ true → is_word blanks bs ≡ true
digit_bytes blanks [] h = refl
digit_bytes blanks (b ∷ bs) h =
    let p = both (is_digit b) (list_all is_digit bs) h in
    rw (digit_byte blanks b p.0, digit_bytes blanks bs p.1) refl

-- a decimal text is a word
pub word_from_decimal : (blanks : Blanks) (n : ℕ) → n < 2 ^ 64 → is_word blanks (decimal n) ≡ true
word_from_decimal blanks n h = digit_bytes blanks (decimal n) (digits_decimal own n h)

pub behind_append : (vs ws : List (List ℕ)) → behind (vs ++ ws) ≡ behind vs ++ behind ws
behind_append [] ws = refl
behind_append (v ∷ vs) ws = ap (λ t. 32 ∷ (v ++ t)) (behind_append vs ws) ∙ ap (λ t. 32 ∷ t) (sym (append_assoc v (behind vs) (behind ws)))
