-- How the parser takes a word apart.
use Rattle.std.proofs.Common.{◌≡◌, ◌∙◌, ◌&&◌, ℕ, Bool, true, false, cond, codes, List, [], ◌∷◌, ◌++◌, drop, length, Option, Some, None, refl, sym, ap, nat_eq, arith, true≢false, subst, zero, suc, get_or, ◌<◌}
use Rattle.std.proofs.lemmas.List.{append-nil}
use Rattle.std.proofs.lemmas.Str.{IsUtf8-from_ascii, chars-append, encodes-chars}
use Rattle.std.specs.Prelude.{encode_utf8_all, slice_get}
use Rattle.std.specs.List.{starts_with}
use Rattle.std.specs.Str.{chars, IsUtf8}
use Rattle.std.proofs.lemmas.Bool.Decides.{nat_tests}
use Rattle.clap.specs.Lexer.{long_of, short_of}
use Rattle.clap.specs.Walk.{Text}
use Rattle.command_words.specs.Words.{has_value, is_dashed, is_end, name_in, value_in}

eq_turned : (a b : ℕ) → nat_eq a b ≡ nat_eq b a
eq_turned a b = grind (arith, nat_tests)

-- `--name` or `--name=value`
abbrev pub parts_in : Text → Text × Option Text
parts_in word = (name_in word, cond (has_value word) (Some (value_in word)) None)

abbrev pub begins_long : Text → Bool
begins_long word = starts_with nat_eq word (codes "--")

pub long_is : (word : Text) → is_end word ≡ false → long_of word ≡ cond (begins_long word) (Some (parts_in word)) None
long_is [] d = refl
long_is (a ∷ []) d = go (nat_eq a 45) refl
  where
    go : (x : Bool) → nat_eq a 45 ≡ x → long_of (a ∷ []) ≡ cond (begins_long (a ∷ [])) (Some (parts_in (a ∷ []))) None
    go true e = rw (eq_turned 45 a, e) refl
    go false e = rw (eq_turned 45 a, e) refl
long_is (a ∷ b ∷ []) d = go (nat_eq a 45) (nat_eq b 45) refl refl
  where
    go : (x y : Bool) → nat_eq a 45 ≡ x → nat_eq b 45 ≡ y → long_of (a ∷ b ∷ []) ≡ cond (begins_long (a ∷ b ∷ [])) (Some (parts_in (a ∷ b ∷ []))) None
    go true true e f = let bad : true ≡ false = rw (e, f) at d in absurd (true≢false bad)
    go true false e f = rw (eq_turned 45 a, eq_turned 45 b, e, f) refl
    go false y e f = rw (eq_turned 45 a, e) refl
long_is (a ∷ b ∷ x ∷ text) d = go (nat_eq a 45) (nat_eq b 45) refl refl
  where
    go : (p q : Bool) → nat_eq a 45 ≡ p → nat_eq b 45 ≡ q → long_of (a ∷ b ∷ x ∷ text) ≡ cond (begins_long (a ∷ b ∷ x ∷ text)) (Some (parts_in (a ∷ b ∷ x ∷ text))) None
    go true true e f = rw (eq_turned 45 a, eq_turned 45 b, e, f) refl
    go true false e f = rw (eq_turned 45 a, eq_turned 45 b, e, f) refl
    go false q e f = rw (eq_turned 45 a, e) refl

-- a word that begins so goes on behind its first byte
pub long_dashed : (word : Text) → begins_long word ≡ true → is_dashed word ≡ true
long_dashed [] s = s
long_dashed (a ∷ []) s = go (nat_eq 45 a) s
  where
    go : (x : Bool) → (x && false) ≡ true → false ≡ true
    go true e = e
    go false e = e
long_dashed (a ∷ b ∷ text) s = eq_turned a 45 ∙ go (nat_eq 45 a) (nat_eq 45 b) s
  where
    go : (x y : Bool) → (x && (y && true)) ≡ true → x ≡ true
    go true y e = refl
    go false y e = e

-- the flags of `-abc`
abbrev pub flags_in : Text → Option Text
flags_in word = cond (is_dashed word) (Some (drop 1 word)) None

pub short_is : (word : Text) → begins_long word ≡ false → short_of word ≡ flags_in word
short_is [] s = refl
short_is (a ∷ []) s = go (nat_eq a 45) refl
  where
    go : (x : Bool) → nat_eq a 45 ≡ x → short_of (a ∷ []) ≡ None
    go true e = rw e refl
    go false e = rw e refl
short_is (a ∷ b ∷ text) s = go (nat_eq a 45) (nat_eq b 45) refl refl
  where
    go : (x y : Bool) → nat_eq a 45 ≡ x → nat_eq b 45 ≡ y → short_of (a ∷ b ∷ text) ≡ flags_in (a ∷ b ∷ text)
    go true true e f = let bad : true ≡ false = rw (eq_turned 45 a, eq_turned 45 b, e, f) at s in absurd (true≢false bad)
    go true false e f = rw (e, f) refl
    go false y e f = rw e refl

short_text : (b : ℕ) (text : Text) → 45 ∷ b ∷ text ≡ 45 ∷ [] → ⊥
short_text b text e = absurd (omega (arith, ap length e))

only_dash : IsUtf8 (45 ∷ [])
only_dash = IsUtf8-from_ascii (45 ∷ []) (λ i. go i)
  where
    go : (i : ℕ) → get_or (45 ∷ []) i 0 < 128
    go zero = omega arith
    go (suc i) = omega arith

no_flag : (b : ℕ) (text : Text) → IsUtf8 (45 ∷ b ∷ text) → chars (b ∷ text) ≡ [] → ⊥
no_flag b text u none =
    short_text b text (sym (encodes-chars (45 ∷ b ∷ text) u)
    ∙ ap encode_utf8_all (chars-append (45 ∷ []) (b ∷ text) only_dash ∙ (ap (λ l. chars (45 ∷ []) ++ l) none ∙ append-nil (chars (45 ∷ []))))
    ∙ encodes-chars (45 ∷ []) only_dash)

none_there : (l : List ℕ) → slice_get l 0 ≡ None → l ≡ []
none_there [] e = refl
none_there (x ∷ l) e = cc

-- what goes on behind a hyphen has a character there
pub has_flag : (word flags : Text) → flags_in word ≡ Some flags → IsUtf8 word → slice_get (chars flags) 0 ≡ None → ⊥
has_flag [] flags e u none = cc
has_flag (a ∷ []) flags e u none = cc
has_flag (a ∷ b ∷ text) flags e u none = go (nat_eq a 45) refl e
  where
    is_dash : nat_eq a 45 ≡ true → a ≡ 45
    is_dash h = grind (arith, nat_tests)

    same : (x y : Text) → Some x ≡ Some y → x ≡ y
    same x y h = cc

    go : (x : Bool) → nat_eq a 45 ≡ x → cond x (Some (b ∷ text)) None ≡ Some flags → ⊥
    go true h s = no_flag b text (subst (λ (c : ℕ). IsUtf8 (c ∷ b ∷ text)) (is_dash h) u) (none_there (chars (b ∷ text)) (ap (λ (l : Text). slice_get (chars l) 0) (same (b ∷ text) flags s) ∙ none))
    go false h s = cc
