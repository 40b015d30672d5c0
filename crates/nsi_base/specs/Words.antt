-- Words between single blanks.
use Rattle.std.specs.Prelude.{◌≡◌, ℕ, ◌<◌, List, [], ◌∷◌, ◌++◌, Bool, true, false, ◌||◌, not, ◌==◌, if◌then◌else◌, length, slice_index}
use Rattle.std.specs.List.{list_all, AllByRecursion}
use Rattle.nsi_base.specs.declared.words.Blanks.{Blanks}
use Rattle.nsi_base.specs.declared.words.Blanks.TheVariants.{Space, SpaceOrTab}

abbrev pub is_blank : Blanks → ℕ → Bool
is_blank Space b = b == 32
is_blank SpaceOrTab b = b == 32 || b == 9

-- none of the first bytes is a blank
abbrev pub HasNoBlank : Blanks → List ℕ → ℕ → Type 0
HasNoBlank blanks bytes count =
    (j : ℕ) → j < count → is_blank blanks (slice_index bytes j) ≡ false

-- the first blank of the bytes
abbrev pub IsFirstBlank : Blanks → List ℕ → ℕ → Type 0
IsFirstBlank blanks bytes k =
    (k < length bytes) × (is_blank blanks (slice_index bytes k) ≡ true) × HasNoBlank blanks bytes k

-- a byte in front of the first word
abbrev pub with_front : ℕ → List (List ℕ) → List (List ℕ)
with_front b [] = (b ∷ []) ∷ []
with_front b (word ∷ words) = (b ∷ word) ∷ words

-- the words between single blanks; two blanks in a row have an empty word between them
unfoldable pub words_of : Blanks → List ℕ → List (List ℕ)
words_of blanks [] = [] ∷ []
words_of blanks (b ∷ bs) = if is_blank blanks b then [] ∷ words_of blanks bs else with_front b (words_of blanks bs)

-- words behind a first one, each behind a space
abbrev pub behind : List (List ℕ) → List ℕ
behind [] = []
behind (word ∷ words) = 32 ∷ (word ++ behind words)

-- a word has no blank in it
abbrev pub is_word : Blanks → List ℕ → Bool
is_word blanks bytes = list_all (λ b. not (is_blank blanks b)) bytes

-- words that are written with a space between them are read again
abbrev pub AreReadAgain : Blanks → Type 0
AreReadAgain blanks =
    (word : List ℕ) (others : List (List ℕ)) → is_word blanks word ≡ true
    → AllByRecursion (λ w. is_word blanks w ≡ true) others
    → words_of blanks (word ++ behind others) ≡ word ∷ others
