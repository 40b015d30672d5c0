-- The words of a line are cut off again.
use Rattle.std.proofs.Common.{◌≡◌, ℕ, zero, suc, ◌+◌, ◌-◌, List, [], ◌∷◌, ◌++◌, Bool, true, false, not, ◌&&◌, cond, eqb, ltb, Some, option_map, length, take, drop, refl, ap, ◌∙◌, arith}
use Rattle.std.specs.List.{position_from}
use Rattle.std.proofs.lemmas.Bool.Decides.{nat_tests}
use Rattle.std.proofs.lemmas.List.{take_at}
use Rattle.uuid.specs.Text.{by_index, lower, is_hyphen_place, hex_digit, nibble, digit_place}
use Rattle.nsi_base.specs.Words.{is_word}
use Rattle.nsi_base.specs.declared.words.Blanks.TheVariants.{Space}
use Rattle.nsi_primitive.specs.Ids.{bytes_of, id_text}
use Rattle.nsi_primitive.specs.declared.ask.AskAnswer.{AskAnswer}
use Rattle.nsi_primitive.specs.declared.entry.Happening.{Happening}
use Rattle.nsi_primitive.specs.declared.entry.Input.{Input}
use Rattle.trace_text.specs.Lines.{input_verb, verb_of, answer_text}
use Rattle.trace_reader.specs.Reading.{cut_word}

both : (a b : Bool) → (a && b) ≡ true → (a ≡ true) × (b ≡ true)
both a b h = grind arith

and_true : (a b : Bool) → a ≡ true → b ≡ true → (a && b) ≡ true
and_true a b h g = grind arith

---- The first word of a text

space_behind : (w rest : List ℕ) (n i : ℕ) → is_word Space w ≡ true → n + length w ≡ i → position_from (λ b. eqb b 32) n (w ++ 32 ∷ rest) ≡ Some i
space_behind [] rest n i h e = let at : n ≡ i = omega (arith, e) in ap (λ k. Some k) at
space_behind (b ∷ bs) rest n i h e =
    let p = both (not (eqb b 32)) (is_word Space bs) h in
    by_test (eqb b 32) p.0 (space_behind bs rest (n + 1) i p.1 (omega (arith, e)))
  where
    by_test : (t : Bool) → not t ≡ true → position_from (λ c. eqb c 32) (n + 1) (bs ++ 32 ∷ rest) ≡ Some i → cond t (Some n) (position_from (λ c. eqb c 32) (n + 1) (bs ++ 32 ∷ rest)) ≡ Some i
    by_test true f g = cc
    by_test false f g = g

behind_word : (w rest : List ℕ) → drop (suc (length w)) (w ++ 32 ∷ rest) ≡ rest
behind_word [] rest = refl
behind_word (b ∷ bs) rest = behind_word bs rest

-- a word with a space behind it
pub word_cut : (w rest : List ℕ) → is_word Space w ≡ true → cut_word (w ++ 32 ∷ rest) ≡ Some (w, rest)
unfolding cut_word
word_cut w rest h =
    let more : length w + 1 ≡ suc (length w) = omega arith in
    ap (option_map (λ i. (take i (w ++ 32 ∷ rest), drop (i + 1) (w ++ 32 ∷ rest)))) (space_behind w rest 0 (length w) h (omega arith))
    ∙ (ap (λ x. Some (x, drop (length w + 1) (w ++ 32 ∷ rest))) (take_at w (32 ∷ rest) (length w) refl)
    ∙ ap (λ x. Some (w, x)) (ap (λ n. drop n (w ++ 32 ∷ rest)) more ∙ behind_word w rest))

---- Which texts are words

pub word_then : (v w : List ℕ) → is_word Space v ≡ true → is_word Space w ≡ true → is_word Space (v ++ w) ≡ true
word_then [] w h g = g
word_then (b ∷ bs) w h g =
    let p = both (not (eqb b 32)) (is_word Space bs) h in
    and_true (not (eqb b 32)) (is_word Space (bs ++ w)) p.0 (word_then bs w p.1 g)

one_byte : (b : ℕ) → eqb b 32 ≡ false → is_word Space (b ∷ []) ≡ true
one_byte b h = rw h refl

by_places : (n : ℕ) (f : ℕ → ℕ) → ((k : ℕ) → eqb (f k) 32 ≡ false) → is_word Space (by_index n f) ≡ true
unfolding by_index
by_places zero f h = refl
by_places (suc n) f h = word_then (by_index n f) (f n ∷ []) (by_places n f h) (one_byte (f n) (h n))

digit_or_hyphen : (hyphen : Bool) (d : ℕ) → eqb (cond hyphen 45 (cond (ltb d 10) (48 + d) (97 + d - 10))) 32 ≡ false
digit_or_hyphen hyphen d = grind (arith, nat_tests)

pub id_is_word : (n : ℕ) → is_word Space (id_text n) ≡ true
unfolding id_text
id_is_word n =
    by_places 36 (λ k. cond (is_hyphen_place k) 45 (hex_digit lower (nibble (bytes_of n) (digit_place k))))
    (λ k. digit_or_hyphen (is_hyphen_place k) (nibble (bytes_of n) (digit_place k)))

pub answer_is_word : (a : AskAnswer) → is_word Space (answer_text a) ≡ true
unfolding answer_text
answer_is_word AskAnswer.Sent = refl
answer_is_word AskAnswer.NoId = refl
answer_is_word (AskAnswer.Outstanding id) = id_is_word id

input_verb_is_word : (i : Input) → is_word Space (input_verb i) ≡ true
input_verb_is_word (Input.Ask number ask) = refl
input_verb_is_word (Input.Got message) = refl
input_verb_is_word (Input.Work number machine) = refl
input_verb_is_word Input.Tick = refl
input_verb_is_word (Input.Force number) = refl
input_verb_is_word (Input.Acked identity) = refl

pub verb_is_word : (w : Happening) → is_word Space (verb_of w) ≡ true
verb_is_word (Happening.Entry entry answer) = input_verb_is_word entry.input
verb_is_word (Happening.Sync count) = refl
verb_is_word (Happening.Restart count) = refl
