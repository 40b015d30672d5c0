-- One batch at the front of a file.
use Rattle.std.proofs.Common.{◌≡◌, ◌≢◌, ℕ, suc, ◌+◌, ◌<◌, ◌≤◌, Bool, false, List, [], ◌∷◌, ◌++◌, length, take, drop, Option, Some, Result, Ok, Err, if◌then◌else◌, nat_lt, nat_le, refl, sym, ◌∙◌, ap, arith, append_assoc, length-append}
use Rattle.std.proofs.lemmas.List.{take_at, drop_at}
use Rattle.std.proofs.lemmas.Bool.Decides.{nat_tests}
use Rattle.std.specs.Int.{w64, from_be_bytes, to_be_bytes}
use Rattle.journal_entry.specs.Journals.{followed_by, entries_from}
use Rattle.disk_journal.specs.Batches.{batches}

not_short : (n : ℕ) → 8 ≤ n → nat_lt n 8 ≡ false
not_short n le = grind (arith, nat_tests)

not_past : (n m : ℕ) → m < n → nat_le n m ≡ false
not_past n m lt = grind (arith, nat_tests)

module _ {E : Type 0} (read : List ℕ → Option (List E)) where
  -- one open batch, and what is behind it
  pub one_batch : (fuel place : ℕ) (head p tail : List ℕ) → length head ≡ 8 → from_be_bytes w64 head ≡ length p → 0 < length tail
      → entries_from read (suc fuel) place (1 ∷ (head ++ (p ++ tail))) ≡ followed_by read place (read p) (entries_from read fuel (place + 9 + length p) tail)
  one_batch fuel place head p tail eight value some =
      let all = head ++ (p ++ tail) in
      let long = not_short (length all) (omega (arith, eight, length-append head (p ++ tail))) in
      let fits = not_past (length (p ++ tail)) (length p) (omega (arith, some, length-append p tail)) in
      let last : Bool → Bool → List ℕ → List ℕ → ℕ → Result (List E) ℕ = λ short past a b n.
      if short then Err place else (if past then Err place else followed_by read place (read a) (entries_from read fuel (place + 9 + n) b)) in
      let by_number : List ℕ → ℕ → Result (List E) ℕ = λ t n. last (nat_lt (length all) 8) (nat_le (length t) n) (take n t) (drop n t) n in
      ap (λ (h : List ℕ). by_number (drop 8 all) (from_be_bytes w64 h)) (take_at head (p ++ tail) 8 eight)
      ∙ ap (λ (t : List ℕ). by_number t (from_be_bytes w64 head)) (drop_at head (p ++ tail) 8 eight)
      ∙ ap (by_number (p ++ tail)) value
      ∙ ap (λ (b : Bool). last b (nat_le (length (p ++ tail)) (length p)) (take (length p) (p ++ tail)) (drop (length p) (p ++ tail)) (length p)) long
      ∙ ap (λ (b : Bool). last false b (take (length p) (p ++ tail)) (drop (length p) (p ++ tail)) (length p)) fits
      ∙ ap (λ (l : List ℕ). last false false l (drop (length p) (p ++ tail)) (length p)) (take_at p tail (length p) refl)
      ∙ ap (λ (l : List ℕ). last false false p l (length p)) (drop_at p tail (length p) refl)

  pub entries-closed : (fuel place gate : ℕ) (rest : List ℕ) → gate ≢ 1 → entries_from read (suc fuel) place (gate ∷ rest) ≡ Ok []
  entries-closed fuel place gate rest shut = grind (arith, nat_tests)

  pub bad_short : (f place : ℕ) (behind : List ℕ) → length behind < 8 → entries_from read (suc f) place (1 ∷ behind) ≡ Err place
  bad_short f place behind short = grind (arith, nat_tests)

  pub bad_long : (f place : ℕ) (behind : List ℕ) → 8 ≤ length behind → length (drop 8 behind) ≤ from_be_bytes w64 (take 8 behind) → entries_from read (suc f) place (1 ∷ behind) ≡ Err place
  bad_long f place behind enough past = grind (arith, nat_tests)

  -- entries that were read before those of the rest
  abbrev pub onto : List E → Result (List E) ℕ → Result (List E) ℕ
  onto front (Ok later) = Ok (front ++ later)
  onto front (Err place) = Err place

  pub onto_more : (front es : List E) (place : ℕ) (later : Result (List E) ℕ) → onto front (followed_by read place (Some es) later) ≡ onto (front ++ es) later
  onto_more front es place (Ok later) = ap (λ (l : List E). Ok l) (sym (append_assoc front es later))
  onto_more front es place (Err e) = refl

pub length-head : (n : ℕ) → length (to_be_bytes w64 n) ≡ 8
length-head n = refl

pub shape : (p : List ℕ) (ps : List (List ℕ)) (rest : List ℕ) → batches (p ∷ ps) ++ rest ≡ 1 ∷ (to_be_bytes w64 (length p) ++ (p ++ (batches ps ++ rest)))
shape p ps rest = ap (λ (l : List ℕ). 1 ∷ l) (append_assoc (to_be_bytes w64 (length p)) (p ++ batches ps) rest ∙ ap (λ (l : List ℕ). to_be_bytes w64 (length p) ++ l) (append_assoc p (batches ps) rest))

pub size : (p : List ℕ) (ps : List (List ℕ)) → length (batches (p ∷ ps)) ≡ 9 + length p + length (batches ps)
size p ps = omega (arith, length-append (to_be_bytes w64 (length p)) (p ++ batches ps), length-append p (batches ps))

pub small-more : (ps : List (List ℕ)) (p : List ℕ) → length (batches (ps ++ p ∷ [])) ≡ length (batches ps) + 9 + length p
small-more [] p = omega (arith, size p [])
small-more (q ∷ ps) p = omega (arith, size q ps, size q (ps ++ p ∷ []), small-more ps p)

pub batches_more : (ps : List (List ℕ)) (p rest : List ℕ) → batches (ps ++ p ∷ []) ++ rest ≡ batches ps ++ 1 ∷ (to_be_bytes w64 (length p) ++ (p ++ rest))
batches_more [] p rest = shape p [] rest
batches_more (q ∷ ps) p rest = shape q (ps ++ p ∷ []) rest ∙ ap (λ (l : List ℕ). 1 ∷ (to_be_bytes w64 (length q) ++ (q ++ l))) (batches_more ps p rest) ∙ sym (shape q ps (1 ∷ (to_be_bytes w64 (length p) ++ (p ++ rest))))
