-- Texts with which a race ends.
use Rattle.std.proofs.Common.{◌≡◌, ◌<◌, inl, inr, ℕ, List, [], ◌∷◌, ◌++◌, take, length, Option, Some, None, refl, sym, ap, ◌∙◌}
use Rattle.nsi_outside.specs.Stream.{WritesAll, WritesFront}
use Rattle.race_command.specs.declared.ending.RaceEnd.{RaceEnd}
use Rattle.race_command.specs.Outcomes.{Closes, IsOwnEnd}

take_all : (xs : List ℕ) → take (length xs) xs ≡ xs
take_all [] = refl
take_all (x ∷ xs) = ap (λ ys. x ∷ ys) (take_all xs)

all_front : (old new : Option (List ℕ)) (text : List ℕ) → WritesAll old new text → WritesFront old new text
all_front None new text w = tt
all_front (Some c) new text w = (length text, w ∙ ap (λ x. Some (c ++ x)) (sym (take_all text)))

module _ (text : List ℕ) (own : RaceEnd) (is_own : IsOwnEnd own) (old new : Option (List ℕ)) (before after : ℕ) where
  pub closed : WritesAll old new text → after ≡ before → Closes text own own old new before after
  closed w q = record { kind = inl refl; told = λ _. w; front = all_front old new text w; write = λ e. absurd (is_own.write e); quiet = λ _. q }

  pub closed_cut : WritesFront old new text → before < after → Closes text own RaceEnd.WriteFault old new before after
  closed_cut w r = record { kind = inr (inl refl); told = λ e. absurd (is_own.write (sym e)); front = w; write = λ _. r; quiet = λ n. absurd (n refl) }

  pub closed_wanting : WritesFront old new text → after ≡ before → Closes text own RaceEnd.NoMemory old new before after
  closed_wanting w q = record { kind = inr (inr refl); told = λ e. absurd (is_own.memory (sym e)); front = w; write = λ e. cc; quiet = λ _. q }
