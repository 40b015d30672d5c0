-- Texts with which a run ends.
use Rattle.std.proofs.Common.{◌≡◌, ◌<◌, inl, inr, ℕ, suc, List, [], ◌∷◌, ◌++◌, take, length, Option, Some, None, refl, sym, ap, ◌∙◌, subst, append_assoc, append-nil}
use Rattle.nsi_outside.specs.Stream.{WritesAll, WritesFront}
use Rattle.run_command.specs.declared.command.RunEnd.{RunEnd}
use Rattle.run_command.specs.Ends.{IsTold, Closes}

take_all : (xs : List ℕ) → take (length xs) xs ≡ xs
take_all [] = refl
take_all (x ∷ xs) = ap (λ ys. x ∷ ys) (take_all xs)

pub all_front : (old new : Option (List ℕ)) (text : List ℕ) → WritesAll old new text → WritesFront old new text
all_front None new text w = tt
all_front (Some c) new text w = (length text, w ∙ ap (λ x. Some (c ++ x)) (sym (take_all text)))

pub nothing_front : (old : Option (List ℕ)) (text : List ℕ) → WritesFront old old text
nothing_front None text = tt
nothing_front (Some c) text = (0, ap (λ x. Some x) (sym (append-nil c)))

module _ (text : List ℕ) (own : RunEnd) (told : IsTold own) (old new : Option (List ℕ)) (before after : ℕ) where
  pub closed : WritesAll old new text → after ≡ before → Closes text own own old new before after
  closed w q =
      record { kind = inl refl; told = λ _. w; front = all_front old new text w; write = λ e. absurd (told.write e); quiet = λ _. q }

  pub closed_cut : WritesFront old new text → before < after → Closes text own RunEnd.WriteFault old new before after
  closed_cut w r =
      record { kind = inr (inl refl); told = λ e. absurd (told.write (sym e)); front = w; write = λ _. r; quiet = λ n. absurd (n refl) }

  pub closed_wanting : WritesFront old new text → after ≡ before → Closes text own RunEnd.NoMemory old new before after
  closed_wanting w q =
      record { kind = inr (inr refl); told = λ e. absurd (told.memory (sym e)); front = w; write = λ e. cc; quiet = λ _. q }

-- nothing was written, for want of memory
pub unwritten : (text : List ℕ) (own : RunEnd) → IsTold own → (old : Option (List ℕ)) (faults : ℕ) → Closes text own RunEnd.NoMemory old old faults faults
unwritten text own told old faults = closed_wanting text own told old old faults faults (nothing_front old text) refl

-- a front of what stands behind a text
front_behind : (x y : List ℕ) (k : ℕ) → (j : ℕ) × (x ++ take k y ≡ take j (x ++ y))
front_behind [] y k = (k, refl)
front_behind (b ∷ x) y k = let r = front_behind x y k in (suc r.0, ap (λ z. b ∷ z) r.1)

-- a text behind another one
module _ (base line : List ℕ) (mid new : Option (List ℕ)) where
  pub behind_all : (old : Option (List ℕ)) → WritesAll old mid base → WritesAll mid new line → WritesAll old new (base ++ line)
  behind_all None w v = tt
  behind_all (Some c) w v =
      let P : Option (List ℕ) → Type 0 = λ o. WritesAll o new line in
      subst P w v ∙ ap (λ x. Some x) (append_assoc c base line)

  pub behind_front : (old : Option (List ℕ)) → WritesAll old mid base → WritesFront mid new line → WritesFront old new (base ++ line)
  behind_front None w v = tt
  behind_front (Some c) w v =
      let P : Option (List ℕ) → Type 0 = λ o. WritesFront o new line in
      let u = subst P w v in
      let b = front_behind base line u.0 in
      (b.0, u.1 ∙ ap (λ x. Some x) (append_assoc c base (take u.0 line) ∙ ap (λ z. c ++ z) b.1))
