-- Texts that are appended one behind the other.
use Rattle.std.proofs.Common.{◌≡◌, ℕ, suc, List, [], ◌∷◌, ◌++◌, take, Option, Some, None, Result, Ok, Err, refl, sym, ap, ◌∙◌, subst, append_assoc, append-nil}
use Rattle.std.specs.Prelude.{OnErr}
use Rattle.provide_command.specs.Promise.{Writes, WritesFront}
use Rattle.provide_command.specs.Writes.{WritesSome, WritesSomeFront}

-- what holds anyway holds of a fault
pub on_err : {T E : Type 0} (r : Result T E) (P : Type 0) → P → OnErr r P
on_err (Ok x) P p = tt
on_err (Err e) P p = p

pub writes_some : (P : List ℕ → Type 0) (old new : Option (List ℕ)) (text : List ℕ) → P text → Writes old new text → WritesSome P old new
writes_some P None new text p w = tt
writes_some P (Some c) new text p w = (text, p, w)

pub front_some : (P : List ℕ → Type 0) (old new : Option (List ℕ)) (text : List ℕ) → P text → WritesFront old new text → WritesSomeFront P old new
front_some P None new text p w = tt
front_some P (Some c) new text p w = (text, w.0, p, w.1)

-- nothing is a front of each text
pub nothing_some : (P : List ℕ → Type 0) (old new : Option (List ℕ)) (text : List ℕ) → P text → new ≡ old → WritesSomeFront P old new
nothing_some P None new text p e = tt
nothing_some P (Some c) new text p e = (text, 0, p, e ∙ ap (λ x. Some x) (sym (append-nil c)))

-- a front of what stands behind a text
pub front_behind : (x y : List ℕ) (k : ℕ) → (j : ℕ) × (x ++ take k y ≡ take j (x ++ y))
front_behind [] y k = (k, refl)
front_behind (b ∷ x) y k = let r = front_behind x y k in (suc r.0, ap (λ z. b ∷ z) r.1)

pub some_along : (P Q : List ℕ → Type 0) (old new : Option (List ℕ)) → ((x : List ℕ) → P x → Q x) → WritesSome P old new → WritesSome Q old new
some_along P Q None new f w = tt
some_along P Q (Some c) new f w = (w.0, f w.0 w.1, w.2)

pub front_along : (P Q : List ℕ → Type 0) (old new : Option (List ℕ)) → ((x : List ℕ) → P x → Q x) → WritesSomeFront P old new → WritesSomeFront Q old new
front_along P Q None new f w = tt
front_along P Q (Some c) new f w = (w.0, w.1, f w.0 w.2, w.3)

pub then_some : (P Q R : List ℕ → Type 0) (old between new : Option (List ℕ)) → ((x y : List ℕ) → P x → Q y → R (x ++ y)) → WritesSome P old between → WritesSome Q between new → WritesSome R old new
then_some P Q R None between new f w v = tt
then_some P Q R (Some c) between new f w v =
    let S : Option (List ℕ) → Type 0 = λ o. WritesSome Q o new in
    let v' = subst S w.2 v in
    (w.0 ++ v'.0, f w.0 v'.0 w.1 v'.1, v'.2 ∙ ap (λ x. Some x) (append_assoc c w.0 v'.0))

pub then_front : (P Q R : List ℕ → Type 0) (old between new : Option (List ℕ)) → ((x y : List ℕ) → P x → Q y → R (x ++ y)) → WritesSome P old between → WritesSomeFront Q between new → WritesSomeFront R old new
then_front P Q R None between new f w v = tt
then_front P Q R (Some c) between new f w v =
    let S : Option (List ℕ) → Type 0 = λ o. WritesSomeFront Q o new in
    let v' = subst S w.2 v in
    let b = front_behind w.0 v'.0 v'.1 in
    (w.0 ++ v'.0, b.0, f w.0 v'.0 w.1 v'.2, v'.3 ∙ ap (λ x. Some x) (append_assoc c w.0 (take v'.1 v'.0) ∙ ap (λ z. c ++ z) b.1))
