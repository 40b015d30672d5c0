-- An item that is read stands there.
use Rattle.std.proofs.Common.{◌≡◌, ℕ, zero, suc, ◌<◌, List, [], ◌∷◌, Some, length, get_or, slice_get, sym, ap, arith}

pub some_read : {A : Type 0} (xs : List A) (i : ℕ) (r : A) → i < length xs → r ≡ get_or xs i r → slice_get xs i ≡ Some r
some_read [] i r l e = absurd (omega arith)
some_read (x ∷ xs) zero r l e = ap Some (sym e)
some_read (x ∷ xs) (suc i) r l e = some_read xs i r (omega arith) e
