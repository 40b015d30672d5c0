-- The places of a shelf.
use Rattle.std.proofs.Common.{◌≡◌, ℕ, zero, suc, ◌<◌, Bool, true, false, List, [], ◌∷◌, ◌++◌, length, get_or, set, Option, Some, None, if◌then◌else◌, refl, sym, ◌∙◌, ap, subst, arith}
use Rattle.std.specs.Prelude.{bytes_eq, is_some}
use Rattle.std.proofs.lemmas.Bool.{true≢false}
use Rattle.std.proofs.lemmas.Slice.Eq.{bytes_eq-Decides}
use Rattle.nsi_disk.specs.Shelf.{held, is_listed, content_of, or_empty, NoneBefore, FirstAt}
use Rattle.nsi_disk.specs.declared.memory_shelf.NamedDisk.{NamedDisk}

-- an empty file is added at the end
empty_none : (b : Bool) (bytes : List ℕ) → bytes ≡ [] → or_empty (if b then Some bytes else None) ≡ []
empty_none true bytes none = none
empty_none false bytes none = refl

content_more : (b : Bool) (bytes : List ℕ) (x y : Option (List ℕ)) → or_empty x ≡ or_empty y → or_empty (if b then Some bytes else x) ≡ or_empty (if b then Some bytes else y)
content_more true bytes x y is = refl
content_more false bytes x y is = is

pub content_push : (n : List ℕ) (ds : List NamedDisk) (new : NamedDisk) → new.bytes.items ≡ [] → content_of n (ds ++ new ∷ []) ≡ content_of n ds
content_push n [] new none = empty_none (bytes_eq new.name n) new.bytes.items none
content_push n (d ∷ ds) new none = content_more (bytes_eq d.name n) d.bytes.items (held n (ds ++ new ∷ [])) (held n ds) (content_push n ds new none)

listed_more : (b : Bool) (bytes : List ℕ) (x y : Option (List ℕ)) → (is_some x ≡ true → is_some y ≡ true) → is_some (if b then Some bytes else x) ≡ true → is_some (if b then Some bytes else y) ≡ true
listed_more true bytes x y f is = refl
listed_more false bytes x y f is = f is

pub listed_push : (n : List ℕ) (ds : List NamedDisk) (new : NamedDisk) → is_listed n ds ≡ true → is_listed n (ds ++ new ∷ []) ≡ true
listed_push n [] new is = absurd (true≢false (sym is))
listed_push n (d ∷ ds) new is = listed_more (bytes_eq d.name n) d.bytes.items (held n ds) (held n (ds ++ new ∷ [])) (listed_push n ds new) is

listed_behind : (b : Bool) (bytes : List ℕ) (x : Option (List ℕ)) → is_some x ≡ true → is_some (if b then Some bytes else x) ≡ true
listed_behind true bytes x is = refl
listed_behind false bytes x is = is

pub push_listed : (name : List ℕ) (ds : List NamedDisk) (new : NamedDisk) → bytes_eq new.name name ≡ true → is_listed name (ds ++ new ∷ []) ≡ true
push_listed name [] new named = ap (λ (b : Bool). is_some (if b then Some new.bytes.items else None)) named
push_listed name (d ∷ ds) new named = listed_behind (bytes_eq d.name name) d.bytes.items (held name (ds ++ new ∷ [])) (push_listed name ds new named)

-- a disk is put under a name that is there
set_held : (name : List ℕ) (ds : List NamedDisk) (i : ℕ) (new : NamedDisk) → NoneBefore name ds i → i < length ds → bytes_eq new.name name ≡ true → held name (set ds i new) ≡ Some new.bytes.items
set_held name [] i new none inside named = absurd (omega (arith, inside))
set_held name (d ∷ ds) zero new none inside named = ap (λ (b : Bool). if b then Some new.bytes.items else held name ds) named
set_held name (d ∷ ds) (suc i) new none inside named =
    ap (λ (b : Bool). if b then Some d.bytes.items else held name (set ds i new)) (none 0 d (omega arith)) ∙ set_held name ds i new (λ k e lt. none (suc k) e (omega (arith, lt))) (omega (arith, inside)) named

set_other : (n : List ℕ) (ds : List NamedDisk) (i : ℕ) (new : NamedDisk) → new.name ≡ (get_or ds i new).name → bytes_eq new.name n ≡ false → held n (set ds i new) ≡ held n ds
set_other n [] i new named other = refl
set_other n (d ∷ ds) zero new named other =
    ap (λ (b : Bool). if b then Some new.bytes.items else held n ds) other ∙ sym (ap (λ (b : Bool). if b then Some d.bytes.items else held n ds) (ap (λ (m : List ℕ). bytes_eq m n) (sym named) ∙ other))
set_other n (d ∷ ds) (suc i) new named other = ap (λ (l : Option (List ℕ)). if bytes_eq d.name n then Some d.bytes.items else l) (set_other n ds i new named other)

equal : (xs ys : List ℕ) → bytes_eq xs ys ≡ true → xs ≡ ys
equal xs ys is = grind (arith, bytes_eq-Decides)

pub equals : (xs ys : List ℕ) → xs ≡ ys → bytes_eq xs ys ≡ true
equals xs ys is = grind (arith, bytes_eq-Decides)

held_put : (name n : List ℕ) (ds : List NamedDisk) (i : ℕ) (new : NamedDisk) → FirstAt name ds i → new.name ≡ (get_or ds i new).name → held n (set ds i new) ≡ (if bytes_eq name n then Some new.bytes.items else held n ds)
held_put name n ds i new first kept = by_case (bytes_eq name n) refl
  where
    by_case : (b : Bool) → bytes_eq name n ≡ b → held n (set ds i new) ≡ (if b then Some new.bytes.items else held n ds)
    by_case true is =
        let named : bytes_eq new.name name ≡ true = ap (λ (m : List ℕ). bytes_eq m name) kept ∙ first.named new in
        subst (λ (m : List ℕ). held m (set ds i new) ≡ Some new.bytes.items) (equal name n is) (set_held name ds i new first.none first.inside named)
    by_case false is = set_other n ds i new kept (ap (λ (m : List ℕ). bytes_eq m n) (kept ∙ equal (get_or ds i new).name name (first.named new)) ∙ is)

content_if : (b : Bool) (x : List ℕ) (y : Option (List ℕ)) → or_empty (if b then Some x else y) ≡ (if b then x else or_empty y)
content_if true x y = refl
content_if false x y = refl

pub content_put : (name n : List ℕ) (ds : List NamedDisk) (i : ℕ) (new : NamedDisk) → FirstAt name ds i → new.name ≡ (get_or ds i new).name → content_of n (set ds i new) ≡ (if bytes_eq name n then new.bytes.items else content_of n ds)
content_put name n ds i new first kept = ap or_empty (held_put name n ds i new first kept) ∙ content_if (bytes_eq name n) new.bytes.items (held n ds)

pub listed_put : (name n : List ℕ) (ds : List NamedDisk) (i : ℕ) (new : NamedDisk) → FirstAt name ds i → new.name ≡ (get_or ds i new).name → is_listed name ds ≡ true → is_listed n (set ds i new) ≡ is_listed n ds
listed_put name n ds i new first kept listed = ap is_some (held_put name n ds i new first kept) ∙ by_case (bytes_eq name n) refl
  where
    by_case : (b : Bool) → bytes_eq name n ≡ b → is_some (if b then Some new.bytes.items else held n ds) ≡ is_listed n ds
    by_case true is = sym (subst (λ (m : List ℕ). is_listed m ds ≡ true) (equal name n is) listed)
    by_case false is = refl

pub none_listed : (name : List ℕ) (ds : List NamedDisk) → NoneBefore name ds (length ds) → is_listed name ds ≡ false
none_listed name [] none = refl
none_listed name (d ∷ ds) none = ap (λ (b : Bool). is_some (if b then Some d.bytes.items else held name ds)) (none 0 d (omega arith)) ∙ none_listed name ds (λ k e lt. none (suc k) e (omega (arith, lt)))
