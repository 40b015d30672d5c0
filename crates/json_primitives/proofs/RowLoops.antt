-- Loops over rows: what is done of a list, and what is still to come of it.
use Rattle.std.proofs.Common.{◌≡◌, ◌<◌, ◌≤◌, ◌+◌, ℕ, zero, suc, List, [], ◌∷◌, ◌++◌, map, drop, length, get_or, Option, Some, None, option_map, option_and_then, Result, Ok, Err, refl, sym, ap, ◌∙◌, subst, arith}
use Rattle.std.specs.List.{AllByRecursion}
use Rattle.serde_json.specs.Data.{Data}
use Rattle.json_fields.specs.Values.{view, items_view}
use Rattle.json_fields.specs.declared.value.JsonValue.{JsonValue}
use Rattle.json_fields.specs.Faults.{Fails}
use Rattle.json_fields.specs.Fields.{formed}
use Rattle.json_fields.specs.RowFields.{row_of, each_from, list_fault}
use Rattle.json_fields.specs.declared.key.Key.{Key}
use Rattle.json_fields.specs.declared.fault.LineFault.{LineFault}

-- what is next is the first of what is still to come
pub next : {X : Type 0} (xs : List X) (i : ℕ) (d : X) → i < length xs → drop i xs ≡ get_or xs i d ∷ drop (suc i) xs
next [] i d h = absurd (omega arith)
next (x ∷ xs) zero d h = refl
next (x ∷ xs) (suc i) d h = next xs i d (omega arith)

pub none_left : {X : Type 0} (xs : List X) (i : ℕ) → length xs ≤ i → drop i xs ≡ []
none_left [] zero h = refl
none_left [] (suc i) h = refl
none_left (x ∷ xs) zero h = absurd (omega arith)
none_left (x ∷ xs) (suc i) h = none_left xs i (omega arith)

appended : {X : Type 0} (xs : List X) (x : X) (ys : List X) → (xs ++ x ∷ []) ++ ys ≡ xs ++ x ∷ ys
appended [] x ys = refl
appended (z ∷ xs) x ys = ap (λ t. z ∷ t) (appended xs x ys)

with_none : {X : Type 0} (xs : List X) → xs ++ [] ≡ xs
with_none [] = refl
with_none (x ∷ xs) = ap (λ t. x ∷ t) (with_none xs)

---- Rows that are printed

-- the first rows are written, and P holds of all where it does of the others
abbrev pub ArePrinted : {X : Type 0} → (X → Data) → (X → Type 0) → List X → ℕ → List Data → Type 0
ArePrinted f P xs i written = (written ++ map f (drop i xs) ≡ map f xs) × (AllByRecursion P (drop i xs) → AllByRecursion P xs)

pub printed_first : {X : Type 0} (f : X → Data) (P : X → Type 0) (xs : List X) (written : List Data) → written ≡ [] → ArePrinted f P xs 0 written
printed_first f P xs written e = (ap (λ w. w ++ map f xs) e, λ h. h)

pub printed_next : {X : Type 0} (f : X → Data) (P : X → Type 0) (xs : List X) (i : ℕ) (x : X) (d : Data) (old new : List Data) → i < length xs → x ≡ get_or xs i x → d ≡ f x → P x → new ≡ old ++ d ∷ []
    → ArePrinted f P xs i old → ArePrinted f P xs (i + 1) new
printed_next f P xs i x d old new low is same holds put done =
    let next_is : drop i xs ≡ x ∷ drop (suc i) xs = next xs i x low ∙ ap (λ z. z ∷ drop (suc i) xs) (sym is) in
    let one : i + 1 ≡ suc i = omega arith in
    let P0 : List _ → Type 0 = λ z. old ++ map f z ≡ map f xs in
    let P1 : List _ → Type 0 = λ z. AllByRecursion P z → AllByRecursion P xs in
    let written : old ++ f x ∷ map f (drop (suc i) xs) ≡ map f xs = subst P0 next_is done.0 in
    let all : AllByRecursion P (x ∷ drop (suc i) xs) → AllByRecursion P xs = subst P1 next_is done.1 in
    let Q : ℕ → Type 0 = λ n. ArePrinted f P xs n new in
    subst Q (sym one) (ap (λ w. w ++ map f (drop (suc i) xs)) (put ∙ ap (λ z. old ++ z ∷ []) same) ∙ appended old (f x) _ ∙ written, λ h. all (holds, h))

pub printed_written : {X : Type 0} (f : X → Data) (P : X → Type 0) (xs : List X) (i : ℕ) (written : List Data) → length xs ≤ i → ArePrinted f P xs i written → written ≡ map f xs
printed_written f P xs i written past done =
    let P0 : List _ → Type 0 = λ z. written ++ map f z ≡ map f xs in
    sym (with_none written) ∙ subst P0 (none_left xs i past) done.0

pub printed_valid : {X : Type 0} (f : X → Data) (P : X → Type 0) (xs : List X) (i : ℕ) (written : List Data) → length xs ≤ i → ArePrinted f P xs i written → AllByRecursion P xs
printed_valid f P xs i written past done =
    let P1 : List _ → Type 0 = λ z. AllByRecursion P z → AllByRecursion P xs in
    subst P1 (none_left xs i past) done.1 tt

---- Rows that are read

-- rows behind those that are read
unfoldable pub onto : {A : Type 0} → List A → Option (List A) → Option (List A)
onto front rest = option_map (λ rows. front ++ rows) rest

onto_none : {A : Type 0} (rest : Option (List A)) → onto [] rest ≡ rest
unfolding onto
onto_none None = refl
onto_none (Some rows) = refl

-- before the first
pub onto_first : {A : Type 0} (front : List A) (rest : Option (List A)) → front ≡ [] → onto front rest ≡ rest
onto_first front rest e = ap (λ z. onto z rest) e ∙ onto_none rest

onto_row : {A : Type 0} (front : List A) (row : A) (rest : Option (List A)) → onto front (option_map (λ rows. row ∷ rows) rest) ≡ onto (front ++ row ∷ []) rest
unfolding onto
onto_row front row None = refl
onto_row front row (Some rows) = ap (λ z. Some z) (sym (appended front row rows))

-- the items from a place on
behind : {A : Type 0} (form : Data → Result A LineFault) (vs : List JsonValue) (i : ℕ) (v : JsonValue) → i < length vs → v ≡ get_or vs i v → each_from form (items_view (drop i vs)) ≡ option_and_then (λ row. option_map (λ rows. row ∷ rows) (each_from form (items_view (drop (suc i) vs)))) (row_of (form (view v)))
unfolding each_from
behind form vs i v low is = ap (λ z. each_from form (items_view z)) (next vs i v low ∙ ap (λ z. z ∷ drop (suc i) vs) (sym is))

-- a row more is read
pub onto_next : {A : Type 0} (form : Data → Result A LineFault) (vs : List JsonValue) (i : ℕ) (v : JsonValue) (row : A) (front new : List A) → i < length vs → v ≡ get_or vs i v → form (view v) ≡ Ok row → new ≡ front ++ row ∷ []
    → onto front (each_from form (items_view (drop i vs))) ≡ each_from form (items_view vs) → onto new (each_from form (items_view (drop (i + 1) vs))) ≡ each_from form (items_view vs)
onto_next form vs i v row front new low is read pushed done =
    let one : i + 1 ≡ suc i = omega arith in
    let rest = each_from form (items_view (drop (suc i) vs)) in
    let front_is = behind form vs i v low is ∙ ap (λ r. option_and_then (λ row. option_map (λ rows. row ∷ rows) rest) (row_of r)) read in
    let Q : ℕ → Type 0 = λ n. onto new (each_from form (items_view (drop n vs))) ≡ each_from form (items_view vs) in
    subst Q (sym one) (ap (λ z. onto z rest) pushed ∙ sym (onto_row front row rest) ∙ sym (ap (onto front) front_is) ∙ done)

-- an item that is no row
onto_refused : {A : Type 0} (form : Data → Result A LineFault) (vs : List JsonValue) (i : ℕ) (v : JsonValue) (fault : LineFault) (front : List A) → i < length vs → v ≡ get_or vs i v → form (view v) ≡ Err fault
    → onto front (each_from form (items_view (drop i vs))) ≡ each_from form (items_view vs) → each_from form (items_view vs) ≡ None
unfolding onto
onto_refused form vs i v fault front low is refused done =
    let rest = each_from form (items_view (drop (suc i) vs)) in
    sym done ∙ ap (onto front) (behind form vs i v low is ∙ ap (λ r. option_and_then (λ row. option_map (λ rows. row ∷ rows) rest) (row_of r)) refused)

-- and makes the list's key bad, unless memory ran out
pub onto_bad : {A : Type 0} (form : Data → Result A LineFault) (vs : List JsonValue) (i : ℕ) (v : JsonValue) (key : Key) (fault answer : LineFault) (front : List A) → i < length vs → v ≡ get_or vs i v → Fails fault (form (view v)) → answer ≡ list_fault key fault
    → onto front (each_from form (items_view (drop i vs))) ≡ each_from form (items_view vs) → Fails answer (formed key (each_from form (items_view vs)))
onto_bad form vs i v key fault answer front low is fails listed done =
    let F : LineFault → Type 0 = λ f. Fails f (formed key (each_from form (items_view vs))) in
    subst F (sym listed) (by_fault fault fails)
  where
    bad : (f : LineFault) → form (view v) ≡ Err f → formed key (each_from form (items_view vs)) ≡ Err (LineFault.Bad key)
    bad f e = ap (formed key) (onto_refused form vs i v f front low is e done)

    by_fault : (f : LineFault) → Fails f (form (view v)) → Fails (list_fault key f) (formed key (each_from form (items_view vs)))
    by_fault LineFault.NoMemory e = tt
    by_fault LineFault.TooLong e = bad LineFault.TooLong e
    by_fault LineFault.NotJson e = bad LineFault.NotJson e
    by_fault LineFault.NotObject e = bad LineFault.NotObject e
    by_fault LineFault.NoKind e = bad LineFault.NoKind e
    by_fault (LineFault.Bad k) e = bad (LineFault.Bad k) e
    by_fault (LineFault.Missing k) e = bad (LineFault.Missing k) e

-- no item is left
pub onto_all : {A : Type 0} (form : Data → Result A LineFault) (vs : List JsonValue) (i : ℕ) (key : Key) (front : List A) → length vs ≤ i → onto front (each_from form (items_view (drop i vs))) ≡ each_from form (items_view vs) → formed key (each_from form (items_view vs)) ≡ Ok front
unfolding onto each_from
onto_all form vs i key front past done =
    ap (formed key) (sym done ∙ ap (λ z. onto front (each_from form (items_view z))) (none_left vs i past) ∙ ap (λ z. Some z) (with_none front))
