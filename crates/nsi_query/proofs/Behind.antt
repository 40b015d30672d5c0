-- What one more makes of the rows of an answer.
use Rattle.std.proofs.Common.{◌≡◌, ◌<◌, ◌+◌, ℕ, Bool, true, false, cond, ◌||◌, List, [], ◌∷◌, ◌++◌, take, length, map, filter, get_or, nat_lt, sym, ap, ◌∙◌, arith, length-append, append_assoc, append-nil}
use Rattle.std.specs.List.{list_any, flat_map, zip}
use Rattle.std.proofs.lemmas.List.{take-append-le, take_more, map-append, flat_map_more}
use Rattle.std.proofs.lemmas.List.Elements.{filter-append}
use Rattle.std.proofs.lemmas.List.Folds.{list_any-append}
use Rattle.std.proofs.lemmas.Slice.Zip.{length-zip, get_or-zip}
use Rattle.std.proofs.lemmas.Bool.Decides.{nat_tests}
use Rattle.std.proofs.Math.Bool.{or_assoc, or-false}
use Rattle.nsi_primitive.specs.declared.message.RecursiveRow.{RecursiveRow}
use Rattle.nsi_query.specs.declared.rows.Rows.{Rows}
use Rattle.nsi_query.specs.Cut.{cut, cut_beside, most_nested, most_summaries}
use Rattle.nsi_query.specs.Summary.{Shown, summary_row, is_of, summary}
use Rattle.nsi_query.specs.Nested.{below, can_go_deeper, deepened, deeper, is_deepest, reach_too_deep, lacks_rows, nest}

-- the next of a list is put behind the first ones
pub next_of : {A : Type 0} (xs : List A) (i : ℕ) (x : A) → i < length xs → x ≡ get_or xs i x → take (i + 1) xs ≡ take i xs ++ x ∷ []
next_of xs i x lt e = take_more xs i x lt ∙ ap (λ y. take i xs ++ y ∷ []) (sym e)

---- What passes a test

pub passes : {A : Type 0} (p : A → Bool) (xs : List A) (x : A) → p x ≡ true → filter p (xs ++ x ∷ []) ≡ filter p xs ++ x ∷ []
passes p xs x e = filter-append p xs (x ∷ []) ∙ ap (λ b. filter p xs ++ cond b (x ∷ []) []) e

pub is_refused : {A : Type 0} (p : A → Bool) (xs : List A) (x : A) → p x ≡ false → filter p (xs ++ x ∷ []) ≡ filter p xs
is_refused p xs x e = filter-append p xs (x ∷ []) ∙ ap (λ b. filter p xs ++ cond b (x ∷ []) []) e ∙ append-nil (filter p xs)

-- the next of a list, where it passes
pub kept : {A : Type 0} (p : A → Bool) (xs : List A) (i : ℕ) (x : A) → i < length xs → x ≡ get_or xs i x → p x ≡ true → filter p (take (i + 1) xs) ≡ filter p (take i xs) ++ x ∷ []
kept p xs i x lt is e = ap (filter p) (next_of xs i x lt is) ∙ passes p (take i xs) x e

-- and where it doesn't
pub left : {A : Type 0} (p : A → Bool) (xs : List A) (i : ℕ) (x : A) → i < length xs → x ≡ get_or xs i x → p x ≡ false → filter p (take (i + 1) xs) ≡ filter p (take i xs)
left p xs i x lt is e = ap (filter p) (next_of xs i x lt is) ∙ is_refused p (take i xs) x e

---- The connections of an owner

-- where some are left out already, more don't change what is told
pub full : {A : Type 0} (most : ℕ) (all others : List A) → nat_lt most (length all) ≡ true → cut most (all ++ others) ≡ cut most all
full most all others e =
    let long : most < length all = grind (arith, nat_tests) in
    let n = length-append all others in
    let now : nat_lt most (length (all ++ others)) ≡ true = is_less most (length (all ++ others)) (omega (arith, long, n)) in
    rw (take-append-le most all others (omega (arith, long)), now, e)
  where
    is_less : (m n : ℕ) → m < n → nat_lt m n ≡ true
    is_less m n lt = grind (arith, nat_tests)

pub own_more : (owner : List ℕ) (before : List Shown) (x : Shown) → is_of owner x ≡ true → cut most_summaries (map summary_row (filter (is_of owner) before) ++ summary_row x ∷ []) ≡ summary owner (before ++ x ∷ [])
own_more owner before x e =
    sym (ap (λ l. cut most_summaries (map summary_row l)) (passes (is_of owner) before x e) ∙ ap (cut most_summaries) (map-append summary_row (filter (is_of owner) before) (x ∷ [])))

pub others_more : (owner : List ℕ) (before : List Shown) (x : Shown) → is_of owner x ≡ false → summary owner (before ++ x ∷ []) ≡ summary owner before
others_more owner before x e = ap (λ l. cut most_summaries (map summary_row l)) (is_refused (is_of owner) before x e)

pub none_more : (owner : List ℕ) (before : List Shown) (x : Shown) → (summary owner before).more ≡ true → summary owner (before ++ x ∷ []) ≡ summary owner before
none_more owner before x e =
    ap (λ l. cut most_summaries (map summary_row l)) (filter-append (is_of owner) before (x ∷ []))
    ∙ ap (cut most_summaries) (map-append summary_row (filter (is_of owner) before) (filter (is_of owner) (x ∷ [])))
    ∙ full most_summaries (map summary_row (filter (is_of owner) before)) (map summary_row (filter (is_of owner) (x ∷ []))) e

pub next_pair : {A B : Type 0} (xs : List A) (ys : List B) (i : ℕ) (x : A) (y : B) → length xs ≡ length ys → i < length xs → x ≡ get_or xs i x → y ≡ get_or ys i y → take (i + 1) (zip xs ys) ≡ take i (zip xs ys) ++ (x, y) ∷ []
next_pair xs ys i x y same lt ex ey =
    let long = length-zip xs ys in
    take_more (zip xs ys) i (x, y) (omega (arith, long, same, lt))
    ∙ ap (λ p. take i (zip xs ys) ++ p ∷ []) (get_or-zip xs ys i (x, y) lt (omega (arith, same, lt)))
    ∙ ap (λ a. take i (zip xs ys) ++ (a, get_or ys i y) ∷ []) (sym ex)
    ∙ ap (λ b. take i (zip xs ys) ++ (x, b) ∷ []) (sym ey)

---- A connection and those below it

abbrev beside : Bool → List RecursiveRow → Rows RecursiveRow
beside missing all = cut_beside missing most_nested all

deepened_append : (xs ys : List RecursiveRow) → deepened (xs ++ ys) ≡ deepened xs ++ deepened ys
deepened_append xs ys = ap (map deeper) (filter-append can_go_deeper xs ys) ∙ map-append deeper (filter can_go_deeper xs) (filter can_go_deeper ys)

-- what is missing, of the rows so far and of one more
missing_more : (missing more : Bool) (rows : List RecursiveRow) (row : RecursiveRow) → ((missing || (more || reach_too_deep rows)) || reach_too_deep (row ∷ [])) ≡ (missing || (more || reach_too_deep (rows ++ row ∷ [])))
missing_more missing more rows row =
    or_assoc missing (more || reach_too_deep rows) (reach_too_deep (row ∷ []))
    ∙ ap (λ b. missing || b) (or_assoc more (reach_too_deep rows) (reach_too_deep (row ∷ [])))
    ∙ ap (λ b. missing || (more || b)) (sym (list_any-append is_deepest rows (row ∷ [])))

rows_more : (all rows : List RecursiveRow) (row : RecursiveRow) → (all ++ deepened rows) ++ deepened (row ∷ []) ≡ all ++ deepened (rows ++ row ∷ [])
rows_more all rows row =
    append_assoc all (deepened rows) (deepened (row ∷ [])) ∙ ap (λ l. all ++ l) (sym (deepened_append rows (row ∷ [])))

-- a child's row more
pub deeper_more : (missing more : Bool) (all rows : List RecursiveRow) (i : ℕ) (row : RecursiveRow) → i < length rows → row ≡ get_or rows i row → beside ((missing || (more || reach_too_deep (take i rows))) || reach_too_deep (row ∷ [])) ((all ++ deepened (take i rows)) ++ deepened (row ∷ [])) ≡ beside (missing || (more || reach_too_deep (take (i + 1) rows))) (all ++ deepened (take (i + 1) rows))
deeper_more missing more all rows i row lt e =
    ap (λ b. beside b ((all ++ deepened (take i rows)) ++ deepened (row ∷ []))) (missing_more missing more (take i rows) row)
    ∙ ap (λ l. beside (missing || (more || reach_too_deep (take i rows ++ row ∷ []))) l) (rows_more all (take i rows) row)
    ∙ ap (λ rs. beside (missing || (more || reach_too_deep rs)) (all ++ deepened rs)) (sym (next_of rows i row lt e))

-- a child more
pub child_more : (own : RecursiveRow) (children : List (Rows RecursiveRow)) (i : ℕ) (child : Rows RecursiveRow) → i < length children → child ≡ get_or children i child → beside (list_any lacks_rows (take i children) || lacks_rows child) ((own ∷ flat_map below (take i children)) ++ below child) ≡ nest own (take (i + 1) children)
child_more own children i child lt e =
    ap (λ b. beside (list_any lacks_rows (take i children) || b) ((own ∷ flat_map below (take i children)) ++ below child)) (sym (or-false (lacks_rows child)))
    ∙ ap (λ b. beside b ((own ∷ flat_map below (take i children)) ++ below child)) (sym (list_any-append lacks_rows (take i children) (child ∷ [])))
    ∙ ap (λ l. beside (list_any lacks_rows (take i children ++ child ∷ [])) l) (flat_map_more below (own ∷ []) (take i children) child)
    ∙ ap (λ cs. nest own cs) (sym (next_of children i child lt e))
