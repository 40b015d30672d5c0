-- The bookings as they are kept, each at the number of its record.
use Rattle.std.proofs.Common.{◌≡◌, ◌≢◌, ◌≤◌, ◌<◌, ◌+◌, ℕ, zero, suc, List, [], ◌∷◌, ◌++◌, Bool, true, false, cond, not, eqb, ltb, filter, length, take, set, get_or, replicate, Option, Some, None, arith, refl, sym, ap, ◌∙◌, subst}
use Rattle.std.proofs.lemmas.Bool.Decides.{nat_tests}
use Rattle.std.proofs.lemmas.List.{take_all, length-set}
use Rattle.capacity_calendar.specs.declared.booking.Booking.{Booking}
use Rattle.capacity_calendar.specs.Load.{others}
use Rattle.capacity_calendar.specs.Plan.{HasOneEach, booking_of, changed, placed}
use Rattle.capacity_calendar.specs.Kept.{present, IsNumbered}

-- No number is less.
abbrev NumbersFrom : ℕ → List Booking → Type 0
NumbersFrom j [] = Unit {0}
NumbersFrom j (b ∷ bs) = (j ≤ b.number) × NumbersFrom j bs

from_numbered : (i j : ℕ) (xs : List (Option Booking)) → j ≤ i → IsNumbered i xs → NumbersFrom j (present xs)
from_numbered i j [] le h = tt
from_numbered i j (None ∷ xs) le h = from_numbered (suc i) j xs (omega arith) h
from_numbered i j (Some b ∷ xs) le h = (omega (arith, le, h.0), from_numbered (suc i) j xs (omega arith) h.1)

none_below : (k j : ℕ) (bs : List Booking) → k < j → NumbersFrom j bs → booking_of k bs ≡ None
none_below k j [] lt h = refl
none_below k j (b ∷ bs) lt h = ap (λ c. cond c (Some b) (booking_of k bs)) (differ b.number k j lt h.0) ∙ none_below k j bs lt h.1
  where
    differ : (a k j : ℕ) → k < j → j ≤ a → eqb a k ≡ false
    differ a k j lt le = grind (arith, nat_tests)

keeps_all : (p : Booking → Bool) (j : ℕ) (bs : List Booking) → ((b : Booking) → j ≤ b.number → p b ≡ true) → NumbersFrom j bs → filter p bs ≡ bs
keeps_all p j [] keeps h = refl
keeps_all p j (b ∷ bs) keeps h = ap (λ c. cond c (b ∷ filter p bs) (filter p bs)) (keeps b h.0) ∙ ap (λ xs. b ∷ xs) (keeps_all p j bs keeps h.1)

drops_all : (p : Booking → Bool) (j : ℕ) (bs : List Booking) → ((b : Booking) → j ≤ b.number → p b ≡ false) → NumbersFrom j bs → filter p bs ≡ []
drops_all p j [] drops h = refl
drops_all p j (b ∷ bs) drops h = ap (λ c. cond c (b ∷ filter p bs) (filter p bs)) (drops b h.0) ∙ drops_all p j bs drops h.1

kept : (p : Booking → Bool) (b : Booking) (bs : List Booking) → p b ≡ true → filter p (b ∷ bs) ≡ b ∷ filter p bs
kept p b bs e = ap (λ c. cond c (b ∷ filter p bs) (filter p bs)) e

dropped : (p : Booking → Bool) (b : Booking) (bs : List Booking) → p b ≡ false → filter p (b ∷ bs) ≡ filter p bs
dropped p b bs e = ap (λ c. cond c (b ∷ filter p bs) (filter p bs)) e

is_less : (a b : ℕ) → a < b → ltb a b ≡ true
is_less a b h = grind (arith, nat_tests)

is_not_less : (a b : ℕ) → b ≤ a → ltb a b ≡ false
is_not_less a b h = grind (arith, nat_tests)

is_same : (a b : ℕ) → a ≡ b → eqb a b ≡ true
is_same a b h = grind (arith, nat_tests)

is_other : (a b : ℕ) → a ≢ b → eqb a b ≡ false
is_other a b h = grind (arith, nat_tests)

is_greater_other : (a b : ℕ) → b < a → not (eqb a b) ≡ true
is_greater_other a b h = ap not (is_other a b (λ e. absurd (omega (arith, e, h))))

-- a record's booking is the one at its number
found : (i k : ℕ) (xs : List (Option Booking)) → IsNumbered i xs → booking_of (i + k) (present xs) ≡ get_or xs k None
found i k [] h = refl
found i zero (None ∷ xs) h = none_below (i + 0) (suc i) (present xs) (omega arith) (from_numbered (suc i) (suc i) xs (omega arith) h)
found i zero (Some b ∷ xs) h = ap (λ c. cond c (Some b) (booking_of (i + 0) (present xs))) (is_same b.number (i + 0) (omega (arith, h.0)))
found i (suc k) (None ∷ xs) h =
    let moved : i + suc k ≡ suc i + k = omega arith in
    ap (λ n. booking_of n (present xs)) moved ∙ found (suc i) k xs h
found i (suc k) (Some b ∷ xs) h =
    let moved : i + suc k ≡ suc i + k = omega arith in
    ap (λ c. cond c (Some b) (booking_of (i + suc k) (present xs))) (is_other b.number (i + suc k) (λ e. absurd (omega (arith, e, h.0))))
    ∙ ap (λ n. booking_of n (present xs)) moved ∙ found (suc i) k xs h.1

-- each record has one booking at most
pub one_each_present : (i : ℕ) (xs : List (Option Booking)) → IsNumbered i xs → HasOneEach (present xs)
one_each_present i [] h = tt
one_each_present i (None ∷ xs) h = one_each_present (suc i) xs h
one_each_present i (Some b ∷ xs) h =
    (none_below b.number (suc i) (present xs) (omega (arith, h.0)) (from_numbered (suc i) (suc i) xs (omega arith) h.1), one_each_present (suc i) xs h.1)

-- empty places behind the others
numbered_nothing : (i n : ℕ) → IsNumbered i (replicate n None)
numbered_nothing i zero = tt
numbered_nothing i (suc n) = numbered_nothing (suc i) n

present_nothing : (n : ℕ) → present (replicate n None) ≡ []
present_nothing zero = refl
present_nothing (suc n) = present_nothing n

numbered_more : (i n : ℕ) (xs : List (Option Booking)) → IsNumbered i xs → IsNumbered i (xs ++ replicate n None)
numbered_more i n [] h = numbered_nothing i n
numbered_more i n (None ∷ xs) h = numbered_more (suc i) n xs h
numbered_more i n (Some b ∷ xs) h = (h.0, numbered_more (suc i) n xs h.1)

present_more : (n : ℕ) (xs : List (Option Booking)) → present (xs ++ replicate n None) ≡ present xs
present_more n [] = present_nothing n
present_more n (None ∷ xs) = present_more n xs
present_more n (Some b ∷ xs) = ap (λ bs. b ∷ bs) (present_more n xs)

pub resized : (n k : ℕ) (xs : List (Option Booking)) → length xs ≤ n → present (take n xs ++ replicate k None) ≡ present xs
resized n k xs le = ap (λ ys. present (ys ++ replicate k None)) (take_all n xs le) ∙ present_more k xs

pub numbered_resized : (n k : ℕ) (xs : List (Option Booking)) → length xs ≤ n → IsNumbered 0 xs → IsNumbered 0 (take n xs ++ replicate k None)
numbered_resized n k xs le h = subst (λ (ys : List (Option Booking)). IsNumbered 0 (ys ++ replicate k None)) (sym (take_all n xs le)) (numbered_more 0 k xs h)

-- a booking at the number of its record
numbered_set : (i k : ℕ) (xs : List (Option Booking)) (b : Booking) → b.number ≡ i + k → IsNumbered i xs → IsNumbered i (set xs k (Some b))
numbered_set i k [] b e h = tt
numbered_set i zero (None ∷ xs) b e h = (omega (arith, e), h)
numbered_set i zero (Some a ∷ xs) b e h = (omega (arith, e), h.1)
numbered_set i (suc k) (None ∷ xs) b e h = numbered_set (suc i) k xs b (omega (arith, e)) h
numbered_set i (suc k) (Some a ∷ xs) b e h = (h.0, numbered_set (suc i) k xs b (omega (arith, e)) h.1)

pub numbered_unset : (i k : ℕ) (xs : List (Option Booking)) → IsNumbered i xs → IsNumbered i (set xs k None)
numbered_unset i k [] h = tt
numbered_unset i zero (None ∷ xs) h = h
numbered_unset i zero (Some a ∷ xs) h = h.1
numbered_unset i (suc k) (None ∷ xs) h = numbered_unset (suc i) k xs h
numbered_unset i (suc k) (Some a ∷ xs) h = (h.0, numbered_unset (suc i) k xs h.1)

lesser : Booking → Booking → Bool
lesser b x = ltb x.number b.number

greater : Booking → Booking → Bool
greater b x = ltb b.number x.number

-- behind the place of a booking there are greater numbers alone
placed_first : (b : Booking) (bs : List Booking) → NumbersFrom (suc b.number) bs → b ∷ bs ≡ placed b bs
unfolding lesser greater
placed_first b bs h =
    sym (ap (λ xs. xs ++ b ∷ filter (greater b) bs) (drops_all (lesser b) (suc b.number) bs (λ x le. is_not_less x.number b.number (omega (arith, le))) h)
    ∙ ap (λ xs. b ∷ xs) (keeps_all (greater b) (suc b.number) bs (λ x le. is_less b.number x.number (omega (arith, le))) h))

placed_instead : (a b : Booking) (bs : List Booking) → a.number ≡ b.number → placed b (a ∷ bs) ≡ placed b bs
unfolding lesser greater
placed_instead a b bs e =
    ap (λ xs. xs ++ b ∷ filter (greater b) (a ∷ bs)) (dropped (lesser b) a bs (is_not_less a.number b.number (omega (arith, e))))
    ∙ ap (λ xs. filter (lesser b) bs ++ b ∷ xs) (dropped (greater b) a bs (is_not_less b.number a.number (omega (arith, e))))

placed_behind : (a b : Booking) (bs : List Booking) → a.number < b.number → placed b (a ∷ bs) ≡ a ∷ placed b bs
unfolding lesser greater
placed_behind a b bs lt =
    ap (λ xs. xs ++ b ∷ filter (greater b) (a ∷ bs)) (kept (lesser b) a bs (is_less a.number b.number lt))
    ∙ ap (λ xs. a ∷ (filter (lesser b) bs ++ b ∷ xs)) (dropped (greater b) a bs (is_not_less b.number a.number (omega arith)))

present_set : (i k : ℕ) (xs : List (Option Booking)) (b : Booking) → b.number ≡ i + k → k < length xs → IsNumbered i xs → present (set xs k (Some b)) ≡ placed b (present xs)
present_set i k [] b e lt h = absurd (omega arith)
present_set i zero (None ∷ xs) b e lt h = placed_first b (present xs) (from_numbered (suc i) (suc b.number) xs (omega (arith, e)) h)
present_set i zero (Some a ∷ xs) b e lt h =
    placed_first b (present xs) (from_numbered (suc i) (suc b.number) xs (omega (arith, e)) h.1) ∙ sym (placed_instead a b (present xs) (omega (arith, e, h.0)))
present_set i (suc k) (None ∷ xs) b e lt h = present_set (suc i) k xs b (omega (arith, e)) (omega arith) h
present_set i (suc k) (Some a ∷ xs) b e lt h =
    ap (λ bs. a ∷ bs) (present_set (suc i) k xs b (omega (arith, e)) (omega arith) h.1) ∙ sym (placed_behind a b (present xs) (omega (arith, e, h.0)))

-- an empty place at the number of a record
other_than : ℕ → Booking → Bool
other_than n x = not (eqb x.number n)

present_unset : (i k : ℕ) (xs : List (Option Booking)) → IsNumbered i xs → present (set xs k None) ≡ others (i + k) (present xs)
unfolding other_than
present_unset i k [] h = refl
present_unset i zero (None ∷ xs) h =
    sym (keeps_all (other_than (i + 0)) (suc i) (present xs) (λ x le. is_greater_other x.number (i + 0) (omega (arith, le))) (from_numbered (suc i) (suc i) xs (omega arith) h))
present_unset i zero (Some a ∷ xs) h =
    sym (dropped (other_than (i + 0)) a (present xs) (ap not (is_same a.number (i + 0) (omega (arith, h.0))))
    ∙ keeps_all (other_than (i + 0)) (suc i) (present xs) (λ x le. is_greater_other x.number (i + 0) (omega (arith, le))) (from_numbered (suc i) (suc i) xs (omega arith) h.1))
present_unset i (suc k) (None ∷ xs) h =
    let moved : suc i + k ≡ i + suc k = omega arith in
    present_unset (suc i) k xs h ∙ ap (λ n. others n (present xs)) moved
present_unset i (suc k) (Some a ∷ xs) h =
    let moved : suc i + k ≡ i + suc k = omega arith in
    ap (λ bs. a ∷ bs) (present_unset (suc i) k xs h.1 ∙ ap (λ n. others n (present xs)) moved)
    ∙ sym (kept (other_than (i + suc k)) a (present xs) (ap not (is_other a.number (i + suc k) (λ e. absurd (omega (arith, e, h.0))))))

-- where a record has no booking there is none to change
changed_none : (n : ℕ) (g : Booking → Booking) (bs : List Booking) → booking_of n bs ≡ None → changed n g bs ≡ bs
changed_none n g [] h = refl
changed_none n g (b ∷ bs) h = by_test (eqb b.number n) h (changed_none n g bs)
  where
    by_test : (c : Bool) → cond c (Some b) (booking_of n bs) ≡ None → (booking_of n bs ≡ None → changed n g bs ≡ bs) → cond c (g b) b ∷ changed n g bs ≡ b ∷ bs
    by_test true e next = absurd (cc)
    by_test false e next = ap (λ xs. b ∷ xs) (next e)

same_some : {X : Type 0} (x y : X) → Some x ≡ Some y → x ≡ y
same_some x y h = cc

-- a record's booking changed at its place
present_changed : (i k : ℕ) (g : Booking → Booking) (xs : List (Option Booking)) (b : Booking) → get_or xs k None ≡ Some b → IsNumbered i xs → present (set xs k (Some (g b))) ≡ changed (i + k) g (present xs)
present_changed i k g [] b e h = absurd (let none : None ≡ Some b = e in cc)
present_changed i zero g (None ∷ xs) b e h = absurd (let none : None ≡ Some b = e in cc)
present_changed i zero g (Some a ∷ xs) b e h =
    let is : a ≡ b = same_some a b e in
    let rest : changed (i + 0) g (present xs) ≡ present xs = changed_none (i + 0) g (present xs) (none_below (i + 0) (suc i) (present xs) (omega arith) (from_numbered (suc i) (suc i) xs (omega arith) h.1)) in
    ap (λ x. g x ∷ present xs) (sym is) ∙ ap (λ bs. g a ∷ bs) (sym rest) ∙ sym (ap (λ c. cond c (g a) a ∷ changed (i + 0) g (present xs)) (is_same a.number (i + 0) (omega (arith, h.0))))
present_changed i (suc k) g (None ∷ xs) b e h =
    let moved : suc i + k ≡ i + suc k = omega arith in
    present_changed (suc i) k g xs b e h ∙ ap (λ n. changed n g (present xs)) moved
present_changed i (suc k) g (Some a ∷ xs) b e h =
    let moved : suc i + k ≡ i + suc k = omega arith in
    ap (λ bs. a ∷ bs) (present_changed (suc i) k g xs b e h.1 ∙ ap (λ n. changed n g (present xs)) moved)
    ∙ sym (ap (λ c. cond c (g a) a ∷ changed (i + suc k) g (present xs)) (is_other a.number (i + suc k) (λ d. absurd (omega (arith, d, h.0)))))

number_at : (i k : ℕ) (xs : List (Option Booking)) (b : Booking) → get_or xs k None ≡ Some b → IsNumbered i xs → b.number ≡ i + k
number_at i k [] b e h = absurd (let none : None ≡ Some b = e in cc)
number_at i zero (None ∷ xs) b e h = absurd (let none : None ≡ Some b = e in cc)
number_at i zero (Some a ∷ xs) b e h = let is : a ≡ b = same_some a b e in omega (arith, h.0, ap (λ x. x.number) is)
number_at i (suc k) (None ∷ xs) b e h = omega (arith, number_at (suc i) k xs b e h)
number_at i (suc k) (Some a ∷ xs) b e h = omega (arith, number_at (suc i) k xs b e h.1)

-- the same, where the first place has the number 0
from_zero : (k : ℕ) → 0 + k ≡ k
from_zero k = omega arith

pub found_at : (k : ℕ) (xs : List (Option Booking)) → IsNumbered 0 xs → booking_of k (present xs) ≡ get_or xs k None
found_at k xs h = ap (λ n. booking_of n (present xs)) (sym (from_zero k)) ∙ found 0 k xs h

pub placed_at : (k : ℕ) (xs : List (Option Booking)) (b : Booking) → b.number ≡ k → k < length xs → IsNumbered 0 xs → present (set xs k (Some b)) ≡ placed b (present xs)
placed_at k xs b e lt h = present_set 0 k xs b (e ∙ sym (from_zero k)) lt h

pub numbered_at : (k : ℕ) (xs : List (Option Booking)) (b : Booking) → b.number ≡ k → IsNumbered 0 xs → IsNumbered 0 (set xs k (Some b))
numbered_at k xs b e h = numbered_set 0 k xs b (e ∙ sym (from_zero k)) h

pub emptied_at : (k : ℕ) (xs : List (Option Booking)) → IsNumbered 0 xs → present (set xs k None) ≡ others k (present xs)
emptied_at k xs h = present_unset 0 k xs h ∙ ap (λ n. others n (present xs)) (from_zero k)

pub changed_at : (k : ℕ) (g : Booking → Booking) (xs : List (Option Booking)) (b : Booking) → get_or xs k None ≡ Some b → IsNumbered 0 xs → present (set xs k (Some (g b))) ≡ changed k g (present xs)
changed_at k g xs b e h = present_changed 0 k g xs b e h ∙ ap (λ n. changed n g (present xs)) (from_zero k)

pub numbered_changed : (k : ℕ) (g : Booking → Booking) (xs : List (Option Booking)) (b : Booking) → (g b).number ≡ b.number → get_or xs k None ≡ Some b → IsNumbered 0 xs → IsNumbered 0 (set xs k (Some (g b)))
numbered_changed k g xs b keeps e h = numbered_set 0 k xs (g b) (keeps ∙ number_at 0 k xs b e h) h

pub unchanged_at : (k : ℕ) (g : Booking → Booking) (xs : List (Option Booking)) → get_or xs k None ≡ None → IsNumbered 0 xs → changed k g (present xs) ≡ present xs
unchanged_at k g xs e h = changed_none k g (present xs) (found_at k xs h ∙ e)

-- no more are there than there are places
pub present_fewer : (xs : List (Option Booking)) → length (present xs) ≤ length xs
present_fewer [] = omega arith
present_fewer (None ∷ xs) = omega (arith, present_fewer xs)
present_fewer (Some b ∷ xs) = omega (arith, present_fewer xs)

-- nor does a place that is set add one
pub set_few : (xs : List (Option Booking)) (k m : ℕ) (o : Option Booking) → length xs ≤ m → length (set xs k o) ≤ m
set_few xs k m o h = omega (arith, h, length-set xs k o)
