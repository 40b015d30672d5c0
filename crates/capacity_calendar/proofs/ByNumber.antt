-- The bookings as a map from numbers of records.
use Rattle.std.proofs.Common.{◌≡◌, ◌≢◌, ◌<◌, ℕ, ◌⊎◌, inl, inr, List, [], ◌∷◌, ◌++◌, Bool, true, false, cond, not, eqb, ltb, filter, Option, Some, None, option_map, arith, refl, sym, ap, ◌∙◌, subst}
use Rattle.std.proofs.lemmas.Bool.Decides.{nat_tests}
use Rattle.capacity_calendar.specs.declared.booking.Booking.{Booking}
use Rattle.capacity_calendar.specs.declared.booking.Slot.{Slot}
use Rattle.capacity_calendar.specs.Load.{others}
use Rattle.capacity_calendar.specs.Lack.{or_else}
use Rattle.capacity_calendar.specs.Plan.{HasNoneFrom, booking_of, committed_of, placed, changed, pending_set, with_pending, settled}
use Rattle.capacity_calendar.proofs.Sound.{KeepsNumber}

-- among the others a record has no booking
pub booking_of-others_same : (number : ℕ) (bs : List Booking) → booking_of number (others number bs) ≡ None
booking_of-others_same number [] = refl
booking_of-others_same number (b ∷ bs) = by_test (eqb b.number number) refl (booking_of-others_same number bs)
  where
    by_test : (c : Bool) → eqb b.number number ≡ c → booking_of number (others number bs) ≡ None → booking_of number (cond (not c) (b ∷ others number bs) (others number bs)) ≡ None
    by_test true e h = h
    by_test false e h = ap (λ c. cond c (Some b) (booking_of number (others number bs))) e ∙ h

differ : (a n number : ℕ) → eqb a number ≡ true → n ≢ number → eqb a n ≡ false
differ a n number h d = grind (arith, nat_tests)

-- another record has the booking that it had
pub booking_of-others_other : (n number : ℕ) (bs : List Booking) → n ≢ number → booking_of n (others number bs) ≡ booking_of n bs
booking_of-others_other n number [] d = refl
booking_of-others_other n number (b ∷ bs) d = by_test (eqb b.number number) refl (booking_of-others_other n number bs d)
  where
    by_test : (c : Bool) → eqb b.number number ≡ c → booking_of n (others number bs) ≡ booking_of n bs → booking_of n (cond (not c) (b ∷ others number bs) (others number bs)) ≡ booking_of n (b ∷ bs)
    by_test true e h = h ∙ sym (ap (λ c. cond c (Some b) (booking_of n bs)) (differ b.number n number e d))
    by_test false e h = ap (cond (eqb b.number n) (Some b)) h

-- the record's booking is the changed one
pub booking_of-changed_same : (number : ℕ) (g : Booking → Booking) → KeepsNumber g → (bs : List Booking) → booking_of number (changed number g bs) ≡ option_map g (booking_of number bs)
booking_of-changed_same number g k [] = refl
booking_of-changed_same number g k (b ∷ bs) = by_test (eqb b.number number) refl (booking_of-changed_same number g k bs)
  where
    by_test : (c : Bool) → eqb b.number number ≡ c → booking_of number (changed number g bs) ≡ option_map g (booking_of number bs)
        → cond (eqb (cond c (g b) b).number number) (Some (cond c (g b) b)) (booking_of number (changed number g bs)) ≡ option_map g (cond c (Some b) (booking_of number bs))
    by_test true e h = ap (λ c. cond c (Some (g b)) (booking_of number (changed number g bs))) (ap (λ m. eqb m number) (k b) ∙ e)
    by_test false e h = ap (λ c. cond c (Some b) (booking_of number (changed number g bs))) e ∙ h

-- another's is as it was
pub booking_of-changed_other : (n number : ℕ) (g : Booking → Booking) → KeepsNumber g → (bs : List Booking) → n ≢ number → booking_of n (changed number g bs) ≡ booking_of n bs
booking_of-changed_other n number g k [] d = refl
booking_of-changed_other n number g k (b ∷ bs) d = by_test (eqb b.number number) refl (booking_of-changed_other n number g k bs d)
  where
    by_test : (c : Bool) → eqb b.number number ≡ c → booking_of n (changed number g bs) ≡ booking_of n bs
        → cond (eqb (cond c (g b) b).number n) (Some (cond c (g b) b)) (booking_of n (changed number g bs)) ≡ booking_of n (b ∷ bs)
    by_test true e h =
        ap (λ c. cond c (Some (g b)) (booking_of n (changed number g bs))) (ap (λ m. eqb m n) (k b) ∙ differ b.number n number e d) ∙ h
        ∙ sym (ap (λ c. cond c (Some b) (booking_of n bs)) (differ b.number n number e d))
    by_test false e h = ap (cond (eqb b.number n) (Some b)) h

same_is : (n : ℕ) → eqb n n ≡ true
same_is n = grind (arith, nat_tests)

apart : (n number : ℕ) → n ≢ number → eqb number n ≡ false
apart n number d = grind (arith, nat_tests)

-- a booking that a filter keeps is found, and one that it drops isn't
kept_by : (k : ℕ) (p : Booking → Bool) (bs : List Booking) → ((b : Booking) → eqb b.number k ≡ true → p b ≡ true) → booking_of k (filter p bs) ≡ booking_of k bs
kept_by k p [] keeps = refl
kept_by k p (b ∷ bs) keeps = by_tests (p b) refl (eqb b.number k) refl (kept_by k p bs keeps)
  where
    by_tests : (d : Bool) → p b ≡ d → (c : Bool) → eqb b.number k ≡ c → booking_of k (filter p bs) ≡ booking_of k bs → booking_of k (cond d (b ∷ filter p bs) (filter p bs)) ≡ cond c (Some b) (booking_of k bs)
    by_tests true q c e h = ap (λ x. cond x (Some b) (booking_of k (filter p bs))) e ∙ ap (cond c (Some b)) h
    by_tests false q true e h = absurd (let t = keeps b e in cc)
    by_tests false q false e h = h

dropped_by : (k : ℕ) (p : Booking → Bool) (bs : List Booking) → ((b : Booking) → eqb b.number k ≡ true → p b ≡ false) → booking_of k (filter p bs) ≡ None
dropped_by k p [] drops = refl
dropped_by k p (b ∷ bs) drops = by_tests (p b) refl (eqb b.number k) refl (dropped_by k p bs drops)
  where
    by_tests : (d : Bool) → p b ≡ d → (c : Bool) → eqb b.number k ≡ c → booking_of k (filter p bs) ≡ None → booking_of k (cond d (b ∷ filter p bs) (filter p bs)) ≡ None
    by_tests false q c e h = h
    by_tests true q true e h = absurd (let t = drops b e in cc)
    by_tests true q false e h = ap (λ x. cond x (Some b) (booking_of k (filter p bs))) e ∙ h

joined : (k : ℕ) (xs ys : List Booking) → booking_of k (xs ++ ys) ≡ or_else (booking_of k xs) (booking_of k ys)
joined k [] ys = refl
joined k (x ∷ xs) ys = by_test (eqb x.number k) (joined k xs ys)
  where
    by_test : (c : Bool) → booking_of k (xs ++ ys) ≡ or_else (booking_of k xs) (booking_of k ys) → cond c (Some x) (booking_of k (xs ++ ys)) ≡ or_else (cond c (Some x) (booking_of k xs)) (booking_of k ys)
    by_test true h = refl
    by_test false h = h

alone : {X : Type 0} (o : Option X) → or_else o None ≡ o
alone None = refl
alone (Some x) = refl

-- a booking that is placed: of its record
pub booking_of-placed_same : (b : Booking) (bs : List Booking) → booking_of b.number (placed b bs) ≡ Some b
booking_of-placed_same b bs =
    joined b.number (filter (λ x. ltb x.number b.number) bs) (b ∷ filter (λ x. ltb b.number x.number) bs)
    ∙ ap (λ o. or_else o (booking_of b.number (b ∷ filter (λ x. ltb b.number x.number) bs))) (dropped_by b.number (λ x. ltb x.number b.number) bs (λ x e. not_less x.number b.number e))
    ∙ ap (λ c. cond c (Some b) (booking_of b.number (filter (λ x. ltb b.number x.number) bs))) (same_is b.number)
  where
    not_less : (a n : ℕ) → eqb a n ≡ true → ltb a n ≡ false
    not_less a n e = grind (arith, nat_tests)

less_or_greater : (k n : ℕ) → k ≢ n → (k < n) ⊎ (n < k)
less_or_greater k n d = grind arith

-- and of another
pub booking_of-placed_other : (k : ℕ) (b : Booking) (bs : List Booking) → k ≢ b.number → booking_of k (placed b bs) ≡ booking_of k bs
booking_of-placed_other k b bs d = joined k below (b ∷ above) ∙ ap (or_else (booking_of k below)) (ap (λ c. cond c (Some b) (booking_of k above)) (apart k b.number d)) ∙ by_order (less_or_greater k b.number d)
  where
    below : List Booking
    below = filter (λ x. ltb x.number b.number) bs

    above : List Booking
    above = filter (λ x. ltb b.number x.number) bs

    is_less : (a n m : ℕ) → eqb a n ≡ true → n < m → ltb a m ≡ true
    is_less a n m e lt = grind (arith, nat_tests)

    isnt_less : (a n m : ℕ) → eqb a n ≡ true → m < n → ltb a m ≡ false
    isnt_less a n m e lt = grind (arith, nat_tests)

    is_greater : (a n m : ℕ) → eqb a n ≡ true → m < n → ltb m a ≡ true
    is_greater a n m e lt = grind (arith, nat_tests)

    isnt_greater : (a n m : ℕ) → eqb a n ≡ true → n < m → ltb m a ≡ false
    isnt_greater a n m e lt = grind (arith, nat_tests)

    by_order : (k < b.number) ⊎ (b.number < k) → or_else (booking_of k (filter (λ x. ltb x.number b.number) bs)) (booking_of k (filter (λ x. ltb b.number x.number) bs)) ≡ booking_of k bs
    by_order (inl lt) =
        ap (or_else (booking_of k (filter (λ x. ltb x.number b.number) bs))) (dropped_by k (λ x. ltb b.number x.number) bs (λ x e. isnt_greater x.number k b.number e lt))
        ∙ alone (booking_of k (filter (λ x. ltb x.number b.number) bs)) ∙ kept_by k (λ x. ltb x.number b.number) bs (λ x e. is_less x.number k b.number e lt)
    by_order (inr gt) =
        ap (λ o. or_else o (booking_of k (filter (λ x. ltb b.number x.number) bs))) (dropped_by k (λ x. ltb x.number b.number) bs (λ x e. isnt_less x.number k b.number e gt))
        ∙ kept_by k (λ x. ltb b.number x.number) bs (λ x e. is_greater x.number k b.number e gt)

-- a slot more: of the record
pub booking_of-with_pending_same : (number : ℕ) (slot : Slot) (bs : List Booking) → booking_of number (with_pending number slot bs) ≡ Some (record { number = number; committed = committed_of number bs; pending = Some slot })
booking_of-with_pending_same number slot bs = booking_of-placed_same (record { number = number; committed = committed_of number bs; pending = Some slot }) bs

-- and of another
pub booking_of-with_pending_other : (n number : ℕ) (slot : Slot) (bs : List Booking) → n ≢ number → booking_of n (with_pending number slot bs) ≡ booking_of n bs
booking_of-with_pending_other n number slot bs d = booking_of-placed_other n (record { number = number; committed = committed_of number bs; pending = Some slot }) bs d

other_than : (n k : ℕ) → (n ≡ k) ⊎ (n ≢ k)
other_than n k = grind arith

-- Numbers stay below a number: where a booking is taken out,
pub none_from_others : (n number : ℕ) (bs : List Booking) → HasNoneFrom n bs → HasNoneFrom n (others number bs)
none_from_others n number bs h k le = elim (other_than k number) [
  | inl e ↦ subst (λ (x : ℕ). booking_of x (others number bs) ≡ None) (sym e) (booking_of-others_same number bs)
  | inr d ↦ booking_of-others_other k number bs d ∙ h k le
]

-- where one is changed,
pub none_from_changed : (n number : ℕ) (g : Booking → Booking) → KeepsNumber g → (bs : List Booking) → HasNoneFrom n bs → HasNoneFrom n (changed number g bs)
none_from_changed n number g keeps bs h k le = elim (other_than k number) [
  | inl e ↦
      let P : ℕ → Type 0 = λ x. booking_of x (changed number g bs) ≡ None in
      subst P (sym e) (booking_of-changed_same number g keeps bs ∙ ap (λ m. option_map g (booking_of m bs)) (sym e) ∙ ap (option_map g) (h k le))
  | inr d ↦ booking_of-changed_other k number g keeps bs d ∙ h k le
]

-- where a slot is committed,
pub none_from_settled : (n number : ℕ) (bs : List Booking) → HasNoneFrom n bs → HasNoneFrom n (settled number bs)
none_from_settled n number bs = none_from_changed n number (λ b. record b { committed = b.pending; pending = None }) (λ b. refl) bs

-- where a pending slot is set or taken,
pub none_from_pending_set : (n number : ℕ) (slot : Option Slot) (bs : List Booking) → HasNoneFrom n bs → HasNoneFrom n (pending_set number slot bs)
none_from_pending_set n number slot bs = none_from_changed n number (λ b. record b { pending = slot }) (λ b. refl) bs

-- and where a record below it books.
pub none_from_with_pending : (n number : ℕ) (slot : Slot) (bs : List Booking) → number < n → HasNoneFrom n bs → HasNoneFrom n (with_pending number slot bs)
none_from_with_pending n number slot bs lt h k le = booking_of-with_pending_other k number slot bs (λ e. absurd (omega (arith, e, lt, le))) ∙ h k le
