-- Messages under rising numbers.
use Rattle.std.proofs.Common.{◌≡◌, ℕ, ◌+◌, ◌<◌, List, [], ◌∷◌, ◌++◌, Bool, true, false, ◌||◌, cond, length, All, Option, Some, None, sym, ◌∙◌, refl, ap, subst, arith, is_some, IsSome, IfSome, IfNone, ◌↔◌}
use Rattle.std.specs.Ordering.{nat_cmp, match_ordering}
use Rattle.std.specs.declared.cmp.Ordering.{Ordering}
use Rattle.std.specs.List.{list_any}
use Rattle.std.specs.Option.{option_map}
use Rattle.std.specs.List.Sorted.{IsStrictlySortedBy}
use Rattle.std.specs.BTreeMap.{insert_entry, is_at}
use Rattle.std.specs.Map.{keys_of, values_of, remove_entry}
use Rattle.std.proofs.lemmas.List.Elements.{All-cons, All-head, All-tail}
use Rattle.std.proofs.lemmas.Bool.{false≢true}
use Rattle.std.proofs.lemmas.List.{append_assoc, length_push, map_push, same_from_push}
use Rattle.std.proofs.lemmas.Map.Keys.{sorted_tail}
use Rattle.std.proofs.lemmas.Map.Views.{All-after_first}
use Rattle.nsi_primitive.specs.Messages.{identity}
use Rattle.nsi_primitive.specs.declared.message.Identity.{Identity}
use Rattle.nsi_primitive.specs.declared.message.Message.{Message}
use Rattle.message_retry.specs.Retry.{is_same_identity, is_waiting, without}
use Rattle.message_retry.specs.Numbered.{first_number}

-- a message under a number above the others comes last
pub put_behind : (n : ℕ) (m : Message) (es : List (ℕ × Message)) → All (λ k. k < n) (keys_of es) → insert_entry nat_cmp es n m ≡ es ++ (n, m) ∷ []
put_behind n m [] all = refl
put_behind n m (e ∷ es) all =
    by (nat_cmp n e.0) (above n e.0 (All-head (λ k. k < n) e.0 (keys_of es) all)) (put_behind n m es (All-tail (λ k. k < n) e.0 (keys_of es) all))
  where
    above : (n k : ℕ) → k < n → nat_cmp n k ≡ Ordering.Greater
    above n k lt = grind (arith, lt)

    by : (o : Ordering) → o ≡ Ordering.Greater → insert_entry nat_cmp es n m ≡ es ++ (n, m) ∷ []
        → match_ordering o ((n, m) ∷ e ∷ es) ((e.0, m) ∷ es) (e ∷ insert_entry nat_cmp es n m) ≡ (e ∷ es) ++ (n, m) ∷ []
    by Ordering.Greater is rest = ap (λ es. e ∷ es) rest
    by Ordering.Equal is rest = absurd (cc)
    by Ordering.Less is rest = absurd (cc)

-- what is found is there whatever is kept of it
pub still_some : {A B : Type 0} (f : A → B) (o : Option A) → is_some o ≡ is_some (option_map f o)
still_some f None = refl
still_some f (Some a) = refl

-- a message waits where it has a number
pub waits : (i : Identity) (es : List (ℕ × Message)) → is_some (first_number i es) ≡ is_waiting i (values_of es)
unfolding first_number is_waiting
waits i [] = refl
waits i (e ∷ es) = by (is_same_identity i (identity e.1)) (waits i es)
  where
    by : (b : Bool) → is_some (first_number i es) ≡ list_any (λ m. is_same_identity i (identity m)) (values_of es)
        → is_some (cond b (Some e.0) (first_number i es)) ≡ (b || list_any (λ m. is_same_identity i (identity m)) (values_of es))
    by true rest = refl
    by false rest = rest

-- where none has a number, none is taken out
pub none_waits : (i : Identity) (es : List (ℕ × Message)) → first_number i es ≡ None → without i (values_of es) ≡ values_of es
unfolding first_number without
none_waits i [] none = refl
none_waits i (e ∷ es) none = by (is_same_identity i (identity e.1)) none (none_waits i es)
  where
    by : (b : Bool) → cond b (Some e.0) (first_number i es) ≡ None → (first_number i es ≡ None → without i (values_of es) ≡ values_of es)
        → cond b (values_of es) (e.1 ∷ without i (values_of es)) ≡ values_of (e ∷ es)
    by true is rest = absurd (cc)
    by false is rest = ap (λ ms. e.1 ∷ ms) (rest is)

-- a number that was found is one of the numbers
pub number_within : (i : Identity) (n : ℕ) (P : ℕ → Type 0) (es : List (ℕ × Message)) → first_number i es ≡ Some n → All P (keys_of es) → P n
unfolding first_number
number_within i n P [] is all = absurd (cc)
number_within i n P (e ∷ es) is all = by (is_same_identity i (identity e.1)) is (λ found. number_within i n P es found (All-tail P e.0 (keys_of es) all))
  where
    by : (b : Bool) → cond b (Some e.0) (first_number i es) ≡ Some n → (first_number i es ≡ Some n → P n) → P n
    by true found rest = let same : e.0 ≡ n = cc in subst P same (All-head P e.0 (keys_of es) all)
    by false found rest = rest found

pub at_itself : (a b : ℕ) → a ≡ b → is_at (nat_cmp b) a ≡ true
at_itself a b same = grind (arith, same)

pub not_below : (a b : ℕ) → nat_cmp a b ≡ Ordering.Less → is_at (nat_cmp b) a ≡ false
not_below a b less = grind (arith, less)

-- what was found is taken out, and nothing else
pub taken_out : (i : Identity) (n : ℕ) (es : List (ℕ × Message)) → IsStrictlySortedBy nat_cmp (keys_of es) → first_number i es ≡ Some n
    → values_of (remove_entry (is_at (nat_cmp n)) es) ≡ without i (values_of es)
unfolding first_number without
taken_out i n [] sorted is = absurd (cc)
taken_out i n (e ∷ es) sorted is = by (is_same_identity i (identity e.1)) is (taken_out i n es (sorted_tail nat_cmp e.0 (keys_of es) sorted))
  where
    by : (b : Bool) → cond b (Some e.0) (first_number i es) ≡ Some n
        → (first_number i es ≡ Some n → values_of (remove_entry (is_at (nat_cmp n)) es) ≡ without i (values_of es))
        → values_of (cond (is_at (nat_cmp n) e.0) es (e ∷ remove_entry (is_at (nat_cmp n)) es)) ≡ cond b (values_of es) (e.1 ∷ without i (values_of es))
    by true found rest =
        let same : e.0 ≡ n = cc in
        ap (λ b. values_of (cond b es (e ∷ remove_entry (is_at (nat_cmp n)) es))) (at_itself e.0 n same)
    by false found rest =
        let less : nat_cmp e.0 n ≡ Ordering.Less = number_within i n (λ q. nat_cmp e.0 q ≡ Ordering.Less) es found (All-after_first nat_cmp e.0 (keys_of es) sorted) in
        ap (λ b. values_of (cond b es (e ∷ remove_entry (is_at (nat_cmp n)) es))) (not_below e.0 n less)
        ∙ ap (λ ms. e.1 ∷ ms) (rest found)

---- Taking the last ones out again

module _ {X : Type 0} where
  -- without the last one, and without those before it
  pub popped_more : (n : ℕ) (old now new : List X) → ((front back : List X) → length back ≡ n → old ≡ front ++ back → now ≡ front) → ((front : List X) (x : X) → now ≡ front ++ x ∷ [] → new ≡ front)
      → (front back : List X) → length back ≡ n + 1 → old ≡ front ++ back → new ≡ front
  popped_more n old now new before pop front [] len is = absurd (omega (arith, len))
  popped_more n old now new before pop front (x ∷ back) len is = pop front x (before (front ++ x ∷ []) back (omega (arith, len)) (is ∙ sym (append_assoc front (x ∷ []) back)))

pub popped : (old new : List (ℕ × Message)) (last : Option (ℕ × Message)) → IsSome last ↔ (0 < length old) → IfSome last (λ p. old ≡ new ++ p ∷ [])
    → (front : List Message) (m : Message) → values_of old ≡ front ++ m ∷ [] → values_of new ≡ front
popped old new (Some p) some removal front m is =
    (same_from_push (values_of new) front p.1 m (sym (map_push (λ (e : ℕ × Message). e.1) new p) ∙ (sym (ap values_of removal) ∙ is))).0
popped [] new None some removal front m is = absurd (omega (arith, ap length is, length_push front m))
popped (e ∷ es) new None some removal front m is = absurd (false≢true (some.1 (omega arith)))

front_of : (P : ℕ × Message → Type 0) (xs ys : List (ℕ × Message)) → All P (xs ++ ys) → All P xs
front_of P [] ys all = λ k d within. absurd (omega (arith, within))
front_of P (x ∷ xs) ys all = All-cons P x xs (All-head P x (xs ++ ys) all) (front_of P xs ys (All-tail P x (xs ++ ys) all))

-- what is left was there
pub popped_kept : (old new : List (ℕ × Message)) (last : Option (ℕ × Message)) → IfSome last (λ p. old ≡ new ++ p ∷ []) → IfNone last (new ≡ old)
    → (P : ℕ × Message → Type 0) → All P old → All P new
popped_kept old new None removal unchanged P all = subst (All P) (sym unchanged) all
popped_kept old new (Some p) removal unchanged P all = front_of P new (p ∷ []) (subst (All P) removal all)
