-- What a key that is put changes, and the text of what is written.
use Rattle.std.proofs.Common.{◌≡◌, ◌<◌, ◌≤◌, ◌+◌, ◌-◌, ◌==◌, ℕ, zero, suc, List, [], ◌∷◌, ◌++◌, Bool, true, false, not, cond, length, drop, take, get_or, set, nat_lt, Some, None, refl, sym, ap, ap₂, ◌∙◌, subst, arith, append_assoc, append-nil}
use Rattle.std.specs.Prelude.{slice_get, map}
use Rattle.std.specs.List.{insert}
use Rattle.std.specs.Ordering.{match_ordering}
use Rattle.std.proofs.lemmas.List.{take_all}
use Rattle.json.specs.Print.{quoted}
use Rattle.serde_json.specs.Data.{Data, object, member, put}
use Rattle.serde_json.specs.View.{items_of}
use Rattle.serde_json.specs.Written.{comma_if, compact_text, items_text, members_text}
use Rattle.json_fields.specs.Keys.{name_of}
use Rattle.json_fields.specs.Ranks.{rank_of}
use Rattle.json_fields.specs.Members.{value_data, members_from, place_in, without, HasKeyAt, front_text}
use Rattle.json_fields.specs.declared.key.Key.{Key}
use Rattle.json_fields.specs.declared.member.Member.{Member}
use Rattle.json_fields.proofs.Ranks.{less_by_rank, greater_by_rank, equal_by_rank, same_by_rank}

-- how one key stands to another
data Stands (a b : ℕ) : Type 0 where
  comes_before : a < b → Stands a b
  is_there : a ≡ b → Stands a b
  comes_behind : b < a → Stands a b

stands : (a b : ℕ) → Stands a b
stands zero zero = is_there refl
stands zero (suc b) = comes_before (omega arith)
stands (suc a) zero = comes_behind (omega arith)
stands (suc a) (suc b) = next (stands a b)
  where
    next : Stands a b → Stands (suc a) (suc b)
    next (comes_before h) = comes_before (omega (arith, h))
    next (is_there h) = is_there (ap suc h)
    next (comes_behind h) = comes_behind (omega (arith, h))

is_before : {a b : ℕ} → a < b → nat_lt a b ≡ true
is_before h = grind (arith, h)

not_before : {a b : ℕ} → b ≤ a → nat_lt a b ≡ false
not_before h = grind (arith, h)

is_same : {a b : ℕ} → a ≡ b → (a == b) ≡ true
is_same h = grind (arith, h)

not_same : {a b : ℕ} → b < a → (a == b) ≡ false
not_same h = grind (arith, h)

---- Members

put_over : (key : Key) (d : Data) (x : Member) (ms : List Member) → rank_of x.key < rank_of key → put (name_of key) d (members_from (x ∷ ms)) ≡ member (name_of x.key) (value_data x.value) (put (name_of key) d (members_from ms))
put_over key d x ms h = ap (λ o. match_ordering o (member (name_of key) d (members_from (x ∷ ms))) (member (name_of x.key) d (members_from ms)) (member (name_of x.key) (value_data x.value) (put (name_of key) d (members_from ms)))) (greater_by_rank key x.key h)

put_same : (key : Key) (d : Data) (x : Member) (ms : List Member) → rank_of x.key ≡ rank_of key → put (name_of key) d (members_from (x ∷ ms)) ≡ member (name_of key) d (members_from ms)
put_same key d x ms h =
    ap (λ o. match_ordering o (member (name_of key) d (members_from (x ∷ ms))) (member (name_of x.key) d (members_from ms)) (member (name_of x.key) (value_data x.value) (put (name_of key) d (members_from ms)))) (equal_by_rank key x.key (sym h))
    ∙ ap (λ k. member (name_of k) d (members_from ms)) (same_by_rank x.key key h)

put_before : (key : Key) (d : Data) (x : Member) (ms : List Member) → rank_of key < rank_of x.key → put (name_of key) d (members_from (x ∷ ms)) ≡ member (name_of key) d (members_from (x ∷ ms))
put_before key d x ms h = ap (λ o. match_ordering o (member (name_of key) d (members_from (x ∷ ms))) (member (name_of x.key) d (members_from ms)) (member (name_of x.key) (value_data x.value) (put (name_of key) d (members_from ms)))) (less_by_rank key x.key h)

place_over : (key : Key) (x : Member) (ms : List Member) → rank_of x.key < rank_of key → place_in key (x ∷ ms) ≡ suc (place_in key ms)
unfolding place_in
place_over key x ms h = ap (λ b. cond b (suc (place_in key ms)) 0) (is_before h)

place_not_over : (key : Key) (x : Member) (ms : List Member) → rank_of key ≤ rank_of x.key → place_in key (x ∷ ms) ≡ 0
unfolding place_in
place_not_over key x ms h = ap (λ b. cond b (suc (place_in key ms)) 0) (not_before h)

place_none : (key : Key) → place_in key [] ≡ 0
unfolding place_in
place_none key = refl

-- a key that isn't there comes between the others
pub put_new : (m : Member) (ms : List Member) (p : ℕ) → p ≡ place_in m.key ms → (HasKeyAt m.key ms p → ⊥) → members_from (insert ms p m) ≡ put (name_of m.key) (value_data m.value) (members_from ms)
put_new m [] p is none = ap (λ n. members_from (insert [] n m)) (is ∙ place_none m.key)
put_new m (x ∷ ms) p is none = by_place (stands (rank_of x.key) (rank_of m.key)) (λ no. put_new m ms (place_in m.key ms) refl no)
  where
    P : ℕ → Type 0
    P n = HasKeyAt m.key (x ∷ ms) n → ⊥

    by_place : Stands (rank_of x.key) (rank_of m.key) → ((HasKeyAt m.key ms (place_in m.key ms) → ⊥) → members_from (insert ms (place_in m.key ms) m) ≡ put (name_of m.key) (value_data m.value) (members_from ms))
        → members_from (insert (x ∷ ms) p m) ≡ put (name_of m.key) (value_data m.value) (members_from (x ∷ ms))
    by_place (comes_before h) later =
        let further = is ∙ place_over m.key x ms h in
        ap (λ n. members_from (insert (x ∷ ms) n m)) further
        ∙ (ap (member (name_of x.key) (value_data x.value)) (later (subst P further none))
        ∙ sym (put_over m.key (value_data m.value) x ms h))
    by_place (is_there h) later = absurd (subst P (is ∙ place_not_over m.key x ms (omega (arith, h))) none h)
    by_place (comes_behind h) later = ap (λ n. members_from (insert (x ∷ ms) n m)) (is ∙ place_not_over m.key x ms (omega (arith, h))) ∙ sym (put_before m.key (value_data m.value) x ms h)

-- a key that is there gets the value
pub put_again : (m : Member) (ms : List Member) (p : ℕ) → p ≡ place_in m.key ms → HasKeyAt m.key ms p → members_from (set ms p m) ≡ put (name_of m.key) (value_data m.value) (members_from ms)
put_again m [] p is there = absurd there
put_again m (x ∷ ms) p is there = by_place (stands (rank_of x.key) (rank_of m.key)) (λ yes. put_again m ms (place_in m.key ms) refl yes)
  where
    P : ℕ → Type 0
    P n = HasKeyAt m.key (x ∷ ms) n

    not_both : {a b : ℕ} → b < a → a ≡ b → ⊥
    not_both less equal = omega (arith, less, equal)

    by_place : Stands (rank_of x.key) (rank_of m.key) → (HasKeyAt m.key ms (place_in m.key ms) → members_from (set ms (place_in m.key ms) m) ≡ put (name_of m.key) (value_data m.value) (members_from ms))
        → members_from (set (x ∷ ms) p m) ≡ put (name_of m.key) (value_data m.value) (members_from (x ∷ ms))
    by_place (comes_before h) later =
        let further = is ∙ place_over m.key x ms h in
        ap (λ n. members_from (set (x ∷ ms) n m)) further
        ∙ (ap (member (name_of x.key) (value_data x.value)) (later (subst P further there))
        ∙ sym (put_over m.key (value_data m.value) x ms h))
    by_place (is_there h) later = ap (λ n. members_from (set (x ∷ ms) n m)) (is ∙ place_not_over m.key x ms (omega (arith, h))) ∙ sym (put_same m.key (value_data m.value) x ms h)
    by_place (comes_behind h) later = absurd (not_both h (subst P (is ∙ place_not_over m.key x ms (omega (arith, h))) there))

pub place_within : (key : Key) (ms : List Member) → place_in key ms ≤ length ms
unfolding place_in
place_within key [] = omega arith
place_within key (x ∷ ms) = by_test (nat_lt (rank_of x.key) (rank_of key)) (place_within key ms)
  where
    by_test : (b : Bool) → place_in key ms ≤ length ms → cond b (suc (place_in key ms)) 0 ≤ suc (length ms)
    by_test true low = omega (arith, low)
    by_test false low = omega arith

---- Texts

pub members_closed : (later : Bool) (ms : List Member) → front_text later ms ++ 125 ∷ [] ≡ members_text later (members_from ms)
members_closed later [] = refl
members_closed later (m ∷ ms) =
    append_assoc (comma_if later) (quoted (name_of m.key) ++ 58 ∷ (compact_text (value_data m.value) ++ front_text true ms)) (125 ∷ [])
    ∙ ap (λ t. comma_if later ++ t) (append_assoc (quoted (name_of m.key)) (58 ∷ (compact_text (value_data m.value) ++ front_text true ms)) (125 ∷ [])
    ∙ ap (λ t. quoted (name_of m.key) ++ 58 ∷ t) (append_assoc (compact_text (value_data m.value)) (front_text true ms) (125 ∷ []) ∙ ap (λ t. compact_text (value_data m.value) ++ t) (members_closed true ms)))

-- whether something stands before what comes behind these
abbrev pub or_later : Bool → List Member → Bool
or_later later [] = later
or_later later (m ∷ ms) = true

stays_later : (ms : List Member) → or_later true ms ≡ true
stays_later [] = refl
stays_later (m ∷ ms) = refl

module _ (key : Key) (d : Data) where
  -- a member, and what closes the object
  abbrev pub last_text : Bool → List ℕ → List ℕ
  last_text later rest = comma_if later ++ ((quoted (name_of key) ++ 58 ∷ []) ++ (compact_text d ++ rest))

  abbrev pub spelled : Bool → List Member → ℕ → List ℕ
  spelled later xs n = front_text later (take n xs) ++ last_text (or_later later (take n xs)) (front_text true (without key (drop n xs)) ++ 125 ∷ [])

  last_is : (later : Bool) (rest : List ℕ) → last_text later rest ≡ comma_if later ++ (quoted (name_of key) ++ 58 ∷ (compact_text d ++ rest))
  last_is later rest = ap (λ t. comma_if later ++ t) (append_assoc (quoted (name_of key)) (58 ∷ []) (compact_text d ++ rest))

  -- the text of members with one more put to them, between those before and those behind it
  pub with_spelled : (later : Bool) (ms : List Member) → spelled later ms (place_in key ms) ≡ members_text later (put (name_of key) d (members_from ms))
  unfolding without
  with_spelled later [] = ap (spelled later []) (place_none key) ∙ last_is later (125 ∷ [])
  with_spelled later (x ∷ ms) = by_place (stands (rank_of x.key) (rank_of key)) (with_spelled true ms)
    where
      own : List ℕ
      own = compact_text (value_data x.value)

      rest : List ℕ
      rest = front_text true (without key (drop (place_in key ms) ms)) ++ 125 ∷ []

      front : List ℕ
      front = front_text true (take (place_in key ms) ms)

      by_place : Stands (rank_of x.key) (rank_of key) → spelled true ms (place_in key ms) ≡ members_text true (put (name_of key) d (members_from ms))
          → spelled later (x ∷ ms) (place_in key (x ∷ ms)) ≡ members_text later (put (name_of key) d (members_from (x ∷ ms)))
      by_place (comes_before h) behind =
          ap (spelled later (x ∷ ms)) (place_over key x ms h)
          ∙ (append_assoc (comma_if later) (quoted (name_of x.key) ++ 58 ∷ (own ++ front)) (last_text true rest)
          ∙ (ap (λ t. comma_if later ++ t) (append_assoc (quoted (name_of x.key)) (58 ∷ (own ++ front)) (last_text true rest)
          ∙ ap (λ t. quoted (name_of x.key) ++ 58 ∷ t) (append_assoc own front (last_text true rest)
          ∙ ap (λ t. own ++ t) (ap (λ b. front ++ last_text b rest) (sym (stays_later (take (place_in key ms) ms))) ∙ behind)))
          ∙ ap (members_text later) (sym (put_over key d x ms h))))
      by_place (is_there h) behind =
          ap (spelled later (x ∷ ms)) (place_not_over key x ms (omega (arith, h)))
          ∙ (ap (λ b. last_text later (front_text true (cond b ms (x ∷ ms)) ++ 125 ∷ [])) (is_same h)
          ∙ (last_is later (front_text true ms ++ 125 ∷ [])
          ∙ (ap (λ t. comma_if later ++ (quoted (name_of key) ++ 58 ∷ (compact_text d ++ t))) (members_closed true ms)
          ∙ ap (members_text later) (sym (put_same key d x ms h)))))
      by_place (comes_behind h) behind =
          ap (spelled later (x ∷ ms)) (place_not_over key x ms (omega (arith, h)))
          ∙ (ap (λ b. last_text later (front_text true (cond b ms (x ∷ ms)) ++ 125 ∷ [])) (not_same h)
          ∙ (last_is later (front_text true (x ∷ ms) ++ 125 ∷ [])
          ∙ (ap (λ t. comma_if later ++ (quoted (name_of key) ++ 58 ∷ (compact_text d ++ t))) (members_closed true (x ∷ ms))
          ∙ ap (members_text later) (sym (put_before key d x ms h)))))

---- Loops

next_one : {X : Type 0} (xs : List X) (i : ℕ) (x : X) → i < length xs → drop i xs ≡ get_or xs i x ∷ drop (suc i) xs
next_one [] i x low = absurd (omega (arith, low))
next_one (y ∷ xs) zero x low = refl
next_one (y ∷ xs) (suc i) x low = next_one xs i x (omega (arith, low))

next : {X : Type 0} (xs : List X) (i : ℕ) (x : X) → i < length xs → drop i xs ≡ get_or xs i x ∷ drop (i + 1) xs
next xs i x low = next_one xs i x low ∙ ap (λ n. get_or xs i x ∷ drop n xs) (one i)
  where
    one : (n : ℕ) → suc n ≡ n + 1
    one n = omega arith

-- what stands behind a text, one piece behind the other
pieces : (old comma key value rest : List ℕ) → (((old ++ comma) ++ (key ++ 58 ∷ [])) ++ value) ++ rest ≡ old ++ (comma ++ (key ++ 58 ∷ (value ++ rest)))
pieces old comma key value rest =
    append_assoc ((old ++ comma) ++ (key ++ 58 ∷ [])) value rest
    ∙ (append_assoc (old ++ comma) (key ++ 58 ∷ []) (value ++ rest)
    ∙ (append_assoc old comma ((key ++ 58 ∷ []) ++ (value ++ rest))
    ∙ ap (λ t. old ++ (comma ++ t)) (append_assoc key (58 ∷ []) (value ++ rest))))

pub member_next : (later : Bool) (ms : List Member) (i : ℕ) (any : Member) (old keyed new total : List ℕ) → i < length ms
    → keyed ≡ (old ++ comma_if later) ++ (quoted (name_of (get_or ms i any).key) ++ 58 ∷ []) → new ≡ keyed ++ compact_text (value_data (get_or ms i any).value) → old ++ front_text later (drop i ms) ≡ total
    → new ++ front_text true (drop (i + 1) ms) ≡ total
member_next later ms i any old keyed new total low key value done =
    let m = get_or ms i any in
    let rest = front_text true (drop (i + 1) ms) in
    let own = compact_text (value_data m.value) in
    ap (λ t. t ++ rest) (value ∙ ap (λ t. t ++ own) key)
    ∙ (pieces old (comma_if later) (quoted (name_of m.key)) own rest
    ∙ (ap (λ xs. old ++ front_text later xs) (sym (next ms i any low))
    ∙ done))

pub none_left : {X : Type 0} (xs : List X) (i : ℕ) → length xs ≤ i → drop i xs ≡ []
none_left [] zero h = refl
none_left [] (suc i) h = refl
none_left (x ∷ xs) zero h = absurd (omega (arith, h))
none_left (x ∷ xs) (suc i) h = none_left xs i (omega (arith, h))

pub members_done : (later : Bool) (ms : List Member) (i : ℕ) (text total : List ℕ) → length ms ≤ i → text ++ front_text later (drop i ms) ≡ total → text ≡ total
members_done later ms i text total past done = sym (append-nil text) ∙ (ap (λ xs. text ++ front_text later xs) (sym (none_left ms i past)) ∙ done)

-- the text of rows that are still to come, with the end of the list
pub rows_next : {R : Type 0} (data_of : R → Data) (later : Bool) (rows : List R) (i : ℕ) (any : R) (old behind new total : List ℕ) → i < length rows
    → behind ≡ old ++ comma_if later → new ≡ behind ++ compact_text (data_of (get_or rows i any))
    → old ++ items_text later (items_of (map data_of (drop i rows))) ≡ total → new ++ items_text true (items_of (map data_of (drop (i + 1) rows))) ≡ total
rows_next data_of later rows i any old behind new total low comma put done =
    let rest = items_text true (items_of (map data_of (drop (i + 1) rows))) in
    let own = compact_text (data_of (get_or rows i any)) in
    ap (λ t. t ++ rest) (put ∙ ap (λ t. t ++ own) comma)
    ∙ (append_assoc (old ++ comma_if later) own rest
    ∙ (append_assoc old (comma_if later) (own ++ rest)
    ∙ (ap (λ xs. old ++ items_text later (items_of (map data_of xs))) (sym (next rows i any low))
    ∙ done)))

pub rows_done : {R : Type 0} (data_of : R → Data) (later : Bool) (rows : List R) (i : ℕ) (text total : List ℕ) → length rows ≤ i → text ++ items_text later (items_of (map data_of (drop i rows))) ≡ total → text ++ 93 ∷ [] ≡ total
rows_done data_of later rows i text total past done = ap (λ xs. text ++ items_text later (items_of (map data_of xs))) (sym (none_left rows i past)) ∙ done

---- A first member

pub without_first : (key : Key) (ms : List Member) (m : Member) → slice_get ms 0 ≡ Some m → rank_of m.key ≡ rank_of key → take (length ms - 1) (drop 1 ms) ≡ without key ms
unfolding without
without_first key [] m is equal = cc
without_first key (x ∷ ms) m is equal = take_all (length (x ∷ ms) - 1) ms (omega arith) ∙ sym (ap (λ b. cond b ms (x ∷ ms)) (is_same (ap (λ (z : Member). rank_of z.key) (first is) ∙ equal)))
  where
    first : Some x ≡ Some m → x ≡ m
    first e = cc

pub without_other : (key : Key) (ms : List Member) (m : Member) → slice_get ms 0 ≡ Some m → (rank_of m.key == rank_of key) ≡ false → ms ≡ without key ms
unfolding without
without_other key [] m is other = refl
without_other key (x ∷ ms) m is other = sym (ap (λ b. cond b ms (x ∷ ms)) (ap (λ (z : Member). rank_of z.key == rank_of key) (first is) ∙ other))
  where
    first : Some x ≡ Some m → x ≡ m
    first e = cc

pub without_none : (key : Key) (ms : List Member) → slice_get ms 0 ≡ None → ms ≡ without key ms
unfolding without
without_none key [] is = refl
without_none key (x ∷ ms) is = cc

---- Objects

pub object_spelled : (ms : List Member) (old opened listed closed : List ℕ) → opened ≡ old ++ 123 ∷ [] → listed ≡ opened ++ front_text false ms → closed ≡ listed ++ 125 ∷ [] → closed ≡ old ++ compact_text (object (members_from ms))
object_spelled ms old opened listed closed is_opened is_listed is_closed =
    is_closed ∙ (ap (λ t. t ++ 125 ∷ []) (is_listed ∙ ap (λ t. t ++ front_text false ms) is_opened)
    ∙ (append_assoc (old ++ 123 ∷ []) (front_text false ms) (125 ∷ []) ∙ (append_assoc old (123 ∷ []) (front_text false ms ++ 125 ∷ []) ∙ ap (λ t. old ++ 123 ∷ t) (members_closed false ms))))

-- the steps by which an object is written with one member more
pub object_with : (key : Key) (d : Data) (later : Bool) (ms front back rest : List Member) (old opened first keyed listed last closed : List ℕ)
    → front ≡ take (place_in key ms) ms → back ≡ drop (place_in key ms) ms → rest ≡ without key back → later ≡ or_later false front
    → opened ≡ old ++ 123 ∷ [] → first ≡ opened ++ front_text false front → keyed ≡ (first ++ comma_if later) ++ (quoted (name_of key) ++ 58 ∷ []) → listed ≡ keyed ++ compact_text d → last ≡ listed ++ front_text true rest → closed ≡ last ++ 125 ∷ []
    → closed ≡ old ++ compact_text (object (put (name_of key) d (members_from ms)))
object_with key d later ms front back rest old opened first keyed listed last closed is_front is_back is_rest is_later is_opened is_first is_keyed is_listed is_last is_closed =
    is_closed ∙ (ap (λ t. t ++ 125 ∷ []) (is_last ∙ ap (λ t. t ++ front_text true rest) (is_listed ∙ ap (λ t. t ++ compact_text d) (is_keyed ∙ ap (λ t. (t ++ comma_if later) ++ named) (is_first ∙ ap (λ t. t ++ front_text false front) is_opened))))
    ∙ (joined old (front_text false front) (comma_if later) (compact_text d) (front_text true rest)
    ∙ (ap (λ b. old ++ 123 ∷ (front_text false front ++ (comma_if b ++ (named ++ (compact_text d ++ (front_text true rest ++ 125 ∷ [])))))) is_later
    ∙ ap (λ t. old ++ 123 ∷ t) (ap₂ (λ xs ys. front_text false xs ++ (comma_if (or_later false xs) ++ (named ++ (compact_text d ++ (front_text true ys ++ 125 ∷ []))))) is_front (is_rest ∙ ap (without key) is_back) ∙ with_spelled key d false ms))))
  where
    named : List ℕ
    named = quoted (name_of key) ++ 58 ∷ []

    joined : (start front comma value rest : List ℕ) → ((((((start ++ 123 ∷ []) ++ front) ++ comma) ++ named) ++ value) ++ rest) ++ 125 ∷ [] ≡ start ++ 123 ∷ (front ++ (comma ++ (named ++ (value ++ (rest ++ 125 ∷ [])))))
    joined start front comma value rest =
        append_assoc (((((start ++ 123 ∷ []) ++ front) ++ comma) ++ named) ++ value) rest (125 ∷ [])
        ∙ (append_assoc ((((start ++ 123 ∷ []) ++ front) ++ comma) ++ named) value (rest ++ 125 ∷ [])
        ∙ (append_assoc (((start ++ 123 ∷ []) ++ front) ++ comma) named (value ++ (rest ++ 125 ∷ []))
        ∙ (append_assoc ((start ++ 123 ∷ []) ++ front) comma (named ++ (value ++ (rest ++ 125 ∷ [])))
        ∙ (append_assoc (start ++ 123 ∷ []) front (comma ++ (named ++ (value ++ (rest ++ 125 ∷ []))))
        ∙ append_assoc start (123 ∷ []) (front ++ (comma ++ (named ++ (value ++ (rest ++ 125 ∷ [])))))))))

-- whether something stands before what comes behind the front
pub later_is : (front : List Member) → not (length front == 0) ≡ or_later false front
later_is [] = refl
later_is (m ∷ ms) = ap not (not_same {a = length (m ∷ ms)} {b = 0} (omega arith))

---- Places

pub here_within : (key : Key) (ms : List Member) (i : ℕ) → HasKeyAt key ms i → i < length ms
here_within key [] i h = absurd h
here_within key (x ∷ ms) zero h = omega arith
here_within key (x ∷ ms) (suc i) h = let low = here_within key ms i h in omega (arith, low)

-- either it was put, or nothing changed
pub put_or_not : (b : Bool) (m : Member) (old new : List Member) (p : ℕ) → p ≡ place_in m.key old → new ≡ cond b (insert old p m) old → (HasKeyAt m.key old p → ⊥) → members_from new ≡ cond b (put (name_of m.key) (value_data m.value) (members_from old)) (members_from old)
put_or_not true m old new p place is none = ap members_from is ∙ put_new m old p place none
put_or_not false m old new p place is none = ap members_from is

pub not_equal : (a b : ℕ) → (a ≡ b → ⊥) → (a == b) ≡ false
not_equal a b h = grind (arith, h)

pub past_none : (key : Key) (ms : List Member) (i : ℕ) → length ms ≤ i → HasKeyAt key ms i → ⊥
past_none key ms i past h = let low = here_within key ms i h in omega (arith, past, low)

pub not_within : {a b : ℕ} → b ≤ a → nat_lt a b ≡ true → ⊥
not_within past within = grind (arith, past, within)
