-- The open query that a message tells, found by the numbers that its correlationId names.
use Rattle.std.proofs.Common.{◌≡◌, ◌∙◌, ◌<◌, ◌≤◌, ◌+◌, ℕ, Bool, true, false, List, [], ◌∷◌, ◌++◌, cond, not, nat_lt, zero, suc, length, Option, Some, None, option_map, slice_get, All, refl, sym, ap, subst, arith, true≢false, inl, inr, ◌⊎◌, ◌↔◌}
use Rattle.std.specs.BTreeMap.{is_at}
use Rattle.std.specs.List.{Contains, position, position_or_len}
use Rattle.std.specs.List.Sorted.{IsStrictlySortedBy}
use Rattle.std.specs.Map.{lookup, keys_of}
use Rattle.std.specs.Ordering.{nat_cmp}
use Rattle.std.specs.declared.cmp.Ordering.{Ordering}
use Rattle.std.proofs.lemmas.Bool.Decides.{nat_tests}
use Rattle.std.proofs.lemmas.List.Elements.{All-head, All-tail, All-nil, All-cons}
use Rattle.std.proofs.lemmas.Map.Keys.{sorted_tail}
use Rattle.std.proofs.lemmas.Map.Views.{All-after_first}
use Rattle.connection_record.specs.declared.record.Record.{Record}
use Rattle.id_index.specs.declared.IdPlace.{IdPlace}
use Rattle.record_index.proofs.Members.{nothing_in, contains_first}
use Rattle.agent_state.specs.declared.parent.OpenQuery.{OpenQuery}
use Rattle.agent_state.specs.declared.parent.Part.{Part}
use Rattle.aggregator_agent.specs.declared.open_queries.Awaited.{Awaited}
use Rattle.aggregator_agent.specs.Below.{is_asked_under, asked_place}
use Rattle.aggregator_agent.specs.Indexed.{id_at}
use Rattle.aggregator_agent.specs.OpenTable.{IsPartNamed, IsQueryNamed, AreQueriesNamed, part_there, waiting_part, awaited_in, awaited_at, or_behind, first_awaited, lesser, least_awaited}

---- Numbers

pub same_number : (a b : ℕ) → a ≡ b → is_at (nat_cmp b) a ≡ true
same_number a b same = grind (arith, same)

pub other_number : (a b : ℕ) → a < b → is_at (nat_cmp b) a ≡ false
other_number a b less = grind (arith, less)

is_number : (a b : ℕ) → is_at (nat_cmp b) a ≡ true → a ≡ b
is_number a b same = grind (arith, same)

below : (a b : ℕ) → nat_cmp a b ≡ Ordering.Less → a < b
below a b less = grind (arith, less)

-- the first number lies below the others
pub all_above : (e : ℕ × OpenQuery) (es : List (ℕ × OpenQuery)) → IsStrictlySortedBy nat_cmp (keys_of (e ∷ es)) → All (λ k. e.0 < k) (keys_of es)
all_above e es sorted k d within = below e.0 _ (All-after_first nat_cmp e.0 (keys_of es) sorted k d within)

---- The query of a number

-- what is found stands under the number that was looked for
found_under : (c : ℕ) (records : List Record) (n : ℕ) (o : Option OpenQuery) (a : Awaited) → awaited_in c records n o ≡ Some a → a.number ≡ n
found_under c records n None a is = absurd (cc)
found_under c records n (Some q) a is = by (waiting_part c records q) is
  where
    by : (o : Option ℕ) → option_map (λ k. let x : Awaited = record { number = n; part = k } in x) o ≡ Some a → a.number ≡ n
    by None k = absurd (cc)
    by (Some p) k = let same : (let x : Awaited = record { number = n; part = p } in x) ≡ a = cc in sym (ap (λ (x : Awaited). x.number) same)

-- and some query has that number
found_key : (c : ℕ) (records : List Record) (P : ℕ → Type 0) (n : ℕ) (a : Awaited) (es : List (ℕ × OpenQuery)) → awaited_at c records es n ≡ Some a → All P (keys_of es) → P n
found_key c records P n a [] is all = absurd (cc)
found_key c records P n a (e ∷ es) is all = by (is_at (nat_cmp n) e.0) refl is (λ found. found_key c records P n a es found (All-tail P e.0 (keys_of es) all))
  where
    by : (b : Bool) → is_at (nat_cmp n) e.0 ≡ b → awaited_in c records n (cond b (Some e.1) (lookup (is_at (nat_cmp n)) es)) ≡ Some a → (awaited_at c records es n ≡ Some a → P n) → P n
    by true same found rest = subst P (is_number e.0 n same) (All-head P e.0 (keys_of es) all)
    by false other found rest = rest found

-- the first query that waits has a number
pub first_key : (c : ℕ) (records : List Record) (P : ℕ → Type 0) (es : List (ℕ × OpenQuery)) (f : Awaited) → first_awaited c records es ≡ Some f → All P (keys_of es) → P f.number
unfolding first_awaited
first_key c records P [] f is all = absurd (cc)
first_key c records P (e ∷ es) f is all = by (awaited_in c records e.0 (Some e.1)) refl is (λ behind. first_key c records P es f behind (All-tail P e.0 (keys_of es) all))
  where
    by : (o : Option Awaited) → awaited_in c records e.0 (Some e.1) ≡ o → or_behind o (first_awaited c records es) ≡ Some f → (first_awaited c records es ≡ Some f → P f.number) → P f.number
    by None none behind rest = rest behind
    by (Some a) here found rest =
        let same : a ≡ f = cc in
        subst P (sym (found_under c records e.0 (Some e.1) a here) ∙ ap (λ (x : Awaited). x.number) same) (All-head P e.0 (keys_of es) all)

-- it is what stands under its number
pub first_stands : (c : ℕ) (records : List Record) (es : List (ℕ × OpenQuery)) (f : Awaited) → IsStrictlySortedBy nat_cmp (keys_of es) → first_awaited c records es ≡ Some f → awaited_at c records es f.number ≡ Some f
unfolding first_awaited
first_stands c records [] f sorted is = absurd (cc)
first_stands c records (e ∷ es) f sorted is = by (awaited_in c records e.0 (Some e.1)) refl is (first_stands c records es f (sorted_tail nat_cmp e.0 (keys_of es) sorted))
  where
    by : (o : Option Awaited) → awaited_in c records e.0 (Some e.1) ≡ o → or_behind o (first_awaited c records es) ≡ Some f → (first_awaited c records es ≡ Some f → awaited_at c records es f.number ≡ Some f)
        → awaited_in c records f.number (cond (is_at (nat_cmp f.number) e.0) (Some e.1) (lookup (is_at (nat_cmp f.number)) es)) ≡ Some f
    by None none behind rest =
        let less : e.0 < f.number = first_key c records (λ k. e.0 < k) es f behind (all_above e es sorted) in
        ap (λ b. awaited_in c records f.number (cond b (Some e.1) (lookup (is_at (nat_cmp f.number)) es))) (other_number e.0 f.number less)
        ∙ rest behind
    by (Some a) here found rest =
        let same : a ≡ f = cc in
        let at : f.number ≡ e.0 = sym (ap (λ (x : Awaited). x.number) same) ∙ found_under c records e.0 (Some e.1) a here in
        ap (λ b. awaited_in c records f.number (cond b (Some e.1) (lookup (is_at (nat_cmp f.number)) es))) (same_number e.0 f.number (sym at))
        ∙ (ap (λ n. awaited_in c records n (Some e.1)) at ∙ (here ∙ ap Some same))

-- no query that waits stands before it
first_least : (c : ℕ) (records : List Record) (es : List (ℕ × OpenQuery)) (n : ℕ) (a : Awaited) → IsStrictlySortedBy nat_cmp (keys_of es) → awaited_at c records es n ≡ Some a
    → (f : Awaited) × (first_awaited c records es ≡ Some f) × (f.number ≤ n)
unfolding first_awaited
first_least c records [] n a sorted is = absurd (cc)
first_least c records (e ∷ es) n a sorted is =
    by (awaited_in c records e.0 (Some e.1)) refl (is_at (nat_cmp n) e.0) refl is (first_least c records es n a (sorted_tail nat_cmp e.0 (keys_of es) sorted))
  where
    above : (b : Bool) → is_at (nat_cmp n) e.0 ≡ b → awaited_in c records n (cond b (Some e.1) (lookup (is_at (nat_cmp n)) es)) ≡ Some a → e.0 ≤ n
    above true same found = let at = is_number e.0 n same in omega (arith, at)
    above false other found = let less = found_key c records (λ k. e.0 < k) n a es found (all_above e es sorted) in omega (arith, less)

    by : (o : Option Awaited) → awaited_in c records e.0 (Some e.1) ≡ o → (b : Bool) → is_at (nat_cmp n) e.0 ≡ b → awaited_in c records n (cond b (Some e.1) (lookup (is_at (nat_cmp n)) es)) ≡ Some a
        → (awaited_at c records es n ≡ Some a → (f : Awaited) × (first_awaited c records es ≡ Some f) × (f.number ≤ n))
        → (f : Awaited) × (or_behind o (first_awaited c records es) ≡ Some f) × (f.number ≤ n)
    by (Some x) here b at found rest =
        let least = above b at found in
        let number = found_under c records e.0 (Some e.1) x here in
        (x, refl, omega (arith, least, number))
    by None none true same found rest =
        let stands : awaited_in c records e.0 (Some e.1) ≡ Some (record a { number = e.0 }) = renamed (waiting_part c records e.1) found in
        absurd (let is = sym none ∙ stands in cc)
      where
        renamed : (o : Option ℕ) → option_map (λ k. let x : Awaited = record { number = n; part = k } in x) o ≡ Some a
            → option_map (λ k. let x : Awaited = record { number = e.0; part = k } in x) o ≡ Some (record a { number = e.0 })
        renamed None k = absurd (cc)
        renamed (Some p) k = let same : (let x : Awaited = record { number = n; part = p } in x) ≡ a = cc in ap (λ (x : Awaited). Some (record x { number = e.0 })) same
    by None none false other found rest = rest found

---- The least of some numbers

lesser_behind : (a b : Awaited) → (x : Awaited) × (lesser (Some a) (Some b) ≡ Some x) × (x.number ≤ a.number) × (x.number ≤ b.number)
lesser_behind a b = by (nat_lt b.number a.number) refl
  where
    by : (t : Bool) → nat_lt b.number a.number ≡ t → (x : Awaited) × (cond t (Some b) (Some a) ≡ Some x) × (x.number ≤ a.number) × (x.number ≤ b.number)
    by true h = (b, refl, grind (arith, nat_tests, h), omega arith)
    by false h = (a, refl, omega arith, grind (arith, nat_tests, h))

-- what was found before is no less
least_before : (c : ℕ) (records : List Record) (es : List (ℕ × OpenQuery)) (b : Awaited) (ns : List ℕ) → (a : Awaited) × (least_awaited c records es (Some b) ns ≡ Some a) × (a.number ≤ b.number)
unfolding least_awaited
least_before c records es b [] = (b, refl, omega arith)
least_before c records es b (n ∷ ns) = by (awaited_at c records es n) (λ x. least_before c records es x ns)
  where
    by : (o : Option Awaited) → ((x : Awaited) → (a : Awaited) × (least_awaited c records es (Some x) ns ≡ Some a) × (a.number ≤ x.number)) → (a : Awaited) × (least_awaited c records es (lesser (Some b) o) ns ≡ Some a) × (a.number ≤ b.number)
    by None behind = behind b
    by (Some y) behind =
        let one = lesser_behind b y in
        let rest = behind one.0 in
        (rest.0, ap (λ o. least_awaited c records es o ns) one.1 ∙ rest.1, let h = rest.2 in let k = one.2 in omega (arith, h, k))

-- and neither is what stands under one of the numbers
least_among : (c : ℕ) (records : List Record) (es : List (ℕ × OpenQuery)) (o : Option Awaited) (ns : List ℕ) (n : ℕ) (b : Awaited) → Contains ns n → awaited_at c records es n ≡ Some b
    → (a : Awaited) × (least_awaited c records es o ns ≡ Some a) × (a.number ≤ n)
unfolding least_awaited
least_among c records es o [] n b has is = absurd (nothing_in n has)
least_among c records es o (x ∷ ns) n b has is = elim (contains_first x n ns has) [
  | inl same ↦
      let at : awaited_at c records es x ≡ Some b = ap (λ k. awaited_at c records es k) (sym same) ∙ is in
      let number = found_under c records n (lookup (is_at (nat_cmp n)) es) b is in
      here o at number
  | inr behind ↦ least_among c records es (lesser o (awaited_at c records es x)) ns n b behind is
]
  where
    here : (o : Option Awaited) → awaited_at c records es x ≡ Some b → b.number ≡ n → (a : Awaited) × (least_awaited c records es (lesser o (awaited_at c records es x)) ns ≡ Some a) × (a.number ≤ n)
    here None at number =
        let rest = least_before c records es b ns in
        (rest.0, ap (λ p. least_awaited c records es p ns) at ∙ rest.1, let h = rest.2 in omega (arith, h, number))
    here (Some y) at number =
        let one = lesser_behind y b in
        let rest = least_before c records es one.0 ns in (
          rest.0,
          ap (λ p. least_awaited c records es (lesser (Some y) p) ns) at ∙ (ap (λ p. least_awaited c records es p ns) one.1 ∙ rest.1),
          let h = rest.2 in let k = one.3 in omega (arith, h, k, number),
        )

-- what is found stands under its number
Stands : (c : ℕ) → List Record → List (ℕ × OpenQuery) → Option Awaited → Type 0
Stands c records es o = (a : Awaited) → o ≡ Some a → awaited_at c records es a.number ≡ Some a

found_stands : (c : ℕ) (records : List Record) (es : List (ℕ × OpenQuery)) (n : ℕ) → Stands c records es (awaited_at c records es n)
unfolding Stands
found_stands c records es n a is = ap (λ k. awaited_at c records es k) (found_under c records n (lookup (is_at (nat_cmp n)) es) a is) ∙ is

lesser_stands : (c : ℕ) (records : List Record) (es : List (ℕ × OpenQuery)) (o p : Option Awaited) → Stands c records es o → Stands c records es p → Stands c records es (lesser o p)
lesser_stands c records es None p first second = second
lesser_stands c records es (Some x) None first second = first
lesser_stands c records es (Some x) (Some y) first second = by (nat_lt y.number x.number)
  where
    by : (t : Bool) → Stands c records es (cond t (Some y) (Some x))
    by true = second
    by false = first

least_stands : (c : ℕ) (records : List Record) (es : List (ℕ × OpenQuery)) (o : Option Awaited) (ns : List ℕ) → Stands c records es o → Stands c records es (least_awaited c records es o ns)
unfolding least_awaited
least_stands c records es o [] first = first
least_stands c records es o (n ∷ ns) first =
    least_stands c records es (lesser o (awaited_at c records es n)) ns (lesser_stands c records es o (awaited_at c records es n) first (found_stands c records es n))

none_stands : (c : ℕ) (records : List Record) (es : List (ℕ × OpenQuery)) → Stands c records es None
unfolding Stands
none_stands c records es a is = absurd (cc)

-- where all that waits is among the numbers, it is the first one
least_first : (c : ℕ) (records : List Record) (es : List (ℕ × OpenQuery)) (ns : List ℕ) → IsStrictlySortedBy nat_cmp (keys_of es)
    → ((n : ℕ) (a : Awaited) → awaited_at c records es n ≡ Some a → Contains ns n)
    → least_awaited c records es None ns ≡ first_awaited c records es
unfolding Stands
least_first c records es ns sorted has = by (least_awaited c records es None ns) refl (first_awaited c records es) refl
  where
    by : (l : Option Awaited) → least_awaited c records es None ns ≡ l → (o : Option Awaited) → first_awaited c records es ≡ o → l ≡ o
    by None none None first = refl
    by None none (Some f) first =
        let stands = first_stands c records es f sorted first in
        let some = (least_among c records es None ns f.number f (has f.number f stands) stands).1 in
        absurd (let is = sym none ∙ some in cc)
    by (Some a) found None first =
        let stands = least_stands c records es None ns (none_stands c records es) a found in
        let some = (first_least c records es a.number a sorted stands).1 in
        absurd (let is = sym first ∙ some in cc)
    by (Some a) found (Some f) first =
        let stands_a = least_stands c records es None ns (none_stands c records es) a found in
        let stands_f = first_stands c records es f sorted first in
        let before = first_least c records es a.number a sorted stands_a in
        let least = least_among c records es None ns f.number f (has f.number f stands_f) stands_f in
        let same_f : before.0 ≡ f = (let is = sym before.1 ∙ first in cc) in
        let same_a : least.0 ≡ a = (let is = sym least.1 ∙ found in cc) in
        let low : f.number ≤ a.number = subst (λ (x : Awaited). x.number ≤ a.number) same_f before.2 in
        let high : a.number ≤ f.number = subst (λ (x : Awaited). x.number ≤ f.number) same_a least.2 in
        let at : a.number ≡ f.number = omega (arith, low, high) in
        sym stands_a ∙ (ap (λ k. awaited_at c records es k) at ∙ stands_f)

---- What is named

asked_named : (ids : List IdPlace) (n c : ℕ) (x : Part) → is_asked_under c x ≡ true → IsPartNamed ids n x → Contains ids (id_at c n)
asked_named ids n c (Part.Asked d) same named = let at : c ≡ d = grind (arith, nat_tests, same) in subst (λ k. Contains ids (id_at k n)) (sym at) named
asked_named ids n c (Part.Told rows) same named = absurd (cc)
asked_named ids n c Part.Missing same named = absurd (cc)

some_passes : (p : Part → Bool) (Q : Part → Type 0) (R : Type 0) (xs : List Part) → position_or_len p xs < length xs → All Q xs → ((x : Part) → p x ≡ true → Q x → R) → R
some_passes p Q R [] l all gives = absurd (omega (arith, l))
some_passes p Q R (x ∷ xs) l all gives = by (p x) refl l (λ within. some_passes p Q R xs within (All-tail Q x xs all) gives)
  where
    by : (b : Bool) → p x ≡ b → cond (not b) (1 + position_or_len p xs) 0 < length (x ∷ xs) → (position_or_len p xs < length xs → R) → R
    by true passes h rest = gives x passes (All-head Q x xs all)
    by false fails h rest = rest (omega (arith, h))

place_within : (p : Part → Bool) (xs : List Part) (k : ℕ) → position p xs ≡ Some k → (position_or_len p xs < length xs) × (k ≡ position_or_len p xs)
place_within p xs k is = by (nat_lt (position_or_len p xs) (length xs)) refl is
  where
    by : (b : Bool) → nat_lt (position_or_len p xs) (length xs) ≡ b → cond b (Some (position_or_len p xs)) None ≡ Some k → (position_or_len p xs < length xs) × (k ≡ position_or_len p xs)
    by true less found = (grind (arith, nat_tests, less), let same : position_or_len p xs ≡ k = cc in sym same)
    by false none found = absurd (cc)

pub waiting_asked : (c : ℕ) (records : List Record) (q : OpenQuery) (k : ℕ) → waiting_part c records q ≡ Some k → (asked_place c q ≡ Some k) × (q.place < length records)
waiting_asked c records q k is = by records q.place is
  where
    by : (rs : List Record) (n : ℕ) → part_there (slice_get rs n) c q ≡ Some k → (asked_place c q ≡ Some k) × (n < length rs)
    by [] n found = absurd (cc)
    by (r ∷ rs) zero found = (found, omega arith)
    by (r ∷ rs) (suc n) found = let rest = by rs n found in (rest.0, let l = rest.1 in omega (arith, l))

-- the query of a number that is found
pub stands_query : (c : ℕ) (records : List Record) (es : List (ℕ × OpenQuery)) (n : ℕ) (a : Awaited) → awaited_at c records es n ≡ Some a
    → (q : OpenQuery) × (lookup (is_at (nat_cmp n)) es ≡ Some q) × (asked_place c q ≡ Some a.part) × (q.place < length records)
stands_query c records es n a is = by (lookup (is_at (nat_cmp n)) es) refl is
  where
    part_is : (q : OpenQuery) (o : Option ℕ) → option_map (λ k. let x : Awaited = record { number = n; part = k } in x) o ≡ Some a → o ≡ Some a.part
    part_is q None k = absurd (cc)
    part_is q (Some p) k = let same : (let x : Awaited = record { number = n; part = p } in x) ≡ a = cc in ap (λ (x : Awaited). Some x.part) same

    by : (o : Option OpenQuery) → lookup (is_at (nat_cmp n)) es ≡ o → awaited_in c records n o ≡ Some a
        → (q : OpenQuery) × (o ≡ Some q) × (asked_place c q ≡ Some a.part) × (q.place < length records)
    by None none found = absurd (cc)
    by (Some q) at found =
        let asked = waiting_asked c records q a.part (part_is q (waiting_part c records q) found) in
        (q, refl, asked.0, asked.1)

found_named : (ids : List IdPlace) (n : ℕ) (q : OpenQuery) (es : List (ℕ × OpenQuery)) → lookup (is_at (nat_cmp n)) es ≡ Some q → AreQueriesNamed ids es → All (IsPartNamed ids n) q.parts
found_named ids n q [] is all = absurd (cc)
found_named ids n q (e ∷ es) is all = by (is_at (nat_cmp n) e.0) refl is (λ found. found_named ids n q es found (All-tail (IsQueryNamed ids) e es all))
  where
    by : (b : Bool) → is_at (nat_cmp n) e.0 ≡ b → cond b (Some e.1) (lookup (is_at (nat_cmp n)) es) ≡ Some q → (lookup (is_at (nat_cmp n)) es ≡ Some q → All (IsPartNamed ids n) q.parts) → All (IsPartNamed ids n) q.parts
    by true same found rest =
        let here : e.1 ≡ q = cc in
        subst (λ (x : OpenQuery). All (IsPartNamed ids n) x.parts) here (subst (λ k. All (IsPartNamed ids k) e.1.parts) (is_number e.0 n same) (All-head (IsQueryNamed ids) e es all))
    by false other found rest = rest found

-- what waits is named by the correlationId
pub waiting_named : (ids : List IdPlace) (c : ℕ) (records : List Record) (es : List (ℕ × OpenQuery)) → AreQueriesNamed ids es → (n : ℕ) (a : Awaited) → awaited_at c records es n ≡ Some a → Contains ids (id_at c n)
waiting_named ids c records es all n a is =
    let found = stands_query c records es n a is in
    some_passes (is_asked_under c) (IsPartNamed ids n) (Contains ids (id_at c n)) found.0.parts (place_within (is_asked_under c) found.0.parts a.part found.2).0 (found_named ids n found.0 es found.1 all) (asked_named ids n c)

-- so what is found by the index is the first one
pub found_first : (ids : List IdPlace) (c : ℕ) (records : List Record) (es : List (ℕ × OpenQuery)) (old new numbers : List ℕ) (found o : Option Awaited) → IsStrictlySortedBy nat_cmp (keys_of es) → AreQueriesNamed ids es
    → ((p : ℕ) → Contains new p ↔ (Contains old p ⊎ Contains ids (id_at c p))) → numbers ≡ new → found ≡ least_awaited c records es None numbers → found ≡ o
    → first_awaited c records es ≡ o
found_first ids c records es old new numbers found o sorted all noted is least so =
    sym (least_first c records es numbers sorted (λ n a at. subst (λ xs. Contains xs n) (sym is) ((noted n).1 (inr (waiting_named ids c records es all n a at))))) ∙ (sym least ∙ so)

-- and it is there
pub first_there : (c : ℕ) (records : List Record) (es : List (ℕ × OpenQuery)) (f : Awaited) → IsStrictlySortedBy nat_cmp (keys_of es) → first_awaited c records es ≡ Some f → lookup (is_at (nat_cmp f.number)) es ≡ None → ⊥
first_there c records es f sorted first none =
    let there = (stands_query c records es f.number f (first_stands c records es f sorted first)).1 in
    absurd (let is = sym none ∙ there in cc)

pub part_within : (c : ℕ) (records : List Record) (es : List (ℕ × OpenQuery)) (f : Awaited) (q : OpenQuery) → IsStrictlySortedBy nat_cmp (keys_of es) → first_awaited c records es ≡ Some f → lookup (is_at (nat_cmp f.number)) es ≡ Some q
    → f.part < length q.parts
part_within c records es f q sorted first at =
    let stands = stands_query c records es f.number f (first_stands c records es f sorted first) in
    let same : stands.0 ≡ q = (let is = sym stands.1 ∙ at in cc) in
    let within = place_within (is_asked_under c) stands.0.parts f.part stands.2 in
    subst (λ (x : OpenQuery). f.part < length x.parts) same (let low = within.0 in let at_place = within.1 in omega (arith, low, at_place))
