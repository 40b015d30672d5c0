-- Where ids rise, a search finds the record of an id.
use Rattle.std.proofs.Common.{◌≡◌, ◌≢◌, ◌≤◌, ◌<◌, ◌+◌, ◌⊎◌, inl, inr, ℕ, zero, suc, Bool, true, false, cond, eqb, ◌&&◌, bytes_eq, Option, Some, None, List, [], ◌∷◌, length, get_or, refl, sym, ap, ◌∙◌, arith, slice_get, unwrap_or, Ok, Err}
use Rattle.std.specs.List.{position_from}
use Rattle.std.specs.Option.{option_map_or}
use Rattle.std.specs.List.Sorted.{IsNonDecreasingBy, IsBinarySearchResult}
use Rattle.std.specs.Ordering.{nat_cmp, ordering_index}
use Rattle.std.proofs.lemmas.Cmp.{ranked}
use Rattle.std.proofs.lemmas.List.Sorted.{IsNonDecreasingBy-from_default}
use Rattle.std.proofs.lemmas.Option.{slice_get-get_or, slice_get_within, get_or_from_slice_get}
use Rattle.std.proofs.lemmas.Iterator.Adapters.{position_from-zero}
use Rattle.std.proofs.lemmas.Bool.{cases_lt}
use Rattle.std.proofs.lemmas.Bool.Decides.{nat_tests}
use Rattle.connection_record.specs.declared.record.Record.{Record}
use Rattle.connection_record.specs.Refusal.{place_of}
use Rattle.provider_agent.specs.State.{no_record}
use Rattle.provider_agent.specs.Good.{AreOrdered}
use Rattle.provider_agent.proofs.Keeping.{by_number}

position_at : {X : Type 0} (test : X → Bool) (k i : ℕ) (xs : List X) (x : X) → slice_get xs i ≡ Some x → test x ≡ true → ((j : ℕ) (y : X) → j < i → slice_get xs j ≡ Some y → test y ≡ false) → position_from test k xs ≡ Some (k + i)
position_at test k i [] x at is before = cc
position_at test k zero (y ∷ ys) x at is before =
    let here : test y ≡ true = ap (λ o. option_map_or test o false) at ∙ is in
    let same : k ≡ k + 0 = omega arith in
    ap (λ b. cond b (Some k) (position_from test (k + 1) ys)) here ∙ ap Some same
position_at test k (suc i) (y ∷ ys) x at is before =
    ap (λ b. cond b (Some k) (position_from test (k + 1) ys)) (before 0 y (omega arith) refl)
    ∙ (position_at test (k + 1) i ys x at is (λ j z l e. before (suc j) z (omega arith) e) ∙ ap Some (further k i))
  where
    further : (a b : ℕ) → a + 1 + b ≡ a + suc b
    further a b = omega arith

position_none : {X : Type 0} (test : X → Bool) (k : ℕ) (xs : List X) → ((j : ℕ) (y : X) → slice_get xs j ≡ Some y → test y ≡ false) → position_from test k xs ≡ None
position_none test k [] never = refl
position_none test k (y ∷ ys) never = ap (λ b. cond b (Some k) (position_from test (k + 1) ys)) (never 0 y refl) ∙ position_none test (k + 1) ys (λ j z e. never (suc j) z e)

---- The record of an id

some_is : (a b : Record) → Some a ≡ Some b → a ≡ b
some_is a b e = ap (λ o. unwrap_or o a) e

strictly : (i j : ℕ) → i ≤ j → i ≢ j → i < j
strictly i j le d = grind arith

-- an id found at a place is at no other
module _ (agent next id : ℕ) (owner : List ℕ) (records : List Record) (ordered : AreOrdered agent next records) where
  abbrev test : Record → Bool
  test r = eqb id r.id && bytes_eq owner r.owner

  by_position : (o : Option ℕ) → position_from test 0 records ≡ o → place_of id owner records ≡ o
  by_position o e = position_from-zero test records ∙ e

  pub found_of_owner : (i : ℕ) (r : Record) → slice_get records i ≡ Some r → r.id ≡ id → bytes_eq owner r.owner ≡ true → place_of id owner records ≡ Some i
  found_of_owner i r at same own =
      by_position (Some i) (position_at test 0 i records r at (here r same own) (λ j y l e. other y (omega (arith, ordered.rise j i y r l e at, same))) ∙ ap Some (omega arith))
    where
      here : (r : Record) → r.id ≡ id → bytes_eq owner r.owner ≡ true → test r ≡ true
      here r same own = grind (arith, nat_tests)

      other : (y : Record) → y.id < id → test y ≡ false
      other y l = grind (arith, nat_tests)

  pub found_of_another : (i : ℕ) (r : Record) → slice_get records i ≡ Some r → r.id ≡ id → bytes_eq owner r.owner ≡ false → place_of id owner records ≡ None
  found_of_another i r at same own = by_position None (position_none test 0 records never)
    where
      apart : (y : Record) → y.id ≢ id → test y ≡ false
      apart y d = grind (arith, nat_tests)

      mine : (y : Record) → y ≡ r → test y ≡ false
      mine y e = grind (arith, nat_tests)

      differs : (j : ℕ) (y : Record) → slice_get records j ≡ Some y → j ≢ i → y.id ≢ id
      differs j y e d s = by_order (cases_lt j i)
        where
          by_order : (j < i) ⊎ (i ≤ j) → ⊥
          by_order (inl l) = omega (arith, ordered.rise j i y r l e at, same, s)
          by_order (inr l) = omega (arith, ordered.rise i j r y (strictly i j l (λ q. d (sym q))) at e, same, s)

      never : (j : ℕ) (y : Record) → slice_get records j ≡ Some y → test y ≡ false
      never j y e = by_number j i
          (λ s. mine y (some_is y r (sym e ∙ (ap (slice_get records) s ∙ at))))
          (λ d. apart y (differs j y e d))

  pub found_nowhere : ((j : ℕ) (y : Record) → slice_get records j ≡ Some y → y.id ≢ id) → place_of id owner records ≡ None
  found_nowhere never = by_position None (position_none test 0 records (λ j y e. apart y (never j y e)))
    where
      apart : (y : Record) → y.id ≢ id → test y ≡ false
      apart y d = grind (arith, nat_tests)

  at : (i : ℕ) → i < length records → slice_get records i ≡ Some (get_or records i no_record)
  at i l = slice_get-get_or records i no_record l

  id_at : ℕ → ℕ
  id_at i = (get_or records i no_record).id

  rises : (i j : ℕ) → i ≤ j → j < length records → (get_or records i no_record).id ≤ (get_or records j no_record).id
  rises i j le l =
      by_number i j (λ e. omega (arith, ap (λ k. (get_or records k no_record).id) e))
      (λ d. omega (arith, ordered.rise i j (get_or records i no_record) (get_or records j no_record) (strictly i j le d) (at i (omega arith)) (at j l)))

  -- the comparisons with the id rise along the records, as a binary search asks
  comparisons_rise : IsNonDecreasingBy (λ (r : Record). ordering_index (nat_cmp r.id id)) records
  comparisons_rise = IsNonDecreasingBy-from_default (λ (r : Record). ordering_index (nat_cmp r.id id)) records no_record (λ i j le l. higher _ _ (rises i j le l))
    where
      higher : (a b : ℕ) → a ≤ b → ordering_index (nat_cmp a id) ≤ ordering_index (nat_cmp b id)
      higher a b le = grind (arith, nat_tests)

  pub searched_at : (i : ℕ) → IsBinarySearchResult (λ (r : Record). nat_cmp r.id id) records (Ok i) → (d : Record) → (get_or records i d).id ≡ id
  searched_at i equal d = ranked _ id _ (sym (equal d))

  pub searched_nowhere : (i : ℕ) → i ≤ length records → IsBinarySearchResult (λ (r : Record). nat_cmp r.id id) records (Err i) → place_of id owner records ≡ None
  searched_nowhere i le parted = found_nowhere never
    where
      here : (j : ℕ) (y : Record) → slice_get records j ≡ Some y → j < length records
      here j y e = slice_get_within records j y e

      never : (j : ℕ) (y : Record) → slice_get records j ≡ Some y → y.id ≢ id
      never j y e s = by_order (cases_lt j i)
        where
          is : (get_or records j no_record).id ≡ y.id
          is = ap (λ (r : Record). r.id) (get_or_from_slice_get records j y no_record e)

          by_order : (j < i) ⊎ (i ≤ j) → ⊥
          by_order (inl l) = omega (arith, s, ranked _ id _ (sym ((parted comparisons_rise).0 j no_record (omega arith) l)), is)
          by_order (inr l) = omega (arith, s, ranked _ id _ (sym ((parted comparisons_rise).1 j no_record l (here j y e))), is)
