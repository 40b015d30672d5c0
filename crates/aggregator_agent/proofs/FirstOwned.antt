-- The first connection of an id and an owner, among places at which it may be.
use Rattle.std.proofs.Common.{◌≡◌, ◌∙◌, ◌<◌, ◌≤◌, ◌+◌, ℕ, true, false, cond, nat_lt, Some, None, List, [], ◌∷◌, length, get_or, refl, sym, ap, subst, arith, inl, inr}
use Rattle.std.specs.List.{position_or_len}
use Rattle.std.proofs.lemmas.Bool.{cases_lt}
use Rattle.std.proofs.lemmas.Bool.Decides.{nat_tests}
use Rattle.std.proofs.lemmas.List.Elements.{Contains-get_or}
use Rattle.std.proofs.lemmas.List.Sums.{position_or_len_is}
use Rattle.connection_record.specs.Refusal.{place_of}
use Rattle.aggregator_agent.specs.declared.connection.Connection.{Connection}
use Rattle.aggregator_agent.specs.Bonds.{bonds, records_of, is_owned}
use Rattle.aggregator_agent.specs.Finding.{AreOwned}
use Rattle.aggregator_agent.proofs.Edges.{edge, edge_next, no_place}
use Rattle.aggregator_agent.proofs.Quiet.{unless}
use Rattle.aggregator_agent.proofs.Refusing.{found_as}

-- none of the first ones is the owner's
abbrev pub IsPassed : ℕ → List ℕ → List Connection → List ℕ → ℕ → Type 0
IsPassed id owner xs ps i = (n : ℕ) (x : Connection) → n < edge ps i → n < length xs → is_owned id owner (get_or xs n x) ≡ false

pub passed_none : (id : ℕ) (owner : List ℕ) (xs : List Connection) (ps : List ℕ) → IsPassed id owner xs ps 0
passed_none id owner xs ps n x l m = absurd (omega (arith, l))

module _ (id : ℕ) (owner : List ℕ) (xs : List Connection) (ps : List ℕ) (are : AreOwned id owner xs ps) where
  pub place_within : (i : ℕ) → i < length ps → get_or ps i 0 < length xs
  place_within i l = are.within (get_or ps i 0) (Contains-get_or ps i 0 l)

  skipped : (i k : ℕ) → i ≤ length ps → (i < length ps → k ≤ get_or ps i 0) → IsPassed id owner xs ps i → (n : ℕ) (x : Connection) → n < k → n < length xs → is_owned id owner (get_or xs n x) ≡ false
  skipped i k le before passed n x m l = elim (cases_lt n (edge ps i)) [
    | inl less ↦ passed n x less l
    | inr ge ↦ unless (is_owned id owner (get_or xs n x)) (λ h. no_place ps i n are.rising le ge (λ more. let b = before more in omega (arith, b, m)) (are.all n x l h))
  ]

  pub passed_more : (i : ℕ) → i < length ps → IsPassed id owner xs ps i → ((x : Connection) → is_owned id owner (get_or xs (get_or ps i 0) x) ≡ false) → IsPassed id owner xs ps (i + 1)
  passed_more i l passed other n x m inside =
      let next = edge_next ps i in
      elim (cases_lt n (get_or ps i 0)) [
        | inl less ↦ skipped i (get_or ps i 0) (omega (arith, l)) (λ more. omega arith) passed n x less inside
        | inr ge ↦
            let e : n ≡ get_or ps i 0 = omega (arith, m, ge, next) in
            ap (λ k. is_owned id owner (get_or xs k x)) e ∙ other x
      ]

  pub first_owned : (i : ℕ) → i < length ps → IsPassed id owner xs ps i → ((x : Connection) → is_owned id owner (get_or xs (get_or ps i 0) x) ≡ true) → Some (get_or ps i 0) ≡ place_of id owner (records_of (bonds xs))
  first_owned i l passed mine = sym (ap (λ n. cond (nat_lt n (length xs)) (Some n) None) (first xs refl) ∙ there) ∙ found_as id owner xs
    where
      p : ℕ
      p = get_or ps i 0

      within : p < length xs
      within = place_within i l

      first : (ys : List Connection) → ys ≡ xs → position_or_len (is_owned id owner) xs ≡ p
      first [] e = absurd (let none : length xs ≡ 0 = ap length (sym e) in omega (arith, none, within))
      first (x ∷ ys) e = position_or_len_is (is_owned id owner) xs p x (omega (arith, within)) (λ k m. skipped i p (omega (arith, l)) (λ more. omega arith) passed k x m (omega (arith, m, within))) (λ _. mine x)

      there : cond (nat_lt p (length xs)) (Some p) None ≡ Some p
      there = grind (arith, nat_tests, within)

pub none_owned : (id : ℕ) (owner : List ℕ) (xs : List Connection) (ps : List ℕ) → AreOwned id owner xs ps → (i : ℕ) → i ≤ length ps → length ps ≤ i → IsPassed id owner xs ps i → None ≡ place_of id owner (records_of (bonds xs))
none_owned id owner xs ps are i le ge passed = sym (ap (λ n. cond (nat_lt n (length xs)) (Some n) None) (first xs refl) ∙ there) ∙ found_as id owner xs
  where
    first : (ys : List Connection) → ys ≡ xs → position_or_len (is_owned id owner) xs ≡ length xs
    first [] e = let none : length xs ≡ 0 = ap length (sym e) in subst (λ zs. position_or_len (is_owned id owner) zs ≡ length zs) e refl
    first (y ∷ ys) e = position_or_len_is (is_owned id owner) xs (length xs) y (omega arith) (λ k m. skipped id owner xs ps are i (length xs) le (λ more. absurd (omega (arith, more, ge))) passed k y m m) (λ m. absurd (omega (arith, m)))

    there : cond (nat_lt (length xs) (length xs)) (Some (length xs)) None ≡ None
    there = grind (arith, nat_tests)
