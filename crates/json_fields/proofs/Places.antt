-- Where a key belongs among members.
use Rattle.std.proofs.Common.{◌≡◌, ◌<◌, ◌≤◌, ℕ, zero, suc, List, [], ◌∷◌, true, false, cond, length, drop, get_or, nat_lt, refl, ap, subst, arith}
use Rattle.json_fields.specs.Ranks.{rank_of}
use Rattle.json_fields.specs.Members.{place_in}
use Rattle.json_fields.specs.declared.key.Key.{Key}
use Rattle.json_fields.specs.declared.member.Member.{Member}

-- the place is found further on where the key of the member there stands before
pub place_further : (key : Key) (ms : List Member) (i : ℕ) (m : Member) → i < length ms → m ≡ get_or ms i m → rank_of m.key < rank_of key → place_in key (drop i ms) ≡ suc (place_in key (drop (suc i) ms))
unfolding place_in
place_further key [] i m low is before = absurd (omega (arith, low))
place_further key (x ∷ ms) zero m low is before = subst (λ (z : Member). cond (nat_lt (rank_of z.key) (rank_of key)) (suc (place_in key ms)) 0 ≡ suc (place_in key ms)) is (ap (λ b. cond b (suc (place_in key ms)) 0) (is_before before))
  where
    is_before : {a b : ℕ} → a < b → nat_lt a b ≡ true
    is_before h = grind (arith, h)
place_further key (x ∷ ms) (suc i) m low is before = place_further key ms i m (omega (arith, low)) is before

-- it is found where the key of the member there doesn't
pub place_here : (key : Key) (ms : List Member) (i : ℕ) (m : Member) → i < length ms → m ≡ get_or ms i m → rank_of key ≤ rank_of m.key → place_in key (drop i ms) ≡ 0
unfolding place_in
place_here key [] i m low is behind = absurd (omega (arith, low))
place_here key (x ∷ ms) zero m low is behind = subst (λ (z : Member). cond (nat_lt (rank_of z.key) (rank_of key)) (suc (place_in key ms)) 0 ≡ 0) is (ap (λ b. cond b (suc (place_in key ms)) 0) (is_behind behind))
  where
    is_behind : {a b : ℕ} → b ≤ a → nat_lt a b ≡ false
    is_behind h = grind (arith, h)
place_here key (x ∷ ms) (suc i) m low is behind = place_here key ms i m (omega (arith, low)) is behind

pub place_last : (key : Key) (ms : List Member) (i : ℕ) → length ms ≤ i → place_in key (drop i ms) ≡ 0
unfolding place_in
place_last key [] zero past = refl
place_last key [] (suc i) past = refl
place_last key (x ∷ ms) zero past = absurd (omega (arith, past))
place_last key (x ∷ ms) (suc i) past = place_last key ms i (omega (arith, past))
