-- An object with a list of rows in it.
use Rattle.std.proofs.Common.{◌≡◌, ◌≤◌, ℕ, List, [], ◌∷◌, Ordering, Less, Equal, Greater, nat_cmp, Bool, false, ◌||◌, refl, arith}
use Rattle.std.specs.Cmp.Lexicographic.{slice_cmp}
use Rattle.std.specs.List.{AllByRecursion}
use Rattle.std.specs.Ordering.{match_ordering}
use Rattle.serde_json.specs.Data.{Data, Members, no_members, member, put, depth, items_depth, members_depth}
use Rattle.serde_json.specs.View.{items_of}
use Rattle.serde_json.specs.Written.{has_float, items_have_float, members_have_float}

-- nothing is deeper than this, and there is no float
pub record IsWithin (most : ℕ) (ms : Members) : Type 0 where
  pub shallow : members_depth ms ≤ most
  pub exact : members_have_float ms ≡ false

-- an object with nothing but numbers, texts and flags in it
pub record IsFlatRow (d : Data) : Type 0 where
  pub shallow : depth d ≤ 1
  pub exact : has_float d ≡ false

neither : (a b : Bool) → a ≡ false → b ≡ false → (a || b) ≡ false
neither a b h e = grind arith

first_of : (a b : Bool) → (a || b) ≡ false → a ≡ false
first_of a b h = grind arith

second_of : (a b : Bool) → (a || b) ≡ false → b ≡ false
second_of a b h = grind arith

pub rows_shallow : (rows : List Data) → AllByRecursion IsFlatRow rows → items_depth (items_of rows) ≤ 1
rows_shallow [] h = omega arith
rows_shallow (d ∷ ds) h = let later = rows_shallow ds h.1 in let here = h.0.shallow in omega (arith, later, here)

pub rows_exact : (rows : List Data) → AllByRecursion IsFlatRow rows → items_have_float (items_of rows) ≡ false
rows_exact [] h = refl
rows_exact (d ∷ ds) h = neither (has_float d) (items_have_float (items_of ds)) h.0.exact (rows_exact ds h.1)

within_member : (most : ℕ) (k : List ℕ) (d : Data) (ms : Members) → depth d ≤ most → has_float d ≡ false → IsWithin most ms → IsWithin most (member k d ms)
within_member most k d ms low exact p = let shallow = p.shallow in record { shallow = omega (arith, low, shallow); exact = neither (has_float d) (members_have_float ms) exact p.exact }

within_rest : (most : ℕ) (k : List ℕ) (d : Data) (ms : Members) → IsWithin most (member k d ms) → IsWithin most ms
within_rest most k d ms p = let shallow = p.shallow in record { shallow = omega (arith, shallow); exact = second_of (has_float d) (members_have_float ms) p.exact }

within_choice : (most : ℕ) (o : Ordering) (a b c : Members) → IsWithin most a → IsWithin most b → IsWithin most c → IsWithin most (match_ordering o a b c)
within_choice most Less a b c p q r = p
within_choice most Equal a b c p q r = q
within_choice most Greater a b c p q r = r

pub within_put : (most : ℕ) (k : List ℕ) (d : Data) (ms : Members) → depth d ≤ most → has_float d ≡ false → IsWithin most ms → IsWithin most (put k d ms)
within_put most k d no_members low exact p = within_member most k d no_members low exact p
within_put most k d (member l e ms) low exact p =
    let rest = within_rest most l e ms p in
    let shallow = p.shallow in
    let first_low : depth e ≤ most = omega (arith, shallow) in
    let first_exact = first_of (has_float e) (members_have_float ms) p.exact in
    within_choice most (slice_cmp nat_cmp k l) _ _ _ (within_member most k d (member l e ms) low exact p) (within_member most l d ms low exact rest) (within_member most l e _ first_low first_exact (within_put most k d ms low exact rest))
