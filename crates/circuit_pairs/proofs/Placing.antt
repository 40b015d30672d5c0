-- The record that a view knows by its id is the one that its child finds.
use Rattle.std.proofs.Common.{ℕ, ◌≡◌, ◌≤◌, ◌<◌, ◌∙◌, Bool, true, false, List, ◌==◌, ◌&&◌, Option, Some, None, length, true≢false, refl, sym, ap, arith, bytes_eq, eq-eqb, eqb-true}
use Rattle.std.proofs.lemmas.Slice.Eq.{bytes_eq-Decides}
use Rattle.std.specs.List.{position_or_len}
use Rattle.std.proofs.lemmas.Grind.{common_steps}
use Rattle.std.proofs.lemmas.List.Sums.{fails_before_first}
use Rattle.std.proofs.lemmas.List.Quantifiers.{position-Some}
use Rattle.child_connection.specs.Views.{ChildConnection}
use Rattle.connection_record.specs.declared.record.Record.{Record}
use Rattle.connection_record.specs.Refusal.{place_of}
use Rattle.agent_state.specs.State.{record_at, no_record}
use Rattle.circuit_link.specs.Children.{Child, IsFair}
use Rattle.circuit_link.specs.Mates.{IsMate}

-- the first record that passes is that one, where no other one has its id
abbrev its_own : ℕ → List ℕ → Record → Bool
its_own id parent r = (id == r.id) && bytes_eq parent r.owner

found_first : (id n : ℕ) (parent : List ℕ) (rs : List Record) (o : Option ℕ) → place_of id parent rs ≡ o → n < length rs → its_own id parent (record_at n rs) ≡ true →
    ((k : ℕ) → k < length rs → its_own id parent (record_at k rs) ≡ true → k ≡ n) → o ≡ Some n
found_first id n parent rs (Some k) e l q one =
    let (m, p, f) = position-Some (its_own id parent) rs k no_record e in
    ap Some (one k m p)
found_first id n parent rs None e l q one =
    let long : length rs ≤ position_or_len (its_own id parent) rs = grind (arith, common_steps, e) in
    absurd (true≢false (sym q ∙ fails_before_first (its_own id parent) rs n no_record (omega (arith, l, long))))

both : (a b : Bool) → a ≡ true → b ≡ true → (a && b) ≡ true
both a b e f = rw (e, f) refl

first_of : (a b : Bool) → (a && b) ≡ true → a ≡ true
first_of true b h = refl
first_of false b h = absurd (cc)

owns : (id : ℕ) (parent : List ℕ) (r : Record) → r.id ≡ id → r.owner ≡ parent → its_own id parent r ≡ true
owns id parent r e f = both (id == r.id) (bytes_eq parent r.owner) (eq-eqb id r.id (sym e)) ((bytes_eq-Decides parent r.owner).1 (sym f))

has_id : (id : ℕ) (parent : List ℕ) (r : Record) → its_own id parent r ≡ true → r.id ≡ id
has_id id parent r e = sym (eqb-true id r.id (first_of (id == r.id) (bytes_eq parent r.owner) e))

pub mate_placed : (parent child : List ℕ) (x : ChildConnection) (place : Option ℕ) (d : Child) → IsFair parent child d → IsMate parent child x place d → (id : ℕ) → x.connection ≡ Some id →
    (n : ℕ) × (place ≡ Some n) × (place_of id parent d.records ≡ Some n)
mate_placed parent child x place d fair mate id e =
    let (n, p, q) = mate.seated.known id e in
    let (l, s) = mate.seated.seated n p in (
      n,
      p,
      found_first id n parent d.records (place_of id parent d.records) refl l (owns id parent (record_at n d.records) q s)
          (λ k m o. fair.ids k n m l (has_id id parent (record_at k d.records) o ∙ sym q)),
    )
