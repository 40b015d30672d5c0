-- A meeting of two ends at which nothing was let through and nothing lies changes nothing.
use Rattle.std.proofs.Common.{ℕ, ◌≡◌, List, [], ◌∷◌, true, ◌==◌, refl, sym, ap, ◌∙◌, eq-eqb, ne_eqb, inl, inr, length, arith}
use Rattle.std.proofs.lemmas.Bool.{cases_eq}
use Rattle.nsi_primitive.specs.declared.message.Parcel.{Parcel}
use Rattle.agent_node.specs.declared.links.Link.{Link}
use Rattle.agent_node.specs.Doors.{Door, change_first}
use Rattle.agent_node.specs.Passing.{let_through, learns, is_still, all_still, is_still_to}
use Rattle.agent_node.specs.Linked.{doors}
use Rattle.agent_node.proofs.Joints.{change_nil, change_here, change_there, through_nil, through_here, through_there}

pub none_moved : (ls : List Link) → length ls ≡ 0 → all_still (doors ls) ≡ true
none_moved [] e = refl
none_moved (l ∷ ls) e = absurd (omega (arith, e))

---- The first door to an agent

still_nil : (n : ℕ) → is_still_to n [] ≡ true
unfolding is_still_to
still_nil n = refl

pub none_still : (n : ℕ) (ls : List Link) → length ls ≡ 0 → is_still_to n (doors ls) ≡ true
none_still n [] e = still_nil n
none_still n (l ∷ ls) e = absurd (omega (arith, e))

pub still_here : (n : ℕ) (d : Door) (ds : List Door) → d.other ≡ n → is_still_to n (d ∷ ds) ≡ is_still d
unfolding is_still_to
still_here n d ds e = rw (eq-eqb d.other n e) refl

pub still_there : (n : ℕ) (d : Door) (ds : List Door) → (d.other ≡ n → ⊥) → is_still_to n (d ∷ ds) ≡ is_still_to n ds
unfolding is_still_to
still_there n d ds e = rw (ne_eqb d.other n e) refl

first_still : (d : Door) (ds : List Door) → all_still (d ∷ ds) ≡ true → is_still d ≡ true
first_still d ds e = grind (arith, e)

rest_still : (d : Door) (ds : List Door) → all_still (d ∷ ds) ≡ true → all_still ds ≡ true
rest_still d ds e = grind (arith, e)

pub all_still_to : (n : ℕ) (ds : List Door) → all_still ds ≡ true → is_still_to n ds ≡ true
all_still_to n [] e = still_nil n
all_still_to n (d ∷ ds) e = elim (cases_eq d.other n) [
  | inl h ↦ still_here n d ds h ∙ first_still d ds e
  | inr h ↦ still_there n d ds h ∙ all_still_to n ds (rest_still d ds e)
]

---- Meetings

none_at : (ps : List Parcel) → (length ps == 0) ≡ true → ps ≡ []
none_at [] e = refl
none_at (p ∷ ps) e = absurd (grind (arith, e))

out_none : (d : Door) → is_still d ≡ true → d.out ≡ []
out_none d e = none_at d.out (grind (arith, e))

inc_none : (d : Door) → is_still d ≡ true → d.inc ≡ []
inc_none d e = none_at d.inc (grind (arith, e))

learns_none : (d : Door) → is_still d ≡ true → learns [] d ≡ d
learns_none d e = ap (λ (ps : List Parcel). record d { inc = ps; out = [] }) (sym (inc_none d e)) ∙ ap (λ (ps : List Parcel). record d { out = ps }) (sym (out_none d e))

through_still : (n : ℕ) (ds : List Door) → is_still_to n ds ≡ true → let_through n ds ≡ []
through_still n [] e = through_nil n
through_still n (d ∷ ds) e = elim (cases_eq d.other n) [
  | inl h ↦ through_here n d ds h ∙ out_none d (sym (still_here n d ds h) ∙ e)
  | inr h ↦ through_there n d ds h ∙ through_still n ds (sym (still_there n d ds h) ∙ e)
]

learns_still : (n : ℕ) (ds : List Door) → is_still_to n ds ≡ true → change_first n (learns []) ds ≡ ds
learns_still n [] e = change_nil n (learns [])
learns_still n (d ∷ ds) e = elim (cases_eq d.other n) [
  | inl h ↦ change_here n (learns []) d ds h ∙ ap (λ x. x ∷ ds) (learns_none d (sym (still_here n d ds h) ∙ e))
  | inr h ↦ change_there n (learns []) d ds h ∙ ap (λ xs. d ∷ xs) (learns_still n ds (sym (still_there n d ds h) ∙ e))
]

-- what an end is after a meeting in which nothing is to be learnt
pub still_ends_meet : (n m : ℕ) (ds es : List Door) → is_still_to n ds ≡ true → is_still_to m es ≡ true → ds ≡ change_first n (learns (let_through m es)) ds
still_ends_meet n m ds es e f = sym (ap (λ (ps : List Parcel). change_first n (learns ps) ds) (through_still m es f) ∙ learns_still n ds e)
