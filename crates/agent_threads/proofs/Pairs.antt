-- Meeting one pair after another is meeting all at once.
use Rattle.std.proofs.Common.{ℕ, ◌≡◌, List, [], ◌∷◌, ◌++◌, inl, inr, refl, sym, ap, ap₂, ◌∙◌, subst, map}
use Rattle.std.proofs.lemmas.Bool.{cases_eq}
use Rattle.nsi_primitive.specs.declared.message.Parcel.{Parcel}
use Rattle.agent_node.specs.Doors.{Door, change_first}
use Rattle.agent_node.specs.Passing.{others, let_through, learns}
use Rattle.agent_node.specs.Seat.{Seat}
use Rattle.agent_node.specs.Meetings.{met}
use Rattle.agent_node.proofs.Joints.{change_nil, change_here, change_there, through_here, through_there}
use Rattle.nsi_play.specs.Rounds.{Net, meets_each, meets_all, met_all}
use Rattle.agent_threads.specs.Nets.{numbers, IsAbsent, AreApart}
use Rattle.agent_threads.specs.Made.{met_by_each}

-- what one learns changes nothing of what was let through to another
through_learns : (a b : ℕ) (ps : List Parcel) (ds : List Door) → (a ≡ b → ⊥) → let_through b (change_first a (learns ps) ds) ≡ let_through b ds
through_learns a b ps [] n = ap (let_through b) (change_nil a (learns ps))
through_learns a b ps (x ∷ xs) n = elim (cases_eq x.other a) [
  | inl e ↦ ap (let_through b) (change_here a (learns ps) x xs e) ∙ (through_there b (learns ps x) xs (λ q. n (sym e ∙ q)) ∙ sym (through_there b x xs (λ q. n (sym e ∙ q))))
  | inr m ↦ ap (let_through b) (change_there a (learns ps) x xs m) ∙ elim (cases_eq x.other b) [
    | inl e ↦ through_here b x (change_first a (learns ps) xs) e ∙ sym (through_here b x xs e)
    | inr k ↦ through_there b x (change_first a (learns ps) xs) k ∙ (through_learns a b ps xs n ∙ sym (through_there b x xs k))
  ]
]

commute : (a b : ℕ) (ps qs : List Parcel) (ds : List Door) → (a ≡ b → ⊥) → change_first a (learns ps) (change_first b (learns qs) ds) ≡ change_first b (learns qs) (change_first a (learns ps) ds)
commute a b ps qs [] n = ap (change_first a (learns ps)) (change_nil b (learns qs)) ∙ (change_nil a (learns ps) ∙ sym (ap (change_first b (learns qs)) (change_nil a (learns ps)) ∙ change_nil b (learns qs)))
commute a b ps qs (x ∷ xs) n = elim (cases_eq x.other a) [
  | inl e ↦
      let m : x.other ≡ b → ⊥ = λ q. n (sym e ∙ q) in
      ap (change_first a (learns ps)) (change_there b (learns qs) x xs m) ∙ (change_here a (learns ps) x (change_first b (learns qs) xs) e
      ∙ sym (ap (change_first b (learns qs)) (change_here a (learns ps) x xs e) ∙ change_there b (learns qs) (learns ps x) xs m))
  | inr m ↦ elim (cases_eq x.other b) [
    | inl e ↦
        ap (change_first a (learns ps)) (change_here b (learns qs) x xs e) ∙ (change_there a (learns ps) (learns qs x) xs m
        ∙ sym (ap (change_first b (learns qs)) (change_there a (learns ps) x xs m) ∙ change_here b (learns qs) x (change_first a (learns ps) xs) e))
    | inr k ↦
        ap (change_first a (learns ps)) (change_there b (learns qs) x xs k) ∙ (change_there a (learns ps) x (change_first b (learns qs) xs) m
        ∙ (ap (λ ys. x ∷ ys) (commute a b ps qs xs n)
        ∙ sym (ap (change_first b (learns qs)) (change_there a (learns ps) x xs m) ∙ change_there b (learns qs) x (change_first a (learns ps) xs) k)))
  ]
]

no_door : (a : ℕ) (f : Door → Door) (ds : List Door) → IsAbsent a (others ds) → change_first a f ds ≡ ds
no_door a f [] h = change_nil a f
no_door a f (x ∷ xs) h = change_there a f x xs (λ e. h.0 (sym e)) ∙ ap (λ ys. x ∷ ys) (no_door a f xs h.1)

---- Two agents

met_number : (o s : Seat) → (met o s).number ≡ s.number
unfolding met
met_number o s = refl

met_commute : (x o s : Seat) → (x.number ≡ o.number → ⊥) → met x (met o s) ≡ met o (met x s)
unfolding met
met_commute x o s n = ap (λ ds. record s { doors = ds }) (commute x.number o.number (let_through s.number x.doors) (let_through s.number o.doors) s.doors n)

met_from : (x o s : Seat) → (o.number ≡ x.number → ⊥) → met (met o s) x ≡ met s x
unfolding met
met_from x o s n = ap (λ ps. record x { doors = change_first s.number (learns ps) x.doors }) (through_learns o.number x.number (let_through s.number o.doors) s.doors n)

met_self : (s : Seat) → IsAbsent s.number (others s.doors) → met s s ≡ s
unfolding met
met_self s h = ap (λ ds. record s { doors = ds }) (no_door s.number (learns (let_through s.number s.doors)) s.doors h)

---- One and the others

meets_number : (s : Seat) (os : Net) → (meets_each s os).number ≡ s.number
unfolding meets_each
meets_number s [] = refl
meets_number s (o ∷ os) = meets_number (met o s) os ∙ met_number o s

meets_later : (x s : Seat) (os : Net) → IsAbsent x.number (numbers os) → met x (meets_each s os) ≡ meets_each (met x s) os
unfolding meets_each
meets_later x s [] h = refl
meets_later x s (o ∷ os) h = meets_later x (met o s) os h.1 ∙ ap (λ z. meets_each z os) (met_commute x o s h.0)

meets_from : (x s : Seat) (os : Net) → IsAbsent x.number (numbers os) → met (meets_each s os) x ≡ met s x
unfolding meets_each
meets_from x s [] h = refl
meets_from x s (o ∷ os) h = meets_from x (met o s) os h.1 ∙ met_from x o s (λ e. h.0 (sym e))

learns_only : (a : ℕ) (s : Seat) (ss os : Net) → s.number ≡ a → IsAbsent a (numbers ss) → meets_each s (map (meets_all ss) os) ≡ meets_each s os
unfolding meets_each
learns_only a s ss [] e h = refl
learns_only a s ss (o ∷ os) e h =
    ap (λ z. meets_each z (map (meets_all ss) os)) (meets_from s o ss (subst (λ n. IsAbsent n (numbers ss)) (sym e) h))
    ∙ learns_only a (met o s) ss os (met_number o s ∙ e) h

met_by_later : (o s : Seat) (xs : Net) → IsAbsent o.number (numbers xs) → met_by_each (met o s) xs ≡ met_by_each s xs
unfolding met_by_each
met_by_later o s [] h = refl
met_by_later o s (x ∷ xs) h =
    ap (λ z. z ∷ met_by_each (met x (met o s)) xs) (met_from x o s h.0)
    ∙ ap (λ zs. met s x ∷ zs) (ap (λ z. met_by_each z xs) (met_commute x o s (λ e. h.0 (sym e))) ∙ met_by_later o (met x s) xs h.1)

numbers_meets : (ss os : Net) → numbers (map (meets_all ss) os) ≡ numbers os
numbers_meets ss [] = refl
numbers_meets ss (o ∷ os) = ap (λ n. n ∷ numbers (map (meets_all ss) os)) (meets_number o ss) ∙ ap (λ ns. o.number ∷ ns) (numbers_meets ss os)

met_by_all : (s : Seat) (ss os : Net) → IsAbsent s.number (numbers ss) → AreApart os → met_by_each s (map (meets_all ss) os) ≡ map (λ o. meets_each (met s o) ss) os
unfolding met_by_each
met_by_all s ss [] h m = refl
met_by_all s ss (o ∷ os) h m =
    ap (λ z. z ∷ met_by_each (met (meets_each o ss) s) (map (meets_all ss) os)) (meets_later s o ss h)
    ∙ ap (λ zs. meets_each (met s o) ss ∷ zs)
    (ap (λ z. met_by_each z (map (meets_all ss) os)) (meets_from s o ss h)
    ∙ (met_by_later o s (map (meets_all ss) os) (subst (λ ns. IsAbsent o.number ns) (sym (numbers_meets ss os)) m.0) ∙ met_by_all s ss os h m.1.1))

---- All

meets_append : (o : Seat) (ss : Net) (s : Seat) → meets_each o (ss ++ s ∷ []) ≡ met s (meets_each o ss)
unfolding meets_each
meets_append o [] s = refl
meets_append o (x ∷ xs) s = meets_append (met x o) xs s

all_append : (all : Net) (s : Seat) (os : Net) → IsAbsent s.number (numbers all) → map (meets_all (all ++ s ∷ [])) os ≡ map (λ o. meets_each (met s o) all) os
all_append all s [] h = refl
all_append all s (o ∷ os) h = ap₂ ◌∷◌ (meets_append o all s ∙ meets_later s o all h) (all_append all s os h)

map_append : (f : Seat → Seat) (ss : Net) (s : Seat) → map f (ss ++ s ∷ []) ≡ map f ss ++ f s ∷ []
map_append f [] s = refl
map_append f (x ∷ xs) s = ap (λ ys. f x ∷ ys) (map_append f xs s)

-- all have met, and then one more meets each of them
pub met_more : (ss : Net) (s : Seat) → IsAbsent s.number (numbers ss) → IsAbsent s.number (others s.doors) → AreApart ss → met_all (ss ++ s ∷ []) ≡ met_by_each s (met_all ss) ++ meets_each s (met_all ss) ∷ []
met_more ss s n d a =
    let here : meets_each s (ss ++ s ∷ []) ≡ meets_each s (met_all ss) =
    meets_append s ss s ∙ (meets_later s s ss n ∙ (ap (λ z. meets_each z ss) (met_self s d) ∙ sym (learns_only s.number s ss ss refl n))) in
    map_append (meets_all (ss ++ s ∷ [])) ss s
    ∙ ap₂ (λ (x : Net) (y : Seat). x ++ y ∷ []) (all_append ss s ss n ∙ sym (met_by_all s ss ss n a)) here
