-- An agent meets one after another.
use Rattle.std.proofs.Common.{ℕ, zero, suc, ◌+◌, ◌<◌, ◌≤◌, ◌≡◌, List, [], ◌∷◌, ◌++◌, inl, inr, refl, sym, ap, ap₂, ◌∙◌, subst, arith, length, take, drop, get_or, slice_set, add-one, append-nil, get_or-set_same, get_or-set_other}
use Rattle.std.proofs.lemmas.Bool.{cases_eq, cases_lt}
use Rattle.std.proofs.lemmas.List.{drop_all, take_all}
use Rattle.agent_node.specs.Passing.{crossed}
use Rattle.agent_node.specs.Seat.{Seat}
use Rattle.agent_node.specs.Meetings.{met}
use Rattle.agent_node.specs.Kept.{Kept, plug, AreLinked}
use Rattle.nsi_play.specs.Rounds.{meets_each}
use Rattle.agent_threads.specs.Nets.{seats, numbers, IsAbsent, AreApart, IsLinkedToAll, plugs_to}
use Rattle.agent_threads.specs.Made.{Stays, met_by_each}
use Rattle.agent_threads.proofs.Places.{UpTo, same_default, len_set}

meets_suc : (s : Seat) (ks : List Kept) (i : ℕ) (d k : Kept) → i < length ks → meets_each (met (get_or ks i d).seat s) (seats (drop (suc i) (slice_set ks i k))) ≡ meets_each s (seats (drop i ks))
unfolding meets_each
meets_suc s [] i d k h = absurd (omega arith)
meets_suc s (x ∷ ks) zero d k h = refl
meets_suc s (x ∷ ks) (suc i) d k h = meets_suc s ks i d k (omega arith)

met_suc : (s : Seat) (ks : List Kept) (i : ℕ) (d k : Kept) → i < length ks → k.seat ≡ met s (get_or ks i d).seat
    → seats (take (suc i) (slice_set ks i k)) ++ met_by_each (met (get_or ks i d).seat s) (seats (drop (suc i) (slice_set ks i k))) ≡ seats (take i ks) ++ met_by_each s (seats (drop i ks))
unfolding met_by_each
met_suc s [] i d k h e = absurd (omega arith)
met_suc s (x ∷ ks) zero d k h e = ap (λ z. z ∷ met_by_each (met x.seat s) (seats ks)) e
met_suc s (x ∷ ks) (suc i) d k h e = ap (λ z. x.seat ∷ z) (met_suc s ks i d k (omega arith) e)

pub meets_next : (s : Seat) (ks : List Kept) (i : ℕ) (d k : Kept) → i < length ks → meets_each (met (get_or ks i d).seat s) (seats (drop (i + 1) (slice_set ks i k))) ≡ meets_each s (seats (drop i ks))
meets_next s ks i d k h = ap (λ n. meets_each (met (get_or ks i d).seat s) (seats (drop n (slice_set ks i k)))) (add-one i) ∙ meets_suc s ks i d k h

pub met_next : (s : Seat) (ks : List Kept) (i : ℕ) (d k : Kept) → i < length ks → k.seat ≡ met s (get_or ks i d).seat
    → seats (take (i + 1) (slice_set ks i k)) ++ met_by_each (met (get_or ks i d).seat s) (seats (drop (i + 1) (slice_set ks i k))) ≡ seats (take i ks) ++ met_by_each s (seats (drop i ks))
met_next s ks i d k h e = ap (λ n. seats (take n (slice_set ks i k)) ++ met_by_each (met (get_or ks i d).seat s) (seats (drop n (slice_set ks i k)))) (add-one i) ∙ met_suc s ks i d k h e

meets_none : (s : Seat) → meets_each s [] ≡ s
unfolding meets_each
meets_none s = refl

met_by_none : (s : Seat) → met_by_each s [] ≡ []
unfolding met_by_each
met_by_none s = refl

-- all are met
pub meets_end : {n : ℕ} (s : Seat) (ks : List Kept) (i : ℕ) → length ks ≡ n → n ≤ i → meets_each s (seats (drop i ks)) ≡ s
meets_end s ks i e h = ap (λ xs. meets_each s (seats xs)) (drop_all i ks (omega (arith, e))) ∙ meets_none s

pub met_end : {n : ℕ} (s : Seat) (ks : List Kept) (i : ℕ) → length ks ≡ n → n ≤ i → seats (take i ks) ++ met_by_each s (seats (drop i ks)) ≡ seats ks
met_end s ks i e h =
    ap (λ xs. seats (take i ks) ++ met_by_each s (seats xs)) (drop_all i ks (omega (arith, e)))
    ∙ (ap (λ xs. seats (take i ks) ++ xs) (met_by_none s) ∙ (append-nil (seats (take i ks)) ∙ ap seats (take_all i ks (omega (arith, e)))))

---- Links

-- the first one is linked to all, and only their wires to each other may have changed
pub record LinksTo (first now : Kept) (olds news : List Kept) : Type 0 where
  pub linked : (j : ℕ) (d : Kept) → j < length news → AreLinked now (get_or news j d)
  pub here : (m : ℕ) → IsAbsent m (numbers (seats olds)) → plug now m ≡ plug first m
  pub there : (m : ℕ) → (m ≡ first.seat.number → ⊥) → (j : ℕ) (d : Kept) → j < length news → plug (get_or news j d) m ≡ plug (get_or olds j d) m

linked_at : (a : Kept) (ks : List Kept) → IsLinkedToAll a ks → (j : ℕ) (d : Kept) → j < length ks → AreLinked a (get_or ks j d)
linked_at a [] l j d h = absurd (omega arith)
linked_at a (k ∷ ks) l zero d h = l.0
linked_at a (k ∷ ks) l (suc j) d h = linked_at a ks l.1 j d (omega arith)

linked_by : (a : Kept) (ks : List Kept) → ((j : ℕ) (d : Kept) → j < length ks → AreLinked a (get_or ks j d)) → IsLinkedToAll a ks
linked_by a [] f = tt
linked_by a (k ∷ ks) f = (f 0 k (omega arith), linked_by a ks (λ j d h. f (suc j) d (omega arith)))

pub links_none : (a : Kept) (ks : List Kept) → IsLinkedToAll a ks → LinksTo a a ks ks
links_none a ks l = record {
  linked = linked_at a ks l;
  here = λ m h. refl;
  there = λ m h j d b. refl;
}

pub links_all : (first now : Kept) (olds news : List Kept) → LinksTo first now olds news → IsLinkedToAll now news
links_all first now olds news l = linked_by now news l.linked

pub links_plugs : (first now : Kept) (olds news : List Kept) → LinksTo first now olds news → length news ≡ length olds → (m : ℕ) → (m ≡ first.seat.number → ⊥) → plugs_to m news ≡ plugs_to m olds
links_plugs first now olds news l e m n = by_places olds news e (l.there m n)
  where
    by_places : (os ns : List Kept) → length ns ≡ length os → ((j : ℕ) (d : Kept) → j < length ns → plug (get_or ns j d) m ≡ plug (get_or os j d) m) → plugs_to m ns ≡ plugs_to m os
    by_places [] [] e f = refl
    by_places [] (y ∷ ns) e f = absurd (omega (arith, e))
    by_places (x ∷ os) [] e f = absurd (omega (arith, e))
    by_places (x ∷ os) (y ∷ ns) e f = ap₂ ◌∷◌ (f 0 y (omega arith)) (by_places os ns (omega (arith, e)) (λ j d h. f (suc j) d (omega arith)))

number_at : (a : ℕ) (ks : List Kept) (j : ℕ) (d : Kept) → j < length ks → IsAbsent a (numbers (seats ks)) → a ≡ (get_or ks j d).seat.number → ⊥
number_at a [] j d h n e = absurd (omega arith)
number_at a (k ∷ ks) zero d h n e = n.0 e
number_at a (k ∷ ks) (suc j) d h n e = number_at a ks j d (omega arith) n.1 e

apart_at : (ks : List Kept) (i j : ℕ) (d e : Kept) → i < length ks → j < length ks → (j ≡ i → ⊥) → AreApart (seats ks) → (get_or ks j e).seat.number ≡ (get_or ks i d).seat.number → ⊥
apart_at [] i j d e h l n p q = absurd (omega arith)
apart_at (k ∷ ks) zero zero d e h l n p q = n refl
apart_at (k ∷ ks) zero (suc j) d e h l n p q = number_at k.seat.number ks j e (omega arith) p.0 (sym q)
apart_at (k ∷ ks) (suc i) zero d e h l n p q = number_at k.seat.number ks i d (omega arith) p.0 q
apart_at (k ∷ ks) (suc i) (suc j) d e h l n p q = apart_at ks i j d e (omega arith) (omega arith) (λ r. n (ap suc r)) p.1.1 q

-- the numbers are what they were
same_number : (olds news : List Kept) (i : ℕ) → UpTo Stays olds news i → (j : ℕ) (d : Kept) → j < length olds → (get_or news j d).seat.number ≡ (get_or olds j d).seat.number
same_number olds news i u j d h = elim (cases_lt j i) [
  | inl b ↦ (u.done j d b h).same.number
  | inr b ↦ ap (λ (k : Kept). k.seat.number) (u.rest j d b)
]

-- what a meeting leaves of the links of the two
pub record HasMetOne (old new now other : Kept) : Type 0 where
  pub linked : AreLinked now other
  pub number : now.seat.number ≡ old.seat.number
  pub here : (m : ℕ) → (m ≡ new.seat.number → ⊥) → plug now m ≡ plug old m
  pub there : (m : ℕ) → (m ≡ old.seat.number → ⊥) → plug other m ≡ plug new m

linked_later : (a b k : Kept) → b.seat.number ≡ a.seat.number → plug b k.seat.number ≡ plug a k.seat.number → AreLinked a k → AreLinked b k
linked_later a b k e f l = f ∙ (l ∙ ap (λ n. crossed (plug k n)) (sym e))

links_linked : (first old now other : Kept) (olds news : List Kept) (i : ℕ) (d : Kept) → UpTo Stays olds news i → LinksTo first old olds news → i < length news → AreApart (seats olds) → HasMetOne old (get_or news i d) now other
    → (j : ℕ) (e : Kept) → j < length (slice_set news i other) → AreLinked now (get_or (slice_set news i other) j e)
links_linked first old now other olds news i d u l h p m j e b = elim (cases_eq j i) [
  | inl q ↦ subst (λ (k : Kept). AreLinked now k) (sym (ap (λ n. get_or (slice_set news i other) n e) q ∙ get_or-set_same news i other e h)) m.linked
  | inr n ↦
      let k : Kept = get_or news j e in
      let inside : j < length news = omega (arith, b, len_set news i other) in
      let a : i < length olds = omega (arith, h, u.len) in
      let c : j < length olds = omega (arith, inside, u.len) in
      let far : k.seat.number ≡ (get_or news i d).seat.number → ⊥ =
      λ q. apart_at olds i j d e a c n p (sym (same_number olds news i u j e c) ∙ (q ∙ same_number olds news i u i d a)) in
      subst (λ (z : Kept). AreLinked now z) (sym (get_or-set_other news i j other e n)) (linked_later old now k m.number (m.here k.seat.number far) (l.linked j e inside))
]

links_there : (first old now other : Kept) (olds news : List Kept) (i : ℕ) (d : Kept) → LinksTo first old olds news → i < length news → old.seat.number ≡ first.seat.number → HasMetOne old (get_or news i d) now other
    → (x : ℕ) → (x ≡ first.seat.number → ⊥) → (j : ℕ) (e : Kept) → j < length (slice_set news i other) → plug (get_or (slice_set news i other) j e) x ≡ plug (get_or olds j e) x
links_there first old now other olds news i d l h f m x n j e b = elim (cases_eq j i) [
  | inl q ↦
      let one : plug (get_or (slice_set news i other) i e) x ≡ plug (get_or olds i e) x =
      ap (λ (k : Kept). plug k x) (get_or-set_same news i other e h)
      ∙ (m.there x (λ r. n (r ∙ f)) ∙ (ap (λ (k : Kept). plug k x) (same_default news i d e h) ∙ l.there x n i e h)) in
      subst (λ (k : ℕ). plug (get_or (slice_set news i other) k e) x ≡ plug (get_or olds k e) x) (sym q) one
  | inr o ↦ ap (λ (k : Kept). plug k x) (get_or-set_other news i j other e o) ∙ l.there x n j e (omega (arith, b, len_set news i other))
]

pub links_next : (first old now other : Kept) (olds news : List Kept) (i : ℕ) (d : Kept) → UpTo Stays olds news i → LinksTo first old olds news → i < length news → AreApart (seats olds) → old.seat.number ≡ first.seat.number
    → HasMetOne old (get_or news i d) now other → LinksTo first now olds (slice_set news i other)
links_next first old now other olds news i d u l h p f m = record {
  linked = links_linked first old now other olds news i d u l h p m;
  here = λ x a.
      let within : i < length olds = omega (arith, h, u.len) in
      m.here x (λ q. number_at x olds i d within a (q ∙ same_number olds news i u i d within)) ∙ l.here x a;
  there = links_there first old now other olds news i d l h f m;
}
