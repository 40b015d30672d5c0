-- Wires of agents that have met others.
use Rattle.std.proofs.Common.{ℕ, suc, ◌≡◌, List, [], ◌∷◌, ◌++◌, Option, Some, None, refl, sym, ap, ◌∙◌, subst, length}
use Rattle.agent_link.specs.Link.{Wire}
use Rattle.agent_node.specs.Passing.{others, crossed}
use Rattle.agent_node.specs.Kept.{Kept, plug, AreLinked}
use Rattle.agent_threads.specs.Nets.{seats, numbers, EachIs, IsAbsent, AreApart, IsLinkedToAll, AreWired, plugs_to}
use Rattle.agent_threads.specs.Made.{Stays}
use Rattle.agent_threads.proofs.Same.{same_trans}

linked_later : (a b k : Kept) → b.seat.number ≡ a.seat.number → plug b k.seat.number ≡ plug a k.seat.number → AreLinked a k → AreLinked b k
linked_later a b k e f l = f ∙ (l ∙ ap (λ n. crossed (plug k n)) (sym e))

-- an agent that has only met another one
pub linked_still : (f : ℕ) (a b : Kept) (ks : List Kept) → b.seat.number ≡ a.seat.number → IsAbsent f (numbers (seats ks)) → ((m : ℕ) → (m ≡ f → ⊥) → plug b m ≡ plug a m) → IsLinkedToAll a ks → IsLinkedToAll b ks
linked_still f a b [] e n same l = tt
linked_still f a b (k ∷ ks) e n same l = (linked_later a b k e (same k.seat.number (λ h. n.0 (sym h))) l.0, linked_still f a b ks e n.1 same l.1)

head_plug : (x y : Option (Wire × Wire)) (xs ys : List (Option (Wire × Wire))) → y ∷ ys ≡ x ∷ xs → (y ≡ x) × (ys ≡ xs)
head_plug x y xs ys e = (cc, cc)

-- an agent, where the others' wires to it are as they were
pub linked_others : (a : Kept) (xs ys : List Kept) → EachIs Stays xs ys → plugs_to a.seat.number ys ≡ plugs_to a.seat.number xs → IsLinkedToAll a xs → IsLinkedToAll a ys
linked_others a [] [] e f l = tt
linked_others a [] (y ∷ ys) e f l = absurd e
linked_others a (x ∷ xs) [] e f l = absurd e
linked_others a (x ∷ xs) (y ∷ ys) e f l =
    let q = head_plug (plug x a.seat.number) (plug y a.seat.number) (plugs_to a.seat.number xs) (plugs_to a.seat.number ys) f in
    (ap (plug a) e.0.same.number ∙ (l.0 ∙ ap crossed (sym q.0)), linked_others a xs ys e.1 q.1 l.1)

pub numbers_stay : (xs ys : List Kept) → EachIs Stays xs ys → numbers (seats ys) ≡ numbers (seats xs)
numbers_stay [] [] e = refl
numbers_stay [] (y ∷ ys) e = absurd e
numbers_stay (x ∷ xs) [] e = absurd e
numbers_stay (x ∷ xs) (y ∷ ys) e = ap (λ n. n ∷ numbers (seats ys)) e.0.same.number ∙ ap (λ ns. x.seat.number ∷ ns) (numbers_stay xs ys e.1)

-- agents that have only met another one
pub wired_still : (f : ℕ) (xs ys : List Kept) → EachIs Stays xs ys → IsAbsent f (numbers (seats xs)) → ((m : ℕ) → (m ≡ f → ⊥) → plugs_to m ys ≡ plugs_to m xs) → AreWired xs → AreWired ys
wired_still f [] [] e n same w = tt
wired_still f [] (y ∷ ys) e n same w = absurd e
wired_still f (x ∷ xs) [] e n same w = absurd e
wired_still f (x ∷ xs) (y ∷ ys) e n same w =
    let here = λ (m : ℕ) (h : m ≡ f → ⊥). head_plug (plug x m) (plug y m) (plugs_to m xs) (plugs_to m ys) (same m h) in
    let others = linked_others x xs ys e.1 (here x.seat.number (λ h. n.0 (sym h))).1 w.0 in (
      linked_still f x y ys e.0.same.number (subst (IsAbsent f) (sym (numbers_stay xs ys e.1)) n.1) (λ m h. (here m h).0) others,
      wired_still f xs ys e.1 n.1 (λ m h. (here m h).1) w.1,
    )

---- A list with one more behind it

crossed_twice : (o : Option (Wire × Wire)) → crossed (crossed o) ≡ o
crossed_twice None = refl
crossed_twice (Some w) = refl

linked_back : (a k : Kept) → AreLinked a k → AreLinked k a
linked_back a k l = sym (ap crossed l ∙ crossed_twice (plug k a.seat.number))

pub seats_more : (ks : List Kept) (k : Kept) → seats (ks ++ k ∷ []) ≡ seats ks ++ k.seat ∷ []
seats_more [] k = refl
seats_more (x ∷ xs) k = ap (λ ss. x.seat ∷ ss) (seats_more xs k)

pub absent_front : (a : ℕ) (ks : List Kept) (k : Kept) → IsAbsent a (numbers (seats (ks ++ k ∷ []))) → IsAbsent a (numbers (seats ks))
absent_front a [] k h = tt
absent_front a (x ∷ xs) k h = (h.0, absent_front a xs k h.1)

pub absent_last : (a : ℕ) (ks : List Kept) (k : Kept) → IsAbsent a (numbers (seats (ks ++ k ∷ []))) → a ≡ k.seat.number → ⊥
absent_last a [] k h = h.0
absent_last a (x ∷ xs) k h = absent_last a xs k h.1

pub apart_front : (ks : List Kept) (k : Kept) → AreApart (seats (ks ++ k ∷ [])) → AreApart (seats ks)
apart_front [] k h = tt
apart_front (x ∷ xs) k h = (absent_front x.seat.number xs k h.0, (h.1.0, apart_front xs k h.1.1))

pub apart_last : (ks : List Kept) (k : Kept) → AreApart (seats (ks ++ k ∷ [])) → IsAbsent k.seat.number (numbers (seats ks))
apart_last [] k h = tt
apart_last (x ∷ xs) k h = ((λ e. absent_last x.seat.number xs k h.0 (sym e)), apart_last xs k h.1.1)

pub apart_self : (ks : List Kept) (k : Kept) → AreApart (seats (ks ++ k ∷ [])) → IsAbsent k.seat.number (others k.seat.doors)
apart_self [] k h = h.1.0
apart_self (x ∷ xs) k h = apart_self xs k h.1.1

linked_front : (a : Kept) (ks : List Kept) (k : Kept) → IsLinkedToAll a (ks ++ k ∷ []) → IsLinkedToAll a ks
linked_front a [] k h = tt
linked_front a (x ∷ xs) k h = (h.0, linked_front a xs k h.1)

linked_last : (a : Kept) (ks : List Kept) (k : Kept) → IsLinkedToAll a (ks ++ k ∷ []) → AreLinked a k
linked_last a [] k h = h.0
linked_last a (x ∷ xs) k h = linked_last a xs k h.1

linked_more : (a : Kept) (ks : List Kept) (k : Kept) → IsLinkedToAll a ks → AreLinked a k → IsLinkedToAll a (ks ++ k ∷ [])
linked_more a [] k h l = (l, tt)
linked_more a (x ∷ xs) k h l = (h.0, linked_more a xs k h.1 l)

pub wired_front : (ks : List Kept) (k : Kept) → AreWired (ks ++ k ∷ []) → AreWired ks
wired_front [] k h = tt
wired_front (x ∷ xs) k h = (linked_front x xs k h.0, wired_front xs k h.1)

pub wired_last : (ks : List Kept) (k : Kept) → AreWired (ks ++ k ∷ []) → IsLinkedToAll k ks
wired_last [] k h = tt
wired_last (x ∷ xs) k h = (linked_back x k (linked_last x xs k h.0), wired_last xs k h.1)

pub wired_more : (ks : List Kept) (k : Kept) → AreWired ks → IsLinkedToAll k ks → AreWired (ks ++ k ∷ [])
wired_more [] k w l = (tt, tt)
wired_more (x ∷ xs) k w l = (linked_more x xs k w.0 (linked_back k x l.0), wired_more xs k w.1 l.1)

pub each_more : (R : Kept → Kept → Type 0) (os ns : List Kept) (o n : Kept) → EachIs R os ns → R o n → EachIs R (os ++ o ∷ []) (ns ++ n ∷ [])
each_more R [] [] o n e s = (s, tt)
each_more R [] (y ∷ ys) o n e s = absurd e
each_more R (x ∷ xs) [] o n e s = absurd e
each_more R (x ∷ xs) (y ∷ ys) o n e s = (e.0, each_more R xs ys o n e.1 s)

pub plugs_more : (m : ℕ) (ks : List Kept) (k : Kept) → plugs_to m (ks ++ k ∷ []) ≡ plugs_to m ks ++ plug k m ∷ []
plugs_more m [] k = refl
plugs_more m (x ∷ xs) k = ap (λ ps. plug x m ∷ ps) (plugs_more m xs k)

pub stays_twice : (xs ys zs : List Kept) → EachIs Stays xs ys → EachIs Stays ys zs → EachIs Stays xs zs
stays_twice [] [] [] p q = tt
stays_twice [] [] (z ∷ zs) p q = absurd q
stays_twice [] (y ∷ ys) zs p q = absurd p
stays_twice (x ∷ xs) [] zs p q = absurd p
stays_twice (x ∷ xs) (y ∷ ys) [] p q = absurd q
stays_twice (x ∷ xs) (y ∷ ys) (z ∷ zs) p q = (
  record {
    same = same_trans x y z p.0.same q.0.same;
    fault = q.0.fault ∙ p.0.fault;
    journal = record { meter = q.0.journal.meter ∙ p.0.journal.meter; kept = q.0.journal.kept ∙ p.0.journal.kept };
  },
  stays_twice xs ys zs p.1 q.1,
)

pub stays_length : (xs ys : List Kept) → EachIs Stays xs ys → length ys ≡ length xs
stays_length [] [] p = refl
stays_length [] (y ∷ ys) p = absurd p
stays_length (x ∷ xs) [] p = absurd p
stays_length (x ∷ xs) (y ∷ ys) p = ap suc (stays_length xs ys p.1)
