-- A loop over the agents of a net, place by place.
use Rattle.std.proofs.Common.{ℕ, zero, suc, ◌+◌, ◌<◌, ◌≤◌, ◌≡◌, List, [], ◌∷◌, inl, inr, refl, sym, ap, ◌∙◌, subst, arith, length, get_or, slice_set, get_or-set_same, get_or-set_other}
use Rattle.std.proofs.lemmas.Bool.{cases_eq, cases_lt}
use Rattle.agent_node.specs.Kept.{Kept}
use Rattle.agent_threads.specs.Nets.{EachIs}

-- what was done to those before a place, where the rest are as they were
pub record UpTo (R : Kept → Kept → Type 0) (olds news : List Kept) (i : ℕ) : Type 0 where
  pub len : length news ≡ length olds
  pub done : (j : ℕ) (d : Kept) → j < i → j < length olds → R (get_or olds j d) (get_or news j d)
  pub rest : (j : ℕ) (d : Kept) → i ≤ j → get_or news j d ≡ get_or olds j d

pub up_to_none : (R : Kept → Kept → Type 0) (ks : List Kept) → UpTo R ks ks 0
up_to_none R ks = record {
  len = refl;
  done = λ j d h l. absurd (omega arith);
  rest = λ j d h. refl;
}

pub len_set : (ks : List Kept) (i : ℕ) (k : Kept) → length (slice_set ks i k) ≡ length ks
len_set [] i k = refl
len_set (x ∷ xs) zero k = refl
len_set (x ∷ xs) (suc i) k = ap suc (len_set xs i k)

pub same_default : (ks : List Kept) (i : ℕ) (d e : Kept) → i < length ks → get_or ks i d ≡ get_or ks i e
same_default [] i d e h = absurd (omega arith)
same_default (x ∷ xs) zero d e h = refl
same_default (x ∷ xs) (suc i) d e h = same_default xs i d e (omega arith)

pub up_to_next : (R : Kept → Kept → Type 0) (olds news : List Kept) (i : ℕ) (d k : Kept) → UpTo R olds news i → i < length news → R (get_or news i d) k → UpTo R olds (slice_set news i k) (i + 1)
up_to_next R olds news i d k u h r = record {
  len = len_set news i k ∙ u.len;
  done = λ j e b l. elim (cases_eq j i) [
    | inl q ↦
        let here : get_or olds j e ≡ get_or news i d = sym (u.rest j e (omega (arith, q))) ∙ (ap (λ n. get_or news n e) q ∙ same_default news i e d h) in
        let there : get_or (slice_set news i k) j e ≡ k = ap (λ n. get_or (slice_set news i k) n e) q ∙ get_or-set_same news i k e h in
        subst (λ (z : Kept). R (get_or olds j e) z) (sym there) (subst (λ (z : Kept). R z k) (sym here) r)
    | inr n ↦ subst (λ (z : Kept). R (get_or olds j e) z) (sym (get_or-set_other news i j k e n)) (u.done j e (below j i b n) l)
  ];
  rest = λ j e b. get_or-set_other news i j k e (above j i b) ∙ u.rest j e (omega arith);
}
  where
    below : (j i : ℕ) → j < i + 1 → (j ≡ i → ⊥) → j < i
    below j i b n = omega arith

    above : (j i : ℕ) → i + 1 ≤ j → j ≡ i → ⊥
    above j i b e = omega (arith, e)

pub by_place : (R : Kept → Kept → Type 0) (os ns : List Kept) → length ns ≡ length os → ((i : ℕ) (d : Kept) → i < length os → R (get_or os i d) (get_or ns i d)) → EachIs R os ns
by_place R [] [] e f = tt
by_place R [] (n ∷ ns) e f = absurd (omega (arith, e))
by_place R (o ∷ os) [] e f = absurd (omega (arith, e))
by_place R (o ∷ os) (n ∷ ns) e f = (f 0 o (omega arith), by_place R os ns (omega (arith, e)) (λ i d h. f (suc i) d (omega (arith, h))))

-- it was done to all
pub up_to_end : (R : Kept → Kept → Type 0) (olds news : List Kept) (i : ℕ) → UpTo R olds news i → length olds ≤ i → EachIs R olds news
up_to_end R olds news i u h = by_place R olds news u.len (λ j d l. u.done j d (omega (arith, l, h)) l)

-- what is still to come is as it was
pub here_is : (R : Kept → Kept → Type 0) (P : Kept → Type 0) (olds news : List Kept) (i : ℕ) (d : Kept) → UpTo R olds news i → P (get_or olds i d) → P (get_or news i d)
here_is R P olds news i d u p = subst P (sym (u.rest i d (omega arith))) p

---- Where only some had their turn

pub up_to_map : (R S : Kept → Kept → Type 0) (olds news : List Kept) (i : ℕ) → ((o n : Kept) → R o n → S o n) → UpTo R olds news i → UpTo S olds news i
up_to_map R S olds news i f u = record {
  len = u.len;
  done = λ j d h l. f (get_or olds j d) (get_or news j d) (u.done j d h l);
  rest = u.rest;
}

-- what is so of each that is as it was is so of all
pub up_to_all : (S : Kept → Kept → Type 0) (olds news : List Kept) (i : ℕ) → ((k : Kept) → S k k) → UpTo S olds news i → EachIs S olds news
up_to_all S olds news i r u = by_place S olds news u.len (λ j d l. elim (cases_lt j i) [
  | inl b ↦ u.done j d b l
  | inr a ↦ subst (λ (k : Kept). S (get_or olds j d) k) (sym (u.rest j d a)) (r (get_or olds j d))
])

-- the same behind one call more, of which only this is known
pub up_to_failed : (S : Kept → Kept → Type 0) (olds news : List Kept) (i : ℕ) (d k : Kept) → ((k : Kept) → S k k) → UpTo S olds news i → i < length news → S (get_or news i d) k → EachIs S olds (slice_set news i k)
up_to_failed S olds news i d k r u h s = up_to_all S olds (slice_set news i k) (i + 1) r (up_to_next S olds news i d k u h s)

pub each_map : (R S : Kept → Kept → Type 0) (os ns : List Kept) → ((o n : Kept) → R o n → S o n) → EachIs R os ns → EachIs S os ns
each_map R S [] [] f e = tt
each_map R S [] (n ∷ ns) f e = absurd e
each_map R S (o ∷ os) [] f e = absurd e
each_map R S (o ∷ os) (n ∷ ns) f e = (f o n e.0, each_map R S os ns f e.1)
