-- Which places are noted for a message and for a tick.
use Rattle.std.proofs.Common.{◌≡◌, ◌∙◌, ◌<◌, ◌⊎◌, ◌↔◌, inl, inr, ℕ, Bool, true, false, cond, nat_lt, List, [], ◌∷◌, ◌++◌, filter, Some, None, Result, Ok, Err, refl, sym, ap, subst, arith}
use Rattle.std.specs.Prelude.{OnOk, IfOk}
use Rattle.std.specs.List.{Contains}
use Rattle.std.specs.declared.alloc.AllocError.{AllocError}
use Rattle.std.proofs.lemmas.Bool.Decides.{nat_tests}
use Rattle.std.proofs.lemmas.List.Elements.{Contains-append_left, Contains-append_right, Contains-append_cases}
use Rattle.nsi_primitive.specs.Messages.{named_connection}
use Rattle.nsi_primitive.specs.declared.message.Message.{Message}
use Rattle.agent_state.specs.declared.parent.Due.{Due}
use Rattle.id_index.specs.declared.IdPlace.{IdPlace}
use Rattle.record_index.specs.Due.{IsDueIn}
use Rattle.record_index.specs.declared.deadlines.Deadline.{Deadline}
use Rattle.record_index.proofs.Members.{nothing_in, contains_first, contains_more}
use Rattle.aggregator_agent.specs.Indexed.{id_at, MayHear, IsAbout, MayChange, numbers_of}

---- Those that pass a test, and those below a count

front : (f : ℕ → Bool) (x p : ℕ) (kept xs : List ℕ) (b : Bool) → f x ≡ b → Contains kept p ↔ (Contains xs p × (f p ≡ true)) → Contains (cond b (x ∷ kept) kept) p ↔ (Contains (x ∷ xs) p × (f p ≡ true))
front f x p kept xs true e h = (
  λ has. elim (contains_first x p kept has) [
    | inl is ↦ (contains_more x p xs (inl is), ap f is ∙ e)
    | inr there ↦ let both = h.0 there in (contains_more x p xs (inr both.0), both.1)
  ],
  λ both. elim (contains_first x p xs both.0) [
    | inl is ↦ contains_more x p kept (inl is)
    | inr there ↦ contains_more x p kept (inr (h.1 (there, both.1)))
  ],
)
front f x p kept xs false e h = (
  λ has. let both = h.0 has in (contains_more x p xs (inr both.0), both.1),
  λ both. elim (contains_first x p xs both.0) [
    | inl is ↦ absurd (let so = both.1 in let same = ap f is in cc)
    | inr there ↦ h.1 (there, both.1)
  ],
)

pub kept_where : (f : ℕ → Bool) (xs : List ℕ) (p : ℕ) → Contains (filter f xs) p ↔ (Contains xs p × (f p ≡ true))
kept_where f [] p = (λ has. absurd (nothing_in p has), λ both. absurd (nothing_in p both.0))
kept_where f (x ∷ xs) p = front f x p (filter f xs) xs (f x) refl (kept_where f xs p)

pub kept_below : (count : ℕ) (xs : List ℕ) (p : ℕ) → Contains (filter (λ q. nat_lt q count) xs) p ↔ (Contains xs p × (p < count))
kept_below count xs p =
    let kept = kept_where (λ q. nat_lt q count) xs p in (
      λ has. let both = kept.0 has in (both.0, let h = both.1 in grind (arith, nat_tests, h)),
      λ both. kept.1 (both.0, let l = both.1 in grind (arith, nat_tests, l)),
    )

-- the same of what is noted for one reason or another
pub below_is : (P Q : ℕ → Type 0) (count : ℕ) (r : Result (List ℕ) AllocError) → ((p : ℕ) → P p ↔ Q p) → IfOk r (λ places. (p : ℕ) → Contains places p ↔ (P p × (p < count))) → IfOk r (λ places. (p : ℕ) → Contains places p ↔ (Q p × (p < count)))
below_is P Q count (Ok places) same h = λ p. (λ has. let both = (h p).0 has in ((same p).0 both.0, both.1), λ both. (h p).1 ((same p).1 both.0, both.1))
below_is P Q count (Err e) same h = tt

---- A message

pub about_none : (ids : List IdPlace) (m : Message) (xs : List ℕ) → named_connection m.body ≡ None → (p : ℕ) → Contains xs p ↔ (Contains xs p ⊎ IsAbout ids m p)
about_none ids m xs none p = (
  λ has. inl has,
  λ h. elim h [
    | inl has ↦ has
    | inr a ↦ absurd (let is = a.is_about in cc)
  ],
)

about_some : (ids : List IdPlace) (m : Message) (id : ℕ) → named_connection m.body ≡ Some id → (p : ℕ) → IsAbout ids m p → Contains ids (id_at id p)
about_some ids m id is p a = let same : a.id ≡ id = (let e = a.is_about in cc) in subst (λ i. Contains ids (id_at i p)) same a.is_named

pub about_noted : {X : Type 0} (r : Result X AllocError) (ids : List IdPlace) (m : Message) (old new : List ℕ) (id : ℕ) → named_connection m.body ≡ Some id → OnOk r ((p : ℕ) → Contains new p ↔ (Contains old p ⊎ Contains ids (id_at id p)))
    → OnOk r ((p : ℕ) → Contains new p ↔ (Contains old p ⊎ IsAbout ids m p))
about_noted (Ok x) ids m old new id is h = λ p. (
  λ has. elim ((h p).0 has) [
    | inl was ↦ inl was
    | inr named ↦ inr (record { id = id; is_about = is; is_named = named })
  ],
  λ q. (h p).1 (elim q [
    | inl was ↦ inl was
    | inr a ↦ inr (about_some ids m id is p a)
  ]),
)
about_noted (Err e) ids m old new id is h = tt

pub may_hear : (ids : List IdPlace) (m : Message) (none one all : List ℕ) → none ≡ [] → ((p : ℕ) → Contains one p ↔ (Contains none p ⊎ Contains ids (id_at m.header.correlation p))) → ((p : ℕ) → Contains all p ↔ (Contains one p ⊎ IsAbout ids m p))
    → (p : ℕ) → Contains all p ↔ MayHear ids m p
may_hear ids m none one all e first then p = (
  λ has. elim ((then p).0 has) [
    | inl was ↦ elim ((first p).0 was) [
      | inl nothing ↦ absurd (nothing_in p (subst (λ xs. Contains xs p) e nothing))
      | inr named ↦ inl named
    ]
    | inr a ↦ inr a
  ],
  λ q. (then p).1 (elim q [
    | inl named ↦ inl ((first p).1 (inr named))
    | inr a ↦ inr a
  ]),
)

pub named_alone : (ids : List IdPlace) (id : ℕ) (none one : List ℕ) → none ≡ [] → ((p : ℕ) → Contains one p ↔ (Contains none p ⊎ Contains ids (id_at id p))) → (p : ℕ) → Contains one p ↔ Contains ids (id_at id p)
named_alone ids id none one e h p = (
  λ has. elim ((h p).0 has) [
    | inl nothing ↦ absurd (nothing_in p (subst (λ xs. Contains xs p) e nothing))
    | inr named ↦ named
  ],
  λ named. (h p).1 (inr named),
)

---- A tick

pub may_change : (ends : List Deadline) (now : ℕ) (late : List Due) (due none one all : List ℕ) → none ≡ [] → one ≡ none ++ due → all ≡ one ++ numbers_of late → ((p : ℕ) → Contains due p ↔ IsDueIn ends now p) → (p : ℕ) → Contains all p ↔ MayChange ends now late p
may_change ends now late due none one all e f g h p =
    let is : all ≡ due ++ numbers_of late = g ∙ (ap (λ xs. xs ++ numbers_of late) f ∙ ap (λ xs. (xs ++ due) ++ numbers_of late) e) in (
      λ has. elim (Contains-append_cases due (numbers_of late) p (subst (λ xs. Contains xs p) is has)) [
        | inl d ↦ inl ((h p).0 d)
        | inr l ↦ inr l
      ],
      λ q. subst (λ xs. Contains xs p) (sym is) (elim q [
        | inl d ↦ Contains-append_left due (numbers_of late) p ((h p).1 d)
        | inr l ↦ Contains-append_right due (numbers_of late) p l
      ]),
    )
