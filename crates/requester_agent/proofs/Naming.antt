-- An id that is named with places, one after another.
use Rattle.std.proofs.Common.{◌≡◌, ◌↔◌, ◌⊎◌, inl, inr, ℕ, List, [], ◌∷◌, arith, ap, subst, Contains}
use Rattle.id_index.specs.declared.IdPlace.{IdPlace}
use Rattle.requester_agent.proofs.HeardAt.{first_or}

-- nothing is forgotten, and all places but the rest are named
pub record AreNamedBut (id : ℕ) (all rest : List ℕ) (old now : List IdPlace) : Type 0 where
  pub kept : (e : IdPlace) → Contains old e → Contains now e
  pub named : (place : ℕ) → Contains all place → Contains rest place ⊎ Contains now (record { id = id; place = place })

pub named_first : (id : ℕ) (all : List ℕ) (old : List IdPlace) → AreNamedBut id all all old old
named_first id all old = record { kept = λ e has. has; named = λ place has. inl has }

pub named_next : (id p : ℕ) (all rest tail : List ℕ) (old now next : List IdPlace) → rest ≡ p ∷ tail → ((e : IdPlace) → Contains next e ↔ ((e ≡ record { id = id; place = p }) ⊎ Contains now e))
    → AreNamedBut id all rest old now → AreNamedBut id all tail old next
named_next id p all rest tail old now next is added before =
    record {
      kept = λ e has. (added e).1 (inr (before.kept e has));
      named = λ place has. elim (before.named place has) [
        | inl later ↦ elim (first_or p place tail (subst (λ ps. Contains ps place) is later)) [
          | inl here ↦ inr ((added (record { id = id; place = place })).1 (inl (ap (λ n. record { id = id; place = n }) here)))
          | inr rest_has ↦ inl rest_has
        ]
        | inr done ↦ inr ((added (record { id = id; place = place })).1 (inr done))
      ];
    }

pub named_all : (id : ℕ) (all rest : List ℕ) (old now : List IdPlace) → rest ≡ [] → AreNamedBut id all rest old now → (place : ℕ) → Contains all place → Contains now (record { id = id; place = place })
named_all id all rest old now is before place has = elim (before.named place has) [
  | inl later ↦ absurd (omega (arith, (subst (λ ps. Contains ps place) is later).1))
  | inr done ↦ done
]
