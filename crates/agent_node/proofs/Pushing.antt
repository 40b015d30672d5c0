-- A queue whose front is pushed, parcel by parcel.
use Rattle.std.proofs.Common.{◌≡◌, List, [], ◌∷◌, ◌++◌, sym, ap, ◌∙◌, subst, Option, Some, option_to_list, Bool, true, false, if◌then◌else◌, ◌↔◌, inl, inr, Result, Ok, Err, IsErrOf}
use Rattle.std.proofs.lemmas.Bool.{cases_Bool}
use Rattle.std.specs.List.{All}
use Rattle.std.proofs.lemmas.List.Elements.{All-head, All-tail}
use Rattle.nsi_primitive.specs.Printable.{IsPrintableParcel}
use Rattle.nsi_primitive.specs.declared.message.Parcel.{Parcel}
use Rattle.agent_link.specs.declared.plan.Pushed.{Pushed}
use Rattle.agent_link.specs.declared.ends.PushFault.{PushFault}
use Rattle.agent_link.specs.Link.{is_full, handed_back}
use Rattle.agent_link.specs.Plans.{Plan}
use Rattle.agent_link.specs.Fates.{comes, passed}
use Rattle.agent_node.specs.Passing.{passes}

-- what was taken from the front
pub taken : (q rest : List Parcel) (o : Option Parcel) (p : Parcel) → q ≡ option_to_list o ++ rest → o ≡ Some p → q ≡ p ∷ rest
taken q rest o p e h = e ∙ ap (λ z. option_to_list z ++ rest) h

pub first_printable : (q rest : List Parcel) (p : Parcel) → q ≡ p ∷ rest → All IsPrintableParcel q → IsPrintableParcel p
first_printable q rest p e h = All-head IsPrintableParcel p rest (subst (All IsPrintableParcel) e h)

pub rest_printable : (q rest : List Parcel) (p : Parcel) → q ≡ p ∷ rest → All IsPrintableParcel q → All IsPrintableParcel rest
rest_printable q rest p e h = All-tail IsPrintableParcel p rest (subst (All IsPrintableParcel) e h)

-- one more was put on the link
pub passes_next : (q rest : List Parcel) (p : Parcel) (plan : Plan) (out : List Parcel) → q ≡ p ∷ rest → is_full p plan out ≡ false → passes rest (passed p plan) (out ++ comes p plan) ≡ passes q plan out
unfolding passes
passes_next q rest p plan out e h = sym (ap (λ ps. passes ps plan out) e ∙ ap (λ b. if b then record { queue = p ∷ rest; out = out; plan = plan } else passes rest (passed p plan) (out ++ comes p plan)) h)

-- it takes no more
pub passes_full : (q rest : List Parcel) (p : Parcel) (plan : Plan) (out : List Parcel) → q ≡ p ∷ rest → is_full p plan out ≡ true → passes q plan out ≡ record { queue = q; out = out; plan = plan }
unfolding passes
passes_full q rest p plan out e h =
    ap (λ ps. passes ps plan out) e
    ∙ (ap (λ b. if b then record { queue = p ∷ rest; out = out; plan = plan } else passes rest (passed p plan) (out ++ comes p plan)) h
    ∙ ap (λ ps. record { queue = ps; out = out; plan = plan }) (sym e))

-- nothing is left
pub passes_none : (q : List Parcel) (plan : Plan) (out : List Parcel) → q ≡ [] → passes q plan out ≡ record { queue = q; out = out; plan = plan }
unfolding passes
passes_none q plan out e = ap (λ ps. passes ps plan out) e ∙ ap (λ ps. record { queue = ps; out = out; plan = plan }) (sym e)

-- what was put on it wasn't full
pub not_full : (r : Result Pushed PushFault) (x : Pushed) (f : PushFault) (b : Bool) → r ≡ Ok x → (IsErrOf r f ↔ b ≡ true) → b ≡ false
not_full r x f b e h = elim (cases_Bool b) [
  | inl t ↦ absurd (let same : Ok x ≡ Err f = sym e ∙ h.1 t in cc)
  | inr t ↦ t
]

-- and what is refused for that was full
pub was_full : (r : Result Pushed PushFault) (p q : Parcel) (b : Bool) → r ≡ Err (PushFault.Full p) → (IsErrOf r (PushFault.Full q) ↔ b ≡ true) → handed_back (PushFault.Full p) ≡ q → b ≡ true
was_full r p q b e h back = h.0 (e ∙ ap (λ z. Err (PushFault.Full z)) back)
