-- What is put on a link comes or is lost, and no more is lost than its plan says.
use Rattle.std.proofs.Common.{ℕ, zero, suc, ◌+◌, ◌-◌, ◌≤◌, ◌≡◌, ◌==◌, ◌&&◌, List, [], ◌∷◌, ◌++◌, ◌⊎◌, inl, inr, Bool, true, false, cond, if◌then◌else◌, Some, refl, sym, ap, ◌∙◌, subst, arith, eqb-true}
use Rattle.std.specs.List.{Contains, find}
use Rattle.std.proofs.lemmas.Bool.{and_parts}
use Rattle.std.proofs.lemmas.List.Elements.{Contains-append_left, Contains-append_right}
use Rattle.nsi_primitive.specs.declared.message.Parcel.{Parcel}
use Rattle.agent_link.specs.Link.{is_full}
use Rattle.agent_link.specs.Plans.{Plan, parcel_number}
use Rattle.agent_link.specs.Fates.{parcel_kind, is_of_kind, is_due, made_how, made_by, fate_of, nearer, passed, copies, comes}
use Rattle.agent_link.specs.declared.plan.How.{How}
use Rattle.agent_link.specs.declared.plan.LinkFault.{LinkFault}
use Rattle.agent_link.specs.declared.plan.Pushed.{Pushed}
use Rattle.agent_node.specs.Passing.{Passing, passes}
use Rattle.settled_play.specs.Settled.{is_loss}
use Rattle.settled_play.proofs.Finding.{first_there, first_or_later}

---- What is lost of a parcel

abbrev pub lost_by : Pushed → Parcel → List Parcel
lost_by Pushed.Lost p = p ∷ []
lost_by Pushed.Once p = []
lost_by Pushed.Twice p = []

comes_or_lost : (fate : Pushed) (p : Parcel) → Contains (copies fate p) p ⊎ Contains (lost_by fate p) p
comes_or_lost Pushed.Once p = inl (first_there p [])
comes_or_lost Pushed.Lost p = inr (first_there p [])
comes_or_lost Pushed.Twice p = inl (first_there p (p ∷ []))

---- Counts

abbrev pub one : Bool → ℕ
one true = 1
one false = 0

-- the number of a parcel's kind
abbrev pub number_of : Parcel → ℕ
number_of p = parcel_number (parcel_kind p)

-- how many parcels have a kind of that number
unfoldable pub counted : ℕ → List Parcel → ℕ
counted n [] = 0
counted n (p ∷ ps) = one (number_of p == n) + counted n ps

pub counted_append : (n : ℕ) (ps qs : List Parcel) → counted n (ps ++ qs) ≡ counted n ps + counted n qs
unfolding counted
counted_append n [] qs = omega arith
counted_append n (p ∷ ps) qs = let r = counted_append n ps qs in omega (arith, r)

pub counted_none : (n : ℕ) → counted n [] ≡ 0
unfolding counted
counted_none n = refl

abbrev pub is_more : ℕ → Bool
is_more zero = false
is_more (suc n) = true

-- the line loses one of that kind, and isn't past
abbrev is_ahead : ℕ → LinkFault → Bool
is_ahead n f = (is_loss f.how && (parcel_number f.of == n)) && is_more f.nth

-- how many of a plan's lines still lose one of that kind
unfoldable pub ahead : ℕ → Plan → ℕ
ahead n [] = 0
ahead n (f ∷ fs) = one (is_ahead n f) + ahead n fs

pub ahead_none : (n : ℕ) → ahead n [] ≡ 0
unfolding ahead
ahead_none n = refl

---- A parcel

pub one_most : (b : Bool) → one b ≤ 1
one_most true = omega arith
one_most false = omega arith

one_less : (b : Bool) (n : ℕ) → one (b && is_more (n - 1)) ≤ one (b && is_more n)
one_less false n = omega arith
one_less true zero = omega arith
one_less true (suc n) = one_most (is_more (suc n - 1))

-- a line that a parcel brings nearer loses no more
nearer_less : (n : ℕ) (p : Parcel) (f : LinkFault) → one (is_ahead n (nearer p f)) ≤ one (is_ahead n f)
nearer_less n p f = by (is_of_kind p f)
  where
    by : (b : Bool) → one (is_ahead n (if b then record f { nth = f.nth - 1 } else f)) ≤ one (is_ahead n f)
    by true = one_less (is_loss f.how && (parcel_number f.of == n)) f.nth
    by false = omega arith

ahead_less : (n : ℕ) (p : Parcel) (plan : Plan) → ahead n (passed p plan) ≤ ahead n plan
unfolding ahead
ahead_less n p [] = omega arith
ahead_less n p (f ∷ fs) = let a = nearer_less n p f in let r = ahead_less n p fs in omega (arith, a, r)

-- where the line is due, it is past behind the parcel
due_past : (p : Parcel) (f : LinkFault) → is_due p f ≡ true → f.how ≡ How.Lose → (n : ℕ) → one (number_of p == n) + one (is_ahead n (nearer p f)) ≤ one (is_ahead n f)
due_past p f due how n =
    let d = and_parts (is_of_kind p f) (f.nth == 1) due in
    let kind : number_of p ≡ parcel_number f.of = eqb-true (number_of p) (parcel_number f.of) d.0 in
    let nth : f.nth ≡ 1 = eqb-true f.nth 1 d.1 in
    let behind : is_ahead n (nearer p f) ≡ false = ap (λ b. is_ahead n (if b then record f { nth = f.nth - 1 } else f)) d.0 ∙ (ap (λ k. (is_loss f.how && (parcel_number f.of == n)) && is_more (k - 1)) nth ∙ and_false (is_loss f.how && (parcel_number f.of == n))) in
    let now : is_ahead n f ≡ (number_of p == n) = ap (λ k. (is_loss f.how && (parcel_number f.of == n)) && is_more k) nth ∙ (and_true (is_loss f.how && (parcel_number f.of == n)) ∙ (ap (λ h. is_loss h && (parcel_number f.of == n)) how ∙ ap (λ k. k == n) (sym kind))) in
    let x : one (is_ahead n (nearer p f)) ≡ 0 = ap one behind in
    let y : one (is_ahead n f) ≡ one (number_of p == n) = ap one now in
    omega (arith, x, y)
  where
    and_false : (b : Bool) → (b && false) ≡ false
    and_false true = refl
    and_false false = refl

    and_true : (b : Bool) → (b && true) ≡ b
    and_true true = refl
    and_true false = refl

-- what one line makes of a parcel
made_lost : (how : How) (p : Parcel) (f : LinkFault) → f.how ≡ how → is_due p f ≡ true → (n : ℕ) → counted n (lost_by (made_how how) p) + one (is_ahead n (nearer p f)) ≤ one (is_ahead n f)
unfolding counted
made_lost How.Lose p f e due n = let d = due_past p f due e n in omega (arith, d)
made_lost How.Repeat p f e due n = let d = nearer_less n p f in omega (arith, d)

-- what is lost of a parcel is what a line less loses
found_lost : (n : ℕ) (p : Parcel) (plan : Plan) → counted n (lost_by (made_by (find (is_due p) plan)) p) + ahead n (passed p plan) ≤ ahead n plan
unfolding counted ahead
found_lost n p [] = omega arith
found_lost n p (f ∷ fs) = by (is_due p f) refl (found_lost n p fs)
  where
    by : (b : Bool) → is_due p f ≡ b → counted n (lost_by (made_by (find (is_due p) fs)) p) + ahead n (passed p fs) ≤ ahead n fs
        → counted n (lost_by (made_by (cond b (Some f) (find (is_due p) fs))) p) + (one (is_ahead n (nearer p f)) + ahead n (passed p fs)) ≤ one (is_ahead n f) + ahead n fs
    by true e r = let m = made_lost f.how p f refl e n in let l = ahead_less n p fs in omega (arith, m, l)
    by false e r = let a = nearer_less n p f in omega (arith, r, a)

-- what is lost of a parcel that is put on the link now
abbrev lost_now : Parcel → Plan → List Parcel
lost_now p plan = lost_by (fate_of p plan) p

---- A queue

-- what is lost where the front of a queue is put on a link
unfoldable pub lost_in : List Parcel → Plan → List Parcel → List Parcel
lost_in [] plan out = []
lost_in (p ∷ ps) plan out = if is_full p plan out then [] else lost_now p plan ++ lost_in ps (passed p plan) (out ++ comes p plan)

abbrev still : List Parcel → Plan → List Parcel → Passing
still queue plan out = record { queue = queue; out = out; plan = plan }

abbrev passes_if : Bool → Parcel → List Parcel → Plan → List Parcel → Passing
passes_if b p ps plan out = if b then still (p ∷ ps) plan out else passes ps (passed p plan) (out ++ comes p plan)

abbrev lost_if : Bool → Parcel → List Parcel → Plan → List Parcel → List Parcel
lost_if b p ps plan out = if b then [] else lost_now p plan ++ lost_in ps (passed p plan) (out ++ comes p plan)

abbrev IsIn : Parcel → Passing → List Parcel → Type 0
IsIn q x gone = (Contains x.queue q ⊎ Contains x.out q) ⊎ Contains gone q

in_if : (b : Bool) (q p : Parcel) (ps : List Parcel) (plan : Plan) (out : List Parcel) → Contains (p ∷ ps) q ⊎ Contains out q
    → (Contains ps q ⊎ Contains (out ++ comes p plan) q → IsIn q (passes ps (passed p plan) (out ++ comes p plan)) (lost_in ps (passed p plan) (out ++ comes p plan)))
    → IsIn q (passes_if b p ps plan out) (lost_if b p ps plan out)
in_if true q p ps plan out h r = inl h
in_if false q p ps plan out h r = by h
  where
    further : IsIn q (passes ps (passed p plan) (out ++ comes p plan)) (lost_in ps (passed p plan) (out ++ comes p plan)) → IsIn q (passes_if false p ps plan out) (lost_if false p ps plan out)
    further (inl k) = inl k
    further (inr k) = inr (Contains-append_right (lost_now p plan) (lost_in ps (passed p plan) (out ++ comes p plan)) q k)

    by : Contains (p ∷ ps) q ⊎ Contains out q → IsIn q (passes_if false p ps plan out) (lost_if false p ps plan out)
    by (inl c) = elim (first_or_later p ps q c) [
      | inl e ↦ elim (comes_or_lost (fate_of p plan) p) [
        | inl k ↦ further (r (inr (Contains-append_right out (comes p plan) q (subst (λ x. Contains (comes p plan) x) e k))))
        | inr k ↦ inr (Contains-append_left (lost_now p plan) (lost_in ps (passed p plan) (out ++ comes p plan)) q (subst (λ x. Contains (lost_now p plan) x) e k))
      ]
      | inr k ↦ further (r (inl k))
    ]
    by (inr c) = further (r (inr (Contains-append_left out (comes p plan) q c)))

-- what is queued or was let through is so behind the pushes, or was lost
pub passes_keep : (q : Parcel) (ps : List Parcel) (plan : Plan) (out : List Parcel) → Contains ps q ⊎ Contains out q → IsIn q (passes ps plan out) (lost_in ps plan out)
unfolding passes lost_in
passes_keep q [] plan out c = inl c
passes_keep q (p ∷ ps) plan out c = in_if (is_full p plan out) q p ps plan out c (passes_keep q ps (passed p plan) (out ++ comes p plan))

count_if : (b : Bool) (n : ℕ) (p : Parcel) (ps : List Parcel) (plan : Plan) (out : List Parcel)
    → counted n (lost_in ps (passed p plan) (out ++ comes p plan)) + ahead n (passes ps (passed p plan) (out ++ comes p plan)).plan ≤ ahead n (passed p plan)
    → counted n (lost_if b p ps plan out) + ahead n (passes_if b p ps plan out).plan ≤ ahead n plan
count_if true n p ps plan out r = let z = counted_none n in omega (arith, z)
count_if false n p ps plan out r =
    let split = counted_append n (lost_now p plan) (lost_in ps (passed p plan) (out ++ comes p plan)) in
    let one_lost = found_lost n p plan in
    omega (arith, split, one_lost, r)

-- what the pushes lose is what so many lines less lose
pub passes_count : (n : ℕ) (ps : List Parcel) (plan : Plan) (out : List Parcel) → counted n (lost_in ps plan out) + ahead n (passes ps plan out).plan ≤ ahead n plan
unfolding passes lost_in
passes_count n [] plan out = let z = counted_none n in omega (arith, z)
passes_count n (p ∷ ps) plan out = count_if (is_full p plan out) n p ps plan out (passes_count n ps (passed p plan) (out ++ comes p plan))

pub lost_none : (plan : Plan) (out : List Parcel) → lost_in [] plan out ≡ []
unfolding lost_in
lost_none plan out = refl
