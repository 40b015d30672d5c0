-- What an agent has caused waits, or its acknowledgement was taken.
use Rattle.std.proofs.Common.{◌≡◌, ◌==◌, ◌&&◌, ◌||◌, Bool, true, false, cond, List, [], ◌∷◌, ◌++◌, ◌⊎◌, inl, inr, refl, sym, ap, ◌∙◌, subst, get_or, arith}
use Rattle.std.specs.List.{Contains, list_any}
use Rattle.std.specs.Str.{bytes_eq}
use Rattle.std.proofs.lemmas.Bool.{and_parts}
use Rattle.std.proofs.lemmas.Bool.Decides.{Decides-eqb}
use Rattle.std.proofs.lemmas.Slice.Eq.{bytes_eq-Decides}
use Rattle.std.proofs.lemmas.List.Elements.{Contains-append_left, Contains-append_right, Contains-append_cases}
use Rattle.nsi_primitive.specs.Kinds.{kind_number, kinds}
use Rattle.nsi_primitive.specs.Messages.{identity}
use Rattle.nsi_primitive.specs.declared.entry.Entry.{Entry}
use Rattle.nsi_primitive.specs.declared.entry.Input.{Input}
use Rattle.nsi_primitive.specs.declared.kind.Kind.{Kind}
use Rattle.nsi_primitive.specs.declared.message.Identity.{Identity}
use Rattle.nsi_primitive.specs.declared.message.Message.{Message}
use Rattle.message_retry.specs.Retry.{is_same_identity, is_waiting, without}
use Rattle.agent_state.specs.State.{AgentState, AgentStepped, blank_agent}
use Rattle.nsi_agent.specs.Homes.{Home}
use Rattle.nsi_agent.specs.Steps.{after, may_take_as, waits}
use Rattle.nsi_agent.specs.Told.{goes_on, told}
use Rattle.nsi_agent.specs.Laws.{left_waiting, IsEntered}
use Rattle.nsi_agent.proofs.Entering.{entered}
use Rattle.nsi_agent.proofs.Staying.{left_out_by}
use Rattle.settled_play.specs.Settled.{WasAcked}
use Rattle.settled_play.proofs.Finding.{none_there, first_there, later_there, first_or_later}

---- One identity

number_kind : (k : Kind) → get_or kinds (kind_number k) Kind.Reserve ≡ k
unfolding kind_number
number_kind k = grind arith

pub same_identity : (i j : Identity) → is_same_identity i j ≡ true → i ≡ j
same_identity i j e =
    let p = and_parts (bytes_eq i.requester j.requester) (bytes_eq i.provider j.provider && ((i.correlation == j.correlation) && (kind_number i.kind == kind_number j.kind))) e in
    let q = and_parts (bytes_eq i.provider j.provider) ((i.correlation == j.correlation) && (kind_number i.kind == kind_number j.kind)) p.1 in
    let r = and_parts (i.correlation == j.correlation) (kind_number i.kind == kind_number j.kind) q.1 in
    let kind : i.kind ≡ j.kind = sym (number_kind i.kind) ∙ (ap (λ n. get_or kinds n Kind.Reserve) ((Decides-eqb (kind_number i.kind) (kind_number j.kind)).0 r.1) ∙ number_kind j.kind) in
    ap (λ x. record { requester = x; provider = i.provider; correlation = i.correlation; kind = i.kind }) ((bytes_eq-Decides i.requester j.requester).0 p.0)
    ∙ (ap (λ x. record { requester = j.requester; provider = x; correlation = i.correlation; kind = i.kind }) ((bytes_eq-Decides i.provider j.provider).0 q.0)
    ∙ (ap (λ x. record { requester = j.requester; provider = j.provider; correlation = x; kind = i.kind }) ((Decides-eqb i.correlation j.correlation).0 r.0)
    ∙ ap (λ x. record { requester = j.requester; provider = j.provider; correlation = j.correlation; kind = x }) kind))

pub identity_itself : (i : Identity) → is_same_identity i i ≡ true
identity_itself i = rw ((bytes_eq-Decides i.requester i.requester).1 refl, (bytes_eq-Decides i.provider i.provider).1 refl, (Decides-eqb i.correlation i.correlation).1 refl, (Decides-eqb (kind_number i.kind) (kind_number i.kind)).1 refl) refl

---- One entry

-- the acknowledgement of this identity is taken
abbrev IsAcked : Identity → Input → Type 0
IsAcked i input = input ≡ Input.Acked i

without_keeps : (i : Identity) (ms : List Message) (m : Message) → Contains ms m → Contains (without i ms) m ⊎ (i ≡ identity m)
unfolding without
without_keeps i [] m c = absurd (none_there m c)
without_keeps i (x ∷ xs) m c = by (is_same_identity i (identity x)) refl (first_or_later x xs m c) (without_keeps i xs m)
  where
    by : (b : Bool) → is_same_identity i (identity x) ≡ b → (x ≡ m) ⊎ Contains xs m → (Contains xs m → Contains (without i xs) m ⊎ (i ≡ identity m)) → Contains (cond b xs (x ∷ without i xs)) m ⊎ (i ≡ identity m)
    by true e (inl q) f = inr (same_identity i (identity x) e ∙ ap identity q)
    by true e (inr r) f = inl r
    by false e (inl q) f = inl (subst (λ z. Contains (x ∷ without i xs) z) q (first_there x (without i xs)))
    by false e (inr r) f = elim (f r) [ inl k ↦ inl (later_there x (without i xs) m k) | inr k ↦ inr k ]

left_keeps : (input : Input) (ms : List Message) (m : Message) → Contains ms m → Contains (left_waiting input ms) m ⊎ IsAcked (identity m) input
left_keeps (Input.Acked i) ms m c = elim (without_keeps i ms m c) [ inl k ↦ inl k | inr e ↦ inr (ap (λ (j : Identity). Input.Acked j) e) ]
left_keeps (Input.Got n) ms m c = inl c
left_keeps (Input.Work n machine) ms m c = inl c
left_keeps (Input.Force n) ms m c = inl c
left_keeps Input.Tick ms m c = inl c
left_keeps (Input.Ask n ask) ms m c = inl c

-- what waits, or is caused now
abbrev Waits : AgentState → Message → Type 0
Waits s m = Contains s.base.waiting m

one_entry : (h : Home) (s : AgentState) (e : Entry) (m : Message) → Waits s m ⊎ Contains (after h s e).out m → Waits (after h s e).state m ⊎ IsAcked (identity m) e.input
one_entry h s e m c = by (may_take_as h.role s e) refl c
  where
    by : (b : Bool) → may_take_as h.role s e ≡ b → Waits s m ⊎ Contains (after h s e).out m → Waits (after h s e).state m ⊎ IsAcked (identity m) e.input
    by true may (inl w) =
        let x : AgentStepped = after h s e in
        let is : IsEntered s e x = entered h.role s e may in
        elim (left_keeps e.input s.base.waiting m w) [
          | inl k ↦ inl (subst (λ ms. Contains ms m) (sym is.waiting) (Contains-append_left (left_waiting e.input s.base.waiting) x.out m k))
          | inr k ↦ inr k
        ]
    by true may (inr o) =
        let x : AgentStepped = after h s e in
        let is : IsEntered s e x = entered h.role s e may in
        inl (subst (λ ms. Contains ms m) (sym is.waiting) (Contains-append_right (left_waiting e.input s.base.waiting) x.out m o))
    by false not (inl w) = inl (subst (λ (x : AgentStepped). Waits x.state m) (sym (left_out_by h.role s e not)) w)
    by false not (inr o) = absurd (none_there m (subst (λ (x : AgentStepped). Contains x.out m) (left_out_by h.role s e not) o))

---- Entries one after another

goes_waiting : (h : Home) (s : AgentState) (es : List Entry) (m : Message) → Waits s m ⊎ Contains (goes_on h s es).out m → Waits (goes_on h s es).state m ⊎ WasAcked (identity m) es
unfolding goes_on
goes_waiting h s [] m (inl w) = inl w
goes_waiting h s [] m (inr o) = absurd (none_there m o)
goes_waiting h s (e ∷ es) m c =
    let x : AgentStepped = after h s e in
    elim (split c) [
      | inl now ↦ elim (one_entry h s e m now) [
        | inl w ↦ later (goes_waiting h x.state es m (inl w))
        | inr a ↦ inr (e, first_there e es, a)
      ]
      | inr o ↦ later (goes_waiting h x.state es m (inr o))
    ]
  where
    split : Waits s m ⊎ Contains ((after h s e).out ++ (goes_on h (after h s e).state es).out) m → (Waits s m ⊎ Contains (after h s e).out m) ⊎ Contains (goes_on h (after h s e).state es).out m
    split (inl w) = inl (inl w)
    split (inr o) = elim (Contains-append_cases (after h s e).out (goes_on h (after h s e).state es).out m o) [ inl a ↦ inl (inr a) | inr b ↦ inr b ]

    later : Waits (goes_on h (after h s e).state es).state m ⊎ WasAcked (identity m) es → Waits (goes_on h (after h s e).state es).state m ⊎ WasAcked (identity m) (e ∷ es)
    later (inl w) = inl w
    later (inr a) = inr (a.0, later_there e es a.0 a.1, a.2)

pub waits_or_acked : (h : Home) (es : List Entry) (m : Message) → Contains (told h es).out m → Contains (told h es).state.base.waiting m ⊎ WasAcked (identity m) es
waits_or_acked h es m c = goes_waiting h blank_agent es m (inr c)

---- Whether it waits

or_right : (b : Bool) → (b || true) ≡ true
or_right true = refl
or_right false = refl

waits_there : (m : Message) (ms : List Message) → Contains ms m → is_waiting (identity m) ms ≡ true
unfolding is_waiting
waits_there m [] c = absurd (none_there m c)
waits_there m (x ∷ xs) c = elim (first_or_later x xs m c) [
  | inl e ↦ ap (λ b. b || list_any (λ (y : Message). is_same_identity (identity m) (identity y)) xs) (subst (λ (y : Message). is_same_identity (identity m) (identity y) ≡ true) (sym e) (identity_itself (identity m)))
  | inr d ↦ ap (λ b. is_same_identity (identity m) (identity x) || b) (waits_there m xs d) ∙ or_right (is_same_identity (identity m) (identity x))
]

-- where it doesn't wait, its acknowledgement was taken
pub acked_before : (h : Home) (es : List Entry) (s : AgentState) (m : Message) → (told h es).state ≡ s → waits (identity m) s ≡ false → Contains (told h es).out m → WasAcked (identity m) es
unfolding waits
acked_before h es s m is not c = elim (waits_or_acked h es m c) [
  | inl w ↦ absurd (never (is_waiting (identity m) s.base.waiting) not (waits_there m s.base.waiting (subst (λ (z : AgentState). Contains z.base.waiting m) is w)))
  | inr a ↦ a
]
  where
    never : (b : Bool) → b ≡ false → b ≡ true → ⊥
    never b p q = absurd (cc)
