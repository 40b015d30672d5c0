-- Records that carry what they work on, at their places: each request is answered by what is said, or still worked on.
use Rattle.std.proofs.Common.{ℕ, zero, suc, ◌≡◌, ◌⊎◌, inl, inr, ◌∙◌, Bool, true, false, ◌==◌, eqb-true, ◌&&◌, ◌||◌, List, [], ◌∷◌, ◌++◌, Some, refl, sym, ap, arith, slice_get, slice_set}
use Rattle.std.proofs.lemmas.Bool.{cases_eq, and_parts}
use Rattle.std.proofs.lemmas.List.Elements.{Contains-get_or, Contains-append_left, Contains-append_right}
use Rattle.std.proofs.lemmas.Option.{same_Some, slice_get_within}
use Rattle.nsi_primitive.specs.Kinds.{is_request_kind}
use Rattle.nsi_primitive.specs.Messages.{kind_of}
use Rattle.nsi_primitive.specs.declared.kind.Kind.{Kind}
use Rattle.nsi_primitive.specs.declared.message.Header.{Header}
use Rattle.nsi_primitive.specs.declared.message.Message.{Message}
use Rattle.connection_record.specs.declared.record.Record.{Record}
use Rattle.connection_record.specs.declared.moves.Reply.{Reply}
use Rattle.connection_record.specs.Replies.{Moved, addressed}
use Rattle.provider_agent.proofs.RecordPlaces.{set_here, set_elsewhere, push_elsewhere}
use Rattle.request_answers.specs.Answers.{is_answer, IsAnswerTo, IsAnswered}
use Rattle.request_answers.specs.Open.{is_open, IsWorkedOn}
use Rattle.request_answers.proofs.Carrying.{is_told_of, is_carried, Carries}

-- a request is answered, or worked on
abbrev pub IsServed : List ℕ → List Record → List Message → Message → Type 0
IsServed name records out m = IsAnswered m out ⊎ IsWorkedOn name records m

-- what is worked on is worked on still, or is answered
abbrev pub Honours : List ℕ → (old new : List Record) → List Message → Type 0
Honours name old new out = (m : Message) → IsWorkedOn name old m → IsServed name new out m

---- Answers

abbrev header_of : ℕ → (requester provider : List ℕ) → Header
header_of c requester provider = record { correlation = c; requester = requester; provider = provider }

same_header : (c d : ℕ) (p q r s : List ℕ) → c ≡ d → p ≡ q → r ≡ s → header_of c p r ≡ header_of d q s
same_header c d p q r s a b e = ap (λ z. header_of z p r) a ∙ ap (λ z. header_of d z r) b ∙ ap (λ z. header_of d q z) e

answered_first : (m n : Message) (out : List Message) → IsAnswerTo m n → IsAnswered m (n ∷ out)
answered_first m n out a = (n, Contains-get_or (n ∷ out) 0 n (omega arith), a)

pub answered_left : (m : Message) (xs ys : List Message) → IsAnswered m xs → IsAnswered m (xs ++ ys)
answered_left m xs ys a = (a.0, Contains-append_left xs ys a.0 a.1, a.2)

pub answered_right : (m : Message) (xs ys : List Message) → IsAnswered m ys → IsAnswered m (xs ++ ys)
answered_right m xs ys a = (a.0, Contains-append_right xs ys a.0 a.1, a.2)

-- one message alone
pub answered_by : (m n : Message) → n.header ≡ m.header → is_answer (kind_of m.body) (kind_of n.body) ≡ true → IsAnswered m (n ∷ [])
answered_by m n h k = answered_first m n [] (record { header = h; kind = k })

pub error_answers : (k : Kind) → is_request_kind k ≡ true → is_answer k Kind.Error ≡ true
unfolding is_answer
error_answers k h = grind (arith, h)

-- a reply that answers a request of the record's owner is a message that answers it
pub told_message : (name owner : List ℕ) (m : Message) (replies : List Reply) → owner ≡ m.header.requester → m.header.provider ≡ name → is_told_of (kind_of m.body) m.header.correlation replies ≡ true →
    IsAnswered m (addressed name owner replies)
unfolding is_told_of
told_message name owner m [] o p h = absurd (cc)
told_message name owner m (y ∷ ys) o p h = by ((m.header.correlation == y.correlation) && is_answer (kind_of m.body) (kind_of y.body)) refl (λ e. told_message name owner m ys o p e) h
  where
    first : Message
    first = record { header = record { correlation = y.correlation; requester = owner; provider = name }; body = y.body }

    by : (b : Bool) → ((m.header.correlation == y.correlation) && is_answer (kind_of m.body) (kind_of y.body)) ≡ b → (is_told_of (kind_of m.body) m.header.correlation ys ≡ true → IsAnswered m (addressed name owner ys))
        → (b || is_told_of (kind_of m.body) m.header.correlation ys) ≡ true → IsAnswered m (addressed name owner (y ∷ ys))
    by true e rest h =
        let parts = and_parts (m.header.correlation == y.correlation) (is_answer (kind_of m.body) (kind_of y.body)) e in
        answered_first m first (addressed name owner ys)
        (record { header = same_header y.correlation m.header.correlation owner m.header.requester name m.header.provider (sym (eqb-true m.header.correlation y.correlation parts.0)) o (sym p); kind = parts.1 })
    by false e rest h = answered_right m (first ∷ []) (addressed name owner ys) (rest h)

---- One record

-- a request of its owner that the old record works on is answered by what is said, or the new one works on it
abbrev pub IsGone : Record → List Message → Message → Type 0
IsGone q out m = IsAnswered m out ⊎ ((is_open (kind_of m.body) m.header.correlation q ≡ true) × (q.owner ≡ m.header.requester))

abbrev pub Serves : List ℕ → (r q : Record) → List Message → Type 0
Serves name r q out = (m : Message) → r.owner ≡ m.header.requester → m.header.provider ≡ name → is_open (kind_of m.body) m.header.correlation r ≡ true → IsGone q out m

-- what a record carries of its owner's
pub carried_serves : (name : List ℕ) (m : Message) (x : Moved) → x.rec.owner ≡ m.header.requester → m.header.provider ≡ name → is_carried (kind_of m.body) m.header.correlation x ≡ true →
    IsGone x.rec (addressed name x.rec.owner x.out) m
carried_serves name m x o p h = by (is_open (kind_of m.body) m.header.correlation x.rec) refl h
  where
    by : (b : Bool) → is_open (kind_of m.body) m.header.correlation x.rec ≡ b → (b || is_told_of (kind_of m.body) m.header.correlation x.out) ≡ true → IsGone x.rec (addressed name x.rec.owner x.out) m
    by true e h = inr (e, o)
    by false e h = inl (told_message name x.rec.owner m x.out o p h)

pub carrying_serves : (name : List ℕ) (r : Record) (x : Moved) → Carries r x → x.rec.owner ≡ r.owner → Serves name r x.rec (addressed name x.rec.owner x.out)
carrying_serves name r x carries owner m o p h = carried_serves name m x (owner ∙ o) p (carries (kind_of m.body) m.header.correlation h)

---- Records at their places

-- what is worked on at a place
pub served_there : (name : List ℕ) (records : List Record) (n : ℕ) (q : Record) (out : List Message) (m : Message) → slice_get records n ≡ Some q → m.header.provider ≡ name → IsGone q out m → IsServed name records out m
served_there name records n q out m there p (inl a) = inl a
served_there name records n q out m there p (inr w) = inr (record { place = n; own = q; there = there; owner = w.1; agent = p; opens = w.0 })

-- more is said
pub served_left : (name : List ℕ) (records : List Record) (xs ys : List Message) (m : Message) → IsServed name records xs m → IsServed name records (xs ++ ys) m
served_left name records xs ys m (inl a) = inl (answered_left m xs ys a)
served_left name records xs ys m (inr w) = inr w

pub served_right : (name : List ℕ) (records : List Record) (xs ys : List Message) (m : Message) → IsServed name records ys m → IsServed name records (xs ++ ys) m
served_right name records xs ys m (inl a) = inl (answered_right m xs ys a)
served_right name records xs ys m (inr w) = inr w

pub honours_same : (name : List ℕ) (records : List Record) (out : List Message) → Honours name records records out
honours_same name records out m w = inr w

-- a record is put in the place of the one that it was
pub honours_set : (name : List ℕ) (records : List Record) (n : ℕ) (q : Record) (out : List Message) → ((r : Record) → slice_get records n ≡ Some r → Serves name r q out) → Honours name records (slice_set records n q) out
honours_set name records n q out serves m w = elim (cases_eq w.place n) [
  | inl e ↦
      let at : slice_get records n ≡ Some w.own = ap (slice_get records) (sym e) ∙ w.there in
      served_there name (slice_set records n q) n q out m (set_here records n q (slice_get_within records n w.own at)) w.agent (serves w.own at m w.owner w.agent w.opens)
  | inr d ↦ inr (record { place = w.place; own = w.own; there = set_elsewhere records n w.place q d ∙ w.there; owner = w.owner; agent = w.agent; opens = w.opens })
]

-- one more record
pub worked_push : (name : List ℕ) (records : List Record) (r : Record) (m : Message) → IsWorkedOn name records m → IsWorkedOn name (records ++ r ∷ []) m
worked_push name records r m w = record { place = w.place; own = w.own; there = push_elsewhere records w.place r w.own w.there; owner = w.owner; agent = w.agent; opens = w.opens }

served_behind : (name : List ℕ) (r : Record) (records : List Record) (out : List Message) (m : Message) → IsServed name records out m → IsServed name (r ∷ records) out m
served_behind name r records out m (inl a) = inl a
served_behind name r records out m (inr w) = inr (record { place = suc w.place; own = w.own; there = w.there; owner = w.owner; agent = w.agent; opens = w.opens })

-- each record after the other, each with what it says
pub honours_cons : (name : List ℕ) (r q : Record) (here : List Message) (records new : List Record) (out : List Message) → Serves name r q here → Honours name records new out →
    Honours name (r ∷ records) (q ∷ new) (here ++ out)
honours_cons name r q here records new out serves rest m w = by w.place w.there
  where
    by : (n : ℕ) → slice_get (r ∷ records) n ≡ Some w.own → IsServed name (q ∷ new) (here ++ out) m
    by zero there =
        let same : r ≡ w.own = same_Some r w.own there in
        served_left name (q ∷ new) here out m
        (served_there name (q ∷ new) 0 q here m refl w.agent
        (serves m (ap (λ (z : Record). z.owner) same ∙ w.owner) w.agent (ap (λ z. is_open (kind_of m.body) m.header.correlation z) same ∙ w.opens)))
    by (suc n) there =
        served_right name (q ∷ new) here out m
        (served_behind name q new out m (rest m (record { place = n; own = w.own; there = there; owner = w.owner; agent = w.agent; opens = w.opens })))
