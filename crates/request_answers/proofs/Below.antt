-- A query about all that is below is answered, or waits for the part of a child that was asked.
use Rattle.std.proofs.Common.{ℕ, zero, suc, ◌≡◌, ◌⊎◌, inl, inr, ◌∙◌, Bool, true, false, List, [], ◌∷◌, ◌++◌, Option, Some, None, refl, ap, length, slice_get}
use Rattle.std.specs.List.{list_any}
use Rattle.std.proofs.lemmas.Option.{none-some, same_Some}
use Rattle.nsi_primitive.specs.Messages.{kind_of}
use Rattle.nsi_primitive.specs.declared.kind.Kind.{Kind}
use Rattle.nsi_primitive.specs.declared.message.Message.{Message}
use Rattle.connection_record.specs.declared.record.Record.{Record}
use Rattle.agent_state.specs.declared.parent.OpenQuery.{OpenQuery}
use Rattle.agent_state.specs.declared.parent.Part.{Part}
use Rattle.aggregator_agent.specs.Below.{is_asked, part_of, Heard, nested_reply, told_at, closes_unless, tells_query, asked_place, tells_first, tells_if, hear_below}
use Rattle.provider_agent.proofs.RecordPlaces.{push_here, push_elsewhere}
use Rattle.request_answers.specs.Answers.{is_answer, IsAnswered}
use Rattle.request_answers.specs.Waiting.{WaitsForPart}
use Rattle.request_answers.proofs.Serving.{answered_by}

-- it is answered, or it waits
abbrev pub IsSought : List OpenQuery → List Message → Message → Type 0
IsSought queries out m = IsAnswered m out ⊎ WaitsForPart queries m

-- the answer of a query answers its request
pub nested_answers : (agent : List ℕ) (own : Record) (q : OpenQuery) (m : Message) → q.header ≡ m.header → kind_of m.body ≡ Kind.QueryRecursive → IsAnswered m (nested_reply agent own q ∷ [])
unfolding is_answer
nested_answers agent own q m h k = answered_by m (nested_reply agent own q) h (ap (λ z. is_answer z Kind.QueryRecursiveConfirmed) k)

sought_behind : (q : OpenQuery) (qs : List OpenQuery) (out : List Message) (m : Message) → IsSought qs out m → IsSought (q ∷ qs) out m
sought_behind q qs out m (inl a) = inl a
sought_behind q qs out m (inr w) = inr (record { place = suc w.place; query = w.query; there = w.there; header = w.header; kind = w.kind; missing = w.missing })

-- the query that is told
told_sought : (b : Bool) (agent : List ℕ) (own : Record) (q x : OpenQuery) (qs : List OpenQuery) (m : Message) → list_any is_asked x.parts ≡ b → x.header ≡ q.header → (w : WaitsForPart (q ∷ qs) m) →
    IsSought (closes_unless b agent own x qs).queries (closes_unless b agent own x qs).out m
told_sought true agent own q x qs m e h w = by w.place w.there
  where
    by : (n : ℕ) → slice_get (q ∷ qs) n ≡ Some w.query → IsSought (x ∷ qs) [] m
    by zero there = inr (record { place = 0; query = x; there = refl; header = h ∙ ap (λ (z : OpenQuery). z.header) (same_Some q w.query there) ∙ w.header; kind = w.kind; missing = e })
    by (suc n) there = inr (record { place = suc n; query = w.query; there = there; header = w.header; kind = w.kind; missing = w.missing })
told_sought false agent own q x qs m e h w = by w.place w.there
  where
    by : (n : ℕ) → slice_get (q ∷ qs) n ≡ Some w.query → IsSought qs (nested_reply agent own x ∷ []) m
    by zero there = inl (nested_answers agent own x m (h ∙ ap (λ (z : OpenQuery). z.header) (same_Some q w.query there) ∙ w.header) w.kind)
    by (suc n) there = inr (record { place = n; query = w.query; there = there; header = w.header; kind = w.kind; missing = w.missing })

-- one that isn't
passed_sought : (q : OpenQuery) (qs : List OpenQuery) (rest : Heard) (m : Message) → (WaitsForPart qs m → IsSought rest.queries rest.out m) → (w : WaitsForPart (q ∷ qs) m) → IsSought (q ∷ rest.queries) rest.out m
passed_sought q qs rest m goes w = by w.place w.there
  where
    by : (n : ℕ) → slice_get (q ∷ qs) n ≡ Some w.query → IsSought (q ∷ rest.queries) rest.out m
    by zero there = inr (record { place = 0; query = w.query; there = there; header = w.header; kind = w.kind; missing = w.missing })
    by (suc n) there = sought_behind q rest.queries rest.out m (goes (record { place = n; query = w.query; there = there; header = w.header; kind = w.kind; missing = w.missing }))

query_sought : (o : Option Record) (k : Option ℕ) (agent : List ℕ) (p : Part) (q : OpenQuery) (qs : List OpenQuery) (rest : Heard) (m : Message) → (WaitsForPart qs m → IsSought rest.queries rest.out m) → WaitsForPart (q ∷ qs) m →
    IsSought (tells_query o k agent p q qs rest).queries (tells_query o k agent p q qs rest).out m
query_sought (Some own) (Some n) agent p q qs rest m goes w = told_sought (list_any is_asked (told_at n p q).parts) agent own q (told_at n p q) qs m refl refl w
query_sought (Some own) None agent p q qs rest m goes w = passed_sought q qs rest m goes w
query_sought None k agent p q qs rest m goes w = passed_sought q qs rest m goes w

first_sought : (agent : List ℕ) (records : List Record) (c : ℕ) (p : Part) (qs : List OpenQuery) (m : Message) → WaitsForPart qs m → IsSought (tells_first agent records c p qs).queries (tells_first agent records c p qs).out m
unfolding tells_first
first_sought agent records c p [] m w = absurd (none-some w.query w.there)
first_sought agent records c p (q ∷ qs) m w =
    query_sought (slice_get records q.place) (asked_place c q) agent p q qs (tells_first agent records c p qs) m (λ v. first_sought agent records c p qs m v) w

if_sought : (o : Option Part) (agent : List ℕ) (records : List Record) (c : ℕ) (qs : List OpenQuery) (m : Message) → WaitsForPart qs m → IsSought (tells_if o agent records c qs).queries (tells_if o agent records c qs).out m
if_sought None agent records c qs m w = inr w
if_sought (Some p) agent records c qs m w = first_sought agent records c p qs m w

-- each query that waits waits still when a message is heard, or is answered
pub heard_sought : (agent : List ℕ) (records : List Record) (n : Message) (qs : List OpenQuery) (m : Message) → WaitsForPart qs m → IsSought (hear_below agent records n qs).queries (hear_below agent records n qs).out m
heard_sought agent records n qs m w = if_sought (part_of n.body) agent records n.header.correlation qs m w

pub sought_push : (qs : List OpenQuery) (q : OpenQuery) (m : Message) → WaitsForPart qs m → WaitsForPart (qs ++ q ∷ []) m
sought_push qs q m w = record { place = w.place; query = w.query; there = push_elsewhere qs w.place q w.query w.there; header = w.header; kind = w.kind; missing = w.missing }

pub sought_new : (qs : List OpenQuery) (q : OpenQuery) (m : Message) → q.header ≡ m.header → kind_of m.body ≡ Kind.QueryRecursive → list_any is_asked q.parts ≡ true → WaitsForPart (qs ++ q ∷ []) m
sought_new qs q m h k w = record { place = length qs; query = q; there = push_here qs q; header = h; kind = k; missing = w }
