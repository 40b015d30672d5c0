-- What queries about all that is below a connection make an aggregator say: it can be written, and each request has an id of its own.
use Rattle.std.proofs.Common.{◌≡◌, inl, inr, ℕ, Bool, true, false, List, [], ◌∷◌, Option, Some, None, refl, slice_get, arith}
use Rattle.std.specs.List.{All, list_any}
use Rattle.std.proofs.lemmas.List.Elements.{All-nil, All-cons, All-head, All-tail}
use Rattle.nsi_primitive.specs.Messages.{is_request}
use Rattle.nsi_primitive.specs.Printable.{IsPrintable}
use Rattle.nsi_primitive.specs.declared.message.Message.{Message}
use Rattle.connection_record.specs.declared.record.Record.{Record}
use Rattle.child_connection.specs.Views.{ChildConnection}
use Rattle.agent_state.specs.declared.parent.OpenQuery.{OpenQuery}
use Rattle.agent_state.specs.declared.parent.Part.{Part}
use Rattle.aggregator_agent.specs.declared.agent.Agent.{Agent}
use Rattle.aggregator_agent.specs.Below.{Sought, seek_of, seek_one, seek, part_of, Heard, is_asked, told_at, closes_unless, tells_query, asked_place, tells_first, tells_if, hear_below}
use Rattle.aggregator_agent.specs.Laws.{AreDrawn}
use Rattle.aggregator_agent.proofs.Mild.{IsMildAsking, none_mild, both_asking}

---- Requests

child_sought : (o : Option ℕ) (agent : Agent) (next : ℕ) (x : ChildConnection) → IsMildAsking agent.number next (seek_of o agent next x).asked (seek_of o agent next x).next
unfolding AreDrawn
child_sought None agent next x = none_mild agent.number next
child_sought (Some id) agent next x = record {
  prints = All-cons IsPrintable _ [] tt (All-nil IsPrintable);
  drawn = inr (next, omega arith, refl, omega arith);
}

pub all_sought : (agent : Agent) (next : ℕ) (xs : List ChildConnection) → IsMildAsking agent.number next (seek agent next xs).asked (seek agent next xs).next
unfolding seek
all_sought agent next [] = none_mild agent.number next
all_sought agent next (x ∷ xs) =
    let one : Sought = seek_one agent next x in
    let rest : Sought = seek agent one.next xs in
    both_asking agent.number next one.asked one.next rest.asked rest.next (child_sought x.connection agent next x) (all_sought agent one.next xs)

---- Answers

-- what is said can be written, and is no request
abbrev pub AreAnswers : List Message → Type 0
AreAnswers ms = All (λ m. IsPrintable m × (is_request m.body ≡ false)) ms

no_answers : AreAnswers []
no_answers = All-nil (λ m. IsPrintable m × (is_request m.body ≡ false))

closed : (waits : Bool) (agent : List ℕ) (own : Record) (q : OpenQuery) (qs : List OpenQuery) → AreAnswers (closes_unless waits agent own q qs).out
closed true agent own q qs = no_answers
closed false agent own q qs = All-cons (λ m. IsPrintable m × (is_request m.body ≡ false)) _ [] (tt, refl) no_answers

told_answers : (own : Option Record) (n : Option ℕ) (agent : List ℕ) (p : Part) (q : OpenQuery) (qs : List OpenQuery) (rest : Heard) → AreAnswers rest.out → AreAnswers (tells_query own n agent p q qs rest).out
told_answers (Some own) (Some n) agent p q qs rest h = closed (list_any is_asked (told_at n p q).parts) agent own (told_at n p q) qs
told_answers (Some own) None agent p q qs rest h = h
told_answers None n agent p q qs rest h = h

first_answers : (agent : List ℕ) (records : List Record) (c : ℕ) (p : Part) (qs : List OpenQuery) → AreAnswers (tells_first agent records c p qs).out
unfolding tells_first
first_answers agent records c p [] = no_answers
first_answers agent records c p (q ∷ qs) =
    told_answers (slice_get records q.place) (asked_place c q) agent p q qs (tells_first agent records c p qs) (first_answers agent records c p qs)

answers_if : (p : Option Part) (agent : List ℕ) (records : List Record) (c : ℕ) (qs : List OpenQuery) → AreAnswers (tells_if p agent records c qs).out
answers_if None agent records c qs = no_answers
answers_if (Some p) agent records c qs = first_answers agent records c p qs

pub all_answers : (agent : List ℕ) (records : List Record) (m : Message) (qs : List OpenQuery) → AreAnswers (hear_below agent records m qs).out
all_answers agent records m qs = answers_if (part_of m.body) agent records m.header.correlation qs

-- answers draw no ids
pub answers_mild : (agent next : ℕ) (ms : List Message) → AreAnswers ms → IsMildAsking agent next ms next
unfolding AreDrawn
answers_mild agent next [] h = none_mild agent next
answers_mild agent next (m ∷ ms) h =
    let here = All-head (λ x. IsPrintable x × (is_request x.body ≡ false)) m ms h in
    let rest = answers_mild agent next ms (All-tail (λ x. IsPrintable x × (is_request x.body ≡ false)) m ms h) in
    record { prints = All-cons IsPrintable m ms here.0 rest.prints; drawn = inl (here.1, rest.drawn) }
