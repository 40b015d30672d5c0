-- A queryRecursive at an aggregator: what it asks of the children, and the answer that a query which waits owes.
use Rattle.std.proofs.Common.{ℕ, ◌+◌, ◌≤◌, ◌≡◌, Bool, true, false, List, [], ◌∷◌, Option, Some, None, refl, ◌∙◌, arith, slice_get}
use Rattle.std.specs.List.{list_any}
use Rattle.nsi_primitive.specs.Ids.{id_of}
use Rattle.nsi_primitive.specs.declared.message.Body.{Body}
use Rattle.nsi_primitive.specs.declared.message.Header.{Header}
use Rattle.nsi_primitive.specs.declared.message.Message.{Message}
use Rattle.message_retry.specs.Taken.{is_same_request}
use Rattle.connection_record.specs.declared.record.Record.{Record}
use Rattle.connection_record.specs.Speaking.{one, tally, number_of, is_asking, is_noting, is_answering}
use Rattle.connection_record.proofs.Saying.{tally_append}
use Rattle.child_connection.specs.Asks.{to_child}
use Rattle.child_connection.specs.Holding.{is_reservation}
use Rattle.child_connection.specs.Views.{ChildConnection}
use Rattle.agent_state.specs.declared.parent.OpenQuery.{OpenQuery}
use Rattle.agent_state.specs.declared.parent.Part.{Part}
use Rattle.aggregator_agent.specs.declared.agent.Agent.{Agent}
use Rattle.aggregator_agent.specs.Below.{is_asked, Sought, seek_of, seek_one, seek, part_of, Heard, hears_nothing, told_at, closes_unless, heard_behind, tells_query, asked_place, tells_first, tells_if, hear_below}
use Rattle.agent_speech.specs.Owing.{answers_to, is_drawn, is_foreign, owes_rows, owed_below, before}
use Rattle.agent_speech.specs.Unanswered.{reserves_at}
use Rattle.agent_speech.proofs.Measures.{before_next, request_answers, request_drawn, request_own}
use Rattle.agent_speech.proofs.Counting.{tally_none, tally_cons}
use Rattle.agent_speech.proofs.Holding.{nothing_asked, other_reserves}

---- What is asked

-- requests in the agent's name, each under the next id, and none of them of the reservation machine
pub record IsSought (agent : Agent) (next : ℕ) (x : Sought) : Type 0 where
  pub answers : (h : Header) (n : ℕ) → tally (answers_to h n) x.asked ≡ 0
  pub drawn : (c : ℕ) → tally (is_drawn c) x.asked + before agent.number next c ≤ before agent.number x.next c
  pub own : tally (is_foreign agent.name) x.asked ≡ 0
  pub reserves : (p : List ℕ) (c : ℕ) → tally (reserves_at p c) x.asked ≡ 0

none_sought : (agent : Agent) (next : ℕ) (parts : List Part) → IsSought agent next (record { parts = parts; asked = []; next = next })
none_sought agent next parts =
    record {
      answers = λ h n. tally_none (answers_to h n);
      drawn = λ c. omega (arith, tally_none (is_drawn c));
      own = tally_none (is_foreign agent.name);
      reserves = nothing_asked;
    }

one_sought : (o : Option ℕ) (agent : Agent) (next : ℕ) (x : ChildConnection) → IsSought agent next (seek_of o agent next x)
unfolding is_asking is_reservation
one_sought None agent next x = none_sought agent next (Part.Missing ∷ [])
one_sought (Some id) agent next x =
    let m : Message = to_child agent.name (id_of agent.number next) x (Body.QueryRecursive id) in
    record {
      answers = λ h n. omega (arith, request_answers h n m [] refl, tally_none (answers_to h n));
      drawn = λ c. omega (arith, request_drawn c m [] refl, tally_none (is_drawn c), before_next agent.number next c);
      own = omega (arith, request_own agent.name m [] refl refl, tally_none (is_foreign agent.name));
      reserves = λ p c. other_reserves p c m [] refl ∙ nothing_asked p c;
    }

pub all_sought : (agent : Agent) (next : ℕ) (xs : List ChildConnection) → IsSought agent next (seek agent next xs)
unfolding seek
all_sought agent next [] = none_sought agent next []
all_sought agent next (x ∷ xs) =
    let first : Sought = seek_one agent next x in
    let rest : Sought = seek agent first.next xs in
    let a : IsSought agent next first = one_sought x.connection agent next x in
    let b : IsSought agent first.next rest = all_sought agent first.next xs in
    record {
      answers = λ h n. omega (arith, tally_append (answers_to h n) first.asked rest.asked, a.answers h n, b.answers h n);
      drawn = λ c. omega (arith, tally_append (is_drawn c) first.asked rest.asked, a.drawn c, b.drawn c);
      own = omega (arith, tally_append (is_foreign agent.name) first.asked rest.asked, a.own, b.own);
      reserves = λ p c. omega (arith, tally_append (reserves_at p c) first.asked rest.asked, a.reserves p c, b.reserves p c);
    }

---- What is owed

-- a query owes no more than the request that it is
pub owes_most : (h : Header) (n : ℕ) (q : OpenQuery) → one (owes_rows h n q) ≤ one (is_same_request h q.header)
owes_most h n q = grind arith

-- what is said was owed by the queries, and what isn't said is owed; nothing else is said
pub record IsToldBelow (qs : List OpenQuery) (x : Heard) : Type 0 where
  pub answers : (h : Header) (n : ℕ) → tally (answers_to h n) x.out + owed_below h n x.queries ≡ owed_below h n qs
  pub drawn : (c : ℕ) → tally (is_drawn c) x.out ≡ 0
  pub own : (name : List ℕ) → tally (is_foreign name) x.out ≡ 0
  pub reserves : (p : List ℕ) (c : ℕ) → tally (reserves_at p c) x.out ≡ 0

nothing_told : (qs : List OpenQuery) → IsToldBelow qs (hears_nothing qs)
nothing_told qs =
    record {
      answers = λ h n. omega (arith, tally_none (answers_to h n));
      drawn = λ c. tally_none (is_drawn c);
      own = λ name. tally_none (is_foreign name);
      reserves = nothing_asked;
    }

closed_told : (waits : Bool) (agent : List ℕ) (own : Record) (n : ℕ) (p : Part) (q : OpenQuery) (qs : List OpenQuery) → IsToldBelow (q ∷ qs) (closes_unless waits agent own (told_at n p q) qs)
unfolding tally number_of is_answering is_asking is_noting is_reservation
closed_told true agent own n p q qs = record { answers = λ h k. omega arith; drawn = λ c. refl; own = λ name. refl; reserves = λ r c. refl }
closed_told false agent own n p q qs = record { answers = λ h k. omega arith; drawn = λ c. refl; own = λ name. refl; reserves = λ r c. refl }

behind_told : (q : OpenQuery) (qs : List OpenQuery) (rest : Heard) → IsToldBelow qs rest → IsToldBelow (q ∷ qs) (heard_behind q rest)
behind_told q qs rest a =
    record {
      answers = λ h n. omega (arith, a.answers h n, tally_cons (owes_rows h n) q qs, tally_cons (owes_rows h n) q rest.queries);
      drawn = a.drawn;
      own = a.own;
      reserves = a.reserves;
    }

query_told : (own : Option Record) (place : Option ℕ) (agent : List ℕ) (p : Part) (q : OpenQuery) (qs : List OpenQuery) (rest : Heard) → IsToldBelow qs rest
    → IsToldBelow (q ∷ qs) (tells_query own place agent p q qs rest)
query_told (Some own) (Some n) agent p q qs rest a = closed_told (list_any is_asked (told_at n p q).parts) agent own n p q qs
query_told (Some own) None agent p q qs rest a = behind_told q qs rest a
query_told None place agent p q qs rest a = behind_told q qs rest a

first_told : (agent : List ℕ) (records : List Record) (c : ℕ) (p : Part) (qs : List OpenQuery) → IsToldBelow qs (tells_first agent records c p qs)
unfolding tells_first
first_told agent records c p [] = nothing_told []
first_told agent records c p (q ∷ qs) =
    query_told (slice_get records q.place) (asked_place c q) agent p q qs (tells_first agent records c p qs) (first_told agent records c p qs)

-- of the queries that hear a message one is answered at most
pub told_below : (agent : List ℕ) (records : List Record) (m : Message) (qs : List OpenQuery) → IsToldBelow qs (hear_below agent records m qs)
told_below agent records m qs = by (part_of m.body)
  where
    by : (o : Option Part) → IsToldBelow qs (tells_if o agent records m.header.correlation qs)
    by None = nothing_told qs
    by (Some p) = first_told agent records m.header.correlation p qs
