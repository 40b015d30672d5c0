-- Nothing is said twice: steps one after another, and a step in which a record moves.
use Rattle.std.proofs.Common.{ℕ, zero, suc, ◌==◌, ◌+◌, ◌≤◌, ◌<◌, ◌≡◌, true, false, List, [], ◌∷◌, ◌++◌, Option, Some, None, ◌&&◌, refl, ap, arith, length, bytes_eq}
use Rattle.std.specs.Prelude.{slice_set}
use Rattle.std.proofs.lemmas.List.Sums.{sum_by-cons, sum_by-append, sum_by-set}
use Rattle.nsi_primitive.specs.Ids.{id_of}
use Rattle.nsi_primitive.specs.declared.message.Header.{Header}
use Rattle.nsi_primitive.specs.declared.message.Message.{Message}
use Rattle.nsi_primitive.specs.declared.message.Service.{Service}
use Rattle.message_retry.specs.Taken.{is_taken, is_same_request, with_taken}
use Rattle.connection_record.specs.declared.record.Record.{Record}
use Rattle.connection_record.specs.Moves.{fresh}
use Rattle.connection_record.specs.Speaking.{one, tally, is_answering, owed_reserve, owed_provision, owed_life, owed}
use Rattle.connection_record.specs.Ids.{is_id}
use Rattle.connection_record.proofs.Saying.{tally_append}
use Rattle.agent_state.specs.State.{State, AgentState, blank_agent, record_at, no_record}
use Rattle.agent_speech.specs.Owing.{answers_to, is_drawn, is_foreign, times, owed_under, owed_by, owed_below, has_id, before, took, SaysWhatItOwes, HasSaidOnce}
use Rattle.agent_speech.proofs.Measures.{none_begun, before_next, begun_same, taken_more, answer_answers, answer_drawn, answer_own}

pub said_then : (name : List ℕ) (number : ℕ) (s t : AgentState) (out more : List Message) → HasSaidOnce name number s out → SaysWhatItOwes name number s t more → HasSaidOnce name number t (out ++ more)
said_then name number s t out more a b =
    record {
      answers = λ h n. omega (arith, tally_append (answers_to h n) out more, a.answers h n, b.answers h n);
      drawn = λ c. omega (arith, tally_append (is_drawn c) out more, a.drawn c, b.drawn c);
      own = omega (arith, tally_append (is_foreign name) out more, a.own, b.own);
    }

pub blank_said : (name : List ℕ) (number : ℕ) → HasSaidOnce name number blank_agent []
unfolding tally owed_by took is_taken
blank_said name number = record { answers = λ h n. grind arith; drawn = λ c. omega arith; own = refl }

---- Where queries stay as they are

-- what is said against what the records owe
pub record RecordsSay (name : List ℕ) (number : ℕ) (old new : State) (out : List Message) : Type 0 where
  pub answers : (h : Header) (n : ℕ) → tally (answers_to h n) out + (owed_by name h n new.records + took h old.seen) ≤ owed_by name h n old.records + took h new.seen
  pub drawn : (c : ℕ) → tally (is_drawn c) out + (tally (has_id c) new.records + before number old.next c) ≤ tally (has_id c) old.records + before number new.next c
  pub own : tally (is_foreign name) out ≡ 0

-- it is what the agent owes
pub records_say : (name : List ℕ) (number : ℕ) (s t : AgentState) (out : List Message) → t.queries ≡ s.queries → RecordsSay name number s.base t.base out → SaysWhatItOwes name number s t out
records_say name number s t out e a = record { answers = λ h n. omega (arith, a.answers h n, ap (owed_below h n) e); drawn = a.drawn; own = a.own }

-- nothing is said, and what counts stays, or a request counts as taken
pub says_nothing : (name : List ℕ) (number : ℕ) (s t : State) → t.records ≡ s.records → t.next ≡ s.next → ((h : Header) → took h s.seen ≤ took h t.seen) → RecordsSay name number s t []
unfolding tally
says_nothing name number s t e f g =
    record {
      answers = λ h n. omega (arith, ap (owed_by name h n) e, g h);
      drawn = λ c. omega (arith, ap (λ k. before number k c) f, ap (tally (has_id c)) e);
      own = refl;
    }

pub says_none : (name : List ℕ) (number : ℕ) (s : State) → RecordsSay name number s s []
says_none name number s = says_nothing name number s s refl refl (λ h. omega arith)

-- behind a request that is taken
pub record HasTaken (g : Header) (s t : State) : Type 0 where
  pub new : is_taken g s.seen ≡ false
  pub records : t.records ≡ s.records
  pub next : t.next ≡ s.next
  pub seen : t.seen ≡ with_taken g s.seen

-- nothing is said to it
pub says_taken : (name : List ℕ) (number : ℕ) (g : Header) (s t : State) → HasTaken g s t → RecordsSay name number s t []
says_taken name number g s t a = says_nothing name number s t a.records a.next (λ h. omega (arith, taken_more h g s.seen a.new, ap (took h) a.seen))

-- one answer to it
pub says_one : (name : List ℕ) (number : ℕ) (s t : State) (m n : Message) → HasTaken m.header s t → n.header ≡ m.header → is_answering n.body ≡ true → RecordsSay name number s t (n ∷ [])
says_one name number s t m n a e b =
    record {
      answers = λ h k.
          omega (
            arith,
            answer_answers h k n,
            taken_more h m.header s.seen a.new,
            ap (λ g. one (is_same_request h g)) e,
            ap (took h) a.seen,
            ap (owed_by name h k) a.records,
          );
      drawn = λ c. omega (arith, answer_drawn c n b, ap (λ k. before number k c) a.next, ap (tally (has_id c)) a.records);
      own = answer_own name n b;
    }

---- A record that moves

-- a part of an entry, in which a request of an owner may be begun
pub record IsTurned (name : List ℕ) (number : ℕ) (begun : Option ℕ) (owner : List ℕ) (s t : State) (out : List Message) : Type 0 where
  pub answers : (h : Header) (n : ℕ) →
      tally (answers_to h n) out + owed_by name h n t.records
      ≤ owed_by name h n s.records + times (bytes_eq h.requester owner && bytes_eq h.provider name) (one (is_id begun h.correlation))
  pub drawn : (c : ℕ) → tally (is_drawn c) out + (tally (has_id c) t.records + before number s.next c) ≤ tally (has_id c) s.records + before number t.next c
  pub own : tally (is_foreign name) out ≡ 0
  pub seen : t.seen ≡ s.seen

-- what an agent does by itself
pub by_itself : (name : List ℕ) (number : ℕ) (owner : List ℕ) (s t : State) (out : List Message) → IsTurned name number None owner s t out → RecordsSay name number s t out
by_itself name number owner s t out a =
    record {
      answers = λ h n. omega (arith, a.answers h n, none_begun (bytes_eq h.requester owner && bytes_eq h.provider name) h, ap (took h) a.seen);
      drawn = a.drawn;
      own = a.own;
    }

-- what it does with a request that it takes
pub by_request : (name : List ℕ) (number : ℕ) (g : Header) (owner : List ℕ) (s u t : State) (out : List Message) → owner ≡ g.requester → g.provider ≡ name → HasTaken g s u →
    IsTurned name number (Some g.correlation) owner u t out → RecordsSay name number s t out
by_request name number g owner s u t out e p b a =
    record {
      answers = λ h n.
          omega (
            arith,
            a.answers h n,
            begun_same name owner h g e p,
            taken_more h g s.seen b.new,
            ap (took h) a.seen,
            ap (took h) b.seen,
            ap (owed_by name h n) b.records,
          );
      drawn = λ c. omega (arith, a.drawn c, ap (λ k. before number k c) b.next, ap (tally (has_id c)) b.records);
      own = a.own;
    }

---- The records' sum

pub owed_set : (name : List ℕ) (h : Header) (n : ℕ) (rs : List Record) (k : ℕ) (r : Record) → k < length rs →
    owed_by name h n (slice_set rs k r) + owed_under name h n (record_at k rs) ≡ owed_by name h n rs + owed_under name h n r
unfolding owed_by
owed_set name h n rs k r l = omega (arith, sum_by-set (owed_under name h n) rs k r no_record l)

pub owed_cons : (name : List ℕ) (h : Header) (n : ℕ) (r : Record) (rs : List Record) → owed_by name h n (r ∷ rs) ≡ owed_under name h n r + owed_by name h n rs
unfolding owed_by
owed_cons name h n r rs = sum_by-cons (owed_under name h n) r rs

pub owed_none : (name : List ℕ) (h : Header) (n : ℕ) → owed_by name h n [] ≡ 0
unfolding owed_by
owed_none name h n = refl

fresh_owes : (name : List ℕ) (h : Header) (n id : ℕ) (owner : List ℕ) (s : Service) (source dest : ℕ) → owed_under name h n (fresh id owner s source dest) ≡ 0
unfolding owed_under owed owed_reserve owed_provision owed_life
fresh_owes name h n id owner s source dest = grind arith

-- a new record owes nothing
pub owed_new : (name : List ℕ) (h : Header) (n : ℕ) (rs : List Record) (id : ℕ) (owner : List ℕ) (s : Service) (source dest : ℕ) →
    owed_by name h n (rs ++ fresh id owner s source dest ∷ []) ≡ owed_by name h n rs
unfolding owed_by
owed_new name h n rs id owner s source dest =
    let r : Record = fresh id owner s source dest in
    omega (arith, sum_by-append (owed_under name h n) rs (r ∷ []), sum_by-cons (owed_under name h n) r [], fresh_owes name h n id owner s source dest)

---- The records' ids

-- a record that is moved keeps its id
pub ids_set : (c : ℕ) (rs : List Record) (k : ℕ) (r : Record) → k < length rs → r.id ≡ (record_at k rs).id → tally (has_id c) (slice_set rs k r) ≡ tally (has_id c) rs
unfolding tally
ids_set c [] k r l e = absurd (omega (arith, l))
ids_set c (x ∷ xs) zero r l e = omega (arith, ap (λ z. one (c == z)) e)
ids_set c (x ∷ xs) (suc k) r l e = omega (arith, ids_set c xs k r (omega (arith, l)) e)

pub ids_cons : (c : ℕ) (r q : Record) (rs : List Record) → q.id ≡ r.id → tally (has_id c) (q ∷ rs) ≡ one (c == r.id) + tally (has_id c) rs
unfolding tally
ids_cons c r q rs e = omega (arith, ap (λ z. one (c == z)) e)

-- a new record has the next id
pub ids_new : (number next c : ℕ) (rs : List Record) (owner : List ℕ) (s : Service) (source dest : ℕ) →
    tally (has_id c) (rs ++ fresh (id_of number next) owner s source dest ∷ []) + before number next c ≤ tally (has_id c) rs + before number (next + 1) c
unfolding tally
ids_new number next c rs owner s source dest =
    omega (arith, tally_append (has_id c) rs (fresh (id_of number next) owner s source dest ∷ []), before_next number next c)
