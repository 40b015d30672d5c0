-- What is said, counted over messages.
use Rattle.std.proofs.Common.{ℕ, ◌+◌, ◌≤◌, ◌≡◌, Bool, true, false, List, [], ◌∷◌, ◌++◌, Option, Some, None, ◌==◌, ◌&&◌, ◌||◌, refl, ap, ◌∙◌, arith, bytes_eq}
use Rattle.std.specs.List.{list_any}
use Rattle.std.proofs.lemmas.List.Folds.{list_any-append}
use Rattle.std.proofs.lemmas.Slice.Eq.{bytes_eq-Decides}
use Rattle.nsi_primitive.specs.Ids.{id_of}
use Rattle.nsi_primitive.specs.declared.message.Body.{Body}
use Rattle.nsi_primitive.specs.declared.message.Header.{Header}
use Rattle.nsi_primitive.specs.declared.message.Message.{Message}
use Rattle.message_retry.specs.Taken.{is_taken, is_same_request, with_taken}
use Rattle.connection_record.specs.declared.record.Record.{Record}
use Rattle.connection_record.specs.declared.moves.Reply.{Reply}
use Rattle.connection_record.specs.Replies.{Moved, addressed}
use Rattle.connection_record.specs.Speaking.{one, tally, is_asking, is_noting, is_answering, answers_as, notes_as, asks_for, Speaks}
use Rattle.connection_record.specs.Ids.{is_id}
use Rattle.agent_speech.specs.Owing.{answers_to, is_drawn, is_foreign, times, owed_under, before, took}

pub same_bytes : (xs : List ℕ) → bytes_eq xs xs ≡ true
same_bytes xs = (bytes_eq-Decides xs xs).1 refl

---- Replies under their header

pub addressed_answers : (h : Header) (n : ℕ) (name owner : List ℕ) (out : List Reply) →
    tally (answers_to h n) (addressed name owner out) ≡ times (bytes_eq h.requester owner && bytes_eq h.provider name) (tally (answers_as h.correlation n) out)
unfolding tally
addressed_answers h n name owner [] = grind arith
addressed_answers h n name owner (x ∷ xs) = grind (arith, addressed_answers h n name owner xs)

pub addressed_drawn : (c : ℕ) (name owner : List ℕ) (out : List Reply) → tally (is_drawn c) (addressed name owner out) ≤ tally (notes_as c) out + tally asks_for out
unfolding tally
addressed_drawn c name owner [] = omega arith
addressed_drawn c name owner (x ∷ xs) = grind (arith, addressed_drawn c name owner xs)

pub addressed_foreign : (name owner : List ℕ) (out : List Reply) → tally (is_foreign name) (addressed name owner out) ≤ tally asks_for out
unfolding tally
addressed_foreign name owner [] = omega arith
addressed_foreign name owner (x ∷ xs) = grind (arith, addressed_foreign name owner xs, same_bytes name)

---- A move of a record, as the agent says it

pub speaks_answers : (begun : Option ℕ) (drawn : ℕ → ℕ) (name : List ℕ) (r : Record) (x : Moved) → Speaks begun drawn r x → (h : Header) (n : ℕ) →
    tally (answers_to h n) (addressed name x.rec.owner x.out) + owed_under name h n x.rec
    ≤ owed_under name h n r + times (bytes_eq h.requester r.owner && bytes_eq h.provider name) (one (is_id begun h.correlation))
unfolding owed_under
speaks_answers begun drawn name r x s h n =
    let a = addressed_answers h n name x.rec.owner x.out in
    let b = s.answers h.correlation n in
    let o = s.owner in
    grind (arith, a, b, o)

pub speaks_drawn : (begun : Option ℕ) (drawn : ℕ → ℕ) (name : List ℕ) (r : Record) (x : Moved) → Speaks begun drawn r x → (c : ℕ) →
    tally (is_drawn c) (addressed name x.rec.owner x.out) ≤ drawn c
speaks_drawn begun drawn name r x s c = omega (arith, addressed_drawn c name x.rec.owner x.out, s.notes c, s.asks)

pub speaks_own : (begun : Option ℕ) (drawn : ℕ → ℕ) (name : List ℕ) (r : Record) (x : Moved) → Speaks begun drawn r x →
    tally (is_foreign name) (addressed name x.rec.owner x.out) ≡ 0
speaks_own begun drawn name r x s = omega (arith, addressed_foreign name x.rec.owner x.out, s.asks)

-- a move that begins nothing
pub none_begun : (b : Bool) (h : Header) → times b (one (is_id None h.correlation)) ≡ 0
none_begun b h = grind arith

-- the request that is begun is the one that was taken
pub begun_same : (name owner : List ℕ) (h g : Header) → owner ≡ g.requester → g.provider ≡ name →
    times (bytes_eq h.requester owner && bytes_eq h.provider name) (one (is_id (Some g.correlation) h.correlation)) ≤ one (is_same_request h g)
begun_same name owner h g e f = grind (arith, e, f)

---- Ids

pub before_next : (number n c : ℕ) → one (c == id_of number n) + before number n c ≤ before number (n + 1) c
unfolding before
before_next number n c = grind arith

pub before_more : (number n c : ℕ) → before number n c ≤ before number (n + 1) c
before_more number n c = omega (arith, before_next number n c)

---- Requests that were taken

pub headers_same : (c d : ℕ) (r s p q : List ℕ) → c ≡ d → r ≡ s → p ≡ q →
    (let x : Header = record { correlation = c; requester = r; provider = p } in x) ≡ record { correlation = d; requester = s; provider = q }
headers_same c d r s p q e f g = rw (e, f, g) refl

pub same_header : (h g : Header) → is_same_request h g ≡ true → h ≡ g
same_header h g e =
    let a : h.requester ≡ g.requester = (bytes_eq-Decides h.requester g.requester).0 (first-part e) in
    let b : h.provider ≡ g.provider = (bytes_eq-Decides h.provider g.provider).0 (second-part e) in
    let c : h.correlation ≡ g.correlation = third-part e in
    headers_same h.correlation g.correlation h.requester g.requester h.provider g.provider c a b
  where
    first-part : is_same_request h g ≡ true → bytes_eq h.requester g.requester ≡ true
    first-part e = grind (arith, e)

    second-part : is_same_request h g ≡ true → bytes_eq h.provider g.provider ≡ true
    second-part e = grind (arith, e)

    third-part : is_same_request h g ≡ true → h.correlation ≡ g.correlation
    third-part e = grind (arith, e)

pub itself : (h : Header) → is_same_request h h ≡ true
itself h = grind (arith, same_bytes h.requester, same_bytes h.provider)

pub with_new_taken : (g : Header) (seen : List Header) → is_taken g seen ≡ false → with_taken g seen ≡ seen ++ g ∷ []
unfolding with_taken
with_new_taken g seen e = rw e refl

taken_append : (h g : Header) (seen : List Header) → is_taken h (seen ++ g ∷ []) ≡ (is_taken h seen || is_same_request h g)
unfolding is_taken
taken_append h g seen = list_any-append (is_same_request h) seen (g ∷ []) ∙ ap (λ b. list_any (is_same_request h) seen || b) (or_none (is_same_request h g))
  where
    or_none : (b : Bool) → (b || false) ≡ b
    or_none b = grind arith

not_both : (h g : Header) (seen : List Header) (b : Bool) → is_same_request h g ≡ b → is_taken g seen ≡ false → one b + one (is_taken h seen) ≤ one (is_taken h seen || b)
not_both h g seen true e n = let k : is_taken h seen ≡ false = ap (λ z. is_taken z seen) (same_header h g e) ∙ n in grind (arith, k)
not_both h g seen false e n = grind arith

-- a request that is taken for the first time is one more
pub taken_more : (h g : Header) (seen : List Header) → is_taken g seen ≡ false → one (is_same_request h g) + took h seen ≤ took h (with_taken g seen)
unfolding took
taken_more h g seen n = rw (with_new_taken g seen n, taken_append h g seen) (not_both h g seen (is_same_request h g) refl n)

with_old : (g : Header) (seen : List Header) → is_taken g seen ≡ true → with_taken g seen ≡ seen
unfolding with_taken
with_old g seen e = rw e refl

-- what was taken stays taken
pub taken_still : (h g : Header) (seen : List Header) → took h seen ≤ took h (with_taken g seen)
taken_still h g seen = by (is_taken g seen) refl
  where
    by : (b : Bool) → is_taken g seen ≡ b → took h seen ≤ took h (with_taken g seen)
    by false e = omega (arith, taken_more h g seen e)
    by true e = omega (arith, ap (took h) (with_old g seen e))

---- Messages

-- a request of an agent
pub request_answers : (h : Header) (n : ℕ) (m : Message) (rest : List Message) → is_asking m.body ≡ true → tally (answers_to h n) (m ∷ rest) ≡ tally (answers_to h n) rest
unfolding tally is_answering
request_answers h n m rest e = grind (arith, e)

not_noting : (body : Body) → is_asking body ≡ true → is_noting body ≡ false
unfolding is_asking is_noting
not_noting body e = grind (arith, e)

pub request_drawn : (c : ℕ) (m : Message) (rest : List Message) → is_asking m.body ≡ true → tally (is_drawn c) (m ∷ rest) ≡ one (c == m.header.correlation) + tally (is_drawn c) rest
unfolding tally
request_drawn c m rest e = grind (arith, e)

pub request_own : (name : List ℕ) (m : Message) (rest : List Message) → is_asking m.body ≡ true → m.header.requester ≡ name → tally (is_foreign name) (m ∷ rest) ≡ tally (is_foreign name) rest
unfolding tally
request_own name m rest e f = grind (arith, e, f, same_bytes name, not_noting m.body e)

-- an answer
pub answer_answers : (h : Header) (n : ℕ) (m : Message) → tally (answers_to h n) (m ∷ []) ≤ one (is_same_request h m.header)
unfolding tally
answer_answers h n m = grind arith

pub answer_drawn : (c : ℕ) (m : Message) → is_answering m.body ≡ true → tally (is_drawn c) (m ∷ []) ≡ 0
unfolding tally is_answering
answer_drawn c m e = grind (arith, e)

pub answer_own : (name : List ℕ) (m : Message) → is_answering m.body ≡ true → tally (is_foreign name) (m ∷ []) ≡ 0
unfolding tally is_answering
answer_own name m e = grind (arith, e)
