-- What is known of what an agent has said, whatever entries it has taken.
use Rattle.std.proofs.Common.{ℕ, ◌≤◌, ◌≡◌, Bool, true, false, not, List, ◌==◌, ◌&&◌, refl, sym, ap, subst, arith, bytes_eq, nat_lt}
use Rattle.std.specs.List.{Contains}
use Rattle.std.proofs.lemmas.Slice.Eq.{bytes_eq-Decides}
use Rattle.nsi_primitive.specs.Ids.{id_of}
use Rattle.nsi_primitive.specs.Messages.{kind_of, is_request}
use Rattle.nsi_primitive.specs.declared.entry.Entry.{Entry}
use Rattle.nsi_primitive.specs.declared.entry.Input.{Input}
use Rattle.nsi_primitive.specs.declared.message.Body.{Body}
use Rattle.nsi_primitive.specs.declared.message.Header.{Header}
use Rattle.nsi_primitive.specs.declared.message.Message.{Message}
use Rattle.message_retry.specs.Retry.{is_old}
use Rattle.message_retry.specs.Taken.{is_taken}
use Rattle.connection_record.specs.Speaking.{one, tally, number_of, is_asking, is_noting, is_answering}
use Rattle.child_connection.specs.Holding.{is_reservation}
use Rattle.agent_state.specs.State.{AgentState}
use Rattle.nsi_agent.specs.Homes.{Role, provides, aggregates, requests, Home}
use Rattle.nsi_agent.specs.Steps.{is_seen, is_new}
use Rattle.nsi_agent.specs.Told.{told, Gets, WasGot}
use Rattle.nsi_agent.specs.Said.{name_in, drawer_of}
use Rattle.nsi_agent.proofs.SeenGot.{seen_was_got}
use Rattle.agent_speech.specs.Owing.{answers_to, is_drawn, is_foreign, before, took, HasSaidOnce}
use Rattle.agent_speech.specs.Unanswered.{reserves_at}
use Rattle.agent_speech.specs.Laws.{RequestCame, AnswersWereAsked, OneHoldsIt}
use Rattle.agent_speech.proofs.Measures.{itself}
use Rattle.agent_speech.proofs.Counting.{tally_in, tally_zero, tally_one, tally_less}
use Rattle.agent_speech.proofs.Holding.{reserving_asks}
use Rattle.agent_speech.proofs.Every.{nothing_is_said_twice, what_is_asked_is_held}

module _ (h : Home) (es : List Entry) where
  once : HasSaidOnce (name_in h.role) (drawer_of h.role) (told h es).state (told h es).out
  once = nothing_is_said_twice h es

  ---- In whose name

  own_request : (n : List ℕ) (m : Message) → is_asking m.body ≡ true → is_foreign n m ≡ false → bytes_eq n m.header.requester ≡ true
  own_request n m e f = grind (arith, e, f)

  own_notice : (n : List ℕ) (m : Message) → is_noting m.body ≡ true → is_foreign n m ≡ false → bytes_eq n m.header.provider ≡ true
  own_notice n m e f = grind (arith, e, f)

  -- a request goes in its name
  pub asked_by : (m : Message) → Contains (told h es).out m → is_asking m.body ≡ true → name_in h.role ≡ m.header.requester
  asked_by m c e =
      (bytes_eq-Decides (name_in h.role) m.header.requester).0 (own_request (name_in h.role) m e (tally_zero (is_foreign (name_in h.role)) m (told h es).out c once.own))

  -- so does a notification
  pub noted_by : (m : Message) → Contains (told h es).out m → is_noting m.body ≡ true → name_in h.role ≡ m.header.provider
  noted_by m c e =
      (bytes_eq-Decides (name_in h.role) m.header.provider).0 (own_notice (name_in h.role) m e (tally_zero (is_foreign (name_in h.role)) m (told h es).out c once.own))

  ---- Once

  one_most : (b : Bool) → one b ≤ 1
  one_most b = grind arith

  one_least : (b : Bool) → 1 ≤ one b → b ≡ true
  one_least b k = grind (arith, k)

  drawn_most : (c : ℕ) → tally (is_drawn c) (told h es).out ≤ 1
  unfolding before
  drawn_most c = omega (arith, once.drawn c, one_most (nat_lt c (id_of (drawer_of h.role) (told h es).state.base.next)))

  is_drawn_asking : (m : Message) (c : ℕ) → is_asking m.body ≡ true → c ≡ m.header.correlation → is_drawn c m ≡ true
  is_drawn_asking m c e f = grind (arith, e, f)

  is_drawn_noting : (m : Message) (c : ℕ) → is_noting m.body ≡ true → c ≡ m.header.correlation → is_drawn c m ≡ true
  is_drawn_noting m c e f = grind (arith, e, f)

  -- two requests of one correlation are one, whatever their kinds
  pub request_once : (m n : Message) → Contains (told h es).out m → Contains (told h es).out n → is_asking m.body ≡ true → is_asking n.body ≡ true → n.header.correlation ≡ m.header.correlation → n ≡ m
  request_once m n c d e f k =
      tally_one (is_drawn m.header.correlation) n m (told h es).out d c (is_drawn_asking n m.header.correlation f (sym k)) (is_drawn_asking m m.header.correlation e refl) (drawn_most m.header.correlation)

  -- so are two notifications
  pub notice_once : (m n : Message) → Contains (told h es).out m → Contains (told h es).out n → is_noting m.body ≡ true → is_noting n.body ≡ true → n.header.correlation ≡ m.header.correlation → n ≡ m
  notice_once m n c d e f k =
      tally_one (is_drawn m.header.correlation) n m (told h es).out d c (is_drawn_noting n m.header.correlation f (sym k)) (is_drawn_noting m m.header.correlation e refl) (drawn_most m.header.correlation)

  answers_itself : (m : Message) → is_answering m.body ≡ true → answers_to m.header (number_of m.body) m ≡ true
  answers_itself m e = grind (arith, e, itself m.header)

  -- and two answers of one kind under one header
  pub answer_once : (m n : Message) → Contains (told h es).out m → Contains (told h es).out n → is_answering m.body ≡ true → is_answering n.body ≡ true → n.header ≡ m.header → number_of n.body ≡ number_of m.body → n ≡ m
  unfolding took
  answer_once m n c d e f k l =
      let p : Message → Bool = answers_to m.header (number_of m.body) in
      tally_one p n m (told h es).out d c (subst (λ (g : Header). answers_to g (number_of m.body) n ≡ true) k (subst (λ (i : ℕ). answers_to n.header i n ≡ true) l (answers_itself n f))) (answers_itself m e)
      (omega (arith, once.answers m.header (number_of m.body), one_most (is_taken m.header (told h es).state.base.seen)))

  ---- Answers come of requests

  answer_taken : (m : Message) → Contains (told h es).out m → is_answering m.body ≡ true → is_taken m.header (told h es).state.base.seen ≡ true
  unfolding took
  answer_taken m c e =
      let k : 1 ≤ tally (answers_to m.header (number_of m.body)) (told h es).out = tally_in (answers_to m.header (number_of m.body)) m (told h es).out c (answers_itself m e) in
      one_least (is_taken m.header (told h es).state.base.seen) (omega (arith, k, once.answers m.header (number_of m.body)))

-- some request with a header
abbrev some_request : Header → Message
some_request g = record { header = g; body = Body.ReserveCommit 0 }

sees_some : (role : Role) (s : AgentState) (g : Header) → is_taken g s.base.seen ≡ true → is_seen role s (some_request g) ≡ true
unfolding is_old
sees_some (provides setting stp_of) s g e = e
sees_some (aggregates setting) s g e = e
sees_some (requests setting) s g e = e

not_new : (h : Home) (s : AgentState) (g : Header) → is_taken g s.base.seen ≡ true → is_new h s (some_request g) ≡ false
unfolding is_new
not_new h s g e = ap not (sees_some h.role s g e)

came_by : (es : List Entry) (g : Header) (e : Entry) → Contains es e → (i : Input) → e.input ≡ i → Gets (some_request g) i → RequestCame g es
came_by es g e c (Input.Got n) is got =
    record { second = e.second; message = n; there = subst (λ (input : Input). Contains es (record { second = e.second; input = input })) is c; request = got.0; header = got.1 }
came_by es g e c (Input.Work n machine) is got = absurd got
came_by es g e c (Input.Force n) is got = absurd got
came_by es g e c (Input.Acked i) is got = absurd got
came_by es g e c Input.Tick is got = absurd got
came_by es g e c (Input.Ask n a) is got = absurd got

-- a request that counts as taken came
pub taken_came : (h : Home) (es : List Entry) (g : Header) → is_taken g (told h es).state.base.seen ≡ true → RequestCame g es
taken_came h es g e =
    let got : WasGot (some_request g) es = seen_was_got h es (some_request g) (not_new h (told h es).state g e) in
    came_by es g got.0 got.1 got.0.input refl got.2

-- an answer stands under the header of a request that came
pub answers_were_asked : AnswersWereAsked
answers_were_asked h es m c e = taken_came h es m.header (answer_taken h es m c e)

---- Held once

reserves_drawn : (p : List ℕ) (c : ℕ) (m : Message) → one (reserves_at p c m) ≤ one (is_drawn c m)
unfolding is_asking
reserves_drawn p c m = by (is_reservation (kind_of m.body)) refl
  where
    by : (b : Bool) → is_reservation (kind_of m.body) ≡ b → one (b && (bytes_eq p m.header.provider && (c == m.header.correlation))) ≤ one (is_drawn c m)
    by false e = omega arith
    by true e = let a : is_request m.body ≡ true = reserving_asks (kind_of m.body) e in grind (arith, a)

pub one_holds_it : OneHoldsIt
one_holds_it h es p c =
    omega (arith, (what_is_asked_is_held h es).few p c, tally_less (reserves_at p c) (is_drawn c) (reserves_drawn p c) (told h es).out, drawn_most h es c)
