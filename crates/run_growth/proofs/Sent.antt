-- What is sent in a run: two messages of one identity are one, and of a parent's requests one is outstanding.
use Rattle.std.proofs.Common.{ℕ, ◌≡◌, ◌⊎◌, inl, inr, ◌∙◌, Bool, true, false, cond, not, List, Some, ◌||◌, length, take, drop, take-append-drop, refl, sym, ap, subst, arith, bytes_eq}
use Rattle.std.specs.List.{Contains}
use Rattle.std.proofs.lemmas.Bool.{cases_eq}
use Rattle.std.proofs.lemmas.List.{take_all}
use Rattle.std.proofs.lemmas.List.Elements.{All-contains}
use Rattle.nsi_primitive.specs.Kinds.{is_request_kind, kind_number}
use Rattle.nsi_primitive.specs.Messages.{kind_of, identity, is_request}
use Rattle.nsi_primitive.specs.declared.entry.Entry.{Entry}
use Rattle.nsi_primitive.specs.declared.entry.Input.{Input}
use Rattle.nsi_primitive.specs.declared.message.Header.{Header}
use Rattle.nsi_primitive.specs.declared.message.Identity.{Identity}
use Rattle.nsi_primitive.specs.declared.message.Message.{Message}
use Rattle.stp_topology.specs.declared.network.Network.{Network}
use Rattle.connection_record.specs.Speaking.{number_of, is_asking, is_noting, is_answering, is_notice_kind}
use Rattle.child_connection.specs.Holding.{is_reservation}
use Rattle.nsi_agent.specs.Homes.{Routes, home_in}
use Rattle.nsi_agent.specs.Told.{told}
use Rattle.nsi_agent.specs.Said.{name_in}
use Rattle.nsi_agent.proofs.OwnMessages.{is_named_as_declared}
use Rattle.nsi_world.specs.Worlds.{Homes, IsAgent, World, empty, synced_part, said, IsSaidBy, IsSent, IsTo, IsGot}
use Rattle.nsi_world.specs.Runs.{world_after}
use Rattle.nsi_world.specs.Heard.{IsHeard, IsFair}
use Rattle.nsi_world.specs.Laws.{HeardWasSent}
use Rattle.agent_speech.specs.Laws.{RequestCame}
use Rattle.agent_speech.specs.Unanswered.{reserves_at, answers_at, held, was_answered, AnswerCame, HasHeld}
use Rattle.agent_speech.proofs.Counting.{tally_in}
use Rattle.agent_speech.proofs.Holding.{reserving_asks}
use Rattle.agent_speech.proofs.Every.{what_is_asked_is_held}
use Rattle.agent_speech.proofs.Measures.{same_bytes}
use Rattle.agent_speech.proofs.Spoken.{asked_by, noted_by, request_once, notice_once, answer_once, answers_were_asked, one_holds_it}
use Rattle.run_growth.specs.WorldCuts.{IsPlaceOf, told_to, IsGrown, begins, grows}
use Rattle.run_growth.specs.SentLaws.{IdentitiesAreOne, IsAnswered, AnswersAreOfRequests, WasTaken, OneIsOutstanding}
use Rattle.run_growth.proofs.Grown.{GoesOn, front_of, says_more, gets_more, AreGrown, run_grown}

-- names lead to numbers, and each agent speaks under its own
pub record Given (homes : Homes) : Type 0 where
  pub leads : (a b : ℕ) → (homes a).agent_of ≡ (homes b).agent_of
  pub named : (a : ℕ) → name_in (homes a).role ≡ (homes a).name

pub given_in : (t : Network) (routes : Routes) → Given (home_in t routes)
unfolding home_in
given_in t routes = record { leads = λ a b. refl; named = λ a. (is_named_as_declared t routes a).0 }

some_same : (a b : ℕ) → Some a ≡ Some b → a ≡ b
some_same a b e = cc

---- Kinds of message

pub request_asks : (m : Message) → is_request m.body ≡ true → is_asking m.body ≡ true
unfolding is_asking
request_asks m e = e

pub answer_asks : (m : Message) → is_answering m.body ≡ true → is_request m.body ≡ false
unfolding is_answering is_asking is_noting
answer_asks m e = by (is_request_kind (kind_of m.body)) (is_notice_kind (kind_of m.body)) e
  where
    by : (a b : Bool) → not (a || b) ≡ true → a ≡ false
    by true b h = absurd (cc)
    by false b h = refl

by_true : {X : Type 0} (b : Bool) (x y n : X) → b ≡ true → cond b x y ≡ n → x ≡ n
by_true true x y n e h = h
by_true false x y n e h = absurd (cc)

by_false : {X : Type 0} (b : Bool) (x y n : X) → b ≡ false → cond b x y ≡ n → y ≡ n
by_false true x y n e h = absurd (cc)
by_false false x y n e h = h

same_header : (m n : Message) → identity n ≡ identity m → n.header ≡ m.header
same_header m n e =
    parts n.header.correlation m.header.correlation n.header.requester m.header.requester n.header.provider m.header.provider (ap (λ (i : Identity). i.correlation) e) (ap (λ (i : Identity). i.requester) e) (ap (λ (i : Identity). i.provider) e)
  where
    parts : (c d : ℕ) (r s p q : List ℕ) → c ≡ d → r ≡ s → p ≡ q → (let x : Header = record { correlation = c; requester = r; provider = p } in x) ≡ record { correlation = d; requester = s; provider = q }
    parts c d r s p q e f g = rw (e, f, g) refl

-- an agent of whom there is an entry is one
pub grown_agent : (homes : Homes) (journal : ℕ → List Entry) → IsGrown homes journal → (a : ℕ) (e : Entry) → Contains (journal a) e → IsAgent homes a
grown_agent homes journal (begins _ none) a e c = absurd (let lt = (subst (λ es. Contains es e) (none a) c).1 in omega (arith, lt))
grown_agent homes journal (grows first _ b f answer x agent room entered here there) a e c = elim (cases_eq a b) [
  | inl q ↦ subst (IsAgent homes) (sym q) agent
  | inr n ↦ grown_agent homes first x a e (subst (λ es. Contains es e) (there a n) c)
]

-- so it is in each world of a run
pub run_agent : (homes : Homes) (w : World) → AreGrown homes w → (a : ℕ) (e : Entry) → Contains (w.journal a) e → IsAgent homes a
run_agent homes w grown a e c =
    let n : ℕ = length (w.journal a) in
    grown_agent homes _ (grown.grown (λ b. length (w.journal b)) (λ b. (grown.within b, omega arith))) a e
    (subst (λ (es : List Entry). Contains es e) (sym (take_all n (w.journal a) (omega arith))) c)

module _ (homes : Homes) (given : Given homes) (w : World) (fair : IsFair homes w) where
  pub agents_same : (a b : ℕ) → IsAgent homes a → IsAgent homes b → (homes a).name ≡ (homes b).name → a ≡ b
  agents_same a b p q e = some_same a b (sym p ∙ (ap (homes a).agent_of e ∙ (ap (λ f. f (homes b).name) (given.leads a b) ∙ q)))

  pub front : (n : ℕ) (a : ℕ) → GoesOn (take n (w.journal a)) (w.journal a)
  front n a = (drop n (w.journal a), sym (take-append-drop n (w.journal a)))

  -- what was heard was sent, and to the agent
  pub got_sent : (a : ℕ) (m : Message) → IsGot m (w.journal a) → IsSent homes w m × IsTo homes a m
  got_sent a m got =
      let heard : IsHeard homes w a (record { second = got.second; input = Input.Got m }) = All-contains (IsHeard homes w a) (w.journal a) (record { second = got.second; input = Input.Got m }) (fair.heard a) got.there in
      heard.sent

  pub to_provider : (a : ℕ) (m : Message) → is_request m.body ≡ true → IsTo homes a m → m.header.provider ≡ (homes a).name
  to_provider a m e h = by_true (is_request m.body) m.header.provider m.header.requester (homes a).name e h

  pub to_requester : (a : ℕ) (m : Message) → is_request m.body ≡ false → IsTo homes a m → m.header.requester ≡ (homes a).name
  to_requester a m e h = by_false (is_request m.body) m.header.provider m.header.requester (homes a).name e h

  ---- Who said it

  pub request_by : (a : ℕ) (m : Message) → IsSaidBy homes w a m → is_asking m.body ≡ true → (homes a).name ≡ m.header.requester
  request_by a m s e = sym (given.named a) ∙ asked_by (homes a) (synced_part w a) m s.1 e

  pub notice_by : (a : ℕ) (m : Message) → IsSaidBy homes w a m → is_noting m.body ≡ true → (homes a).name ≡ m.header.provider
  notice_by a m s e = sym (given.named a) ∙ noted_by (homes a) (synced_part w a) m s.1 e

  pub answer_by : (a : ℕ) (m : Message) → IsSaidBy homes w a m → is_answering m.body ≡ true → (homes a).name ≡ m.header.provider
  answer_by a m s e =
      let q : RequestCame m.header (synced_part w a) = answers_were_asked (homes a) (synced_part w a) m s.1 e in
      let k = got_sent a q.message (gets_more q.message (synced_part w a) (w.journal a) (front (w.synced a) a) (record { second = q.second; there = q.there })) in
      sym (to_provider a q.message q.request k.1) ∙ ap (λ (h : Header). h.provider) q.header

  ---- One identity, one message

  pub identity_once : (a b : ℕ) (m n : Message) → IsSaidBy homes w a m → IsSaidBy homes w b n → identity n ≡ identity m → n ≡ m
  unfolding is_asking is_noting is_answering number_of
  identity_once a b m n p q e = by_class (is_asking m.body) (is_noting m.body) refl refl
    where
      h : n.header ≡ m.header
      h = same_header m n e

      kinds : kind_of n.body ≡ kind_of m.body
      kinds = ap (λ (i : Identity). i.kind) e

      requester : n.header.requester ≡ m.header.requester
      requester = ap (λ (g : Header). g.requester) h

      provider : n.header.provider ≡ m.header.provider
      provider = ap (λ (g : Header). g.provider) h

      correlation : n.header.correlation ≡ m.header.correlation
      correlation = ap (λ (g : Header). g.correlation) h

      asking : is_asking n.body ≡ is_asking m.body
      asking = ap is_request_kind kinds

      noting : is_noting n.body ≡ is_noting m.body
      noting = ap is_notice_kind kinds

      moved : b ≡ a → Contains (said homes w a) n
      moved same = subst (λ z. Contains (said homes w z) n) same q.1

      neither : (x y : Bool) → x ≡ false → y ≡ false → not (x || y) ≡ true
      neither x y e f = grind (arith, e, f)

      by_class : (x y : Bool) → is_asking m.body ≡ x → is_noting m.body ≡ y → n ≡ m
      by_class true y i j =
          let same : b ≡ a = agents_same b a q.0 p.0 (request_by b n q (asking ∙ i) ∙ (requester ∙ sym (request_by a m p i))) in
          request_once (homes a) (synced_part w a) m n p.1 (moved same) i (asking ∙ i) correlation
      by_class false true i j =
          let same : b ≡ a = agents_same b a q.0 p.0 (notice_by b n q (noting ∙ j) ∙ (provider ∙ sym (notice_by a m p j))) in
          notice_once (homes a) (synced_part w a) m n p.1 (moved same) j (noting ∙ j) correlation
      by_class false false i j =
          let am : is_answering m.body ≡ true = neither (is_asking m.body) (is_noting m.body) i j in
          let an : is_answering n.body ≡ true = neither (is_asking n.body) (is_noting n.body) (asking ∙ i) (noting ∙ j) in
          let same : b ≡ a = agents_same b a q.0 p.0 (answer_by b n q an ∙ (provider ∙ sym (answer_by a m p am))) in
          answer_once (homes a) (synced_part w a) m n p.1 (moved same) am an h (ap kind_number kinds)

  ---- One outstanding

  answer_parts : (p : List ℕ) (c : ℕ) (m : Message) → answers_at p c m ≡ true → (is_answering m.body ≡ true) × (bytes_eq p m.header.provider ≡ true) × (c ≡ m.header.correlation)
  answer_parts p c m e = grind (arith, e)

  asks_itself : (m : Message) → is_reservation (kind_of m.body) ≡ true → reserves_at m.header.provider m.header.correlation m ≡ true
  asks_itself m e = grind (arith, e, same_bytes m.header.provider)

  -- an answer that was heard answers a request of the agent
  pub answer_of : (a : ℕ) (m : Message) → IsAgent homes a → IsGot m (w.journal a) → is_answering m.body ≡ true → IsAnswered homes w a m
  answer_of a m here got e =
      let sent : IsSent homes w m × IsTo homes a m = got_sent a m got in
      let b : ℕ = sent.0.0 in
      let by_b : IsSaidBy homes w b m = sent.0.1 in
      let q : RequestCame m.header (synced_part w b) = answers_were_asked (homes b) (synced_part w b) m by_b.1 e in
      let n : Message = q.message in
      let synced : IsGot n (synced_part w b) = record { second = q.second; there = q.there } in
      let asked : IsSent homes w n × IsTo homes b n = got_sent b n (gets_more n (synced_part w b) (w.journal b) (front (w.synced b) b) synced) in
      let d : ℕ = asked.0.0 in
      let by_d : IsSaidBy homes w d n = asked.0.1 in
      let name : (homes d).name ≡ (homes a).name =
      request_by d n by_d (request_asks n q.request) ∙ (ap (λ (h : Header). h.requester) q.header ∙ to_requester a m (answer_asks m e) sent.1)
      in
      record {
        request = n;
        asks = q.request;
        header = q.header;
        asked = subst (λ z. IsSaidBy homes w z n) (agents_same d a by_d.0 here name) by_d;
        by = b;
        answered = by_b;
        addressed = asked.1;
        got = synced;
      }

  module _ (agents : (b : ℕ) (e : Entry) → Contains (w.journal b) e → IsAgent homes b) (a k : ℕ) (place : IsPlaceOf w a k) (m : Message) (c : Contains (told_to homes w a k).out m) (asks : is_request m.body ≡ true) where
    abbrev es : List Entry
    es = take k (w.journal a)

    -- what was answered was taken
    answered_taken : AnswerCame m.header.provider m.header.correlation es → WasTaken homes w m
    answered_taken came =
        let f : Message = came.message in
        let parts = answer_parts m.header.provider m.header.correlation f came.answers in
        let got : IsGot f (w.journal a) = gets_more f es (w.journal a) (front k a) (record { second = came.second; there = came.there }) in
        let q : IsAnswered homes w a f = answer_of a f (agents a _ got.there) got parts.0 in
        let n : Message = q.request in
        let there : Contains (told (homes a) es).out n = says_more (homes a) n (synced_part w a) es (front_of (w.synced a) k (w.journal a) place.0) q.asked.1 in
        let one : n ≡ m = request_once (homes a) es m n c there (request_asks m asks) (request_asks n q.asks) (ap (λ (h : Header). h.correlation) q.header ∙ sym parts.2) in
        record {
          by = q.by;
          agent = q.answered.0;
          addressed = subst (IsTo homes q.by) one q.addressed;
          got = subst (λ (x : Message). IsGot x (synced_part w q.by)) one q.got;
        }

    pub taken_or_held : is_reservation (kind_of m.body) ≡ true → WasTaken homes w m ⊎ (held m.header.provider m.header.correlation (told_to homes w a k).state ≡ 1)
    taken_or_held r = by (was_answered m.header.provider m.header.correlation (told (homes a) es).state.base.heard) refl
      where
        all : HasHeld es (told (homes a) es).state (told (homes a) es).out
        all = what_is_asked_is_held (homes a) es

        by : (b : Bool) → was_answered m.header.provider m.header.correlation (told (homes a) es).state.base.heard ≡ b → WasTaken homes w m ⊎ (held m.header.provider m.header.correlation (told (homes a) es).state ≡ 1)
        by true e = inl (answered_taken (all.came m.header.provider m.header.correlation e))
        by false e =
            inr
            (omega (
              arith,
              all.holds_on m.header.provider m.header.correlation e,
              tally_in (reserves_at m.header.provider m.header.correlation) m (told (homes a) es).out c (asks_itself m r),
              one_holds_it (homes a) es m.header.provider m.header.correlation,
            ))

---- The laws

pub identities_are_one : HeardWasSent → IdentitiesAreOne
identities_are_one heard t routes events m n r p q e =
    identity_once (home_in t routes) (given_in t routes) (world_after empty events) (heard (home_in t routes) events r) p.0 q.0 m n p.1 q.1 e

pub answers_are_of_requests : HeardWasSent → AnswersAreOfRequests
answers_are_of_requests heard t routes events a m r got e =
    answer_of (home_in t routes) (given_in t routes) (world_after empty events) (heard (home_in t routes) events r) a m
    (run_agent (home_in t routes) (world_after empty events) (run_grown (home_in t routes) events r) a _ got.there) got e

pub one_is_outstanding : HeardWasSent → OneIsOutstanding
one_is_outstanding heard t routes events a k m r place c res =
    taken_or_held (home_in t routes) (given_in t routes) (world_after empty events) (heard (home_in t routes) events r)
    (run_agent (home_in t routes) (world_after empty events) (run_grown (home_in t routes) events r)) a k place m c
    (reserving_asks (kind_of m.body) res) res
