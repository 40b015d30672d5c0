-- What a parent and its child know of each other, where journals are made by entries alone.
use Rattle.std.proofs.Common.{ℕ, ◌≤◌, ◌≡◌, ◌∙◌, Bool, true, false, List, ◌==◌, Contains, inl, inr, refl, sym, ap, subst, arith, nat_lt, eq-eqb}
use Rattle.nsi_primitive.specs.Ids.{id_of}
use Rattle.nsi_primitive.specs.Messages.{has_rows, is_request}
use Rattle.nsi_primitive.specs.declared.entry.Entry.{Entry}
use Rattle.nsi_primitive.specs.declared.message.Body.{Body}
use Rattle.nsi_primitive.specs.declared.message.Header.{Header}
use Rattle.nsi_primitive.specs.declared.message.Message.{Message}
use Rattle.message_retry.specs.Taken.{is_taken, is_same_request}
use Rattle.connection_record.specs.Speaking.{one, number_of, is_asking, is_answering}
use Rattle.nsi_agent.specs.Homes.{Home}
use Rattle.nsi_agent.specs.Told.{Told, told}
use Rattle.nsi_agent.specs.Said.{name_in, drawer_of}
use Rattle.nsi_world.specs.Worlds.{Homes, IsAgent, IsSaidBy, IsSent, IsTo}
use Rattle.nsi_world.specs.Heard.{IsFair as IsFairWorld}
use Rattle.agent_speech.specs.Owing.{answers_to, is_drawn, before, HasSaidOnce}
use Rattle.agent_speech.specs.Laws.{RequestCame}
use Rattle.agent_speech.proofs.Counting.{tally_in}
use Rattle.agent_speech.proofs.Every.{nothing_is_said_twice}
use Rattle.agent_speech.proofs.Fair.{unsaid, unowed, ids_apart}
use Rattle.agent_speech.proofs.Spoken.{asked_by, request_once, taken_came}
use Rattle.run_growth.specs.WorldCuts.{all_synced, IsGrown}
use Rattle.run_growth.proofs.Sent.{Given, agents_same, got_sent, request_by, answer_by, to_requester, request_asks, answer_asks}
use Rattle.run_growth.proofs.WorldCuts.{synced_whole, grown_fair}
use Rattle.circuit_link.specs.Children.{about, MayReach, IsFair}
use Rattle.circuit_link.specs.Headers.{header_of}
use Rattle.circuit_link.specs.Serving.{child_of}
use Rattle.circuit_link.proofs.Answering.{none_there}
use Rattle.circuit_link.proofs.Abouts.{header_itself, headers_same, said_under}
use Rattle.circuit_pairs.specs.Pairs.{IsOnce, IsFresh}
use Rattle.circuit_laws.proofs.Roles.{about_in}

---- An agent that is asked

-- what any agent keeps and has said is fair to whoever asks it
pub told_fair : (h : Home) (es : List Entry) (parent : List ℕ) → IsFair parent (name_in h.role) (child_of (told h es).state.base (told h es).out)
told_fair h es parent =
    record {
      silent = λ c u. none_there (about (header_of parent (name_in h.role) c) (told h es).out) (λ b i. silent c u b i);
      unowed = λ c n k u o. unowed (name_in h.role) (drawer_of h.role) (told h es).state (told h es).out once parent c n k u o;
      ids = λ n k l m e. ids_apart (name_in h.role) (drawer_of h.role) (told h es).state (told h es).out once n k l m (sym e);
    }
  where
    once : HasSaidOnce (name_in h.role) (drawer_of h.role) (told h es).state (told h es).out
    once = nothing_is_said_twice h es

    counts : (g : Header) (m : Message) → is_answering m.body ≡ true → is_same_request g m.header ≡ true → answers_to g (number_of m.body) m ≡ true
    counts g m a r = grind (arith, a, r)

    silent : (c : ℕ) → is_taken (header_of parent (name_in h.role) c) (told h es).state.base.seen ≡ false → (b : Body) → Contains (about (header_of parent (name_in h.role) c) (told h es).out) b → ⊥
    silent c u b i =
        let s = said_under (header_of parent (name_in h.role) c) b (told h es).out i in
        omega (
          arith,
          (unsaid (name_in h.role) (drawer_of h.role) (told h es).state (told h es).out once (header_of parent (name_in h.role) c) (number_of s.message.body) u).0,
          tally_in (answers_to (header_of parent (name_in h.role) c) (number_of s.message.body)) s.message (told h es).out s.there
              (counts (header_of parent (name_in h.role) c) s.message s.answering s.header),
        )

---- An agent that asks

pub told_once : (h : Home) (es : List Entry) → IsOnce (name_in h.role) (told h es).out
told_once h es =
    record {
      own = λ m c e. sym (asked_by h es m c (request_asks m e));
      once = λ m n c d e f k. request_once h es n m d c (request_asks n f) (request_asks m e) k;
    }

-- it has asked nothing under the ids that it hasn't drawn
pub undrawn : (h : Home) (es : List Entry) (k : ℕ) → (told h es).state.base.next ≤ k → (m : Message) → Contains (told h es).out m → is_request m.body ≡ true → m.header.correlation ≡ id_of (drawer_of h.role) k → ⊥
unfolding before
undrawn h es k l m i e f =
    let c : ℕ = id_of (drawer_of h.role) k in
    let once : HasSaidOnce (name_in h.role) (drawer_of h.role) (told h es).state (told h es).out = nothing_is_said_twice h es in
    omega (
      arith,
      tally_in (is_drawn c) m (told h es).out i (drawn m c (request_asks m e) f),
      once.drawn c,
      ap one (not_under (drawer_of h.role) c (told h es).state.base.next k refl l),
    )
  where
    drawn : (m : Message) (c : ℕ) → is_asking m.body ≡ true → m.header.correlation ≡ c → is_drawn c m ≡ true
    drawn m c e f = let k : (c == m.header.correlation) ≡ true = eq-eqb c m.header.correlation (sym f) in grind (arith, e, k)

    not_under : (number c n k : ℕ) → c ≡ id_of number k → n ≤ k → nat_lt c (id_of number n) ≡ false
    not_under number c n k e l = let q : id_of number n ≤ c = omega (arith, e, l) in grind (arith, q)

---- One of the other

module _ (homes : Homes) (given : Given homes) (a b : ℕ) (agent : IsAgent homes a) (other : IsAgent homes b) (journal : ℕ → List Entry) (grown : IsGrown homes journal) where
  abbrev parent : List ℕ
  parent = name_in (homes a).role

  abbrev child : List ℕ
  child = name_in (homes b).role

  abbrev mine : Told
  mine = told (homes a) (journal a)

  abbrev theirs : Told
  theirs = told (homes b) (journal b)

  fair : IsFairWorld homes (all_synced journal)
  fair = grown_fair homes journal grown

  -- a request in the parent's name was said by the parent
  pub request_said : (m : Message) → IsSent homes (all_synced journal) m → is_request m.body ≡ true → m.header.requester ≡ parent → Contains mine.out m
  request_said m s q r =
      let z : ℕ = s.0 in
      let name : (homes z).name ≡ (homes a).name = request_by homes given (all_synced journal) fair z m s.1 (request_asks m q) ∙ (r ∙ given.named a) in
      let same : z ≡ a = agents_same homes given (all_synced journal) fair z a s.1.0 agent name in
      subst (λ (es : List Entry). Contains (told (homes a) es).out m) (synced_whole journal a)
      (subst (λ (y : ℕ). IsSaidBy homes (all_synced journal) y m) same s.1).1

  -- what the child took of the parent, the parent said
  taken_said : (h : Header) → h.requester ≡ parent → is_taken h theirs.state.base.seen ≡ true → (m : Message) × Contains mine.out m × (m.header ≡ h) × (is_request m.body ≡ true)
  taken_said h r k =
      let q : RequestCame h (journal b) = taken_came (homes b) (journal b) h k in
      let c : IsSent homes (all_synced journal) q.message × IsTo homes b q.message = got_sent homes given (all_synced journal) fair b q.message (record { second = q.second; there = q.there }) in
      (q.message, request_said q.message c.0 q.request (ap (λ (g : Header). g.requester) q.header ∙ r), q.header, q.request)

  -- an answer of the child that the parent may hear was said to it
  pub answer_said : (m : Message) → IsSent homes (all_synced journal) m → IsTo homes a m → is_answering m.body ≡ true → has_rows m.body ≡ false → m.header.provider ≡ child →
      Contains (about (header_of parent child m.header.correlation) theirs.out) m.body
  answer_said m s to e rowless p =
      let z : ℕ = s.0 in
      let name : (homes z).name ≡ (homes b).name = answer_by homes given (all_synced journal) fair z m s.1 e ∙ (p ∙ given.named b) in
      let same : z ≡ b = agents_same homes given (all_synced journal) fair z b s.1.0 other name in
      let there : Contains theirs.out m =
      subst (λ (es : List Entry). Contains (told (homes b) es).out m) (synced_whole journal b)
      (subst (λ (y : ℕ). IsSaidBy homes (all_synced journal) y m) same s.1).1
      in
      let own : m.header.requester ≡ parent = to_requester homes given (all_synced journal) fair a m (answer_asks m e) to ∙ sym (given.named a) in
      let header : m.header ≡ header_of parent child m.header.correlation =
      headers_same m.header.correlation m.header.correlation m.header.requester parent m.header.provider child refl own p
      in
      about_in (header_of parent child m.header.correlation) m theirs.out there e rowless
      (subst (λ (g : Header). is_same_request (header_of parent child m.header.correlation) g ≡ true) (sym header) (header_itself (header_of parent child m.header.correlation)))

  pub answer_reaches : (m : Message) → IsSent homes (all_synced journal) m → IsTo homes a m → is_answering m.body ≡ true → m.header.provider ≡ child →
      MayReach (header_of parent child m.header.correlation) theirs.out m.body
  answer_reaches m s to e p = by_rows (has_rows m.body) refl
    where
      by_rows : (t : Bool) → has_rows m.body ≡ t → MayReach (header_of parent child m.header.correlation) theirs.out m.body
      by_rows true r = inr r
      by_rows false r = inl (answer_said m s to e r p)

  -- no id that the parent hasn't drawn was asked under, nor taken
  pub told_fresh : IsFresh parent child (drawer_of (homes a).role) (child_of theirs.state.base theirs.out) mine.state.base.next mine.out
  told_fresh = record { unasked = λ k l m i e f. undrawn (homes a) (journal a) k l m i e f; untaken = λ k l. untaken k l _ refl }
    where
      untaken : (k : ℕ) → mine.state.base.next ≤ k → (x : Bool) → is_taken (header_of parent child (id_of (drawer_of (homes a).role) k)) theirs.state.base.seen ≡ x → x ≡ false
      untaken k l false q = refl
      untaken k l true q =
          let (m, i, e, r) = taken_said (header_of parent child (id_of (drawer_of (homes a).role) k)) refl q in
          absurd (undrawn (homes a) (journal a) k l m i r (ap (λ (g : Header). g.correlation) e))
