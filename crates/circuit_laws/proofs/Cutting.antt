-- The views of a parent and its child in any two cuts of a run.
use Rattle.std.proofs.Common.{ℕ, ◌<◌, get_or, length, ◌≡◌, ◌∙◌, true, false, List, Contains, Some, take, refl, sym, ap, subst, arith}
use Rattle.std.proofs.lemmas.List.Elements.{Contains-get_or}
use Rattle.nsi_primitive.specs.Messages.{is_request}
use Rattle.nsi_primitive.specs.declared.entry.Entry.{Entry}
use Rattle.nsi_primitive.specs.declared.entry.Event.{Event}
use Rattle.nsi_primitive.specs.declared.message.Body.{Body}
use Rattle.nsi_primitive.specs.declared.message.Header.{Header}
use Rattle.nsi_primitive.specs.declared.message.Message.{Message}
use Rattle.connection_record.specs.Speaking.{is_answering}
use Rattle.child_connection.specs.Views.{ChildConnection}
use Rattle.child_connection.specs.Holding.{IsAlike}
use Rattle.connection_record.specs.Refusal.{place_of}
use Rattle.agent_state.specs.State.{AgentState, blank_agent}
use Rattle.nsi_agent.specs.Told.{Told, told}
use Rattle.nsi_agent.specs.Said.{name_in}
use Rattle.nsi_world.specs.Worlds.{Homes, IsAgent, World, empty, synced_part, said, IsSaidBy, IsSent, IsTo}
use Rattle.nsi_world.specs.Runs.{is_requester, world_after, AreAllowed, at}
use Rattle.nsi_world.specs.Heard.{IsFair as IsFairWorld}
use Rattle.agent_speech.specs.Laws.{RequestCame}
use Rattle.agent_speech.proofs.Spoken.{answers_were_asked}
use Rattle.run_growth.specs.WorldCuts.{IsPlaceOf, cut, told_to}
use Rattle.run_growth.proofs.Grown.{at_same, at_other, front_of, says_more, gets_more, AreGrown, run_grown}
use Rattle.run_growth.proofs.Sent.{Given, agents_same, front, got_sent, request_by, request_asks}
use Rattle.run_growth.proofs.WorldCuts.{synced_cut, cut_at}
use Rattle.circuit_link.specs.Children.{Child}
use Rattle.circuit_link.specs.Headers.{header_of}
use Rattle.circuit_link.specs.Serving.{child_of}
use Rattle.circuit_link.proofs.Abouts.{same_header, IsSaidUnder, said_under}
use Rattle.circuit_pairs.specs.Pairs.{IsPair, IsAsked, IsCommitOf, IsBacked, AreBacked}
use Rattle.circuit_pairs.specs.Minding.{no_child}
use Rattle.circuit_pairs.specs.Laws.{CanTellApart}
use Rattle.circuit_laws.specs.Backed.{IsBackedIn, AreBackedIn}
use Rattle.circuit_laws.specs.Laws.{child_at, HasPhases, IsInStep}
use Rattle.circuit_laws.proofs.Roles.{Keeps}
use Rattle.circuit_laws.proofs.Facts.{told_fair, told_once}
use Rattle.circuit_laws.proofs.Pairs.{grown_pair}
use Rattle.circuit_laws.proofs.Views.{one_knows, placed, phases_of, step_of, stands_at}

whole_message : (m : Message) (h : Header) (b : Body) → m.header ≡ h → m.body ≡ b → m ≡ record { header = h; body = b }
whole_message m h b e f = made m.header h m.body b e f
  where
    made : (g h : Header) (c b : Body) → g ≡ h → c ≡ b → (let x : Message = record { header = g; body = c } in x) ≡ record { header = h; body = b }
    made g h c b e f = rw (e, f) refl

commit_asks : (b : Body) (id : ℕ) → b ≡ Body.ReserveCommit id → is_request b ≡ true
commit_asks b id e = ap is_request e

module _ (homes : Homes) (given : Given homes) (events : List Event) (allowed : AreAllowed homes empty events) (a b : ℕ) (agent : IsAgent homes a) (other : IsAgent homes b) (apart : b ≡ a → ⊥) (asked : is_requester (homes b).role ≡ false)
    (I : Type 0) (dec : CanTellApart I) (views : AgentState → I → ChildConnection) (keeps : Keeps I (homes a).role (name_in (homes b).role) views) (alike : (i : I) → IsAlike (no_child (name_in (homes b).role)) (views blank_agent i)) (k : ℕ) (place : IsPlaceOf (world_after empty events) a k) where
  abbrev w : World
  w = world_after empty events

  abbrev parent : List ℕ
  parent = name_in (homes a).role

  abbrev child : List ℕ
  child = name_in (homes b).role

  abbrev mine : Told
  mine = told_to homes w a k

  grown : AreGrown homes w
  grown = run_grown homes events allowed

  -- both in their own cuts
  pub cut_pair : (j : ℕ) → IsPlaceOf w b j → IsPair I parent child (views mine.state) mine.out (child_at homes w b j)
  cut_pair j there =
      subst (λ (es : List Entry). IsPair I parent child (views (told (homes a) es).state) (told (homes a) es).out (child_at homes w b j)) (ap (λ (n : ℕ). take n (w.journal a)) (at_same a k (at b j w.synced)))
      (subst (λ (es : List Entry). IsPair I parent child (views (told (homes a) (cut w c a)).state) (told (homes a) (cut w c a)).out (child_of (told (homes b) es).state.base (told (homes b) es).out))
      (ap (λ (n : ℕ). take n (w.journal b)) (at_other a b k (at b j w.synced) apart ∙ at_same b j w.synced))
      (grown_pair homes given a b agent other apart asked I dec views keeps alike (cut w c) (grown.grown c (cut_at w (at b j w.synced) a k (cut_at w w.synced b j (synced_cut w grown.within) there) place))))
    where
      c : ℕ → ℕ
      c = at a k (at b j (world_after empty events).synced)

  pub view_phases : (j : ℕ) → IsPlaceOf w b j → (i : I) → HasPhases parent child (child_at homes w b j) (views mine.state i)
  view_phases j there i = phases_of I parent child (views mine.state) mine.out (child_at homes w b j) (cut_pair j there) (told_fair (homes b) (take j (w.journal b)) parent) i

  pub view_step : (j : ℕ) → IsPlaceOf w b j → (i : I) → IsInStep parent (child_at homes w b j) (views mine.state i)
  view_step j there i = step_of I parent child (views mine.state) mine.out (child_at homes w b j) (cut_pair j there) (told_fair (homes b) (take j (w.journal b)) parent) i

  pub view_known : (i j : I) (id : ℕ) → (views mine.state i).connection ≡ Some id → (views mine.state j).connection ≡ Some id → i ≡ j
  view_known i j id e f =
      let n : ℕ = w.synced b in
      one_knows I parent child (views mine.state) mine.out (child_at homes w b n) (cut_pair n (omega arith, grown.within b)) (told_fair (homes b) (take n (w.journal b)) parent) i j id e f

  ---- What is backed

  module _ (fair : IsFairWorld homes w) where
    -- a commit that was answered was sent
    commit_sent : (c id : ℕ) → IsAsked parent child c mine.out (IsCommitOf id) → (f : Message) → Contains (said homes w b) f → is_answering f.body ≡ true → f.header ≡ header_of parent child c →
        IsSent homes w (record { header = header_of parent child c; body = Body.ReserveCommit id })
    commit_sent c id s f there answers h =
        let q : RequestCame f.header (synced_part w b) = answers_were_asked (homes b) (synced_part w b) f there answers in
        let n : Message = q.message in
        let came : IsSent homes w n × IsTo homes b n = got_sent homes given w fair b n (gets_more n (synced_part w b) (w.journal b) (front homes given w fair (w.synced b) b) (record { second = q.second; there = q.there })) in
        let z : ℕ = came.0.0 in
        let named : n.header ≡ header_of parent child c = q.header ∙ h in
        let name : (homes z).name ≡ (homes a).name = request_by homes given w fair z n came.0.1 (request_asks n q.request) ∙ (ap (λ (g : Header). g.requester) named ∙ given.named a) in
        let by_a : IsSaidBy homes w a n = subst (λ (y : ℕ). IsSaidBy homes w y n) (agents_same homes given w fair z a came.0.1.0 agent name) came.0.1 in
        let now : Contains mine.out n = says_more (homes a) n (synced_part w a) (take k (w.journal a)) (front_of (w.synced a) k (w.journal a) place.0) by_a.1 in
        let one : n ≡ s.message =
        (told_once (homes a) (take k (w.journal a))).once n s.message now s.there q.request (commit_asks s.message.body id s.is)
        (ap (λ (g : Header). g.correlation) named ∙ sym (ap (λ (g : Header). g.correlation) s.header))
        in
        (a, subst (IsSaidBy homes w a) (one ∙ whole_message s.message (header_of parent child c) (Body.ReserveCommit id) s.header s.is) by_a)

    pub views_backed : (i : I) → AreBackedIn homes w a b (views mine.state i)
    views_backed i = record { own = all.own; long = all.long; each = λ n l. one n l; apart = all.apart }
      where
        pair : IsPair I parent child (views mine.state) mine.out (child_at homes w b (w.synced b))
        pair = cut_pair (w.synced b) (omega arith, grown.within b)

        all : AreBacked parent child (views mine.state i) mine.out (child_at homes w b (w.synced b))
        all = pair.backed i

        named : (P : List ℕ → List ℕ → Type 0) → P (name_in (homes a).role) (name_in (homes b).role) → P (homes a).name (homes b).name
        named P h = subst (λ (p : List ℕ). P p (homes b).name) (given.named a) (subst (λ (r : List ℕ). P (name_in (homes a).role) r) (given.named b) h)

        one : (n : ℕ) → n < length all.own → IsBackedIn homes w a b (views mine.state i) (get_or (views mine.state i).committed n 0) (get_or all.own n 0)
        one n l =
            let d : Child = child_at homes w b (w.synced b) in
            let x : ChildConnection = views mine.state i in
            let c : ℕ = get_or all.own n 0 in
            let y : IsBacked parent child x c mine.out d = all.each n l in
            let f : IsSaidUnder (header_of parent child c) (Body.ReserveCommitConfirmed y.id) d.said = said_under (header_of parent child c) (Body.ReserveCommitConfirmed y.id) d.said y.confirmed in
            let h : f.message.header ≡ header_of parent child c = sym (same_header (header_of parent child c) f.message.header f.header) in
            let (k, e, g) = placed I parent child (views mine.state) mine.out d pair (told_fair (homes b) (take (w.synced b) (w.journal b)) parent) i y.connection y.known in
            record {
              connection = y.connection;
              known = y.known;
              commit = named (λ p r. IsSent homes w (record { header = header_of p r c; body = Body.ReserveCommit y.connection })) (commit_sent c y.connection y.commit f.message f.there f.answering h);
              id = y.id;
              confirmed = named (λ p r. IsSent homes w (record { header = header_of p r c; body = Body.ReserveCommitConfirmed y.id }))
                  (b, (other, subst (Contains (said homes w b)) (whole_message f.message (header_of parent child c) (Body.ReserveCommitConfirmed y.id) h f.body) f.there));
              place = k;
              there = named (λ p r. place_of y.connection p d.records ≡ Some k) g;
              stands = stands_at I parent child (views mine.state) mine.out d pair (told_fair (homes b) (take (w.synced b) (w.journal b)) parent) i k (get_or x.committed n 0) e
                  (Contains-get_or x.committed n 0 (omega (arith, l, all.long)));
            }
