-- The first confirmation of a commit that a requester gets is awaited, in every run.
use Rattle.std.proofs.Common.{ℕ, zero, suc, ◌≡◌, ◌∙◌, ◌⊎◌, inl, inr, Bool, true, false, not, List, [], ◌∷◌, ◌++◌, Contains, Some, None, length, take, if◌then◌else◌, slice_get, refl, sym, ap, subst, arith}
use Rattle.std.specs.List.{All}
use Rattle.std.proofs.lemmas.Bool.{cases_eq}
use Rattle.std.proofs.lemmas.List.{take_all}
use Rattle.std.proofs.lemmas.Option.{get_or_from_slice_get}
use Rattle.std.proofs.lemmas.List.Elements.{All-contains, All-take, All-weaker}
use Rattle.nsi_primitive.specs.Messages.{has_rows, identity, is_request}
use Rattle.nsi_primitive.specs.declared.entry.Entry.{Entry}
use Rattle.nsi_primitive.specs.declared.entry.Input.{Input}
use Rattle.nsi_primitive.specs.declared.kind.Kind.{Kind}
use Rattle.nsi_primitive.specs.declared.message.Body.{Body}
use Rattle.nsi_primitive.specs.declared.message.Header.{Header}
use Rattle.nsi_primitive.specs.declared.message.Identity.{Identity}
use Rattle.nsi_primitive.specs.declared.message.Message.{Message}
use Rattle.nsi_primitive.specs.declared.state.Rsm.{Rsm}
use Rattle.stp_topology.specs.declared.network.Network.{Network}
use Rattle.message_retry.specs.Retry.{is_heard, is_old}
use Rattle.message_retry.specs.Taken.{is_same_request, is_taken}
use Rattle.record_index.proofs.Members.{nothing_in}
use Rattle.connection_record.specs.Speaking.{is_answering, is_asking, is_noting}
use Rattle.child_connection.specs.Views.{ChildConnection, sent}
use Rattle.child_connection.specs.Holding.{IsHeeded}
use Rattle.agent_state.specs.State.{AgentState, blank_agent, record_at}
use Rattle.agent_state.specs.declared.parent.View.{View}
use Rattle.agent_speech.specs.Laws.{RequestCame}
use Rattle.agent_speech.proofs.Spoken.{answers_were_asked}
use Rattle.requester_agent.specs.Setting.{Setting as RequesterSetting}
use Rattle.nsi_agent.specs.Homes.{Home, Role, home_in, requests}
use Rattle.nsi_agent.specs.Laws.{WhatIsSaidIsItsOwn}
use Rattle.nsi_agent.specs.Said.{Asks, HasAsked, IsForIn, IsSaid, IsSaidAs, name_in}
use Rattle.nsi_agent.specs.Steps.{after, is_new, is_seen}
use Rattle.nsi_agent.specs.Told.{Told, told}
use Rattle.nsi_agent.proofs.SeenGot.{seen_was_got}
use Rattle.nsi_world.specs.Worlds.{Homes, IsAgent, IsSaidBy, IsSent, IsTo, World, empty, said, synced_part}
use Rattle.nsi_world.specs.Runs.{at, happens, is_requester, world_after}
use Rattle.nsi_world.specs.Heard.{IsFair as IsFairWorld, IsHeard}
use Rattle.nsi_world.specs.Laws.{HeardWasSent}
use Rattle.run_growth.specs.WorldCuts.{IsGrown, all_synced, cut}
use Rattle.run_growth.proofs.Grown.{AreGrown, at_other, at_same, gets_more, run_grown}
use Rattle.run_growth.proofs.Sent.{Given, agents_same, answer_asks, answer_by, front, given_in, got_sent, request_asks, request_by, to_requester}
use Rattle.run_growth.proofs.WorldCuts.{cut_at, grown_fair, synced_cut}
use Rattle.circuit_link.specs.Children.{MayReach, about}
use Rattle.circuit_link.specs.Headers.{header_of}
use Rattle.circuit_link.specs.Serving.{child_of}
use Rattle.circuit_link.proofs.Abouts.{header_itself, headers_same}
use Rattle.circuit_link.proofs.Likeness.{open_itself}
use Rattle.circuit_pairs.specs.Minding.{no_child, no_view_of, view_in}
use Rattle.circuit_pairs.specs.Pairs.{IsPair}
use Rattle.circuit_pairs.proofs.Minding.{alike_self}
use Rattle.circuit_laws.specs.Backed.{IsChildOf}
use Rattle.circuit_laws.proofs.Facts.{answer_reaches, request_said, told_fair, told_once}
use Rattle.circuit_laws.proofs.Induct.{CameTo, grown_by, told_then}
use Rattle.circuit_laws.proofs.Leading.{AsksOthers, asks_others}
use Rattle.circuit_laws.proofs.Pairs.{grown_pair, told_more}
use Rattle.circuit_laws.proofs.Roles.{about_in, requests_keep, serves_as, views_to}
use Rattle.circuit_laws.proofs.Whose.{for_input}
use Rattle.run_text.specs.Committed.{ConfirmedIsCommitted, gets, state_in}
use Rattle.known_commits.specs.Awaited.{IsAwaited, IsFirstConfirmation}
use Rattle.known_commits.specs.Laws.{ConfirmationsAreAwaited, ConfirmationsAreKnown}
use Rattle.known_commits.proofs.Keeping.{told_order}
use Rattle.known_commits.proofs.Requesters.{role_keeps, role_waits}
use Rattle.known_commits.proofs.Owing.{owes_committing}
use Rattle.known_commits.proofs.Serving.{served_waited}
use Rattle.known_commits.proofs.Waiting.{AreWaited, IsWaited, IsWaiting, confirmation_is, confirmation_of}

---- A requester and the agent that it asks, where journals are made by entries alone

module _ (homes : Homes) (given : Given homes) (a b : ℕ) (agent : IsAgent homes a) (other : IsAgent homes b) (apart : b ≡ a → ⊥) (asked : is_requester (homes b).role ≡ false)
    (setting : RequesterSetting) (role : (homes a).role ≡ requests setting) (over : setting.provider ≡ name_in (homes b).role) where
  abbrev parent : List ℕ
  parent = name_in (homes a).role

  abbrev child : List ℕ
  child = name_in (homes b).role

  abbrev pub Waited : Told → Told → Type 0
  Waited x y = AreWaited ℕ (name_in (homes a).role) (name_in (homes b).role) x.state.base.heard (views_to (name_in (homes b).role) x.state) (child_of y.state.base y.out)

  pair_of : (journal : ℕ → List Entry) → IsGrown homes journal →
      IsPair ℕ parent child (views_to child (told (homes a) (journal a)).state) (told (homes a) (journal a)).out (child_of (told (homes b) (journal b)).state.base (told (homes b) (journal b)).out)
  pair_of journal grown = grown_pair homes given a b agent other apart asked ℕ cases_eq (views_to child) (requests_keep (homes a).role setting child role over) (λ i. alike_self (no_child child)) journal grown

  by_parent : (journal : ℕ → List Entry) → IsGrown homes journal → (e : Entry) → CameTo homes journal a e → Waited (told (homes a) (journal a)) (told (homes b) (journal b)) →
      Waited (told_then (homes a) (told (homes a) (journal a)) e) (told (homes b) (journal b))
  by_parent journal grown e came waited =
      role_waits (homes a).role setting child role over (child_of (told (homes b) (journal b)).state.base (told (homes b) (journal b)).out) (told (homes a) (journal a)).out (told (homes a) (journal a)).state e reach
      (pair_of journal grown) waited
    where
      reach : (m : Message) → e.input ≡ Input.Got m → is_answering m.body ≡ true → m.header.provider ≡ child →
          (m.header.requester ≡ parent) × MayReach (header_of parent child m.header.correlation) (told (homes b) (journal b)).out m.body
      reach m got answers from =
          let c = came m got in (
            to_requester homes given (all_synced journal) (grown_fair homes journal grown) a m (answer_asks m answers) c.1 ∙ sym (given.named a),
            answer_reaches homes given a b agent other journal grown m c.0 c.1 answers from,
          )

  by_child : (journal : ℕ → List Entry) → IsGrown homes journal → (e : Entry) → CameTo homes journal b e → Waited (told (homes a) (journal a)) (told (homes b) (journal b)) →
      Waited (told (homes a) (journal a)) (told_then (homes b) (told (homes b) (journal b)) e)
  by_child journal grown e came waited =
      let x : Told = told (homes a) (journal a) in
      let y : Told = told (homes b) (journal b) in
      served_waited ℕ parent child (views_to child x.state) x.out (child_of y.state.base y.out) (pair_of journal grown) (told_fair (homes b) (journal b) parent) (told_once (homes a) (journal a))
      (told_order (homes b) asked (journal b)) x.state.base.heard e.input (after (homes b) y.state e).state.base.records (after (homes b) y.state e).state.base.seen (after (homes b) y.state e).out
      (λ m got asks from. request_said homes given a b agent other journal grown m (came m got).0 asks from) (serves_as (homes b).role asked y.state e y.out) waited

  none_waited : Waited (record { state = blank_agent; out = [] }) (record { state = blank_agent; out = [] })
  unfolding about
  none_waited =
      record {
        owing = λ n c own o. absurd (let z : Rsm.ReserveStart ≡ Rsm.ReserveCommitting = owes_committing c (record_at n []) o in cc);
        said = λ c id i. absurd (nothing_in (Body.ReserveCommitConfirmed id) i);
      }

  pub grown_waited : (journal : ℕ → List Entry) → IsGrown homes journal → Waited (told (homes a) (journal a)) (told (homes b) (journal b))
  grown_waited journal grown = grown_by homes a b apart Waited none_waited by_parent by_child journal grown

---- In a run

confirmation_answers : (id : ℕ) → (is_answering (Body.ReserveCommitConfirmed id) ≡ true) × (has_rows (Body.ReserveCommitConfirmed id) ≡ false)
unfolding is_answering is_asking is_noting
confirmation_answers id = (refl, refl)

-- a view that waits is there
view_there : (child : List ℕ) (vs : List View) (i c version : ℕ) → IsWaiting c version (view_in child vs i) → (v : View) × (slice_get vs i ≡ Some v) × (v.child ≡ view_in child vs i)
view_there child [] i c version w = absurd (let z : None ≡ Some (sent c Kind.ReserveCommit) = w.asked in cc)
view_there child (v ∷ vs) zero c version w = (v, refl, refl)
view_there child (v ∷ vs) (suc i) c version w = view_there child vs i c version w

-- a confirmation that was heard isn't new
not_new : (h : Home) (s : AgentState) (setting : RequesterSetting) (m : Message) (id : ℕ) → h.role ≡ requests setting → m.body ≡ Body.ReserveCommitConfirmed id → (i : Identity) → identity m ≡ i → is_heard i s.base.heard ≡ true →
    is_new h s m ≡ false
unfolding is_new is_old
not_new h s setting m id role body i named heard =
    ap (λ (r : Role). not (is_seen r s m)) role
    ∙ ap not (ap (λ (b : Body). if is_request b then is_taken m.header s.base.seen else is_heard (identity m) s.base.heard) body ∙ (ap (λ (j : Identity). is_heard j s.base.heard) named ∙ heard))

module _ (own_law : WhatIsSaidIsItsOwn) (t : Network) (homes : Homes) (given : Given homes) (w : World) (fair : IsFairWorld homes w) (grown : AreGrown homes w) (a second : ℕ) (m : Message)
    (f : IsFirstConfirmation homes w a second m) (leads : AsksOthers t homes a) where
  answers : is_answering m.body ≡ true
  answers = ap is_answering f.body ∙ (confirmation_answers f.id).0

  agent : IsAgent homes a
  agent = f.may.0

  came : IsSent homes w m × IsTo homes a m
  came = f.may.1.1.comes

  -- what came to the requester was for it
  all_for : All (IsForIn (name_in (homes a).role)) (synced_part w a)
  all_for =
      All-take (IsForIn (name_in (homes a).role)) (w.synced a) (w.journal a)
      (All-weaker (IsHeard homes w a) (IsForIn (name_in (homes a).role)) (λ e h. for_input homes given w a e.input h.sent) (w.journal a) (fair.heard a))

  -- the requester asks the agent of whom it comes
  asks : Asks (homes a).role m.header.provider
  asks =
      let z : ℕ = came.0.0 in
      let q : RequestCame m.header (synced_part w z) = answers_were_asked (homes z) (synced_part w z) m came.0.1.1 answers in
      let n : Message = q.message in
      let asked : IsSent homes w n × IsTo homes z n =
      got_sent homes given w fair z n (gets_more n (synced_part w z) (w.journal z) (front homes given w fair (w.synced z) z) (record { second = q.second; there = q.there }))
      in
      let requester : n.header.requester ≡ (homes a).name = ap (λ (h : Header). h.requester) q.header ∙ to_requester homes given w fair a m (answer_asks m answers) came.1 in
      let name : (homes asked.0.0).name ≡ (homes a).name = request_by homes given w fair asked.0.0 n asked.0.1 (request_asks n q.request) ∙ requester in
      let by_a : IsSaidBy homes w a n = subst (λ (y : ℕ). IsSaidBy homes w y n) (agents_same homes given w fair asked.0.0 a asked.0.1.0 agent name) asked.0.1 in
      let says : IsSaid (name_in (homes a).role) (Asks (homes a).role) (HasAsked (synced_part w a)) n =
      All-contains (IsSaid (name_in (homes a).role) (Asks (homes a).role) (HasAsked (synced_part w a))) (said homes w a) n (own_law (homes a) (synced_part w a) all_for) by_a.1
      in
      subst (Asks (homes a).role) (ap (λ (h : Header). h.provider) q.header)
      (subst (λ (z : Bool). IsSaidAs z (name_in (homes a).role) (Asks (homes a).role) (HasAsked (synced_part w a)) n) q.request says).1

  -- so that agent is the requester's provider
  record IsAnswerer : Type 0 where
    agent : ℕ
    child : IsChildOf t homes a f.setting.provider agent
    said_by : IsSaidBy homes w agent m
    named : m.header.provider ≡ (homes agent).name

  answerer : IsAnswerer
  answerer = by (leads m.header.provider asks)
    where
      over : f.setting.provider ≡ m.header.provider
      over = subst (λ (r : Role). Asks r m.header.provider) f.role asks

      by : (b : ℕ) × IsChildOf t homes a m.header.provider b → IsAnswerer
      by (b, child) =
          let name : (homes came.0.0).name ≡ (homes b).name = answer_by homes given w fair came.0.0 m came.0.1 answers ∙ child.named in
          record {
            agent = b;
            child = subst (λ (p : List ℕ). IsChildOf t homes a p b) (sym over) child;
            said_by = subst (λ (y : ℕ). IsSaidBy homes w y m) (agents_same homes given w fair came.0.0 b came.0.1.0 child.agent name) came.0.1;
            named = child.named;
          }

  -- the whole journal of the requester, and of the others what is synced
  module _ (z : IsAnswerer) where
    abbrev b : ℕ
    b = z.agent

    abbrev c : ℕ → ℕ
    c = at a (length (w.journal a)) w.synced

    cut_grown : IsGrown homes (cut w c)
    cut_grown = grown.grown c (cut_at w w.synced a (length (w.journal a)) (synced_cut w grown.within) (grown.within a, omega arith))

    whole : cut w c a ≡ w.journal a
    whole = ap (λ (k : ℕ). take k (w.journal a)) (at_same a (length (w.journal a)) w.synced) ∙ take_all (length (w.journal a)) (w.journal a) (omega arith)

    others : cut w c b ≡ synced_part w b
    others = ap (λ (k : ℕ). take k (w.journal b)) (at_other a b (length (w.journal a)) w.synced z.child.other)

    -- all its views against that agent
    pair : IsPair ℕ (name_in (homes a).role) (name_in (homes z.agent).role) (views_to (name_in (homes z.agent).role) (state_in homes w a)) (told (homes a) (w.journal a)).out
        (child_of (told (homes z.agent) (cut w c z.agent)).state.base (told (homes z.agent) (cut w c z.agent)).out)
    pair =
        subst (λ (es : List Entry). IsPair ℕ (name_in (homes a).role) (name_in (homes b).role) (views_to (name_in (homes b).role) (told (homes a) es).state) (told (homes a) es).out
        (child_of (told (homes b) (cut w c b)).state.base (told (homes b) (cut w c b)).out)) whole
        (pair_of homes given a b agent z.child.agent z.child.other z.child.asked f.setting f.role (z.child.named ∙ sym (given.named b)) (cut w c) cut_grown)

    -- a view that waits listens to the correlation
    heeds : (i : ℕ) (u : View) → slice_get (state_in homes w a).views i ≡ Some u → u.child.reserve_request ≡ Some (sent m.header.correlation Kind.ReserveCommit) →
        IsHeeded (views_to (name_in (homes z.agent).role) (state_in homes w a) i) m.header.correlation
    heeds i u here e =
        inr
        (open_itself (views_to (name_in (homes b).role) (state_in homes w a) i).reserve_request m.header.correlation Kind.ReserveCommit
        (ap (λ (x : View). x.child.reserve_request) (get_or_from_slice_get (state_in homes w a).views i u (no_view_of (name_in (homes b).role)) here) ∙ e))

    -- so no two of them wait
    one_waits : (i k : ℕ) (u v : View) → slice_get (state_in homes w a).views i ≡ Some u → slice_get (state_in homes w a).views k ≡ Some v →
        u.child.reserve_request ≡ Some (sent m.header.correlation Kind.ReserveCommit) → v.child.reserve_request ≡ Some (sent m.header.correlation Kind.ReserveCommit) → i ≡ k
    one_waits i k u v here there e g = pair.alone i k m.header.correlation (heeds i u here e) (heeds k v there g)

    -- and what the others have as committed stays when the message is got
    others_stay : (place : ℕ) (u : View) → slice_get (state_in homes w a).views place ≡ Some u → u.child.reserve_request ≡ Some (sent m.header.correlation Kind.ReserveCommit) →
        (k : ℕ) (x y : View) → (k ≡ place → ⊥) → slice_get (state_in homes w a).views k ≡ Some x → slice_get (state_in homes (happens w (gets a second m)) a).views k ≡ Some y → y.child.committed ≡ x.child.committed
    others_stay place u here asks k x y apart there later =
        ap (λ (v : View). v.child.committed) (sym (get_or_from_slice_get (state_in homes (happens w (gets a second m)) a).views k y (no_view_of (name_in (homes b).role)) later))
        ∙ (ap (λ (s : AgentState). (views_to (name_in (homes b).role) s k).committed) state_then
        ∙ (role_keeps (homes a).role f.setting (name_in (homes b).role) f.role (z.child.named ∙ sym (given.named b)) (child_of (told (homes b) (cut w c b)).state.base (told (homes b) (cut w c b)).out)
        (told (homes a) (w.journal a)).out (state_in homes w a) second m place pair (heeds place u here asks) k apart
        ∙ ap (λ (v : View). v.child.committed) (get_or_from_slice_get (state_in homes w a).views k x (no_view_of (name_in (homes b).role)) there)))
      where
        state_then : state_in homes (happens w (gets a second m)) a ≡ (after (homes a) (state_in homes w a) (record { second = second; input = Input.Got m })).state
        state_then =
            ap (λ (es : List Entry). (told (homes a) es).state) (at_same a (w.journal a ++ record { second = second; input = Input.Got m } ∷ []) w.journal)
            ∙ ap (λ (x : Told). x.state) (told_more (homes a) (w.journal a) (record { second = second; input = Input.Got m }))

    waited : AreWaited ℕ (name_in (homes a).role) (name_in (homes z.agent).role) (state_in homes w a).base.heard (views_to (name_in (homes z.agent).role) (state_in homes w a))
        (child_of (told (homes z.agent) (synced_part w z.agent)).state.base (said homes w z.agent))
    waited =
        subst (λ (es : List Entry). AreWaited ℕ (name_in (homes a).role) (name_in (homes b).role) (state_in homes w a).base.heard (views_to (name_in (homes b).role) (state_in homes w a)) (child_of (told (homes b) es).state.base (told (homes b) es).out)) others
        (subst (λ (es : List Entry). AreWaited ℕ (name_in (homes a).role) (name_in (homes b).role) (told (homes a) es).state.base.heard (views_to (name_in (homes b).role) (told (homes a) es).state)
        (child_of (told (homes b) (cut w c b)).state.base (told (homes b) (cut w c b)).out)) whole
        (grown_waited homes given a b agent z.child.agent z.child.other z.child.asked f.setting f.role (z.child.named ∙ sym (given.named b)) (cut w c) cut_grown))

    header : m.header ≡ header_of (name_in (homes a).role) (name_in (homes z.agent).role) m.header.correlation
    header =
        headers_same m.header.correlation m.header.correlation m.header.requester (name_in (homes a).role) m.header.provider (name_in (homes b).role) refl
        (to_requester homes given w fair a m (answer_asks m answers) came.1 ∙ sym (given.named a)) (z.named ∙ sym (given.named b))

    there : Contains (about (header_of (name_in (homes a).role) (name_in (homes z.agent).role) m.header.correlation) (said homes w z.agent)) (Body.ReserveCommitConfirmed f.id)
    there =
        let h : Header = header_of (name_in (homes a).role) (name_in (homes b).role) m.header.correlation in
        subst (λ (x : Body). Contains (about h (said homes w b)) x) f.body
        (about_in h m (said homes w b) z.said_by.1 answers (ap has_rows f.body ∙ (confirmation_answers f.id).1)
        (subst (λ (g : Header). is_same_request h g ≡ true) (sym header) (header_itself h)))

    heard_before : is_heard (confirmation_of (name_in (homes a).role) (name_in (homes z.agent).role) m.header.correlation) (state_in homes w a).base.heard ≡ true → ⊥
    heard_before h = f.first (seen_was_got (homes a) (w.journal a) m (not_new (homes a) (state_in homes w a) f.setting m f.id f.role f.body (confirmation_of (name_in (homes a).role) (name_in (homes b).role) m.header.correlation) named h))
      where
        named : identity m ≡ confirmation_of (name_in (homes a).role) (name_in (homes b).role) m.header.correlation
        named = confirmation_is (name_in (homes a).role) (name_in (homes b).role) m m.header.correlation f.id header f.body

    is_awaited : IsAwaited homes w a m
    is_awaited = by (waited.said m.header.correlation f.id there)
      where
        awaited : (v : IsWaited ℕ (views_to (name_in (homes b).role) (state_in homes w a)) m.header.correlation) → (u : View) × (slice_get (state_in homes w a).views v.view ≡ Some u) × (u.child ≡ view_in (name_in (homes b).role) (state_in homes w a).views v.view) → IsAwaited homes w a m
        awaited v (u, here, is) =
            let x : IsWaiting m.header.correlation v.version u.child = subst (IsWaiting m.header.correlation v.version) (sym is) v.waits in
            record {
              place = v.view;
              view = u;
              version = v.version;
              there = here;
              awaits = record { child = ap (λ (x : ChildConnection). x.child) is ∙ (pair.children v.view ∙ (given.named b ∙ sym z.named)); asked = x.asked; pending = x.pending };
              alone = λ k n y its waits. one_waits k v.view y u its here waits.asked x.asked;
            }

        by : (is_heard (confirmation_of (name_in (homes a).role) (name_in (homes b).role) m.header.correlation) (state_in homes w a).base.heard ≡ true) ⊎ IsWaited ℕ (views_to (name_in (homes b).role) (state_in homes w a)) m.header.correlation → IsAwaited homes w a m
        by (inl h) = absurd (heard_before h)
        by (inr v) = awaited v (view_there (name_in (homes b).role) (state_in homes w a).views v.view m.header.correlation v.version v.waits)

pub confirmations_are_awaited : WhatIsSaidIsItsOwn → HeardWasSent → ConfirmationsAreAwaited
confirmations_are_awaited own_law heard t routes events sound formed routed allowed a second m f =
    let homes : Homes = home_in t routes in
    let w : World = world_after empty events in
    let fair : IsFairWorld homes w = heard homes events allowed in
    let grown : AreGrown homes w = run_grown homes events allowed in
    let leads : AsksOthers t homes a = asks_others t routes sound formed routed a in
    is_awaited own_law t homes (given_in t routes) w fair grown a second m f leads (answerer own_law t homes (given_in t routes) w fair grown a second m f leads)

-- so it is known then
pub confirmations_are_known : WhatIsSaidIsItsOwn → HeardWasSent → ConfirmationsAreAwaited → ConfirmedIsCommitted → ConfirmationsAreKnown
confirmations_are_known own_law heard awaited committed t routes events sound formed routed allowed a second m f =
    let homes : Homes = home_in t routes in
    let w : World = world_after empty events in
    let fair : IsFairWorld homes w = heard homes events allowed in
    let grown : AreGrown homes w = run_grown homes events allowed in
    let leads : AsksOthers t homes a = asks_others t routes sound formed routed a in
    let v : IsAwaited homes w a m = awaited t routes events sound formed routed allowed a second m f in
    let (y, there, label, commits) = committed homes w a second f.id v.place v.version m f.setting v.view f.may f.role f.body f.first v.there v.awaits in
    record {
      place = v.place;
      earlier = v.view;
      later = y;
      version = v.version;
      was = v.there;
      is = there;
      label = label;
      awaits = v.awaits;
      commits = commits;
      others =
          others_stay own_law t homes (given_in t routes) w fair grown a second m f leads (answerer own_law t homes (given_in t routes) w fair grown a second m f leads) v.place v.view v.there v.awaits.asked;
    }
