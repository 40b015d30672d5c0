-- An aggregator's own records fit the views of their children, in every cut of a run.
use Rattle.std.proofs.Common.{ℕ, ◌≡◌, ◌<◌, ◌∙◌, ◌⊎◌, inl, inr, Bool, true, false, List, [], ◌∷◌, ◌++◌, length, get_or, take, Contains, Option, Some, refl, sym, ap, subst, true≢false}
use Rattle.std.specs.List.{All}
use Rattle.std.proofs.lemmas.Bool.{cases_eq}
use Rattle.std.proofs.lemmas.List.{get_or_default}
use Rattle.std.proofs.lemmas.List.Elements.{All-weaker, All-take, All-contains}
use Rattle.std.proofs.lemmas.Slice.Eq.{bytes_eq-Decides}
use Rattle.nsi_primitive.specs.Messages.{has_rows, is_request}
use Rattle.nsi_primitive.specs.declared.entry.Entry.{Entry}
use Rattle.nsi_primitive.specs.declared.entry.Event.{Event}
use Rattle.nsi_primitive.specs.declared.entry.Input.{Input}
use Rattle.nsi_primitive.specs.declared.kind.Kind.{Kind}
use Rattle.nsi_primitive.specs.declared.message.Body.{Body}
use Rattle.nsi_primitive.specs.declared.message.Exception.{Exception}
use Rattle.nsi_primitive.specs.declared.message.Header.{Header}
use Rattle.nsi_primitive.specs.declared.message.Message.{Message}
use Rattle.nsi_primitive.specs.declared.message.ReserveConfirmation.{ReserveConfirmation}
use Rattle.nsi_primitive.specs.declared.message.ReserveRequest.{ReserveRequest}
use Rattle.stp_topology.specs.declared.network.Network.{Network}
use Rattle.record_index.proofs.Members.{nothing_in}
use Rattle.child_connection.specs.Hearing.{Heard}
use Rattle.child_connection.specs.Views.{ChildConnection, sent}
use Rattle.connection_record.specs.Moves.{is_live}
use Rattle.connection_record.specs.Speaking.{is_answering, is_asking, is_noting}
use Rattle.agent_state.specs.State.{AgentState, blank_agent, record_at, children_at}
use Rattle.aggregator_agent.specs.Asking.{may_abort}
use Rattle.aggregator_agent.specs.Setting.{Setting as AggregatorSetting}
use Rattle.nsi_agent.specs.Homes.{Role, aggregates}
use Rattle.nsi_agent.specs.Laws.{WhatIsSaidIsItsOwn}
use Rattle.nsi_agent.specs.Steps.{after_as}
use Rattle.nsi_agent.specs.Told.{Told, told}
use Rattle.nsi_agent.specs.Said.{name_in, HasAsked, Asks, IsForIn, IsSaid, IsSaidAs}
use Rattle.nsi_world.specs.Worlds.{Homes, IsAgent, World, empty, synced_part, IsSaidBy, IsSent, IsTo}
use Rattle.nsi_world.specs.Runs.{is_requester, world_after, AreAllowed, MayCome, at}
use Rattle.nsi_world.specs.Heard.{IsHeard, IsFair as IsFairWorld}
use Rattle.agent_speech.specs.Laws.{RequestCame, IsEven}
use Rattle.agent_speech.proofs.Every.{blank_is_even}
use Rattle.agent_speech.proofs.Spoken.{answers_were_asked}
use Rattle.run_growth.specs.WorldCuts.{IsPlaceOf, cut, told_to, all_synced, IsGrown, begins, grows}
use Rattle.run_growth.proofs.Grown.{at_same, gets_more, AreGrown, run_grown}
use Rattle.run_growth.proofs.Sent.{Given, agents_same, front, got_sent, to_requester, request_by, request_asks, answer_asks}
use Rattle.run_growth.proofs.WorldCuts.{grown_fair, synced_cut, cut_at}
use Rattle.circuit_link.specs.Children.{Child, about, IsFair}
use Rattle.circuit_link.specs.Headers.{header_of}
use Rattle.circuit_link.specs.Serving.{child_of}
use Rattle.circuit_link.proofs.Hearing.{rows_unheard}
use Rattle.circuit_pairs.specs.Pairs.{IsAsked, IsReserveOf, IsTerminateOf, IsPair}
use Rattle.circuit_pairs.specs.Minding.{no_child, mine}
use Rattle.circuit_pairs.proofs.Minding.{connected, notice_alike}
use Rattle.circuit_pairs.proofs.Parenting.{dec_pair, mine_own}
use Rattle.circuit_fit.specs.Fits.{WasAsked, IsReserveFor, IsHonest, AllFit, AllHonest, IsEnding, AllEnd}
use Rattle.circuit_fit.proofs.Entering.{entries_keep_fit, entries_keep_ended, fresh_fits}
use Rattle.circuit_laws.specs.Backed.{IsChildOf}
use Rattle.circuit_laws.proofs.Leading.{AsksOthers}
use Rattle.circuit_laws.proofs.Roles.{views_of, aggregates_keep, even_from}
use Rattle.circuit_laws.proofs.Facts.{told_fair, told_once, answer_said}
use Rattle.circuit_laws.proofs.Pairs.{told_none, told_more, grown_pair}
use Rattle.circuit_laws.proofs.Views.{one_knows}
use Rattle.circuit_laws.proofs.Aggregators.{blank_slot}
use Rattle.circuit_laws.proofs.Whose.{for_input}

---- An entry of an aggregator

abbrev KeepsFit : Role → Type 0
KeepsFit role =
    (asked : List Message) (s : AgentState) (e : Entry) → IsEven role s → ((m : Message) → e.input ≡ Input.Got m → AllHonest (name_in role) asked s m) → AllFit (name_in role) asked s → AllEnd asked s →
    AllFit (name_in role) (asked ++ (after_as role s e).out) (after_as role s e).state × AllEnd (asked ++ (after_as role s e).out) (after_as role s e).state

aggregator_keeps_fit : (setting : AggregatorSetting) → KeepsFit (aggregates setting)
unfolding after_as
aggregator_keeps_fit setting asked s e even honest fit ended = (entries_keep_fit setting asked s e even honest fit, entries_keep_ended setting asked s e even honest ended)

keeps_fit : (role : Role) (setting : AggregatorSetting) → role ≡ aggregates setting → KeepsFit role
keeps_fit role setting e = subst KeepsFit (sym e) (aggregator_keeps_fit setting)

---- What comes

-- a notice changes nothing that fits
quiet_honest : (parent : List ℕ) (asked : List Message) (lives : Bool) (b : Body) (c : ℕ) (x : ChildConnection) → is_answering b ≡ false → IsHonest parent asked lives b c x
unfolding is_answering is_asking is_noting
quiet_honest parent asked lives b c x e =
    record {
      stays = λ id g. (notice_alike b c x e).connection ∙ g;
      confirms = λ f v g. absurd (true≢false (ap is_answering (sym g) ∙ e));
      refuses = λ o x' l g. absurd (true≢false (ap is_answering (sym g) ∙ e));
    }

-- nor do rows
rows_honest : (parent : List ℕ) (asked : List Message) (lives : Bool) (b : Body) (c : ℕ) (x : ChildConnection) → has_rows b ≡ true → IsHonest parent asked lives b c x
rows_honest parent asked lives b c x e =
    record {
      stays = λ id g. ap (λ (z : Heard). z.view.connection) (rows_unheard b c x e) ∙ g;
      confirms = λ f v g. absurd (true≢false (sym e ∙ ap has_rows g));
      refuses = λ o x' l g. absurd (true≢false (sym e ∙ ap has_rows g));
    }

reserve_same : (p q : ReserveRequest) → Body.Reserve p ≡ Body.Reserve q → p ≡ q
reserve_same p q e = cc

reserve_request : (b : Body) (q : ReserveRequest) → b ≡ Body.Reserve q → is_request b ≡ true
reserve_request b q e = ap is_request e

module _ (own_law : WhatIsSaidIsItsOwn) (t : Network) (homes : Homes) (given : Given homes) (a : ℕ) (agent : IsAgent homes a) (setting : AggregatorSetting) (role : (homes a).role ≡ aggregates setting) (leads : AsksOthers t homes a) where
  abbrev parent : List ℕ
  parent = name_in (homes a).role

  module _ (journal : ℕ → List Entry) (grown : IsGrown homes journal) where
    abbrev mine_told : Told
    mine_told = told (homes a) (journal a)

    fair : IsFairWorld homes (all_synced journal)
    fair = grown_fair homes journal grown

    -- what has come to an aggregator is for it
    all_for : All (IsForIn (name_in (homes a).role)) (synced_part (all_synced journal) a)
    all_for =
        All-take (IsForIn (name_in (homes a).role)) (length (journal a)) (journal a)
        (All-weaker (IsHeard homes (all_synced journal) a) (IsForIn (name_in (homes a).role)) (λ e h. for_input homes given (all_synced journal) a e.input h.sent) (journal a) (fair.heard a))

    -- an answer comes of another agent, which is asked
    record IsAnswerer (m : Message) : Type 0 where
      b : ℕ
      other : IsAgent homes b
      apart : b ≡ a → ⊥
      asked : is_requester (homes b).role ≡ false
      named : name_in (homes b).role ≡ m.header.provider

    answerer : (m : Message) → IsSent homes (all_synced journal) m → IsTo homes a m → is_answering m.body ≡ true → IsAnswerer m
    answerer m s to e =
        let w : World = all_synced journal in
        let z : ℕ = s.0 in
        let q : RequestCame m.header (synced_part w z) = answers_were_asked (homes z) (synced_part w z) m s.1.1 e in
        let n : Message = q.message in
        let came : IsSent homes w n × IsTo homes z n = got_sent homes given w fair z n (gets_more n (synced_part w z) (w.journal z) (front homes given w fair (w.synced z) z) (record { second = q.second; there = q.there })) in
        let d : ℕ = came.0.0 in
        let name : (homes d).name ≡ (homes a).name =
        request_by homes given w fair d n came.0.1 (request_asks n q.request) ∙ (ap (λ (h : Header). h.requester) q.header ∙ to_requester homes given w fair a m (answer_asks m e) to)
        in
        let by_a : IsSaidBy homes w a n = subst (λ (y : ℕ). IsSaidBy homes w y n) (agents_same homes given w fair d a came.0.1.0 agent name) came.0.1 in
        let says : IsSaid (name_in (homes a).role) (Asks (homes a).role) (HasAsked (synced_part w a)) n =
        All-contains (IsSaid (name_in (homes a).role) (Asks (homes a).role) (HasAsked (synced_part w a))) (told (homes a) (synced_part w a)).out n (own_law (homes a) (synced_part w a) all_for) by_a.1
        in
        let asks : Asks (homes a).role n.header.provider =
        (subst (λ (z : Bool). IsSaidAs z (name_in (homes a).role) (Asks (homes a).role) (HasAsked (synced_part w a)) n) q.request says).1
        in
        let below : (b : ℕ) × IsChildOf t homes a n.header.provider b = leads n.header.provider asks in
        record {
          b = below.0;
          other = below.1.agent;
          apart = below.1.other;
          asked = below.1.asked;
          named = given.named below.0 ∙ sym below.1.named ∙ ap (λ (h : Header). h.provider) q.header;
        }

    ---- One child

    module _ (ended : AllEnd mine_told.out mine_told.state) (m : Message) (came : IsSent homes (all_synced journal) m) (to : IsTo homes a m) (e : is_answering m.body ≡ true) (rowless : has_rows m.body ≡ false) (z : IsAnswerer m) where
      abbrev child : List ℕ
      child = name_in (homes z.b).role

      abbrev theirs : Told
      theirs = told (homes z.b) (journal z.b)

      abbrev their_child : Child
      their_child = child_of (told (homes z.b) (journal z.b)).state.base (told (homes z.b) (journal z.b)).out

      abbrev views : ℕ × ℕ → ChildConnection
      views = views_of (name_in (homes z.b).role) (told (homes a) (journal a)).state

      pair : IsPair (ℕ × ℕ) parent child views mine_told.out their_child
      pair = grown_pair homes given a z.b agent z.other z.apart z.asked (ℕ × ℕ) dec_pair (views_of child) (aggregates_keep (homes a).role setting child role) (blank_slot child) journal grown

      fair_child : IsFair parent child their_child
      fair_child = told_fair (homes z.b) (journal z.b) parent

      said : Contains (about (header_of parent child m.header.correlation) their_child.said) m.body
      said = answer_said homes given a z.b agent z.other journal grown m came to e rowless (sym z.named)

      -- a view that is there, by its place
      slot_is : (n k : ℕ) (d : ChildConnection) → k < length (children_at n mine_told.state.children) → (get_or (children_at n mine_told.state.children) k d).child ≡ child → views (n, k) ≡ get_or (children_at n mine_told.state.children) k d
      slot_is n k d l c =
          let x : ChildConnection = get_or (children_at n mine_told.state.children) k d in
          ap (mine child) (get_or_default (children_at n mine_told.state.children) k (no_child child) d l) ∙ mine_own child x ((bytes_eq-Decides child x.child).1 (sym c))

      confirms : (i : ℕ × ℕ) (f : ReserveConfirmation) (v : Option ℕ) → m.body ≡ Body.ReserveConfirmed f → WasAsked parent mine_told.out (views i) m.header.correlation (IsReserveFor v) → Some f.version ≡ v
      confirms i f v is w =
          let r : IsAsked parent child m.header.correlation mine_told.out (IsReserveOf (Some f.version)) =
          pair.asked_for.confirms m.header.correlation f (subst (λ (b : Body). Contains (about (header_of parent child m.header.correlation) their_child.said) b) is said)
          in
          let same : w.message ≡ r.message =
          (told_once (homes a) (journal a)).once w.message r.message w.there r.there (reserve_request w.message.body w.is.0 w.is.3) (reserve_request r.message.body r.is.0 r.is.1)
          (ap (λ (h : Header). h.correlation) w.header ∙ sym (ap (λ (h : Header). h.correlation) r.header))
          in
          let q : w.is.0 ≡ r.is.0 = reserve_same w.is.0 r.is.0 (sym w.is.3 ∙ ap (λ (y : Message). y.body) same ∙ r.is.1) in
          r.is.2 w.is.1 (ap (λ (y : ReserveRequest). y.version) (sym q) ∙ w.is.4) ∙ sym w.is.2

      refuses : (i : ℕ × ℕ) (o : Option ℕ) (x : Exception) → is_live (record_at i.0 mine_told.state.base.records).lsm ≡ true → m.body ≡ Body.Error o x → (views i).reserve_request ≡ Some (sent m.header.correlation Kind.ReserveAbort) → may_abort (views i).before ≡ true → ⊥
      refuses i o x live is req may =
          let w = pair.refuses i m.header.correlation o x req may (subst (λ (b : Body). Contains (about (header_of parent child m.header.correlation) their_child.said) b) is said) in
          let t : IsAsked parent child w.2.0 mine_told.out (IsTerminateOf w.0) = w.2.1 in
          let g : IsEnding mine_told.state t.message w.0 = ended t.message w.0 t.there t.is in
          let k : ℕ = g.there.0 in
          let called : g.view.child ≡ child = g.child ∙ ap (λ (h : Header). h.provider) t.header in
          let at : get_or (children_at g.place mine_told.state.children) k g.view ≡ g.view = g.there.2 in
          let slot : views (g.place, k) ≡ g.view = slot_is g.place k g.view g.there.1 (ap (λ (y : ChildConnection). y.child) at ∙ called) ∙ at in
          let one : i ≡ (g.place, k) =
          one_knows (ℕ × ℕ) parent child views mine_told.out their_child pair fair_child i (g.place, k) w.0 w.1 (ap (λ (y : ChildConnection). y.connection) slot ∙ g.connection)
          in
          true≢false (sym live ∙ ap (λ (p : ℕ × ℕ). is_live (record_at p.0 mine_told.state.base.records).lsm) one ∙ g.dead)

      honest_slot : (i : ℕ × ℕ) → IsHonest parent mine_told.out (is_live (record_at i.0 mine_told.state.base.records).lsm) m.body m.header.correlation (views i)
      honest_slot i =
          record {
            stays = λ id h. connected parent child their_child fair_child m.body m.header.correlation (views i) (pair.place i) said (pair.mates i) id h;
            confirms = λ f v is req w. confirms i f v is w;
            refuses = λ o x live is req may w. refuses i o x live is req may;
          }

      honest_view : (n k : ℕ) (d : ChildConnection) → k < length (children_at n mine_told.state.children) → m.header.provider ≡ (get_or (children_at n mine_told.state.children) k d).child →
          IsHonest parent mine_told.out (is_live (record_at n mine_told.state.base.records).lsm) m.body m.header.correlation (get_or (children_at n mine_told.state.children) k d)
      honest_view n k d l p = subst (IsHonest parent mine_told.out (is_live (record_at n mine_told.state.base.records).lsm) m.body m.header.correlation) (slot_is n k d l (sym p ∙ sym z.named)) (honest_slot (n, k))

    -- whatever comes
    all_honest : AllEnd mine_told.out mine_told.state → (m : Message) → IsSent homes (all_synced journal) m → IsTo homes a m → AllHonest parent mine_told.out mine_told.state m
    all_honest ended m came to n k d l p = by_kind (is_answering m.body) (has_rows m.body) refl refl
      where
        by_kind : (t r : Bool) → is_answering m.body ≡ t → has_rows m.body ≡ r → IsHonest parent mine_told.out (is_live (record_at n mine_told.state.base.records).lsm) m.body m.header.correlation (get_or (children_at n mine_told.state.children) k d)
        by_kind true true e h = rows_honest parent mine_told.out (is_live (record_at n mine_told.state.base.records).lsm) m.body m.header.correlation (get_or (children_at n mine_told.state.children) k d) h
        by_kind true false e h = honest_view ended m came to e h (answerer m came to e) n k d l p
        by_kind false r e h = quiet_honest parent mine_told.out (is_live (record_at n mine_told.state.base.records).lsm) m.body m.header.correlation (get_or (children_at n mine_told.state.children) k d) e

  ---- Every journal

  abbrev pub IsFit : Told → Type 0
  IsFit x = AllFit (name_in (homes a).role) x.out x.state × AllEnd x.out x.state

  entry_fits : (journal : ℕ → List Entry) → IsGrown homes journal → (e : Entry) → ((m : Message) → e.input ≡ Input.Got m → IsSent homes (all_synced journal) m × IsTo homes a m) → IsFit (told (homes a) (journal a)) → IsFit (told (homes a) (journal a ++ e ∷ []))
  entry_fits journal grown e came f =
      subst IsFit (sym (told_more (homes a) (journal a) e))
      (keeps_fit (homes a).role setting role (told (homes a) (journal a)).out (told (homes a) (journal a)).state e (even_from (homes a) (journal a) blank_agent (blank_is_even (homes a)))
      (λ m i. let c = came m i in all_honest journal grown f.1 m c.0 c.1) f.0 f.1)

  blank_fits : IsFit (record { state = blank_agent; out = [] })
  blank_fits = (λ n. fresh_fits parent [] _ _ _ _ _, λ m id i. absurd (nothing_in m i))

  pub grown_fits : (journal : ℕ → List Entry) → IsGrown homes journal → IsFit (told (homes a) (journal a))
  grown_fits journal (begins _ none) = subst IsFit (sym (ap (told (homes a)) (none a) ∙ told_none (homes a))) blank_fits
  grown_fits more (grows journal _ z e answer x acts room entered here there) = by_agent (cases_eq z a) (grown_fits journal x)
    where
      by_agent : (z ≡ a) ⊎ (z ≡ a → ⊥) → IsFit (told (homes a) (journal a)) → IsFit (told (homes a) (more a))
      by_agent (inl p) f =
          subst (λ (es : List Entry). IsFit (told (homes a) es)) (sym (subst (λ (k : ℕ). more k ≡ journal k ++ e ∷ []) p here))
          (entry_fits journal x e (λ m i. subst (λ (k : ℕ). IsSent homes (all_synced journal) m × IsTo homes k m) p (subst (λ (y : Input). MayCome homes (all_synced journal) z y) i entered.comes)) f)
      by_agent (inr n) f = subst (λ (es : List Entry). IsFit (told (homes a) es)) (sym (there a (λ q. n (sym q)))) f

  -- in any cut
  pub cut_fits : (events : List Event) → AreAllowed homes empty events → (k : ℕ) → IsPlaceOf (world_after empty events) a k → IsFit (told_to homes (world_after empty events) a k)
  cut_fits events allowed k place =
      subst (λ (es : List Entry). IsFit (told (homes a) es)) (ap (λ (n : ℕ). take n (w.journal a)) (at_same a k w.synced))
      (grown_fits (cut w (at a k w.synced)) (grown.grown (at a k w.synced) (cut_at w w.synced a k (synced_cut w grown.within) place)))
    where
      w : World
      w = world_after empty events

      grown : AreGrown homes w
      grown = run_grown homes events allowed
