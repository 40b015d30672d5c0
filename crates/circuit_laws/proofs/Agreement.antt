-- In any two cuts of a run the child's record of a view has the criteria that the aggregator's own record has as committed.
use Rattle.std.proofs.Common.{ℕ, ◌≡◌, ◌∙◌, false, List, [], ◌++◌, take, slice_get, Contains, Some, None, sym, ap, subst}
use Rattle.std.specs.List.{All}
use Rattle.std.proofs.lemmas.List.Elements.{All-nil, All-contains, Contains-append_left, Contains-append_right}
use Rattle.std.proofs.lemmas.Option.{get_or_from_slice_get, slice_get-get_or}
use Rattle.nsi_primitive.specs.Messages.{is_request}
use Rattle.nsi_primitive.specs.declared.entry.Entry.{Entry}
use Rattle.nsi_primitive.specs.declared.entry.Input.{Input}
use Rattle.nsi_primitive.specs.declared.message.Criteria.{Criteria}
use Rattle.nsi_primitive.specs.declared.message.Message.{Message}
use Rattle.stp_topology.specs.declared.network.Network.{Network}
use Rattle.child_connection.specs.Views.{ChildConnection}
use Rattle.connection_record.specs.declared.record.Record.{Record}
use Rattle.agent_state.specs.State.{AgentState, no_record, record_at, children_at, blank_agent}
use Rattle.aggregator_agent.specs.Setting.{Setting}
use Rattle.agent_speech.proofs.Every.{blank_is_even}
use Rattle.nsi_agent.specs.Homes.{aggregates, home_in}
use Rattle.nsi_agent.specs.Laws.{WhatIsSaidIsItsOwn}
use Rattle.nsi_agent.specs.Steps.{after}
use Rattle.nsi_agent.specs.Told.{Told, told}
use Rattle.nsi_agent.specs.Said.{name_in}
use Rattle.nsi_world.specs.Heard.{WasSent, IsHeard, IsFair as IsFairWorld}
use Rattle.nsi_world.specs.Runs.{is_requester, world_after, at}
use Rattle.nsi_world.specs.Worlds.{Homes, IsAgent, World, empty}
use Rattle.run_growth.specs.WorldCuts.{cut, all_synced, IsGrown}
use Rattle.run_growth.proofs.Grown.{at_same, at_other, AreGrown, run_grown}
use Rattle.run_growth.proofs.Roles.{entries_grow}
use Rattle.run_growth.proofs.Sent.{Given, given_in}
use Rattle.run_growth.proofs.WorldCuts.{grown_fair, synced_cut, cut_at}
use Rattle.circuit_fit.specs.Fits.{AllFit}
use Rattle.circuit_link.specs.Children.{Child, IsFair}
use Rattle.circuit_link.specs.Mates.{IsMate}
use Rattle.circuit_link.specs.Serving.{child_of}
use Rattle.circuit_pairs.specs.Minding.{slot}
use Rattle.circuit_laws.specs.Backed.{HasCriteria}
use Rattle.circuit_laws.specs.Laws.{ChildrenHaveTheCriteria}
use Rattle.circuit_laws.proofs.Agreed.{HasIt, row_place}
use Rattle.circuit_laws.proofs.Attempts.{told_pending}
use Rattle.circuit_laws.proofs.Circuits.{grown_fits}
use Rattle.circuit_laws.proofs.Entering.{AllAgreed, turned_agreed, served_agreed}
use Rattle.circuit_laws.proofs.Facts.{told_fair, told_once, request_said}
use Rattle.circuit_laws.proofs.Holding.{PairOf, pair_of, fair_of, reaches, were_asked, grown_tried}
use Rattle.circuit_laws.proofs.Induct.{told_then, IsStage, staged_by}
use Rattle.circuit_laws.proofs.Joining.{AllAskedAt}
use Rattle.circuit_laws.proofs.Leading.{AsksOthers, asks_others}
use Rattle.circuit_laws.proofs.Learnt.{role_turns}
use Rattle.circuit_laws.proofs.Meant.{IsMeant, turned_meant}
use Rattle.circuit_laws.proofs.Roles.{serves_as, even_from}
use Rattle.circuit_laws.proofs.Trying.{slot_at}
use Rattle.circuit_laws.proofs.Views.{placed}

module _ (own_law : WhatIsSaidIsItsOwn) (t : Network) (homes : Homes) (given : Given homes) (a b : ℕ) (agent : IsAgent homes a) (other : IsAgent homes b) (apart : b ≡ a → ⊥) (asked : is_requester (homes b).role ≡ false)
    (setting : Setting) (role : (homes a).role ≡ aggregates setting) (leads : AsksOthers t homes a) where
  abbrev parent : List ℕ
  parent = name_in (homes a).role

  abbrev child : List ℕ
  child = name_in (homes b).role

  ---- What the aggregator works on

  abbrev MeantAll : Told → Told → Type 0
  MeantAll x y = (n : ℕ) → All (IsMeant x.out (record_at n x.state.base.records)) (children_at n x.state.children)

  meant_first : (journal more : ℕ → List Entry) (e : Entry) → IsStage homes a e journal more → MeantAll (told (homes a) (journal a)) (told (homes b) (journal b)) →
      MeantAll (told_then (homes a) (told (homes a) (journal a)) e) (told (homes b) (journal b))
  meant_first journal more e stage all n =
      let x : Told = told (homes a) (journal a) in
      let s' : AgentState = (after (homes a) x.state e).state in
      let new : List Message = (after (homes a) x.state e).out in
      let turned = role_turns (homes a).role setting role x.state e (even_from (homes a) (journal a) blank_agent (blank_is_even (homes a))) in
      turned_meant setting.agent e.input parent x.out x.out (x.out ++ new) (turned.more n) (λ m i. Contains-append_left x.out new m i) (λ m i. Contains-append_right x.out new m (turned.said n m i))
      (record_at n x.state.base.records) (record_at n s'.base.records) (children_at n x.state.children) (children_at n s'.children) (turned.each n)
      ((grown_fits own_law t homes given a agent setting role leads journal stage.before).0 n) (all n)

  grown_meant : (journal : ℕ → List Entry) → IsGrown homes journal → MeantAll (told (homes a) (journal a)) (told (homes b) (journal b))
  grown_meant journal grown =
      staged_by homes a b apart MeantAll (λ n. All-nil (IsMeant [] no_record)) meant_first (λ journal more e stage all. all) journal grown

  ---- What the child has as pending

  pends_of : (journal : ℕ → List Entry) → IsGrown homes journal → AllAskedAt parent (told (homes a) (journal a)).out (told (homes b) (journal b)).state.base.records
  pends_of journal grown n k owned e =
      let (c, its, came, under) = told_pending (homes b) asked (journal b) n k e in
      let fair : IsFairWorld homes (all_synced journal) = grown_fair homes journal grown in
      let heard : IsHeard homes (all_synced journal) b came.entry = All-contains (IsHeard homes (all_synced journal) b) (journal b) came.entry (fair.heard b) came.there in
      let s = subst (λ (i : Input). WasSent homes (all_synced journal) b i) came.got heard.sent in
      record {
        message = came.message;
        there = request_said homes given a b agent other journal grown came.message s.0 (ap is_request came.body) (came.from ∙ owned);
        its = its ∙ ap (λ (z : ℕ). Some z) (sym under);
        reserve = came.reserve;
        body = came.body;
        asks = came.asks;
      }

  ---- Both

  abbrev Agreed : Told → Told → Type 0
  Agreed x y = AllAgreed (name_in (homes a).role) (name_in (homes b).role) x.state y.state.base.records

  agreed_first : (journal more : ℕ → List Entry) (e : Entry) → IsStage homes a e journal more → Agreed (told (homes a) (journal a)) (told (homes b) (journal b)) →
      Agreed (told_then (homes a) (told (homes a) (journal a)) e) (told (homes b) (journal b))
  agreed_first journal more e stage all =
      let x : Told = told (homes a) (journal a) in
      let y : Told = told (homes b) (journal b) in
      let turned = role_turns (homes a).role setting role x.state e (even_from (homes a) (journal a) blank_agent (blank_is_even (homes a))) in
      let fit' : AllFit parent (told_then (homes a) x e).out (told_then (homes a) x e).state =
      subst (λ (z : Told). AllFit parent z.out z.state) stage.here (grown_fits own_law t homes given a agent setting role leads more stage.behind).0
      in
      let pair' : PairOf own_law t homes given a b agent other apart asked setting role leads (told_then (homes a) x e) y =
      subst (λ (z : Told). PairOf own_law t homes given a b agent other apart asked setting role leads (told_then (homes a) x e) z) (stage.others b apart)
      (subst (λ (z : Told). PairOf own_law t homes given a b agent other apart asked setting role leads z (told (homes b) (more b))) stage.here (pair_of own_law t homes given a b agent other apart asked setting role leads more stage.behind))
      in
      turned_agreed setting.agent e.input parent child x.out (child_of y.state.base y.out) (fair_of own_law t homes given a b agent other apart asked setting role leads journal) x.state (after (homes a) x.state e).state (after (homes a) x.state e).out turned
      (grown_fits own_law t homes given a agent setting role leads journal stage.before).0 fit'
      (λ m got answers from. reaches own_law t homes given a b agent other apart asked setting role leads journal stage.before e stage.came m got answers from)
      (pair_of own_law t homes given a b agent other apart asked setting role leads journal stage.before) pair' all

  agreed_second : (journal more : ℕ → List Entry) (e : Entry) → IsStage homes b e journal more → Agreed (told (homes a) (journal a)) (told (homes b) (journal b)) →
      Agreed (told (homes a) (journal a)) (told_then (homes b) (told (homes b) (journal b)) e)
  agreed_second journal more e stage all =
      let x : Told = told (homes a) (journal a) in
      let y : Told = told (homes b) (journal b) in
      let y' : Told = told_then (homes b) y e in
      served_agreed parent child x.state x.out (child_of y.state.base y.out) (pair_of own_law t homes given a b agent other apart asked setting role leads journal stage.before)
      (fair_of own_law t homes given a b agent other apart asked setting role leads journal) (grown_tried own_law t homes given a b agent other apart asked setting role leads journal stage.before) (pends_of journal stage.before)
      (told_once (homes a) (journal a)) (grown_meant journal stage.before) all e.input (child_of y'.state.base y'.out) (after (homes b) y.state e).out
      (subst (λ (z : Told). IsFair parent child (child_of z.state.base z.out)) stage.here (told_fair (homes b) (more b) parent))
      (were_asked own_law t homes given a b agent other apart asked setting role leads journal stage.before e stage.came) (entries_grow (homes b) y.state e).records (serves_as (homes b).role asked y.state e y.out)

  grown_agreed : (journal : ℕ → List Entry) → IsGrown homes journal → Agreed (told (homes a) (journal a)) (told (homes b) (journal b))
  grown_agreed journal grown = staged_by homes a b apart Agreed (λ n p x e of. absurd (let z : None ≡ Some x = e in cc)) agreed_first agreed_second journal grown

  -- each criteria of the own record is the child's record's, at the place of the view's connection
  abbrev pub EachHas : List Entry → List Entry → Type 0
  EachHas es fs =
      (n p : ℕ) (x : ChildConnection) (k : Criteria) → slice_get (children_at n (told (homes a) es).state.children) p ≡ Some x → x.child ≡ name_in (homes b).role → Contains (record_at n (told (homes a) es).state.base.records).committed k →
      HasCriteria (name_in (homes a).role) x (told (homes b) fs).state.base.records k

  pub grown_has : (journal : ℕ → List Entry) → IsGrown homes journal → EachHas (journal a) (journal b)
  grown_has journal grown n p x k here of i =
      let mine : Told = told (homes a) (journal a) in
      let theirs : Told = told (homes b) (journal b) in
      let d : Child = child_of theirs.state.base theirs.out in
      let h : HasIt parent x d.records k = (grown_agreed journal grown n p x here of).has k i in
      let pair = pair_of own_law t homes given a b agent other apart asked setting role leads journal grown in
      let fair : IsFair parent child d = fair_of own_law t homes given a b agent other apart asked setting role leads journal in
      let same : slot child mine.state.children (n, p) ≡ x = slot_at child mine.state.children n p x here of in
      let mate : IsMate parent child x (pair.place (n, p)) d = subst (λ (z : ChildConnection). IsMate parent child z (pair.place (n, p)) d) same (pair.mates (n, p)) in
      let at_row : pair.place (n, p) ≡ Some h.place = row_place parent child d fair x (pair.place (n, p)) mate h.place h.row in
      let id : ℕ = (record_at h.place d.records).id in
      let (q, e, found) = placed (ℕ × ℕ) parent child (slot child mine.state.children) mine.out d pair fair (n, p) id (ap (λ (z : ChildConnection). z.connection) same ∙ h.row.known) in
      record { connection = id; known = h.row.known; place = h.place; there = found ∙ (sym e ∙ at_row); has = h.has }

pub children_have_the_criteria : WhatIsSaidIsItsOwn → ChildrenHaveTheCriteria
children_have_the_criteria own_law t routes events sound formed routed allowed a b k j n setting own x c agent role cut_here here i its below cut_there = by its
  where
    homes : Homes
    homes = home_in t routes

    w : World
    w = world_after empty events

    given : Given homes
    given = given_in t routes

    cuts : ℕ → ℕ
    cuts = at a k (at b j w.synced)

    grown : AreGrown homes w
    grown = run_grown homes events allowed

    Has : List Entry → List Entry → Type 0
    Has es fs = EachHas own_law t homes given a b agent below.agent below.other below.asked setting role (asks_others t routes sound formed routed a) es fs

    each : Has (take k (w.journal a)) (take j (w.journal b))
    each =
        subst (λ (es : List Entry). Has es (take j (w.journal b))) (ap (λ (z : ℕ). take z (w.journal a)) (at_same a k (at b j w.synced)))
        (subst (λ (fs : List Entry). Has (cut w cuts a) fs) (ap (λ (z : ℕ). take z (w.journal b)) (at_other a b k (at b j w.synced) below.other ∙ at_same b j w.synced))
        (grown_has own_law t homes given a b agent below.agent below.other below.asked setting role (asks_others t routes sound formed routed a) (cut w cuts)
        (grown.grown cuts (cut_at w (at b j w.synced) a k (cut_at w w.synced b j (synced_cut w grown.within) (cut_there.synced, cut_there.within)) (cut_here.synced, cut_here.within)))))

    rs : List Record
    rs = (told (homes b) (take j (w.journal b))).state.base.records

    xs : List ChildConnection
    xs = children_at n (told (homes a) (take k (w.journal a))).state.children

    records : List Record
    records = (told (homes a) (take k (w.journal a))).state.base.records

    by : Contains xs x → HasCriteria (homes a).name x rs c
    by (p, l, e) =
        let there : slice_get xs p ≡ Some x = slice_get-get_or xs p x l ∙ ap (λ (z : ChildConnection). Some z) e in
        let same : record_at n records ≡ own = get_or_from_slice_get records n own no_record here in
        subst (λ (name : List ℕ). HasCriteria name x rs c) (given.named a)
        (each n p x c there (below.named ∙ sym (given.named b)) (subst (λ (r : Record). Contains r.committed c) (sym same) i))
