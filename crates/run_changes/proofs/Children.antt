-- Who is told something has asked; so what an aggregator hears of changes its children have said.
use Rattle.std.proofs.Common.{ℕ, ◌≡◌, ◌∙◌, inl, inr, Bool, true, false, List, Option, Some, get_or, refl, sym, ap, subst, arith}
use Rattle.std.specs.List.{All, Contains, filter}
use Rattle.std.proofs.lemmas.List.Elements.{All-contains, All-filter, filter_passes}
use Rattle.std.proofs.lemmas.Option.{slice_get-get_or}
use Rattle.nsi_primitive.specs.Messages.{kind_of, is_request}
use Rattle.nsi_primitive.specs.declared.entry.Entry.{Entry}
use Rattle.nsi_primitive.specs.declared.entry.Event.{Event}
use Rattle.nsi_primitive.specs.declared.entry.Input.{Input}
use Rattle.nsi_primitive.specs.declared.message.Body.{Body}
use Rattle.nsi_primitive.specs.declared.message.Identity.{Identity}
use Rattle.nsi_primitive.specs.declared.message.Message.{Message}
use Rattle.stp_topology.specs.Laws.{IsChild, IsWellFormed}
use Rattle.stp_topology.specs.Network.{children_of}
use Rattle.stp_topology.specs.Sound.{IsSound}
use Rattle.stp_topology.specs.declared.network.AgentKind.{AgentKind}
use Rattle.stp_topology.specs.declared.network.Network.{Network}
use Rattle.aggregator_agent.specs.Setting.{Setting}
use Rattle.nsi_agent.specs.Asked.{IsAskedBy}
use Rattle.nsi_agent.specs.Homes.{Role, aggregates, Routes, AreRoutes, role_in, home_in}
use Rattle.nsi_agent.specs.Laws.{WhatIsSaidIsItsOwn}
use Rattle.nsi_agent.specs.Said.{name_in, AsksFor, HasAsked, Asks, IsSaid, IsSaidAs, IsForIn}
use Rattle.nsi_agent.specs.Told.{told}
use Rattle.nsi_world.specs.Worlds.{Homes, World, empty, synced_part, IsAgent, IsSaidBy, IsSent, IsTo}
use Rattle.nsi_world.specs.Runs.{world_after, AreAllowed}
use Rattle.nsi_world.specs.Heard.{IsHeard, IsFair, WasSent}
use Rattle.nsi_world.specs.Laws.{HeardWasSent}
use Rattle.run_growth.proofs.Entered.{entries_of, all_for}
use Rattle.run_growth.proofs.Grown.{says_more}
use Rattle.run_growth.proofs.Sent.{Given, given_in, agents_same, front, got_sent, to_provider, to_requester}
use Rattle.circuit_laws.specs.Backed.{IsChildOf}
use Rattle.circuit_laws.proofs.Leading.{asks_others}
use Rattle.speech_cost.specs.Changes.{is_change, says_change, is_change_kind, is_of_change}
use Rattle.run_changes.specs.Told.{WasToldByChild, AreHeardOnce}
use Rattle.run_changes.specs.Laws.{ChangesAreHeardOnce}
use Rattle.run_changes.proofs.Heard.{Came, CameOnce, heard_once}
use Rattle.run_changes.proofs.Lists.{apart_filter}

---- Bodies

pub change_asks_nothing : (b : Body) → is_change b ≡ true → is_request b ≡ false
change_asks_nothing (Body.DataPlaneStateChange n) e = refl
change_asks_nothing _ e = absurd (cc)

pub of_change : (b : Body) → is_change_kind (kind_of b) ≡ is_change b
of_change b = grind arith

-- an aggregator asks the agents of its lines
child_line : (t : Network) (routes : Routes) (formed : IsWellFormed t) (a b : ℕ) (setting : Setting) → (home_in t routes a).role ≡ aggregates setting → IsAskedBy t a b → IsChild t.children a b
unfolding home_in
child_line t routes formed a b setting role (inl e) =
    absurd (let f : role_in (Some (AgentKind.Requester b)) t routes a ≡ aggregates setting = ap (λ (o : Option AgentKind). role_in o t routes a) (sym e) ∙ role in cc)
child_line t routes formed a b setting role (inr c) = formed.listed a c.0 b (slice_get-get_or (children_of t a) c.0 b c.1 ∙ ap (λ (z : ℕ). Some z) c.2)

-- a message was said to an agent that asks the one that says it
pub record HasParent (t : Network) (homes : Homes) (b : ℕ) (m : Message) : Type 0 where
  pub parent : ℕ
  pub agent : IsAgent homes parent
  pub named : (homes parent).name ≡ m.header.requester
  pub child : IsChildOf t homes parent (homes b).name b

module _ (own : WhatIsSaidIsItsOwn) (heard : HeardWasSent) (t : Network) (routes : Routes) (events : List Event) (sound : IsSound t) (formed : IsWellFormed t) (routed : AreRoutes t routes)
    (run : AreAllowed (home_in t routes) empty events) where
  abbrev homes : Homes
  homes = home_in t routes

  abbrev w : World
  w = world_after empty events

  fair : IsFair homes w
  fair = heard homes events run

  given : Given homes
  given = given_in t routes

  ---- What is said

  pub is_own : (b : ℕ) (m : Message) → Contains (told (homes b) (w.journal b)).out m → IsSaid (name_in (homes b).role) (Asks (homes b).role) (HasAsked (w.journal b)) m
  is_own b m c =
      let role : Role = (homes b).role in
      let all : All (IsForIn (name_in role)) (w.journal b) = all_for homes b (name_in role) (w.journal b) (w.synced b) (given.named b) (entries_of homes events run b) in
      All-contains (IsSaid (name_in role) (Asks role) (HasAsked (w.journal b))) (told (homes b) (w.journal b)).out m (own (homes b) (w.journal b) all) c

  -- by all entries too what was said by those that are synced
  pub whole : (b : ℕ) (m : Message) → IsSaidBy homes w b m → Contains (told (homes b) (w.journal b)).out m
  whole b m s = says_more (homes b) m (synced_part w b) (w.journal b) (front homes given w fair (w.synced b) b) s.1

  as_said : (asks : Bool) (b : ℕ) (m : Message) → Contains (told (homes b) (w.journal b)).out m → is_request m.body ≡ asks → IsSaidAs asks (name_in (homes b).role) (Asks (homes b).role) (HasAsked (w.journal b)) m
  as_said asks b m c e = subst (λ z. IsSaidAs z (name_in (homes b).role) (Asks (homes b).role) (HasAsked (w.journal b)) m) e (is_own b m c)

  -- what is no request goes in its sender's name
  pub said_by : (b : ℕ) (m : Message) → Contains (told (homes b) (w.journal b)).out m → is_request m.body ≡ false → m.header.provider ≡ (homes b).name
  said_by b m c e = (as_said false b m c e).0 ∙ given.named b

  ---- Who has asked

  asker : (b : ℕ) (m q : Message) → IsAgent homes b → IsSent homes w q → IsTo homes b q → is_request q.body ≡ true → q.header.requester ≡ m.header.requester → HasParent t homes b m
  asker b m q is sent to asks same =
      let c : ℕ = sent.0 in
      let so : IsSaidAs true (name_in (homes c).role) (Asks (homes c).role) (HasAsked (w.journal c)) q = as_said true c q (whole c q sent.1) asks in
      let name : q.header.provider ≡ (homes b).name = to_provider homes given w fair b q asks to in
      let below = asks_others t routes sound formed routed c (homes b).name (subst (Asks (homes c).role) name so.1) in
      let one : below.0 ≡ b = agents_same homes given w fair below.0 b below.1.agent is (sym below.1.named) in
      record {
        parent = c;
        agent = sent.1.0;
        named = sym (given.named c) ∙ (sym so.0 ∙ same);
        child = subst (λ z. IsChildOf t homes c (homes b).name z) one below.1;
      }

  pub parent_of : (b : ℕ) (m : Message) → IsAgent homes b → Contains (told (homes b) (w.journal b)).out m → is_request m.body ≡ false → HasParent t homes b m
  parent_of b m is c answers =
      let so : IsSaidAs false (name_in (homes b).role) (Asks (homes b).role) (HasAsked (w.journal b)) m = as_said false b m c answers in
      let e : Entry = so.1.0 in
      let was : IsHeard homes w b e = All-contains (IsHeard homes w b) (w.journal b) e (fair.heard b) so.1.1 in
      by e.input was.sent so.1.2
    where
      by : (input : Input) → WasSent homes w b input → AsksFor m.header.requester input → HasParent t homes b m
      by (Input.Got q) was asks = asker b m q is was.0 was.1 asks.0 asks.1
      by (Input.Work n machine) was asks = absurd asks
      by (Input.Force n) was asks = absurd asks
      by (Input.Acked i) was asks = absurd asks
      by Input.Tick was asks = absurd asks
      by (Input.Ask n ask) was asks = absurd asks

  ---- What an aggregator hears

  module _ (a : ℕ) (setting : Setting) (agent : IsAgent homes a) (role : (homes a).role ≡ aggregates setting) where
    from_child : (i : Identity) → is_of_change i ≡ true → Came (w.journal a) i → WasToldByChild t homes w a i
    from_child i e came =
        let m : Message = came.message in
        let change : says_change m ≡ true = sym (of_change m.body) ∙ (ap is_of_change came.its ∙ e) in
        let notes : is_request m.body ≡ false = change_asks_nothing m.body change in
        let sent = got_sent homes given w fair a m came.got in
        let b : ℕ = sent.0.0 in
        let p : HasParent t homes b m = parent_of b m sent.0.1.0 (whole b m sent.0.1) notes in
        let one : p.parent ≡ a = agents_same homes given w fair p.parent a p.agent agent (p.named ∙ to_requester homes given w fair a m notes sent.1) in
        let below : IsAskedBy t a b = subst (λ z. IsAskedBy t z b) one p.child.below in
        record {
          message = m;
          its = came.its;
          change = change;
          child = b;
          below = child_line t routes formed a b setting role below;
          said = sent.0.1;
          addressed = sent.1;
        }

    pub are_heard_once : AreHeardOnce t homes w a
    are_heard_once =
        let all : List Identity = (told (homes a) (w.journal a)).state.base.heard in
        let once : CameOnce (w.journal a) all = heard_once (homes a) (w.journal a) in
        let came : All (Came (w.journal a)) (filter is_of_change all) = All-filter is_of_change (Came (w.journal a)) all once.came in
        record {
          apart = apart_filter is_of_change all once.apart;
          from_children = λ k d lt. from_child (get_or (filter is_of_change all) k d) (filter_passes is_of_change all k d lt) (came k d lt);
        }

pub changes_are_heard_once : WhatIsSaidIsItsOwn → HeardWasSent → ChangesAreHeardOnce
changes_are_heard_once own heard t routes events sound formed routed run a setting agent role = are_heard_once own heard t routes events sound formed routed run a setting agent role
