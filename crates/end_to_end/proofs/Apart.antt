-- A record of a view is reached from one record of the parent alone: the owner of a record is one agent, and one of its views has the record.
use Rattle.std.proofs.Common.{ℕ, zero, suc, ◌≡◌, ◌≤◌, ◌<◌, ◌∙◌, inl, inr, ◌&&◌, ◌==◌, Bool, true, false, List, Option, Some, slice_get, bytes_eq, refl, sym, ap, subst, arith}
use Rattle.std.proofs.lemmas.List.Quantifiers.{position-Some}
use Rattle.std.proofs.lemmas.Option.{slice_get-get_or}
use Rattle.std.proofs.lemmas.Slice.Eq.{bytes_eq-Decides}
use Rattle.nsi_primitive.specs.declared.entry.Event.{Event}
use Rattle.stp_topology.specs.Laws.{IsWellFormed, IsChild}
use Rattle.stp_topology.specs.Network.{children_of}
use Rattle.stp_topology.specs.Rank.{rank_of}
use Rattle.stp_topology.specs.Sound.{IsSound}
use Rattle.stp_topology.specs.declared.network.AgentKind.{AgentKind}
use Rattle.stp_topology.specs.declared.network.Network.{Network}
use Rattle.connection_record.specs.Refusal.{place_of}
use Rattle.connection_record.specs.declared.record.Record.{Record}
use Rattle.child_connection.specs.Views.{ChildConnection}
use Rattle.agent_state.specs.State.{children_at, no_record, record_at}
use Rattle.aggregator_agent.specs.Setting.{Setting as AggregatorSetting}
use Rattle.nsi_agent.specs.Asked.{IsAskedBy}
use Rattle.nsi_agent.specs.Homes.{aggregates, Routes, AreRoutes, role_in, home_in}
use Rattle.nsi_world.specs.Laws.{HeardWasSent}
use Rattle.nsi_world.specs.Runs.{world_after, AreAllowed}
use Rattle.nsi_world.specs.Worlds.{Homes, IsAgent, World, empty}
use Rattle.run_growth.proofs.Sent.{given_in, agents_same}
use Rattle.run_growth.specs.Cuts.{IsCutOf, state_of_cut, synced_state}
use Rattle.circuit_laws.specs.Backed.{IsChildOf, IsBackedIn}
use Rattle.circuit_laws.specs.Laws.{RecordsAreApart}

second_true : (p q : Bool) → (p && q) ≡ true → q ≡ true
second_true true q h = h
second_true false q h = absurd (cc)

-- whose record it is that has an id
pub owned_there : (id n : ℕ) (owner : List ℕ) (rs : List Record) → place_of id owner rs ≡ Some n → (record_at n rs).owner ≡ owner
owned_there id n owner rs e =
    let (within, test, least) = position-Some (λ (r : Record). (id == r.id) && bytes_eq owner r.owner) rs n no_record e in
    sym ((bytes_eq-Decides owner (record_at n rs).owner).0 (second_true (id == (record_at n rs).id) (bytes_eq owner (record_at n rs).owner) test))

module _ (t : Network) (routes : Routes) (formed : IsWellFormed t) where
  -- an aggregator asks the agents of its lines
  pub child_line : (a b : ℕ) (setting : AggregatorSetting) → (home_in t routes a).role ≡ aggregates setting → IsAskedBy t a b → IsChild t.children a b
  unfolding home_in
  child_line a b setting role (inl e) = absurd (let f : role_in (Some (AgentKind.Requester b)) t routes a ≡ aggregates setting = ap (λ (o : Option AgentKind). role_in o t routes a) (sym e) ∙ role in cc)
  child_line a b setting role (inr c) = formed.listed a c.0 b (slice_get-get_or (children_of t a) c.0 b c.1 ∙ ap (λ (z : ℕ). Some z) c.2)

-- in a cut of an aggregator, the view of that number of a connection has a record of a child by what that one has synced
pub record IsLink (t : Network) (homes : Homes) (w : World) (a k n i b place : ℕ) : Type 0 where
  pub setting : AggregatorSetting
  pub agent : IsAgent homes a
  pub role : (homes a).role ≡ aggregates setting
  pub cut : IsCutOf w a k
  pub view : ChildConnection
  pub there : slice_get (children_at n (state_of_cut homes w a k).children) i ≡ Some view
  pub child : IsChildOf t homes a view.child b
  pub version : ℕ
  pub commit : ℕ
  pub backed : IsBackedIn homes w a b view version commit
  pub at : backed.place ≡ place

-- from a record to one below it, by so many views, of what each agent has synced
abbrev pub Leads : Network → Homes → World → ℕ → (b place low its : ℕ) → Type 0
Leads t homes w zero b place low its = (b ≡ low) × (place ≡ its)
Leads t homes w (suc m) b place low its = (c : ℕ) × (q : ℕ) × (i : ℕ) × Leads t homes w m b place c q × IsLink t homes w c (w.synced c) q i low its

module _ (t : Network) (routes : Routes) (events : List Event) (sound : IsSound t) (formed : IsWellFormed t) (routed : AreRoutes t routes) (allowed : AreAllowed (home_in t routes) empty events) (heard : HeardWasSent) (separate : RecordsAreApart) where
  abbrev homes : Homes
  homes = home_in t routes

  abbrev w : World
  w = world_after empty events

  abbrev Link : (a k n i b place : ℕ) → Type 0
  Link a k n i b place = IsLink t homes w a k n i b place

  -- one view more in front
  pub leads_more : (m a n i b place low its : ℕ) → Link a (w.synced a) n i b place → Leads t homes w m b place low its → Leads t homes w (suc m) a n low its
  leads_more zero a n i b place low its link (e, f) = (a, n, i, (refl, refl), subst (λ (z : ℕ). Link a (w.synced a) n i z its) e (subst (λ (z : ℕ). Link a (w.synced a) n i b z) f link))
  leads_more (suc m) a n i b place low its link (c, q, j, up, last) = (c, q, j, leads_more m a n i b place c q link up, last)

  ---- Ranks

  link_rank : (a k n i b place : ℕ) → Link a k n i b place → rank_of t b < rank_of t a
  link_rank a k n i b place link = formed.lower a b (child_line t routes formed a b link.setting link.role link.child.below)

  leads_rank : (m b place low its : ℕ) → Leads t homes w m b place low its → rank_of t low ≤ rank_of t b
  leads_rank zero b place low its (e, f) = let same : rank_of t b ≡ rank_of t low = ap (rank_of t) e in omega (arith, same)
  leads_rank (suc m) b place low its (c, q, i, up, last) = omega (arith, leads_rank m b place c q up, link_rank c (w.synced c) q i low its last)

  ---- One parent

  owned : (a k n i b place : ℕ) → Link a k n i b place → (record_at place (synced_state homes w b).base.records).owner ≡ (homes a).name
  owned a k n i b place link =
      subst (λ (p : ℕ). (record_at p (synced_state homes w b).base.records).owner ≡ (homes a).name) link.at
      (owned_there link.backed.connection link.backed.place (homes a).name (synced_state homes w b).base.records link.backed.there)

  one_parent : (a k n i c l q j b place : ℕ) → Link a k n i b place → Link c l q j b place → a ≡ c
  one_parent a k n i c l q j b place x y =
      agents_same homes (given_in t routes) w (heard homes events allowed) a c x.agent y.agent (sym (owned a k n i b place x) ∙ owned c l q j b place y)

  pub one_view : (a k n i q j b place : ℕ) → Link a k n i b place → Link a k q j b place → (n ≡ q) × (i ≡ j)
  one_view a k n i q j b place x y =
      separate t routes events sound formed routed allowed a b k n i q j x.version y.version x.commit y.commit x.setting x.view y.view x.agent x.role x.cut x.there y.there x.child y.child x.backed y.backed
      (x.at ∙ sym y.at)

  -- two records of views of one connection that lead to one record are one
  module _ (a k n i j b place c its : ℕ) (x : Link a k n i b place) (y : Link a k n j c its) where
    no_higher : (d s q : ℕ) → rank_of t d ≤ rank_of t q → rank_of t q < rank_of t a → d ≡ a → ⊥
    no_higher d s q l m e = let same : rank_of t d ≡ rank_of t a = ap (rank_of t) e in omega (arith, l, m, same)

    pub meets : (m s low at : ℕ) → Leads t homes w m b place low at → Leads t homes w s c its low at → (b ≡ c) × (place ≡ its)
    meets zero zero low at (e, f) (g, h) = (e ∙ sym g, f ∙ sym h)
    meets zero (suc s) low at (e, f) (d, q, p, up, last) =
        let here : Link a k n i low at = subst (λ (z : ℕ). Link a k n i z at) e (subst (λ (z : ℕ). Link a k n i b z) f x) in
        absurd (no_higher d s c (leads_rank s c its d q up) (link_rank a k n j c its y) (one_parent d (w.synced d) q p a k n i low at last here))
    meets (suc m) zero low at (d, q, p, up, last) (g, h) =
        let here : Link a k n j low at = subst (λ (z : ℕ). Link a k n j z at) g (subst (λ (z : ℕ). Link a k n j c z) h y) in
        absurd (no_higher d m b (leads_rank m b place d q up) (link_rank a k n i b place x) (one_parent d (w.synced d) q p a k n j low at last here))
    meets (suc m) (suc s) low at (d, q, p, up, last) (e, r, o, upper, other) =
        let one : d ≡ e = one_parent d (w.synced d) q p e (w.synced e) r o low at last other in
        let same : Link d (w.synced d) r o low at = subst (λ (z : ℕ). Link z (w.synced z) r o low at) (sym one) other in
        let (row, _) = one_view d (w.synced d) q p r o low at last same in
        meets m s d q up (subst (λ (z : ℕ). Leads t homes w s c its d z) (sym row) (subst (λ (z : ℕ). Leads t homes w s c its z r) (sym one) upper))
