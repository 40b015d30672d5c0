-- While an aggregator's connection lives, so do the records of its children, in any two cuts of a run.
use Rattle.std.proofs.Common.{ℕ, ◌≡◌, ◌∙◌, Bool, true, false, List, Contains, Some, take, refl, sym, ap, true≢false}
use Rattle.std.proofs.lemmas.List.{get_or_default}
use Rattle.std.proofs.lemmas.Option.{get_or_from_slice_get}
use Rattle.std.proofs.lemmas.Slice.Eq.{bytes_eq-Decides}
use Rattle.nsi_primitive.specs.declared.message.Header.{Header}
use Rattle.child_connection.specs.Views.{ChildConnection}
use Rattle.connection_record.specs.declared.record.Record.{Record}
use Rattle.connection_record.specs.Moves.{is_live}
use Rattle.connection_record.specs.Refusal.{place_of}
use Rattle.agent_state.specs.State.{AgentState, record_at, children_at, no_record}
use Rattle.nsi_agent.specs.Homes.{home_in}
use Rattle.nsi_agent.specs.Laws.{WhatIsSaidIsItsOwn}
use Rattle.nsi_agent.specs.Told.{Told}
use Rattle.nsi_agent.specs.Said.{name_in}
use Rattle.nsi_world.specs.Worlds.{Homes, World, empty}
use Rattle.nsi_world.specs.Runs.{world_after}
use Rattle.run_growth.specs.WorldCuts.{IsPlaceOf, told_to}
use Rattle.run_growth.proofs.Sent.{Given, given_in}
use Rattle.circuit_link.specs.Children.{Child, IsFair}
use Rattle.circuit_pairs.specs.Pairs.{IsPair}
use Rattle.circuit_pairs.specs.Minding.{no_child, mine}
use Rattle.circuit_pairs.proofs.Parenting.{dec_pair, mine_own}
use Rattle.circuit_fit.specs.Fits.{IsEnding, AllEnd}
use Rattle.circuit_laws.specs.Laws.{child_at, ChildrenLive}
use Rattle.circuit_laws.proofs.Leading.{asks_others}
use Rattle.circuit_laws.proofs.Roles.{views_of, aggregates_keep}
use Rattle.circuit_laws.proofs.Facts.{told_fair}
use Rattle.circuit_laws.proofs.Views.{placed, one_knows}
use Rattle.circuit_laws.proofs.Cutting.{cut_pair}
use Rattle.circuit_laws.proofs.Aggregators.{blank_slot}
use Rattle.circuit_laws.proofs.Circuits.{cut_fits}

-- a view that is there, by its place
slot_there : (child : List ℕ) (s : AgentState) (n : ℕ) (x : ChildConnection) (its : Contains (children_at n s.children) x) → x.child ≡ child → views_of child s (n, its.0) ≡ x
slot_there child s n x its of =
    ap (mine child) (get_or_default (children_at n s.children) its.0 (no_child child) x its.1 ∙ its.2) ∙ mine_own child x ((bytes_eq-Decides child x.child).1 (sym of))

same_place : (n k : ℕ) → Some n ≡ Some k → n ≡ k
same_place n k e = cc

pub children_live : WhatIsSaidIsItsOwn → ChildrenLive
children_live own_law t routes events sound formed routed allowed a b k j n id place setting own x agent role cut here live its below at known there =
    by (is_live (record_at place d.records).lsm) refl
  where
    homes : Homes
    homes = home_in t routes

    w : World
    w = world_after empty events

    given : Given homes
    given = given_in t routes

    parent : List ℕ
    parent = name_in (homes a).role

    child : List ℕ
    child = name_in (homes b).role

    mine_told : Told
    mine_told = told_to homes w a k

    d : Child
    d = child_at homes w b j

    first : IsPlaceOf w a k
    first = (cut.synced, cut.within)

    second : IsPlaceOf w b j
    second = (at.synced, at.within)

    pair : IsPair (ℕ × ℕ) parent child (views_of child mine_told.state) mine_told.out d
    pair =
        cut_pair homes given events allowed a b agent below.agent below.other below.asked (ℕ × ℕ) dec_pair (views_of child) (aggregates_keep (homes a).role setting child role) (blank_slot child) k first j second

    fair : IsFair parent child d
    fair = told_fair (homes b) (take j (w.journal b)) parent

    ended : AllEnd mine_told.out mine_told.state
    ended = (cut_fits own_law t homes given a agent setting role (asks_others t routes sound formed routed a) events allowed k first).1

    slot : views_of child mine_told.state (n, its.0) ≡ x
    slot = slot_there child mine_told.state n x its (below.named ∙ sym (given.named b))

    knows : (views_of child mine_told.state (n, its.0)).connection ≡ Some id
    knows = ap (λ (y : ChildConnection). y.connection) slot ∙ known

    -- where a record of the child doesn't live, the connection doesn't either
    dies : (k : ℕ) → pair.place (n, its.0) ≡ Some k → is_live (record_at k d.records).lsm ≡ false → ⊥
    dies k p dead =
        let seat = (pair.mates (n, its.0)).seated.known id knows in
        let same : seat.0 ≡ k = same_place seat.0 k (sym seat.1 ∙ p) in
        let its_id : (record_at k d.records).id ≡ id = ap (λ (z : ℕ). (record_at z d.records).id) (sym same) ∙ seat.2 in
        let (c, asked) = pair.asked_for.ended k ((pair.mates (n, its.0)).seated.seated k p).1 dead in
        let g : IsEnding mine_told.state asked.message (record_at k d.records).id = ended asked.message (record_at k d.records).id asked.there asked.is in
        let other : views_of child mine_told.state (g.place, g.there.0) ≡ g.view =
        slot_there child mine_told.state g.place g.view g.there (g.child ∙ ap (λ (h : Header). h.provider) asked.header)
        in
        let one : (let q : ℕ × ℕ = (n, its.0) in q) ≡ (g.place, g.there.0) =
        one_knows (ℕ × ℕ) parent child (views_of child mine_told.state) mine_told.out d pair fair (n, its.0) (g.place, g.there.0) id knows
        (ap (λ (y : ChildConnection). y.connection) other ∙ (g.connection ∙ ap (λ (z : ℕ). Some z) its_id))
        in
        let dead_own : is_live (record_at n mine_told.state.base.records).lsm ≡ false =
        ap (λ (q : ℕ × ℕ). is_live (record_at q.0 mine_told.state.base.records).lsm) one ∙ g.dead
        in
        true≢false (sym live ∙ (sym (ap (λ (r : Record). is_live r.lsm) (get_or_from_slice_get mine_told.state.base.records n own no_record here)) ∙ dead_own))

    found : (k : ℕ) × (pair.place (n, its.0) ≡ Some k) × (place_of id parent d.records ≡ Some k)
    found = placed (ℕ × ℕ) parent child (views_of child mine_told.state) mine_told.out d pair fair (n, its.0) id knows

    here_too : found.0 ≡ place
    here_too = same_place found.0 place (sym found.2 ∙ (ap (λ (z : List ℕ). place_of id z d.records) (given.named a) ∙ there))

    by : (z : Bool) → is_live (record_at place d.records).lsm ≡ z → is_live (record_at place d.records).lsm ≡ true
    by true e = e
    by false e = absurd (dies place (found.1 ∙ ap (λ (z : ℕ). Some z) here_too) e)
