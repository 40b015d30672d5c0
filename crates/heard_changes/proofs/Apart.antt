-- Whatever front of its entries an aggregator had taken in a run, no two of its views of one child know one connection.
use Rattle.std.proofs.Common.{ℕ, ◌≤◌, ◌≡◌, ◌∙◌, ◌⊎◌, inl, inr, List, [], ◌∷◌, ◌++◌, append-nil, append_assoc, length, length-append, take, Contains, refl, sym, ap, subst, arith}
use Rattle.std.proofs.Math.Seq.{take-append_seam}
use Rattle.std.proofs.lemmas.Bool.{cases_eq, cases_lt}
use Rattle.std.proofs.lemmas.List.{take-append-le, take-take, take_all, length-take}
use Rattle.std.proofs.lemmas.Option.{get_or_from_slice_get}
use Rattle.nsi_primitive.specs.declared.entry.Entry.{Entry}
use Rattle.nsi_primitive.specs.declared.entry.Event.{Event}
use Rattle.nsi_primitive.specs.declared.entry.Happening.{Happening}
use Rattle.stp_topology.specs.Laws.{IsWellFormed}
use Rattle.stp_topology.specs.Sound.{IsSound}
use Rattle.stp_topology.specs.declared.network.Network.{Network}
use Rattle.child_connection.specs.Views.{ChildConnection}
use Rattle.agent_state.specs.State.{AgentState}
use Rattle.aggregator_agent.specs.Setting.{Setting}
use Rattle.nsi_agent.specs.Homes.{AreRoutes, Routes, aggregates, home_in}
use Rattle.nsi_agent.specs.Told.{told}
use Rattle.nsi_world.specs.Runs.{at, happens_at, happens, world_after, AreAllowed}
use Rattle.nsi_world.specs.Worlds.{Homes, IsAgent, World, empty}
use Rattle.run_growth.specs.WorldCuts.{told_to}
use Rattle.run_growth.proofs.Grown.{at_same, at_other, run_grown}
use Rattle.run_growth.proofs.Worlds.{after_append, allowed_front}
use Rattle.circuit_laws.specs.Backed.{HasView}
use Rattle.circuit_laws.specs.Laws.{RunsAreBacked, ChildrenKnowTheirOwn}
use Rattle.circuit_laws.proofs.Viewed.{view_there}
use Rattle.speech_cost.specs.Changes.{IsViewAt, KnowTheirOwn, AlwaysKnowTheirOwn}
use Rattle.speech_cost.specs.Laws.{ChangesWereHeard}
use Rattle.heard_changes.specs.Laws.{ViewsAreApart, ChangesAreHeard}

one_more : (w : World) (e : Event) → world_after w (e ∷ []) ≡ happens w e
unfolding world_after
one_more w e = refl

at_first : (a : ℕ) → (world_after empty []).journal a ≡ []
unfolding world_after
at_first a = refl

---- All that an agent has taken

module _ (backed : RunsAreBacked) (children : ChildrenKnowTheirOwn) (t : Network) (routes : Routes) (sound : IsSound t) (formed : IsWellFormed t) (routed : AreRoutes t routes) (a : ℕ) (setting : Setting) where
  abbrev homes : Homes
  homes = home_in t routes

  abbrev Own : List Entry → Type 0
  Own es = KnowTheirOwn (told (home_in t routes a) es).state

  has_view : (s : AgentState) (n i : ℕ) (x : ChildConnection) → (homes a).role ≡ aggregates setting → IsViewAt s n i x → HasView (homes a).role s x
  has_view s n i x role v =
      subst (λ r. HasView r s x) (sym role)
      (n, subst (λ (xs : List ChildConnection). Contains xs x) (sym (get_or_from_slice_get s.children n v.views [] v.there)) (view_there v.views i x v.view))

  module _ (agent : IsAgent homes a) (role : (homes a).role ≡ aggregates setting) where
    whole : (events : List Event) → AreAllowed homes empty events → Own ((world_after empty events).journal a)
    whole events allowed = subst Own (take_all k (w.journal a) (omega arith)) known
      where
        w : World
        w = world_after empty events

        k : ℕ
        k = length (w.journal a)

        within : w.synced a ≤ k
        within = (run_grown homes events allowed).within a

        known : Own (take k (w.journal a))
        known n i m j id x y at there same e f =
            let (b, child, all) = backed t routes events sound formed routed allowed a k x agent (record { synced = within; within = omega arith }) (has_view (told_to homes w a k).state n i x role at) in
            children t routes events a b k n i m j id setting at.views there.views x y allowed agent child.agent role child.other child.asked (within, omega arith) at.there at.view child.named there.there there.view
            (same ∙ child.named) e f

    ---- Each front of it

    -- what an event leaves of a journal: it stays, an entry comes, or so many are left
    abbrev GoesTo : (old new : List Entry) → Type 0
    GoesTo old new = (new ≡ old) ⊎ ((e : Entry) × (new ≡ old ++ e ∷ [])) ⊎ ((n : ℕ) × (new ≡ take n old))

    fronts_by : (old new : List Entry) → GoesTo old new → ((k : ℕ) → Own (take k old)) → Own new → (k : ℕ) → Own (take k new)
    fronts_by old new (inl same) fronts all k = subst (λ es. Own (take k es)) (sym same) (fronts k)
    fronts_by old new (inr (inl (e, more))) fronts all k = elim (cases_lt (length old) k) [
      | inl lt ↦ subst Own (sym (take_all k new (omega (arith, lt, ap length more, length-append old (e ∷ []))))) all
      | inr le ↦ subst Own (sym (ap (take k) more ∙ take-append-le k old (e ∷ []) le)) (fronts k)
    ]
    fronts_by old new (inr (inr (n, fewer))) fronts all k = elim (cases_lt n k) [
      | inl lt ↦ subst Own (sym (ap (take k) fewer ∙ take_all k (take n old) (omega (arith, lt, length-take n old)))) (fronts n)
      | inr le ↦ subst Own (sym (ap (take k) fewer ∙ take-take k n old le)) (fronts k)
    ]

    journal_goes : (w : World) (z : ℕ) (what : Happening) → GoesTo (w.journal a) ((happens_at w z what).journal a)
    journal_goes w z (Happening.Entry e answer) = elim (cases_eq a z) [
      | inl q ↦ inr (inl (e, subst (λ y. at y (w.journal y ++ e ∷ []) w.journal a ≡ w.journal a ++ e ∷ []) q (at_same a (w.journal a ++ e ∷ []) w.journal)))
      | inr n ↦ inl (at_other z a (w.journal z ++ e ∷ []) w.journal n)
    ]
    journal_goes w z (Happening.Sync count) = inl refl
    journal_goes w z (Happening.Restart count) = elim (cases_eq a z) [
      | inl q ↦ inr (inr (count, subst (λ y. at y (take count (w.journal y)) w.journal a ≡ take count (w.journal a)) q (at_same a (take count (w.journal a)) w.journal)))
      | inr n ↦ inl (at_other z a (take count (w.journal z)) w.journal n)
    ]

    fronts_from : (earlier later : List Event) → AreAllowed homes empty (earlier ++ later) → ((k : ℕ) → Own (take k ((world_after empty earlier).journal a))) →
        (k : ℕ) → Own (take k ((world_after empty (earlier ++ later)).journal a))
    fronts_from earlier [] allowed fronts k = subst (λ es. Own (take k ((world_after empty es).journal a))) (sym (append-nil earlier)) (fronts k)
    fronts_from earlier (e ∷ es) allowed fronts k =
        let w : World = world_after empty earlier in
        let more : List Event = earlier ++ e ∷ [] in
        let next : world_after empty more ≡ happens w e = after_append empty earlier (e ∷ []) ∙ one_more w e in
        let still : AreAllowed homes empty (more ++ es) = subst (AreAllowed homes empty) (sym (append_assoc earlier (e ∷ []) es)) allowed in
        let goes : GoesTo (w.journal a) ((world_after empty more).journal a) = subst (λ (v : World). GoesTo (w.journal a) (v.journal a)) (sym next) (journal_goes w e.agent e.what) in
        subst (λ zs. Own (take k ((world_after empty zs).journal a))) (append_assoc earlier (e ∷ []) es)
        (fronts_from more es still (fronts_by (w.journal a) ((world_after empty more).journal a) goes fronts (whole more (allowed_front homes empty more es still))) k)

    each_front : (events : List Event) → AreAllowed homes empty events → (k : ℕ) → Own (take k ((world_after empty events).journal a))
    each_front events allowed k = fronts_from [] events allowed first k
      where
        none : List Entry
        none = (world_after empty []).journal a

        first : (n : ℕ) → Own (take n ((world_after empty []).journal a))
        first n = subst Own (sym (take_all n none (omega (arith, ap length (at_first a))))) (whole [] (allowed_front homes empty [] events allowed))

    -- of what it had taken by one of them
    within_front : (events : List Event) → AreAllowed homes empty events → (k : ℕ) → AlwaysKnowTheirOwn (homes a) (take k ((world_after empty events).journal a))
    within_front events allowed k fs gs q =
        let es : List Entry = (world_after empty events).journal a in
        let few : length fs ≤ k = omega (arith, ap length q, length-append fs gs, length-take k es) in
        let same : take (length fs) es ≡ fs = sym (take-take (length fs) k es few) ∙ (ap (take (length fs)) q ∙ take-append_seam fs gs) in
        subst Own same (each_front events allowed (length fs))

pub views_are_apart : RunsAreBacked → ChildrenKnowTheirOwn → ViewsAreApart
views_are_apart backed children t routes events sound formed routed allowed a k setting agent role = each_front backed children t routes sound formed routed a setting agent role events allowed k

pub changes_are_heard : RunsAreBacked → ChildrenKnowTheirOwn → ChangesWereHeard → ChangesAreHeard
changes_are_heard backed children heard t routes events sound formed routed allowed a k setting agent role =
    heard (home_in t routes a) setting (take k ((world_after empty events).journal a)) role (within_front backed children t routes sound formed routed a setting agent role events allowed k)
