-- A view that hears the confirmation of its commit has the version as committed.
use Rattle.std.proofs.Common.{ℕ, ◌≡◌, ◌<◌, ◌&&◌, Bool, true, false, not, List, [], ◌∷◌, ◌++◌, Some, None, length, map, slice_get, option_map, refl, sym, ap, ◌∙◌, subst, arith, eq-eqb}
use Rattle.std.proofs.lemmas.Bool.{lt-ltb}
use Rattle.std.proofs.lemmas.Option.{slice_get-map}
use Rattle.std.proofs.lemmas.Slice.Eq.{bytes_eq-Decides}
use Rattle.nsi_primitive.specs.declared.entry.Entry.{Entry}
use Rattle.nsi_primitive.specs.declared.entry.Input.{Input}
use Rattle.nsi_primitive.specs.declared.kind.Kind.{Kind}
use Rattle.nsi_primitive.specs.declared.message.Body.{Body}
use Rattle.nsi_primitive.specs.declared.message.Message.{Message}
use Rattle.message_retry.specs.Retry.{is_old}
use Rattle.child_connection.specs.declared.state.Taken.{Taken}
use Rattle.child_connection.specs.Views.{ChildConnection, is_kind, is_open_of, sent}
use Rattle.child_connection.specs.Hearing.{hear, hear_from, heard_if, hears, idle, push_version}
use Rattle.agent_state.specs.Entries.{most_entries, retry_of}
use Rattle.agent_state.specs.State.{AgentState, blank_agent}
use Rattle.agent_state.specs.declared.parent.View.{View}
use Rattle.requester_agent.specs.Setting.{Setting as RequesterSetting}
use Rattle.requester_agent.specs.Steps.{after as requester_after, after_if, hears_if, may_take, step, view_hears}
use Rattle.nsi_agent.specs.Homes.{Home, Role, requests}
use Rattle.nsi_agent.specs.Steps.{after, after_as, is_new, is_seen}
use Rattle.nsi_agent.specs.Told.{Told, goes_on, told, WasGot}
use Rattle.nsi_agent.proofs.SeenGot.{seen_was_got}
use Rattle.nsi_agent.proofs.Telling.{telling_is_in_parts}
use Rattle.nsi_world.specs.Runs.{IsEntered, happens}
use Rattle.run_text.specs.Committed.{AwaitsCommit, Commits, ConfirmedIsCommitted, gets, state_in}
use Rattle.run_text.proofs.Answering.{taken_among, timely}

---- The view

hears_commit : (b : Body) (c id version : ℕ) (x : ChildConnection) → b ≡ Body.ReserveCommitConfirmed id → x.reserve_request ≡ Some (sent c Kind.ReserveCommit) → x.pending ≡ Some version → Commits x (hears b c x).view version
unfolding hears is_kind
hears_commit b c id version x body asked pending =
    subst (λ (z : Body). Commits x (hears z c x).view version) (sym body) (by (is_open_of x.reserve_request Kind.ReserveCommit c) is_its)
  where
    is_its : is_open_of x.reserve_request Kind.ReserveCommit c ≡ true
    is_its = rw (asked, eq-eqb c c refl) refl

    by : (t : Bool) → t ≡ true → Commits x (heard_if t (Taken.Answered Kind.ReserveCommit) (idle None (record x { committed = push_version x.committed x.pending })) x).view version
    by true h = record { committed = ap (push_version x.committed) pending; pending = refl; asked = refl }
    by false h = absurd (cc)

hear_commit : (m : Message) (id version : ℕ) (x : ChildConnection) → m.body ≡ Body.ReserveCommitConfirmed id → AwaitsCommit m.header x version → Commits x (hear m x).view version
hear_commit m id version x body waits =
    subst (λ (t : Bool). Commits x (hear_from t m x).view version) (sym ((bytes_eq-Decides m.header.provider x.child).1 (sym waits.child)))
    (hears_commit m.body m.header.correlation id version x body waits.asked waits.pending)

---- The requester

after_views : (b : Bool) (second : ℕ) (m : Message) (setting : RequesterSetting) (s : AgentState) → b ≡ true → (o : Bool) → is_old m (retry_of s.base) ≡ o → o ≡ false
    → (after_if b setting s (record { second = second; input = Input.Got m })).state.views ≡ map (view_hears m) s.views
unfolding step hears_if
after_views true second m setting s h o old new = rw (old ∙ new) refl
after_views false second m setting s h o old new = absurd (cc)

is_first : (h : Home) (setting : RequesterSetting) (es : List Entry) (m : Message) → h.role ≡ requests setting → (WasGot m es → ⊥) → is_old m (retry_of (told h es).state.base) ≡ false
unfolding is_new
is_first h setting es m role first = by (is_old m (retry_of (told h es).state.base)) refl
  where
    by : (b : Bool) → is_old m (retry_of (told h es).state.base) ≡ b → is_old m (retry_of (told h es).state.base) ≡ false
    by true e = absurd (first (seen_was_got h es m (ap (λ (r : Role). not (is_seen r (told h es).state m)) role ∙ ap not e)))
    by false e = e

views_after : (h : Home) (setting : RequesterSetting) (s : AgentState) (second : ℕ) (m : Message) → h.role ≡ requests setting → may_take s (record { second = second; input = Input.Got m }) ≡ true
    → is_old m (retry_of s.base) ≡ false → (after h s (record { second = second; input = Input.Got m })).state.views ≡ map (view_hears m) s.views
unfolding after_as requester_after
views_after h setting s second m role may new =
    ap (λ (r : Role). (after_as r s (record { second = second; input = Input.Got m })).state.views) role
    ∙ after_views (may_take s (record { second = second; input = Input.Got m })) second m setting s may (is_old m (retry_of s.base)) refl new

one_more : (h : Home) (es : List Entry) (e : Entry) → (told h (es ++ e ∷ [])).state ≡ (after h (told h es).state e).state
unfolding goes_on
one_more h es e = ap (λ (x : Told). x.state) (telling_is_in_parts h blank_agent es (e ∷ []))

both : (a b : Bool) → a ≡ true → b ≡ true → (a && b) ≡ true
both a b p q = cc

---- The world

pub confirmed_is_committed : ConfirmedIsCommitted
confirmed_is_committed homes w a second id place version m setting x is role body first there waits =
    let s : AgentState = state_in homes w a in
    let room : length (w.journal a) < most_entries = is.1.0 in
    let entered : IsEntered homes w a (record { second = second; input = Input.Got m }) None = is.1.1 in
    let few : s.base.taken < most_entries = omega (arith, room, taken_among (homes a) blank_agent (w.journal a)) in
    let may : may_take s (record { second = second; input = Input.Got m }) ≡ true =
    both _ _ (lt-ltb s.base.taken most_entries few) (timely (Input.Got m) second s.base.now entered.in_time)
    in
    let journal : (happens w (gets a second m)).journal a ≡ w.journal a ++ record { second = second; input = Input.Got m } ∷ [] = rw (eq-eqb a a refl) refl in
    let views : (state_in homes (happens w (gets a second m)) a).views ≡ map (view_hears m) s.views =
    ap (λ (es : List Entry). (told (homes a) es).state.views) journal
    ∙ (ap (λ (z : AgentState). z.views) (one_more (homes a) (w.journal a) (record { second = second; input = Input.Got m }))
    ∙ views_after (homes a) setting s second m role may (is_first (homes a) setting (w.journal a) m role first))
    in (
      view_hears m x,
      ap (λ (vs : List View). slice_get vs place) views ∙ (slice_get-map (view_hears m) s.views place ∙ ap (option_map (view_hears m)) there),
      refl,
      hear_commit m id version x.child body waits,
    )
