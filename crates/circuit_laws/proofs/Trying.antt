-- What a record checks, holds or commits is the attempt of a view: whatever the aggregator does keeps it so.
use Rattle.std.proofs.Common.{ℕ, zero, suc, ◌≡◌, ◌∙◌, ◌⊎◌, ◌&&◌, inl, inr, Bool, true, false, not, List, [], ◌∷◌, get_or, slice_get, Contains, Option, Some, None, bytes_eq, true≢false, refl, sym, ap, subst, arith}
use Rattle.std.proofs.lemmas.List.Elements.{All-contains}
use Rattle.std.proofs.lemmas.Option.{get_or_from_slice_get}
use Rattle.std.proofs.lemmas.Slice.Eq.{bytes_eq-Decides}
use Rattle.nsi_primitive.specs.Messages.{kind_of, error_of}
use Rattle.nsi_primitive.specs.declared.entry.Input.{Input}
use Rattle.nsi_primitive.specs.declared.kind.ErrorName.{ErrorName}
use Rattle.nsi_primitive.specs.declared.kind.Kind.{Kind}
use Rattle.nsi_primitive.specs.declared.message.Body.{Body}
use Rattle.nsi_primitive.specs.declared.message.Message.{Message}
use Rattle.nsi_primitive.specs.declared.message.ReserveRequest.{ReserveRequest}
use Rattle.nsi_primitive.specs.declared.state.Rsm.{Rsm}
use Rattle.connection_record.specs.declared.record.Record.{Record}
use Rattle.connection_record.specs.Applied.{is_terminating}
use Rattle.connection_record.specs.Moves.{is_live}
use Rattle.connection_record.specs.Refusal.{is_in_place, record_refusal}
use Rattle.connection_record.specs.Speaking.{is_answering}
use Rattle.connection_record.proofs.Unrefused.{unrefused_fits, reserve_row}
use Rattle.child_connection.specs.declared.state.Phase.{Phase}
use Rattle.child_connection.specs.Asks.{asks}
use Rattle.child_connection.specs.Hearing.{Heard, refused, hears, hear, hear_from}
use Rattle.child_connection.specs.Views.{ChildConnection, open_request, is_open}
use Rattle.child_connection.proofs.Places.{hear_place}
use Rattle.agent_state.specs.State.{AgentState, record_at, children_at}
use Rattle.aggregator_agent.specs.declared.agent.Agent.{Agent}
use Rattle.aggregator_agent.specs.Asking.{asked_view, reserve_if, request_if, may_abort, passed_on}
use Rattle.aggregator_agent.specs.Settling.{is_held}
use Rattle.aggregator_agent.specs.Turns.{takes, late_terminate}
use Rattle.circuit_link.specs.Children.{Child, about, record_of, side_of, MayReach, IsFair}
use Rattle.circuit_link.specs.Headers.{header_of}
use Rattle.circuit_link.specs.Links.{Link, Stands}
use Rattle.circuit_link.specs.Mates.{IsMate}
use Rattle.circuit_link.proofs.Hearing.{rows_unheard}
use Rattle.circuit_link.proofs.Minding.{told_mate}
use Rattle.circuit_link.proofs.Reading.{link_stands}
use Rattle.circuit_pairs.specs.Minding.{no_child, mine, slot}
use Rattle.circuit_pairs.specs.Pairs.{IsPair}
use Rattle.circuit_pairs.proofs.Minding.{connected, notice_alike}
use Rattle.circuit_pairs.proofs.Overseeing.{no_mine}
use Rattle.circuit_pairs.proofs.Parenting.{mine_own, mine_other, passed_may}
use Rattle.circuit_fit.specs.Fits.{pending_of, IsFitting, Fits, AllFit}
use Rattle.circuit_laws.proofs.Learnt.{asked_place, asked_connection}
use Rattle.circuit_laws.proofs.Tried.{is_busy, IsTriedBy, AllTried, its_place}
use Rattle.circuit_laws.proofs.Turned.{AreTurned}
use Rattle.circuit_laws.proofs.Viewed.{view_there, ViewTurned, view_turned}

---- A view

-- the attempt stays, or nothing is asked or held any more
abbrev pub KeepsOrRests : ChildConnection → ChildConnection → Type 0
KeepsOrRests x y = (y.attempt ≡ x.attempt) ⊎ ((y.reserve_request ≡ None) × (is_held y.phase ≡ false))

refused_attempt : (a p l : Bool) (name : ErrorName) (x : ChildConnection) → KeepsOrRests x (refused a p l name x).view
unfolding is_held
refused_attempt true p l name x = by x.before refl
  where
    by : (b : Phase) → x.before ≡ b → KeepsOrRests x (refused true p l name x).view
    by Phase.Held e = inl (grind (arith, e))
    by Phase.Idle e = inr (refl, ap is_held e)
    by Phase.Reserving e = inr (refl, ap is_held e)
    by Phase.Committing e = inr (refl, ap is_held e)
    by Phase.Aborting e = inr (refl, ap is_held e)
    by Phase.Failed e = inr (refl, ap is_held e)
    by Phase.TimedOut e = inr (refl, ap is_held e)
refused_attempt false true l name x = inl refl
refused_attempt false false true name x = inl refl
refused_attempt false false false name x = inl refl

pub hears_attempt : (b : Body) (c : ℕ) (x : ChildConnection) → KeepsOrRests x (hears b c x).view
unfolding hears is_held
hears_attempt (Body.ReserveResponse id) c x = grind arith
hears_attempt (Body.ReserveConfirmed f) c x = grind arith
hears_attempt (Body.ReserveFailed id ex) c x = grind arith
hears_attempt (Body.ReserveTimeout t) c x = grind arith
hears_attempt (Body.ReserveCommitConfirmed id) c x = grind arith
hears_attempt (Body.ReserveCommitFailed id ex) c x = grind arith
hears_attempt (Body.ReserveAbortConfirmed id) c x = grind arith
hears_attempt (Body.Error id ex) c x = refused_attempt (is_open x.reserve_request c) (is_open x.provision_request c) (is_open x.lifecycle_request c) (error_of ex.cause) x
hears_attempt (Body.ProvisionConfirmed id) c x = grind arith
hears_attempt (Body.ReleaseConfirmed id) c x = grind arith
hears_attempt (Body.TerminateConfirmed id) c x = grind arith
hears_attempt (Body.ErrorEvent f) c x = grind arith
hears_attempt (Body.DataPlaneStateChange n) c x = grind arith
hears_attempt _ c x = inl refl

-- only a reserve is an attempt
other_attempt : (k : Kind) (c : ℕ) (x : ChildConnection) → (k ≡ Kind.Reserve → ⊥) → (asks k c x).attempt ≡ x.attempt
unfolding asks
other_attempt Kind.Reserve c x never = absurd (never refl)
other_attempt Kind.ReserveCommit c x never = refl
other_attempt Kind.ReserveAbort c x never = refl
other_attempt Kind.Provision c x never = refl
other_attempt Kind.Release c x never = refl
other_attempt Kind.Terminate c x never = refl
other_attempt _ c x never = refl

pub view_attempt : (o : Option Body) (k : Kind) (c : ℕ) (x : ChildConnection) → (k ≡ Kind.Reserve → ⊥) → (asked_view o k c x).attempt ≡ x.attempt
unfolding asked_view
view_attempt None k c x never = refl
view_attempt (Some b) k c x never = other_attempt k c x never

-- a child's record doesn't work on what a view at rest doesn't hold
stands_idle : (p : Phase) (k : Rsm) → Stands p k → is_held p ≡ false → is_busy k ≡ false
unfolding is_held
stands_idle p k s h = grind (arith, s, h)

---- A place

pub slot_at : (child : List ℕ) (css : List (List ChildConnection)) (n i : ℕ) (x : ChildConnection) → slice_get (children_at n css) i ≡ Some x → x.child ≡ child → slot child css (n, i) ≡ x
slot_at child css n i x e of = ap (mine child) (get_or_from_slice_get (children_at n css) i x (no_child child) e) ∙ mine_own child x ((bytes_eq-Decides child x.child).1 (sym of))

beyond : (ys : List ChildConnection) (k : ℕ) (d : ChildConnection) → slice_get ys k ≡ None → get_or ys k d ≡ d
beyond [] k d e = refl
beyond (y ∷ ys) zero d e = absurd (cc)
beyond (y ∷ ys) (suc k) d e = beyond ys k d e

-- a view that isn't one that was asked nothing is there
pub slot_in : (child : List ℕ) (css : List (List ChildConnection)) (n i : ℕ) (P : ChildConnection → Type 0) → (P (no_child child) → ⊥) → P (slot child css (n, i)) →
    (slice_get (children_at n css) i ≡ Some (slot child css (n, i))) × ((slot child css (n, i)).child ≡ child)
slot_in child css n i P none p = by (slice_get (children_at n css) i) refl
  where
    xs : List ChildConnection
    xs = children_at n css

    by : (o : Option ChildConnection) → slice_get xs i ≡ o → (slice_get xs i ≡ Some (slot child css (n, i))) × ((slot child css (n, i)).child ≡ child)
    by None e = absurd (none (subst P (ap (mine child) (beyond xs i (no_child child) e) ∙ no_mine child) p))
    by (Some x) e = by_child (bytes_eq child x.child) refl
      where
        here : get_or xs i (no_child child) ≡ x
        here = get_or_from_slice_get xs i x (no_child child) e

        by_child : (t : Bool) → bytes_eq child x.child ≡ t → (slice_get xs i ≡ Some (slot child css (n, i))) × ((slot child css (n, i)).child ≡ child)
        by_child true t =
            let same : slot child css (n, i) ≡ x = ap (mine child) here ∙ mine_own child x t in
            (e ∙ ap (λ (z : ChildConnection). Some z) (sym same), ap (λ (z : ChildConnection). z.child) same ∙ sym ((bytes_eq-Decides child x.child).0 t))
        by_child false t = absurd (none (subst P (ap (mine child) here ∙ mine_other child x t) p))

---- The own record

second_true : (a b : Bool) → (a && b) ≡ true → b ≡ true
second_true true b h = h
second_true false b h = absurd (cc)

not_true : (b : Bool) → not b ≡ true → b ≡ false
not_true true h = absurd (cc)
not_true false h = refl

-- a mixed record takes no reserve
pub unmixed : (q : ReserveRequest) (own : Record) → is_in_place (Body.Reserve q) own ≡ true → own.mixed ≡ false
unfolding is_in_place
unmixed q own h = not_true own.mixed (second_true _ (not own.mixed) h)

---- An entry of the parent

-- what a child's record works on
module _ (parent child : List ℕ) (asked : List Message) (d : Child) (fair : IsFair parent child d) (x : ChildConnection) (n : ℕ) (mate : IsMate parent child x (Some n) d) where
  -- a view at rest that holds nothing has an idle record
  rests_idle : (y : ChildConnection) → Link y (side_of parent child (Some n) d) → y.reserve_request ≡ None → is_held y.phase ≡ false → is_busy (record_at n d.records).rsm ≡ false
  unfolding record_of
  rests_idle y link free idle = stands_idle y.phase (record_at n d.records).rsm (link_stands y (side_of parent child (Some n) d) link free) idle

  abbrev Carries : ChildConnection → Type 0
  Carries y = (y.attempt ≡ x.attempt) × ((id : ℕ) → x.connection ≡ Some id → y.connection ≡ Some id)

  module _ (busy : is_busy (record_at n d.records).rsm ≡ true) where
    heard_carries : (m : Message) → (is_answering m.body ≡ true → m.header.provider ≡ child → MayReach (header_of parent child m.header.correlation) d.said m.body) → x.child ≡ child → Carries (hear m x).view
    heard_carries m reach of = by_sender (bytes_eq m.header.provider x.child) refl
      where
        c : ℕ
        c = m.header.correlation

        y : ChildConnection
        y = (hears m.body c x).view

        told : Contains (about (header_of parent child c) d.said) m.body → Carries y
        told said = (by (hears_attempt m.body c x), λ id e. connected parent child d fair m.body c x (Some n) said mate id e)
          where
            by : KeepsOrRests x y → y.attempt ≡ x.attempt
            by (inl e) = e
            by (inr (free, idle)) = absurd (true≢false (sym busy ∙ rests_idle y (told_mate parent child d m.body c x (Some n) said mate).linked free idle))

        by_reach : MayReach (header_of parent child c) d.said m.body → Carries y
        by_reach (inl said) = told said
        by_reach (inr rows) =
            let same : y ≡ x = ap (λ (z : Heard). z.view) (rows_unheard m.body c x rows) in
            (ap (λ (z : ChildConnection). z.attempt) same, λ id e. ap (λ (z : ChildConnection). z.connection) same ∙ e)

        by_kind : (t : Bool) → is_answering m.body ≡ t → m.header.provider ≡ child → Carries y
        by_kind true e p = by_reach (reach e p)
        by_kind false e p = let a = notice_alike m.body c x e in (a.reservation.attempt, λ id k. a.connection ∙ k)

        by_sender : (t : Bool) → bytes_eq m.header.provider x.child ≡ t → Carries (hear_from t m x).view
        by_sender true e = by_kind (is_answering m.body) refl ((bytes_eq-Decides m.header.provider x.child).0 e ∙ of)
        by_sender false e = (refl, λ id k. k)

    reserve_carries : (c : ℕ) (o : Option Body) → ((b : Body) → o ≡ Some b → x.reserve_request ≡ None) → (x.reserve_request ≡ None → is_held x.phase ≡ false) → Carries (asked_view o Kind.Reserve c x)
    unfolding asked_view
    reserve_carries c None free idle = (refl, λ id k. k)
    reserve_carries c (Some b) free idle = absurd (true≢false (sym busy ∙ rests_idle x mate.linked (free b refl) (idle (free b refl))))

    beside_carries : (o : Option Body) (k : Kind) (c : ℕ) → (k ≡ Kind.Reserve → ⊥) → Carries (asked_view o k c x)
    beside_carries o k c never = (view_attempt o k c x never, λ id e. asked_connection o k c x ∙ e)

    -- a reserve is passed on where the own record begins, and so to views that hold nothing
    passed_carries : (now : ℕ) (b : Body) (own own1 : Record) (c : ℕ) → record_refusal now b own ≡ None → (is_live own.lsm ≡ true → own.mixed ≡ false → own.rsm ≡ Rsm.ReserveStart → x.reserve_request ≡ None → is_held x.phase ≡ false) →
        Carries (asked_view (passed_on b own1 x) (kind_of b) c x)
    unfolding passed_on asked_view open_request
    passed_carries now (Body.Reserve q) own own1 c fine idle =
        let f = unrefused_fits now (Body.Reserve q) own fine in
        reserve_carries c (reserve_if own1.pending own1.service x) (λ b e. (passed_may (Body.Reserve q) own1 x b e).free) (idle f.live (unmixed q own f.in_place) (reserve_row q own f.row))
    passed_carries now (Body.ReserveCommit id) own own1 c fine idle = beside_carries (request_if true Kind.ReserveCommit x) Kind.ReserveCommit c (λ e. cc)
    passed_carries now (Body.ReserveAbort id) own own1 c fine idle = beside_carries (request_if (may_abort x.phase) Kind.ReserveAbort x) Kind.ReserveAbort c (λ e. cc)
    passed_carries now (Body.Provision id) own own1 c fine idle = beside_carries (request_if true Kind.Provision x) Kind.Provision c (λ e. cc)
    passed_carries now (Body.Release id) own own1 c fine idle = beside_carries (request_if true Kind.Release x) Kind.Release c (λ e. cc)
    passed_carries now (Body.Terminate id) own own1 c fine idle = beside_carries (request_if true Kind.Terminate x) Kind.Terminate c (λ e. cc)
    passed_carries now _ own own1 c fine idle = (refl, λ id k. k)

pub turned_child : (agent : Agent) (input : Input) (own own' : Record) (more : List Message) (x y : ChildConnection) → ViewTurned agent input own own' more x y → y.child ≡ x.child
turned_child agent input own own' more x y (ViewTurned.by_rest a same) = ap (λ (z : ChildConnection). z.child) same
turned_child agent input own own' more x y (ViewTurned.by_answer m now next c xs got is inn same) =
    ap (λ (z : ChildConnection). z.child) same ∙ ((asked_place (late_terminate (is_terminating own.lsm) m x) Kind.Terminate c (hear m x).view).child ∙ (hear_place m x).child)
turned_child agent input own own' more x y (ViewTurned.by_request m now next c zs got fine is inn same said) =
    ap (λ (z : ChildConnection). z.child) same ∙ (asked_place (passed_on m.body (takes m now own).rec x) (kind_of m.body) c x).child

module _ (agent : Agent) (input : Input) (parent child : List ℕ) (asked : List Message) (d : Child) (fair : IsFair parent child d) (s s' : AgentState) (out : List Message)
    (turned : AreTurned agent input s.base.records s.children s'.base.records s'.children out) (fit : AllFit parent asked s)
    (reach : (m : Message) → input ≡ Input.Got m → is_answering m.body ≡ true → m.header.provider ≡ child → MayReach (header_of parent child m.header.correlation) d.said m.body)
    (pair : IsPair (ℕ × ℕ) parent child (slot child s.children) asked d) where
  -- where the own record begins no view holds anything
  begins_idle : (n : ℕ) (x : ChildConnection) → Contains (children_at n s.children) x → is_live (record_at n s.base.records).lsm ≡ true → (record_at n s.base.records).mixed ≡ false → (record_at n s.base.records).rsm ≡ Rsm.ReserveStart →
      x.reserve_request ≡ None → is_held x.phase ≡ false
  begins_idle n x there live unmixed start free =
      let own : Record = record_at n s.base.records in
      let f : Fits parent asked own (children_at n s.children) = fit n in
      let all : IsFitting parent asked own.rsm (pending_of own) x = All-contains (IsFitting parent asked own.rsm (pending_of own)) (children_at n s.children) x (f.fits live unmixed) there in
      (subst (λ (k : Rsm). IsFitting parent asked k (pending_of own) x) start all).rests free

  turned_carries : (i : ℕ × ℕ) (n : ℕ) (x y : ChildConnection) → Contains (children_at i.0 s.children) x → x.child ≡ child → IsMate parent child x (Some n) d → is_busy (record_at n d.records).rsm ≡ true →
      ViewTurned agent input (record_at i.0 s.base.records) (record_at i.0 s'.base.records) (turned.more i.0) x y → (y.attempt ≡ x.attempt) × ((id : ℕ) → x.connection ≡ Some id → y.connection ≡ Some id)
  turned_carries i n x y there of mate busy (ViewTurned.by_rest a same) = (ap (λ (z : ChildConnection). z.attempt) same, λ id e. ap (λ (z : ChildConnection). z.connection) same ∙ e)
  turned_carries i n x y there of mate busy (ViewTurned.by_answer m now next c xs got is inn same) =
      let own : Record = record_at i.0 s.base.records in
      let h : ChildConnection = (hear m x).view in
      let w = heard_carries parent child asked d fair x n mate busy m (λ e p. reach m got e p) of in (
        ap (λ (z : ChildConnection). z.attempt) same ∙ (view_attempt (late_terminate (is_terminating own.lsm) m x) Kind.Terminate c h (λ e. cc) ∙ w.0),
        λ id e. ap (λ (z : ChildConnection). z.connection) same ∙ (asked_connection (late_terminate (is_terminating own.lsm) m x) Kind.Terminate c h ∙ w.1 id e),
      )
  turned_carries i n x y there of mate busy (ViewTurned.by_request m now next c zs got fine is inn same said) =
      let own : Record = record_at i.0 s.base.records in
      let w = passed_carries parent child asked d fair x n mate busy now m.body own (takes m now own).rec c fine (begins_idle i.0 x there) in
      (ap (λ (z : ChildConnection). z.attempt) same ∙ w.0, λ id e. ap (λ (z : ChildConnection). z.connection) same ∙ w.1 id e)

  pub turned_tried : AllTried (ℕ × ℕ) parent (slot child s.children) d.records → AllTried (ℕ × ℕ) parent (slot child s'.children) d.records
  turned_tried tried n owned busy =
      let r : Record = record_at n d.records in
      let t : IsTriedBy (ℕ × ℕ) (slot child s.children) r = tried n owned busy in
      let i : ℕ × ℕ = t.view in
      let x : ChildConnection = slot child s.children t.view in
      let place : pair.place t.view ≡ Some n = its_place (ℕ × ℕ) parent child (slot child s.children) asked d pair fair n owned busy t in
      let (here, of) = slot_in child s.children i.0 i.1 (λ (z : ChildConnection). z.attempt ≡ Some t.attempt) (λ e. cc) t.views in
      let (y, there, vt) =
      view_turned agent input (record_at i.0 s.base.records) (record_at i.0 s'.base.records) (children_at i.0 s.children) (children_at i.0 s'.children) (turned.more i.0) (turned.each i.0) i.1 x here
      in
      let mate : IsMate parent child x (Some n) d = subst (λ (o : Option ℕ). IsMate parent child x o d) place (pair.mates t.view) in
      let w = turned_carries i n x y (view_there (children_at i.0 s.children) i.1 x here) of mate busy vt in
      let same : slot child s'.children i ≡ y =
      slot_at child s'.children i.0 i.1 y there (turned_child agent input (record_at i.0 s.base.records) (record_at i.0 s'.base.records) (turned.more i.0) x y vt ∙ of)
      in
      record {
        view = i;
        attempt = t.attempt;
        its = t.its;
        views = ap (λ (z : ChildConnection). z.attempt) same ∙ (w.0 ∙ t.views);
        known = λ e. ap (λ (z : ChildConnection). z.connection) same ∙ w.1 r.id (t.known e);
      }
