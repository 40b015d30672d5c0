-- Whatever an aggregator or a child of it takes, the criteria of the aggregator's records stand so against those of the child's.
use Rattle.std.proofs.Common.{ℕ, ◌≡◌, ◌∙◌, ◌<◌, ◌⊎◌, inl, inr, Bool, true, false, List, [], ◌∷◌, ◌++◌, length, map, take, drop, get_or, slice_get, Contains, Option, Some, None, unwrap_or, option_map, bytes_eq, refl, sym, ap, subst, arith}
use Rattle.std.specs.List.{All}
use Rattle.std.proofs.lemmas.List.{length-map, get_or-map, take-append-drop}
use Rattle.std.proofs.lemmas.Slice.Eq.{bytes_eq-Decides}
use Rattle.std.proofs.lemmas.List.Elements.{All-contains, Contains-append_left, Contains-append_right}
use Rattle.std.proofs.lemmas.Option.{get_or_from_slice_get, slice_get-get_or, slice_get_within}
use Rattle.nsi_base.specs.Range.{Span, span_of}
use Rattle.nsi_primitive.specs.Messages.{is_request, start_at}
use Rattle.nsi_primitive.specs.declared.entry.Input.{Input}
use Rattle.nsi_primitive.specs.declared.kind.Kind.{Kind}
use Rattle.nsi_primitive.specs.declared.message.Body.{Body}
use Rattle.nsi_primitive.specs.declared.message.Criteria.{Criteria}
use Rattle.nsi_primitive.specs.declared.message.Message.{Message}
use Rattle.nsi_primitive.specs.declared.message.ReserveRequest.{ReserveRequest}
use Rattle.nsi_primitive.specs.declared.state.Rsm.{Rsm}
use Rattle.connection_record.specs.declared.record.Record.{Record}
use Rattle.connection_record.specs.Later.{IsLater}
use Rattle.connection_record.specs.Speaking.{is_answering}
use Rattle.child_connection.specs.Hearing.{Heard, hears, hear, hear_from}
use Rattle.child_connection.specs.Views.{ChildConnection, sent}
use Rattle.agent_state.specs.State.{AgentState, no_record, record_at, children_at}
use Rattle.aggregator_agent.specs.declared.agent.Agent.{Agent}
use Rattle.aggregator_agent.specs.Asking.{Turn}
use Rattle.aggregator_agent.specs.Turns.{takes, request_turn, late_terminate, answer_turn}
use Rattle.connection_record.specs.Applied.{is_terminating}
use Rattle.circuit_fit.specs.Fits.{pending_of, IsFitting, AllFit}
use Rattle.circuit_link.specs.Children.{Child, MayReach, IsFair}
use Rattle.circuit_link.specs.Headers.{header_of}
use Rattle.circuit_link.specs.Mates.{IsMate}
use Rattle.circuit_link.specs.Serving.{Serves}
use Rattle.circuit_link.specs.Sides.{version_of}
use Rattle.circuit_link.proofs.Hearing.{rows_unheard}
use Rattle.circuit_pairs.specs.Minding.{slot}
use Rattle.circuit_pairs.specs.Pairs.{IsPair, AreBacked, IsBacked, IsOnce}
use Rattle.circuit_pairs.proofs.Minding.{connected, notice_alike}
use Rattle.run_growth.specs.Growth.{Stay}
use Rattle.circuit_laws.proofs.Criteria.{AsksWhenTaken, spans_same}
use Rattle.circuit_laws.proofs.Agreed.{IsRowOf, HasIt, Commits, IsAgreed, agreed_then, agreed_rests, row_place, known_row}
use Rattle.circuit_laws.proofs.Agreeing.{heard_agreed, asked_agreed}
use Rattle.circuit_laws.proofs.Joining.{IsAskedAt, AllAskedAt, Joins, served_joins}
use Rattle.circuit_laws.proofs.Learnt.{IsReserved}
use Rattle.circuit_laws.proofs.Meant.{Means, IsMeant}
use Rattle.circuit_laws.proofs.Settled.{IsDone, request_settled, answer_settled}
use Rattle.circuit_laws.proofs.Tried.{is_busy, AllTried}
use Rattle.circuit_laws.proofs.Trying.{slot_at, turned_child}
use Rattle.circuit_laws.proofs.Turned.{AreTurned}
use Rattle.circuit_laws.proofs.Viewed.{view_there, ViewTurned, view_was}

-- so of each view of the child
abbrev pub AllAgreed : List ℕ → List ℕ → AgentState → List Record → Type 0
AllAgreed parent child s rs =
    (n p : ℕ) (x : ChildConnection) → slice_get (children_at n s.children) p ≡ Some x → x.child ≡ child → IsAgreed parent (record_at n s.base.records) x rs

contains_version : (ks : List Criteria) (k : Criteria) → Contains ks k → Contains (map version_of ks) k.version
contains_version ks k (i, l, e) = (i, omega (arith, l, length-map ks version_of), get_or-map version_of ks i k k.version l ∙ ap version_of e)

---- The aggregator

module _ (agent : Agent) (input : Input) (parent child : List ℕ) (asked : List Message) (d : Child) (fair : IsFair parent child d) (s s' : AgentState) (out : List Message)
    (turned : AreTurned agent input s.base.records s.children s'.base.records s'.children out) (fit : AllFit parent asked s) (fit' : AllFit parent (asked ++ out) s')
    (reach : (m : Message) → input ≡ Input.Got m → is_answering m.body ≡ true → m.header.provider ≡ child → MayReach (header_of parent child m.header.correlation) d.said m.body)
    (pair : IsPair (ℕ × ℕ) parent child (slot child s.children) asked d) (pair' : IsPair (ℕ × ℕ) parent child (slot child s'.children) (asked ++ out) d) (agreed : AllAgreed parent child s d.records) where
  -- a connection that is known stays so
  heard_keeps : (m : Message) → input ≡ Input.Got m → (x : ChildConnection) (place : Option ℕ) → IsMate parent child x place d → x.child ≡ child → (id : ℕ) → x.connection ≡ Some id → (hear m x).view.connection ≡ Some id
  heard_keeps m got x place mate of id e = by_sender (bytes_eq m.header.provider x.child) refl
    where
      c : ℕ
      c = m.header.correlation

      by_reach : MayReach (header_of parent child c) d.said m.body → (hears m.body c x).view.connection ≡ Some id
      by_reach (inl said) = connected parent child d fair m.body c x place said mate id e
      by_reach (inr rows) = ap (λ (z : Heard). z.view.connection) (rows_unheard m.body c x rows) ∙ e

      by_kind : (t : Bool) → is_answering m.body ≡ t → m.header.provider ≡ child → (hears m.body c x).view.connection ≡ Some id
      by_kind true f p = by_reach (reach m got f p)
      by_kind false f p = (notice_alike m.body c x f).connection ∙ e

      by_sender : (t : Bool) → bytes_eq m.header.provider x.child ≡ t → (hear_from t m x).view.connection ≡ Some id
      by_sender true f = by_kind (is_answering m.body) refl ((bytes_eq-Decides m.header.provider x.child).0 f ∙ of)
      by_sender false f = e

  -- a view that doesn't know its connection has nothing committed
  unknown_agreed : (n p : ℕ) (y : ChildConnection) → slice_get (children_at n s'.children) p ≡ Some y → y.child ≡ child → y.connection ≡ None → IsAgreed parent (record_at n s'.base.records) y d.records
  unknown_agreed n p y e of unknown =
      record {
        has = λ k i. absurd (nothing k.version (All-contains (λ (x : ChildConnection). Contains x.committed k.version) ys y ((fit' n).committed k.version (contains_version own.committed k i)).each there));
        joined = λ k works m row longer. absurd (let z : None ≡ Some (record_at m d.records).id = sym unknown ∙ row.known in cc);
        done = λ k works h. absurd (unfit k works h);
      }
    where
      own : Record
      own = record_at n s'.base.records

      ys : List ChildConnection
      ys = children_at n s'.children

      there : Contains ys y
      there = view_there ys p y e

      nothing : (v : ℕ) → Contains y.committed v → ⊥
      nothing v (i, l, f) =
          let same : slot child s'.children (n, p) ≡ y = slot_at child s'.children n p y e of in
          let all : AreBacked parent child y (asked ++ out) d = subst (λ (z : ChildConnection). AreBacked parent child z (asked ++ out) d) same (pair'.backed (n, p)) in
          let one : IsBacked parent child y (get_or all.own i 0) (asked ++ out) d = all.each i (omega (arith, l, all.long)) in
          let z : None ≡ Some one.connection = sym unknown ∙ one.known in
          cc

      whole : own.rsm ≡ Rsm.ReserveCommitting → own.mixed ≡ false
      whole state = by own.mixed refl
        where
          by : (b : Bool) → own.mixed ≡ b → own.mixed ≡ false
          by false f = f
          by true f = absurd (let z : Rsm.ReserveCommitting ≡ Rsm.ReserveStart = sym state ∙ (fit' n).mixed f in cc)

      unfit : (k : Criteria) → Commits own k → IsDone y → ⊥
      unfit k works h =
          let f : IsFitting parent (asked ++ out) own.rsm (pending_of own) y = All-contains (IsFitting parent (asked ++ out) own.rsm (pending_of own)) ys y ((fit' n).fits works.live (whole works.state)) there in
          let g : IsFitting parent (asked ++ out) Rsm.ReserveCommitting (Some k.version) y =
          subst (λ (o : Option ℕ). IsFitting parent (asked ++ out) Rsm.ReserveCommitting o y) (ap (λ (o : Option Criteria). option_map version_of o) works.pending)
          (subst (λ (z : Rsm). IsFitting parent (asked ++ out) z (pending_of own) y) works.state f)
          in
          nothing k.version (g.rests h.0 h.1).1

  -- one view
  module _ (n p : ℕ) (x y : ChildConnection) (here : slice_get (children_at n s.children) p ≡ Some x) (there : slice_get (children_at n s'.children) p ≡ Some y) (of : x.child ≡ child) (its : y.child ≡ child) where
    mate : IsMate parent child x (pair.place (n, p)) d
    mate = subst (λ (z : ChildConnection). IsMate parent child z (pair.place (n, p)) d) (slot_at child s.children n p x here of) (pair.mates (n, p))

    mate' : IsMate parent child y (pair'.place (n, p)) d
    mate' = subst (λ (z : ChildConnection). IsMate parent child z (pair'.place (n, p)) d) (slot_at child s'.children n p y there its) (pair'.mates (n, p))

    knows : (c : ℕ) → x.reserve_request ≡ Some (sent c Kind.ReserveCommit) → (id : ℕ) × (x.connection ≡ Some id)
    knows c e =
        let same : slot child s.children (n, p) ≡ x = slot_at child s.children n p x here of in
        let w = pair.commits (n, p) c (ap (λ (z : ChildConnection). z.reserve_request) same ∙ e) in
        (w.0, sym (ap (λ (z : ChildConnection). z.connection) same) ∙ w.1)

    one_agreed : ViewTurned agent input (record_at n s.base.records) (record_at n s'.base.records) (turned.more n) x y → IsAgreed parent (record_at n s'.base.records) y d.records
    one_agreed (ViewTurned.by_rest a same) =
        subst (λ (z : ChildConnection). IsAgreed parent (record_at n s'.base.records) z d.records) (sym same)
        (agreed_rests parent (record_at n s.base.records) (record_at n s'.base.records) x d.records a (agreed n p x here of))
    one_agreed (ViewTurned.by_answer m now next c xs got is inn same) =
        let own : Record = record_at n s.base.records in
        let t : Turn = answer_turn agent now m own xs next in
        subst (λ (r : Record). IsAgreed parent r y d.records) (sym is)
        (agreed_then parent own t.own t.children y d.records (answer_settled agent now m own xs next) inn
        (heard_agreed parent child asked d fair own (children_at n s.children) (fit n) x (view_there (children_at n s.children) p x here) (pair.place (n, p)) mate knows (agreed n p x here of) m c
        (late_terminate (is_terminating own.lsm) m x) y same (pair'.place (n, p)) mate' (heard_keeps m got x (pair.place (n, p)) mate of)))
    one_agreed (ViewTurned.by_request m now next c zs got fine is inn same said) =
        let own : Record = record_at n s.base.records in
        let t : Turn = request_turn agent now m own zs next in
        subst (λ (r : Record). IsAgreed parent r y d.records) (sym is)
        (agreed_then parent (takes m now own).rec t.own t.children y d.records (request_settled agent now m own zs next) inn
        (asked_agreed parent child asked d fair own (children_at n s.children) (fit n) x (view_there (children_at n s.children) p x here) (pair.place (n, p)) mate knows (agreed n p x here of) m now c fine y same))

  pub turned_agreed : AllAgreed parent child s' d.records
  turned_agreed n p y there its = by (view_was agent input own own' (children_at n s.children) (children_at n s'.children) (turned.more n) (turned.each n) p y there)
    where
      own : Record
      own = record_at n s.base.records

      own' : Record
      own' = record_at n s'.base.records

      by : ((x : ChildConnection) × (slice_get (children_at n s.children) p ≡ Some x) × ViewTurned agent input own own' (turned.more n) x y) ⊎ (y.connection ≡ None) → IsAgreed parent own' y d.records
      by (inl (x, here, t)) = one_agreed n p x y here there (sym (turned_child agent input own own' (turned.more n) x y t) ∙ its) its t
      by (inr unknown) = unknown_agreed n p y there its unknown

---- The child

-- a reserve asks for one criteria
made : (v w : ℕ) (i j : Span) (c d : ℕ) → v ≡ w → i ≡ j → c ≡ d → (let k : Criteria = record { version = v; interval = i; capacity = c } in k) ≡ record { version = w; interval = j; capacity = d }
made v w i j c d e f g = rw (e, f, g) refl

one_meant : (q : ReserveRequest) (h k : Criteria) → AsksWhenTaken q h → Means k q → h ≡ k
one_meant q h k asks means =
    made h.version k.version h.interval k.interval h.capacity k.capacity (sym (asks.version k.version means.version))
    (spans_same k.interval h.interval (sym (ap (λ (z : Option ℕ). span_of (unwrap_or z asks.now) k.interval.end) means.start) ∙ (sym (ap (λ (z : ℕ). span_of (start_at asks.now q) z) means.end) ∙ asks.interval)))
    (sym asks.capacity ∙ means.capacity)

later_contains : (r q : Record) (k : Criteria) → IsLater r q → Contains r.committed k → Contains q.committed k
later_contains r q k later i =
    subst (λ (ks : List Criteria). Contains ks k) (take-append-drop (length r.committed) q.committed)
    (Contains-append_left (take (length r.committed) q.committed) (drop (length r.committed) q.committed) k (subst (λ (ks : List Criteria). Contains ks k) (sym later.committed) i))

same_reserve : (p q : ReserveRequest) → Body.Reserve p ≡ Body.Reserve q → p ≡ q
same_reserve p q e = cc

reserve_is_request : (m : Message) (q : ReserveRequest) → m.body ≡ Body.Reserve q → is_request m.body ≡ true
reserve_is_request m q e = ap is_request e

module _ (parent child : List ℕ) (s : AgentState) (asked : List Message) (d : Child) (pair : IsPair (ℕ × ℕ) parent child (slot child s.children) asked d) (fair : IsFair parent child d)
    (tried : AllTried (ℕ × ℕ) parent (slot child s.children) d.records) (pends : AllAskedAt parent asked d.records) (once : IsOnce parent asked)
    (meant : (n : ℕ) → All (IsMeant asked (record_at n s.base.records)) (children_at n s.children)) (agreed : AllAgreed parent child s d.records)
    (input : Input) (d' : Child) (out : List Message) (fair' : IsFair parent child d') (were : (m : Message) → input ≡ Input.Got m → is_request m.body ≡ true → m.header.requester ≡ parent → Contains asked m)
    (grows : Stay IsLater d.records d'.records) (serves : Serves child input d d'.records d'.seen out) where
  later_at : (n : ℕ) → n < length d.records → (n < length d'.records) × IsLater (record_at n d.records) (record_at n d'.records)
  later_at n l =
      let (q, there, later) = grows n (record_at n d.records) (slice_get-get_or d.records n no_record l) in
      (slice_get_within d'.records n q there, subst (IsLater (record_at n d.records)) (sym (get_or_from_slice_get d'.records n q no_record there)) later)

  row_later : (x : ChildConnection) (n : ℕ) → IsRowOf parent x d.records n → IsRowOf parent x d'.records n
  row_later x n row =
      let (within, later) = later_at n row.within in
      record { within = within; owned = later.owner ∙ row.owned; known = row.known ∙ ap (λ (z : ℕ). Some z) (sym later.id) }

  has_later : (x : ChildConnection) (k : Criteria) → HasIt parent x d.records k → HasIt parent x d'.records k
  has_later x k h =
      record { place = h.place; row = row_later x h.place h.row; has = later_contains (record_at h.place d.records) (record_at h.place d'.records) k (later_at h.place h.row.within).1 h.has }

  same_some : (n k : ℕ) → Some n ≡ Some k → n ≡ k
  same_some n k e = cc

  module _ (n p : ℕ) (x : ChildConnection) (here : slice_get (children_at n s.children) p ≡ Some x) (of : x.child ≡ child) where
    is_there : slot child s.children (n, p) ≡ x
    is_there = slot_at child s.children n p x here of

    its_mate : IsMate parent child x (pair.place (n, p)) d
    its_mate = subst (λ (z : ChildConnection). IsMate parent child z (pair.place (n, p)) d) is_there (pair.mates (n, p))

    row_earlier : (i : ℕ) → IsRowOf parent x d'.records i → IsRowOf parent x d.records i
    row_earlier i row =
        let (k, old) = known_row parent child d fair x (pair.place (n, p)) its_mate (record_at i d'.records).id row.known in
        let new : IsRowOf parent x d'.records k = row_later x k old in
        let same : k ≡ i = fair'.ids k i new.within row.within (same_some (record_at k d'.records).id (record_at i d'.records).id (sym new.known ∙ row.known)) in
        subst (IsRowOf parent x d.records) same old

    child_joined : (k : Criteria) → Commits (record_at n s.base.records) k → (i : ℕ) → IsRowOf parent x d'.records i → length x.committed < length (record_at i d'.records).committed → Contains (record_at i d'.records).committed k
    child_joined k works i row longer = by (served_joins (ℕ × ℕ) parent child (slot child s.children) asked d pair fair tried pends input d'.records d'.seen out were serves i old.within old.owned)
      where
        own : Record
        own = record_at n s.base.records

        r : Record
        r = record_at i d.records

        q : Record
        q = record_at i d'.records

        old : IsRowOf parent x d.records i
        old = row_earlier i row

        joins_same : (h : Criteria) → Joins (ℕ × ℕ) parent child (slot child s.children) asked d pair fair tried pends i h → h ≡ k
        joins_same h j =
            let place : pair.place (n, p) ≡ Some i = row_place parent child d fair x (pair.place (n, p)) its_mate i old in
            let one : j.view ≡ (n, p) = pair.apart j.view (n, p) i j.placed place in
            let a : IsAskedAt asked x.attempt h = subst (λ (z : ChildConnection). IsAskedAt asked z.attempt h) is_there (subst (λ (v : ℕ × ℕ). IsAskedAt asked (slot child s.children v).attempt h) one j.came) in
            let m : IsMeant asked own x = All-contains (IsMeant asked own) (children_at n s.children) x (meant n) (view_there (children_at n s.children) p x here) in
            let w : IsReserved asked x.child a.message.header.correlation (Means k) = m.meant k a.message.header.correlation (ap is_busy works.state) works.pending a.its in
            let same : a.message ≡ w.message =
            once.once a.message w.message a.there w.there (reserve_is_request a.message a.reserve a.body) (reserve_is_request w.message w.reserve w.body) (sym w.under)
            in
            let reserves : a.reserve ≡ w.reserve = same_reserve a.reserve w.reserve (sym a.body ∙ (ap (λ (z : Message). z.body) same ∙ w.body)) in
            one_meant w.reserve h k (subst (λ (z : ReserveRequest). AsksWhenTaken z h) reserves a.asks) w.is

        by : (q.committed ≡ r.committed) ⊎ ((h : Criteria) × (q.committed ≡ r.committed ++ h ∷ []) × Joins (ℕ × ℕ) parent child (slot child s.children) asked d pair fair tried pends i h) → Contains q.committed k
        by (inl e) =
            subst (λ (ks : List Criteria). Contains ks k) (sym e) ((agreed n p x here of).joined k works i old (omega (arith, longer, ap length e)))
        by (inr (h, e, j)) =
            subst (λ (ks : List Criteria). Contains ks k) (sym e)
            (Contains-append_right r.committed (h ∷ []) k (subst (λ (z : Criteria). Contains (h ∷ []) z) (joins_same h j) (0, omega arith, refl)))

  pub served_agreed : AllAgreed parent child s d'.records
  served_agreed n p x here of =
      let g : IsAgreed parent (record_at n s.base.records) x d.records = agreed n p x here of in
      record { has = λ k i. has_later x k (g.has k i); joined = child_joined n p x here of; done = λ k works h. has_later x k (g.done k works h) }
