-- Each record of an agent that is asked is between the points of the names in its service.
use Rattle.std.proofs.Common.{ℕ, suc, ◌≡◌, ◌<◌, ◌+◌, ◌∙◌, ◌⊎◌, inl, inr, Bool, true, false, List, [], ◌∷◌, ◌++◌, length, slice_set, Option, Some, None, option_and_then, refl, sym, ap, subst, arith, length-append, get_or-set_same}
use Rattle.std.proofs.lemmas.Bool.{cases_eq}
use Rattle.std.proofs.lemmas.List.{length-set}
use Rattle.std.proofs.lemmas.Option.{get_or_from_slice_get, slice_get-get_or, slice_get_within}
use Rattle.nsi_primitive.specs.Ids.{id_of}
use Rattle.nsi_primitive.specs.Messages.{is_request, is_query, connection_of}
use Rattle.nsi_primitive.specs.declared.entry.Entry.{Entry}
use Rattle.nsi_primitive.specs.declared.entry.Input.{Input}
use Rattle.nsi_primitive.specs.declared.kind.ErrorName.{ErrorName}
use Rattle.nsi_primitive.specs.declared.message.Body.{Body}
use Rattle.nsi_primitive.specs.declared.message.Header.{Header}
use Rattle.nsi_primitive.specs.declared.message.Message.{Message}
use Rattle.nsi_primitive.specs.declared.message.ReserveRequest.{ReserveRequest}
use Rattle.connection_record.specs.declared.record.Record.{Record}
use Rattle.connection_record.specs.Later.{IsLater}
use Rattle.connection_record.specs.Moves.{fresh, service_of}
use Rattle.connection_record.specs.Order.{HasPoints}
use Rattle.connection_record.specs.Refusal.{refusal, points_of, both}
use Rattle.connection_record.proofs.InOrder.{later_points, fresh_points}
use Rattle.agent_state.specs.State.{AgentState, no_record, record_at, name_or}
use Rattle.provider_agent.specs.Points.{HavePoints}
use Rattle.provider_agent.proofs.PointsAfter.{points_after, points_blank}
use Rattle.aggregator_agent.specs.Setting.{Setting as AggregatorSetting}
use Rattle.aggregator_agent.specs.Steps.{sees, is_seen, children_for, request_at, with_new, opens_between, opens, accepts, answers, serves, receives, step, after_if, after as aggregator_after, may_take}
use Rattle.run_growth.specs.Growth.{Stay}
use Rattle.run_growth.proofs.Roles.{entries_grow}
use Rattle.run_growth.proofs.Turned.{request_later}
use Rattle.nsi_agent.specs.Homes.{Role, provides, aggregates, requests, Home}
use Rattle.nsi_agent.specs.Steps.{after_as}
use Rattle.nsi_agent.specs.Told.{told}
use Rattle.nsi_agent.specs.Said.{name_in}
use Rattle.nsi_world.specs.Runs.{is_requester}
use Rattle.circuit_link.specs.Children.{Child}
use Rattle.circuit_link.specs.Serving.{child_of, Serves}
use Rattle.circuit_link.proofs.Opening.{last_here}
use Rattle.circuit_laws.proofs.Induct.{told_by}
use Rattle.circuit_laws.proofs.Roles.{serves_as}
use Rattle.end_to_end.proofs.Naming.{knows, AllHavePoints}

---- One entry of an aggregator

-- no record is opened, or one behind the others, between the points of its names
data Pointed (stp_of : List ℕ → Option ℕ) (old new : List Record) : Type 0 where
  none : length new ≡ length old → Pointed stp_of old new
  begun : length new ≡ suc (length old) → HasPoints stp_of (record_at (length old) new) → Pointed stp_of old new

-- the two points that are found are those of the two names
points_are : (stp_of : List ℕ → Option ℕ) (source dest : Option (List ℕ)) (points : ℕ × ℕ) → both (option_and_then stp_of source) (option_and_then stp_of dest) ≡ Some points →
    (stp_of (name_or source) ≡ Some points.0) × (stp_of (name_or dest) ≡ Some points.1)
points_are stp_of None dest points e = absurd (cc)
points_are stp_of (Some source) None points e = by_source (stp_of source) e
  where
    by_source : (o : Option ℕ) → both o None ≡ Some points → (stp_of source ≡ Some points.0) × (stp_of (name_or None) ≡ Some points.1)
    by_source None f = absurd (cc)
    by_source (Some a) f = absurd (cc)
points_are stp_of (Some source) (Some dest) points e = by_points (stp_of source) (stp_of dest) e
  where
    by_points : (a b : Option ℕ) → both a b ≡ Some points → (a ≡ Some points.0) × (b ≡ Some points.1)
    by_points None b f = absurd (cc)
    by_points (Some a) None f = absurd (cc)
    by_points (Some a) (Some b) f = let same : (a, b) ≡ points = cc in (ap (λ (p : ℕ × ℕ). Some p.0) same, ap (λ (p : ℕ × ℕ). Some p.1) same)

pointed_at : (stp_of : List ℕ → Option ℕ) (rs : List Record) (f r : Record) → HasPoints stp_of f → IsLater (record_at (length rs) (rs ++ f ∷ [])) r → Pointed stp_of rs (slice_set (rs ++ f ∷ []) (length rs) r)
pointed_at stp_of rs f r points later =
    Pointed.begun (omega (arith, length-set (rs ++ f ∷ []) (length rs) r, long))
    (subst (HasPoints stp_of) (sym (get_or-set_same (rs ++ f ∷ []) (length rs) r no_record (omega (arith, long))))
    (later_points stp_of (record_at (length rs) (rs ++ f ∷ [])) r later (subst (HasPoints stp_of) (sym (last_here rs f no_record)) points)))
  where
    long : length (rs ++ f ∷ []) ≡ length rs + 1
    long = length-append rs (f ∷ [])

module _ (m : Message) (q : ReserveRequest) (body : m.body ≡ Body.Reserve q) (unnamed : q.connection ≡ None) (setting : AggregatorSetting) where
  between : (s : AgentState) (o : Option (ℕ × ℕ)) → points_of setting.stp_of q ≡ o → Pointed setting.stp_of s.base.records (opens_between o setting s m q).state.base.records
  unfolding request_at
  between s None e = Pointed.none refl
  between s (Some points) e =
      let new : AgentState = with_new setting s m q points in
      let n : ℕ = length s.base.records in
      let named = points_are setting.stp_of q.source q.dest points e in
      pointed_at setting.stp_of s.base.records (fresh (id_of setting.agent.number s.base.next) m.header.requester (service_of q (name_or q.source) (name_or q.dest)) points.0 points.1) _
      (fresh_points setting.stp_of (id_of setting.agent.number s.base.next) m.header.requester (service_of q (name_or q.source) (name_or q.dest)) points.0 points.1 named.0 named.1)
      (request_later setting.agent s.base.now m (record_at n new.base.records) (children_for setting new n m) new.base.next)

  opened : (s : AgentState) → Pointed setting.stp_of s.base.records (opens m.body setting s m).state.base.records
  opened s = subst (λ (b : Body). Pointed setting.stp_of s.base.records (opens b setting s m).state.base.records) (sym body) (between s (points_of setting.stp_of q) refl)

  no_connection : connection_of m.body ≡ None
  unfolding connection_of
  no_connection = ap connection_of body ∙ unnamed

  accepted : (s : AgentState) → Pointed setting.stp_of s.base.records (accepts (connection_of m.body) setting s m).state.base.records
  accepted s = subst (λ (o : Option ℕ). Pointed setting.stp_of s.base.records (accepts o setting s m).state.base.records) (sym no_connection) (opened s)

  answered : (s : AgentState) (o : Option ErrorName) → Pointed setting.stp_of s.base.records (answers o setting s m).state.base.records
  unfolding answers
  answered s (Some error) = Pointed.none refl
  answered s None = accepted s

  served : (s : AgentState) → Pointed setting.stp_of s.base.records (serves (is_query m.body) setting s m).state.base.records
  served s =
      subst (λ (b : Bool). Pointed setting.stp_of s.base.records (serves b setting s m).state.base.records) (sym (ap is_query body))
      (answered s (refusal s.base.now setting.agent.name setting.stp_of s.base.records m))

  received : (s : AgentState) (b : Bool) → Pointed setting.stp_of s.base.records (receives true b setting s m).state.base.records
  unfolding receives
  received s false = served (sees m s)
  received s true = Pointed.none refl

  stepped : (s : AgentState) (second : ℕ) → is_request m.body ≡ true → Pointed setting.stp_of s.base.records (step (Input.Got m) second setting s).state.base.records
  unfolding step
  stepped s second asks = subst (λ (a : Bool). Pointed setting.stp_of s.base.records (receives a (is_seen s m) setting s m).state.base.records) (sym asks) (received s (is_seen s m))

  entered : (s : AgentState) (e : Entry) → e.input ≡ Input.Got m → is_request m.body ≡ true → Pointed setting.stp_of s.base.records (aggregator_after setting s e).state.base.records
  unfolding aggregator_after
  entered s e got asks = by_test (may_take s e)
    where
      by_test : (b : Bool) → Pointed setting.stp_of s.base.records (after_if b setting s e).state.base.records
      by_test true = subst (λ (i : Input). Pointed setting.stp_of s.base.records (step i e.second setting s).state.base.records) (sym got) (stepped s e.second asks)
      by_test false = Pointed.none refl

-- by what an entry does at an agent that is asked
by_serving : (stp_of : List ℕ → Option ℕ) (name : List ℕ) (input : Input) (d : Child) (new : List Record) (seen : List Header) (out : List Message) → Serves name input d new seen out →
    ((m : Message) (q : ReserveRequest) → m.body ≡ Body.Reserve q → q.connection ≡ None → input ≡ Input.Got m → is_request m.body ≡ true → Pointed stp_of d.records new) → Pointed stp_of d.records new
by_serving stp_of name input d new seen out (Serves.acts same courses) begun_by = Pointed.none courses.long
by_serving stp_of name input d new seen out (Serves.leaves m is_new kind same silent) begun_by = Pointed.none (ap length same)
by_serving stp_of name input d new seen out (Serves.refuses m error now is_new refused same one_said) begun_by = Pointed.none (ap length same)
by_serving stp_of name input d new seen out (Serves.takes m n side now is_new about turn) begun_by = Pointed.none (ap length turn.records ∙ length-set d.records n turn.after)
by_serving stp_of name input d new seen out (Serves.opens m id service source dest side now is_new first turn) begun_by = begun_by m first.reserve first.body first.unnamed is_new.got is_new.request

-- the records of an aggregator stay, and so do their points
points_then : (stp_of : List ℕ → Option ℕ) (old new : List Record) → Pointed stp_of old new → Stay IsLater old new → HavePoints stp_of old → HavePoints stp_of new
points_then stp_of old new pointed stay have n r there = by pointed (cases_eq n (length old))
  where
    l : n < length new
    l = slice_get_within new n r there

    before : n < length old → HasPoints stp_of r
    before k =
        let (later, at, is) = stay n (record_at n old) (slice_get-get_or old n no_record k) in
        let same : later ≡ r = sym (get_or_from_slice_get new n later no_record at) ∙ get_or_from_slice_get new n r no_record there in
        subst (HasPoints stp_of) same (later_points stp_of (record_at n old) later is (have n (record_at n old) (slice_get-get_or old n no_record k)))

    lower : (i k : ℕ) → (i ≡ k → ⊥) → i < k + 1 → i < k
    lower i k d m = omega (arith, d, m)

    by : Pointed stp_of old new → (n ≡ length old) ⊎ (n ≡ length old → ⊥) → HasPoints stp_of r
    by (Pointed.none long) o = before (omega (arith, l, long))
    by (Pointed.begun long is) (inr d) = before (lower n (length old) d (omega (arith, l, long)))
    by (Pointed.begun long is) (inl here) = subst (HasPoints stp_of) (ap (λ (i : ℕ). record_at i new) (sym here) ∙ get_or_from_slice_get new n r no_record there) is

---- Whatever entries

role_keeps : (h : Home) (role : Role) → h.role ≡ role → is_requester role ≡ false → (s : AgentState) (e : Entry) → HavePoints (knows role) s.base.records → HavePoints (knows role) (after_as role s e).state.base.records
unfolding after_as
role_keeps h (provides setting stp_of) same asked s e have = points_after stp_of setting s.base e have
role_keeps h (aggregates setting) same asked s e have =
    points_then setting.stp_of s.base.records (aggregator_after setting s e).state.base.records
    (by_serving setting.stp_of (name_in (aggregates setting)) e.input (child_of s.base []) (aggregator_after setting s e).state.base.records (aggregator_after setting s e).state.base.seen (aggregator_after setting s e).out
    (serves_as (aggregates setting) asked s e []) (λ m q body unnamed got asks. entered m q body unnamed setting s e got asks))
    (entries_grow (record h { role = aggregates setting }) s e).records have
role_keeps h (requests setting) same asked s e have = absurd (cc)

-- whatever an agent that is asked has taken
pub told_points : AllHavePoints
told_points h asked es = told_by h (λ fs x. HavePoints (knows h.role) x.state.base.records) (λ fs e have. role_keeps h h.role refl asked (told h fs).state e have) (points_blank (knows h.role)) es
