-- A first reserve makes a record, and moves it.
use Rattle.std.proofs.Common.{◌≡◌, ◌+◌, ◌-◌, ℕ, cond, Bool, true, false, Some, None, List, [], ◌∷◌, ◌++◌, length, set, refl, sym, ap, ◌∙◌, arith}
use Rattle.std.proofs.lemmas.List.{get_or_push, set-append_right}
use Rattle.nsi_primitive.specs.Ids.{id_of}
use Rattle.nsi_primitive.specs.declared.message.Message.{Message}
use Rattle.nsi_primitive.specs.declared.message.ReserveRequest.{ReserveRequest}
use Rattle.nsi_primitive.specs.declared.message.Service.{Service}
use Rattle.nsi_primitive.specs.declared.state.Side.{Side}
use Rattle.capacity_calendar.specs.declared.booking.Booking.{Booking}
use Rattle.connection_record.specs.declared.record.Record.{Record}
use Rattle.connection_record.specs.Demand.{last, held, holds_pending}
use Rattle.connection_record.specs.Moves.{fresh, is_live, service_of}
use Rattle.connection_record.specs.Replies.{Moved}
use Rattle.connection_record.specs.Applied.{moves_if, requested, tells, status_of, is_told}
use Rattle.provider_agent.specs.Setting.{Setting}
use Rattle.provider_agent.specs.State.{State, no_record, record_at, name_or}
use Rattle.provider_agent.specs.Steps.{opens_between, drawn, messages_of}
use Rattle.provider_agent.specs.Kept.{booked, AreKept}
use Rattle.provider_agent.proofs.Indexing.{NamesNothing, nothing_where_no_more, told_no_more, request_no_more}
use Rattle.provider_agent.proofs.Moved.{plain_request, plain_told}
use Rattle.provider_agent.proofs.Keeping.{kept_more, nothing}

-- what stands at the end in place of what was pushed
pushed_instead : (records : List Record) (r moved : Record) → records ++ moved ∷ [] ≡ set (records ++ r ∷ []) (length records) moved
pushed_instead records r moved =
    let zero_is : length records - length records ≡ 0 = omega arith in
    sym (set-append_right records (r ∷ []) (length records) (length records) moved refl (omega arith) ∙ ap (λ k. records ++ set (r ∷ []) k moved) zero_is)

-- the record that a first reserve makes
abbrev pub made : Setting → State → Message → ReserveRequest → ℕ × ℕ → Record
made setting s m q points = fresh (id_of setting.number s.next) m.header.requester (service_of q (name_or q.source) (name_or q.dest)) points.0 points.1

-- its turn by the first request
abbrev pub made_turn : Setting → State → Message → Record → Moved
made_turn setting s m r = tells (status_of s.now r) (id_of setting.number (s.next + 1)) s.now (moves_if Side.Provider (requested s.now m.body m.header.correlation r) s.now r)

abbrev pub made_drawn : State → Message → Record → ℕ
made_drawn s m r = drawn (is_told (status_of s.now r) s.now (moves_if Side.Provider (requested s.now m.body m.header.correlation r) s.now r).rec)

pub opened_state : (setting : Setting) (s : State) (m : Message) (q : ReserveRequest) (points : ℕ × ℕ)
    → record s { records = s.records ++ (made_turn setting s m (made setting s m q points)).rec ∷ []; next = s.next + 1 + made_drawn s m (made setting s m q points) } ≡ (opens_between (Some points) setting s m q).state
opened_state setting s m q points =
    let r = made setting s m q points in
    let there : r ≡ record_at (length s.records) (s.records ++ r ∷ []) = sym (get_or_push s.records r no_record (length s.records) refl) in
    let moved = λ (x : Record). record s { records = set (s.records ++ r ∷ []) (length s.records) (made_turn setting s m x).rec; next = s.next + 1 + made_drawn s m x } in
    ap (λ rs. record s { records = rs; next = s.next + 1 + made_drawn s m r }) (pushed_instead s.records r (made_turn setting s m r).rec) ∙ ap moved there

pub opened_out : (setting : Setting) (s : State) (m : Message) (q : ReserveRequest) (points : ℕ × ℕ) → messages_of setting (made_turn setting s m (made setting s m q points)) ≡ (opens_between (Some points) setting s m q).out
opened_out setting s m q points =
    let r = made setting s m q points in
    ap (λ (x : Record). messages_of setting (made_turn setting s m x)) (sym (get_or_push s.records r no_record (length s.records) refl))

-- it books nothing yet
pub kept_opened : (setting : Setting) (s : State) (m : Message) (q : ReserveRequest) (points : ℕ × ℕ) (bs : List Booking) → AreKept s.records bs → AreKept (s.records ++ (made_turn setting s m (made setting s m q points)).rec ∷ []) bs
kept_opened setting s m q points bs kept =
    let r = made setting s m q points in
    let moved = (made_turn setting s m r).rec in
    let plain = plain_told (status_of s.now r) (id_of setting.number (s.next + 1)) s.now r (moves_if Side.Provider (requested s.now m.body m.header.correlation r) s.now r) (plain_request m.body m.header.correlation s.now r) in
    kept_more s.records bs moved kept (ap (λ cs. booked moved (last cs)) plain.committed ∙ sym (nothing moved))
    (ap (booked moved) (plain.holds ∙ either (holds_pending moved.rsm)) ∙ sym (nothing moved))
  where
    either : (b : Bool) → cond b (held (made setting s m q points)) None ≡ None
    either true = refl
    either false = refl

-- nor has it anything to do at any second
pub opened_nothing : (setting : Setting) (s : State) (m : Message) (q : ReserveRequest) (points : ℕ × ℕ) → NamesNothing (made_turn setting s m (made setting s m q points)).rec
unfolding is_live
opened_nothing setting s m q points =
    let r = made setting s m q points in
    nothing_where_no_more r (made_turn setting s m r).rec (record { holds = refl; ends = refl; starts = refl })
    (told_no_more (status_of s.now r) (id_of setting.number (s.next + 1)) s.now r (moves_if Side.Provider (requested s.now m.body m.header.correlation r) s.now r) (request_no_more m.body m.header.correlation s.now r))

-- by its parts
pub made_by : (setting : Setting) (s : State) (m : Message) (q : ReserveRequest) (points : ℕ × ℕ) (own : Record) (id : ℕ) (owner : List ℕ) (service : Service)
    → own ≡ fresh id owner service points.0 points.1 → id ≡ id_of setting.number s.next → owner ≡ m.header.requester → service ≡ service_of q (name_or q.source) (name_or q.dest) → own ≡ made setting s m q points
made_by setting s m q points own id owner service is i o v =
    is ∙ (ap (λ x. fresh x owner service points.0 points.1) i ∙ (ap (λ x. fresh (id_of setting.number s.next) x service points.0 points.1) o ∙ ap (λ x. fresh (id_of setting.number s.next) m.header.requester x points.0 points.1) v))
