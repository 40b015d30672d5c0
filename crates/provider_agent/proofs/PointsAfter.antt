-- Each record is between the points of the names in its service, after an entry and after many.
use Rattle.std.proofs.Common.{◌≡◌, ◌<◌, ◌+◌, inl, inr, ℕ, Bool, true, false, List, [], ◌∷◌, ◌++◌, Option, Some, None, arith, refl, ap, subst, length, length-append, slice_get, slice_set, option_and_then}
use Rattle.std.proofs.lemmas.Option.{slice_get-get_or, none-some}
use Rattle.nsi_primitive.specs.Ids.{id_of}
use Rattle.nsi_primitive.specs.Messages.{is_request}
use Rattle.nsi_primitive.specs.declared.state.Machine.{Machine}
use Rattle.nsi_primitive.specs.declared.state.Side.{Side}
use Rattle.nsi_primitive.specs.declared.message.Message.{Message}
use Rattle.nsi_primitive.specs.declared.message.ReserveRequest.{ReserveRequest}
use Rattle.nsi_primitive.specs.declared.entry.Entry.{Entry}
use Rattle.nsi_primitive.specs.declared.entry.Input.{Input}
use Rattle.message_retry.specs.Taken.{is_taken}
use Rattle.connection_record.specs.declared.record.Record.{Record}
use Rattle.connection_record.specs.declared.apply.Move.{Move}
use Rattle.connection_record.specs.Moves.{service_of}
use Rattle.connection_record.specs.Order.{HasPoints}
use Rattle.connection_record.specs.Refusal.{points_of, both}
use Rattle.connection_record.specs.Applied.{moves_if, requested, status_of, tells}
use Rattle.connection_record.proofs.InOrder.{later_points, fresh_points}
use Rattle.provider_agent.specs.declared.agent.Agent.{Agent}
use Rattle.provider_agent.specs.Setting.{Setting}
use Rattle.provider_agent.specs.State.{State, blank, record_at, no_record, name_or}
use Rattle.provider_agent.specs.Steps.{step, receives, works, work_at, forces, force_move, is_forcible, keeps, ticks, ticks_at, ticks_all, told_at, own_origin, agent_of, taken_at, with_new, is_waiting, may_take, after_if, after}
use Rattle.provider_agent.specs.Points.{HavePoints}
use Rattle.provider_agent.proofs.RecordPlaces.{set_cases, push_cases}
use Rattle.provider_agent.proofs.Growing.{moves_if_later, ticked_later, told_later}
use Rattle.provider_agent.proofs.EachTicked.{each_ticked, each_new}
use Rattle.provider_agent.proofs.GoodAfter.{waits_within, forcible_within}
use Rattle.provider_agent.proofs.RequestCases.{seen_with, new_record, received_by}

points_set : (stp_of : List ℕ → Option ℕ) (records : List Record) (n : ℕ) (r x : Record) → HavePoints stp_of records → slice_get records n ≡ Some r → HasPoints stp_of x → HavePoints stp_of (slice_set records n x)
points_set stp_of records n r x have h new k y p = elim (set_cases records n k x y r h p) [
  | inl e ↦ subst (HasPoints stp_of) e.1 new
  | inr old ↦ have k y old
]

points_push : (stp_of : List ℕ → Option ℕ) (records : List Record) (x : Record) → HavePoints stp_of records → HasPoints stp_of x → HavePoints stp_of (records ++ x ∷ [])
points_push stp_of records x have new k y p = elim (push_cases records k x y p) [
  | inl e ↦ subst (HasPoints stp_of) e.1 new
  | inr old ↦ have k y old
]

-- the two points that are found are those of the two names
points_are : (stp_of : List ℕ → Option ℕ) (source dest : Option (List ℕ)) (points : ℕ × ℕ) → both (option_and_then stp_of source) (option_and_then stp_of dest) ≡ Some points
    → (stp_of (name_or source) ≡ Some points.0) × (stp_of (name_or dest) ≡ Some points.1)
points_are stp_of None dest points e = absurd (cc)
points_are stp_of (Some source) None points e = by_source (stp_of source) e
  where
    by_source : (o : Option ℕ) → both o None ≡ Some points → (stp_of source ≡ Some points.0) × (stp_of (name_or None) ≡ Some points.1)
    by_source None f = absurd (cc)
    by_source (Some a) f = absurd (cc)
points_are stp_of (Some source) (Some dest) points e = by_points (stp_of source) (stp_of dest) e
  where
    by_points : (a b : Option ℕ) → both a b ≡ Some points → (a ≡ Some points.0) × (b ≡ Some points.1)
    by_points None b f = absurd (cc)
    by_points (Some a) None f = absurd (cc)
    by_points (Some a) (Some b) f = let same : (a, b) ≡ points = cc in (ap (λ (p : ℕ × ℕ). Some p.0) same, ap (λ (p : ℕ × ℕ). Some p.1) same)

---- Entries

-- a move of the record at a place, with what is told of its data plane
points_kept : (stp_of : List ℕ → Option ℕ) (setting : Setting) (s : State) (n : ℕ) (o : Option Move) → n < length s.records → HavePoints stp_of s.records
    → HavePoints stp_of (keeps setting s n (moves_if Side.Provider o s.now (record_at n s.records))).state.records
points_kept stp_of setting s n o lt have =
    let r : Record = record_at n s.records in
    let c : ℕ = id_of setting.number s.next in
    let there = slice_get-get_or s.records n no_record lt in
    let x = moves_if Side.Provider o s.now r in
    let later = told_later (status_of s.now r) c s.now r x (moves_if_later Side.Provider o s.now r) in
    points_set stp_of s.records n r (tells (status_of s.now r) c s.now x).rec have there (later_points stp_of r (tells (status_of s.now r) c s.now x).rec later (have n r there))

points_taken : (stp_of : List ℕ → Option ℕ) (setting : Setting) (s : State) (n : ℕ) (m : Message) → n < length s.records → HavePoints stp_of s.records → HavePoints stp_of (taken_at setting s n m).state.records
points_taken stp_of setting s n m lt have = points_kept stp_of setting s n (requested s.now m.body m.header.correlation (record_at n s.records)) lt have

points_opened : (stp_of : List ℕ → Option ℕ) (setting : Setting) (s : State) (m : Message) (q : ReserveRequest) (points : ℕ × ℕ) → points_of stp_of q ≡ Some points → HavePoints stp_of s.records
    → HavePoints stp_of (taken_at setting (with_new setting s m q points) (length s.records) m).state.records
points_opened stp_of setting s m q points are have =
    let names = points_are stp_of q.source q.dest points are in
    let service = service_of q (name_or q.source) (name_or q.dest) in
    points_taken stp_of setting (with_new setting s m q points) (length s.records) m (omega (arith, length-append s.records (new_record setting s m q points ∷ [])))
    (points_push stp_of s.records (new_record setting s m q points) have (fresh_points stp_of (id_of setting.number s.next) m.header.requester service points.0 points.1 names.0 names.1))

points_received : (stp_of : List ℕ → Option ℕ) (setting : Setting) (s : State) (m : Message) → HavePoints stp_of s.records → HavePoints stp_of (receives (is_request m.body) (is_taken m.header s.seen) setting stp_of s m).state.records
points_received stp_of setting s m have = received_by setting stp_of s m (λ x. HavePoints stp_of x.state.records) (record {
  ignored = have;
  unopened = have;
  told = λ q. have;
  refused = λ error r. have;
  opened = λ q points e are. points_opened stp_of setting (seen_with s m) m q points are have;
  moved = λ n lt fine. points_taken stp_of setting (seen_with s m) n m lt have;
})

points_worked : (b : Bool) (stp_of : List ℕ → Option ℕ) (setting : Setting) (s : State) (n : ℕ) (machine : Machine) → (b ≡ true → n < length s.records) → HavePoints stp_of s.records → HavePoints stp_of (works b setting s n machine).state.records
unfolding works
points_worked false stp_of setting s n machine h have = have
points_worked true stp_of setting s n machine h have = points_kept stp_of setting s n (work_at setting s n machine) (h refl) have

points_forced : (b : Bool) (stp_of : List ℕ → Option ℕ) (setting : Setting) (s : State) (n : ℕ) → (b ≡ true → n < length s.records) → HavePoints stp_of s.records → HavePoints stp_of (forces b setting s n).state.records
unfolding forces
points_forced false stp_of setting s n h have = have
points_forced true stp_of setting s n h have = points_kept stp_of setting (record s { next = s.next + 1 }) n (Some (force_move setting s n)) (h refl) have

abbrev KeepsPoints : (List ℕ → Option ℕ) → Record → Record → Type 0
KeepsPoints stp_of a b = HasPoints stp_of a → HasPoints stp_of b

points_ticked : (stp_of : List ℕ → Option ℕ) (agent : Agent) (before now c : ℕ) (r : Record) → KeepsPoints stp_of r (told_at agent before now c r).rec
points_ticked stp_of agent before now c r = later_points stp_of r (told_at agent before now c r).rec (told_later (status_of before r) c now r (ticks_at agent now r) (ticked_later (own_origin agent r) now r))

points_step : (input : Input) (second : ℕ) (setting : Setting) (stp_of : List ℕ → Option ℕ) (s : State) → HavePoints stp_of s.records → HavePoints stp_of (step input second setting stp_of s).state.records
unfolding step ticks
points_step (Input.Got m) second setting stp_of s have = points_received stp_of setting s m have
points_step (Input.Work n machine) second setting stp_of s have = points_worked (is_waiting s n machine) stp_of setting s n machine (waits_within s n machine) have
points_step (Input.Force n) second setting stp_of s have = points_forced (is_forcible s n) stp_of setting s n (forcible_within s n) have
points_step Input.Tick second setting stp_of s have =
    let agent : Agent = agent_of setting in
    let x = ticks_all agent s.now second s.next s.records in
    let each = each_ticked (KeepsPoints stp_of) agent s.now second s.next s.records (points_ticked stp_of agent s.now second) in
    λ n r h. let old = each_new (KeepsPoints stp_of) s.records x.records n r each h in old.2 (have n old.0 old.1)
points_step _ second setting stp_of s have = have

-- Records stay between their points.
pub points_after : (stp_of : List ℕ → Option ℕ) (setting : Setting) (s : State) (e : Entry) → HavePoints stp_of s.records → HavePoints stp_of (after setting stp_of s e).state.records
unfolding after
points_after stp_of setting s e have = by_may (may_take s e)
  where
    by_may : (b : Bool) → HavePoints stp_of (after_if b setting stp_of s e).state.records
    by_may false = have
    by_may true = points_step e.input e.second setting stp_of s have

pub points_blank : (stp_of : List ℕ → Option ℕ) → HavePoints stp_of blank.records
points_blank stp_of n r h = absurd (none-some r h)
