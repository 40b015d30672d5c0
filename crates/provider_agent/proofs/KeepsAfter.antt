-- What was committed stays, after an entry and after many.
use Rattle.std.proofs.Common.{◌≡◌, ◌≤◌, ◌<◌, ◌+◌, inl, inr, ◌∙◌, ℕ, Bool, true, false, List, [], ◌∷◌, ◌++◌, Option, Some, arith, refl, sym, ap, subst, length, length-append, take, slice_get, slice_set}
use Rattle.std.proofs.Math.Seq.{take-length}
use Rattle.std.proofs.lemmas.Bool.{cases_eq}
use Rattle.std.proofs.lemmas.List.{take-take, length-take}
use Rattle.std.proofs.lemmas.Option.{slice_get-get_or, slice_get_within, same_Some}
use Rattle.nsi_primitive.specs.Ids.{id_of}
use Rattle.nsi_primitive.specs.Messages.{is_request}
use Rattle.nsi_primitive.specs.declared.state.Machine.{Machine}
use Rattle.nsi_primitive.specs.declared.state.Side.{Side}
use Rattle.nsi_primitive.specs.declared.message.Message.{Message}
use Rattle.nsi_primitive.specs.declared.message.ReserveRequest.{ReserveRequest}
use Rattle.nsi_primitive.specs.declared.entry.Entry.{Entry}
use Rattle.nsi_primitive.specs.declared.entry.Input.{Input}
use Rattle.message_retry.specs.Taken.{is_taken}
use Rattle.connection_record.specs.declared.record.Record.{Record}
use Rattle.connection_record.specs.declared.apply.Move.{Move}
use Rattle.connection_record.specs.Applied.{moves_if, requested, status_of, tells}
use Rattle.provider_agent.specs.declared.agent.Agent.{Agent}
use Rattle.provider_agent.specs.Setting.{Setting}
use Rattle.provider_agent.specs.State.{State, record_at, no_record}
use Rattle.provider_agent.specs.Steps.{step, receives, works, work_at, forces, force_move, is_forcible, keeps, ticks, ticks_at, ticks_all, told_at, own_origin, agent_of, taken_at, with_new, is_waiting, may_take, after_if, after}
use Rattle.provider_agent.specs.Runs.{after_all}
use Rattle.provider_agent.specs.Safety.{Keeps}
use Rattle.provider_agent.proofs.RecordPlaces.{set_here, set_elsewhere, push_elsewhere}
use Rattle.provider_agent.proofs.Growing.{moves_if_later, ticked_later, told_later}
use Rattle.provider_agent.proofs.EachTicked.{each_ticked, each_old}
use Rattle.provider_agent.proofs.GoodAfter.{waits_within, forcible_within}
use Rattle.provider_agent.proofs.RequestCases.{seen_with, new_record, received_by}

-- what a record had committed is the front of what it has now
abbrev IsMore : Record → Record → Type 0
IsMore r later = take (length r.committed) later.committed ≡ r.committed

-- each record is still at its place, and later
abbrev KeepRecords : List Record → List Record → Type 0
KeepRecords old new = (n : ℕ) (r : Record) → slice_get old n ≡ Some r → (later : Record) × (slice_get new n ≡ Some later) × IsMore r later

keep_same : (records : List Record) → KeepRecords records records
keep_same records n r h = (r, h, take-length r.committed)

front_of_front : {X : Type 0} (a b c : List X) → take (length a) b ≡ a → take (length b) c ≡ b → take (length a) c ≡ a
front_of_front a b c p q =
    let short : length a ≤ length b = omega (arith, length-take (length a) b, ap (λ xs. length xs) p) in
    sym (take-take (length a) (length b) c short) ∙ (ap (take (length a)) q ∙ p)

keep_more : (a b c : List Record) → KeepRecords a b → KeepRecords b c → KeepRecords a c
keep_more a b c p q n r h =
    let x = p n r h in
    let y = q n x.0 x.1 in
    (y.0, y.1, front_of_front r.committed x.0.committed y.0.committed x.2 y.2)

keep_set : (records : List Record) (n : ℕ) (r x : Record) → slice_get records n ≡ Some r → IsMore r x → KeepRecords records (slice_set records n x)
keep_set records n r x h later k y g = elim (cases_eq k n) [
  | inl e ↦
      let same : r ≡ y = same_Some r y (sym h ∙ (ap (slice_get records) (sym e) ∙ g)) in
      (x, ap (slice_get (slice_set records n x)) e ∙ set_here records n x (slice_get_within records n r h), subst (λ z. IsMore z x) same later)
  | inr d ↦ (y, set_elsewhere records n k x d ∙ g, take-length y.committed)
]

keep_push : (records : List Record) (x : Record) → KeepRecords records (records ++ x ∷ [])
keep_push records x n r h = (r, push_elsewhere records n x r h, take-length r.committed)

pub keeps_same : (s : State) → Keeps s s
keeps_same s = keep_same s.records

---- Entries

-- a move of the record at a place, with what is told of its data plane
keep_kept : (setting : Setting) (s : State) (n : ℕ) (o : Option Move) → n < length s.records → KeepRecords s.records (keeps setting s n (moves_if Side.Provider o s.now (record_at n s.records))).state.records
keep_kept setting s n o lt =
    let r : Record = record_at n s.records in
    let c : ℕ = id_of setting.number s.next in
    keep_set s.records n r (tells (status_of s.now r) c s.now (moves_if Side.Provider o s.now r)).rec (slice_get-get_or s.records n no_record lt)
    (told_later (status_of s.now r) c s.now r (moves_if Side.Provider o s.now r) (moves_if_later Side.Provider o s.now r)).committed

keep_taken : (setting : Setting) (s : State) (n : ℕ) (m : Message) → n < length s.records → KeepRecords s.records (taken_at setting s n m).state.records
keep_taken setting s n m lt = keep_kept setting s n (requested s.now m.body m.header.correlation (record_at n s.records)) lt

keep_opened : (setting : Setting) (s : State) (m : Message) (q : ReserveRequest) (points : ℕ × ℕ) → KeepRecords s.records (taken_at setting (with_new setting s m q points) (length s.records) m).state.records
keep_opened setting s m q points =
    keep_more s.records new.records (taken_at setting new (length s.records) m).state.records (keep_push s.records (new_record setting s m q points)) (keep_taken setting new (length s.records) m (omega (arith, length-append s.records (new_record setting s m q points ∷ []))))
  where
    new : State
    new = with_new setting s m q points

keep_received : (setting : Setting) (stp_of : List ℕ → Option ℕ) (s : State) (m : Message) → KeepRecords s.records (receives (is_request m.body) (is_taken m.header s.seen) setting stp_of s m).state.records
keep_received setting stp_of s m = received_by setting stp_of s m (λ x. KeepRecords s.records x.state.records) (record {
  ignored = keep_same s.records;
  unopened = keep_same s.records;
  told = λ q. keep_same s.records;
  refused = λ error r. keep_same s.records;
  opened = λ q points e are. keep_opened setting (seen_with s m) m q points;
  moved = λ n lt fine. keep_taken setting (seen_with s m) n m lt;
})

keep_worked : (b : Bool) (setting : Setting) (s : State) (n : ℕ) (machine : Machine) → (b ≡ true → n < length s.records) → KeepRecords s.records (works b setting s n machine).state.records
unfolding works
keep_worked false setting s n machine h = keep_same s.records
keep_worked true setting s n machine h = keep_kept setting s n (work_at setting s n machine) (h refl)

keep_forced : (b : Bool) (setting : Setting) (s : State) (n : ℕ) → (b ≡ true → n < length s.records) → KeepRecords s.records (forces b setting s n).state.records
unfolding forces
keep_forced false setting s n h = keep_same s.records
keep_forced true setting s n h = keep_kept setting (record s { next = s.next + 1 }) n (Some (force_move setting s n)) (h refl)

keep_ticked : (agent : Agent) (before now c : ℕ) (r : Record) → IsMore r (told_at agent before now c r).rec
keep_ticked agent before now c r = (told_later (status_of before r) c now r (ticks_at agent now r) (ticked_later (own_origin agent r) now r)).committed

keep_step : (input : Input) (second : ℕ) (setting : Setting) (stp_of : List ℕ → Option ℕ) (s : State) → KeepRecords s.records (step input second setting stp_of s).state.records
unfolding step ticks
keep_step (Input.Got m) second setting stp_of s = keep_received setting stp_of s m
keep_step (Input.Work n machine) second setting stp_of s = keep_worked (is_waiting s n machine) setting s n machine (waits_within s n machine)
keep_step (Input.Force n) second setting stp_of s = keep_forced (is_forcible s n) setting s n (forcible_within s n)
keep_step Input.Tick second setting stp_of s =
    let agent : Agent = agent_of setting in
    let x = ticks_all agent s.now second s.next s.records in
    λ n r h. each_old IsMore s.records x.records n r (each_ticked IsMore agent s.now second s.next s.records (keep_ticked agent s.now second)) h
keep_step _ second setting stp_of s = keep_same s.records

-- What was committed stays after an entry.
pub keeps_after : (setting : Setting) (stp_of : List ℕ → Option ℕ) (s : State) (e : Entry) → Keeps s (after setting stp_of s e).state
unfolding after
keeps_after setting stp_of s e = by_may (may_take s e)
  where
    by_may : (b : Bool) → Keeps s (after_if b setting stp_of s e).state
    by_may false = keep_same s.records
    by_may true = keep_step e.input e.second setting stp_of s

-- What was committed stays after entries.
pub keeps_after_all : (setting : Setting) (stp_of : List ℕ → Option ℕ) (s : State) (es : List Entry) → Keeps s (after_all setting stp_of s es).state
unfolding after_all
keeps_after_all setting stp_of s [] = keep_same s.records
keeps_after_all setting stp_of s (e ∷ es) =
    keep_more s.records (after setting stp_of s e).state.records (after_all setting stp_of (after setting stp_of s e).state es).state.records (keeps_after setting stp_of s e) (keeps_after_all setting stp_of (after setting stp_of s e).state es)
