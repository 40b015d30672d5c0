-- What is promised of every run of a provider.
use Rattle.std.specs.Prelude.{◌≡◌, ◌≤◌, ◌<◌, ◌+◌, ℕ, Bool, true, false, List, [], ◌∷◌, ◌++◌, Option, Some, slice_get, length, take}
use Rattle.std.specs.List.{Contains}
use Rattle.nsi_base.specs.Range.{is_covered}
use Rattle.nsi_base.specs.declared.flow.Flow.{Flow}
use Rattle.nsi_primitive.specs.Kinds.{is_both_ways}
use Rattle.nsi_primitive.specs.Printable.{IsPrintableInput}
use Rattle.nsi_primitive.specs.declared.kind.ErrorName.{ErrorName}
use Rattle.nsi_primitive.specs.declared.state.Machine.{Machine}
use Rattle.nsi_primitive.specs.declared.state.Rsm.{Rsm}
use Rattle.nsi_primitive.specs.declared.message.Body.{Body}
use Rattle.nsi_primitive.specs.declared.message.Cause.{Cause}
use Rattle.nsi_primitive.specs.declared.message.Criteria.{Criteria}
use Rattle.nsi_primitive.specs.declared.message.Message.{Message}
use Rattle.nsi_primitive.specs.declared.entry.Entry.{Entry}
use Rattle.nsi_primitive.specs.declared.entry.Input.{Input}
use Rattle.capacity_calendar.specs.declared.booking.Lack.{Lack}
use Rattle.capacity_calendar.specs.declared.booking.Place.{Place}
use Rattle.capacity_calendar.specs.Lack.{IsFirstAmong}
use Rattle.capacity_calendar.specs.Places.{capacity_at, places}
use Rattle.connection_record.specs.declared.record.Record.{Record}
use Rattle.connection_record.specs.Demand.{load}
use Rattle.connection_record.specs.Replies.{plain, confirmation, id_or}
use Rattle.connection_record.specs.Moves.{is_live}
use Rattle.connection_record.specs.Rising.{AreRising}
use Rattle.provider_agent.specs.Setting.{Setting}
use Rattle.provider_agent.specs.Others.{others, bandwidth}
use Rattle.provider_agent.specs.State.{State}
use Rattle.provider_agent.specs.Steps.{may_take, after}
use Rattle.provider_agent.specs.Runs.{after_all}

-- No load passes a capacity, at any second, a modification that is held among what counts.
abbrev pub IsCapped : Setting → State → Type 0
IsCapped setting s = (flow : Flow) (stp t capacity : ℕ) → capacity_at setting.capacities stp flow ≡ Some capacity → load flow stp t s.records ≤ capacity

-- The committed versions of each record rise.
abbrev pub IsRising : State → Type 0
IsRising s = (n : ℕ) (r : Record) → slice_get s.records n ≡ Some r → AreRising r.committed

-- What was committed stays: each record is still there, with more behind what it had committed.
abbrev pub Keeps : State → State → Type 0
Keeps old new =
    (n : ℕ) (r : Record) → slice_get old.records n ≡ Some r → (later : Record) × (slice_get new.records n ≡ Some later) × (take (length r.committed) later.committed ≡ r.committed)

---- Refusals for bandwidth

-- the places that a record books
abbrev pub places_of : Setting → Record → List Place
places_of setting r = places setting.capacities r.source r.dest (is_both_ways r.service.directionality)

-- what all other records load
abbrev pub others_load : State → ℕ → Flow → ℕ → ℕ → ℕ
others_load s n = λ flow stp t. load flow stp t (others n s.records)

-- At each second of the schedule each place has room beside the others.
abbrev pub HasRoom : Setting → State → ℕ → Record → Criteria → Type 0
HasRoom setting s n r c =
    (p : Place) (t : ℕ) → Contains (places_of setting r) p → is_covered c.interval t ≡ true → others_load s n p.flow p.stp t + c.capacity ≤ p.capacity

-- one message, to the owner, under the correlation of the request that it answers
abbrev pub said : Setting → Record → Body → List Message
said setting r body = record { header = record { correlation = id_or r.reserve_request; requester = r.owner; provider = setting.name }; body = body } ∷ []

-- What work on a reserve says: that its end has passed; else what lacks first, exactly where something lacks; else it is confirmed.
pub record IsHonestWork (setting : Setting) (s : State) (n : ℕ) (r : Record) (c : Criteria) (out : List Message) : Type 0 where
  pub passed : c.interval.end ≤ s.now → out ≡ said setting r (Body.ReserveFailed r.id (plain setting.name ErrorName.Passed))
  pub lacking : s.now < c.interval.end → (l : Lack) → IsFirstAmong (others_load s n) (places_of setting r) c.interval c.capacity l
      → out ≡ said setting r (Body.ReserveFailed r.id (record { nsa = setting.name; cause = bandwidth r l }))
  pub fits : s.now < c.interval.end → HasRoom setting s n r c → out ≡ said setting r (Body.ReserveConfirmed (confirmation r.id r.service c))

abbrev pub is_bandwidth : Cause → Bool
is_bandwidth (Cause.Bandwidth _ _ _ _ _) = true
is_bandwidth _ = false

-- a refusal for bandwidth
unfoldable pub is_refusal : Body → Bool
is_refusal (Body.ReserveFailed _ exception) = is_bandwidth exception.cause
is_refusal _ = false

-- the entry is work on a reserve that is checked, of a connection that doesn't end
pub record IsChecking (s : State) (e : Entry) (n : ℕ) (r : Record) : Type 0 where
  pub work : e.input ≡ Input.Work n Machine.Reserve
  pub record_is : slice_get s.records n ≡ Some r
  pub checking : r.rsm ≡ Rsm.ReserveChecking
  pub live : is_live r.lsm ≡ true

-- Work on each reserve is honest, and nothing else causes a refusal for bandwidth.
pub record IsHonest (setting : Setting) (stp_of : List ℕ → Option ℕ) (s : State) (e : Entry) : Type 0 where
  pub work : (n : ℕ) (r : Record) → IsChecking s e n r → (c : Criteria) × (r.pending ≡ Some c) × IsHonestWork setting s n r c (after setting stp_of s e).out
  pub alone : (m : Message) → Contains (after setting stp_of s e).out m → is_refusal m.body ≡ true → (n : ℕ) × (r : Record) × IsChecking s e n r

---- Runs

-- each entry may be taken where it comes
abbrev pub IsRun : Setting → (List ℕ → Option ℕ) → State → List Entry → Type 0
IsRun setting stp_of s [] = Unit {0}
IsRun setting stp_of s (e ∷ es) = IsPrintableInput e.input × (may_take s e ≡ true) × IsRun setting stp_of (after setting stp_of s e).state es

-- In each state of a run no load passes a capacity and versions rise; what was committed stays; each entry is honest.
pub record IsSafe (setting : Setting) (stp_of : List ℕ → Option ℕ) (s : State) (es : List Entry) : Type 0 where
  pub capped : (front back : List Entry) → es ≡ front ++ back → IsCapped setting (after_all setting stp_of s front).state
  pub rising : (front back : List Entry) → es ≡ front ++ back → IsRising (after_all setting stp_of s front).state
  pub keeps : (front middle back : List Entry) → es ≡ front ++ (middle ++ back) → Keeps (after_all setting stp_of s front).state (after_all setting stp_of s (front ++ middle)).state
  pub honest : (front back : List Entry) (e : Entry) → es ≡ front ++ e ∷ back → IsHonest setting stp_of (after_all setting stp_of s front).state e
