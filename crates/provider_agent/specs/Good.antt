-- What is true of a provider in every state of every run.
use Rattle.std.specs.Prelude.{◌≡◌, ◌≤◌, ◌<◌, ◌+◌, ◌*◌, ℕ, Bool, true, false, List, slice_get, length, Some, IsSome}
use Rattle.nsi_primitive.specs.Ids.{id_of}
use Rattle.nsi_primitive.specs.Printable.{IsShort}
use Rattle.nsi_primitive.specs.declared.state.Rsm.{Rsm}
use Rattle.connection_record.specs.declared.record.Record.{Record}
use Rattle.connection_record.specs.Order.{IsInOrder}
use Rattle.connection_record.specs.Rising.{AreRising, IsAboveLast}
use Rattle.provider_agent.specs.Setting.{Setting}
use Rattle.provider_agent.specs.State.{State}
use Rattle.provider_agent.specs.Safety.{IsCapped}
use Rattle.provider_agent.specs.Working.{works_among}

-- whether something is asked, held or committed
abbrev pub is_asking : Rsm → Bool
is_asking Rsm.ReserveChecking = true
is_asking Rsm.ReserveHeld = true
is_asking Rsm.ReserveCommitting = true
is_asking _ = false

-- versions rise, the pending one above the last; what is asked is there; texts are short; unanswered requests are those that are worked on
pub record IsGoodRecord (r : Record) : Type 0 where
  pub rising : AreRising r.committed
  pub above : IsAboveLast r.pending r.committed
  pub asking : is_asking r.rsm ≡ true → IsSome r.pending
  pub description : IsShort 256 r.service.description
  pub global : IsShort 128 r.service.global
  pub in_order : IsInOrder r

-- ids rise with the records, and are below the next
pub record AreOrdered (agent next : ℕ) (records : List Record) : Type 0 where
  pub rise : (i j : ℕ) (a b : Record) → i < j → slice_get records i ≡ Some a → slice_get records j ≡ Some b → a.id < b.id
  pub below : (i : ℕ) (a : Record) → slice_get records i ≡ Some a → a.id < id_of agent next

-- so many ids at most are drawn by one entry: a tick draws one for each record at most
abbrev pub most_drawn : ℕ
most_drawn = 4194306

-- no load passes a capacity, each record is good, there are no more records than entries, nor more work that waits, and ids are few
pub record IsGood (setting : Setting) (s : State) : Type 0 where
  pub capped : IsCapped setting s
  pub records : (n : ℕ) (r : Record) → slice_get s.records n ≡ Some r → IsGoodRecord r
  pub ordered : AreOrdered setting.number s.next s.records
  pub few : length s.records ≤ s.taken
  pub works : works_among s.records ≤ s.taken
  pub drawn : s.next ≤ s.taken * most_drawn + 1
