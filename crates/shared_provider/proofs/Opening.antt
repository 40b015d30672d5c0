-- A book to which nothing happened yet.
use Rattle.std.proofs.Common.{◌≡◌, ◌<◌, ℕ, Bool, false, List, [], Option, Some, None, Result, refl, arith, length}
use Rattle.std.specs.Prelude.{IfSome, is_some}
use Rattle.std.specs.List.{All}
use Rattle.nsi_primitive.specs.declared.entry.Entry.{Entry}
use Rattle.nsi_disk.specs.Disk.{History, Meter}
use Rattle.journal_entry.specs.Journal.{Kept}
use Rattle.stp_topology.specs.declared.network.Network.{Network}
use Rattle.stp_topology.specs.Sound.{IsProvider}
use Rattle.provider_agent.specs.Setting.{Setting, setting_of}
use Rattle.provider_agent.specs.State.{blank}
use Rattle.provider_agent.specs.Runs.{after_all}
use Rattle.provider_agent.specs.Events.{journal_after}
use Rattle.provider_agent.specs.Replay.{replayed}
use Rattle.shared_provider.specs.History.{journal_of, IsHistory}
use Rattle.shared_provider.specs.Book.{fresh, counted}
use Rattle.shared_provider.specs.Sound.{Keeps, IsSound}

all_none : {A : Type 0} (P : A → Type 0) → All P []
all_none P = λ k d within. absurd (omega (arith, within))

history_none : (setting : Setting) (stp_of : List ℕ → Option ℕ) → IsHistory setting stp_of []
history_none setting stp_of = record { own = all_none _; run = record { printable = all_none _; allowed = tt; inputs = all_none _ }; in_turn = tt }

entries_none : (journal_of []).entries ≡ []
unfolding journal_after
entries_none = refl

synced_none : (journal_of []).synced ≡ 0
unfolding journal_after
synced_none = refl

state_none : (setting : Setting) (stp_of : List ℕ → Option ℕ) → blank ≡ replayed setting stp_of (journal_of []).entries
unfolding journal_after after_all
state_none setting stp_of = refl

taken_none : 0 ≡ length (journal_of []).entries
unfolding journal_after
taken_none = refl

all_synced_none : (journal_of []).synced ≡ length (journal_of []).entries
unfolding journal_after
all_synced_none = refl

kept_none : (kept : Option Kept) → IfSome kept (λ k. k.synced ≡ []) → IfSome kept (λ k. k.waiting ≡ []) → IfSome kept (λ k. k ≡ record { synced = (journal_of []).entries; waiting = [] })
unfolding journal_after
kept_none None synced waiting = tt
kept_none (Some k) synced waiting = λ i. record { synced = synced i; waiting = waiting i }

pub fresh_sound : (ready : Type 0) (waits : Bool) (kept : Option Kept) (disk : Option History) (reading : List ℕ → Result (List Entry) ℕ) (own : Setting) (network : Network) (agent : ℕ) (meter : Meter)
    → own ≡ setting_of network agent → agent < length network.agents → IsProvider network agent → ready → waits ≡ false → is_some kept ≡ is_some disk → IfSome kept (λ k. k.synced ≡ []) → IfSome kept (λ k. k.waiting ≡ []) → counted meter ≡ 0
    → IsSound ready waits kept disk reading own (record { book = fresh network agent; meter = meter })
fresh_sound ready waits kept disk reading own network agent meter same within provider is none told synced waiting calm = record {
  setting = same;
  within = within;
  provider = provider;
  history = history_none _ _;
  state = state_none _ _;
  taken = taken_none;
  most = omega arith;
  runs = λ _. record { usable = is; none = none; keeps = record { told = told; same = kept_none kept synced waiting }; synced = all_synced_none; calm = calm };
  shut = λ some. absurd (omega (arith, some));
}
