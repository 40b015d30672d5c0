-- An entry, and the work that waits then.
use Rattle.std.specs.Prelude.{ℕ, zero, suc, List, [], ◌∷◌, Option, Some, None}
use Rattle.nsi_primitive.specs.declared.entry.Entry.{Entry}
use Rattle.nsi_primitive.specs.declared.entry.Input.{Input}
use Rattle.nsi_primitive.specs.declared.state.Machine.{Machine}
use Rattle.provider_agent.specs.Setting.{Setting}
use Rattle.provider_agent.specs.State.{State}
use Rattle.provider_agent.specs.Working.{works_among}
use Rattle.provider_agent.specs.Steps.{after, waiting_work}

abbrev pub now_at : State → Input → Entry
now_at s input = record { second = s.now; input = input }

-- work that waits, and what comes then
abbrev pub work_then : Option (ℕ × Machine) → Setting → (List ℕ → Option ℕ) → State → (State → List Entry) → List Entry
work_then None setting stp_of s rest = []
work_then (Some (n, machine)) setting stp_of s rest = now_at s (Input.Work n machine) ∷ rest (after setting stp_of s (now_at s (Input.Work n machine))).state

-- the waiting work, one after another, and no more than so many
unfoldable pub works_of : ℕ → Setting → (List ℕ → Option ℕ) → State → List Entry
works_of zero setting stp_of s = []
works_of (suc most) setting stp_of s = work_then (waiting_work s) setting stp_of s (works_of most setting stp_of)

-- all waiting work: as many entries as there is work, since each takes one off
abbrev pub all_works : Setting → (List ℕ → Option ℕ) → State → List Entry
all_works setting stp_of s = works_of (works_among s.records) setting stp_of s

-- an entry, and all work that waits then
abbrev pub with_works : Setting → (List ℕ → Option ℕ) → State → Entry → List Entry
with_works setting stp_of s e = e ∷ all_works setting stp_of (after setting stp_of s e).state
