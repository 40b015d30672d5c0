-- What the entries of a journal make of a provider.
use Rattle.std.specs.Prelude.{◌≡◌, ℕ, List, ◌++◌, Option}
use Rattle.nsi_primitive.specs.declared.message.Message.{Message}
use Rattle.nsi_primitive.specs.declared.entry.Entry.{Entry}
use Rattle.provider_agent.specs.Setting.{Setting}
use Rattle.provider_agent.specs.State.{State, Stepped, blank}
use Rattle.provider_agent.specs.Runs.{after_all}

-- The state that a journal's entries make, and the messages that they cause. An entry that no provider takes changes nothing.
abbrev pub replay : Setting → (List ℕ → Option ℕ) → List Entry → Stepped
replay setting stp_of es = after_all setting stp_of blank es

abbrev pub replayed : Setting → (List ℕ → Option ℕ) → List Entry → State
replayed setting stp_of es = (replay setting stp_of es).state

-- messages, and maybe more behind them
abbrev pub AreFirstOf : List Message → List Message → Type 0
AreFirstOf messages all = (more : List Message) × (all ≡ messages ++ more)
