-- A provider's whole run.
use Rattle.std.specs.Prelude.{ℕ, List, [], ◌∷◌, ◌++◌, Option}
use Rattle.nsi_primitive.specs.declared.entry.Entry.{Entry}
use Rattle.provider_agent.specs.Setting.{Setting}
use Rattle.provider_agent.specs.State.{State, Stepped, unchanged}
use Rattle.provider_agent.specs.Steps.{after}

-- the state after entries, and all messages that they cause, in order
unfoldable pub after_all : Setting → (List ℕ → Option ℕ) → State → List Entry → Stepped
after_all setting stp_of s [] = unchanged s
after_all setting stp_of s (e ∷ es) =
    record {
      state = (after_all setting stp_of (after setting stp_of s e).state es).state;
      out = (after setting stp_of s e).out ++ (after_all setting stp_of (after setting stp_of s e).state es).out;
    }
