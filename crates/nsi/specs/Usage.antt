-- When the words are refused.
use Rattle.std.specs.Prelude.{◌≡◌, ◌↔◌, ℕ, List, None, true}
use Rattle.provide_command.specs.Promise.{is_told}
use Rattle.command_words.specs.Words.{command_of, race_of}
use Rattle.provide_command.specs.declared.status.Status.{Status}

-- a status that is told is Usage exactly where the words name no command and no race
abbrev pub IsUsageAsNamed : List (List ℕ) → Status → Type 0
IsUsageAsNamed words status = is_told status ≡ true → ((status ≡ Status.Usage) ↔ ((command_of words ≡ None) × (race_of words ≡ None)))
