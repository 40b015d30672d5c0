-- Messages under rising numbers.
use Rattle.std.specs.Prelude.{ℕ, List, [], ◌∷◌, Option, Some, None, if◌then◌else◌}
use Rattle.nsi_primitive.specs.Messages.{identity}
use Rattle.nsi_primitive.specs.declared.message.Identity.{Identity}
use Rattle.nsi_primitive.specs.declared.message.Message.{Message}
use Rattle.message_retry.specs.Retry.{is_same_identity}

-- the number of the first message of an identity
unfoldable pub first_number : Identity → List (ℕ × Message) → Option ℕ
first_number i [] = None
first_number i (e ∷ es) = if is_same_identity i (identity e.1) then Some e.0 else first_number i es
