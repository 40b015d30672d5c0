-- What a table of messages stands for, where agents are places of names.
use Rattle.std.specs.Prelude.{◌≡◌, ℕ, List, Option, Some, map, get_or}
use Rattle.std.specs.Option.{option_map}
use Rattle.nsi_primitive.specs.Kinds.{kind_number, kinds}
use Rattle.nsi_primitive.specs.declared.kind.Kind.{Kind}
use Rattle.nsi_primitive.specs.declared.message.Header.{Header}
use Rattle.nsi_primitive.specs.declared.message.Identity.{Identity}
use Rattle.message_retry.specs.Exchanges.{exchange_of, header_of}
use Rattle.message_retry.specs.declared.mark.Mark.{Mark}

-- who asks whom, and under which correlationId
abbrev pub header_in : Identity → Header
header_in i = record { correlation = i.correlation; requester = i.requester; provider = i.provider }

-- the mark of a message, where both agents have a place
abbrev pub mark_of : List (List ℕ) → Identity → Option Mark
mark_of names i = option_map (λ exchange. record { exchange = exchange; kind = kind_number i.kind }) (exchange_of names (header_in i))

abbrev pub identity_at : Header → ℕ → Identity
identity_at h kind = record { requester = h.requester; provider = h.provider; correlation = h.correlation; kind = get_or kinds kind Kind.Reserve }

abbrev pub identity_of : List (List ℕ) → Mark → Identity
identity_of names mark = identity_at (header_of names mark.exchange) mark.kind

abbrev pub identities : List (List ℕ) → List Mark → List Identity
identities names marks = map (identity_of names) marks

-- it is the mark of the message that it stands for
abbrev pub IsMarked : List (List ℕ) → Mark → Type 0
IsMarked names mark = mark_of names (identity_of names mark) ≡ Some mark
