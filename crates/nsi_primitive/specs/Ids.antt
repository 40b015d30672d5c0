-- Ids as numbers and as texts.
use Rattle.std.specs.Prelude.{ℕ, ◌+◌, ◌*◌, ◌^◌, List, Option, option_map}
use Rattle.std.specs.Int.{to_be_bytes, from_be_bytes, w128}
use Rattle.uuid.specs.Text.{parsed, urn_text, lower}

-- the agent and its number beside the version 8 and the variant of a UUID
abbrev pub id_of : ℕ → ℕ → ℕ
id_of agent n = agent * 2 ^ 80 + 8 * 2 ^ 76 + 2 * 2 ^ 62 + n

-- the sixteen bytes of an id, the high one first, and the id of sixteen bytes
unfoldable pub bytes_of : ℕ → List ℕ
bytes_of id = to_be_bytes w128 id

unfoldable pub from_bytes : List ℕ → ℕ
from_bytes bytes = from_be_bytes w128 bytes

-- the id that a text is, where it is one
unfoldable pub id_from_text : List ℕ → Option ℕ
id_from_text text = option_map from_bytes (parsed text)

-- the one spelling that is written
unfoldable pub id_text : ℕ → List ℕ
id_text id = urn_text lower (bytes_of id)
