-- The answer to a line that can't be taken.
use Rattle.std.specs.Prelude.{ℕ, List, codes, Option, Some, None}
use Rattle.serde_json.specs.Data.{Data, Members, no_members, member, put, string, number, unsigned, object}
use Rattle.serde_json.specs.Written.{compact_text}
use Rattle.nsi_primitive.specs.Kinds.{kind_name, error_text}
use Rattle.nsi_primitive.specs.declared.kind.Kind.{Kind}
use Rattle.nsi_primitive.specs.declared.kind.ErrorName.{ErrorName}
use Rattle.json_fields.specs.Keys.{name_of}
use Rattle.json_fields.specs.declared.key.Key.{Key}

-- the key of a fault before others
abbrev pub with_key : Option Key → Members → Members
with_key None others = others
with_key (Some key) others = member (codes "key") (string (name_of key)) others

-- the fault's name, its key, and the number of the line
abbrev pub payload_data : List ℕ → Option Key → ℕ → Data
payload_data fault key line = object (
    member (codes "errorId") (string (error_text ErrorName.Payload))
    (member (codes "fault") (string fault)
    (with_key key
    (member (codes "kind") (string (kind_name Kind.Error))
    (member (codes "line") (number (unsigned line)) no_members)))))

-- the bytes of the answer
abbrev pub payload_spelling : List ℕ → Option Key → ℕ → List ℕ
payload_spelling fault key line = compact_text (payload_data fault key line)

-- the members with the key that a fault is about put to them
abbrev pub put_key : Option Key → Members → Members
put_key None ms = ms
put_key (Some key) ms = put (codes "key") (string (name_of key)) ms
