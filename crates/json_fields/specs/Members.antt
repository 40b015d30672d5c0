-- Members of an object that is being written.
use Rattle.std.specs.Prelude.{◌≡◌, ℕ, suc, List, [], ◌∷◌, ◌++◌, Bool, true, not, ◌&&◌, nat_lt, nat_le, ◌==◌, if◌then◌else◌, MatchOption, slice_get, option_map, unwrap_or}
use Rattle.json.specs.Print.{quoted}
use Rattle.serde_json.specs.Data.{Data, Members, no_members, member}
use Rattle.serde_json.specs.Written.{comma_if, compact_text}
use Rattle.nsi_base.specs.Range.{within, greatest_second}
use Rattle.date_time.specs.Text.{text_of}
use Rattle.json_fields.specs.Keys.{name_of}
use Rattle.json_fields.specs.Ranks.{rank_of}
use Rattle.json_fields.specs.Objects.{Scalar, digits, words, flag, id_scalar, scalar_data}
use Rattle.json_fields.specs.declared.key.Key.{Key}
use Rattle.json_fields.specs.declared.member.Written.{Written}
use Rattle.json_fields.specs.declared.member.Member.{Member}

-- a second as its date-time, where it has one
unfoldable pub time_scalar : ℕ → Scalar
time_scalar second = unwrap_or (option_map (λ s. words (text_of s)) (within 0 greatest_second second)) (digits second)

-- what stands there
abbrev pub scalar_of : Written → Scalar
scalar_of (Written.Number n) = digits n
scalar_of (Written.Text text) = words text.now
scalar_of (Written.Id id) = id_scalar id
scalar_of (Written.Time second) = time_scalar second
scalar_of (Written.Flag b) = flag b

abbrev pub value_data : Written → Data
value_data value = scalar_data (scalar_of value)

-- the keys, each with what stands there
abbrev pub members_from : List Member → Members
members_from [] = no_members
members_from (m ∷ ms) = member (name_of m.key) (value_data m.value) (members_from ms)

---- For private clauses

-- how many of the first members have keys that stand before this one
unfoldable pub place_in : Key → List Member → ℕ
place_in key [] = 0
place_in key (m ∷ ms) = if nat_lt (rank_of m.key) (rank_of key) then suc (place_in key ms) else 0

-- the member at a place has this key
abbrev pub HasKeyAt : Key → List Member → ℕ → Type 0
HasKeyAt key ms i = MatchOption (slice_get ms i) ⊥ (λ m. rank_of m.key ≡ rank_of key)

-- the members but for a first one that has this key
unfoldable pub without : Key → List Member → List Member
without key [] = []
without key (m ∷ ms) = if rank_of m.key == rank_of key then ms else m ∷ ms

-- members one behind the other, as they stand between the braces; a comma before the first where something stands there
abbrev pub front_text : Bool → List Member → List ℕ
front_text later [] = []
front_text later (m ∷ ms) = comma_if later ++ (quoted (name_of m.key) ++ 58 ∷ (compact_text (value_data m.value) ++ front_text true ms))

-- a byte that stands for itself in a text
abbrev pub is_plain_byte : ℕ → Bool
is_plain_byte b = nat_le 32 b && not (b == 34) && not (b == 92)
