-- Why a line is refused, and what a reader's answer says.
use Rattle.std.specs.Prelude.{◌≡◌, ℕ, List, codes, Option, Some, None, Result, Ok, Err}
use Rattle.json_fields.specs.declared.key.Key.{Key}
use Rattle.json_fields.specs.declared.fault.LineFault.{LineFault}

-- the name by which a fault is written
unfoldable pub fault_name : LineFault → List ℕ
fault_name LineFault.TooLong = codes "TooLong"
fault_name LineFault.NotJson = codes "NotJson"
fault_name LineFault.NotObject = codes "NotObject"
fault_name LineFault.NoKind = codes "NoKind"
fault_name (LineFault.Bad key) = codes "Bad"
fault_name (LineFault.Missing key) = codes "Missing"
fault_name LineFault.NoMemory = codes "NoMemory"

-- the key that a fault is about, where it is about one
abbrev pub fault_key : LineFault → Option Key
fault_key LineFault.TooLong = None
fault_key LineFault.NotJson = None
fault_key LineFault.NotObject = None
fault_key LineFault.NoKind = None
fault_key (LineFault.Bad key) = Some key
fault_key (LineFault.Missing key) = Some key
fault_key LineFault.NoMemory = None

-- the fault is the one that reading gives, where it isn't want of memory
abbrev pub Fails : {X : Type 0} → LineFault → Result X LineFault → Type 0
Fails LineFault.NoMemory read = Unit {0}
Fails LineFault.TooLong read = read ≡ Err LineFault.TooLong
Fails LineFault.NotJson read = read ≡ Err LineFault.NotJson
Fails LineFault.NotObject read = read ≡ Err LineFault.NotObject
Fails LineFault.NoKind read = read ≡ Err LineFault.NoKind
Fails (LineFault.Bad key) read = read ≡ Err (LineFault.Bad key)
Fails (LineFault.Missing key) read = read ≡ Err (LineFault.Missing key)

-- what was returned is what reading gives, value or fault, unless memory ran out
abbrev pub Gives : {X : Type 0} → Result X LineFault → Result X LineFault → Type 0
Gives (Ok x) read = read ≡ Ok x
Gives (Err fault) read = Fails fault read

-- what comes next, unless there was a fault
infixl 10 ◌>>=◌
abbrev pub ◌>>=◌ : {A B : Type 0} → Result A LineFault → (A → Result B LineFault) → Result B LineFault
(Ok x) >>= next = next x
(Err fault) >>= next = Err fault
