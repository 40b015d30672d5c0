-- What a reader of lines holds.
use Rattle.std.specs.Prelude.{◌≡◌, ◌≢◌, ◌<◌, ◌⊎◌, ℕ, ◌+◌, suc, List, [], ◌++◌, length, take, drop, true, false, Option, Some, None, option_map, IfSome}
use Rattle.nsi_base.specs.Lines.{feed_at, without_return}
use Rattle.line_reader.specs.Given.{Given, given_of, IsSame, TakesLine, IsAtEnd}
use Rattle.line_reader.specs.declared.reader.Next.{Next}
use Rattle.line_reader.specs.declared.fill.Filled.{Filled}

-- the bytes that were read and not yet handed out, and how many more may be read
pub record Held : Type 0 where
  pub bytes : List ℕ
  pub room : ℕ

-- how many bytes may still be handed out
abbrev pub budget : Held → ℕ
budget held = length held.bytes + held.room

-- what is still to come: what is held, and what the source has left
unfoldable pub to_come : Held → Option (List ℕ) → Option Given
to_come held left = option_map (λ more. given_of (budget held) (held.bytes ++ more)) left

-- the bytes that are not handed out yet: those that are held, and those that the source has left
abbrev pub rest_of : Held → Option (List ℕ) → Option (List ℕ)
rest_of held left = option_map (λ more. held.bytes ++ more) left

-- the first line of the bytes without its end, and the bytes behind it; only the last line may have no end
abbrev pub IsFirstLine : List ℕ → List ℕ → List ℕ → Type 0
IsFirstLine bytes line rest =
    ((i : ℕ) × (feed_at bytes ≡ Some i) × (line ≡ without_return (take i bytes)) × (rest ≡ drop (suc i) bytes))
    ⊎ ((feed_at bytes ≡ None) × (bytes ≢ []) × (line ≡ bytes) × (rest ≡ []))

-- the line was cut off the bytes that were not handed out yet
abbrev pub CutsLine : Option (List ℕ) → Option (List ℕ) → List ℕ → Type 0
CutsLine old new line = IfSome old (λ bytes. (rest : List ℕ) × (new ≡ Some rest) × IsFirstLine bytes line rest)

-- taking a line cuts it off
abbrev pub Cuts : Option (List ℕ) → Option (List ℕ) → Next → Type 0
Cuts old new (Next.Line line) = CutsLine old new line.items
Cuts old new _ = Unit {0}

-- what taking the next line answers, by what was to come before and is to come now
abbrev pub Takes : Option Given → Option Given → Next → Type 0
Takes old new (Next.Line line) = TakesLine old new line.items
Takes old new Next.End = IsAtEnd old false
Takes old new Next.Long = IsAtEnd old true

-- what reading on does
abbrev pub Fills : Held → Option (List ℕ) → Held → Option (List ℕ) → Filled → Type 0
Fills old left new now Filled.More = IsSame (to_come old left) (to_come new now) × (budget new ≡ budget old) × (new.room < old.room) × IsSame (rest_of old left) (rest_of new now)
Fills old left new now Filled.End = (new ≡ old) × IfSome left (λ bytes. (bytes ≡ []) × (now ≡ Some []))
Fills old left new now Filled.Full = (new ≡ old) × (old.room ≡ 0) × IfSome left (λ bytes. (bytes ≡ []) → ⊥)
