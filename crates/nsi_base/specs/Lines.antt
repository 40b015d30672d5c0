-- The lines of a text.
use Rattle.std.specs.Prelude.{ℕ, suc, ◌+◌, ◌-◌, List, [], ◌∷◌, length, get_or, take, drop, Bool, true, false, ◌&&◌, ◌==◌, if◌then◌else◌, Option, Some, None, option_map}

-- a byte in front of the first line; where there is no line, it begins one, if a line needs no end
abbrev pub onto : Bool → ℕ → List (List ℕ) → List (List ℕ)
onto endless b [] = if endless then (b ∷ []) ∷ [] else []
onto endless b (line ∷ lines) = (b ∷ line) ∷ lines

-- whether a line feed comes next
abbrev pub is_at_feed : List ℕ → Bool
is_at_feed [] = false
is_at_feed (b ∷ bs) = b == 10

-- the lines, each up to its line feed; a carriage return before it belongs to the end
unfoldable pub lines_to : (endless : Bool) → List ℕ → List (List ℕ)
lines_to endless [] = []
lines_to endless (b ∷ bs) =
    if b == 10 then [] ∷ lines_to endless bs
    else if (b == 13) && is_at_feed bs then lines_to endless bs
    else onto endless b (lines_to endless bs)

-- the lines of a text, of which the last may have no end
abbrev pub lines_of : List ℕ → List (List ℕ)
lines_of text = lines_to true text

-- the lines of a text that have an end
abbrev pub ended_lines : List ℕ → List (List ℕ)
ended_lines text = lines_to false text

-- where the first line feed stands
unfoldable pub feed_at : List ℕ → Option ℕ
feed_at [] = None
feed_at (b ∷ bs) = if b == 10 then Some 0 else option_map suc (feed_at bs)

-- what stands behind that line feed; without one, nothing
abbrev pub behind_feed : Option ℕ → List ℕ → List ℕ
behind_feed None text = []
behind_feed (Some i) text = drop (i + 1) text

-- a line without the carriage return that belongs to its end
unfoldable pub without_return : List ℕ → List ℕ
without_return line = if get_or line (length line - 1) 0 == 13 then take (length line - 1) line else line
