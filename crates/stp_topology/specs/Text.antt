-- A topology as a text.
use Rattle.std.specs.Prelude.{◌≡◌, ℕ, zero, suc, ◌+◌, ◌-◌, List, [], ◌∷◌, Bool, ◌||◌, ◌==◌, if◌then◌else◌, length, Result, Ok, Err, codes, get_or}
use Rattle.std.specs.Str.{bytes_eq}
use Rattle.nsi_base.specs.declared.words.Blanks.TheVariants.{SpaceOrTab}
use Rattle.nsi_base.specs.Lines.{lines_of, feed_at, behind_feed}
use Rattle.nsi_base.specs.Words.{words_of}
use Rattle.stp_topology.specs.declared.fault.TopologyFault.{TopologyFault}
use Rattle.stp_topology.specs.declared.fault.TopologyFault.TheVariants.{Word, Empty}
use Rattle.stp_topology.specs.declared.fault.TopologyRefusal.{TopologyRefusal}
use Rattle.stp_topology.specs.declared.fault.TopologyRefusal.TheVariants.{Fault, NoMemory}
use Rattle.stp_topology.specs.declared.topology.Taken.{Taken}
use Rattle.stp_topology.specs.declared.topology.Taken.TheVariants.{More, Whole}
use Rattle.stp_topology.specs.Faults.{◌>>=◌}
use Rattle.stp_topology.specs.Lines.{line_of}
use Rattle.stp_topology.specs.Network.{Network, nothing}

-- an empty line or a comment
abbrev pub is_skipped : List ℕ → Bool
is_skipped line = length line == 0 || get_or line 0 0 == 35

-- the topology after a line, and whether it is whole
unfoldable pub of_line : Network → List ℕ → Result Taken TopologyFault
of_line t line =
    if is_skipped line then Ok (More t)
    else if bytes_eq line (codes "---") then (if length t.agents == 0 then Err Empty else Ok (Whole t))
    else line_of t (words_of SpaceOrTab line) >>= λ new. Ok (More new)

-- what a line makes of the reading, which goes on where more is to come
abbrev pub onward : ℕ → Result Taken TopologyFault → (Network → Result (Network × ℕ) (ℕ × TopologyFault)) → Result (Network × ℕ) (ℕ × TopologyFault)
onward number (Ok (More t)) next = next t
onward number (Ok (Whole t)) next = Ok (t, number)
onward number (Err fault) next = Err (number, fault)

-- the topology and the number of its last line, or the number of the first faulty line and its fault; so many lines stand before
unfoldable pub read_lines : Network → ℕ → List (List ℕ) → Result (Network × ℕ) (ℕ × TopologyFault)
read_lines t before [] = Err (before + 1, Word)
read_lines t before (line ∷ lines) = onward (before + 1) (of_line t line) (λ new. read_lines new (before + 1) lines)

-- what stands behind that many lines
unfoldable pub behind_lines : ℕ → List ℕ → List ℕ
behind_lines zero text = text
behind_lines (suc n) text = behind_lines n (behind_feed (feed_at text) text)

-- the place behind that many lines
abbrev pub place_behind : List ℕ → ℕ → ℕ
place_behind text n = length text - length (behind_lines n text)

-- the place behind the last line in place of its number
abbrev pub placed : List ℕ → Result (Network × ℕ) (ℕ × TopologyFault) → Result (Network × ℕ) (ℕ × TopologyFault)
placed text (Ok (t, n)) = Ok (t, place_behind text n)
placed text (Err e) = Err e

-- the topology that a text begins with and the place behind it, or the first faulty line
abbrev pub topology_of : List ℕ → Result (Network × ℕ) (ℕ × TopologyFault)
topology_of text = placed text (read_lines nothing 0 (lines_of text))

-- what reading returned is what the text says, unless memory ran out
abbrev pub Reads : Result (Network × ℕ) TopologyRefusal → Result (Network × ℕ) (ℕ × TopologyFault) → Type 0
Reads (Ok x) read = read ≡ Ok x
Reads (Err (Fault line fault)) read = read ≡ Err (line, fault)
Reads (Err NoMemory) read = Unit {0}
