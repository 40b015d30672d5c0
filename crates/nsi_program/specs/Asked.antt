-- What a line behind the topology asks for.
use Rattle.std.specs.Prelude.{◌<◌, ℕ, List, ◌==◌, length, codes, if◌then◌else◌, Option, Some, None, option_and_then}
use Rattle.nsi_base.specs.declared.words.Blanks.TheVariants.{Space}
use Rattle.nsi_base.specs.Words.{words_of}
use Rattle.stp_topology.specs.declared.network.Network.{Network}
use Rattle.stp_topology.specs.Network.{agent_of, stp_of}
use Rattle.stp_topology.specs.Lines.{is_aggregator, is_form, word}
use Rattle.nsi_program.specs.declared.asked.Ask.{Ask}
use Rattle.nsi_program.specs.declared.asked.Wanted.{Wanted}

-- the agent, where it is an aggregator
abbrev pub if_aggregator : Network → ℕ → Option ℕ
if_aggregator t a = if is_aggregator t.kinds a then Some a else None

-- the aggregator of that name
abbrev pub aggregator_of : Network → List ℕ → Option ℕ
aggregator_of t name = option_and_then (if_aggregator t) (agent_of t name)

-- a path is asked for where all three names are known
abbrev pub between : Option ℕ → Option ℕ → Option ℕ → Option Wanted
between (Some a) (Some s) (Some d) = Some (record { aggregator = a; source = s; dest = d })
between a s d = None

-- `path AGGREGATOR SOURCE DEST`
unfoldable pub wanted_of : Network → List (List ℕ) → Option Wanted
wanted_of t words =
    if is_form words 4 (codes "path") then between (aggregator_of t (word words 1)) (stp_of t (word words 2)) (stp_of t (word words 3))
    else None

abbrev pub path_or_bad : Option Wanted → Ask
path_or_bad (Some w) = Ask.Path w
path_or_bad None = Ask.Bad

-- an empty line asks for nothing; words stand between single spaces
unfoldable pub ask_of : Network → List ℕ → Ask
ask_of t line =
    if length line == 0 then Ask.Nothing
    else path_or_bad (wanted_of t (words_of Space line))

-- the source is one of the points
abbrev pub IsWithin : Network → Ask → Type 0
IsWithin t (Ask.Path w) = w.source < length t.stps
IsWithin t ask = Unit {0}
