-- A journal, of which a front is synced, and what happens to it. Nothing here knows what kind of agent keeps it.
use Rattle.std.specs.Prelude.{◌+◌, List, [], ◌∷◌, ◌++◌, map, length, take, None}
use Rattle.nsi_primitive.specs.declared.entry.Entry.{Entry}
use Rattle.nsi_primitive.specs.declared.entry.Happening.{Happening}
use Rattle.provider_agent.specs.Cuts.{Journal, cut}

abbrev pub all_synced : List Entry → Journal
all_synced es = record { entries = es; synced = length es }

-- what no crash takes away
abbrev pub synced_part : Journal → List Entry
synced_part j = take j.synced j.entries

-- an entry is appended; the first so many are synced; the agent begins again with the first so many, and all are synced then
abbrev pub happens : Journal → Happening → Journal
happens j (Happening.Entry e answer) = record { entries = j.entries ++ e ∷ []; synced = j.synced }
happens j (Happening.Sync count) = record { entries = j.entries; synced = count }
happens j (Happening.Restart count) = all_synced (cut j count)

-- one event after another
unfoldable pub journal_after : Journal → List Happening → Journal
journal_after j [] = j
journal_after j (x ∷ xs) = journal_after (happens j x) xs

-- entries without an answer, one after another
abbrev pub enter : Entry → Happening
enter e = Happening.Entry e None

abbrev pub entered : List Entry → List Happening
entered es = map enter es

-- a batch: entries, and a sync behind them
abbrev pub batch : Journal → List Entry → List Happening
batch j es = entered es ++ Happening.Sync (length j.entries + length es) ∷ []
