-- Asks and their texts.
use Rattle.std.specs.Prelude.{ℕ, List, [], ◌∷◌, ◌++◌, codes, decimal, Option, Some, None}
use Rattle.nsi_base.specs.Words.{behind}
use Rattle.nsi_primitive.specs.declared.ask.Ask.{Ask}
use Rattle.nsi_primitive.specs.declared.ask.What.{What}
use Rattle.nsi_primitive.specs.declared.ask.ReserveAsk.{ReserveAsk}
use Rattle.nsi_primitive.specs.declared.ask.NumbersAsked.{NumbersAsked}
use Rattle.nsi_primitive.specs.declared.kind.Directionality.{Directionality}

-- the first word of an ask
unfoldable pub verb_of : What → List ℕ
verb_of (What.Reserve r) = codes "reserve"
verb_of What.Commit = codes "commit"
verb_of What.Abort = codes "abort"
verb_of What.Provision = codes "provision"
verb_of What.Release = codes "release"
verb_of What.Terminate = codes "terminate"
verb_of What.Summary = codes "summary"
verb_of (What.Notifications numbers) = codes "notifications"
verb_of (What.Results numbers) = codes "results"
verb_of What.Recursive = codes "recursive"

abbrev pub label_words : Option (List ℕ) → List (List ℕ)
label_words None = []
label_words (Some label) = label ∷ []

abbrev pub version_words : Option ℕ → List (List ℕ)
version_words None = []
version_words (Some version) = decimal version ∷ []

-- traffic goes both ways where nothing else is said
abbrev pub way_words : Directionality → List (List ℕ)
way_words Directionality.Bidirectional = []
way_words Directionality.Unidirectional = codes "one" ∷ []

abbrev pub numbers_words : Option NumbersAsked → List (List ℕ)
numbers_words None = []
numbers_words (Some numbers) = decimal numbers.from ∷ decimal numbers.to ∷ []

abbrev pub reserve_words : ReserveAsk → List (List ℕ)
reserve_words r = r.source ∷ r.dest ∷ decimal r.capacity ∷ decimal r.start ∷ decimal r.end ∷ (version_words r.version ++ way_words r.directionality)

-- the words behind the label
abbrev pub what_words : What → List (List ℕ)
what_words (What.Reserve r) = reserve_words r
what_words (What.Notifications numbers) = numbers_words numbers
what_words (What.Results numbers) = numbers_words numbers
what_words _ = []

-- the text of an ask: its words, each behind a space but the first
abbrev pub ask_text : Ask → List ℕ
ask_text a = verb_of a.what ++ (behind (label_words a.label) ++ behind (what_words a.what))
