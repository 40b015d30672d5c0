-- Scripts, and what is asked of them.
use Rattle.std.specs.Prelude.{ℕ, ◌-◌, List, [], ◌∷◌, ◌++◌, Bool, true, false, ◌&&◌, ◌==◌, length, map, get_or, count_by, Option, Some, None}
use Rattle.std.specs.List.{list_any}
use Rattle.std.specs.Str.{bytes_eq}
use Rattle.nsi_primitive.specs.declared.ask.What.{What}
use Rattle.nsi_script.specs.declared.script.Act.{Act}
use Rattle.nsi_script.specs.declared.script.Group.{Group}
use Rattle.nsi_script.specs.declared.script.Script.{Script}

-- a script that says nothing
abbrev pub nothing : Script
nothing = record { lose = []; stops = []; groups = [] }

-- all acts, in order
abbrev pub acts_of : List Group → List Act
acts_of [] = []
acts_of (g ∷ gs) = g.acts ++ acts_of gs

abbrev pub is_ask : Act → Bool
is_ask (Act.Ask agent ask) = true
is_ask act = false

-- how many asks there are
abbrev pub asks_of : List Group → ℕ
asks_of groups = count_by is_ask (acts_of groups)

abbrev pub is_reserve : What → Bool
is_reserve (What.Reserve r) = true
is_reserve what = false

abbrev pub has_label : List ℕ → Option (List ℕ) → Bool
has_label label None = false
has_label label (Some own) = bytes_eq label own

-- the act asks that requester for a reserve of that label
abbrev pub reserves : ℕ → List ℕ → Act → Bool
reserves agent label (Act.Ask own ask) = (agent == own) && (is_reserve ask.what && has_label label ask.label)
reserves agent label act = false

-- whether the requester reserves something of that label
abbrev pub is_reserved : List Group → ℕ → List ℕ → Bool
is_reserved groups agent label = list_any (reserves agent label) (acts_of groups)

-- the seconds of the groups
abbrev pub seconds_of : List Group → List ℕ
seconds_of groups = map (λ g. g.at) groups

-- the second of the last group; the first second where there is none
abbrev pub last_second : List Group → ℕ
last_second groups = get_or (seconds_of groups) (length groups - 1) 0

-- a group that begins
abbrev pub group_at : ℕ → Group
group_at second = record { at = second; acts = [] }

-- the last group with one act more
abbrev pub with_act : List Group → Act → List Group
with_act [] act = []
with_act (g ∷ []) act = record g { acts = g.acts ++ act ∷ [] } ∷ []
with_act (g ∷ (h ∷ gs)) act = g ∷ with_act (h ∷ gs) act
