-- How open queries are found: by the correlationIds under which their children were asked. What is named besides means nothing.
use Rattle.std.specs.Prelude.{◌≡◌, ℕ, Bool, List, [], ◌∷◌, Option, Some, None, slice_get, nat_lt, if◌then◌else◌, ⊤}
use Rattle.std.specs.BTreeMap.{is_at}
use Rattle.std.specs.List.{All, Contains}
use Rattle.std.specs.Map.{lookup}
use Rattle.std.specs.Option.{option_map}
use Rattle.std.specs.Ordering.{nat_cmp}
use Rattle.connection_record.specs.declared.record.Record.{Record}
use Rattle.id_index.specs.declared.IdPlace.{IdPlace}
use Rattle.agent_state.specs.declared.parent.OpenQuery.{OpenQuery}
use Rattle.agent_state.specs.declared.parent.Part.{Part}
use Rattle.aggregator_agent.specs.declared.open_queries.Awaited.{Awaited}
use Rattle.aggregator_agent.specs.Below.{asked_place}
use Rattle.aggregator_agent.specs.Indexed.{id_at}

---- Names

-- a child that was asked and hasn't answered: the query's number is named by the correlationId
abbrev pub IsPartNamed : List IdPlace → ℕ → Part → Type 0
IsPartNamed ids number (Part.Asked c) = Contains ids (id_at c number)
IsPartNamed ids number _ = ⊤

abbrev pub IsQueryNamed : List IdPlace → ℕ × OpenQuery → Type 0
IsQueryNamed ids e = All (IsPartNamed ids e.0) e.1.parts

abbrev pub AreQueriesNamed : List IdPlace → List (ℕ × OpenQuery) → Type 0
AreQueriesNamed ids es = All (IsQueryNamed ids) es

-- whatever names one query names the other
abbrev pub AsksNoMore : OpenQuery → OpenQuery → Type 0
AsksNoMore q old = (ids : List IdPlace) (number : ℕ) → All (IsPartNamed ids number) old.parts → All (IsPartNamed ids number) q.parts

---- The query that waits

-- the part of a query that waits for an answer under the correlation, where its connection is there
abbrev pub part_there : Option Record → ℕ → OpenQuery → Option ℕ
part_there None c q = None
part_there (Some own) c q = asked_place c q

abbrev pub waiting_part : ℕ → List Record → OpenQuery → Option ℕ
waiting_part c records q = part_there (slice_get records q.place) c q

abbrev pub awaited_in : ℕ → List Record → ℕ → Option OpenQuery → Option Awaited
awaited_in c records number None = None
awaited_in c records number (Some q) = option_map (λ n. record { number = number; part = n }) (waiting_part c records q)

-- the part of the query of a number
abbrev pub awaited_at : ℕ → List Record → List (ℕ × OpenQuery) → ℕ → Option Awaited
awaited_at c records es number = awaited_in c records number (lookup (is_at (nat_cmp number)) es)

abbrev pub or_behind : Option Awaited → Option Awaited → Option Awaited
or_behind None rest = rest
or_behind (Some a) rest = Some a

-- the first one that waits
unfoldable pub first_awaited : ℕ → List Record → List (ℕ × OpenQuery) → Option Awaited
first_awaited c records [] = None
first_awaited c records (e ∷ es) = or_behind (awaited_in c records e.0 (Some e.1)) (first_awaited c records es)

abbrev pub lesser : Option Awaited → Option Awaited → Option Awaited
lesser None b = b
lesser (Some x) None = Some x
lesser (Some x) (Some y) = if nat_lt y.number x.number then Some y else Some x

-- the one of the least number, of some numbers and one that was found before
unfoldable pub least_awaited : ℕ → List Record → List (ℕ × OpenQuery) → Option Awaited → List ℕ → Option Awaited
least_awaited c records es least [] = least
least_awaited c records es least (n ∷ ns) = least_awaited c records es (lesser least (awaited_at c records es n)) ns
