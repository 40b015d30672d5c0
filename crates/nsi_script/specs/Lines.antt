-- What each line of a script says.
use Rattle.std.specs.Prelude.{ℕ, List, [], ◌∷◌, ◌++◌, Bool, true, false, ◌||◌, not, ◌==◌, nat_le, nat_lt, if◌then◌else◌, length, get_or, Option, Some, None, Result, Ok, Err, codes}
use Rattle.std.specs.List.{list_any}
use Rattle.std.specs.Str.{bytes_eq}
use Rattle.nsi_base.specs.Range.{greatest_second, greatest_record}
use Rattle.nsi_primitive.specs.declared.ask.Ask.{Ask}
use Rattle.agent_link.specs.declared.plan.How.{How}
use Rattle.agent_link.specs.declared.plan.How.TheVariants.{Lose, Repeat}
use Rattle.agent_link.specs.declared.plan.LinkFault.{LinkFault}
use Rattle.nsi_disk.specs.declared.plan.Stop.{Stop}
use Rattle.stp_topology.specs.declared.network.Network.{Network}
use Rattle.stp_topology.specs.declared.network.AgentKind.{AgentKind}
use Rattle.stp_topology.specs.declared.network.AgentKind.TheVariants.{Provider, Requester}
use Rattle.stp_topology.specs.Network.{agent_of, kind_of, children_of}
use Rattle.nsi_script.specs.declared.fault.ScriptFault.{ScriptFault}
use Rattle.nsi_script.specs.declared.fault.ScriptFault.TheVariants as faults
use Rattle.nsi_script.specs.declared.form.Sort.{Sort}
use Rattle.nsi_script.specs.declared.form.Sort.TheVariants as sorts
use Rattle.nsi_script.specs.declared.script.Act.{Act}
use Rattle.nsi_script.specs.declared.script.Group.{Group}
use Rattle.nsi_script.specs.declared.script.PlanLine.{PlanLine}
use Rattle.nsi_script.specs.declared.script.Script.{Script}
use Rattle.nsi_script.specs.declared.script.StopLine.{StopLine}
use Rattle.nsi_script.specs.Faults.{◌>>=◌, value_or, demand}
use Rattle.nsi_script.specs.Plans.{is_planned, is_stopped}
use Rattle.nsi_script.specs.Scripts.{is_reserve, is_reserved, asks_of, last_second, group_at, with_act}
use Rattle.nsi_script.specs.Words.{name_form, number_form, ask_form, parcel_form, image_form}

-- asks of a script, at most
abbrev pub greatest_asks : ℕ
greatest_asks = 100000

-- whether an agent is of the sort
abbrev pub is_of : Sort → Option AgentKind → Bool
is_of sorts.OneRequester (Some (Requester provider)) = true
is_of sorts.OneProvider (Some (Provider hold)) = true
is_of sorts.Any kind = true
is_of sort kind = false

-- the agent of that name, where it is of that sort
unfoldable pub known_agent : Network → Sort → List ℕ → Result ℕ ScriptFault
known_agent t sort name = do
  a ← value_or faults.Agent (agent_of t name)
  if is_of sort (kind_of t a) then Ok a else Err faults.Agent

abbrev pub is_requester_of : ℕ → Option AgentKind → Bool
is_requester_of b (Some (Requester provider)) = provider == b
is_requester_of b kind = false

-- whether an agent sends requests to another: a requester to its provider, an aggregator to its children
abbrev pub is_asking : Network → ℕ → ℕ → Bool
is_asking t a b = is_requester_of b (kind_of t a) || list_any (λ child. child == b) (children_of t a)

-- whether two agents have a link
abbrev pub is_linked : Network → ℕ → ℕ → Bool
is_linked t a b = is_asking t a b || is_asking t b a

-- one of the words
abbrev pub word : List (List ℕ) → ℕ → List ℕ
word words i = get_or words i []

-- plans stand in front of the first group
abbrev pub is_begun : Script → Bool
is_begun s = not (length s.groups == 0)

-- `at T`
unfoldable pub add_at : Script → List (List ℕ) → Result Script ScriptFault
add_at s args = do
  whole ← demand (length args == 1) faults.Word
  at ← number_form 0 greatest_second (word args 0)
  rising ← demand (nat_le (last_second s.groups) at) faults.Time
  Ok (record s { groups = s.groups ++ group_at at ∷ [] })

-- an act of the last group
unfoldable pub put_act : Script → Act → Result Script ScriptFault
put_act s act = do
  begun ← demand (is_begun s) faults.Time
  Ok (record s { groups = with_act s.groups act })

abbrev pub is_label_known : List Group → ℕ → Option (List ℕ) → Bool
is_label_known groups agent None = true
is_label_known groups agent (Some label) = is_reserved groups agent label

-- an ask is about what that requester has reserved before, or reserves
abbrev pub is_told : List Group → ℕ → Ask → Bool
is_told groups agent ask = is_reserve ask.what || is_label_known groups agent ask.label

-- whether an ask may be one more
abbrev pub accepted : Script → ℕ → Ask → Result Bool ScriptFault
accepted s agent ask = do
  begun ← demand (is_begun s) faults.Time
  told ← demand (is_told s.groups agent ask) faults.Label
  demand (nat_lt (asks_of s.groups) greatest_asks) faults.Limit

unfoldable pub put_ask : Script → ℕ → Ask → Result Script ScriptFault
put_ask s agent ask = do
  few ← accepted s agent ask
  Ok (record s { groups = with_act s.groups (Act.Ask agent ask) })

unfoldable pub ask_of : Network → Script → List ℕ → List (List ℕ) → Result Script ScriptFault
ask_of t s requester words = do
  name ← name_form requester
  ask ← ask_form words
  agent ← known_agent t sorts.OneRequester name
  put_ask s agent ask

-- `ask REQUESTER WHAT`
abbrev pub add_ask : Network → Script → List (List ℕ) → Result Script ScriptFault
add_ask t s [] = Err faults.Word
add_ask t s (requester ∷ words) = ask_of t s requester words

-- `force PROVIDER N`
unfoldable pub add_force : Network → Script → List (List ℕ) → Result Script ScriptFault
add_force t s args = do
  whole ← demand (length args == 2) faults.Word
  name ← name_form (word args 0)
  number ← number_form 0 greatest_record (word args 1)
  agent ← known_agent t sorts.OneProvider name
  put_act s (Act.Force agent number)

-- `restart AGENT`
unfoldable pub add_restart : Network → Script → List (List ℕ) → Result Script ScriptFault
add_restart t s args = do
  whole ← demand (length args == 1) faults.Word
  name ← name_form (word args 0)
  agent ← known_agent t sorts.Any name
  put_act s (Act.Restart agent)

abbrev pub plan_line : LinkFault → ℕ → ℕ → PlanLine
plan_line fault from to = record { from = from; to = to; fault = fault }

abbrev pub is_planned_for : List PlanLine → LinkFault → Option ℕ → Option ℕ → Bool
is_planned_for lines fault (Some from) (Some to) = is_planned lines (plan_line fault from to)
is_planned_for lines fault from to = false

-- `lose FROM TO KIND N`, `repeat FROM TO KIND N`
unfoldable pub add_plan : Network → Script → How → List (List ℕ) → Result Script ScriptFault
add_plan t s how args = do
  whole ← demand (length args == 4) faults.Word
  early ← demand (not (is_begun s)) faults.Word
  from_name ← name_form (word args 0)
  to_name ← name_form (word args 1)
  of ← parcel_form (word args 2)
  nth ← number_form 1 18446744073709551615 (word args 3)
  new ← demand (not (is_planned_for s.lose (record { of = of; nth = nth; how = how }) (agent_of t from_name) (agent_of t to_name))) faults.Word
  from ← known_agent t sorts.Any from_name
  to ← known_agent t sorts.Any to_name
  linked ← demand (is_linked t from to) faults.Agent
  Ok (record s { lose = s.lose ++ plan_line (record { of = of; nth = nth; how = how }) from to ∷ [] })

abbrev pub stop_line : Stop → ℕ → StopLine
stop_line stop agent = record { agent = agent; stop = stop }

abbrev pub is_stopped_for : List StopLine → Stop → Option ℕ → Bool
is_stopped_for lines stop None = false
is_stopped_for lines stop (Some agent) = is_stopped lines (stop_line stop agent)

-- `stop AGENT N IMAGE`
unfoldable pub add_stop : Network → Script → List (List ℕ) → Result Script ScriptFault
add_stop t s args = do
  whole ← demand (length args == 3) faults.Word
  early ← demand (not (is_begun s)) faults.Word
  name ← name_form (word args 0)
  call ← number_form 1 18446744073709551615 (word args 1)
  image ← image_form (word args 2)
  new ← demand (not (is_stopped_for s.stops (record { call = call; image = image }) (agent_of t name))) faults.Word
  agent ← known_agent t sorts.Any name
  Ok (record s { stops = s.stops ++ stop_line (record { call = call; image = image }) agent ∷ [] })

-- by the first word
unfoldable pub by_verb : Network → Script → List ℕ → List (List ℕ) → Result Script ScriptFault
by_verb t s verb args =
    if bytes_eq verb (codes "ask") then add_ask t s args
    else if bytes_eq verb (codes "at") then add_at s args
    else if bytes_eq verb (codes "force") then add_force t s args
    else if bytes_eq verb (codes "restart") then add_restart t s args
    else if bytes_eq verb (codes "lose") then add_plan t s Lose args
    else if bytes_eq verb (codes "repeat") then add_plan t s Repeat args
    else if bytes_eq verb (codes "stop") then add_stop t s args
    else Err faults.Word

-- the script after a line of words, or the line's first fault
abbrev pub line_of : Network → Script → List (List ℕ) → Result Script ScriptFault
line_of t s [] = Err faults.Word
line_of t s (verb ∷ args) = by_verb t s verb args
