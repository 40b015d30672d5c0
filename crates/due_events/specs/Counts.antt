-- How many entries of a kind there are: in a journal, and among events.
use Rattle.std.specs.Prelude.{ℕ, Bool, true, false, List, length, sum_by, count_by}
use Rattle.nsi_primitive.specs.declared.ask.Ask.{Ask}
use Rattle.nsi_primitive.specs.declared.entry.Entry.{Entry}
use Rattle.nsi_primitive.specs.declared.entry.Event.{Event}
use Rattle.nsi_primitive.specs.declared.entry.Happening.{Happening}
use Rattle.nsi_primitive.specs.declared.entry.Input.{Input}
use Rattle.nsi_agent.specs.Told.{told}
use Rattle.nsi_script.specs.Scripts.{acts_of}
use Rattle.nsi_script.specs.declared.script.Act.{Act}
use Rattle.nsi_script.specs.declared.script.Group.{Group}
use Rattle.nsi_world.specs.Worlds.{Homes, World}

---- Kinds

abbrev pub is_got : Input → Bool
is_got (Input.Got m) = true
is_got input = false

abbrev pub is_acked : Input → Bool
is_acked (Input.Acked i) = true
is_acked input = false

abbrev pub is_work : Input → Bool
is_work (Input.Work n machine) = true
is_work input = false

abbrev pub is_tick : Input → Bool
is_tick Input.Tick = true
is_tick input = false

abbrev pub is_ask : Input → Bool
is_ask (Input.Ask number ask) = true
is_ask input = false

abbrev pub is_force : Input → Bool
is_force (Input.Force n) = true
is_force input = false

---- In a journal

abbrev pub has_kind : (Input → Bool) → Entry → Bool
has_kind kind e = kind e.input

abbrev pub entries_in : (Input → Bool) → List Entry → ℕ
entries_in kind es = count_by (has_kind kind) es

-- in the journals of these agents together
abbrev pub entries_among : (Input → Bool) → World → (agents : List ℕ) → ℕ
entries_among kind w agents = sum_by (λ a. entries_in kind (w.journal a)) agents

-- all entries in the journals of these agents together
abbrev pub held : World → (agents : List ℕ) → ℕ
held w agents = sum_by (λ a. length (w.journal a)) agents

-- all messages that the entries of these agents cause
abbrev pub caused : Homes → World → (agents : List ℕ) → ℕ
caused homes w agents = sum_by (λ a. length (told (homes a) (w.journal a)).out) agents

---- Among events

abbrev pub enters : (Input → Bool) → Happening → Bool
enters kind (Happening.Entry e answer) = kind e.input
enters kind what = false

abbrev pub is_entry_of : (Input → Bool) → Event → Bool
is_entry_of kind e = enters kind e.what

abbrev pub events_in : (Input → Bool) → List Event → ℕ
events_in kind events = count_by (is_entry_of kind) events

---- What asks are worth

-- an ask, by whom it is put to; what else comes is worth nothing
abbrev pub input_worth : (ℕ → Ask → ℕ) → ℕ → Input → ℕ
input_worth worth a (Input.Ask n ask) = worth a ask
input_worth worth a input = 0

abbrev pub ask_worth : (ℕ → Ask → ℕ) → ℕ → Entry → ℕ
ask_worth worth a e = input_worth worth a e.input

-- those in the journals of these agents together
abbrev pub asks_worth : (ℕ → Ask → ℕ) → World → (agents : List ℕ) → ℕ
asks_worth worth w agents = sum_by (λ a. sum_by (ask_worth worth a) (w.journal a)) agents

-- an act
abbrev pub act_worth : (ℕ → Ask → ℕ) → Act → ℕ
act_worth worth (Act.Ask a ask) = worth a ask
act_worth worth act = 0

---- In a script

abbrev pub is_forcing : Act → Bool
is_forcing (Act.Force a n) = true
is_forcing act = false

-- how many forced ends there are
abbrev pub script_forces : List Group → ℕ
script_forces script = count_by is_forcing (acts_of script)

abbrev pub is_restarting : Act → Bool
is_restarting (Act.Restart a) = true
is_restarting act = false

-- how many restarts there are
abbrev pub script_restarts : List Group → ℕ
script_restarts script = count_by is_restarting (acts_of script)
