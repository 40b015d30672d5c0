-- The run that lines make of a provider, and the text of its messages.
use Rattle.std.specs.Prelude.{◌≡◌, ℕ, ◌+◌, List, [], ◌∷◌, ◌++◌, map, length, drop, Option, Some, None, Result, Ok, Err}
use Rattle.std.specs.List.{All, concat, flat_map}
use Rattle.nsi_primitive.specs.Printable.{IsPrintableEntry}
use Rattle.nsi_primitive.specs.declared.entry.Entry.{Entry}
use Rattle.nsi_primitive.specs.declared.message.Message.{Message}
use Rattle.provide_command.specs.declared.payload.PayloadFault.{PayloadFault}
use Rattle.json_primitives.specs.Spelling.{spelling}
use Rattle.stp_topology.specs.declared.network.Network.{Network}
use Rattle.stp_topology.specs.Network.{nothing, first_provider, name_of}
use Rattle.stp_topology.specs.Text.{read_lines}
use Rattle.provider_agent.specs.Setting.{Setting, setting_of, own_stp}
use Rattle.provider_agent.specs.Runs.{after_all}
use Rattle.provider_agent.specs.Safety.{IsRun, IsSafe}
use Rattle.provider_agent.specs.State.{State}
use Rattle.provider_agent.specs.Steps.{waiting_work}
use Rattle.provider_run.specs.Works.{with_works}
use Rattle.provide_command.specs.Phases.{Reading}
use Rattle.provide_command.specs.Serving.{state_from}
use Rattle.provide_command.specs.Outcome.{journal_fault}
use Rattle.provide_command.specs.Receiving.{received}
use Rattle.provide_command.specs.Lines.{as_line, payload, long_line}
use Rattle.provide_command.specs.declared.receiving.Received.{Received}
use Rattle.provide_command.specs.declared.status.Status.{Status}

-- the entries of a line: the one that it says, and all work that waits then
abbrev pub entries_of : Setting → (List ℕ → Option ℕ) → State → Received → List Entry
entries_of setting stp_of s (Received.Entry e) = with_works setting stp_of s e
entries_of setting stp_of s h = []

-- the entries of lines, one line after another
unfoldable pub run_of : Setting → (List ℕ → Option ℕ) → State → List (List ℕ) → List Entry
run_of setting stp_of s [] = []
run_of setting stp_of s (line ∷ lines) = entries_of setting stp_of s (received s line) ++ run_of setting stp_of (after_all setting stp_of s (entries_of setting stp_of s (received s line))).state lines

-- entries and one sync behind them
abbrev pub with_sync : List Entry → ℕ
with_sync [] = 0
with_sync (e ∷ es) = length (e ∷ es) + 1

-- how many events lines make
unfoldable pub events_of : Setting → (List ℕ → Option ℕ) → State → List (List ℕ) → ℕ
events_of setting stp_of s [] = 0
events_of setting stp_of s (line ∷ lines) =
    with_sync (entries_of setting stp_of s (received s line)) + events_of setting stp_of (after_all setting stp_of s (entries_of setting stp_of s (received s line))).state lines

---- The text

-- a line of the text: a message, or the fault of the line of that number
abbrev pub Piece : Type 0
Piece = Result Message (ℕ × PayloadFault)

abbrev pub piece_text : Piece → List ℕ
piece_text (Ok m) = as_line (spelling m)
piece_text (Err fault) = payload fault.0 fault.1

abbrev pub said : Piece → List Message
said (Ok m) = m ∷ []
said (Err fault) = []

-- the text is the lines of the messages in their order, with lines of faults between them
abbrev pub IsWoven : List Message → List ℕ → Type 0
IsWoven messages text = (pieces : List Piece) × (messages ≡ flat_map said pieces) × (text ≡ concat (map piece_text pieces))

-- What lines make of a provider in a state is a run in which no load passes a capacity, the versions of each record rise, and a refusal for
-- bandwidth names the first lack; no work waits at its end, where none waited before, and the text has all its messages.
pub record IsSafeText (setting : Setting) (stp_of : List ℕ → Option ℕ) (s : State) (lines : List (List ℕ)) (text : List ℕ) : Type 0 where
  pub run : IsRun setting stp_of s (run_of setting stp_of s lines)
  pub safe : IsSafe setting stp_of s (run_of setting stp_of s lines)
  pub idle : waiting_work s ≡ None → waiting_work (after_all setting stp_of s (run_of setting stp_of s lines)).state ≡ None
  pub woven : IsWoven (after_all setting stp_of s (run_of setting stp_of s lines)).out text

-- all lines are served, or some of them and then there is too much
pub data IsServed (setting : Setting) (stp_of : List ℕ → Option ℕ) (s : State) (lines : List (List ℕ)) (status : Status) (text : List ℕ) : Type 0 where
  served_all : status ≡ Status.Done → IsSafeText setting stp_of s lines text → IsServed setting stp_of s lines status text
  served_some : (front back : List (List ℕ)) → (body : List ℕ) → lines ≡ front ++ back → status ≡ Status.Long → IsSafeText setting stp_of s front body → text ≡ body ++ long_line
      → IsServed setting stp_of s lines status text

-- so `provide` serves lines behind a journal that reads so; the entries of a journal can be printed, as its reader promises
abbrev pub ServesRead : Reading → Network → ℕ → List (List ℕ) → Status → List ℕ → Type 0
ServesRead (Ok es) t provider lines status text = All IsPrintableEntry es → IsServed (setting_of t provider) (own_stp t provider) (state_from t provider es).state lines status text
ServesRead (Err place) t provider lines status text = (status ≡ Status.NotAJournal) × (text ≡ journal_fault (name_of t provider) place)

-- So `provide` serves the lines behind a topology that has a provider: what it writes, and how it ends.
abbrev pub ServesSafely : Reading → List (List ℕ) → Status → List ℕ → Type 0
ServesSafely read lines status text =
    (t : Network) (n provider : ℕ) → read_lines nothing 0 lines ≡ Ok (t, n) → first_provider t ≡ Some provider → ServesRead read t provider (drop n lines) status text

-- where none of the lines ends the command, the journal was read
abbrev pub RunsRead : Reading → Network → ℕ → List (List ℕ) → List ℕ → Type 0
RunsRead (Ok es) t provider lines text = All IsPrintableEntry es → IsSafeText (setting_of t provider) (own_stp t provider) (state_from t provider es).state lines text
RunsRead (Err place) t provider lines text = ⊥

-- Where none of the lines ends the command, and they begin with a topology that has a provider, the others are all served.
abbrev pub RunsSafely : Reading → List (List ℕ) → List ℕ → Type 0
RunsSafely read lines text =
    (t : Network) (n provider : ℕ) → read_lines nothing 0 lines ≡ Ok (t, n) → first_provider t ≡ Some provider → RunsRead read t provider (drop n lines) text
