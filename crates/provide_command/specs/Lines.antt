-- What a line behind the topology is answered.
use Rattle.std.specs.Prelude.{ℕ, ◌+◌, List, [], nat_le, map, if◌then◌else◌, Option, Some, None}
use Rattle.std.specs.List.{concat}
use Rattle.nsi_primitive.specs.declared.entry.Entry.{Entry}
use Rattle.nsi_primitive.specs.declared.message.Message.{Message}
use Rattle.json_primitives.specs.Spelling.{spelling}
use Rattle.json_primitives.specs.Payload.{payload_spelling}
pub use Rattle.fault_lines.specs.Lines.{as_line, long_line}
use Rattle.provide_command.specs.Payload.{payload_name, payload_key}
use Rattle.provide_command.specs.declared.payload.PayloadFault.{PayloadFault}
use Rattle.provider_agent.specs.Runs.{after_all}
use Rattle.provider_agent.specs.State.{Stepped}
use Rattle.provider_run.specs.Works.{with_works}
use Rattle.provide_command.specs.Receiving.{received}
use Rattle.provide_command.specs.Serving.{Serving, Served, points_at}
use Rattle.provide_command.specs.declared.receiving.Received.{Received}

-- messages as lines
abbrev pub lines_of_messages : List Message → List ℕ
lines_of_messages messages = concat (map (λ m. as_line (spelling m)) messages)

-- the answer to a line that can't be read or isn't served: its fault, the key of the fault, and the number of the line
abbrev pub payload : ℕ → PayloadFault → List ℕ
payload number fault = as_line (payload_spelling (payload_name fault) (payload_key fault) number)

-- nothing is taken
abbrev pub says : Serving → List ℕ → Option Served
says s text = Some (record { serving = s; entries = []; text = text })

-- after these entries; each that the provider has taken is an event, and so are the others and a sync
abbrev pub served : Serving → List Entry → Stepped → Option Served
served s es x =
    if nat_le (x.state.taken + s.others + 1) s.most then
    Some (record { serving = record s { standing = record s.standing { state = x.state }; others = s.others + 1 }; entries = es; text = lines_of_messages x.out })
    else None

-- an entry, and all work that waits then
abbrev pub batch_with : Serving → Entry → List Entry
batch_with s e = with_works s.standing.setting (points_at s) s.standing.state e

-- an entry is taken, then all work that waits, and one sync stands behind them
unfoldable pub entered : Serving → Entry → Option Served
entered s e = served s (batch_with s e) (after_all s.standing.setting (points_at s) s.standing.state (batch_with s e))

abbrev pub answered : Received → Serving → ℕ → Option Served
answered Received.Nothing s number = says s []
answered (Received.Fault fault) s number = says s (payload number fault)
answered (Received.Entry e) s number = entered s e

-- what a line makes of the provider, and its text, where there aren't too many events
abbrev pub serve : Serving → ℕ → List ℕ → Option Served
serve s number line = answered (received s.standing.state line) s number
