-- Moments of a trace: the second of each agent, and how many asks came; and which events are of a moment.
use Rattle.std.specs.Prelude.{◌≡◌, ℕ, ◌+◌, List, [], ◌∷◌, ◌++◌}
use Rattle.nsi_primitive.specs.declared.entry.Entry.{Entry}
use Rattle.nsi_primitive.specs.declared.entry.Event.{Event}
use Rattle.nsi_primitive.specs.declared.entry.Happening.{Happening}
use Rattle.nsi_primitive.specs.declared.entry.Input.{Input}
use Rattle.stp_topology.specs.declared.network.Network.{Network}
use Rattle.trace_text.specs.Lines.{HasLine, line_of}

-- a tick may bring any second; whatever else is taken, is taken at the second of its agent
abbrev pub IsTimely : Input → (second now : ℕ) → Type 0
IsTimely Input.Tick second now = Unit {0}
IsTimely _ second now = second ≡ now

-- an ask has the next number
abbrev pub IsNumbered : Input → (asks : ℕ) → Type 0
IsNumbered (Input.Ask number ask) asks = number ≡ asks
IsNumbered _ asks = Unit {0}

-- an entry of an agent, whose second is now, after so many asks
pub record IsTakenNow (now asks : ℕ) (e : Entry) : Type 0 where
  pub timely : IsTimely e.input e.second now
  pub numbered : IsNumbered e.input asks

abbrev pub HappensNow : (now asks : ℕ) → Happening → Type 0
HappensNow now asks (Happening.Entry entry answer) = IsTakenNow now asks entry
HappensNow now asks _ = Unit {0}

-- the event is of the moment at which the agents have these seconds, and so many asks came
abbrev pub IsOfMoment : (seconds : ℕ → ℕ) (asks : ℕ) → Event → Type 0
IsOfMoment seconds asks e = HappensNow (seconds e.agent) asks e.what

-- the line, with a line feed behind it, is the print of an event of that moment
pub record IsEventOf (t : Network) (seconds : ℕ → ℕ) (asks : ℕ) (line : List ℕ) (e : Event) : Type 0 where
  pub has_line : HasLine t e
  pub of_moment : IsOfMoment seconds asks e
  pub printed : line_of t e ≡ line ++ 10 ∷ []
