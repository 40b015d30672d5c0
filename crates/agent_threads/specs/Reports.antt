-- What is written of events.
use Rattle.std.specs.Prelude.{ℕ, List, []}
use Rattle.nsi_primitive.specs.declared.entry.Event.{Event}
use Rattle.stp_topology.specs.declared.network.Network.{Network}
use Rattle.trace_text.specs.Lines.{text_of}
use Rattle.run_totals.specs.declared.report.Report.{Report}

-- a line for each, or nothing where they are only counted
abbrev pub written : Report → Network → List Event → List ℕ
written Report.Trace t events = text_of t events
written Report.Summary t events = []
