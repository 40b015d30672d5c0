use Rattle.std.proofs.Common.{◌≡◌, ◌+◌, ◌≤◌, length}
use Rattle.nsi_base.specs.Lines.{lines_of}
use Rattle.stp_topology.specs.Network.{nothing}
use Rattle.stp_topology.specs.Text.{read_lines, behind_lines}
use Rattle.topology_input.proofs.read_declared.Given as goal

abbrev pub invariant-lines : goal.invariant-lines
invariant-lines l = record {
  same : read_lines l.topology l.before (lines_of l.rest) ≡ read_lines nothing 0 (lines_of l.text);
  place : behind_lines l.before l.text ≡ l.rest;
  few : l.before + length l.rest ≤ length l.text;
}

abbrev pub decreases-lines : goal.decreases-lines
decreases-lines l = length l.rest
