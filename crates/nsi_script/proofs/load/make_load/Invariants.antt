use Rattle.std.proofs.Common.{◌≡◌, ◌-◌, ◌++◌}
use Rattle.nsi_script.specs.Load.{pairs_from, text_of, load_of}
use Rattle.nsi_script.proofs.load.make_load.Given as goal

abbrev pub invariant-loop-i : goal.invariant-loop-i
invariant-loop-i l = l.text.items ++ text_of (pairs_from l.state l.i (l.fn.size - l.i)) ≡ load_of l.fn.number l.fn.size
