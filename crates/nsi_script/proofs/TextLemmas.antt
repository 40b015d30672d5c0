-- A text, line by line.
use Rattle.std.proofs.Common.{◌≡◌, ℕ, ◌+◌, List, [], ◌∷◌, length, sym, ◌∙◌, ap, arith, Result, Ok, Err}
use Rattle.nsi_base.specs.Lines.{lines_of}
use Rattle.nsi_base.proofs.CutLine.{no_lines}
use Rattle.stp_topology.specs.declared.network.Network.{Network}
use Rattle.nsi_script.specs.declared.fault.ScriptFault.{ScriptFault}
use Rattle.nsi_script.specs.declared.script.Script.{Script}
use Rattle.nsi_script.specs.Text.{of_line, onward, read_lines}

abbrev Answer : Type 0
Answer = Result Script (ℕ × ScriptFault)

module _ (t : Network) (s : Script) (n m : ℕ) (rest line tail : List ℕ) (all : Answer) (cut : lines_of rest ≡ line ∷ lines_of tail) (next : m ≡ n + 1) (same : read_lines t s n (lines_of rest) ≡ all) where
  one_line : (read : Result Script ScriptFault) → of_line t s line ≡ read → onward n read (λ new. read_lines t new m (lines_of tail)) ≡ all
  unfolding read_lines
  one_line read e =
      ap (λ r. onward n r (λ new. read_lines t new m (lines_of tail))) (sym e)
      ∙ ap (λ k. onward n (of_line t s line) (λ new. read_lines t new k (lines_of tail))) next
      ∙ ap (read_lines t s n) (sym cut) ∙ same

  pub goes_on : (new : Script) → of_line t s line ≡ Ok new → read_lines t new m (lines_of tail) ≡ all
  goes_on new e = one_line (Ok new) e

  pub fails : (fault : ScriptFault) → of_line t s line ≡ Err fault → all ≡ Err (n, fault)
  fails fault e = sym (one_line (Err fault) e)

pub at_end : (t : Network) (s : Script) (n : ℕ) (rest : List ℕ) (all : Answer) → length rest ≡ 0 → read_lines t s n (lines_of rest) ≡ all → all ≡ Ok s
unfolding read_lines
at_end t s n [] all z h = sym h ∙ ap (read_lines t s n) no_lines
at_end t s n (b ∷ bs) all z h = absurd (omega arith)
