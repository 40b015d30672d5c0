-- A text, line by line.
use Rattle.std.proofs.Common.{◌≡◌, ℕ, zero, suc, ◌+◌, List, [], ◌∷◌, length, sym, ◌∙◌, refl, ap, arith, Result, Ok, Err}
use Rattle.nsi_base.specs.Lines.{lines_of, feed_at, behind_feed}
use Rattle.nsi_base.proofs.CutLine.{no_lines}
use Rattle.stp_topology.specs.declared.fault.TopologyFault.{TopologyFault}
use Rattle.stp_topology.specs.declared.fault.TopologyFault.TheVariants.{Word}
use Rattle.stp_topology.specs.declared.topology.Taken.{Taken}
use Rattle.stp_topology.specs.declared.topology.Taken.TheVariants.{More, Whole}
use Rattle.stp_topology.specs.Network.{Network}
use Rattle.stp_topology.specs.Text.{of_line, onward, read_lines, behind_lines}

-- one line more
behind_more : (n : ℕ) (text : List ℕ) → behind_lines (suc n) text ≡ behind_feed (feed_at (behind_lines n text)) (behind_lines n text)
unfolding behind_lines
behind_more zero text = refl
behind_more (suc n) text = behind_more n (behind_feed (feed_at text) text)

pub behind_next : (n m : ℕ) (text rest tail : List ℕ) → m ≡ n + 1 → behind_lines n text ≡ rest → tail ≡ behind_feed (feed_at rest) rest → behind_lines m text ≡ tail
behind_next n m text rest tail e r t =
    let more : m ≡ suc n = omega arith in
    ap (λ k. behind_lines k text) more ∙ behind_more n text ∙ ap (λ x. behind_feed (feed_at x) x) r ∙ sym t

abbrev Answer : Type 0
Answer = Result (Network × ℕ) (ℕ × TopologyFault)

module _ (t : Network) (n m : ℕ) (rest line tail : List ℕ) (all : Answer) (cut : lines_of rest ≡ line ∷ lines_of tail) (next : m ≡ n + 1) (same : read_lines t n (lines_of rest) ≡ all) where
  one_line : (read : Result Taken TopologyFault) → of_line t line ≡ read → onward m read (λ new. read_lines new m (lines_of tail)) ≡ all
  unfolding read_lines
  one_line read e =
      ap (λ r. onward m r (λ new. read_lines new m (lines_of tail))) (sym e)
      ∙ ap (λ k. onward k (of_line t line) (λ new. read_lines new k (lines_of tail))) next
      ∙ ap (read_lines t n) (sym cut) ∙ same

  pub goes_on : (new : Network) → of_line t line ≡ Ok (More new) → read_lines new m (lines_of tail) ≡ all
  goes_on new e = one_line (Ok (More new)) e

  pub is_whole : (new : Network) → of_line t line ≡ Ok (Whole new) → all ≡ Ok (new, m)
  is_whole new e = sym (one_line (Ok (Whole new)) e)

  pub fails : (fault : TopologyFault) → of_line t line ≡ Err fault → all ≡ Err (m, fault)
  fails fault e = sym (one_line (Err fault) e)

pub without_end : (t : Network) (n : ℕ) (rest : List ℕ) (all : Answer) → length rest ≡ 0 → read_lines t n (lines_of rest) ≡ all → all ≡ Err (n + 1, Word)
unfolding read_lines
without_end t n [] all z h = sym h ∙ ap (read_lines t n) no_lines
without_end t n (b ∷ bs) all z h = absurd (omega arith)
