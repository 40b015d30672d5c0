-- The first line that may not stand in a race.
use Rattle.std.proofs.Common.{◌≡◌, ℕ, ◌+◌, List, [], ◌∷◌, Bool, true, false, length, refl, sym, ◌∙◌, ap, arith, Option, Some, None}
use Rattle.std.specs.Prelude.{◌||◌, not, if◌then◌else◌}
use Rattle.nsi_base.specs.Lines.{lines_of}
use Rattle.nsi_base.proofs.CutLine.{no_lines}
use Rattle.stp_topology.specs.declared.network.Network.{Network}
use Rattle.race_command.specs.Lines.{is_race_line, begins, first_strange}

pub not_true : (b : Bool) → not b ≡ true → b ≡ false
not_true true e = sym e
not_true false e = refl

pub not_false : (b : Bool) → not b ≡ false → b ≡ true
not_false true e = refl
not_false false e = sym e

module _ (t : Network) (p : ℕ) (begun : Bool) (n : ℕ) (rest line tail : List ℕ) (all : Option ℕ) (cut : lines_of rest ≡ line ∷ lines_of tail) (same : first_strange t p begun n (lines_of rest) ≡ all) where
  by_line : (may : Bool) → is_race_line t p begun line ≡ may → (if may then first_strange t p (begun || begins line) (n + 1) (lines_of tail) else Some n) ≡ all
  unfolding first_strange
  by_line may e =
      ap (λ (b : Bool). if b then first_strange t p (begun || begins line) (n + 1) (lines_of tail) else Some n) (sym e)
      ∙ ap (first_strange t p begun n) (sym cut) ∙ same

  pub goes_on : is_race_line t p begun line ≡ true → first_strange t p (begun || begins line) (n + 1) (lines_of tail) ≡ all
  goes_on e = by_line true e

  pub stops : is_race_line t p begun line ≡ false → Some n ≡ all
  stops e = by_line false e

pub at_end : (t : Network) (p : ℕ) (begun : Bool) (n : ℕ) (rest : List ℕ) (all : Option ℕ) → length rest ≡ 0 → first_strange t p begun n (lines_of rest) ≡ all → None ≡ all
unfolding first_strange
at_end t p begun n [] all z h = ap (first_strange t p begun n) (sym no_lines) ∙ h
at_end t p begun n (b ∷ bs) all z h = absurd (omega arith)
