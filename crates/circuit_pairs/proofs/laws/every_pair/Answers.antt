use Rattle.std.proofs.Common.{ℕ}
use Rattle.circuit_pairs.proofs.Minding.{minding_pair}
use Rattle.circuit_pairs.proofs.Serving.{serving_pair}
use Rattle.circuit_pairs.proofs.Starting.{start_pair}
use Rattle.circuit_pairs.proofs.laws.every_pair.Goals as goal

pub returns-clause-nothing : goal.returns-clause-nothing
returns-clause-nothing c = start_pair ℕ

pub returns-clause-nothing_of_two : goal.returns-clause-nothing_of_two
returns-clause-nothing_of_two c = start_pair (ℕ × ℕ)

pub returns-clause-serving : goal.returns-clause-serving
returns-clause-serving c = λ dec parent name xs asked d input records seen out fair once serves mine pair. serving_pair ℕ dec parent name xs asked d input records seen out fair once serves pair mine

pub returns-clause-serving_two : goal.returns-clause-serving_two
returns-clause-serving_two c = λ dec parent name xs asked d input records seen out fair once serves mine pair. serving_pair (ℕ × ℕ) dec parent name xs asked d input records seen out fair once serves pair mine

pub returns-clause-minding : goal.returns-clause-minding
returns-clause-minding c = λ dec parent child asked d b input xs ys more fair once new not_asked heard minds pair. minding_pair ℕ dec parent child asked d fair once b input xs ys more new not_asked heard minds pair

pub returns-clause-minding_two : goal.returns-clause-minding_two
returns-clause-minding_two c = λ dec parent child asked d b input xs ys more fair once new not_asked heard minds pair. minding_pair (ℕ × ℕ) dec parent child asked d fair once b input xs ys more new not_asked heard minds pair
