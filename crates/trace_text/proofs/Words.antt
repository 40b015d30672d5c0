-- The words of an event that took a parcel.
use Rattle.std.proofs.Common.{◌≡◌, ◌<◌, ℕ, List, [], ◌∷◌, length, Option, arith, ap}
use Rattle.nsi_primitive.specs.declared.entry.Happening.{Happening}
use Rattle.nsi_primitive.specs.declared.entry.Input.{Input}
use Rattle.nsi_primitive.specs.declared.ask.AskAnswer.{AskAnswer}
use Rattle.json_primitives.specs.Inputs.{input_spelling}
use Rattle.trace_text.specs.Lines.{input_words, what_words}
use Rattle.trace_text.specs.Spelled.{what_spelling}

input_are : (second : ℕ) (i : Input) (answer : Option AskAnswer) (line : List ℕ) → 0 < length line → line ≡ input_spelling i → line ∷ [] ≡ input_words second i answer
input_are second (Input.Got message) answer line some h = ap (λ (x : List ℕ). x ∷ []) h
input_are second (Input.Acked identity) answer line some h = ap (λ (x : List ℕ). x ∷ []) h
input_are second (Input.Ask number ask) answer line some h = absurd (omega (arith, some, ap length h))
input_are second (Input.Work number machine) answer line some h = absurd (omega (arith, some, ap length h))
input_are second Input.Tick answer line some h = absurd (omega (arith, some, ap length h))
input_are second (Input.Force number) answer line some h = absurd (omega (arith, some, ap length h))

-- they are the JSON alone
pub words_are : (what : Happening) (line : List ℕ) → 0 < length line → line ≡ what_spelling what → line ∷ [] ≡ what_words what
words_are (Happening.Entry entry answer) line some h = input_are entry.second entry.input answer line some h
words_are (Happening.Sync count) line some h = absurd (omega (arith, some, ap length h))
words_are (Happening.Restart count) line some h = absurd (omega (arith, some, ap length h))
