-- A trace that was found to be the text of a run is that of a safe one.
use Rattle.std.proofs.Common.{◌∙◌, [], ◌∷◌, ◌++◌, map, ap}
use Rattle.std.proofs.lemmas.List.{map-append}
use Rattle.circuit_laws.specs.SafeLaws.{EveryRunIsSafe}
use Rattle.trace_verify.specs.Lines.{ended, settled_line}
use Rattle.trace_safety.specs.Laws.{RunsFoundAreSafe}

pub found_safe : EveryRunIsSafe → RunsFoundAreSafe
found_safe law t routes text first_line events sound formed are whole = record {
  run = whole.run;
  safe = law t routes whole.run sound formed are whole.splits.trace.trace.run;
  many = whole.many;
  lines =
      ap (map ended) whole.splits.whole
      ∙ (map-append ended whole.splits.first (settled_line events ∷ []) ∙ ap (λ xs. xs ++ ended (settled_line events) ∷ []) whole.splits.trace.trace.text);
}
