-- What is written of a trace.
use Rattle.std.specs.Prelude.{ℕ, List, ◌++◌, codes, decimal}
use Rattle.fault_lines.specs.Lines.{as_line}
use Rattle.trace_verify.specs.declared.verdict.Verdict.{Verdict}
use Rattle.trace_verify.specs.declared.verdict.Why.{Why}

abbrev pub why_text : Why → List ℕ
why_text Why.Form = codes "Form"
why_text Why.NotAllowed = codes "NotAllowed"
why_text Why.End = codes "End"

abbrev pub run_line : ℕ → List ℕ
run_line events = as_line (codes "run " ++ decimal events)

abbrev pub not_line : ℕ → Why → List ℕ
not_line line why = as_line (codes "not " ++ decimal line ++ codes " " ++ why_text why)

abbrev pub verdict_line : Verdict → List ℕ
verdict_line (Verdict.Run events) = run_line events
verdict_line (Verdict.Not line why) = not_line line why
