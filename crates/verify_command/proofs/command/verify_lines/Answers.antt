use Rattle.std.proofs.Common.{refl}
use Rattle.fault_lines.specs.Lines.{long_line}
use Rattle.trace_verify.specs.Lines.{trace_lines}
use Rattle.verify_command.specs.Texts.{verdict_line}
use Rattle.verify_command.specs.Verifies.{VerifiesLines}
use Rattle.verify_command.specs.declared.end.VerifyEnd.{VerifyEnd}
use Rattle.verify_command.proofs.Ended.{ended_silently, ended_so}
use Rattle.verify_command.proofs.command.verify_lines.Goals as goal

pub returns-in-Ok : goal.returns-in-Ok
returns-in-Ok g c = ended_so _ (verdict_line c.in-Ok.verdict) VerifyEnd.Done _ _ _ _ _ refl (c.in-Ok.verdict, λ routes are. c.in-Ok.ensures.finds routes are, refl) c.tell.ensures

pub returns-in-Err-Long : goal.returns-in-Err-Long
returns-in-Err-Long g c = ended_so _ long_line VerifyEnd.Long _ _ _ _ _ refl (λ routes are. rw c.get.ensures.value at (rw c.in-Err-Long.field-0-is at (c.in-Err-Long.ensures.finds routes are)), refl) c.close.ensures

pub returns-in-Err-NoMemory : goal.returns-in-Err-NoMemory
returns-in-Err-NoMemory g c = ended_silently _ (g.K.Sink.content c.args.out.now) _
