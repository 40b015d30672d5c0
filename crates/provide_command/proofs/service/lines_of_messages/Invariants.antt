use Rattle.std.proofs.Common.{◌≡◌, ◌++◌, drop}
use Rattle.provide_command.specs.Lines.{lines_of_messages}
use Rattle.provide_command.proofs.service.lines_of_messages.Given as goal

abbrev pub invariant-loop-message : goal.invariant-loop-message
invariant-loop-message l = l.text.items ++ lines_of_messages (drop l.message-index l.messages) ≡ lines_of_messages l.messages
