use Rattle.std.proofs.Common.{List, length, Ok}
use Rattle.nsi_primitive.specs.declared.entry.Entry.{Entry}
use Rattle.agent_node.specs.Reopening.{MayRead}
use Rattle.agent_node.proofs.Reopened.{made_again, counted_again}
use Rattle.agent_node.proofs.restart.read_again.Goals as goal

pub returns-in-Ok-clause-made : goal.returns-in-Ok-clause-made
returns-in-Ok-clause-made g c =
    let j = c.args.journal in
    made_again (λ (es : List Entry). MayRead g.J.Journal.reading (Ok es) (g.J.Journal.history j)) c.remake.result c.in-Ok.reread.journal g.J.Journal.meter g.J.Journal.kept (g.J.Journal.meter j) (g.J.Journal.kept j) c.args.core.now c.remake.new.core
    c.in-Ok.reread.tries c.in-Ok.reread.entries.items c.remake.ensures.journal c.remake.ensures.seat c.remake.ensures.core c.in-Ok.ensures.read c.in-Ok.ensures.kept c.in-Ok.ensures.quiet

pub returns-in-Ok-clause-counted : goal.returns-in-Ok-clause-counted
returns-in-Ok-clause-counted g c =
    counted_again c.remake.result c.in-Ok.reread.journal g.J.Journal.kept c.remake.new.core.seat.synced (length c.in-Ok.reread.entries.items) c.remake.ensures.journal c.remake.ensures.synced c.in-Ok.ensures.counted
