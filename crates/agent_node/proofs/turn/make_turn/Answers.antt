use Rattle.std.proofs.Common.{rules, ◌≡◌, ◌∙◌, sym, true}
use Rattle.agent_node.proofs.Resting.{made_quiet}
use Rattle.agent_node.proofs.Stopping.{counted_as}
use Rattle.agent_node.proofs.turn.make_turn.Goals as goal

pub returns-then-quiet-clause-made : goal.returns-then-quiet-clause-made
returns-then-quiet-clause-made g c =
    let quiet : c.quiet.result ≡ true = search rules in
    made_quiet c.args.room c.args.core.now (g.J.Journal.meter c.args.journal.now) (g.J.Journal.kept c.args.journal.now) (λ routes are. sym (c.quiet.ensures routes are) ∙ quiet) (g.met.J.Journal.none_waits c.args.journal.now c.requires.none)

pub make_turn_with-requires-clause-counted : goal.make_turn_with-requires-clause-counted
make_turn_with-requires-clause-counted g c =
    counted_as c.gather.new.self.seat.synced c.args.core.now.seat.synced (g.J.Journal.kept c.args.journal.now) c.in_ok-parcels.ensures.stays.synced c.requires.counted
