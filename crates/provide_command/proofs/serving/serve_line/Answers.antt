use Rattle.std.proofs.Common.{false, refl}
use Rattle.provide_command.proofs.Kept.{rests_kept, line_kept, untold_now, untold_later}
use Rattle.provide_command.proofs.serving.serve_line.Goals as goal

pub returns-in_default-clause-kept : goal.returns-in_default-clause-kept
returns-in_default-clause-kept g c = λ setting stp_of stated first k.
    let kept = g.J.Journal.kept c.args.desk.now.journal in
    let history = g.J.Journal.history c.args.desk.now.journal in
    rests_kept setting stp_of g.J.Journal.reading stated c.args.desk.now.service kept first (g.K.Sink.content c.args.out.now) k history (untold_now kept history history (g.met.J.Journal.tells c.args.desk.now.journal) refl) false
    (g.K.Sink.content c.args.out.now) refl (g.met.J.Journal.leaves_synced c.args.desk.now.journal c.requires.ready)

pub returns-clause-kept : goal.returns-clause-kept
returns-clause-kept g c = λ setting stp_of stated first k.
    let old = c.args.desk.now.journal in
    let new = c.tell.new.journal in
    line_kept setting stp_of g.J.Journal.reading stated c.args.desk.now.service (g.J.Journal.kept old) first (g.K.Sink.content c.args.out.now) k (g.J.Journal.history new)
    (untold_now (g.J.Journal.kept old) (g.J.Journal.history old) (g.J.Journal.history new) (g.met.J.Journal.tells old) c.tell.ensures.tells) c.args.number c.args.line.now c.in-Ok.answer c.serve.new.self c.tell.result (g.J.Journal.kept new)
    (g.K.Sink.content c.tell.new.out) c.in-Ok.ensures.served
    (untold_later (g.J.Journal.kept old) (g.J.Journal.kept new) (g.J.Journal.history old) (g.J.Journal.history new) (g.met.J.Journal.tells old) (g.met.J.Journal.tells new) c.tell.ensures.tells) c.tell.ensures.ending c.tell.ensures.all c.tell.ensures.front
    c.tell.ensures.kept
