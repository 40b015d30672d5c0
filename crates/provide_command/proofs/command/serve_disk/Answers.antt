use Rattle.std.proofs.Common.{Ok, is_some, ap, sym, subst, ◌∙◌}
use Rattle.journal_entry.specs.Journals.{recovers}
use Rattle.journal_entry.specs.Payloads.{batch_of}
use Rattle.provider_agent.specs.Setting.{setting_of, own_stp}
use Rattle.provide_command.specs.Keeping.{LeavesTold, ends_whole}
use Rattle.provide_command.specs.Provided.{file_of}
use Rattle.provide_command.proofs.Backing.{begun_keeps, disk_served, disk_refused}
use Rattle.provide_command.proofs.Started.{reads_entries, served_of, refused_to}
use Rattle.provide_command.proofs.command.serve_disk.Goals as goal

pub returns-in-Ok-clause-served : goal.returns-in-Ok-clause-served
returns-in-Ok-clause-served g c = λ first start b.
    let history = g.D.Disk.history c.args.disk in
    let entries = c.in-Ok.read.1.items in
    served_of (file_of history) (Ok entries) c.args.begun.most first start c.serve_journal-end.result.0 _ _ _ (reads_entries history entries c.in-Ok.ensures.entries) (c.serve_journal-end.ensures.ends first start b) (c.serve_journal-end.ensures.halts first start b)

pub returns-in-Err-clause-served : goal.returns-in-Err-clause-served
returns-in-Err-clause-served g c = λ first start b.
    refused_to c.args.begun.most first start c.args.begun.number c.args.begun.topology c.args.begun.provider _ _ _ b (g.D.Disk.meter c.args.disk) (g.D.Disk.meter c.in-Err.fault.disk) (g.D.Disk.history c.args.disk) _ _ _ c.in-Err.fault.cause c.refuse.result
    c.in-Err.ensures.cause c.refuse.ensures.ending c.refuse.ensures.all c.refuse.ensures.front c.refuse.ensures.faults.not_read c.refuse.ensures.unwritten

pub serve_journal-end-requires-clause-stated : goal.serve_journal-end-requires-clause-stated
serve_journal-end-requires-clause-stated g c = begun_keeps c.in-Ok.read.1.items (g.D.Disk.history c.args.disk) _ _ c.in-Ok.ensures.kept c.in-Ok.ensures.untold

pub returns-in-Ok-clause-left : goal.returns-in-Ok-clause-left
returns-in-Ok-clause-left g c = λ file fresh.
    disk_served file c.args.begun.topology c.args.begun.provider (ends_whole c.serve_journal-end.result.0) (g.D.Disk.history c.args.disk) _ (g.D.Disk.history c.into_disk.result) c.in-Ok.read.1.items (g.K.Sink.content c.args.out.now)
    (g.K.Sink.content c.serve_journal-end.new.out) fresh c.in-Ok.ensures.entries c.in-Ok.ensures.crashes (ap (λ h. is_some h) c.into_disk.ensures.history ∙ c.serve_journal-end.ensures.tells)
    (subst (λ h. LeavesTold (ends_whole c.serve_journal-end.result.0) (setting_of c.args.begun.topology c.args.begun.provider) (own_stp c.args.begun.topology c.args.begun.provider) (recovers batch_of) c.in-Ok.read.1.items h
    (g.K.Sink.content c.args.out.now) (g.K.Sink.content c.serve_journal-end.new.out)) (sym c.into_disk.ensures.history) c.serve_journal-end.ensures.left)

pub returns-in-Err-clause-left : goal.returns-in-Err-clause-left
returns-in-Err-clause-left g c = λ file fresh.
    disk_refused file c.args.begun.topology c.args.begun.provider c.refuse.result c.in-Err.fault.cause (g.D.Disk.history c.args.disk) (g.D.Disk.history c.in-Err.fault.disk)
    (g.K.Sink.content c.args.out.now) (g.K.Sink.content c.refuse.new.out) fresh c.in-Err.ensures.fault_crashes c.in-Err.ensures.fault_left c.refuse.ensures.all c.refuse.ensures.front c.refuse.ensures.faults.not_read c.refuse.ensures.unwritten
