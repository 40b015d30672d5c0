use Rattle.std.proofs.Common.{Ok, Err, ap, sym, subst}
use Rattle.provider_agent.specs.Setting.{setting_of, own_stp}
use Rattle.provide_command.specs.Keeping.{LeavesTold}
use Rattle.provide_command.specs.Outcome.{begins_behind}
use Rattle.provide_command.specs.Phases.{in_service, goes_to, ends_as}
use Rattle.provide_command.specs.Promise.{promise_of}
use Rattle.provide_command.specs.declared.status.Ending.{Ending}
use Rattle.provide_command.proofs.Begun.{begun_same, begun_up_to, begun_halts}
use Rattle.provide_command.proofs.Backing.{opened_keeps, unserved_left, begins_last, cut_halt}
use Rattle.provide_command.proofs.Kept.{whole_front}
use Rattle.provide_command.proofs.command.serve_journal.Goals as goal

pub returns-in-Ok-Some-clause-ends : goal.returns-in-Ok-Some-clause-ends
returns-in-Ok-Some-clause-ends g c = λ first start b.
    let read = Ok c.args.read.1.items in
    c.serve_from.ensures.ends read (promise_of read c.args.begun.most first start)
    (begun_same c.args.begun.most first start c.args.begun.number c.args.begun.topology c.args.begun.provider _ _ _ b read (goes_to (in_service c.in-Ok-Some.service)) _
    (rw c.in-Ok-Some.field-0-is at (rw c.deref.ensures.value at c.in-Ok-Some.ensures.step)) (rw c.deref.ensures.value at c.in-Ok-Some.ensures.all))

pub returns-in-Ok-Some-clause-halts : goal.returns-in-Ok-Some-clause-halts
returns-in-Ok-Some-clause-halts g c = λ first start b.
    let read = Ok c.args.read.1.items in
    c.serve_from.ensures.halts read c.args.begun.most first start
    (begun_up_to c.args.begun.most first start c.args.begun.number c.args.begun.topology c.args.begun.provider _ _ _ b read (in_service c.in-Ok-Some.service) _
    (rw c.in-Ok-Some.field-0-is at (rw c.deref.ensures.value at c.in-Ok-Some.ensures.step)) (rw c.deref.ensures.value at c.in-Ok-Some.ensures.all))

pub returns-in-Ok-None-clause-ends : goal.returns-in-Ok-None-clause-ends
returns-in-Ok-None-clause-ends g c = λ first start b.
    begun_same c.args.begun.most first start c.args.begun.number c.args.begun.topology c.args.begun.provider _ _ _ b (Ok c.args.read.1.items) (ends_as Ending.Long) _
    (rw c.in-Ok-None.field-0-is at (rw c.deref.ensures.value at c.in-Ok-None.ensures.step)) (rw c.deref.ensures.value at c.in-Ok-None.ensures.all)

pub returns-clause-halts : goal.returns-clause-halts
returns-clause-halts g c = λ first start b.
    begun_halts c.args.begun.most first start c.args.begun.number c.args.begun.topology c.args.begun.provider _ _ _ b (Ok c.args.read.1.items) c.in-Err.halt _ _ _
    (λ e. c.in-Err.ensures.faults.not_read (ap (λ h. Err h) e)) (λ e. absurd (c.in-Err.ensures.not_disk (ap (λ h. Err h) e))) (rw c.deref.ensures.value at c.in-Err.ensures.front)

pub returns-in-Ok-Some-clause-left : goal.returns-in-Ok-Some-clause-left
returns-in-Ok-Some-clause-left g c =
    let t = c.args.begun.topology in
    let provider = c.args.begun.provider in
    let journal = c.args.read.0 in
    c.serve_from.ensures.kept (setting_of t provider) (own_stp t provider) c.args.read.1.items (g.K.Sink.content c.args.out.now)
    (opened_keeps c.args.begun.most c.requires.most t provider c.args.read.1.items c.requires.printable (g.J.Journal.kept journal) (g.J.Journal.history journal) (g.met.J.Journal.tells journal) c.requires.stated (g.K.Sink.content c.args.out.now)
    (g.K.Sink.content c.open.new.out) c.in-Ok-Some.service (rw c.in-Ok-Some.field-0-is at (rw c.deref.ensures.value at c.in-Ok-Some.ensures.step)) (rw c.deref.ensures.value at c.in-Ok-Some.ensures.all))

pub returns-in-Ok-None-clause-left : goal.returns-in-Ok-None-clause-left
returns-in-Ok-None-clause-left g c =
    let t = c.args.begun.topology in
    let provider = c.args.begun.provider in
    let journal = c.args.read.0 in
    let content = g.K.Sink.content c.args.out.now in
    let new = g.K.Sink.content c.open.new.out in
    let last = (begins_behind c.args.begun.most t provider (Ok c.args.read.1.items)).text in
    unserved_left (setting_of t provider) (own_stp t provider) g.J.Journal.reading c.args.read.1.items (g.J.Journal.kept journal) (g.J.Journal.history journal) content new last c.requires.printable c.requires.stated
    (begins_last (setting_of t provider).name c.args.begun.most t provider c.args.read.1.items) (whole_front content new last (rw c.deref.ensures.value at c.in-Ok-None.ensures.all)) (g.met.J.Journal.leaves_synced journal c.requires.ready)

pub returns-clause-left : goal.returns-clause-left
returns-clause-left g c =
    let t = c.args.begun.topology in
    let provider = c.args.begun.provider in
    let journal = c.args.read.0 in
    let content = g.K.Sink.content c.args.out.now in
    let new = g.K.Sink.content c.open.new.out in
    let last = (begins_behind c.args.begun.most t provider (Ok c.args.read.1.items)).text in
    let cut = cut_halt c.in-Err.halt (λ e. c.in-Err.ensures.faults.not_read (ap (λ h. Err h) e)) (λ e. c.in-Err.ensures.not_disk (ap (λ h. Err h) e)) in
    subst (λ b. LeavesTold b (setting_of t provider) (own_stp t provider) g.J.Journal.reading c.args.read.1.items (g.J.Journal.history journal) content new) (sym cut)
    (unserved_left (setting_of t provider) (own_stp t provider) g.J.Journal.reading c.args.read.1.items (g.J.Journal.kept journal) (g.J.Journal.history journal) content new last c.requires.printable c.requires.stated
    (begins_last (setting_of t provider).name c.args.begun.most t provider c.args.read.1.items) (rw c.deref.ensures.value at c.in-Err.ensures.front) (g.met.J.Journal.leaves_synced journal c.requires.ready))
