use Rattle.std.proofs.Common.{ℕ, List, Err, Ok, refl, ap, subst}
use Rattle.fault_lines.specs.Counts.{counted}
use Rattle.fault_lines.specs.Lines.{long_line}
use Rattle.race_command.specs.declared.ending.RaceEnd.{RaceEnd}
use Rattle.race_command.specs.Outcomes.{ComesTo, Closes}
use Rattle.race_command.proofs.Racing.{told_own, told_of, told_read, told_nothing, long_comes, of_whole, read_too}
use Rattle.race_command.proofs.command.race.Goals as goal

pub returns-in-Ok-None : goal.returns-in-Ok-None
returns-in-Ok-None g c =
    let most = c.args.means.now.most in
    let left = g.S.Source.left c.args.input.now in
    let before = counted (g.S.Source.faults c.args.input.now) (g.H.Shelf.faults c.args.shelf.now) (g.H.Shelf.stops c.args.shelf.now) in
    let after = counted (g.S.Source.faults c.read_whole.new.input) (g.H.Shelf.faults c.args.shelf.now) (g.H.Shelf.stops c.args.shelf.now) in
    let h = told_of most left (g.K.Sink.content c.args.out.now) (g.K.Sink.content c.close.new.out) before after (g.K.Sink.faults c.args.out.now) (g.K.Sink.faults c.close.new.out) RaceEnd.Long c.close.result long_line
    refl tt (long_comes most left before after (c.in-Ok-None.ensures.long (ap (λ o. Ok o) c.in-Ok-None.field-0-is))) c.in-Ok-None.ensures.quiet c.close.ensures in
    record { ends = h.ends; read_fault = h.read_fault; alone = h.alone; write_fault = h.write_fault; disk_fault = h.disk_fault; unfinished = h.unfinished; quiet_in = h.quiet_in; quiet_out = h.quiet_out }

pub returns-in-Err-Failed : goal.returns-in-Err-Failed
returns-in-Err-Failed g c =
    let before = counted (g.S.Source.faults c.args.input.now) (g.H.Shelf.faults c.args.shelf.now) (g.H.Shelf.stops c.args.shelf.now) in
    let after = counted (g.S.Source.faults c.read_whole.new.input) (g.H.Shelf.faults c.args.shelf.now) (g.H.Shelf.stops c.args.shelf.now) in
    let h = told_read c.args.means.now.most (g.S.Source.left c.args.input.now) (g.K.Sink.content c.args.out.now) (g.K.Sink.content c.close-in-Err-Failed.new.out) before after (g.K.Sink.faults c.args.out.now)
    (g.K.Sink.faults c.close-in-Err-Failed.new.out) c.close-in-Err-Failed.result (c.in-Err-Failed.ensures.failed (ap (λ e. Err e) c.in-Err-Failed.field-0-is)) c.close-in-Err-Failed.ensures in
    record { ends = h.ends; read_fault = h.read_fault; alone = h.alone; write_fault = h.write_fault; disk_fault = h.disk_fault; unfinished = h.unfinished; quiet_in = h.quiet_in; quiet_out = h.quiet_out }

pub close-requires-in-Ok : goal.close-requires-in-Ok
close-requires-in-Ok g c = told_own c.in-Ok.outcome.end c.in-Ok.ensures.told

pub returns-in-Ok : goal.returns-in-Ok
returns-in-Ok g c =
    let most = c.args.means.now.most in
    let left = g.S.Source.left c.args.input.now in
    let outcome = c.in-Ok.outcome in
    let before = counted (g.S.Source.faults c.args.input.now) (g.H.Shelf.faults c.args.shelf.now) (g.H.Shelf.stops c.args.shelf.now) in
    let after = counted (g.S.Source.faults c.read_whole.new.input) (g.H.Shelf.faults c.outcome_of.new.shelf) (g.H.Shelf.stops c.outcome_of.new.shelf) in
    let came : ComesTo most c.in-Ok-Some.bytes.items before after outcome = read_too most c.in-Ok-Some.bytes.items _ _ _ _ outcome
    (subst (λ (b : List ℕ). ComesTo most b (counted 0 (g.H.Shelf.faults c.args.shelf.now) (g.H.Shelf.stops c.args.shelf.now)) (counted 0 (g.H.Shelf.faults c.outcome_of.new.shelf) (g.H.Shelf.stops c.outcome_of.new.shelf)) outcome) c.deref.ensures.value c.in-Ok.ensures) in
    let h = told_of most left (g.K.Sink.content c.args.out.now) (g.K.Sink.content c.close-in-Ok.new.out) before after (g.K.Sink.faults c.args.out.now) (g.K.Sink.faults c.close-in-Ok.new.out) outcome.end c.close-in-Ok.result
    outcome.text.items came.told came.counts (of_whole left c.in-Ok-Some.bytes.items (λ bytes. ComesTo most bytes before after outcome) (rw c.in-Ok-Some.field-0-is at c.in-Ok-Some.ensures.whole) came) c.in-Ok-Some.ensures.quiet
    (subst (λ (b : List ℕ). Closes b outcome.end c.close-in-Ok.result (g.K.Sink.content c.args.out.now) (g.K.Sink.content c.close-in-Ok.new.out) (g.K.Sink.faults c.args.out.now) (g.K.Sink.faults c.close-in-Ok.new.out)) c.deref-in-Ok.ensures.value c.close-in-Ok.ensures) in
    record { ends = h.ends; read_fault = h.read_fault; alone = h.alone; write_fault = h.write_fault; disk_fault = h.disk_fault; unfinished = h.unfinished; quiet_in = h.quiet_in; quiet_out = h.quiet_out }

pub returns-in-Err-NoMemory : goal.returns-in-Err-NoMemory
returns-in-Err-NoMemory g c =
    let before = counted (g.S.Source.faults c.args.input.now) (g.H.Shelf.faults c.args.shelf.now) (g.H.Shelf.stops c.args.shelf.now) in
    let after = counted (g.S.Source.faults c.read_whole.new.input) (g.H.Shelf.faults c.args.shelf.now) (g.H.Shelf.stops c.args.shelf.now) in
    let h = told_nothing c.args.means.now.most (g.S.Source.left c.args.input.now) (g.K.Sink.content c.args.out.now) before after (g.K.Sink.faults c.args.out.now) in
    record { ends = h.ends; read_fault = h.read_fault; alone = h.alone; write_fault = h.write_fault; disk_fault = h.disk_fault; unfinished = h.unfinished; quiet_in = h.quiet_in; quiet_out = h.quiet_out }

pub returns : goal.returns
returns g c =
    let before = counted (g.S.Source.faults c.args.input.now) (g.H.Shelf.faults c.args.shelf.now) (g.H.Shelf.stops c.args.shelf.now) in
    let after = counted (g.S.Source.faults c.read_whole.new.input) (g.H.Shelf.faults c.outcome_of.new.shelf) (g.H.Shelf.stops c.outcome_of.new.shelf) in
    let h = told_nothing c.args.means.now.most (g.S.Source.left c.args.input.now) (g.K.Sink.content c.args.out.now) before after (g.K.Sink.faults c.args.out.now) in
    record { ends = h.ends; read_fault = h.read_fault; alone = h.alone; write_fault = h.write_fault; disk_fault = h.disk_fault; unfinished = h.unfinished; quiet_in = h.quiet_in; quiet_out = h.quiet_out }
