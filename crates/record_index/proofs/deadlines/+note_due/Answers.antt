use Rattle.std.proofs.Common.{◌≤◌, get_or, arith}
use Rattle.std.specs.declared.cmp.Reverse.{Reverse}
use Rattle.std.proofs.lemmas.Option.{slice_get-get_or}
use Rattle.record_index.specs.declared.deadlines.Deadline.{Deadline}
use Rattle.record_index.specs.Heap.{IsDueUnder}
use Rattle.record_index.proofs.Heap.{as_they_were, nothing_under, none_due_under, noted, on_ok}
use Rattle.record_index.proofs.deadlines.+note_due.Goals as goal

pub returns-then-entries-at : goal.returns-then-entries-at
returns-then-entries-at t c =
    let rs = c.args.entries.now in
    as_they_were (IsDueUnder rs c.args.at c.args.second) c.args.places.now.items (λ p. nothing_under rs c.args.at c.args.second p (omega (arith, c.if-entries-at.true)))

pub returns-then-second-due : goal.returns-then-second-due
returns-then-second-due t c =
    let rs = c.args.entries.now in
    let filler : Reverse Deadline = record { 0 = record { second = 0; place = 0 } } in
    let there = slice_get-get_or rs c.args.at filler (omega (arith, c.if-entries-at.false)) in
    as_they_were (IsDueUnder rs c.args.at c.args.second) c.args.places.now.items (λ p. none_due_under rs c.requires c.args.at c.args.second p (get_or rs c.args.at filler) there c.if-second-due.true)

pub returns : goal.returns
returns t c =
    let rs = c.args.entries.now in
    let filler : Reverse Deadline = record { 0 = record { second = 0; place = 0 } } in
    let x : Reverse Deadline = get_or rs c.args.at filler in
    let there = slice_get-get_or rs c.args.at filler (omega (arith, c.if-entries-at.false)) in
    let come : x.0.second ≤ c.args.second = omega (arith, c.if-second-due.false) in
    on_ok c.note_due-2.result
    (λ rest. noted rs c.args.at c.args.second x there come c.args.places.now.items c.push.new.self.items c.note_due.new.places.items c.note_due-2.new.places.items c.in_ok-push.ensures.items c.in_ok-note_due.ensures rest)
    c.note_due-2.ensures
