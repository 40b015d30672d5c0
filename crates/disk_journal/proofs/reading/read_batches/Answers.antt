use Rattle.std.proofs.Common.{arith, ◌∷◌, ℕ, List, length, drop, get_or, ap, sym, refl, subst, ◌∙◌}
use Rattle.std.specs.Int.{w64, from_be_bytes}
use Rattle.journal_entry.specs.Faults.{RefusesAll}
use Rattle.journal_entry.specs.Payloads.{batch_of}
use Rattle.disk_journal.proofs.Loop.{Batch, went_on, closed, ends_short, ends_past, ends_bad, first_of, le_along, at_sum, cut_batch}
use Rattle.disk_journal.proofs.reading.read_batches.Goals as goal

pub returns-then-not-is_open-clause-ok : goal.returns-then-not-is_open-clause-ok
returns-then-not-is_open-clause-ok c =
    closed c.args.bytes.now c.loop-rest.rest.now (drop 1 c.loop-rest.rest.now) c.loop-rest.place (get_or c.loop-rest.rest.now 0 0) c.loop-rest.entries.items (omega arith) c.loop-rest.invariant
    (first_of c.loop-rest.rest.now _ c.loop-rest.invariant.some refl) (c.is_open.ensures.shut c.if-not-is_open.true)

pub returns-then-behind-lt8-clause-err : goal.returns-then-behind-lt8-clause-err
returns-then-behind-lt8-clause-err c =
    let shape = first_of c.loop-rest.rest.now 1 c.loop-rest.invariant.some (c.is_open.ensures.open c.if-not-is_open.false) ∙ ap (λ (l : List ℕ). 1 ∷ l) (sym c.split_at.ensures.back) in
    ends_short c.args.bytes.now c.loop-rest.rest.now c.split_at.result.1.now c.loop-rest.place c.loop-rest.entries.items c.loop-rest.invariant shape c.if-behind-lt8.true

pub returns-then-tail-n-clause-err : goal.returns-then-tail-n-clause-err
returns-then-tail-n-clause-err c =
    let shape = first_of c.loop-rest.rest.now 1 c.loop-rest.invariant.some (c.is_open.ensures.open c.if-not-is_open.false) ∙ ap (λ (l : List ℕ). 1 ∷ l) (sym c.split_at.ensures.back) in
    let two = c.split_at-in-loop-rest.ensures in
    ends_past c.args.bytes.now c.loop-rest.rest.now c.split_at.result.1.now c.loop-rest.place c.loop-rest.entries.items c.loop-rest.invariant shape c.if-behind-lt8.false
    (le_along _ _ _ _ c.if-tail-n.true (ap length two.back) (c.number-n.ensures.value ∙ ap (from_be_bytes w64) two.front))

pub returns-in-Err-NotAPayload-clause-err : goal.returns-in-Err-NotAPayload-clause-err
returns-in-Err-NotAPayload-clause-err c =
    let one = first_of c.loop-rest.rest.now 1 c.loop-rest.invariant.some (c.is_open.ensures.open c.if-not-is_open.false) ∙ ap (λ (l : List ℕ). 1 ∷ l) (sym c.split_at.ensures.back) in
    let two = c.split_at-in-loop-rest.ensures in
    let three = c.split_at-in-loop-rest-2.ensures in
    let head = c.split_at-in-loop-rest.result.0.now in
    let tail = c.split_at-in-loop-rest.result.1.now in
    let p = c.split_at-in-loop-rest-2.result.0.now in
    let more = c.split_at-in-loop-rest-2.result.1.now in
    let batch : Batch c.loop-rest.rest.now head p more c.number-n.result = cut_batch c.loop-rest.rest.now c.split_at.result.1.now tail head p more c.number-n.result one two.front two.back two.front_len c.number-n.ensures.bytes c.number-n.ensures.value three.front three.back (sym three.front_len) (omega (arith, three.back_len, c.if-tail-n.false)) in
    ends_bad c.args.bytes.now c.loop-rest.rest.now head p more c.loop-rest.place c.number-n.result c.loop-rest.entries.items c.loop-rest.invariant batch
    (subst (λ f. RefusesAll f (batch_of p)) c.in-Err-NotAPayload.field-0-is c.in-Err-NotAPayload.ensures.gives)

pub loop-rest-preserved : goal.loop-rest-preserved
loop-rest-preserved c =
    let one = first_of c.loop-rest.rest.now 1 c.loop-rest.invariant.some (c.is_open.ensures.open c.if-not-is_open.false) ∙ ap (λ (l : List ℕ). 1 ∷ l) (sym c.split_at.ensures.back) in
    let two = c.split_at-in-loop-rest.ensures in
    let three = c.split_at-in-loop-rest-2.ensures in
    let head = c.split_at-in-loop-rest.result.0.now in
    let tail = c.split_at-in-loop-rest.result.1.now in
    let p = c.split_at-in-loop-rest-2.result.0.now in
    let more = c.split_at-in-loop-rest-2.result.1.now in
    let batch : Batch c.loop-rest.rest.now head p more c.number-n.result = cut_batch c.loop-rest.rest.now c.split_at.result.1.now tail head p more c.number-n.result one two.front two.back two.front_len c.number-n.ensures.bytes c.number-n.ensures.value three.front three.back (sym three.front_len) (omega (arith, three.back_len, c.if-tail-n.false)) in
    at_sum c.args.bytes.now more c.loop-rest.place c.number-n.result _ _ _ (omega arith) (sym c.in_ok-append-in-Ok.ensures.items)
    (went_on c.args.bytes.now c.loop-rest.rest.now head p more c.loop-rest.place c.number-n.result c.loop-rest.entries.items c.in-Ok.read.items c.loop-rest.invariant batch c.in-Ok.ensures.gives c.in-Ok.ensures.printable)
