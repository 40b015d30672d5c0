use Rattle.std.proofs.Common.{◌≡◌, ◌≢◌, ℕ, arith, sym, ◌∙◌, subst}
use Rattle.std.proofs.lemmas.Bool.Decides.{nat_tests}
use Rattle.capacity_calendar.specs.Changes.{all_before, all_after}
use Rattle.capacity_calendar.specs.Index.{Timeline, timeline_at, IsIndexedAt}
use Rattle.capacity_calendar.proofs.Turns.{turned}
use Rattle.capacity_calendar.proofs.tables.Table.turn.Goals as goal

pub turn_at-requires-clause-index : goal.turn_at-requires-clause-index
turn_at-requires-clause-index c = c.requires.index c.args.change.now.slot.source

pub turn_at-requires-then-ne-clause-index : goal.turn_at-requires-then-ne-clause-index
turn_at-requires-then-ne-clause-index c =
    let slot = c.args.change.now.slot in
    let apart : slot.dest ≢ slot.source = grind (arith, nat_tests, c.ne.ensures, c.if-ne.true) in
    subst (λ (t : Timeline). IsIndexedAt c.args.capacities.now c.args.flow slot.dest (all_before c.args.change.now c.args.bookings.now) t) (sym (c.turn_at.ensures.others slot.dest apart))
    (c.requires.index slot.dest)

pub returns-then-ne : goal.returns-then-ne
returns-then-ne c =
    let slot = c.args.change.now.slot in
    let apart : slot.source ≢ slot.dest = grind (arith, nat_tests, c.ne.ensures, c.if-ne.true) in
    let source =
    subst (λ (t : Timeline). IsIndexedAt c.args.capacities.now c.args.flow slot.source (all_after c.args.change.now c.args.bookings.now) t) (sym (c.turn_at-then-ne.ensures.others slot.source apart)) c.turn_at.ensures.index in
    turned c.args.capacities.now c.args.flow c.args.change.now c.args.bookings.now c.args.self.now c.turn_at-then-ne.new.self source c.turn_at-then-ne.ensures.index
    (λ q a b. c.turn_at-then-ne.ensures.others q b ∙ c.turn_at.ensures.others q a) c.requires.index

pub returns-else-ne : goal.returns-else-ne
returns-else-ne c =
    let slot = c.args.change.now.slot in
    let same : slot.source ≡ slot.dest = grind (arith, nat_tests, c.ne.ensures, c.if-ne.false) in
    let dest = subst (λ (q : ℕ). IsIndexedAt c.args.capacities.now c.args.flow q (all_after c.args.change.now c.args.bookings.now) (timeline_at c.turn_at.new.self q)) same c.turn_at.ensures.index in
    turned c.args.capacities.now c.args.flow c.args.change.now c.args.bookings.now c.args.self.now c.turn_at.new.self c.turn_at.ensures.index dest (λ q a b. c.turn_at.ensures.others q a) c.requires.index
