use Rattle.std.proofs.Common.{arith, ◌≡◌, true, false, [], ap, sym, ◌∙◌}
use Rattle.std.proofs.lemmas.Grind.{common_steps}
use Rattle.nsi_disk.specs.Again.{blotted}
use Rattle.nsi_disk.specs.Memory.{is_sync}
use Rattle.nsi_disk.proofs.Undone.{went_back, went_back_torn, old_at_sync, torn_at_sync, old_at_start, torn_at_start}
use Rattle.nsi_disk.proofs.reopen.since_sync.Goals as goal

pub returns-then-is_sync-clause-synced : goal.returns-then-is_sync-clause-synced
returns-then-is_sync-clause-synced c =
    let here : is_sync c.in-Some.past ≡ true = grind (arith, c.is_sync.ensures, c.if-is_sync.true) in
    sym (old_at_sync c.loop-past.log.items c.pop.new.self.items c.loop-past.saved.items c.loop-past.bytes.items c.in-Some.past c.in-Some.ensures.items here) ∙ c.loop-past.invariant.0

pub returns-then-is_sync-clause-torn : goal.returns-then-is_sync-clause-torn
returns-then-is_sync-clause-torn c =
    let here : is_sync c.in-Some.past ≡ true = grind (arith, c.is_sync.ensures, c.if-is_sync.true) in
    ap (blotted c.loop-past.calls.items) (sym (torn_at_sync c.loop-past.log.items c.pop.new.self.items c.loop-past.saved.items c.loop-past.bytes.items c.in-Some.past c.in-Some.ensures.items here)) ∙ c.loop-past.invariant.1

pub loop-past-preserved : goal.loop-past-preserved
loop-past-preserved c =
    let other : is_sync c.in-Some.past ≡ false = grind (arith, c.is_sync.ensures, c.if-is_sync.false) in
    let step = c.in_ok-bytes.ensures c.pop.new.self.items in (
      went_back c.loop-past.log.items c.pop.new.self.items c.loop-past.saved.items c.undo.new.saved.items c.loop-past.bytes.items c.in_ok-bytes.bytes.items _ c.in-Some.past c.in-Some.ensures.items step other c.loop-past.invariant.0,
      went_back_torn c.loop-past.log.items c.pop.new.self.items c.loop-past.calls.items c.push.new.self.items c.loop-past.saved.items c.undo.new.saved.items c.loop-past.bytes.items c.in_ok-bytes.bytes.items _ c.in-Some.past c.in-Some.ensures.items c.in_ok-push.ensures.items step other c.loop-past.invariant.1,
    )

pub returns-clause-synced : goal.returns-clause-synced
returns-clause-synced c =
    let start : c.loop-past.log.items ≡ [] = grind (arith, common_steps) in
    sym (old_at_start c.loop-past.log.items c.loop-past.saved.items c.loop-past.bytes.items start) ∙ c.loop-past.invariant.0

pub returns-clause-torn : goal.returns-clause-torn
returns-clause-torn c =
    let start : c.loop-past.log.items ≡ [] = grind (arith, common_steps) in
    ap (blotted c.loop-past.calls.items) (sym (torn_at_start c.loop-past.log.items c.loop-past.saved.items c.loop-past.bytes.items start)) ∙ c.loop-past.invariant.1
