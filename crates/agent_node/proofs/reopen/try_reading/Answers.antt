use Rattle.std.proofs.Common.{◌∙◌, ap, Err}
use Rattle.nsi_disk.specs.declared.shelf.ShelfError.{ShelfError}
use Rattle.journal_entry.specs.Journals.{recovers}
use Rattle.journal_entry.specs.Payloads.{batch_of}
use Rattle.agent_node.specs.Reopening.{MayRead}
use Rattle.agent_node.proofs.Reopened.{image_read, lost_cause, start_cause, given_back}
use Rattle.agent_node.proofs.reopen.try_reading.Goals as goal

pub returns-in_default-clause-cause : goal.returns-in_default-clause-cause
returns-in_default-clause-cause g c = (
  start_cause _ (g.H.Shelf.faults c.args.shelf.now) (g.H.Shelf.faults c.fetch_again.new.self) (g.H.Shelf.faults c.give_back.new.self) _ (g.H.Disk.Disk.meter c.in-Err-start.fault.disk) _ c.in-Err-start.fault.cause c.in-Err-start.ensures.cause
      c.in_default.not-Stopped c.in-Ok.ensures.quiet c.give_back.ensures.faults (λ place unread. image_read (recovers batch_of) (Err place) _ _ c.in-Ok.ensures.image unread),
  given_back (g.H.Shelf.stops c.args.shelf.now) (g.H.Shelf.stops c.fetch_again.new.self) (g.H.Shelf.stops c.give_back.new.self) (g.H.Disk.Disk.meter c.args.disk).stops (g.H.Disk.Disk.meter c.in-Ok.disk) (g.H.Disk.Disk.meter c.in-Err-start.fault.disk) c.in-Ok.ensures.stops
      c.in-Ok.ensures.counts.1 c.in-Err-start.ensures.cause.stops c.give_back.ensures.stops,
)

pub returns-in-Err-clause-cause : goal.returns-in-Err-clause-cause
returns-in-Err-clause-cause g c = (
  lost_cause (λ place. MayRead (recovers batch_of) (Err place) (g.H.Disk.Disk.history c.args.disk)) (g.H.Shelf.faults c.args.shelf.now) (g.H.Shelf.faults c.fetch_again.new.self) c.in-Err.error (λ e. c.fetch_again.ensures.failed (c.in-Err.is ∙ ap (λ (x : ShelfError). Err x) e)),
  c.in-Err.ensures.lost,
)
