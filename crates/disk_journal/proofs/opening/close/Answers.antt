use Rattle.std.proofs.Common.{[], ◌∷◌}
use Rattle.disk_journal.proofs.Begin.{close_write_err, close_sync_err, close_synced, close_settled}
use Rattle.nsi_disk.proofs.Moments.{told, at_told, sync_ok, sync_err, write_ok, write_err}
use Rattle.disk_journal.proofs.opening.close.Goals as goal

pub returns-in_err-write_at-clause-any_moment : goal.returns-in_err-write_at-clause-any_moment
returns-in_err-write_at-clause-any_moment g c =
    told _ (g.D.Disk.history c.args.disk.now) (λ h is.
    close_write_err h (at_told _ _ h is c.requires.rests) (at_told _ _ h is c.requires.short) _ (write_err _ _ _ (0 ∷ []) _ _ h is c.in_err-write_at.ensures.steps))

pub returns-in_err-sync-clause-any_moment : goal.returns-in_err-sync-clause-any_moment
returns-in_err-sync-clause-any_moment g c =
    told _ (g.D.Disk.history c.args.disk.now) (λ h is.
    let wrote = write_ok _ _ _ (0 ∷ []) _ _ h is c.in_ok-write_at.ensures.steps in
    close_sync_err h (at_told _ _ h is c.requires.rests) (at_told _ _ h is c.requires.short) _ (sync_err _ _ _ _ _ wrote c.in_err-sync.ensures.steps))

pub returns-clause-closed : goal.returns-clause-closed
returns-clause-closed g c =
    told _ (g.D.Disk.history c.args.disk.now) (λ h is.
    let wrote = write_ok _ _ _ (0 ∷ []) _ _ h is c.in_ok-write_at.ensures.steps in
    (_, sync_ok _ _ _ _ _ wrote c.in_ok-sync.ensures.steps, close_settled h (at_told _ _ h is c.requires.rests) (at_told _ _ h is c.requires.short)))

pub returns-clause-any_moment : goal.returns-clause-any_moment
returns-clause-any_moment g c =
    told _ (g.D.Disk.history c.args.disk.now) (λ h is.
    let wrote = write_ok _ _ _ (0 ∷ []) _ _ h is c.in_ok-write_at.ensures.steps in
    (_, sync_ok _ _ _ _ _ wrote c.in_ok-sync.ensures.steps, close_synced h (at_told _ _ h is c.requires.rests) (at_told _ _ h is c.requires.short)))
