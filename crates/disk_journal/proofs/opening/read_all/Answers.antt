use Rattle.nsi_disk.specs.Disk.{Synced}
use Rattle.disk_journal.proofs.Begin.{idle_ok, idle_err, read_sync_err, read_later_err, read_synced}
use Rattle.nsi_disk.proofs.Moments.{told, sync_ok, sync_err}
use Rattle.disk_journal.proofs.opening.read_all.Goals as goal

pub returns-in_err-sync-clause-any_moment : goal.returns-in_err-sync-clause-any_moment
returns-in_err-sync-clause-any_moment g c = told _ (g.D.Disk.history c.args.disk.now) (λ h is. read_sync_err h _ (sync_err _ _ _ _ h is c.in_err-sync.ensures.steps))

pub returns-in_err-length-clause-any_moment : goal.returns-in_err-length-clause-any_moment
returns-in_err-length-clause-any_moment g c =
    told _ (g.D.Disk.history c.args.disk.now) (λ h is. read_later_err h _ (idle_err _ _ _ _ (Synced h) (sync_ok _ _ _ _ h is c.in_ok-sync.ensures.steps) c.in_err-length.ensures.steps))

pub returns-in_err-bytes-clause-any_moment : goal.returns-in_err-bytes-clause-any_moment
returns-in_err-bytes-clause-any_moment g c =
    told _ (g.D.Disk.history c.args.disk.now) (λ h is. (Synced h, idle_ok _ _ _ _ (Synced h) (sync_ok _ _ _ _ h is c.in_ok-sync.ensures.steps) c.in_ok-length.ensures.steps, read_synced h))

pub returns-in_err-read_at-clause-any_moment : goal.returns-in_err-read_at-clause-any_moment
returns-in_err-read_at-clause-any_moment g c =
    told _ (g.D.Disk.history c.args.disk.now) (λ h is.
    let after = idle_ok _ _ _ _ (Synced h) (sync_ok _ _ _ _ h is c.in_ok-sync.ensures.steps) c.in_ok-length.ensures.steps in
    read_later_err h _ (idle_err _ _ _ _ (Synced h) after c.in_err-read_at.ensures.steps))

pub returns-clause-any_moment : goal.returns-clause-any_moment
returns-clause-any_moment g c =
    told _ (g.D.Disk.history c.args.disk.now) (λ h is.
    let after = idle_ok _ _ _ _ (Synced h) (sync_ok _ _ _ _ h is c.in_ok-sync.ensures.steps) c.in_ok-length.ensures.steps in
    (Synced h, idle_ok _ _ _ _ (Synced h) after c.in_ok-read_at.ensures.steps, read_synced h))
