use Rattle.std.proofs.Common.{◌≡◌, ℕ, ◌≤◌, ◌<◌, [], ◌∷◌, length, Option, IfSome, ◌∙◌, arith, rules}
use Rattle.nsi_disk.specs.Disk.{History, Synced, seen}
use Rattle.disk_journal.specs.Batches.{payloads, Waits}
use Rattle.nsi_disk.proofs.Moments.{told, at_told, sync_ok, sync_err, write_ok, write_err, reads_after_sync, reads_after_write, weaker}
use Rattle.disk_journal.proofs.Steps.{sync_gives_up, gate_gives_up, end_gives_up, end_leaves, end_grew, begins_long, stays_long}
use Rattle.disk_journal.proofs.batches.BatchFile.settle.Goals as goal

pub returns-in_err-sync-clause-any_moment : goal.returns-in_err-sync-clause-any_moment
returns-in_err-sync-clause-any_moment g c waits =
    told _ (g.D.Disk.history c.args.self.now.disk) (λ h is.
    let w = at_told _ (g.D.Disk.history c.args.self.now.disk) h is (c.requires.waits waits) in
    sync_gives_up _ _ _ h w (omega arith) _ (sync_err _ _ _ _ h is c.in_err-sync.ensures.steps))

pub write_at-requires : goal.write_at-requires
write_at-requires g c =
    reads_after_sync _ _ (λ d. c.args.self.now.gate ≤ length d) _ _
    (weaker _ _ (g.D.Disk.history c.args.self.now.disk) (λ h w. omega (arith, w.settled.place, begins_long (payloads h) (seen h) w.settled.reads)) (c.requires.waits (omega (arith, c.requires.none))))
    c.in_ok-sync.ensures.steps

pub returns-in_err-write_at-clause-any_moment : goal.returns-in_err-write_at-clause-any_moment
returns-in_err-write_at-clause-any_moment g c waits =
    told _ (g.D.Disk.history c.args.self.now.disk) (λ h is.
    let w = at_told _ (g.D.Disk.history c.args.self.now.disk) h is (c.requires.waits waits) in
    let after = sync_ok _ _ _ _ h is c.in_ok-sync.ensures.steps in
    gate_gives_up _ _ _ h w (omega arith) _ (write_err _ _ _ (1 ∷ []) _ _ (Synced h) after c.in_err-write_at.ensures.steps))

pub returns-in_err-sync-2-clause-any_moment : goal.returns-in_err-sync-2-clause-any_moment
returns-in_err-sync-2-clause-any_moment g c waits =
    told _ (g.D.Disk.history c.args.self.now.disk) (λ h is.
    let w = at_told _ (g.D.Disk.history c.args.self.now.disk) h is (c.requires.waits waits) in
    let after = sync_ok _ _ _ _ h is c.in_ok-sync.ensures.steps in
    let gone = write_ok _ _ _ (1 ∷ []) _ _ (Synced h) after c.in_ok-write_at.ensures.steps in
    end_gives_up _ _ _ h w (omega arith) _ (sync_err _ _ _ _ _ gone c.in_err-sync-2.ensures.steps))

pub returns-clause-any_moment : goal.returns-clause-any_moment
returns-clause-any_moment g c waits =
    told _ (g.D.Disk.history c.args.self.now.disk) (λ h is.
    let w = at_told _ (g.D.Disk.history c.args.self.now.disk) h is (c.requires.waits waits) in
    let after = sync_ok _ _ _ _ h is c.in_ok-sync.ensures.steps in
    let gone = write_ok _ _ _ (1 ∷ []) _ _ (Synced h) after c.in_ok-write_at.ensures.steps in
    (_, sync_ok _ _ _ _ _ gone c.in_ok-sync-2.ensures.steps, end_leaves _ _ _ h w (omega arith)))

pub returns-clause-synced : goal.returns-clause-synced
returns-clause-synced g c waits =
    told _ (g.D.Disk.history c.args.self.now.disk) (λ h is.
    let w = at_told _ (g.D.Disk.history c.args.self.now.disk) h is (c.requires.waits waits) in
    let after = sync_ok _ _ _ _ h is c.in_ok-sync.ensures.steps in
    let gone = write_ok _ _ _ (1 ∷ []) _ _ (Synced h) after c.in_ok-write_at.ensures.steps in
    (_, sync_ok _ _ _ _ _ gone c.in_ok-sync-2.ensures.steps, end_grew _ _ _ h w (omega arith)))

fits : (gate next longest longest' : ℕ) (o : Option History) → longest' ≡ longest → IfSome o (Waits gate next longest) → IfSome o (λ h. length (seen h) ≤ longest')
fits gate next longest longest' o same waits = weaker _ _ o (λ h w. omega (arith, w.settled.long, same)) waits

pub returns-in_err-sync-clause-room : goal.returns-in_err-sync-clause-room
returns-in_err-sync-clause-room g c waits room gone =
    (c.in_err-sync.ensures.room (record { calls = omega (arith, room.calls); reaches = omega arith; bytes = omega arith; long = fits _ _ _ _ (g.D.Disk.history c.args.self.now.disk) room.reach (c.requires.waits waits) })).given (search rules)

pub returns-in_err-write_at-clause-room : goal.returns-in_err-write_at-clause-room
returns-in_err-write_at-clause-room g c waits room gone =
    let first = c.in_ok-sync.ensures.room (record { calls = omega (arith, room.calls); reaches = omega arith; bytes = omega arith; long = fits _ _ _ _ (g.D.Disk.history c.args.self.now.disk) room.reach (c.requires.waits waits) }) in
    (c.in_err-write_at.ensures.room (record {
      calls = omega (arith, room.calls, first.calls);
      reaches = omega (arith, room.reach, room.inside, first.longest);
      bytes = omega (arith, room.bytes, first.bytes);
      long = reads_after_sync _ _ (λ d. length d ≤ (g.D.Disk.meter c.sync.new.self).longest) _ _
          (fits _ _ _ _ (g.D.Disk.history c.args.self.now.disk) (first.longest ∙ room.reach) (c.requires.waits waits))
          c.in_ok-sync.ensures.steps;
    })).given (search rules)

pub returns-in_err-sync-2-clause-room : goal.returns-in_err-sync-2-clause-room
returns-in_err-sync-2-clause-room g c waits room gone =
    let first = c.in_ok-sync.ensures.room (record { calls = omega (arith, room.calls); reaches = omega arith; bytes = omega arith; long = fits _ _ _ _ (g.D.Disk.history c.args.self.now.disk) room.reach (c.requires.waits waits) }) in
    let second = c.in_ok-write_at.ensures.room (record {
      calls = omega (arith, room.calls, first.calls);
      reaches = omega (arith, room.reach, room.inside, first.longest);
      bytes = omega (arith, room.bytes, first.bytes);
      long = reads_after_sync _ _ (λ d. length d ≤ (g.D.Disk.meter c.sync.new.self).longest) _ _
          (fits _ _ _ _ (g.D.Disk.history c.args.self.now.disk) (first.longest ∙ room.reach) (c.requires.waits waits))
          c.in_ok-sync.ensures.steps;
    }) in
    (c.in_err-sync-2.ensures.room (record {
      calls = omega (arith, room.calls, first.calls, second.calls);
      reaches = omega arith;
      bytes = omega arith;
      long = reads_after_write _ _ (λ d. (c.args.self.now.gate < length d) × (length d ≤ c.args.self.now.longest)) (λ d. length d ≤ (g.D.Disk.meter c.write_at.new.self).longest) c.args.self.now.gate (1 ∷ []) _ _
          (λ d p. omega (arith, stays_long c.args.self.now.gate (1 ∷ []) d c.args.self.now.longest (omega (arith, p.0)) p.1 (omega (arith, p.0, p.1)), room.reach, first.longest, second.longest))
          (reads_after_sync _ _ (λ d. (c.args.self.now.gate < length d) × (length d ≤ c.args.self.now.longest)) _ _
          (weaker _ _ (g.D.Disk.history c.args.self.now.disk) (λ h w. (omega (arith, w.settled.place, begins_long (payloads h) (seen h) w.settled.reads), w.settled.long)) (c.requires.waits waits))
          c.in_ok-sync.ensures.steps)
          c.in_ok-write_at.ensures.steps;
    })).given (search rules)
