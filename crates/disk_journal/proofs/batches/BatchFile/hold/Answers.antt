use Rattle.std.proofs.Common.{◌≡◌, ℕ, ◌+◌, ◌≤◌, List, length, Some, arith, ◌∙◌, ap, rules}
use Rattle.disk_journal.specs.Batches.{framed}
use Rattle.nsi_disk.proofs.Moments.{told, at_told, write_ok, write_err, does}
use Rattle.disk_journal.proofs.Steps.{append_starts, append_gave_up, append_leaves, append_held}
use Rattle.disk_journal.proofs.batches.BatchFile.hold.Goals as goal

pub returns-in_err-piece-clause-any_moment : goal.returns-in_err-piece-clause-any_moment
returns-in_err-piece-clause-any_moment g c =
    told _ (g.D.Disk.history c.args.self.now.disk) (λ h is. (h, is, append_starts _ _ h (at_told _ _ h is c.requires.settled) (omega arith)))

pub returns-in_err-next-clause-any_moment : goal.returns-in_err-next-clause-any_moment
returns-in_err-next-clause-any_moment g c =
    told _ (g.D.Disk.history c.args.self.now.disk) (λ h is. (h, is, append_starts _ _ h (at_told _ _ h is c.requires.settled) (omega arith)))

pub returns-in_err-end-clause-any_moment : goal.returns-in_err-end-clause-any_moment
returns-in_err-end-clause-any_moment g c =
    told _ (g.D.Disk.history c.args.self.now.disk) (λ h is. (h, is, append_starts _ _ h (at_told _ _ h is c.requires.settled) (omega arith)))

pub returns-in_err-make_room-clause-any_moment : goal.returns-in_err-make_room-clause-any_moment
returns-in_err-make_room-clause-any_moment g c =
    told _ (g.D.Disk.history c.args.self.now.disk) (λ h is. (h, c.make_room.ensures.same ∙ is, append_starts _ _ h (at_told _ _ h is c.requires.settled) (omega arith)))

pub returns-in_err-write_at-clause-any_moment : goal.returns-in_err-write_at-clause-any_moment
returns-in_err-write_at-clause-any_moment g c =
    told _ (g.D.Disk.history c.args.self.now.disk) (λ h is.
    let s = at_told _ _ h is c.requires.settled in
    append_gave_up _ _ h s (omega arith) _ _ (write_err _ _ _ _ _ _ h (c.make_room.ensures.same ∙ is) c.in_err-write_at.ensures.steps))

pub returns-clause-any_moment : goal.returns-clause-any_moment
returns-clause-any_moment g c =
    told _ (g.D.Disk.history c.args.self.now.disk) (λ h is.
    let s = at_told _ _ h is c.requires.settled in
    (_, write_ok _ _ _ c.deref.result.now _ _ h (c.make_room.ensures.same ∙ is) c.in_ok-write_at.ensures.steps, append_leaves _ _ h s (omega arith) _ _))

piece_len : (n gate next : ℕ) (p piece : List ℕ) → n ≡ length piece → piece ≡ framed p → next ≡ gate + n → next ≡ gate + length (framed p)
piece_len n gate next p piece len is sum = omega (arith, len, ap length is, sum)

pub returns-clause-held : goal.returns-clause-held
returns-clause-held g c =
    told _ (g.D.Disk.history c.args.self.now.disk) (λ h is.
    let s = at_told _ _ h is c.requires.settled in
    let piece_is : c.deref.result.now ≡ framed c.args.payload.now = c.deref.ensures.value ∙ c.in_ok-piece.ensures.framed in
    let now = write_ok _ _ _ c.deref.result.now _ _ h (c.make_room.ensures.same ∙ is) c.in_ok-write_at.ensures.steps in
    let ends : c.in_ok-next.next ≡ c.args.self.now.gate + length (framed c.args.payload.now) = search rules in
    let grows : c.args.self.now.longest ≤ c.if-end-self.longest = search rules in
    let reach : c.in_ok-next.next + 1 ≤ c.if-end-self.longest = search rules in (
      _,
      now ∙ ap (λ (q : List ℕ). Some (does (c.args.self.now.gate + 1) q h)) piece_is,
      append_held _ _ h s (omega arith) c.args.payload.now c.in_ok-next.next c.if-end-self.longest ends grows reach,
    ))
