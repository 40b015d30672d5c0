use Rattle.std.proofs.Common.{◌≡◌, ◌∙◌, ℕ, Err, ap, subst, arith}
use Rattle.nsi_disk.specs.ShelfCounts.{Raised}
use Rattle.fault_lines.specs.Counts.{counted}
use Rattle.fault_lines.specs.Lines.{disk_fault_line}
use Rattle.race_command.specs.declared.ending.RaceEnd.{RaceEnd}
use Rattle.race_command.proofs.Racing.{both, given_back, not_fetched}
use Rattle.race_command.proofs.command.race_script.Goals as goal

pub race_disk-outcome-requires-clause-counts : goal.race_disk-outcome-requires-clause-counts
race_disk-outcome-requires-clause-counts g c = let h = c.in-Ok.ensures.counts in omega (arith, h.0, h.1)

pub returns-in-Ok : goal.returns-in-Ok
returns-in-Ok g c =
    let contest = c.args.contest.now in
    let meter = g.H.Disk.Disk.meter c.race_disk-outcome.result.1 in
    let before = counted 0 (g.H.Shelf.faults c.args.shelf.now) (g.H.Shelf.stops c.args.shelf.now) in
    let after = counted 0 (g.H.Shelf.faults c.give_back.new.self) (g.H.Shelf.stops c.give_back.new.self) in
    given_back c.args.means.now.most contest.topology contest.provider contest.script meter before after c.race_disk-outcome.result.0 c.race_disk-outcome.ensures
    (subst (λ (n : ℕ). Raised n meter.faults after.faults) c.in-Ok.ensures.quiet c.give_back.ensures.faults)
    (subst (λ (n : ℕ). Raised n meter.stops after.stops) c.fetch.ensures.stops c.give_back.ensures.stops)

pub returns-in-Err-Failed : goal.returns-in-Err-Failed
returns-in-Err-Failed g c =
    let t = c.args.contest.now.topology in
    let p = c.args.contest.now.provider in
    both c.broken.result (λ o. o.end ≡ RaceEnd.DiskFault) (λ o. o.text.items ≡ disk_fault_line c.in_ok-name.name) _
    (λ o end text. not_fetched c.args.means.now.most t p c.args.contest.now.script _ _ o (c.in-Err-Failed.ensures.failed (ap (λ e. Err e) c.in-Err-Failed.field-0-is)) end (text ∙ ap disk_fault_line (c.in_ok-name.ensures ∙ c.name.ensures)))
    c.broken.ensures.end c.broken.ensures.text
