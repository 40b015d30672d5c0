use Rattle.std.proofs.Common.{◌≡◌, ◌∙◌, refl, ap}
use Rattle.fault_lines.specs.Lines.{disk_fault_line}
use Rattle.race_command.specs.declared.ending.RaceEnd.{RaceEnd}
use Rattle.race_command.proofs.Racing.{both, came_apart, came_broken}
use Rattle.race_command.proofs.command.explained.Goals as goal

pub differ_lines-requires : goal.differ_lines-requires
differ_lines-requires g c = (rw c.in-Differ.is at c.requires.fault).told

pub returns-in_ok-text-in-Differ : goal.returns-in_ok-text-in-Differ
returns-in_ok-text-in-Differ g c = λ most. came_apart most c.args.contest.now.topology c.args.contest.now.provider c.args.contest.now.script _ c.in-Differ.difference _ (rw c.in-Differ.is at c.requires.fault) refl c.in_ok-text-in-Differ.ensures

pub returns-in-DiskFault : goal.returns-in-DiskFault
returns-in-DiskFault g c =
    let t = c.args.contest.now.topology in
    let p = c.args.contest.now.provider in
    λ most. both c.broken.result (λ o. o.end ≡ RaceEnd.DiskFault) (λ o. o.text.items ≡ disk_fault_line (c.name.result.now)) _
    (λ o end text. came_broken most t p c.args.contest.now.script _ o (rw c.in-DiskFault.is at c.requires.fault) end (text ∙ ap disk_fault_line c.name.ensures)) c.broken.ensures.end c.broken.ensures.text
