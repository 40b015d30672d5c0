use Rattle.std.proofs.Common.{◌≡◌, ◌≤◌, ◌<◌, ◌++◌, ◌∙◌, List, length, All, refl, sym, ap, subst, arith}
use Rattle.nsi_primitive.specs.declared.entry.Event.{Event}
use Rattle.trace_text.specs.Lines.{HasLine, text_of}
use Rattle.fault_lines.specs.Lines.{long_line}
use Rattle.race_command.specs.Ends.{raced_line}
use Rattle.race_command.specs.declared.ending.RaceEnd.{RaceEnd}
use Rattle.race_command.proofs.Racing.{both, came, came_long}
use Rattle.race_command.proofs.command.told.Goals as goal

pub returns-then-get-events : goal.returns-then-get-events
returns-then-get-events g c =
    let t = c.args.contest.now.topology in
    let events = c.args.raced.now.book.book.events in
    let same : length c.history-events.result.now ≡ length events = ap (λ (es : List Event). length es) c.history-events.ensures in
    let many : c.args.most < length events = omega (arith, c.if-get-events.true, c.get.ensures.value, same) in
    λ meter. both c.too_long.result (λ o. o.end ≡ RaceEnd.Long) (λ o. o.text.items ≡ long_line) _
    (λ o end text. came_long c.args.most t c.args.contest.now.provider c.args.contest.now.script events c.args.raced.now.committed meter o c.requires.raced many end text) c.too_long.ensures.end c.too_long.ensures.text

pub race_text-requires : goal.race_text-requires
race_text-requires g c = subst (All (HasLine c.args.contest.now.topology)) (sym c.history-events.ensures) c.requires.lines

pub returns : goal.returns
returns g c =
    let t = c.args.contest.now.topology in
    let events = c.args.raced.now.book.book.events in
    let same : length c.history-events.result.now ≡ length events = ap (λ (es : List Event). length es) c.history-events.ensures in
    let few : length events ≤ c.args.most = omega (arith, c.if-get-events.false, c.get.ensures.value, same) in
    λ meter. came c.args.most t c.args.contest.now.provider c.args.contest.now.script events c.args.raced.now.committed meter _ c.requires.raced few refl
    (c.in_ok-text.ensures ∙ ap (λ (es : List Event). text_of t es ++ raced_line (length es) c.args.raced.now.committed) c.history-events.ensures)
