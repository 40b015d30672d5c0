use Rattle.std.proofs.Common.{rules, ◌≡◌, length}
use Rattle.race_threads.proofs.Sitting.{can_serve, are_kept}
use Rattle.race_threads.proofs.callers.serve_all.Goals as goal

pub serve_each-requires-clause-callers : goal.serve_each-requires-clause-callers
serve_each-requires-clause-callers g c = λ _ _.
    can_serve c.args.door.now.topology.now c.args.race.now.provider c.args.race.now.start c.args.race.now.acts.now c.args.door.now.shared.now (length c.args.door.now.topology.now.agents) c.in_ok-callers.callers.items
    c.requires.provider c.requires.within c.requires.printable c.in_ok-callers.ensures.callers

pub returns : goal.returns
returns g c =
    let callers = c.in_ok-callers.callers.items in
    let len : length c.in_ok-results.results.items ≡ length callers = search rules in
    are_kept c.args.door.now.topology.now c.args.race.now.provider c.args.race.now.start c.args.race.now.acts.now c.args.door.now.shared.now callers c.in_ok-results.results.items c.in_ok-owns.owns.items
    c.in_ok-callers.ensures.callers c.in_ok-results.ensures.each c.in_ok-owns.ensures len
