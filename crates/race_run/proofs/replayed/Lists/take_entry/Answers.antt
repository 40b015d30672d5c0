use Rattle.std.proofs.Common.{rules, ◌≡◌, ◌∙◌}
use Rattle.race_run.proofs.Replaying.{next_is, next_out, adds_in}
use Rattle.race_run.proofs.replayed.Lists.take_entry.Goals as goal

pub returns-clause-state : goal.returns-clause-state
returns-clause-state c = next_is _ _ _ _ _ c.requires.own c.in_ok-out.ensures.state

pub returns-clause-adds : goal.returns-clause-adds
returns-clause-adds c =
    let same : c.deref.result.now ≡ c.in_ok-out.out.items = search rules in
    adds_in c.args.topology.now c.args.spot.now.provider c.args.spot.now.second c.args.spot.now.place c.args.provider.now.state c.args.entry.now _ _ c.owner-owner.result c.deref.result.now c.is_one_of_callers-is_asked.result c.in_ok-add.ensures c.owner-owner.ensures.owner
    (same ∙ next_out c.args.topology.now c.args.spot.now.provider c.args.provider.now c.in_ok-out.out.items c.args.entry.now c.requires.own c.in_ok-out.ensures.out)
    c.is_one_of_callers-is_asked.ensures
