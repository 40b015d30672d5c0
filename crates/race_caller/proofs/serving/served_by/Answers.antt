use Rattle.race_caller.proofs.Playing.{is_behind, own_if}
use Rattle.race_caller.proofs.Ending.{begins_asked, ends_own_if}
use Rattle.race_caller.proofs.serving.served_by.Goals as goal

pub hand_over-requires : goal.hand_over-requires
hand_over-requires g c = is_behind c.args.topology.now _ c.in_ok-asker.asker _ _ c.all_acts-played.ensures.played

pub returns-clause-own : goal.returns-clause-own
returns-clause-own g c =
    own_if c.args.topology.now c.args.call c.args.start c.args.acts.now c.in_ok-asker.asker _ _ _ c.in_ok-asker.ensures.call c.in_ok-asker.ensures.begun c.in_ok-asker.ensures.empty c.all_acts-played.ensures.played c.hand_over.ensures.hands

pub returns-clause-alone : goal.returns-clause-alone
returns-clause-alone g c = λ first b told ready.
    let x = c.in_ok-asker.asker in
    ends_own_if c.args.topology.now first c.args.call _ _ x _ _ _ c.in_ok-asker.ensures.call c.all_acts-played.ensures.played
    (c.all_acts-played.ensures.alone first b told (begins_asked c.args.topology.now first c.args.call c.args.start c.args.acts.now b x c.in_ok-asker.ensures.call c.in_ok-asker.ensures.begun c.in_ok-asker.ensures.empty ready)) c.hand_over.ensures.hands
