use Rattle.std.proofs.Common.{rules, ◌≡◌, ap, subst, length, List}
use Rattle.provider_agent.specs.State.{blank}
use Rattle.race_run.specs.Found.{waits, state_gone}
use Rattle.race_judging.specs.Pairs.{Pair, first_ticks, second_of, committed_of}
use Rattle.race_judging.specs.Verdicts.{IsVerdict}
use Rattle.race_judging.proofs.Comparing.{pairs_same, judged_of}
use Rattle.race_judging.proofs.Telling.{each_stands, each_written}
use Rattle.race_judging.proofs.judging.judge_replayed.Goals as goal

pub judge_lists-requires-clause-written : goal.judge_lists-requires-clause-written
judge_lists-requires-clause-written c =
    let t = c.args.topology.now in
    let course = c.args.course.now in
    let first : c.items.result.now ≡ first_ticks course.provider course.start = search rules in
    let waiting : c.items-2.result.now ≡ waits course.provider (length course.history.now) (state_gone t course.provider blank course.history.now) = search rules in
    each_written t c.items.result.now c.items-2.result.now c.args.lists.now c.args.owns.now
    (each_stands t course.provider course.start (second_of course.start) course.history.now c.args.owns.now c.items.result.now c.items-2.result.now c.args.lists.now
    c.requires.within c.requires.may c.requires.stand first c.requires.lists waiting)

pub returns : goal.returns
returns c =
    let t = c.args.topology.now in
    let course = c.args.course.now in
    let first : c.items.result.now ≡ first_ticks course.provider course.start = search rules in
    let waiting : c.items-2.result.now ≡ waits course.provider (length course.history.now) (state_gone t course.provider blank course.history.now) = search rules in
    let records : c.records.result.now ≡ (state_gone t course.provider blank course.history.now).records = search rules in
    let each =
    each_stands t course.provider course.start (second_of course.start) course.history.now c.args.owns.now c.items.result.now c.items-2.result.now c.args.lists.now
    c.requires.within c.requires.may c.requires.stand first c.requires.lists waiting in
    let same = pairs_same t course.provider course.start course.history.now c.args.owns.now c.items.result.now c.items-2.result.now c.args.lists.now first c.requires.lists waiting in
    record {
      judged = judged_of t course.provider course.start course.history.now c.args.owns.now c.in_ok-told.told (committed_of c.records.result.now) c.verdict_of.result
          (subst (λ (pairs : List Pair). IsVerdict pairs c.in_ok-told.told) same c.in_ok-told.ensures.judged) (c.in_ok-told.ensures.told t each) (ap committed_of records) c.verdict_of.ensures;
    }
