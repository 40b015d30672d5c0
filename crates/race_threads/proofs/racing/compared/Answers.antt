use Rattle.std.proofs.Common.{subst, sym, List}
use Rattle.nsi_primitive.specs.declared.entry.Event.{Event}
use Rattle.race_judging.specs.declared.judging.Verdict.{Verdict}
use Rattle.race_judging.specs.Verdicts.{IsJudged, IsSame, IsDifferent}
use Rattle.race_run.specs.Replay.{MayAll}
use Rattle.provider_agent.specs.State.{blank}
use Rattle.race_threads.proofs.Weighing.{may_here, history_here, kept_agents, kept_stand, raced_of, differed, lines_of}
use Rattle.race_threads.proofs.racing.compared.Goals as goal

pub judge-requires-clause-may : goal.judge-requires-clause-may
judge-requires-clause-may g c =
    let book = c.args.book.now in
    subst (λ (xs : List Event). MayAll c.args.topology.now c.args.race.now.provider blank xs) (sym c.history.ensures) (may_here c.args.topology.now c.args.race.now.provider book c.facts.ensures c.requires.own)

pub judge-requires-clause-agents : goal.judge-requires-clause-agents
judge-requires-clause-agents g c = kept_agents c.args.topology.now c.args.race.now.provider c.args.race.now.start c.args.race.now.acts.now c.args.owns.now c.requires.kept

pub judge-requires-clause-stand : goal.judge-requires-clause-stand
judge-requires-clause-stand g c = kept_stand c.args.topology.now c.args.race.now.provider c.args.race.now.start c.args.race.now.acts.now c.args.owns.now c.requires.kept

pub returns-in-Ok-Same-clause-raced : goal.returns-in-Ok-Same-clause-raced
returns-in-Ok-Same-clause-raced g c =
    let t = c.args.topology.now in
    let race = c.args.race.now in
    let book = c.args.book.now in
    let judged : IsJudged t race.provider race.start c.history.result.now c.args.owns.now (Verdict.Same c.in-Ok-Same.committed) = rw c.in-Ok-Same.field-0-is at c.in-Ok-Same.ensures.judged in
    raced_of t race.provider race.start race.acts.now book.book.events c.args.owns.now c.in-Ok-Same.committed (history_here t race.provider book c.facts.ensures c.requires.own) (c.facts.ensures.synced c.requires.running) c.requires.kept
    (subst (λ (xs : List Event). IsSame t race.provider race.start xs c.args.owns.now c.in-Ok-Same.committed) c.history.ensures judged)

pub returns-in-Ok-Same-clause-lines : goal.returns-in-Ok-Same-clause-lines
returns-in-Ok-Same-clause-lines g c =
    let book = c.args.book.now in
    lines_of c.args.topology.now c.args.race.now.provider book.book.events c.requires.within (history_here c.args.topology.now c.args.race.now.provider book c.facts.ensures c.requires.own)

pub returns-in-Ok-Differs-clause-fault : goal.returns-in-Ok-Differs-clause-fault
returns-in-Ok-Differs-clause-fault g c =
    let t = c.args.topology.now in
    let race = c.args.race.now in
    let book = c.args.book.now in
    let judged : IsJudged t race.provider race.start c.history.result.now c.args.owns.now (Verdict.Differs c.in-Ok-Differs.difference) = rw c.in-Ok-Differs.field-0-is at c.in-Ok-Differs.ensures.judged in
    differed t race.provider race.start race.acts.now book.book.events c.args.owns.now c.in-Ok-Differs.difference (history_here t race.provider book c.facts.ensures c.requires.own) c.requires.kept c.requires.same
    (subst (λ (xs : List Event). IsDifferent t race.provider race.start xs c.args.owns.now c.in-Ok-Differs.difference) c.history.ensures judged)
