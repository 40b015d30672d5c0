use Rattle.std.proofs.Common.{◌<◌, ℕ, length, sym, subst}
use Rattle.stp_topology.specs.Sound.{IsProvider}
use Rattle.race_run.specs.Scripts.{AreAsks}
use Rattle.race_threads.specs.Raced.{IsRaced, HasFault}
use Rattle.race_command.proofs.Acts.{race_printable}
use Rattle.race_command.proofs.Racing.{as_asked}
use Rattle.race_command.proofs.command.race_disk.Goals as goal

pub race_of-race-requires : goal.race_of-race-requires
race_of-race-requires g c = c.requires.race.one

pub race-requires-clause-same : goal.race-requires-clause-same
race-requires-clause-same g c κs within = c.requires.same

pub race-requires-clause-within : goal.race-requires-clause-within
race-requires-clause-within g c κs within = subst (λ (n : ℕ). n < length c.args.contest.now.topology.agents) (sym c.race_of-race.ensures.provider) c.requires.within

pub race-requires-clause-provider : goal.race-requires-clause-provider
race-requires-clause-provider g c κs within = subst (IsProvider c.args.contest.now.topology) (sym c.race_of-race.ensures.provider) c.requires.provider

pub race-requires-clause-runs : goal.race-requires-clause-runs
race-requires-clause-runs g c κs within = c.requires.runs

pub race-requires-clause-counts : goal.race-requires-clause-counts
race-requires-clause-counts g c κs within = c.requires.counts

pub race-requires-clause-printable : goal.race-requires-clause-printable
race-requires-clause-printable g c κs within = subst AreAsks (sym c.race_of-race.ensures.acts) (race_printable c.args.contest.now.topology c.args.contest.now.provider c.args.contest.now.script c.requires.race)

pub ended_well-requires-clause-raced : goal.ended_well-requires-clause-raced
ended_well-requires-clause-raced g c =
    as_asked (λ p start acts. IsRaced c.args.contest.now.topology p start acts c.in-Ok.raced.book.book.events c.in-Ok.raced.committed) _ _ _ _ _ _ c.race_of-race.ensures.provider c.race_of-race.ensures.start c.race_of-race.ensures.acts c.in-Ok.ensures.raced

pub ended_badly-requires-clause-fault : goal.ended_badly-requires-clause-fault
ended_badly-requires-clause-fault g c =
    as_asked (λ p start acts. HasFault c.args.contest.now.topology p start acts (g.D.Disk.meter c.in-Err.fault.disk) c.in-Err.fault.cause) _ _ _ _ _ _ c.race_of-race.ensures.provider c.race_of-race.ensures.start c.race_of-race.ensures.acts c.in-Err.ensures.fault

pub ended_well-requires-clause-lines : goal.ended_well-requires-clause-lines
ended_well-requires-clause-lines g c = c.in-Ok.ensures.lines

pub ended_badly-requires-clause-within : goal.ended_badly-requires-clause-within
ended_badly-requires-clause-within g c = c.requires.within

pub returns-in-Ok : goal.returns-in-Ok
returns-in-Ok g c = c.ended_well.ensures

pub returns-in-Err : goal.returns-in-Err
returns-in-Err g c = c.ended_badly.ensures
