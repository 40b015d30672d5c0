use Rattle.race_threads.proofs.racing.run.Goals as goal

pub returns-in-Some-clause-same : goal.returns-in-Some-clause-same
returns-in-Some-clause-same g c = λ one running. c.run_alone.ensures.same one.few running

pub returns-in-Err-clause-same : goal.returns-in-Err-clause-same
returns-in-Err-clause-same g c = λ one running. tt

pub returns-clause-same : goal.returns-clause-same
returns-clause-same g c = λ one running. absurd (c.in_default.ensures.none one)
