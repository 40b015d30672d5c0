use Rattle.circuit_link.proofs.Reading.{link_stands, link_waits, link_in_step, link_commits}
use Rattle.circuit_link.proofs.laws.every_phase.Goals as goal

pub returns-clause-stands : goal.returns-clause-stands
returns-clause-stands c = link_stands

pub returns-clause-waits : goal.returns-clause-waits
returns-clause-waits c = link_waits

pub returns-clause-in_step : goal.returns-clause-in_step
returns-clause-in_step c = link_in_step

pub returns-clause-commits : goal.returns-clause-commits
returns-clause-commits c = link_commits
