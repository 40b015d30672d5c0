use Rattle.nsi_agent.proofs.Telling.{telling_is_in_parts, clocks_rise, waiting_was_caused}
use Rattle.nsi_agent.proofs.SeenGot.{seen_was_got}
use Rattle.nsi_agent.proofs.laws.every_telling.Goals as goal

pub returns-clause-parts : goal.returns-clause-parts
returns-clause-parts c = telling_is_in_parts

pub returns-clause-clocks : goal.returns-clause-clocks
returns-clause-clocks c = clocks_rise

pub returns-clause-waiting : goal.returns-clause-waiting
returns-clause-waiting c = waiting_was_caused

pub returns-clause-seen : goal.returns-clause-seen
returns-clause-seen c = seen_was_got
