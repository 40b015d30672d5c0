use Rattle.run_growth.proofs.Roles.{entries_grow, entries_leave_all, is_always_good, records_rise}
use Rattle.run_growth.proofs.laws.every_agent.Goals as goal

pub returns-clause-grow : goal.returns-clause-grow
returns-clause-grow c = entries_grow

pub returns-clause-leave : goal.returns-clause-leave
returns-clause-leave c = entries_leave_all

pub returns-clause-good : goal.returns-clause-good
returns-clause-good c = is_always_good (record { blank = c.every_state.ensures.blank; good = c.every_state.ensures.good })

pub returns-clause-rise : goal.returns-clause-rise
returns-clause-rise c = records_rise (record { blank = c.every_state.ensures.blank; good = c.every_state.ensures.good })
