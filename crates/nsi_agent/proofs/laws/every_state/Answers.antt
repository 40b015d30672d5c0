use Rattle.nsi_agent.proofs.Staying.{blank_is_good, good_stays}
use Rattle.nsi_agent.proofs.laws.every_state.Goals as goal

pub returns-clause-blank : goal.returns-clause-blank
returns-clause-blank c =
    blank_is_good (record {
      first = c.every_run_safe.ensures.first;
      aggregator_begins = c.every_entry.ensures.blank;
      aggregator_goes_on = c.every_entry.ensures.good;
      requester_begins = c.every_entry-2.ensures.blank;
      requester_goes_on = c.every_entry-2.ensures.good;
    })

pub returns-clause-good : goal.returns-clause-good
returns-clause-good c =
    good_stays (record {
      first = c.every_run_safe.ensures.first;
      aggregator_begins = c.every_entry.ensures.blank;
      aggregator_goes_on = c.every_entry.ensures.good;
      requester_begins = c.every_entry-2.ensures.blank;
      requester_goes_on = c.every_entry-2.ensures.good;
    })
